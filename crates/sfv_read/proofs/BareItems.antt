-- A bare item that is read is one, and one is read.
use Rattle.std.proofs.Common.{◌≡◌, ℕ, ◌&&◌, ◌||◌, Bool, true, false, not, eqb, List, [], ◌∷◌, ◌++◌, Some, None, refl, sym, ap, subst, ◌∙◌, arith, inl, inr, ◌⊎◌}
use Rattle.std.specs.List.{list_all}
use Rattle.std.proofs.lemmas.Bool.{eqb-true}
use Rattle.std.proofs.lemmas.Bool.Decides.{nat_tests}
use Rattle.std.proofs.lemmas.List.{append-nil}
use Rattle.byte_grammar.specs.Language.{IsRun, IsWord}
use Rattle.byte_grammar.specs.tools.Languages.{Then, Mapped, Among, IsByte}
use Rattle.byte_grammar.specs.tools.Walks.{Next}
use Rattle.sfv_read.specs.BareItem.{IsString, IsBoolean, IsBareItem, IsByteSequence, IsDate, IsDisplayString}
use Rattle.sfv_read.specs.tools.BareWalk.{kind_of_bare_item, boolean_read, bare_item_by, bare_item_read}
use Rattle.sfv_text.specs.Range.{is_token_first, is_token_rest}
use Rattle.byte_grammar.specs.Classes.{is_digit, is_space}
use Rattle.sfv_read.specs.Class.{is_bit, is_minus, is_dot, is_quote, is_question}
use Rattle.sfv_text.specs.declared.value.BareItem.{BareItem}
use Rattle.sfv_text.specs.declared.value.BareItem.TheVariants.{Integer, Decimal, Str, Token, Bytes, Bool as Boolean, Date, Display}
use Rattle.sfv_read.specs.declared.bare.BareKind.{BareKind}
use Rattle.sfv_read.specs.declared.bare.BareKind.TheVariants.{Number as NumberKind, String as StringKind, Token as TokenKind, ByteSequence as ByteSequenceKind, Boolean as BooleanKind, Date as DateKind, DisplayString as DisplayStringKind}
use Rattle.byte_grammar.proofs.Laws.{Meets, meets_then, meets_same, meets_map, and_is, any_next}
use Rattle.byte_grammar.proofs.ChoiceLaws.{Starts, Heads, meets_pick, of_each}
use Rattle.byte_grammar.proofs.LeafLaws.{meets_byte, meets_word}
use Rattle.sfv_read.proofs.Numbers.{ends, End, IsNumber, meets_number}
use Rattle.sfv_read.proofs.Dates.{meets_date}
use Rattle.sfv_read.proofs.DisplayStrings.{meets_display_string}
use Rattle.sfv_read.proofs.Strings.{meets_string}
use Rattle.sfv_read.proofs.Base64Letters.{meets_bytes}

or_left : (a b : Bool) → a ≡ true → (a || b) ≡ true
or_left true b e = refl
or_left false b e = absurd cc

or_right : (a b : Bool) → b ≡ true → (a || b) ≡ true
or_right true b e = refl
or_right false b e = e

-- ---- truth

IsTruthItem : List ℕ → BareItem → Type 0
IsTruthItem x (Boolean b) = IsBoolean x b
IsTruthItem x other = ⊥

bit_is : (c : ℕ) → is_bit c ≡ true → (x : List ℕ) → x ≡ 63 ∷ c ∷ [] → IsBoolean x (eqb c 49)
bit_is c is x e = go (eqb c 48) (eqb c 49) refl refl is
  where
    go : (a b : Bool) → eqb c 48 ≡ a → eqb c 49 ≡ b → (a || b) ≡ true → IsBoolean x b
    go a true p q h = e ∙ ap (λ (c : ℕ). 63 ∷ c ∷ []) (eqb-true c 49 q)
    go true false p q h = e ∙ ap (λ (c : ℕ). 63 ∷ c ∷ []) (eqb-true c 48 p)
    go false false p q h = absurd cc

meets_truth : Meets IsTruthItem End boolean_read
unfolding boolean_read IsTruthItem
meets_truth =
    meets_same
    (meets_then (meets_byte is_question 63 refl (λ _ _. true)) (λ _. meets_map {G = λ _ _. true} (meets_byte is_bit 48 refl (λ _ _. true)) (λ c. Boolean (eqb c 49)) (λ v c h. h))
    (λ x u h. (48 ∷ [], Boolean false, (48, record { same = refl; passes = refl }, refl))) (λ u y v r h after. any_next (y ++ r)))
    (λ x v t. subst (λ (v : BareItem). IsTruthItem x v) t.more.2 (bit_is t.more.0 t.more.1.passes x (cc (t.joined, t.spells.same, eqb-true t.value 63 t.spells.passes, t.more.1.same))))
    from (λ v c h. refl)
  where
    of_bit : (c : ℕ) → is_bit c ≡ true → Then (IsByte is_question) (λ _. Mapped (λ c. Boolean (eqb c 49)) (IsByte is_bit)) (63 ∷ c ∷ []) (Boolean (eqb c 49))
    of_bit c is = record { first = 63 ∷ []; second = c ∷ []; value = 63; joined = refl; spells = record { same = refl; passes = refl }; more = (c, record { same = refl; passes = is }, refl) }

    from : (x : List ℕ) (v : BareItem) → IsTruthItem x v → Then (IsByte is_question) (λ _. Mapped (λ c. Boolean (eqb c 49)) (IsByte is_bit)) x v
    from x (Boolean true) h = subst (λ (x : List ℕ). Then (IsByte is_question) (λ _. Mapped (λ c. Boolean (eqb c 49)) (IsByte is_bit)) x (Boolean true)) (sym h) (of_bit 49 refl)
    from x (Boolean false) h = subst (λ (x : List ℕ). Then (IsByte is_question) (λ _. Mapped (λ c. Boolean (eqb c 49)) (IsByte is_bit)) x (Boolean false)) (sym h) (of_bit 48 refl)
    from x other h = absurd h

-- ---- bare items

BareBy : BareKind → List ℕ → BareItem → Type 0
BareBy NumberKind x v = IsNumber x v
BareBy StringKind x v = Mapped (λ s. Str s) IsString x v
BareBy ByteSequenceKind x v = Mapped (λ s. Bytes s) IsByteSequence x v
BareBy TokenKind x v = Mapped (λ s. Token s) (IsWord is_token_first is_token_rest) x v
BareBy BooleanKind x v = IsTruthItem x v
BareBy DateKind x v = Mapped (λ z. Date z) IsDate x v
BareBy DisplayStringKind x v = Mapped (λ b. Display b) IsDisplayString x v

bare_meets : (k : BareKind) → Meets (BareBy k) End (bare_item_by k)
unfolding BareBy
bare_meets NumberKind = meets_same meets_number (λ x v h. h) (λ x v h. h) (λ v c e. of_each (λ c. not (is_digit c) && not (is_dot c)) ends refl c e)
bare_meets StringKind = meets_map meets_string (λ s. Str s) (λ v c h. refl)
bare_meets TokenKind = meets_map (meets_word is_token_first is_token_rest 97 refl) (λ s. Token s) (λ v c e. of_each (λ c. not (is_token_rest c)) ends refl c e)
bare_meets ByteSequenceKind = meets_map meets_bytes (λ s. Bytes s) (λ v c h. refl)
bare_meets BooleanKind = meets_truth
bare_meets DateKind = meets_same meets_date (λ x v h. h) (λ x v h. h) (λ v c e. of_each (λ c. not (is_digit c)) ends refl c e)
bare_meets DisplayStringKind = meets_map meets_display_string (λ b. Display b) (λ v c h. refl)

number_kind : (c : ℕ) → (is_digit c || is_minus c) ≡ true → kind_of_bare_item c ≡ Some NumberKind
number_kind c is = rw is refl

token_kind : (c : ℕ) → is_token_first c ≡ true → kind_of_bare_item c ≡ Some TokenKind
token_kind c is =
    let digit : is_digit c ≡ false = grind (arith, nat_tests) in
    let minus : is_minus c ≡ false = grind (arith, nat_tests) in
    let quote : is_quote c ≡ false = grind (arith, nat_tests) in
    rw (digit, minus, quote, is) refl

by_starts : (P : ℕ → Bool) (k : BareKind) → ((c : ℕ) → P c ≡ true → kind_of_bare_item c ≡ Some k) → (x : List ℕ) → Starts P x → Heads kind_of_bare_item k x
by_starts P k sub [] h = absurd h
by_starts P k sub (c ∷ x) h = sub c h

pub word_starts : (P Q : ℕ → Bool) (x v : List ℕ) → IsWord P Q x v → Starts P x
word_starts P Q x [] h = absurd h
word_starts P Q x (c ∷ v) h = subst (λ (y : List ℕ). Starts P y) (sym h.0) h.1

signed_starts : (x sign digits others : List ℕ) (hi : ℕ) → IsRun is_minus 0 1 sign sign → IsRun is_digit 1 hi digits digits → x ≡ sign ++ (digits ++ others) → Starts (λ c. is_digit c || is_minus c) x
signed_starts x [] [] others hi m d e = absurd (omega (arith, d.least))
signed_starts x [] (c ∷ digits) others hi m d e = subst (λ (y : List ℕ). Starts (λ c. is_digit c || is_minus c) y) (sym e) (or_left (is_digit c) (is_minus c) (and_is (is_digit c) (list_all is_digit digits) d.passes).0)
signed_starts x (c ∷ sign) digits others hi m d e = subst (λ (y : List ℕ). Starts (λ c. is_digit c || is_minus c) y) (sym e) (or_right (is_digit c) (is_minus c) (and_is (is_minus c) (list_all is_minus sign) m.passes).0)

number_starts : (x : List ℕ) (v : BareItem) → IsNumber x v → Starts (λ c. is_digit c || is_minus c) x
number_starts x (Integer z) h = signed_starts x h.sign h.digits [] 15 h.minus h.whole (h.joined ∙ ap (λ (y : List ℕ). h.sign ++ y) (sym (append-nil h.digits)))
number_starts x (Decimal z) h = signed_starts x h.sign h.digits (46 ∷ h.part) 12 h.minus h.whole h.joined
number_starts x other h = absurd h

truth_starts : (x : List ℕ) (v : BareItem) → IsTruthItem x v → Starts is_question x
unfolding IsTruthItem
truth_starts x (Boolean true) h = subst (λ (y : List ℕ). Starts is_question y) (sym h) refl
truth_starts x (Boolean false) h = subst (λ (y : List ℕ). Starts is_question y) (sym h) refl
truth_starts x other h = absurd h

-- a Byte Sequence begins with a colon
sequence_heads : (x : List ℕ) {y z : List ℕ} → (x ≡ 58 ∷ y) ⊎ (x ≡ 58 ∷ z) → Heads kind_of_bare_item ByteSequenceKind x
sequence_heads x (inl e) = subst (λ (y : List ℕ). Heads kind_of_bare_item ByteSequenceKind y) (sym e) refl
sequence_heads x (inr e) = subst (λ (y : List ℕ). Heads kind_of_bare_item ByteSequenceKind y) (sym e) refl

bare_heads : (k : BareKind) (x : List ℕ) (v : BareItem) → BareBy k x v → Heads kind_of_bare_item k x
unfolding BareBy
bare_heads NumberKind x v h = by_starts (λ c. is_digit c || is_minus c) NumberKind number_kind x (number_starts x v h)
bare_heads StringKind x v h = subst (λ (y : List ℕ). Heads kind_of_bare_item StringKind y) (sym h.1.joined) refl
bare_heads TokenKind x v h = by_starts is_token_first TokenKind token_kind x (word_starts is_token_first is_token_rest x h.0 h.1)
bare_heads ByteSequenceKind x v h = sequence_heads x (h.1.joined)
bare_heads DateKind x v h = subst (λ (y : List ℕ). Heads kind_of_bare_item DateKind y) (sym h.1.joined) refl
bare_heads DisplayStringKind x v h = subst (λ (y : List ℕ). Heads kind_of_bare_item DisplayStringKind y) (sym h.1.joined) refl
bare_heads BooleanKind x v h = by_starts is_question BooleanKind (λ c is. ap kind_of_bare_item (eqb-true c 63 is)) x (truth_starts x v h)

to_bare : (k : BareKind) (x : List ℕ) (v : BareItem) → BareBy k x v → IsBareItem x v
unfolding BareBy IsTruthItem
to_bare NumberKind x (Integer z) h = h
to_bare NumberKind x (Decimal z) h = h
to_bare NumberKind x other h = absurd h
to_bare StringKind x v h = subst (λ (v : BareItem). IsBareItem x v) h.2 h.1
to_bare TokenKind x v h = subst (λ (v : BareItem). IsBareItem x v) h.2 h.1
to_bare ByteSequenceKind x v h = subst (λ (v : BareItem). IsBareItem x v) h.2 h.1
to_bare BooleanKind x (Boolean b) h = h
to_bare BooleanKind x other h = absurd h
to_bare DateKind x v h = subst (λ (v : BareItem). IsBareItem x v) h.2 h.1
to_bare DisplayStringKind x v h = subst (λ (v : BareItem). IsBareItem x v) h.2 h.1

from_bare : (x : List ℕ) (v : BareItem) → IsBareItem x v → Among BareBy x v
unfolding BareBy IsTruthItem
from_bare x (Integer z) h = (NumberKind, h)
from_bare x (Decimal z) h = (NumberKind, h)
from_bare x (Str s) h = (StringKind, (s, h, refl))
from_bare x (Token s) h = (TokenKind, (s, h, refl))
from_bare x (Bytes b) h = (ByteSequenceKind, (b, h, refl))
from_bare x (Boolean b) h = (BooleanKind, h)
from_bare x (Date z) h = (DateKind, (z, h, refl))
from_bare x (Display b) h = (DisplayStringKind, (b, h, refl))

pub boolean_some : IsBareItem (63 ∷ 49 ∷ []) (Boolean true)
boolean_some = refl

pub meets_bare : Meets IsBareItem End bare_item_read
unfolding bare_item_read
meets_bare =
    meets_same (meets_pick bare_meets bare_heads (63 ∷ 49 ∷ [], Boolean true, from_bare _ _ boolean_some))
    (λ x v h. to_bare h.0 x v h.1) from_bare (λ v c h. h)

-- ---- what a bare item begins with

pub bare_next : (P : ℕ → Bool) → ((k : BareKind) (c : ℕ) → kind_of_bare_item c ≡ Some k → P c ≡ true) → (x : List ℕ) (v : BareItem) (r : List ℕ) → IsBareItem x v → Next P (x ++ r)
bare_next P sub x v r h = let b = from_bare x v h in go b.0 x (bare_heads b.0 x v b.1)
  where
    go : (k : BareKind) (x : List ℕ) → Heads kind_of_bare_item k x → Next P (x ++ r)
    go k [] h = absurd h
    go k (c ∷ x) h = sub k c h

pub bare_starts : (P : ℕ → Bool) → ((k : BareKind) (c : ℕ) → kind_of_bare_item c ≡ Some k → P c ≡ true) → (x : List ℕ) (v : BareItem) → IsBareItem x v → Starts P x
bare_starts P sub x v h = let b = from_bare x v h in go b.0 x (bare_heads b.0 x v b.1)
  where
    go : (k : BareKind) (x : List ℕ) → Heads kind_of_bare_item k x → Starts P x
    go k [] h = absurd h
    go k (c ∷ x) h = sub k c h

pub none_some : {A : Type 0} (a : A) → None ≡ Some a → ⊥
none_some a e = cc

pub kind_blank : (k : BareKind) (c : ℕ) → kind_of_bare_item c ≡ Some k → not (is_space c) ≡ true
kind_blank k c e = go (is_space c) refl
  where
    go : (b : Bool) → is_space c ≡ b → not b ≡ true
    go true is = absurd (none_some k (ap kind_of_bare_item (sym (eqb-true c 32 is)) ∙ e))
    go false is = refl

pub kind_close : (k : BareKind) (c : ℕ) → kind_of_bare_item c ≡ Some k → not (eqb c 41) ≡ true
kind_close k c e = go (eqb c 41) refl
  where
    go : (b : Bool) → eqb c 41 ≡ b → not b ≡ true
    go true is = absurd (none_some k (ap kind_of_bare_item (sym (eqb-true c 41 is)) ∙ e))
    go false is = refl
