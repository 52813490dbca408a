-- The strict text of an Item or a List reads as the Dictionary that its own text reads as. What both
-- grammars have is a Token that is a key, and parameters.
use Rattle.std.proofs.Common.{◌≡◌, ℕ, ◌||◌, Bool, true, false, not, eqb, List, [], ◌∷◌, ◌++◌, Result, refl, sym, ap, subst, ◌∙◌, append_assoc, arith, inl, inr}
use Rattle.std.specs.Prelude.{⊤}
use Rattle.std.specs.List.{list_all}
use Rattle.std.specs.Str.{byte}
use Rattle.std.proofs.lemmas.Bool.{eqb-true, false≢true}
use Rattle.std.proofs.lemmas.Bool.Decides.{nat_tests}
use Rattle.std.proofs.lemmas.List.{append-nil}
use Rattle.std.proofs.lemmas.List.Folds.{list_all-append}
use Rattle.byte_grammar.specs.Classes.{is_blank, is_space, is_one_of}
use Rattle.byte_grammar.specs.Language.{Each, IsFurther, IsWord}
use Rattle.byte_grammar.specs.tools.Walks.{Next}
use Rattle.byte_grammar.proofs.ChoiceLaws.{Starts, of_each, starts_next}
use Rattle.byte_grammar.proofs.Laws.{Meets, and_is, ok_is}
use Rattle.byte_grammar.proofs.LeafLaws.{meets_all}
use Rattle.byte_grammar.proofs.ListLaws.{all_implied}
use Rattle.sfv_text.specs.Range.{is_key_first, is_key_rest, is_token_first, is_token_rest}
use Rattle.sfv_text.specs.Strict.{item_text, list_text}
use Rattle.sfv_text.specs.declared.pair.Pair.{Pair}
use Rattle.sfv_text.specs.declared.value.BareItem.{BareItem}
use Rattle.sfv_text.specs.declared.value.BareItem.TheVariants.{Token}
use Rattle.sfv_text.specs.declared.value.Item.{Item}
use Rattle.sfv_text.specs.declared.value.Member.{Member}
use Rattle.sfv_text.specs.declared.value.Member.TheVariants.{Item as ItemMember, InnerList as InnerMember}
use Rattle.sfv_read.specs.BareItem.{IsBareItem}
use Rattle.sfv_read.specs.Class.{is_equals, is_open}
use Rattle.sfv_read.specs.Item.{IsItem, IsKey, AreParameters, distinct_pairs}
use Rattle.sfv_read.specs.Laws.{ReadAlike, ReadsAsSameDict}
use Rattle.sfv_read.specs.Member.{IsMember, IsDictValue, IsDictMember, IsComma, AreMembers, AreSomeMembers, true_item}
use Rattle.sfv_read.specs.Reads.{ReadsItem, ReadsList, ReadsDict}
use Rattle.sfv_read.proofs.BareItems.{meets_bare, word_starts}
use Rattle.sfv_read.proofs.InRange.{item_read_in_range, list_read_in_range}
use Rattle.sfv_read.proofs.Items.{after_params, meets_params, params_next, starts_append}
use Rattle.sfv_read.proofs.Members.{after_ows, dict_member_starts, inner_starts, member_starts}
use Rattle.sfv_read.proofs.Numbers.{ends}
use Rattle.sfv_read.proofs.StrictReads.{item_text_reads, list_text_reads}

-- ---- one front of a text

-- a text begins in one way with what a reader reads
one_front : {V : Type 0} {L : List ℕ → V → Type 0} {F : V → ℕ → Bool} {p : List ℕ → Result (V × List ℕ) ℕ} → Meets L F p → (x r : List ℕ) (v : V) (y s : List ℕ) (w : V)
    → L x v → Next (F v) r → L y w → Next (F w) s → x ++ r ≡ y ++ s → (v ≡ w) × (r ≡ s)
one_front {V} {L} {F} {p} m x r v y s w h after k later e =
    let pair : (v, r) ≡ (w, s) = ok_is _ _ (sym (m.only x r v h after) ∙ (ap p e ∙ m.only y s w k later)) in
    (ap (λ (a : V × List ℕ). a.0) pair, ap (λ (a : V × List ℕ). a.1) pair)

-- bytes of a class, and what comes after them
after_front : (P : ℕ → Bool) (x r y s : List ℕ) → list_all P x ≡ true → Next (λ c. not (P c)) r → list_all P y ≡ true → Next (λ c. not (P c)) s → x ++ r ≡ y ++ s → r ≡ s
after_front P x r y s all after every later e =
    (one_front (meets_all P) x r x y s y (record { same = refl; passes = all }) after (record { same = refl; passes = every }) later e).1

-- texts that begin otherwise are others
begin_apart : (P Q : ℕ → Bool) → ((c : ℕ) → P c ≡ true → Q c ≡ true → ⊥) → (x r y s : List ℕ) → Starts P x → Starts Q y → x ++ r ≡ y ++ s → ⊥
begin_apart P Q never [] r y s h k e = absurd h
begin_apart P Q never (c ∷ x) r [] s h k e = absurd k
begin_apart P Q never (c ∷ x) r (d ∷ y) s h k e =
    let same : c ≡ d = cc in
    never d (subst (λ (n : ℕ). P n ≡ true) same h) k

word_same : (first others : ℕ → Bool) (text word : List ℕ) → IsWord first others text word → text ≡ word
word_same first others text [] h = absurd h
word_same first others text (c ∷ word) h = h.0

-- ---- keys are Tokens

token_first : (c : ℕ) → is_key_first c ≡ true → is_token_first c ≡ true
token_first c is = grind (arith, nat_tests)

token_rest : (c : ℕ) → is_key_rest c ≡ true → is_token_rest c ≡ true
token_rest c is = grind (arith, nat_tests)

key_token : (text key : List ℕ) → IsKey text key → IsBareItem text (Token key)
key_token text [] h = absurd h
key_token text (c ∷ key) h = (h.0, token_first c h.1, all_implied is_key_rest is_token_rest token_rest key h.2)

open_no_key : (c : ℕ) → is_open c ≡ true → is_key_first c ≡ true → ⊥
open_no_key c is key = false≢true (ap is_key_first (sym (eqb-true c 40 is)) ∙ key)

-- ---- one member

-- the pair is spelled by the texts of the member
abbrev IsSame : Member → Pair Member → Type 0
IsSame v p = (text : List ℕ) → IsMember text v → IsDictMember text p

abbrev Ends : List ℕ → Type 0
Ends r = Next (λ c. is_one_of after_params c) r

-- after a key something else comes
value_end : (rest s : List ℕ) (v : Member) → IsDictValue rest v → Ends s → Next (λ c. is_one_of ends c) (rest ++ s)
value_end rest s v (inl h) after = subst (λ (y : List ℕ). Next (λ c. is_one_of ends c) (y ++ s)) (sym h.1) refl
value_end rest s v (inr h) after = params_next (λ c. is_one_of ends c) refl (λ c e. of_each (λ c. is_one_of ends c) after_params refl c e) rest h.0 s h.1 after

-- the values of the parameters, where these are all that comes after the key
same_params : (params r rest s : List ℕ) (written : List (Pair BareItem)) (v : Member) → AreParameters params written → Ends r → IsDictValue rest v → Ends s → params ++ r ≡ rest ++ s
    → (v ≡ ItemMember (true_item (distinct_pairs written))) × (r ≡ s)
same_params params r rest s written v h after (inl given) later e =
    let other : Next (λ c. not (is_equals c)) (params ++ r) = params_next (λ c. not (is_equals c)) refl (λ c e. of_each (λ c. not (is_equals c)) after_params refl c e) params written r h after in
    absurd (false≢true (subst (λ (y : List ℕ). Next (λ c. not (is_equals c)) y) (e ∙ ap (λ (y : List ℕ). y ++ s) given.1) other))
same_params params r rest s written v h after (inr own) later e =
    let same = one_front meets_params params r written rest s own.0 h after own.1 later e in
    (own.2 ∙ ap (λ (ps : List (Pair BareItem)). ItemMember (true_item (distinct_pairs ps))) (sym same.0), same.1)

one_item : (m r : List ℕ) (item : Item) (n s : List ℕ) (p : Pair Member) → IsItem m item → Ends r → IsDictMember n p → Ends s → m ++ r ≡ n ++ s → IsSame (ItemMember item) p × (r ≡ s)
one_item m r item n s p h after k later e =
    let cut : h.bare ++ (h.params ++ r) ≡ k.key ++ (k.rest ++ s) =
    sym (append_assoc h.bare h.params r) ∙ (ap (λ (y : List ℕ). y ++ r) (sym h.joined) ∙ (e ∙ (ap (λ (y : List ℕ). y ++ s) k.joined ∙ append_assoc k.key k.rest s))) in
    let params_end = params_next (λ c. is_one_of ends c) refl (λ c e. of_each (λ c. is_one_of ends c) after_params refl c e) h.params h.written r h.are_params after in
    let front = one_front meets_bare h.bare (h.params ++ r) item.bare k.key (k.rest ++ s) (Token p.key) h.is_bare params_end (key_token k.key p.key k.is_key) (value_end k.rest s p.value k.value later) cut in
    let value = same_params h.params r k.rest s h.written p.value h.are_params after k.value later front.1 in (
      λ text is.
          let token : IsBareItem is.bare (Token p.key) = subst (λ (b : BareItem). IsBareItem is.bare b) front.0 is.is_bare in
          let same : k.key ≡ is.bare = word_same is_key_first is_key_rest k.key p.key k.is_key ∙ sym (word_same is_token_first is_token_rest is.bare p.key token) in
          record {
            key = is.bare;
            rest = is.params;
            joined = is.joined;
            is_key = subst (λ (y : List ℕ). IsKey y p.key) same k.is_key;
            value = inr (is.written, is.are_params, value.0 ∙ ap (λ (ps : List (Pair BareItem)). ItemMember (true_item ps)) (sym h.are_distinct ∙ is.are_distinct));
          },
      value.1,
    )

one_member : (m r : List ℕ) (v : Member) (n s : List ℕ) (p : Pair Member) → IsMember m v → Ends r → IsDictMember n p → Ends s → m ++ r ≡ n ++ s → IsSame v p × (r ≡ s)
one_member m r (ItemMember item) n s p h after k later e = one_item m r item n s p h after k later e
one_member m r (InnerMember list) n s p h after k later e =
    absurd (begin_apart is_open is_key_first open_no_key m r n s (inner_starts is_open refl m list h)
    (subst (λ (y : List ℕ). Starts is_key_first y) (sym k.joined) (starts_append is_key_first k.key k.rest (word_starts is_key_first is_key_rest k.key p.key k.is_key))) e)

-- ---- further members

module _ {V : Type 0} (M : List ℕ → V → Type 0) where
  -- what comes after a member
  each_ends : (y : List ℕ) (vs : List V) (a : List ℕ) → Each (IsFurther IsComma M) y vs → list_all is_blank a ≡ true → Ends (y ++ a)
  each_ends y [] a h blanks = subst (λ (y : List ℕ). Ends (y ++ a)) (sym h) (blanks_end a blanks)
    where
      blanks_end : (a : List ℕ) → list_all is_blank a ≡ true → Ends a
      blanks_end [] blanks = tt
      blanks_end (c ∷ a) blanks = after_ows c (and_is (is_blank c) (list_all is_blank a) blanks).0
  each_ends y (v ∷ vs) a h blanks =
      subst (λ (y : List ℕ). Ends (y ++ a)) (sym (h.2 ∙ (ap (λ (x : List ℕ). x ++ h.1) (h.3.joined ∙ ap (λ (x : List ℕ). x ++ h.3.rest) h.3.separates.joined))))
      (comma_ends h.3.separates.before h.3.separates.blanks_before)
    where
      comma_ends : (b : List ℕ) → list_all is_blank b ≡ true → Ends ((((b ++ byte "," ∷ h.3.separates.after) ++ h.3.rest) ++ h.1) ++ a)
      comma_ends [] blanks = refl
      comma_ends (c ∷ b) blanks = after_ows c (and_is (is_blank c) (list_all is_blank b) blanks).0

  -- a further member by its parts, before a text
  further_parts : (x : List ℕ) (v : V) (t : List ℕ) (f : IsFurther IsComma M x v) → x ++ t ≡ f.separates.before ++ byte "," ∷ (f.separates.after ++ (f.rest ++ t))
  further_parts x v t f =
      let comma = f.separates in
      ap (λ (y : List ℕ). y ++ t) f.joined
      ∙ (append_assoc f.separator f.rest t
      ∙ (ap (λ (y : List ℕ). y ++ (f.rest ++ t)) comma.joined ∙ append_assoc comma.before (byte "," ∷ comma.after) (f.rest ++ t)))

  each_parts : (y : List ℕ) (v : V) (vs : List V) (a : List ℕ) (h : Each (IsFurther IsComma M) y (v ∷ vs))
      → y ++ a ≡ h.3.separates.before ++ byte "," ∷ (h.3.separates.after ++ (h.3.rest ++ (h.1 ++ a)))
  each_parts y v vs a h = ap (λ (y : List ℕ). y ++ a) h.2 ∙ (append_assoc h.0 h.1 a ∙ further_parts h.0 v (h.1 ++ a) h.3)

  -- blanks have no comma
  no_further : (y : List ℕ) (v : V) (vs : List V) (a b : List ℕ) → Each (IsFurther IsComma M) y (v ∷ vs) → list_all is_blank b ≡ true → b ≡ y ++ a → ⊥
  no_further y v vs a b h blanks e =
      let before = h.3.separates.before in
      let rest = h.3.separates.after ++ (h.3.rest ++ (h.1 ++ a)) in
      let all : list_all is_blank (before ++ byte "," ∷ rest) ≡ true = ap (list_all is_blank) (sym (e ∙ each_parts y v vs a h)) ∙ blanks in
      false≢true (and_is (list_all is_blank before) (list_all is_blank (byte "," ∷ rest)) (sym (list_all-append is_blank before (byte "," ∷ rest)) ∙ all)).1

-- the pairs are spelled by the texts of the members
AreSame : List Member → List (Pair Member) → Type 0
AreSame [] [] = ⊤
AreSame [] (p ∷ ps) = ⊥
AreSame (v ∷ vs) [] = ⊥
AreSame (v ∷ vs) (p ∷ ps) = IsSame v p × AreSame vs ps

abbrev not_blank : ℕ → Bool
not_blank c = not (is_blank c)

further_same : (x : List ℕ) (vs : List Member) (a y : List ℕ) (ps : List (Pair Member)) (b : List ℕ)
    → Each (IsFurther IsComma IsMember) x vs → list_all is_blank a ≡ true → Each (IsFurther IsComma IsDictMember) y ps → list_all is_blank b ≡ true → x ++ a ≡ y ++ b → AreSame vs ps
unfolding AreSame
further_same x [] a y [] b h blanks k others e = tt
further_same x [] a y (p ∷ ps) b h blanks k others e = absurd (no_further IsDictMember y p ps b a k blanks (ap (λ (t : List ℕ). t ++ a) (sym h) ∙ e))
further_same x (v ∷ vs) a y [] b h blanks k others e = absurd (no_further IsMember x v vs a b h others (ap (λ (t : List ℕ). t ++ b) (sym k) ∙ sym e))
further_same x (v ∷ vs) a y (p ∷ ps) b h blanks k others e =
    let f = h.3 in
    let g = k.3 in
    let more = f.separates.after ++ (f.rest ++ (h.1 ++ a)) in
    let last = g.separates.after ++ (g.rest ++ (k.1 ++ b)) in
    let parts : f.separates.before ++ byte "," ∷ more ≡ g.separates.before ++ byte "," ∷ last = sym (each_parts IsMember x v vs a h) ∙ (e ∙ each_parts IsDictMember y p ps b k) in
    let commas : byte "," ∷ more ≡ byte "," ∷ last = after_front is_blank f.separates.before (byte "," ∷ more) g.separates.before (byte "," ∷ last) f.separates.blanks_before refl g.separates.blanks_before refl parts in
    let later : more ≡ last = cc in
    let fronts : f.rest ++ (h.1 ++ a) ≡ g.rest ++ (k.1 ++ b) =
    after_front is_blank f.separates.after (f.rest ++ (h.1 ++ a)) g.separates.after (g.rest ++ (k.1 ++ b))
    f.separates.blanks_after (starts_next not_blank not_blank (λ c h. h) f.rest (h.1 ++ a) (member_starts f.rest v f.spells))
    g.separates.blanks_after (starts_next not_blank not_blank (λ c h. h) g.rest (k.1 ++ b) (dict_member_starts g.rest p g.spells)) later in
    let one = one_member f.rest (h.1 ++ a) v g.rest (k.1 ++ b) p f.spells (each_ends IsMember h.1 vs a h.4 blanks) g.spells (each_ends IsDictMember k.1 ps b k.4 others) fronts in
    (one.0, further_same h.1 vs a k.1 ps b h.4 blanks k.4 others one.1)

-- ---- Lists and Dictionaries

not_space : (c : ℕ) → not (is_blank c) ≡ true → not (is_space c) ≡ true
not_space c h = go (eqb c 32) (eqb c 9) h
  where
    go : (a b : Bool) → not (a || b) ≡ true → not a ≡ true
    go true b h = absurd (cc (h))
    go false b h = refl

module _ {V : Type 0} (M : List ℕ → V → Type 0) where
  -- the members by their parts
  list_parts : (text : List ℕ) (v : V) (vs : List V) (h : AreSomeMembers M text (v ∷ vs)) → text ≡ h.before ++ (h.are_members.0 ++ (h.are_members.1 ++ h.after))
  list_parts text v vs h =
      h.joined ∙ ap (λ (y : List ℕ). h.before ++ y) (ap (λ (y : List ℕ). y ++ h.after) h.are_members.2 ∙ append_assoc h.are_members.0 h.are_members.1 h.after)

  -- they are more than spaces
  no_spaces : (begins : (x : List ℕ) (v : V) → M x v → Starts (λ c. not (is_blank c)) x) (text : List ℕ) (v : V) (vs : List V) → AreSomeMembers M text (v ∷ vs) → list_all is_space text ≡ true → ⊥
  no_spaces begins text v vs h spaces =
      let first = h.are_members.0 in
      let rest = h.are_members.1 ++ h.after in
      let starts = begins first v h.are_members.3 in
      let empty : [] ≡ first ++ rest =
      after_front is_space text [] h.before (first ++ rest) spaces tt h.spaces_before (starts_next not_blank (λ c. not (is_space c)) not_space first rest starts) (append-nil text ∙ list_parts text v vs h) in
      none first starts empty
    where
      none : (first : List ℕ) → Starts (λ c. not (is_blank c)) first → [] ≡ first ++ (h.are_members.1 ++ h.after) → ⊥
      none [] starts e = absurd starts
      none (c ∷ first) starts e = absurd (cc e)

lists_same : (text : List ℕ) (vs : List Member) (ps : List (Pair Member)) → AreMembers IsMember text vs → AreMembers IsDictMember text ps → AreSame vs ps
unfolding AreSame
lists_same text [] [] h k = tt
lists_same text [] (p ∷ ps) h k = absurd (no_spaces IsDictMember dict_member_starts text p ps k h)
lists_same text (v ∷ vs) [] h k = absurd (no_spaces IsMember member_starts text v vs h k)
lists_same text (v ∷ vs) (p ∷ ps) h k =
    let first = h.are_members.0 in
    let rest = h.are_members.1 ++ h.after in
    let other = k.are_members.0 in
    let more = k.are_members.1 ++ k.after in
    let fronts : first ++ rest ≡ other ++ more =
    after_front is_space h.before (first ++ rest) k.before (other ++ more)
    h.spaces_before (starts_next not_blank (λ c. not (is_space c)) not_space first rest (member_starts first v h.are_members.3))
    k.spaces_before (starts_next not_blank (λ c. not (is_space c)) not_space other more (dict_member_starts other p k.are_members.3))
    (sym (list_parts IsMember text v vs h) ∙ list_parts IsDictMember text p ps k) in
    let one = one_member first rest v other more p h.are_members.3 (each_ends IsMember h.are_members.1 vs h.after h.are_members.4 h.blanks_after)
    k.are_members.3 (each_ends IsDictMember k.are_members.1 ps k.after k.are_members.4 k.blanks_after) fronts in
    (one.0, further_same h.are_members.1 vs h.after k.are_members.1 ps k.after h.are_members.4 h.blanks_after k.are_members.4 k.blanks_after one.1)

each_same : (text : List ℕ) (vs : List Member) (ps : List (Pair Member)) → AreSame vs ps → Each (IsFurther IsComma IsMember) text vs → Each (IsFurther IsComma IsDictMember) text ps
unfolding AreSame
each_same text [] [] same h = h
each_same text [] (p ∷ ps) same h = absurd same
each_same text (v ∷ vs) [] same h = absurd same
each_same text (v ∷ vs) (p ∷ ps) same h = (
  h.0,
  h.1,
  h.2,
  record { separator = h.3.separator; rest = h.3.rest; joined = h.3.joined; separates = h.3.separates; spells = same.0 h.3.rest h.3.spells },
  each_same h.1 vs ps same.1 h.4,
)

members_same : (text : List ℕ) (vs : List Member) (ps : List (Pair Member)) → AreSame vs ps → AreMembers IsMember text vs → AreMembers IsDictMember text ps
unfolding AreSame
members_same text [] [] same h = h
members_same text [] (p ∷ ps) same h = absurd same
members_same text (v ∷ vs) [] same h = absurd same
members_same text (v ∷ vs) (p ∷ ps) same h =
    let members = h.are_members in
    record {
      before = h.before;
      members = h.members;
      after = h.after;
      joined = h.joined;
      spaces_before = h.spaces_before;
      blanks_after = h.blanks_after;
      are_members = (members.0, members.1, members.2, same.0 members.0 members.3, each_same members.1 vs ps same.1 members.4);
    }

-- ---- the laws

-- texts of one List read as the same Dictionary
dict_of_list : (text other : List ℕ) (list : List Member) (dict : List (Pair Member)) → ReadsList text list → ReadsList other list → ReadsDict text dict → ReadsDict other dict
dict_of_list text other list dict h k reads = (reads.0, members_same other list reads.0 (lists_same text list reads.0 h reads.1) k, reads.2)

read_alike : (text other : List ℕ) (list : List Member) → ReadsList text list → ReadsList other list → ReadAlike text other
read_alike text other list h k dict = (dict_of_list text other list dict h k, dict_of_list other text list dict k h)

blank_where : (c : ℕ) → is_space c ≡ true → is_blank c ≡ true
blank_where c is = rw is refl

-- an Item is a List of one member
list_of_item : (text : List ℕ) (item : Item) → ReadsItem text item → ReadsList text (ItemMember item ∷ [])
list_of_item text item h = record {
  before = h.before;
  members = h.middle;
  after = h.after;
  joined = h.joined;
  spaces_before = h.class_before;
  blanks_after = all_implied is_space is_blank blank_where h.after h.class_after;
  are_members = (h.middle, [], sym (append-nil h.middle), h.spells, refl);
}

pub reads_as_same_dict : ReadsAsSameDict
reads_as_same_dict = record {
  item = λ text item h.
      let back = item_text_reads item (item_read_in_range text item h) in
      read_alike text (item_text item) (ItemMember item ∷ []) (list_of_item text item h) (list_of_item (item_text item) item back);
  list = λ text list h. read_alike text (list_text list) list h (list_text_reads list (list_read_in_range text list h));
}
