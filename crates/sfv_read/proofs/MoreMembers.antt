-- A Dictionary with one more member, and the ends of a member's text.
use Rattle.std.proofs.Common.{◌≡◌, ℤ, ◌≤◌, ℕ, Bool, true, false, ◌||◌, eqb, List, [], ◌∷◌, ◌++◌, length, codes, refl, sym, ap, subst, ◌∙◌, append_assoc, arith, inl, inr}
use Rattle.std.specs.Prelude.{reverse}
use Rattle.std.specs.List.{list_all, flat_map}
use Rattle.std.specs.Str.{byte}
use Rattle.std.proofs.lemmas.Bool.{eqb-true, false≢true}
use Rattle.std.proofs.lemmas.List.{append-nil, reverse-append}
use Rattle.base64.specs.Engines.{standard, standard_no_pad}
use Rattle.base64.specs.GeneralPurpose.{encode_of}
use Rattle.byte_grammar.specs.Classes.{is_blank, is_digit}
use Rattle.byte_grammar.specs.Language.{Each, IsFurther, IsWord, after_all, starts_in}
use Rattle.byte_grammar.proofs.Laws.{and_is}
use Rattle.sfv_text.specs.Keys.{put}
use Rattle.sfv_text.specs.Range.{is_dict_member_in_range, is_key_first, is_key_rest, is_token_first, is_token_rest}
use Rattle.sfv_text.specs.Strict.{character_text, dict_member_text}
use Rattle.sfv_text.specs.declared.pair.Pair.{Pair}
use Rattle.sfv_text.specs.declared.value.BareItem.{BareItem}
use Rattle.sfv_text.specs.declared.value.BareItem.TheVariants.{Integer, Decimal, Str, Token, Bytes, Bool as Boolean, Date, Display}
use Rattle.sfv_text.specs.declared.value.Member.{Member}
use Rattle.sfv_text.specs.declared.value.Member.TheVariants.{Item as ItemMember, InnerList as InnerMember}
use Rattle.sfv_read.specs.BareItem.{IsInteger, IsBareItem}
use Rattle.sfv_read.specs.Item.{IsKey, IsValue, IsParameter, AreParameters, put_pair, distinct_pairs}
use Rattle.sfv_read.specs.Member.{IsMember, IsDictValue, IsDictMember, IsComma, AreMembers}
use Rattle.sfv_read.specs.Reads.{ReadsDict}
use Rattle.sfv_read.proofs.StrictReads.{dict_member_reads}

-- ---- one more member

each_more : {V : Type 0} (L : List ℕ → V → Type 0) (text : List ℕ) (vs : List V) (last : List ℕ) (v : V) → Each L text vs → L last v → Each L (text ++ last) (vs ++ v ∷ [])
each_more L text [] last v none is = (last, [], ap (λ (t : List ℕ). t ++ last) none ∙ sym (append-nil last), is, refl)
each_more L text (w ∷ ws) last v h is = (h.0, h.1 ++ last, ap (λ (t : List ℕ). t ++ last) h.2 ∙ append_assoc h.0 h.1 last, h.3, each_more L h.1 ws last v h.4 is)

after_more : {S V : Type 0} (f : S → V → S) (s : S) (vs : List V) (v : V) → after_all f s (vs ++ v ∷ []) ≡ f (after_all f s vs) v
after_more f s [] v = refl
after_more f s (w ∷ ws) v = after_more f (f s w) ws v

members_more : {V : Type 0} (M : List ℕ → V → Type 0) (text : List ℕ) (vs : List V) (last : List ℕ) (v : V) → ¬ (vs ≡ []) → AreMembers M text vs → M last v
    → AreMembers M (text ++ (codes ", " ++ last)) (vs ++ v ∷ [])
members_more M text [] last v some h is = absurd (some refl)
members_more M text (w ∷ ws) last v some h is =
    let end = codes ", " ++ last in
    let further = h.after ++ end in
    record {
      before = h.before;
      members = h.members ++ further;
      after = [];
      joined = ap (λ (t : List ℕ). t ++ end) h.joined
          ∙ (append_assoc h.before (h.members ++ h.after) end ∙ ap (λ (t : List ℕ). h.before ++ t) (append_assoc h.members h.after end ∙ sym (append-nil (h.members ++ further))));
      spaces_before = h.spaces_before;
      blanks_after = refl;
      are_members = (
        h.are_members.0,
        h.are_members.1 ++ further,
        ap (λ (t : List ℕ). t ++ further) h.are_members.2 ∙ append_assoc h.are_members.0 h.are_members.1 further,
        h.are_members.3,
        each_more (IsFurther IsComma M) h.are_members.1 ws further v h.are_members.4 (record {
          separator = h.after ++ codes ", ";
          rest = last;
          joined = sym (append_assoc h.after (codes ", ") last);
          separates = record { before = h.after; after = codes " "; joined = refl; blanks_before = h.blanks_after; blanks_after = refl };
          spells = is;
        }),
      );
    }

pub dict_more_text : (text more : List ℕ) (dict : List (Pair Member)) (member : Pair Member) → ReadsDict text dict → ¬ (dict ≡ []) → IsDictMember more member
    → ReadsDict (text ++ (codes ", " ++ more)) (put dict member.key member.value)
dict_more_text text more dict member reads some is = (
  reads.0 ++ member ∷ [],
  members_more IsDictMember text reads.0 more member (λ none. some (reads.2 ∙ ap distinct_pairs none)) reads.1 is,
  ap (λ (ps : List (Pair Member)). put_pair ps member) reads.2 ∙ sym (after_more put_pair [] reads.0 member),
)

pub dict_more : (text : List ℕ) (dict : List (Pair Member)) (member : Pair Member) → ReadsDict text dict → ¬ (dict ≡ []) → is_dict_member_in_range member ≡ true
    → ReadsDict (text ++ (codes ", " ++ dict_member_text member)) (put dict member.key member.value)
dict_more text dict member reads some in_range = dict_more_text text (dict_member_text member) dict member reads some (dict_member_reads member in_range)

-- ---- the ends of texts

-- the last byte of the text is no blank
record EndsAnew (text : List ℕ) : Type 0 where
  front : List ℕ
  last : ℕ
  joined : text ≡ front ++ last ∷ []
  no_blank : is_blank last ≡ false

no_blank : (P : ℕ → Bool) → P (byte " ") ≡ false → P (byte "\t") ≡ false → (c : ℕ) → P c ≡ true → is_blank c ≡ false
no_blank P space tab c is = go (eqb c 32) (eqb c 9) refl refl
  where
    go : (a b : Bool) → eqb c 32 ≡ a → eqb c 9 ≡ b → (a || b) ≡ false
    go true b e f = absurd (false≢true (sym space ∙ ap P (sym (eqb-true c 32 e)) ∙ is))
    go false true e f = absurd (false≢true (sym tab ∙ ap P (sym (eqb-true c 9 f)) ∙ is))
    go false false e f = refl

ends_after : (a b : List ℕ) → EndsAnew b → EndsAnew (a ++ b)
ends_after a b e = record { front = a ++ e.front; last = e.last; joined = ap (λ (t : List ℕ). a ++ t) e.joined ∙ sym (append_assoc a e.front (e.last ∷ [])); no_blank = e.no_blank }

ends_same : (a b : List ℕ) → a ≡ b → EndsAnew b → EndsAnew a
ends_same a b same e = subst (λ (t : List ℕ). EndsAnew t) (sym same) e

ends_at : (c : ℕ) → is_blank c ≡ false → EndsAnew (c ∷ [])
ends_at c is = record { front = []; last = c; joined = refl; no_blank = is }

module _ (P : ℕ → Bool) (space : P (byte " ") ≡ false) (tab : P (byte "\t") ≡ false) where
  ends_in : (text : List ℕ) → list_all P text ≡ true → 1 ≤ length text → EndsAnew text
  ends_in [] all some = absurd (omega (arith, some))
  ends_in (c ∷ []) all some = ends_at c (no_blank P space tab c (and_is (P c) true all).0)
  ends_in (c ∷ d ∷ rest) all some = ends_after (c ∷ []) (d ∷ rest) (ends_in (d ∷ rest) (and_is (P c) (list_all P (d ∷ rest)) all).1 (omega arith))

  ends_word : (first : ℕ → Bool) → first (byte " ") ≡ false → first (byte "\t") ≡ false → (text word : List ℕ) → IsWord first P text word → EndsAnew text
  ends_word first space_no tab_no text [] h = absurd h
  ends_word first space_no tab_no text (c ∷ []) h = ends_same text (c ∷ []) h.0 (ends_at c (no_blank first space_no tab_no c h.1))
  ends_word first space_no tab_no text (c ∷ d ∷ rest) h = ends_same text (c ∷ d ∷ rest) h.0 (ends_after (c ∷ []) (d ∷ rest) (ends_in (d ∷ rest) h.2 (omega arith)))

ends_key : (text key : List ℕ) → IsKey text key → EndsAnew text
ends_key text key h = ends_word is_key_rest refl refl is_key_first refl refl text key h

ends_integer : (text : List ℕ) (z : ℤ) → IsInteger text z → EndsAnew text
ends_integer text z h = ends_same text (h.sign ++ h.digits) h.joined (ends_after h.sign h.digits (ends_in is_digit refl refl h.digits h.whole.passes h.whole.least))

ends_bare : (text : List ℕ) (v : BareItem) → IsBareItem text v → EndsAnew text
ends_bare text (Integer z) h = ends_integer text z h
ends_bare text (Decimal z) h =
    ends_same text (h.sign ++ (h.digits ++ byte "." ∷ h.part)) h.joined
    (ends_after h.sign (h.digits ++ byte "." ∷ h.part) (ends_after h.digits (byte "." ∷ h.part) (ends_after (codes ".") h.part (ends_in is_digit refl refl h.part h.fraction.passes h.fraction.least))))
ends_bare text (Str s) h = record { front = byte "\"" ∷ flat_map character_text s; last = byte "\""; joined = h.joined; no_blank = refl }
ends_bare text (Token t) h = ends_word is_token_rest refl refl is_token_first refl refl text t h
ends_bare text (Bytes b) h = elim h.joined [
  | inl is ↦ record { front = byte ":" ∷ encode_of standard b; last = byte ":"; joined = is; no_blank = refl }
  | inr is ↦ record { front = byte ":" ∷ encode_of standard_no_pad b; last = byte ":"; joined = is; no_blank = refl }
]
ends_bare text (Boolean false) h = record { front = codes "?"; last = byte "0"; joined = h; no_blank = refl }
ends_bare text (Boolean true) h = record { front = codes "?"; last = byte "1"; joined = h; no_blank = refl }
ends_bare text (Date z) h = ends_same text (codes "@" ++ h.number) h.joined (ends_after (codes "@") h.number (ends_integer h.number z h.is_number))
ends_bare text (Display b) h = record { front = codes "%\"" ++ h.inside; last = byte "\""; joined = h.joined; no_blank = refl }

ends_param : (text : List ℕ) (p : Pair BareItem) → IsParameter text p → EndsAnew text
ends_param text p h = ends_same text (byte ";" ∷ (h.spaces ++ (h.key ++ h.value))) h.joined (ends_after (codes ";") (h.spaces ++ (h.key ++ h.value)) (ends_after h.spaces (h.key ++ h.value) (ends h.is_value)))
  where
    ends : IsValue h.value p.value → EndsAnew (h.key ++ h.value)
    ends (inl given) = ends_after h.key h.value (ends_same h.value (byte "=" ∷ given.0) given.1 (ends_after (codes "=") given.0 (ends_bare given.0 p.value given.2)))
    ends (inr none) = ends_same (h.key ++ h.value) h.key (ap (λ (t : List ℕ). h.key ++ t) none.0 ∙ append-nil h.key) (ends_key h.key p.key h.is_key)

-- parameters after a text
ends_params : (front text : List ℕ) (ps : List (Pair BareItem)) → EndsAnew front → AreParameters text ps → EndsAnew (front ++ text)
ends_params front text [] e h = ends_same (front ++ text) front (ap (λ (t : List ℕ). front ++ t) h ∙ append-nil front) e
ends_params front text (p ∷ ps) e h =
    ends_same (front ++ text) ((front ++ h.0) ++ h.1) (ap (λ (t : List ℕ). front ++ t) h.2 ∙ sym (append_assoc front h.0 h.1))
    (ends_params (front ++ h.0) h.1 ps (ends_after front h.0 (ends_param h.0 p h.3)) h.4)

ends_member : (text : List ℕ) (v : Member) → IsMember text v → EndsAnew text
ends_member text (ItemMember item) h = ends_same text (h.bare ++ h.params) h.joined (ends_params h.bare h.params h.written (ends_bare h.bare item.bare h.is_bare) h.are_params)
ends_member text (InnerMember list) h =
    let close = codes ")" ++ h.params in
    let ends = ends_params (codes ")") h.params h.written (ends_at (byte ")") refl) h.are_params in
    ends_same text (codes "(" ++ (h.before ++ (h.items ++ (h.after ++ close)))) h.joined
    (ends_after (codes "(") (h.before ++ (h.items ++ (h.after ++ close))) (ends_after h.before (h.items ++ (h.after ++ close)) (ends_after h.items (h.after ++ close) (ends_after h.after close ends))))

ends_dict_member : (text : List ℕ) (p : Pair Member) → IsDictMember text p → EndsAnew text
ends_dict_member text p h = ends_same text (h.key ++ h.rest) h.joined (ends h.value)
  where
    ends : IsDictValue h.rest p.value → EndsAnew (h.key ++ h.rest)
    ends (inl given) = ends_after h.key h.rest (ends_same h.rest (byte "=" ∷ given.0) given.1 (ends_after (codes "=") given.0 (ends_member given.0 p.value given.2)))
    ends (inr params) = ends_params h.key h.rest params.0 (ends_key h.key p.key h.is_key) params.1

last_is : (text : List ℕ) → EndsAnew text → starts_in is_blank (reverse text) ≡ false
last_is text e = ap (λ (t : List ℕ). starts_in is_blank (reverse t)) e.joined ∙ ap (starts_in is_blank) (reverse-append e.front (e.last ∷ [])) ∙ e.no_blank

first_is : (text key rest : List ℕ) (word : List ℕ) → text ≡ key ++ rest → IsKey key word → starts_in is_blank text ≡ false
first_is text key rest [] same h = absurd h
first_is text key rest (c ∷ cs) same h = ap (starts_in is_blank) (same ∙ ap (λ (t : List ℕ). t ++ rest) h.0) ∙ no_blank is_key_first refl refl c h.1

-- the text of a member has no blank at either end
pub no_blank_ends : (text : List ℕ) (p : Pair Member) → IsDictMember text p → (starts_in is_blank text ≡ false) × (starts_in is_blank (reverse text) ≡ false)
no_blank_ends text p h = (first_is text h.key h.rest p.key h.joined h.is_key, last_is text (ends_dict_member text p h))

-- so has the strict text of one in range
pub strict_ends : (p : Pair Member) → is_dict_member_in_range p ≡ true → (starts_in is_blank (dict_member_text p) ≡ false) × (starts_in is_blank (reverse (dict_member_text p)) ≡ false)
strict_ends p in_range = no_blank_ends (dict_member_text p) p (dict_member_reads p in_range)
