-- Digests are those of the content, or have one fault.
use Rattle.std.proofs.Common.{◌≡◌, ◌≢◌, ◌⊎◌, ◌<◌, ℕ, suc, Bool, true, false, ◌&&◌, ◌||◌, not, Option, Some, None, List, [], ◌∷◌, take, refl, sym, ap, subst, ◌∙◌, arith, inl, inr}
use Rattle.std.specs.Prelude.{is_some, slice_get, IsSomeAnd}
use Rattle.std.specs.List.{list_all, list_any}
use Rattle.std.proofs.lemmas.Bool.{false≢true, cases_Bool, cases_order}
use Rattle.std.proofs.lemmas.Slice.Eq.{bytes_eq-Decides}
use Rattle.byte_grammar.proofs.CauseLaws.{first_is_one}
use Rattle.byte_grammar.proofs.Indices.{some_and, some_and_parts, all_at, slice_get_take}
use Rattle.byte_grammar.proofs.ListLaws.{all_implied}
use Rattle.byte_grammar.specs.tools.Determined.{AreDetermined}
use Rattle.sfv_text.specs.declared.pair.Pair.{Pair}
use Rattle.sfv_text.specs.declared.value.Member.{Member}
use Rattle.sfv_read.specs.Reads.{ReadsDict}
use Rattle.sfv_read.proofs.Readings.{dict_has_one_value, dict_is_decided}
use Rattle.content_digest.specs.declared.algorithm.Algorithm.{Algorithm}
use Rattle.content_digest.specs.declared.fault.DigestFault.{DigestFault}
use Rattle.content_digest.specs.declared.fault.DigestFault.TheVariants.{Memory, Malformed, NoneKnown, Mismatch}
use Rattle.content_digest.specs.Algorithms.{algorithm_of, digest_by}
use Rattle.sfv_text.specs.Parts.{byte_sequence_in}
use Rattle.content_digest.specs.Digests.{DigestHolds, is_digest, is_known, is_sound, agrees}
use Rattle.content_digest.specs.Faults.{Differs, IsMismatch, IsDigestCause, IsDigestFault, digest_order}
use Rattle.content_digest.specs.Laws.{HasDigestAnswer, NoFaultWhereHolds, OneDigestFault}

-- ---- one member

some_is : {X : Type 0} (x y : X) → Some x ≡ Some y → x ≡ y
some_is x y e = cc

digest_is_sound : (content : List ℕ) (algorithm : Option Algorithm) (bytes : Option (List ℕ)) → is_digest content algorithm bytes ≡ true → (not (is_some algorithm) || is_some bytes) ≡ true
digest_is_sound content None bytes is = refl
digest_is_sound content (Some algorithm) None is = absurd (false≢true is)
digest_is_sound content (Some algorithm) (Some bytes) is = refl

agreed_is_sound : (content : List ℕ) (member : Pair Member) → agrees content member ≡ true → is_sound member ≡ true
agreed_is_sound content member is = digest_is_sound content (algorithm_of member.key) (byte_sequence_in member.value) is

-- a member that differs doesn't agree
not_agreed : (content : List ℕ) (member : Pair Member) (algorithm : Algorithm) (kept computed : List ℕ) → Differs content member algorithm kept computed → ¬ (agrees content member ≡ true)
not_agreed content member algorithm kept computed differs is =
    let both : is_digest content (Some algorithm) (Some kept) ≡ true = subst (λ (a : Option Algorithm). is_digest content a (Some kept) ≡ true) differs.algorithm_is
    (subst (λ (d : Option (List ℕ)). is_digest content (algorithm_of member.key) d ≡ true) differs.kept_is is) in
    differs.apart ((bytes_eq-Decides kept (digest_by algorithm content)).0 both ∙ sym differs.computed_is)

record Apart (content : List ℕ) (algorithm : Option Algorithm) (bytes : Option (List ℕ)) : Type 0 where
  known : Algorithm
  kept : List ℕ
  known_is : algorithm ≡ Some known
  kept_is : bytes ≡ Some kept
  apart : kept ≢ digest_by known content

apart_where : (content : List ℕ) (algorithm : Option Algorithm) (bytes : Option (List ℕ)) → is_digest content algorithm bytes ≡ false → (not (is_some algorithm) || is_some bytes) ≡ true
    → Apart content algorithm bytes
apart_where content None bytes other sound = absurd (false≢true (sym other))
apart_where content (Some algorithm) None other sound = absurd (false≢true sound)
apart_where content (Some algorithm) (Some bytes) other sound =
    record { known = algorithm; kept = bytes; known_is = refl; kept_is = refl; apart = λ same. false≢true (sym other ∙ (bytes_eq-Decides bytes (digest_by algorithm content)).1 same) }

-- a member of a known algorithm that is sound and doesn't agree differs
differs_where : (content : List ℕ) (member : Pair Member) → agrees content member ≡ false → is_sound member ≡ true
    → (algorithm : Algorithm) × (kept : List ℕ) × Differs content member algorithm kept (digest_by algorithm content)
differs_where content member other sound =
    let parts = apart_where content (algorithm_of member.key) (byte_sequence_in member.value) other sound in
    (parts.known, parts.kept, record { algorithm_is = parts.known_is; kept_is = parts.kept_is; computed_is = refl; apart = parts.apart })

-- ---- the first that doesn't agree

record Failed {X : Type 0} (p : X → Bool) (xs : List X) : Type 0 where
  index : ℕ
  x : X
  before : list_all p (take index xs) ≡ true
  there : slice_get xs index ≡ Some x
  fails : p x ≡ false

failed_in : {X : Type 0} (p : X → Bool) (x : X) (xs : List X) (b : Bool) → p x ≡ b → (list_all p xs ≡ false → Failed p xs) → (b && list_all p xs) ≡ false → Failed p (x ∷ xs)
failed_in p x xs true is later some =
    let more = later some in
    record { index = suc more.index; x = more.x; before = rw is more.before; there = more.there; fails = more.fails }
failed_in p x xs false is later some = record { index = 0; x = x; before = refl; there = refl; fails = is }

first_failed : {X : Type 0} (p : X → Bool) (xs : List X) → list_all p xs ≡ false → Failed p xs
first_failed p [] none = absurd (false≢true (sym none))
first_failed p (x ∷ xs) some = failed_in p x xs (p x) refl (first_failed p xs) some

pub mismatch_where : (content : List ℕ) (dict : List (Pair Member)) → list_all is_sound dict ≡ true → list_all (agrees content) dict ≡ false
    → (algorithm : Algorithm) × (kept : List ℕ) × IsMismatch dict content algorithm kept (digest_by algorithm content)
mismatch_where content dict sound some =
    let first = first_failed (agrees content) dict some in
    let apart = differs_where content first.x first.fails (all_at is_sound dict first.index first.x sound first.there) in (
      apart.0,
      apart.1,
      record {
        index = first.index;
        before = first.before;
        there = some_and (λ (member : Pair Member). Differs content member apart.0 apart.1 (digest_by apart.0 content)) (slice_get dict first.index) first.x first.there apart.2;
      },
    )

-- a member that agrees is before one that doesn't
not_earlier : (content : List ℕ) (dict : List (Pair Member)) (algorithm : Algorithm) (kept computed : List ℕ) (i j : ℕ) → list_all (agrees content) (take j dict) ≡ true
    → IsSomeAnd (slice_get dict i) (λ member. Differs content member algorithm kept computed) → i < j → ⊥
not_earlier content dict algorithm kept computed i j before there less =
    let here = some_and_parts (λ (member : Pair Member). Differs content member algorithm kept computed) (slice_get dict i) there in
    not_agreed content here.0 algorithm kept computed here.2 (all_at (agrees content) (take j dict) i here.0 before (slice_get_take dict j i less ∙ here.1))

one_difference : (content : List ℕ) (member : Pair Member) (a b : Algorithm) (k l c d : List ℕ) → Differs content member a k c → Differs content member b l d
    → Mismatch a k c ≡ Mismatch b l d
one_difference content member a b k l c d one two =
    let algorithm : a ≡ b = some_is a b (sym one.algorithm_is ∙ two.algorithm_is) in
    let kept : k ≡ l = some_is k l (sym one.kept_is ∙ two.kept_is) in
    let computed : c ≡ d = one.computed_is ∙ (ap (λ x. digest_by x content) algorithm ∙ sym two.computed_is) in
    cc (algorithm, kept, computed)

one_mismatch : (content : List ℕ) (dict : List (Pair Member)) (a b : Algorithm) (k l c d : List ℕ) → IsMismatch dict content a k c → IsMismatch dict content b l d
    → Mismatch a k c ≡ Mismatch b l d
one_mismatch content dict a b k l c d one two = elim (cases_order one.index two.index) [
  | inl same ↦
      let first = some_and_parts (λ (member : Pair Member). Differs content member a k c) (slice_get dict one.index) one.there in
      let second = some_and_parts (λ (member : Pair Member). Differs content member b l d) (slice_get dict two.index) two.there in
      let member : first.0 ≡ second.0 = some_is first.0 second.0 (sym first.1 ∙ (ap (slice_get dict) same ∙ second.1)) in
      one_difference content second.0 a b k l c d (subst (λ (m : Pair Member). Differs content m a k c) member first.2) second.2
  | inr apart ↦ elim apart [
    | inl less ↦ absurd (not_earlier content dict a k c one.index two.index two.before one.there less)
    | inr more ↦ absurd (not_earlier content dict b l d two.index one.index one.before two.there more)
  ]
]

-- where all agree none is the first that doesn't
not_mismatched : (content : List ℕ) (dict : List (Pair Member)) (a : Algorithm) (k c : List ℕ) → list_all (agrees content) dict ≡ true → ¬ IsMismatch dict content a k c
not_mismatched content dict a k c all is =
    let here = some_and_parts (λ (member : Pair Member). Differs content member a k c) (slice_get dict is.index) is.there in
    not_agreed content here.0 a k c here.2 (all_at (agrees content) dict is.index here.0 all here.1)

-- ---- causes

determined : (text content : List ℕ) → AreDetermined digest_order (IsDigestCause text content)
determined text content Malformed Malformed e h k = refl
determined text content NoneKnown NoneKnown e h k = refl
determined text content (Mismatch a k c) (Mismatch b l d) e one two =
    let same : one.0 ≡ two.0 = dict_has_one_value text one.0 two.0 one.1 two.1 in
    one_mismatch content two.0 a b k l c d (subst (λ (dict : List (Pair Member)). IsMismatch dict content a k c) same one.2) two.2
determined text content Memory other e h k = absurd h
determined text content fault Memory e h k = absurd k
determined text content fault other e h k = absurd (omega arith)

pub one_digest_fault : OneDigestFault
one_digest_fault text content fault other one two = first_is_one digest_order (IsDigestCause text content) (determined text content) fault other one two

-- a Dictionary that is sound isn't malformed
not_malformed : (text content : List ℕ) (dict : List (Pair Member)) → ReadsDict text dict → list_all is_sound dict ≡ true → ¬ IsDigestCause text content Malformed
not_malformed text content dict reads sound (inl none) = none dict reads
not_malformed text content dict reads sound (inr other) =
    let same : other.0 ≡ dict = dict_has_one_value text other.0 dict other.1 reads in
    false≢true (sym other.2 ∙ (ap (list_all is_sound) same ∙ sound))

not_none_known : (text content : List ℕ) (dict : List (Pair Member)) → ReadsDict text dict → list_any is_known dict ≡ true → ¬ IsDigestCause text content NoneKnown
not_none_known text content dict reads known other =
    let same : other.0 ≡ dict = dict_has_one_value text other.0 dict other.1 reads in
    false≢true (sym other.2 ∙ (ap (list_any is_known) same ∙ known))

no_cause : (text content : List ℕ) → DigestHolds text content → (fault : DigestFault) → ¬ IsDigestCause text content fault
no_cause text content holds Malformed cause =
    not_malformed text content holds.dict holds.reads (all_implied (agrees content) is_sound (agreed_is_sound content) holds.dict holds.each) cause
no_cause text content holds NoneKnown cause = not_none_known text content holds.dict holds.reads holds.known cause
no_cause text content holds (Mismatch a k c) cause =
    let same : cause.0 ≡ holds.dict = dict_has_one_value text cause.0 holds.dict cause.1 holds.reads in
    not_mismatched content holds.dict a k c holds.each (subst (λ (dict : List (Pair Member)). IsMismatch dict content a k c) same cause.2)
no_cause text content holds Memory cause = cause

pub no_fault_where_holds : NoFaultWhereHolds
no_fault_where_holds text content fault holds is = no_cause text content holds fault is.holds

-- ---- the first cause

pub is_malformed : (text content : List ℕ) → IsDigestCause text content Malformed → IsDigestFault text content Malformed
is_malformed text content cause = record { holds = cause; none_before = λ other less. absurd (omega (arith, less)) }

before_known : (text content : List ℕ) (dict : List (Pair Member)) → ReadsDict text dict → list_all is_sound dict ≡ true
    → (other : DigestFault) → digest_order other < 1 → ¬ IsDigestCause text content other
before_known text content dict reads sound Malformed less cause = not_malformed text content dict reads sound cause
before_known text content dict reads sound NoneKnown less cause = absurd (omega arith)
before_known text content dict reads sound (Mismatch a k c) less cause = absurd (omega arith)
before_known text content dict reads sound Memory less cause = cause

pub is_none_known : (text content : List ℕ) (dict : List (Pair Member)) → ReadsDict text dict → list_all is_sound dict ≡ true → list_any is_known dict ≡ false
    → IsDigestFault text content NoneKnown
is_none_known text content dict reads sound none = record { holds = (dict, reads, none); none_before = before_known text content dict reads sound }

before_mismatch : (text content : List ℕ) (dict : List (Pair Member)) → ReadsDict text dict → list_all is_sound dict ≡ true → list_any is_known dict ≡ true
    → (other : DigestFault) → digest_order other < 2 → ¬ IsDigestCause text content other
before_mismatch text content dict reads sound known Malformed less cause = not_malformed text content dict reads sound cause
before_mismatch text content dict reads sound known NoneKnown less cause = not_none_known text content dict reads known cause
before_mismatch text content dict reads sound known (Mismatch a k c) less cause = absurd (omega arith)
before_mismatch text content dict reads sound known Memory less cause = cause

pub is_mismatch : (text content : List ℕ) (dict : List (Pair Member)) (a : Algorithm) (k c : List ℕ) → ReadsDict text dict → list_all is_sound dict ≡ true → list_any is_known dict ≡ true
    → IsMismatch dict content a k c → IsDigestFault text content (Mismatch a k c)
is_mismatch text content dict a k c reads sound known mismatch = record { holds = (dict, reads, mismatch); none_before = before_mismatch text content dict reads sound known }

-- ---- an answer

answer_to_dict : (text content : List ℕ) (dict : List (Pair Member)) → ReadsDict text dict → DigestHolds text content ⊎ ((fault : DigestFault) × IsDigestFault text content fault)
answer_to_dict text content dict reads = elim (cases_Bool (list_all is_sound dict)) [
  | inl sound ↦ elim (cases_Bool (list_any is_known dict)) [
    | inl known ↦ elim (cases_Bool (list_all (agrees content) dict)) [
      | inl all ↦ inl (record { dict = dict; reads = reads; known = known; each = all })
      | inr some ↦ let first = mismatch_where content dict sound some in
          inr (Mismatch first.0 first.1 (digest_by first.0 content), is_mismatch text content dict first.0 first.1 (digest_by first.0 content) reads sound known first.2)
    ]
    | inr none ↦ inr (NoneKnown, is_none_known text content dict reads sound none)
  ]
  | inr unsound ↦ inr (Malformed, is_malformed text content (inr (dict, reads, unsound)))
]

pub has_digest_answer : HasDigestAnswer
has_digest_answer text content = elim (dict_is_decided text) [
  | inl read ↦ answer_to_dict text content read.0 read.1
  | inr none ↦ inr (Malformed, is_malformed text content (inl none))
]
