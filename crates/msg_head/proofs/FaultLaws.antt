-- The causes of bytes: at most one is the first that holds, and none holds where a head is spelled.
use Rattle.std.proofs.Common.{◌≡◌, ◌≢◌, ℕ, zero, suc, ◌+◌, ◌-◌, ◌<◌, ◌≤◌, Option, Some, None, List, [], ◌∷◌, ◌++◌, length, take, refl, sym, subst, ap, ◌∙◌, arith, inl, inr, append_assoc, length-append, codes}
use Rattle.std.specs.Prelude.{IsSomeAnd}
use Rattle.std.specs.List.{All, slice_get}
use Rattle.std.proofs.Math.Seq.{take-append-add}
use Rattle.std.proofs.lemmas.Bool.{cases_order}
use Rattle.std.proofs.lemmas.List.{length-drop}
use Rattle.std.proofs.lemmas.List.Elements.{All-head, All-tail, All-take}
use Rattle.byte_grammar.specs.tools.Determined.{AreDetermined}
use Rattle.byte_grammar.proofs.CauseLaws.{first_is_one}
use Rattle.msg_head.specs.declared.limits.TheConstants.{MAX_HEAD_BYTES, MAX_HEAD_LINES}
use Rattle.msg_head.specs.declared.error.Side.TheVariants.{Header, Trailer}
use Rattle.msg_head.specs.declared.error.HeadError.{HeadError}
use Rattle.msg_head.specs.declared.error.HeadError.TheVariants.{Memory, TooLong, NakedEnd, BadStart, TooManyLines, BadLine}
use Rattle.msg_head.specs.RawValues.{RawPieces}
use Rattle.msg_head.specs.Cuts.{IsSection, IsFirstNakedEnd, IsCut, MakesNoLine, MakesNoStart}
use Rattle.msg_head.specs.Heads.{Head, SpellsHead}
use Rattle.msg_head.specs.Causes.{IsTooLong, HasNakedEnd, IsFirstBadLine, IsHeadCause, head_order, IsHeadError}
use Rattle.msg_head.specs.tools.Texts.{IsClean}
use Rattle.msg_head.specs.tools.Sections.{IsLinesFault}
use Rattle.msg_head.specs.tools.Judged.{IsCutFault, IsSectionFault, IsFirstFault}
use Rattle.msg_head.proofs.Naked.{none_in_clean}
use Rattle.msg_head.proofs.LineLaws.{one_cut}
use Rattle.msg_head.proofs.Spans.{MakesSome}
use Rattle.msg_head.proofs.HeadParts.{spelled_cut, starts_well, used_is}
use Rattle.msg_head.proofs.Sectioning.{one_section, cut_section}

-- ---- one cause each

some_and_parts : {X : Type 0} (P : X → Type 0) (o : Option X) → IsSomeAnd o P → (x : X) × (o ≡ Some x) × P x
some_and_parts P None h = absurd h
some_and_parts P (Some x) h = (x, refl, h)

all_there : {X : Type 0} (P : X → Type 0) (xs : List X) (j i : ℕ) (x : X) → i < j → slice_get xs i ≡ Some x → All P (take j xs) → P x
all_there P [] j i x low is all = absurd cc
all_there P (y ∷ ys) zero i x low is all = absurd (omega (arith, low))
all_there P (y ∷ ys) (suc j) zero x low is all =
    let same : y ≡ x = cc in subst P same (All-head P y (take j ys) all)
all_there P (y ∷ ys) (suc j) (suc i) x low is all = all_there P ys j i x (omega (arith, low)) is (All-tail P y (take j ys) all)

not_before : (lines : List RawPieces) (i j : ℕ) → i < j → IsFirstBadLine lines i → IsFirstBadLine lines j → ⊥
not_before lines i j low a b =
    let here = some_and_parts MakesNoLine (slice_get lines i) a.there in
    let good = all_there MakesSome lines j i here.0 low here.1 b.before in
    here.2 good.0 good.1

pub bad_once : (lines : List RawPieces) (i j : ℕ) → IsFirstBadLine lines i → IsFirstBadLine lines j → i ≡ j
bad_once lines i j a b = elim (cases_order i j) [
  | inl same ↦ same
  | inr apart ↦ elim apart [ inl less ↦ absurd (not_before lines i j less a b) | inr more ↦ absurd (not_before lines j i more b a) ]
]

pub naked_once : (text : List ℕ) (i j : ℕ) → IsFirstNakedEnd text i → IsFirstNakedEnd text j → i ≡ j
naked_once text i j a b = elim (cases_order i j) [
  | inl same ↦ same
  | inr apart ↦ elim apart [ inl less ↦ absurd (b.none_before i less a.is) | inr more ↦ absurd (a.none_before j more b.is) ]
]

-- each cause determines its offset or its index
determined : (bytes : List ℕ) → AreDetermined head_order (IsHeadCause bytes)
determined bytes (TooLong Header) (TooLong Header) e h k = refl
determined bytes (NakedEnd i) (NakedEnd j) e h k =
    let section = one_section bytes h.section k.section h.is k.is in
    ap NakedEnd (naked_once k.section i j (subst (λ (s : List ℕ). IsFirstNakedEnd s i) section h.first) k.first)
determined bytes BadStart BadStart e h k = refl
determined bytes (TooManyLines Header) (TooManyLines Header) e h k = refl
determined bytes (BadLine Header i) (BadLine Header j) e h k =
    let same = one_cut h.start k.start h.lines k.lines bytes h.cut k.cut in
    ap (BadLine Header) (bad_once k.lines i j (subst (λ (ls : List RawPieces). IsFirstBadLine ls i) same.1 h.are) k.are)
determined bytes (TooLong Trailer) other e h k = absurd h
determined bytes (TooManyLines Trailer) other e h k = absurd h
determined bytes (BadLine Trailer i) other e h k = absurd h
determined bytes Memory other e h k = absurd h
determined bytes fault (TooLong Trailer) e h k = absurd k
determined bytes fault (TooManyLines Trailer) e h k = absurd k
determined bytes fault (BadLine Trailer i) e h k = absurd k
determined bytes fault Memory e h k = absurd k
determined bytes fault other e h k = absurd (omega arith)

pub one_fault : (bytes : List ℕ) (fault other : HeadError) → IsHeadError bytes fault → IsHeadError bytes other → fault ≡ other
one_fault bytes fault other first second = first_is_one head_order (IsHeadCause bytes) (determined bytes) fault other first second

-- ---- where causes don't hold

-- the section is there, and short enough
pub record Sectioned (bytes section : List ℕ) : Type 0 where
  pub is : IsSection bytes section
  pub clean : IsClean section
  pub short : length section ≤ MAX_HEAD_BYTES

pub end_within : (count : ℕ) (bytes section : List ℕ) → IsSection bytes section → length section ≤ count → ((before after : List ℕ) → take count bytes ≢ before ++ (codes "\r\n\r\n" ++ after)) → ⊥
end_within count bytes section is short none =
    let room : (k : ℕ) × (count ≡ length section + k) = (count - length section, omega (arith, short)) in
    none is.before (take room.0 is.more) (
    ap (λ k. take k bytes) room.1
    ∙ ap (λ (x : List ℕ). take (length section + room.0) x) is.joined
    ∙ take-append-add section is.more room.0
    ∙ ap (λ (x : List ℕ). x ++ take room.0 is.more) is.ends
    ∙ append_assoc is.before (codes "\r\n\r\n") (take room.0 is.more))

not_long : (bytes section : List ℕ) → IsSection bytes section → length section ≤ MAX_HEAD_BYTES → ¬ IsTooLong bytes
not_long bytes section is short long = end_within MAX_HEAD_BYTES bytes section is short long.no_end

not_naked : (bytes section : List ℕ) (at : ℕ) → IsSection bytes section → IsClean section → ¬ HasNakedEnd bytes at
not_naked bytes section at is clean h =
    none_in_clean section at clean (subst (λ (s : List ℕ). IsFirstNakedEnd s at) (one_section bytes h.section section h.is is) h.first).is

early : (bytes section : List ℕ) → Sectioned bytes section → (other : HeadError) → head_order other < 2 → ¬ IsHeadCause bytes other
early bytes section s (TooLong Header) low h = not_long bytes section s.is s.short h
early bytes section s (NakedEnd at) low h = not_naked bytes section at s.is s.clean h
early bytes section s (TooLong Trailer) low h = h
early bytes section s BadStart low h = omega (arith, low)
early bytes section s (TooManyLines side) low h = omega (arith, low)
early bytes section s (BadLine side at) low h = omega (arith, low)
early bytes section s Memory low h = h

-- and the start is a start line
middle : (bytes section start : List ℕ) (lines : List RawPieces) → Sectioned bytes section → IsCut start lines bytes → ¬ MakesNoStart start → (other : HeadError) → head_order other < 3 → ¬ IsHeadCause bytes other
middle bytes section start lines s cut good BadStart low h =
    good (subst MakesNoStart (one_cut h.start start h.lines lines bytes h.cut cut).0 h.bad)
middle bytes section start lines s cut good (TooLong side) low h = early bytes section s (TooLong side) (omega arith) h
middle bytes section start lines s cut good (NakedEnd at) low h = early bytes section s (NakedEnd at) (omega arith) h
middle bytes section start lines s cut good (TooManyLines side) low h = omega (arith, low)
middle bytes section start lines s cut good (BadLine side at) low h = omega (arith, low)
middle bytes section start lines s cut good Memory low h = h

-- and the lines are few
late : (bytes section start : List ℕ) (lines : List RawPieces) → Sectioned bytes section → IsCut start lines bytes → ¬ MakesNoStart start → length lines ≤ MAX_HEAD_LINES → (other : HeadError) → head_order other < 4 → ¬ IsHeadCause bytes other
late bytes section start lines s cut good few (TooManyLines Header) low h =
    let same = (one_cut h.start start h.lines lines bytes h.cut cut).1 in
    let many = h.are in
    omega (arith, few, many, ap (length {A = RawPieces}) same)
late bytes section start lines s cut good few (TooManyLines Trailer) low h = h
late bytes section start lines s cut good few (TooLong side) low h = middle bytes section start lines s cut good (TooLong side) (omega arith) h
late bytes section start lines s cut good few (NakedEnd at) low h = middle bytes section start lines s cut good (NakedEnd at) (omega arith) h
late bytes section start lines s cut good few BadStart low h = middle bytes section start lines s cut good BadStart (omega arith) h
late bytes section start lines s cut good few (BadLine side at) low h = omega (arith, low)
late bytes section start lines s cut good few Memory low h = h

-- ---- which cause is the first

pub too_long : (bytes : List ℕ) → IsTooLong bytes → IsHeadError bytes (TooLong Header)
too_long bytes long = record { holds = long; none_before = λ other low h. omega (arith, low) }

pub first_naked : (bytes section : List ℕ) (at : ℕ) → IsSection bytes section → length section ≤ MAX_HEAD_BYTES → IsFirstNakedEnd section at → IsHeadError bytes (NakedEnd at)
first_naked bytes section at is short first = record {
  holds = record { section = section; is = is; first = first };
  none_before = none;
}
  where
    none : (other : HeadError) → head_order other < 1 → ¬ IsHeadCause bytes other
    none (TooLong Header) low h = not_long bytes section is short h
    none (TooLong Trailer) low h = h
    none (NakedEnd i) low h = omega (arith, low)
    none BadStart low h = omega (arith, low)
    none (TooManyLines side) low h = omega (arith, low)
    none (BadLine side i) low h = omega (arith, low)
    none Memory low h = h

-- what is cut from the section is cut from the bytes
wider_cut : (bytes section start : List ℕ) (lines : List RawPieces) → IsSection bytes section → IsCut start lines section → IsCut start lines bytes
wider_cut bytes section start lines is cut = record {
  section = cut.section;
  more = cut.more ++ is.more;
  clean = cut.clean;
  joined =
      is.joined
      ∙ ap (λ (x : List ℕ). x ++ is.more) cut.joined
      ∙ append_assoc start (13 ∷ 10 ∷ (cut.section ++ cut.more)) is.more
      ∙ ap (λ (x : List ℕ). start ++ 13 ∷ 10 ∷ x) (append_assoc cut.section cut.more is.more);
  lines_are = cut.lines_are;
}

pub section_fault : (bytes section : List ℕ) (fault : HeadError) → Sectioned bytes section → IsSectionFault section fault → fault ≢ Memory → IsHeadError bytes fault
section_fault bytes section BadStart s f own =
    let cut = wider_cut bytes section f.0 f.1 s.is f.2 in
    record { holds = record { start = f.0; lines = f.1; cut = cut; bad = f.3 }; none_before = early bytes section s }
section_fault bytes section (TooManyLines Header) s f own =
    let cut = wider_cut bytes section f.0 f.1 s.is f.2 in
    record { holds = record { start = f.0; lines = f.1; cut = cut; are = f.3.lines_are.1 }; none_before = middle bytes section f.0 f.1 s cut f.3.good }
section_fault bytes section (BadLine Header at) s f own =
    let cut = wider_cut bytes section f.0 f.1 s.is f.2 in
    record { holds = record { start = f.0; lines = f.1; cut = cut; are = f.3.lines_are.2 }; none_before = late bytes section f.0 f.1 s cut f.3.good f.3.lines_are.1 }
section_fault bytes section (TooManyLines Trailer) s f own = absurd (trailer f.3.lines_are.0)
  where
    trailer : Trailer ≡ Header → ⊥
    trailer e = absurd cc
section_fault bytes section (BadLine Trailer at) s f own = absurd (trailer f.3.lines_are.0)
  where
    trailer : Trailer ≡ Header → ⊥
    trailer e = absurd cc
section_fault bytes section (TooLong side) s f own = absurd f.3.lines_are
section_fault bytes section (NakedEnd at) s f own = absurd f.3.lines_are
section_fault bytes section Memory s f own = absurd (own refl)

-- the fault of a section, where its first naked end comes before one that it has while clean
pub first_of : (IsError : HeadError → Type 0) (section : List ℕ) (fault first : HeadError) → (IsClean section → fault ≢ Memory → IsError fault) → ((at : ℕ) → IsFirstNakedEnd section at → IsError (NakedEnd at)) → IsFirstFault section fault first → first ≢ Memory → IsError first
first_of IsError section fault first clean naked (inl c) own = subst IsError (sym c.1) (clean c.0 (λ memory. own (c.1 ∙ memory)))
first_of IsError section fault first clean naked (inr n) own = subst IsError (sym n.2) (naked n.0 n.1)

pub first_fault : (bytes section : List ℕ) (fault first : HeadError) → IsSection bytes section → length section ≤ MAX_HEAD_BYTES → (IsClean section → IsSectionFault section fault) → IsFirstFault section fault first → first ≢ Memory → IsHeadError bytes first
first_fault bytes section fault first is short cause =
    first_of (IsHeadError bytes) section fault first (λ clean. section_fault bytes section fault (record { is = is; clean = clean; short = short }) (cause clean)) (λ at. first_naked bytes section at is short)

pub late_fault : (start : List ℕ) (lines : List RawPieces) (fault : HeadError) → ¬ MakesNoStart start → IsLinesFault Header lines fault → IsCutFault start lines fault
late_fault start lines (TooLong side) good is = absurd is
late_fault start lines (NakedEnd at) good is = absurd is
late_fault start lines BadStart good is = absurd is
late_fault start lines (TooManyLines side) good is = record { good = good; lines_are = is }
late_fault start lines (BadLine side at) good is = record { good = good; lines_are = is }
late_fault start lines Memory good is = record { good = good; lines_are = is }

-- ---- where a head is spelled

pub all_good : (lines : List RawPieces) (i : ℕ) → All MakesSome lines → ¬ IsFirstBadLine lines i
all_good lines i all bad =
    let here = some_and_parts MakesNoLine (slice_get lines i) bad.there in
    let good = all_there MakesSome lines (suc i) i here.0 (omega arith) here.1 (All-take MakesSome (suc i) lines all) in
    here.2 good.0 good.1

no_cause_cut : (bytes section start : List ℕ) (lines : List RawPieces) → Sectioned bytes section → IsCut start lines bytes → ¬ MakesNoStart start → length lines ≤ MAX_HEAD_LINES → All MakesSome lines → (fault : HeadError) → ¬ IsHeadCause bytes fault
no_cause_cut bytes section start lines s cut good few makes (BadLine Header at) h =
    let same = (one_cut h.start start h.lines lines bytes h.cut cut).1 in
    all_good lines at makes (subst (λ (ls : List RawPieces). IsFirstBadLine ls at) same h.are)
no_cause_cut bytes section start lines s cut good few makes (BadLine Trailer at) h = h
no_cause_cut bytes section start lines s cut good few makes (TooLong side) h = late bytes section start lines s cut good few (TooLong side) (omega arith) h
no_cause_cut bytes section start lines s cut good few makes (NakedEnd at) h = late bytes section start lines s cut good few (NakedEnd at) (omega arith) h
no_cause_cut bytes section start lines s cut good few makes BadStart h = late bytes section start lines s cut good few BadStart (omega arith) h
no_cause_cut bytes section start lines s cut good few makes (TooManyLines side) h = late bytes section start lines s cut good few (TooManyLines side) (omega arith) h
no_cause_cut bytes section start lines s cut good few makes Memory h = h

pub no_cause_spelled : (bytes : List ℕ) (head : Head) (used : ℕ) → SpellsHead head used bytes → (fault : HeadError) → ¬ IsHeadCause bytes fault
no_cause_spelled bytes head used s fault h =
    let own = spelled_cut head used bytes s in
    let there = cut_section own.start.text own.lines.cuts bytes own.cut in
    let few = s.spells.is.few in
    let short = s.spells.is.short in
    let text_size = used_is head used bytes s in
    let size : length there.section ≡ used =
    omega (arith, s.within, ap (length {A = ℕ}) there.joined, length-append there.section own.cut.more, ap (length {A = ℕ}) own.more_is, length-drop used bytes) in
    let sectioned : Sectioned bytes there.section = record { is = there.is; clean = there.clean; short = omega (arith, size, text_size, short) } in
    no_cause_cut bytes there.section own.start.text own.lines.cuts sectioned own.cut (starts_well head.start s.spells.is.start own.start) (omega (arith, few, own.lines.count)) own.lines.makes fault h
