-- The causes of bytes that are read as a trailer section: at most one is the first that holds, and
-- none holds where one is spelled.
use Rattle.std.proofs.Common.{◌≡◌, ◌≢◌, ℕ, ◌+◌, ◌<◌, ◌≤◌, List, [], ◌∷◌, ◌++◌, length, take, refl, sym, subst, ap, ◌∙◌, arith}
use Rattle.std.specs.List.{All}
use Rattle.std.proofs.Math.Seq.{take-append-add}
use Rattle.std.proofs.lemmas.List.{length-take-le}
use Rattle.byte_grammar.specs.tools.Determined.{AreDetermined}
use Rattle.byte_grammar.proofs.CauseLaws.{first_is_one}
use Rattle.msg_head.specs.declared.limits.TheConstants.{MAX_HEAD_BYTES, MAX_HEAD_LINES}
use Rattle.msg_head.specs.declared.error.Side.TheVariants.{Header, Trailer}
use Rattle.msg_head.specs.declared.error.HeadError.{HeadError}
use Rattle.msg_head.specs.declared.error.HeadError.TheVariants.{Memory, TooLong, NakedEnd, BadStart, TooManyLines, BadLine}
use Rattle.msg_head.specs.RawValues.{RawPieces}
use Rattle.msg_head.specs.Lines.{FieldLine}
use Rattle.msg_head.specs.Cuts.{IsFirstNakedEnd, IsCut}
use Rattle.msg_head.specs.Causes.{IsFirstBadLine, head_order}
use Rattle.msg_head.specs.Trailers.{IsTrailerSection, SpellsTrailer, IsTrailerUnfinished}
use Rattle.msg_head.specs.TrailerCauses.{IsTrailerTooLong, IsTrailerCause, IsTrailerError}
use Rattle.msg_head.specs.tools.Texts.{IsClean}
use Rattle.msg_head.specs.tools.Judged.{IsFirstFault}
use Rattle.msg_head.specs.tools.TrailerJudged.{IsTrailerSectionFault}
use Rattle.msg_head.proofs.Naked.{none_in_clean}
use Rattle.msg_head.proofs.LineLaws.{one_cut}
use Rattle.msg_head.proofs.Spans.{MakesSome}
use Rattle.msg_head.proofs.FaultLaws.{bad_once, naked_once, end_within, all_good, first_of}
use Rattle.msg_head.proofs.Sectioning.{cut_section}
use Rattle.msg_head.proofs.Wholes.{none_of}
use Rattle.msg_head.proofs.TrailerCuts.{one_trailer_section, lines_cut_from, spelled_trailer, trailer_used, spelled_section}

-- ---- one cause each

same_lines : (bytes : List ℕ) (ls ms : List RawPieces) → IsCut [] ls (13 ∷ 10 ∷ bytes) → IsCut [] ms (13 ∷ 10 ∷ bytes) → ls ≡ ms
same_lines bytes ls ms a b = (one_cut [] [] ls ms (13 ∷ 10 ∷ bytes) a b).1

determined : (bytes : List ℕ) → AreDetermined head_order (IsTrailerCause bytes)
determined bytes (TooLong Trailer) (TooLong Trailer) e h k = refl
determined bytes (NakedEnd i) (NakedEnd j) e h k =
    let section = one_trailer_section bytes h.section k.section h.is k.is in
    ap NakedEnd (naked_once k.section i j (subst (λ (s : List ℕ). IsFirstNakedEnd s i) section h.first) k.first)
determined bytes (TooManyLines Trailer) (TooManyLines Trailer) e h k = refl
determined bytes (BadLine Trailer i) (BadLine Trailer j) e h k =
    let same = same_lines bytes h.lines k.lines h.cut k.cut in
    ap (BadLine Trailer) (bad_once k.lines i j (subst (λ (ls : List RawPieces). IsFirstBadLine ls i) same h.are) k.are)
determined bytes (TooLong Header) other e h k = absurd h
determined bytes (TooManyLines Header) other e h k = absurd h
determined bytes (BadLine Header i) other e h k = absurd h
determined bytes BadStart other e h k = absurd h
determined bytes Memory other e h k = absurd h
determined bytes fault (TooLong Header) e h k = absurd k
determined bytes fault (TooManyLines Header) e h k = absurd k
determined bytes fault (BadLine Header i) e h k = absurd k
determined bytes fault BadStart e h k = absurd k
determined bytes fault Memory e h k = absurd k
determined bytes fault other e h k = absurd (omega arith)

pub one_trailer_fault : (bytes : List ℕ) (fault other : HeadError) → IsTrailerError bytes fault → IsTrailerError bytes other → fault ≡ other
one_trailer_fault bytes fault other first second = first_is_one head_order (IsTrailerCause bytes) (determined bytes) fault other first second

-- ---- where causes don't hold

-- the section is there, and short enough
pub record Sectioned (bytes section : List ℕ) : Type 0 where
  pub is : IsTrailerSection bytes section
  pub clean : IsClean section
  pub short : length section ≤ MAX_HEAD_BYTES

not_long : (bytes section : List ℕ) → IsTrailerSection bytes section → length section ≤ MAX_HEAD_BYTES → ¬ IsTrailerTooLong bytes
not_long bytes section is short long = within MAX_HEAD_BYTES short long.no_end
  where
    within : (count : ℕ) → length section ≤ count → ((before after : List ℕ) → 13 ∷ 10 ∷ take count bytes ≢ before ++ (13 ∷ 10 ∷ 13 ∷ 10 ∷ [] ++ after)) → ⊥
    within count short none =
        end_within (2 + count) (13 ∷ 10 ∷ bytes) (13 ∷ 10 ∷ section) is (omega (arith, short)) (λ before after e. none before after (sym (take-append-add (13 ∷ 10 ∷ []) bytes count) ∙ e))

not_naked : (bytes section : List ℕ) (at : ℕ) → Sectioned bytes section → ¬ IsTrailerCause bytes (NakedEnd at)
not_naked bytes section at s h =
    none_in_clean section at s.clean (subst (λ (x : List ℕ). IsFirstNakedEnd x at) (one_trailer_section bytes h.section section h.is s.is) h.first).is

early : (bytes section : List ℕ) → Sectioned bytes section → (other : HeadError) → head_order other < 3 → ¬ IsTrailerCause bytes other
early bytes section s (TooLong Trailer) low h = not_long bytes section s.is s.short h
early bytes section s (NakedEnd at) low h = not_naked bytes section at s h
early bytes section s (TooManyLines side) low h = omega (arith, low)
early bytes section s (BadLine side at) low h = omega (arith, low)
early bytes section s (TooLong Header) low h = h
early bytes section s BadStart low h = h
early bytes section s Memory low h = h

-- and the lines are few
late : (bytes section : List ℕ) (lines : List RawPieces) → Sectioned bytes section → IsCut [] lines (13 ∷ 10 ∷ bytes) → length lines ≤ MAX_HEAD_LINES → (other : HeadError) → head_order other < 4 → ¬ IsTrailerCause bytes other
late bytes section lines s cut few (TooManyLines Trailer) low h =
    let same = same_lines bytes h.lines lines h.cut cut in
    let many = h.are in
    omega (arith, few, many, ap (length {A = RawPieces}) same)
late bytes section lines s cut few (TooLong side) low h = early bytes section s (TooLong side) (omega arith) h
late bytes section lines s cut few (NakedEnd at) low h = early bytes section s (NakedEnd at) (omega arith) h
late bytes section lines s cut few (BadLine side at) low h = omega (arith, low)
late bytes section lines s cut few (TooManyLines Header) low h = h
late bytes section lines s cut few BadStart low h = h
late bytes section lines s cut few Memory low h = h

-- ---- which cause is the first

pub trailer_too_long : (bytes : List ℕ) → IsTrailerTooLong bytes → IsTrailerError bytes (TooLong Trailer)
trailer_too_long bytes long = record { holds = long; none_before = λ other low h. omega (arith, low) }

pub first_naked : (bytes section : List ℕ) (at : ℕ) → IsTrailerSection bytes section → length section ≤ MAX_HEAD_BYTES → IsFirstNakedEnd section at → IsTrailerError bytes (NakedEnd at)
first_naked bytes section at is short first = record {
  holds = record { section = section; is = is; first = first };
  none_before = none;
}
  where
    none : (other : HeadError) → head_order other < 1 → ¬ IsTrailerCause bytes other
    none (TooLong Trailer) low h = not_long bytes section is short h
    none (TooLong Header) low h = h
    none (NakedEnd i) low h = omega (arith, low)
    none (TooManyLines side) low h = omega (arith, low)
    none (BadLine side i) low h = omega (arith, low)
    none BadStart low h = h
    none Memory low h = h

header : Header ≡ Trailer → ⊥
header e = absurd cc

pub section_fault : (bytes section : List ℕ) (fault : HeadError) → Sectioned bytes section → IsTrailerSectionFault section fault → fault ≢ Memory → IsTrailerError bytes fault
section_fault bytes section (TooManyLines Trailer) s f own =
    record { holds = record { lines = f.0; cut = lines_cut_from bytes section f.0 s.is f.1; are = f.2.1 }; none_before = early bytes section s }
section_fault bytes section (BadLine Trailer at) s f own =
    let cut = lines_cut_from bytes section f.0 s.is f.1 in
    record { holds = record { lines = f.0; cut = cut; are = f.2.2 }; none_before = late bytes section f.0 s cut f.2.1 }
section_fault bytes section (TooManyLines Header) s f own = absurd (header f.2.0)
section_fault bytes section (BadLine Header at) s f own = absurd (header f.2.0)
section_fault bytes section (TooLong side) s f own = absurd f.2
section_fault bytes section (NakedEnd at) s f own = absurd f.2
section_fault bytes section BadStart s f own = absurd f.2
section_fault bytes section Memory s f own = absurd (own refl)

pub first_trailer_fault : (bytes section : List ℕ) (fault first : HeadError) → IsTrailerSection bytes section → length section ≤ MAX_HEAD_BYTES → (IsClean section → IsTrailerSectionFault section fault) → IsFirstFault section fault first → first ≢ Memory → IsTrailerError bytes first
first_trailer_fault bytes section fault first is short cause =
    first_of (IsTrailerError bytes) section fault first (λ clean. section_fault bytes section fault (record { is = is; clean = clean; short = short }) (cause clean)) (λ at. first_naked bytes section at is short)

-- ---- where a trailer section is spelled

no_cause_cut : (bytes section : List ℕ) (lines : List RawPieces) → Sectioned bytes section → IsCut [] lines (13 ∷ 10 ∷ bytes) → length lines ≤ MAX_HEAD_LINES → All MakesSome lines → (fault : HeadError) → ¬ IsTrailerCause bytes fault
no_cause_cut bytes section lines s cut few makes (BadLine Trailer at) h =
    all_good lines at makes (subst (λ (ls : List RawPieces). IsFirstBadLine ls at) (same_lines bytes h.lines lines h.cut cut) h.are)
no_cause_cut bytes section lines s cut few makes (BadLine Header at) h = h
no_cause_cut bytes section lines s cut few makes (TooLong side) h = late bytes section lines s cut few (TooLong side) (omega arith) h
no_cause_cut bytes section lines s cut few makes (NakedEnd at) h = late bytes section lines s cut few (NakedEnd at) (omega arith) h
no_cause_cut bytes section lines s cut few makes (TooManyLines side) h = late bytes section lines s cut few (TooManyLines side) (omega arith) h
no_cause_cut bytes section lines s cut few makes BadStart h = h
no_cause_cut bytes section lines s cut few makes Memory h = h

pub no_cause_at_trailer : (bytes : List ℕ) (lines : List FieldLine) (used : ℕ) → SpellsTrailer lines used bytes → (fault : HeadError) → ¬ IsTrailerCause bytes fault
no_cause_at_trailer bytes lines used s fault h =
    let own = spelled_trailer lines used bytes s in
    let there = spelled_section lines used bytes s in
    let few = s.spells.is.few in
    let short = s.spells.is.short in
    let size = length-take-le used bytes s.within in
    no_cause_cut bytes (take used bytes) own.own.cuts (record { is = there.is; clean = there.clean; short = omega (arith, size, trailer_used lines used bytes s, short) }) own.cut (omega (arith, few, own.own.count)) own.own.makes fault h

-- ---- where bytes are unfinished

unfinished_cut : (bytes : List ℕ) (lines : List RawPieces) → IsTrailerUnfinished bytes → ¬ IsCut [] lines (13 ∷ 10 ∷ bytes)
unfinished_cut bytes lines u cut =
    let there = cut_section [] lines (13 ∷ 10 ∷ bytes) cut in none_of (13 ∷ 10 ∷ bytes) there.section u.no_end there.is

pub no_cause_yet : (bytes : List ℕ) → IsTrailerUnfinished bytes → (fault : HeadError) → ¬ IsTrailerCause bytes fault
no_cause_yet bytes u (TooLong Trailer) h =
    let short = u.short in
    let long = h.long in
    omega (arith, short, long)
no_cause_yet bytes u (NakedEnd at) h = none_of (13 ∷ 10 ∷ bytes) (13 ∷ 10 ∷ h.section) u.no_end h.is
no_cause_yet bytes u (TooManyLines Trailer) h = unfinished_cut bytes h.lines u h.cut
no_cause_yet bytes u (BadLine Trailer at) h = unfinished_cut bytes h.lines u h.cut
no_cause_yet bytes u (TooLong Header) h = h
no_cause_yet bytes u (TooManyLines Header) h = h
no_cause_yet bytes u (BadLine Header at) h = h
no_cause_yet bytes u BadStart h = h
no_cause_yet bytes u Memory h = h

pub trailer_not_both : (bytes : List ℕ) (lines : List FieldLine) (used : ℕ) → SpellsTrailer lines used bytes → ¬ IsTrailerUnfinished bytes
trailer_not_both bytes lines used s u =
    let own = spelled_trailer lines used bytes s in unfinished_cut bytes own.own.cuts u own.cut
