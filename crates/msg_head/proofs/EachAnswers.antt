-- Each list of bytes has an answer as a head, and as a trailer section.
use Rattle.std.proofs.Common.{◌≡◌, ◌≢◌, ◌⊎◌, ℕ, zero, suc, ◌+◌, ◌-◌, ◌<◌, ◌≤◌, true, List, [], ◌∷◌, ◌++◌, length, take, drop, refl, sym, subst, ap, ◌∙◌, inl, inr, arith, length-append, codes}
use Rattle.std.specs.List.{All, list_all, flat_map}
use Rattle.std.specs.Str.{bytes_eq}
use Rattle.std.proofs.Math.Seq.{take-append_seam}
use Rattle.std.proofs.lemmas.Bool.{and_parts, and_from, cases_Bool, cases_lt, false≢true}
use Rattle.std.proofs.lemmas.List.{length-drop, take-append-drop, nil_from_length}
use Rattle.std.proofs.lemmas.List.Elements.{All-nil, All-cons}
use Rattle.std.proofs.lemmas.Slice.Eq.{bytes_eq-Decides}
use Rattle.byte_grammar.specs.Classes.{is_line_byte}
use Rattle.memchr.specs.Find.{is_byte3}
use Rattle.msg_head.specs.declared.limits.TheConstants.{MAX_HEAD_BYTES, MAX_HEAD_LINES}
use Rattle.msg_head.specs.declared.error.Side.TheVariants.{Header, Trailer}
use Rattle.msg_head.specs.declared.error.HeadError.{HeadError}
use Rattle.msg_head.specs.declared.error.HeadError.TheVariants.{Memory, TooLong, NakedEnd, BadStart, TooManyLines, BadLine}
use Rattle.msg_head.specs.RawValues.{RawPieces}
use Rattle.msg_head.specs.Lines.{FieldLine, IsLine, line_text}
use Rattle.msg_head.specs.Starts.{StartLine, start_text}
use Rattle.msg_head.specs.Cuts.{HasNoEnd, IsSection, IsFirstNakedEnd, AreLinesOf, cut_text, is_cut}
use Rattle.msg_head.specs.Heads.{Head, IsHeadText, SpellsHead, IsUnfinished, head_text}
use Rattle.msg_head.specs.Trailers.{IsTrailerText, SpellsTrailer, IsTrailerSection, IsTrailerUnfinished, after_chunks}
use Rattle.msg_head.specs.Causes.{IsHeadError, IsFirstBadLine}
use Rattle.msg_head.specs.TrailerCauses.{IsTrailerError}
use Rattle.msg_head.specs.Laws.{EachHasAHeadAnswer, EachHasATrailerAnswer}
use Rattle.msg_head.specs.tools.Texts.{EndsWithLf, IsClean, IsCleanUpTo}
use Rattle.msg_head.specs.tools.Prefixes.{BeginsWithStart}
use Rattle.msg_head.specs.tools.Judged.{IsSectionFault}
use Rattle.msg_head.specs.tools.TrailerJudged.{IsTrailerSectionFault}
use Rattle.msg_head.proofs.Spans.{MakesSome}
use Rattle.msg_head.proofs.Naked.{SplitAt, not_end, scan_more, naked_here, all_scanned}
use Rattle.msg_head.proofs.Ends.{empty_section, no_end_after, section_after}
use Rattle.msg_head.proofs.Grouping.{SectionCut, StartsWell, section_cut, well_started, bad_start}
use Rattle.msg_head.proofs.FaultLaws as head
use Rattle.msg_head.proofs.TrailerFaults as trailer
use Rattle.msg_head.proofs.Wholes.{own_section, wider_section, section_short, unfinished, long}
use Rattle.msg_head.proofs.Outcomes.{ends_with_lf}
use Rattle.msg_head.proofs.TrailerCuts.{section_first, trailer_ends_with_lf, trailer_lines}
use Rattle.msg_head.proofs.TrailerAnswers.{wider_trailer, trailer_short, own_trailer, trailer_unfinished, trailer_long}
use Rattle.msg_head.proofs.Deciding.{start_or_not, line_or_not}

-- ---- where an end is

-- the bytes begin with the text, or not
begins_or_not : (text bytes : List ℕ) → ((rest : List ℕ) × (bytes ≡ text ++ rest)) ⊎ ((rest : List ℕ) → bytes ≢ text ++ rest)
begins_or_not text bytes = elim (cases_Bool (bytes_eq (take (length text) bytes) text)) [
  | inl same ↦
      let is = (bytes_eq-Decides (take (length text) bytes) text).0 same in
      inl (drop (length text) bytes, sym (take-append-drop (length text) bytes) ∙ ap (λ (x : List ℕ). x ++ drop (length text) bytes) is)
  | inr other ↦ inr (λ rest e.
      let is = ap (λ (x : List ℕ). take (length text) x) e ∙ take-append_seam text rest in
      false≢true (sym other ∙ (bytes_eq-Decides (take (length text) bytes) text).1 is))
]

section_here : (bytes rest : List ℕ) → bytes ≡ codes "\r\n\r\n" ++ rest → IsSection bytes (codes "\r\n\r\n")
section_here bytes rest e = record {
  more = rest;
  joined = e;
  before = [];
  ends = refl;
  first = λ one other is. nil_from_length other (omega (arith, ap (length {A = ℕ}) is, length-append one (codes "\r\n\r\n" ++ other)));
}

section_later : (c : ℕ) (rest section : List ℕ) → ((other : List ℕ) → c ∷ rest ≢ codes "\r\n\r\n" ++ other) → IsSection rest section → IsSection (c ∷ rest) (c ∷ section)
section_later c rest section none s = record {
  more = s.more;
  joined = ap (λ (x : List ℕ). c ∷ x) s.joined;
  before = c ∷ s.before;
  ends = ap (λ (x : List ℕ). c ∷ x) s.ends;
  first = first;
}
  where
    first : (one other : List ℕ) → c ∷ section ≡ one ++ (codes "\r\n\r\n" ++ other) → other ≡ []
    first [] other e = absurd (none (other ++ s.more) (ap (λ (x : List ℕ). c ∷ x) s.joined ∙ ap (λ (x : List ℕ). x ++ s.more) e))
    first (x ∷ xs) other e =
        let left : section ≡ xs ++ (codes "\r\n\r\n" ++ other) = cc in s.first xs other left

none_later : (c : ℕ) (rest : List ℕ) → ((other : List ℕ) → c ∷ rest ≢ codes "\r\n\r\n" ++ other) → HasNoEnd rest → HasNoEnd (c ∷ rest)
none_later c rest none later [] after e = none after e
none_later c rest none later (x ∷ xs) after e =
    let left : rest ≡ xs ++ (codes "\r\n\r\n" ++ after) = cc in later xs after left

section_or_none : (bytes : List ℕ) → ((section : List ℕ) × IsSection bytes section) ⊎ HasNoEnd bytes
section_or_none [] = inr (λ before after e. omega (arith, ap (length {A = ℕ}) e, length-append before (codes "\r\n\r\n" ++ after)))
section_or_none (c ∷ rest) = elim (begins_or_not (codes "\r\n\r\n") (c ∷ rest)) [
  | inl here ↦ inl (codes "\r\n\r\n", section_here (c ∷ rest) here.0 here.1)
  | inr none ↦ elim (section_or_none rest) [
    | inl s ↦ inl (c ∷ s.0, section_later c rest s.0 none s.1)
    | inr later ↦ inr (none_later c rest none later)
  ]
]

trailer_or_none : (bytes : List ℕ) → ((section : List ℕ) × IsTrailerSection bytes section) ⊎ HasNoEnd (after_chunks bytes)
trailer_or_none bytes = elim (begins_or_not (codes "\r\n") bytes) [
  | inl empty ↦ inl (take 2 bytes, empty_section bytes (empty.0, empty.1))
  | inr other ↦ elim (section_or_none bytes) [
    | inl s ↦ inl (s.0, section_after bytes s.0 (λ b. other b.0 b.1) s.1)
    | inr none ↦ inr (no_end_after bytes (λ b. other b.0 b.1) none)
  ]
]

-- ---- ends that are none

plain_or_end : (left : List ℕ) → (list_all is_line_byte left ≡ true) ⊎ ((n : ℕ) × SplitAt left n)
plain_or_end [] = inl refl
plain_or_end (x ∷ xs) = elim (cases_Bool (is_byte3 0 13 10 x)) [
  | inl end ↦ inr (0, record { piece = []; c = x; after = xs; joined = refl; count = refl; clean = refl; end = end })
  | inr plain ↦
      let own = not_end x (λ e. false≢true (sym plain ∙ e)) in
      elim (plain_or_end xs) [
        | inl all ↦ inl (and_from (is_line_byte x) (list_all is_line_byte xs) own all)
        | inr s ↦ inr (
          suc s.0,
          record {
            piece = x ∷ s.1.piece;
            c = s.1.c;
            after = s.1.after;
            joined = ap (λ (t : List ℕ). x ∷ t) s.1.joined;
            count = ap suc s.1.count;
            clean = and_from (is_line_byte x) (list_all is_line_byte s.1.piece) own s.1.clean;
            end = s.1.end;
          },
        )
      ]
]

scanned : (text : List ℕ) → EndsWithLf text → (fuel : ℕ) (left : List ℕ) → length left < fuel → IsCleanUpTo text left → IsClean text ⊎ ((offset : ℕ) × IsFirstNakedEnd text offset)
scanned text ends zero left low w = absurd (omega (arith, low))
scanned text ends (suc fuel) left low w = elim (plain_or_end left) [
  | inl plain ↦ inl (all_scanned text left ends w plain)
  | inr s ↦ elim (begins_or_not (codes "\r\n") (drop s.0 left)) [
    | inl crlf ↦ scanned text ends fuel crlf.0 (omega (arith, low, length-drop s.0 left, ap (length {A = ℕ}) crlf.1)) (scan_more text left crlf.0 s.0 w s.1 crlf.1)
    | inr none ↦ inr (length text - length left + s.0, naked_here text left s.0 w s.1 none)
  ]
]

clean_or_naked : (text : List ℕ) → EndsWithLf text → IsClean text ⊎ ((offset : ℕ) × IsFirstNakedEnd text offset)
clean_or_naked text ends = scanned text ends (suc (length text)) text (omega arith) (record { pieces = []; each = refl; joined = refl })

-- ---- lines

-- the lines that they make, or the first that makes none
pub record AreMade (lines : List RawPieces) : Type 0 where
  pub made : List FieldLine
  pub each : All IsLine made
  pub count : length made ≡ length lines
  pub text : flat_map line_text made ≡ flat_map cut_text lines

made_or_bad : (lines : List RawPieces) → list_all is_cut lines ≡ true → AreMade lines ⊎ ((index : ℕ) × IsFirstBadLine lines index)
made_or_bad [] is = inl (record { made = []; each = All-nil IsLine; count = refl; text = refl })
made_or_bad (l ∷ ls) is =
    let both = and_parts (is_cut l) (list_all is_cut ls) is in
    elim (line_or_not l both.0) [
      | inr none ↦ inr (0, record { before = All-nil MakesSome; there = none })
      | inl line ↦ elim (made_or_bad ls both.1) [
        | inl others ↦ inl (record {
          made = line.0 ∷ others.made;
          each = All-cons IsLine line.0 others.made line.1.is others.each;
          count = ap suc others.count;
          text = λ i. sym line.1.text i ++ others.text i;
        })
        | inr bad ↦ inr (suc bad.0, record { before = All-cons MakesSome l (take bad.0 ls) line bad.1.before; there = bad.1.there })
      ]
    ]

-- ---- heads

abbrev HeadAnswer : List ℕ → Type 0
HeadAnswer bytes =
    ((head : Head) × (used : ℕ) × SpellsHead head used bytes) ⊎ ((fault : HeadError) × IsHeadError bytes fault) ⊎ IsUnfinished bytes

module _ (bytes section : List ℕ) (s : head.Sectioned bytes section) where
  head_fault : (fault : HeadError) → IsSectionFault section fault → fault ≢ Memory → HeadAnswer bytes
  head_fault fault is own = inr (inl (fault, head.section_fault bytes section fault s is own))

  head_lines : (cut : SectionCut section) (start : StartLine) (rest : List ℕ) → BeginsWithStart start rest section → StartsWell section cut rest → length cut.lines ≤ MAX_HEAD_LINES → HeadAnswer bytes
  head_lines cut start rest b well few = elim (made_or_bad cut.lines well.rest_is.each) [
    | inr bad ↦ head_fault (BadLine Header bad.0) (cut.start, cut.lines, cut.cut, record { good = well.good; lines_are = (refl, few, bad.1) }) (λ e. cc)
    | inl lines ↦
        let own : Head = record { start = start; lines = lines.made } in
        let text : section ≡ head_text own = b.joined ∙ ap (λ (x : List ℕ). start_text start ++ x) (well.rest_is.joined ∙ ap (λ (x : List ℕ). x ++ codes "\r\n") (sym lines.text)) in
        let first : take (length section) bytes ≡ section = ap (λ (x : List ℕ). take (length section) x) s.is.joined ∙ take-append_seam section s.is.more in
        let short = s.short in
        let spells : IsHeadText own section = record {
          is = record { start = b.is; lines = lines.each; few = omega (arith, few, lines.count); short = omega (arith, short, ap (length {A = ℕ}) text) };
          text = text;
        } in
        inl (
          own,
          length section,
          record {
            within = omega (arith, ap (length {A = ℕ}) s.is.joined, length-append section s.is.more);
            spells = subst (λ (x : List ℕ). IsHeadText own x) (sym first) spells;
          },
        )
  ]

  head_by_start : HeadAnswer bytes
  head_by_start =
      let cut = section_cut section (record { is = own_section bytes section s.is; clean = s.clean }) in
      elim (start_or_not section) [
        | inr none ↦ head_fault BadStart (cut.start, cut.lines, cut.cut, bad_start section cut none) (λ e. cc)
        | inl b ↦
            let well = well_started section cut b.0 b.1 b.2 in
            elim (cases_lt MAX_HEAD_LINES (length cut.lines)) [
              | inl many ↦ head_fault (TooManyLines Header) (cut.start, cut.lines, cut.cut, record { good = well.good; lines_are = (refl, many) }) (λ e. cc)
              | inr few ↦ head_lines cut b.0 b.1 b.2 well few
            ]
      ]

pub each_has_a_head_answer : EachHasAHeadAnswer
each_has_a_head_answer bytes = elim (section_or_none (take MAX_HEAD_BYTES bytes)) [
  | inr none ↦ elim (cases_lt (length bytes) MAX_HEAD_BYTES) [
    | inl short ↦ inr (inr (unfinished bytes (take MAX_HEAD_BYTES bytes) refl none short))
    | inr size ↦ inr (inl (TooLong Header, head.too_long bytes (long bytes (take MAX_HEAD_BYTES bytes) refl none size)))
  ]
  | inl found ↦
      let section = found.0 in
      let is = wider_section MAX_HEAD_BYTES bytes (take MAX_HEAD_BYTES bytes) section refl found.1 in
      let short = section_short MAX_HEAD_BYTES bytes (take MAX_HEAD_BYTES bytes) section refl found.1 in
      elim (clean_or_naked section (ends_with_lf bytes section is)) [
        | inr naked ↦ inr (inl (NakedEnd naked.0, head.first_naked bytes section naked.0 is short naked.1))
        | inl clean ↦ head_by_start bytes section (record { is = is; clean = clean; short = short })
      ]
]

-- ---- trailer sections

abbrev TrailerAnswer : List ℕ → Type 0
TrailerAnswer bytes =
    ((lines : List FieldLine) × (used : ℕ) × SpellsTrailer lines used bytes) ⊎ ((fault : HeadError) × IsTrailerError bytes fault) ⊎ IsTrailerUnfinished bytes

module _ (bytes section : List ℕ) (s : trailer.Sectioned bytes section) where
  trailer_fault : (fault : HeadError) → IsTrailerSectionFault section fault → fault ≢ Memory → TrailerAnswer bytes
  trailer_fault fault is own = inr (inl (fault, trailer.section_fault bytes section fault s is own))

  trailer_of : (lines : List RawPieces) → AreLinesOf section lines → length lines ≤ MAX_HEAD_LINES → TrailerAnswer bytes
  trailer_of lines are few = elim (made_or_bad lines are.each) [
    | inr bad ↦ trailer_fault (BadLine Trailer bad.0) (lines, are, (refl, few, bad.1)) (λ e. cc)
    | inl own ↦
        let text = are.joined ∙ ap (λ (x : List ℕ). x ++ codes "\r\n") (sym own.text) in
        let joined = section_first bytes section s.is in
        let first : take (length section) bytes ≡ section = ap (λ (x : List ℕ). take (length section) x) joined ∙ take-append_seam section s.is.more in
        let short = s.short in
        let spells : IsTrailerText own.made section = record {
          is = record { each = own.each; few = omega (arith, few, own.count); short = omega (arith, short, ap (length {A = ℕ}) text) };
          text = text;
        } in
        inl (
          own.made,
          length section,
          record {
            within = omega (arith, ap (length {A = ℕ}) joined, length-append section s.is.more);
            spells = subst (λ (x : List ℕ). IsTrailerText own.made x) (sym first) spells;
          },
        )
  ]

  trailer_by_lines : TrailerAnswer bytes
  trailer_by_lines =
      let cut = trailer_lines section (own_trailer bytes section s.is) s.clean in
      elim (cases_lt MAX_HEAD_LINES (length cut.0)) [
        | inl many ↦ trailer_fault (TooManyLines Trailer) (cut.0, cut.1, (refl, many)) (λ e. cc)
        | inr few ↦ trailer_of cut.0 cut.1 few
      ]

pub each_has_a_trailer_answer : EachHasATrailerAnswer
each_has_a_trailer_answer bytes = elim (trailer_or_none (take MAX_HEAD_BYTES bytes)) [
  | inr none ↦ elim (cases_lt (length bytes) MAX_HEAD_BYTES) [
    | inl short ↦ inr (inr (trailer_unfinished bytes (take MAX_HEAD_BYTES bytes) refl none short))
    | inr size ↦ inr (inl (TooLong Trailer, trailer.trailer_too_long bytes (trailer_long bytes (take MAX_HEAD_BYTES bytes) refl none size)))
  ]
  | inl found ↦
      let section = found.0 in
      let is = wider_trailer MAX_HEAD_BYTES bytes (take MAX_HEAD_BYTES bytes) section refl found.1 in
      let short = trailer_short MAX_HEAD_BYTES bytes (take MAX_HEAD_BYTES bytes) section refl found.1 in
      elim (clean_or_naked section (trailer_ends_with_lf bytes section is)) [
        | inr naked ↦ inr (inl (NakedEnd naked.0, trailer.first_naked bytes section naked.0 is short naked.1))
        | inl clean ↦ trailer_by_lines bytes section (record { is = is; clean = clean; short = short })
      ]
]
