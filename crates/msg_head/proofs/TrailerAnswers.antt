-- Each answer to bytes that are read as a trailer section has its cause.
use Rattle.std.proofs.Common.{◌≡◌, ◌≢◌, ℕ, ◌+◌, ◌-◌, ◌<◌, ◌≤◌, List, [], ◌∷◌, length, map, take, refl, sym, subst, ap, ◌∙◌, arith, length-append}
use Rattle.std.specs.Prelude.{Result, Ok, Err}
use Rattle.std.specs.List.{flat_map}
use Rattle.std.proofs.Math.Seq.{take-append_seam, take-append-add}
use Rattle.std.proofs.lemmas.List.{length-map}
use Rattle.byte_grammar.specs.Causes.{AnswersWhere}
use Rattle.byte_grammar.proofs.AnswerLaws.{NamesFault, memory_if, answers_where}
use Rattle.msg_head.specs.declared.limits.TheConstants.{MAX_HEAD_BYTES}
use Rattle.line_index.specs.declared.span.LineSpan.{LineSpan}
use Rattle.msg_head.specs.declared.trailer.TrailerRead.{TrailerRead}
use Rattle.msg_head.specs.declared.trailer.TrailerRead.TheVariants.{Whole, Partial}
use Rattle.msg_head.specs.declared.error.HeadError.{HeadError}
use Rattle.msg_head.specs.declared.error.HeadError.TheVariants.{Memory}
use Rattle.msg_head.specs.Lines.{FieldLine, line_text}
use Rattle.msg_head.specs.Cuts.{HasNoEnd}
use Rattle.msg_head.specs.Views.{line_at, FollowEachOther}
use Rattle.msg_head.specs.Trailers.{IsTrailerText, SpellsTrailer, IsTrailerSection, IsTrailerUnfinished, after_chunks}
use Rattle.msg_head.specs.TrailerCauses.{IsTrailerTooLong, IsTrailerError}
use Rattle.msg_head.specs.TrailerViews.{TrailerParts, IsTrailerViewOf, trailer_lines_of}
use Rattle.msg_head.specs.TrailerOutcome.{IsTrailerUnlessMemory}
use Rattle.msg_head.specs.Laws.{NoFaultAtTrailer, NoTrailerAnswerYet}
use Rattle.msg_head.specs.tools.Sections.{AreSpansOf}
use Rattle.msg_head.specs.tools.TrailerJudged.{IsTrailerSectionView, ExplainsTrailer}
use Rattle.msg_head.proofs.Wholes.{all_of, wider_section, section_short, own_section, none_of}
use Rattle.msg_head.proofs.OneAnswer.{memory_or_not}
use Rattle.msg_head.proofs.TrailerCuts.{section_first, one_trailer_law}
use Rattle.msg_head.proofs.TrailerFaults.{one_trailer_fault, no_cause_at_trailer, no_cause_yet, trailer_not_both}

-- ---- the bytes that a trailer section may have

-- the first bytes of those after the last chunk's line
after_first : (count : ℕ) (bytes prefix : List ℕ) → prefix ≡ take count bytes → 13 ∷ 10 ∷ prefix ≡ take (2 + count) (13 ∷ 10 ∷ bytes)
after_first count bytes prefix is = ap (λ (x : List ℕ). 13 ∷ 10 ∷ x) is ∙ sym (take-append-add (13 ∷ 10 ∷ []) bytes count)

pub wider_trailer : (count : ℕ) (bytes prefix section : List ℕ) → prefix ≡ take count bytes → IsTrailerSection prefix section → IsTrailerSection bytes section
wider_trailer count bytes prefix section is s =
    wider_section (2 + count) (13 ∷ 10 ∷ bytes) (13 ∷ 10 ∷ prefix) (13 ∷ 10 ∷ section) (after_first count bytes prefix is) s

pub trailer_short : (count : ℕ) (bytes prefix section : List ℕ) → prefix ≡ take count bytes → IsTrailerSection prefix section → length section ≤ count
trailer_short count bytes prefix section is s =
    omega (arith, section_short (2 + count) (13 ∷ 10 ∷ bytes) (13 ∷ 10 ∷ prefix) (13 ∷ 10 ∷ section) (after_first count bytes prefix is) s)

pub own_trailer : (bytes section : List ℕ) → IsTrailerSection bytes section → IsTrailerSection section section
own_trailer bytes section s = own_section (13 ∷ 10 ∷ bytes) (13 ∷ 10 ∷ section) s

-- where no end is among the first bytes
pub trailer_unfinished : (bytes prefix : List ℕ) → prefix ≡ take MAX_HEAD_BYTES bytes → HasNoEnd (after_chunks prefix) → length bytes < MAX_HEAD_BYTES → IsTrailerUnfinished bytes
trailer_unfinished bytes prefix is none short = record {
  no_end = λ before after e. none before after (ap (λ (x : List ℕ). 13 ∷ 10 ∷ x) (all_of MAX_HEAD_BYTES bytes prefix is short) ∙ e);
  short = short;
}

pub trailer_long : (bytes prefix : List ℕ) → prefix ≡ take MAX_HEAD_BYTES bytes → HasNoEnd (after_chunks prefix) → MAX_HEAD_BYTES ≤ length bytes → IsTrailerTooLong bytes
trailer_long bytes prefix is none size = record { long = size; no_end = λ before after e. none before after (ap (λ (x : List ℕ). 13 ∷ 10 ∷ x) is ∙ e) }

-- bytes that are unfinished have no section
pub no_trailer_section : (bytes section : List ℕ) → IsTrailerUnfinished bytes → ¬ IsTrailerSection bytes section
no_trailer_section bytes section u = none_of (13 ∷ 10 ∷ bytes) (13 ∷ 10 ∷ section) u.no_end

-- ---- views

-- the view of the field lines that were read
pub trailer_view : (section : List ℕ) (spans : List LineSpan) → length section ≤ MAX_HEAD_BYTES → AreSpansOf section spans section → IsTrailerSectionView (record { bytes = section; spans = spans }) section
trailer_view section spans short s =
    let size = ap (length {A = ℕ}) s.joined ∙ length-append (flat_map line_text (map (line_at section) spans)) (13 ∷ 10 ∷ []) in
    let from : length section - length section ≡ 0 = omega arith in
    record {
      bytes_are = refl;
      spells = record {
        is = record { each = s.each; few = omega (arith, s.few, length-map spans (line_at section)); short = omega (arith, short, ap (length {A = ℕ}) s.joined) };
        text = s.joined;
      };
      fills = (
        length section - 2,
        subst (λ (n : ℕ). FollowEachOther n spans (length section - 2)) from s.follow,
        omega (arith, size),
      );
    }

-- the view of the section is one of the bytes
pub trailer_view_of : (bytes section : List ℕ) (view : TrailerParts) → IsTrailerSection bytes section → IsTrailerSectionView view section → IsTrailerViewOf bytes view (length section)
trailer_view_of bytes section view s v =
    let first = section_first bytes section s in
    record {
      within = omega (arith, ap (length {A = ℕ}) first, length-append section s.more);
      bytes_are = v.bytes_are ∙ sym (take-append_seam section s.more) ∙ ap (λ (x : List ℕ). take (length section) x) (sym first);
      spells = subst (λ (x : List ℕ). IsTrailerText (trailer_lines_of view) x) (sym v.bytes_are) v.spells;
      fills = v.fills;
    }

trailer_spelled_by : (bytes : List ℕ) (view : TrailerParts) (used : ℕ) → IsTrailerViewOf bytes view used → SpellsTrailer (trailer_lines_of view) used bytes
trailer_spelled_by bytes view used v = record { within = v.within; spells = subst (λ (x : List ℕ). IsTrailerText (trailer_lines_of view) x) v.bytes_are v.spells }

-- ---- the clauses of the reader

pub trailer_found_is : (bytes : List ℕ) (result : Result TrailerRead HeadError) → ExplainsTrailer bytes result → (lines : List FieldLine) (used : ℕ) → SpellsTrailer lines used bytes → IsTrailerUnlessMemory result lines used
trailer_found_is bytes (Ok (Whole view count)) x lines used s =
    one_trailer_law bytes (trailer_lines_of view) lines count used (trailer_spelled_by bytes view count x) s
trailer_found_is bytes (Ok Partial) x lines used s = trailer_not_both bytes lines used s x
trailer_found_is bytes (Err fault) x lines used s = memory_if Memory memory_or_not fault (λ own. no_cause_at_trailer bytes lines used s fault (x own).holds)

named : (bytes : List ℕ) (result : Result TrailerRead HeadError) → ExplainsTrailer bytes result → NamesFault Memory (IsTrailerError bytes) result
named bytes (Ok (Whole view count)) x =
    λ fault f. no_cause_at_trailer bytes (trailer_lines_of view) count (trailer_spelled_by bytes view count x) fault f.holds
named bytes (Ok Partial) x = λ fault f. no_cause_yet bytes x fault f.holds
named bytes (Err fault) x = x

pub trailer_fault_is : (bytes : List ℕ) (result : Result TrailerRead HeadError) → ExplainsTrailer bytes result → (fault : HeadError) → fault ≢ Memory → AnswersWhere Memory result fault (IsTrailerError bytes fault)
trailer_fault_is bytes result x = answers_where Memory memory_or_not (IsTrailerError bytes) result (one_trailer_fault bytes) (named bytes result x)

-- the laws of answers
pub no_fault_at_trailer_law : NoFaultAtTrailer
no_fault_at_trailer_law bytes lines used fault spells is = no_cause_at_trailer bytes lines used spells fault is.holds

pub no_trailer_answer_yet_law : NoTrailerAnswerYet
no_trailer_answer_yet_law bytes unfinished =
    ((λ fault is. no_cause_yet bytes unfinished fault is.holds), (λ lines used spells. trailer_not_both bytes lines used spells unfinished))
