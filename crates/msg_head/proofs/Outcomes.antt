-- Each answer to bytes has its cause, and no two causes are met.
use Rattle.std.proofs.Common.{◌≢◌, ℕ, List, ◌∷◌, [], ◌++◌, sym, ◌∙◌, arith, append_assoc}
use Rattle.std.specs.Prelude.{Result, Ok, Err}
use Rattle.byte_grammar.specs.Causes.{AnswersWhere}
use Rattle.byte_grammar.proofs.AnswerLaws.{NamesFault, memory_if, answers_where}
use Rattle.msg_head.specs.declared.head.HeadRead.{HeadRead}
use Rattle.msg_head.specs.declared.head.HeadRead.TheVariants.{Whole, Partial}
use Rattle.msg_head.specs.declared.error.Side.TheVariants.{Header, Trailer}
use Rattle.msg_head.specs.declared.error.HeadError.{HeadError}
use Rattle.msg_head.specs.declared.error.HeadError.TheVariants.{Memory, TooLong, NakedEnd, BadStart, TooManyLines, BadLine}
use Rattle.msg_head.specs.RawValues.{RawPieces}
use Rattle.msg_head.specs.Cuts.{IsSection, IsCut}
use Rattle.msg_head.specs.Heads.{Head, SpellsHead, IsUnfinished}
use Rattle.msg_head.specs.Views.{head_of}
use Rattle.msg_head.specs.Causes.{IsHeadCause, IsHeadError}
use Rattle.msg_head.specs.Outcome.{IsHeadUnlessMemory}
use Rattle.msg_head.specs.tools.Texts.{EndsWithLf}
use Rattle.msg_head.specs.tools.Judged.{ExplainsHead}
use Rattle.msg_head.specs.Laws.{NoFaultAtHead, NoHeadAnswerYet}
use Rattle.msg_head.proofs.HeadParts.{spelled_cut}
use Rattle.msg_head.proofs.Sectioning.{cut_section}
use Rattle.msg_head.proofs.OneHeads.{one_head_law}
use Rattle.msg_head.proofs.FaultLaws.{one_fault, no_cause_spelled}
use Rattle.msg_head.proofs.Wholes.{no_section, spelled_by}
use Rattle.msg_head.proofs.OneAnswer.{memory_or_not}

pub ends_with_lf : (bytes section : List ℕ) → IsSection bytes section → EndsWithLf section
ends_with_lf bytes section s = (s.before ++ 13 ∷ 10 ∷ 13 ∷ [], s.ends ∙ sym (append_assoc s.before (13 ∷ 10 ∷ 13 ∷ []) (10 ∷ [])))

-- ---- where bytes are unfinished

unfinished_cut : (bytes start : List ℕ) (lines : List RawPieces) → IsUnfinished bytes → ¬ IsCut start lines bytes
unfinished_cut bytes start lines u cut =
    let there = cut_section start lines bytes cut in no_section bytes there.section u there.is

no_cause_unfinished : (bytes : List ℕ) → IsUnfinished bytes → (fault : HeadError) → ¬ IsHeadCause bytes fault
no_cause_unfinished bytes u (TooLong Header) h =
    let short = u.short in
    let long = h.long in
    omega (arith, short, long)
no_cause_unfinished bytes u (TooLong Trailer) h = h
no_cause_unfinished bytes u (NakedEnd at) h = no_section bytes h.section u h.is
no_cause_unfinished bytes u BadStart h = unfinished_cut bytes h.start h.lines u h.cut
no_cause_unfinished bytes u (TooManyLines Header) h = unfinished_cut bytes h.start h.lines u h.cut
no_cause_unfinished bytes u (TooManyLines Trailer) h = h
no_cause_unfinished bytes u (BadLine Header at) h = unfinished_cut bytes h.start h.lines u h.cut
no_cause_unfinished bytes u (BadLine Trailer at) h = h
no_cause_unfinished bytes u Memory h = h

not_both : (bytes : List ℕ) (head : Head) (used : ℕ) → SpellsHead head used bytes → ¬ IsUnfinished bytes
not_both bytes head used s u =
    let own = spelled_cut head used bytes s in unfinished_cut bytes own.start.text own.lines.cuts u own.cut

-- ---- the clauses of the reader

pub found_is : (bytes : List ℕ) (result : Result HeadRead HeadError) → ExplainsHead bytes result → (head : Head) (used : ℕ) → SpellsHead head used bytes → IsHeadUnlessMemory result head used
found_is bytes (Ok (Whole view count)) x head used s =
    one_head_law bytes (head_of view) head count used (spelled_by bytes view count x) s
found_is bytes (Ok Partial) x head used s = not_both bytes head used s x
found_is bytes (Err fault) x head used s = memory_if Memory memory_or_not fault (λ own. no_cause_spelled bytes head used s fault (x own).holds)

named : (bytes : List ℕ) (result : Result HeadRead HeadError) → ExplainsHead bytes result → NamesFault Memory (IsHeadError bytes) result
named bytes (Ok (Whole view count)) x = λ fault f. no_cause_spelled bytes (head_of view) count (spelled_by bytes view count x) fault f.holds
named bytes (Ok Partial) x = λ fault f. no_cause_unfinished bytes x fault f.holds
named bytes (Err fault) x = x

pub fault_is : (bytes : List ℕ) (result : Result HeadRead HeadError) → ExplainsHead bytes result → (fault : HeadError) → fault ≢ Memory → AnswersWhere Memory result fault (IsHeadError bytes fault)
fault_is bytes result x = answers_where Memory memory_or_not (IsHeadError bytes) result (one_fault bytes) (named bytes result x)

-- the laws of answers
pub no_fault_at_head_law : NoFaultAtHead
no_fault_at_head_law bytes head used fault spells is = no_cause_spelled bytes head used spells fault is.holds

pub no_answer_yet_law : NoHeadAnswerYet
no_answer_yet_law bytes unfinished =
    ((λ fault is. no_cause_unfinished bytes unfinished fault is.holds), (λ head used spells. not_both bytes head used spells unfinished))
