use Rattle.std.proofs.Common.{refl, arith}
use Rattle.byte_grammar.proofs.AnswerLaws.{err_of}
use Rattle.framing.specs.declared.chunks.Stop.TheVariants.{Left}
use Rattle.framing.specs.tools.JudgedChunks.{IsStop}
use Rattle.framing.proofs.Finding.{first_found, left_within, stopped_at_line, stopped_at_data, line_count, too_long, next_found, data_count, last_found}
use Rattle.framing.proofs.NextChunks.{not_last}
use Rattle.framing.proofs.chunks.find_chunks.Goals as goal

pub chunks-init : goal.chunks-init
chunks-init c = first_found c.args.bytes.now

pub returns-in_err-first-clause-err : goal.returns-in_err-first-clause-err
returns-in_err-first-clause-err c =
    err_of c.from_residual.result (λ stop. IsStop c.args.bytes.now stop) (Left c.in_err-first.field-0.0.0) c.from_residual.ensures.1 (stopped_at_line c.chunks.invariant c.in_err-first.field-0.0.0 c.in_err-first.ensures.gives)

pub overflow_sub-result-then-is_last : goal.overflow_sub-result-then-is_last
overflow_sub-result-then-is_last c = omega (arith, left_within c.chunks.invariant, line_count c.chunks.invariant c.in_ok-first.ensures.gives)

pub returns-then-is_last-clause-ok : goal.returns-then-is_last-clause-ok
returns-then-is_last-clause-ok c =
    last_found c.chunks.invariant c.in_ok-first.ensures.gives _ (c.if-is_last.ensures.0 refl) refl refl refl refl

pub returns-then-first-room-clause-err : goal.returns-then-first-room-clause-err
returns-then-first-room-clause-err c = too_long c.chunks.invariant c.in_ok-first.ensures.gives c.if-first-room.true

pub returns-in_err-after-clause-err : goal.returns-in_err-after-clause-err
returns-in_err-after-clause-err c =
    err_of c.from_residual-in_err-after.result (λ stop. IsStop c.args.bytes.now stop) (Left c.in_err-after.field-0.0.0) c.from_residual-in_err-after.ensures.1
    (stopped_at_data c.chunks.invariant c.in_ok-first.ensures.gives c.in_err-after.field-0.0.0 (not_last c.if-is_last.ensures) (omega (arith, c.if-first-room.false)) c.in_err-after.ensures)

pub overflow_add-count : goal.overflow_add-count
overflow_add-count c = omega (arith, c.chunks.invariant.few)

pub chunks-smaller : goal.chunks-smaller
chunks-smaller c =
    omega (arith, line_count c.chunks.invariant c.in_ok-first.ensures.gives, (data_count c.chunks.invariant c.in_ok-first.ensures.gives _ _ c.in_ok-after.ensures).1)

pub chunks-preserved : goal.chunks-preserved
chunks-preserved c =
    next_found c.chunks.invariant c.in_ok-first.ensures.gives c.in_ok-after.field-0-0.now c.in_ok-after.after.now (not_last c.if-is_last.ensures) (omega (arith, c.if-first-room.false)) c.in_ok-after.ensures
