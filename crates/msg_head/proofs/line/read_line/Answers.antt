use Rattle.std.proofs.Common.{◌≡◌, ℕ, ◌<◌, List, length, sym, subst, arith}
use Rattle.std.proofs.lemmas.Bool.{eqb-true, eqb-false}
use Rattle.msg_head.specs.Cuts.{MakesLine}
use Rattle.msg_head.proofs.LineParts.{no_name, empty_name, no_raw, parts_of}
use Rattle.msg_head.proofs.CleanTexts.{clean_line}
use Rattle.msg_head.proofs.line.read_line.Goals as goal

pub returns-in_err-name-clause-there : goal.returns-in_err-name-clause-there
returns-in_err-name-clause-there c cut more b = rw c.from_residual.ensures (no_name cut more _ b c.in_err-name.ensures.none)

pub returns-then-is_empty-clause-there : goal.returns-then-is_empty-clause-there
returns-then-is_empty-clause-there c cut more b =
    let empty : length c.in_ok-name.name.now ≡ 0 = eqb-true _ _ (sym c.if-is_empty.ensures) in
    empty_name cut more _ _ _ b c.in_ok-name.ensures.some empty

pub returns-in_err-raw-clause-there : goal.returns-in_err-raw-clause-there
returns-in_err-raw-clause-there c cut more b =
    rw c.from_residual-in_err-raw.ensures (no_raw cut more _ _ _ b c.in_ok-name.ensures.some (λ pieces other s. c.in_err-raw.ensures.there pieces other s))

pub returns-clause-there : goal.returns-clause-there
returns-clause-there c cut more b =
    let apart = eqb-false _ _ (sym c.if-is_empty.ensures) in
    let some : 0 < length c.in_ok-name.name.now = omega (arith, apart) in
    let parts = parts_of cut more _ _ _ b c.in_ok-name.ensures.some some in
    let there = c.in_ok-raw.ensures.there parts.pieces more parts.begins in
    record {
      makes = subst (λ (raw : List ℕ). MakesLine cut (record { name = c.in_ok-name.name.now; raw = raw })) (sym there.0) parts.makes;
      rest_is = there.1;
    }

pub returns-clause-clean : goal.returns-clause-clean
returns-clause-clean c =
    clean_line c.args.bytes.now c.in_ok-name.name.now c.in_ok-name.after_name.now c.in_ok-raw.rest.now c.in_ok-name.ensures.some (omega (arith, c.in_ok-raw.ensures.sized)) c.in_ok-raw.ensures.clean
