use Rattle.std.proofs.Common.{sym}
use Rattle.std.proofs.lemmas.Result.{IfOk-weaker}
use Rattle.component_ids.specs.SignatureParams.{list_of}
use Rattle.settings.specs.Covered.{params_of}
use Rattle.settings.proofs.Covers.{covered_of, not_read}
use Rattle.settings.proofs.covered.read_covered.Goals as goal

pub returns-in-Ok : goal.returns-in-Ok
returns-in-Ok c =
    IfOk-weaker c.ids_of.result _ _ (λ o is. covered_of c.args.text.now c.in-Ok.list c.in-Ok.ensures.ok c.in-Ok.ensures.in_range o is) c.ids_of.ensures

pub returns-else-is_sf_memory : goal.returns-else-is_sf_memory
returns-else-is_sf_memory c = λ ids covered.
    not_read c.in-Err.error (list_of (params_of ids)) (sym c.if-is_sf_memory.ensures) (c.in-Err.ensures.only (list_of (params_of ids)) covered.reads)
