use Rattle.std.proofs.Common.{sym}
use Rattle.settings.specs.Covered.{params_of}
use Rattle.settings.proofs.Covers.{not_id_memory}
use Rattle.settings.proofs.covered.ids_of.Goals as goal

pub returns : goal.returns
returns c = λ ids same is.
    not_id_memory c.in-Err.fault (sym c.if-is_id_memory.ensures) (c.in-Err.ensures.only (params_of ids) is same)
