use Rattle.std.proofs.Common.{refl, sym}
use Rattle.toml.specs.View.{view}
use Rattle.conf.proofs.KeyLaws.{key_of_other}
use Rattle.conf.proofs.key_texts.add_entry.Goals as goal

pub returns-in_default-clause-ok : goal.returns-in_default-clause-ok
returns-in_default-clause-ok c =
    let none = key_of_other (view c.args.value.now) (sym c.in_default.ensures) in
    rw none refl
