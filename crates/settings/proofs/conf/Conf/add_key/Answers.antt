use Rattle.settings.proofs.ValidInside.{valid_inside}
use Rattle.settings.proofs.ValidLaws.{valid_after}
use Rattle.settings.specs.ConfMeaning.{meaning}
use Rattle.settings.proofs.conf.Conf.add_key.Goals as goal

pub invariant_of-self : goal.invariant_of-self
invariant_of-self c =
    let conf = meaning c.args.self.now in
    record {
      valid = ∣ valid_after conf c.add.new.self c.args.keyid.now c.args.key.now c.add.result
          (valid_inside conf c.args.self.now.valid) c.requires.keyid c.requires.key c.add.ensures.ok c.add.ensures.err ∣₁;
    }
