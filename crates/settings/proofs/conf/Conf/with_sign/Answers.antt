use Rattle.settings.specs.ConfMeaning.{meaning}
use Rattle.settings.proofs.ValidInside.{valid_inside, valid_with_sign}
use Rattle.settings.proofs.conf.Conf.with_sign.Goals as goal

pub invariant_of-result : goal.invariant_of-result
invariant_of-result c = record {
  valid = ∣ valid_with_sign (meaning c.args.self) c.args.sign (valid_inside (meaning c.args.self) c.args.self.valid) c.requires ∣₁;
}
