use Rattle.std.specs.Prelude.{option_map}
use Rattle.component_values.specs.Context.{context_of}
use Rattle.conf.specs.ConfMeaning.{meaning}
use Rattle.commands.proofs.Signing.{asked}
use Rattle.commands.proofs.sign.sign_outcome.Goals as goal

pub returns-clause-report : goal.returns-clause-report
returns-clause-report c =
    asked (option_map (λ word. word.now) c.args.nonce) c.args.now (meaning c.args.conf.now) (context_of c.args.context.now) c.in_ok-spec.spec c.in_ok-spec.ensures.is
    c.sign_spec.result c.sign_spec.ensures.report
