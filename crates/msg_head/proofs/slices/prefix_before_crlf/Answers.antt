use Rattle.std.proofs.Common.{[], ◌∷◌}
use Rattle.msg_head.proofs.Prefixes.{one_before, given_none}
use Rattle.msg_head.proofs.slices.prefix_before_crlf.Goals as goal

pub returns-in_err-rest-clause-none : goal.returns-in_err-rest-clause-none
returns-in_err-rest-clause-none g c = given_none c.from_residual-in_err-rest.result (λ prefix more s.
    let same = one_before (g.C.ByteClass.members c.args.class) 13 [] c.in_ok-prefix.prefix.now prefix c.in_ok-prefix.rest.now (10 ∷ more) c.args.bytes.now c.requires c.in_ok-prefix.ensures.some (record { each = s.each; joined = s.joined }) in
    c.in_err-rest.ensures.none more same.1)
