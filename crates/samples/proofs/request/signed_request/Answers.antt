use Rattle.std.proofs.Common.{◌∙◌}
use Rattle.samples.proofs.request.signed_request.Goals as goal

pub signed_text-requires-clause-request : goal.signed_text-requires-clause-request
signed_text-requires-clause-request c = (c.args.seed, c.bytes.ensures ∙ c.in_ok-text.ensures)

pub returns : goal.returns
returns c = c.signed_text.ensures c.args.seed (c.bytes.ensures ∙ c.in_ok-text.ensures)
