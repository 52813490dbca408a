use Rattle.std.proofs.Common.{rules}
use Rattle.std.proofs.lemmas.Bool.{false≢true}
use Rattle.msg_body.specs.Views.{message_of}
use Rattle.signatures.specs.ContentDigests.{digest_text}
use Rattle.negotiation.proofs.digest.are_right.Goals as goal

pub returns : goal.returns
returns c = (
  λ unset. absurd (false≢true unset),
  λ right. let memory = c.in-Err.ensures.there (digest_text (message_of c.args.response.now)) c.requires.reads right in search rules,
)
