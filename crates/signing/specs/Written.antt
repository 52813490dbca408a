-- Messages with further header lines, and the lines that signing adds.
use Rattle.std.specs.Prelude.{ℕ, Option, Some, None, List, [], ◌∷◌, ◌++◌, codes, if◌then◌else◌}
use Rattle.sfv_text.specs.Strict.{bytes_text, dict_text}
use Rattle.msg_head.specs.declared.error.Side.TheVariants.{Header}
use Rattle.msg_head.specs.Lines.{FieldLine}
pub use Rattle.msg_head.specs.Lines.{line_of, member_line}
use Rattle.msg_head.specs.Values.{is_there}
use Rattle.msg_body.specs.Messages.{Message}
use Rattle.msg_body.specs.Views.{lines_on, message_content}
use Rattle.component_ids.specs.SignatureParams.{sig_params_text}
use Rattle.component_values.specs.Context.{MessageContext, context_with}
use Rattle.content_digest.specs.Digests.{digest_dict}
pub use Rattle.content_digest.specs.Digests.{digest_name}
use Rattle.content_digest.specs.declared.algorithm.Algorithm.{Algorithm}
use Rattle.signing.specs.declared.spec.SignSpec.{SignSpec}

-- ---- messages

-- the message with these lines after its header lines
abbrev pub with_lines : Message → List FieldLine → Message
with_lines message lines = record {
  head = record { start = message.head.start; lines = message.head.lines ++ lines };
  framing = message.framing;
  body = message.body;
}

-- ---- lines

-- the line of the content's digest, where one is asked for and the header has no such line (RFC
-- 9530 section 2)
abbrev pub digest_lines : Message → Option Algorithm → List FieldLine
digest_lines message None = []
digest_lines message (Some algorithm) =
    if is_there (lines_on Header message) digest_name then []
    else line_of (codes "Content-Digest")
    (dict_text (digest_dict algorithm (message_content message))) ∷ []

-- the label's signature parameters and its tag (RFC 9421 sections 4.1 and 4.2)
abbrev pub signature_lines : SignSpec → List ℕ → List FieldLine
signature_lines spec tag =
    member_line (codes "Signature-Input") spec.label (sig_params_text spec.params)
    ∷ member_line (codes "Signature") spec.label (bytes_text tag) ∷ []

-- ---- messages that are signed

-- the message with the line of its digest
abbrev pub with_digest : Message → Option Algorithm → Message
with_digest message digest = with_lines message (digest_lines message digest)

-- the context, its message with the line of its digest
abbrev pub context_with_digest : MessageContext → Option Algorithm → MessageContext
context_with_digest context digest =
    context_with context (with_digest context.message digest)

-- the message with the line of its digest and those of the signature with this tag
abbrev pub signed_message : Message → SignSpec → List ℕ → Message
signed_message message spec tag =
    with_lines message (digest_lines message spec.digest ++ signature_lines spec tag)
