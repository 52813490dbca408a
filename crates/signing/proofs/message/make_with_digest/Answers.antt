use Rattle.std.proofs.Common.{◌++◌, ℕ, List, Option, is_some, length, sym, ap, subst, ◌∙◌}
use Rattle.std.proofs.lemmas.Bool.{false≢true}
use Rattle.msg_body.specs.Messages.{Spells}
use Rattle.component_values.specs.Context.{context_of, answers_head}
use Rattle.signing.specs.SignCauses.{passed_limit}
use Rattle.signing.specs.Written.{digest_lines, with_digest}
use Rattle.signing.proofs.Making.{digest_spelled, digest_too_long, none_of_option}
use Rattle.signing.proofs.message.make_with_digest.Goals as goal

pub unreachable-requires : goal.unreachable-requires
unreachable-requires c =
    let message = (context_of c.args.context.now).message in
    let spec = c.args.spec.now in
    let judged = c.requires.judged in
    let passed = c.passed_limit.ensures message (digest_lines message spec.digest) judged.parts_are (ap (λ (t : List ℕ). length t) (c.bytes-bytes.ensures ∙ judged.digest_is.text)) judged.digest_is.count in
    let short = digest_too_long message spec c.args.parts judged.parts_are (sym (c.in_ok-limit.ensures message judged.parts_are judged.digest_is) ∙ c.in-None.is) in
    false≢true (ap (λ (o : Option ℕ). is_some o) (sym (passed ∙ short)) ∙ (sym c.is_some.ensures ∙ c.if-is_some.true))

pub make_of_bytes-requires-clause-spells : goal.make_of_bytes-requires-clause-spells
make_of_bytes-requires-clause-spells c =
    let context = context_of c.args.context.now in
    let spec = c.args.spec.now in
    let parts = c.args.parts in
    let judged = c.requires.judged in
    let passed = c.passed_limit.ensures context.message (digest_lines context.message spec.digest) judged.parts_are (ap (λ (t : List ℕ). length t) (c.bytes-bytes.ensures ∙ judged.digest_is.text)) judged.digest_is.count in
    let short = none_of_option (passed_limit (with_digest context.message spec.digest)) (ap (λ (o : Option ℕ). is_some o) (sym passed) ∙ (sym c.is_some.ensures ∙ c.if-is_some.false)) in
    let text = c.bytes.ensures ∙ (c.in_ok-text.ensures ∙ ap (λ (t : List ℕ). parts.before.now ++ (t ++ parts.after.now)) c.bytes-bytes.ensures) in
    subst (λ (t : List ℕ). Spells (answers_head context.related) (with_digest context.message spec.digest) t) (sym text)
    (digest_spelled (answers_head context.related) context.message spec.digest parts c.args.digest.now c.requires.whole judged.parts_are judged.digest_is short)
