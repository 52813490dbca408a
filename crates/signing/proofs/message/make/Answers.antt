use Rattle.std.proofs.Common.{sym, ◌∙◌}
use Rattle.component_values.specs.Context.{context_of}
use Rattle.signing.proofs.Making.{no_digest}
use Rattle.signing.proofs.message.make.Goals as goal

pub returns-then-digest-eq0 : goal.returns-then-digest-eq0
returns-then-digest-eq0 c =
    let context = context_of c.args.context.now in
    let none = sym c.in_ok-digest.ensures.count ∙ c.if-digest-eq0.true in
    c.make_of_context.ensures context (no_digest context c.args.spec.now.digest none) (record { parts_are = c.parts_of-parts.ensures; digest_is = c.in_ok-digest.ensures; none = c.requires.judged })

pub make_with_digest-requires-clause-judged : goal.make_with_digest-requires-clause-judged
make_with_digest-requires-clause-judged c = record { parts_are = c.parts_of-parts.ensures; digest_is = c.in_ok-digest.ensures; none = c.requires.judged }

pub returns : goal.returns
returns c = c.make_with_digest.ensures
