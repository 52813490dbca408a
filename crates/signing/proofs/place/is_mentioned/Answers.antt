use Rattle.std.proofs.Common.{ℕ, List, Option, None, ap, subst, sym, ◌∙◌}
use Rattle.memchr.specs.Find.{FindsNeedle}
use Rattle.msg_head.specs.Values.{combined_value, joined_value}
use Rattle.msg_head.specs.declared.error.Side.TheVariants.{Header}
use Rattle.msg_body.specs.Views.{lines_on, message_of}
use Rattle.signing.proofs.Making.{none_of_option}
use Rattle.signing.proofs.Mentions.{never_a_key}
use Rattle.signing.proofs.place.is_mentioned.Goals as goal

pub returns : goal.returns
returns c = λ mentioned there.
    let message = message_of c.args.message.now in
    let label = c.args.label.now in
    let text_is = c.bytes.ensures ∙ (c.in_ok-value.ensures ∙ ap joined_value c.lines_named.ensures) in
    let none = none_of_option c.find.result (sym c.is_some.ensures ∙ mentioned) in
    let found = subst (λ (t : List ℕ). FindsNeedle t label 0 None) text_is (subst (λ (o : Option ℕ). FindsNeedle c.bytes.result.now label 0 o) none c.find.ensures) in
    never_a_key label (combined_value (lines_on Header message) c.args.name.now) there.1.dict there.0 found there.1.has.reads there.1.member_is
