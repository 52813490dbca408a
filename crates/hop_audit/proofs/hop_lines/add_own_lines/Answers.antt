use Rattle.std.proofs.Common.{◌≡◌, ◌∙◌, ℕ, List, ap, subst, sym, refl, Bool}
use Rattle.std.specs.Prelude.{OnOk}
use Rattle.std.specs.List.{All}
use Rattle.msg_body.specs.Messages.{IsMessage, Message, Spells, message_text}
use Rattle.component_values.specs.Context.{MessageContext, answers_head, context_of}
use Rattle.signatures.specs.MessageSignatures.{AreSignaturesOf}
use Rattle.hop_audit.specs.declared.walk.Mark.{Mark}
use Rattle.hop_audit.specs.tools.HopLines.{AddsLabelLines, AreJudged, SaysExplained}
use Rattle.hop_audit.specs.tools.Stages.{StageState}
use Rattle.hop_audit.specs.tools.Walked.{HoldSignatures, IsMarkInRange, SaysWalked}
use Rattle.hop_audit.proofs.CarriedTags.{hop_lines_longer}
use Rattle.hop_audit.proofs.JudgedHops.{all_judged, hold_signatures, hop_added, in_same, marks_in_range, on_ok, says_explanation, walked_in_range}
use Rattle.hop_audit.proofs.hop_lines.add_own_lines.Goals as goal

pub walk-requires-clause-marks : goal.walk-requires-clause-marks
walk-requires-clause-marks c =
    let own = c.before-2.inside in
    let was = c.in_ok-marks.marks.marks.items in
    let marks = c.in_ok-marks.ensures own.exchange.context.message c.before-2.invariant.signatures_are in
    subst (λ (m : MessageContext). HoldSignatures m.message was) (sym c.context.ensures) (hold_signatures own.exchange.context.message marks.labels was marks.each)

pub add_label_lines-requires-clause-in_range : goal.add_label_lines-requires-clause-in_range
add_label_lines-requires-clause-in_range c =
    let message = c.before-2.inside.exchange.context.message in
    let was = c.in_ok-marks.marks.marks.items in
    let now = c.walk.new.marks.marks.items in
    let marks = c.in_ok-marks.ensures message c.before-2.invariant.signatures_are in
    subst (λ (l : List Mark). All IsMarkInRange l) (sym c.as_slice-marks.ensures.value)
    (walked_in_range (context_of c.context.result) c.args.script.now was now c.in_ok-walked.walked c.in_ok-walked.ensures (marks_in_range message marks.labels was marks.each))

pub returns-clause-lines : goal.returns-clause-lines
returns-clause-lines c =
    let context = c.args.before.now.context in
    let other = c.args.after.now.context.message in
    let script = c.args.script.now in
    let to_head = answers_head context.related in
    let explained = c.explanation-explained.result.0 in
    let stopped = c.explanation-explained.result.1 in
    let walked = c.in_ok-walked.walked in
    let was = c.in_ok-marks.marks.marks.items in
    let now = c.walk.new.marks.marks.items in
    let slice = c.as_slice-marks.result.now in
    let before_is : c.before-2.inside.exchange.context ≡ context = ap (λ (s : StageState). s.context) c.before-2.view_is in
    let after_is : c.after.inside.exchange.context ≡ c.args.after.now.context = ap (λ (s : StageState). s.context) c.after.view_is in
    let message_is : c.after.inside.exchange.context.message ≡ other = ap (λ (m : MessageContext). m.message) after_is in
    let whole_as : IsMessage (answers_head c.args.after.now.context.related) other = subst (λ (m : MessageContext). IsMessage (answers_head m.related) m.message) after_is c.after.invariant.whole in
    let whole : IsMessage to_head other = subst (λ (b : Bool). IsMessage b other) (ap (λ (m : MessageContext). answers_head m.related) c.requires.alike) whole_as in
    let spells : Spells to_head other (message_text other) = record { is = whole; text = refl } in
    let marks = c.in_ok-marks.ensures context.message (subst (λ (m : MessageContext). AreSignaturesOf m.message c.before-2.inside.signatures) before_is c.before-2.invariant.signatures_are) in
    let leads = subst (λ (m : MessageContext). SaysWalked m script was now walked) (c.context.ensures ∙ before_is) c.in_ok-walked.ensures in
    let bytes_is : c.bytes.result.now ≡ message_text other = c.bytes.ensures ∙ ap message_text (c.message.ensures ∙ message_is) in
    let says = subst (λ (t : List ℕ). SaysExplained walked t explained stopped) bytes_is c.explanation-explained.ensures in
    let judged : AreJudged context c.args.index script other marks.labels slice explained =
    subst (λ (m : List Mark). AreJudged context c.args.index script other marks.labels m explained) (sym c.as_slice-marks.ensures.value) (λ hop between. all_judged context script hop c.args.index other between marks.labels was now walked (message_text other) explained stopped spells marks.each leads says) in
    let lines = in_same (λ (m : MessageContext) (o : Message). AreJudged m c.args.index script o marks.labels slice explained
    → OnOk c.add_label_lines.result (AddsLabelLines m c.args.index script o marks.labels c.push.new.self c.add_label_lines.new.lines)) c.before-2.inside.exchange.context context _ other
    (c.add_label_lines.ensures.lines script marks.labels) before_is (cc) in
    on_ok c.add_label_lines.result
    (hop_added context c.args.index script other marks.labels explained stopped c.args.lines.now c.push.new.self c.add_label_lines.new.lines marks.are
    (says_explanation context script was now walked other (message_text other) explained stopped spells leads says) c.in_ok-push.ensures.ok)
    (lines judged)

pub returns-clause-longer : goal.returns-clause-longer
returns-clause-longer c =
    on_ok c.add_label_lines.result
    (hop_lines_longer c.args.before.now.context c.args.index c.args.script.now c.args.after.now.context.message c.args.lines.now c.add_label_lines.new.lines) (returns-clause-lines c)
