use Rattle.std.proofs.Common.{◌∙◌, List, subst, sym}
use Rattle.std.specs.List.{AllZip}
use Rattle.settings.specs.ConfMeaning.{meaning}
use Rattle.hop_audit.specs.declared.line.AuditLine.{AuditLine}
use Rattle.hop_audit.specs.tools.Carried.{TellsTag}
use Rattle.hop_audit.specs.tools.Stages.{StageState}
use Rattle.hop_audit.specs.tools.Written.{AddsMessageLines}
use Rattle.hop_audit.proofs.CarriedTags.{lines_from, message_lines_tell}
use Rattle.hop_audit.proofs.stage.Stage.add_lines.Goals as goal

pub invariant_of-self : goal.invariant_of-self
invariant_of-self c =
    let conf = meaning c.self.inside.conf.now in
    let context = c.self.inside.exchange.context in
    let is = c.self.view_is ∙ c.in_ok-add_each.ensures.same in
    let adds : AddsMessageLines conf context c.args.index c.self.inside.moment c.args.lines.now c.add_each.new.lines =
    subst (λ (s : StageState). AddsMessageLines s.conf s.context c.args.index s.moment c.args.lines.now c.add_each.new.lines) (sym is) c.in_ok-add_each.ensures.lines in
    let tell = message_lines_tell conf context c.args.index c.self.inside.moment c.args.lines.now c.add_each.new.lines adds in
    let rest = lines_from c.as_slice.result.now c.add_each.new.lines c.args.lines.now c.len-first.result c.as_slice.ensures c.len-first.ensures in
    record {
      now = c.self.invariant.now;
      whole = c.self.invariant.whole;
      signatures_are = c.self.invariant.signatures_are;
      tags = c.in_ok-self-inside.ensures conf context context tell.0 c.self.invariant.tags
          (subst (λ (lines : List AuditLine). AllZip (TellsTag conf context context) tell.0 lines) (sym rest) tell.1);
    }
