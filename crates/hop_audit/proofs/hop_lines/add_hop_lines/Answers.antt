use Rattle.std.proofs.Common.{◌≡◌, ◌∙◌, List, ap, drop, length, subst, sym}
use Rattle.std.specs.List.{AllZip}
use Rattle.component_values.specs.Context.{MessageContext}
use Rattle.settings.specs.Configuration.{Configuration}
use Rattle.settings.specs.ConfMeaning.{meaning}
use Rattle.hop_audit.specs.declared.line.AuditLine.{AuditLine}
use Rattle.hop_audit.specs.tools.Carried.{KnowTags, TellsTag}
use Rattle.hop_audit.specs.tools.Stages.{StageState}
use Rattle.hop_audit.proofs.CarriedTags.{hop_lines_tell, lines_from}
use Rattle.hop_audit.proofs.hop_lines.add_hop_lines.Goals as goal

pub invariant_of-after : goal.invariant_of-after
invariant_of-after c =
    let context = c.args.before.now.context in
    let before = c.before-2.inside in
    let after = c.after.inside in
    let conf = meaning after.conf.now in
    let same_before = c.before-2.view_is ∙ c.in_ok-add_own_lines.ensures.before in
    let same_after = c.after.view_is ∙ c.in_ok-add_own_lines.ensures.after in
    let before_is : before.exchange.context ≡ context = ap (λ (s : StageState). s.context) same_before in
    let after_is : after.exchange.context ≡ c.args.after.now.context = ap (λ (s : StageState). s.context) same_after in
    let conf_is : meaning before.conf.now ≡ conf = ap (λ (s : StageState). s.conf) same_before ∙ sym (ap (λ (s : StageState). s.conf) same_after ∙ c.requires.conf) in
    let knows = subst (λ (k : Configuration). KnowTags k before.exchange.context before.known) conf_is c.before-2.invariant.tags in
    let tell = hop_lines_tell conf context c.args.index c.args.script.now c.args.after.now.context.message c.args.lines.now c.add_own_lines.new.lines c.in_ok-add_own_lines.ensures.lines in
    let rest = lines_from c.as_slice.result.now c.add_own_lines.new.lines c.args.lines.now c.len-first.result c.as_slice.ensures c.len-first.ensures in
    let own = subst (λ (m : MessageContext). AllZip (TellsTag conf m after.exchange.context) tell.0 (drop (length c.args.lines.now) c.add_own_lines.new.lines)) (sym before_is)
    (subst (λ (m : MessageContext). AllZip (TellsTag conf context m) tell.0 (drop (length c.args.lines.now) c.add_own_lines.new.lines)) (sym c.requires.alike ∙ sym after_is) tell.1) in
    record {
      now = c.after.invariant.now;
      whole = c.after.invariant.whole;
      signatures_are = c.after.invariant.signatures_are;
      tags = c.in_ok-after-inside.ensures conf before.exchange.context after.exchange.context tell.0 knows
          (subst (λ (lines : List AuditLine). AllZip (TellsTag conf before.exchange.context after.exchange.context) tell.0 lines) (sym rest) own);
    }
