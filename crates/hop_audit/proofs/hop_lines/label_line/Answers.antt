use Rattle.std.proofs.Common.{◌≡◌, ◌∙◌, ◌&&◌, Bool, ap, sym}
use Rattle.hop_audit.proofs.JudgedHops.{judged_line}
use Rattle.hop_audit.proofs.hop_lines.label_line.Goals as goal
use Rattle.hop_audit.proofs.hop_lines.label_line.Goals.{then-hop, else-hop}

pub fate_of-requires-clause-in_range : goal.fate_of-requires-clause-in_range
fate_of-requires-clause-in_range c = rw c.in-Some.is at c.requires.in_range

pub returns-clause-line : goal.returns-clause-line
returns-clause-line c = λ placed judged.
    let both = λ (b : Bool). b && c.args.mark.now.permitted in
    let permitted : c.if-hop.permitted ≡ both c.args.hop.explained = elim c.if-hop.branch [
      | then-hop w ↦ w.permitted-is ∙ ap both (sym w.if-hop.true)
      | else-hop w ↦ w.permitted-is ∙ (w.if-hop.false ∙ ap both (sym w.if-hop.false))
    ] in
    judged_line c.args.before.now.context placed c.args.hop.index c.args.after.now.context.message c.args.hop.explained c.args.mark.now judged c.in_ok-label.label c.in-Some.read
    c.if-hop.permitted c.in_ok-fate.fate c.in_ok-label.ensures.ok c.in-Some.is permitted c.in_ok-fate.ensures.fate
