use Rattle.std.proofs.Common.{◌≡◌, ◌++◌, ◌∙◌, ap, List, ℕ}
use Rattle.samples.specs.Summary.{summary_text}
use Rattle.commands.proofs.Sampled.{counted_sample, done_sample}
use Rattle.commands.proofs.sample.sample_outcome.Goals.{then-summary, else-summary}
use Rattle.commands.proofs.sample.sample_outcome.Goals as goal

pub returns-clause-report : goal.returns-clause-report
returns-clause-report c =
    let summary = c.in_ok-summary.summary in
    let is = c.in_ok-summary.ensures in
    let written : c.append_summary.new.text ≡ summary_text summary = c.in_ok-append_summary.ensures ∙ ap (λ (t : List ℕ). t ++ summary_text summary) c.new-text.ensures in
    elim c.if-summary.branch [
      | then-summary w ↦ counted_sample c.args.seed c.args.count summary c.append_summary.new.text c.if-summary.result is w.if-summary.true written w.result-is
      | else-summary w ↦ done_sample c.args.seed c.args.count summary c.append_summary.new.text c.if-summary.result is w.if-summary.false written w.result-is
    ]
