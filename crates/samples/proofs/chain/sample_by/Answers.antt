use Rattle.std.proofs.Common.{◌∙◌, ap, length, arith}
use Rattle.std.specs.Prelude.{count_by}
use Rattle.hop_audit.specs.Lines.{finds_fault}
use Rattle.samples.specs.Summary.{is_kept_line, is_ok_line, is_permitted_line}
use Rattle.samples.proofs.MadeChains.{is_made, made_count, sample_is, summary_fits}
use Rattle.samples.proofs.chain.sample_by.Goals as goal

pub report_on-requires-clause-made : goal.report_on-requires-clause-made
report_on-requires-clause-made c =
    let own = c.in_ok-first.ensures in
    let is = is_made c.args.seed c.args.count c.in_ok-first.first own c.in_ok-made.made c.as_slice-hops.result.now c.as_slice-hops.ensures (c.in_ok-made.ensures own) in
    (c.args.seed, c.args.count, c.requires.count, is)

pub summary_of-requires : goal.summary_of-requires
summary_of-requires c =
    let own = c.in_ok-first.ensures in
    let is = is_made c.args.seed c.args.count c.in_ok-first.first own c.in_ok-made.made c.as_slice-hops.result.now c.as_slice-hops.ensures (c.in_ok-made.ensures own) in
    let long = made_count c.args.seed c.args.count c.in_ok-first.first is.own c.as_slice-hops.result.now is.are in
    let few = c.requires.count in
    omega (arith, long, few)

pub returns : goal.returns
returns c =
    let own = c.in_ok-first.ensures in
    let slice = c.as_slice-hops.result.now in
    let is = is_made c.args.seed c.args.count c.in_ok-first.first own c.in_ok-made.made slice c.as_slice-hops.ensures (c.in_ok-made.ensures own) in
    sample_is c.args.seed c.args.count c.in_ok-first.first is.own slice is.are c.in_ok-lines.lines c.summary_of.result
    (c.in_ok-lines.ensures c.args.seed c.args.count c.requires.count is)
    (summary_fits c.args.seed c.args.count c.in_ok-first.first is.own slice is.are c.in_ok-lines.lines c.summary_of.result
    c.summary_of.ensures.hops c.summary_of.ensures.steps (c.summary_of.ensures.permitted ∙ ap (count_by is_permitted_line) c.as_slice.ensures)
    (c.summary_of.ensures.kept ∙ ap (count_by is_kept_line) c.as_slice.ensures) (c.summary_of.ensures.ok ∙ ap (count_by is_ok_line) c.as_slice.ensures)
    (c.summary_of.ensures.last ∙ ap length (c.last_of-last.ensures c.args.seed c.args.count is)) (c.summary_of.ensures.faulty ∙ ap finds_fault c.as_slice.ensures))
