use Rattle.std.proofs.Common.{sym, ap, ◌∙◌}
use Rattle.line_rewrites.specs.RawValues.{without_first_spacing, without_last_spacing}
use Rattle.normal_forms.proofs.SideFolds.{fold_shortens, unfolds_end, unfolds_more, unfolds_start}
use Rattle.normal_forms.proofs.clean.push_unfolds.Goals as goal

pub folds-init : goal.folds-init
folds-init c = unfolds_start c.args.side c.args.index c.args.raw.now c.args.steps.now c.requires

pub folds-smaller : goal.folds-smaller
folds-smaller c =
    fold_shortens c.folds.rest.now c.without_first_spacing-rest.result.now c.in-Some.fold (sym c.in-Some.ensures) (c.without_first_spacing-rest.ensures ∙ ap without_first_spacing c.split_at.ensures.back)

pub folds-preserved : goal.folds-preserved
folds-preserved c =
    unfolds_more c.args.side c.args.index c.args.raw.now c.folds.done c.in-Some.fold c.folds.rest.now c.without_last_spacing.result.now c.without_first_spacing-rest.result.now c.args.steps.now c.folds.steps c.push.new.self
    (sym c.in-Some.ensures) (c.without_last_spacing.ensures ∙ ap without_last_spacing c.split_at.ensures.front) (c.without_first_spacing-rest.ensures ∙ ap without_first_spacing c.split_at.ensures.back) c.in_ok-push.ensures.ok c.folds.invariant

pub returns : goal.returns
returns c = unfolds_end c.args.side c.args.index c.args.raw.now c.folds.done c.folds.rest.now c.args.steps.now c.folds.steps (sym c.in_default.ensures) c.folds.invariant
