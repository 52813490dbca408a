use Rattle.std.proofs.Common.{◌≡◌, ◌++◌, ◌&&◌, ◌∙◌, sym, ap, true}
use Rattle.std.proofs.lemmas.List.{take-append-drop}
use Rattle.msg_body.specs.Spacing.{ends_in, is_solid}
use Rattle.line_rewrites.specs.tools.Computed.{is_space_before_solid}
use Rattle.line_rewrites.proofs.Cores.{lone_after}
use Rattle.line_rewrites.proofs.raw.is_before_lone_space.Goals as goal

pub returns-then-ends_solid : goal.returns-then-ends_solid
returns-then-ends_solid c =
    let cut = c.in-Some.ensures.cases in
    let rest = sym cut.2 ∙ c.in-Some-split_first.ensures.cases.0 in
    let first = sym cut.1 in
    let later = c.in-Some-split_first.later.now in
    let ends : true ≡ ends_in is_solid c.in-Some.before.now = sym c.if-ends_solid.true ∙ c.ends_solid.ensures in
    lone_after c.args.raw.now c.in-Some.before.now later c.args.at c.in-Some-split_first.field-0-0.now c.is_space_before_solid.result
    (sym (take-append-drop c.args.at c.args.raw.now) ∙ (λ i. first i ++ rest i)) (sym cut.3) (c.is_space_before_solid.ensures ∙ ap (λ b. b && is_space_before_solid later) ends)
