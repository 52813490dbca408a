use Rattle.std.proofs.Common.{sym, ◌∙◌}
use Rattle.std.proofs.lemmas.Bool.{false≢true}
use Rattle.std.proofs.lemmas.Result.{err_from_is_err_and}
use Rattle.field_lists.specs.tools.Views.{control_of}
use Rattle.field_lists.proofs.PartAnswers.{bad_body, bad_one, bad_size, memory_judged, no_fault, other_scheme, other_scheme_is, same_scheme_is, too_large}
use Rattle.field_lists.proofs.parts.Parts.judge.Goals as goal

pub returns-then-is_other_scheme : goal.returns-then-is_other_scheme
returns-then-is_other_scheme c =
    let parts = c.args.self.now in
    let control = control_of parts.control in
    let others = parts.others.now in
    let list = parts.list.now in
    let scheme = c.args.scheme in
    λ _. other_scheme list scheme control others c.requires (other_scheme_is scheme control (sym c.if-is_other_scheme.true ∙ c.is_other_scheme.ensures))

pub returns-in-Some : goal.returns-in-Some
returns-in-Some c =
    let parts = c.args.self.now in
    let control = control_of parts.control in
    let others = parts.others.now in
    let list = parts.list.now in
    let scheme = c.args.scheme in
    λ _. bad_one list scheme control others c.requires (same_scheme_is scheme control (sym c.if-is_other_scheme.false ∙ c.is_other_scheme.ensures)) c.in-Some.index c.in-Some.ensures.some

pub returns-then-length_bad : goal.returns-then-length_bad
returns-then-length_bad c =
    let parts = c.args.self.now in
    let control = control_of parts.control in
    let others = parts.others.now in
    let list = parts.list.now in
    let scheme = c.args.scheme in
    λ _. bad_size list scheme control others c.requires (same_scheme_is scheme control (sym c.if-is_other_scheme.false ∙ c.is_other_scheme.ensures)) c.in_default.ensures.none (c.in_ok-length_bad.ensures.yes c.if-length_bad.true)

pub returns-then-is_body_refused : goal.returns-then-is_body_refused
returns-then-is_body_refused c =
    let parts = c.args.self.now in
    let control = control_of parts.control in
    let others = parts.others.now in
    let list = parts.list.now in
    let scheme = c.args.scheme in
    λ _. bad_body list scheme control others c.requires (same_scheme_is scheme control (sym c.if-is_other_scheme.false ∙ c.is_other_scheme.ensures)) c.in_default.ensures.none (λ bad. false≢true (sym c.if-length_bad.false ∙ c.in_ok-length_bad.ensures.no bad)) (sym c.is_body_refused.ensures ∙ c.if-is_body_refused.true)

pub returns-in-Some-passed_limit : goal.returns-in-Some-passed_limit
returns-in-Some-passed_limit c =
    let parts = c.args.self.now in
    let control = control_of parts.control in
    let others = parts.others.now in
    let list = parts.list.now in
    let scheme = c.args.scheme in
    λ _. too_large list scheme control others c.requires (same_scheme_is scheme control (sym c.if-is_other_scheme.false ∙ c.is_other_scheme.ensures)) c.in_default.ensures.none (λ bad. false≢true (sym c.if-length_bad.false ∙ c.in_ok-length_bad.ensures.no bad)) (sym c.is_body_refused.ensures ∙ c.if-is_body_refused.false) c.in-Some-passed_limit.limit c.in-Some-passed_limit.ensures.some

pub returns-in-None : goal.returns-in-None
returns-in-None c =
    let parts = c.args.self.now in
    let control = control_of parts.control in
    let others = parts.others.now in
    let list = parts.list.now in
    let scheme = c.args.scheme in
    no_fault list scheme control others c.requires (same_scheme_is scheme control (sym c.if-is_other_scheme.false ∙ c.is_other_scheme.ensures)) c.in_default.ensures.none (λ bad. false≢true (sym c.if-length_bad.false ∙ c.in_ok-length_bad.ensures.no bad)) (sym c.is_body_refused.ensures ∙ c.if-is_body_refused.false) c.in-None.ensures.none

pub returns-in_err-length_bad : goal.returns-in_err-length_bad
returns-in_err-length_bad c =
    let p = err_from_is_err_and c.from_residual.result c.from_residual.ensures.1 in
    memory_judged c.args.self.now.list.now c.args.scheme c.from_residual.result p.0 p.1 p.2
