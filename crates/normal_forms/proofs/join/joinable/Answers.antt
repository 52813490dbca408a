use Rattle.std.proofs.Common.{sym, ap, subst, ◌∙◌}
use Rattle.line_rewrites.specs.Permitted.{MayChangeNumber}
use Rattle.msg_head.specs.Values.{has_bytes}
use Rattle.normal_forms.proofs.SideJoined.{alone_by_name, alone_by_value, are_joinable, line_here, next_named, none_named, same_name}
use Rattle.normal_forms.proofs.SideValues.{no_bytes}
use Rattle.normal_forms.proofs.join.joinable.Goals as goal

pub returns-in_err-later-clause-none : goal.returns-in_err-later-clause-none
returns-in_err-later-clause-none c =
    let lines = c.args.lines.now in
    let line = c.index-lines-index.result in
    λ _. alone_by_name c.args.side c.args.params.now lines c.args.index line (line_here lines c.args.index line c.requires.there c.index-lines-index.is)
    (none_named lines c.args.index line c.requires.there c.requires.clean c.index-lines-index.is c.in_err-later.ensures)

pub returns-then-not-has_value-clause-none : goal.returns-then-not-has_value-clause-none
returns-then-not-has_value-clause-none c =
    let lines = c.args.lines.now in
    let line = c.index-lines-index.result in
    let k = c.in_ok-later.field-0 in
    let next = c.index-lines-later.result in
    let n = next_named lines c.args.index k line next c.requires.there c.requires.clean c.index-lines-index.is c.in_ok-later.ensures c.index-lines-later.is in
    λ _. alone_by_value c.args.side c.args.params.now lines c.args.index k line next n.here n.first n.next_here (n.next_value ∙ no_bytes next.raw (sym c.has_value.ensures ∙ c.if-not-has_value.true))

pub returns-clause-some : goal.returns-clause-some
returns-clause-some c =
    let lines = c.args.lines.now in
    let line = c.index-lines-index.result in
    let k = c.in_ok-later.field-0 in
    let next = c.index-lines-later.result in
    let n = next_named lines c.args.index k line next c.requires.there c.requires.clean c.index-lines-index.is c.in_ok-later.ensures c.index-lines-later.is in
    let name = sym (same_name lines c.args.index line c.requires.there c.requires.clean c.index-lines-index.is) in
    let met = (c.number_condition.ensures c.args.params.now).0 (c.is_met.ensures.0 c.if-not-is_met.false) in
    let may = subst (λ t. MayChangeNumber c.args.side t c.args.params.now) (c.named.ensures ∙ name) met in
    are_joinable c.args.side c.args.params.now lines c.args.index k line next n.here n.first n.next_here may (ap has_bytes n.next_value ∙ (sym c.has_value.ensures ∙ c.if-not-has_value.false))
