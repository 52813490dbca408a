use Rattle.std.proofs.Common.{codes, map}
use Rattle.sfv_text.specs.Strict.{params_text}
use Rattle.component_ids.specs.Identifiers.{id_text}
use Rattle.component_ids.proofs.SpanLaws.{parts_kept}
use Rattle.component_ids.proofs.params_text.write_params.Goals as goal

pub returns-clause-parts : goal.returns-clause-parts
returns-clause-parts c =
    let ids = map id_text c.args.params.now.ids in
    let spans = c.in_ok-spans.spans.items in
    parts_kept c.push-2.new.self c.append_params.new.text (params_text c.args.params.now.params) spans ids c.in_ok-append_params.ensures
    (parts_kept c.write_ids.new.text c.push-2.new.self (codes ")") spans ids c.in_ok-push-2.ensures.ok
    (rw (← c.as_slice.ensures) c.in_ok-spans.ensures.parts))
