use Rattle.std.proofs.Common.{◌≡◌, ap, ◌∙◌}
use Rattle.std.specs.FinMap as map
use Rattle.byte_grammar.specs.tools.ByBytes.{by_bytes}
use Rattle.byte_grammar.proofs.MapLaws.{inserted}
use Rattle.component_ids.proofs.types.Types.add.Goals as goal

pub returns-clause-ok : goal.returns-clause-ok
returns-clause-ok c =
    let key_is : c.extend_from_slice.new.self.items ≡ c.args.name.now = c.in_ok-extend_from_slice.ensures.items ∙ rw c.new-key.ensures.items in
    ap (λ entries. map.from_entries (by_bytes entries)) c.in_ok-insert.ensures.entries
    ∙ inserted c.self.inside.kinds.entries c.extend_from_slice.new.self c.args.kind
    ∙ ap (λ name. map.insert (map.from_entries (by_bytes c.self.inside.kinds.entries)) name c.args.kind) key_is
    ∙ ap (λ types. map.insert types c.args.name.now c.args.kind) c.self.view_is
