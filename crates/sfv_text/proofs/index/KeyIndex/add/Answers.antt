use Rattle.std.proofs.Common.{◌≡◌, ap, ◌∙◌}
use Rattle.std.specs.FinMap as map
use Rattle.byte_grammar.specs.tools.ByBytes.{by_bytes}
use Rattle.byte_grammar.proofs.MapLaws.{inserted}
use Rattle.sfv_text.proofs.index.KeyIndex.add.Goals as goal

pub returns-clause-ok : goal.returns-clause-ok
returns-clause-ok c =
    let key_is : c.extend_from_slice.new.self.items ≡ c.args.key.now = c.in_ok-extend_from_slice.ensures.items ∙ rw c.new-owned.ensures.items in
    ap (λ entries. map.from_entries (by_bytes entries)) c.in_ok-insert.ensures.entries
    ∙ inserted c.self.inside.places.entries c.extend_from_slice.new.self c.args.place
    ∙ ap (λ key. map.insert (map.from_entries (by_bytes c.self.inside.places.entries)) key c.args.place) key_is
    ∙ ap (λ places. map.insert places c.args.key.now c.args.place) c.self.view_is
