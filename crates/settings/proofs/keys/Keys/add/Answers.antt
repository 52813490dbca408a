use Rattle.std.proofs.Common.{◌≡◌, ap, ◌∙◌}
use Rattle.std.specs.FinMap as map
use Rattle.settings.specs.tools.KeyEntries.{by_keyid}
use Rattle.settings.proofs.KeyEntryLaws.{inserted}
use Rattle.settings.proofs.keys.Keys.add.Goals as goal

pub returns-clause-ok : goal.returns-clause-ok
returns-clause-ok c =
    let keyid_is : c.extend_from_slice.new.self.items ≡ c.args.keyid.now = c.in_ok-extend_from_slice.ensures.items ∙ rw c.new-name.ensures.items in
    ap (λ entries. map.from_entries (by_keyid entries)) c.in_ok-insert.ensures.entries
    ∙ inserted c.self.inside.keys.entries c.extend_from_slice.new.self c.in_ok-key.key
    ∙ ap (λ name. map.insert (map.from_entries (by_keyid c.self.inside.keys.entries)) name c.in_ok-key.key) keyid_is
    ∙ ap (λ bytes. map.insert (map.from_entries (by_keyid c.self.inside.keys.entries)) c.args.keyid.now bytes) c.in_ok-key.ensures
    ∙ ap (λ keys. map.insert keys c.args.keyid.now c.args.key.now) c.self.view_is
