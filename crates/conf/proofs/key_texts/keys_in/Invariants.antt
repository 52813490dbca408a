use Rattle.std.proofs.Common.{◌≡◌}
use Rattle.std.specs.FinMap as map
use Rattle.toml.specs.View.{table_view, members_view}
use Rattle.conf.specs.tools.Added.{all_added, key_in, spell_keys}
use Rattle.conf.proofs.key_texts.keys_in.Given as goal

abbrev pub invariant-loop-keyid : goal.invariant-loop-keyid
invariant-loop-keyid l = record {
  added : all_added key_in l.keys (members_view l.keyid-iterator) ≡ all_added key_in map.empty (table_view l.table);
  spells : spell_keys (table_view l.table) ≡ spell_keys (members_view l.keyid-iterator);
}
