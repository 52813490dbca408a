-- What a fault says of the texts of keys. No public clause cites this module.
use Rattle.std.specs.Prelude.{◌≡◌, false, codes, ⊤}
use Rattle.toml.specs.Data.{Data, Members}
use Rattle.conf.specs.declared.fault.ConfFault.{ConfFault}
use Rattle.conf.specs.declared.fault.ConfFault.TheVariants as fault
use Rattle.conf.specs.tools.Added.{spells_key, spell_keys}

-- the value is a text that spells no key
abbrev pub IsKeyFault : Data → ConfFault → Type 0
IsKeyFault value fault.Memory = ⊤
IsKeyFault value (fault.BadKeyText path) = (path ≡ codes "keys") × (spells_key value ≡ false)
IsKeyFault value fault = ⊥

-- one of the pairs is such a value
abbrev pub IsKeysFault : Members → ConfFault → Type 0
IsKeysFault pairs fault.Memory = ⊤
IsKeysFault pairs (fault.BadKeyText path) =
    (path ≡ codes "keys") × (spell_keys pairs ≡ false)
IsKeysFault pairs fault = ⊥
