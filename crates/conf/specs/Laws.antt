-- Laws of texts that are read as configurations.
use Rattle.std.specs.Prelude.{◌≡◌, ◌⊎◌, ℕ, List, []}
use Rattle.conf.specs.declared.fault.ConfFault.{ConfFault}
use Rattle.settings.specs.Configuration.{Configuration}
use Rattle.settings.specs.Standard.{standard_configuration}
use Rattle.settings.specs.Valid.{IsValid}
use Rattle.conf.specs.Meaning.{Configures}
use Rattle.conf.specs.Refusals.{IsConfFault}

-- a text is a configuration, or has a fault
abbrev pub HasConfAnswer : Type 0
HasConfAnswer =
    (text : List ℕ)
    → ((conf : Configuration) × Configures text conf)
    ⊎ ((fault : ConfFault) × IsConfFault text fault)

-- a text is at most one configuration
abbrev pub HasOneMeaning : Type 0
HasOneMeaning =
    (text : List ℕ) (conf other : Configuration)
    → Configures text conf → Configures text other → conf ≡ other

-- a text has at most one fault
abbrev pub HasOneConfFault : Type 0
HasOneConfFault =
    (text : List ℕ) (fault other : ConfFault)
    → IsConfFault text fault → IsConfFault text other → fault ≡ other

-- a text that is a configuration has no fault
abbrev pub HasNoFaultWhereRead : Type 0
HasNoFaultWhereRead =
    (text : List ℕ) (conf : Configuration) (fault : ConfFault)
    → Configures text conf → ¬ IsConfFault text fault

-- the empty text says the configuration where nothing is said
abbrev pub IsStandardOfEmpty : Type 0
IsStandardOfEmpty = Configures [] standard_configuration

-- a text that is a configuration is one that holds in every part
abbrev pub IsValidWhereRead : Type 0
IsValidWhereRead = (text : List ℕ) (conf : Configuration) → Configures text conf → IsValid conf
