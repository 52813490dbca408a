-- What the reader answers of a text. No public clause cites this module.
use Rattle.std.specs.Prelude.{◌≡◌, ◌⊎◌, ℕ, Result, Ok, Err, List}
use Rattle.settings.specs.declared.conf.Conf.{Conf}
use Rattle.conf.specs.declared.fault.ConfFault.{ConfFault}
use Rattle.conf.specs.declared.fault.ConfFault.TheVariants.{Memory}
use Rattle.settings.specs.ConfMeaning.{meaning}
use Rattle.conf.specs.Meaning.{Configures}
use Rattle.conf.specs.Refusals.{IsConfFault}

-- the text is the configuration, or the fault is its first; or memory ran out
abbrev pub ExplainsConf : List ℕ → Result Conf ConfFault → Type 0
ExplainsConf text (Ok conf) = Configures text (meaning conf)
ExplainsConf text (Err fault) = (fault ≡ Memory) ⊎ IsConfFault text fault
