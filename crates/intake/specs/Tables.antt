-- The tables that a command needs in its configuration.
use Rattle.std.specs.Prelude.{◌≡◌, ◌⊎◌, ⊤, None, IsSome, codes}
use Rattle.conf.specs.Configuration.{Configuration}
use Rattle.conf.specs.declared.fault.ConfFault.TheVariants.{Missing}
use Rattle.refusals.specs.declared.file.FileRefusal.{FileRefusal}
use Rattle.refusals.specs.declared.file.FileRefusal.TheVariants.{Conf}
use Rattle.intake.specs.declared.tables.Needs.{Needs}
use Rattle.intake.specs.declared.tables.Needs.TheVariants.{Nothing, SignTable, GatewayTables}

-- the configuration has what is needed
abbrev pub HasTables : Needs → Configuration → Type 0
HasTables Nothing conf = ⊤
HasTables SignTable conf = IsSome conf.sign
HasTables GatewayTables conf = IsSome conf.gateway × IsSome conf.sign

-- why it is refused: the table is missing, or the first of those that are
abbrev pub IsTableMissing : Needs → Configuration → FileRefusal → Type 0
IsTableMissing Nothing conf refusal = ⊥
IsTableMissing SignTable conf refusal =
    (conf.sign ≡ None) × (refusal ≡ Conf (Missing (codes "sign")))
IsTableMissing GatewayTables conf refusal =
    ((conf.gateway ≡ None) × (refusal ≡ Conf (Missing (codes "gateway"))))
    ⊎ (IsSome conf.gateway × (conf.sign ≡ None) × (refusal ≡ Conf (Missing (codes "sign"))))
