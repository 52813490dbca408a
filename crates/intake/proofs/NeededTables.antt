-- A configuration has what a command needs, or there is one cause to refuse it.
use Rattle.std.proofs.Common.{◌≡◌, Option, Some, None, refl, sym, ◌∙◌, inl, inr}
use Rattle.std.specs.Prelude.{⊤, codes}
use Rattle.conf.specs.Configuration.{Configuration}
use Rattle.conf.specs.declared.fault.ConfFault.TheVariants.{Missing}
use Rattle.settings.specs.declared.gateway_conf.GatewayConf.{GatewayConf}
use Rattle.settings.specs.declared.sign_conf.SignConf.{SignConf}
use Rattle.refusals.specs.declared.file.FileRefusal.{FileRefusal}
use Rattle.refusals.specs.declared.file.FileRefusal.TheVariants.{Conf}
use Rattle.intake.specs.Laws.{AreTablesDecided, HaveTables}
use Rattle.intake.specs.Layers.{HasAnswer}
use Rattle.intake.specs.Tables.{HasTables, IsTableMissing}
use Rattle.intake.specs.declared.tables.Needs.{Needs}
use Rattle.intake.specs.declared.tables.Needs.TheVariants.{Nothing, SignTable, GatewayTables}

one_missing : (needs : Needs) (conf : Configuration) (c d : FileRefusal) → IsTableMissing needs conf c → IsTableMissing needs conf d → c ≡ d
one_missing Nothing conf c d a b = absurd a
one_missing SignTable conf c d a b = a.1 ∙ sym b.1
one_missing GatewayTables conf c d (inl a) (inl b) = a.1 ∙ sym b.1
one_missing GatewayTables conf c d (inl a) (inr b) = let none = rw a.0 at b.0 in absurd (cc none)
one_missing GatewayTables conf c d (inr a) (inl b) = let none = rw b.0 at a.0 in absurd (cc none)
one_missing GatewayTables conf c d (inr a) (inr b) = a.2 ∙ sym b.2

not_missing : (needs : Needs) (conf : Configuration) (c : FileRefusal) → HasTables needs conf → IsTableMissing needs conf c → ⊥
not_missing Nothing conf c has missing = missing
not_missing SignTable conf c has missing = let none = rw missing.0 at has in absurd (cc none)
not_missing GatewayTables conf c has (inl missing) = let none = rw missing.0 at has.0 in absurd (cc none)
not_missing GatewayTables conf c has (inr missing) = let none = rw missing.1 at has.1 in absurd (cc none)

pub tables_decided : AreTablesDecided
tables_decided needs conf = record {
  value = λ v w a b. refl;
  cause = one_missing needs conf;
  either = λ v c has missing. not_missing needs conf c has missing;
}

sign_or_not : (conf : Configuration) (o : Option SignConf) → conf.sign ≡ o → HasAnswer (λ (_ : ⊤). HasTables SignTable conf) (IsTableMissing SignTable conf)
sign_or_not conf None is = inr (Conf (Missing (codes "sign")), (is, refl))
sign_or_not conf (Some sign) is = inl (tt, rw is refl)

gateway_or_not : (conf : Configuration) (g : Option GatewayConf) (s : Option SignConf) → conf.gateway ≡ g → conf.sign ≡ s → HasAnswer (λ (_ : ⊤). HasTables GatewayTables conf) (IsTableMissing GatewayTables conf)
gateway_or_not conf None s none is = inr (Conf (Missing (codes "gateway")), inl (none, refl))
gateway_or_not conf (Some settings) None there none = inr (Conf (Missing (codes "sign")), inr (rw there refl, none, refl))
gateway_or_not conf (Some settings) (Some sign) there is = inl (tt, (rw there refl, rw is refl))

pub have_tables : HaveTables
have_tables Nothing conf = inl (tt, tt)
have_tables SignTable conf = sign_or_not conf conf.sign refl
have_tables GatewayTables conf = gateway_or_not conf conf.gateway conf.sign refl refl
