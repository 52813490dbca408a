-- What holds of a configuration that is there: whether a script has values is decided.
use Rattle.std.proofs.Common.{◌≡◌, ◌⊎◌, inl, inr, sym, subst, List, [], ◌∷◌, Bor}
use Rattle.std.specs.Prelude.{Option, Some, None, IfSome, option_copied}
use Rattle.std.specs.Option.{ForSome}
use Rattle.std.proofs.Math.Logic.{∥∥₁_elim}
use Rattle.std.proofs.Props.{props}
use Rattle.std.proofs.lemmas.Grind.{not_there}
use Rattle.std.proofs.lemmas.Option.{same_Some}
use Rattle.rewrite_script.specs.declared.rewrite.Rewrite.{Rewrite}
use Rattle.rewrite_script.specs.Scripts.{HaveValues}
use Rattle.rewrite_script.proofs.ValueLaws.{values_decided}
use Rattle.settings.specs.Configuration.{Configuration}
use Rattle.settings.specs.Valid.{IsValid, IsValidSign}
use Rattle.settings.specs.ValidSections.{IsValidGateway}
use Rattle.settings.specs.declared.gateway_conf.GatewayConf.{GatewayConf}
use Rattle.settings.specs.declared.sign_conf.SignConf.{SignConf}

have_decided : (steps : List Rewrite) → HaveValues steps ⊎ (¬ HaveValues steps)
have_decided [] = inl tt
have_decided (step ∷ steps) = elim (values_decided step) [
  | inl has ↦ elim (have_decided steps) [
    | inl have ↦ inl (has, have)
    | inr none ↦ inr (λ both. none both.1)
  ]
  | inr none ↦ inr (λ both. none both.0)
]

values_there : (steps : List Rewrite) → ¬ (¬ HaveValues steps) → HaveValues steps
values_there steps there = elim (have_decided steps) [
  | inl have ↦ have
  | inr none ↦ absurd (there none)
]

pub valid_inside : (conf : Configuration) → ∥ IsValid conf ∥₁ → IsValid conf
valid_inside conf inside = record {
  keyids = λ keyid key there. ∥∥₁_elim inside (Prim.hlevel props) (λ valid. valid.keyids keyid key there);
  keys = λ keyid key there. ∥∥₁_elim inside (Prim.hlevel props) (λ valid. valid.keys keyid key there);
  policies = record {
    some = ∥∥₁_elim inside (Prim.hlevel props) (λ valid. valid.policies.some);
    few = ∥∥₁_elim inside (Prim.hlevel props) (λ valid. valid.policies.few);
    each = λ k d within. ∥∥₁_elim inside (Prim.hlevel props) (λ valid. valid.policies.each k d within);
    distinct = λ i j policy other before here there same. ∥∥₁_elim inside (Prim.hlevel props) (λ valid. valid.policies.distinct i j policy other before here there same);
  };
  least_nonces = ∥∥₁_elim inside (Prim.hlevel props) (λ valid. valid.least_nonces);
  most_nonces = ∥∥₁_elim inside (Prim.hlevel props) (λ valid. valid.most_nonces);
  sign = ∥∥₁_elim inside (Prim.hlevel props) (λ valid. valid.sign);
  gateway = λ gateway there. record {
    label = ∥∥₁_elim inside (Prim.hlevel props) (λ valid. (valid.gateway gateway there).label);
    writable = ∥∥₁_elim inside (Prim.hlevel props) (λ valid. (valid.gateway gateway there).writable);
    values = values_there gateway.steps (λ none. not_there inside (λ valid. none (valid.gateway gateway there).values));
    few = ∥∥₁_elim inside (Prim.hlevel props) (λ valid. (valid.gateway gateway there).few);
  };
}

-- what holds of a part that is there holds of what is lent of it
pub lent_is : {X : Type 0} (P : X → Type 0) (found : Option (Bor X)) (kept : Option X) → option_copied found ≡ kept → ForSome kept P → IfSome found (λ x. P x.now)
lent_is P None kept same holds = tt
lent_is P (Some x) kept same holds = holds x.now (sym same)

-- with another table `sign` it is valid where that is
pub valid_with_sign : (conf : Configuration) (sign : SignConf) → IsValid conf → IsValidSign conf.keys sign
    → IsValid (record { scheme = conf.scheme; keys = conf.keys; types = conf.types; policies = conf.policies; nonces = conf.nonces; sign = Some sign; gateway = conf.gateway })
valid_with_sign conf sign valid is = record {
  keyids = valid.keyids;
  keys = valid.keys;
  policies = valid.policies;
  least_nonces = valid.least_nonces;
  most_nonces = valid.most_nonces;
  sign = λ other same. subst (IsValidSign conf.keys) (same_Some sign other same) is;
  gateway = valid.gateway;
}

-- with another gateway it is valid where that is
pub valid_with_gateway : (conf : Configuration) (gateway : GatewayConf) → IsValid conf → IsValidGateway gateway
    → IsValid (record { scheme = conf.scheme; keys = conf.keys; types = conf.types; policies = conf.policies; nonces = conf.nonces; sign = conf.sign; gateway = Some gateway })
valid_with_gateway conf gateway valid is = record {
  keyids = valid.keyids;
  keys = valid.keys;
  policies = valid.policies;
  least_nonces = valid.least_nonces;
  most_nonces = valid.most_nonces;
  sign = valid.sign;
  gateway = λ other same. subst IsValidGateway (same_Some gateway other same) is;
}
