-- What is so of the label's signature is so of the one that was read.
use Rattle.std.proofs.Common.{◌≡◌, ℕ, Option, Some, None, List, subst}
use Rattle.std.specs.Option.{IsSomeAnd}
use Rattle.byte_grammar.proofs.Indices.{some_and, some_and_at}
use Rattle.component_ids.specs.declared.params.SigParams.{SigParams}
use Rattle.settings.specs.declared.policy.Policy.{Policy}
use Rattle.signatures.specs.Signatures.{HasSignature}
use Rattle.signatures.proofs.Reading.{has_one_signature}
use Rattle.verdicts.specs.Choice.{policy_of}
use Rattle.verdicts.specs.Verification.{Verification}
use Rattle.verdicts.specs.Rules.{OfSignature, OfPolicy}

-- nothing is so of what isn't there
none_has : {X : Type 0} (P : X → Type 0) (o : Option X) → o ≡ None → ¬ IsSomeAnd o P
none_has P None none has = absurd has
none_has P (Some x) none has = absurd cc

module _ (v : Verification) (params : SigParams) (tag : List ℕ) (has : HasSignature v.context.message v.label params tag) where
  pub on_signature : (Fact : SigParams → List ℕ → Type 0) → OfSignature v Fact → Fact params tag
  on_signature Fact x =
      let same = has_one_signature v.context.message v.label x.0 params x.1 tag x.2 has in
      subst (λ (t : List ℕ). Fact params t) same.1 (subst (λ (p : SigParams). Fact p x.1) same.0 x.3)

  abbrev OfChosen : (Policy → SigParams → Type 0) → SigParams → List ℕ → Type 0
  OfChosen Fact p t = IsSomeAnd (policy_of v.conf p) (λ own. Fact own p)

  -- where there is no policy for it, nothing is so of one
  pub on_none : policy_of v.conf params ≡ None → (Fact : Policy → SigParams → Type 0) → ¬ OfPolicy v Fact
  on_none none Fact x = none_has (λ (own : Policy). Fact own params) (policy_of v.conf params) none (on_signature (OfChosen Fact) x)

  module _ (policy : Policy) (chosen : policy_of v.conf params ≡ Some policy) where
    pub on_policy : (Fact : Policy → SigParams → Type 0) → OfPolicy v Fact → Fact policy params
    on_policy Fact x = some_and_at (λ (own : Policy). Fact own params) (policy_of v.conf params) policy chosen (on_signature (OfChosen Fact) x)

    pub of_policy : (Fact : Policy → SigParams → Type 0) → Fact policy params → OfPolicy v Fact
    of_policy Fact fact = (params, tag, has, some_and (λ (own : Policy). Fact own params) (policy_of v.conf params) policy chosen fact)
