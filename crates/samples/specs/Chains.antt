-- The chain of a sample: a signed request, and hops that rewrite it.
use Rattle.std.specs.Prelude.{◌≡◌, ⊤, ℕ, None, List, [], ◌∷◌}
use Rattle.msg_body.specs.Messages.{Message}
use Rattle.msg_body.specs.WholeTexts.{IsWhole, one_request}
use Rattle.component_values.specs.Context.{MessageContext}
use Rattle.rewrite_script.specs.declared.rewrite.Rewrite.{Rewrite}
use Rattle.rewrites.specs.Steps.{Step, Steps}
use Rattle.signing.specs.Signed.{IsSignedMessage}
use Rattle.verdicts.specs.Contexts.{context_for}
use Rattle.hop_audit.specs.ChainValues.{Chain, Hop}
use Rattle.samples.specs.Requests.{request_text, sample_configuration, sample_spec}
use Rattle.samples.specs.Scripts.{scripts_from}
use Rattle.samples.specs.declared.limits.TheConstants.{MOMENT}

-- the context of a message of the sample
abbrev pub sample_context : Message → MessageContext
sample_context message = context_for sample_configuration message None

-- the hops take the steps of these scripts, one after the other, beginning with this message; the
-- moment stays
abbrev pub AreHopsFrom : Message → List (List Rewrite) → List Hop → Type 0
AreHopsFrom message [] [] = ⊤
AreHopsFrom message (script ∷ scripts) (hop ∷ hops) =
    (hop.moment ≡ None) × (hop.script ≡ script)
    × Steps Step (sample_context message) script hop.message
    × AreHopsFrom hop.message scripts hops
AreHopsFrom message scripts hops = ⊥

-- the unsigned request of this seed
abbrev pub IsUnsigned : ℕ → Message → Type 0
IsUnsigned seed message = IsWhole one_request (request_text seed) message

-- the chain of this seed, with so many hops
pub record IsSampleChain (seed count : ℕ) (chain : Chain) : Type 0 where
  pub moment : chain.moment ≡ MOMENT
  pub related : chain.related ≡ None
  pub unsigned : Message
  pub unsigned_is : IsUnsigned seed unsigned
  pub signed : IsSignedMessage (sample_context unsigned) sample_spec chain.message
  pub hops : AreHopsFrom chain.message (scripts_from seed count) chain.hops
