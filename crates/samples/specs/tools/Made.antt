-- What the code makes of a sample. No public clause cites this module.
use Rattle.std.specs.Prelude.{◌≡◌, ⊤, ℕ, ◌+◌, false, None, List, [], ◌∷◌}
use Rattle.std.specs.List.{AllZip, flat_map}
use Rattle.msg_body.specs.Messages.{Message, Spells}
use Rattle.rewrite_script.specs.Scripts.{script_text}
use Rattle.rewrite_script.specs.declared.rewrite.Rewrite.{Rewrite}
use Rattle.hop_audit.specs.ChainValues.{Chain, Hop}
use Rattle.recording.specs.Items.{Body, moment, stored, message, script}
use Rattle.recording.specs.Chains.{RecordedHop}
use Rattle.recording.specs.RecordedChains.{hop_meant}
use Rattle.recording.specs.declared.chain.RecordedHop.{RecordedHop as HeldHop}
use Rattle.recording.specs.declared.item.Role.TheVariants.{Request}
use Rattle.rewrites.specs.Steps.{Step, Steps}
use Rattle.signing.specs.Signed.{IsSignedMessage}
use Rattle.samples.specs.Chains.{AreHopsFrom, IsUnsigned, sample_context}
use Rattle.samples.specs.Requests.{sample_spec}
use Rattle.samples.specs.Scripts.{scripts_from}
use Rattle.samples.specs.declared.limits.TheConstants.{MOMENT}
use Rattle.samples.specs.declared.hop.MadeHop.{MadeHop}

-- the texts are those of the hop
pub record IsTextOf (hop : Hop) (made : MadeHop) : Type 0 where
  pub script : made.script ≡ script_text hop.script
  pub message : Spells false hop.message made.message

-- the texts are those of hops that take the steps of these scripts, beginning with this message
pub record AreMadeFrom (message : Message) (scripts : List (List Rewrite)) (made : List MadeHop)
    : Type 0 where
  pub hops : List Hop
  pub are : AreHopsFrom message scripts hops
  pub texts : AllZip IsTextOf hops made

-- the text spells the message to which the steps lead
pub record LeadsTo (message : Message) (steps : List Rewrite) (text : List ℕ) : Type 0 where
  pub after : Message
  pub lead : Steps Step (sample_context message) steps after
  pub spells : Spells false after text

-- ---- the signed request

-- the text spells the signed request of the seed
pub record SpellsSample (seed : ℕ) (text : List ℕ) : Type 0 where
  pub unsigned : Message
  pub unsigned_is : IsUnsigned seed unsigned
  pub signed : Message
  pub signed_is : IsSignedMessage (sample_context unsigned) sample_spec signed
  pub spells : Spells false signed text

-- ---- the chain

-- the texts are those of the chain of the seed, with so many hops
pub record IsMade (seed count : ℕ) (first : List ℕ) (made : List MadeHop) : Type 0 where
  pub own : SpellsSample seed first
  pub are : AreMadeFrom own.signed (scripts_from seed count) made

-- that chain
abbrev pub chain_made : {seed count : ℕ} {first : List ℕ} {made : List MadeHop}
    → IsMade seed count first made → Chain
chain_made is =
    record { moment = MOMENT; related = None; message = is.own.signed; hops = is.are.hops }

-- ---- the items

-- the items of the hops
abbrev pub made_items : MadeHop → List Body
made_items hop = stored script hop.script ∷ stored (message Request) hop.message ∷ []

-- the items of the chain of these texts
abbrev pub items_made : List ℕ → List MadeHop → List Body
items_made first hops =
    moment MOMENT ∷ stored (message Request) first ∷ flat_map made_items hops

-- ---- the chain as it is recorded

-- a hop as it is recorded; the moment stays
abbrev pub recorded_hop : MadeHop → RecordedHop
recorded_hop made =
    record { moment = None; script = made.script; message = made.message }

-- these are the hops as they are recorded, of which each has two items, the first at this index
abbrev pub AreRecorded : ℕ → List MadeHop → List HeldHop → Type 0
AreRecorded item [] [] = ⊤
AreRecorded item (made ∷ hops) (hop ∷ recorded) = (hop.item ≡ item)
    × (hop_meant hop ≡ recorded_hop made) × AreRecorded (item + 2) hops recorded
AreRecorded item hops recorded = ⊥
