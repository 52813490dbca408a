-- What two records of one message have to have in common, and whether they agree on what a
-- signature covers.
use Rattle.std.specs.Prelude.{◌≡◌, IsTrue, ℕ, List, codes}
use Rattle.msg_head.specs.declared.error.Side.{Side}
use Rattle.msg_body.specs.Messages.{Message}
use Rattle.msg_body.specs.Views.{lines_on, message_content}
use Rattle.msg_head.specs.Values.{values}
use Rattle.msg_body.specs.SameFields.{HasSameField}
use Rattle.component_ids.specs.declared.id.ComponentId.{ComponentId}
use Rattle.component_values.specs.Alike.{AreSameIn, is_own_field}
use Rattle.component_values.specs.Forms.{form_of}
use Rattle.component_values.specs.Values.{side_of}
use Rattle.normal_forms.specs.declared.basis.Basis.{Basis}
use Rattle.normal_forms.specs.declared.basis.Basis.TheVariants.{StartLine, Content, Field}
use Rattle.normal_forms.specs.declared.basis.FixedName.{FixedName}
use Rattle.normal_forms.specs.declared.basis.FixedName.TheVariants.{Host, ContentLength, TransferEncoding, Signature, SignatureInput}

-- The messages agree on the component: where it is a field of the message, both have lines of it or
-- neither has, with one combined value, or with the same values line by line where it covers these
-- (RFC 9421 sections 2.1 and 2.1.3). On any other component they agree.
abbrev pub AgreeOn : Message → Message → ComponentId → Type 0
AgreeOn message other id = IsTrue (is_own_field id) → AreSameIn (form_of id.params)
    (lines_on (side_of id.params) message) (lines_on (side_of id.params) other) id.name

-- ---- what isn't explained

-- the name
abbrev pub fixed_name : FixedName → List ℕ
fixed_name Host = codes "host"
fixed_name ContentLength = codes "content-length"
fixed_name TransferEncoding = codes "transfer-encoding"
fixed_name Signature = codes "signature"
fixed_name SignatureInput = codes "signature-input"

-- The lists of field lines have the same of the name: line by line, since the number of lines
-- counts; of the fields of signatures, combined.
abbrev pub HasSameFixed : FixedName → Side → Message → Message → Type 0
HasSameFixed Host side message other =
    values (lines_on side other) (codes "host") ≡ values (lines_on side message) (codes "host")
HasSameFixed ContentLength side message other =
    values (lines_on side other) (codes "content-length")
    ≡ values (lines_on side message) (codes "content-length")
HasSameFixed TransferEncoding side message other =
    values (lines_on side other) (codes "transfer-encoding")
    ≡ values (lines_on side message) (codes "transfer-encoding")
HasSameFixed Signature side message other =
    HasSameField (lines_on side message) (lines_on side other) (codes "signature")
HasSameFixed SignatureInput side message other =
    HasSameField (lines_on side message) (lines_on side other) (codes "signature-input")

-- both messages have it the same
abbrev pub HasSameBasis : Message → Message → Basis → Type 0
HasSameBasis message other StartLine = other.head.start ≡ message.head.start
HasSameBasis message other Content = message_content other ≡ message_content message
HasSameBasis message other (Field side name) = HasSameFixed name side message other

-- all that isn't explained is the same in both
abbrev pub AreOfOneBasis : Message → Message → Type 0
AreOfOneBasis message other = (basis : Basis) → HasSameBasis message other basis
