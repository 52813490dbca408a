-- Messages that are alike for a component: what it is drawn from is the same in both.
use Rattle.std.specs.Prelude.{◌≡◌, ◌↔◌, ℕ, Bool, ◌&&◌, not, IsTrue, Result, List, codes}
use Rattle.msg_head.specs.declared.error.Side.TheVariants.{Header}
use Rattle.msg_head.specs.Lines.{FieldLine}
use Rattle.msg_head.specs.Values.{values}
use Rattle.msg_body.specs.Messages.{Message}
use Rattle.msg_body.specs.Views.{lines_on}
use Rattle.msg_body.specs.SameFields.{HasSameField, HasSameValues}
use Rattle.component_ids.specs.Table.{has_param, is_field_name}
use Rattle.component_ids.specs.declared.id.ComponentId.{ComponentId}
use Rattle.derived_values.specs.declared.lack.Lack.{Lack}
use Rattle.component_values.specs.Context.{MessageContext, context_with}
use Rattle.component_values.specs.Forms.{Form, form_of}
use Rattle.component_values.specs.Forms as form
use Rattle.component_values.specs.Values.{ComesTo, side_of}

-- a field of the message itself, and not of the request that it answers (RFC 9421 section 2.4)
abbrev pub is_own_field : ComponentId → Bool
is_own_field id = is_field_name id.name && not (has_param id.params (codes "req"))

-- both have the same of the name, as far as the form of a component asks: line by line, or combined
-- (section 2.1)
abbrev pub AreSameIn : Form → List FieldLine → List FieldLine → List ℕ → Type 0
AreSameIn form.wrapped lines others name = HasSameValues lines others name
AreSameIn (form.member key) lines others name = HasSameField lines others name
AreSameIn form.strict lines others name = HasSameField lines others name
AreSameIn form.plain lines others name = HasSameField lines others name

-- The messages have one start line and the same values of `Host`. Where the component is a field of
-- the message, they have the same of its name on its side, as far as its form asks.
pub record AreAlikeFor (id : ComponentId) (message other : Message) : Type 0 where
  pub start : other.head.start ≡ message.head.start
  pub hosts : values (lines_on Header other) (codes "host")
      ≡ values (lines_on Header message) (codes "host")
  pub own : IsTrue (is_own_field id) → AreSameIn (form_of id.params)
      (lines_on (side_of id.params) message) (lines_on (side_of id.params) other) id.name

-- the component comes to the same value, or to the same lack, over the other message
abbrev pub ComesToSame : MessageContext → Message → ComponentId → Type 0
ComesToSame context other id = (result : Result (List ℕ) Lack)
    → ComesTo context id result ↔ ComesTo (context_with context other) id result
