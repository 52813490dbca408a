-- What a rewriting of the whole message gives: one message or none, of the same kind, by the messages and what is configured; and the text that the code makes tells it.
use Rattle.std.proofs.Common.{◌≡◌, ◌⊎◌, ℕ, Bool, Result, Ok, Err, IfOk, List, length, refl, sym, subst, ap, ◌∙◌, inl, inr}
use Rattle.std.specs.Prelude.{IsTrue}
use Rattle.msg_head.specs.declared.error.Side.{Side}
use Rattle.msg_head.specs.declared.error.Side.TheVariants.{Header, Trailer}
use Rattle.msg_head.specs.Lines.{FieldLine}
use Rattle.msg_head.specs.Starts.{RequestLine}
use Rattle.framing.specs.Framings.{is_request}
use Rattle.msg_body.specs.Messages.{IsMessage, Message, message_text}
use Rattle.msg_body.specs.Views.{message_content}
use Rattle.derived_values.specs.Targets.{TargetParts}
use Rattle.component_values.specs.Context.{MessageContext, answers_head}
use Rattle.rewrite_script.specs.Lines.{is_whole_writable}
use Rattle.rewrite_script.specs.declared.rewrite.WholeRewrite.{WholeRewrite}
use Rattle.rewrite_script.specs.declared.rewrite.WholeRewrite.TheVariants.{AddLabel, Rechunk, Chunk, Dechunk, Origin, Absolute, Host, Query, Resf}
use Rattle.line_rewrites.specs.Sized.{SpellsSized}
use Rattle.line_rewrites.specs.Sound.{IsSoundMessage}
use Rattle.line_rewrites.specs.declared.fault.ApplyFault.{ApplyFault}
use Rattle.line_rewrites.specs.declared.fault.ApplyFault.TheVariants.{NotApplicable}
use Rattle.line_rewrites.proofs.Deciding.{sized_or_not}
use Rattle.line_rewrites.proofs.Texts.{has_one_sound, sound_where_read}
use Rattle.whole_rewrites.specs.Laws.{GivenByMessages, GivesKindOfWhole, GivesOneWhole, GivesWholeOrNot, IsOfMessages, IsReadAs, whole_rests_on_conf}
use Rattle.whole_rewrites.specs.Steps.{GivesNoWhole, GivesWhole, Makes, MakesLines, SpellsWhole}
use Rattle.whole_rewrites.specs.Targets.{ChangesTarget}
use Rattle.whole_rewrites.specs.tools.Judged.{IsOffered, Offers}
use Rattle.whole_rewrites.proofs.ContentKinds.{chunk_depends, dechunk_depends, rechunk_depends}
use Rattle.whole_rewrites.proofs.FieldKinds.{host_makes, label_makes, strict_makes}
use Rattle.whole_rewrites.proofs.TargetKinds.{absolute_makes, origin_makes, query_makes}
use Rattle.whole_rewrites.proofs.WholeKinds.{exact}

pub gives_one : GivesOneWhole
gives_one context step after other a b = (exact step).one context after other a.makes b.makes

-- ---- what is made, and the message that its text is

module _ (context : MessageContext) (step : WholeRewrite) (made : Message) (makes : Makes context step made) where
  abbrev to_head : Bool
  to_head = answers_head context.related

  -- its content has so many bytes
  pub sized_as : length (message_content made) ≡ length (message_content context.message)
  sized_as = ap (λ (t : List ℕ). length t) ((exact step).content context made makes)

  -- where it is a message, its text is that of one
  pub spelled_where_message : IsMessage to_head made → SpellsSized to_head (message_text made) (length (message_content context.message)) made
  spelled_where_message is = record { spells = record { is = is; text = refl }; sized = sized_as }

  -- the message that its text is, with so much content, is it
  pub message_is : IsSoundMessage to_head made → (message : Message) → SpellsSized to_head (message_text made) (length (message_content context.message)) message → message ≡ made
  message_is sound message spelled =
      has_one_sound to_head message made (sound_where_read to_head message spelled.spells.is) sound (sym spelled.spells.text) (spelled.sized ∙ sym sized_as)

  -- whether it is a message
  pub is_message_or_not : IsTrue (is_whole_writable step) → IsMessage to_head context.message → IsMessage to_head made ⊎ (¬ IsMessage to_head made)
  is_message_or_not writable is = elim ((exact step).sound context made writable is makes) [
    | inr none ↦ inr none
    | inl sound ↦ elim (sized_or_not to_head (message_text made) (length (message_content context.message))) [
      | inl found ↦ inl (subst (λ (m : Message). IsMessage to_head m) (message_is sound found.0 found.1) found.1.spells.is)
      | inr unread ↦ inr (λ message. unread made (spelled_where_message message))
    ]
  ]

pub gives_or_not : GivesWholeOrNot
gives_or_not context step writable is = elim ((exact step).or_not context writable is) [
  | inr none ↦ inr (λ after gives. none after gives.makes)
  | inl made ↦ elim (is_message_or_not context step made.0 made.1 writable is) [
    | inl message ↦ inl (made.0, record { makes = made.1; message = message })
    | inr unread ↦ inr (λ after gives. unread
        (subst (λ (m : Message). IsMessage (answers_head context.related) m) ((exact step).one context after made.0 gives.makes made.1) gives.message))
  ]
]

-- ---- the kind of the message

made_lines_kind : (context : MessageContext) (side : Side) (Change : List FieldLine → List FieldLine → Type 0) (made : Message) → MakesLines context side Change made
    → is_request made.head.start ≡ is_request context.message.head.start
made_lines_kind context Header Change made is = ap (λ (m : Message). is_request m.head.start) is.made_is
made_lines_kind context Trailer Change made is = ap (λ (m : Message). is_request m.head.start) is.made_is

target_kind : (context : MessageContext) (Change : RequestLine → TargetParts → List ℕ → Type 0) (made : Message) → ChangesTarget context Change made
    → is_request made.head.start ≡ is_request context.message.head.start
target_kind context Change made is = ap (λ (m : Message). is_request m.head.start) is.made_is ∙ sym (ap is_request is.has.start_is)

made_kind : (context : MessageContext) (step : WholeRewrite) (made : Message) → Makes context step made → is_request made.head.start ≡ is_request context.message.head.start
made_kind context (AddLabel added tag params) made is = made_lines_kind context Header _ made is
made_kind context (Rechunk sizes) made is = ap (λ (m : Message). is_request m.head.start) is.made_is
made_kind context (Chunk sizes) made is = ap (λ (m : Message). is_request m.head.start) is.sent.made_is
made_kind context Dechunk made is = ap (λ (m : Message). is_request m.head.start) is.sent.made_is
made_kind context Origin made is = target_kind context _ made is
made_kind context Absolute made is = target_kind context _ made is
made_kind context (Host text) made is = made_lines_kind context Header _ made is.1
made_kind context (Query text) made is = target_kind context _ made is
made_kind context (Resf side name) made is = made_lines_kind context side _ made is

pub gives_kind : GivesKindOfWhole
gives_kind context step after gives = (gives.message, made_kind context step after gives.makes)

-- ---- other contexts

whole_makes : (context other : MessageContext) (step : WholeRewrite) → IsOfMessages context other → (IsTrue (whole_rests_on_conf step) → IsReadAs context other) → (made : Message) → Makes context step made → Makes other step made
whole_makes context other (AddLabel added tag params) same agree = label_makes added tag params context other same
whole_makes context other (Rechunk sizes) same agree = rechunk_depends sizes context other same
whole_makes context other (Chunk sizes) same agree = chunk_depends sizes context other same
whole_makes context other Dechunk same agree = dechunk_depends context other same
whole_makes context other Origin same agree = origin_makes context other same (agree refl)
whole_makes context other Absolute same agree = absolute_makes context other same (agree refl)
whole_makes context other (Host text) same agree = host_makes text context other same
whole_makes context other (Query text) same agree = query_makes text context other same
whole_makes context other (Resf side name) same agree = strict_makes side name context other same (agree refl)

pub given_by_messages : GivenByMessages
given_by_messages context other step after same agree gives = record {
  makes = whole_makes context other step same agree after gives.makes;
  message = rw same.1 gives.message;
}

-- ---- the text that a rewriting makes

module _ (context : MessageContext) (step : WholeRewrite) (text : List ℕ) (offered : IsOffered context step text) where
  offered_spells : SpellsWhole context step text
  offered_spells after = (gives_spelled, spelled_gives)
    where
      gives_spelled : GivesWhole context step after → SpellsSized (answers_head context.related) text (length (message_content context.message)) after
      gives_spelled gives =
          let same = (exact step).one context offered.made after offered.makes gives.makes in
          let message = subst (λ (m : Message). IsMessage (answers_head context.related) m) (sym same) gives.message in
          let here = spelled_where_message context step offered.made offered.makes message in
          subst (λ (m : Message). SpellsSized (answers_head context.related) text (length (message_content context.message)) m) same
          (subst (λ (t : List ℕ). SpellsSized (answers_head context.related) t (length (message_content context.message)) offered.made) (sym offered.text_is) here)

      spelled_gives : SpellsSized (answers_head context.related) text (length (message_content context.message)) after → GivesWhole context step after
      spelled_gives spelled =
          let here = subst (λ (t : List ℕ). SpellsSized (answers_head context.related) t (length (message_content context.message)) after) offered.text_is spelled in
          let is = message_is context step offered.made offered.makes offered.sound after here in
          record { makes = subst (λ (m : Message). Makes context step m) (sym is) offered.makes; message = spelled.spells.is }

pub whole_spells : (context : MessageContext) (step : WholeRewrite) (result : Result (List ℕ) ApplyFault) → Offers context step result → IfOk result (SpellsWhole context step)
whole_spells context step (Ok text) offered = offered_spells context step text offered
whole_spells context step (Err fault) none = tt

pub whole_fault : (context : MessageContext) (step : WholeRewrite) (result : Result (List ℕ) ApplyFault) → Offers context step result → result ≡ Err NotApplicable → GivesNoWhole context step
whole_fault context step result offers is = λ after gives. (rw is at offers) after gives.makes gives.message
