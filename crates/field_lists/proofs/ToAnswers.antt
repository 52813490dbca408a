-- What is answered for a list is its message, or its first fault.
use Rattle.std.proofs.Common.{◌≡◌, ◌≢◌, ℕ, List, refl, sym, ap, subst, ◌∙◌, inl, inr}
use Rattle.std.specs.Prelude.{Result, Ok, Err, IfOk, MatchResult}
use Rattle.byte_grammar.specs.Causes.{AnswersWhere}
use Rattle.byte_grammar.proofs.AnswerLaws.{IsMemoryDecided, NamesFault, answers_where}
use Rattle.component_ids.specs.declared.scheme.Scheme.{Scheme}
use Rattle.msg_body.specs.Messages.{Message, message_text}
use Rattle.list_texts.specs.declared.list.Field.{Field}
use Rattle.list_texts.specs.declared.list.FieldList.{FieldList}
use Rattle.field_lists.specs.declared.to_fault.ToFault.{ToFault}
use Rattle.field_lists.specs.declared.to_fault.ToFault.TheVariants.{Memory, Pseudo, SchemeOther, BadField, BadLength, BodyRefused, TooLarge}
use Rattle.field_lists.specs.Controls.{Control, IsOf}
use Rattle.field_lists.specs.ToCauses.{IsToCause, IsToFault, TurnsInto}
use Rattle.field_lists.specs.ToMessages.{message_with}
use Rattle.field_lists.specs.tools.PartViews.{GivesMessage}
use Rattle.field_lists.proofs.Judging.{one_fault}
use Rattle.field_lists.proofs.ToLaws.{one_message}

memory_decided : IsMemoryDecided Memory
memory_decided Memory = inl refl
memory_decided Pseudo = inr (λ e. cc)
memory_decided SchemeOther = inr (λ e. cc)
memory_decided (BadField i) = inr (λ e. cc)
memory_decided BadLength = inr (λ e. cc)
memory_decided BodyRefused = inr (λ e. cc)
memory_decided (TooLarge limit) = inr (λ e. cc)

-- the parts are those of the list
pub turned_text : (list own : FieldList) (scheme : Scheme) (control : Control) (others : List Field) (text : List ℕ) → own ≡ list → IsOf own control others → ((fault : ToFault) → ¬ IsToCause own scheme fault)
    → text ≡ message_text (message_with control others own) → GivesMessage list scheme (Ok text)
turned_text list own scheme control others text same is none text_is =
    subst (λ (l : FieldList). GivesMessage l scheme (Ok text)) same (
      message_with control others own,
      record { control = control; others = others; is_of = is; none = none; is = refl },
      text_is,
    )

pub judged_fault : (list own : FieldList) (scheme : Scheme) (fault : ToFault) → own ≡ list → (fault ≢ Memory → IsToFault own scheme fault) → GivesMessage list scheme (Err fault)
judged_fault list own scheme fault same judged = subst (λ (l : FieldList). GivesMessage l scheme (Err fault)) same judged

pub memory_fault : (list : FieldList) (scheme : Scheme) (result : Result (List ℕ) ToFault) (fault : ToFault) → result ≡ Err fault → fault ≡ Memory → GivesMessage list scheme result
memory_fault list scheme result fault is none =
    subst (λ (r : Result (List ℕ) ToFault). GivesMessage list scheme r) (sym is) (λ other. absurd (other none))

module _ (list : FieldList) (scheme : Scheme) where
  pub ok_message : (result : Result (List ℕ) ToFault) → GivesMessage list scheme result → IfOk result (λ text. (message : Message) × TurnsInto list scheme message × (text ≡ message_text message))
  ok_message (Ok text) gives = gives
  ok_message (Err fault) gives = tt

  pub only_message : (result : Result (List ℕ) ToFault) → GivesMessage list scheme result → (message : Message) → TurnsInto list scheme message → MatchResult result (λ text. text ≡ message_text message) (λ fault. fault ≡ Memory)
  only_message (Ok text) (found, into, is) message turns = is ∙ ap message_text (one_message list scheme found message into turns)
  only_message (Err fault) explains message turns = elim (memory_decided fault) [
    | inl is ↦ is
    | inr own ↦ absurd (turns.none fault (explains own).holds)
  ]

  names : (result : Result (List ℕ) ToFault) → GivesMessage list scheme result → NamesFault Memory (IsToFault list scheme) result
  names (Ok text) (found, into, is) = λ fault first. into.none fault first.holds
  names (Err fault) explains = explains

  pub fault_answers : (result : Result (List ℕ) ToFault) → GivesMessage list scheme result → (fault : ToFault) → fault ≢ Memory → AnswersWhere Memory result fault (IsToFault list scheme fault)
  fault_answers result explains = answers_where Memory memory_decided (IsToFault list scheme) result (one_fault list scheme) (names result explains)
