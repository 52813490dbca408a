-- What `lists` comes to is one outcome, and some.
use Rattle.std.proofs.Common.{◌≡◌, ◌≢◌, ℕ, inl, inr, List, Err, refl, sym, ap, subst, ◌∙◌}
use Rattle.byte_grammar.specs.Causes.{AnswersWhere}
use Rattle.component_ids.specs.declared.scheme.Scheme.{Scheme}
use Rattle.component_values.specs.Context.{MessageContext}
use Rattle.conf.specs.Configuration.{Configuration}
use Rattle.msg_body.specs.Messages.{Message, message_text}
use Rattle.list_texts.specs.Lists.{list_text}
use Rattle.list_texts.specs.declared.list.FieldList.{FieldList}
use Rattle.field_lists.specs.FromCauses.{IsFromFault}
use Rattle.field_lists.specs.ToCauses.{IsToFault, TurnsInto}
use Rattle.field_lists.specs.declared.from_fault.FromFault.{FromFault}
use Rattle.field_lists.specs.declared.from_fault.FromFault.TheVariants as from
use Rattle.field_lists.specs.declared.to_fault.ToFault.{ToFault}
use Rattle.field_lists.specs.declared.to_fault.ToFault.TheVariants as to
use Rattle.commands.specs.Laws.{HasOneIntoFields, HasOneIntoMessage, HasSomeIntoFields, HasSomeIntoMessage}
use Rattle.commands.specs.Lists.{IsListText, ReportsIntoFields, ReportsIntoMessage, ReportsMessageOf}
use Rattle.intake.specs.Stops.{stop_of_from, stop_of_to}
use Rattle.commands.specs.Outcome.{IfOutcome}
use Rattle.commands.specs.declared.outcome.Outcome.{Outcome}
use Rattle.commands.specs.declared.outcome.Outcome.TheVariants.{Done, Refused}
use Rattle.refusals.specs.declared.file.FileRefusal.{FileRefusal}
use Rattle.refusals.specs.declared.refusal.CommandRefusal.TheVariants.{ToMessage, FromMessage}
use Rattle.refusals.specs.declared.refusal.Refusal.TheVariants.{Of, Command}
use Rattle.refusals.specs.declared.role.Role.TheVariants.{Input}
use Rattle.commands.proofs.ListTexts.{has_list, list_decided}
use Rattle.commands.proofs.LowerLists.{list_or_from_fault, message_or_fault, no_from_fault, one_from_fault, one_list_of_message, one_message, one_to_fault}

-- ---- a list

not_turned : (list : FieldList) (scheme : Scheme) (message : Message) (fault : ToFault) → TurnsInto list scheme message → IsToFault list scheme fault → ⊥
not_turned list scheme message fault turned is = turned.none fault is.holds

one_of_list : (scheme : Scheme) (list : FieldList) (one other : Outcome) → ReportsMessageOf scheme list one → ReportsMessageOf scheme list other → one ≡ other
one_of_list scheme list one other (inl a) (inl b) = a.2 ∙ (ap (λ (m : Message). Done (message_text m)) (one_message list scheme a.0 b.0 a.1 b.1) ∙ sym b.2)
one_of_list scheme list one other (inl a) (inr b) = absurd (not_turned list scheme a.0 b.0 a.1 b.1)
one_of_list scheme list one other (inr a) (inl b) = absurd (not_turned list scheme b.0 a.0 b.1 a.1)
one_of_list scheme list one other (inr a) (inr b) =
    a.2 ∙ (ap (λ (f : ToFault). Refused (Command (ToMessage f))) (one_to_fault list scheme a.0 b.0 a.1 b.1) ∙ sym b.2)

some_of_list : (scheme : Scheme) (list : FieldList) → (outcome : Outcome) × ReportsMessageOf scheme list outcome
some_of_list scheme list = elim (message_or_fault list scheme) [
  | inl turned ↦ (Done (message_text turned.0), inl (turned.0, turned.1, refl))
  | inr fault ↦ (Refused (Command (ToMessage fault.0)), inr (fault.0, fault.1, refl))
]

pub one_into_message : HasOneIntoMessage
one_into_message conf input one other (inl a) (inl b) =
    one_of_list conf.scheme b.0 one other (subst (λ (list : FieldList). ReportsMessageOf conf.scheme list one) ((list_decided input).value a.0 b.0 a.1 b.1) a.2) b.2
one_into_message conf input one other (inl a) (inr b) = absurd ((list_decided input).either a.0 b.0 a.1 b.1)
one_into_message conf input one other (inr a) (inl b) = absurd ((list_decided input).either b.0 a.0 b.1 a.1)
one_into_message conf input one other (inr a) (inr b) =
    a.2 ∙ (ap (λ (cause : FileRefusal). Refused (Of Input cause)) ((list_decided input).cause a.0 b.0 a.1 b.1) ∙ sym b.2)

pub some_into_message : HasSomeIntoMessage
some_into_message conf input bytes = elim (has_list input bytes) [
  | inl list ↦ let next = some_of_list conf.scheme list.0 in (next.0, inl (list.0, list.1, next.1))
  | inr cause ↦ (Refused (Of Input cause.0), inr (cause.0, cause.1, refl))
]

-- ---- a message

pub one_into_fields : HasOneIntoFields
one_into_fields context one other (inl a) (inl b) = a.2 ∙ (ap (λ (l : FieldList). Done (list_text l)) (one_list_of_message context a.0 b.0 a.1 b.1) ∙ sym b.2)
one_into_fields context one other (inl a) (inr b) = absurd (no_from_fault context a.0 b.0 a.1 b.1)
one_into_fields context one other (inr a) (inl b) = absurd (no_from_fault context b.0 a.0 b.1 a.1)
one_into_fields context one other (inr a) (inr b) =
    a.2 ∙ (ap (λ (f : FromFault). Refused (Command (FromMessage f))) (one_from_fault context a.0 b.0 a.1 b.1) ∙ sym b.2)

pub some_into_fields : HasSomeIntoFields
some_into_fields context = elim (list_or_from_fault context) [
  | inl turned ↦ (Done (list_text turned.0), inl (turned.0, turned.1, refl))
  | inr fault ↦ (Refused (Command (FromMessage fault.0)), inr (fault.0, fault.1, refl))
]

-- ---- what the command comes to

pub to_stop : {T : Type 0} (conf : Configuration) (input : List ℕ) (list : FieldList) (f : ToFault) → IsListText input list
    → ((e : ToFault) → e ≢ to.Memory → AnswersWhere {T = T} to.Memory (Err f) e (IsToFault list conf.scheme e))
    → IfOutcome (Err (stop_of_to f)) (ReportsIntoMessage conf input)
to_stop conf input list to.Memory is faults = tt
to_stop conf input list to.Pseudo is faults = inl (list, is, inr (to.Pseudo, (faults to.Pseudo (λ e. absurd (cc e))).only refl, refl))
to_stop conf input list to.SchemeOther is faults = inl (list, is, inr (to.SchemeOther, (faults to.SchemeOther (λ e. absurd (cc e))).only refl, refl))
to_stop conf input list (to.BadField i) is faults = inl (list, is, inr (to.BadField i, (faults (to.BadField i) (λ e. absurd (cc e))).only refl, refl))
to_stop conf input list to.BadLength is faults = inl (list, is, inr (to.BadLength, (faults to.BadLength (λ e. absurd (cc e))).only refl, refl))
to_stop conf input list to.BodyRefused is faults = inl (list, is, inr (to.BodyRefused, (faults to.BodyRefused (λ e. absurd (cc e))).only refl, refl))
to_stop conf input list (to.TooLarge limit) is faults = inl (list, is, inr (to.TooLarge limit, (faults (to.TooLarge limit) (λ e. absurd (cc e))).only refl, refl))

pub from_stop : {T : Type 0} (context : MessageContext) (f : FromFault)
    → ((e : FromFault) → e ≢ from.Memory → AnswersWhere {T = T} from.Memory (Err f) e (IsFromFault context e))
    → IfOutcome (Err (stop_of_from f)) (ReportsIntoFields context)
from_stop context from.Memory faults = tt
from_stop context from.NoForm faults = inr (from.NoForm, (faults from.NoForm (λ e. absurd (cc e))).only refl, refl)
from_stop context from.NoAuthority faults = inr (from.NoAuthority, (faults from.NoAuthority (λ e. absurd (cc e))).only refl, refl)
