-- What is read of what comes to a gateway: it is one message, or bad for one reason.
use Rattle.std.proofs.Common.{◌≡◌, ℕ, Bool, true, false, Option, Some, None, List, refl, sym, ap, subst, ◌∙◌}
use Rattle.framing.specs.Framings.{framing_by, has_codings, has_lengths, is_request}
use Rattle.msg_head.specs.Starts.{StartLine, request, status}
use Rattle.msg_body.specs.Messages.{IsMessage, Message}
use Rattle.msg_body.specs.WholeTexts.{IsMessageFault, IsWhole, one_request}
use Rattle.msg_body.specs.declared.error.MessageFault.{MessageFault}
use Rattle.msg_body.proofs.WholeTexts.{no_fault_of_whole, one_fault_of_text, one_whole}
use Rattle.component_values.specs.Context.{HasWholeMessage, MessageContext, answers_head}
use Rattle.recording.specs.declared.item.Role.{Role}
use Rattle.recording.specs.declared.item.Role.TheVariants.{Request, Response, Related}
use Rattle.settings.specs.Configuration.{Configuration}
use Rattle.signatures.specs.Contexts.{context_for}
use Rattle.gateway.specs.Arrivals.{Arrival, IsAnswered, IsBad, IsRead, arrival_reading}
use Rattle.gateway.specs.declared.gateway_record.BadFault.{BadFault}
use Rattle.gateway.specs.declared.gateway_record.BadFault.TheVariants.{Message as BadMessage, Related as BadRelated}

-- ---- a message

-- how a request is framed doesn't rest on what it answers
same_framing : (b other : Bool) (start : StartLine) (codings lengths : Bool) → is_request start ≡ true → framing_by b start codings lengths ≡ framing_by other start codings lengths
same_framing b other (request line) codings lengths is = refl
same_framing b other (status line) codings lengths is = absurd cc

any_head : (b other : Bool) (message : Message) → is_request message.head.start ≡ true → IsMessage b message → IsMessage other message
any_head b other message asks is = record {
  head = is.head;
  framable = is.framable;
  framing = is.framing ∙ same_framing b other message.head.start (has_codings message.head) (has_lengths message.head) asks;
  body = is.body;
  content = is.content;
  short = is.short;
}

whole_by_role : (role : Role) (related : Option Message) (text : List ℕ) (message : Message) → IsWhole (arrival_reading role related) text message → IsMessage (answers_head related) message
whole_by_role Response related text message is = is.spells.is
whole_by_role Request related text message is = any_head false (answers_head related) message is.expected is.spells.is
whole_by_role Related related text message is = any_head false (answers_head related) message is.expected is.spells.is

pub whole_read : (conf : Configuration) (arrival : Arrival) (context : MessageContext) → IsRead conf arrival context → HasWholeMessage context
whole_read conf arrival context read =
    subst HasWholeMessage (sym read.context_is) (whole_by_role arrival.role read.related arrival.text read.message read.is)

-- ---- one

pub answered_whole : (text : List ℕ) (related : Option Message) → IsAnswered (Some text) related → (request : Message) × IsWhole one_request text request
answered_whole text None answers = absurd answers
answered_whole text (Some own) answers = (own, answers)

one_answered : (text : Option (List ℕ)) (one other : Option Message) → IsAnswered text one → IsAnswered text other → one ≡ other
one_answered None one other a b = a ∙ sym b
one_answered (Some text) None other a b = absurd a
one_answered (Some text) (Some one) None a b = absurd b
one_answered (Some text) (Some one) (Some other) a b = ap (λ (m : Message). Some m) (one_whole one_request text one other a b)

pub one_read : (conf : Configuration) (arrival : Arrival) (context other : MessageContext) → IsRead conf arrival context → IsRead conf arrival other → context ≡ other
one_read conf arrival context other a b =
    let related = one_answered arrival.related a.related b.related a.answers b.answers in
    let whole = subst (λ (r : Option Message). IsWhole (arrival_reading arrival.role r) arrival.text a.message) related a.is in
    let message = one_whole (arrival_reading arrival.role b.related) arrival.text a.message b.message whole b.is in
    a.context_is ∙ ((λ i. context_for conf (message i) (related i)) ∙ sym b.context_is)

-- ---- or bad

-- where the request that it answers isn't one, none is answered
none_answered : (arrival : Arrival) (related : Option Message) → IsBad arrival BadRelated → ¬ IsAnswered arrival.related related
none_answered arrival related bad answers =
    let request = answered_whole bad.0 related (subst (λ (o : Option (List ℕ)). IsAnswered o related) bad.1 answers) in
    bad.2 request.0 request.1

pub not_bad : (conf : Configuration) (arrival : Arrival) (context : MessageContext) (fault : BadFault) → IsRead conf arrival context → ¬ IsBad arrival fault
not_bad conf arrival context BadRelated read bad = none_answered arrival read.related bad read.answers
not_bad conf arrival context (BadMessage fault) read bad =
    let same = one_answered arrival.related bad.0 read.related bad.1 read.answers in
    no_fault_of_whole (arrival_reading arrival.role read.related) arrival.text read.message fault read.is
    (subst (λ (r : Option Message). IsMessageFault (arrival_reading arrival.role r) arrival.text fault) same bad.2)

pub one_bad : (arrival : Arrival) (fault other : BadFault) → IsBad arrival fault → IsBad arrival other → fault ≡ other
one_bad arrival BadRelated BadRelated a b = refl
one_bad arrival BadRelated (BadMessage fault) a b = absurd (none_answered arrival b.0 a b.1)
one_bad arrival (BadMessage fault) BadRelated a b = absurd (none_answered arrival a.0 b a.1)
one_bad arrival (BadMessage fault) (BadMessage other) a b =
    let same = one_answered arrival.related a.0 b.0 a.1 b.1 in
    let here = subst (λ (r : Option Message). IsMessageFault (arrival_reading arrival.role r) arrival.text fault) same a.2 in
    ap (λ (f : MessageFault). BadMessage f) (one_fault_of_text (arrival_reading arrival.role b.0) arrival.text fault other here b.2)
