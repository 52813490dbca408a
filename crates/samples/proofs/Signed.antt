-- What is made of a signed request.
use Rattle.std.proofs.Common.{◌≡◌, ◌≢◌, ℕ, List, Err, refl, sym, ap, subst, ◌∙◌}
use Rattle.byte_grammar.specs.Causes.{AnswersWhere}
use Rattle.msg_body.specs.Messages.{Message}
use Rattle.msg_body.specs.WholeTexts.{IsMessageFault, IsWhole, one_request}
use Rattle.msg_body.specs.declared.error.MessageFault.{MessageFault}
use Rattle.msg_body.proofs.WholeTexts.{no_fault_of_whole}
use Rattle.msg_body.specs.declared.whole.Reading.{Reading}
use Rattle.component_values.specs.Context.{MessageContext}
use Rattle.signing.specs.SignCauses.{IsSignFault}
use Rattle.signing.specs.Signed.{SpellsSigned}
use Rattle.signing.specs.declared.fault.SignFault.{SignFault}
use Rattle.signing.specs.declared.fault.SignFault.TheVariants as sign
use Rattle.signing.specs.declared.spec.SignSpec.{SignSpec}
use Rattle.samples.specs.Chains.{IsUnsigned, sample_context}
use Rattle.samples.specs.Requests.{request_text, sample_spec}
use Rattle.samples.specs.tools.Made.{SpellsSample}
use Rattle.samples.proofs.Signable.{no_sign_fault}
use Rattle.samples.proofs.Unsigned.{unsigned_is}

pub says_text : (seed : ℕ) (context : MessageContext) (spec : SignSpec) (text : List ℕ) → IsUnsigned seed context.message
    → context ≡ sample_context context.message → spec ≡ sample_spec → SpellsSigned context spec text → SpellsSample seed text
says_text seed context spec text is same as_asked spells =
    let there = subst (λ (s : SignSpec). SpellsSigned (sample_context context.message) s text) as_asked
    (subst (λ (c : MessageContext). SpellsSigned c spec text) same spells) in
    record {
      unsigned = context.message;
      unsigned_is = is;
      signed = there.0;
      signed_is = there.1;
      spells = there.2;
    }

-- ---- the context and the message of an unsigned request

pub of_context : (message : Message) (context : MessageContext) → context ≡ sample_context message → context ≡ sample_context context.message
of_context message context is = is ∙ ap sample_context (sym (ap (λ (c : MessageContext). c.message) is))

whole_request : (reading : Reading) (text : List ℕ) (message there : Message) → reading ≡ one_request → IsWhole reading text message → there ≡ message
    → IsWhole one_request text there
whole_request reading text message there as_request whole same =
    subst (λ (m : Message). IsWhole one_request text m) (sym same)
    (subst (λ (r : Reading). IsWhole r text message) as_request whole)

pub is_unsigned : (seed : ℕ) (reading : Reading) (text : List ℕ) (message there : Message) → reading ≡ one_request → IsWhole reading text message
    → there ≡ message → text ≡ request_text seed → IsUnsigned seed there
is_unsigned seed reading text message there as_request whole same is =
    subst (λ (t : List ℕ). IsWhole one_request t there) is (whole_request reading text message there as_request whole same)

-- nothing keeps it from being signed
pub never_refused : {T : Type 0} (seed : ℕ) (context : MessageContext) (spec : SignSpec) (why : SignFault) → IsUnsigned seed context.message → context ≡ sample_context context.message → spec ≡ sample_spec
    → why ≢ sign.Memory → ((f : SignFault) → f ≢ sign.Memory → AnswersWhere {T = T} sign.Memory (Err why) f (IsSignFault context spec f)) → ⊥
never_refused seed context spec why is same as_asked told answered =
    let fault = (answered why told).only refl in
    no_sign_fault seed context.message is why
    (subst (λ (s : SignSpec). IsSignFault (sample_context context.message) s why) as_asked (subst (λ (c : MessageContext). IsSignFault c spec why) same fault))

-- it is one whole request
pub no_request_fault : (seed : ℕ) (reading : Reading) (text : List ℕ) (fault : MessageFault) → reading ≡ one_request → text ≡ request_text seed → ¬ IsMessageFault reading text fault
no_request_fault seed reading text fault as_request is why =
    let found = unsigned_is seed in
    no_fault_of_whole one_request (request_text seed) found.0 fault found.1
    (subst (λ (t : List ℕ). IsMessageFault one_request t fault) is (subst (λ (r : Reading). IsMessageFault r text fault) as_request why))
