-- What the code that signs more than once answers.
use Rattle.std.proofs.Common.{◌≡◌, ◌≢◌, ◌≤◌, ◌<◌, ◌+◌, ℕ, suc, List, [], ◌∷◌, ◌++◌, length, take, get_or, Some, Result, Ok, Err, refl, sym, ap, subst, ◌∙◌, inl, inr, arith}
use Rattle.std.specs.List.{slice_get}
use Rattle.std.specs.Prelude.{IfOk}
use Rattle.std.proofs.lemmas.List.{take_all, take_more}
use Rattle.std.proofs.lemmas.Option.{slice_get-get_or}
use Rattle.byte_grammar.specs.Causes.{AnswersWhere}
use Rattle.byte_grammar.proofs.AnswerLaws.{IsMemoryDecided, NamesFault, answers_where}
use Rattle.byte_grammar.proofs.Indices.{some_and}
use Rattle.msg_body.specs.Messages.{Message, Spells, with_head}
use Rattle.msg_body.proofs.OneMessages.{one_message_law}
use Rattle.component_values.specs.Context.{MessageContext, answers_head, context_with}
use Rattle.signatures.specs.Signatures.{HasSignature}
use Rattle.signing.specs.SignCauses.{IsSignCause, IsSignFault}
use Rattle.signing.specs.Signed.{HasSomeSignature, IsVerifiable, SpellsSigned}
use Rattle.signing.specs.Written.{signed_message}
use Rattle.signing.specs.declared.fault.SignFault.{SignFault}
use Rattle.signing.specs.declared.fault.SignFault.TheVariants as fault
use Rattle.signing.specs.declared.spec.SignSpec.{SignSpec}
use Rattle.negotiation.specs.Each.{IsEachFault, IsSignedEach, SpellsEach}
use Rattle.negotiation.specs.declared.fault.EachFault.{EachFault}
use Rattle.negotiation.specs.declared.fault.EachFault.TheVariants.{Memory, Sign}
use Rattle.negotiation.specs.tools.Signing.{AreSignedSoFar, ExplainsEach, ExplainsNext, ExplainsOnce, IsSignedOnce, IsSignedText, fault_at}
use Rattle.negotiation.proofs.Chains.{not_both, one_each_fault, one_more}

-- ---- one signature

-- what is known of the answer, by the contract of what signs
abbrev pub IsAnswered : MessageContext → SignSpec → Result (List ℕ) SignFault → Type 0
IsAnswered context spec result =
    (f : SignFault) → f ≢ fault.Memory → AnswersWhere fault.Memory result f (IsSignFault context spec f)

module _ (context : MessageContext) (spec : SignSpec) where
  no_fault : (text : List ℕ) → IsAnswered context spec (Ok text) → (f : SignFault) → ¬ IsSignFault context spec f
  no_fault text answered f is =
      let own : f ≢ fault.Memory = λ e. subst (λ (g : SignFault). IsSignCause context spec g) e is.holds in
      elim ((answered f own).there is) [
        | inl e ↦ absurd (cc e)
        | inr e ↦ absurd (cc e)
      ]

  first : (f : SignFault) → f ≢ fault.Memory → IsAnswered context spec (Err f) → IsSignFault context spec f
  first f own answered = (answered f own).only refl

  pub once : (result : Result (List ℕ) SignFault) → IfOk result (SpellsSigned context spec) → IfOk result (IsVerifiable context spec) → IsAnswered context spec result → ExplainsOnce context spec result
  once (Ok text) spells is answered =
      let one : is.written ≡ spells.0 = one_message_law (answers_head context.related) text is.written spells.0 is.spells spells.2 in
      record {
        written = spells.0;
        signed = record { signed = spells.1; none = no_fault text answered };
        spells = spells.2;
        has = (spec.label, spec.params, is.tag, subst (λ (m : Message). HasSignature m spec.label spec.params is.tag) one is.signature);
      }
  once (Err fault.Memory) spells is answered = tt
  once (Err fault.InputMalformed) spells is answered = first fault.InputMalformed (λ e. absurd (cc e)) answered
  once (Err fault.SignatureMalformed) spells is answered = first fault.SignatureMalformed (λ e. absurd (cc e)) answered
  once (Err fault.LabelThere) spells is answered = first fault.LabelThere (λ e. absurd (cc e)) answered
  once (Err (fault.SelfCover index)) spells is answered = first (fault.SelfCover index) (λ e. absurd (cc e)) answered
  once (Err (fault.TooLong limit)) spells is answered = first (fault.TooLong limit) (λ e. absurd (cc e)) answered
  once (Err (fault.Lacks index lack)) spells is answered = first (fault.Lacks index lack) (λ e. absurd (cc e)) answered

-- the same over a message that was read again
pub once_more : (context : MessageContext) (text : List ℕ) (spec : SignSpec) (result : Result (List ℕ) SignFault) (read : Message) → Spells (answers_head context.related) read text
    → IfOk result (SpellsSigned (context_with context read) spec) → IfOk result (IsVerifiable (context_with context read) spec) → IsAnswered (context_with context read) spec result → ExplainsNext context text spec result
once_more context text spec result read is spells verifiable answered = λ message also.
    subst (λ (m : Message). ExplainsOnce (context_with context m) spec result) (one_message_law (answers_head context.related) text read message is also) (once (context_with context read) spec result spells verifiable answered)

-- a message that was signed has another head
head_of_signed : (message : Message) (spec : SignSpec) (tag : List ℕ) (written : Message) → written ≡ signed_message message spec tag → written ≡ with_head message written.head
head_of_signed message spec tag written is = subst (λ (w : Message). w ≡ with_head message w.head) (sym is) refl

-- ---- more than one

module _ (context : MessageContext) (specs : List SignSpec) where
  fault_of_first : (first : SignSpec) (others : List SignSpec) → specs ≡ first ∷ others → (f : SignFault) → IsSignFault context first f → IsEachFault context specs (Sign 0 f)
  fault_of_first first others are f is =
      subst (λ (ss : List SignSpec). IsEachFault context ss (Sign 0 f)) (sym are) (record { before = context.message; signed = refl; there = is })

  module _ (first : SignSpec) (others : List SignSpec) (are : specs ≡ first ∷ others) where
    pub first_signed : (text : List ℕ) → IsSignedOnce context first text → AreSignedSoFar context specs 1 text
    first_signed text once = record {
      message = once.written;
      signed = subst (λ (ss : List SignSpec). IsSignedEach context (take 1 ss) once.written) (sym are) (once.written, once.signed, refl);
      spells = once.spells;
      head_is = head_of_signed context.message first _ once.written once.signed.signed.written_is;
      has = once.has;
    }

    pub first_stopped : (f : SignFault) → ExplainsOnce context first (Err f) → ExplainsEach context specs (Err (fault_at 0 f))
    first_stopped fault.Memory is = tt
    first_stopped fault.InputMalformed is = fault_of_first first others are fault.InputMalformed is
    first_stopped fault.SignatureMalformed is = fault_of_first first others are fault.SignatureMalformed is
    first_stopped fault.LabelThere is = fault_of_first first others are fault.LabelThere is
    first_stopped (fault.SelfCover index) is = fault_of_first first others are (fault.SelfCover index) is
    first_stopped (fault.TooLong limit) is = fault_of_first first others are (fault.TooLong limit) is
    first_stopped (fault.Lacks index lack) is = fault_of_first first others are (fault.Lacks index lack) is

    -- the signature at an index of those after the first
    pub other_is : (count : ℕ) (spec : SignSpec) → spec ≡ get_or others count spec → spec ≡ get_or specs (count + 1) spec
    other_is count spec is = rw are (subst (λ (n : ℕ). spec ≡ get_or (first ∷ others) n spec) (next count) is) where
      next : (n : ℕ) → suc n ≡ n + 1
      next n = omega arith

  module _ (count : ℕ) (text : List ℕ) (so_far : AreSignedSoFar context specs count text) where
    pub text_so_far : IsSignedText context text
    text_so_far = record {
      head = so_far.message.head;
      spells = subst (λ (m : Message). Spells (answers_head context.related) m text) so_far.head_is so_far.spells;
      has = subst (λ (m : Message). HasSomeSignature m) so_far.head_is so_far.has;
    }

    pub all_signed : length specs ≤ count → SpellsEach context specs text
    all_signed past = (so_far.message, subst (λ (ss : List SignSpec). IsSignedEach context ss so_far.message) (take_all count specs past) so_far.signed, so_far.spells)

    module _ (spec : SignSpec) (lt : count < length specs) (is : spec ≡ get_or specs count spec) where
      there : slice_get specs count ≡ Some spec
      there = slice_get-get_or specs count spec lt ∙ ap (λ (s : SignSpec). Some s) (sym is)

      pub more_signed : (more : List ℕ) → ExplainsNext context text spec (Ok more) → AreSignedSoFar context specs (count + 1) more
      more_signed more next =
          let once = next so_far.message so_far.spells in
          let taken : take (count + 1) specs ≡ take count specs ++ spec ∷ [] = take_more specs count spec lt ∙ ap (λ (s : SignSpec). take count specs ++ s ∷ []) (sym is) in
          record {
            message = once.written;
            signed = subst (λ (ss : List SignSpec). IsSignedEach context ss once.written) (sym taken) (one_more context (take count specs) so_far.message spec once.written so_far.signed once.signed);
            spells = once.spells;
            head_is = head_of_signed so_far.message spec _ once.written once.signed.signed.written_is ∙ ap (λ (m : Message). with_head m once.written.head) so_far.head_is;
            has = once.has;
          }

      unsigned : (f : SignFault) → IsSignFault (context_with context so_far.message) spec f → IsEachFault context specs (Sign count f)
      unsigned f first = record {
        before = so_far.message;
        signed = so_far.signed;
        there = some_and (λ (s : SignSpec). IsSignFault (context_with context so_far.message) s f) (slice_get specs count) spec there first;
      }

      pub more_stopped : (f : SignFault) → ExplainsNext context text spec (Err f) → ExplainsEach context specs (Err (fault_at count f))
      more_stopped fault.Memory next = tt
      more_stopped fault.InputMalformed next = unsigned fault.InputMalformed (next so_far.message so_far.spells)
      more_stopped fault.SignatureMalformed next = unsigned fault.SignatureMalformed (next so_far.message so_far.spells)
      more_stopped fault.LabelThere next = unsigned fault.LabelThere (next so_far.message so_far.spells)
      more_stopped (fault.SelfCover index) next = unsigned (fault.SelfCover index) (next so_far.message so_far.spells)
      more_stopped (fault.TooLong limit) next = unsigned (fault.TooLong limit) (next so_far.message so_far.spells)
      more_stopped (fault.Lacks index lack) next = unsigned (fault.Lacks index lack) (next so_far.message so_far.spells)

  -- ---- the clauses of the call

  pub spells_each : (result : Result (List ℕ) EachFault) → ExplainsEach context specs result → IfOk result (SpellsEach context specs)
  spells_each (Ok text) x = x
  spells_each (Err f) x = tt

  named : (result : Result (List ℕ) EachFault) → ExplainsEach context specs result → NamesFault Memory (IsEachFault context specs) result
  named (Ok text) x = λ f is. not_both context specs x.0 f x.1 is
  named (Err Memory) x = λ own. absurd (own refl)
  named (Err (Sign index f)) x = λ _. x

  memory_or_not : IsMemoryDecided Memory
  memory_or_not Memory = inl refl
  memory_or_not (Sign index f) = inr (λ e. absurd cc)

  pub each_fault_is : (result : Result (List ℕ) EachFault) → ExplainsEach context specs result → (f : EachFault) → f ≢ Memory → AnswersWhere Memory result f (IsEachFault context specs f)
  each_fault_is result x = answers_where Memory memory_or_not (IsEachFault context specs) result (one_each_fault context specs) (named result x)
