-- The signed message, or the first cause for which there is none.
use Rattle.std.proofs.Common.{◌≡◌, ◌≢◌, ◌<◌, ◌+◌, lit<, ℕ, true, List, ◌++◌, length, length-append, Some, None, Result, Ok, Err, refl, ap, ◌∙◌, arith, inl, inr}
use Rattle.std.specs.Prelude.{IfOk}
use Rattle.std.specs.List.{flat_map, list_all}
use Rattle.sfv_text.specs.Range.{is_byte}
use Rattle.byte_grammar.specs.Causes.{AnswersWhere}
use Rattle.byte_grammar.specs.tools.Determined.{AreDetermined}
use Rattle.byte_grammar.proofs.AnswerLaws.{IsMemoryDecided, NamesFault, answers_where}
use Rattle.byte_grammar.proofs.CauseLaws.{first_is_one}
use Rattle.msg_head.specs.Lines.{line_text}
use Rattle.msg_body.specs.Messages.{Message, message_text}
use Rattle.component_values.specs.Context.{MessageContext}
use Rattle.component_values.proofs.FirstLacks.{first_lack_is_one, none_lacks}
use Rattle.component_values.specs.Values.{HaveValues, IsFirstLack}
use Rattle.component_values.specs.declared.fault.ValueFault.{ValueFault}
use Rattle.component_values.specs.declared.fault.ValueFault.TheVariants as value
use Rattle.derived_values.specs.declared.lack.Lack.{Lack}
use Rattle.hmac_sha256.specs.Hmac.{hmac}
use Rattle.signatures.specs.SignatureBase.{signature_base}
use Rattle.signing.specs.Written.{context_with_digest, digest_lines, signature_lines, signed_message}
use Rattle.signing.specs.declared.lines.AddedLines.{AddedLines}
use Rattle.signing.specs.declared.parts.Parts.{Parts}
use Rattle.signing.specs.tools.Lines.{AreLines}
use Rattle.signing.specs.tools.Parts.{ArePartsOf}
use Rattle.signing.specs.Signed.{IsSigned}
use Rattle.signing.specs.SignCauses.{IsSignCause, IsSignFault, any_tag, passed_limit, sign_order}
use Rattle.signing.specs.declared.fault.SignFault.{SignFault}
use Rattle.signing.specs.declared.fault.SignFault.TheVariants.{Memory, InputMalformed, SignatureMalformed, LabelThere, SelfCover, TooLong, Lacks}
use Rattle.signing.specs.declared.spec.SignSpec.{SignSpec}
use Rattle.signing.specs.tools.Judged.{ExplainsSign, IsMade, NoneBelow, lack_fault_of}
use Rattle.signing.proofs.DigestBytes.{sha256_bytes}
use Rattle.signing.proofs.Making.{added_bytes}
use Rattle.signing.proofs.Causes.{first, none_below_7, none_below_8, one_cover}

-- what the parts say of the limits, and how many bytes the lines of a signature have with any tag
module _ (message : Message) (spec : SignSpec) (parts : Parts) (digest : AddedLines) (are : ArePartsOf message parts) (lines : AreLines digest (digest_lines message spec.digest)) where
  pub all_bytes : (n : ℕ) → n ≡ length (flat_map line_text (signature_lines spec any_tag)) → length digest.text + n ≡ length (flat_map line_text (digest_lines message spec.digest ++ signature_lines spec any_tag))
  all_bytes n is = added_bytes message parts are (digest_lines message spec.digest) (signature_lines spec any_tag) digest n lines is

  pub all_lines : digest.count + 2 ≡ length (digest_lines message spec.digest ++ signature_lines spec any_tag)
  all_lines = omega (arith, lines.count, length-append (digest_lines message spec.digest) (signature_lines spec any_tag))

-- a tag is bytes
pub tag_bytes : (tag key base : List ℕ) → tag ≡ hmac key base → list_all is_byte tag ≡ true
tag_bytes tag key base is = rw is (sha256_bytes _)

module _ (context : MessageContext) (spec : SignSpec) where
  pub too_long : NoneBelow context spec 6 → (limit : ℕ) → passed_limit (signed_message context.message spec any_tag) ≡ Some limit
      → ExplainsSign context spec (IsMade context spec) (Err (TooLong limit))
  too_long none limit long = first context spec (TooLong limit) none long

  pub fits : NoneBelow context spec 6 → passed_limit (signed_message context.message spec any_tag) ≡ None → NoneBelow context spec 7
  fits none short = none_below_7 context spec none (λ limit long. absurd (cc (short, long)))

  pub lack_answered : NoneBelow context spec 7 → (fault : ValueFault) → ((index : ℕ) (lack : Lack) → fault ≡ value.Lacks index lack → IsFirstLack (context_with_digest context spec.digest) spec.params.ids index lack)
      → ExplainsSign context spec (IsMade context spec) (Err (lack_fault_of fault))
  lack_answered none value.Memory is = tt
  lack_answered none (value.Lacks index lack) is = first context spec (Lacks index lack) none (is index lack refl)

  pub made : NoneBelow context spec 7 → (values : List (List ℕ)) (tag text : List ℕ) → HaveValues (context_with_digest context spec.digest) spec.params.ids values
      → tag ≡ hmac spec.key (signature_base spec.params values) → text ≡ message_text (signed_message context.message spec tag) → IsMade context spec text
  made none values tag text have is same = record {
    signed = record {
      values = values;
      have = have;
      text_is = same ∙ ap (λ t. message_text (signed_message context.message spec t)) is;
    };
    none = none_below_8 context spec none (λ index lack. none_lacks (context_with_digest context spec.digest) spec.params.ids values index lack have);
  }

  -- ---- the clauses of the call

  pub signed_is : (result : Result (List ℕ) SignFault) → ExplainsSign context spec (IsMade context spec) result → IfOk result (IsSigned context spec)
  signed_is (Ok text) x = x.signed
  signed_is (Err fault) x = tt

  named : (result : Result (List ℕ) SignFault) → ExplainsSign context spec (IsMade context spec) result → NamesFault Memory (IsSignFault context spec) result
  named (Ok text) x = λ fault is. x.none fault (below_8 fault is.holds) is.holds where
    below_8 : (fault : SignFault) → IsSignCause context spec fault → sign_order fault < 8
    below_8 InputMalformed h = lit< tt
    below_8 SignatureMalformed h = lit< tt
    below_8 LabelThere h = lit< tt
    below_8 (SelfCover index) h = lit< tt
    below_8 (TooLong limit) h = lit< tt
    below_8 (Lacks index lack) h = lit< tt
    below_8 Memory h = absurd h
  named (Err InputMalformed) x = λ _. x
  named (Err SignatureMalformed) x = λ _. x
  named (Err LabelThere) x = λ _. x
  named (Err (SelfCover index)) x = λ _. x
  named (Err (TooLong limit)) x = λ _. x
  named (Err (Lacks index lack)) x = λ _. x
  named (Err Memory) x = λ own. absurd (own refl)

  -- causes of one number are one
  pub determined : AreDetermined sign_order (IsSignCause context spec)
  determined InputMalformed InputMalformed same a b = refl
  determined SignatureMalformed SignatureMalformed same a b = refl
  determined LabelThere LabelThere same a b = refl
  determined (SelfCover i) (SelfCover j) same a b = ap (λ n. SelfCover n) (one_cover spec.label spec.params.ids i j a b)
  determined (TooLong l) (TooLong m) same a b = let one : l ≡ m = cc (a, b) in ap (λ n. TooLong n) one
  determined (Lacks i l) (Lacks j m) same a b =
      let one = first_lack_is_one (context_with_digest context spec.digest) spec.params.ids i j l m a b in
      λ k. Lacks (one.0 k) (one.1 k)
  determined Memory g same a b = absurd a
  determined f Memory same a b = absurd b
  determined f g same a b = absurd (cc same)

  memory_or_not : IsMemoryDecided Memory
  memory_or_not Memory = inl refl
  memory_or_not InputMalformed = inr (λ e. absurd cc)
  memory_or_not SignatureMalformed = inr (λ e. absurd cc)
  memory_or_not LabelThere = inr (λ e. absurd cc)
  memory_or_not (SelfCover index) = inr (λ e. absurd cc)
  memory_or_not (TooLong limit) = inr (λ e. absurd cc)
  memory_or_not (Lacks index lack) = inr (λ e. absurd cc)

  pub fault_is : (result : Result (List ℕ) SignFault) → ExplainsSign context spec (IsMade context spec) result → (fault : SignFault) → fault ≢ Memory
      → AnswersWhere Memory result fault (IsSignFault context spec fault)
  fault_is result x = answers_where Memory memory_or_not (IsSignFault context spec) result (λ f g. first_is_one sign_order (IsSignCause context spec) determined f g) (named result x)
