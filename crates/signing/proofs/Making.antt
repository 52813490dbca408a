-- What the signed message is made of.
use Rattle.std.proofs.Common.{◌≡◌, ◌≤◌, ◌<◌, ◌+◌, ℕ, Bool, true, false, nat_lt, List, [], ◌++◌, length, Option, Some, None, is_some, refl, sym, ap, ◌∙◌, append_assoc, arith, inl, inr, if◌then◌else◌}
use Rattle.std.specs.List.{flat_map}
use Rattle.std.proofs.lemmas.Bool.{cases_Bool, le-ltb, lt-ltb, ltb-false}
use Rattle.std.proofs.lemmas.List.{append-nil, length-append, nil_from_length}
use Rattle.msg_head.specs.Heads.{head_text}
use Rattle.msg_head.specs.Lines.{FieldLine, line_text}
use Rattle.msg_head.specs.declared.limits.TheConstants.{MAX_HEAD_BYTES, MAX_HEAD_LINES}
use Rattle.msg_body.specs.Messages.{Message, IsMessage, Spells, message_text}
use Rattle.msg_body.specs.declared.limits.TheConstants.{MAX_MESSAGE_BYTES}
use Rattle.component_values.specs.Context.{MessageContext}
use Rattle.content_digest.specs.declared.algorithm.Algorithm.{Algorithm}
use Rattle.signing.specs.SignCauses.{any_tag, passed_limit}
use Rattle.signing.specs.Written.{with_lines, digest_lines, signature_lines, with_digest, context_with_digest, signed_message}
use Rattle.signing.specs.declared.lines.AddedLines.{AddedLines}
use Rattle.signing.specs.declared.parts.Parts.{Parts}
use Rattle.signing.specs.declared.spec.SignSpec.{SignSpec}
use Rattle.signing.specs.tools.Lines.{AreLines}
use Rattle.signing.specs.tools.Parts.{ArePartsOf}
use Rattle.signing.proofs.Inserting.{flat_joined}
use Rattle.signing.proofs.AddedLines.{digest_are_lines, digest_frame_nothing}
use Rattle.signing.proofs.Lengthened.{is_lengthened}

-- no line changes nothing
pub with_none : (message : Message) → with_lines message [] ≡ message
with_none message = λ i. record {
  head = record { start = message.head.start; lines = append-nil message.head.lines i };
  framing = message.framing;
  body = message.body;
}

pub no_digest : (context : MessageContext) (digest : Option Algorithm) → length (digest_lines context.message digest) ≡ 0 → context ≡ context_with_digest context digest
no_digest context digest none =
    let empty = nil_from_length (digest_lines context.message digest) none in
    let same : with_digest context.message digest ≡ context.message = ap (λ (ls : List FieldLine). with_lines context.message ls) empty ∙ with_none context.message in
    λ i. record { message = sym same i; related = context.related; scheme = context.scheme; types = context.types }

-- ---- limits

-- the first limit that is passed by so many bytes of a head, lines of it and bytes of a message
abbrev by_sizes : ℕ → ℕ → ℕ → Option ℕ
by_sizes head lines whole =
    if nat_lt MAX_HEAD_BYTES head then Some MAX_HEAD_BYTES else if nat_lt MAX_HEAD_LINES lines then Some MAX_HEAD_LINES else if nat_lt MAX_MESSAGE_BYTES whole then Some MAX_MESSAGE_BYTES else None

-- no limit is passed
pub record Fit (head lines whole : ℕ) : Type 0 where
  pub head_fits : head ≤ MAX_HEAD_BYTES
  pub lines_fit : lines ≤ MAX_HEAD_LINES
  pub whole_fits : whole ≤ MAX_MESSAGE_BYTES

more : (limit n : ℕ) → limit < n → nat_lt limit n ≡ true
more limit n lt = lt-ltb limit n lt

not_less : (limit n : ℕ) → nat_lt limit n ≡ false → n ≤ limit
not_less limit n less = ltb-false limit n less

no_more : (limit n : ℕ) → n ≤ limit → nat_lt limit n ≡ false
no_more limit n le = le-ltb limit n le

fit : (head lines whole : ℕ) → by_sizes head lines whole ≡ None → Fit head lines whole
fit head lines whole none = elim (cases_Bool (nat_lt MAX_HEAD_BYTES head)) [
  | inl long ↦ absurd (cc (rw long at none))
  | inr a ↦ elim (cases_Bool (nat_lt MAX_HEAD_LINES lines)) [
    | inl many ↦ absurd (cc (rw (a, many) at none))
    | inr b ↦ elim (cases_Bool (nat_lt MAX_MESSAGE_BYTES whole)) [
      | inl large ↦ absurd (cc (rw (a, b, large) at none))
      | inr c ↦ record { head_fits = not_less MAX_HEAD_BYTES head a; lines_fit = not_less MAX_HEAD_LINES lines b; whole_fits = not_less MAX_MESSAGE_BYTES whole c }
    ]
  ]
]

fit_none : (head lines whole : ℕ) → Fit head lines whole → by_sizes head lines whole ≡ None
fit_none head lines whole is = rw (no_more MAX_HEAD_BYTES head is.head_fits, no_more MAX_HEAD_LINES lines is.lines_fit, no_more MAX_MESSAGE_BYTES whole is.whole_fits) refl

pub none_of_option : (o : Option ℕ) → is_some o ≡ false → o ≡ None
none_of_option None is = refl
none_of_option (Some n) is = absurd (cc is)

-- the message passes no limit
abbrev pub Fits : Message → Type 0
Fits message = Fit (length (head_text message.head)) (length message.head.lines) (length (message_text message))

pub fits_where_none : (message : Message) → passed_limit message ≡ None → Fits message
fits_where_none message none = fit (length (head_text message.head)) (length message.head.lines) (length (message_text message)) none

pub none_where_fits : (message : Message) → Fits message → passed_limit message ≡ None
none_where_fits message is = fit_none (length (head_text message.head)) (length message.head.lines) (length (message_text message)) is

module _ (message : Message) (parts : Parts) (are : ArePartsOf message parts) where
  text_length : (lines : List FieldLine) → length (message_text (with_lines message lines)) ≡ length parts.before.now + length (flat_map line_text lines) + length parts.after.now
  text_length lines =
      let whole = ap (λ t. length t) (are.text lines) in
      omega (arith, whole, length-append parts.before.now (flat_map line_text lines ++ parts.after.now), length-append (flat_map line_text lines) parts.after.now)

  -- what the code compares are the sizes of the message with the lines
  module _ (lines : List FieldLine) (bytes count : ℕ) (long : bytes ≡ length (flat_map line_text lines)) (many : count ≡ length lines) where
    sizes : by_sizes (length parts.before.now + bytes + 2) (parts.lines + count) (length parts.before.now + bytes + length parts.after.now) ≡ passed_limit (with_lines message lines)
    sizes =
        let heads : length parts.before.now + bytes + 2 ≡ length (head_text (with_lines message lines).head) = omega (arith, long, are.head lines) in
        let all : parts.lines + count ≡ length (message.head.lines ++ lines) = omega (arith, are.lines, many, length-append message.head.lines lines) in
        let whole : length parts.before.now + bytes + length parts.after.now ≡ length (message_text (with_lines message lines)) = omega (arith, long, text_length lines) in
        rw (heads, all, whole) refl

    pub head_passed : MAX_HEAD_BYTES < length parts.before.now + bytes + 2 → Some MAX_HEAD_BYTES ≡ passed_limit (with_lines message lines)
    head_passed lt = sym (rw (more MAX_HEAD_BYTES (length parts.before.now + bytes + 2) lt) refl) ∙ sizes

    pub lines_passed : length parts.before.now + bytes + 2 ≤ MAX_HEAD_BYTES → MAX_HEAD_LINES < parts.lines + count → Some MAX_HEAD_LINES ≡ passed_limit (with_lines message lines)
    lines_passed a lt = sym (rw (no_more MAX_HEAD_BYTES (length parts.before.now + bytes + 2) a, more MAX_HEAD_LINES (parts.lines + count) lt) refl) ∙ sizes

    pub whole_passed : length parts.before.now + bytes + 2 ≤ MAX_HEAD_BYTES → parts.lines + count ≤ MAX_HEAD_LINES → MAX_MESSAGE_BYTES < length parts.before.now + bytes + length parts.after.now
        → Some MAX_MESSAGE_BYTES ≡ passed_limit (with_lines message lines)
    whole_passed a b lt =
        sym (rw (no_more MAX_HEAD_BYTES (length parts.before.now + bytes + 2) a, no_more MAX_HEAD_LINES (parts.lines + count) b, more MAX_MESSAGE_BYTES (length parts.before.now + bytes + length parts.after.now) lt) refl) ∙ sizes

    pub none_passed : length parts.before.now + bytes + 2 ≤ MAX_HEAD_BYTES → parts.lines + count ≤ MAX_HEAD_LINES → length parts.before.now + bytes + length parts.after.now ≤ MAX_MESSAGE_BYTES
        → None ≡ passed_limit (with_lines message lines)
    none_passed a b c =
        sym (fit_none (length parts.before.now + bytes + 2) (parts.lines + count) (length parts.before.now + bytes + length parts.after.now) (record { head_fits = a; lines_fit = b; whole_fits = c })) ∙ sizes

  module _ (a b : List FieldLine) where
    joined_length : length (flat_map line_text (a ++ b)) ≡ length (flat_map line_text a) + length (flat_map line_text b)
    joined_length = ap (λ t. length t) (flat_joined a b) ∙ length-append (flat_map line_text a) (flat_map line_text b)

    -- the first lines alone pass no limit where both pass none
    pub first_fits : passed_limit (with_lines message (a ++ b)) ≡ None → passed_limit (with_lines message a) ≡ None
    first_fits none =
        let all = fits_where_none (with_lines message (a ++ b)) none in
        none_where_fits (with_lines message a) (record {
          head_fits = omega (arith, all.head_fits, are.head (a ++ b), are.head a, joined_length);
          lines_fit = omega (arith, all.lines_fit, length-append message.head.lines (a ++ b), length-append message.head.lines a, length-append a b);
          whole_fits = omega (arith, all.whole_fits, text_length (a ++ b), text_length a, joined_length);
        })

    pub added_bytes : (first : AddedLines) (n : ℕ) → AreLines first a → n ≡ length (flat_map line_text b) → length first.text + n ≡ length (flat_map line_text (a ++ b))
    added_bytes first n is also = omega (arith, ap (λ t. length t) is.text, also, joined_length)

    pub text_is : (first : AddedLines) (second : List ℕ) → AreLines first a → second ≡ flat_map line_text b → parts.before.now ++ (first.text ++ (second ++ parts.after.now)) ≡ message_text (with_lines message (a ++ b))
    text_is first second is also =
        rw (is.text, also) (ap (λ t. parts.before.now ++ t) (sym (append_assoc (flat_map line_text a) (flat_map line_text b) parts.after.now) ∙ ap (λ t. t ++ parts.after.now) (sym (flat_joined a b)))
        ∙ sym (are.text (a ++ b)))

-- the message with the line of its digest is one, and its bytes are these
pub digest_spelled : (to_head : Bool) (message : Message) (digest : Option Algorithm) (parts : Parts) (first : AddedLines) → IsMessage to_head message → ArePartsOf message parts
    → AreLines first (digest_lines message digest) → passed_limit (with_digest message digest) ≡ None → Spells to_head (with_digest message digest) (parts.before.now ++ (first.text ++ parts.after.now))
digest_spelled to_head message digest parts first is are one none =
    let lines = digest_lines message digest in
    let fits = fits_where_none (with_digest message digest) none in
    record {
      is = is_lengthened to_head message lines is (digest_are_lines message digest) (digest_frame_nothing message digest) fits.head_fits fits.lines_fit fits.whole_fits;
      text = rw one.text (sym (are.text lines));
    }

-- where the line of the digest alone passes a limit, the signed message does
pub digest_too_long : (message : Message) (spec : SignSpec) (parts : Parts) → ArePartsOf message parts → passed_limit (signed_message message spec any_tag) ≡ None → passed_limit (with_digest message spec.digest) ≡ None
digest_too_long message spec parts are none = first_fits message parts are (digest_lines message spec.digest) (signature_lines spec any_tag) none
