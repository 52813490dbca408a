-- All tags make messages of one length.
use Rattle.std.proofs.Common.{◌≡◌, ◌+◌, ℕ, List, [], ◌∷◌, ◌++◌, length, replicate, codes, refl, sym, ap, ◌∙◌, arith}
use Rattle.std.specs.Str.{byte}
use Rattle.std.specs.List.{flat_map}
use Rattle.std.proofs.lemmas.List.{length-append}
use Rattle.base64.specs.Engines.{standard}
use Rattle.base64.specs.GeneralPurpose.{encode_of}
use Rattle.base64.specs.Rfc4648.{encode_symbols, padding_len, unpadded_len}
use Rattle.base64.proofs.RoundTrip.{length-encode_symbols}
use Rattle.sfv_text.specs.Strict.{bytes_text}
use Rattle.hmac_sha256.specs.Hmac.{hmac}
use Rattle.sha2.proofs.Facts256.{length-sha256}
use Rattle.msg_head.specs.Heads.{head_text}
use Rattle.msg_head.specs.Lines.{FieldLine, line_text}
use Rattle.msg_body.specs.Bodies.{body_text}
use Rattle.msg_body.specs.Messages.{Message, message_text}
use Rattle.component_ids.specs.SignatureParams.{sig_params_text}
use Rattle.signing.specs.SignCauses.{any_tag, passed_limit}
use Rattle.signing.specs.Written.{digest_lines, member_line, signature_lines, signed_message}
use Rattle.signing.specs.declared.spec.SignSpec.{SignSpec}
use Rattle.signing.proofs.Inserting.{flat_joined, head_length, line_length}

encoded_length : (m : List ℕ) → length (encode_of standard m) ≡ unpadded_len (length m) + length (replicate {A = ℕ} (padding_len (length m)) (byte "="))
encoded_length m =
    let padding = replicate {A = ℕ} (padding_len (length m)) (byte "=") in
    length-append (encode_symbols standard.encode_table m) padding ∙ ap (λ (n : ℕ). n + length padding) (length-encode_symbols standard.encode_table m)

bytes_length : (a b : List ℕ) → length a ≡ length b → length (bytes_text a) ≡ length (bytes_text b)
bytes_length a b same =
    let one = encoded_length a ∙ ap (λ (n : ℕ). unpadded_len n + length (replicate {A = ℕ} (padding_len n) (byte "="))) same ∙ sym (encoded_length b) in
    omega (arith, one, length-append (encode_of standard a) (codes ":"), length-append (encode_of standard b) (codes ":"))

-- ---- lines after others

flat_length : (xs ys zs : List FieldLine) → length (flat_map line_text ys) ≡ length (flat_map line_text zs) → length (flat_map line_text (xs ++ ys)) ≡ length (flat_map line_text (xs ++ zs))
flat_length xs ys zs same =
    let one = ap (λ t. length t) (flat_joined xs ys) in
    let two = ap (λ t. length t) (flat_joined xs zs) in
    omega (arith, same, one, two, length-append (flat_map line_text xs) (flat_map line_text ys), length-append (flat_map line_text xs) (flat_map line_text zs))

member_line_length : (name key a b : List ℕ) → length a ≡ length b → length (line_text (member_line name key a)) ≡ length (line_text (member_line name key b))
member_line_length name key a b same =
    omega (arith, same, sym (line_length (member_line name key a)), sym (line_length (member_line name key b)), length-append key (byte "=" ∷ a), length-append key (byte "=" ∷ b))

module _ (message : Message) (spec : SignSpec) (a b : List ℕ) (same : length a ≡ length b) where
  signature_length : length (flat_map line_text (signature_lines spec a)) ≡ length (flat_map line_text (signature_lines spec b))
  signature_length =
      let input = member_line (codes "Signature-Input") spec.label (sig_params_text spec.params) in
      let one = member_line (codes "Signature") spec.label (bytes_text a) in
      let two = member_line (codes "Signature") spec.label (bytes_text b) in
      let line = member_line_length (codes "Signature") spec.label (bytes_text a) (bytes_text b) (bytes_length a b same) in
      flat_length (input ∷ []) (one ∷ []) (two ∷ []) (omega (arith, line, length-append (line_text one) [], length-append (line_text two) []))

  lines_length : length (flat_map line_text (signed_message message spec a).head.lines) ≡ length (flat_map line_text (signed_message message spec b).head.lines)
  lines_length =
      let digest = digest_lines message spec.digest in
      flat_length message.head.lines (digest ++ signature_lines spec a) (digest ++ signature_lines spec b) (flat_length digest (signature_lines spec a) (signature_lines spec b) signature_length)

  -- messages with tags of one length pass the same limit
  pub limit_same : passed_limit (signed_message message spec a) ≡ passed_limit (signed_message message spec b)
  limit_same =
      let digest = digest_lines message spec.digest in
      let one = signed_message message spec a in
      let two = signed_message message spec b in
      let heads : length (head_text one.head) ≡ length (head_text two.head) = omega (arith, lines_length, head_length one.head, head_length two.head) in
      let counts : length one.head.lines ≡ length two.head.lines =
      omega (arith, length-append message.head.lines (digest ++ signature_lines spec a), length-append message.head.lines (digest ++ signature_lines spec b), length-append digest (signature_lines spec a), length-append digest (signature_lines spec b)) in
      let texts : length (message_text one) ≡ length (message_text two) = omega (arith, heads, length-append (head_text one.head) (body_text message.body), length-append (head_text two.head) (body_text message.body)) in
      rw (heads, counts, texts) refl

pub tag_length : (key base : List ℕ) → length (hmac key base) ≡ length any_tag
tag_length key base = length-sha256 _

-- ---- what the code counts

pub any_tag_length : 46 ≡ length (bytes_text any_tag)
any_tag_length =
    let one : length (encode_of standard any_tag) ≡ 44 = encoded_length any_tag in
    omega (arith, one, length-append (encode_of standard any_tag) (codes ":"))

pub lines_of_lengths : (spec : SignSpec) (one two : ℕ) → one ≡ length (line_text (member_line (codes "Signature-Input") spec.label (sig_params_text spec.params)))
    → two ≡ length (line_text (member_line (codes "Signature") spec.label (bytes_text any_tag))) → one + two ≡ length (flat_map line_text (signature_lines spec any_tag))
lines_of_lengths spec one two is also =
    let input = line_text (member_line (codes "Signature-Input") spec.label (sig_params_text spec.params)) in
    let tag = line_text (member_line (codes "Signature") spec.label (bytes_text any_tag)) in
    omega (arith, is, also, length-append input (tag ++ []), length-append tag [])
