-- The signed request of a seed is as each message of a sample.
use Rattle.std.proofs.Common.{◌≡◌, ◌≤◌, ℕ, true, false, List, [], ◌∷◌, ◌++◌, length, codes, refl, sym, ap, subst, ◌∙◌, append_assoc, arith}
use Rattle.std.specs.Fmt.{digits}
use Rattle.std.specs.List.{list_all}
use Rattle.std.specs.Str.{byte}
use Rattle.std.proofs.lemmas.List.{append-nil, length-append, reverse-append}
use Rattle.base64.specs.Engines.{standard}
use Rattle.base64.specs.GeneralPurpose.{encode_of}
use Rattle.sha2.specs.Sha256.{sha256}
use Rattle.sha2.proofs.Facts256.{length-sha256}
use Rattle.byte_grammar.specs.Classes.{is_line_byte, is_token}
use Rattle.byte_grammar.specs.Language.{starts_in}
use Rattle.byte_grammar.proofs.ListLaws.{all_implied, all_joined, all_parts}
use Rattle.sfv_text.specs.Range.{is_byte, is_string_byte}
use Rattle.sfv_text.specs.Strict.{bytes_text}
use Rattle.msg_head.proofs.LineBytes.{line_byte_of}
use Rattle.msg_body.specs.Messages.{Message}
use Rattle.msg_body.specs.Spacing.{ends_in, is_spacing}
use Rattle.component_ids.specs.SignatureParams.{sig_params_text}
use Rattle.signatures.specs.SignatureBase.{signature_base}
use Rattle.hmac_sha256.specs.Hmac.{hmac}
use Rattle.signing.specs.Signed.{IsSignedMessage}
use Rattle.signing.specs.Written.{line_of, signed_message}
use Rattle.samples.specs.Chains.{IsUnsigned, sample_context}
use Rattle.samples.specs.Requests.{content_of, sample_key, sample_params, sample_spec}
use Rattle.samples.proofs.DrawnSteps.{chunks_length}
use Rattle.samples.proofs.NameCounts.{each_once}
use Rattle.samples.proofs.Ready.{IsReady}
use Rattle.samples.proofs.ShortLines.{IsShortLine}
use Rattle.samples.proofs.Signable.{bytes_length, digest_are_bytes, digest_text, printed, same}
use Rattle.samples.proofs.Unsigned.{are_chunks, bytes_are, chunks, coding, content_joined, content_length, date, host, message_with, unsigned_one}

-- ---- a line of bytes

bytes_clean : (bytes : List ℕ) → list_all is_byte bytes ≡ true → list_all is_line_byte (bytes_text bytes) ≡ true
bytes_clean bytes are =
    let parts = all_parts is_string_byte (codes "sha-256=") (bytes_text bytes ++ []) (printed bytes are) in
    let all = subst (λ (t : List ℕ). list_all is_string_byte t ≡ true) (append-nil (bytes_text bytes)) parts.1 in
    all_implied is_string_byte is_line_byte (λ c is. line_byte_of is_string_byte c refl refl refl is) (bytes_text bytes) all

ends_with : (xs : List ℕ) (c : ℕ) → ends_in is_spacing (xs ++ c ∷ []) ≡ is_spacing c
ends_with xs c = ap (starts_in is_spacing) (reverse-append xs (c ∷ []))

-- a space, a text that begins with this byte, and a Byte Sequence
bytes_line : (name before bytes raw : List ℕ) (first : ℕ) → is_token name ≡ true → length name ≤ 20 → is_spacing first ≡ false → list_all is_line_byte (first ∷ before) ≡ true → length before ≤ 100
    → list_all is_byte bytes ≡ true → length bytes ≡ 32 → raw ≡ byte " " ∷ ((first ∷ before) ++ bytes_text bytes) → IsShortLine (record { name = name; raw = raw })
bytes_line name before bytes raw first token short solid clean few are long raw_is = record {
  name = token;
  short_name = short;
  blanks = codes " ";
  core = (first ∷ before) ++ bytes_text bytes;
  joined = raw_is;
  are_blanks = refl;
  few = omega arith;
  clean = all_joined is_line_byte (first ∷ before) (bytes_text bytes) clean (bytes_clean bytes are);
  short = omega (arith, length-append (first ∷ before) (bytes_text bytes), bytes_length bytes long, few);
  begins = solid;
  ends = ap (ends_in is_spacing) (sym (append_assoc (first ∷ before) (byte ":" ∷ encode_of standard bytes) (codes ":")))
      ∙ ends_with ((first ∷ before) ++ byte ":" ∷ encode_of standard bytes) (byte ":");
}

-- ---- the six lines

host_short : IsShortLine host
host_short = record {
  name = refl;
  short_name = omega arith;
  blanks = codes " ";
  core = codes "sample.example";
  joined = refl;
  are_blanks = refl;
  few = omega arith;
  clean = refl;
  short = omega arith;
  begins = refl;
  ends = refl;
}

date_short : IsShortLine date
date_short = record {
  name = refl;
  short_name = omega arith;
  blanks = codes " ";
  core = codes "Tue, 20 Apr 2021 02:07:55 GMT";
  joined = refl;
  are_blanks = refl;
  few = omega arith;
  clean = refl;
  short = omega arith;
  begins = refl;
  ends = refl;
}

coding_short : IsShortLine coding
coding_short = record {
  name = refl;
  short_name = omega arith;
  blanks = codes " ";
  core = codes "chunked";
  joined = refl;
  are_blanks = refl;
  few = omega arith;
  clean = refl;
  short = omega arith;
  begins = refl;
  ends = refl;
}

digest_short : (digest : List ℕ) → list_all is_byte digest ≡ true → length digest ≡ 32 → IsShortLine (line_of (codes "Content-Digest") (digest_text digest))
digest_short digest are long =
    bytes_line (codes "Content-Digest") (codes "ha-256=") digest (byte " " ∷ digest_text digest) (byte "s") refl (omega arith) refl refl (omega arith) are long
    (ap (λ (t : List ℕ). byte " " ∷ t) (same digest are ∙ ap (λ (t : List ℕ). codes "sha-256=" ++ t) (append-nil (bytes_text digest))))

input_short : IsShortLine (line_of (codes "Signature-Input") (codes "s=" ++ sig_params_text sample_params))
unfolding digits
input_short = record {
  name = refl;
  short_name = omega arith;
  blanks = codes " ";
  core = codes "s=" ++ sig_params_text sample_params;
  joined = refl;
  are_blanks = refl;
  few = omega arith;
  clean = refl;
  short = omega arith;
  begins = refl;
  ends = refl;
}

tag_short : (tag : List ℕ) → list_all is_byte tag ≡ true → length tag ≡ 32 → IsShortLine (line_of (codes "Signature") (codes "s=" ++ bytes_text tag))
tag_short tag are long =
    bytes_line (codes "Signature") (codes "=") tag (byte " " ∷ (codes "s=" ++ bytes_text tag)) (byte "s") refl (omega arith) refl refl (omega arith) are long refl

-- ---- the message

module _ (content tag : List ℕ) (long : length content ≡ 100000) (are : list_all is_byte tag ≡ true) (size : length tag ≡ 32) where
  abbrev signed : Message
  signed = signed_message (message_with content) sample_spec tag

  signed_ready : IsReady signed
  signed_ready = record {
    start = record { method = refl; target = refl; version = refl };
    start_short = omega arith;
    lines = (
      host_short,
      (
        date_short,
        (coding_short, (digest_short (sha256 (content ++ [])) (digest_are_bytes (content ++ [])) (length-sha256 (content ++ [])), (input_short, (tag_short tag are size, tt)))),
      ),
    );
    six = refl;
    once = each_once signed.head.lines (refl, (refl, (refl, (refl, (refl, (refl, tt))))));
    framable = record { no_conflict = refl; lengths = refl; codings = refl };
    framing = refl;
    framed = refl;
    chunks = chunks content;
    body = refl;
    are = are_chunks content long;
    content = content_joined content ∙ long;
    text = omega (arith, chunks_length (chunks content) (are_chunks content long), content_joined content, long);
  }

module _ (seed : ℕ) (unsigned written : Message) (is : IsUnsigned seed unsigned) (by : IsSignedMessage (sample_context unsigned) sample_spec written) where
  abbrev tag : List ℕ
  tag = hmac sample_key (signature_base sample_params by.values)

  pub signed_is : written ≡ signed_message (message_with (content_of seed)) sample_spec tag
  signed_is = by.written_is ∙ ap (λ (m : Message). signed_message m sample_spec tag) (unsigned_one seed unsigned is)

  pub first_ready : IsReady written
  first_ready =
      subst IsReady (sym signed_is) (signed_ready (content_of seed) tag (content_length seed ∙ bytes_are) (digest_are_bytes _) (length-sha256 _))
