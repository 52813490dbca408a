-- The request of a seed can be signed: no cause holds for which it isn't.
use Rattle.std.proofs.Common.{◌≡◌, ◌≤◌, ◌≢◌, ◌+◌, ◌/◌, ◌%◌, ◌^◌, ℕ, zero, suc, Bool, true, false, Option, Some, None, Ok, List, [], ◌∷◌, ◌++◌, length, replicate, codes, inl, inr, refl, sym, ap, subst, ◌∙◌, arith}
use Rattle.std.specs.Prelude.{IsTrue, IsSomeAnd}
use Rattle.std.specs.Char.{is_ascii}
use Rattle.std.specs.Fmt.{digits}
use Rattle.std.specs.Int.{byte_at, bytes_high_first, to_be_bytes, w32}
use Rattle.std.specs.List.{flat_map, list_all, list_any, slice_get, slice_index}
use Rattle.std.specs.Str.{byte}
use Rattle.std.proofs.lemmas.Bool.{and_from, false≢true, lt-ltb, or_parts}
use Rattle.std.proofs.lemmas.Bool.Decides.{nat_tests}
use Rattle.std.proofs.lemmas.List.{append-nil, length-append, length-replicate}
use Rattle.base64.specs.Engines.{standard}
use Rattle.base64.specs.GeneralPurpose.{encode_of}
use Rattle.base64.specs.Rfc4648.{encode_symbols, padding_len, unpadded_len}
use Rattle.base64.proofs.RoundTrip.{length-encode_symbols}
use Rattle.sha2.specs.Sha256.{digest_bytes, final_hash, initial_hash_256, sha256}
use Rattle.sha2.proofs.Facts256.{length-sha256}
use Rattle.byte_grammar.specs.Classes.{is_line_byte}
use Rattle.byte_grammar.proofs.ListLaws.{all_implied, all_joined}
use Rattle.sfv_text.specs.Range.{is_byte, is_dict_in_range, is_dict_member_in_range, is_string_byte}
use Rattle.sfv_text.specs.Strict.{bytes_text, dict_member_text, dict_text}
use Rattle.sfv_text.specs.declared.pair.Pair.{Pair}
use Rattle.sfv_text.specs.declared.value.BareItem.TheVariants.{Bytes}
use Rattle.sfv_text.specs.declared.value.Member.{Member}
use Rattle.sfv_text.specs.declared.value.Member.TheVariants.{Item as ItemMember}
use Rattle.sfv_text.proofs.Printable.{dict_is}
use Rattle.sfv_read.proofs.MoreMembers.{strict_ends}
use Rattle.msg_head.specs.Heads.{head_text}
use Rattle.msg_head.specs.Lines.{FieldLine, line_text}
use Rattle.msg_head.specs.Values.{value}
use Rattle.msg_head.proofs.LineBytes.{line_byte_of}
use Rattle.msg_head.proofs.MoreLines.{value_after_space}
use Rattle.msg_body.specs.Bodies.{body_text}
use Rattle.msg_body.specs.Messages.{Message, message_text}
use Rattle.derived_values.specs.Authorities.{IsAuthority}
use Rattle.derived_values.specs.Targets.{SpellsTarget, TargetParts}
use Rattle.derived_values.specs.declared.target.Form.TheVariants.{Origin}
use Rattle.component_ids.specs.SignatureParams.{sig_params_text}
use Rattle.component_ids.specs.Types.{KindMap}
use Rattle.component_ids.specs.declared.scheme.Scheme.TheVariants.{Https}
use Rattle.component_values.specs.Context.{MessageContext}
use Rattle.component_values.specs.Values.{Has, HaveValues, plain_value}
use Rattle.component_values.proofs.FirstLacks.{none_lacks}
use Rattle.signing.specs.SignCauses.{IsSignCause, any_tag, covers_itself, passed_limit}
use Rattle.signing.specs.Written.{line_of, signed_message, with_lines}
use Rattle.signing.specs.declared.fault.SignFault.{SignFault}
use Rattle.signing.specs.declared.fault.SignFault.TheVariants.{Memory, InputMalformed, SignatureMalformed, LabelThere, SelfCover, TooLong, Lacks}
use Rattle.signing.proofs.Inserting.{flat_joined, head_length, line_length}
use Rattle.signing.proofs.Making.{none_where_fits}
use Rattle.samples.specs.Chains.{sample_context}
use Rattle.samples.specs.Laws.{IsSignable}
use Rattle.samples.specs.Requests.{content_of, plain, sample_params, sample_spec}
use Rattle.samples.proofs.Unsigned.{bytes_are, content_length, lines, message_with, text_length, unsigned_one}

-- ---- the member of a digest

abbrev pub member : List ℕ → Pair Member
member digest = record { key = codes "sha-256"; value = ItemMember (record { bare = Bytes digest; params = [] }) }

-- the text of the field that has it
abbrev pub digest_text : List ℕ → List ℕ
digest_text digest = dict_text (member digest ∷ [])

-- ---- its length

-- 32 bytes are 44 symbols of base64, and a colon before and after them
pub bytes_length : (bytes : List ℕ) → length bytes ≡ 32 → length (bytes_text bytes) ≡ 46
bytes_length bytes long =
    let padding = replicate {A = ℕ} (padding_len (length bytes)) (byte "=") in
    let symbols : length (encode_symbols standard.encode_table bytes) ≡ 43 = length-encode_symbols standard.encode_table bytes ∙ ap unpadded_len long in
    let padded : length padding ≡ 1 = length-replicate (padding_len (length bytes)) (byte "=") ∙ ap padding_len long in
    omega (arith, symbols, padded, length-append (encode_symbols standard.encode_table bytes) padding, length-append (encode_of standard bytes) (codes ":"))

digest_length : (digest : List ℕ) → length digest ≡ 32 → length (digest_text digest) ≡ 54
digest_length digest long =
    omega (arith, bytes_length digest long, length-append (bytes_text digest) [], length-append (bytes_text digest ++ []) [])

-- ---- its value

low_byte : (k n : ℕ) → is_byte (byte_at k n) ≡ true
low_byte zero n = lt-ltb (n % 256) 256 (omega arith)
low_byte (suc k) n = lt-ltb (n / 256 ^ suc k % 256) 256 (omega arith)

high_first : (k n : ℕ) → list_all is_byte (bytes_high_first k n) ≡ true
high_first zero n = refl
high_first (suc k) n = and_from (is_byte (byte_at k n)) (list_all is_byte (bytes_high_first k n)) (low_byte k n) (high_first k n)

words_are_bytes : (h : List ℕ) (n : ℕ) → list_all is_byte (digest_bytes h n) ≡ true
unfolding digest_bytes
words_are_bytes h zero = refl
words_are_bytes h (suc n) = all_joined is_byte (digest_bytes h n) (to_be_bytes w32 (slice_index h n)) (words_are_bytes h n) (high_first 4 (slice_index h n))

pub digest_are_bytes : (text : List ℕ) → list_all is_byte (sha256 text) ≡ true
unfolding sha256
digest_are_bytes text = words_are_bytes (final_hash initial_hash_256 text) 8

module _ (digest : List ℕ) (bytes : list_all is_byte digest ≡ true) where
  pub in_range : is_dict_member_in_range (member digest) ≡ true
  in_range = rw bytes refl

  pub dict_in_range : is_dict_in_range (member digest ∷ []) ≡ true
  dict_in_range = rw in_range refl

  pub same : digest_text digest ≡ dict_member_text (member digest)
  same = append-nil (dict_member_text (member digest))

  pub printed : list_all is_string_byte (dict_member_text (member digest)) ≡ true
  printed = subst (λ (t : List ℕ). list_all is_string_byte t ≡ true) same (dict_is (member digest ∷ []) dict_in_range)

  pub digest_value : value (byte " " ∷ digest_text digest) ≡ dict_member_text (member digest)
  digest_value =
      let text = dict_member_text (member digest) in
      let clean = all_implied is_string_byte is_line_byte (λ c is. line_byte_of is_string_byte c refl refl refl is) text printed in
      let ends = strict_ends (member digest) in_range in
      ap (λ (t : List ℕ). value (byte " " ∷ t)) same ∙ value_after_space text clean (lt-ltb 0 (length text) (omega arith)) ends.0 ends.1

  digest_ascii : list_all is_ascii (dict_member_text (member digest)) ≡ true
  digest_ascii = all_implied is_string_byte is_ascii (λ c is. grind (arith, nat_tests)) (dict_member_text (member digest)) printed

-- ---- limits

pub one_line : (line : FieldLine) (more : List FieldLine) → length (flat_map line_text (line ∷ more)) ≡ length line.name + length line.raw + 3 + length (flat_map line_text more)
one_line line more = omega (arith, line_length line, length-append (line_text line) (flat_map line_text more))

-- the lines of the signed request, by the values of those that are added
abbrev three_more : List ℕ → List ℕ → List ℕ → List FieldLine
three_more digest input tag =
    line_of (codes "Content-Digest") digest ∷ line_of (codes "Signature-Input") input ∷ line_of (codes "Signature") tag ∷ []

added_length : (digest input tag : List ℕ) → length (flat_map line_text (three_more digest input tag)) ≡ length digest + length input + length tag + 50
added_length digest input tag =
    let one = line_of (codes "Content-Digest") digest in
    let two = line_of (codes "Signature-Input") input in
    let three = line_of (codes "Signature") tag in
    omega (arith, one_line one (two ∷ three ∷ []), one_line two (three ∷ []), one_line three [])

module _ (content digest input tag : List ℕ) (long : length content ≡ 100000) (short : length digest ≤ 1000) (few : length input ≤ 1000) (brief : length tag ≤ 1000) where
  abbrev longer : Message
  longer = with_lines (message_with content) (three_more digest input tag)

  lines_length : length (flat_map line_text longer.head.lines) ≤ 3137
  lines_length =
      let joined = ap (λ t. length t) (flat_joined lines (three_more digest input tag)) in
      omega (arith, joined, length-append (flat_map line_text lines) (flat_map line_text (three_more digest input tag)), added_length digest input tag)

  head_short : length (head_text longer.head) ≤ 4000
  head_short = omega (arith, lines_length, head_length longer.head)

  body_length : length (body_text longer.body) ≤ 100126
  body_length = omega (arith, text_length content, length-append (head_text (message_with content).head) (body_text longer.body))

  text_short : length (message_text longer) ≤ 104126
  text_short = omega (arith, head_short, body_length, length-append (head_text longer.head) (body_text longer.body))

  fits : passed_limit longer ≡ None
  fits = none_where_fits longer (record { head_fits = omega (arith, head_short); lines_fit = omega arith; whole_fits = omega (arith, text_short) })

-- the strict text of the parameters, the moment's digits written out
input_length : length (codes "s=" ++ sig_params_text sample_params) ≤ 1000
unfolding digits
input_length = omega arith

-- ---- values

abbrev parts : TargetParts
parts = record { form = Origin; scheme = None; authority = None; path = codes "/sample"; query = None }

no_connect : codes "POST" ≢ codes "CONNECT"
no_connect same = let long = ap (λ (t : List ℕ). length t) same in omega (arith, long)

spelt : SpellsTarget (codes "POST") (codes "/sample") parts
spelt = inr (no_connect, inl (record { form = refl; no_scheme = refl; no_authority = refl; path = refl; query = tt; joined = refl }))

authority : IsAuthority (codes "sample.example") (codes "sample.example") None
authority = record { is_host = inr refl; is_port = tt; joined = refl }

plain_is : (raw text : List ℕ) → value raw ≡ text → list_all is_ascii text ≡ true → Ok text ≡ plain_value (value raw ++ [])
plain_is raw text is ascii = rw (is, append-nil text, ascii) refl

-- the request with a further line, of the digest
module _ (content raw : List ℕ) (types : KindMap) where
  abbrev context : MessageContext
  context = record {
    message = with_lines (message_with content) (record { name = codes "Content-Digest"; raw = raw } ∷ []);
    related = None;
    scheme = Https;
    types = types;
  }

  method_has : Has context (plain (codes "@method")) (codes "POST")
  method_has = refl

  authority_has : Has context (plain (codes "@authority")) (codes "sample.example")
  authority_has = inl (parts, spelt, (record { host = codes "sample.example"; port = None }, (None, authority, refl), refl))

  path_has : Has context (plain (codes "@path")) (codes "/sample")
  path_has = inl (parts, spelt, refl)

  date_has : Has context (plain (codes "date")) (codes "Tue, 20 Apr 2021 02:07:55 GMT")
  date_has = refl

  digest_has : (text : List ℕ) → value raw ≡ text → list_all is_ascii text ≡ true → Has context (plain (codes "content-digest")) text
  digest_has text is ascii = plain_is raw text is ascii

  have_values : (text : List ℕ) → value raw ≡ text → list_all is_ascii text ≡ true
      → HaveValues context sample_params.ids (codes "POST" ∷ codes "sample.example" ∷ codes "/sample" ∷ codes "Tue, 20 Apr 2021 02:07:55 GMT" ∷ text ∷ [])
  have_values text is ascii = (method_has, (authority_has, (path_has, (date_has, (digest_has text is ascii, tt)))))

-- ---- causes

-- no element passes a test that none passes
none_there : {X : Type 0} (p : X → Bool) (xs : List X) (i : ℕ) → list_any p xs ≡ false → ¬ IsSomeAnd (slice_get xs i) (λ x. IsTrue (p x))
none_there p [] i none there = absurd there
none_there p (x ∷ xs) zero none there = false≢true (sym (or_parts (p x) (list_any p xs) none).0 ∙ there)
none_there p (x ∷ xs) (suc i) none there = none_there p xs i (or_parts (p x) (list_any p xs) none).1 there

not_some : (o : Option ℕ) (n : ℕ) → o ≡ None → ¬ (o ≡ Some n)
not_some o n none some = absurd (cc (none, some))

module _ (content : List ℕ) (long : length content ≡ 100000) where
  -- the digest of the content
  abbrev digest : List ℕ
  digest = sha256 (content ++ [])

  not_long : passed_limit (signed_message (message_with content) sample_spec any_tag) ≡ None
  not_long =
      fits content (digest_text digest) (codes "s=" ++ sig_params_text sample_params) (codes "s=" ++ bytes_text any_tag) long
      (omega (arith, digest_length digest (length-sha256 (content ++ [])))) input_length (omega (arith, bytes_length any_tag refl))

  no_cause : (fault : SignFault) → ¬ IsSignCause (sample_context (message_with content)) sample_spec fault
  no_cause InputMalformed is = false≢true is.0
  no_cause SignatureMalformed is = false≢true is.0
  no_cause LabelThere (inl is) = false≢true is.1.has.there
  no_cause LabelThere (inr is) = false≢true is.1.has.there
  no_cause (SelfCover index) is = none_there (covers_itself sample_spec.label) sample_params.ids index refl is.there
  no_cause (TooLong limit) is = not_some (passed_limit (signed_message (message_with content) sample_spec any_tag)) limit not_long is
  no_cause (Lacks index lack) is =
      let raw = byte " " ∷ digest_text digest in
      let types = (sample_context (message_with content)).types in
      let bytes = digest_are_bytes (content ++ []) in
      let text = dict_member_text (member digest) in
      none_lacks (context content raw types) sample_params.ids (codes "POST" ∷ codes "sample.example" ∷ codes "/sample" ∷ codes "Tue, 20 Apr 2021 02:07:55 GMT" ∷ text ∷ []) index lack
      (have_values content raw types text (digest_value digest bytes) (digest_ascii digest bytes)) is
  no_cause Memory is = is

pub no_sign_fault : IsSignable
no_sign_fault seed unsigned is fault caused =
    no_cause (content_of seed) (content_length seed ∙ bytes_are) fault
    (subst (λ (m : Message). IsSignCause (sample_context m) sample_spec fault) (unsigned_one seed unsigned is) caused.holds)
