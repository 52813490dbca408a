-- What a list is turned into is a message, with the list's content.
use Rattle.std.proofs.Common.{◌≡◌, ℕ, ◌+◌, ◌<◌, ◌≤◌, Bool, true, false, not, ◌&&◌, ◌||◌, List, [], ◌∷◌, ◌++◌, length, map, refl, sym, ap, subst, ◌∙◌, inl, inr, arith, codes}
use Rattle.std.specs.Prelude.{nat_lt, if◌then◌else◌}
use Rattle.std.specs.Fmt.{digits}
use Rattle.std.specs.Char.{is_ascii_uppercase}
use Rattle.std.specs.List.{All, list_all, list_any}
use Rattle.std.specs.Str.{byte, bytes_eq}
use Rattle.std.specs.Str.Parse.{digits_value}
use Rattle.std.proofs.lemmas.Bool.{and_parts, and_from, and_right, cases_lt, cases_eq, false≢true, lt-ltb, ltb-true, not_from_true, or_parts, true_from_ne_false}
use Rattle.std.proofs.lemmas.Bool.Decides.{nat_tests}
use Rattle.std.proofs.lemmas.Fmt.{hex_one_digit}
use Rattle.std.proofs.lemmas.List.{append-nil, length-append}
use Rattle.std.proofs.lemmas.List.Elements.{All-append, All-cons, All-nil}
use Rattle.byte_grammar.specs.Language.{starts_in}
use Rattle.byte_grammar.specs.Classes.{is_field_name, is_line_byte, is_one_of, is_name_byte, is_tchar, is_token, is_visible}
use Rattle.byte_grammar.proofs.ListLaws.{all_implied}
use Rattle.msg_head.specs.declared.limits.TheConstants.{MAX_HEAD_BYTES, MAX_HEAD_LINES}
use Rattle.msg_head.specs.Heads.{Head, IsHead, head_text}
use Rattle.msg_head.specs.Lines.{IsLine, line_of}
use Rattle.msg_head.specs.RawValues.{IsRaw}
use Rattle.msg_head.specs.Starts.{IsStartLine, is_target}
use Rattle.msg_head.specs.Trailers.{IsTrailer, trailer_text}
use Rattle.msg_head.specs.Values.{is_there, value, values}
use Rattle.framing.specs.declared.chunk_limits.TheConstants.{MAX_CONTENT_BYTES}
use Rattle.framing.specs.Chunks.{AreChunks, Chunks, IsChunk, IsChunkLine, chunks_text, content_of}
use Rattle.framing.specs.Sizes.{chunk_of}
use Rattle.framing.proofs.SizeLines.{line_of_size}
use Rattle.framing.specs.declared.kind.Framing.{Framing}
use Rattle.framing.specs.declared.kind.Framing.TheVariants as framing
use Rattle.framing.specs.Framings.{IsFramable, are_accepted_codings, are_accepted_lengths, content_length_of, first_length, framing_by, framing_of, version_of}
use Rattle.msg_body.specs.Bodies.{IsBodyOf, body_text, content_in, trailers_in}
use Rattle.msg_body.specs.Messages.{IsMessage, Message}
use Rattle.msg_body.specs.Views.{message_content}
use Rattle.component_ids.specs.declared.scheme.Scheme.{Scheme}
use Rattle.list_texts.specs.declared.list.Field.{Field}
use Rattle.list_texts.specs.declared.list.FieldList.{FieldList}
use Rattle.field_lists.specs.declared.to_fault.ToFault.TheVariants.{BadLength, TooLarge}
use Rattle.field_lists.specs.declared.to_fault.MessageLimit.{MessageLimit}
use Rattle.field_lists.specs.declared.to_fault.MessageLimit.TheVariants.{HeadBytes, TrailerBytes, HeadLines, TrailerLines}
use Rattle.field_lists.specs.Controls.{Control, request, response, IsAllowed, is_path_text, is_request, is_without_content}
use Rattle.field_lists.specs.Laws.{IsWholeMessage}
use Rattle.field_lists.specs.ToCauses.{IsBadLength, IsOtherLength, Passes, TurnsInto, is_good, lengths_of}
use Rattle.field_lists.specs.ToMessages.{body_with, coding_lines, has_body, has_field, head_lines, head_with, host_lines, is_in_chunks, line_of_field, message_with, start_of}
use Rattle.field_lists.proofs.Judging.{limit_or_none}
use Rattle.field_lists.proofs.LineNames.{good_parts, none_refused, no_values, or_none, plain_there, plain_values, there_joined, values_joined}
use Rattle.field_lists.proofs.NamedFields.{some_named}
use Rattle.field_lists.proofs.MessageRows.{Turned, none_in, turned}
use Rattle.field_lists.proofs.TargetRows.{visible_value}

-- ---- start lines

visible_clean : (c : ℕ) → is_visible c ≡ true → is_line_byte c ≡ true
visible_clean c is = grind (arith, nat_tests)

-- a path is a target
path_is_target : (path : List ℕ) → is_path_text path ≡ true → is_target path ≡ true
path_is_target path is =
    let parts = and_parts (starts_in (is_one_of (codes "/")) path) (list_all is_visible path && not (list_any (is_one_of (codes "#")) path)) is in
    and_from (nat_lt 0 (length path)) (list_all is_visible path) (some path parts.0) (and_parts (list_all is_visible path) (not (list_any (is_one_of (codes "#")) path)) parts.1).0
  where
    some : (text : List ℕ) → starts_in (is_one_of (codes "/")) text ≡ true → nat_lt 0 (length text) ≡ true
    some [] begins = absurd (false≢true begins)
    some (c ∷ cs) begins = lt-ltb 0 (length (c ∷ cs)) (omega arith)

start_line : (control : Control) → IsAllowed control → IsStartLine (start_of control)
start_line (request c) allowed = record { method = allowed.method; target = path_is_target c.path allowed.path; version = refl }
start_line (response code) allowed = record { version = refl; code = allowed; reason = refl }

-- ---- field lines

-- a line whose value has no end of a line in it
clean_raw : (raw : List ℕ) → list_all is_line_byte raw ≡ true → IsRaw raw
clean_raw raw clean = (record { first = raw; continued = [] }, and_from (list_all is_line_byte raw) true clean refl, sym (append-nil raw))

is_line : (name text : List ℕ) → is_token name ≡ true → list_all is_line_byte text ≡ true → IsLine (line_of name text)
is_line name text token clean = record { name = token; raw = clean_raw (byte " " ∷ text) clean }

name_byte : (c : ℕ) → is_name_byte c ≡ true → is_tchar c ≡ true
name_byte c is = (and_parts (is_tchar c) (not (is_ascii_uppercase c)) is).0

name_is_token : (name : List ℕ) → is_field_name name ≡ true → is_token name ≡ true
name_is_token name is =
    let both = and_parts (nat_lt 0 (length name)) (list_all is_name_byte name) is in
    and_from (nat_lt 0 (length name)) (list_all is_tchar name) both.0 (all_implied is_name_byte is_tchar name_byte name both.1)

field_lines : (fields : List Field) → list_all is_good fields ≡ true → All IsLine (map line_of_field fields)
field_lines [] all = All-nil IsLine
field_lines (f ∷ fs) all =
    let both = and_parts (is_good f) (list_all is_good fs) all in
    let good = good_parts f both.0 in
    All-cons IsLine (line_of_field f) (map line_of_field fs) (is_line f.name f.value (name_is_token f.name good.name) good.clean) (field_lines fs both.1)

host_is_line : (control : Control) → IsAllowed control → All IsLine (host_lines control)
host_is_line (response code) allowed = All-nil IsLine
host_is_line (request c) allowed =
    let visible = (and_parts (nat_lt 0 (length c.authority)) (list_all is_visible c.authority) allowed.authority).1 in
    All-cons IsLine (line_of (codes "host") c.authority) [] (is_line (codes "host") c.authority refl (all_implied is_visible is_line_byte visible_clean c.authority visible)) (All-nil IsLine)

coding_is_line : (in_chunks : Bool) → All IsLine (coding_lines in_chunks)
coding_is_line false = All-nil IsLine
coding_is_line true = All-cons IsLine (line_of (codes "transfer-encoding") (codes "chunked")) [] (is_line (codes "transfer-encoding") (codes "chunked") refl refl) (All-nil IsLine)

-- ---- the lines that frame

module _ (control : Control) (others : List Field) (in_chunks : Bool) (good : list_all is_good others ≡ true) where
  host_has : (name : List ℕ) → bytes_eq (codes "host") name ≡ false → is_there (host_lines control) name ≡ false
  host_has name apart = at control
    where
      at : (c : Control) → is_there (host_lines c) name ≡ false
      at (response code) = refl
      at (request c) = ap (λ b. b || false) apart

  coding_has : is_there (coding_lines in_chunks) (codes "transfer-encoding") ≡ in_chunks
  coding_has = at in_chunks
    where
      at : (b : Bool) → is_there (coding_lines b) (codes "transfer-encoding") ≡ b
      at true = refl
      at false = refl

  coding_has_no : is_there (coding_lines in_chunks) (codes "content-length") ≡ false
  coding_has_no = at in_chunks
    where
      at : (b : Bool) → is_there (coding_lines b) (codes "content-length") ≡ false
      at true = refl
      at false = refl

  lines_there : (name : List ℕ) → bytes_eq (codes "host") name ≡ false → is_there (head_lines control others in_chunks) name ≡ (has_field name others || is_there (coding_lines in_chunks) name)
  lines_there name apart =
      there_joined (host_lines control) (map line_of_field others ++ coding_lines in_chunks) name
      ∙ rw (host_has name apart) (there_joined (map line_of_field others) (coding_lines in_chunks) name ∙ ap (λ b. b || is_there (coding_lines in_chunks) name) (plain_there others name good))

  pub codings_there : is_there (head_lines control others in_chunks) (codes "transfer-encoding") ≡ in_chunks
  codings_there = lines_there (codes "transfer-encoding") refl ∙ rw (none_refused others (codes "transfer-encoding") refl good) coding_has

  pub lengths_there : is_there (head_lines control others in_chunks) (codes "content-length") ≡ has_field (codes "content-length") others
  lengths_there = lines_there (codes "content-length") refl ∙ (ap (λ b. has_field (codes "content-length") others || b) coding_has_no ∙ or_none (has_field (codes "content-length") others))

  lines_values : (name : List ℕ) → bytes_eq (codes "host") name ≡ false → values (head_lines control others in_chunks) name ≡ values (map line_of_field others) name ++ values (coding_lines in_chunks) name
  lines_values name apart =
      values_joined (host_lines control) (map line_of_field others ++ coding_lines in_chunks) name
      ∙ (ap (λ (vs : List (List ℕ)). vs ++ values (map line_of_field others ++ coding_lines in_chunks) name) (no_values (host_lines control) name (host_has name apart))
      ∙ values_joined (map line_of_field others) (coding_lines in_chunks) name)

  pub lengths_are : values (head_lines control others in_chunks) (codes "content-length") ≡ lengths_of others
  lengths_are =
      lines_values (codes "content-length") refl
      ∙ (ap (λ (vs : List (List ℕ)). values (map line_of_field others) (codes "content-length") ++ vs) (no_values (coding_lines in_chunks) (codes "content-length") coding_has_no)
      ∙ (append-nil (values (map line_of_field others) (codes "content-length")) ∙ plain_values others (codes "content-length") good))

  pub codings_are : values (head_lines control others in_chunks) (codes "transfer-encoding") ≡ values (coding_lines in_chunks) (codes "transfer-encoding")
  codings_are =
      let none = plain_there others (codes "transfer-encoding") good ∙ none_refused others (codes "transfer-encoding") refl good in
      lines_values (codes "transfer-encoding") refl
      ∙ ap (λ (vs : List (List ℕ)). vs ++ values (coding_lines in_chunks) (codes "transfer-encoding")) (no_values (map line_of_field others) (codes "transfer-encoding") none)

one_coding : (version : List ℕ) (in_chunks : Bool) → version ≡ codes "HTTP/1.1" → are_accepted_codings version (values (coding_lines in_chunks) (codes "transfer-encoding")) ≡ true
one_coding version false is = refl
one_coding version true is =
    ap (λ (text : List ℕ). are_accepted_codings version (text ∷ [])) (visible_value (codes "chunked") refl)
    ∙ ap (λ (v : List ℕ). are_accepted_codings v (codes "chunked" ∷ [])) is

version_is : (control : Control) → version_of (start_of control) ≡ codes "HTTP/1.1"
version_is (request c) = refl
version_is (response code) = refl

-- ---- bodies

-- the framing by what the start line and the lines say
abbrev framed : Bool → Bool → Bool → Bool → Framing
framed none chunks has is = if none then framing.None else if chunks then framing.Chunked else if has then framing.Length else if is then framing.None else framing.ToEnd

framed_is : (control : Control) (chunks has : Bool) → framing_by false (start_of control) chunks has ≡ framed (is_without_content control) chunks has (is_request control)
framed_is (request c) chunks has = refl
framed_is (response code) chunks has = refl

last_line : IsChunkLine (codes "0") 0
last_line = subst (λ (line : List ℕ). IsChunkLine line 0) (hex_one_digit false 0 (omega arith)) (line_of_size 0 (omega arith))

-- the content in one chunk, or in none
abbrev chunks_by : Bool → List ℕ → Chunks
chunks_by some text = record { chunks = if some then chunk_of text ∷ [] else []; last = codes "0" }

-- one chunk is the content's
chunks_are : (some : Bool) (text : List ℕ) → length text ≤ MAX_CONTENT_BYTES → nat_lt 0 (length text) ≡ some → AreChunks (chunks_by some text)
chunks_are true text few is = record {
  each = All-cons IsChunk (chunk_of text) [] (record { line = line_of_size (length text) few; some = ltb-true 0 (length text) is }) (All-nil IsChunk);
  last = last_line;
}
chunks_are false text few is = record { each = All-nil IsChunk; last = last_line }

content_is : (some : Bool) (text : List ℕ) → nat_lt 0 (length text) ≡ some → content_of (chunks_by some text) ≡ text
content_is true text is = append-nil text
content_is false text is = sym (none_in text is)

pub body_content : (in_chunks : Bool) (list : FieldList) → content_in (body_with in_chunks list) ≡ list.content
body_content true list = content_is (nat_lt 0 (length list.content)) list.content refl
body_content false list = refl

trailers_are : (in_chunks : Bool) (list : FieldList) → list_all is_good list.trailers ≡ true → All IsLine (trailers_in (body_with in_chunks list))
trailers_are true list good = field_lines list.trailers good
trailers_are false list good = All-nil IsLine

-- the text of one chunk has few bytes more than the content
line_short : (line : List ℕ) (size : ℕ) → IsChunkLine line size → length line ≤ 272
line_short line size is =
    let whole = ap (λ (t : List ℕ). length t) is.joined in
    let parts = length-append is.digits is.extension in
    omega (arith, whole, parts, is.are_digits.most, is.is_extension.short)

chunk_size : (some : Bool) (text : List ℕ) → length text ≤ MAX_CONTENT_BYTES → length (chunks_text (chunks_by some text)) ≤ length text + 300
chunk_size false text few = omega arith
chunk_size true text few =
    let line = digits 16 false (length text) in
    let short = line_short line (length text) (line_of_size (length text) few) in
    let chunk : List ℕ = line ++ (codes "\r\n" ++ (text ++ codes "\r\n")) in
    omega (arith, length-append (chunk ++ []) (codes "0\r\n"), ap (λ (t : List ℕ). length t) (append-nil chunk), length-append line (codes "\r\n" ++ (text ++ codes "\r\n")), length-append text (codes "\r\n"), short)

pub body_size : (in_chunks : Bool) (list : FieldList) → length list.content ≤ MAX_CONTENT_BYTES → length (trailer_text (trailers_in (body_with in_chunks list))) ≤ MAX_HEAD_BYTES → length (body_text (body_with in_chunks list)) ≤ MAX_CONTENT_BYTES + 300 + MAX_HEAD_BYTES
body_size false list few short = omega (arith, few)
body_size true list few short =
    omega (arith, length-append (chunks_text (chunks_by (nat_lt 0 (length list.content)) list.content)) (trailer_text (map line_of_field list.trailers)), chunk_size (nat_lt 0 (length list.content)) list.content few, few, short)

-- ---- the framing

some_length : (others : List Field) → has_field (codes "content-length") others ≡ true → ¬ (lengths_of others ≡ [])
some_length others has none =
    let some = some_named (codes "content-length") others has in
    let texts : lengths_of others ≡ map (λ field. value field.value) (some.0 ∷ some.1) = ap (map (λ (field : Field). value field.value)) some.2 in
    absurd cc

-- the length that is said is that of the content
length_is : (control : Control) (others : List Field) (list : FieldList) → ¬ IsBadLength control others list → has_field (codes "content-length") others ≡ true → is_without_content control ≡ false → length list.content ≡ first_length (lengths_of others)
length_is control others list right has may = at (lengths_of others) refl
  where
    at : (texts : List (List ℕ)) → lengths_of others ≡ texts → length list.content ≡ first_length (lengths_of others)
    at [] none = absurd (some_length others has none)
    at (text ∷ texts) some = elim (cases_eq (digits_value 10 text) (length list.content)) [
      | inl same ↦ rw some (sym same)
      | inr other ↦ absurd (right (inr (subst (IsOtherLength control list) (sym some) (other, may))))
    ]

module _ (list : FieldList) (scheme : Scheme) (control : Control) (others : List Field) (t : Turned list scheme control others) (right : ¬ IsBadLength control others list) where
  abbrev in_chunks : Bool
  in_chunks = is_in_chunks control others list

  abbrev head : Head
  head = head_with control others in_chunks

  abbrev has_length : Bool
  has_length = has_field (codes "content-length") others

  framable : IsFramable head
  framable = record {
    no_conflict = (λ i. codings_there control others in_chunks t.good i && lengths_there control others in_chunks t.good i) ∙ no_both has_length (if is_request control then has_body list else not (is_without_content control));
    lengths = ap are_accepted_lengths (lengths_are control others in_chunks t.good) ∙ accepted;
    codings = ap (are_accepted_codings (version_of (start_of control))) (codings_are control others in_chunks t.good) ∙ one_coding (version_of (start_of control)) in_chunks (version_is control);
  }
    where
      no_both : (has other : Bool) → ((not has && other) && has) ≡ false
      no_both true other = refl
      no_both false other = and_right other false refl

      accepted : are_accepted_lengths (lengths_of others) ≡ true
      accepted = true_from_ne_false (are_accepted_lengths (lengths_of others)) (λ fails. right (inl fails))

  -- nothing is sent where nothing may be
  no_content : has_body list ≡ false → list.content ≡ []
  no_content none = none_in list.content (or_parts (nat_lt 0 (length list.content)) (nat_lt 0 (length list.trailers)) none).0

  not_in_chunks : (c : Control) → is_without_content c ≡ true → is_in_chunks c others list ≡ false
  not_in_chunks (request c) without = absurd (false≢true without)
  not_in_chunks (response code) without = and_right (not has_length) (not (is_without_content (response code))) (not_from_true (is_without_content (response code)) without)

  no_body_sent : (c : Control) → is_request c ≡ true → is_in_chunks c others list ≡ false → has_length ≡ false → has_body list ≡ false
  no_body_sent (request c) is plain none = ap (λ b. not b && has_body list) (sym none) ∙ plain
  no_body_sent (response code) is plain none = absurd (false≢true is)

  -- by what the head says
  body_by : (none chunks has is : Bool) → is_without_content control ≡ none → in_chunks ≡ chunks → has_length ≡ has → is_request control ≡ is → length list.content ≤ MAX_CONTENT_BYTES
      → (chunks ≡ true → IsTrailer (map line_of_field list.trailers)) → IsBodyOf (framed none chunks has is) (first_length (lengths_of others)) (body_with chunks list)
  body_by true true has is without chunked has_is is_is few trailer = absurd (false≢true (sym (not_in_chunks control without) ∙ chunked))
  body_by true false has is without plain has_is is_is few trailer =
      let parts = or_parts (is_without_content control && has_body list) (has_length && nat_lt 0 (length list.trailers)) t.taken in
      no_content (ap (λ b. b && has_body list) (sym without) ∙ parts.0)
  body_by false true has is may chunked has_is is_is few trailer = (chunks_are (nat_lt 0 (length list.content)) list.content few refl, trailer refl)
  body_by false false true is may plain has_is is_is few trailer = length_is control others list right has_is may
  body_by false false false true may plain has_is is_is few trailer = no_content (no_body_sent control is_is plain has_is)
  body_by false false false false may plain has_is is_is few trailer = tt

-- the limits that a message keeps
pub record IsWithin (message : Message) : Type 0 where
  pub head_bytes : length (head_text message.head) ≤ MAX_HEAD_BYTES
  pub trailer_bytes : length (trailer_text (trailers_in message.body)) ≤ MAX_HEAD_BYTES
  pub head_lines : length message.head.lines ≤ MAX_HEAD_LINES
  pub trailer_lines : length (trailers_in message.body) ≤ MAX_HEAD_LINES

at_most : (a b : ℕ) → ¬ (b < a) → a ≤ b
at_most a b none = elim (cases_lt b a) [ inl more ↦ absurd (none more) | inr most ↦ most ]

none_passed : (message : Message) → ((limit : MessageLimit) → ¬ Passes message limit) → IsWithin message
none_passed message none = record {
  head_bytes = at_most (length (head_text message.head)) MAX_HEAD_BYTES (none HeadBytes);
  trailer_bytes = at_most (length (trailer_text (trailers_in message.body))) MAX_HEAD_BYTES (none TrailerBytes);
  head_lines = at_most (length message.head.lines) MAX_HEAD_LINES (none HeadLines);
  trailer_lines = at_most (length (trailers_in message.body)) MAX_HEAD_LINES (none TrailerLines);
}

within : (list : FieldList) (scheme : Scheme) (message : Message) (into : TurnsInto list scheme message) → IsWithin (message_with into.control into.others list)
within list scheme message into = elim (limit_or_none (message_with into.control into.others list)) [
  | inl passed ↦ absurd (into.none (TooLarge passed.0) (into.control, into.others, into.is_of, passed.1))
  | inr none ↦ none_passed (message_with into.control into.others list) none
]

module _ (list : FieldList) (scheme : Scheme) (control : Control) (others : List Field) (t : Turned list scheme control others) (right : ¬ IsBadLength control others list) (few : length list.content ≤ MAX_CONTENT_BYTES)
    (limits : IsWithin (message_with control others list)) where
  abbrev chunks : Bool
  chunks = is_in_chunks control others list

  head_is : IsHead (head_with control others chunks)
  head_is = record {
    start = start_line control t.is_of.allowed;
    lines = All-append IsLine (host_lines control) (map line_of_field others ++ coding_lines chunks) (host_is_line control t.is_of.allowed)
        (All-append IsLine (map line_of_field others) (coding_lines chunks) (field_lines others t.good) (coding_is_line chunks));
    few = limits.head_lines;
    short = limits.head_bytes;
  }

  trailer_is : chunks ≡ true → IsTrailer (map line_of_field list.trailers)
  trailer_is passes = subst (λ (b : Bool). IsTrailer (trailers_in (body_with b list))) passes (record {
    each = trailers_are chunks list t.good_trailers;
    few = limits.trailer_lines;
    short = limits.trailer_bytes;
  })

  framing_is : framing_of false (head_with control others chunks) ≡ framing_by false (start_of control) chunks (has_field (codes "content-length") others)
  framing_is = λ i. framing_by false (start_of control) (codings_there control others chunks t.good i) (lengths_there control others chunks t.good i)

  body_is : IsBodyOf (framing_of false (head_with control others chunks)) (content_length_of (head_with control others chunks)) (body_with chunks list)
  body_is =
      subst (λ (f : Framing). IsBodyOf f (content_length_of (head_with control others chunks)) (body_with chunks list)) (sym framing_is)
      (subst (λ (texts : List (List ℕ)). IsBodyOf (framing_by false (start_of control) chunks (has_field (codes "content-length") others)) (first_length texts) (body_with chunks list)) (sym (lengths_are control others chunks t.good))
      (subst (λ (f : Framing). IsBodyOf f (first_length (lengths_of others)) (body_with chunks list)) (sym (framed_is control chunks (has_field (codes "content-length") others)))
      (body_by list scheme control others t right (is_without_content control) chunks (has_field (codes "content-length") others) (is_request control) refl refl refl refl few trailer_is)))

  pub whole : IsMessage false (message_with control others list)
  whole = record {
    head = head_is;
    framable = framable list scheme control others t right;
    framing = refl;
    body = body_is;
    content = subst (λ (text : List ℕ). length text ≤ MAX_CONTENT_BYTES) (sym (body_content chunks list)) few;
    short = omega (arith, length-append (head_text (head_with control others chunks)) (body_text (body_with chunks list)), limits.head_bytes, body_size chunks list few limits.trailer_bytes);
  }

pub is_whole_message : IsWholeMessage
is_whole_message list scheme message few into =
    let t = turned list scheme message into in
    let right = λ (bad : IsBadLength into.control into.others list). into.none BadLength (into.control, into.others, into.is_of, bad) in
    subst (λ (m : Message). IsMessage false m × (message_content m ≡ list.content)) (sym into.is) (
      whole list scheme into.control into.others t right few (within list scheme message into),
      body_content (is_in_chunks into.control into.others list) list,
    )
