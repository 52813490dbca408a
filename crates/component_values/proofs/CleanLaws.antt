-- The bytes of a value: ASCII without NUL, CR and LF.
use Rattle.std.proofs.Common.{◌≡◌, ℕ, Bool, true, false, ◌==◌, ◌&&◌, not, List, [], ◌∷◌, ◌++◌, Option, Some, None, Result, Ok, Err, inl, inr, refl, sym, ap, ◌∙◌, arith, if◌then◌else◌}
use Rattle.std.specs.Prelude.{map, filter, reverse, ok_or, IfSome, IfOk, IsSomeAnd, codes}
use Rattle.std.specs.Char.{is_ascii}
use Rattle.std.specs.List.{All, list_all, flat_map, slice_split}
use Rattle.std.proofs.lemmas.Bool.{cases_Bool, and_parts, and_from}
use Rattle.std.proofs.lemmas.Bool.Decides.{nat_tests}
use Rattle.std.proofs.lemmas.List.Elements.{All-head, All-tail}
use Rattle.std.proofs.lemmas.List.Folds.{list_all-map}
use Rattle.byte_grammar.specs.Classes.{is_blank, is_line_byte}
use Rattle.sfv_text.specs.Keys.{have_distinct_keys, has_key, value_of}
use Rattle.sfv_text.specs.Range.{is_string_byte, is_byte, is_key, is_member_in_range, is_dict_member_in_range, is_item_in_range, is_list_in_range, is_dict_in_range}
use Rattle.sfv_text.specs.Strict.{item_text, list_text, dict_text, member_text, bytes_text}
use Rattle.sfv_text.specs.declared.pair.Pair.{Pair}
use Rattle.sfv_text.specs.declared.value.BareItem.{BareItem}
use Rattle.sfv_text.specs.declared.value.BareItem.TheVariants.{Bytes}
use Rattle.sfv_text.specs.declared.value.Member.{Member}
use Rattle.sfv_text.specs.declared.value.Member.TheVariants.{Item as ItemMember, InnerList as InnerMember}
use Rattle.sfv_text.proofs.Printable.{bare_is, item_is, inner_is, list_is, dict_is}
use Rattle.sfv_read.specs.Laws.{ReadsOnly}
use Rattle.sfv_read.specs.Reads.{ReadsItem, ReadsList, ReadsDict}
use Rattle.sfv_read.proofs.InRange.{item_read_in_range, list_read_in_range, dict_read_in_range}
use Rattle.msg_head.specs.RawValues.{IsRaw, is_continuation, continuation_text}
use Rattle.msg_head.specs.Lines.{FieldLine, IsLine, line_text}
use Rattle.msg_head.specs.Starts.{start_text}
use Rattle.msg_head.specs.declared.error.Side.{Side}
use Rattle.msg_head.specs.declared.error.Side.TheVariants.{Header, Trailer}
use Rattle.msg_head.specs.Heads.{head_text}
use Rattle.msg_head.specs.Trailers.{IsTrailer, trailer_text}
use Rattle.framing.specs.Chunks.{Chunks, chunks_text}
use Rattle.framing.specs.declared.kind.Framing.{Framing}
use Rattle.framing.specs.declared.kind.Framing.TheVariants as framing
use Rattle.framing.specs.Framings.{is_request, content_length_of}
use Rattle.msg_body.specs.Bodies.{Body, plain, chunked, IsBodyOf, body_text, trailers_in}
use Rattle.msg_body.specs.Messages.{Message}
use Rattle.msg_head.specs.Names.{has_name}
use Rattle.msg_body.specs.Views.{lines_on}
use Rattle.msg_head.specs.Values.{is_end, without_first_blanks, without_blanks, has_bytes, texts_of, value, values, combined_value, is_there}
use Rattle.component_ids.specs.Table.{is_field_name, has_param}
use Rattle.component_ids.specs.Types.{kind_in}
use Rattle.component_ids.specs.declared.types.FieldKind.{FieldKind}
use Rattle.component_ids.specs.declared.types.FieldKind.TheVariants as kind
use Rattle.component_ids.specs.declared.id.ComponentId.{ComponentId}
use Rattle.derived_values.specs.declared.lack.Lack.{Lack}
use Rattle.derived_values.specs.declared.lack.Lack.TheVariants.{Absent, Underivable, NotAscii}
use Rattle.component_values.specs.Context.{MessageContext}
use Rattle.component_values.specs.Forms.{Form, form_of}
use Rattle.component_values.specs.Forms as form
use Rattle.derived_values.specs.Derived.{derived_of}
use Rattle.component_values.specs.Laws.{is_value_byte, IsSpelled, HasMessages, HasCleanValues}
use Rattle.component_values.specs.Values.{StrictRow, KindRow, MemberRow, KeyRow, plain_value, byte_sequences, FormRow, LineRow, side_of, related_message, message_for, NameRow, MessageRow}
use Rattle.component_values.proofs.DerivedValues.{derived_printable}
use Rattle.byte_grammar.proofs.ListLaws.{all_joined, all_parts, all_reverse, all_filter, all_implied, all_both, all_flat, all_separated, all_split}

abbrev IsClean : List ℕ → Type 0
IsClean text = list_all is_value_byte text ≡ true

-- ---- structured values

printable : (c : ℕ) → is_string_byte c ≡ true → is_value_byte c ≡ true
printable c is = grind (arith, nat_tests)

printed : (text : List ℕ) → list_all is_string_byte text ≡ true → IsClean text
printed text is = all_implied is_string_byte is_value_byte printable text is

strict_clean : {V : Type 0} (Reads : List ℕ → V → Type 0) (test : V → Bool) (text_of : V → List ℕ) → ReadsOnly Reads test → ((v : V) → test v ≡ true → list_all is_string_byte (text_of v) ≡ true)
    → (text value : List ℕ) → StrictRow Reads text_of text (Ok value) → IsClean value
strict_clean Reads test text_of in_range prints text value row = rw row.2 (printed (text_of row.0) (prints row.0 (in_range text row.0 row.1)))

kind_clean : (known : Option FieldKind) (text value : List ℕ) → KindRow known text (Ok value) → IsClean value
kind_clean (Some kind.Item) text value row = strict_clean ReadsItem is_item_in_range item_text item_read_in_range item_is text value row
kind_clean (Some kind.List) text value row = strict_clean ReadsList is_list_in_range list_text list_read_in_range list_is text value row
kind_clean (Some kind.Dictionary) text value row = strict_clean ReadsDict is_dict_in_range dict_text dict_read_in_range dict_is text value row
kind_clean None text value row = absurd cc

member_text_clean : (m : Member) → is_member_in_range m ≡ true → IsClean (member_text m)
member_text_clean (ItemMember item) is = printed (item_text item) (item_is item is)
member_text_clean (InnerMember inner) is = printed (member_text (InnerMember inner)) (inner_is inner is)

found : (key value : List ℕ) (dict : List (Pair Member)) → list_all is_dict_member_in_range dict ≡ true → IsSomeAnd (value_of dict key) (λ m. value ≡ member_text m) → IsClean value
found key value [] all is = absurd is
found key value (pair ∷ dict) all is =
    let both = and_parts (is_dict_member_in_range pair) (list_all is_dict_member_in_range dict) all in elim (cases_Bool (has_key key pair)) [
      | inl here ↦ let same = rw here at is in rw same (member_text_clean pair.value (and_parts (is_key pair.key) (is_member_in_range pair.value) both.0).1)
      | inr there ↦ found key value dict both.1 (rw there at is)
    ]

member_clean : (key text value : List ℕ) → MemberRow key text (Ok value) → IsClean value
member_clean key text value row =
    found key value row.0 (and_parts (have_distinct_keys row.0) (list_all is_dict_member_in_range row.0) (dict_read_in_range text row.0 row.1)).1 row.2

key_clean : (known : Option FieldKind) (key text value : List ℕ) → KeyRow known key text (Ok value) → IsClean value
key_clean (Some kind.Item) key text value row = absurd cc
key_clean (Some kind.List) key text value row = absurd cc
key_clean (Some kind.Dictionary) key text value row = member_clean key text value row
key_clean None key text value row = member_clean key text value row

-- ---- the values of lines

-- a byte of a raw value, folds and all
abbrev is_raw_byte : ℕ → Bool
is_raw_byte c = is_byte c && not (0 == c)

-- a byte of what stands between folds
abbrev is_text_byte : ℕ → Bool
is_text_byte c = is_byte c && is_line_byte c

abbrev has_raw_bytes : FieldLine → Bool
has_raw_bytes line = list_all is_raw_byte line.raw

no_nul : (c : ℕ) → is_line_byte c ≡ true → not (0 == c) ≡ true
no_nul c is = grind (arith, nat_tests)

no_end : (c : ℕ) → is_raw_byte c ≡ true → is_end c ≡ false → is_text_byte c ≡ true
no_end c is goes = grind (arith, nat_tests)

line_without_nul : (text : List ℕ) → list_all is_line_byte text ≡ true → list_all (λ c. not (0 == c)) text ≡ true
line_without_nul text is = all_implied is_line_byte (λ c. not (0 == c)) no_nul text is

fold_without_nul : (fold : List ℕ) → is_continuation fold ≡ true → list_all (λ c. not (0 == c)) (continuation_text fold) ≡ true
fold_without_nul fold is = line_without_nul fold (and_parts _ (list_all is_line_byte fold) is).1

raw_bytes : (raw : List ℕ) → IsRaw raw → list_all is_byte raw ≡ true → list_all is_raw_byte raw ≡ true
raw_bytes raw is bytes =
    let pieces = is.0 in
    let both = and_parts (list_all is_line_byte pieces.first) (list_all is_continuation pieces.continued) is.1 in
    all_both is_byte (λ c. not (0 == c)) raw bytes (rw is.2 (all_joined (λ c. not (0 == c)) pieces.first (flat_map continuation_text pieces.continued) (line_without_nul pieces.first both.0)
    (all_flat (λ c. not (0 == c)) continuation_text is_continuation fold_without_nul pieces.continued both.1)))

unblanked : (text : List ℕ) → list_all is_text_byte text ≡ true → list_all is_text_byte (without_first_blanks text) ≡ true
unblanked [] all = refl
unblanked (c ∷ text) all = elim (cases_Bool (is_blank c)) [
  | inl is ↦ rw is (unblanked text (and_parts (is_text_byte c) (list_all is_text_byte text) all).1)
  | inr solid ↦ rw solid all
]

trimmed : (text : List ℕ) → list_all is_text_byte text ≡ true → list_all is_text_byte (without_blanks text) ≡ true
trimmed text all =
    let front = without_first_blanks text in
    all_reverse is_text_byte (without_first_blanks (reverse front)) (unblanked (reverse front) (all_reverse is_text_byte front (unblanked text all)))

line_value : (line : FieldLine) → has_raw_bytes line ≡ true → list_all is_text_byte (value line.raw) ≡ true
line_value line all =
    let parts = slice_split is_end line.raw in
    let texts = list_all-map (list_all is_text_byte) without_blanks parts ∙ all_implied (list_all is_text_byte) (λ part. list_all is_text_byte (without_blanks part)) trimmed parts
    (all_split is_text_byte is_end is_raw_byte no_end line.raw all) in
    all_separated is_text_byte (λ text. text) (codes " ") (list_all is_text_byte) refl (λ text is. is) (texts_of line.raw) (all_filter (list_all is_text_byte) has_bytes (map without_blanks parts) texts)

values_texts : (lines : List FieldLine) (name : List ℕ) → list_all has_raw_bytes lines ≡ true → list_all (list_all is_text_byte) (values lines name) ≡ true
values_texts lines name all =
    let named = filter (has_name name) lines in
    list_all-map (list_all is_text_byte) (λ line. value line.raw) named ∙ all_implied has_raw_bytes (λ line. list_all is_text_byte (value line.raw)) line_value named (all_filter has_raw_bytes (has_name name) lines all)

combined : (lines : List FieldLine) (name : List ℕ) → list_all has_raw_bytes lines ≡ true → list_all is_text_byte (combined_value lines name) ≡ true
combined lines name all = all_separated is_text_byte (λ text. text) (codes ", ") (list_all is_text_byte) refl (λ text is. is) (values lines name) (values_texts lines name all)

-- ---- fields

byte_sequence : (text : List ℕ) → list_all is_text_byte text ≡ true → list_all is_string_byte (bytes_text text) ≡ true
byte_sequence text all = bare_is (Bytes text) (all_implied is_text_byte is_byte (λ c is. (and_parts (is_byte c) (is_line_byte c) is).0) text all)

sequences_clean : (texts : List (List ℕ)) → list_all (list_all is_text_byte) texts ≡ true → IsClean (byte_sequences texts)
sequences_clean texts all = printed (byte_sequences texts) (all_separated is_string_byte bytes_text (codes ", ") (list_all is_text_byte) refl byte_sequence texts all)

value_byte : (c : ℕ) → (is_ascii c && is_text_byte c) ≡ true → is_value_byte c ≡ true
value_byte c is = grind (arith, nat_tests)

plain_clean : (text value : List ℕ) → list_all is_text_byte text ≡ true → Ok value ≡ plain_value text → IsClean value
plain_clean text value all row = elim (cases_Bool (list_all is_ascii text)) [
  | inl ascii ↦ let is : Ok value ≡ Ok text = rw ascii at row in let same : value ≡ text = cc in rw same
      (all_implied (λ c. is_ascii c && is_text_byte c) is_value_byte value_byte text (all_both is_ascii is_text_byte text ascii all))
  | inr other ↦ let is : Ok value ≡ Err NotAscii = rw other at row in absurd cc
]

form_clean : (asked : Form) (known : Option FieldKind) (lines : List FieldLine) (name value : List ℕ) → list_all has_raw_bytes lines ≡ true
    → FormRow asked known lines name (Ok value) → IsClean value
form_clean form.wrapped known lines name value all row =
    let same : value ≡ byte_sequences (values lines name) = cc in rw same (sequences_clean (values lines name) (values_texts lines name all))
form_clean (form.member key) known lines name value all row = key_clean known key (combined_value lines name) value row
form_clean form.strict known lines name value all row = kind_clean known (combined_value lines name) value row
form_clean form.plain known lines name value all row = plain_clean (combined_value lines name) value (combined lines name all) row

line_clean : (there : Bool) (params : List (Pair BareItem)) (known : Option FieldKind) (lines : List FieldLine) (name value : List ℕ) → list_all has_raw_bytes lines ≡ true
    → LineRow there params known lines name (Ok value) → IsClean value
line_clean false params known lines name value all row = absurd cc
line_clean true params known lines name value all row = form_clean (form_of params) known lines name value all row

-- ---- messages

lines_raw : (lines : List FieldLine) → All IsLine lines → list_all is_byte (flat_map line_text lines) ≡ true → list_all has_raw_bytes lines ≡ true
lines_raw [] are bytes = refl
lines_raw (line ∷ lines) are bytes =
    let both = all_parts is_byte (line_text line) (flat_map line_text lines) bytes in
    let after_name = (all_parts is_byte line.name (58 ∷ (line.raw ++ codes "\r\n")) both.0).1 in
    let raw = (all_parts is_byte line.raw (codes "\r\n") after_name).0 in
    and_from (has_raw_bytes line) (list_all has_raw_bytes lines) (raw_bytes line.raw (All-head IsLine line lines are).raw raw) (lines_raw lines (All-tail IsLine line lines are) both.1)

message_raw : (message : Message) → IsSpelled message → list_all has_raw_bytes message.head.lines ≡ true
message_raw message is =
    let head = message.head in
    let text = all_parts is_byte (head_text head) (body_text message.body) (ap (list_all is_byte) (sym is.spells.text) ∙ is.are_bytes) in
    let after_start = all_parts is_byte (start_text head.start) (flat_map line_text head.lines ++ codes "\r\n") text.0 in
    lines_raw head.lines is.spells.is.head.lines (all_parts is_byte (flat_map line_text head.lines) (codes "\r\n") after_start.1).0

is_trailer : (framing : Framing) (count : ℕ) (chunks : Chunks) (trailers : List FieldLine) → IsBodyOf framing count (chunked chunks trailers) → IsTrailer trailers
is_trailer framing.None count chunks trailers is = absurd is
is_trailer framing.Length count chunks trailers is = absurd is
is_trailer framing.Chunked count chunks trailers is = is.1
is_trailer framing.ToEnd count chunks trailers is = absurd is

body_raw : (framing : Framing) (count : ℕ) (body : Body) → IsBodyOf framing count body → list_all is_byte (body_text body) ≡ true → list_all has_raw_bytes (trailers_in body) ≡ true
body_raw framing count (plain content) is bytes = refl
body_raw framing count (chunked chunks trailers) is bytes =
    let both = all_parts is_byte (chunks_text chunks) (trailer_text trailers) bytes in
    lines_raw trailers (is_trailer framing count chunks trailers is).each (all_parts is_byte (flat_map line_text trailers) (codes "\r\n") both.1).0

trailers_raw : (message : Message) → IsSpelled message → list_all has_raw_bytes (trailers_in message.body) ≡ true
trailers_raw message is =
    let text = all_parts is_byte (head_text message.head) (body_text message.body) (ap (list_all is_byte) (sym is.spells.text) ∙ is.are_bytes) in
    body_raw message.framing (content_length_of message.head) message.body is.spells.is.body text.1

side_raw : (side : Side) (message : Message) → IsSpelled message → list_all has_raw_bytes (lines_on side message) ≡ true
side_raw Header message is = message_raw message is
side_raw Trailer message is = trailers_raw message is

name_clean : (named : Bool) (context : MessageContext) (id : ComponentId) (message : Message) (value : List ℕ) → IsSpelled message → NameRow named context id message (Ok value) → IsClean value
name_clean true context id message value is row =
    let lines = lines_on (side_of id.params) message in
    line_clean (is_there lines id.name) id.params (kind_in context.types id.name) lines id.name value (side_raw (side_of id.params) message is) row
name_clean false context id message value is row =
    printed value (derived_printable (derived_of id.name) id.params context.scheme (lines_on Header message) message.head.start is.spells.is.head.start value row)

message_clean : (message : Result Message Lack) (context : MessageContext) (id : ComponentId) (value : List ℕ) → IfOk message IsSpelled → MessageRow message context id (Ok value) → IsClean value
message_clean (Err lack) context id value is row = absurd cc
message_clean (Ok message) context id value is row = name_clean (is_field_name id.name) context id message value is row

-- ---- the message that a component is drawn from

related_or_absent : (related : Option Message) → IfSome related IsSpelled → IfOk (ok_or related Absent) IsSpelled
related_or_absent None is = tt
related_or_absent (Some message) is = is

related_is : (asks : Bool) (related : Option Message) → IfSome related IsSpelled → IfOk (if asks then Err Underivable else ok_or related Absent) IsSpelled
related_is true related is = tt
related_is false related is = related_or_absent related is

either_is : (req : Bool) (related : Result Message Lack) (message : Message) → IfOk related IsSpelled → IsSpelled message → IfOk (if req then related else Ok message) IsSpelled
either_is true related message is also = is
either_is false related message is also = also

drawn_from : (context : MessageContext) (id : ComponentId) → HasMessages context → IfOk (message_for context id.params) IsSpelled
drawn_from context id has =
    either_is (has_param id.params (codes "req")) (related_message context) context.message (related_is (is_request context.message.head.start) context.related has.related) has.message

pub has_clean_values : HasCleanValues
has_clean_values context id value has row = message_clean (message_for context id.params) context id value (drawn_from context id has) row
