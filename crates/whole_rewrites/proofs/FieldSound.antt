-- Field lines that a rewriting writes are field lines, and a message with such lines is sound.
use Rattle.std.proofs.Common.{◌≡◌, ℕ, Bool, true, List, [], ◌∷◌, ◌++◌, All, codes, refl, sym}
use Rattle.std.specs.List.{list_all}
use Rattle.std.specs.Str.{byte}
use Rattle.std.proofs.lemmas.Bool.{and_from, and_parts}
use Rattle.std.proofs.lemmas.List.{append-nil}
use Rattle.std.proofs.lemmas.List.Elements.{All-nil, All-cons}
use Rattle.byte_grammar.specs.Classes.{is_line_byte, is_token}
use Rattle.byte_grammar.proofs.ListLaws.{all_implied, all_joined}
use Rattle.sfv_text.specs.Classes.{is_key, is_key_first, is_key_rest, is_string_byte}
use Rattle.msg_head.specs.Lines.{FieldLine, IsLine}
use Rattle.msg_head.specs.RawValues.{IsRaw}
use Rattle.msg_head.specs.declared.error.Side.{Side}
use Rattle.msg_head.specs.declared.error.Side.TheVariants.{Header, Trailer}
use Rattle.msg_head.proofs.LineBytes.{line_byte_of}
use Rattle.framing.specs.declared.kind.Framing.{Framing}
use Rattle.framing.specs.declared.kind.Framing.TheVariants.{None as NoContent, Length, Chunked, ToEnd}
use Rattle.framing.specs.Framings.{content_length_of}
use Rattle.msg_body.specs.Bodies.{Body, IsBodyOf, chunked, plain, trailers_in}
use Rattle.msg_body.specs.Messages.{IsMessage, Message}
use Rattle.msg_body.specs.Views.{lines_on}
use Rattle.rewrite_script.specs.Lines.{is_base64_byte}
use Rattle.line_rewrites.specs.LineLists.{line_of}
use Rattle.line_rewrites.specs.Sound.{IsSoundBody, IsSoundMessage}
use Rattle.line_rewrites.specs.Steps.{with_lines_on, with_trailers}
use Rattle.line_rewrites.proofs.Texts.{sound_where_read}
use Rattle.whole_rewrites.specs.Lines.{label_lines, member_line}

-- ---- bytes of lines

pub printable_line : (text : List ℕ) → list_all is_string_byte text ≡ true → list_all is_line_byte text ≡ true
printable_line text all = all_implied is_string_byte is_line_byte (λ c is. line_byte_of is_string_byte c refl refl refl is) text all

base64_line : (text : List ℕ) → list_all is_base64_byte text ≡ true → list_all is_line_byte text ≡ true
base64_line text all = all_implied is_base64_byte is_line_byte (λ c is. line_byte_of is_base64_byte c refl refl refl is) text all

key_line : (key : List ℕ) → is_key key ≡ true → list_all is_line_byte key ≡ true
key_line [] is = refl
key_line (c ∷ rest) is =
    let both = and_parts (is_key_first c) (list_all is_key_rest rest) is in
    and_from (is_line_byte c) (list_all is_line_byte rest) (line_byte_of is_key_first c refl refl refl both.0)
    (all_implied is_key_rest is_line_byte (λ d passes. line_byte_of is_key_rest d refl refl refl passes) rest both.1)

-- ---- lines

-- a text without folds is a raw value after a space
pub raw_of : (text : List ℕ) → list_all is_line_byte text ≡ true → IsRaw (byte " " ∷ text)
raw_of text all = (record { first = byte " " ∷ text; continued = [] }, and_from (list_all is_line_byte (byte " " ∷ text)) true all refl, sym (append-nil (byte " " ∷ text)))

pub text_line : (name text : List ℕ) → is_token name ≡ true → list_all is_line_byte text ≡ true → IsLine (line_of name text)
text_line name text token all = record { name = token; raw = raw_of text all }

member_is : (name key text : List ℕ) → is_token name ≡ true → is_key key ≡ true → list_all is_line_byte text ≡ true → IsLine (member_line name key text)
member_is name key text token is all = text_line name (key ++ byte "=" ∷ text) token (all_joined is_line_byte key (byte "=" ∷ text) (key_line key is) all)

pub label_are : (added tag params : List ℕ) → is_key added ≡ true → list_all is_base64_byte tag ≡ true → list_all is_line_byte params ≡ true → All IsLine (label_lines added tag params)
label_are added tag params key base64 all =
    let input = member_line (codes "Signature-Input") added params in
    let text = byte ":" ∷ (tag ++ codes ":") in
    let signature = member_line (codes "Signature") added text in
    All-cons IsLine input (signature ∷ []) (member_is (codes "Signature-Input") added params refl key all)
    (All-cons IsLine signature [] (member_is (codes "Signature") added text refl key (all_joined is_line_byte tag (codes ":") (base64_line tag base64) refl)) (All-nil IsLine))

-- ---- messages

-- the lines of a message's sides
pub side_lines : (to_head : Bool) (side : Side) (message : Message) → IsMessage to_head message → All IsLine (lines_on side message)
side_lines to_head Header message is = is.head.lines
side_lines to_head Trailer message is = by message.body message.framing is.body
  where
    by : (body : Body) (framing : Framing) → IsBodyOf framing (content_length_of message.head) body → All IsLine (trailers_in body)
    by (plain content) framing of = All-nil IsLine
    by (chunked chunks trailers) Chunked of = of.1.each
    by (chunked chunks trailers) NoContent of = absurd of
    by (chunked chunks trailers) Length of = absurd of
    by (chunked chunks trailers) ToEnd of = absurd of

body_with : (body : Body) (lines : List FieldLine) → IsSoundBody body → All IsLine lines → IsSoundBody (with_trailers lines body)
body_with (plain content) lines sound each = tt
body_with (chunked chunks trailers) lines sound each = (sound.0, each)

-- a message with other lines
pub with_lines_sound : (to_head : Bool) (side : Side) (message : Message) (lines : List FieldLine) → IsMessage to_head message → All IsLine lines → IsSoundMessage to_head (with_lines_on to_head side message lines)
with_lines_sound to_head Header message lines is each =
    let sound = sound_where_read to_head message is in
    record { start = sound.start; fits = sound.fits; lines = each; framing = refl; body = sound.body }
with_lines_sound to_head Trailer message lines is each =
    let sound = sound_where_read to_head message is in
    record { start = sound.start; fits = sound.fits; lines = sound.lines; framing = sound.framing; body = body_with message.body lines sound.body each }
