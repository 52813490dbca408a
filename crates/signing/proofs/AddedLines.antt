-- The lines that signing adds are field lines, and none of them frames a message.
use Rattle.std.proofs.Common.{◌≡◌, ℕ, true, false, List, [], ◌∷◌, All, Option, Some, None, codes, refl, sym, inl, inr}
use Rattle.std.specs.List.{list_all, list_any}
use Rattle.std.specs.Str.{byte}
use Rattle.std.proofs.lemmas.Bool.{and_from, cases_Bool}
use Rattle.std.proofs.lemmas.List.{append-nil}
use Rattle.std.proofs.lemmas.List.Elements.{All-nil, All-cons}
use Rattle.byte_grammar.specs.Classes.{is_line_byte}
use Rattle.byte_grammar.proofs.ListLaws.{all_implied}
use Rattle.msg_head.specs.Lines.{FieldLine, IsLine}
use Rattle.msg_head.specs.Names.{has_name}
use Rattle.msg_head.specs.RawValues.{IsRaw}
use Rattle.msg_head.specs.Values.{is_there}
use Rattle.msg_head.specs.declared.error.Side.TheVariants.{Header}
use Rattle.msg_head.proofs.LineBytes.{line_byte_of}
use Rattle.msg_body.specs.Messages.{Message}
use Rattle.msg_body.specs.Views.{lines_on, message_content}
use Rattle.sfv_text.specs.Range.{is_string_byte, is_dict_in_range}
use Rattle.sfv_text.specs.Strict.{dict_text}
use Rattle.sfv_text.proofs.Printable.{dict_is}
use Rattle.content_digest.specs.Digests.{digest_dict}
use Rattle.content_digest.specs.declared.algorithm.Algorithm.{Algorithm}
use Rattle.content_digest.specs.declared.algorithm.Algorithm.TheVariants.{Sha256, Sha512}
use Rattle.signing.specs.Written.{line_of, digest_lines, digest_name}
use Rattle.signing.proofs.DigestBytes.{digests_are_bytes}

-- printable bytes stand in a line
pub printable_line : (text : List ℕ) → list_all is_string_byte text ≡ true → list_all is_line_byte text ≡ true
printable_line text all = all_implied is_string_byte is_line_byte (λ c is. line_byte_of is_string_byte c refl refl refl is) text all

-- a value without folds is a raw value after a space
pub raw_of : (value : List ℕ) → list_all is_line_byte value ≡ true → IsRaw (byte " " ∷ value)
raw_of value all = (record { first = byte " " ∷ value; continued = [] }, and_from (list_all is_line_byte (byte " " ∷ value)) true all refl, sym (append-nil (byte " " ∷ value)))

-- no line frames the message
pub record FrameNothing (lines : List FieldLine) : Type 0 where
  pub codings : list_any (has_name (codes "transfer-encoding")) lines ≡ false
  pub lengths : list_any (has_name (codes "content-length")) lines ≡ false

digest_in_range : (algorithm : Algorithm) (content : List ℕ) → is_dict_in_range (digest_dict algorithm content) ≡ true
digest_in_range Sha256 content = rw (digests_are_bytes Sha256 content) refl
digest_in_range Sha512 content = rw (digests_are_bytes Sha512 content) refl

digest_line : (algorithm : Algorithm) (content : List ℕ) → IsLine (line_of (codes "Content-Digest") (dict_text (digest_dict algorithm content)))
digest_line algorithm content = record {
  name = refl;
  raw = raw_of (dict_text (digest_dict algorithm content)) (printable_line (dict_text (digest_dict algorithm content)) (dict_is (digest_dict algorithm content) (digest_in_range algorithm content)));
}

pub digest_are_lines : (message : Message) (digest : Option Algorithm) → All IsLine (digest_lines message digest)
digest_are_lines message None = All-nil IsLine
digest_are_lines message (Some algorithm) = elim (cases_Bool (is_there (lines_on Header message) digest_name)) [
  | inl there ↦ rw there (All-nil IsLine)
  | inr none ↦
      let line = line_of (codes "Content-Digest") (dict_text (digest_dict algorithm (message_content message))) in
      rw none (All-cons IsLine line [] (digest_line algorithm (message_content message)) (All-nil IsLine))
]

pub digest_frame_nothing : (message : Message) (digest : Option Algorithm) → FrameNothing (digest_lines message digest)
digest_frame_nothing message None = record { codings = refl; lengths = refl }
digest_frame_nothing message (Some algorithm) = elim (cases_Bool (is_there (lines_on Header message) digest_name)) [
  | inl there ↦ rw there (record { codings = refl; lengths = refl })
  | inr none ↦ rw none (record { codings = refl; lengths = refl })
]
