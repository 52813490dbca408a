-- A message with further header lines: its bytes, and that it is a message.
use Rattle.std.proofs.Common.{◌≡◌, ◌≤◌, ◌+◌, ℕ, List, [], ◌∷◌, ◌++◌, length, take, drop, codes, refl, sym, ap, ◌∙◌, append_assoc, arith}
use Rattle.std.specs.List.{flat_map}
use Rattle.std.specs.Str.{byte}
use Rattle.std.proofs.lemmas.List.{length-append, take_all}
use Rattle.std.proofs.Math.Seq.{take-append_seam, drop-append_seam}
use Rattle.msg_head.specs.Heads.{Head, head_text}
use Rattle.msg_head.specs.Lines.{FieldLine, line_text}
use Rattle.msg_head.specs.Starts.{start_text}
use Rattle.msg_body.specs.Bodies.{body_text}
use Rattle.msg_body.specs.Messages.{Message, message_text}
use Rattle.signing.specs.declared.parts.Parts.{Parts}
use Rattle.signing.specs.tools.Parts.{ArePartsOf}

-- ---- lengths

pub line_length : (line : FieldLine) → length line.name + length line.raw + 3 ≡ length (line_text line)
line_length line = omega (arith, length-append line.name (byte ":" ∷ (line.raw ++ codes "\r\n")), length-append line.raw (codes "\r\n"))

pub head_length : (head : Head) → length (head_text head) ≡ length (start_text head.start) + length (flat_map line_text head.lines) + 2
head_length head =
    omega (arith, length-append (start_text head.start) (flat_map line_text head.lines ++ codes "\r\n"), length-append (flat_map line_text head.lines) (codes "\r\n"))

-- ---- the parts

pub flat_joined : (xs ys : List FieldLine) → flat_map line_text (xs ++ ys) ≡ flat_map line_text xs ++ flat_map line_text ys
flat_joined [] ys = refl
flat_joined (x ∷ xs) ys = ap (λ t. line_text x ++ t) (flat_joined xs ys) ∙ sym (append_assoc (line_text x) (flat_map line_text xs) (flat_map line_text ys))

-- where all header lines end
pub to_the_end : (message : Message) (count end : ℕ) → count ≡ length message.head.lines → end ≡ length (start_text message.head.start) + length (flat_map line_text (take count message.head.lines))
    → end ≡ length (start_text message.head.start) + length (flat_map line_text message.head.lines)
to_the_end message count end counted at =
    at ∙ ap (λ (ls : List FieldLine). length (start_text message.head.start) + length (flat_map line_text ls)) (take_all count message.head.lines (omega (arith, counted)))

pub ends_within : (message : Message) (bytes : List ℕ) (end : ℕ) → bytes ≡ message_text message → end ≡ length (start_text message.head.start) + length (flat_map line_text message.head.lines) → end ≤ length bytes
ends_within message bytes end is at =
    omega (arith, at, ap (λ t. length t) is, head_length message.head, length-append (head_text message.head) (body_text message.body))

-- the bytes up to the empty line, and those from there on
pub are_parts : (message : Message) (bytes : List ℕ) (count : ℕ) (parts : Parts) → bytes ≡ message_text message → count ≡ length (start_text message.head.start) + length (flat_map line_text message.head.lines)
    → parts.before.now ≡ take count bytes → parts.after.now ≡ drop count bytes → parts.lines ≡ length message.head.lines → ArePartsOf message parts
are_parts message bytes count parts is counted before after lines =
    let start = start_text message.head.start in
    let own = flat_map line_text message.head.lines in
    let rest = codes "\r\n" ++ body_text message.body in
    let at : count ≡ length (start ++ own) = omega (arith, counted, length-append start own) in
    let cut : bytes ≡ (start ++ own) ++ rest =
    is ∙ (append_assoc start (own ++ codes "\r\n") (body_text message.body) ∙ (ap (λ t. start ++ t) (append_assoc own (codes "\r\n") (body_text message.body)) ∙ sym (append_assoc start own rest))) in
    let first : parts.before.now ≡ start ++ own = before ∙ (rw (at, cut) (take-append_seam (start ++ own) rest)) in
    let last : parts.after.now ≡ rest = after ∙ (rw (at, cut) (drop-append_seam (start ++ own) rest)) in
    record {
      text = λ added.
          rw (first, last)
          (append_assoc start (flat_map line_text (message.head.lines ++ added) ++ codes "\r\n") (body_text message.body)
          ∙ (ap (λ t. start ++ t)
          (append_assoc (flat_map line_text (message.head.lines ++ added)) (codes "\r\n") (body_text message.body)
          ∙ (ap (λ t. t ++ rest) (flat_joined message.head.lines added) ∙ append_assoc own (flat_map line_text added) rest))
          ∙ sym (append_assoc start own (flat_map line_text added ++ rest))));
      head = λ added.
          let long = head_length (record { start = message.head.start; lines = message.head.lines ++ added }) in
          let joined = ap (λ t. length t) (flat_joined message.head.lines added) in
          let sum = length-append own (flat_map line_text added) in
          let here = ap (λ t. length t) first ∙ length-append start own in
          omega (arith, long, joined, sum, here);
      lines = lines;
    }
