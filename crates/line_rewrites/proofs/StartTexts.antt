-- A start line is bytes of a line and CRLF, so a text begins with at most one.
use Rattle.std.proofs.Common.{◌≡◌, ℕ, Bool, true, false, ◌==◌, nat_lt, Option, Some, None, IfSome, List, [], ◌∷◌, ◌++◌, length, refl, sym, ap, ◌∙◌, inl, inr, append_assoc, arith, length-append}
use Rattle.std.specs.Prelude.{codes}
use Rattle.std.specs.List.{flat_map, list_all}
use Rattle.std.specs.Str.{byte, bytes_eq}
use Rattle.std.proofs.lemmas.Bool.{and_parts, cases_Bool, eqb-true, false≢true, or_cases}
use Rattle.std.proofs.lemmas.List.Elements.{All-nil}
use Rattle.std.proofs.lemmas.Slice.Eq.{bytes_eq-Decides}
use Rattle.byte_grammar.specs.Classes.{is_digit, is_line_byte, is_tchar, is_visible}
use Rattle.byte_grammar.specs.Language.{starts_in}
use Rattle.byte_grammar.specs.Classes.{is_blank}
use Rattle.byte_grammar.proofs.ListLaws.{all_implied, all_joined}
use Rattle.msg_head.specs.Heads.{Head, IsHead}
use Rattle.msg_head.specs.Lines.{IsLine, line_text}
use Rattle.msg_head.specs.Starts.{IsRequestLine, IsStartLine, IsStatusLine, RequestLine, StartLine, StatusLine, is_version, reason_text, request, start_text, status}
use Rattle.msg_head.proofs.OneHeads.{one_head_of_text_law}
use Rattle.line_rewrites.specs.Sound.{Fits}
use Rattle.line_rewrites.proofs.Runs.{inside, runs_line}
use Rattle.line_rewrites.proofs.Sound.{raws_one}

-- ---- bytes of lines

class_line : (test : ℕ → Bool) → test 0 ≡ false → test 13 ≡ false → test 10 ≡ false → (c : ℕ) → test c ≡ true → is_line_byte c ≡ true
class_line test nul cr lf c is = elim (cases_Bool (0 == c)) [
  | inl e ↦ absurd (false≢true (sym nul ∙ (ap test (eqb-true 0 c e) ∙ is)))
  | inr no_nul ↦ elim (cases_Bool (13 == c)) [
    | inl e ↦ absurd (false≢true (sym cr ∙ (ap test (eqb-true 13 c e) ∙ is)))
    | inr no_cr ↦ elim (cases_Bool (10 == c)) [
      | inl e ↦ absurd (false≢true (sym lf ∙ (ap test (eqb-true 10 c e) ∙ is)))
      | inr no_lf ↦ rw (no_nul, no_cr, no_lf) refl
    ]
  ]
]

version_line : (text : List ℕ) → is_version text ≡ true → list_all is_line_byte text ≡ true
version_line text is = elim (or_cases (bytes_eq text (codes "HTTP/1.1")) (bytes_eq text (codes "HTTP/1.0")) is) [
  | inl one ↦ ap (list_all is_line_byte) ((bytes_eq-Decides text (codes "HTTP/1.1")).0 one)
  | inr one ↦ ap (list_all is_line_byte) ((bytes_eq-Decides text (codes "HTTP/1.0")).0 one)
]

spaced : (first rest : List ℕ) → list_all is_line_byte first ≡ true → list_all is_line_byte rest ≡ true → list_all is_line_byte (first ++ byte " " ∷ rest) ≡ true
spaced first rest a b = all_joined is_line_byte first (byte " " ∷ rest) a b

-- the start line without its CRLF
record Opens (line : StartLine) : Type 0 where
  text : List ℕ
  clean : list_all is_line_byte text ≡ true
  is : start_text line ≡ text ++ codes "\r\n"

request_opens : (line : RequestLine) → IsRequestLine line → Opens (request line)
request_opens line is =
    let method = all_implied is_tchar is_line_byte (class_line is_tchar refl refl refl) line.method (and_parts (nat_lt 0 (length line.method)) (list_all is_tchar line.method) is.method).1 in
    let target = all_implied is_visible is_line_byte (class_line is_visible refl refl refl) line.target (and_parts (nat_lt 0 (length line.target)) (list_all is_visible line.target) is.target).1 in
    record {
      text = line.method ++ byte " " ∷ (line.target ++ byte " " ∷ line.version);
      clean = spaced line.method (line.target ++ byte " " ∷ line.version) method (spaced line.target line.version target (version_line line.version is.version));
      is = sym (append_assoc line.method (byte " " ∷ (line.target ++ byte " " ∷ line.version)) (codes "\r\n")
          ∙ ap (λ t. line.method ++ byte " " ∷ t) (append_assoc line.target (byte " " ∷ line.version) (codes "\r\n")));
    }

reason_line : (reason : Option (List ℕ)) → IfSome reason (λ text. list_all is_line_byte text ≡ true) → list_all is_line_byte (reason_text reason) ≡ true
reason_line None is = refl
reason_line (Some text) is = is

status_opens : (line : StatusLine) → IsStatusLine line → Opens (status line)
status_opens line is =
    let code = all_implied is_digit is_line_byte (class_line is_digit refl refl refl) line.code (and_parts (length line.code == 3) (list_all is_digit line.code) is.code).1 in
    let rest = all_joined is_line_byte line.code (reason_text line.reason) code (reason_line line.reason is.reason) in
    record {
      text = line.version ++ byte " " ∷ (line.code ++ reason_text line.reason);
      clean = spaced line.version (line.code ++ reason_text line.reason) (version_line line.version is.version) rest;
      is = sym (append_assoc line.version (byte " " ∷ (line.code ++ reason_text line.reason)) (codes "\r\n")
          ∙ ap (λ t. line.version ++ byte " " ∷ t) (append_assoc line.code (reason_text line.reason) (codes "\r\n")));
    }

opens : (line : StartLine) → IsStartLine line → Opens line
opens (request line) is = request_opens line is
opens (status line) is = status_opens line is

-- ---- one start line

-- it fits a head
pub start_fits : (head : Head) → IsHead head → Fits head.start
start_fits head is =
    let whole = length-append (start_text head.start) (flat_map line_text head.lines ++ codes "\r\n") in
    let rest = length-append (flat_map line_text head.lines) (codes "\r\n") in
    let short = is.short in
    omega (arith, whole, rest, short)

alone : (line : StartLine) → IsStartLine line → Fits line → IsHead (record { start = line; lines = [] })
alone line is fits = record {
  start = is;
  lines = All-nil IsLine;
  few = omega arith;
  short = let whole = length-append (start_text line) (codes "\r\n") in omega (arith, whole, fits);
}

one_text : (one other : StartLine) → IsStartLine one → IsStartLine other → Fits one → Fits other → start_text one ≡ start_text other → one ≡ other
one_text one other a b fits fits_too same =
    let text = ap (λ t. t ++ codes "\r\n") same in
    ap (λ (head : Head). head.start) (one_head_of_text_law (start_text one ++ codes "\r\n") (record { start = one; lines = [] }) (record { start = other; lines = [] })
    (record { is = alone one a fits; text = refl }) (record { is = alone other b fits_too; text = text }))

-- a text that goes on without a blank begins with at most one start line
pub start_one : (one other : StartLine) (more rest : List ℕ) → IsStartLine one → IsStartLine other → Fits one → Fits other → starts_in is_blank more ≡ false → starts_in is_blank rest ≡ false
    → start_text one ++ more ≡ start_text other ++ rest → (one ≡ other) × (more ≡ rest)
start_one one other more rest a b fits fits_too none none_too e =
    let first = opens one a in
    let second = opens other b in
    let left : start_text one ++ more ≡ first.text ++ (codes "\r\n" ++ more) = ap (λ t. t ++ more) first.is ∙ append_assoc first.text (codes "\r\n") more in
    let right : start_text other ++ rest ≡ second.text ++ (codes "\r\n" ++ rest) = ap (λ t. t ++ rest) second.is ∙ append_assoc second.text (codes "\r\n") rest in
    let same = raws_one (Some inside) first.text second.text more rest (runs_line first.text first.clean) (runs_line second.text second.clean) none none_too (sym left ∙ (e ∙ right)) in
    let texts : start_text one ≡ start_text other = first.is ∙ (ap (λ t. t ++ codes "\r\n") same.0 ∙ sym second.is) in
    (one_text one other a b fits fits_too texts, same.1)
