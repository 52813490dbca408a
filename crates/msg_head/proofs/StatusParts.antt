-- The parts of a status line are determined by the bytes that begin with it.
use Rattle.std.proofs.Common.{◌≡◌, ℕ, true, false, List, [], ◌∷◌, ◌++◌, Option, Some, None, IfSome, refl, sym, ap, ◌∙◌, append_assoc}
use Rattle.std.specs.List.{list_all}
use Rattle.std.proofs.lemmas.Bool.{and_parts, and_from, false≢true}
use Rattle.std.proofs.lemmas.List.{append-nil}
use Rattle.std.proofs.lemmas.List.Folds.{list_all-append}
use Rattle.byte_grammar.specs.Classes.{is_digit, is_visible, is_line_byte}
use Rattle.msg_head.specs.Starts.{StatusLine, IsStatusLine, is_code, is_version, reason_text, status_text}
use Rattle.msg_head.specs.tools.Prefixes.{StandsBefore, NoneStandsBefore, BeginsWithNoStatus, IsCodeAndReason, NoCodeAndReason}
use Rattle.msg_head.proofs.Prefixes.{one_before}
use Rattle.msg_head.proofs.LineBytes.{line_bytes_of}
use Rattle.msg_head.proofs.StartParts.{version_visible}

-- ---- codes and reasons

-- the code before a space, where there is one
with_space : (text code reason : List ℕ) (c : List ℕ) (r : Option (List ℕ)) → StandsBefore is_digit (32 ∷ []) code reason text → IsCodeAndReason c r text → c ≡ code
with_space text code reason c (Some r) s is =
    (one_before is_digit 32 [] c code r reason text refl (record { each = (and_parts _ _ is.is).1; joined = is.joined }) s).0
with_space text code reason c None s is =
    let digits : list_all is_digit text ≡ true = ap (list_all is_digit) (is.joined ∙ append-nil c) ∙ (and_parts _ _ is.is).1 in
    let apart = and_parts _ _ (sym (list_all-append is_digit code (32 ∷ reason)) ∙ ap (list_all is_digit) (sym s.joined) ∙ digits) in
    absurd (false≢true apart.1)

pub other_code : (text code reason : List ℕ) → StandsBefore is_digit (32 ∷ []) code reason text → is_code code ≡ false → NoCodeAndReason text
other_code text code reason s wrong c r is = false≢true (sym wrong ∙ ap is_code (sym (with_space text code reason c r s is)) ∙ is.is)

pub no_code : (text : List ℕ) → NoneStandsBefore is_digit (32 ∷ []) text → is_code text ≡ false → NoCodeAndReason text
no_code text none wrong c (Some r) is = none c r (record { each = (and_parts _ _ is.is).1; joined = is.joined })
no_code text none wrong c None is = false≢true (sym wrong ∙ ap is_code (is.joined ∙ append-nil c) ∙ is.is)

-- ---- status lines

pub opened_status : (line : StatusLine) (more : List ℕ) → status_text line ++ more ≡ line.version ++ 32 ∷ ((line.code ++ reason_text line.reason) ++ 13 ∷ 10 ∷ more)
opened_status line more =
    append_assoc line.version (32 ∷ (line.code ++ (reason_text line.reason ++ 13 ∷ 10 ∷ []))) more
    ∙ ap (λ (s : List ℕ). line.version ++ 32 ∷ s) (
    append_assoc line.code (reason_text line.reason ++ 13 ∷ 10 ∷ []) more
    ∙ ap (λ (s : List ℕ). line.code ++ s) (append_assoc (reason_text line.reason) (13 ∷ 10 ∷ []) more)
    ∙ sym (append_assoc line.code (reason_text line.reason) (13 ∷ 10 ∷ more)))

clean_reason : (reason : Option (List ℕ)) → IfSome reason (λ text. list_all is_line_byte text ≡ true) → list_all is_line_byte (reason_text reason) ≡ true
clean_reason None is = refl
clean_reason (Some reason) is = is

pub clean_code : (line : StatusLine) → IsStatusLine line → list_all is_line_byte (line.code ++ reason_text line.reason) ≡ true
clean_code line is =
    list_all-append is_line_byte line.code (reason_text line.reason) ∙ and_from _ _ (line_bytes_of is_digit line.code refl refl refl (and_parts _ _ is.code).1) (clean_reason line.reason is.reason)

version_stands : (line : StatusLine) (more bytes : List ℕ) → IsStatusLine line → bytes ≡ status_text line ++ more → StandsBefore is_visible (32 ∷ []) line.version ((line.code ++ reason_text line.reason) ++ 13 ∷ 10 ∷ more) bytes
version_stands line more bytes is joined = record { each = version_visible line.version is.version; joined = joined ∙ opened_status line more }

code_stands : (line : StatusLine) (more bytes version rest : List ℕ) → IsStatusLine line → bytes ≡ status_text line ++ more → StandsBefore is_visible (32 ∷ []) version rest bytes → StandsBefore is_line_byte (13 ∷ 10 ∷ []) (line.code ++ reason_text line.reason) more rest
code_stands line more bytes version rest is joined v = record {
  each = clean_code line is;
  joined = (one_before is_visible 32 [] version line.version rest _ bytes refl v (version_stands line more bytes is joined)).1;
}

-- ---- where no status line is

pub no_version : (bytes : List ℕ) → NoneStandsBefore is_visible (32 ∷ []) bytes → BeginsWithNoStatus bytes
no_version bytes none line more is joined = none line.version _ (version_stands line more bytes is joined)

pub other_version : (bytes version rest : List ℕ) → StandsBefore is_visible (32 ∷ []) version rest bytes → is_version version ≡ false → BeginsWithNoStatus bytes
other_version bytes version rest v other line more is joined =
    let same = (one_before is_visible 32 [] version line.version rest _ bytes refl v (version_stands line more bytes is joined)).0 in
    false≢true (sym other ∙ ap is_version same ∙ is.version)

pub no_end : (bytes version rest : List ℕ) → StandsBefore is_visible (32 ∷ []) version rest bytes → NoneStandsBefore is_line_byte (13 ∷ 10 ∷ []) rest → BeginsWithNoStatus bytes
no_end bytes version rest v none line more is joined = none _ more (code_stands line more bytes version rest is joined v)

pub bad_code : (bytes version rest text last : List ℕ) → StandsBefore is_visible (32 ∷ []) version rest bytes → StandsBefore is_line_byte (13 ∷ 10 ∷ []) text last rest → NoCodeAndReason text → BeginsWithNoStatus bytes
bad_code bytes version rest text last v t none line more is joined =
    let same = (one_before is_line_byte 13 (10 ∷ []) text (line.code ++ reason_text line.reason) last more rest refl t (code_stands line more bytes version rest is joined v)).0 in
    none line.code line.reason (record { is = is.code; joined = same })
