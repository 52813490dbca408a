-- Heads as they are cut.
use Rattle.std.proofs.Common.{◌≡◌, ℕ, ◌≤◌, Bool, true, false, ◌&&◌, ◌==◌, not, inl, inr, nat_lt, List, [], ◌∷◌, ◌++◌, length, take, drop, refl, sym, ap, ◌∙◌, arith, append_assoc}
use Rattle.std.specs.Prelude.{⊤}
use Rattle.std.specs.List.{All, list_all, flat_map}
use Rattle.std.proofs.lemmas.Bool.{and_parts, and_from, cases_Bool, or_cases, eqb-true, lt-ltb, false≢true}
use Rattle.std.proofs.lemmas.List.{take-append-drop, length-take-le}
use Rattle.std.proofs.lemmas.List.Elements.{All-nil, All-cons, All-head, All-tail}
use Rattle.std.proofs.lemmas.List.Folds.{list_all-append}
use Rattle.byte_grammar.specs.Classes.{is_blank, is_tchar, is_visible, is_line_byte}
use Rattle.byte_grammar.specs.Language.{starts_in}
use Rattle.msg_head.specs.RawValues.{RawPieces, are_pieces, is_continuation, continuation_text}
use Rattle.msg_head.specs.Lines.{FieldLine, IsLine, line_text}
use Rattle.msg_head.specs.Starts.{StartLine, request, status, IsStartLine, start_text, reason_text}
use Rattle.msg_head.specs.Cuts.{IsCut, MakesLine, MakesNoStart, cut_text, is_cut, begins_anew}
use Rattle.msg_head.specs.Heads.{Head, IsHead, SpellsHead, head_text}
use Rattle.msg_head.proofs.Prefixes.{outside}
use Rattle.msg_head.proofs.LineBytes.{line_bytes_of}
use Rattle.msg_head.proofs.StartParts.{version_visible}
use Rattle.msg_head.proofs.StatusParts.{clean_code}
use Rattle.msg_head.proofs.Spans.{MakesSome}

-- ---- start lines

-- the text before the start line's end, in which no end is
pub record StartCut (start : StartLine) : Type 0 where
  pub text : List ℕ
  pub is : start_text start ≡ text ++ 13 ∷ 10 ∷ []
  pub clean : list_all is_line_byte text ≡ true

clean_join : (one other : List ℕ) → list_all is_line_byte one ≡ true → list_all is_line_byte other ≡ true → list_all is_line_byte (one ++ 32 ∷ other) ≡ true
clean_join one other a b = list_all-append is_line_byte one (32 ∷ other) ∙ and_from (list_all is_line_byte one) (list_all is_line_byte other) a b

pub start_cut : (start : StartLine) → IsStartLine start → StartCut start
start_cut (request line) is = record {
  text = line.method ++ 32 ∷ (line.target ++ 32 ∷ line.version);
  is =
      sym (append_assoc line.method (32 ∷ (line.target ++ 32 ∷ line.version)) (13 ∷ 10 ∷ [])
      ∙ ap (λ (x : List ℕ). line.method ++ 32 ∷ x) (append_assoc line.target (32 ∷ line.version) (13 ∷ 10 ∷ [])));
  clean =
      clean_join line.method (line.target ++ 32 ∷ line.version) (line_bytes_of is_tchar line.method refl refl refl (and_parts _ _ is.method).1) (
      clean_join line.target line.version (line_bytes_of is_visible line.target refl refl refl (and_parts _ _ is.target).1) (line_bytes_of is_visible line.version refl refl refl (version_visible line.version is.version))
      );
}
start_cut (status line) is = record {
  text = line.version ++ 32 ∷ (line.code ++ reason_text line.reason);
  is =
      ap (λ (x : List ℕ). line.version ++ 32 ∷ x) (sym (append_assoc line.code (reason_text line.reason) (13 ∷ 10 ∷ [])))
      ∙ sym (append_assoc line.version (32 ∷ (line.code ++ reason_text line.reason)) (13 ∷ 10 ∷ []));
  clean =
      clean_join line.version (line.code ++ reason_text line.reason) (line_bytes_of is_visible line.version refl refl refl (version_visible line.version is.version)) (clean_code line is);
}

-- ---- field lines

not_blank : (c : ℕ) → is_tchar c ≡ true → is_blank c ≡ false
not_blank c is = elim (cases_Bool (is_blank c)) [
  | inl e ↦ absurd (tchar_blank c is e)
  | inr e ↦ e
]
  where
    tchar_blank : (c : ℕ) → is_tchar c ≡ true → is_blank c ≡ true → ⊥
    tchar_blank c is e = elim (or_cases (c == 32) (c == 9) e) [
      | inl sp ↦ outside is_tchar c 32 is refl (eqb-true c 32 sp)
      | inr tab ↦ outside is_tchar c 9 is refl (eqb-true c 9 tab)
    ]

-- the field line as it is cut
pub record LineCut (line : FieldLine) : Type 0 where
  pub cut : RawPieces
  pub is : (nat_lt 0 (length cut.first) && are_pieces cut) ≡ true
  pub ends : not (starts_in is_blank cut.first) ≡ true
  pub makes : MakesLine cut line

first_some : (name more : List ℕ) → (nat_lt 0 (length name) && list_all is_tchar name) ≡ true → (nat_lt 0 (length (name ++ more)) ≡ true) × (not (starts_in is_blank (name ++ more)) ≡ true)
first_some [] more is = absurd (false≢true is)
first_some (c ∷ cs) more is =
    let all = (and_parts (nat_lt 0 (length (c ∷ cs))) (list_all is_tchar (c ∷ cs)) is).1 in
    (lt-ltb 0 (length (c ∷ (cs ++ more))) (omega arith), ap not (not_blank c (and_parts (is_tchar c) (list_all is_tchar cs) all).0))

pub line_cut : (line : FieldLine) → IsLine line → LineCut line
line_cut line is =
    let raw = is.raw.0 in
    let first = line.name ++ 58 ∷ raw.first in
    let folds = flat_map continuation_text raw.continued in
    let are = and_parts (list_all is_line_byte raw.first) (list_all is_continuation raw.continued) is.raw.1 in
    let some = first_some line.name (58 ∷ raw.first) is.name in
    let clean : list_all is_line_byte first ≡ true =
    list_all-append is_line_byte line.name (58 ∷ raw.first)
    ∙ and_from (list_all is_line_byte line.name) (list_all is_line_byte raw.first) (line_bytes_of is_tchar line.name refl refl refl (and_parts (nat_lt 0 (length line.name)) (list_all is_tchar line.name) is.name).1) are.0 in
    record {
      cut = record { first = first; continued = raw.continued };
      is = and_from (nat_lt 0 (length first)) (list_all is_line_byte first && list_all is_continuation raw.continued) some.0 (and_from (list_all is_line_byte first) (list_all is_continuation raw.continued) clean are.1);
      ends = some.1;
      makes = record {
        is = is;
        text =
            ap (λ (s : List ℕ). s ++ 13 ∷ 10 ∷ []) (append_assoc line.name (58 ∷ raw.first) folds)
            ∙ append_assoc line.name (58 ∷ (raw.first ++ folds)) (13 ∷ 10 ∷ [])
            ∙ ap (λ (s : List ℕ). line.name ++ 58 ∷ (s ++ 13 ∷ 10 ∷ [])) (sym is.raw.2);
      };
    }

-- each cut line is the field line at its index
abbrev pub AreMade : List RawPieces → List FieldLine → Type 0
AreMade [] [] = ⊤
AreMade (c ∷ cs) (l ∷ ls) = MakesLine c l × AreMade cs ls
AreMade [] (l ∷ ls) = ⊥
AreMade (c ∷ cs) [] = ⊥

pub record LinesCut (lines : List FieldLine) : Type 0 where
  pub cuts : List RawPieces
  pub each : list_all is_cut cuts ≡ true
  pub ends : list_all begins_anew cuts ≡ true
  pub text : flat_map cut_text cuts ≡ flat_map line_text lines
  pub count : length cuts ≡ length lines
  pub makes : All MakesSome cuts
  pub made : AreMade cuts lines

pub lines_cut : (lines : List FieldLine) → All IsLine lines → LinesCut lines
lines_cut [] each = record { cuts = []; each = refl; ends = refl; text = refl; count = refl; makes = All-nil MakesSome; made = tt }
lines_cut (l ∷ ls) each =
    let one = line_cut l (All-head IsLine l ls each) in
    let others = lines_cut ls (All-tail IsLine l ls each) in
    record {
      cuts = one.cut ∷ others.cuts;
      each = and_from _ _ one.is others.each;
      ends = and_from _ _ one.ends others.ends;
      text = λ i. one.makes.text i ++ others.text i;
      count = omega (arith, others.count);
      makes = All-cons MakesSome one.cut others.cuts (l, one.makes) others.makes;
      made = (one.makes, others.made);
    }

all_but_first : (lines : List RawPieces) (p : RawPieces → Bool) → list_all p lines ≡ true → list_all p (drop 1 lines) ≡ true
all_but_first [] p h = refl
all_but_first (l ∷ ls) p h = (and_parts _ _ h).1

-- ---- lines after a first one

-- the clean text, its end, the lines and an empty one, and more, as they are cut
pub record CutAfter (start : List ℕ) (cuts : List RawPieces) (more bytes : List ℕ) : Type 0 where
  pub cut : IsCut start cuts bytes
  pub more_is : cut.more ≡ more

pub cut_after : (start : List ℕ) (lines : List FieldLine) (own : LinesCut lines) (more bytes : List ℕ) → list_all is_line_byte start ≡ true → bytes ≡ start ++ 13 ∷ 10 ∷ (flat_map line_text lines ++ 13 ∷ 10 ∷ more) → CutAfter start own.cuts more bytes
cut_after start lines own more bytes clean e = record {
  cut = record {
    section = flat_map cut_text own.cuts ++ 13 ∷ 10 ∷ [];
    more = more;
    clean = clean;
    joined =
        e
        ∙ ap (λ (x : List ℕ). start ++ 13 ∷ 10 ∷ (x ++ 13 ∷ 10 ∷ more)) (sym own.text)
        ∙ ap (λ (x : List ℕ). start ++ 13 ∷ 10 ∷ x) (sym (append_assoc (flat_map cut_text own.cuts) (13 ∷ 10 ∷ []) more));
    lines_are = record { joined = refl; each = own.each; ends = all_but_first own.cuts _ own.ends };
  };
  more_is = refl;
}

-- where the first bytes, so many, are a text, the bytes are the text and what is left
pub text_first : (text : List ℕ) (used : ℕ) (bytes : List ℕ) → take used bytes ≡ text → bytes ≡ text ++ drop used bytes
text_first text used bytes is = sym (take-append-drop used bytes) ∙ ap (λ (x : List ℕ). x ++ drop used bytes) is

-- and as many are used as the text has
pub text_used : (text : List ℕ) (used : ℕ) (bytes : List ℕ) → used ≤ length bytes → take used bytes ≡ text → used ≡ length text
text_used text used bytes within is = sym (length-take-le used bytes within) ∙ ap (length {A = ℕ}) is

-- ---- heads

pub opened_head : (head : Head) (more : List ℕ) → head_text head ++ more ≡ start_text head.start ++ (flat_map line_text head.lines ++ 13 ∷ 10 ∷ more)
opened_head head more =
    append_assoc (start_text head.start) (flat_map line_text head.lines ++ 13 ∷ 10 ∷ []) more
    ∙ ap (λ (s : List ℕ). start_text head.start ++ s) (append_assoc (flat_map line_text head.lines) (13 ∷ 10 ∷ []) more)

-- the head's text and more, as it is cut
pub record HeadCut (head : Head) (more bytes : List ℕ) : Type 0 where
  pub start : StartCut head.start
  pub lines : LinesCut head.lines
  pub cut : IsCut start.text lines.cuts bytes
  pub more_is : cut.more ≡ more

pub head_cut : (head : Head) (more bytes : List ℕ) → IsHead head → bytes ≡ head_text head ++ more → HeadCut head more bytes
head_cut head more bytes is e =
    let start = start_cut head.start is.start in
    let lines = lines_cut head.lines is.lines in
    let tail = flat_map line_text head.lines ++ 13 ∷ 10 ∷ more in
    let there = cut_after start.text head.lines lines more bytes start.clean (e ∙ opened_head head more ∙ ap (λ (x : List ℕ). x ++ tail) start.is ∙ append_assoc start.text (13 ∷ 10 ∷ []) tail) in
    record { start = start; lines = lines; cut = there.cut; more_is = there.more_is }

pub spelled_first : (head : Head) (used : ℕ) (bytes : List ℕ) → SpellsHead head used bytes → bytes ≡ head_text head ++ drop used bytes
spelled_first head used bytes s = text_first (head_text head) used bytes s.spells.text

pub used_is : (head : Head) (used : ℕ) (bytes : List ℕ) → SpellsHead head used bytes → used ≡ length (head_text head)
used_is head used bytes s = text_used (head_text head) used bytes s.within s.spells.text

pub spelled_cut : (head : Head) (used : ℕ) (bytes : List ℕ) → SpellsHead head used bytes → HeadCut head (drop used bytes) bytes
spelled_cut head used bytes s = head_cut head (drop used bytes) bytes s.spells.is (spelled_first head used bytes s)

-- its start line is one
pub starts_well : (start : StartLine) → IsStartLine start → (cut : StartCut start) → ¬ MakesNoStart cut.text
starts_well start is cut none = none start is (sym cut.is)
