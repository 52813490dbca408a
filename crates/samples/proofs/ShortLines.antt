-- Lines as a sample's messages have them: at most three blanks, and a short text that has no spacing at its ends.
use Rattle.std.proofs.Common.{◌≡◌, ◌≤◌, ◌*◌, ℕ, true, false, List, [], ◌∷◌, ◌++◌, length, refl, sym, ap, subst, ◌∙◌, arith}
use Rattle.std.specs.Prelude.{⊤}
use Rattle.std.specs.List.{All, flat_map, list_all}
use Rattle.std.proofs.lemmas.Bool.{and_from, or_left}
use Rattle.std.proofs.lemmas.List.{append-nil, length-append}
use Rattle.std.proofs.lemmas.List.Elements.{All-cons, All-nil}
use Rattle.byte_grammar.specs.Classes.{is_blank, is_line_byte, is_token}
use Rattle.byte_grammar.specs.Language.{starts_in}
use Rattle.byte_grammar.proofs.ListLaws.{all_implied, all_joined}
use Rattle.msg_head.specs.Lines.{FieldLine, IsLine, line_text}
use Rattle.msg_head.specs.Values.{is_end, value}
use Rattle.msg_head.proofs.LineBytes.{line_byte_of}
use Rattle.msg_body.specs.Spacing.{ends_in, is_spacing}
use Rattle.msg_body.proofs.ValueLaws.{forgets_spacing_at_ends}
use Rattle.line_rewrites.specs.LineLists.{ChangesRaw}
use Rattle.line_rewrites.specs.RawValues.{HasCore, IsPadded}
use Rattle.samples.proofs.Signable.{one_line}

-- ---- one line

pub record IsShortLine (line : FieldLine) : Type 0 where
  pub name : is_token line.name ≡ true
  pub short_name : length line.name ≤ 20
  pub blanks : List ℕ
  pub core : List ℕ
  pub joined : line.raw ≡ blanks ++ core
  pub are_blanks : list_all is_blank blanks ≡ true
  pub few : length blanks ≤ 3
  pub clean : list_all is_line_byte core ≡ true
  pub short : length core ≤ 1000
  pub begins : starts_in is_spacing core ≡ false
  pub ends : ends_in is_spacing core ≡ false

blanks_clean : (blanks : List ℕ) → list_all is_blank blanks ≡ true → list_all is_line_byte blanks ≡ true
blanks_clean blanks are = all_implied is_blank is_line_byte (λ c is. line_byte_of is_blank c refl refl refl is) blanks are

blanks_spacing : (blanks : List ℕ) → list_all is_blank blanks ≡ true → list_all is_spacing blanks ≡ true
blanks_spacing blanks are = all_implied is_blank is_spacing (λ c is. or_left (is_blank c) (is_end c) is) blanks are

module _ (line : FieldLine) (is : IsShortLine line) where
  raw_clean : list_all is_line_byte line.raw ≡ true
  raw_clean =
      subst (λ (t : List ℕ). list_all is_line_byte t ≡ true) (sym is.joined) (all_joined is_line_byte is.blanks is.core (blanks_clean is.blanks is.are_blanks) is.clean)

  is_line : IsLine line
  is_line = record {
    name = is.name;
    raw = (record { first = line.raw; continued = [] }, and_from (list_all is_line_byte line.raw) true raw_clean refl, sym (append-nil line.raw));
  }

  raw_short : length line.raw ≤ 1003
  raw_short = omega (arith, ap (λ (t : List ℕ). length t) is.joined, length-append is.blanks is.core, is.few, is.short)

  raw_joined : line.raw ≡ is.blanks ++ (is.core ++ [])
  raw_joined = is.joined ∙ ap (λ (t : List ℕ). is.blanks ++ t) (sym (append-nil is.core))

  has_core : HasCore line.raw is.core
  has_core = record {
    first = is.blanks;
    last = [];
    joined = raw_joined;
    spacing_first = blanks_spacing is.blanks is.are_blanks;
    spacing_last = refl;
    begins = is.begins;
    ends = is.ends;
  }

  module _ (blanks : List ℕ) (are : list_all is_blank blanks ≡ true) (few : length blanks ≤ 3) where
    -- the line with these blanks in place of its own
    abbrev pub padded : FieldLine
    padded = record { name = line.name; raw = blanks ++ (is.core ++ []) }

    pub is_padded : ChangesRaw (IsPadded blanks []) line padded
    is_padded = record { name = refl; raw = (is.core, has_core, refl) }

    pub padded_short : IsShortLine padded
    padded_short = record {
      name = is.name;
      short_name = is.short_name;
      blanks = blanks;
      core = is.core;
      joined = ap (λ (t : List ℕ). blanks ++ t) (append-nil is.core);
      are_blanks = are;
      few = few;
      clean = is.clean;
      short = is.short;
      begins = is.begins;
      ends = is.ends;
    }

    pub padded_value : value padded.raw ≡ value line.raw
    padded_value =
        forgets_spacing_at_ends blanks is.core [] (blanks_spacing blanks are) refl
        ∙ (sym (forgets_spacing_at_ends is.blanks is.core [] (blanks_spacing is.blanks is.are_blanks) refl) ∙ ap value (sym raw_joined))

-- ---- lists of lines

abbrev pub AreShortLines : List FieldLine → Type 0
AreShortLines [] = ⊤
AreShortLines (line ∷ lines) = IsShortLine line × AreShortLines lines

pub short_joined : (xs ys : List FieldLine) → AreShortLines xs → AreShortLines ys → AreShortLines (xs ++ ys)
short_joined [] ys a b = b
short_joined (x ∷ xs) ys a b = (a.0, short_joined xs ys a.1 b)

pub short_parts : (xs ys : List FieldLine) → AreShortLines (xs ++ ys) → AreShortLines xs × AreShortLines ys
short_parts [] ys a = (tt, a)
short_parts (x ∷ xs) ys a = let rest = short_parts xs ys a.1 in ((a.0, rest.0), rest.1)

pub are_lines : (lines : List FieldLine) → AreShortLines lines → All IsLine lines
are_lines [] short = All-nil IsLine
are_lines (line ∷ lines) short = All-cons IsLine line lines (is_line line short.0) (are_lines lines short.1)

pub lines_short : (lines : List FieldLine) → AreShortLines lines → length (flat_map line_text lines) ≤ 1026 * length lines
lines_short [] short = omega arith
lines_short (line ∷ lines) short = omega (arith, one_line line lines, short.0.short_name, raw_short line short.0, lines_short lines short.1)
