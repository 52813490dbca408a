-- Scripts: lines of rewritings, each ended by LF.
use Rattle.std.specs.Prelude.{◌≡◌, ⊤, ℕ, ◌+◌, ◌≤◌, Bool, ◌==◌, not, List, [], ◌∷◌, ◌++◌, length, reverse, codes, IsTrue, if◌then◌else◌}
use Rattle.std.specs.List.{count_by, flat_map, list_all}
use Rattle.std.specs.Str.{byte}
use Rattle.byte_grammar.specs.Language.{starts_in}
use Rattle.rewrite_script.specs.declared.limits.TheConstants.{MAX_SCRIPT_BYTES, MAX_SCRIPT_LINES}
use Rattle.rewrite_script.specs.declared.rewrite.Rewrite.{Rewrite}
use Rattle.rewrite_script.specs.Lines.{HasValues, is_writable, rewrite_line}

-- the rewriting's line with its LF
abbrev pub ended_line : Rewrite → List ℕ
ended_line rewrite = rewrite_line rewrite ++ codes "\n"

-- the lines of the rewritings, one after the other
abbrev pub script_text : List Rewrite → List ℕ
script_text script = flat_map ended_line script

-- the words of each rewriting have values
abbrev pub HaveValues : List Rewrite → Type 0
HaveValues [] = ⊤
HaveValues (rewrite ∷ script) = HasValues rewrite × HaveValues script

-- the text is that of the script, which has no more lines than a script may have
pub record SpellsScript (text : List ℕ) (script : List Rewrite) : Type 0 where
  pub writable : IsTrue (list_all is_writable script)
  pub values : HaveValues script
  pub few : length script ≤ MAX_SCRIPT_LINES
  pub lines : text ≡ script_text script

-- the text is that of the script, and no longer than a script may be
abbrev pub IsScriptText : List ℕ → List Rewrite → Type 0
IsScriptText text script = (length text ≤ MAX_SCRIPT_BYTES) × SpellsScript text script

-- ---- lines of any text

abbrev pub is_line_end : ℕ → Bool
is_line_end c = c == byte "\n"

-- the text's last byte isn't the end of a line
abbrev pub is_unended : List ℕ → Bool
is_unended text = starts_in (λ c. not (is_line_end c)) (reverse text)

-- how many lines the text has: those that LF ends, and a last one that it doesn't
abbrev pub line_count : List ℕ → ℕ
line_count text = count_by is_line_end text + (if is_unended text then 1 else 0)
