-- The text of a report, and whether it finds fault.
use Rattle.std.specs.Prelude.{ℕ, Bool, true, false, ◌||◌, not, Option, Some, None, List, ◌∷◌, ◌++◌, codes}
use Rattle.std.specs.Fmt.{decimal}
use Rattle.std.specs.List.{flat_map, list_all, list_any}
use Rattle.std.specs.Str.{byte}
use Rattle.component_ids.specs.Identifiers.{id_text, is_id_in_range}
use Rattle.verdicts.specs.VerdictLine.{verdict_line}
use Rattle.verdicts.specs.Verdicts.{is_accepted, is_verdict_in_range}
use Rattle.hop_audit.specs.declared.line.Fate.{Fate}
use Rattle.hop_audit.specs.declared.line.Fate.TheVariants.{Dropped, Changed, Lacking, Kept}
use Rattle.hop_audit.specs.declared.line.AuditLine.{AuditLine}
use Rattle.hop_audit.specs.declared.line.AuditLine.TheVariants.{Message, Hop, Unread, Label}

-- ---- words

-- whether a hop is explained, with the index of the step that gives no message, where there is one
abbrev pub explanation_text : Bool → Option ℕ → List ℕ
explanation_text true stopped = codes "explained"
explanation_text false None = codes "unexplained"
explanation_text false (Some index) = codes "unexplained " ++ decimal index

-- whether a hop is permitted
abbrev pub permission_word : Bool → List ℕ
permission_word true = codes "permitted"
permission_word false = codes "not-permitted"

-- what becomes of a signature, with the component that decides it
abbrev pub fate_text : Fate → List ℕ
fate_text Dropped = codes "dropped"
fate_text (Changed id) = codes "changed " ++ id_text id
fate_text (Lacking id) = codes "lacking " ++ id_text id
fate_text Kept = codes "kept"

-- ---- lines

-- the line of a hop: its index, a space, and what is said of it
abbrev pub hop_line : ℕ → List ℕ → List ℕ
hop_line index text = codes "hop " ++ (decimal index ++ byte " " ∷ (text ++ codes "\n"))

-- the line of a report
abbrev pub line_text : AuditLine → List ℕ
line_text (Message index label verdict) =
    codes "message " ++ (decimal index ++ byte " " ∷ verdict_line (label, verdict))
line_text (Hop index explained stopped) = hop_line index (explanation_text explained stopped)
line_text (Unread index label) = hop_line index (label ++ codes " unread")
line_text (Label index label permitted fate) =
    hop_line index (label ++ byte " " ∷ (permission_word permitted ++ byte " " ∷ fate_text fate))

-- the lines one after the other
abbrev pub report_text : List AuditLine → List ℕ
report_text lines = flat_map line_text lines

-- ---- faults

-- the signature is kept
abbrev pub is_kept : Fate → Bool
is_kept Kept = true
is_kept fate = false

-- the line counts against the chain: a verdict that isn't `ok`, a hop that isn't explained, a label
-- that isn't read, a hop that isn't permitted, or a signature that isn't kept
abbrev pub is_counted : AuditLine → Bool
is_counted (Message index label verdict) = not (is_accepted verdict)
is_counted (Hop index explained stopped) = not explained
is_counted (Unread index label) = true
is_counted (Label index label permitted fate) = not permitted || not (is_kept fate)

-- a line of the report counts
abbrev pub finds_fault : List AuditLine → Bool
finds_fault lines = list_any is_counted lines

-- ---- what can be written

-- the component that decides can be written as a structured field
abbrev pub is_fate_in_range : Fate → Bool
is_fate_in_range (Changed id) = is_id_in_range id
is_fate_in_range (Lacking id) = is_id_in_range id
is_fate_in_range fate = true

-- a component that a line names can be written as a structured field
abbrev pub is_line_in_range : AuditLine → Bool
is_line_in_range (Message index label verdict) = is_verdict_in_range verdict
is_line_in_range (Label index label permitted fate) = is_fate_in_range fate
is_line_in_range line = true

-- so can each that a report names
abbrev pub are_lines_in_range : List AuditLine → Bool
are_lines_in_range lines = list_all is_line_in_range lines
