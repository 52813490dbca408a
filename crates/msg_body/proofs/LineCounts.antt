-- Whether some field line has a name, by a count of its lines.
use Rattle.std.proofs.Common.{◌≡◌, ℕ, nat_lt, List, length, sym, ap, ◌∙◌}
use Rattle.std.specs.Prelude.{filter}
use Rattle.std.proofs.lemmas.List.{length-map}
use Rattle.msg_head.specs.Lines.{FieldLine}
use Rattle.msg_head.specs.Names.{has_name}
use Rattle.msg_head.specs.Values.{value, is_there}
use Rattle.msg_head.proofs.NameCounts.{there_count}

-- the count is of the lines of the name
pub there_counted : (lines named : List FieldLine) (name : List ℕ) (count : ℕ) → named ≡ filter (has_name name) lines → count ≡ length named → is_there lines name ≡ nat_lt 0 count
there_counted lines named name count is counted =
    there_count lines name
    ∙ ap (λ n. nat_lt 0 n) (length-map (filter (has_name name) lines) (λ (line : FieldLine). value line.raw) ∙ ap (λ (ls : List FieldLine). length ls) (sym is) ∙ sym counted)
