-- Whether there are lines of a name, by their values.
use Rattle.std.proofs.Common.{◌≡◌, ℕ, nat_lt, List, length, suc, sym, ap, ◌∙◌}
use Rattle.msg_head.specs.Lines.{FieldLine}
use Rattle.msg_head.specs.Values.{values, is_there}
use Rattle.msg_head.proofs.NameCounts.{positive, there_count}
use Rattle.framing.specs.declared.named.NamedLines.{NamedLines}
use Rattle.framing.specs.declared.named.NamedLines.TheVariants.{None, One, Many}
use Rattle.framing.specs.tools.NamedLines.{HaveValues, are_named}

pub named_there : (named : NamedLines) (lines : List FieldLine) (name : List ℕ) → HaveValues named (values lines name) → are_named named ≡ is_there lines name
named_there None lines name h = sym (there_count lines name ∙ ap (λ (t : List (List ℕ)). nat_lt 0 (length t)) h)
named_there (One line) lines name h = sym (there_count lines name ∙ ap (λ (t : List (List ℕ)). nat_lt 0 (length t)) h)
named_there Many lines name h =
    positive (suc (length h.2)) ∙ sym (there_count lines name ∙ ap (λ (t : List (List ℕ)). nat_lt 0 (length t)) h.3)
