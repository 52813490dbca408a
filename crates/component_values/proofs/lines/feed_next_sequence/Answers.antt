use Rattle.std.proofs.Common.{ℕ, List, ◌++◌, codes, sym, subst, ◌∙◌}
use Rattle.component_values.specs.Values.{byte_sequences}
use Rattle.component_values.proofs.Sequences.{first_sequence, next_sequence}
use Rattle.component_values.proofs.lines.feed_next_sequence.Goals as goal

pub returns-then-is_first : goal.returns-then-is_first
returns-then-is_first g c text values first fed =
    subst (λ (t : List ℕ). g.A.Absorb.absorbed c.feed_byte_sequence.new.into t) (first_sequence text values _ (sym c.if-is_first.true ∙ first))
    (c.feed_byte_sequence.ensures (text ++ byte_sequences values) fed)

pub returns : goal.returns
returns g c text values first fed =
    subst (λ (t : List ℕ). g.A.Absorb.absorbed c.feed_byte_sequence-2.new.into t) (next_sequence text values _ (sym c.if-is_first.false ∙ first))
    (c.feed_byte_sequence-2.ensures ((text ++ byte_sequences values) ++ codes ", ") (c.absorb.ensures (text ++ byte_sequences values) fed))
