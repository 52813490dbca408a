use Rattle.std.proofs.Common.{ℕ, List, arith, sym, ap, ◌∙◌}
use Rattle.std.specs.Str.{str_to_ascii_lowercase}
use Rattle.std.proofs.lemmas.Bool.{ne_eqb}
use Rattle.line_index.specs.tools.Index.{is_rest_named}
use Rattle.line_index.proofs.NameOrder.{named_is, not_named}
use Rattle.line_index.proofs.index.is_named.Goals as goal

pub returns-then-entry-first : goal.returns-then-entry-first
returns-then-entry-first c =
    c.is_rest_named.ensures
    ∙ ap (λ (text : List ℕ). is_rest_named (str_to_ascii_lowercase text) c.args.name.now) c.name_at.ensures
    ∙ named_is c.args.bytes.now c.args.spans.now c.args.name.now c.args.entry (λ k. omega (arith, c.type_inv.bytes k)) (λ k. omega (arith, c.type_inv.name k)) c.requires.right (c.if-entry-first.true ∙ c.requires.first)

pub returns-else-entry-first : goal.returns-else-entry-first
returns-else-entry-first c =
    ne_eqb _ _ c.if-entry-first.false
    ∙ sym (not_named c.args.bytes.now c.args.spans.now c.args.name.now c.args.entry c.requires.right (λ e. c.if-entry-first.false (e ∙ sym c.requires.first)))
