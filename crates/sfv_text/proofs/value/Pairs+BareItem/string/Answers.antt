use Rattle.std.proofs.Common.{Some, sym, ap, ◌∙◌}
use Rattle.sfv_text.specs.declared.value.BareItem.{BareItem}
use Rattle.sfv_text.proofs.ValueLaws.{string_in_range}
use Rattle.sfv_text.proofs.value.Pairs+BareItem.string.Goals as goal

pub returns-in-Some-Str-clause-in_range : goal.returns-in-Some-Str-clause-in_range
returns-in-Some-Str-clause-in_range c = λ ranged.
    string_in_range c.args.self.now c.args.key.now c.in-Some-Str.text ranged (sym c.in-Some-Str.ensures ∙ ap (λ (b : BareItem). Some b) c.in-Some-Str.field-0-is)
