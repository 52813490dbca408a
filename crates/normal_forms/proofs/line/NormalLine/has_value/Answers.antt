use Rattle.std.proofs.Common.{ℕ, List, Bor, length, sym, ap, ◌∙◌, arith}
use Rattle.std.specs.Prelude.{map}
use Rattle.std.proofs.lemmas.List.{length-map}
use Rattle.msg_head.specs.Lines.{FieldLine}
use Rattle.msg_head.specs.Values.{has_bytes}
use Rattle.normal_forms.proofs.SideValues.{joined_bytes}
use Rattle.normal_forms.proofs.line.NormalLine.has_value.Goals as goal

pub returns-in_default-2 : goal.returns-in_default-2
returns-in_default-2 c =
    let raws = c.self.inside.raws.items in
    let size = ap (λ (rs : List (Bor (List ℕ))). length rs) c.as_slice.ensures.value in
    let texts : List (List ℕ) = map (λ (raw : Bor (List ℕ)). raw.now) raws in
    sym (joined_bytes c.self.inside.name.now texts (omega (arith, size, c.in_default.len_at_least, length-map raws (λ (raw : Bor (List ℕ)). raw.now)))) ∙ ap (λ (l : FieldLine). has_bytes l.raw) c.self.view_is
