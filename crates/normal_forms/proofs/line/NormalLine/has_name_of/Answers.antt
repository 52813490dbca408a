use Rattle.std.proofs.Common.{◌≡◌, ap, ◌∙◌}
use Rattle.std.specs.Str.{bytes_eq, str_to_ascii_lowercase}
use Rattle.msg_head.specs.Lines.{FieldLine}
use Rattle.normal_forms.proofs.SideValues.{same_names}
use Rattle.normal_forms.proofs.line.NormalLine.has_name_of.Goals as goal

pub returns : goal.returns
returns c =
    let one : str_to_ascii_lowercase c.self.inside.name.now ≡ c.args.self.now.name = ap (λ (l : FieldLine). l.name) c.self.view_is in
    let other : str_to_ascii_lowercase c.other.inside.name.now ≡ c.args.other.now.name = ap (λ (l : FieldLine). l.name) c.other.view_is in
    same_names c.self.inside.name.now c.other.inside.name.now c.eq_ignore_ascii_case.result c.eq_ignore_ascii_case.ensures.test ∙ (λ i. bytes_eq (str_to_ascii_lowercase (one i)) (other i))
