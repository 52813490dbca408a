use Rattle.std.proofs.Common.{ℕ, List, ◌++◌, append-nil, sym, ap, subst, ◌∙◌}
use Rattle.base64.specs.Engines.{standard}
use Rattle.base64.specs.GeneralPurpose.{encode_of}
use Rattle.component_values.specs.tools.Encoding.{carried}
use Rattle.component_values.proofs.Encoded.{last_symbols}
use Rattle.component_values.proofs.byte_sequence.feed_last.Goals as goal

pub returns-in-Nothing : goal.returns-in-Nothing
returns-in-Nothing g c text done is =
    let all = is.joined ∙ ap (λ k. is.groups ++ carried k) c.in-Nothing.is ∙ append-nil is.groups in
    subst (λ (t : List ℕ). g.A.Absorb.absorbed c.args.into.now (text ++ encode_of standard t)) (sym all) is.fed

pub returns-in-One : goal.returns-in-One
returns-in-One g c text done is =
    let before = text ++ encode_of standard is.groups in
    let symbols = c.group_of_one.ensures ∙ ap (λ k. encode_of standard (carried k)) (sym c.in-One.is) in
    subst (λ (t : List ℕ). g.A.Absorb.absorbed c.absorb.new.self t) (ap (λ (t : List ℕ). before ++ t) symbols ∙ last_symbols (g.A.Absorb.absorbed c.args.into.now) text c.args.carry done is)
    (c.absorb.ensures before is.fed)

pub returns-in-Two : goal.returns-in-Two
returns-in-Two g c text done is =
    let before = text ++ encode_of standard is.groups in
    let symbols = c.group_of_two.ensures ∙ ap (λ k. encode_of standard (carried k)) (sym c.in-Two.is) in
    subst (λ (t : List ℕ). g.A.Absorb.absorbed c.absorb-in-Two.new.self t) (ap (λ (t : List ℕ). before ++ t) symbols ∙ last_symbols (g.A.Absorb.absorbed c.args.into.now) text c.args.carry done is)
    (c.absorb-in-Two.ensures before is.fed)
