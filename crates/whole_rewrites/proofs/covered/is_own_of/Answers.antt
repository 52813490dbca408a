use Rattle.std.proofs.Common.{◌≡◌, ◌||◌, ◌&&◌, not, map, ℕ, Bool, List, [], ◌∷◌, Bor, refl, sym, subst, ap, ◌∙◌}
use Rattle.std.specs.List.{list_any}
use Rattle.std.specs.Str.{bytes_eq}
use Rattle.component_ids.specs.Table.{is_listed}
use Rattle.whole_rewrites.proofs.covered.is_own_of.Goals as goal

listed_names : (text : List ℕ) (names : List (Bor (List ℕ))) → list_any (λ t. bytes_eq text t.now) names ≡ is_listed (map (λ name. name.now) names) text
listed_names text [] = refl
listed_names text (name ∷ names) = ap (λ b. bytes_eq text name.now || b) (listed_names text names)

pub returns-then-not-has_param : goal.returns-then-not-has_param
returns-then-not-has_param c =
    let texts = map (λ (name : Bor (List ℕ)). name.now) c.args.names.now in
    let listed : c.is_listed.result ≡ is_listed texts c.args.id.now.name = rw (← c.bytes.ensures) (c.is_listed.ensures ∙ listed_names c.bytes.result.now c.args.names.now) in
    subst (λ (b : Bool). c.is_listed.result ≡ (not b && is_listed texts c.args.id.now.name)) (sym c.if-not-has_param.true ∙ c.has_param.ensures) listed
