use Rattle.std.proofs.Common.{◌≡◌, ℕ, List, ◌++◌, append_assoc, codes, subst}
use Rattle.std.specs.Prelude.{option_map}
use Rattle.std.specs.Str.{str_to_ascii_lowercase}
use Rattle.derived_values.specs.Authorities.{authority_text}
use Rattle.derived_values.specs.Targets.{query_text}
use Rattle.derived_values.specs.Views.{authority_parts}
use Rattle.derived_values.proofs.value.TargetUri.feed.Goals as goal

regroup : (a b c d e f : List ℕ) → ((((a ++ b) ++ c) ++ d) ++ e) ++ f ≡ a ++ (b ++ (c ++ (d ++ (e ++ f))))
regroup a b c d e f = simp append_assoc

pub returns : goal.returns
returns g c fed is =
    let uri = c.args.self.now in
    let scheme = str_to_ascii_lowercase uri.scheme.now in
    let authority = authority_text (authority_parts uri.authority) in
    let path = uri.path.now in
    let query = query_text (option_map (λ text. text.now) uri.query) in
    subst (λ (t : List ℕ). g.A.Absorb.absorbed c.feed_marked.new.into t) (regroup fed scheme (codes "://") authority path query)
    (c.feed_marked.ensures ((((fed ++ scheme) ++ codes "://") ++ authority) ++ path)
    (c.absorb-2.ensures (((fed ++ scheme) ++ codes "://") ++ authority)
    (c.feed.ensures ((fed ++ scheme) ++ codes "://") (c.absorb.ensures (fed ++ scheme) (c.feed_lowered.ensures fed is)))))
