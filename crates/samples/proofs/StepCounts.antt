-- How many steps the hops of a sample have.
use Rattle.std.proofs.Common.{◌≡◌, ◌*◌, ℕ, zero, suc, List, [], ◌∷◌, length, refl, ap, arith}
use Rattle.std.specs.List.{flat_map}
use Rattle.std.proofs.lemmas.List.{length-append}
use Rattle.msg_body.specs.Messages.{Message}
use Rattle.rewrite_script.specs.declared.rewrite.Rewrite.{Rewrite}
use Rattle.hop_audit.specs.ChainValues.{Hop}
use Rattle.samples.specs.Chains.{AreHopsFrom}
use Rattle.samples.specs.Draws.{state_after}
use Rattle.samples.specs.Scripts.{hop_draws, scripts_from}

-- three each
pub steps_of_hops : (count state : ℕ) (message : Message) (hops : List Hop) → AreHopsFrom message (scripts_from state count) hops → length (flat_map (λ hop. hop.script) hops) ≡ 3 * length hops
steps_of_hops zero state message [] are = refl
steps_of_hops zero state message (hop ∷ hops) are = absurd are
steps_of_hops (suc count) state message [] are = absurd are
steps_of_hops (suc count) state message (hop ∷ hops) are =
    let rest = steps_of_hops count (state_after hop_draws state) hop.message hops are.3 in
    let own : length hop.script ≡ 3 = ap (λ (steps : List Rewrite). length steps) are.1 in
    omega (arith, rest, own, length-append hop.script (flat_map (λ (h : Hop). h.script) hops))
