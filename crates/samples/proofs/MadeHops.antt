-- Hops that are made one after the other, and what they are as a chain.
use Rattle.std.proofs.Common.{◌≡◌, ◌+◌, ℕ, suc, false, None, List, [], ◌∷◌, ◌++◌, refl, sym, ap, subst, ◌∙◌, arith}
use Rattle.std.proofs.lemmas.List.{append-nil, append_assoc}
use Rattle.msg_body.specs.Messages.{Message, Spells}
use Rattle.rewrite_script.specs.Scripts.{script_text}
use Rattle.rewrite_script.specs.declared.rewrite.Rewrite.{Rewrite}
use Rattle.hop_audit.proofs.StepLists.{one_end}
use Rattle.samples.specs.Chains.{sample_context}
use Rattle.samples.specs.Draws.{state_after}
use Rattle.samples.specs.Scripts.{hop_draws, hop_steps, scripts_from}
use Rattle.samples.specs.tools.Made.{AreMadeFrom, LeadsTo}
use Rattle.samples.specs.declared.hop.MadeHop.{MadeHop}
use Rattle.samples.proofs.DrawnSteps.{goes_through}
use Rattle.samples.proofs.Ready.{IsReady}

-- so many hops are made, and with others, which go on from here, they are those of all
pub record AreMadeSoFar (message : Message) (seed count : ℕ) (made : List MadeHop) (state : ℕ) (text : List ℕ) : Type 0 where
  pub met : Message
  pub spells : Spells false met text
  pub ready : IsReady met
  pub others : (more : ℕ) (rest : List MadeHop) → AreMadeFrom met (scripts_from state more) rest → AreMadeFrom message (scripts_from seed (count + more)) (made ++ rest)

-- before any hop
pub none_made : (message : Message) (seed : ℕ) (text : List ℕ) → Spells false message text → IsReady message → AreMadeSoFar message seed 0 [] seed text
none_made message seed text spells ready = record {
  met = message;
  spells = spells;
  ready = ready;
  others = λ more rest are.
      let e : more ≡ 0 + more = omega arith in subst (λ (n : ℕ). AreMadeFrom message (scripts_from seed n) rest) e are;
}

-- a hop, and others after it
hop_before : (message : Message) (state : ℕ) (hop : MadeHop) → hop.script ≡ script_text (hop_steps state) → (one : LeadsTo message (hop_steps state) hop.message)
    → (more : ℕ) (rest : List MadeHop) → AreMadeFrom one.after (scripts_from (state_after hop_draws state) more) rest → AreMadeFrom message (scripts_from state (suc more)) (hop ∷ rest)
hop_before message state hop script_is one more rest are = record {
  hops = record { moment = None; script = hop_steps state; message = one.after } ∷ are.hops;
  are = (refl, refl, one.lead, are.are);
  texts = (record { script = script_is; message = one.spells }, are.texts);
}

module _ (message : Message) (seed count : ℕ) (made : List MadeHop) (state : ℕ) (text : List ℕ) (far : AreMadeSoFar message seed count made state text) where
  hop_made : (hop : MadeHop) (next : ℕ) → hop.script ≡ script_text (hop_steps state) → next ≡ state_after hop_draws state
      → ((m : Message) → Spells false m text → LeadsTo m (hop_steps state) hop.message)
      → AreMadeSoFar message seed (count + 1) (made ++ hop ∷ []) next hop.message
  hop_made hop next script_is next_is leads =
      let one = leads far.met far.spells in
      let on = goes_through state far.met far.ready in record {
        met = one.after;
        spells = one.spells;
        ready = subst IsReady (one_end (sample_context far.met) (hop_steps state) on.after one.after on.lead one.lead) on.ready;
        others = λ more rest are.
            let own = subst (λ (s : ℕ). AreMadeFrom one.after (scripts_from s more) rest) next_is are in
            let all = far.others (suc more) (hop ∷ rest) (hop_before far.met state hop script_is one more rest own) in
            let number : count + suc more ≡ count + 1 + more = omega arith in
            subst (λ (hops : List MadeHop). AreMadeFrom message (scripts_from seed (count + 1 + more)) hops) (sym (append_assoc made (hop ∷ []) rest))
            (subst (λ (n : ℕ). AreMadeFrom message (scripts_from seed n) (made ++ hop ∷ rest)) number all);
      }

  -- one more
  pub more_made : (hop : MadeHop) (all : List MadeHop) (steps : List Rewrite) (next : ℕ) (after : List ℕ) → all ≡ made ++ hop ∷ [] → steps ≡ hop_steps state → next ≡ state_after hop_draws state
      → hop.script ≡ script_text steps → hop.message ≡ after → ((m : Message) → Spells false m text → LeadsTo m steps after)
      → AreMadeSoFar message seed (count + 1) all next after
  more_made hop all steps next after all_is steps_are next_is script_is same leads =
      let own = λ (m : Message) (s : Spells false m text).
      subst (λ (list : List Rewrite). LeadsTo m list hop.message) steps_are (subst (λ (t : List ℕ). LeadsTo m steps t) (sym same) (leads m s)) in
      let here = hop_made hop next (script_is ∙ ap script_text steps_are) next_is own in
      subst (λ (t : List ℕ). AreMadeSoFar message seed (count + 1) all next t) same
      (subst (λ (hops : List MadeHop). AreMadeSoFar message seed (count + 1) hops next hop.message) (sym all_is) here)

  -- all of them
  pub all_made : (all : ℕ) → all ≡ count → AreMadeFrom message (scripts_from seed all) made
  all_made all is =
      let own = far.others 0 [] (record { hops = []; are = tt; texts = tt }) in
      let number : count + 0 ≡ all = omega arith in
      subst (λ (hops : List MadeHop). AreMadeFrom message (scripts_from seed all) hops) (append-nil made)
      (subst (λ (n : ℕ). AreMadeFrom message (scripts_from seed n) (made ++ [])) number own)
