-- The chain as it is recorded, hop after hop.
use Rattle.std.proofs.Common.{◌≡◌, ◌<◌, ◌≤◌, ◌+◌, ◌*◌, ℕ, zero, suc, Bor, Option, Some, None, List, [], ◌∷◌, ◌++◌, length, get_or, map, take, refl, sym, ap, subst, ◌∙◌, arith}
use Rattle.std.specs.Prelude.{slice_get}
use Rattle.std.specs.List.{flat_map}
use Rattle.std.proofs.lemmas.List.{length-map, take_all, take_more}
use Rattle.recording.specs.Chains.{RecordedChain, RecordedHop, chain_items, hop_items, moment_items, related_items, requests}
use Rattle.recording.specs.Items.{PlacedItem}
use Rattle.recording.specs.RecordedChains.{IsHeldChain, chain_meant, hop_meant, items_up_to, script_index}
use Rattle.recording.specs.Recordings.{bodies}
use Rattle.recording.specs.declared.chain.RecordedChain.{RecordedChain as HeldChain}
use Rattle.recording.specs.declared.chain.RecordedHop.{RecordedHop as HeldHop}
use Rattle.recording.specs.declared.chain.Subject.TheVariants.{Requests}
use Rattle.recording.specs.declared.limits.TheConstants.{MAX_HOPS}
use Rattle.samples.specs.declared.hop.MadeHop.{MadeHop}
use Rattle.samples.specs.declared.limits.TheConstants.{MOMENT}
use Rattle.samples.specs.tools.Made.{AreRecorded, items_made, recorded_hop}
use Rattle.samples.proofs.MadeChains.{items_are, recorded_of}

-- one hop more
more_recorded : (item : ℕ) (made : List MadeHop) (recorded : List HeldHop) (own : MadeHop) (hop : HeldHop) → AreRecorded item made recorded
    → hop.item ≡ item + 2 * length made → hop_meant hop ≡ recorded_hop own → AreRecorded item (made ++ own ∷ []) (recorded ++ hop ∷ [])
more_recorded item [] [] own hop are at meant = (omega (arith, at), meant, tt)
more_recorded item [] (first ∷ recorded) own hop are at meant = absurd are
more_recorded item (first ∷ made) [] own hop are at meant = absurd are
more_recorded item (first ∷ made) (other ∷ recorded) own hop are at meant =
    (are.0, are.1, more_recorded (item + 2) made recorded own hop are.2 (omega (arith, at)) meant)

length_first : (hops : List MadeHop) (index : ℕ) → index ≤ length hops → length (take index hops) ≡ index
length_first hops zero within = refl
length_first [] (suc index) within = absurd (omega arith)
length_first (hop ∷ hops) (suc index) within = ap suc (length_first hops index (omega arith))

module _ (hops : List MadeHop) (index : ℕ) (recorded : List HeldHop) (so_far : AreRecorded 2 (take index hops) recorded) where
  -- those of one more hop
  pub hops_more : (more : List HeldHop) (none own : MadeHop) (hop : HeldHop) → index < length hops → own ≡ get_or hops index none → more ≡ recorded ++ hop ∷ []
      → hop.item ≡ 2 * index + 2 → hop_meant hop ≡ recorded_hop own → AreRecorded 2 (take (index + 1) hops) more
  hops_more more none own hop within there is at meant =
      let next : take (index + 1) hops ≡ take index hops ++ own ∷ [] = take_more hops index none within ∙ ap (λ (h : MadeHop). take index hops ++ h ∷ []) (sym there) in
      let all : AreRecorded 2 (take index hops ++ own ∷ []) (recorded ++ hop ∷ []) =
      more_recorded 2 (take index hops) recorded own hop so_far (omega (arith, at, length_first hops index (omega arith))) meant in
      subst (λ (m : List HeldHop). AreRecorded 2 (take (index + 1) hops) m) (sym is)
      (subst (λ (m : List MadeHop). AreRecorded 2 m (recorded ++ hop ∷ [])) (sym next) all)

  -- those of all
  pub hops_done : length hops ≤ index → AreRecorded 2 hops recorded
  hops_done past = subst (λ (m : List MadeHop). AreRecorded 2 m recorded) (take_all index hops past) so_far

-- ---- the chain

hops_meant : (item : ℕ) (made : List MadeHop) (recorded : List HeldHop) → AreRecorded item made recorded → map hop_meant recorded ≡ map recorded_hop made
hops_meant item [] [] are = refl
hops_meant item [] (hop ∷ recorded) are = absurd are
hops_meant item (own ∷ made) [] are = absurd are
hops_meant item (own ∷ made) (hop ∷ recorded) are =
    ap (λ (h : RecordedHop). h ∷ map hop_meant recorded) are.1 ∙ ap (λ (rest : List RecordedHop). recorded_hop own ∷ rest) (hops_meant (item + 2) made recorded are.2)

-- each hop knows the index of its script's item
script_at : (item : ℕ) (made : List MadeHop) (recorded : List HeldHop) (index : ℕ) (hop : HeldHop) → AreRecorded item made recorded → slice_get recorded index ≡ Some hop
    → hop.item ≡ item + length (flat_map (hop_items requests) (take index (map recorded_hop made))) + length (moment_items hop.moment)
script_at item [] [] index hop are there = absurd (cc there)
script_at item [] (first ∷ recorded) index hop are there = absurd are
script_at item (own ∷ made) [] index hop are there = absurd are
script_at item (own ∷ made) (first ∷ recorded) zero hop are there =
    let same : first ≡ hop = cc in
    let none : first.moment ≡ None = ap (λ (h : RecordedHop). h.moment) are.1 in
    let at : first.item ≡ item + 0 + length (moment_items first.moment) =
    are.0 ∙ subst (λ (m : Option ℕ). item ≡ item + 0 + length (moment_items m)) (sym none) (omega arith) in
    subst (λ (h : HeldHop). h.item ≡ item + 0 + length (moment_items h.moment)) same at
script_at item (own ∷ made) (first ∷ recorded) (suc index) hop are there =
    let rest = script_at (item + 2) made recorded index hop are.2 there in
    let two : length (flat_map (hop_items requests) (take (suc index) (map recorded_hop (own ∷ made)))) ≡ suc (suc (length (flat_map (hop_items requests) (take index (map recorded_hop made))))) = refl in
    omega (arith, rest, two)

is_held : (items : List PlacedItem) (first : List ℕ) (made : List MadeHop) (chain : HeldChain) → bodies items ≡ items_made first made → chain_meant chain ≡ recorded_of first made
    → chain.item ≡ 1 → length made ≤ MAX_HOPS → AreRecorded 2 made chain.hops → IsHeldChain items chain
is_held items first made chain say meant item few are = record {
  is = subst (λ (r : RecordedChain). bodies items ≡ chain_items r) (sym meant) (say ∙ items_are first made);
  few = subst (λ (r : RecordedChain). length r.hops ≤ MAX_HOPS) (sym meant) (omega (arith, few, length-map made recorded_hop));
  first_is = subst (λ (r : RecordedChain). chain.item ≡ length (related_items r.subject) + 1) (sym meant) item;
  hops_are = λ index hop there.
      let at = script_at 2 made chain.hops index hop are there in
      let two : length (items_up_to (recorded_of first made) index) ≡ suc (suc (length (flat_map (hop_items requests) (take index (map recorded_hop made))))) = refl in
      subst (λ (r : RecordedChain). hop.item ≡ script_index r index (hop_meant hop)) (sym meant) (omega (arith, at, two));
}

-- the chain that the code makes of its parts
pub held_chain : (items : List PlacedItem) (first : List ℕ) (made : List MadeHop) (text : Bor (List ℕ)) (recorded : List HeldHop) → bodies items ≡ items_made first made → text.now ≡ first
    → length made ≤ MAX_HOPS → AreRecorded 2 made recorded → IsHeldChain items (record { moment = MOMENT; subject = Requests; item = 1; first = text; hops = recorded })
held_chain items first made text recorded say is few are =
    is_held items first made (record { moment = MOMENT; subject = Requests; item = 1; first = text; hops = recorded }) say
    (λ i. record { moment = MOMENT; subject = requests; first = is i; hops = hops_meant 2 made recorded are i }) refl few are
