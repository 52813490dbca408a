use Rattle.std.proofs.Common.{◌≡◌, ◌≤◌, ℕ, ◌+◌, ◌-◌, List, [], ◌∷◌, ◌++◌, map, length, take, drop, get_or, codes, arith, refl, sym, ap, ◌∙◌, append_assoc, append-nil}
use Rattle.std.proofs.lemmas.Grind.{take_at_read, flat_map-append}
use Rattle.std.proofs.lemmas.List.{map_push, take_all}
use Rattle.std.specs.List.{flat_map}
use Rattle.component_ids.specs.declared.id.ComponentId.{ComponentId}
use Rattle.component_ids.specs.Identifiers.{id_text}
use Rattle.component_ids.specs.tools.Spans.{HasParts}
use Rattle.component_ids.proofs.SpanLaws.{parts_kept}
use Rattle.component_ids.proofs.params_text.write_ids.Goals as goal

-- identifiers are the first of them and the others
first_and_others : (ids : List ComponentId) (first : ComponentId) (n : ℕ) → 1 ≤ length ids → first ≡ get_or ids 0 first → length (take (length ids - 1) (drop 1 ids)) ≤ n
    → first ∷ take n (take (length ids - 1) (drop 1 ids)) ≡ ids
first_and_others [] first n some is all = absurd (omega (arith, some))
first_and_others (id ∷ ids) first n some is all =
    let others : take (length (id ∷ ids) - 1) ids ≡ ids = take_all (length (id ∷ ids) - 1) ids (omega arith) in
    rw (take_all n (take (length (id ∷ ids) - 1) ids) all, others, is) refl

-- the text of one more identifier, after a space
text_more : (start text spaced whole : List ℕ) (done : List ComponentId) (id : ComponentId) → text ≡ start ++ flat_map (λ d. codes " " ++ id_text d) done → spaced ≡ text ++ codes " "
    → whole ≡ spaced ++ id_text id → whole ≡ start ++ flat_map (λ d. codes " " ++ id_text d) (done ++ id ∷ [])
text_more start text spaced whole done id t s w =
    let before = flat_map (λ d. codes " " ++ id_text d) done in
    rw (w, s, t, flat_map-append (λ d. codes " " ++ id_text d) done (id ∷ []), append-nil (codes " " ++ id_text id), append_assoc (start ++ before) (codes " ") (id_text id), append_assoc start before (codes " " ++ id_text id)) refl

pub loop-id-preserved : goal.loop-id-preserved
loop-id-preserved c =
    let others = take (length c.args.ids.now - 1) (drop 1 c.args.ids.now) in
    let i = c.loop-id.id-index in
    let id = c.id-item.result in
    let done = take i others in
    let more : take (i + 1) others ≡ done ++ id ∷ [] = (take_at_read others i id c.loop-id-test.true).1 ∙ ap (λ (x : ComponentId). done ++ x ∷ []) (sym c.id-item.is) in
    record {
      text = rw more (text_more c.write_id.new.text c.loop-id.text c.push.new.self c.write_id-in-loop-id.new.text done id c.loop-id.invariant.text c.in_ok-push.ensures.ok c.in_ok-write_id-2.ensures.text);
      parts = λ parts has.
          let before : List (List ℕ) = parts ++ map id_text done in
          let kept = parts_kept c.loop-id.text c.push.new.self (codes " ") c.loop-id.spans.items before c.in_ok-push.ensures.ok (c.loop-id.invariant.parts parts has) in
          rw (more, map_push id_text done id, ← append_assoc parts (map id_text done) (id_text id ∷ [])) (c.in_ok-write_id-2.ensures.parts before kept);
    }

pub returns-clause-parts : goal.returns-clause-parts
returns-clause-parts c =
    let ids = c.args.ids.now in
    let first = c.first-item.result in
    let none : HasParts c.args.text.now c.in_ok-spans.spans.items [] = rw c.in_ok-spans.ensures.items (record { lie = refl; are = refl }) in
    let all = first_and_others ids first c.loop-id.id-index c.in-len1-up.len_at_least c.first-item.is c.loop-id-test.false in
    rw (← all) (c.loop-id.invariant.parts (id_text first ∷ []) (c.in_ok-write_id.ensures.parts [] none))
