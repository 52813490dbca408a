-- The list of an hour is moved into the fine wheel, node by node: what holds goes on to hold.
use Rattle.std.proofs.Common.{◌≡◌, ◌<◌, ◌≤◌, ℕ, ◌+◌, ◌*◌, ◌%◌, true, false, ◌==◌, inl, inr, Option, Some, None, List, ◌∷◌, length, map, set, get_or, refl, sym, ◌∙◌, ap, subst, arith}
use Rattle.std.specs.List.{count_by}
use Rattle.std.proofs.lemmas.Bool.{eq-eqb, eqb-true, false≢true}
use Rattle.std.proofs.lemmas.List.{get_or-set_other, get_or-set_same, length-set}
use Rattle.std.proofs.lemmas.Nat.{mod_below}
use Rattle.nonces.specs.Books.{Entry, ends_in, hour_of}
use Rattle.nonces.specs.declared.limits.TheConstants.{SECONDS_PER_HOUR}
use Rattle.nonces.specs.tools.Links.{AreDistinct, IsIn, IsLinked, IsListOf}
use Rattle.nonces.specs.tools.Nodes.{Held, Holds, entries_in, let_go, link_at}
use Rattle.nonces.specs.tools.Wheels.{IsWheel, ends_out, is_dead, is_fine, is_late}
use Rattle.nonces.proofs.Entries.{below_length, counted_out, dead_below, fits_count, held_out, holds_out, length_out, let_go_none, let_go_out, live_from, same_or_not}
use Rattle.nonces.proofs.Held.{and_true}
use Rattle.nonces.proofs.Linked.{none_of, popped, pushed_list, stays_list}
use Rattle.nonces.proofs.Turned.{fine_of, fine_parts}

-- the node's entry is of the slot, and the node doesn't wait
abbrev pub HasCome : Held → ℕ → List ℕ → ℕ → ℕ → Type 0
HasCome held hour places slot i = Holds (is_fine hour slot) held.entries i × (IsIn i places → ⊥)

-- the nodes that wait, and what was moved and was let go of
pub record IsMove (old new : Held) (fine : List (Option ℕ)) (now : ℕ) (link : Option ℕ) (from steps : ℕ) : Type 0 where
  pub places : List ℕ
  pub linked : IsLinked (link_at new) link places
  pub distinct : AreDistinct places
  pub waits : (i : ℕ) → IsIn i places → Holds (ends_in (hour_of now)) new.entries i
  -- what doesn't wait lives
  pub lives : (i : ℕ) (e : Entry) → get_or new.entries i None ≡ Some e → ends_in (hour_of now) e ≡ true → (IsIn i places → ⊥)
      → is_dead now e ≡ false
  pub size : length fine ≡ SECONDS_PER_HOUR
  pub wheel : (l : ℕ) → l < length fine → IsListOf (link_at new) (get_or fine l None) (HasCome new (hour_of now) places l)
  pub entries : map (let_go (is_late now)) new.entries ≡ map (let_go (is_late now)) old.entries
  pub links : (i : ℕ) → Holds (ends_out (hour_of now)) new.entries i → link_at new i ≡ link_at old i
  pub rises : from ≤ steps
  pub cost : steps + 2 * length (entries_in new.entries) + 2 * length places
      ≤ from + 2 * length (entries_in old.entries) + 2 * count_by (ends_in (hour_of now)) (entries_in new.entries)
  -- each node that waits takes two steps
  pub ends : steps + 2 * length places ≤ from + 2 * count_by (ends_in (hour_of now)) (entries_in old.entries)

-- what is of the hour by its slot, and what is late
of_hour : (hour l : ℕ) (os : List (Option Entry)) (i : ℕ) → Holds (is_fine hour l) os i → Holds (ends_in hour) os i
of_hour hour l os i held = (held.0, held.1, eq-eqb (hour_of held.0.until) hour (fine_parts hour l held.0 held.2).0)

late_of : (now : ℕ) (e : Entry) → ends_in (hour_of now) e ≡ true → is_dead now e ≡ true → is_late now e ≡ true
late_of now e here dead = rw (here, dead) refl

-- an entry of the hour isn't one of another
out_of : (hour : ℕ) (e : Entry) → ends_in hour e ≡ true → ends_out hour e ≡ true → ⊥
out_of hour e here out = false≢true (rw here at out)

same_entry : (os : List (Option Entry)) (i : ℕ) (a b : Entry) → get_or os i None ≡ Some a → get_or os i None ≡ Some b → a ≡ b
same_entry os i a b one two = cc

-- ---- no node is moved yet

pub move_begins : (held : Held) (fine : List (Option ℕ)) (now : ℕ) (link : Option ℕ) (from : ℕ) → length fine ≡ SECONDS_PER_HOUR
    → IsWheel held fine (λ _ _. false) → IsListOf (link_at held) link (Holds (ends_in (hour_of now)) held.entries)
    → IsMove held held fine now link from from
move_begins held fine now link from size empty list =
    let hour = hour_of now in
    let os = held.entries in
    let waits : (i : ℕ) → IsIn i list.places → Holds (ends_in hour) os i = λ i there. (list.exact i).0 there in
    let fits = fits_count (ends_in hour) list.places os list.distinct waits in
    record {
      places = list.places;
      linked = list.linked;
      distinct = list.distinct;
      waits = waits;
      lives = λ i e at here out. absurd (out ((list.exact i).1 (e, at, here)));
      size = size;
      wheel = λ l lt.
          stays_list (link_at held) (link_at held) (get_or fine l None) (Holds (λ _. false) os) (HasCome held hour list.places l)
          (λ _ _. refl) (
          λ j. (
            λ none. absurd (false≢true none.2),
            λ came. absurd (came.1 ((list.exact j).1 (of_hour hour l os j came.0))),
          )
          ) (empty l lt);
      entries = refl;
      links = λ _ _. refl;
      rises = omega arith;
      cost = omega (arith, fits);
      ends = omega (arith, fits);
    }

-- ---- the first node that waits

-- what is before it and after it
pub record IsFirst (f g : ℕ → Option ℕ) (i : ℕ) (places : List ℕ) : Type 0 where
  pub rest : List ℕ
  pub is : places ≡ i ∷ rest
  pub linked : IsLinked g (f i) rest
  pub distinct : AreDistinct rest
  pub apart : IsIn i rest → ⊥

move_first : (old mid : Held) (fine : List (Option ℕ)) (now : ℕ) (link : Option ℕ) (from steps i : ℕ) (g : ℕ → Option ℕ)
    (move : IsMove old mid fine now link from steps) → link ≡ Some i → ((j : ℕ) → (j ≡ i → ⊥) → g j ≡ link_at mid j)
    → IsFirst (link_at mid) g i move.places
move_first old mid fine now link from steps i g move first links =
    let parts = popped (link_at mid) g move.places link i first move.linked move.distinct (λ j _ other. links j other) in
    record { rest = parts.0; is = parts.1; linked = parts.2; distinct = parts.3; apart = parts.4 }

-- the node is one of those that wait, and another of them is in the rest
first_in : (i : ℕ) (places rest : List ℕ) → places ≡ i ∷ rest → IsIn i places
first_in i places rest is = subst (IsIn i) (sym is) (inl refl)

rest_in : (i j : ℕ) (places rest : List ℕ) → places ≡ i ∷ rest → IsIn j rest → IsIn j places
rest_in i j places rest is there = subst (IsIn j) (sym is) (inr there)

in_rest : (i j : ℕ) (places rest : List ℕ) → places ≡ i ∷ rest → (j ≡ i → ⊥) → IsIn j places → IsIn j rest
in_rest i j places rest is other there = elim (subst (IsIn j) is there) [ inl here ↦ absurd (other (sym here)) | inr later ↦ later ]

-- it holds an entry, of the hour
pub move_holds : (old mid : Held) (fine : List (Option ℕ)) (now : ℕ) (link : Option ℕ) (from steps i : ℕ) → IsMove old mid fine now link from steps
    → link ≡ Some i → Holds (ends_in (hour_of now)) mid.entries i
move_holds old mid fine now link from steps i move first =
    let one = move_first old mid fine now link from steps i (link_at mid) move first (λ _ _. refl) in
    move.waits i (first_in i move.places one.rest one.is)

pub move_looks : (old mid : Held) (fine : List (Option ℕ)) (now : ℕ) (link : Option ℕ) (from steps i : ℕ) → IsMove old mid fine now link from steps
    → link ≡ Some i → Holds (λ _. true) mid.entries i
move_looks old mid fine now link from steps i move first =
    let held = move_holds old mid fine now link from steps i move first in (held.0, held.1, refl)

-- ---- it lives, and goes to the list of its second

pub move_live : (old mid new : Held) (fine : List (Option ℕ)) (now : ℕ) (link : Option ℕ) (from steps i until : ℕ) → IsMove old mid fine now link from steps
    → link ≡ Some i → Holds (λ e. e.until == until) mid.entries i → now ≤ until → new.entries ≡ mid.entries
    → link_at new i ≡ get_or fine (until % SECONDS_PER_HOUR) None → ((j : ℕ) → (j ≡ i → ⊥) → link_at new j ≡ link_at mid j)
    → IsMove old new (set fine (until % SECONDS_PER_HOUR) (Some i)) now (link_at mid i) from (steps + 2)
move_live old mid new fine now link from steps i until move first held later is head links = record {
  places = rest;
  linked = one.linked;
  distinct = one.distinct;
  waits = λ j there. subst (λ os. Holds (ends_in hour) os j) (sym is) (move.waits j (rest_in i j move.places rest one.is there));
  lives = λ j e at here out.
      let old_at = subst (λ os. get_or os j None ≡ Some e) is at in
      elim (same_or_not j i) [
        | inl same ↦
            let mine = same_entry mid.entries i e held.0 (subst (λ k. get_or mid.entries k None ≡ Some e) same old_at) held.1 in
            live_from now e (omega (arith, later, ap (λ x. x.until) mine, until_is))
        | inr other ↦ move.lives j e old_at here (λ there. out (in_rest i j move.places rest one.is other there))
      ];
  size = length-set fine s (Some i) ∙ move.size;
  wheel = each;
  entries = ap (map (let_go (is_late now))) is ∙ move.entries;
  links = λ j out.
      let old_out = subst (λ os. Holds (ends_out hour) os j) is out in
      let other : j ≡ i → ⊥ = λ same.
      let at = subst (λ k. get_or mid.entries k None ≡ Some old_out.0) same old_out.1 in
      let mine = same_entry mid.entries i old_out.0 own.0 at own.1 in
      out_of hour own.0 own.2 (subst (λ e. ends_out hour e ≡ true) mine old_out.2) in
      links j other ∙ move.links j old_out;
  rises = omega (arith, move.rises);
  cost = omega (
    arith,
    move.cost,
    ap length one.is,
    ap (λ os. length (entries_in os)) is,
    ap (λ os. count_by (ends_in hour) (entries_in os)) is,
  );
  ends = omega (arith, move.ends, ap length one.is);
}
  where
    hour : ℕ
    hour = hour_of now

    s : ℕ
    s = until % SECONDS_PER_HOUR

    one : IsFirst (link_at mid) (link_at new) i move.places
    one = move_first old mid fine now link from steps i (link_at new) move first links

    rest : List ℕ
    rest = one.rest

    own : Holds (ends_in hour) mid.entries i
    own = move_holds old mid fine now link from steps i move first

    until_is : held.0.until ≡ until
    until_is = eqb-true held.0.until until held.2

    -- the node in the slot of its second
    here : Holds (is_fine hour s) new.entries i
    here =
        let mine = same_entry mid.entries i own.0 held.0 own.1 held.1 in
        let in_hour : hour_of held.0.until ≡ hour = subst (λ e. hour_of e.until ≡ hour) mine (eqb-true (hour_of own.0.until) hour own.2) in (
          held.0,
          ap (λ os. get_or os i None) is ∙ held.1,
          fine_of hour s held.0 in_hour (ap (λ t. t % SECONDS_PER_HOUR) until_is),
        )

    into : (l j : ℕ) → HasCome mid hour move.places l j → HasCome new hour rest l j
    into l j came = (
      subst (λ os. Holds (is_fine hour l) os j) (sym is) came.0,
      λ there. came.1 (rest_in i j move.places rest one.is there),
    )

    back : (l j : ℕ) → (j ≡ i → ⊥) → HasCome new hour rest l j → HasCome mid hour move.places l j
    back l j other came = (
      subst (λ os. Holds (is_fine hour l) os j) is came.0,
      λ there. came.1 (in_rest i j move.places rest one.is other there),
    )

    -- the node waited, so what has come is another
    apart : (l j : ℕ) → HasCome mid hour move.places l j → j ≡ i → ⊥
    apart l j came same = came.1 (subst (λ k. IsIn k move.places) (sym same) (first_in i move.places rest one.is))

    each : (l : ℕ) → l < length (set fine s (Some i)) → IsListOf (link_at new) (get_or (set fine s (Some i)) l None) (HasCome new hour rest l)
    each l lt_set =
        let lt = subst (λ n. l < n) (length-set fine s (Some i)) lt_set in
        let below : s < length fine = subst (λ n. s < n) (sym move.size) (mod_below until SECONDS_PER_HOUR (omega arith)) in
        elim (same_or_not s l) [
          | inl same ↦
              subst (λ k. IsListOf (link_at new) (get_or (set fine s (Some i)) k None) (HasCome new hour rest k)) same (
              subst (λ h. IsListOf (link_at new) h (HasCome new hour rest s)) (sym (get_or-set_same fine s (Some i) None below)) (
              pushed_list (link_at mid) (link_at new) (get_or fine s None) (HasCome mid hour move.places s) (HasCome new hour rest s) i
              (λ came. apart s i came refl) head (λ j came. links j (apart s j came)) (
              λ j. (
                λ there. elim there [
                  | inl k ↦ subst (HasCome new hour rest s) k (here, one.apart)
                  | inr came ↦ into s j came
                ],
                λ came. elim (same_or_not i j) [
                  | inl k ↦ inl k
                  | inr other ↦ inr (back s j (λ k. other (sym k)) came)
                ],
              )
              ) (move.wheel s below)
              )
              )
          | inr other ↦
              subst (λ h. IsListOf (link_at new) h (HasCome new hour rest l))
              (sym (get_or-set_other fine s l (Some i) None (λ same. other (sym same)))) (
              stays_list (link_at mid) (link_at new) (get_or fine l None) (HasCome mid hour move.places l) (HasCome new hour rest l)
              (λ j came. links j (apart l j came)) (
              λ j. (
                into l j,
                λ came. back l j (
                    λ k.
                    let at = subst (λ m. get_or new.entries m None ≡ Some came.0.0) k came.0.1 in
                    let mine = same_entry new.entries i came.0.0 here.0 at here.1 in
                    let slot = subst (λ e. e.until % SECONDS_PER_HOUR ≡ l) mine (fine_parts hour l came.0.0 came.0.2).1 in
                    other (sym (fine_parts hour s here.0 here.2).1 ∙ slot)
                    ) came,
              )
              ) (move.wheel l lt)
              )
        ]

-- ---- it doesn't live, and is let go of

pub move_dead : (old mid new : Held) (fine : List (Option ℕ)) (now : ℕ) (link : Option ℕ) (from steps i until : ℕ) → IsMove old mid fine now link from steps
    → link ≡ Some i → Holds (λ e. e.until == until) mid.entries i → until < now → new.entries ≡ set mid.entries i None
    → ((j : ℕ) → (j ≡ i → ⊥) → link_at new j ≡ link_at mid j)
    → IsMove old new fine now (link_at mid i) from (steps + 2)
move_dead old mid new fine now link from steps i until move first held before is links = record {
  places = rest;
  linked = one.linked;
  distinct = one.distinct;
  waits = λ j there.
      let other : j ≡ i → ⊥ = λ same. one.apart (subst (λ k. IsIn k rest) same there) in
      subst (λ os. Holds (ends_in hour) os j) (sym is)
      (holds_out (ends_in hour) mid.entries i j other (move.waits j (rest_in i j move.places rest one.is there)));
  lives = λ j e at here out.
      let left = kept j e at in
      move.lives j e left.0 here (λ there. out (in_rest i j move.places rest one.is left.1 there));
  size = move.size;
  wheel = λ l lt.
      stays_list (link_at mid) (link_at new) (get_or fine l None) (HasCome mid hour move.places l) (HasCome new hour rest l)
      (λ j came. links j (apart l j came)) (
      λ j. (
        λ came. (
          subst (λ os. Holds (is_fine hour l) os j) (sym is) (holds_out (is_fine hour l) mid.entries i j (apart l j came) came.0),
          λ there. came.1 (rest_in i j move.places rest one.is there),
        ),
        λ came.
            let left = held_out (is_fine hour l) mid.entries i j within (subst (λ os. Holds (is_fine hour l) os j) is came.0) in
            (left.0, λ there. came.1 (in_rest i j move.places rest one.is left.1 there)),
      )
      ) (move.wheel l lt);
  entries =
      ap (map (let_go (is_late now))) is
      ∙ let_go_out (is_late now) mid.entries i (own.0, own.1, late_of now own.0 own.2 dead)
      ∙ move.entries;
  links = λ j out.
      let left = held_out (ends_out hour) mid.entries i j within (subst (λ os. Holds (ends_out hour) os j) is out) in
      links j left.1 ∙ move.links j left.0;
  rises = omega (arith, move.rises);
  cost = omega (
    arith,
    move.cost,
    ap length one.is,
    ap (λ os. length (entries_in os)) is,
    ap (λ os. count_by (ends_in hour) (entries_in os)) is,
    length_out mid.entries i own.0 own.1,
    counted_out (ends_in hour) mid.entries i own.0 own.1 own.2,
  );
  ends = omega (arith, move.ends, ap length one.is);
}
  where
    hour : ℕ
    hour = hour_of now

    one : IsFirst (link_at mid) (link_at new) i move.places
    one = move_first old mid fine now link from steps i (link_at new) move first links

    rest : List ℕ
    rest = one.rest

    own : Holds (ends_in hour) mid.entries i
    own = move_holds old mid fine now link from steps i move first

    dead : is_dead now own.0 ≡ true
    dead =
        let mine = same_entry mid.entries i own.0 held.0 own.1 held.1 in
        dead_below now own.0 (omega (arith, before, eqb-true held.0.until until held.2, ap (λ e. e.until) mine))

    within : i < length mid.entries
    within = below_length mid.entries i own.0 own.1

    kept : (j : ℕ) (e : Entry) → get_or new.entries j None ≡ Some e → (get_or mid.entries j None ≡ Some e) × (j ≡ i → ⊥)
    kept j e at_new =
        let at = subst (λ os. get_or os j None ≡ Some e) is at_new in
        let other : j ≡ i → ⊥ = λ same. (
        let some = subst (λ k. get_or (set mid.entries i None) k None ≡ Some e) same at in
        let none = get_or-set_same mid.entries i None None within in
        cc
        ) in
        (sym (get_or-set_other mid.entries i j None None other) ∙ at, other)

    apart : (l j : ℕ) → HasCome mid hour move.places l j → j ≡ i → ⊥
    apart l j came same = came.1 (subst (λ k. IsIn k move.places) (sym same) (first_in i move.places rest one.is))

-- ---- none waits any more

none_waits : (f : ℕ → Option ℕ) (link : Option ℕ) (places : List ℕ) (j : ℕ) → link ≡ None → IsLinked f link places → IsIn j places → ⊥
none_waits f link places j none linked = none_of f places j (subst (λ h. IsLinked f h places) none linked)

pub move_ends : (old new : Held) (fine : List (Option ℕ)) (now : ℕ) (link : Option ℕ) (from steps : ℕ) → IsMove old new fine now link from steps → link ≡ None
    → new.entries ≡ map (let_go (is_late now)) old.entries
move_ends old new fine now link from steps move none =
    let hour = hour_of now in
    sym (
    let_go_none (is_late now) new.entries (
    λ i late.
    let parts = and_true (ends_in hour late.0) (is_dead now late.0) late.2 in
    let lives = move.lives i late.0 late.1 parts.0 (none_waits (link_at new) link move.places i none move.linked) in
    false≢true (sym lives ∙ parts.1)
    )
    )
    ∙ move.entries

pub move_wheel : (old new : Held) (fine : List (Option ℕ)) (now : ℕ) (link : Option ℕ) (from steps : ℕ) → IsMove old new fine now link from steps → link ≡ None
    → IsWheel new fine (is_fine (hour_of now))
move_wheel old new fine now link from steps move none l lt =
    let hour = hour_of now in
    stays_list (link_at new) (link_at new) (get_or fine l None) (HasCome new hour move.places l) (Holds (is_fine hour l) new.entries)
    (λ _ _. refl) (λ j. (λ came. came.0, λ held. (held, none_waits (link_at new) link move.places j none move.linked))) (move.wheel l lt)
