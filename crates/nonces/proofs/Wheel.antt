-- The lists of a wheel: what holds goes on to hold where an entry is put in and where a list is let
-- go of.
use Rattle.std.proofs.Common.{◌≡◌, ◌<◌, ◌≤◌, ℕ, zero, suc, ◌+◌, ◌*◌, ◌/◌, ◌%◌, Bool, true, false, nat_lt, ◌⊎◌, inl, inr, ◌↔◌, Option, Some, None, List, length, map, set, get_or, replicate, refl, sym, ◌∙◌, ap, subst, arith}
use Rattle.std.proofs.lemmas.Bool.{cases_Bool, false≢true, ltb-false, ltb-true}
use Rattle.std.proofs.lemmas.List.{get_or-set_other, get_or-set_same, length-set}
use Rattle.std.proofs.Math.Nat.{div-add-mod, mul-le-mul_left, mul-suc}
use Rattle.nonces.specs.Books.{Entry}
use Rattle.nonces.specs.tools.Links.{IsListOf}
use Rattle.nonces.specs.tools.Nodes.{Held, Holds, IsPut, entries_in, let_go, link_at}
use Rattle.nonces.specs.tools.Wheels.{IsWheel}
use Rattle.nonces.proofs.Entries.{below_length, holds_alike, holds_less, holds_more, length_out, let_go_at, let_go_none, let_go_out, let_go_stays, same_or_not}
use Rattle.nonces.proofs.Linked.{empty_list, first_member, no_member, popped_list, pushed_list, stays_list}
use Rattle.nonces.proofs.Stored.{none_there, not_spare}

-- ---- numbers of one slot

mul_more : (n q p : ℕ) → q < p → n * q + n ≤ n * p
mul_more n q zero lt = absurd (omega (arith, lt))
mul_more n q (suc p) lt =
    let le : q ≤ p = omega (arith, lt) in
    omega (arith, mul-suc n p, mul-le-mul_left n le)

-- two numbers of one slot that are less than a turn apart are one
pub same_number : (a b n : ℕ) → b % n ≡ a % n → a ≤ b → b < a + n → b ≡ a
same_number a b n same low high =
    let one : n * (a / n) + a % n ≡ a = div-add-mod a n in
    let two : n * (b / n) + b % n ≡ b = div-add-mod b n in
    elim (cases_Bool (nat_lt (a / n) (b / n))) [
      | inl more ↦
          let apart = mul_more n (a / n) (b / n) (ltb-true (a / n) (b / n) more) in
          absurd (omega (arith, one, two, same, low, high, apart))
      | inr not_more ↦ elim (cases_Bool (nat_lt (b / n) (a / n))) [
        | inl less ↦
            let apart = mul_more n (b / n) (a / n) (ltb-true (b / n) (a / n) less) in
            absurd (omega (arith, one, two, same, low, high, apart))
        | inr not_less ↦
            let even : a / n ≡ b / n =
            omega (arith, ltb-false (a / n) (b / n) not_more, ltb-false (b / n) (a / n) not_less) in
            let turns : n * (a / n) ≡ n * (b / n) = ap (λ q. n * q) even in
            omega (arith, one, two, same, turns)
      ]
    ]

-- ---- no entry yet

pub wheel_opened : (held : Held) (n m : ℕ) (is_in : ℕ → Entry → Bool) → held.entries ≡ replicate n None → IsWheel held (replicate m None) is_in
wheel_opened held n m is_in is slot lt =
    let test = is_in slot in
    let none : (j : ℕ) → Holds test held.entries j → ⊥ = λ j there. (
    let at = subst (λ l. get_or l j None ≡ Some there.0) is there.1 in
    let none = none_there {X = Entry} n j in
    cc
    ) in
    subst (λ h. IsListOf (link_at held) h (Holds test held.entries)) (sym (none_there {X = ℕ} m slot))
    (empty_list (link_at held) (Holds test held.entries) none)

-- ---- an entry is put in

-- the list of a slot that the entry isn't in
list_same : (old new : Held) (head : Option ℕ) (test : Entry → Bool) (i : ℕ) (e : Entry) (after : Option ℕ) → IsPut old new i e after → test e ≡ false
    → IsListOf (link_at old) head (Holds test old.entries) → IsListOf (link_at new) head (Holds test new.entries)
list_same old new head test i e after put fails list =
    stays_list (link_at old) (link_at new) head (Holds test old.entries) (Holds test new.entries)
    (λ j there. put.links j (not_spare test old.entries i j put.spare there)) (
    λ j.
    subst (λ l. Holds test old.entries j ↔ Holds test l j) (sym put.entries) (holds_alike test old.entries i j e put.spare fails)
    ) list

-- the list of the slot that it is in
list_more : (old new : Held) (head : Option ℕ) (test : Entry → Bool) (i : ℕ) (e : Entry) → IsPut old new i e head → test e ≡ true
    → IsListOf (link_at old) head (Holds test old.entries) → IsListOf (link_at new) (Some i) (Holds test new.entries)
list_more old new head test i e put passes list =
    pushed_list (link_at old) (link_at new) head (Holds test old.entries) (Holds test new.entries) i
    (λ there. not_spare test old.entries i i put.spare there refl) put.link
    (λ j there. put.links j (not_spare test old.entries i j put.spare there)) (
    λ j.
    subst (λ l. ((i ≡ j) ⊎ Holds test old.entries j) ↔ Holds test l j) (sym put.entries)
    (holds_more test old.entries i j e put.spare passes)
    ) list

pub wheel_same : (old new : Held) (heads : List (Option ℕ)) (is_in : ℕ → Entry → Bool) (i : ℕ) (e : Entry) (after : Option ℕ) → IsWheel old heads is_in
    → IsPut old new i e after → ((l : ℕ) → is_in l e ≡ false) → IsWheel new heads is_in
wheel_same old new heads is_in i e after wheel put fails l lt =
    list_same old new (get_or heads l None) (is_in l) i e after put (fails l) (wheel l lt)

pub wheel_more : (old new : Held) (heads : List (Option ℕ)) (is_in : ℕ → Entry → Bool) (s i : ℕ) (e : Entry) → IsWheel old heads is_in
    → IsPut old new i e (get_or heads s None) → s < length heads → is_in s e ≡ true → ((l : ℕ) → (s ≡ l → ⊥) → is_in l e ≡ false)
    → IsWheel new (set heads s (Some i)) is_in
wheel_more old new heads is_in s i e wheel put below passes fails l lt_set =
    let lt = subst (λ n. l < n) (length-set heads s (Some i)) lt_set in
    elim (same_or_not s l) [
      | inl same ↦
          subst (λ k. IsListOf (link_at new) (get_or (set heads s (Some i)) k None) (Holds (is_in k) new.entries)) same (
          subst (λ h. IsListOf (link_at new) h (Holds (is_in s) new.entries)) (sym (get_or-set_same heads s (Some i) None below))
          (list_more old new (get_or heads s None) (is_in s) i e put passes (wheel s below))
          )
      | inr other ↦
          subst (λ h. IsListOf (link_at new) h (Holds (is_in l) new.entries))
          (sym (get_or-set_other heads s l (Some i) None (λ same. other (sym same))))
          (list_same old new (get_or heads l None) (is_in l) i e (get_or heads s None) put (fails l other) (wheel l lt))
    ]

-- ---- what passes a test is let go of

-- a list of which none passes
pub list_kept : (old new : Held) (head : Option ℕ) (member test : Entry → Bool) → new.entries ≡ map (let_go test) old.entries
    → ((j : ℕ) → Holds member new.entries j → link_at new j ≡ link_at old j) → ((j : ℕ) (held : Holds member old.entries j) → test held.0 ≡ false)
    → IsListOf (link_at old) head (Holds member old.entries) → IsListOf (link_at new) head (Holds member new.entries)
list_kept old new head member test is links fails list =
    let os = old.entries in
    let stays : (j : ℕ) → Holds member os j → Holds member new.entries j = λ j held. (
      held.0,
      subst (λ l. get_or l j None ≡ Some held.0) (sym is) (let_go_stays test os j held.0 held.1 (fails j held)),
      held.2,
    ) in
    let was : (j : ℕ) → Holds member new.entries j → Holds member os j = λ j held. (
      held.0,
      (let_go_at test os j held.0 (subst (λ l. get_or l j None ≡ Some held.0) is held.1)).0,
      held.2,
    ) in
    stays_list (link_at old) (link_at new) head (Holds member os) (Holds member new.entries) (λ j held. links j (stays j held))
    (λ j. (stays j, was j)) list

-- and a list of which all pass
pub list_gone : (old new : Held) (member test : Entry → Bool) → new.entries ≡ map (let_go test) old.entries
    → ((j : ℕ) (held : Holds member old.entries j) → test held.0 ≡ true) → IsListOf (link_at new) None (Holds member new.entries)
list_gone old new member test is passes =
    empty_list (link_at new) (Holds member new.entries) (
    λ j held.
    let old_one = let_go_at test old.entries j held.0 (subst (λ l. get_or l j None ≡ Some held.0) is held.1) in
    false≢true (sym old_one.1 ∙ passes j (held.0, old_one.0, held.2))
    )

pub wheel_kept : (old new : Held) (heads : List (Option ℕ)) (is_in : ℕ → Entry → Bool) (test : Entry → Bool) → IsWheel old heads is_in
    → new.entries ≡ map (let_go test) old.entries → ((j : ℕ) → (get_or new.entries j None ≡ None → ⊥) → link_at new j ≡ link_at old j)
    → ((l : ℕ) (e : Entry) → is_in l e ≡ true → test e ≡ false) → IsWheel new heads is_in
wheel_kept old new heads is_in test wheel is links fails l lt =
    list_kept old new (get_or heads l None) (is_in l) test is (λ j held. links j (λ none. (let some = held.1 in cc)))
    (λ j held. fails l held.0 held.2) (wheel l lt)

-- the list of one slot is let go of
pub wheel_less : (old new : Held) (heads : List (Option ℕ)) (is_in : ℕ → Entry → Bool) (s : ℕ) → IsWheel old heads is_in
    → new.entries ≡ map (let_go (is_in s)) old.entries → ((j : ℕ) → (get_or new.entries j None ≡ None → ⊥) → link_at new j ≡ link_at old j)
    → s < length heads → ((l : ℕ) (e : Entry) → (s ≡ l → ⊥) → is_in l e ≡ true → is_in s e ≡ false)
    → IsWheel new (set heads s None) is_in
wheel_less old new heads is_in s wheel is links below fails l lt_set =
    let lt = subst (λ n. l < n) (length-set heads s None) lt_set in
    elim (same_or_not s l) [
      | inl same ↦
          subst (λ k. IsListOf (link_at new) (get_or (set heads s None) k None) (Holds (is_in k) new.entries)) same (
          subst (λ h. IsListOf (link_at new) h (Holds (is_in s) new.entries)) (sym (get_or-set_same heads s None None below))
          (list_gone old new (is_in s) (is_in s) is (λ j held. held.2))
          )
      | inr other ↦
          subst (λ h. IsListOf (link_at new) h (Holds (is_in l) new.entries))
          (sym (get_or-set_other heads s l None None (λ same. other (sym same)))) (
          list_kept old new (get_or heads l None) (is_in l) (is_in s) is (λ j held. links j (λ none. (let some = held.1 in cc)))
          (λ j held. fails l held.0 other held.2) (wheel l lt)
          )
    ]

-- ---- a list is let go of

-- the links that are left of the list, and what was let go of
pub record IsDrop (old new : Held) (test : Entry → Bool) (link : Option ℕ) (from steps : ℕ) : Type 0 where
  pub list : IsListOf (link_at new) link (Holds test new.entries)
  pub entries : map (let_go test) new.entries ≡ map (let_go test) old.entries
  pub links : (j : ℕ) → (get_or new.entries j None ≡ None → ⊥) → link_at new j ≡ link_at old j
  pub rises : from ≤ steps
  pub cost : steps + 2 * length (entries_in new.entries) ≤ from + 2 * length (entries_in old.entries)

pub drop_begins : (held : Held) (test : Entry → Bool) (link : Option ℕ) (from : ℕ) → IsListOf (link_at held) link (Holds test held.entries)
    → IsDrop held held test link from from
drop_begins held test link from list = record {
  list = list;
  entries = refl;
  links = λ _ _. refl;
  rises = omega arith;
  cost = omega arith;
}

drop_first : (old mid : Held) (test : Entry → Bool) (link : Option ℕ) (from steps i : ℕ) → IsDrop old mid test link from steps → link ≡ Some i
    → Holds test mid.entries i
drop_first old mid test link from steps i drop is =
    first_member (link_at mid) link (Holds test mid.entries) i is drop.list

pub drop_holds : (old mid : Held) (test : Entry → Bool) (link : Option ℕ) (from steps i : ℕ) → IsDrop old mid test link from steps → link ≡ Some i
    → Holds (λ _. true) mid.entries i
drop_holds old mid test link from steps i drop is =
    let first = drop_first old mid test link from steps i drop is in (first.0, first.1, refl)

pub drop_goes : (old mid new : Held) (test : Entry → Bool) (link : Option ℕ) (from steps i : ℕ) → IsDrop old mid test link from steps → link ≡ Some i
    → new.entries ≡ set mid.entries i None → ((j : ℕ) → (j ≡ i → ⊥) → link_at new j ≡ link_at mid j)
    → IsDrop old new test (link_at mid i) from (steps + 1)
drop_goes old mid new test link from steps i drop is set_is links =
    let first = drop_first old mid test link from steps i drop is in
    let within = below_length mid.entries i first.0 first.1 in
    record {
      list =
          popped_list (link_at mid) (link_at new) link (Holds test mid.entries) (Holds test new.entries) i is
          (λ j _ other. links j other) (
          λ j.
          subst (λ l. (Holds test mid.entries j × (j ≡ i → ⊥)) ↔ Holds test l j) (sym set_is)
          (holds_less test mid.entries i j within)
          ) drop.list;
      entries = ap (map (let_go test)) set_is ∙ let_go_out test mid.entries i first ∙ drop.entries;
      links = λ j held.
          let other : j ≡ i → ⊥ = λ same. held (
          subst (λ k. get_or new.entries k None ≡ None) (sym same) (
          ap (λ l. get_or l i None) set_is ∙ get_or-set_same mid.entries i None None within
          )
          ) in
          let at = ap (λ l. get_or l j None) set_is ∙ get_or-set_other mid.entries i j None None other in
          links j other ∙ drop.links j (λ none. held (at ∙ none));
      rises = omega (arith, drop.rises);
      cost = omega (
        arith,
        drop.cost,
        length_out mid.entries i first.0 first.1,
        ap (λ l. length (entries_in l)) set_is,
      );
    }

pub drop_less : (old mid new : Held) (test : Entry → Bool) (link : Option ℕ) (from steps i : ℕ) → IsDrop old mid test link from steps → link ≡ Some i
    → new.entries ≡ set mid.entries i None → length (entries_in new.entries) < length (entries_in mid.entries)
drop_less old mid new test link from steps i drop is set_is =
    let first = drop_first old mid test link from steps i drop is in
    omega (arith, length_out mid.entries i first.0 first.1, ap (λ l. length (entries_in l)) set_is)

pub drop_ends : (old new : Held) (test : Entry → Bool) (link : Option ℕ) (from steps : ℕ) → IsDrop old new test link from steps → link ≡ None
    → new.entries ≡ map (let_go test) old.entries
drop_ends old new test link from steps drop is =
    sym (
    let_go_none test new.entries (
    λ i. no_member (link_at new) (Holds test new.entries) i (
    subst (λ l. IsListOf (link_at new) l (Holds test new.entries)) is drop.list
    )
    )
    )
    ∙ drop.entries
