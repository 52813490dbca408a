-- The two wheels: what holds goes on to hold where an entry is put in, where a second and an hour
-- end, and where the fine wheel turns to another hour.
use Rattle.std.proofs.Common.{◌≡◌, ◌<◌, ◌≤◌, ℕ, ◌+◌, min, ◌*◌, ◌%◌, Bool, true, false, ◌==◌, not, inl, inr, Option, Some, None, List, length, map, set, get_or, replicate, refl, sym, ◌∙◌, ap, subst, arith}
use Rattle.std.specs.Cmp.{both_ways}
use Rattle.std.proofs.lemmas.Bool.{eq-eqb, eqb-true, eqb-false, false≢true, ne_eqb}
use Rattle.std.proofs.lemmas.List.{get_or-set_other, get_or-set_same, length-replicate, length-set}
use Rattle.std.proofs.lemmas.Nat.{mod_below}
use Rattle.std.proofs.Math.Nat.{div-add-mod}
use Rattle.nonces.specs.Books.{Entry, ends_in, hour_of}
use Rattle.nonces.specs.declared.limits.TheConstants.{MAX_HOURS, MAX_WINDOW, SECONDS_PER_HOUR}
use Rattle.nonces.specs.tools.Links.{IsListOf}
use Rattle.nonces.specs.tools.Nodes.{Held, Holds, IsPut, let_go, link_at}
use Rattle.nonces.specs.tools.Wheels.{AreWithin, IsWheel, IsWheels, ends_out, is_coarse, is_dead, is_fine, is_late}
use Rattle.nonces.proofs.Entries.{below_dead, dead_below, let_go_alike, let_go_at, let_go_live, let_go_twice, same_or_not, within_left}
use Rattle.nonces.proofs.Held.{and_true}
use Rattle.nonces.proofs.Linked.{empty_list, stays_list}
use Rattle.nonces.proofs.Wheel.{list_kept, same_number, wheel_kept, wheel_less, wheel_more, wheel_opened, wheel_same}

-- ---- seconds and hours

some_seconds : 0 < SECONDS_PER_HOUR
some_seconds = omega arith

some_hours : 0 < MAX_HOURS
some_hours = omega arith

pub hour_least : (h t : ℕ) → h * SECONDS_PER_HOUR ≤ t → h ≤ hour_of t
hour_least h t le = omega (arith, le, div-add-mod t SECONDS_PER_HOUR, mod_below t SECONDS_PER_HOUR some_seconds)

pub hour_most : (h t : ℕ) → t < h * SECONDS_PER_HOUR → hour_of t < h
hour_most h t lt = omega (arith, lt, div-add-mod t SECONDS_PER_HOUR)

pub hour_begins : (t : ℕ) → hour_of t * SECONDS_PER_HOUR ≤ t
hour_begins t = omega (arith, div-add-mod t SECONDS_PER_HOUR)

pub hour_ends : (t : ℕ) → t < (hour_of t + 1) * SECONDS_PER_HOUR
hour_ends t = omega (arith, div-add-mod t SECONDS_PER_HOUR, mod_below t SECONDS_PER_HOUR some_seconds)

pub hour_is : (h t : ℕ) → h * SECONDS_PER_HOUR ≤ t → t < (h + 1) * SECONDS_PER_HOUR → hour_of t ≡ h
hour_is h t le lt = omega (arith, hour_least h t le, hour_most (h + 1) t lt)

-- two seconds of an hour that are in one slot are one
same_second : (a b : ℕ) → hour_of a ≡ hour_of b → a % SECONDS_PER_HOUR ≡ b % SECONDS_PER_HOUR → a ≡ b
same_second a b hours slots =
    let turns = ap (λ q. SECONDS_PER_HOUR * q) hours in
    omega (arith, turns, slots, div-add-mod a SECONDS_PER_HOUR, div-add-mod b SECONDS_PER_HOUR)

-- ---- the slot of an entry

not_so : (b : Bool) → (b ≡ true → ⊥) → b ≡ false
not_so true fails = absurd (fails refl)
not_so false fails = refl

not_true : (b : Bool) → not b ≡ true → b ≡ false
not_true true is = absurd (false≢true is)
not_true false is = refl

pub fine_parts : (h s : ℕ) (e : Entry) → is_fine h s e ≡ true → (hour_of e.until ≡ h) × (e.until % SECONDS_PER_HOUR ≡ s)
fine_parts h s e is =
    let parts = and_true (ends_in h e) (e.until % SECONDS_PER_HOUR == s) is in
    (eqb-true (hour_of e.until) h parts.0, eqb-true (e.until % SECONDS_PER_HOUR) s parts.1)

pub coarse_parts : (h s : ℕ) (e : Entry) → is_coarse h s e ≡ true → (hour_of e.until ≡ h → ⊥) × (hour_of e.until % MAX_HOURS ≡ s)
coarse_parts h s e is =
    let parts = and_true (ends_out h e) (hour_of e.until % MAX_HOURS == s) is in
    (eqb-false (hour_of e.until) h (not_true (ends_in h e) parts.0), eqb-true (hour_of e.until % MAX_HOURS) s parts.1)

pub fine_of : (h s : ℕ) (e : Entry) → hour_of e.until ≡ h → e.until % SECONDS_PER_HOUR ≡ s → is_fine h s e ≡ true
fine_of h s e hour slot = rw (eq-eqb (hour_of e.until) h hour, eq-eqb (e.until % SECONDS_PER_HOUR) s slot) refl

pub coarse_of : (h s : ℕ) (e : Entry) → (hour_of e.until ≡ h → ⊥) → hour_of e.until % MAX_HOURS ≡ s → is_coarse h s e ≡ true
coarse_of h s e other slot = rw (ne_eqb (hour_of e.until) h other, eq-eqb (hour_of e.until % MAX_HOURS) s slot) refl

fine_once : (h s l : ℕ) (e : Entry) → (s ≡ l → ⊥) → is_fine h l e ≡ true → is_fine h s e ≡ false
fine_once h s l e other is =
    not_so (is_fine h s e) (λ here. other (sym (fine_parts h s e here).1 ∙ (fine_parts h l e is).1))

coarse_once : (h s l : ℕ) (e : Entry) → (s ≡ l → ⊥) → is_coarse h l e ≡ true → is_coarse h s e ≡ false
coarse_once h s l e other is =
    not_so (is_coarse h s e) (λ here. other (sym (coarse_parts h s e here).1 ∙ (coarse_parts h l e is).1))

not_coarse : (h l : ℕ) (e : Entry) → hour_of e.until ≡ h → is_coarse h l e ≡ false
not_coarse h l e hour = not_so (is_coarse h l e) (λ is. (coarse_parts h l e is).0 hour)

not_fine : (h l : ℕ) (e : Entry) → (hour_of e.until ≡ h → ⊥) → is_fine h l e ≡ false
not_fine h l e other = not_so (is_fine h l e) (λ is. other (fine_parts h l e is).0)

-- ---- no entry yet

pub wheels_opened : (held : Held) (n hour : ℕ) → held.entries ≡ replicate n None
    → IsWheels held (replicate SECONDS_PER_HOUR None) (replicate MAX_HOURS None) hour
wheels_opened held n hour is = record {
  seconds = wheel_opened held n SECONDS_PER_HOUR (is_fine hour) is;
  hours = wheel_opened held n MAX_HOURS (is_coarse hour) is;
  fine_size = length-replicate {A = Option ℕ} SECONDS_PER_HOUR None;
  coarse_size = length-replicate {A = Option ℕ} MAX_HOURS None;
}

-- ---- an entry is put in

pub second_below : (held : Held) (fine coarse : List (Option ℕ)) (hour t : ℕ) → IsWheels held fine coarse hour → t % SECONDS_PER_HOUR < length fine
second_below held fine coarse hour t wheels =
    subst (λ n. t % SECONDS_PER_HOUR < n) (sym wheels.fine_size) (mod_below t SECONDS_PER_HOUR some_seconds)

pub hour_below : (held : Held) (fine coarse : List (Option ℕ)) (hour h : ℕ) → IsWheels held fine coarse hour → h % MAX_HOURS < length coarse
hour_below held fine coarse hour h wheels =
    subst (λ n. h % MAX_HOURS < n) (sym wheels.coarse_size) (mod_below h MAX_HOURS some_hours)

pub put_fine : (old new : Held) (fine coarse : List (Option ℕ)) (hour i : ℕ) (e : Entry) → IsWheels old fine coarse hour → hour_of e.until ≡ hour
    → IsPut old new i e (get_or fine (e.until % SECONDS_PER_HOUR) None)
    → IsWheels new (set fine (e.until % SECONDS_PER_HOUR) (Some i)) coarse hour
put_fine old new fine coarse hour i e wheels here put =
    let s = e.until % SECONDS_PER_HOUR in
    record {
      seconds =
          wheel_more old new fine (is_fine hour) s i e wheels.seconds put (second_below old fine coarse hour e.until wheels)
          (fine_of hour s e here refl)
          (λ l other. not_so (is_fine hour l e) (λ is. other (fine_parts hour l e is).1));
      hours = wheel_same old new coarse (is_coarse hour) i e (get_or fine s None) wheels.hours put (λ l. not_coarse hour l e here);
      fine_size = length-set fine s (Some i) ∙ wheels.fine_size;
      coarse_size = wheels.coarse_size;
    }

pub put_coarse : (old new : Held) (fine coarse : List (Option ℕ)) (hour i : ℕ) (e : Entry) → IsWheels old fine coarse hour → (hour_of e.until ≡ hour → ⊥)
    → IsPut old new i e (get_or coarse (hour_of e.until % MAX_HOURS) None)
    → IsWheels new fine (set coarse (hour_of e.until % MAX_HOURS) (Some i)) hour
put_coarse old new fine coarse hour i e wheels other put =
    let s = hour_of e.until % MAX_HOURS in
    record {
      seconds = wheel_same old new fine (is_fine hour) i e (get_or coarse s None) wheels.seconds put (λ l. not_fine hour l e other);
      hours =
          wheel_more old new coarse (is_coarse hour) s i e wheels.hours put (hour_below old fine coarse hour (hour_of e.until) wheels)
          (coarse_of hour s e other refl)
          (λ l away. not_so (is_coarse hour l e) (λ is. away (coarse_parts hour l e is).1));
      fine_size = wheels.fine_size;
      coarse_size = length-set coarse s (Some i) ∙ wheels.coarse_size;
    }

-- ---- a second ends

second_alike : (hour second : ℕ) (e : Entry) → hour_of second ≡ hour → second ≤ e.until
    → is_fine hour (second % SECONDS_PER_HOUR) e ≡ is_dead (second + 1) e
second_alike hour second e is_hour le =
    both_ways (is_fine hour (second % SECONDS_PER_HOUR) e) (is_dead (second + 1) e) (
    λ is.
    let parts = fine_parts hour (second % SECONDS_PER_HOUR) e is in
    let same = same_second e.until second (parts.0 ∙ sym is_hour) parts.1 in
    dead_below (second + 1) e (omega (arith, same))
    ) (
    λ dead.
    let same : e.until ≡ second = omega (arith, le, below_dead (second + 1) e dead) in
    fine_of hour (second % SECONDS_PER_HOUR) e (ap hour_of same ∙ is_hour) (ap (λ t. t % SECONDS_PER_HOUR) same)
    )

pub second_entries : (os : List (Option Entry)) (hour second last : ℕ) → AreWithin second last os → hour_of second ≡ hour
    → map (let_go (is_fine hour (second % SECONDS_PER_HOUR))) os ≡ map (let_go (is_dead (second + 1))) os
second_entries os hour second last within is_hour =
    let_go_alike (is_fine hour (second % SECONDS_PER_HOUR)) (is_dead (second + 1)) os
    (λ i e at. second_alike hour second e is_hour (within i e at).0)

pub second_wheels : (old new : Held) (fine coarse : List (Option ℕ)) (hour s : ℕ) → IsWheels old fine coarse hour → s < length fine
    → new.entries ≡ map (let_go (is_fine hour s)) old.entries → ((j : ℕ) → (get_or new.entries j None ≡ None → ⊥) → link_at new j ≡ link_at old j)
    → IsWheels new (set fine s None) coarse hour
second_wheels old new fine coarse hour s wheels below is links = record {
  seconds = wheel_less old new fine (is_fine hour) s wheels.seconds is links below (λ l e. fine_once hour s l e);
  hours =
      wheel_kept old new coarse (is_coarse hour) (is_fine hour s) wheels.hours is links
      (λ l e there. not_fine hour s e (coarse_parts hour l e there).0);
  fine_size = length-set fine s None ∙ wheels.fine_size;
  coarse_size = wheels.coarse_size;
}

-- ---- an hour ends

-- the hour of an entry that is in the slot of an hour
slot_hour : (hour : ℕ) (e : Entry) → hour * SECONDS_PER_HOUR ≤ e.until → e.until < (hour + MAX_HOURS) * SECONDS_PER_HOUR
    → hour_of e.until % MAX_HOURS ≡ hour % MAX_HOURS → hour_of e.until ≡ hour
slot_hour hour e from to slot =
    same_number hour (hour_of e.until) MAX_HOURS slot (hour_least hour e.until from) (hour_most (hour + MAX_HOURS) e.until to)

hour_alike : (own hour : ℕ) (e : Entry) → own < hour → hour * SECONDS_PER_HOUR ≤ e.until → e.until < (hour + MAX_HOURS) * SECONDS_PER_HOUR
    → is_coarse own (hour % MAX_HOURS) e ≡ is_dead ((hour + 1) * SECONDS_PER_HOUR) e
hour_alike own hour e later from to =
    both_ways (is_coarse own (hour % MAX_HOURS) e) (is_dead ((hour + 1) * SECONDS_PER_HOUR) e) (
    λ is.
    let same = slot_hour hour e from to (coarse_parts own (hour % MAX_HOURS) e is).1 in
    dead_below ((hour + 1) * SECONDS_PER_HOUR) e
    (subst (λ h. e.until < (h + 1) * SECONDS_PER_HOUR) same (hour_ends e.until))
    ) (
    λ dead.
    let same = hour_is hour e.until from (below_dead ((hour + 1) * SECONDS_PER_HOUR) e dead) in
    coarse_of own (hour % MAX_HOURS) e (λ here. omega (arith, here, same, later)) (ap (λ h. h % MAX_HOURS) same)
    )

pub hour_entries : (os : List (Option Entry)) (own hour : ℕ) → own < hour
    → AreWithin (hour * SECONDS_PER_HOUR) ((hour + MAX_HOURS) * SECONDS_PER_HOUR) os
    → map (let_go (is_coarse own (hour % MAX_HOURS))) os ≡ map (let_go (is_dead ((hour + 1) * SECONDS_PER_HOUR))) os
hour_entries os own hour later within =
    let_go_alike (is_coarse own (hour % MAX_HOURS)) (is_dead ((hour + 1) * SECONDS_PER_HOUR)) os
    (λ i e at. hour_alike own hour e later (within i e at).0 (within i e at).1)

pub hour_wheels : (old new : Held) (fine coarse : List (Option ℕ)) (hour s : ℕ) → IsWheels old fine coarse hour → s < length coarse
    → new.entries ≡ map (let_go (is_coarse hour s)) old.entries → ((j : ℕ) → (get_or new.entries j None ≡ None → ⊥) → link_at new j ≡ link_at old j)
    → IsWheels new fine (set coarse s None) hour
hour_wheels old new fine coarse hour s wheels below is links = record {
  seconds =
      wheel_kept old new fine (is_fine hour) (is_coarse hour s) wheels.seconds is links
      (λ l e there. not_coarse hour s e (fine_parts hour l e there).0);
  hours = wheel_less old new coarse (is_coarse hour) s wheels.hours is links below (λ l e. coarse_once hour s l e);
  fine_size = wheels.fine_size;
  coarse_size = length-set coarse s None ∙ wheels.coarse_size;
}

-- ---- the fine wheel turns

-- all entries live as a later hour begins, so none is left in the fine wheel
pub turn_empty : (held : Held) (fine coarse : List (Option ℕ)) (own hour last : ℕ) → IsWheels held fine coarse own → own < hour
    → AreWithin (hour * SECONDS_PER_HOUR) last held.entries → IsWheel held fine (λ _ _. false)
turn_empty held fine coarse own hour last wheels later within l lt =
    stays_list (link_at held) (link_at held) (get_or fine l None) (Holds (is_fine own l) held.entries) (Holds (λ _. false) held.entries)
    (λ _ _. refl) (
    λ j. (
      λ there.
          let own_hour = (fine_parts own l there.0 there.2).0 in
          absurd (omega (arith, own_hour, later, hour_least hour there.0.until (within j there.0 there.1).0)),
      λ there. absurd (false≢true there.2),
    )
    ) (wheels.seconds l lt)

-- and the list of the hour has exactly the entries of the hour
pub turn_list : (held : Held) (fine coarse : List (Option ℕ)) (own hour : ℕ) → IsWheels held fine coarse own → own < hour
    → AreWithin (hour * SECONDS_PER_HOUR) ((hour + MAX_HOURS) * SECONDS_PER_HOUR) held.entries
    → IsListOf (link_at held) (get_or coarse (hour % MAX_HOURS) None) (Holds (ends_in hour) held.entries)
turn_list held fine coarse own hour wheels later within =
    let s = hour % MAX_HOURS in
    stays_list (link_at held) (link_at held) (get_or coarse s None) (Holds (is_coarse own s) held.entries) (Holds (ends_in hour) held.entries)
    (λ _ _. refl) (
    λ j. (
      λ there.
          let range = within j there.0 there.1 in
          let same = slot_hour hour there.0 range.0 range.1 (coarse_parts own s there.0 there.2).1 in
          (there.0, there.1, eq-eqb (hour_of there.0.until) hour same),
      λ there.
          let same = eqb-true (hour_of there.0.until) hour there.2 in (
            there.0,
            there.1,
            coarse_of own s there.0 (λ here. omega (arith, here, same, later)) (ap (λ h. h % MAX_HOURS) same),
          ),
    )
    ) (wheels.hours s (hour_below held fine coarse own hour wheels))

late_alike : (now : ℕ) (e : Entry) → hour_of now * SECONDS_PER_HOUR ≤ e.until → is_late now e ≡ is_dead now e
late_alike now e from =
    both_ways (is_late now e) (is_dead now e) (λ late. (and_true (ends_in (hour_of now) e) (is_dead now e) late).1) (
    λ dead.
    let before = below_dead now e dead in
    let same = hour_is (hour_of now) e.until from (omega (arith, before, hour_ends now)) in
    rw (eq-eqb (hour_of e.until) (hour_of now) same, dead) refl
    )

pub turn_entries : (os : List (Option Entry)) (now last : ℕ) → AreWithin (hour_of now * SECONDS_PER_HOUR) last os
    → map (let_go (is_late now)) os ≡ map (let_go (is_dead now)) os
turn_entries os now last within =
    let_go_alike (is_late now) (is_dead now) os (λ i e at. late_alike now e (within i e at).0)

-- a list of another hour, before and after
turn_other : (old new : Held) (head : Option ℕ) (own now l : ℕ) → own < hour_of now
    → AreWithin (hour_of now * SECONDS_PER_HOUR) ((hour_of now + MAX_HOURS) * SECONDS_PER_HOUR) old.entries
    → new.entries ≡ map (let_go (is_late now)) old.entries
    → ((j : ℕ) → Holds (ends_out (hour_of now)) new.entries j → link_at new j ≡ link_at old j) → (hour_of now % MAX_HOURS ≡ l → ⊥)
    → IsListOf (link_at old) head (Holds (is_coarse own l) old.entries) → IsListOf (link_at new) head (Holds (is_coarse (hour_of now) l) new.entries)
turn_other old new head own now l later within is links other list =
    let hour = hour_of now in
    let moved =
    stays_list (link_at old) (link_at old) head (Holds (is_coarse own l) old.entries) (Holds (is_coarse hour l) old.entries) (λ _ _. refl) (
    λ j. (
      λ there.
          let slot = (coarse_parts own l there.0 there.2).1 in (
            there.0,
            there.1,
            coarse_of hour l there.0 (λ here. other (sym (ap (λ h. h % MAX_HOURS) here) ∙ slot)) slot,
          ),
      λ there.
          let from = hour_least hour there.0.until (within j there.0 there.1).0 in (
            there.0,
            there.1,
            coarse_of own l there.0 (λ here. omega (arith, here, from, later)) (coarse_parts hour l there.0 there.2).1,
          ),
    )
    ) list in
    list_kept old new head (is_coarse hour l) (is_late now) is (
    λ j held.
    links j (held.0, held.1, (and_true (ends_out hour held.0) (hour_of held.0.until % MAX_HOURS == l) held.2).0)
    ) (
    λ j held.
    not_so (is_late now held.0) (
    λ late.
    (coarse_parts hour l held.0 held.2).0
    (eqb-true (hour_of held.0.until) hour (and_true (ends_in hour held.0) (is_dead now held.0) late).0)
    )
    ) moved

-- the list of the hour itself is empty
turn_own : (old new : Held) (now : ℕ) → AreWithin (hour_of now * SECONDS_PER_HOUR) ((hour_of now + MAX_HOURS) * SECONDS_PER_HOUR) old.entries
    → new.entries ≡ map (let_go (is_late now)) old.entries
    → IsListOf (link_at new) None (Holds (is_coarse (hour_of now) (hour_of now % MAX_HOURS)) new.entries)
turn_own old new now within is =
    let hour = hour_of now in
    let s = hour % MAX_HOURS in
    empty_list (link_at new) (Holds (is_coarse hour s) new.entries) (
    λ j held.
    let at = (let_go_at (is_late now) old.entries j held.0 (subst (λ l. get_or l j None ≡ Some held.0) is held.1)).0 in
    let range = within j held.0 at in
    let parts = coarse_parts hour s held.0 held.2 in
    parts.0 (slot_hour hour held.0 range.0 range.1 parts.1)
    )

pub turned : (old new : Held) (fine fine_new coarse : List (Option ℕ)) (own now : ℕ) → IsWheels old fine coarse own → own < hour_of now
    → AreWithin (hour_of now * SECONDS_PER_HOUR) ((hour_of now + MAX_HOURS) * SECONDS_PER_HOUR) old.entries
    → new.entries ≡ map (let_go (is_late now)) old.entries
    → ((j : ℕ) → Holds (ends_out (hour_of now)) new.entries j → link_at new j ≡ link_at old j)
    → length fine_new ≡ SECONDS_PER_HOUR → IsWheel new fine_new (is_fine (hour_of now))
    → IsWheels new fine_new (set coarse (hour_of now % MAX_HOURS) None) (hour_of now)
turned old new fine fine_new coarse own now wheels later within is links size wheel = record {
  seconds = wheel;
  hours = each;
  fine_size = size;
  coarse_size = length-set coarse s None ∙ wheels.coarse_size;
}
  where
    s : ℕ
    s = hour_of now % MAX_HOURS

    each : IsWheel new (set coarse s None) (is_coarse (hour_of now))
    each l lt_set =
        let hour = hour_of now in
        let lt = subst (λ n. l < n) (length-set coarse s None) lt_set in
        elim (same_or_not s l) [
          | inl same ↦
              subst (λ k. IsListOf (link_at new) (get_or (set coarse s None) k None) (Holds (is_coarse hour k) new.entries)) same (
              subst (λ h. IsListOf (link_at new) h (Holds (is_coarse hour s) new.entries))
              (sym (get_or-set_same coarse s None None (hour_below old fine coarse own hour wheels))) (turn_own old new now within is)
              )
          | inr other ↦
              subst (λ h. IsListOf (link_at new) h (Holds (is_coarse hour l) new.entries))
              (sym (get_or-set_other coarse s l None None (λ same. other (sym same))))
              (turn_other old new (get_or coarse l None) own now l later within is links other (wheels.hours l lt))
        ]

-- ---- what lives between

-- what dies within a week of a moment dies before as many hours have passed
pub week_hours : (moment own hour : ℕ) (os : List (Option Entry)) → hour_of moment ≡ own → own ≤ hour → AreWithin moment (moment + MAX_WINDOW + 1) os
    → AreWithin moment ((hour + MAX_HOURS) * SECONDS_PER_HOUR) os
week_hours moment own hour os is later within i e at =
    let range = within i e at in
    let ends = subst (λ h. moment < (h + 1) * SECONDS_PER_HOUR) is (hour_ends moment) in
    (range.0, omega (arith, range.1, ends, later))

-- ---- what is let go of by and by

pub pass_none : (os : List (Option Entry)) (now last : ℕ) → AreWithin now last os → os ≡ map (let_go (is_dead now)) os
pass_none os now last within = sym (let_go_live now last os within)

pub pass_on : (os mid new : List (Option Entry)) (m n : ℕ) → m ≤ n → mid ≡ map (let_go (is_dead m)) os → new ≡ map (let_go (is_dead n)) mid
    → new ≡ map (let_go (is_dead n)) os
pass_on os mid new m n later one two = two ∙ ap (map (let_go (is_dead n))) one ∙ let_go_twice m n later os

pub pass_within : (os mid : List (Option Entry)) (first m last : ℕ) → AreWithin first last os → mid ≡ map (let_go (is_dead m)) os → AreWithin m last mid
pass_within os mid first m last within is = subst (AreWithin m last) (sym is) (within_left first m last os within)

pub within_later : (os : List (Option Entry)) (first last other : ℕ) → AreWithin first last os → last ≤ other → AreWithin first other os
within_later os first last other within le i e at = let range = within i e at in (range.0, omega (arith, range.1, le))

-- as the fine wheel turns, all that is left lives as the new hour begins
pub turn_within : (os : List (Option Entry)) (own hour end : ℕ) → own < hour → end ≡ min hour (own + MAX_HOURS)
    → AreWithin (end * SECONDS_PER_HOUR) ((own + MAX_HOURS) * SECONDS_PER_HOUR) os
    → AreWithin (hour * SECONDS_PER_HOUR) ((hour + MAX_HOURS) * SECONDS_PER_HOUR) os
turn_within os own hour end later is within i e at =
    let range = within i e at in (omega (arith, is, later, range.0, range.1), omega (arith, later, range.1))
