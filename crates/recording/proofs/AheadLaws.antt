-- The next item of a recording, and those after it.
use Rattle.std.proofs.Common.{◌≡◌, ◌≤◌, ◌+◌, ◌-◌, ℕ, zero, suc, Option, Some, None, option_map, List, [], ◌∷◌, length, drop, refl, sym, ap, ◌∙◌, arith}
use Rattle.std.specs.Prelude.{MatchOption, slice_get}
use Rattle.std.proofs.lemmas.Option.{slice_get_within}
use Rattle.recording.specs.declared.item.Item.{Item}
use Rattle.recording.specs.Items.{PlacedItem, placed}
use Rattle.recording.specs.tools.Ordered.{AreAhead, HeldItems}

pub past_of : (items : List PlacedItem) (n : ℕ) → slice_get items n ≡ None → length items ≤ n
past_of [] n e = omega arith
past_of (item ∷ items) zero e = absurd (cc e)
past_of (item ∷ items) (suc n) e = omega (arith, past_of items n e)

first_there : (items : List PlacedItem) (n : ℕ) (x : PlacedItem) (more : List PlacedItem) → drop n items ≡ x ∷ more → (slice_get items n ≡ Some x) × (drop (suc n) items ≡ more)
first_there [] zero x more e = absurd (cc e)
first_there [] (suc n) x more e = absurd (cc e)
first_there (item ∷ items) zero x more e =
    let head : item ≡ x = cc in
    let tail : items ≡ more = cc in
    (ap Some head, tail)
first_there (item ∷ items) (suc n) x more e = first_there items n x more e

none_there : (items : List PlacedItem) (n : ℕ) → drop n items ≡ [] → (slice_get items n ≡ None) × (drop (suc n) items ≡ [])
none_there [] zero e = (refl, refl)
none_there [] (suc n) e = (refl, refl)
none_there (item ∷ items) zero e = absurd (cc e)
none_there (item ∷ items) (suc n) e = none_there items n e

-- what a call gave of the items after so many, and left of them
abbrev Goes : List PlacedItem → Option Item → List PlacedItem → Type 0
Goes was found now = MatchOption found ((was ≡ []) × (now ≡ [])) (λ x. was ≡ placed x ∷ now)

ahead_at : (items : List PlacedItem) (n : ℕ) (found : Option Item) (was now : List PlacedItem) → drop n items ≡ was → Goes was found now
    → (slice_get items n ≡ option_map placed found) × (drop (n + 1) items ≡ now)
ahead_at items n None was now e g =
    let own = none_there items n (e ∙ g.0) in
    (own.0, ap (λ (k : ℕ). drop k items) (one_more n) ∙ own.1 ∙ sym g.1)
  where
    one_more : (n : ℕ) → n + 1 ≡ suc n
    one_more n = omega arith
ahead_at items n (Some x) was now e g =
    let own = first_there items n (placed x) now (e ∙ g) in
    (own.0, ap (λ (k : ℕ). drop k items) (one_more n) ∙ own.1)
  where
    one_more : (n : ℕ) → n + 1 ≡ suc n
    one_more n = omega arith

pub one_taken : (held : HeldItems) (next : Option PlacedItem) (was now : List PlacedItem) (last : ℕ) (item : PlacedItem) (found : Option Item) → AreAhead held next was last
    → slice_get held.items held.taken ≡ Some item → Goes was found now → AreAhead (record { items = held.items; taken = held.taken + 1 }) (option_map placed found) now item.offset
one_taken held next was now last item found a there g =
    let own = ahead_at held.items (held.taken + 1) found was now a.later_are g in
    let back : held.taken ≡ (held.taken + 1) - 1 = omega arith in
    record {
      few = a.few;
      within = omega (arith, slice_get_within held.items held.taken item there);
      next_is = own.0;
      later_are = own.1;
      last_is = λ _. (item, ap (λ (k : ℕ). slice_get held.items k) (sym back) ∙ there, refl);
    }
