-- What a list by name has of the pairs of a query, and of one more.
use Rattle.std.proofs.Common.{◌≡◌, ◌≢◌, ◌<◌, ℕ, true, false, List, [], ◌∷◌, ◌++◌, length, refl, sym, ap, ◌∙◌, arith, inl, inr, Option, Some, None, append-nil}
use Rattle.std.specs.List.{slice_get}
use Rattle.std.specs.Str.{bytes_eq}
use Rattle.std.proofs.Math.ListN.{set}
use Rattle.std.proofs.Math.Seq.{get_or-append_seam}
use Rattle.std.proofs.lemmas.Bool.{cases_Bool, false≢true}
use Rattle.std.proofs.lemmas.List.{get_or_append_left, get_or-set_other, get_or-set_same, length-append, length-set, map-append}
use Rattle.std.proofs.lemmas.List.Elements.{filter-append}
use Rattle.std.proofs.lemmas.Option.{get_or_from_slice_get, slice_get-get_or, slice_get_within}
use Rattle.std.proofs.lemmas.Slice.Eq.{bytes_eq-Decides}
use Rattle.sfv_text.specs.declared.pair.Pair.{Pair}
use Rattle.sfv_text.specs.Keys.{put, value_of}
use Rattle.sfv_text.proofs.PutLaws.{put_value}
use Rattle.derived_values.specs.Query.{QueryPair, encoded, values_under}
use Rattle.derived_values.specs.tools.Params.{AreListedIn, IsListed}

other_put : {V : Type 0} (key name : List ℕ) (v : V) (ps : List (Pair V)) → bytes_eq key name ≡ false → value_of (put ps key v) name ≡ value_of ps name
other_put key name v ps other = put_value key v name ps ∙ rw other refl

own_put : {V : Type 0} (key : List ℕ) (v : V) (ps : List (Pair V)) → value_of (put ps key v) key ≡ Some v
own_put key v ps = let own : bytes_eq key key ≡ true = (bytes_eq-Decides key key).1 refl in put_value key v key ps ∙ rw own refl

own_more : (done : List QueryPair) (pair : QueryPair) → values_under (encoded pair.name) (done ++ pair ∷ []) ≡ values_under (encoded pair.name) done ++ encoded pair.value ∷ []
own_more done pair = rw (filter-append, (bytes_eq-Decides (encoded pair.name) (encoded pair.name)).1 refl, map-append) refl

other_more : (name : List ℕ) (done : List QueryPair) (pair : QueryPair) → bytes_eq (encoded pair.name) name ≡ false → values_under name (done ++ pair ∷ []) ≡ values_under name done
other_more name done pair other = rw (filter-append, other, append-nil) refl

-- ---- lists at their places

abbrev Lists : Type 0
Lists = List (List (List ℕ))

-- one more list is at the end, and the others stay
there_still : (lists : Lists) (values : List (List ℕ)) (place : ℕ) (own : List (List ℕ)) → slice_get lists place ≡ Some own → slice_get (lists ++ values ∷ []) place ≡ Some own
there_still lists values place own is =
    let lt = slice_get_within lists place own is in
    slice_get-get_or (lists ++ values ∷ []) place [] (rw length-append (omega (arith, lt)))
    ∙ ap Some (get_or_append_left lists (values ∷ []) [] place lt ∙ get_or_from_slice_get lists place own [] is)

at_the_end : (lists : Lists) (values : List (List ℕ)) → slice_get (lists ++ values ∷ []) (length lists) ≡ Some values
at_the_end lists values =
    slice_get-get_or (lists ++ values ∷ []) (length lists) [] (rw length-append (omega arith)) ∙ ap Some (get_or-append_seam lists values [] [])

-- another list at a place, and the others stay
there_beside : (lists : Lists) (place : ℕ) (values : List (List ℕ)) (other : ℕ) (own : List (List ℕ)) → other ≢ place → slice_get lists other ≡ Some own
    → slice_get (set lists place values) other ≡ Some own
there_beside lists place values other own apart is =
    slice_get-get_or (set lists place values) other [] (rw length-set (slice_get_within lists other own is))
    ∙ ap Some (get_or-set_other lists place other values [] apart ∙ get_or_from_slice_get lists other own [] is)

there_now : (lists : Lists) (place : ℕ) (values old : List (List ℕ)) → slice_get lists place ≡ Some old → slice_get (set lists place values) place ≡ Some values
there_now lists place values old is =
    let lt = slice_get_within lists place old is in
    slice_get-get_or (set lists place values) place [] (rw length-set lt) ∙ ap Some (get_or-set_same lists place values [] lt)

-- what stays at its place stays listed
listed_still : (lists others : Lists) (place : Option ℕ) (values : List (List ℕ)) → ((p : ℕ) (own : List (List ℕ)) → place ≡ Some p → slice_get lists p ≡ Some own → slice_get others p ≡ Some own)
    → IsListed lists place values → IsListed others place values
listed_still lists others None values stays is = is
listed_still lists others (Some p) values stays is = stays p values refl is

-- ---- one more pair

module _ (places : List (Pair ℕ)) (lists : Lists) (done : List QueryPair) (pair : QueryPair) (listed : AreListedIn places lists done) where
  -- a name that comes first has a list of its own
  pub listed_first : value_of places (encoded pair.name) ≡ None
      → AreListedIn (put places (encoded pair.name) (length lists)) (lists ++ (encoded pair.value ∷ []) ∷ []) (done ++ pair ∷ [])
  listed_first none = record { each = each; own = own }
    where
      key : List ℕ
      key = encoded pair.name

      longer : Lists
      longer = lists ++ (encoded pair.value ∷ []) ∷ []

      before : values_under key done ≡ []
      before = rw none at (listed.each key)

      each : (name : List ℕ) → IsListed longer (value_of (put places key (length lists)) name) (values_under name (done ++ pair ∷ []))
      each name = elim (cases_Bool (bytes_eq key name)) [
        | inl same ↦
            let is : name ≡ key = sym ((bytes_eq-Decides key name).0 same) in
            rw (is, own_more done pair, own_put key (length lists) places, before) (at_the_end lists (encoded pair.value ∷ []))
        | inr other ↦
            rw (other_more name done pair other, other_put key name (length lists) places other)
            (listed_still lists longer (value_of places name) (values_under name done) (λ p values is there. there_still lists (encoded pair.value ∷ []) p values there) (listed.each name))
      ]

      -- the place of a name that was there is within the lists
      within : (name : List ℕ) (place : ℕ) → value_of places name ≡ Some place → place < length lists
      within name place is = slice_get_within lists place (values_under name done) (rw is at (listed.each name))

      own : (name other : List ℕ) (place : ℕ) → value_of (put places key (length lists)) name ≡ Some place → value_of (put places key (length lists)) other ≡ Some place → name ≡ other
      own name other place is also = elim (cases_Bool (bytes_eq key name)) [
        | inl same ↦ elim (cases_Bool (bytes_eq key other)) [
          | inl too ↦ sym ((bytes_eq-Decides key name).0 same) ∙ (bytes_eq-Decides key other).0 too
          | inr away ↦ absurd (not_both name other place same away is also)
        ]
        | inr apart ↦ elim (cases_Bool (bytes_eq key other)) [
          | inl too ↦ absurd (not_both other name place too apart also is)
          | inr away ↦ listed.own name other place (sym (other_put key name (length lists) places apart) ∙ is) (sym (other_put key other (length lists) places away) ∙ also)
        ]
      ]
        where
          not_both : (first second : List ℕ) (at : ℕ) → bytes_eq key first ≡ true → bytes_eq key second ≡ false → value_of (put places key (length lists)) first ≡ Some at
              → value_of (put places key (length lists)) second ≡ Some at → ⊥
          not_both first second at same away here there =
              let lt = within second at (sym (other_put key second (length lists) places away) ∙ there) in
              let last : value_of (put places key (length lists)) first ≡ Some (length lists) = put_value key (length lists) first places ∙ rw same refl in
              let e : Some at ≡ Some (length lists) = sym here ∙ last in
              let at_is : at ≡ length lists = cc in
              omega (arith, at_is, lt)

  -- a name that comes again has one value more
  pub listed_again : (place : ℕ) (values : List (List ℕ)) → value_of places (encoded pair.name) ≡ Some place → slice_get lists place ≡ Some values
      → AreListedIn places (set lists place (values ++ encoded pair.value ∷ [])) (done ++ pair ∷ [])
  listed_again place values is there = record { each = each; own = listed.own }
    where
      key : List ℕ
      key = encoded pair.name

      more : List (List ℕ)
      more = values ++ encoded pair.value ∷ []

      before : slice_get lists place ≡ Some (values_under key done)
      before = rw is at (listed.each key)

      values_are : values ≡ values_under key done
      values_are = let e : Some values ≡ Some (values_under key done) = sym there ∙ before in cc

      each : (name : List ℕ) → IsListed (set lists place more) (value_of places name) (values_under name (done ++ pair ∷ []))
      each name = elim (cases_Bool (bytes_eq key name)) [
        | inl same ↦
            let name_is : name ≡ key = sym ((bytes_eq-Decides key name).0 same) in
            rw (name_is, own_more done pair, is, ← values_are) (there_now lists place more values there)
        | inr other ↦
            rw (other_more name done pair other)
            (listed_still lists (set lists place more) (value_of places name) (values_under name done)
            (λ p own at beside. there_beside lists place more p own (λ e. elsewhere name other p at e) beside) (listed.each name))
      ]
        where
          elsewhere : (name : List ℕ) → bytes_eq key name ≡ false → (p : ℕ) → value_of places name ≡ Some p → p ≡ place → ⊥
          elsewhere name other p at e =
              let same : key ≡ name = listed.own key name place is (at ∙ ap Some e) in
              false≢true (sym other ∙ (bytes_eq-Decides key name).1 same)
