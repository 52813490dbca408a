-- A map of keys by the entries of the code's map.
use Rattle.std.proofs.Common.{◌≡◌, ℕ, cond, List, [], ◌∷◌, Option, Some, Vec, Global, Ordering, Less, Equal, Greater, refl, sym, ◌∙◌, ap}
use Rattle.std.specs.BTreeMap.{insert_entry}
use Rattle.std.specs.Cmp.Lexicographic.{slice_cmp, nat_list_cmp_total}
use Rattle.std.specs.FinMap as map
use Rattle.std.specs.FinMap.Entries.{put, by_order, find-put}
use Rattle.std.specs.Map.{lookup}
use Rattle.std.specs.Ordering.{is_eq, nat_cmp, match_ordering}
use Rattle.settings.specs.tools.KeyEntries.{by_keyid}

abbrev Bytes : Type 0
Bytes = Vec ℕ Global

abbrev names_cmp : List ℕ → List ℕ → Ordering
names_cmp = slice_cmp nat_cmp

abbrev bytes_cmp : Bytes → Bytes → Ordering
bytes_cmp a b = names_cmp a.items b.items

-- the entry goes to its place whatever the order of its keyid and the first one
placed : (o : Ordering) (keyid : Bytes) (key : List ℕ) (e : Bytes × List ℕ) (es more : List (Bytes × List ℕ)) (rest : List (List ℕ × List ℕ))
    → by_keyid more ≡ rest
    → by_keyid (match_ordering o ((keyid, key) ∷ e ∷ es) ((e.0, key) ∷ es) (e ∷ more))
    ≡ by_order o ((keyid.items, key) ∷ (e.0.items, e.1) ∷ by_keyid es) ((e.0.items, key) ∷ by_keyid es) ((e.0.items, e.1) ∷ rest)
placed Less keyid key e es more rest same = refl
placed Equal keyid key e es more rest same = refl
placed Greater keyid key e es more rest same = ap (λ l. (e.0.items, e.1) ∷ l) same

by_keyid-insert_entry : (entries : List (Bytes × List ℕ)) (keyid : Bytes) (key : List ℕ)
    → by_keyid (insert_entry bytes_cmp entries keyid key) ≡ put names_cmp keyid.items key (by_keyid entries)
by_keyid-insert_entry [] keyid key = refl
by_keyid-insert_entry (e ∷ es) keyid key =
    placed (bytes_cmp keyid e.0) keyid key e es (insert_entry bytes_cmp es keyid key) (put names_cmp keyid.items key (by_keyid es)) (by_keyid-insert_entry es keyid key)

-- the map after an insert
pub inserted : (entries : List (Bytes × List ℕ)) (keyid : Bytes) (key : List ℕ)
    → map.from_entries {R = names_cmp} (by_keyid (insert_entry bytes_cmp entries keyid key)) ≡ map.insert (map.from_entries (by_keyid entries)) keyid.items key
inserted entries keyid key =
    map.same_map nat_list_cmp_total (map.slice_cmp-IsAntisymmetric map.nat_cmp-IsAntisymmetric) _ _ (λ name.
    map.get-from_entries nat_list_cmp_total (by_keyid (insert_entry bytes_cmp entries keyid key)) name
    ∙ ap (map.find names_cmp name) (by_keyid-insert_entry entries keyid key)
    ∙ find-put names_cmp nat_list_cmp_total name keyid.items key (by_keyid entries)
    ∙ ap (cond (is_eq (names_cmp name keyid.items)) (Some key)) (sym (map.get-from_entries nat_list_cmp_total (by_keyid entries) name))
    ∙ sym (map.get-insert nat_list_cmp_total (map.from_entries (by_keyid entries)) keyid.items key name))

value_if : (o : Ordering) (key : List ℕ) (rest found : Option (List ℕ)) → rest ≡ found → cond (is_eq o) (Some key) rest ≡ cond (is_eq o) (Some key) found
value_if o key rest found same = ap (cond (is_eq o) (Some key)) same

lookup_is_find : (entries : List (Bytes × List ℕ)) (name : List ℕ) → lookup (λ (keyid : Bytes). is_eq (names_cmp name keyid.items)) entries ≡ map.find names_cmp name (by_keyid entries)
lookup_is_find [] name = refl
lookup_is_find (e ∷ es) name = value_if (names_cmp name e.0.items) e.1 _ _ (lookup_is_find es name)

-- what the code's map has under a keyid
pub looked_up : (entries : List (Bytes × List ℕ)) (name : List ℕ)
    → lookup (λ (keyid : Bytes). is_eq (names_cmp name keyid.items)) entries ≡ map.get (map.from_entries {R = names_cmp} (by_keyid entries)) name
looked_up entries name = lookup_is_find entries name ∙ sym (map.get-from_entries nat_list_cmp_total (by_keyid entries) name)
