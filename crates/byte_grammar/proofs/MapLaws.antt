-- A finite map by the entries of a map whose keys are owned bytes.
use Rattle.std.proofs.Common.{◌≡◌, ℕ, cond, List, [], ◌∷◌, Some, Vec, Global, Ordering, Less, Equal, Greater, refl, sym, ◌∙◌, ap}
use Rattle.std.specs.BTreeMap.{insert_entry}
use Rattle.std.specs.Cmp.Lexicographic.{slice_cmp, nat_list_cmp_total}
use Rattle.std.specs.FinMap as map
use Rattle.std.specs.FinMap.Entries.{put, by_order, find-put}
use Rattle.std.specs.Map.{lookup}
use Rattle.std.specs.Ordering.{is_eq, nat_cmp, match_ordering}
use Rattle.byte_grammar.specs.tools.ByBytes.{by_bytes}

abbrev Key : Type 0
Key = Vec ℕ Global

abbrev bytes_cmp : List ℕ → List ℕ → Ordering
bytes_cmp = slice_cmp nat_cmp

abbrev key_cmp : Key → Key → Ordering
key_cmp a b = bytes_cmp a.items b.items

-- the entry goes to its place whatever the order of its key and the first one
placed : {X : Type 0} (o : Ordering) (key : Key) (x : X) (e : Key × X) (es more : List (Key × X)) (rest : List (List ℕ × X))
    → by_bytes more ≡ rest
    → by_bytes (match_ordering o ((key, x) ∷ e ∷ es) ((e.0, x) ∷ es) (e ∷ more))
    ≡ by_order o ((key.items, x) ∷ (e.0.items, e.1) ∷ by_bytes es) ((e.0.items, x) ∷ by_bytes es) ((e.0.items, e.1) ∷ rest)
placed Less key x e es more rest same = refl
placed Equal key x e es more rest same = refl
placed {X} Greater key x e es more rest same = ap (λ (l : List (List ℕ × X)). (e.0.items, e.1) ∷ l) same

by_bytes-insert_entry : {X : Type 0} (entries : List (Key × X)) (key : Key) (x : X)
    → by_bytes (insert_entry key_cmp entries key x) ≡ put bytes_cmp key.items x (by_bytes entries)
by_bytes-insert_entry [] key x = refl
by_bytes-insert_entry (e ∷ es) key x =
    placed (key_cmp key e.0) key x e es (insert_entry key_cmp es key x) (put bytes_cmp key.items x (by_bytes es)) (by_bytes-insert_entry es key x)

-- the map after an insert
pub inserted : {X : Type 0} (entries : List (Key × X)) (key : Key) (x : X)
    → map.from_entries {R = bytes_cmp} (by_bytes (insert_entry key_cmp entries key x)) ≡ map.insert (map.from_entries (by_bytes entries)) key.items x
inserted {X} entries key x =
    map.same_map nat_list_cmp_total (map.slice_cmp-IsAntisymmetric map.nat_cmp-IsAntisymmetric) _ _ (λ bytes.
    map.get-from_entries nat_list_cmp_total (by_bytes (insert_entry key_cmp entries key x)) bytes
    ∙ ap (map.find {X = X} bytes_cmp bytes) (by_bytes-insert_entry entries key x)
    ∙ find-put bytes_cmp nat_list_cmp_total bytes key.items x (by_bytes entries)
    ∙ ap (cond (is_eq (bytes_cmp bytes key.items)) (Some x)) (sym (map.get-from_entries nat_list_cmp_total (by_bytes entries) bytes))
    ∙ sym (map.get-insert nat_list_cmp_total (map.from_entries (by_bytes entries)) key.items x bytes))

lookup_is_find : {X : Type 0} (entries : List (Key × X)) (bytes : List ℕ)
    → lookup (λ (key : Key). is_eq (bytes_cmp bytes key.items)) entries ≡ map.find bytes_cmp bytes (by_bytes entries)
lookup_is_find [] bytes = refl
lookup_is_find (e ∷ es) bytes = ap (cond (is_eq (bytes_cmp bytes e.0.items)) (Some e.1)) (lookup_is_find es bytes)

-- what the map has under the bytes
pub looked_up : {X : Type 0} (entries : List (Key × X)) (bytes : List ℕ)
    → lookup (λ (key : Key). is_eq (bytes_cmp bytes key.items)) entries ≡ map.get (map.from_entries {R = bytes_cmp} (by_bytes entries)) bytes
looked_up entries bytes = lookup_is_find entries bytes ∙ sym (map.get-from_entries nat_list_cmp_total (by_bytes entries) bytes)
