-- The values of a name where lines come after others.
use Rattle.std.proofs.Common.{◌≡◌, ℕ, true, false, ◌||◌, List, [], ◌∷◌, ◌++◌, codes, refl, sym, ap, ◌∙◌, append_assoc}
use Rattle.std.specs.Prelude.{map, filter, reverse}
use Rattle.std.specs.List.{list_all, flat_map, join_by}
use Rattle.std.specs.Str.{byte}
use Rattle.std.proofs.lemmas.Bool.{and_from}
use Rattle.std.proofs.lemmas.Grind.{flat_map-append}
use Rattle.std.proofs.lemmas.List.{append-nil, map-append}
use Rattle.std.proofs.lemmas.List.Elements.{filter-append}
use Rattle.std.proofs.lemmas.List.Folds.{list_any-append}
use Rattle.byte_grammar.specs.Classes.{is_blank, is_line_byte}
use Rattle.byte_grammar.specs.Language.{starts_in}
use Rattle.msg_head.specs.Lines.{FieldLine}
use Rattle.msg_head.specs.RawValues.{RawPieces}
use Rattle.msg_head.specs.Names.{has_name}
use Rattle.msg_head.specs.Values.{has_bytes, value, values, combined_value, is_there}
use Rattle.msg_head.proofs.Unfolded.{raw_has_one_value}

-- ---- a name that no further line has

or_none : (a : _) → (a || false) ≡ a
or_none true = refl
or_none false = refl

none_kept : (ys : List FieldLine) (name : List ℕ) → is_there ys name ≡ false → filter (has_name name) ys ≡ []
none_kept [] name none = refl
none_kept (y ∷ ys) name none = elim (has_name name y) as (λ b. has_name name y ≡ b → filter (has_name name) (y ∷ ys) ≡ []) [
  | true ↦ λ e. absurd (cc (rw e at none))
  | false ↦ λ e. rw e (none_kept ys name (rw e at none))
] refl

pub there_same : (xs ys : List FieldLine) (name : List ℕ) → is_there ys name ≡ false → is_there (xs ++ ys) name ≡ is_there xs name
there_same xs ys name none = list_any-append (has_name name) xs ys ∙ (ap (λ b. is_there xs name || b) none ∙ or_none (is_there xs name))

pub values_same : (xs ys : List FieldLine) (name : List ℕ) → is_there ys name ≡ false → values (xs ++ ys) name ≡ values xs name
values_same xs ys name none =
    ap (λ (ls : List FieldLine). map (λ (line : FieldLine). value line.raw) ls)
    (filter-append (has_name name) xs ys ∙ (ap (λ (zs : List FieldLine). filter (has_name name) xs ++ zs) (none_kept ys name none) ∙ append-nil (filter (has_name name) xs)))

-- ---- one more line of the name

pub one_more : (xs : List FieldLine) (line : FieldLine) (name : List ℕ) → has_name name line ≡ true → values (xs ++ line ∷ []) name ≡ values xs name ++ value line.raw ∷ []
one_more xs line name is =
    let kept : filter (has_name name) (line ∷ []) ≡ line ∷ [] = rw is refl in
    ap (λ (ls : List FieldLine). map (λ (line : FieldLine). value line.raw) ls) (filter-append (has_name name) xs (line ∷ []) ∙ ap (λ (zs : List FieldLine). filter (has_name name) xs ++ zs) kept)
    ∙ map-append (λ (line : FieldLine). value line.raw) (filter (has_name name) xs) (line ∷ [])

joined_more : (texts : List (List ℕ)) (text : List ℕ) → ¬ (texts ≡ []) → join_by (λ t. t) (codes ", ") (texts ++ text ∷ []) ≡ join_by (λ t. t) (codes ", ") texts ++ (codes ", " ++ text)
joined_more [] text some = absurd (some refl)
joined_more (first ∷ others) text some =
    let more : flat_map (λ t. codes ", " ++ t) (others ++ text ∷ []) ≡ flat_map (λ t. codes ", " ++ t) others ++ (codes ", " ++ text) =
    flat_map-append (λ t. codes ", " ++ t) others (text ∷ []) ∙ ap (λ (t : List ℕ). flat_map (λ u. codes ", " ++ u) others ++ t) (append-nil (codes ", " ++ text)) in
    ap (λ (t : List ℕ). first ++ t) more ∙ sym (append_assoc first (flat_map (λ t. codes ", " ++ t) others) (codes ", " ++ text))

some_value : (xs : List FieldLine) (name : List ℕ) → is_there xs name ≡ true → ¬ (values xs name ≡ [])
some_value [] name there = absurd cc
some_value (x ∷ xs) name there = elim (has_name name x) as (λ b. has_name name x ≡ b → ¬ (values (x ∷ xs) name ≡ [])) [
  | true ↦ λ e. rw e (λ none. absurd (cc none))
  | false ↦ λ e. rw e (some_value xs name (rw e at there))
] refl

no_value : (xs : List FieldLine) (name : List ℕ) → is_there xs name ≡ false → values xs name ≡ []
no_value xs name none = ap (λ (ls : List FieldLine). map (λ (line : FieldLine). value line.raw) ls) (none_kept xs name none)

pub combined_more : (xs : List FieldLine) (line : FieldLine) (name : List ℕ) → has_name name line ≡ true → is_there xs name ≡ true
    → combined_value (xs ++ line ∷ []) name ≡ combined_value xs name ++ (codes ", " ++ value line.raw)
combined_more xs line name is there = ap (join_by (λ t. t) (codes ", ")) (one_more xs line name is) ∙ joined_more (values xs name) (value line.raw) (some_value xs name there)

pub combined_first : (xs : List FieldLine) (line : FieldLine) (name : List ℕ) → has_name name line ≡ true → is_there xs name ≡ false → combined_value (xs ++ line ∷ []) name ≡ value line.raw
combined_first xs line name is none =
    ap (join_by (λ t. t) (codes ", ")) (one_more xs line name is ∙ ap (λ (ts : List (List ℕ)). ts ++ value line.raw ∷ []) (no_value xs name none)) ∙ append-nil (value line.raw)

pub there_more : (xs : List FieldLine) (line : FieldLine) (name : List ℕ) → has_name name line ≡ true → is_there (xs ++ line ∷ []) name ≡ true
there_more xs line name is = list_any-append (has_name name) xs (line ∷ []) ∙ (rw is (true_last (is_there xs name)))
  where
    true_last : (a : _) → (a || (true || false)) ≡ true
    true_last true = refl
    true_last false = refl

-- ---- a value after a space

pub value_after_space : (text : List ℕ) → list_all is_line_byte text ≡ true → has_bytes text ≡ true → starts_in is_blank text ≡ false → starts_in is_blank (reverse text) ≡ false → value (byte " " ∷ text) ≡ text
value_after_space text all some first last =
    let raw = byte " " ∷ text in
    let pieces : RawPieces = record { first = raw; continued = [] } in
    let are = and_from (list_all is_line_byte raw) true all refl in
    sym ((raw_has_one_value raw text (pieces, are, sym (append-nil raw))).0 (record {
      pieces = pieces;
      are = are;
      joined = sym (append-nil raw);
      texts = text ∷ [];
      texts_are = (record { before = codes " "; after = []; joined = ap (λ (t : List ℕ). byte " " ∷ t) (sym (append-nil text)); blanks_before = refl; blanks_after = refl; first = first; last = last }, tt);
      value_is = rw some (sym (append-nil text));
    }))
