-- A signature base is read in one way: line by line, and each line by its identifier.
use Rattle.std.proofs.Common.{◌≡◌, ◌⊎◌, ◌<◌, ℕ, suc, Bool, true, ◌&&◌, ◌==◌, not, List, [], ◌∷◌, ◌++◌, codes, length, map, refl, sym, ap, subst, ◌∙◌, append_assoc, inl, inr, arith}
use Rattle.std.specs.List.{flat_map, list_all, zip}
use Rattle.std.proofs.lemmas.Bool.{and_parts, cases_Bool, eqb-true, false≢true}
use Rattle.std.proofs.lemmas.List.{append_cancel_left}
use Rattle.std.proofs.lemmas.List.Folds.{list_all-append}
use Rattle.sfv_text.specs.Range.{are_params_in_range, is_string_byte, is_inner_in_range}
use Rattle.sfv_text.specs.Strict.{inner_text}
use Rattle.sfv_text.specs.declared.value.InnerList.{InnerList}
use Rattle.sfv_text.proofs.Printable.{item_is, inner_is}
use Rattle.sfv_read.specs.Reads.{ReadsInner}
use Rattle.sfv_read.proofs.Readings.{inner_has_one_value}
use Rattle.sfv_read.proofs.StrictReads.{inner_text_reads}
use Rattle.component_ids.specs.Identifiers.{id_of, id_text, item_of, is_id_in_range}
use Rattle.component_ids.specs.SignatureParams.{are_sig_params_in_range, list_of, sig_params_text}
use Rattle.component_ids.specs.declared.id.ComponentId.{ComponentId}
use Rattle.component_ids.specs.declared.params.SigParams.{SigParams}
use Rattle.component_ids.proofs.AnswerLaws.{in_range_of_list}
use Rattle.signatures.specs.BaseLaws.{HasOneReading, is_one_line}
use Rattle.signatures.specs.SignatureBase.{component_line, signature_base}

abbrev is_other : ℕ → Bool
is_other c = not (c == 10)

-- ---- one line, and the rest

no_line_end : (c : ℕ) (text : List ℕ) → list_all is_other (c ∷ text) ≡ true → 10 ≡ c → ⊥
no_line_end c text none same = false≢true (subst (λ (d : ℕ). is_other d ≡ true) (sym same) (and_parts (is_other c) (list_all is_other text) none).0)

-- a text that begins with a line, and with other bytes and an LF: the other bytes are the line, or
-- begin with it
split_line : (a b rest more : List ℕ) → list_all is_other a ≡ true → a ++ (10 ∷ rest) ≡ b ++ (10 ∷ more)
    → ((a ≡ b) × (rest ≡ more)) ⊎ ((left : List ℕ) × (rest ≡ left ++ (10 ∷ more)))
split_line [] [] rest more na same = let tails : rest ≡ more = cc in inl (refl, tails)
split_line [] (c ∷ b) rest more na same = let tails : rest ≡ b ++ (10 ∷ more) = cc in inr (b, tails)
split_line (c ∷ a) [] rest more na same = let first : 10 ≡ c = cc in absurd (no_line_end c a na first)
split_line (c ∷ a) (d ∷ b) rest more na same =
    let first : c ≡ d = cc in
    let tails : a ++ (10 ∷ rest) ≡ b ++ (10 ∷ more) = cc in
    elim (split_line a b rest more (and_parts (is_other c) (list_all is_other a) na).1 tails) [
      | inl both ↦ inl ((λ i. first i ∷ both.0 i), both.1)
      | inr longer ↦ inr longer
    ]

-- a text without LF is no line and a rest
not_a_line : (last line rest : List ℕ) → list_all is_other last ≡ true → last ≡ line ++ (10 ∷ rest) → ⊥
not_a_line last line rest none same =
    let h : (list_all is_other line && list_all is_other (10 ∷ rest)) ≡ true = sym (list_all-append is_other line (10 ∷ rest)) ∙ (ap (list_all is_other) (sym same) ∙ none) in
    let second : list_all is_other (10 ∷ rest) ≡ true = (and_parts (list_all is_other line) (list_all is_other (10 ∷ rest)) h).1 in
    false≢true second

-- ---- lines

-- the lines, each with its LF, and a last one without
abbrev text_of : List (List ℕ) → List ℕ → List ℕ
text_of lines last = flat_map (λ line. line ++ (10 ∷ [])) lines ++ last

more_text : (line : List ℕ) (lines : List (List ℕ)) (last : List ℕ) → text_of (line ∷ lines) last ≡ line ++ (10 ∷ text_of lines last)
more_text line lines last = append_assoc (line ++ (10 ∷ [])) (flat_map (λ l. l ++ (10 ∷ [])) lines) last ∙ append_assoc line (10 ∷ []) (text_of lines last)

-- The lines of one text have no LF: the other has as many and the same, or fewer.
one_text : (lines others : List (List ℕ)) (last final : List ℕ) → list_all is_one_line lines ≡ true → list_all is_other last ≡ true → list_all is_other final ≡ true
    → text_of lines last ≡ text_of others final → ((lines ≡ others) ⊎ (length others < length lines)) × (last ≡ final)
one_text [] [] last final a c d same = (inl refl, same)
one_text [] (m ∷ ms) last final a c d same = absurd (not_a_line last m (text_of ms final) c (same ∙ more_text m ms final))
one_text (l ∷ ls) [] last final a c d same = absurd (not_a_line final l (text_of ls last) d (sym same ∙ more_text l ls last))
one_text (l ∷ ls) (m ∷ ms) last final a c d same =
    let p = and_parts (is_one_line l) (list_all is_one_line ls) a in
    elim (split_line l m (text_of ls last) (text_of ms final) p.0 (sym (more_text l ls last) ∙ (same ∙ more_text m ms final))) [
      | inl first ↦
          let others = one_text ls ms last final p.1 c d first.1 in (
            elim others.0 [
              | inl equal ↦ inl (λ i. first.0 i ∷ equal i)
              | inr fewer ↦ inr (omega (arith, fewer))
            ],
            others.1,
          )
      | inr longer ↦
          let others = one_text ls (longer.0 ∷ ms) last final p.1 c d (longer.1 ∙ sym (more_text longer.0 ms final)) in (
            elim others.0 [
              | inl equal ↦ inr (let n : length ls ≡ suc (length ms) = ap length equal in omega (arith, n))
              | inr fewer ↦ inr (omega (arith, fewer))
            ],
            others.1,
          )
    ]

-- ---- the lines of a base

abbrev line_of : ComponentId × List ℕ → List ℕ
line_of component = id_text component.0 ++ (codes ": " ++ component.1)

abbrev last_of : SigParams → List ℕ
last_of params = codes "\"@signature-params\": " ++ sig_params_text params

line_is : (c : ComponentId × List ℕ) → component_line c ≡ line_of c ++ (10 ∷ [])
line_is c = sym (append_assoc (id_text c.0) (codes ": " ++ c.1) (10 ∷ []) ∙ ap (λ (t : List ℕ). id_text c.0 ++ t) (append_assoc (codes ": ") c.1 (10 ∷ [])))

lines_are : (cs : List (ComponentId × List ℕ)) → flat_map component_line cs ≡ flat_map (λ line. line ++ (10 ∷ [])) (map line_of cs)
lines_are [] = refl
lines_are (c ∷ cs) = λ i. line_is c i ++ lines_are cs i

base_is : (params : SigParams) (values : List (List ℕ)) → signature_base params values ≡ text_of (map line_of (zip params.ids values)) (last_of params)
base_is params values = ap (λ (t : List ℕ). t ++ last_of params) (lines_are (zip params.ids values))

-- ---- they have no LF

printable_is_other : (text : List ℕ) → list_all is_string_byte text ≡ true → list_all is_other text ≡ true
printable_is_other [] h = refl
printable_is_other (c ∷ text) h =
    let p = and_parts (is_string_byte c) (list_all is_string_byte text) h in
    and_of (is_other c) (list_all is_other text) (one c p.0) (printable_is_other text p.1)
  where
    and_of : (a b : Bool) → a ≡ true → b ≡ true → (a && b) ≡ true
    and_of a b x y = rw (x, y) refl

    one : (c : ℕ) → is_string_byte c ≡ true → is_other c ≡ true
    one c h = elim (cases_Bool (c == 10)) [
      | inl is ↦ absurd (false≢true (subst (λ (d : ℕ). is_string_byte d ≡ true) (eqb-true c 10 is) h))
      | inr isn't ↦ ap not isn't
    ]

joined_has_none : (a b : List ℕ) → list_all is_other a ≡ true → list_all is_other b ≡ true → list_all is_other (a ++ b) ≡ true
joined_has_none a b x y = list_all-append is_other a b ∙ (rw (x, y) refl)

line_has_none : (id : ComponentId) (value : List ℕ) → is_id_in_range id ≡ true → is_one_line value ≡ true → is_one_line (line_of (id, value)) ≡ true
line_has_none id value ranged one =
    joined_has_none (id_text id) (codes ": " ++ value) (printable_is_other (id_text id) (item_is (item_of id) ranged)) one

lines_have_none : (ids : List ComponentId) (values : List (List ℕ)) → list_all is_id_in_range ids ≡ true → list_all is_one_line values ≡ true
    → list_all is_one_line (map line_of (zip ids values)) ≡ true
lines_have_none [] values ranged one = refl
lines_have_none (id ∷ ids) [] ranged one = refl
lines_have_none (id ∷ ids) (v ∷ values) ranged one =
    let p = and_parts (is_id_in_range id) (list_all is_id_in_range ids) ranged in
    let q = and_parts (is_one_line v) (list_all is_one_line values) one in
    rw (line_has_none id v p.0 q.0, lines_have_none ids values p.1 q.1) refl

last_has_none : (params : SigParams) → are_sig_params_in_range params ≡ true → list_all is_other (last_of params) ≡ true
last_has_none params ranged =
    joined_has_none (codes "\"@signature-params\": ") (sig_params_text params) refl
    (printable_is_other (sig_params_text params) (inner_is (list_of params) (sym (in_range_of_list params) ∙ ranged)))

-- ---- what was signed

one_list : (a b : InnerList) → is_inner_in_range a ≡ true → is_inner_in_range b ≡ true → inner_text a ≡ inner_text b → a ≡ b
one_list a b ra rb same =
    inner_has_one_value (inner_text a) a b (inner_text_reads a ra) (subst (λ (t : List ℕ). ReadsInner t b) (sym same) (inner_text_reads b rb))

ids_back : (ids : List ComponentId) → map id_of (map item_of ids) ≡ ids
ids_back [] = refl
ids_back (id ∷ ids) = ap (λ (others : List ComponentId). id ∷ others) (ids_back ids)

one_params : (params others : SigParams) → are_sig_params_in_range params ≡ true → are_sig_params_in_range others ≡ true → sig_params_text params ≡ sig_params_text others → params ≡ others
one_params params others ra rb same =
    let lists : list_of params ≡ list_of others = one_list (list_of params) (list_of others) (sym (in_range_of_list params) ∙ ra) (sym (in_range_of_list others) ∙ rb) same in
    let ids : params.ids ≡ others.ids = sym (ids_back params.ids) ∙ (ap (λ (l : InnerList). map id_of l.items) lists ∙ ids_back others.ids) in
    λ i. record { ids = ids i; params = (lists i).params }

one_line : (id : ComponentId) (value other : List ℕ) → line_of (id, value) ≡ line_of (id, other) → value ≡ other
one_line id value other same =
    append_cancel_left (codes ": ") value other (append_cancel_left (id_text id) (codes ": " ++ value) (codes ": " ++ other) same)

same_values : (ids : List ComponentId) (values others : List (List ℕ)) → length values ≡ length ids → length others ≡ length ids
    → map line_of (zip ids values) ≡ map line_of (zip ids others) → values ≡ others
same_values [] [] [] n m same = refl
same_values [] [] (o ∷ os) n m same = absurd (omega (arith, m))
same_values [] (v ∷ vs) others n m same = absurd (omega (arith, n))
same_values (id ∷ ids) [] others n m same = absurd (omega (arith, n))
same_values (id ∷ ids) (v ∷ vs) [] n m same = absurd (omega (arith, m))
same_values (id ∷ ids) (v ∷ vs) (o ∷ os) n m same =
    let first : line_of (id, v) ≡ line_of (id, o) = cc in
    let rest : map line_of (zip ids vs) ≡ map line_of (zip ids os) = cc in
    let value = one_line id v o first in
    let values = same_values ids vs os (omega (arith, n)) (omega (arith, m)) rest in
    λ i. value i ∷ values i

line_count : (ids : List ComponentId) (values others : List (List ℕ)) → length values ≡ length ids → length others ≡ length ids
    → length (map line_of (zip ids others)) ≡ length (map line_of (zip ids values))
line_count [] values others n m = refl
line_count (id ∷ ids) [] others n m = absurd (omega (arith, n))
line_count (id ∷ ids) (v ∷ vs) [] n m = absurd (omega (arith, m))
line_count (id ∷ ids) (v ∷ vs) (o ∷ os) n m = ap suc (line_count ids vs os (omega (arith, n)) (omega (arith, m)))

pub one_reading : HasOneReading
one_reading params others values also a one b = (
  (λ same.
      let lines = one_text (map line_of (zip params.ids values)) (map line_of (zip others.ids also)) (last_of params) (last_of others)
      (lines_have_none params.ids values (and_parts (list_all is_id_in_range params.ids) (are_params_in_range params.params) a.in_range).0 one)
      (last_has_none params a.in_range) (last_has_none others b.in_range)
      (sym (base_is params values) ∙ (same ∙ base_is others also)) in
      let signed = one_params params others a.in_range b.in_range
      (append_cancel_left (codes "\"@signature-params\": ") (sig_params_text params) (sig_params_text others) lines.1) in
      let ids : params.ids ≡ others.ids = ap (λ (p : SigParams). p.ids) signed in
      let each : length also ≡ length params.ids = b.each ∙ ap length (sym ids) in
      let back : map line_of (zip others.ids also) ≡ map line_of (zip params.ids also) = ap (λ (ids : List ComponentId). map line_of (zip ids also)) (sym ids) in (
        signed,
        same_values params.ids values also a.each each
            (elim lines.0 [
              | inl equal ↦ equal ∙ back
              | inr fewer ↦ absurd (let n = line_count params.ids values also a.each each in let m = ap length back in omega (arith, fewer, n, m))
            ]),
      )),
  (λ both. λ i. signature_base (both.0 i) (both.1 i)),
)
