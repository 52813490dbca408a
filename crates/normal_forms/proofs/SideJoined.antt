-- Lines of one name that are joined, from the last line to the first.
use Rattle.std.proofs.Common.{◌≡◌, ◌⊎◌, ℕ, ◌+◌, ◌-◌, ◌<◌, Bool, true, false, ◌||◌, nat_lt, Some, None, List, [], ◌∷◌, ◌++◌, length, take, drop, get_or, refl, sym, subst, ap, ◌∙◌, inl, inr, append_assoc, append-nil, length-append, arith, suc}
use Rattle.std.specs.Prelude.{codes, map, position, slice_get, slice_set}
use Rattle.std.specs.List.{All, before_first, flat_map, list_any, position_or_len}
use Rattle.std.specs.Str.{bytes_eq}
use Rattle.std.proofs.lemmas.Bool.{cases_Bool, false≢true}
use Rattle.std.proofs.lemmas.Bool.Decides.{nat_tests}
use Rattle.std.proofs.lemmas.Fn.{FoldsTo-push}
use Rattle.std.proofs.lemmas.Grind.{flat_map-append}
use Rattle.std.proofs.lemmas.List.{get_or-drop, length-drop, length-take-le, map-append, take-append-drop, take_all}
use Rattle.std.proofs.lemmas.List.Elements.{All-append, All-cons, All-get_or, All-head, All-tail}
use Rattle.std.proofs.lemmas.List.Folds.{list_any-append}
use Rattle.std.proofs.lemmas.List.Quantifiers.{position-Some}
use Rattle.std.proofs.lemmas.List.Sums.{passes_at_first}
use Rattle.std.proofs.lemmas.Option.{get_or_from_slice_get, slice_get-get_or, slice_get_cases, slice_get_read, slice_get_within}
use Rattle.std.proofs.lemmas.Slice.Eq.{bytes_eq-Decides}
use Rattle.std.proofs.Math.Seq.{drop-append_seam, drop-length, set-append_seam, take-append_seam}
use Rattle.component_ids.specs.declared.params.SigParams.{SigParams}
use Rattle.msg_body.specs.SameFields.{name_of}
use Rattle.line_rewrites.specs.Permitted.{MayChangeNumber}
use Rattle.msg_head.specs.declared.error.Side.{Side}
use Rattle.msg_head.specs.Lines.{FieldLine}
use Rattle.msg_head.specs.Names.{has_name}
use Rattle.msg_head.specs.Values.{has_bytes, is_there, value}
use Rattle.rewrite_script.specs.declared.rewrite.Rewrite.{Rewrite}
use Rattle.rewrite_script.specs.declared.rewrite.Rewrite.TheVariants.{Lines}
use Rattle.normal_forms.specs.LineSteps.{Joins, join_steps}
use Rattle.normal_forms.specs.NormalLines.{IsClean, IsJoined}
use Rattle.normal_forms.specs.tools.Sides.{AreJoinable, IsAlone, IsAloneAt, JoinsAt, JoinsFrom}
use Rattle.normal_forms.proofs.SideSteps.{all_first, all_last, drop_next}
use Rattle.normal_forms.proofs.SideValues.{joined_value}

-- ---- tests

either_left : (a b : Bool) → (a || b) ≡ true → b ≡ false → a ≡ true
either_left true b is none = refl
either_left false b is none = absurd (false≢true (sym none ∙ is))

neither : (a b : Bool) → (a || b) ≡ false → (a ≡ false) × (b ≡ false)
neither true b is = absurd (false≢true (sym is))
neither false b is = (refl, is)

or_middle : (a b c : Bool) → b ≡ true → (a || (b || c)) ≡ true
or_middle true b c is = refl
or_middle false b c is = ap (λ x. x || c) is

moved : (a b c : Bool) → (a || (b || c)) ≡ true → (b || (a || c)) ≡ true
moved true true c is = refl
moved true false c is = refl
moved false true c is = refl
moved false false c is = is

-- ---- lists cut in two ways

first_is : {A : Type 0} (x y : A) (xs ys : List A) → x ∷ xs ≡ y ∷ ys → (x ≡ y) × (xs ≡ ys)
first_is x y xs ys same = (cc, cc)

-- the element is in the first part or in the second one
cut_two : {A : Type 0} (xs ys us : List A) (x : A) (vs : List A) → xs ++ ys ≡ us ++ x ∷ vs
    → ((mid : List A) × (xs ≡ us ++ x ∷ mid) × (vs ≡ mid ++ ys)) ⊎ ((less : List A) × (us ≡ xs ++ less) × (ys ≡ less ++ x ∷ vs))
cut_two [] ys us x vs same = inr (us, refl, same)
cut_two (z ∷ xs) ys [] x vs same =
    let parts = first_is z x (xs ++ ys) vs same in inl (xs, ap (λ y. y ∷ xs) parts.0, sym parts.1)
cut_two (z ∷ xs) ys (u ∷ us) x vs same =
    let parts = first_is z u (xs ++ ys) (us ++ x ∷ vs) same in
    let head = parts.0 in
    elim (cut_two xs ys us x vs parts.1) [
      | inl w ↦ let rest = w.1 in inl (w.0, (λ i. head i ∷ rest i), w.2)
      | inr w ↦ let rest = w.1 in inr (w.0, (λ i. sym head i ∷ rest i), w.2)
    ]

-- the parts around the element of an index are known
parts_at : {A : Type 0} (list xs : List A) (y : A) (ys : List A) (index : ℕ) → list ≡ xs ++ y ∷ ys → index ≡ length xs → (take index list ≡ xs) × (drop index list ≡ y ∷ ys) × (drop (index + 1) list ≡ ys)
parts_at list xs y ys index is there =
    let next : index + 1 ≡ length (xs ++ y ∷ []) = omega (arith, length-append xs (y ∷ []), there) in
    let whole : list ≡ (xs ++ y ∷ []) ++ ys = is ∙ sym (append_assoc xs (y ∷ []) ys) in (
      rw (there, is) (take-append_seam xs (y ∷ ys)),
      rw (there, is) (drop-append_seam xs (y ∷ ys)),
      rw (next, whole) (drop-append_seam (xs ++ y ∷ []) ys),
    )

-- there is an element of the index
pub element_of : {A : Type 0} (xs : List A) (i : ℕ) → i < length xs → (x : A) × (slice_get xs i ≡ Some x)
element_of xs i within = elim (slice_get_cases xs i).1 [
  | inl w ↦ (w.0, w.2)
  | inr w ↦ absurd (omega (arith, w.0, within))
]

pub cut_at : {A : Type 0} (xs : List A) (i : ℕ) (x : A) → slice_get xs i ≡ Some x → (xs ≡ take i xs ++ x ∷ drop (i + 1) xs) × (i ≡ length (take i xs))
cut_at xs i x is = (
  sym (take-append-drop i xs) ∙ ap (λ t. take i xs ++ t) (drop_next xs i x is),
  sym (length-take-le i xs (omega (arith, slice_get_within xs i x is))),
)

-- ---- the first element that passes

module _ {A : Type 0} (p : A → Bool) where
  none_before : (xs : List A) → list_any p (before_first p xs) ≡ false
  none_before [] = refl
  none_before (x ∷ xs) = elim (cases_Bool (p x)) [
    | inl is ↦ rw is refl
    | inr fails ↦
        let one : 1 + position_or_len p xs ≡ suc (position_or_len p xs) = omega arith in
        rw fails (rw one (ap (λ b. b || list_any p (before_first p xs)) fails ∙ none_before xs))
  ]

  position_some : (xs : List A) (k : ℕ) → position p xs ≡ Some k → (nat_lt (position_or_len p xs) (length xs) ≡ true) × (position_or_len p xs ≡ k)
  position_some xs k is = elim (cases_Bool (nat_lt (position_or_len p xs) (length xs))) [
    | inl within ↦ (within, let e : Some (position_or_len p xs) ≡ Some k = rw within at is in cc)
    | inr fails ↦ absurd (let e : None ≡ Some k = rw fails at is in cc)
  ]

  pub position_none : (xs : List A) → position p xs ≡ None → list_any p xs ≡ false
  position_none xs is = elim (cases_Bool (nat_lt (position_or_len p xs) (length xs))) [
    | inl within ↦ absurd (let e : Some (position_or_len p xs) ≡ None = rw within at is in cc)
    | inr fails ↦ ap (list_any p) (sym (take_all (position_or_len p xs) xs (grind (arith, nat_tests)))) ∙ none_before xs
  ]

  -- the first element that passes, of those before which none does
  pub first_same : (xs : List A) (x : A) (ys us : List A) (u : A) (vs : List A) → list_any p xs ≡ false → p x ≡ true → list_any p us ≡ false → p u ≡ true → xs ++ x ∷ ys ≡ us ++ u ∷ vs → x ≡ u
  first_same [] x ys [] u vs none is nothing passes same = (first_is x u ys vs same).0
  first_same [] x ys (v ∷ us) u vs none is nothing passes same =
      absurd (false≢true (sym (neither (p v) (list_any p us) nothing).0 ∙ (ap p (sym (first_is x v ys (us ++ u ∷ vs) same).0) ∙ is)))
  first_same (z ∷ xs) x ys [] u vs none is nothing passes same =
      absurd (false≢true (sym (neither (p z) (list_any p xs) none).0 ∙ (ap p (first_is z u (xs ++ x ∷ ys) vs same).0 ∙ passes)))
  first_same (z ∷ xs) x ys (v ∷ us) u vs none is nothing passes same =
      first_same xs x ys us u vs (neither (p z) (list_any p xs) none).1 is (neither (p v) (list_any p us) nothing).1 passes (first_is z v (xs ++ x ∷ ys) (us ++ u ∷ vs) same).1

  -- the first element that passes is at the position
  pub at_position : (xs : List A) (k : ℕ) (x : A) → position p xs ≡ Some k → slice_get xs k ≡ Some x → (p x ≡ true) × (list_any p (take k xs) ≡ false)
  at_position xs k x is there =
      let first = position_some xs k is in
      let within : position_or_len p xs < length xs = rw first.1 (slice_get_within xs k x there) in
      let here : slice_get xs (position_or_len p xs) ≡ Some x = rw first.1 there in (
        ap p (sym (get_or_from_slice_get xs (position_or_len p xs) x x here)) ∙ passes_at_first p xs x within,
        ap (λ n. list_any p (take n xs)) (sym first.1) ∙ none_before xs,
      )

-- ---- names

is_named : (line : FieldLine) (name : List ℕ) → has_name name line ≡ true → name_of line ≡ name
is_named line name is = (bytes_eq-Decides (name_of line) name).0 is

has_its_name : (line : FieldLine) (name : List ℕ) → name_of line ≡ name → has_name name line ≡ true
has_its_name line name is = (bytes_eq-Decides (name_of line) name).1 is

there_at : (before : List FieldLine) (line : FieldLine) (after : List FieldLine) (name : List ℕ) → name_of line ≡ name → is_there (before ++ line ∷ after) name ≡ true
there_at before line after name is =
    list_any-append (has_name name) before (line ∷ after) ∙ or_middle (is_there before name) (has_name name line) (is_there after name) (has_its_name line name is)

-- ---- lines that are joined

pub none_joined : (side : Side) (params : SigParams) → IsJoined side params []
none_joined side params [] x after is may there = absurd (false≢true there)
none_joined side params (b ∷ before) x after is may there = absurd cc

-- a line that stays alone comes before them
pub alone_joined : (side : Side) (params : SigParams) (line : FieldLine) (rest : List FieldLine) → IsAlone side params line rest → IsJoined side params rest → IsJoined side params (line ∷ rest)
alone_joined side params line rest alone joined [] x after same may there = absurd (false≢true there)
alone_joined side params line rest alone joined (b ∷ before) x after same may there =
    let parts = first_is line b rest (before ++ x ∷ after) same in
    elim (cases_Bool (is_there before (name_of x))) [
      | inl is ↦ joined before x after parts.1 may is
      | inr none ↦
          let named : name_of line ≡ name_of x = ap name_of parts.0 ∙ is_named b (name_of x) (either_left (has_name (name_of x) b) (is_there before (name_of x)) there none) in
          alone before x after parts.1 (subst (λ n. MayChangeNumber side n params) (sym named) may) (sym named) (ap (is_there before) named ∙ none)
    ]

-- two lines become one before them
pub pair_joined : (side : Side) (params : SigParams) (line other : FieldLine) (between : List FieldLine) (next : FieldLine) (after : List FieldLine) → name_of other ≡ name_of line → name_of next ≡ name_of line
    → is_there between (name_of line) ≡ false → IsJoined side params (between ++ next ∷ after) → IsJoined side params (other ∷ (between ++ after))
pair_joined side params line other between next after named same none joined [] x rest is may there = absurd (false≢true there)
pair_joined side params line other between next after named same none joined (b ∷ before) x rest is may there =
    let parts = first_is other b (between ++ after) (before ++ x ∷ rest) is in
    let first : name_of b ≡ name_of line = ap name_of (sym parts.0) ∙ named in
    elim (cut_two between after before x rest parts.1) [
      | inl w ↦ elim (cases_Bool (is_there before (name_of x))) [
        | inl found ↦ joined before x (w.0 ++ next ∷ after) (ap (λ t. t ++ next ∷ after) w.1 ∙ append_assoc before (x ∷ w.0) (next ∷ after)) may found
        | inr fails ↦
            let again : name_of x ≡ name_of line = sym (is_named b (name_of x) (either_left (has_name (name_of x) b) (is_there before (name_of x)) there fails)) ∙ first in
            absurd (false≢true (sym none ∙ (ap (λ ls. is_there ls (name_of line)) w.1 ∙ there_at before x w.0 (name_of line) again)))
      ]
      | inr w ↦
          let name = name_of x in
          let here : (has_name name next || (is_there between name || is_there w.0 name)) ≡ true =
          ap (λ c. c || (is_there between name || is_there w.0 name)) (ap (λ n. bytes_eq n name) (same ∙ sym first))
          ∙ (ap (λ c. has_name name b || c) (sym (list_any-append (has_name name) between w.0) ∙ ap (λ ls. is_there ls name) (sym w.1)) ∙ there) in
          joined (between ++ next ∷ w.0) x rest (ap (λ t. between ++ next ∷ t) w.2 ∙ sym (append_assoc between (next ∷ w.0) (x ∷ rest))) may
          (list_any-append (has_name name) between (next ∷ w.0) ∙ moved (has_name name next) (is_there between name) (is_there w.0 name) here)
    ]

-- ---- one line

-- the line at the index is the one of a cut there
pub line_is : (lines before : List FieldLine) (x : FieldLine) (others : List FieldLine) (index : ℕ) (line : FieldLine) → lines ≡ before ++ x ∷ others → index ≡ length before → slice_get lines index ≡ Some line
    → (x ≡ line) × (others ≡ drop (index + 1) lines)
line_is lines before x others index line are there is =
    let parts = parts_at lines before x others index are there in
    ((first_is x line others (drop (index + 1) lines) (sym parts.1 ∙ drop_next lines index line is)).0, sym parts.2)

pub alone_by_name : (side : Side) (params : SigParams) (lines : List FieldLine) (index : ℕ) (line : FieldLine) → slice_get lines index ≡ Some line → is_there (drop (index + 1) lines) (name_of line) ≡ false
    → IsAloneAt side params lines index
alone_by_name side params lines index line is none before x others lines_are there between next after others_are may same fails =
    let here = line_is lines before x others index line lines_are there is in
    let named : name_of next ≡ name_of line = same ∙ ap name_of here.0 in
    absurd (false≢true (sym none ∙ (ap (λ ls. is_there ls (name_of line)) (sym here.1 ∙ others_are) ∙ there_at between next after (name_of line) named)))

pub alone_by_value : (side : Side) (params : SigParams) (lines : List FieldLine) (index k : ℕ) (line next : FieldLine) → slice_get lines index ≡ Some line → position (has_name (name_of line)) (drop (index + 1) lines) ≡ Some k
    → slice_get (drop (index + 1) lines) k ≡ Some next → value next.raw ≡ [] → IsAloneAt side params lines index
alone_by_value side params lines index k line next is first next_is empty before x others lines_are there between other after others_are may same fails =
    let here = line_is lines before x others index line lines_are there is in
    let rest = drop (index + 1) lines in
    let found = at_position (has_name (name_of line)) rest k next first next_is in
    let cut = cut_at rest k next next_is in
    let named : name_of other ≡ name_of line = same ∙ ap name_of here.0 in
    let one : next ≡ other =
    first_same (has_name (name_of line)) (take k rest) next (drop (k + 1) rest) between other after found.1 found.0 (ap (λ l. is_there between (name_of l)) (sym here.0) ∙ fails)
    (has_its_name other (name_of line) named) (sym cut.0 ∙ (sym here.1 ∙ others_are)) in
    ap (λ l. value l.raw) (sym one) ∙ empty

pub are_joinable : (side : Side) (params : SigParams) (lines : List FieldLine) (index k : ℕ) (line next : FieldLine) → slice_get lines index ≡ Some line → position (has_name (name_of line)) (drop (index + 1) lines) ≡ Some k
    → slice_get (drop (index + 1) lines) k ≡ Some next → MayChangeNumber side (name_of line) params → has_bytes (value next.raw) ≡ true → AreJoinable side params lines index (index + 1 + k)
are_joinable side params lines index k line next is first next_is may some =
    let rest = drop (index + 1) lines in
    let found = at_position (has_name (name_of line)) rest k next first next_is in
    let outer = cut_at lines index line is in
    let inner = cut_at rest k next next_is in
    record {
      before = take index lines;
      line = line;
      between = take k rest;
      next = next;
      after = drop (k + 1) rest;
      lines_are = outer.0 ∙ ap (λ ls. take index lines ++ line ∷ ls) inner.0;
      there = outer.1;
      later_there = omega (arith, outer.1, inner.1);
      same = is_named next (name_of line) found.0;
      none_between = found.1;
      may = may;
      some = some;
    }

-- the line of the index, and the first after it that has its name
pub record NextNamed (lines : List FieldLine) (index k : ℕ) (line next : FieldLine) : Type 0 where
  pub here : slice_get lines index ≡ Some line
  pub first : position (has_name (name_of line)) (drop (index + 1) lines) ≡ Some k
  pub next_here : slice_get (drop (index + 1) lines) k ≡ Some next
  pub next_value : value next.raw ≡ next.raw

clean_at : (lines : List FieldLine) (index : ℕ) (line : FieldLine) → index < length lines → All IsClean lines → line ≡ get_or lines index line → IsClean line
clean_at lines index line there clean is = subst IsClean (sym is) (All-get_or IsClean lines index line there clean)

-- what is searched is all that comes after the line
named_after : (lines : List FieldLine) (index : ℕ) (line : FieldLine) → index < length lines → All IsClean lines → line ≡ get_or lines index line
    → position (has_name line.name) (take (length lines - (index + 1)) (drop (index + 1) lines)) ≡ position (has_name (name_of line)) (drop (index + 1) lines)
named_after lines index line there clean is =
    let low = (clean_at lines index line there clean is).name in
    let whole = take_all (length lines - (index + 1)) (drop (index + 1) lines) (omega (arith, length-drop (index + 1) lines)) in
    (λ i. position (has_name (sym low i)) (whole i))

pub line_here : (lines : List FieldLine) (index : ℕ) (line : FieldLine) → index < length lines → line ≡ get_or lines index line → slice_get lines index ≡ Some line
line_here lines index line there is = slice_get_read lines (length lines) index line refl there is

pub none_named : (lines : List FieldLine) (index : ℕ) (line : FieldLine) → index < length lines → All IsClean lines → line ≡ get_or lines index line
    → None ≡ position (has_name line.name) (take (length lines - (index + 1)) (drop (index + 1) lines)) → is_there (drop (index + 1) lines) (name_of line) ≡ false
none_named lines index line there clean is none =
    position_none (has_name (name_of line)) (drop (index + 1) lines) (sym (none ∙ named_after lines index line there clean is))

pub next_named : (lines : List FieldLine) (index k : ℕ) (line next : FieldLine) → index < length lines → All IsClean lines → line ≡ get_or lines index line
    → Some k ≡ position (has_name line.name) (take (length lines - (index + 1)) (drop (index + 1) lines)) → next ≡ get_or lines (index + 1 + k) next → NextNamed lines index k line next
next_named lines index k line next there clean is some next_is =
    let first = sym (some ∙ named_after lines index line there clean is) in
    let rest = drop (index + 1) lines in
    let within = (position-Some (has_name (name_of line)) rest k next first).0 in
    let next_there : index + 1 + k < length lines = omega (arith, within, length-drop (index + 1) lines) in
    record {
      here = line_here lines index line there is;
      first = first;
      next_here = slice_get-get_or rest k next within ∙ ap Some (get_or-drop (index + 1) lines k next ∙ sym next_is);
      next_value = (clean_at lines (index + 1 + k) next next_there clean next_is).raw;
    }

-- what the names compare as
pub same_name : (lines : List FieldLine) (index : ℕ) (line : FieldLine) → index < length lines → All IsClean lines → line ≡ get_or lines index line → name_of line ≡ line.name
same_name lines index line there clean is = (clean_at lines index line there clean is).name

-- ---- two lines become one

element_at : {A : Type 0} (xs : List A) (y : A) (ys : List A) → slice_get (xs ++ y ∷ ys) (length xs) ≡ Some y
element_at [] y ys = refl
element_at (x ∷ xs) y ys = element_at xs y ys

-- the lines after the later one is taken out, and the line has its value too
pub joined_there : (lines before : List FieldLine) (line : FieldLine) (between : List FieldLine) (next : FieldLine) (after : List FieldLine) (index later : ℕ) → lines ≡ before ++ line ∷ (between ++ next ∷ after)
    → index ≡ length before → later ≡ length before + 1 + length between → (slice_get lines index ≡ Some line) × (slice_get lines later ≡ Some next) × (take later lines ++ drop (later + 1) lines ≡ before ++ line ∷ (between ++ after))
joined_there lines before line between next after index later are there later_there =
    let whole : lines ≡ (before ++ line ∷ between) ++ next ∷ after = are ∙ sym (append_assoc before (line ∷ between) (next ∷ after)) in
    let size : later ≡ length (before ++ line ∷ between) = omega (arith, later_there, length-append before (line ∷ between)) in
    let cut = parts_at lines (before ++ line ∷ between) next after later whole size in
    let left = cut.0 in
    let right = cut.2 in (
      rw (there, are) (element_at before line (between ++ next ∷ after)),
      rw (size, whole) (element_at (before ++ line ∷ between) next after),
      (λ i. left i ++ right i) ∙ append_assoc before (line ∷ between) after,
    )

pub joins_at : (lines left : List FieldLine) (index later : ℕ) (line next joined : FieldLine) → later < length lines → left ≡ take later lines ++ drop (later + 1) lines → next ≡ get_or lines later next → line ≡ get_or left index line
    → joined ≡ record { name = line.name; raw = line.raw ++ (codes ", " ++ next.raw) } → JoinsAt index later lines (slice_set left index joined)
joins_at lines left index later line next joined there left_is next_is line_is joined_is before one between other after lines_are index_is later_is =
    let parts = joined_there lines before one between other after index later lines_are index_is later_is in
    let rest = left_is ∙ parts.2 in
    let next_same : next ≡ other = next_is ∙ get_or_from_slice_get lines later other next parts.1 in
    let here : slice_get left index ≡ Some one = rw (index_is, rest) (element_at before one (between ++ after)) in
    let line_same : line ≡ one = line_is ∙ get_or_from_slice_get left index one line here in
    let whole : joined ≡ record { name = one.name; raw = one.raw ++ (codes ", " ++ other.raw) } =
    joined_is ∙ (λ i. record { name = (line_same i).name; raw = (line_same i).raw ++ (codes ", " ++ (next_same i).raw) }) in
    rw (index_is, rest) (set-append_seam before one (between ++ after) joined) ∙ ap (λ (l : FieldLine). before ++ l ∷ (between ++ after)) whole

-- ---- from the last line to the first

pub joins_start : (side : Side) (params : SigParams) (lines : List FieldLine) (left : ℕ) (steps : List Rewrite) → left ≡ length lines → All IsClean lines → JoinsFrom side params lines lines left steps steps
joins_start side params lines left steps all clean = record {
  joins = record { pairs = []; join = refl; added = sym (append-nil steps) };
  clean = clean;
  within = omega arith;
  rest = subst (IsJoined side params) (sym (ap (λ n. drop n lines) all ∙ drop-length lines)) (none_joined side params);
}

pub joins_alone : (side : Side) (params : SigParams) (lines joined : List FieldLine) (left : ℕ) (before now : List Rewrite) → 0 < left → IsAloneAt side params joined (left - 1) → JoinsFrom side params lines joined left before now
    → JoinsFrom side params lines joined (left - 1) before now
joins_alone side params lines joined left before now some alone from =
    let here = element_of joined (left - 1) (omega (arith, from.within)) in
    let cut = cut_at joined (left - 1) here.0 here.1 in
    let next : left - 1 + 1 ≡ left = omega arith in
    let rest : drop (left - 1) joined ≡ here.0 ∷ drop left joined = drop_next joined (left - 1) here.0 here.1 ∙ ap (λ n. here.0 ∷ drop n joined) next in
    let stays = alone (take (left - 1) joined) here.0 (drop left joined) (cut.0 ∙ ap (λ n. take (left - 1) joined ++ here.0 ∷ drop n joined) next) cut.1 in
    record {
      joins = from.joins;
      clean = from.clean;
      within = omega (arith, from.within);
      rest = subst (IsJoined side params) (sym rest) (alone_joined side params here.0 (drop left joined) stays from.rest);
    }

-- the line that two clean ones become is clean
clean_pair : (line next : FieldLine) → IsClean line → IsClean next → has_bytes (value next.raw) ≡ true → IsClean (record { name = line.name; raw = line.raw ++ (codes ", " ++ next.raw) })
clean_pair line next clean other some =
    let first = clean.raw in
    let second = other.raw in
    record {
      name = clean.name;
      raw = ap value (λ i. sym first i ++ (codes ", " ++ sym second i)) ∙ (joined_value line.raw next.raw some ∙ (λ i. first i ++ (codes ", " ++ second i)));
    }

steps_more : (side : Side) (pairs : List (ℕ × ℕ)) (pair : ℕ × ℕ) (before now after : List Rewrite) → now ≡ before ++ map Lines (flat_map (join_steps side) pairs) → after ≡ now ++ map Lines (join_steps side pair)
    → after ≡ before ++ map Lines (flat_map (join_steps side) (pairs ++ pair ∷ []))
steps_more side pairs pair before now after is more =
    let made = flat_map (join_steps side) pairs in
    more
    ∙ (ap (λ t. t ++ map Lines (join_steps side pair)) is
    ∙ (append_assoc before (map Lines made) (map Lines (join_steps side pair))
    ∙ ap (λ t. before ++ t) (sym (map-append Lines made (join_steps side pair)) ∙ ap (map Lines) (sym (flat_map-append (join_steps side) pairs (pair ∷ []))))))

pub joins_pair : (side : Side) (params : SigParams) (lines joined others : List FieldLine) (left later : ℕ) (before now after : List Rewrite) → 0 < left → AreJoinable side params joined (left - 1) later
    → JoinsAt (left - 1) later joined others → after ≡ now ++ map Lines (join_steps side (left - 1, later)) → JoinsFrom side params lines joined left before now → JoinsFrom side params lines others (left - 1) before after
joins_pair side params lines joined others left later before now after some j joins added from =
    let one : FieldLine = record { name = j.line.name; raw = j.line.raw ++ (codes ", " ++ j.next.raw) } in
    let others_are = joins j.before j.line j.between j.next j.after j.lines_are j.there j.later_there in
    let whole : All IsClean (j.before ++ j.line ∷ (j.between ++ j.next ∷ j.after)) = subst (All IsClean) j.lines_are from.clean in
    let here : All IsClean (j.line ∷ (j.between ++ j.next ∷ j.after)) = all_last IsClean j.before (j.line ∷ (j.between ++ j.next ∷ j.after)) whole in
    let rest : All IsClean (j.between ++ j.next ∷ j.after) = All-tail IsClean j.line (j.between ++ j.next ∷ j.after) here in
    let end : All IsClean (j.next ∷ j.after) = all_last IsClean j.between (j.next ∷ j.after) rest in
    let line_clean : IsClean j.line = All-head IsClean j.line (j.between ++ j.next ∷ j.after) here in
    let next_clean : IsClean j.next = All-head IsClean j.next j.after end in
    let first = line_clean.raw in
    let second = next_clean.raw in
    let values : one ≡ record { name = j.line.name; raw = value j.line.raw ++ (codes ", " ++ value j.next.raw) } = (λ i. record { name = j.line.name; raw = sym first i ++ (codes ", " ++ sym second i) }) in
    let there = j.there in
    let later_there = j.later_there in
    let next : left - 1 + 1 ≡ left = omega arith in
    let after_it : drop left joined ≡ j.between ++ j.next ∷ j.after =
    ap (λ n. drop n joined) (sym next) ∙ (parts_at joined j.before j.line (j.between ++ j.next ∷ j.after) (left - 1) j.lines_are j.there).2 in
    let last : IsJoined side params (j.between ++ j.next ∷ j.after) = subst (IsJoined side params) after_it from.rest in
    let step : Joins side params joined (left - 1, later) others = record {
      before = j.before;
      line = j.line;
      between = j.between;
      next = j.next;
      after = j.after;
      lines_are = j.lines_are;
      same = j.same;
      none_between = j.none_between;
      may = j.may;
      some = j.some;
      last = last;
      pair_is = (λ i. (there i, later_there i));
      others_are = others_are ∙ ap (λ (l : FieldLine). j.before ++ l ∷ (j.between ++ j.after)) values;
    } in
    let from_it : drop (left - 1) others ≡ one ∷ (j.between ++ j.after) = (parts_at others j.before one (j.between ++ j.after) (left - 1) others_are j.there).1 in
    let joined_rest = pair_joined side params j.line one j.between j.next j.after refl j.same j.none_between last in
    record {
      joins = record {
        pairs = from.joins.pairs ++ (left - 1, later) ∷ [];
        join = FoldsTo-push (Joins side params) lines from.joins.pairs joined (left - 1, later) others from.joins.join step;
        added = steps_more side from.joins.pairs (left - 1, later) before now after from.joins.added added;
      };
      clean = subst (All IsClean) (sym others_are)
          (All-append IsClean j.before (one ∷ (j.between ++ j.after)) (all_first IsClean j.before (j.line ∷ (j.between ++ j.next ∷ j.after)) whole)
          (All-cons IsClean one (j.between ++ j.after) (clean_pair j.line j.next line_clean next_clean j.some)
          (All-append IsClean j.between j.after (all_first IsClean j.between (j.next ∷ j.after) rest) (All-tail IsClean j.next j.after end))));
      within = omega (arith, j.there, ap (λ (ls : List FieldLine). length ls) others_are, length-append j.before (one ∷ (j.between ++ j.after)));
      rest = subst (IsJoined side params) (sym from_it) joined_rest;
    }
