-- A message has one list of steps that make it normal, and one normal message.
use Rattle.std.proofs.Common.{◌≡◌, ◌⊎◌, ℕ, ◌+◌, Bool, true, false, not, List, [], ◌∷◌, ◌++◌, length, take, drop, codes, refl, sym, subst, ap, ◌∙◌, inl, inr, append_assoc, length-append}
use Rattle.std.specs.Prelude.{map, reverse}
use Rattle.std.specs.List.{All, FoldsTo, flat_map, list_all, list_any, slice_split}
use Rattle.std.specs.Str.{byte}
use Rattle.std.proofs.lemmas.Bool.{and_from, and_parts, both_ways, cases_Bool, false≢true, not-true, not_from_false, or_from, or_left, or_parts, or_right}
use Rattle.std.proofs.lemmas.List.{reverse-append, reverse-reverse}
use Rattle.std.proofs.lemmas.List.Elements.{All-cons, All-head, All-nil, All-tail}
use Rattle.std.proofs.lemmas.List.Folds.{list_any-append}
use Rattle.std.proofs.lemmas.Slice.Eq.{bytes_eq-Decides}
use Rattle.std.proofs.Math.Seq.{drop-append_seam, take-append_seam}
use Rattle.byte_grammar.specs.Classes.{is_blank}
use Rattle.byte_grammar.specs.Language.{starts_in}
use Rattle.byte_grammar.proofs.ListLaws.{all_filter, all_reverse, all_separated, all_split}
use Rattle.msg_head.specs.declared.error.Side.{Side}
use Rattle.msg_head.specs.declared.error.Side.TheVariants.{Header, Trailer}
use Rattle.msg_head.specs.Lines.{FieldLine}
use Rattle.msg_head.specs.Names.{has_name}
use Rattle.msg_head.specs.Values.{has_bytes, is_end, is_there, texts_of, value, without_blanks, without_first_blanks}
use Rattle.msg_body.specs.SameFields.{name_of}
use Rattle.msg_body.specs.Spacing.{ends_in, is_spacing}
use Rattle.msg_body.specs.Messages.{Message}
use Rattle.msg_body.specs.Views.{lines_on}
use Rattle.component_ids.specs.declared.params.SigParams.{SigParams}
use Rattle.rewrite_script.specs.declared.rewrite.LineRewrite.{LineRewrite}
use Rattle.rewrite_script.specs.declared.rewrite.LineRewrite.TheVariants.{Remove, Unfold}
use Rattle.rewrite_script.specs.declared.rewrite.Rewrite.{Rewrite}
use Rattle.rewrite_script.specs.declared.rewrite.Rewrite.TheVariants.{Lines}
use Rattle.line_rewrites.specs.Permitted.{MayChangeNumber, MayChangeValue, kept_names}
use Rattle.line_rewrites.specs.Covered.{covers_field}
use Rattle.line_rewrites.specs.RawValues.{IsUnfolded}
use Rattle.component_ids.specs.Table.{is_listed}
use Rattle.normal_forms.specs.LineSteps.{Cleans, IsLowered, IsTrimmed, IsUnfoldedFirst, Joins, MakeNormal, Removes, join_steps}
use Rattle.normal_forms.specs.NormalLines.{IsClean, IsJoined, IsKept, is_kept}
use Rattle.normal_forms.specs.Steps.{HasNormalSteps, MakeChunksNormal, normal_message}

-- ---- steps one after the other

module _ {P A : Type 0} (R : P → A → P → Type 0) (Stop : P → Type 0)
    (one : (p : P) (a b : A) (q r : P) → R p a q → R p b r → (a ≡ b) × (q ≡ r)) (stops : (p : P) (a : A) (q : P) → Stop p → R p a q → ⊥) where
  one_walk : (xs ys : List A) (p q r : P) → FoldsTo R p xs q → FoldsTo R p ys r → Stop q → Stop r → (xs ≡ ys) × (q ≡ r)
  one_walk [] [] p q r first second a b = (refl, sym first ∙ second)
  one_walk [] (y ∷ ys) p q r first second a b = absurd (stops p y second.0 (subst Stop (sym first) a) second.1)
  one_walk (x ∷ xs) [] p q r first second a b = absurd (stops p x first.0 (subst Stop (sym second) b) first.1)
  one_walk (x ∷ xs) (y ∷ ys) p q r first second a b =
      let step = one p x y first.0 second.0 first.1 second.1 in
      let rest = one_walk xs ys first.0 q r first.2 (subst (λ (s : P). FoldsTo R s ys r) (sym step.1) second.2) a b in
      (ap (λ (t : A). t ∷ xs) step.0 ∙ ap (λ (ts : List A). y ∷ ts) rest.0, rest.1)

-- ---- lists that are cut at an element

module _ {X : Type 0} where
  -- neither element is among those after the other
  one_cut : (before other : List X) (x y : X) (xs ys : List X) → ((mid : List X) → xs ≡ mid ++ y ∷ ys → ⊥) → ((mid : List X) → ys ≡ mid ++ x ∷ xs → ⊥)
      → before ++ x ∷ xs ≡ other ++ y ∷ ys → (before ≡ other) × (x ≡ y) × (xs ≡ ys)
  one_cut [] [] x y xs ys a b same = let first : x ≡ y = cc in let rest : xs ≡ ys = cc in (refl, first, rest)
  one_cut [] (o ∷ other) x y xs ys a b same = let rest : xs ≡ other ++ y ∷ ys = cc in absurd (a other rest)
  one_cut (o ∷ before) [] x y xs ys a b same = let rest : ys ≡ before ++ x ∷ xs = cc in absurd (b before rest)
  one_cut (o ∷ before) (p ∷ other) x y xs ys a b same =
      let first : o ≡ p = cc in
      let rest : before ++ x ∷ xs ≡ other ++ y ∷ ys = cc in
      let cut = one_cut before other x y xs ys a b rest in
      (ap (λ (z : X). z ∷ before) first ∙ ap (λ (zs : List X). p ∷ zs) cut.0, cut.1, cut.2)

  module _ (Passes : X → Type 0) where
    all_middle : (before : List X) (x : X) (after : List X) → All Passes (before ++ x ∷ after) → Passes x
    all_middle [] x after all = All-head Passes x after all
    all_middle (o ∷ before) x after all = all_middle before x after (All-tail Passes o (before ++ x ∷ after) all)

    -- the last that fails
    one_last : (before other : List X) (x y : X) (xs ys : List X) → All Passes xs → (Passes x → ⊥) → All Passes ys → (Passes y → ⊥) → before ++ x ∷ xs ≡ other ++ y ∷ ys
        → (before ≡ other) × (x ≡ y) × (xs ≡ ys)
    one_last before other x y xs ys a x_fails b y_fails same =
        one_cut before other x y xs ys (λ mid is. y_fails (all_middle mid y ys (subst (All Passes) is a))) (λ mid is. x_fails (all_middle mid x xs (subst (All Passes) is b))) same

    -- the first that fails
    one_first : (before other : List X) (x y : X) (xs ys : List X) → All Passes before → (Passes x → ⊥) → All Passes other → (Passes y → ⊥) → before ++ x ∷ xs ≡ other ++ y ∷ ys
        → (before ≡ other) × (x ≡ y) × (xs ≡ ys)
    one_first [] [] x y xs ys a x_fails b y_fails same = let first : x ≡ y = cc in let rest : xs ≡ ys = cc in (refl, first, rest)
    one_first [] (o ∷ other) x y xs ys a x_fails b y_fails same = let first : o ≡ x = cc in absurd (x_fails (subst Passes first (All-head Passes o other b)))
    one_first (o ∷ before) [] x y xs ys a x_fails b y_fails same = let first : o ≡ y = cc in absurd (y_fails (subst Passes first (All-head Passes o before a)))
    one_first (o ∷ before) (p ∷ other) x y xs ys a x_fails b y_fails same =
        let first : o ≡ p = cc in
        let rest : before ++ x ∷ xs ≡ other ++ y ∷ ys = cc in
        let cut = one_first before other x y xs ys (All-tail Passes o before a) x_fails (All-tail Passes p other b) y_fails rest in
        (ap (λ (z : X). z ∷ before) first ∙ ap (λ (zs : List X). p ∷ zs) cut.0, cut.1, cut.2)

  -- a test that no element passes
  none_pass : (test : X → Bool) (xs : List X) → list_any test xs ≡ false → All (λ x. test x ≡ false) xs
  none_pass test [] none = All-nil (λ x. test x ≡ false)
  none_pass test (x ∷ xs) none =
      let both = or_parts (test x) (list_any test xs) none in
      All-cons (λ z. test z ≡ false) x xs both.0 (none_pass test xs both.1)

-- ---- values have no ends of lines

abbrev goes_on : ℕ → Bool
goes_on c = not (is_end c)

first_gone : (p : ℕ → Bool) (text : List ℕ) → list_all p text ≡ true → list_all p (without_first_blanks text) ≡ true
first_gone p [] all = refl
first_gone p (c ∷ rest) all = elim (cases_Bool (is_blank c)) [
  | inl blank ↦ rw blank (first_gone p rest (and_parts (p c) (list_all p rest) all).1)
  | inr solid ↦ rw solid all
]

blanks_gone : (p : ℕ → Bool) (text : List ℕ) → list_all p text ≡ true → list_all p (without_blanks text) ≡ true
blanks_gone p text all =
    let first = without_first_blanks text in
    all_reverse p (without_first_blanks (reverse first)) (first_gone p (reverse first) (all_reverse p first (first_gone p text all)))

pieces_gone : (p : ℕ → Bool) (pieces : List (List ℕ)) → list_all (list_all p) pieces ≡ true → list_all (list_all p) (map without_blanks pieces) ≡ true
pieces_gone p [] all = refl
pieces_gone p (piece ∷ pieces) all =
    let both = and_parts (list_all p piece) (list_all (list_all p) pieces) all in
    and_from (list_all p (without_blanks piece)) (list_all (list_all p) (map without_blanks pieces)) (blanks_gone p piece both.0) (pieces_gone p pieces both.1)

any_byte : (text : List ℕ) → list_all (λ (c : ℕ). true) text ≡ true
any_byte [] = refl
any_byte (c ∷ rest) = any_byte rest

none_ends : (text : List ℕ) → list_all goes_on text ≡ true → list_any is_end text ≡ false
none_ends [] all = refl
none_ends (c ∷ rest) all =
    let both = and_parts (goes_on c) (list_all goes_on rest) all in
    or_from (is_end c) (list_any is_end rest) (not-true (is_end c) both.0) (none_ends rest both.1)

-- whatever the raw value is
pub value_no_end : (raw : List ℕ) → list_any is_end (value raw) ≡ false
value_no_end raw =
    let pieces = all_split goes_on is_end (λ (c : ℕ). true) (λ c passes no_end. not_from_false (is_end c) no_end) raw (any_byte raw) in
    let texts = all_filter (list_all goes_on) has_bytes (map without_blanks (slice_split is_end raw)) (pieces_gone goes_on (slice_split is_end raw) pieces) in
    none_ends (value raw) (all_separated goes_on (λ text. text) (codes " ") (list_all goes_on) refl (λ text is. is) (texts_of raw) texts)

-- ---- a raw value without its first fold

spacing_gone : (one other after rest : List ℕ) → list_all is_spacing one ≡ true → list_all is_spacing other ≡ true → starts_in is_spacing after ≡ false → starts_in is_spacing rest ≡ false
    → one ++ after ≡ other ++ rest → after ≡ rest
spacing_gone [] [] after rest a b begins also same = same
spacing_gone [] (c ∷ other) after rest a b begins also same =
    absurd (both_ways (starts_in is_spacing after) begins (ap (starts_in is_spacing) same ∙ (and_parts (is_spacing c) (list_all is_spacing other) b).0))
spacing_gone (c ∷ one) [] after rest a b begins also same =
    absurd (both_ways (starts_in is_spacing rest) also (ap (starts_in is_spacing) (sym same) ∙ (and_parts (is_spacing c) (list_all is_spacing one) a).0))
spacing_gone (c ∷ one) (d ∷ other) after rest a b begins also same =
    let others : one ++ after ≡ other ++ rest = cc in
    spacing_gone one other after rest (and_parts (is_spacing c) (list_all is_spacing one) a).1 (and_parts (is_spacing d) (list_all is_spacing other) b).1 begins also others

last_spacing_gone : (before other one last : List ℕ) → list_all is_spacing one ≡ true → list_all is_spacing last ≡ true → ends_in is_spacing before ≡ false → ends_in is_spacing other ≡ false
    → before ++ one ≡ other ++ last → before ≡ other
last_spacing_gone before other one last a b ends also same =
    let turned = spacing_gone (reverse one) (reverse last) (reverse before) (reverse other) (all_reverse is_spacing one a) (all_reverse is_spacing last b) ends also
    (sym (reverse-append before one) ∙ (ap (λ (t : List ℕ). reverse t) same ∙ reverse-append other last)) in
    sym (reverse-reverse before) ∙ (ap (λ (t : List ℕ). reverse t) turned ∙ reverse-reverse other)

one_unfolded : (offset : ℕ) (raw one other : List ℕ) → IsUnfolded offset raw one → IsUnfolded offset raw other → one ≡ other
one_unfolded offset raw one other a b =
    let front = a.before ++ a.first in
    let first = b.before ++ b.first in
    let back = codes "\r\n" ++ (a.last ++ a.after) in
    let last = codes "\r\n" ++ (b.last ++ b.after) in
    let joined : front ++ back ≡ first ++ last = append_assoc a.before a.first back ∙ (sym a.joined ∙ (b.joined ∙ sym (append_assoc b.before b.first last))) in
    let sizes : length front ≡ length first = length-append a.before a.first ∙ (sym a.there ∙ (b.there ∙ sym (length-append b.before b.first))) in
    let fronts : front ≡ first =
    sym (take-append_seam front back) ∙ (ap (λ (t : List ℕ). take (length front) t) joined ∙ (ap (λ (n : ℕ). take n (first ++ last)) sizes ∙ take-append_seam first last)) in
    let backs : back ≡ last =
    sym (drop-append_seam front back) ∙ (ap (λ (t : List ℕ). drop (length front) t) joined ∙ (ap (λ (n : ℕ). drop n (first ++ last)) sizes ∙ drop-append_seam first last)) in
    let before = last_spacing_gone a.before b.before a.first b.first a.spacing_first b.spacing_first a.ends b.ends fronts in
    let after = spacing_gone a.last b.last a.after b.after a.spacing_last b.spacing_last a.begins b.begins (ap (λ (t : List ℕ). drop 2 t) backs) in
    a.unfolded_is ∙ ((λ i. before i ++ byte " " ∷ after i) ∙ sym b.unfolded_is)

-- ---- lines that go

module _ (side : Side) (params : SigParams) where
  not_kept : (line : FieldLine) → MayChangeValue side (name_of line) params → IsKept side params line → ⊥
  not_kept line goes kept = both_ways (is_kept side params (name_of line)) (or_from (is_listed kept_names (name_of line)) (covers_field side (name_of line) params) goes.kept goes.covered) kept

  one_removal : (lines : List FieldLine) (step other : LineRewrite) (q r : List FieldLine) → Removes side params lines step q → Removes side params lines other r → (step ≡ other) × (q ≡ r)
  one_removal lines step other q r a b =
      let cut = one_last (IsKept side params) a.before b.before a.line b.line a.after b.after a.last (not_kept a.line a.goes) b.last (not_kept b.line b.goes) (sym a.lines_are ∙ b.lines_are) in
      (a.step_is ∙ (ap (λ (ls : List FieldLine). Remove side (length ls)) cut.0 ∙ sym b.step_is), a.others_are ∙ ((λ i. cut.0 i ++ cut.2 i) ∙ sym b.others_are))

  no_removal : (lines : List FieldLine) (step : LineRewrite) (q : List FieldLine) → All (IsKept side params) lines → Removes side params lines step q → ⊥
  no_removal lines step q kept a = not_kept a.line a.goes (all_middle (IsKept side params) a.before a.line a.after (subst (All (IsKept side params)) a.lines_are kept))

-- ---- lines that become clean

module _ (side : Side) where
  -- a line becomes another by the step
  abbrev Becomes : ℕ → FieldLine → LineRewrite → FieldLine → Type 0
  Becomes index line step other = IsLowered side index line step other ⊎ IsUnfoldedFirst side index line step other ⊎ IsTrimmed side index line step other

  has_end : (raw before after : List ℕ) → raw ≡ before ++ (codes "\r\n" ++ after) → list_any is_end raw ≡ true
  has_end raw before after is =
      ap (list_any is_end) is ∙ (list_any-append is_end before (codes "\r\n" ++ after) ∙ or_right (list_any is_end before) (list_any is_end (codes "\r\n" ++ after)) refl)

  not_clean : (index : ℕ) (line : FieldLine) (step : LineRewrite) (other : FieldLine) → Becomes index line step other → IsClean line → ⊥
  not_clean index line step other (inl lowered) clean = lowered.name clean.name
  not_clean index line step other (inr (inl first)) clean =
      both_ways (list_any is_end line.raw) (ap (list_any is_end) (sym clean.raw) ∙ value_no_end line.raw) (has_end line.raw first.before first.after first.raw_is)
  not_clean index line step other (inr (inr trimmed)) clean = trimmed.blanks clean.raw

  one_unfolding : (index : ℕ) (line : FieldLine) (step another : LineRewrite) (one other : FieldLine) → IsUnfoldedFirst side index line step one
      → IsUnfoldedFirst side index line another other → (step ≡ another) × (one ≡ other)
  one_unfolding index line step another one other a b =
      let cr = λ (passes : is_end (byte "\r") ≡ false). false≢true (sym passes) in
      let cut = one_first (λ (c : ℕ). is_end c ≡ false) a.before b.before (byte "\r") (byte "\r") (byte "\n" ∷ a.after) (byte "\n" ∷ b.after) (none_pass is_end a.before a.first) cr
      (none_pass is_end b.before b.first) cr (sym a.raw_is ∙ b.raw_is) in
      let also = subst (λ (t : List ℕ). IsUnfolded (length t) line.raw other.raw) (sym cut.0) b.unfolded in
      let raws = one_unfolded (length a.before) line.raw one.raw other.raw a.unfolded also in
      let names : one.name ≡ other.name = a.other_is ∙ sym b.other_is in
      (a.step_is ∙ (ap (λ (t : List ℕ). Unfold side index (length t)) cut.0 ∙ sym b.step_is), λ i. record { name = names i; raw = raws i })

  one_becomes : (index : ℕ) (line : FieldLine) (step another : LineRewrite) (one other : FieldLine) → Becomes index line step one → Becomes index line another other
      → (step ≡ another) × (one ≡ other)
  one_becomes index line step another one other (inl a) (inl b) = (a.step_is ∙ sym b.step_is, a.other_is ∙ sym b.other_is)
  one_becomes index line step another one other (inl a) (inr (inl b)) = absurd (a.name b.name)
  one_becomes index line step another one other (inl a) (inr (inr b)) = absurd (a.name b.name)
  one_becomes index line step another one other (inr (inl a)) (inl b) = absurd (b.name a.name)
  one_becomes index line step another one other (inr (inr a)) (inl b) = absurd (b.name a.name)
  one_becomes index line step another one other (inr (inl a)) (inr (inl b)) = one_unfolding index line step another one other a b
  one_becomes index line step another one other (inr (inl a)) (inr (inr b)) = absurd (both_ways (list_any is_end line.raw) b.whole (has_end line.raw a.before a.after a.raw_is))
  one_becomes index line step another one other (inr (inr a)) (inr (inl b)) = absurd (both_ways (list_any is_end line.raw) a.whole (has_end line.raw b.before b.after b.raw_is))
  one_becomes index line step another one other (inr (inr a)) (inr (inr b)) = (a.step_is ∙ sym b.step_is, a.other_is ∙ sym b.other_is)

  one_cleaning : (lines : List FieldLine) (step another : LineRewrite) (q r : List FieldLine) → Cleans side lines step q → Cleans side lines another r → (step ≡ another) × (q ≡ r)
  one_cleaning lines step another q r a b =
      let cut = one_first IsClean a.before b.before a.line b.line a.after b.after a.first (not_clean (length a.before) a.line step a.other a.becomes) b.first
      (not_clean (length b.before) b.line another b.other b.becomes) (sym a.lines_are ∙ b.lines_are) in
      let at = subst (λ (ls : List FieldLine). Becomes (length ls) b.line another b.other) (sym cut.0) b.becomes in
      let also = subst (λ (l : FieldLine). Becomes (length a.before) l another b.other) (sym cut.1) at in
      let both = one_becomes (length a.before) a.line step another a.other b.other a.becomes also in
      (both.0, a.others_are ∙ ((λ i. cut.0 i ++ both.1 i ∷ cut.2 i) ∙ sym b.others_are))

  no_cleaning : (lines : List FieldLine) (step : LineRewrite) (q : List FieldLine) → All IsClean lines → Cleans side lines step q → ⊥
  no_cleaning lines step q clean a =
      not_clean (length a.before) a.line step a.other a.becomes (all_middle IsClean a.before a.line a.after (subst (All IsClean) a.lines_are clean))

-- ---- lines that are joined

module _ (side : Side) (params : SigParams) where
  -- among lines that are joined none may be joined with a later one
  not_joined : (lines : List FieldLine) → IsJoined side params lines → (mid : List FieldLine) (line : FieldLine) (between : List FieldLine) (next : FieldLine) (after : List FieldLine)
      → lines ≡ mid ++ line ∷ (between ++ next ∷ after) → name_of next ≡ name_of line → MayChangeNumber side (name_of line) params → has_bytes (value next.raw) ≡ true → ⊥
  not_joined lines joined mid line between next after are same may some =
      let first = mid ++ line ∷ between in
      let here : lines ≡ first ++ next ∷ after = are ∙ sym (append_assoc mid (line ∷ between) (next ∷ after)) in
      let also = subst (λ (n : List ℕ). MayChangeNumber side n params) (sym same) may in
      let named : has_name (name_of next) line ≡ true = (bytes_eq-Decides (name_of line) (name_of next)).1 (sym same) in
      let there : is_there first (name_of next) ≡ true =
      list_any-append (has_name (name_of next)) mid (line ∷ between)
      ∙ or_right (is_there mid (name_of next)) (is_there (line ∷ between) (name_of next)) (or_left (has_name (name_of next) line) (is_there between (name_of next)) named) in
      both_ways (has_bytes (value next.raw)) (ap has_bytes (joined first next after here also there)) some

  one_joining : (lines : List FieldLine) (pair another : ℕ × ℕ) (q r : List FieldLine) → Joins side params lines pair q → Joins side params lines another r → (pair ≡ another) × (q ≡ r)
  one_joining lines pair another q r a b =
      let tail = a.between ++ a.next ∷ a.after in
      let rest = b.between ++ b.next ∷ b.after in
      let cut = one_cut a.before b.before a.line b.line tail rest (λ mid is. not_joined tail a.last mid b.line b.between b.next b.after is b.same b.may b.some)
      (λ mid is. not_joined rest b.last mid a.line a.between a.next a.after is a.same a.may a.some) (sym a.lines_are ∙ b.lines_are) in
      let name = name_of a.line in
      let test = has_name name in
      let named : (l : FieldLine) → name_of l ≡ name → test l ≡ false → ⊥ = λ l is fails. both_ways (test l) fails ((bytes_eq-Decides (name_of l) name).1 is) in
      let same : name_of b.line ≡ name = ap name_of (sym cut.1) in
      let none = ap (is_there b.between) (sym same) ∙ b.none_between in
      let within = one_first (λ (l : FieldLine). test l ≡ false) a.between b.between a.next b.next a.after b.after (none_pass test a.between a.none_between) (named a.next a.same)
      (none_pass test b.between none) (named b.next (b.same ∙ same)) cut.2 in (
        a.pair_is ∙ ((λ i. (length (cut.0 i), length (cut.0 i) + 1 + length (within.0 i))) ∙ sym b.pair_is),
        a.others_are
            ∙ ((λ i. cut.0 i ++ record { name = (cut.1 i).name; raw = value (cut.1 i).raw ++ (codes ", " ++ value (within.1 i).raw) } ∷ (within.0 i ++ within.2 i)) ∙ sym b.others_are),
      )

  no_joining : (lines : List FieldLine) (pair : ℕ × ℕ) (q : List FieldLine) → IsJoined side params lines → Joins side params lines pair q → ⊥
  no_joining lines pair q joined a = not_joined lines joined a.before a.line a.between a.next a.after a.lines_are a.same a.may a.some

  -- ---- a side

  pub one_side : (lines : List FieldLine) (steps others : List LineRewrite) (normal another : List FieldLine) → MakeNormal side params lines steps normal
      → MakeNormal side params lines others another → (steps ≡ others) × (normal ≡ another)
  one_side lines steps others normal another a b =
      let removed = one_walk (Removes side params) (All (IsKept side params)) (one_removal side params) (no_removal side params) a.removals b.removals lines a.kept b.kept a.removed b.removed
      a.all_kept b.all_kept in
      let kept_next = subst (λ (ls : List FieldLine). FoldsTo (Cleans side) ls b.cleanings b.clean) (sym removed.1) b.cleaned in
      let cleaned = one_walk (Cleans side) (All IsClean) (one_cleaning side) (no_cleaning side) a.cleanings b.cleanings a.kept a.clean b.clean a.cleaned kept_next a.all_clean b.all_clean in
      let next = subst (λ (ls : List FieldLine). FoldsTo (Joins side params) ls b.pairs another) (sym cleaned.1) b.joined in
      let joined = one_walk (Joins side params) (λ (ls : List FieldLine). IsJoined side params ls) one_joining no_joining a.pairs b.pairs a.clean normal another a.joined next
      a.all_joined b.all_joined in
      (a.steps_are ∙ ((λ i. removed.0 i ++ (cleaned.0 i ++ flat_map (join_steps side) (joined.0 i))) ∙ sym b.steps_are), joined.1)

-- ---- a message

one_chunking : (message : Message) (steps others : List Rewrite) → MakeChunksNormal message steps → MakeChunksNormal message others → steps ≡ others
one_chunking message steps others (inl a) (inl b) = a.1 ∙ sym b.1
one_chunking message steps others (inl a) (inr b) = absurd (b.0 a.0)
one_chunking message steps others (inr a) (inl b) = absurd (a.0 b.0)
one_chunking message steps others (inr a) (inr b) = a.1 ∙ sym b.1

pub one_normal : (to_head : Bool) (params : SigParams) (message : Message) (steps others : List Rewrite) (normal another : Message) → HasNormalSteps to_head params message steps normal
    → HasNormalSteps to_head params message others another → (steps ≡ others) × (normal ≡ another)
one_normal to_head params message steps others normal another a b =
    let header = one_side Header params (lines_on Header message) a.header_steps b.header_steps a.header b.header a.header_made b.header_made in
    let trailer = one_side Trailer params (lines_on Trailer message) a.trailer_steps b.trailer_steps a.trailer b.trailer a.trailer_made b.trailer_made in
    let chunks = one_chunking message a.chunk_steps b.chunk_steps a.chunks_made b.chunks_made in (
      a.steps_are ∙ ((λ i. map Lines (header.0 i ++ trailer.0 i) ++ chunks i) ∙ sym b.steps_are),
      a.normal_is ∙ ((λ i. normal_message to_head message (header.1 i) (trailer.1 i)) ∙ sym b.normal_is),
    )
