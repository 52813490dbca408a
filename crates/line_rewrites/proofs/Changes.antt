-- What a step makes of the lines of its side is what is computed of them.
use Rattle.std.proofs.Common.{◌≡◌, ◌⊎◌, ◌≤◌, ◌<◌, ◌+◌, ◌&&◌, ℕ, zero, suc, Bool, true, false, not, nat_le, nat_lt, Option, Some, None, List, [], ◌∷◌, ◌++◌, length, take, drop, refl, sym, subst, ap, ◌∙◌, inl, inr, append_assoc, arith, length-append}
use Rattle.std.specs.Prelude.{⊤, option_map}
use Rattle.std.specs.List.{slice_get}
use Rattle.std.specs.Str.{bytes_eq, str_to_ascii_lowercase}
use Rattle.std.proofs.lemmas.Bool.{and_parts, and_from, cases_Bool, cases_order, false≢true, leb-true, le-leb, lt-ltb, ltb-true}
use Rattle.std.proofs.lemmas.List.{length-take-le, take-append-drop}
use Rattle.std.proofs.lemmas.Option.{slice_get_within}
use Rattle.std.proofs.lemmas.Slice.Eq.{bytes_eq-Decides}
use Rattle.std.proofs.Math.Seq.{take-append_seam, drop-append_seam}
use Rattle.msg_head.specs.Lines.{FieldLine}
use Rattle.msg_head.specs.Values.{is_there}
use Rattle.rewrite_script.specs.declared.rewrite.LineRewrite.{LineRewrite}
use Rattle.rewrite_script.specs.declared.rewrite.LineRewrite.TheVariants.{Pad, Fold, Unfold, Join, Split, Move, Case, Add, Remove}
use Rattle.line_rewrites.specs.RawValues.{IsFolded, IsPadded, IsUnfolded}
use Rattle.msg_body.specs.SameFields.{name_of}
use Rattle.line_rewrites.specs.LineLists.{ChangesRaw, IsAdded, IsJoined, IsMoved, IsRemoved, IsRenamed, IsSplit, Replaces, line_of}
use Rattle.line_rewrites.specs.tools.Computed.{added, are_joinable, changed, cut_at_comma, folded, joined_at, joined_line, line_becomes, lines_between, moved_at, moved_backward, moved_forward, padded, removed, replaced_at, split_at, split_parts, unfolded, with_line, with_name, with_raw}
use Rattle.line_rewrites.proofs.Cores.{comma_gives, comma_is, fold_gives, fold_is, pad_gives, pad_is, unfold_gives, unfold_is}
use Rattle.line_rewrites.proofs.Parts.{at_index, between_cut, between_is, between_length, cut_index, move_told, moves_backward, moves_forward}
use Rattle.line_rewrites.proofs.Sound.{AreSound, IsSound, sound_parts}

ordered : (a b : ℕ) → (a ≤ b) ⊎ (b < a)
ordered a b = elim (cases_order a b) [
  | inl same ↦ inl (omega (arith, same))
  | inr other ↦ elim other [
    | inl less ↦ inl (omega (arith, less))
    | inr more ↦ inr more
  ]
]

-- the change of the kind
abbrev pub ChangeOf : LineRewrite → List FieldLine → List FieldLine → Type 0
ChangeOf (Pad side index before after) lines new = Replaces (ChangesRaw (IsPadded before after)) index lines new
ChangeOf (Fold side index offset blanks) lines new = Replaces (ChangesRaw (IsFolded offset blanks)) index lines new
ChangeOf (Unfold side index offset) lines new = Replaces (ChangesRaw (IsUnfolded offset)) index lines new
ChangeOf (Join side index later) lines new = IsJoined index later lines new
ChangeOf (Split side index offset) lines new = IsSplit index offset lines new
ChangeOf (Move side index to) lines new = IsMoved index to lines new
ChangeOf (Case side index name) lines new = Replaces (IsRenamed name) index lines new
ChangeOf (Add side index name text) lines new = IsAdded index (line_of name text) lines new
ChangeOf (Remove side index) lines new = IsRemoved index lines new

-- ---- one line

line_same : (line other : FieldLine) → other.name ≡ line.name → (raw : List ℕ) → raw ≡ other.raw → with_raw line raw ≡ other
line_same line other name raw same = λ i. record { name = sym name i; raw = same i }

-- what the step makes of the line is what is computed
abbrev LineGives : LineRewrite → (FieldLine → FieldLine → Type 0) → Type 0
LineGives step Becomes = (line other : FieldLine) → Becomes line other → IsSound other → line_becomes step line ≡ Some other

abbrev LineIs : LineRewrite → (FieldLine → FieldLine → Type 0) → Type 0
LineIs step Becomes = (line other : FieldLine) → line_becomes step line ≡ Some other → Becomes line other

replaced_gives : (step : LineRewrite) (Becomes : FieldLine → FieldLine → Type 0) (index : ℕ) (lines new : List FieldLine) → LineGives step Becomes → Replaces Becomes index lines new → AreSound new
    → replaced_at step index lines (slice_get lines index) ≡ Some new
replaced_gives step Becomes index lines new gives r sound =
    let at = at_index lines r.before r.after r.line index r.lines_are r.there in
    let parts = sound_parts r.before (r.other ∷ r.after) (subst AreSound r.replaced_are sound) in
    let one = gives r.line r.other r.becomes parts.1.0 in
    rw (at.line_is, one, at.before_is, at.after_is) (ap Some (sym r.replaced_are))

replaced_is : (step : LineRewrite) (Becomes : FieldLine → FieldLine → Type 0) (index : ℕ) (lines new : List FieldLine) → LineIs step Becomes → (o : Option FieldLine) → slice_get lines index ≡ o
    → replaced_at step index lines o ≡ Some new → Replaces Becomes index lines new
replaced_is step Becomes index lines new is None there e = absurd cc
replaced_is step Becomes index lines new is (Some line) there e = by (line_becomes step line) refl
  where
    by : (o : Option FieldLine) → line_becomes step line ≡ o → Replaces Becomes index lines new
    by None one = absurd (let f : None ≡ Some new = rw one at e in cc)
    by (Some other) one =
        let f : Some (with_line index lines other) ≡ Some new = rw one at e in
        let cut = cut_index lines index line there in
        record {
          before = take index lines;
          line = line;
          other = other;
          after = drop (index + 1) lines;
          lines_are = cut.0;
          there = cut.1;
          becomes = is line other one;
          replaced_are = cc;
        }

with_raw_is : (line other : FieldLine) (o : Option (List ℕ)) → option_map (with_raw line) o ≡ Some other → (o ≡ Some other.raw) × (other.name ≡ line.name)
with_raw_is line other None e = absurd cc
with_raw_is line other (Some raw) e =
    let same : with_raw line raw ≡ other = cc in (ap (λ (l : FieldLine). Some l.raw) same, sym (ap (λ (l : FieldLine). l.name) same))

-- ---- joined lines

join_gives : (index later : ℕ) (lines new : List FieldLine) → IsJoined index later lines new → joined_at index later lines (slice_get lines index) (slice_get lines later) ≡ Some new
join_gives index later lines new j =
    let rest = j.between ++ j.other ∷ j.after in
    let at = at_index lines j.before rest j.line index j.lines_are j.there in
    let first = j.there in
    let last = j.later_there in
    let whole : lines ≡ (j.before ++ j.line ∷ j.between) ++ j.other ∷ j.after = j.lines_are ∙ sym (append_assoc j.before (j.line ∷ j.between) (j.other ∷ j.after)) in
    let size = length-append j.before (j.line ∷ j.between) in
    let to = at_index lines (j.before ++ j.line ∷ j.between) j.after j.other later whole (omega (arith, size, last)) in
    let between = between_is lines j.between (j.other ∷ j.after) (index + 1) later at.after_is (omega (arith, first, last)) in
    let order = lt-ltb index later (omega (arith, first, last)) in
    let names = (bytes_eq-Decides (name_of j.other) (name_of j.line)).1 j.same in
    let none : not (is_there (lines_between (index + 1) later lines) (name_of j.line)) ≡ true = rw between (ap not j.none_between) in
    let passes : are_joinable index later lines j.line j.other ≡ true = and_from (nat_lt index later) _ order (and_from (bytes_eq (name_of j.other) (name_of j.line)) _ names none) in
    rw (at.line_is, to.line_is, passes) (rw (at.before_is, between, to.after_is) (ap Some (sym j.joined_are)))

join_is : (index later : ℕ) (lines new : List FieldLine) (o p : Option FieldLine) → slice_get lines index ≡ o → slice_get lines later ≡ p → joined_at index later lines o p ≡ Some new → IsJoined index later lines new
join_is index later lines new None p a b e = absurd cc
join_is index later lines new (Some line) None a b e = absurd cc
join_is index later lines new (Some line) (Some other) a b e = elim (cases_Bool (are_joinable index later lines line other)) [
  | inr fails ↦ absurd (let f : None ≡ Some new = rw fails at e in cc)
  | inl passes ↦
      let between = lines_between (index + 1) later lines in
      let f : Some (take index lines ++ joined_line line other ∷ (between ++ drop (later + 1) lines)) ≡ Some new = rw passes at e in
      let order = and_parts (nat_lt index later) (bytes_eq (name_of other) (name_of line) && not (is_there between (name_of line))) passes in
      let names = and_parts (bytes_eq (name_of other) (name_of line)) (not (is_there between (name_of line))) order.1 in
      let less = ltb-true index later order.0 in
      let low = slice_get_within lines later other b in
      let cut = cut_index lines index line a in
      let to = cut_index lines later other b in
      let size = between_length lines (index + 1) later (omega (arith, less)) (omega (arith, low)) in
      let first = cut.1 in
      record {
        before = take index lines;
        line = line;
        between = between;
        other = other;
        after = drop (later + 1) lines;
        lines_are = cut.0 ∙ ap (λ ls. take index lines ++ line ∷ ls) (between_cut lines (index + 1) later (omega (arith, less)) ∙ ap (λ ls. between ++ ls) to.2);
        there = cut.1;
        later_there = omega (arith, size, first, less);
        same = (bytes_eq-Decides (name_of other) (name_of line)).0 names.0;
        none_between = not_true (is_there between (name_of line)) names.1;
        joined_are = cc;
      }
]
  where
    not_true : (b : Bool) → not b ≡ true → b ≡ false
    not_true false is = refl
    not_true true is = absurd (false≢true is)

-- ---- split lines

split_gives : (index offset : ℕ) (lines new : List FieldLine) → IsSplit index offset lines new → split_at index offset lines (slice_get lines index) ≡ Some new
split_gives index offset lines new s =
    let at = at_index lines s.before s.after s.line index s.lines_are s.there in
    let cut = comma_gives offset s.line.raw s.first s.last s.raw_is s.comma_there in
    rw (at.line_is, cut) (rw (at.before_is, at.after_is) (ap Some (sym s.split_are)))

split_is : (index offset : ℕ) (lines new : List FieldLine) (o : Option FieldLine) → slice_get lines index ≡ o → split_at index offset lines o ≡ Some new → IsSplit index offset lines new
split_is index offset lines new None there e = absurd cc
split_is index offset lines new (Some line) there e = by (cut_at_comma offset line.raw) refl
  where
    by : (o : Option (List ℕ × List ℕ)) → cut_at_comma offset line.raw ≡ o → IsSplit index offset lines new
    by None comma = absurd (let f : None ≡ Some new = rw comma at e in cc)
    by (Some parts) comma =
        let f : split_parts index lines line (Some parts) ≡ Some new = rw comma at e in
        let cut = cut_index lines index line there in
        let told = comma_is offset line.raw parts comma in
        record {
          before = take index lines;
          line = line;
          after = drop (index + 1) lines;
          lines_are = cut.0;
          there = cut.1;
          first = parts.0;
          last = parts.1;
          raw_is = told.0;
          comma_there = told.1;
          split_are = cc;
        }

-- ---- moved lines

abbrev AllowsAll : FieldLine → List FieldLine → Type 0
AllowsAll line passed = ⊤

move_gives : (index to : ℕ) (lines new : List FieldLine) → IsMoved index to lines new → moved_at index to lines (slice_get lines index) ≡ Some new
move_gives index to lines new m =
    let told = move_told AllowsAll index to lines new m in
    let low = lt-ltb to (length lines) told.low in elim (ordered index to) [
      | inl le ↦ rw (told.there, low, le-leb index to le) (ap Some (sym (told.forward le).1))
      | inr less ↦ rw (told.there, low, not_le index to less) (ap Some (sym (told.backward less).1))
    ]
  where
    not_le : (a b : ℕ) → b < a → nat_le a b ≡ false
    not_le a b less = elim (cases_Bool (nat_le a b)) [
      | inr no_le ↦ no_le
      | inl le ↦ absurd (let low = leb-true a b le in omega (arith, low, less))
    ]

move_is : (index to : ℕ) (lines new : List FieldLine) (o : Option FieldLine) → slice_get lines index ≡ o → moved_at index to lines o ≡ Some new → IsMoved index to lines new
move_is index to lines new None there e = absurd cc
move_is index to lines new (Some line) there e = elim (cases_Bool (nat_lt to (length lines))) [
  | inr fails ↦ absurd (let f : None ≡ Some new = rw fails at e in cc)
  | inl low ↦ elim (cases_Bool (nat_le index to)) [
    | inl le ↦
        let f : Some (moved_forward index to lines line) ≡ Some new = rw (low, le) at e in
        let same : moved_forward index to lines line ≡ new = cc in
        subst (λ (ls : List FieldLine). IsMoved index to lines ls) same (inl (moves_forward AllowsAll lines index to line there (leb-true index to le) (ltb-true to (length lines) low) tt))
    | inr less ↦
        let f : Some (moved_backward index to lines line) ≡ Some new = rw (low, less) at e in
        let same : moved_backward index to lines line ≡ new = cc in
        subst (λ (ls : List FieldLine). IsMoved index to lines ls) same (inr (moves_backward AllowsAll lines index to line there (lower index to less) tt))
  ]
]
  where
    lower : (a b : ℕ) → nat_le a b ≡ false → b < a
    lower a b no_le = elim (ordered a b) [
      | inl le ↦ absurd (false≢true (sym no_le ∙ le-leb a b le))
      | inr less ↦ less
    ]

-- ---- more lines and fewer

add_gives : (index : ℕ) (line : FieldLine) (lines new : List FieldLine) → IsAdded index line lines new → added index line lines ≡ Some new
add_gives index line lines new a =
    let first = a.there in
    let size = ap (λ (ls : List FieldLine). length ls) a.lines_are ∙ length-append a.before a.after in
    let before : take index lines ≡ a.before = rw (first, a.lines_are) (take-append_seam a.before a.after) in
    let after : drop index lines ≡ a.after = rw (first, a.lines_are) (drop-append_seam a.before a.after) in
    rw (le-leb index (length lines) (omega (arith, size, first))) (rw (before, after) (ap Some (sym a.longer_are)))

add_is : (index : ℕ) (line : FieldLine) (lines new : List FieldLine) → added index line lines ≡ Some new → IsAdded index line lines new
add_is index line lines new e = elim (cases_Bool (nat_le index (length lines))) [
  | inr fails ↦ absurd (let f : None ≡ Some new = rw fails at e in cc)
  | inl le ↦
      let f : Some (take index lines ++ line ∷ drop index lines) ≡ Some new = rw le at e in
      record {
        before = take index lines;
        after = drop index lines;
        lines_are = sym (take-append-drop index lines);
        there = sym (length-take-le index lines (leb-true index (length lines) le));
        longer_are = cc;
      }
]

remove_gives : (index : ℕ) (lines new : List FieldLine) → IsRemoved index lines new → removed index lines ≡ Some new
remove_gives index lines new r =
    let at = at_index lines r.1.before r.1.after r.0 index r.1.longer_are r.1.there in
    let low = lt-ltb index (length lines) (slice_get_within lines index r.0 at.line_is) in
    rw low (rw (at.before_is, at.after_is) (ap Some (sym r.1.lines_are)))

remove_is : (index : ℕ) (lines new : List FieldLine) → removed index lines ≡ Some new → IsRemoved index lines new
remove_is index lines new e = elim (cases_Bool (nat_lt index (length lines))) [
  | inr fails ↦ absurd (let f : None ≡ Some new = rw fails at e in cc)
  | inl less ↦ by (slice_get lines index) refl (rw less at e)
]
  where
    past : (ls : List FieldLine) (i : ℕ) → slice_get ls i ≡ None → length ls ≤ i
    past [] i none = omega arith
    past (x ∷ ls) zero none = absurd cc
    past (x ∷ ls) (suc i) none = let low = past ls i none in omega (arith, low)

    by : (o : Option FieldLine) → slice_get lines index ≡ o → Some (take index lines ++ drop (index + 1) lines) ≡ Some new → IsRemoved index lines new
    by None there f = absurd (let low = past lines index there in elim (cases_Bool (nat_lt index (length lines))) [
      | inl less ↦ (let high = ltb-true index (length lines) less in omega (arith, low, high))
      | inr fails ↦ (let g : None ≡ Some new = rw fails at e in cc)
    ])
    by (Some line) there f =
        let cut = cut_index lines index line there in
        (line, record { before = take index lines; after = drop (index + 1) lines; lines_are = cc; there = cut.1; longer_are = cut.0 })

-- ---- all kinds

-- a change that gives sound lines is the computed one
pub change_gives : (step : LineRewrite) (lines new : List FieldLine) → ChangeOf step lines new → AreSound new → changed step lines ≡ Some new
change_gives (Pad side index before after) lines new r sound =
    replaced_gives (Pad side index before after) (ChangesRaw (IsPadded before after)) index lines new
    (λ line other is _. ap Some (line_same line other is.name (padded before after line.raw) (pad_gives before after line.raw other.raw is.raw))) r sound
change_gives (Fold side index offset blanks) lines new r sound =
    replaced_gives (Fold side index offset blanks) (ChangesRaw (IsFolded offset blanks)) index lines new
    (λ line other is good. ap (option_map (with_raw line)) (fold_gives offset blanks line.raw other.raw is.raw good.raw) ∙ ap Some (line_same line other is.name other.raw refl)) r sound
change_gives (Unfold side index offset) lines new r sound =
    replaced_gives (Unfold side index offset) (ChangesRaw (IsUnfolded offset)) index lines new
    (λ line other is _. ap (option_map (with_raw line)) (unfold_gives offset line.raw other.raw is.raw) ∙ ap Some (line_same line other is.name other.raw refl)) r sound
change_gives (Case side index name) lines new r sound =
    replaced_gives (Case side index name) (IsRenamed name) index lines new
    (λ line other is _. rw ((bytes_eq-Decides (name_of line) (str_to_ascii_lowercase name)).1 (sym is.same)) (ap Some (sym is.other_is))) r sound
change_gives (Join side index later) lines new r sound = join_gives index later lines new r
change_gives (Split side index offset) lines new r sound = split_gives index offset lines new r
change_gives (Move side index to) lines new r sound = move_gives index to lines new r
change_gives (Add side index name text) lines new r sound = add_gives index (line_of name text) lines new r
change_gives (Remove side index) lines new r sound = remove_gives index lines new r

-- what is computed is a change
pub change_is : (step : LineRewrite) (lines new : List FieldLine) → changed step lines ≡ Some new → ChangeOf step lines new
change_is (Pad side index before after) lines new e =
    replaced_is (Pad side index before after) (ChangesRaw (IsPadded before after)) index lines new
    (λ line other one.
    let same : with_raw line (padded before after line.raw) ≡ other = cc in
    record { name = sym (ap (λ (l : FieldLine). l.name) same); raw = pad_is before after line.raw other.raw (sym (ap (λ (l : FieldLine). l.raw) same)) })
    (slice_get lines index) refl e
change_is (Fold side index offset blanks) lines new e =
    replaced_is (Fold side index offset blanks) (ChangesRaw (IsFolded offset blanks)) index lines new
    (λ line other one.
    let both = with_raw_is line other (folded offset blanks line.raw) one in
    record { name = both.1; raw = fold_is offset blanks line.raw other.raw both.0 })
    (slice_get lines index) refl e
change_is (Unfold side index offset) lines new e =
    replaced_is (Unfold side index offset) (ChangesRaw (IsUnfolded offset)) index lines new
    (λ line other one.
    let both = with_raw_is line other (unfolded offset line.raw) one in
    record { name = both.1; raw = unfold_is offset line.raw other.raw both.0 })
    (slice_get lines index) refl e
change_is (Case side index name) lines new e =
    replaced_is (Case side index name) (IsRenamed name) index lines new (λ line other one. renamed line other one) (slice_get lines index) refl e
  where
    renamed : (line other : FieldLine) → line_becomes (Case side index name) line ≡ Some other → IsRenamed name line other
    renamed line other one = elim (cases_Bool (bytes_eq (name_of line) (str_to_ascii_lowercase name))) [
      | inr fails ↦ absurd (let f : None ≡ Some other = rw fails at one in cc)
      | inl passes ↦
          let f : Some (with_name line name) ≡ Some other = rw passes at one in
          record { same = sym ((bytes_eq-Decides (name_of line) (str_to_ascii_lowercase name)).0 passes); other_is = cc }
    ]
change_is (Join side index later) lines new e = join_is index later lines new (slice_get lines index) (slice_get lines later) refl refl e
change_is (Split side index offset) lines new e = split_is index offset lines new (slice_get lines index) refl e
change_is (Move side index to) lines new e = move_is index to lines new (slice_get lines index) refl e
change_is (Add side index name text) lines new e = add_is index (line_of name text) lines new e
change_is (Remove side index) lines new e = remove_is index lines new e
