-- Each step that makes the lines of a side normal leads to the message with the lines that it makes, and so do all of them.
use Rattle.std.proofs.Common.{◌≡◌, ◌⊎◌, ℕ, ◌+◌, ◌<◌, ◌≤◌, ◌^◌, Bool, true, List, [], ◌∷◌, ◌++◌, length, refl, sym, ap, subst, ◌∙◌, inl, inr, arith, append_assoc, length-append, codes}
use Rattle.std.specs.Prelude.{Some, IsSomeAnd, slice_get}
use Rattle.std.specs.List.{All, FoldsTo, flat_map}
use Rattle.std.proofs.lemmas.Bool.{and_from, lt-ltb}
use Rattle.byte_grammar.specs.Classes.{is_token}
use Rattle.byte_grammar.proofs.Indices.{some_and}
use Rattle.msg_head.specs.declared.error.Side.{Side}
use Rattle.msg_head.specs.declared.error.Side.TheVariants.{Header, Trailer}
use Rattle.msg_head.specs.declared.limits.TheConstants.{MAX_HEAD_BYTES, MAX_HEAD_LINES}
use Rattle.msg_head.specs.Heads.{Head, IsHead}
use Rattle.msg_head.specs.Lines.{FieldLine, IsLine, line_text}
use Rattle.framing.specs.declared.kind.Framing.{Framing}
use Rattle.framing.specs.declared.kind.Framing.TheVariants.{None, Length, Chunked, ToEnd}
use Rattle.framing.specs.Framings.{content_length_of}
use Rattle.msg_body.specs.Bodies.{Body, IsBodyOf, chunked, plain, trailers_in}
use Rattle.msg_body.specs.Messages.{IsMessage, Message}
use Rattle.msg_body.specs.Views.{lines_on}
use Rattle.msg_body.specs.SameFields.{name_of}
use Rattle.component_ids.specs.declared.params.SigParams.{SigParams}
use Rattle.component_values.specs.Context.{answers_head}
use Rattle.rewrite_script.specs.Lines.{is_number}
use Rattle.rewrite_script.specs.declared.rewrite.LineRewrite.{LineRewrite}
use Rattle.rewrite_script.specs.declared.rewrite.LineRewrite.TheVariants.{Case, Join, Pad, Remove, Unfold}
use Rattle.line_rewrites.specs.LineLists.{ChangesRaw, IsJoined, IsRemoved, IsRenamed, Replaces}
use Rattle.line_rewrites.specs.Permitted.{HasValue, MayChangeNumber, MayChangeValue}
use Rattle.line_rewrites.specs.RawValues.{IsPadded, IsUnfolded}
use Rattle.line_rewrites.specs.Sides.{lines_text}
use Rattle.normal_forms.specs.LineSteps.{Cleans, IsLowered, IsTrimmed, IsUnfoldedFirst, Joins, Removes, join_steps}
use Rattle.normal_forms.proofs.Leading.{IsSigned, LeadsOn, Signed, all_on, changes_to, lined, more_on, one_each, one_on}
use Rattle.normal_forms.proofs.LeadLaws.{LeadOnSide}
use Rattle.normal_forms.proofs.LineChanges.{join_change, lowered_change, pad_change, removes_change, trimmed_change, unfolded_change}
use Rattle.normal_forms.proofs.LineKeeps.{KeepsLines, around_line, cleans_keep, join_keeps, pad_keeps, removes_keep, spaced_lines}
use Rattle.normal_forms.proofs.MessageSteps.{AreSmaller, head_length, message_lines, trailer_length}

-- ---- lines in a list

element_at : {A : Type 0} (before : List A) (x : A) (after : List A) → slice_get (before ++ x ∷ after) (length before) ≡ Some x
element_at [] x after = refl
element_at (y ∷ before) x after = element_at before x after

-- what holds of the line holds of the line of its index
holds_there : (Holds : FieldLine → Type 0) (lines before : List FieldLine) (line : FieldLine) (after : List FieldLine) → lines ≡ before ++ line ∷ after → Holds line
    → IsSomeAnd (slice_get lines (length before)) Holds
holds_there Holds lines before line after lines_are holds =
    subst (λ (ls : List FieldLine). IsSomeAnd (slice_get ls (length before)) Holds) (sym lines_are)
    (some_and Holds (slice_get (before ++ line ∷ after) (length before)) line (element_at before line after) holds)

index_within : (lines before : List FieldLine) (line : FieldLine) (after : List FieldLine) → lines ≡ before ++ line ∷ after → length before < length lines
index_within lines before line after lines_are =
    let whole = ap (λ (ls : List FieldLine). length ls) lines_are in
    let parts = length-append before (line ∷ after) in
    omega (arith, whole, parts)

text_after : (before : List FieldLine) (line : FieldLine) (after : List FieldLine) → length line.raw ≤ length (lines_text (before ++ line ∷ after))
text_after [] line after =
    let whole = length-append (line_text line) (lines_text after) in
    let name = length-append line.name (58 ∷ (line.raw ++ codes "\r\n")) in
    let raw = length-append line.raw (codes "\r\n") in
    omega (arith, whole, name, raw)
text_after (first ∷ before) line after =
    let whole = length-append (line_text first) (lines_text (before ++ line ∷ after)) in
    let rest = text_after before line after in
    omega (arith, whole, rest)

raw_within : (lines before : List FieldLine) (line : FieldLine) (after : List FieldLine) → lines ≡ before ++ line ∷ after → length line.raw ≤ length (lines_text lines)
raw_within lines before line after lines_are = subst (λ (ls : List FieldLine). length line.raw ≤ length (lines_text ls)) (sym lines_are) (text_after before line after)

-- ---- the limits of a side

-- the lines are few and short
record AreWithin (lines : List FieldLine) : Type 0 where
  few : length lines ≤ MAX_HEAD_LINES
  short : length (lines_text lines) ≤ MAX_HEAD_BYTES

head_within : (head : Head) → IsHead head → AreWithin head.lines
head_within head is = record { few = is.few; short = omega (arith, head_length head, is.short) }

body_within : (framing : Framing) (count : ℕ) (body : Body) → IsBodyOf framing count body → AreWithin (trailers_in body)
body_within framing count (plain content) of = record { few = omega arith; short = omega arith }
body_within Chunked count (chunked chunks trailers) of = record { few = of.1.few; short = omega (arith, trailer_length trailers, of.1.short) }
body_within None count (chunked chunks trailers) of = absurd of
body_within Length count (chunked chunks trailers) of = absurd of
body_within ToEnd count (chunked chunks trailers) of = absurd of

side_within : (to_head : Bool) (side : Side) (message : Message) → IsMessage to_head message → AreWithin (lines_on side message)
side_within to_head Header message is = head_within message.head is.head
side_within to_head Trailer message is = body_within message.framing (content_length_of message.head) message.body is.body

-- ---- what a line can write

written : (n : ℕ) → n ≤ MAX_HEAD_BYTES → is_number n ≡ true
written n small = let low : n < 10 ^ 9 = omega (arith, small) in lt-ltb n (10 ^ 9) low

module _ (s : Signed) (side : Side) (message : Message) (is : IsSigned s message) where
  each_line : All IsLine (lines_on side message)
  each_line = message_lines (answers_head s.context.related) side message is.whole

  index_written : (before : List FieldLine) (line : FieldLine) (after : List FieldLine) → lines_on side message ≡ before ++ line ∷ after → is_number (length before) ≡ true
  index_written before line after lines_are =
      let within = side_within (answers_head s.context.related) side message is.whole in
      let low = index_within (lines_on side message) before line after lines_are in
      written (length before) (omega (arith, within.few, low))

  offset_written : (before : List FieldLine) (line : FieldLine) (after : List FieldLine) (offset : ℕ) → lines_on side message ≡ before ++ line ∷ after → offset ≤ length line.raw → is_number offset ≡ true
  offset_written before line after offset lines_are low =
      let within = side_within (answers_head s.context.related) side message is.whole in
      let raw = raw_within (lines_on side message) before line after lines_are in
      written offset (omega (arith, within.short, raw, low))

-- ---- each step

smaller_of : (side : Side) (params : SigParams) (lines others : List FieldLine) → KeepsLines side params lines others → AreSmaller lines others
smaller_of side params lines others keeps = record {
  each = keeps.each;
  few = keeps.count;
  short = keeps.size;
  codings = keeps.counted (codes "transfer-encoding") refl;
  lengths = keeps.counted (codes "content-length") refl;
}

removes_lead : (s : Signed) (side : Side) (message : Message) (step : LineRewrite) (others : List FieldLine) → IsSigned s message → Removes side s.params (lines_on side message) step others
    → LeadsOn s side message (step ∷ []) others
removes_lead s side message step others is removes =
    let lines = lines_on side message in
    let small = smaller_of side s.params lines others (removes_keep side s.params lines step others (each_line s side message is) removes) in
    let index = length removes.before in
    let gives = changes_to s side message (IsRemoved index) others is small (removes_change side s.params lines step others removes) in
    let permits = holds_there (λ (line : FieldLine). MayChangeValue side (name_of line) s.params) lines removes.before removes.line removes.after removes.lines_are removes.goes in
    let writable = index_written s side message is removes.before removes.line removes.after removes.lines_are in
    subst (λ (x : LineRewrite). LeadsOn s side message (x ∷ []) others) (sym removes.step_is) (one_on s side message (Remove side index) others is small gives permits writable)

module _ (s : Signed) (side : Side) (message : Message) (step : LineRewrite) (others : List FieldLine) (is : IsSigned s message) (cleans : Cleans side (lines_on side message) step others) where
  cleans_small : AreSmaller (lines_on side message) others
  cleans_small = smaller_of side s.params (lines_on side message) others (cleans_keep side s.params (lines_on side message) step others (each_line s side message is) cleans)

  cleans_index : is_number (length cleans.before) ≡ true
  cleans_index = index_written s side message is cleans.before cleans.line cleans.after cleans.lines_are

  lowered_token : IsLowered side (length cleans.before) cleans.line step cleans.other → is_token (name_of cleans.line) ≡ true
  lowered_token lowered =
      let parts = around_line IsLine others cleans.before cleans.other cleans.after cleans.others_are cleans_small.each in
      ap is_token (sym (ap (λ (line : FieldLine). line.name) lowered.other_is)) ∙ parts.here.name

  lowered_leads : IsLowered side (length cleans.before) cleans.line step cleans.other → LeadsOn s side message (step ∷ []) others
  lowered_leads lowered =
      let index = length cleans.before in
      let name = name_of cleans.line in
      let gives = changes_to s side message (Replaces (IsRenamed name) index) others is cleans_small (lowered_change side (lines_on side message) step others cleans lowered) in
      subst (λ (x : LineRewrite). LeadsOn s side message (x ∷ []) others) (sym lowered.step_is)
      (one_on s side message (Case side index name) others is cleans_small gives tt (and_from (is_number index) (is_token name) cleans_index (lowered_token lowered)))

  unfolded_leads : IsUnfoldedFirst side (length cleans.before) cleans.line step cleans.other → LeadsOn s side message (step ∷ []) others
  unfolded_leads first =
      let index = length cleans.before in
      let offset = length first.before in
      let gives = changes_to s side message (Replaces (ChangesRaw (IsUnfolded offset)) index) others is cleans_small (unfolded_change side (lines_on side message) step others cleans first) in
      let whole = ap (λ (t : List ℕ). length t) first.raw_is in
      let parts = length-append first.before (codes "\r\n" ++ first.after) in
      let offset_is = offset_written s side message is cleans.before cleans.line cleans.after offset cleans.lines_are (omega (arith, whole, parts)) in
      subst (λ (x : LineRewrite). LeadsOn s side message (x ∷ []) others) (sym first.step_is)
      (one_on s side message (Unfold side index offset) others is cleans_small gives tt (and_from (is_number index) (is_number offset) cleans_index offset_is))

  trimmed_leads : IsTrimmed side (length cleans.before) cleans.line step cleans.other → LeadsOn s side message (step ∷ []) others
  trimmed_leads trimmed =
      let index = length cleans.before in
      let change = trimmed_change side (lines_on side message) step others cleans (each_line s side message is) trimmed in
      let gives = changes_to s side message (Replaces (ChangesRaw (IsPadded [] [])) index) others is cleans_small change in
      subst (λ (x : LineRewrite). LeadsOn s side message (x ∷ []) others) (sym trimmed.step_is)
      (one_on s side message (Pad side index [] []) others is cleans_small gives tt (and_from (is_number index) true cleans_index refl))

  becomes_leads : IsLowered side (length cleans.before) cleans.line step cleans.other ⊎ IsUnfoldedFirst side (length cleans.before) cleans.line step cleans.other
      ⊎ IsTrimmed side (length cleans.before) cleans.line step cleans.other → LeadsOn s side message (step ∷ []) others
  becomes_leads (inl lowered) = lowered_leads lowered
  becomes_leads (inr (inl first)) = unfolded_leads first
  becomes_leads (inr (inr trimmed)) = trimmed_leads trimmed

cleans_lead : (s : Signed) (side : Side) (message : Message) (step : LineRewrite) (others : List FieldLine) → IsSigned s message → Cleans side (lines_on side message) step others
    → LeadsOn s side message (step ∷ []) others
cleans_lead s side message step others is cleans = becomes_leads s side message step others is cleans cleans.becomes

module _ (s : Signed) (side : Side) (message : Message) (pair : ℕ × ℕ) (others : List FieldLine) (is : IsSigned s message) (joins : Joins side s.params (lines_on side message) pair others) where
  abbrev middle : List FieldLine
  middle = spaced_lines side s.params (lines_on side message) pair others joins

  index_is : pair.0 ≡ length joins.before
  index_is = ap (λ (p : ℕ × ℕ). p.0) joins.pair_is

  later_is : pair.1 ≡ length (joins.before ++ joins.line ∷ joins.between)
  later_is =
      let given : pair.1 ≡ length joins.before + 1 + length joins.between = ap (λ (p : ℕ × ℕ). p.1) joins.pair_is in
      let parts = length-append joins.before (joins.line ∷ joins.between) in
      omega (arith, given, parts)

  later_lines : lines_on side message ≡ (joins.before ++ joins.line ∷ joins.between) ++ joins.next ∷ joins.after
  later_lines = joins.lines_are ∙ sym (append_assoc joins.before (joins.line ∷ joins.between) (joins.next ∷ joins.after))

  first_index : is_number pair.0 ≡ true
  first_index = ap is_number index_is ∙ index_written s side message is joins.before joins.line (joins.between ++ joins.next ∷ joins.after) joins.lines_are

  later_index : is_number pair.1 ≡ true
  later_index = ap is_number later_is ∙ index_written s side message is (joins.before ++ joins.line ∷ joins.between) joins.next joins.after later_lines

  join_leads : LeadsOn s side message (Join side pair.0 pair.1 ∷ []) middle
  join_leads =
      let lines = lines_on side message in
      let small = smaller_of side s.params lines middle (join_keeps side s.params lines pair others (each_line s side message is) joins) in
      let gives = changes_to s side message (IsJoined pair.0 pair.1) middle is small (join_change side s.params lines pair others joins) in
      let number = holds_there (λ (line : FieldLine). MayChangeNumber side (name_of line) s.params) lines joins.before joins.line (joins.between ++ joins.next ∷ joins.after) joins.lines_are joins.may in
      let has = holds_there HasValue lines (joins.before ++ joins.line ∷ joins.between) joins.next joins.after later_lines joins.some in
      let at_first = subst (λ (n : ℕ). IsSomeAnd (slice_get lines n) (λ (line : FieldLine). MayChangeNumber side (name_of line) s.params)) (sym index_is) number in
      let at_later = subst (λ (n : ℕ). IsSomeAnd (slice_get lines n) HasValue) (sym later_is) has in
      one_on s side message (Join side pair.0 pair.1) middle is small gives (at_first, at_later) (and_from (is_number pair.0) (is_number pair.1) first_index later_index)

  pad_leads : LeadsOn s side (lined s side message middle) (Pad side pair.0 [] [] ∷ []) others
  pad_leads =
      let lines = lines_on side message in
      let next = lined s side message middle in
      let first = join_leads in
      let signed = first.leads.signed in
      let same : middle ≡ lines_on side next = sym first.there in
      let small = subst (λ (ls : List FieldLine). AreSmaller ls others) same (smaller_of side s.params middle others (pad_keeps side s.params lines pair others (each_line s side message is) joins)) in
      let change = subst (λ (ls : List FieldLine). Replaces (ChangesRaw (IsPadded [] [])) pair.0 ls others) same (pad_change side s.params lines pair others joins (each_line s side message is)) in
      let gives = changes_to s side next (Replaces (ChangesRaw (IsPadded [] [])) pair.0) others signed small change in
      one_on s side next (Pad side pair.0 [] []) others signed small gives tt (and_from (is_number pair.0) true first_index refl)

  both_lead : LeadsOn s side message (join_steps side pair) others
  both_lead = more_on s side message (Join side pair.0 pair.1 ∷ []) (Pad side pair.0 [] [] ∷ []) middle others join_leads pad_leads

-- ---- all of them

pub lead_on_side : LeadOnSide
lead_on_side s side message steps others is made =
    let kept = lined s side message made.kept in
    let removed = all_on s side (Removes side s.params) (λ (x : LineRewrite). x ∷ []) (removes_lead s side) message made.removals made.kept is made.removed in
    let first = subst (λ (xs : List LineRewrite). LeadsOn s side message xs made.kept) (one_each made.removals) removed in
    let to_clean = subst (λ (ls : List FieldLine). FoldsTo (Cleans side) ls made.cleanings made.clean) (sym first.there) made.cleaned in
    let cleaned = all_on s side (Cleans side) (λ (x : LineRewrite). x ∷ []) (cleans_lead s side) kept made.cleanings made.clean first.leads.signed to_clean in
    let second = subst (λ (xs : List LineRewrite). LeadsOn s side kept xs made.clean) (one_each made.cleanings) cleaned in
    let clean = lined s side kept made.clean in
    let to_join = subst (λ (ls : List FieldLine). FoldsTo (Joins side s.params) ls made.pairs others) (sym second.there) made.joined in
    let third = all_on s side (Joins side s.params) (join_steps side) (both_lead s side) clean made.pairs others second.leads.signed to_join in
    let rest = more_on s side kept made.cleanings (flat_map (join_steps side) made.pairs) made.clean others second third in
    let all = more_on s side message made.removals (made.cleanings ++ flat_map (join_steps side) made.pairs) made.kept others first rest in
    subst (λ (xs : List LineRewrite). LeadsOn s side message xs others) (sym made.steps_are) all
