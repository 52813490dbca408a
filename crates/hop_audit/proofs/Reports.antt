-- The lines of a report, each with its condition.
use Rattle.std.proofs.Common.{◌≡◌, ◌⊎◌, ℕ, zero, suc, ◌+◌, arith, unwrap_or, Bool, true, Option, Some, List, [], ◌∷◌, ◌++◌, refl, sym, subst, ap, ◌∙◌, inl, inr}
use Rattle.std.specs.Prelude.{IsSomeAnd, IsTrue, MatchOption, slice_get}
use Rattle.std.specs.List.{AllZip, Contains, flat_map, list_all}
use Rattle.std.proofs.lemmas.List.Elements.{Contains-append_cases}
use Rattle.std.proofs.lemmas.Option.{slice_get-get_or}
use Rattle.std.proofs.lemmas.Slice.Zip.{AllZip-right}
use Rattle.byte_grammar.proofs.Indices.{some_and_parts}
use Rattle.msg_body.specs.Messages.{Message}
use Rattle.component_values.specs.Context.{MessageContext}
use Rattle.rewrite_script.specs.Lines.{is_writable}
use Rattle.rewrite_script.specs.Scripts.{HaveValues}
use Rattle.rewrite_script.specs.declared.rewrite.Rewrite.{Rewrite}
use Rattle.rewrites.specs.Laws.{KeepsOverSteps}
use Rattle.settings.specs.Configuration.{Configuration}
use Rattle.hop_audit.specs.declared.line.AuditLine.{AuditLine}
use Rattle.hop_audit.specs.declared.line.AuditLine.TheVariants.{Message as MessageLine, Hop as HopLine, Unread as UnreadLine, Label as LabelLine}
use Rattle.hop_audit.specs.declared.line.Fate.{Fate}
use Rattle.msg_body.specs.declared.whole.Reading.{Reading}
use Rattle.recording.specs.Chains.{RecordedHop, role_of}
use Rattle.hop_audit.specs.ChainValues.{Chain, Hop, IsHop, reading_of}
use Rattle.recording.specs.Items.{PlacedItem}
use Rattle.hop_audit.specs.Hops.{PlacedHop, places_from}
use Rattle.hop_audit.specs.Laws.{IsKeptOrLacking}
use Rattle.verdicts.specs.Contexts.{context_for}
use Rattle.hop_audit.specs.Report.{AreHopLines, AreItemsOf, AreMessageLines, IsLabelLine, IsLabelReport, IsHopLine, IsMessageLine, IsReport, places_of}
use Rattle.verdicts.specs.Verification.{or_no_label}
use Rattle.hop_audit.proofs.Permitted.{permitted_fate}

-- ---- lists

-- the element of the other list in its place
pub zip_at : {A B : Type 0} (R : A → B → Type 0) (xs : List A) (ys : List B) → AllZip R xs ys → (y : B) → Contains ys y
    → (k : ℕ) × (x : A) × (slice_get xs k ≡ Some x) × R x y
zip_at {A} {B} R xs ys zip y found =
    let here : slice_get ys found.0 ≡ Some y = slice_get-get_or ys found.0 y found.1 ∙ ap Some found.2 in
    let at = subst (λ (o : Option B). MatchOption o (Unit {0}) (λ y. IsSomeAnd (slice_get xs found.0) (λ x. R x y))) here (AllZip-right R xs ys zip found.0) in
    let parts = some_and_parts (λ x. R x y) (slice_get xs found.0) at in
    (found.0, parts.0, parts.1, parts.2)

-- a list of one has it alone
pub one_of : {X : Type 0} (x y : X) → Contains (x ∷ []) y → ¬ (¬ (x ≡ y))
one_of x y (zero, lt, is) none = none is
one_of x y (suc k, lt, is) none = absurd omega (arith, lt)

pub some_is : {X : Type 0} {x y : X} → Some x ≡ Some y → x ≡ y
some_is e = cc

-- what one of the parts has
pub part_at : {X : Type 0} (parts : List (List X)) (x : X) → Contains (flat_map (λ part. part) parts) x
    → (part : List X) × Contains parts part × Contains part x
part_at {X} [] x found = absurd omega (arith, found.1)
part_at {X} (part ∷ parts) x found = elim (Contains-append_cases part (flat_map (λ p. p) parts) x found) [
  | inl here ↦ (part, (0, omega arith, refl), here)
  | inr later ↦ let at = part_at parts x later in (at.0, (suc at.1.0, omega (arith, at.1.1), at.1.2), at.2)
]

-- ---- what lines are of

-- a line of a label isn't one of a message
no_message_line : (conf : Configuration) (context : MessageContext) (index moment : ℕ) (lines : List AuditLine) (k : ℕ) (label : List ℕ) (permitted : Bool) (fate : Fate)
    → AreMessageLines conf context index moment lines → ¬ Contains lines (LabelLine k label permitted fate)
no_message_line conf context index moment lines k label permitted fate are found =
    let at = zip_at (IsMessageLine conf context index moment) (or_no_label are.0) lines are.2 (LabelLine k label permitted fate) found in
    at.3

-- a line of a label is that of a hop
pub record IsOfHop (conf : Configuration) (chain : Chain) (k : ℕ) (label : List ℕ) (permitted : Bool) (fate : Fate) : Type 0 where
  pub at : ℕ
  pub hop : PlacedHop
  pub there : slice_get (places_of chain) at ≡ Some hop
  pub index_is : k ≡ hop.index
  pub report : IsLabelReport (context_for conf hop.before chain.related) hop label permitted fate

hop_has : (conf : Configuration) (related : Option Message) (hop : PlacedHop) (lines : List AuditLine) (k : ℕ) (label : List ℕ) (permitted : Bool) (fate : Fate)
    → AreHopLines conf related hop lines → Contains lines (LabelLine k label permitted fate)
    → (k ≡ hop.index) × IsLabelReport (context_for conf hop.before related) hop label permitted fate
hop_has conf related hop lines k label permitted fate are found =
    by_line are.line are.is (subst (λ (l : List AuditLine). Contains l (LabelLine k label permitted fate)) are.joined found)
  where
    own_has : Contains are.own (LabelLine k label permitted fate) → (k ≡ hop.index) × IsLabelReport (context_for conf hop.before related) hop label permitted fate
    own_has here =
        let at = zip_at (IsLabelLine (context_for conf hop.before related) hop) are.labels are.own are.each (LabelLine k label permitted fate) here in
        (at.3.0, subst (λ (l : List ℕ). IsLabelReport (context_for conf hop.before related) hop l permitted fate) (sym at.3.1) at.3.2)

    by_part : Contains (are.own ++ are.after) (LabelLine k label permitted fate) → (k ≡ hop.index) × IsLabelReport (context_for conf hop.before related) hop label permitted fate
    by_part both = elim (Contains-append_cases are.own are.after (LabelLine k label permitted fate) both) [
      | inl here ↦ own_has here
      | inr later ↦ absurd (no_message_line conf (context_for conf hop.after related) hop.index hop.now are.after k label permitted fate are.after_are later)
    ]

    one_has : (line : AuditLine) → IsHopLine (context_for conf hop.before related) hop line → ¬ Contains (line ∷ []) (LabelLine k label permitted fate)
    one_has (HopLine index explained stopped) is at = one_of (HopLine index explained stopped) (LabelLine k label permitted fate) at (λ e. absurd cc)
    one_has (MessageLine index own verdict) is at = is
    one_has (UnreadLine index own) is at = is
    one_has (LabelLine index own other another) is at = is

    by_line : (line : AuditLine) → IsHopLine (context_for conf hop.before related) hop line → Contains (line ∷ (are.own ++ are.after)) (LabelLine k label permitted fate)
        → (k ≡ hop.index) × IsLabelReport (context_for conf hop.before related) hop label permitted fate
    by_line line is all = elim (Contains-append_cases (line ∷ []) (are.own ++ are.after) (LabelLine k label permitted fate) all) [
      | inl first ↦ absurd (one_has line is first)
      | inr rest ↦ by_part rest
    ]

pub label_line_is : (conf : Configuration) (chain : Chain) (lines : List AuditLine) (k : ℕ) (label : List ℕ) (permitted : Bool) (fate : Fate)
    → IsReport conf chain lines → Contains lines (LabelLine k label permitted fate) → IsOfHop conf chain k label permitted fate
label_line_is conf chain lines k label permitted fate report found =
    by_part (Contains-append_cases report.first (flat_map (λ part. part) report.parts) (LabelLine k label permitted fate) (subst (λ (l : List AuditLine). Contains l (LabelLine k label permitted fate)) report.joined found))
  where
    by_part : Contains report.first (LabelLine k label permitted fate) ⊎ Contains (flat_map (λ part. part) report.parts) (LabelLine k label permitted fate) → IsOfHop conf chain k label permitted fate
    by_part (inl here) = absurd (no_message_line conf (context_for conf chain.message chain.related) 0 chain.moment report.first k label permitted fate report.first_are here)
    by_part (inr later) =
        let part = part_at report.parts (LabelLine k label permitted fate) later in
        let at = zip_at (AreHopLines conf chain.related) (places_of chain) report.parts report.each part.0 part.1 in
        let own = hop_has conf chain.related at.1 part.0 k label permitted fate at.3 part.2 in
        record { at = at.0; hop = at.1; there = at.2; index_is = own.0; report = own.1 }

-- ---- scripts

-- the steps are such as a script's lines write
pub record IsWritten (script : List Rewrite) : Type 0 where
  pub writable : IsTrue (list_all is_writable script)
  pub values : HaveValues script

pub script_at : (reading : Reading) (recorded : List RecordedHop) (hops : List Hop) (index last : ℕ) (message : Message) (at : ℕ) (hop : PlacedHop)
    → AllZip (IsHop reading) recorded hops → slice_get (places_from index last message hops) at ≡ Some hop → IsWritten hop.script
script_at reading [] [] index last message at hop zip there = absurd cc
script_at reading (r ∷ recorded) (h ∷ hops) index last message zero hop zip there =
    let same : h.script ≡ hop.script = ap (λ (p : PlacedHop). p.script) (some_is there) in
    subst (λ (s : List Rewrite). IsWritten s) same (record { writable = zip.0.script.1.writable; values = zip.0.script.1.values })
script_at reading (r ∷ recorded) (h ∷ hops) index last message (suc at) hop zip there =
    script_at reading recorded hops (index + 1) (unwrap_or h.moment last) h.message at hop zip.1 there
script_at reading (r ∷ recorded) [] index last message at hop zip there = absurd zip
script_at reading [] (h ∷ hops) index last message at hop zip there = absurd zip

-- ---- the law of fates

pub keeps_fates : KeepsOverSteps → (conf : Configuration) (items : List PlacedItem) (chain : Chain) (lines : List AuditLine) → AreItemsOf items chain → IsReport conf chain lines
    → (index : ℕ) (label : List ℕ) (fate : Fate) → Contains lines (LabelLine index label true fate) → IsKeptOrLacking fate
keeps_fates keeps conf items chain lines are report index label fate found =
    let of = label_line_is conf chain lines index label true fate report found in
    let written = script_at (reading_of chain.related (role_of are.recorded.subject)) are.recorded.hops chain.hops 0 chain.moment chain.message of.at of.hop are.values.hops of.there in
    permitted_fate keeps (context_for conf of.hop.before chain.related) of.hop.script of.hop.after label of.report.params of.report.tag written.writable written.values
    of.report.signature of.report.permission fate of.report.fate_is
