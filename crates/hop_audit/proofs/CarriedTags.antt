-- What is known of the tags of a message, with its lines and over a hop.
use Rattle.std.proofs.Common.{◌≡◌, ◌≤◌, ◌-◌, take, length-drop, arith, ℕ, Bool, Option, Some, None, List, [], ◌∷◌, ◌++◌, length, drop, Ok, refl, sym, ap, subst, ◌∙◌, inl, inr}
use Rattle.std.specs.List.{All, AllZip}
use Rattle.std.specs.Str.{bytes_eq}
use Rattle.std.proofs.lemmas.Bool.{cases_Bool}
use Rattle.std.proofs.lemmas.List.{length-append, take_all}
use Rattle.std.proofs.lemmas.List.Elements.{All-head, All-tail}
use Rattle.std.proofs.lemmas.Slice.Eq.{bytes_eq-Decides}
use Rattle.sfv_text.specs.Keys.{put, value_of}
use Rattle.sfv_text.specs.declared.pair.Pair.{Pair}
use Rattle.sfv_text.proofs.PutLaws.{put_value}
use Rattle.msg_body.specs.Messages.{Message}
use Rattle.component_ids.specs.declared.id.ComponentId.{ComponentId}
use Rattle.component_ids.specs.declared.params.SigParams.{SigParams}
use Rattle.component_values.specs.Context.{MessageContext, context_with}
use Rattle.component_values.specs.Values.{HaveValues, ComesTo}
use Rattle.component_values.proofs.RowLaws.{has_one_value}
use Rattle.rewrite_script.specs.declared.rewrite.Rewrite.{Rewrite}
use Rattle.settings.specs.Configuration.{Configuration}
use Rattle.signatures.specs.Signatures.{HasSignature}
use Rattle.signatures.proofs.Reading.{has_one_signature}
use Rattle.verdicts.specs.KnownTags.{HasKnownTag, KnowsTag}
use Rattle.verdicts.specs.Verdicts.{IsVerdict}
use Rattle.verdicts.specs.Verification.{Verification, or_no_label, verification_for}
use Rattle.verdicts.specs.declared.outcome.Verdict.{Verdict}
use Rattle.hop_audit.specs.declared.line.Fate.{Fate}
use Rattle.hop_audit.specs.declared.line.Fate.TheVariants.{Kept}
use Rattle.hop_audit.specs.Fates.{HasKept, IsFate}
use Rattle.hop_audit.specs.Hops.{PlacedHop}
use Rattle.hop_audit.specs.Report.{IsHopLine, IsLabelLine, IsLabelReport, IsMessageLine}
use Rattle.hop_audit.specs.declared.line.AuditLine.{AuditLine}
use Rattle.hop_audit.specs.declared.line.AuditLine.TheVariants.{Message as MessageLine, Hop as HopLine, Unread as UnreadLine, Label as LabelLine}
use Rattle.hop_audit.specs.tools.Carried.{KnowTags, TellsTag}
use Rattle.hop_audit.specs.tools.Written.{AddsHopLines, AddsMessageLines}

-- ---- one label more

module _ (conf : Configuration) (context : MessageContext) where
  pub known_more : (known : List (Pair Bool)) (label : List ℕ) (is_right : Bool) → KnowTags conf context known → HasKnownTag conf context label is_right
      → KnowTags conf context (put known label is_right)
  known_more known label is_right knows has name = elim (cases_Bool (bytes_eq label name)) [
    | inl same ↦
        let name_is : name ≡ label = sym ((bytes_eq-Decides label name).0 same) in
        let own : value_of (put known label is_right) label ≡ Some is_right = put_value label is_right label known ∙ rw ((bytes_eq-Decides label label).1 refl) refl in
        rw (name_is, own) has
    | inr apart ↦
        let own : value_of (put known label is_right) name ≡ value_of known name = put_value label is_right name known ∙ rw apart refl in
        rw own (knows name)
  ]

-- ---- over a hop

module _ (context : MessageContext) (other : Message) where
  -- what each component had, it has where it is kept
  have_kept : (ids : List ComponentId) (values : List (List ℕ)) → All (HasKept context other) ids → HaveValues context ids values → HaveValues (context_with context other) ids values
  have_kept [] [] kept have = tt
  have_kept [] (value ∷ values) kept have = absurd have
  have_kept (id ∷ ids) [] kept have = absurd have
  have_kept (id ∷ ids) (value ∷ values) kept have =
      let first = All-head (HasKept context other) id ids kept in
      let same : first.0 ≡ value = has_one_value context id first.0 value first.1.before have.0 in (
        subst (λ (v : List ℕ). ComesTo (context_with context other) id (Ok v)) same first.1.after,
        have_kept ids values (All-tail (HasKept context other) id ids kept) have.1,
      )

  -- a signature that is kept has the tag that it had
  pub known_kept : (conf : Configuration) (label : List ℕ) (params : SigParams) (tag : List ℕ) (is_right : Option Bool) → HasSignature context.message label params tag
      → IsFate context other label params tag Kept → KnowsTag conf context label is_right → KnowsTag conf (context_with context other) label is_right
  known_kept conf label params tag None has kept known = tt
  known_kept conf label params tag (Some is_right) has kept known =
      let same = has_one_signature context.message label params known.params tag known.tag has known.signature in
      let there = subst (λ (p : SigParams). HasSignature other label p known.tag) same.0 (subst (λ (t : List ℕ). HasSignature other label params t) same.1 kept.0) in
      let each = subst (λ (p : SigParams). All (HasKept context other) p.ids) same.0 kept.1 in
      record {
        params = known.params;
        tag = known.tag;
        signature = there;
        keyid = known.keyid;
        keyid_is = known.keyid_is;
        key = known.key;
        key_is = known.key_is;
        is = (known.is.0, have_kept known.params.ids known.is.0 each known.is.1, known.is.2);
      }

-- ---- what a line tells

module _ (conf : Configuration) (was now : MessageContext) (known : List (Pair Bool)) (knows : KnowTags conf was known) (label named : List ℕ) (o : Option Bool) (o_is : o ≡ value_of known named) where
  known_here : named ≡ label → KnowsTag conf was label o
  known_here same = subst (λ (b : Option Bool). KnowsTag conf was label b) (sym (o_is ∙ ap (value_of known) same)) (knows label)

  -- it has the verdict
  pub told_by_verdict : (verdict : Verdict) (told : Option Bool) → ((v : Verification) → KnowsTag v.conf v.context v.label o → IsVerdict v verdict → KnowsTag v.conf v.context v.label told)
      → (named ≡ label) × (now ≡ was) × (moment : ℕ) × IsVerdict (verification_for conf moment was label) verdict → KnowsTag conf now named told
  told_by_verdict verdict told gives (same, is, moment, has) =
      let here : KnowsTag conf was label told = gives (verification_for conf moment was label) (known_here same) has in
      subst (λ (c : MessageContext). KnowsTag conf c named told) (sym is) (subst (λ (l : List ℕ). KnowsTag conf was l told) (sym same) here)

  -- it says that the signature is kept
  pub told_by_fate : (permitted : Bool) (fate : Fate) → fate ≡ Kept → (named ≡ label) × (hop : PlacedHop) × (now ≡ context_with was hop.after) × IsLabelReport was hop label permitted fate
      → KnowsTag conf now named o
  told_by_fate permitted fate kept (same, hop, is, report) =
      let fate_is = subst (λ (f : Fate). IsFate was hop.after label report.params report.tag f) kept report.fate_is in
      let here = known_kept was hop.after conf label report.params report.tag o report.signature fate_is (known_here same) in
      subst (λ (c : MessageContext). KnowsTag conf c named o) (sym is) (subst (λ (l : List ℕ). KnowsTag conf (context_with was hop.after) l o) (sym same) here)

-- ---- the lines that are added

-- the lines from there on
pub lines_from : (slice now was : List AuditLine) (first : ℕ) → slice ≡ now → first ≡ length was → take (length slice - first) (drop first slice) ≡ drop (length was) now
lines_from slice now was first same at = take_all (length slice - first) (drop first slice) (omega (arith, length-drop first slice)) ∙ (λ i. drop (at i) (same i))

after_those : {X : Type 0} (xs ys : List X) → drop (length xs) (xs ++ ys) ≡ ys
after_those [] ys = refl
after_those (x ∷ xs) ys = after_those xs ys

module _ (conf : Configuration) where
  message_tells : (context : MessageContext) (index moment : ℕ) (label : List ℕ) (line : AuditLine) → IsMessageLine conf context index moment label line → TellsTag conf context context label line
  message_tells context index moment label (MessageLine k named verdict) is = (is.1, refl, moment, is.2)
  message_tells context index moment label (HopLine k explained stopped) is = absurd is
  message_tells context index moment label (UnreadLine k named) is = absurd is
  message_tells context index moment label (LabelLine k named permitted fate) is = absurd is

  label_tells : (context : MessageContext) (hop : PlacedHop) (label : List ℕ) (line : AuditLine) → IsLabelLine context hop label line
      → TellsTag conf context (context_with context hop.after) label line
  label_tells context hop label (LabelLine k named permitted fate) is = (is.1, hop, refl, is.2)
  label_tells context hop label (UnreadLine k named) is = tt
  label_tells context hop label (MessageLine k named verdict) is = absurd is
  label_tells context hop label (HopLine k explained stopped) is = absurd is

  hop_tells : (context now : MessageContext) (hop : PlacedHop) (label : List ℕ) (line : AuditLine) → IsHopLine context hop line → TellsTag conf context now label line
  hop_tells context now hop label (HopLine k explained stopped) is = tt
  hop_tells context now hop label (LabelLine k named permitted fate) is = absurd is
  hop_tells context now hop label (UnreadLine k named) is = absurd is
  hop_tells context now hop label (MessageLine k named verdict) is = absurd is

  each_message : (context : MessageContext) (index moment : ℕ) (labels : List (List ℕ)) (lines : List AuditLine) → AllZip (IsMessageLine conf context index moment) labels lines
      → AllZip (TellsTag conf context context) labels lines
  each_message context index moment [] [] each = tt
  each_message context index moment [] (line ∷ lines) each = absurd each
  each_message context index moment (label ∷ labels) [] each = absurd each
  each_message context index moment (label ∷ labels) (line ∷ lines) each = (message_tells context index moment label line each.0, each_message context index moment labels lines each.1)

  each_label : (context : MessageContext) (hop : PlacedHop) (labels : List (List ℕ)) (lines : List AuditLine) → AllZip (IsLabelLine context hop) labels lines
      → AllZip (TellsTag conf context (context_with context hop.after)) labels lines
  each_label context hop [] [] each = tt
  each_label context hop [] (line ∷ lines) each = absurd each
  each_label context hop (label ∷ labels) [] each = absurd each
  each_label context hop (label ∷ labels) (line ∷ lines) each = (label_tells context hop label line each.0, each_label context hop labels lines each.1)

  -- the lines of a message tell of its tags
  pub message_lines_tell : (context : MessageContext) (index moment : ℕ) (was now : List AuditLine) → AddsMessageLines conf context index moment was now
      → (labels : List (List ℕ)) × AllZip (TellsTag conf context context) labels (drop (length was) now)
  message_lines_tell context index moment was now adds =
      let labels = or_no_label adds.are.0 in
      let own : drop (length was) now ≡ adds.lines = ap (drop (length was)) adds.added ∙ after_those was adds.lines in
      (labels, subst (λ (ls : List AuditLine). AllZip (TellsTag conf context context) labels ls) (sym own) (each_message context index moment labels adds.lines adds.are.2))

  -- those of a hop tell of the message after it
  pub hop_lines_tell : (context : MessageContext) (index : ℕ) (script : List Rewrite) (after : Message) (was now : List AuditLine) → AddsHopLines context index script after was now
      → (labels : List (List ℕ)) × AllZip (TellsTag conf context (context_with context after)) labels (drop (length was) now)
  hop_lines_tell context index script after was now adds =
      let hop : PlacedHop = record { index = index; was = 0; before = context.message; script = script; now = 0; after = after } in
      let own = adds hop (record { index_is = refl; before_is = refl; script_is = refl; after_is = refl }) in
      let lines : drop (length was) now ≡ own.line ∷ own.own = ap (drop (length was)) own.added ∙ after_those was (own.line ∷ own.own) in
      let labels : List (List ℕ) = [] ∷ own.labels in (
        labels,
        subst (λ (ls : List AuditLine). AllZip (TellsTag conf context (context_with context after)) labels ls) (sym lines)
            (hop_tells context (context_with context after) hop [] own.line own.is, each_label context hop own.labels own.own own.each),
      )

-- there are no fewer lines then
pub hop_lines_longer : (context : MessageContext) (index : ℕ) (script : List Rewrite) (after : Message) (was now : List AuditLine) → AddsHopLines context index script after was now → length was ≤ length now
hop_lines_longer context index script after was now adds =
    let hop : PlacedHop = record { index = index; was = 0; before = context.message; script = script; now = 0; after = after } in
    let own = adds hop (record { index_is = refl; before_is = refl; script_is = refl; after_is = refl }) in
    rw (own.added, length-append) (omega arith)
