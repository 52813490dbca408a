-- The lines of a message label by label, and whether those of a hop can be written.
use Rattle.std.proofs.Common.{◌≡◌, ◌+◌, ◌<◌, ◌≤◌, ℕ, Bool, true, false, ◌&&◌, List, [], ◌∷◌, ◌++◌, length, get_or, take, refl, sym, ap, subst, ◌∙◌, append_assoc, arith}
use Rattle.std.specs.Prelude.{IsTrue, ◌&&◌}
use Rattle.std.specs.List.{AllZip, list_all}
use Rattle.std.proofs.lemmas.Bool.{and_parts}
use Rattle.std.proofs.lemmas.List.{append-nil, take_all, take_more}
use Rattle.std.proofs.lemmas.List.Folds.{list_all-append}
use Rattle.std.proofs.lemmas.Slice.Zip.{all_zipped_more}
use Rattle.component_values.specs.Context.{MessageContext}
use Rattle.settings.specs.Configuration.{Configuration}
use Rattle.signatures.specs.Signatures.{AreLabels}
use Rattle.verdicts.specs.Verification.{Verification, no_label, or_no_label, verification_for}
use Rattle.sfv_text.specs.Range.{are_params_in_range}
use Rattle.component_ids.specs.Identifiers.{is_id_in_range}
use Rattle.component_ids.specs.declared.params.SigParams.{SigParams}
use Rattle.byte_grammar.proofs.Indices.{all_at}
use Rattle.signatures.specs.Signatures.{HasSignature}
use Rattle.signatures.proofs.InRange.{is_signature_in_range}
use Rattle.signatures.proofs.Reading.{has_one_list_of_labels}
use Rattle.hop_audit.specs.declared.line.AuditLine.{AuditLine}
use Rattle.hop_audit.specs.declared.line.AuditLine.TheVariants.{Message as MessageLine, Hop as HopLine, Unread as UnreadLine, Label as LabelLine}
use Rattle.hop_audit.specs.declared.line.Fate.{Fate}
use Rattle.hop_audit.specs.declared.line.Fate.TheVariants.{Dropped, Changed, Lacking, Kept}
use Rattle.hop_audit.specs.Fates.{IsFate}
use Rattle.hop_audit.specs.Hops.{PlacedHop}
use Rattle.hop_audit.specs.Lines.{are_lines_in_range, is_fate_in_range, is_line_in_range}
use Rattle.hop_audit.specs.Report.{IsHopLine, IsLabelLine, IsMessageLine}
use Rattle.hop_audit.specs.tools.Stages.{StageState, judged}
use Rattle.hop_audit.specs.tools.Written.{AddsLinesFor, AddsMessageLine, AddsMessageLines}

both_true : (a b : Bool) → a ≡ true → b ≡ true → (a && b) ≡ true
both_true true b is also = also
both_true false b is also = absurd cc

-- lists of lines in range
pub joined_in_range : (lines more : List AuditLine) → IsTrue (are_lines_in_range lines) → IsTrue (are_lines_in_range more) → IsTrue (are_lines_in_range (lines ++ more))
joined_in_range lines more is also =
    list_all-append is_line_in_range lines more ∙ both_true (list_all is_line_in_range lines) (list_all is_line_in_range more) is also

pub one_in_range : (line : AuditLine) → IsTrue (is_line_in_range line) → IsTrue (are_lines_in_range (line ∷ []))
one_in_range line is = both_true (is_line_in_range line) true is refl

-- the line of one more label
pub more_label : (conf : Configuration) (context : MessageContext) (index moment : ℕ) (labels : List (List ℕ)) (n : ℕ) (label : List ℕ) (start was now : List AuditLine)
    → n < length labels → label ≡ get_or labels n label
    → AddsLinesFor conf context index moment (take n labels) start was
    → AddsMessageLine (verification_for conf moment context label) index was now
    → AddsLinesFor conf context index moment (take (n + 1) labels) start now
more_label conf context index moment labels n label start was now lt is so_far more =
    let next : take (n + 1) labels ≡ take n labels ++ (label ∷ []) = take_more labels n label lt ∙ ap (λ (l : List ℕ). take n labels ++ (l ∷ [])) (sym is) in
    subst (λ (ls : List (List ℕ)). AddsLinesFor conf context index moment ls start now) (sym next)
    (record {
      lines = so_far.lines ++ (more.line ∷ []);
      each = all_zipped_more (IsMessageLine conf context index moment) (take n labels) so_far.lines label more.line so_far.each more.is;
      in_range = joined_in_range so_far.lines (more.line ∷ []) so_far.in_range (one_in_range more.line more.in_range);
      added = more.added ∙ (ap (λ (ls : List AuditLine). ls ++ (more.line ∷ [])) so_far.added ∙ append_assoc start so_far.lines (more.line ∷ []));
    })

pub no_labels : (conf : Configuration) (context : MessageContext) (index moment : ℕ) (lines : List AuditLine) → AddsLinesFor conf context index moment [] lines lines
no_labels conf context index moment lines = record { lines = []; each = tt; in_range = refl; added = sym (append-nil lines) }

-- those of all labels, where there is some
pub all_labels : (conf : Configuration) (context : MessageContext) (index moment : ℕ) (labels : List (List ℕ)) (n : ℕ) (was now : List AuditLine)
    → AreLabels context.message labels → ¬ (labels ≡ []) → length labels ≤ n → AddsLinesFor conf context index moment (take n labels) was now
    → AddsMessageLines conf context index moment was now
all_labels conf context index moment labels n was now are some past so_far = record {
  lines = so_far.lines;
  are = (labels, are, subst (λ (ls : List (List ℕ)). AllZip (IsMessageLine conf context index moment) ls so_far.lines) (take_all n labels past ∙ sym (some_labels labels some)) so_far.each);
  in_range = so_far.in_range;
  added = so_far.added;
}
  where
    some_labels : (ls : List (List ℕ)) → ¬ (ls ≡ []) → or_no_label ls ≡ ls
    some_labels [] none = absurd (none refl)
    some_labels (l ∷ ls) none = refl

-- that of `-`, where there is none
pub one_label : (v : Verification) (index : ℕ) (labels : List (List ℕ)) (was now : List AuditLine) → AreLabels v.context.message labels → labels ≡ [] → v.label ≡ no_label
    → AddsMessageLine v index was now → AddsMessageLines v.conf v.context index v.now was now
one_label v index labels was now are none label adds = record {
  lines = adds.line ∷ [];
  are = (
    labels,
    are,
    subst (λ (ls : List (List ℕ)). AllZip (IsMessageLine v.conf v.context index v.now) (or_no_label ls) (adds.line ∷ [])) (sym none)
        (subst (λ (l : List ℕ). IsMessageLine v.conf v.context index v.now l adds.line) label adds.is, tt),
  );
  in_range = one_in_range adds.line adds.in_range;
  added = adds.added;
}

-- ---- label by label

-- the lines of so many labels of the stage's message are added
pub record AreAddedFor (stage : StageState) (index count place : ℕ) (was now : List AuditLine) : Type 0 where
  pub labels : List (List ℕ)
  pub are : AreLabels stage.context.message labels
  pub count_is : count ≡ length labels
  pub added : AddsLinesFor stage.conf stage.context index stage.moment (take place labels) was now

module _ (stage : StageState) (index count : ℕ) where
  pub none_added : (labels : List (List ℕ)) (lines : List AuditLine) → AreLabels stage.context.message labels → count ≡ length labels → AreAddedFor stage index count 0 lines lines
  none_added labels lines are counted = record { labels = labels; are = are; count_is = counted; added = no_labels stage.conf stage.context index stage.moment lines }

  -- there is a label at each place
  pub within_labels : (place : ℕ) (was now : List AuditLine) (labels : List (List ℕ)) → AreAddedFor stage index count place was now → AreLabels stage.context.message labels → place < count → place < length labels
  within_labels place was now labels so_far are lt =
      subst (λ (ls : List (List ℕ)). place < length ls) (has_one_list_of_labels stage.context.message so_far.labels labels so_far.are are) (subst (λ (n : ℕ). place < n) so_far.count_is lt)

  pub one_more_added : (place : ℕ) (was now all : List AuditLine) (labels : List (List ℕ)) (label : List ℕ) → AreAddedFor stage index count place was now → AreLabels stage.context.message labels → place < count
      → label ≡ get_or labels place label → AddsMessageLine (judged stage label) index now all → AreAddedFor stage index count (place + 1) was all
  one_more_added place was now all labels label so_far are lt is more =
      let same = has_one_list_of_labels stage.context.message labels so_far.labels are so_far.are in
      record {
        labels = so_far.labels;
        are = so_far.are;
        count_is = so_far.count_is;
        added = more_label stage.conf stage.context index stage.moment so_far.labels place label was now all (subst (λ (n : ℕ). place < n) so_far.count_is lt)
            (subst (λ (ls : List (List ℕ)). label ≡ get_or ls place label) same is) so_far.added more;
      }

  pub all_added : (place : ℕ) (was now : List AuditLine) → AreAddedFor stage index count place was now → ¬ (count ≡ 0) → count ≤ place
      → AddsMessageLines stage.conf stage.context index stage.moment was now
  all_added place was now so_far some past =
      all_labels stage.conf stage.context index stage.moment so_far.labels place was now so_far.are (λ none. some (so_far.count_is ∙ ap (λ (ls : List (List ℕ)). length ls) none))
      (subst (λ (n : ℕ). n ≤ place) so_far.count_is past) so_far.added

  -- the message has no label
  pub only_none_added : (labels : List (List ℕ)) (label : List ℕ) (was now : List AuditLine) → AreLabels stage.context.message labels → count ≡ length labels → count ≡ 0 → label ≡ no_label
      → AddsMessageLine (judged stage label) index was now → AddsMessageLines stage.conf stage.context index stage.moment was now
  only_none_added labels label was now are counted none is adds = one_label (judged stage label) index labels was now are (no_length labels (sym counted ∙ none)) is adds
    where
      no_length : (ls : List (List ℕ)) → length ls ≡ 0 → ls ≡ []
      no_length [] e = refl
      no_length (l ∷ ls) e = absurd (omega (arith, e))

-- ---- lines of a hop

module _ (context : MessageContext) (hop : PlacedHop) where
  fate_in_range : (label : List ℕ) (params : SigParams) (tag : List ℕ) (fate : Fate) → HasSignature context.message label params tag
      → IsFate context hop.after label params tag fate → IsTrue (is_fate_in_range fate)
  fate_in_range label params tag Dropped has is = refl
  fate_in_range label params tag (Changed id) has is =
      all_at is_id_in_range params.ids is.1.index id (and_parts (list_all is_id_in_range params.ids) (are_params_in_range params.params) (is_signature_in_range context.message label params tag has)).0 is.1.there
  fate_in_range label params tag (Lacking id) has is =
      all_at is_id_in_range params.ids is.2.index id (and_parts (list_all is_id_in_range params.ids) (are_params_in_range params.params) (is_signature_in_range context.message label params tag has)).0 is.2.there
  fate_in_range label params tag Kept has is = refl

  label_in_range : (label : List ℕ) (line : AuditLine) → IsLabelLine context hop label line → IsTrue (is_line_in_range line)
  label_in_range label (UnreadLine k named) is = refl
  label_in_range label (LabelLine k named permitted fate) is = fate_in_range label is.2.params is.2.tag fate is.2.signature is.2.fate_is
  label_in_range label (MessageLine k named verdict) is = absurd is
  label_in_range label (HopLine k explained stopped) is = absurd is

  labels_in_range : (labels : List (List ℕ)) (own : List AuditLine) → AllZip (IsLabelLine context hop) labels own → IsTrue (are_lines_in_range own)
  labels_in_range [] [] each = refl
  labels_in_range [] (line ∷ own) each = absurd each
  labels_in_range (label ∷ labels) [] each = absurd each
  labels_in_range (label ∷ labels) (line ∷ own) each =
      both_true (is_line_in_range line) (list_all is_line_in_range own) (label_in_range label line each.0) (labels_in_range labels own each.1)

  -- the line of the hop, and those of the labels before it
  pub hop_in_range : (line : AuditLine) (labels : List (List ℕ)) (own : List AuditLine) → IsHopLine context hop line → AllZip (IsLabelLine context hop) labels own
      → IsTrue (are_lines_in_range (line ∷ own))
  hop_in_range (HopLine k explained stopped) labels own is each = labels_in_range labels own each
  hop_in_range (MessageLine k named verdict) labels own is each = absurd is
  hop_in_range (UnreadLine k named) labels own is each = absurd is
  hop_in_range (LabelLine k named permitted fate) labels own is each = absurd is
