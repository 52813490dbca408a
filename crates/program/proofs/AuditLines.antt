-- Each line of `audit` has one LF.
use Rattle.std.proofs.Common.{◌≡◌, ℕ, Bool, true, false, Option, Some, None, List, [], ◌∷◌, ◌++◌, codes, refl, sym, ap, subst, ◌∙◌, append_assoc}
use Rattle.std.specs.Fmt.{decimal}
use Rattle.std.specs.List.{All, AllZip, flat_map, list_all}
use Rattle.std.proofs.lemmas.Bool.{and_parts}
use Rattle.std.proofs.lemmas.List.Elements.{All-append, All-cons, All-nil}
use Rattle.byte_grammar.specs.Classes.{is_line_byte}
use Rattle.byte_grammar.proofs.Indices.{all_at}
use Rattle.sfv_text.specs.Range.{are_params_in_range}
use Rattle.component_ids.specs.Identifiers.{id_text, is_id_in_range}
use Rattle.component_ids.specs.declared.id.ComponentId.{ComponentId}
use Rattle.component_ids.specs.declared.params.SigParams.{SigParams}
use Rattle.component_ids.proofs.PrintLaws.{id_is_printable}
use Rattle.msg_body.specs.Messages.{Message}
use Rattle.component_values.specs.Context.{MessageContext}
use Rattle.conf.specs.Configuration.{Configuration}
use Rattle.settings.specs.Valid.{IsValid}
use Rattle.signatures.specs.Signatures.{HasSignature}
use Rattle.signatures.proofs.InRange.{is_signature_in_range}
use Rattle.verdicts.specs.Contexts.{context_for}
use Rattle.verdicts.specs.VerdictLine.{verdict_line}
use Rattle.verdicts.specs.Verification.{or_no_label, verification_for}
use Rattle.hop_audit.specs.ChainValues.{Chain}
use Rattle.hop_audit.specs.Fates.{IsFate, IsFirstOf}
use Rattle.hop_audit.specs.Hops.{PlacedHop}
use Rattle.hop_audit.specs.Lines.{explanation_text, fate_text, line_text, permission_word}
use Rattle.hop_audit.specs.Report.{AreHopLines, AreMessageLines, IsHopLine, IsLabelLine, IsMessageLine, IsReport, places_of}
use Rattle.hop_audit.specs.declared.line.AuditLine.{AuditLine}
use Rattle.hop_audit.specs.declared.line.AuditLine.TheVariants.{Message as MessageLine, Hop as HopLine, Unread as UnreadLine, Label as LabelLine}
use Rattle.hop_audit.specs.declared.line.Fate.{Fate}
use Rattle.hop_audit.specs.declared.line.Fate.TheVariants.{Dropped, Changed, Lacking, Kept}
use Rattle.refusals.specs.Laws.{IsLine}
use Rattle.refusals.proofs.Lines.{number_clean}
use Rattle.program.proofs.OneLines.{joined, printable_clean}
use Rattle.program.proofs.VerdictLines.{labels_clean, line_is, or_clean, verdict_clean}

-- ---- texts

-- a line after a word
after_word : (word text : List ℕ) → list_all is_line_byte word ≡ true → IsLine text → IsLine (word ++ text)
after_word word text clean is = record {
  line = word ++ is.line;
  text_is = ap (λ (t : List ℕ). word ++ t) is.text_is ∙ sym (append_assoc word is.line (codes "\n"));
  clean = joined word is.line clean is.clean;
}

-- after a word, a number and a space
numbered : (word : List ℕ) (index : ℕ) (text : List ℕ) → list_all is_line_byte word ≡ true → IsLine text → IsLine (word ++ (decimal index ++ 32 ∷ text))
numbered word index text clean is = after_word word (decimal index ++ 32 ∷ text) clean (after_word (decimal index) (32 ∷ text) (number_clean index) (after_word (codes " ") text refl is))

-- what is said of a hop
hop_said : (index : ℕ) (text : List ℕ) → list_all is_line_byte text ≡ true → IsLine (codes "hop " ++ (decimal index ++ 32 ∷ (text ++ codes "\n")))
hop_said index text clean = numbered (codes "hop ") index (text ++ codes "\n") refl (record { line = text; text_is = refl; clean = clean })

explanation_clean : (explained : Bool) (stopped : Option ℕ) → list_all is_line_byte (explanation_text explained stopped) ≡ true
explanation_clean true stopped = refl
explanation_clean false None = refl
explanation_clean false (Some index) = joined (codes "unexplained ") (decimal index) refl (number_clean index)

permission_clean : (permitted : Bool) → list_all is_line_byte (permission_word permitted) ≡ true
permission_clean true = refl
permission_clean false = refl

-- ---- what becomes of a signature

-- a component of a signature that was read
component_clean : (message : Message) (label : List ℕ) (params : SigParams) (tag : List ℕ) (Fact : ComponentId → Type 0) (id : ComponentId) → HasSignature message label params tag → IsFirstOf Fact params.ids id
    → list_all is_line_byte (id_text id) ≡ true
component_clean message label params tag Fact id has first =
    let ids = (and_parts (list_all is_id_in_range params.ids) (are_params_in_range params.params) (is_signature_in_range message label params tag has)).0 in
    printable_clean (id_text id) (id_is_printable id (all_at is_id_in_range params.ids first.index id ids first.there))

fate_clean : (context : MessageContext) (other : Message) (label : List ℕ) (params : SigParams) (tag : List ℕ) (fate : Fate) → HasSignature context.message label params tag → IsFate context other label params tag fate
    → list_all is_line_byte (fate_text fate) ≡ true
fate_clean context other label params tag Dropped has is = refl
fate_clean context other label params tag (Changed id) has is = joined (codes "changed ") (id_text id) refl (component_clean context.message label params tag _ id has is.1)
fate_clean context other label params tag (Lacking id) has is = joined (codes "lacking ") (id_text id) refl (component_clean context.message label params tag _ id has is.2)
fate_clean context other label params tag Kept has is = refl

-- ---- lines

abbrev IsReportLine : AuditLine → Type 0
IsReportLine line = IsLine (line_text line)

-- a line for each label
each_is : (Fact : List ℕ → AuditLine → Type 0) → ((label : List ℕ) (line : AuditLine) → list_all is_line_byte label ≡ true → Fact label line → IsReportLine line)
    → (labels : List (List ℕ)) (lines : List AuditLine) → list_all (λ (label : List ℕ). list_all is_line_byte label) labels ≡ true → AllZip Fact labels lines → All IsReportLine lines
each_is Fact one [] [] clean each = All-nil IsReportLine
each_is Fact one [] (line ∷ lines) clean each = absurd each
each_is Fact one (label ∷ labels) [] clean each = absurd each
each_is Fact one (label ∷ labels) (line ∷ lines) clean each =
    let parts = and_parts (list_all is_line_byte label) (list_all (λ (l : List ℕ). list_all is_line_byte l) labels) clean in
    All-cons IsReportLine line lines (one label line parts.0 each.0) (each_is Fact one labels lines parts.1 each.1)

hop_line_is : (context : MessageContext) (hop : PlacedHop) (line : AuditLine) → IsHopLine context hop line → IsReportLine line
hop_line_is context hop (HopLine k explained stopped) is = hop_said k (explanation_text explained stopped) (explanation_clean explained stopped)
hop_line_is context hop (MessageLine k named verdict) is = absurd is
hop_line_is context hop (UnreadLine k named) is = absurd is
hop_line_is context hop (LabelLine k named permitted fate) is = absurd is

label_line_is : (context : MessageContext) (hop : PlacedHop) (label : List ℕ) (line : AuditLine) → list_all is_line_byte label ≡ true → IsLabelLine context hop label line → IsReportLine line
label_line_is context hop label (UnreadLine k named) clean is = rw is.1 (hop_said k (label ++ codes " unread") (joined label (codes " unread") clean refl))
label_line_is context hop label (LabelLine k named permitted fate) clean is =
    let report = is.2 in
    let fated = fate_clean context hop.after label report.params report.tag fate report.signature report.fate_is in
    let rest = permission_word permitted ++ 32 ∷ fate_text fate in
    let said : list_all is_line_byte rest ≡ true = joined (permission_word permitted) (32 ∷ fate_text fate) (permission_clean permitted) (joined (codes " ") (fate_text fate) refl fated) in
    rw is.1 (hop_said k (label ++ 32 ∷ rest) (joined label (32 ∷ rest) clean (joined (codes " ") rest refl said)))
label_line_is context hop label (MessageLine k named verdict) clean is = absurd is
label_line_is context hop label (HopLine k explained stopped) clean is = absurd is

module _ (conf : Configuration) (valid : IsValid conf) where
  message_line_is : (context : MessageContext) (index moment : ℕ) (label : List ℕ) (line : AuditLine) → list_all is_line_byte label ≡ true → IsMessageLine conf context index moment label line → IsReportLine line
  message_line_is context index moment label (MessageLine k named verdict) clean is =
      rw is.1 (numbered (codes "message ") k (verdict_line (label, verdict)) refl (line_is label verdict clean (verdict_clean (verification_for conf moment context label) valid verdict is.2)))
  message_line_is context index moment label (HopLine k explained stopped) clean is = absurd is
  message_line_is context index moment label (UnreadLine k named) clean is = absurd is
  message_line_is context index moment label (LabelLine k named permitted fate) clean is = absurd is

  message_lines_are : (context : MessageContext) (index moment : ℕ) (lines : List AuditLine) → AreMessageLines conf context index moment lines → All IsReportLine lines
  message_lines_are context index moment lines (labels, are, each) =
      each_is (IsMessageLine conf context index moment) (message_line_is context index moment) (or_no_label labels) lines (or_clean labels (labels_clean context.message labels are)) each

  hop_lines_are : (related : Option Message) (hop : PlacedHop) (lines : List AuditLine) → AreHopLines conf related hop lines → All IsReportLine lines
  hop_lines_are related hop lines are =
      let context = context_for conf hop.before related in
      let own = each_is (IsLabelLine context hop) (label_line_is context hop) are.labels are.own (labels_clean hop.before are.labels are.labels_are) are.each in
      let after = message_lines_are (context_for conf hop.after related) hop.index hop.now are.after are.after_are in
      subst (λ (ls : List AuditLine). All IsReportLine ls) (sym are.joined)
      (All-cons IsReportLine are.line (are.own ++ are.after) (hop_line_is context hop are.line are.is) (All-append IsReportLine are.own are.after own after))

  parts_are : (related : Option Message) (hops : List PlacedHop) (parts : List (List AuditLine)) → AllZip (AreHopLines conf related) hops parts → All IsReportLine (flat_map (λ part. part) parts)
  parts_are related [] [] each = All-nil IsReportLine
  parts_are related [] (part ∷ parts) each = absurd each
  parts_are related (hop ∷ hops) [] each = absurd each
  parts_are related (hop ∷ hops) (part ∷ parts) each =
      All-append IsReportLine part (flat_map (λ p. p) parts) (hop_lines_are related hop part each.0) (parts_are related hops parts each.1)

  pub report_lines_are : (chain : Chain) (lines : List AuditLine) → IsReport conf chain lines → All IsReportLine lines
  report_lines_are chain lines report =
      let first = message_lines_are (context_for conf chain.message chain.related) 0 chain.moment report.first report.first_are in
      subst (λ (ls : List AuditLine). All IsReportLine ls) (sym report.joined)
      (All-append IsReportLine report.first (flat_map (λ part. part) report.parts) first (parts_are chain.related (places_of chain) report.parts report.each))
