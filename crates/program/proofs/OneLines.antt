-- What is refused is written as one line.
use Rattle.std.proofs.Common.{◌≡◌, ◌≤◌, ℕ, zero, suc, ◌+◌, Bool, true, false, not, nat_lt, ◌==◌, Option, Some, None, List, [], ◌∷◌, ◌++◌, codes, refl, sym, subst, ◌∙◌, inl, inr}
use Rattle.std.specs.Prelude.{⊤, IfSome, IsSomeAnd, IsTrue}
use Rattle.std.specs.Fmt.{decimal}
use Rattle.std.specs.List.{All, list_all, slice_get}
use Rattle.std.specs.Str.{bytes_eq}
use Rattle.std.proofs.lemmas.Bool.{and_from, and_parts, cases_Bool, eqb-true, false≢true, ltb-true, or_cases}
use Rattle.std.proofs.lemmas.List.Elements.{All-cons, All-contains, All-head, All-nil, All-tail}
use Rattle.std.proofs.lemmas.Option.{get_or_from_slice_get, slice_get_within}
use Rattle.std.proofs.lemmas.Str.{encode_ascii}
use Rattle.std.proofs.lemmas.Slice.Eq.{bytes_eq-Decides}
use Rattle.byte_grammar.specs.Classes.{is_line_byte}
use Rattle.byte_grammar.proofs.Indices.{some_and_parts}
use Rattle.byte_grammar.proofs.ListLaws.{all_implied, all_joined}
use Rattle.sfv_read.proofs.InRange.{inner_read_in_range}
use Rattle.byte_grammar.specs.Displayed.{displayed}
use Rattle.sfv_text.specs.Range.{are_params_in_range, is_string_byte}
use Rattle.sfv_text.specs.declared.pair.Pair.{Pair}
use Rattle.sfv_text.specs.declared.value.BareItem.{BareItem}
use Rattle.component_ids.specs.Causes.{IsFirstIllTyped, id_fault_text}
use Rattle.component_ids.specs.Identifiers.{id_text, is_id_in_range}
use Rattle.component_ids.specs.Reasons.{word_of}
use Rattle.component_ids.specs.SignatureParams.{are_sig_params_in_range, is_typed, list_of, string_keys}
use Rattle.component_ids.specs.Table.{is_listed}
use Rattle.component_ids.specs.declared.fault.BadReason.{BadReason}
use Rattle.component_ids.specs.declared.fault.BadReason.TheVariants.{NotAString, Name, ParameterUnknown, ParameterType, ParametersClash, NameMissing}
use Rattle.component_ids.specs.declared.fault.IdFault.{IdFault}
use Rattle.component_ids.specs.declared.fault.IdFault.TheVariants as id_fault
use Rattle.component_ids.specs.declared.id.ComponentId.{ComponentId}
use Rattle.component_ids.specs.declared.params.SigParams.{SigParams}
use Rattle.component_ids.proofs.AnswerLaws.{in_range_of_list}
use Rattle.component_ids.proofs.PrintLaws.{id_is_printable}
use Rattle.component_values.specs.Context.{MessageContext, context_with}
use Rattle.component_values.specs.Values.{HaveValues}
use Rattle.signatures.specs.SignatureBase.{signature_base}
use Rattle.msg_body.specs.Messages.{Message, message_text}
use Rattle.msg_body.specs.WholeTexts.{any_message, one_request, reading_for}
use Rattle.msg_body.specs.declared.whole.Reading.{Reading}
use Rattle.framing.specs.Framings.{is_request}
use Rattle.command_line.specs.Command.{CommandLine, Help, HelpOf, Version, Base, Verify, Sign, Rewrite, Explain, Audit, Gateway, Lists, Negotiate, Sample, SignWords, IsCommand, NoCommand}
use Rattle.conf.specs.Configuration.{Configuration}
use Rattle.conf.specs.Paths.{HoldsAtPath}
use Rattle.conf.specs.Refusals.{IsConfFault}
use Rattle.conf.specs.Table.{Row, place_path, places, rows}
use Rattle.conf.specs.declared.fault.ConfFault.{ConfFault}
use Rattle.conf.specs.declared.fault.ConfFault.TheVariants as conf_fault
use Rattle.field_lists.specs.FromCauses.{IsFromFault}
use Rattle.field_lists.specs.FromMessages.{TurnsIntoList}
use Rattle.field_lists.specs.ToCauses.{IsToFault, TurnsInto}
use Rattle.list_texts.specs.Lists.{list_text}
use Rattle.normal_forms.specs.Causes.{IsExplainFault}
use Rattle.normal_forms.specs.Explanations.{Explains}
use Rattle.normal_forms.specs.declared.explanation.Explained.{Explained}
use Rattle.normal_forms.specs.declared.explanation.Explained.TheVariants.{Same, Differs}
use Rattle.recording.specs.Items.{PlacedItem}
use Rattle.rewrite_script.specs.declared.rewrite.Rewrite.{Rewrite as Rewriting}
use Rattle.nonces.specs.declared.limits.TheConstants.{MAX_MOMENT}
use Rattle.settings.specs.Valid.{IsValid}
use Rattle.samples.specs.declared.summary.Summary.{Summary}
use Rattle.signing.proofs.SomeSigned.{valid_where_asked, valid_where_wished}
use Rattle.signing.specs.Signed.{IsSignedMessage}
use Rattle.signing.specs.Specs.{IsValidSpec}
use Rattle.signing.specs.Wishes.{AreWished}
use Rattle.signing.specs.declared.fault.SignFault.TheVariants as sign_fault
use Rattle.signing.specs.declared.spec.SignSpec.{SignSpec}
use Rattle.negotiation.specs.NegotiateCauses.{IsNegotiateFault}
use Rattle.negotiation.specs.Negotiated.{IsNegotiated}
use Rattle.negotiation.specs.declared.fault.NegotiateFault.{NegotiateFault}
use Rattle.negotiation.specs.declared.fault.NegotiateFault.TheVariants as nego
use Rattle.verdicts.specs.Verdicts.{is_accepted}
use Rattle.verdicts.specs.declared.outcome.Verdict.{Verdict}
use Rattle.hop_audit.specs.Lines.{finds_fault}
use Rattle.hop_audit.specs.Report.{IsAudit}
use Rattle.hop_audit.specs.declared.line.AuditLine.{AuditLine}
use Rattle.commands.specs.Audit.{IsChainRefused, IsRecordingRefused, IsRecordingText, ReportsAudit, ReportsChain, audit_outcome}
use Rattle.commands.specs.Base.{AreParamsRefused, HasIdFault, IsValueLacking, ReportsBase, ReportsValues}
use Rattle.intake.specs.Configured.{IsConfigured, IsConfRefused}
use Rattle.commands.specs.Covered.{ReadsParams}
use Rattle.commands.specs.Explain.{ReportsExplanation, WritesExplained, differing_text}
use Rattle.intake.specs.Files.{FileNames, Found, Conf as ConfFile, Request as RequestFile, Wanted as WantedFile, Script as ScriptFile, Other as OtherFile}
use Rattle.commands.specs.Layers.{IsUnrefused, ReadsThen}
use Rattle.commands.specs.Lists.{IsListRefused, IsListText, ReportsIntoFields, ReportsIntoMessage, ReportsMessageOf}
use Rattle.intake.specs.MessageFiles.{IsMessageFileRefused}
use Rattle.intake.specs.Messages.{IsInputRefused}
use Rattle.commands.specs.Negotiate.{IsNegotiateRefused, IsRefusalOf, ReportsNegotiation}
use Rattle.commands.specs.Rewrite.{IsStepRefused, IsTaken, ReportsRewriting, ReportsSteps}
use Rattle.commands.specs.Sample.{sample_outcome}
use Rattle.intake.specs.Scripts.{IsScriptRefused}
use Rattle.commands.specs.Sign.{AreWishesRefused, IsSignRefused, ReportsEach, ReportsSigning}
use Rattle.intake.specs.Tables.{IsTableMissing}
use Rattle.commands.specs.Verify.{ReportsVerdicts, verdicts_outcome}
use Rattle.commands.specs.declared.outcome.Outcome.{Outcome}
use Rattle.commands.specs.declared.outcome.Outcome.TheVariants.{Done, NotOk, Refused}
use Rattle.intake.specs.declared.tables.Needs.{Needs}
use Rattle.intake.specs.declared.tables.Needs.TheVariants.{Nothing, SignTable, GatewayTables}
use Rattle.refusals.specs.Laws.{is_clean, is_clean_file}
use Rattle.refusals.proofs.Lines.{is_line_of_refusal, number_clean}
use Rattle.refusals.specs.declared.file.FileRefusal.{FileRefusal}
use Rattle.refusals.specs.declared.file.FileRefusal.TheVariants.{Missing, TooLong, Message as NoMessage, Conf as NoConf, Script as NoScript, Recording as NoRecording, Order, TooManyHops, OutOfPlace, TooManyItems, Fields}
use Rattle.refusals.specs.declared.refusal.CommandRefusal.{CommandRefusal}
use Rattle.refusals.specs.declared.refusal.CommandRefusal.TheVariants.{Ids, Lacks, NotTaken, Explain as NotExplained, ToMessage, FromMessage}
use Rattle.refusals.specs.declared.refusal.Refusal.{Refusal}
use Rattle.refusals.specs.declared.refusal.Refusal.TheVariants.{Arguments, Of, Command}
use Rattle.refusals.specs.declared.role.Role.TheVariants.{Conf, Request, Wanted, Script, Other, Input, Item}
use Rattle.program.specs.Commands.{name_of}
use Rattle.program.specs.Laws.{IsLineWhereRefused}
use Rattle.program.specs.Intake.{IsIntake, IsIntakeRefused, TakenValues}
use Rattle.program.specs.Report.{Answers, ReportsCommand, ReportsFiles, ReportsTurned}
use Rattle.program.proofs.CommandLaws.{valid_where_configured}
use Rattle.program.proofs.NegotiatedInputs.{negotiates_timely}
use Rattle.program.proofs.SignedInputs.{signs_characters, signs_timely}

-- ---- identifiers and keys

pub joined : (a b : List ℕ) → list_all is_line_byte a ≡ true → list_all is_line_byte b ≡ true → list_all is_line_byte (a ++ b) ≡ true
joined a b x y = all_joined is_line_byte a b x y

-- parameters that are read are in range
pub params_in_range : (text : List ℕ) (params : SigParams) → ReadsParams text params → are_sig_params_in_range params ≡ true
params_in_range text params reads = in_range_of_list params ∙ inner_read_in_range text (list_of params) reads.reads

-- a class without NUL, CR and LF
pub line_byte_of : (test : ℕ → Bool) → test 0 ≡ false → test 13 ≡ false → test 10 ≡ false → (c : ℕ) → test c ≡ true → is_line_byte c ≡ true
line_byte_of test nul cr lf c is = elim (cases_Bool (0 == c)) [
  | inl same ↦ absurd (false≢true (sym nul ∙ subst (λ (d : ℕ). test d ≡ true) (sym (eqb-true 0 c same)) is))
  | inr a ↦ elim (cases_Bool (13 == c)) [
    | inl same ↦ absurd (false≢true (sym cr ∙ subst (λ (d : ℕ). test d ≡ true) (sym (eqb-true 13 c same)) is))
    | inr b ↦ elim (cases_Bool (10 == c)) [
      | inl same ↦ absurd (false≢true (sym lf ∙ subst (λ (d : ℕ). test d ≡ true) (sym (eqb-true 10 c same)) is))
      | inr d ↦ rw (a, b, d) refl
    ]
  ]
]

-- what is printed has no end of a line
pub printable_clean : (text : List ℕ) → list_all is_string_byte text ≡ true → list_all is_line_byte text ≡ true
printable_clean text printable = all_implied is_string_byte is_line_byte (line_byte_of is_string_byte refl refl refl) text printable

id_clean : (ids : List ComponentId) (index : ℕ) (id : List ℕ) → list_all is_id_in_range ids ≡ true → IsSomeAnd (slice_get ids index) (λ lacking. id ≡ id_text lacking) → list_all is_line_byte id ≡ true
id_clean [] index id ranged there = absurd there
id_clean (first ∷ ids) zero id ranged there =
    rw there (printable_clean (id_text first) (id_is_printable first (and_parts (is_id_in_range first) (list_all is_id_in_range ids) ranged).0))
id_clean (first ∷ ids) (suc index) id ranged there = id_clean ids index id (and_parts (is_id_in_range first) (list_all is_id_in_range ids) ranged).1 there

-- a key that is one of these, as it is shown
module _ (show : List ℕ → List ℕ) where
  abbrev is_clean_key : List ℕ → Bool
  is_clean_key key = list_all is_line_byte (show key)

  pub key_clean : (names : List (List ℕ)) (key : List ℕ) → list_all is_clean_key names ≡ true → is_listed names key ≡ true → is_clean_key key ≡ true
  key_clean [] key all listed = absurd (false≢true listed)
  key_clean (name ∷ names) key all listed =
      let parts = and_parts (is_clean_key name) (list_all is_clean_key names) all in
      elim (or_cases (bytes_eq key name) (is_listed names key) listed) [
        | inl same ↦ subst (λ (k : List ℕ). is_clean_key k ≡ true) (sym ((bytes_eq-Decides key name).0 same)) parts.0
        | inr more ↦ key_clean names key parts.1 more
      ]

  ill_typed : list_all is_clean_key (codes "created" ∷ codes "expires" ∷ []) ≡ true → list_all is_clean_key string_keys ≡ true → (p : Pair BareItem) → not (is_typed p) ≡ true → is_clean_key p.key ≡ true
  ill_typed moments strings p ill = elim (cases_Bool (is_listed (codes "created" ∷ codes "expires" ∷ []) p.key)) [
    | inl moment ↦ key_clean (codes "created" ∷ codes "expires" ∷ []) p.key moments moment
    | inr other ↦ elim (cases_Bool (is_listed string_keys p.key)) [
      | inl text ↦ key_clean string_keys p.key strings text
      | inr any ↦ absurd (false≢true (rw (other, any) at ill))
    ]
  ]

  pub first_ill_typed : list_all is_clean_key (codes "created" ∷ codes "expires" ∷ []) ≡ true → list_all is_clean_key string_keys ≡ true → (params : List (Pair BareItem)) (key : List ℕ) → IsFirstIllTyped params key → is_clean_key key ≡ true
  first_ill_typed moments strings [] key is = absurd is
  first_ill_typed moments strings (p ∷ params) key is = elim (cases_Bool (not (is_typed p))) [
    | inl ill ↦ let same : p.key ≡ key = rw ill at is in subst (λ (k : List ℕ). is_clean_key k ≡ true) same (ill_typed moments strings p ill)
    | inr typed ↦ first_ill_typed moments strings params key (rw typed at is)
  ]

pub reason_clean : (reason : BadReason) → list_all is_line_byte (word_of reason) ≡ true
reason_clean NotAString = refl
reason_clean Name = refl
reason_clean ParameterUnknown = refl
reason_clean ParameterType = refl
reason_clean ParametersClash = refl
reason_clean NameMissing = refl

-- what is shown of a text of ASCII is the text
shown : (text : List ℕ) → list_all (λ c. nat_lt c 128) text ≡ true → displayed text ≡ text
shown [] plain = refl
shown (c ∷ text) plain =
    let parts = and_parts (nat_lt c 128) (list_all (λ d. nat_lt d 128) text) plain in
    λ i. encode_ascii c (ltb-true c 128 parts.0) i ++ shown text parts.1 i

all_shown : (names : List (List ℕ)) → list_all (list_all (λ c. nat_lt c 128)) names ≡ true → list_all (list_all is_line_byte) names ≡ true → list_all (is_clean_key displayed) names ≡ true
all_shown [] plain clean = refl
all_shown (name ∷ names) plain clean =
    let p = and_parts (list_all (λ c. nat_lt c 128) name) (list_all (list_all (λ c. nat_lt c 128)) names) plain in
    let q = and_parts (list_all is_line_byte name) (list_all (list_all is_line_byte) names) clean in
    and_from (is_clean_key displayed name) (list_all (is_clean_key displayed) names) (subst (λ (t : List ℕ). list_all is_line_byte t ≡ true) (sym (shown name p.0)) q.0) (all_shown names p.1 q.1)

ids_clean : (params : List ℕ) (f : IdFault) → HasIdFault params f → list_all is_line_byte (id_fault_text f) ≡ true
ids_clean params id_fault.Memory is = refl
ids_clean params id_fault.TooMany is = refl
ids_clean params (id_fault.BadComponent index reason) is = joined (codes "component-bad ") (decimal index ++ 32 ∷ word_of reason) refl (joined (decimal index) (32 ∷ word_of reason) (number_clean index) (reason_clean reason))
ids_clean params (id_fault.Repeated index) is = joined (codes "component-repeated ") (decimal index) refl (number_clean index)
ids_clean params (id_fault.BadParameter key) is = joined (codes "parameter-bad ") (displayed key) refl (first_ill_typed displayed (all_shown (codes "created" ∷ codes "expires" ∷ []) refl refl) (all_shown string_keys refl refl) is.list.params key is.is.holds)

-- ---- what files are refused for

path_in : {X : Type 0} (path_of : X → List ℕ) (P : X → Type 0) (xs : List X) (path : List ℕ) → HoldsAtPath path_of P xs path → list_all (λ x. list_all is_line_byte (path_of x)) xs ≡ true → list_all is_line_byte path ≡ true
path_in path_of P [] path holds all = absurd holds
path_in path_of P (x ∷ xs) path (inl here) all =
    subst (λ (p : List ℕ). list_all is_line_byte p ≡ true) here.1 (and_parts (list_all is_line_byte (path_of x)) (list_all (λ y. list_all is_line_byte (path_of y)) xs) all).0
path_in path_of P (x ∷ xs) path (inr more) all =
    path_in path_of P xs path more (and_parts (list_all is_line_byte (path_of x)) (list_all (λ y. list_all is_line_byte (path_of y)) xs) all).1

rows_clean : list_all (λ (row : Row). list_all is_line_byte row.path) rows ≡ true
unfolding rows
rows_clean = refl

places_clean : list_all (λ place. list_all is_line_byte (place_path place)) places ≡ true
unfolding places
places_clean = refl

conf_clean : (text : List ℕ) (f : ConfFault) → IsConfFault text f → is_clean_file (NoConf f) ≡ true
conf_clean text conf_fault.Memory is = refl
conf_clean text conf_fault.NotToml is = refl
conf_clean text (conf_fault.UnknownKey path) is = path_in place_path _ places path is.holds.2.holds places_clean
conf_clean text (conf_fault.WrongType path) is = path_in (λ (row : Row). row.path) _ rows path is.holds.2.holds rows_clean
conf_clean text (conf_fault.OutOfRange path) is = path_in (λ (row : Row). row.path) _ rows path is.holds.2.holds rows_clean
conf_clean text (conf_fault.BadKeyText path) is = path_in (λ (row : Row). row.path) _ rows path is.holds.2.holds rows_clean
conf_clean text (conf_fault.BadComponents path) is = path_in (λ (row : Row). row.path) _ rows path is.holds.2.holds rows_clean
conf_clean text (conf_fault.BadScript path) is = path_in (λ (row : Row). row.path) _ rows path is.holds.2.holds rows_clean
conf_clean text (conf_fault.Missing path) is = path_in (λ (row : Row). row.path) _ rows path is.holds.2.holds rows_clean

conf_refused : (name found : Option (List ℕ)) (refusal : FileRefusal) → IsConfRefused name found refusal → is_clean_file refusal ≡ true
conf_refused None found refusal is = absurd is
conf_refused (Some name) None refusal is = rw is refl
conf_refused (Some name) (Some text) Missing is = refl
conf_refused (Some name) (Some text) (TooLong n) is = refl
conf_refused (Some name) (Some text) (NoMessage f) is = refl
conf_refused (Some name) (Some text) (NoConf f) is = conf_clean text f is.1
conf_refused (Some name) (Some text) (NoScript f) is = refl
conf_refused (Some name) (Some text) (NoRecording f) is = refl
conf_refused (Some name) (Some text) (Order i) is = refl
conf_refused (Some name) (Some text) (TooManyHops i) is = refl
conf_refused (Some name) (Some text) (OutOfPlace i) is = refl
conf_refused (Some name) (Some text) (TooManyItems i) is = refl
conf_refused (Some name) (Some text) (Fields f) is = refl

-- a refusal for no configuration
abbrev IsOfNoConf : FileRefusal → Type 0
IsOfNoConf refusal = (f : ConfFault) → ¬ (refusal ≡ NoConf f)

no_conf : (refusal : FileRefusal) → IsOfNoConf refusal → is_clean_file refusal ≡ true
no_conf Missing other = refl
no_conf (TooLong n) other = refl
no_conf (NoMessage f) other = refl
no_conf (NoConf f) other = absurd (other f refl)
no_conf (NoScript f) other = refl
no_conf (NoRecording f) other = refl
no_conf (Order i) other = refl
no_conf (TooManyHops i) other = refl
no_conf (OutOfPlace i) other = refl
no_conf (TooManyItems i) other = refl
no_conf (Fields f) other = refl

input_refused : (reading : Reading) (input : List ℕ) (refusal : FileRefusal) → IsInputRefused reading input refusal → is_clean_file refusal ≡ true
input_refused reading input refusal is = no_conf refusal (λ f same. subst (λ (r : FileRefusal). IsInputRefused reading input r) same is)

file_refused : (reading : Reading) (name found : Option (List ℕ)) (refusal : FileRefusal) → IsMessageFileRefused reading name found refusal → is_clean_file refusal ≡ true
file_refused reading None found refusal is = absurd is
file_refused reading (Some name) None refusal is = rw is refl
file_refused reading (Some name) (Some text) refusal is = input_refused reading text refusal is

script_refused : (name found : Option (List ℕ)) (refusal : FileRefusal) → IsScriptRefused name found refusal → is_clean_file refusal ≡ true
script_refused None found refusal is = absurd is
script_refused (Some name) None refusal is = rw is refl
script_refused (Some name) (Some text) refusal is = no_conf refusal (λ f same. subst (λ (r : FileRefusal). IsScriptRefused (Some name) (Some text) r) same is)

recording_refused : (input : List ℕ) (refusal : FileRefusal) → IsRecordingRefused input refusal → is_clean_file refusal ≡ true
recording_refused input refusal is = no_conf refusal (λ f same. subst (λ (r : FileRefusal). IsRecordingRefused input r) same is)

list_refused : (input : List ℕ) (refusal : FileRefusal) → IsListRefused input refusal → is_clean_file refusal ≡ true
list_refused input refusal is = no_conf refusal (λ f same. subst (λ (r : FileRefusal). IsListRefused input r) same is)

chain_refused : (items : List PlacedItem) (refusal : Refusal) → IsChainRefused items refusal → is_clean refusal ≡ true
chain_refused items Arguments is = refl
chain_refused items (Command r) is = absurd is
chain_refused items (Of Conf r) is = absurd is
chain_refused items (Of Request r) is = absurd is
chain_refused items (Of Wanted r) is = absurd is
chain_refused items (Of Script r) is = absurd is
chain_refused items (Of Other r) is = absurd is
chain_refused items (Of Input r) is = no_conf r (λ f same. subst (λ (s : FileRefusal). IsChainRefused items (Of Input s)) same is)
chain_refused items (Of (Item i) r) is = no_conf r (λ f same. subst (λ (s : FileRefusal). IsChainRefused items (Of (Item i) s)) same is)

table_missing : (needs : Needs) (conf : Configuration) (refusal : FileRefusal) → IsTableMissing needs conf refusal → is_clean_file refusal ≡ true
table_missing Nothing conf refusal is = absurd is
table_missing SignTable conf refusal is = rw is.1 refl
table_missing GatewayTables conf refusal (inl is) = rw is.1 refl
table_missing GatewayTables conf refusal (inr is) = rw is.2 refl

intake_refused : (needs : Needs) (names : FileNames) (found : Found) (input : List ℕ) (refusal : Refusal) → IsIntakeRefused needs names found input refusal → is_clean refusal ≡ true
intake_refused needs names found input Arguments is = absurd is
intake_refused needs names found input (Command r) is = absurd is
intake_refused needs names found input (Of (Item i) r) is = absurd is
intake_refused needs names found input (Of Conf r) (inl refused) = conf_refused (names ConfFile) (found ConfFile) r refused
intake_refused needs names found input (Of Conf r) (inr (conf, configured, missing)) = table_missing needs conf r missing
intake_refused needs names found input (Of Request r) is = file_refused one_request (names RequestFile) (found RequestFile) r is.1
intake_refused needs names found input (Of Wanted r) is = file_refused any_message (names WantedFile) (found WantedFile) r is.1
intake_refused needs names found input (Of Script r) is = script_refused (names ScriptFile) (found ScriptFile) r is.1
intake_refused needs names found input (Of Other r) is = file_refused (reading_for is.1.related) (names OtherFile) (found OtherFile) r is.1.refused
intake_refused needs names found input (Of Input r) is = input_refused (reading_for is.1.related) input r is.1.refused

-- ---- layers

module _ (refusal : Refusal) where
  of_layer : {V C : Type 0} (Reads : V → Type 0) (Causes : C → Type 0) (refusal_of : C → Refusal) (Then : V → Outcome → Type 0) → ((cause : C) → Causes cause → is_clean (refusal_of cause) ≡ true)
      → ((value : V) → Reads value → Then value (Refused refusal) → is_clean refusal ≡ true) → ReadsThen Reads Causes refusal_of Then (Refused refusal) → is_clean refusal ≡ true
  of_layer Reads Causes refusal_of Then causes then (inl read) = then read.0 read.1 read.2
  of_layer Reads Causes refusal_of Then causes then (inr cause) =
      let same : refusal ≡ refusal_of cause.0 = cc (cause.2) in
      subst (λ (r : Refusal). is_clean r ≡ true) (sym same) (causes cause.0 cause.1)

  -- what comes of the files is clean, where what comes of the command is
  of_files : (needs : Needs) (Then : Answers) (names : FileNames) (found : Found) (input : List ℕ)
      → ((taken : TakenValues) → IsConfigured (names ConfFile) (found ConfFile) taken.conf → Then taken (Refused refusal) → is_clean refusal ≡ true)
      → ReportsFiles needs Then names found input (Refused refusal) → is_clean refusal ≡ true
  of_files needs Then names found input then =
      of_layer (IsIntake needs names found input) (IsIntakeRefused needs names found input) (λ r. r) Then (intake_refused needs names found input) (λ taken is. then taken is.conf.configured)

  -- ---- commands

  params_refused : (params : List ℕ) (cause : CommandRefusal) → AreParamsRefused params cause → is_clean (Command cause) ≡ true
  params_refused params (Ids f) is = ids_clean params f is
  params_refused params (Lacks lack id) is = absurd is
  params_refused params cause is = refl

  values_refused : (context : MessageContext) (ids : List ComponentId) → list_all is_id_in_range ids ≡ true → (cause : CommandRefusal) → IsValueLacking context ids cause → is_clean (Command cause) ≡ true
  values_refused context ids ranged (Ids f) is = absurd is
  values_refused context ids ranged (Lacks lack id) is = id_clean ids is.0 id ranged is.2
  values_refused context ids ranged cause is = refl

  ids_in_range : (params : SigParams) → are_sig_params_in_range params ≡ true → list_all is_id_in_range params.ids ≡ true
  ids_in_range params ranged = (and_parts (list_all is_id_in_range params.ids) (are_params_in_range params.params) ranged).0

  base_refused : (params : List ℕ) (context : MessageContext) → ReportsBase params context (Refused refusal) → is_clean refusal ≡ true
  base_refused params context =
      of_layer (ReadsParams params) (AreParamsRefused params) Command (ReportsValues context) (params_refused params) (λ sig reads.
      of_layer (HaveValues context sig.ids) (IsValueLacking context sig.ids) Command (λ values outcome. outcome ≡ Done (signature_base sig values))
      (values_refused context sig.ids (ids_in_range sig (params_in_range params sig reads))) (λ values have done. absurd (cc done)))

  sign_refused : (context : MessageContext) (spec : SignSpec) → IsValidSpec spec → (cause : CommandRefusal) → IsSignRefused context spec cause → is_clean (Command cause) ≡ true
  sign_refused context spec valid (Ids f) is = absurd is
  sign_refused context spec valid (Lacks lack id) is = id_clean spec.params.ids is.0 id (ids_in_range spec.params valid.in_range) is.2
  sign_refused context spec valid cause is = refl

  wishes_refused : (conf : Configuration) (wishes : Message) (cause : CommandRefusal) → AreWishesRefused conf wishes cause → is_clean (Command cause) ≡ true
  wishes_refused conf wishes (Ids f) is = absurd is
  wishes_refused conf wishes (Lacks lack id) is = absurd is
  wishes_refused conf wishes cause is = refl

  each_refused : (specs : List SignSpec) (context : MessageContext) → All IsValidSpec specs → ReportsEach context specs (Refused refusal) → is_clean refusal ≡ true
  each_refused [] context valid = λ done. absurd (cc done)
  each_refused (spec ∷ specs) context valid =
      of_layer (IsUnrefused (IsSignedMessage context spec) (IsSignRefused context spec)) (IsSignRefused context spec) Command (λ written. ReportsEach (context_with context written) specs)
      (sign_refused context spec (All-head IsValidSpec spec specs valid)) (λ written made. each_refused specs (context_with context written) (All-tail IsValidSpec spec specs valid))

  steps_refused : (label : Option (List ℕ)) (index : ℕ) (context : MessageContext) (script : List Rewriting) → ReportsSteps label index context script (Refused refusal) → is_clean refusal ≡ true
  steps_refused label index context [] = λ done. absurd (cc done)
  steps_refused label index context (step ∷ script) =
      of_layer (IsTaken label context step) (IsStepRefused label index context step) (λ cause. Command (NotTaken cause)) (λ after. ReportsSteps label (index + 1) (context_with context after) script) (λ cause is. refl) (λ after taken. steps_refused label (index + 1) (context_with context after) script)

  written_not : (message : Message) (label : List ℕ) (explained : Explained) → ¬ WritesExplained message label explained (Refused refusal)
  written_not message label (Same first second) done = cc done
  written_not message label (Differs index) done =
      let id = some_and_parts (λ (i : ComponentId). Refused refusal ≡ NotOk (differing_text i)) (slice_get done.params.ids index) done.there in
      cc (id.2)

  explanation_refused : (label : List ℕ) (also : Option Message) (context : MessageContext) → IsSomeAnd also (λ other. ReportsExplanation label other context (Refused refusal)) → is_clean refusal ≡ true
  explanation_refused label None context = λ none. absurd none
  explanation_refused label (Some also) context =
      of_layer (IsUnrefused (Explains context (context_with context also) label) (IsExplainFault context (context_with context also) label)) (IsExplainFault context (context_with context also) label)
      (λ fault. Command (NotExplained fault)) (λ explained. WritesExplained context.message label explained) (λ cause is. refl) (λ explained made done. absurd (written_not context.message label explained done))

  lines_not : (labels : List (List ℕ)) (verdicts : List Verdict) (all : Bool) → list_all is_accepted verdicts ≡ all → ¬ (Refused refusal ≡ verdicts_outcome labels verdicts)
  lines_not labels verdicts true is same = cc (rw is at same)
  lines_not labels verdicts false is same = cc (rw is at same)

  report_not : (lines : List AuditLine) (counts : Bool) → finds_fault lines ≡ counts → ¬ (Refused refusal ≡ audit_outcome lines)
  report_not lines true is same = cc (rw is at same)
  report_not lines false is same = cc (rw is at same)

  summary_not : (summary : Summary) (counts : Bool) → summary.finds_fault ≡ counts → ¬ (Refused refusal ≡ sample_outcome summary)
  summary_not summary true is same = cc (rw is at same)
  summary_not summary false is same = cc (rw is at same)

  audit_refused : (conf : Configuration) (input : List ℕ) → ReportsAudit conf input (Refused refusal) → is_clean refusal ≡ true
  audit_refused conf input =
      of_layer (IsRecordingText input) (IsRecordingRefused input) (λ r. Of Input r) (ReportsChain conf) (recording_refused input) (λ items is.
      of_layer (IsAudit conf items) (IsChainRefused items) (λ r. r) (λ lines outcome. outcome ≡ audit_outcome lines) (chain_refused items) (λ lines audit same. absurd (report_not lines (finds_fault lines) refl same)))

  turned_refused : (into_message : Bool) (names : FileNames) (found : Found) (input : List ℕ) → ReportsTurned into_message names found input (Refused refusal) → is_clean refusal ≡ true
  turned_refused true names found input =
      of_layer (IsConfigured (names ConfFile) (found ConfFile)) (IsConfRefused (names ConfFile) (found ConfFile)) (λ r. Of Conf r) (λ conf. ReportsIntoMessage conf input) (conf_refused (names ConfFile) (found ConfFile))
      (λ conf configured.
      of_layer (IsListText input) (IsListRefused input) (λ r. Of Input r) (ReportsMessageOf conf.scheme) (list_refused input) (λ list is.
      of_layer (TurnsInto list conf.scheme) (IsToFault list conf.scheme) (λ fault. Command (ToMessage fault)) (λ message outcome. outcome ≡ Done (message_text message)) (λ fault is. refl) (λ message turned same. absurd (cc same))))
  turned_refused false names found input =
      of_files Nothing (λ taken. ReportsIntoFields taken.context) names found input
      (λ taken configured. of_layer (TurnsIntoList taken.context) (IsFromFault taken.context) (λ fault. Command (FromMessage fault)) (λ list outcome. outcome ≡ Done (list_text list)) (λ fault is. refl) (λ list turned same. absurd (cc same)))

  signing_refused : (words : SignWords) → words.now ≤ MAX_MOMENT → IfSome words.nonce (λ text. IsTrue (list_all is_string_byte text)) → (conf : Configuration) → IsValid conf → (wishes : Option Message) (context : MessageContext)
      → ReportsSigning words.nonce words.now conf wishes context (Refused refusal) → is_clean refusal ≡ true
  signing_refused words timely characters conf valid None context = λ reports.
      each_refused (reports.spec ∷ []) context
      (All-cons IsValidSpec reports.spec [] (valid_where_asked conf (is_request context.message.head.start) words.now words.nonce reports.spec valid timely characters reports.is) (All-nil IsValidSpec)) reports.reports
  signing_refused words timely characters conf valid (Some wishes) context =
      of_layer (IsUnrefused (AreWished conf words.now wishes) (AreWishesRefused conf wishes)) (AreWishesRefused conf wishes) Command (ReportsEach context) (wishes_refused conf wishes) (λ specs wished. each_refused specs context (valid_where_wished conf words.now wishes specs valid timely wished.made))

  valid_at : (specs : List SignSpec) (index : ℕ) (spec : SignSpec) → All IsValidSpec specs → slice_get specs index ≡ Some spec → IsValidSpec spec
  valid_at specs index spec valid there = All-contains IsValidSpec specs spec valid (index, slice_get_within specs index spec there, get_or_from_slice_get specs index spec spec there)

  digest_refused : (conf : Configuration) → IsValid conf → (now : ℕ) → now ≤ MAX_MOMENT → (context : MessageContext) (f : NegotiateFault) (cause : CommandRefusal) → IsRefusalOf now conf context f cause → is_clean (Command cause) ≡ true
  digest_refused conf valid now timely context nego.Memory cause is = absurd is
  digest_refused conf valid now timely context nego.WishMalformed cause is = rw is refl
  digest_refused conf valid now timely context nego.Unacceptable cause is = rw is refl
  digest_refused conf valid now timely context nego.DigestUnmet cause is = rw is refl
  digest_refused conf valid now timely context (nego.Wanted f) cause is = rw is refl
  digest_refused conf valid now timely context (nego.Sign index sign_fault.Memory) cause is = rw is refl
  digest_refused conf valid now timely context (nego.Sign index sign_fault.InputMalformed) cause is = rw is refl
  digest_refused conf valid now timely context (nego.Sign index sign_fault.SignatureMalformed) cause is = rw is refl
  digest_refused conf valid now timely context (nego.Sign index sign_fault.LabelThere) cause is = rw is refl
  digest_refused conf valid now timely context (nego.Sign index (sign_fault.SelfCover place)) cause is = rw is refl
  digest_refused conf valid now timely context (nego.Sign index (sign_fault.TooLong limit)) cause is = rw is refl
  digest_refused conf valid now timely context (nego.Sign index (sign_fault.Lacks place lack)) cause is =
      let id = is.1 in
      let spec = valid_at id.specs index id.spec (valid_where_wished conf now id.request id.specs valid timely id.wished) id.there in
      rw is.2 (id_clean id.spec.params.ids place is.0 (ids_in_range id.spec.params spec.in_range) id.id_is)

  negotiation_refused : (conf : Configuration) → IsValid conf → (now : ℕ) → now ≤ MAX_MOMENT → (context : MessageContext) → ReportsNegotiation now conf context (Refused refusal) → is_clean refusal ≡ true
  negotiation_refused conf valid now timely context =
      of_layer (IsUnrefused (IsNegotiated conf now context) (IsNegotiateFault conf now context)) (IsNegotiateRefused now conf context) Command (λ written outcome. outcome ≡ Done (message_text written))
      (λ cause is. digest_refused conf valid now timely context is.0 cause is.2) (λ written made done. absurd (cc done))

  command_refused : (arguments : List (List ℕ)) (command : CommandLine) → IsCommand arguments command → (found : Found) (input : List ℕ) → ReportsCommand command found input (Refused refusal) → is_clean refusal ≡ true
  command_refused arguments Help is found input = λ same. absurd (cc same)
  command_refused arguments (HelpOf command) is found input = λ same. absurd (cc same)
  command_refused arguments Version is found input = λ same. absurd (cc same)
  command_refused arguments (Base words) is found input =
      of_files Nothing (λ taken. ReportsBase words.params taken.context) (name_of (Base words)) found input (λ taken configured. base_refused words.params taken.context)
  command_refused arguments (Verify words) is found input =
      of_files Nothing (λ taken. ReportsVerdicts words.label words.now taken.conf taken.context) (name_of (Verify words)) found input
      (λ taken configured reports. absurd (lines_not reports.labels reports.verdicts (list_all is_accepted reports.verdicts) refl reports.outcome_is))
  command_refused arguments (Sign words) is found input =
      of_files SignTable (λ taken. ReportsSigning words.nonce words.now taken.conf taken.wishes taken.context) (name_of (Sign words)) found input
      (λ taken configured.
      signing_refused words (signs_timely arguments words is) (signs_characters arguments words is) taken.conf (valid_where_configured (Some words.conf) (found ConfFile) taken.conf configured) taken.wishes taken.context)
  command_refused arguments (Rewrite words) is found input =
      of_files Nothing (λ taken. ReportsRewriting words.label taken.script taken.context) (name_of (Rewrite words)) found input (λ taken configured. steps_refused words.label 0 taken.context taken.script)
  command_refused arguments (Explain words) is found input =
      of_files Nothing (λ taken outcome. IsSomeAnd taken.other (λ other. ReportsExplanation words.label other taken.context outcome)) (name_of (Explain words)) found input
      (λ taken configured. explanation_refused words.label taken.other taken.context)
  command_refused arguments (Audit words) is found input =
      of_layer (IsConfigured (Some words.conf) (found ConfFile)) (IsConfRefused (Some words.conf) (found ConfFile)) (λ r. Of Conf r) (λ conf. ReportsAudit conf input) (conf_refused (Some words.conf) (found ConfFile))
      (λ conf configured. audit_refused conf input)
  command_refused arguments (Gateway words) is found input = λ reports. absurd reports
  command_refused arguments (Lists words) is found input = turned_refused words.into_message (name_of (Lists words)) found input
  command_refused arguments (Negotiate words) is found input =
      of_files SignTable (λ taken. ReportsNegotiation words.now taken.conf taken.context) (name_of (Negotiate words)) found input
      (λ taken configured. negotiation_refused taken.conf (valid_where_configured (Some words.conf) (found ConfFile) taken.conf configured) words.now (negotiates_timely arguments words is) taken.context)
  command_refused arguments (Sample words) is found input = λ reports. absurd (summary_not reports.0 reports.0.finds_fault refl reports.2)

pub is_line_where_refused : IsLineWhereRefused
is_line_where_refused arguments found input refusal reports =
    is_line_of_refusal refusal (of_layer refusal (IsCommand arguments) (λ (_ : ⊤). NoCommand arguments) (λ _. Arguments) (λ command. ReportsCommand command found input) (λ _ _. refl) (λ command is. command_refused refusal arguments command is found input) reports)
