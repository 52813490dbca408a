-- Laws of what is read and of the commands, in the form that the proofs here use.
use Rattle.commands.proofs.Answered as answered
use Rattle.commands.proofs.Auditing as audits
use Rattle.commands.proofs.Decided as decided
use Rattle.intake.proofs.Answered as found
use Rattle.intake.proofs.Decided as inputs
use Rattle.intake.proofs.DecidedConf as configured
use Rattle.commands.proofs.OneOutcome as verdicts
use Rattle.commands.proofs.Sampled as samples
use Rattle.intake.proofs.NeededTables as tables
use Rattle.commands.proofs.OneSigning as signing
use Rattle.intake.proofs.ScriptFiles as scripts
use Rattle.commands.proofs.LowerExplaining as explained
use Rattle.commands.proofs.Negotiating as negotiating
use Rattle.commands.proofs.LowerRewriting as rewritten
use Rattle.commands.proofs.SignedMessages as signed
use Rattle.intake.proofs.TakenFiles as files
use Rattle.commands.proofs.Turning as turning
use Rattle.negotiation.proofs.ChosenDigests as digests
use Rattle.negotiation.proofs.WishedSignatures as negotiated
use Rattle.negotiation.specs.Laws.{HasDigestWhereChosen, HasEachWished, IsMessageWhereNegotiated, KeepsEachSignature}
use Rattle.field_lists.proofs.FromLaws as from
use Rattle.field_lists.proofs.ListRows as list_rows
use Rattle.field_lists.proofs.MessageRows as message_rows
use Rattle.field_lists.proofs.ToLaws as to
use Rattle.field_lists.proofs.WholeMessages as whole
use Rattle.field_lists.specs.Laws.{HasListOrFromFault, HasMessageOrFault, IsWholeMessage, ListHasTheSame, MessageHasTheSame}
use Rattle.intake.specs.Laws.{IsConfigurationDecided, AreTablesDecided, IsRecordDecided, IsRequestDecided, IsWantedDecided, IsInputDecided, HasConfiguration, HaveTables, HasRecord, HasRequest, HasWanted, HasMessage, IsValidWhereConfigured, IsScriptDecided, HasScript, HaveValuesWhereScripted, IsWritableWhereScripted}
use Rattle.commands.specs.Laws.{HasOneIntoFields, HasOneIntoMessage, HasSomeIntoFields, HasSomeIntoMessage, AreParamsDecided, AreValuesDecided, HaveOneOutcome, HaveParams, HaveValuesOrLack, HaveSomeOutcome, HasOneSigning, HasSomeSigning, HasOneExplained, HasSomeExplained, HasOneRewritten, HasSomeRewritten, HasAudit, HasOneAuditing, HasSomeAuditing, HasOneSampling, HasSomeSampling, HasOneNegotiation, HasSomeNegotiation}
use Rattle.hop_audit.proofs.SameVerdicts as reports
use Rattle.hop_audit.specs.Laws.{KeepsWhatIsPermitted}
use Rattle.commands.specs.RewrittenMessages.{IsMessageWhereRewritten, HasVerdictWhereRewritten}
use Rattle.commands.specs.SignedMessages.{IsKeptWhereSigned, IsMessageWhereSigned, IsRightWhereSigned}

pub conf_decided : IsConfigurationDecided
conf_decided = configured.conf_decided

pub request_decided : IsRequestDecided
request_decided = files.request_decided

pub record_decided : IsRecordDecided
record_decided = files.record_decided

pub record_answer : HasRecord
record_answer = files.has_record

pub explaining_law : HasOneExplained
explaining_law = explained.one_explained

pub explaining_answer : HasSomeExplained
explaining_answer = explained.has_some_explained

pub input_decided : IsInputDecided
input_decided = inputs.input_decided

pub params_decided : AreParamsDecided
params_decided = decided.params_decided

pub values_decided : AreValuesDecided
values_decided = decided.values_decided

pub verdicts_law : HaveOneOutcome
verdicts_law = verdicts.verdicts_law

pub conf_answer : HasConfiguration
conf_answer = found.has_configuration

pub request_answer : HasRequest
request_answer = files.has_request

pub input_answer : HasMessage
input_answer = found.has_message

pub params_answer : HaveParams
params_answer = answered.have_params

pub values_answer : HaveValuesOrLack
values_answer = answered.have_values_or_lack

pub verdicts_answer : HaveSomeOutcome
verdicts_answer = answered.have_some_outcome

pub tables_decided : AreTablesDecided
tables_decided = tables.tables_decided

pub wanted_decided : IsWantedDecided
wanted_decided = files.wanted_decided

pub signing_law : HasOneSigning
signing_law = signing.one_signing

pub tables_answer : HaveTables
tables_answer = tables.have_tables

pub wanted_answer : HasWanted
wanted_answer = files.has_wanted

pub signing_answer : HasSomeSigning
signing_answer = signing.has_some_signing

pub valid_where_configured : IsValidWhereConfigured
valid_where_configured = configured.is_valid_where_configured

pub message_where_signed : IsMessageWhereSigned
message_where_signed = signed.message_where_signed

pub right_where_signed : IsRightWhereSigned
right_where_signed = signed.right_where_signed

pub kept_where_signed : IsKeptWhereSigned
kept_where_signed = signed.kept_where_signed

pub script_decided : IsScriptDecided
script_decided = scripts.script_decided

pub script_answer : HasScript
script_answer = scripts.has_script

pub writable_where_scripted : IsWritableWhereScripted
writable_where_scripted = scripts.is_writable_where_scripted

pub values_where_scripted : HaveValuesWhereScripted
values_where_scripted = scripts.have_values_where_scripted

pub rewriting_law : HasOneRewritten
rewriting_law = rewritten.one_rewritten

pub rewriting_answer : HasSomeRewritten
rewriting_answer = rewritten.has_some_rewritten

pub message_where_rewritten : IsMessageWhereRewritten
message_where_rewritten = rewritten.message_where_rewritten

pub verdict_where_rewritten : HasVerdictWhereRewritten
verdict_where_rewritten = rewritten.verdict_where_rewritten

pub audit_answer : HasAudit
audit_answer = audits.has_audit

pub auditing_law : HasOneAuditing
auditing_law = audits.one_auditing

pub auditing_answer : HasSomeAuditing
auditing_answer = audits.some_auditing

pub sampling_law : HasOneSampling
sampling_law = samples.one_sampling

pub sampling_answer : HasSomeSampling
sampling_answer = samples.some_sampling

pub keeps_what_is_permitted : KeepsWhatIsPermitted
keeps_what_is_permitted = reports.what_is_permitted_is_kept

pub into_message_law : HasOneIntoMessage
into_message_law = turning.one_into_message

pub into_message_answer : HasSomeIntoMessage
into_message_answer = turning.some_into_message

pub into_fields_law : HasOneIntoFields
into_fields_law = turning.one_into_fields

pub into_fields_answer : HasSomeIntoFields
into_fields_answer = turning.some_into_fields

pub negotiation_law : HasOneNegotiation
negotiation_law = negotiating.one_negotiation

pub negotiation_answer : HasSomeNegotiation
negotiation_answer = negotiating.some_negotiation

pub message_where_negotiated : IsMessageWhereNegotiated
message_where_negotiated = negotiated.message_where_negotiated

pub each_wished : HasEachWished
each_wished = negotiated.each_wished

pub keeps_each_signature : KeepsEachSignature
keeps_each_signature = negotiated.kept_signatures

pub digest_where_chosen : HasDigestWhereChosen
digest_where_chosen = digests.chosen_digest

pub whole_message : IsWholeMessage
whole_message = whole.is_whole_message

pub has_same_in_message : MessageHasTheSame
has_same_in_message = message_rows.message_has_the_same

pub has_same_in_list : ListHasTheSame
has_same_in_list = list_rows.list_has_the_same

pub message_or_fault : HasMessageOrFault
message_or_fault = to.has_message_or_fault

pub list_or_from_fault : HasListOrFromFault
list_or_from_fault = from.has_list_or_from_fault
