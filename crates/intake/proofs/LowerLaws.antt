-- Laws of the crates below, in the form that the proofs here use.
use Rattle.std.proofs.Common.{refl}
use Rattle.msg_body.proofs.OneMessages.{one_message_law}
use Rattle.msg_body.specs.Laws.{IsWholeOrNot, OneMessage, OneFaultOfText, NoFaultOfWhole}
use Rattle.msg_body.proofs.WholeTexts.{is_whole_or_not, no_fault_of_whole, one_fault_of_text}
use Rattle.settings.specs.Standard.{standard_configuration}
use Rattle.conf.specs.Laws.{HasConfAnswer, HasOneMeaning, HasOneConfFault, HasNoFaultWhereRead, IsStandardOfEmpty, IsValidWhereRead}
use Rattle.conf.proofs.AnswerLaws as conf
use Rattle.conf.proofs.CauseLaws as cause
use Rattle.conf.proofs.ConfLaws as valid
use Rattle.conf.proofs.EmptyLaws.{empty_configures}
use Rattle.conf.proofs.MeaningLaws as meaning

-- ---- configurations

pub one_meaning : HasOneMeaning
one_meaning = meaning.one_meaning

pub one_conf_fault : HasOneConfFault
one_conf_fault = cause.one_fault

pub not_both_conf : HasNoFaultWhereRead
not_both_conf = cause.not_both

pub conf_answer_of : HasConfAnswer
conf_answer_of = conf.has_answer

pub empty_says : IsStandardOfEmpty
empty_says = empty_configures standard_configuration refl

pub valid_where_read : IsValidWhereRead
valid_where_read = valid.valid_where_read

-- ---- messages

-- an input is the text of one message
pub one_text : OneMessage
one_text = one_message_law

-- an input that isn't one whole message has one fault
pub one_message_fault : OneFaultOfText
one_message_fault = one_fault_of_text

-- and one that is has none
pub text_no_fault : NoFaultOfWhole
text_no_fault = no_fault_of_whole

pub message_answer : IsWholeOrNot
message_answer = is_whole_or_not
