use Rattle.conf.proofs.AnswerLaws.{has_answer}
use Rattle.conf.proofs.CauseLaws.{one_fault, not_both}
use Rattle.conf.proofs.MeaningLaws.{one_meaning}
use Rattle.conf.proofs.laws.a_text_is_one_configuration.Goals as goal

pub returns : goal.returns
returns c = record { answer = has_answer; meaning = one_meaning; fault = one_fault; either = not_both }
