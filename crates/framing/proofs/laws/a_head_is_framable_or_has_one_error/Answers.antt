use Rattle.framing.proofs.FramingLaws.{has_framing_answer}
use Rattle.framing.proofs.Digits.{is_length_bounded}
use Rattle.framing.proofs.laws.a_head_is_framable_or_has_one_error.Goals as goal

pub returns-clause-answer : goal.returns-clause-answer
returns-clause-answer c = has_framing_answer

pub returns-clause-bounded : goal.returns-clause-bounded
returns-clause-bounded c = is_length_bounded
