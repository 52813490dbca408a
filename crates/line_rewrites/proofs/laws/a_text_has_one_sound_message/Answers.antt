use Rattle.line_rewrites.proofs.Deciding.{sized_or_not}
use Rattle.line_rewrites.proofs.Texts.{has_one_sound, sound_where_read}
use Rattle.line_rewrites.proofs.laws.a_text_has_one_sound_message.Goals as goal

pub returns : goal.returns
returns c = record { is = sound_where_read; one = has_one_sound; sized = sized_or_not }
