use Rattle.commands.proofs.SignedMessages.{kept_where_signed, message_where_signed, right_where_signed}
use Rattle.commands.proofs.laws.what_is_signed_is_rightly_signed.Goals as goal

pub returns : goal.returns
returns c = record { message = message_where_signed; right = right_where_signed; kept = kept_where_signed }
