use Rattle.std.proofs.Common.{refl}
use Rattle.signatures.proofs.Reading.{has_no_failure_where_read}
use Rattle.signatures.proofs.message_signatures.signature_in.Goals as goal

pub returns-in-Err-Rule : goal.returns-in-Err-Rule
returns-in-Err-Rule c = λ message are params tag has.
    let unread = ((rw c.in-Err-Rule.field-0-is at c.in-Err-Rule.ensures).fault message are c.in-Err-Rule.field-0-0 c.in-Err-Rule.field-0-1).only refl in
    absurd (has_no_failure_where_read message c.args.label.now params tag c.in-Err-Rule.field-0-0 c.in-Err-Rule.field-0-1 has unread.holds)
