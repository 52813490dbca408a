use Rattle.std.proofs.Common.{◌≡◌, Some, None, rules}
use Rattle.sfv_text.specs.Keys.{value_of}
use Rattle.signatures.proofs.InRange.{is_signature_in_range}
use Rattle.signatures.proofs.message_signatures.MessageSignatures.find.Goals as goal

pub returns-in-None-clause-is : goal.returns-in-None-clause-is
returns-in-None-clause-is c message are =
    let none : value_of c.args.self.now.by_label c.args.label.now ≡ None = search (rules, c.find.ensures, c.in-None.is) in
    rw none at (are.each c.args.label.now)

pub returns-in-Some-None-clause-is : goal.returns-in-Some-None-clause-is
returns-in-Some-None-clause-is c message are =
    let none : value_of c.args.self.now.by_label c.args.label.now ≡ Some None = search (rules, c.find.ensures, c.in-Some-None.is) in
    rw none at (are.each c.args.label.now)

pub returns-in-Some-Some-clause-in_range : goal.returns-in-Some-Some-clause-in_range
returns-in-Some-Some-clause-in_range c message are =
    let read = c.in-Some-Some.read in
    let there : value_of c.args.self.now.by_label c.args.label.now ≡ Some (Some read) = search (rules, c.find.ensures, c.in-Some-Some.is) in
    is_signature_in_range message c.args.label.now read.params read.tag (rw there at (are.each c.args.label.now))
