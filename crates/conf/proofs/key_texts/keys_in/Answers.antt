use Rattle.conf.proofs.AddedLaws.{distinct_of}
use Rattle.conf.proofs.key_texts.keys_in.Goals as goal

pub returns-clause-distinct : goal.returns-clause-distinct
returns-clause-distinct c = distinct_of c.args.table.now.entries c.iter-keyid-items.ensures.ordered

pub returns-in_err-add_entry-clause-distinct : goal.returns-in_err-add_entry-clause-distinct
returns-in_err-add_entry-clause-distinct c = distinct_of c.args.table.now.entries c.iter-keyid-items.ensures.ordered
