use Rattle.byte_grammar.specs.Classes.{is_space}
use Rattle.byte_grammar.specs.tools.Walks.{padded_read}
use Rattle.sfv_read.specs.tools.ItemWalk.{item_read}
use Rattle.sfv_text.specs.Range.{is_item_in_range}
use Rattle.sfv_read.proofs.InRange.{item_read_in_range}
use Rattle.sfv_read.proofs.Readings.{promises, passing, item_judges}
use Rattle.sfv_read.proofs.read.read_item.Goals as goal

pub returns : goal.returns
returns c =
    let p = promises item_judges c.args.text.now c.answer.result (c.answer.ensures (λ t. padded_read is_space item_read t) c.read_padded_item.ensures.gives) in
    record {
      ok = p.ok;
      in_range = passing is_item_in_range item_read_in_range c.args.text.now c.answer.result p.ok;
      only = p.only;
      fault = p.fault;
    }
