use Rattle.byte_grammar.specs.Classes.{is_space}
use Rattle.byte_grammar.specs.tools.Walks.{padded_read}
use Rattle.sfv_read.specs.tools.InnerWalk.{inner_list_read}
use Rattle.sfv_text.specs.Range.{is_inner_in_range}
use Rattle.sfv_read.proofs.InRange.{inner_read_in_range}
use Rattle.sfv_read.proofs.Readings.{promises, passing, inner_judges}
use Rattle.sfv_read.proofs.read.read_inner.Goals as goal

pub returns : goal.returns
returns c =
    let p = promises inner_judges c.args.text.now c.answer.result (c.answer.ensures (λ t. padded_read is_space inner_list_read t) c.read_padded_inner.ensures.gives) in
    record {
      ok = p.ok;
      in_range = passing is_inner_in_range inner_read_in_range c.args.text.now c.answer.result p.ok;
      only = p.only;
      fault = p.fault;
    }
