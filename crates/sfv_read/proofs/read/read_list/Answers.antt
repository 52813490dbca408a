use Rattle.sfv_read.specs.tools.MemberWalk.{list_read}
use Rattle.sfv_text.specs.Range.{is_list_in_range}
use Rattle.sfv_read.proofs.InRange.{list_read_in_range}
use Rattle.sfv_read.proofs.Readings.{promises, passing, list_judges}
use Rattle.sfv_read.proofs.read.read_list.Goals as goal

pub returns : goal.returns
returns c =
    let p = promises list_judges c.args.text.now c.answer.result (c.answer.ensures (λ t. list_read t) c.read_separated.ensures.gives) in
    record {
      ok = p.ok;
      in_range = passing is_list_in_range list_read_in_range c.args.text.now c.answer.result p.ok;
      only = p.only;
      fault = p.fault;
    }
