use Rattle.sfv_read.specs.tools.MemberWalk.{dict_read}
use Rattle.sfv_text.specs.Range.{is_dict_in_range}
use Rattle.sfv_read.proofs.InRange.{dict_read_in_range}
use Rattle.sfv_read.proofs.Readings.{promises, passing, dict_judges}
use Rattle.sfv_read.proofs.read.read_dict.Goals as goal

pub returns : goal.returns
returns c =
    let p = promises dict_judges c.args.text.now c.answer.result (c.answer.ensures (λ t. dict_read t) c.read_separated.ensures.gives) in
    record {
      ok = p.ok;
      in_range = passing is_dict_in_range dict_read_in_range c.args.text.now c.answer.result p.ok;
      only = p.only;
      fault = p.fault;
    }
