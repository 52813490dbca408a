use Rattle.sfv_text.proofs.PutLaws.{distinct_parts, put_distinct, put_kept, put_new, put_value}
use Rattle.sfv_text.proofs.laws.keys_stay_distinct.Goals as goal

pub returns : goal.returns
returns g c = record { first = distinct_parts; distinct = put_distinct; each = put_kept; new = put_new; value = put_value }
