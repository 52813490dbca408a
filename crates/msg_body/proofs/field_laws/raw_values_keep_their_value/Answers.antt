use Rattle.msg_body.proofs.ValueLaws.{forgets_spacing_at_ends, takes_fold_for_space, is_value_of_parts, has_no_blank_at_ends, is_value_of_itself, is_value_of_joined}
use Rattle.msg_body.proofs.field_laws.raw_values_keep_their_value.Goals as goal

pub returns : goal.returns
returns c = record {
  ends = forgets_spacing_at_ends;
  fold = takes_fold_for_space;
  parts = is_value_of_parts;
  blanks = has_no_blank_at_ends;
  itself = is_value_of_itself;
  joined = is_value_of_joined;
}
