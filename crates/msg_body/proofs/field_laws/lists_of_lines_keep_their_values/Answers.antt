use Rattle.msg_body.proofs.LineLists.{takes_line_for_other, keeps_other_names_around, forgets_order_of_names, takes_line_for_two}
use Rattle.msg_body.proofs.field_laws.lists_of_lines_keep_their_values.Goals as goal

pub returns : goal.returns
returns c = record {
  other = takes_line_for_other;
  others = keeps_other_names_around;
  order = forgets_order_of_names;
  two = takes_line_for_two;
}
