use Rattle.rewrite_script.proofs.ScriptLaws.{has_script_or_fault, one_script, one_script_fault, no_fault_of_script}
use Rattle.rewrite_script.proofs.laws.a_text_is_a_script_or_has_a_fault.Goals as goal

pub returns : goal.returns
returns c = record {
  some = has_script_or_fault;
  script = one_script;
  fault = one_script_fault;
  either = no_fault_of_script;
}
