use Rattle.std.proofs.Common.{[], ◌∷◌, map, string_bytes, subst, sym}
use Rattle.command_options.specs.Names.{command_word}
use Rattle.command_options.specs.declared.options.CommandName.{CommandName}
use Rattle.command_line.specs.tools.Wrong.{HasFault}
use Rattle.command_line.proofs.OptionFaults.{plain_start, plain_words}
use Rattle.command_line.proofs.Results.{if_none, if_some}
use Rattle.command_line.proofs.fault.unhelped_fault.Goals as goal

pub returns-in-Sample-clause-some : goal.returns-in-Sample-clause-some
returns-in-Sample-clause-some c =
    if_some c.sample_fault.result
    (λ fault is. subst (λ (command : CommandName). HasFault (command_word command ∷ map string_bytes c.args.words.now) fault) (sym c.in-Sample.is) (is c.requires.plain))
    c.sample_fault.ensures.some

pub returns-in_default : goal.returns-in_default
returns-in_default c =
    let starts = plain_start c.args.command c.requires.other c.in_default.not-Sample in
    record {
      none = if_none c.command_fault.result (λ is. is (command_word c.args.command ∷ []) starts) c.command_fault.ensures.none;
      some = if_some c.command_fault.result (λ fault is. is (command_word c.args.command ∷ []) starts (plain_words c.args.command (map string_bytes c.args.words.now) c.requires.plain)) c.command_fault.ensures.some;
    }
