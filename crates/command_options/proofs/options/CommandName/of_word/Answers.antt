use Rattle.std.proofs.Common.{[], ◌∷◌, sym}
use Rattle.std.specs.Str.{bytes_eq}
use Rattle.command_options.specs.Names.{command_word}
use Rattle.command_options.specs.declared.options.CommandName.TheVariants.{Base, Verify, Sign, Rewrite, Explain, Audit, Gateway, Lists, Negotiate, Sample}
use Rattle.command_options.proofs.FirstFound.{found_next, none_found}
use Rattle.command_options.proofs.options.CommandName.of_word.Goals as goal

pub returns-then-eq : goal.returns-then-eq
returns-then-eq c =
    found_next (λ command. bytes_eq c.args.word.now (command_word command))
    (Base ∷ Verify ∷ Sign ∷ Rewrite ∷ Explain ∷ Audit ∷ Gateway ∷ Lists ∷ Negotiate ∷ Sample ∷ []) c.loop-command.command-index Base c.loop-command-test.true c.loop-command.invariant
    (sym (rw c.word.ensures at c.if-eq.ensures))

pub returns : goal.returns
returns c =
    none_found (λ command. bytes_eq c.args.word.now (command_word command))
    (Base ∷ Verify ∷ Sign ∷ Rewrite ∷ Explain ∷ Audit ∷ Gateway ∷ Lists ∷ Negotiate ∷ Sample ∷ []) c.loop-command.command-index c.loop-command-test.false c.loop-command.invariant
