use Rattle.std.proofs.Common.{◌≡◌, ℕ, true, List, [], ◌∷◌, subst, sym}
use Rattle.std.specs.Str.{bytes_eq}
use Rattle.command_options.specs.Options.{row_of}
use Rattle.command_options.specs.declared.options.CommandOption.TheVariants.{Conf, Now, Label, Request, Nonce, Wanted, Script, Other, Into}
use Rattle.command_options.proofs.FirstFound.{found_next, none_found}
use Rattle.command_options.proofs.options.CommandOption.of_word.Goals as goal

pub returns-then-eq : goal.returns-then-eq
returns-then-eq c =
    found_next (λ option. bytes_eq c.args.word.now (row_of option).word)
    (Conf ∷ Now ∷ Label ∷ Request ∷ Nonce ∷ Wanted ∷ Script ∷ Other ∷ Into ∷ []) c.loop-option.option-index Conf c.loop-option-test.true c.loop-option.invariant
    (subst (λ (name : List ℕ). bytes_eq c.args.word.now name ≡ true) c.word.ensures (sym c.if-eq.ensures))

pub returns : goal.returns
returns c =
    none_found (λ option. bytes_eq c.args.word.now (row_of option).word)
    (Conf ∷ Now ∷ Label ∷ Request ∷ Nonce ∷ Wanted ∷ Script ∷ Other ∷ Into ∷ []) c.loop-option.option-index c.loop-option-test.false c.loop-option.invariant
