use Rattle.std.proofs.Common.{◌≡◌, Some, refl, sym, ap, ◌∙◌, map, string_bytes}
use Rattle.std.specs.Prelude.{codes}
use Rattle.command_options.specs.Options.{into_word}
use Rattle.command_line.proofs.CommandOrNone.{into_is}
use Rattle.command_options.proofs.OptionLists.{value_had}
use Rattle.command_line.proofs.command.read_lists.Goals as goal

pub returns-clause-some : goal.returns-clause-some
returns-clause-some c =
    let found = c.in-Some-Some.ensures.some in
    let was : c.in-Some-Some.field-0.into ≡ Some c.in-Some-Some.into = cc in
    let given = sym (rw was at found.into_is found.options found.are.joined) in
    let word = into_is c.in-Some-Some.into.now (value_had (codes "--into") c.in-Some-Some.into.now found.options found.are.had given) in
    record {
      words = map string_bytes c.args.words.now;
      options = found.options;
      joined = refl;
      are = found.are;
      into_is = given ∙ ap Some (word ∙ ap into_word (sym c.eq.ensures));
      conf_is = found.conf_is found.options found.are.joined;
    }
