use Rattle.std.proofs.Common.{map, string_bytes, ap, ◌∙◌, List, ℕ, ◌∷◌}
use Rattle.std.specs.Prelude.{codes}
use Rattle.command_line.proofs.FirstWords.{asked}
use Rattle.command_line.proofs.command.read_base.Goals as goal

pub returns-clause-some : goal.returns-clause-some
returns-clause-some c =
    let has = c.in-Some-read_options.ensures.some in
    record {
      words = map string_bytes c.in-Some.others.now;
      options = has.options;
      joined = ap (λ (words : List (List ℕ)). codes "base" ∷ words) c.in-Some.ensures.some;
      asks = λ e. asked (map string_bytes c.args.words.now) c.requires (c.in-Some.ensures.some ∙ e);
      are = has.are;
      conf_is = has.conf_is has.options has.are.joined;
      request_is = has.request_is has.options has.are.joined;
    }
