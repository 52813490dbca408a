-- Arguments whose first word isn't `gateway`.
use Rattle.std.proofs.Common.{◌≡◌, ◌∙◌, ℕ, false, List, ◌∷◌, codes, ap, refl, sym}
use Rattle.std.proofs.lemmas.Bool.{false≢true}
use Rattle.std.proofs.lemmas.Slice.Eq.{bytes_eq-Decides}
use Rattle.command_line.specs.Command.{Help, HelpOf, Version, Base, Verify, Sign, Rewrite, Explain, Audit, Gateway, Lists, Negotiate, Sample}
use Rattle.program.specs.Commands.{ReadsWhole}
use Rattle.program.specs.tools.Parts.{begin_stream}

named : (words : List (List ℕ)) → begin_stream (codes "gateway" ∷ words) ≡ false → ⊥
named words none = false≢true (sym none ∙ (bytes_eq-Decides (codes "gateway") (codes "gateway")).1 refl)

pub no_stream : (arguments : List (List ℕ)) → begin_stream arguments ≡ false → ReadsWhole arguments
no_stream arguments none Help is = refl
no_stream arguments none (HelpOf command) is = refl
no_stream arguments none Version is = refl
no_stream arguments none (Base words) is = refl
no_stream arguments none (Verify words) is = refl
no_stream arguments none (Sign words) is = refl
no_stream arguments none (Rewrite words) is = refl
no_stream arguments none (Audit words) is = refl
no_stream arguments none (Gateway words) is = absurd (named is.words (ap begin_stream (sym is.joined) ∙ none))
no_stream arguments none (Explain words) is = refl
no_stream arguments none (Lists words) is = refl
no_stream arguments none (Negotiate words) is = refl
no_stream arguments none (Sample words) is = refl
