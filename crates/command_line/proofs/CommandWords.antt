-- The moment, the nonce and the numbers of a command: its words may be no others.
use Rattle.std.proofs.Common.{◌≡◌, ◌<◌, ◌^◌, ℕ, List, Option, Some, None, refl, sym, subst}
use Rattle.std.specs.Prelude.{IsSomeAnd, codes}
use Rattle.std.specs.Str.Parse.{digits_value}
use Rattle.sfv_text.specs.Keys.{value_of}
use Rattle.sfv_text.specs.declared.pair.Pair.{Pair}
use Rattle.command_line.specs.Command.{CommandLine, Help, HelpOf, Version, Base, Verify, Sign, Rewrite, Explain, Audit, Gateway, Lists, Negotiate, Sample, IsCommand, IsTimely, HasRightNonce}
use Rattle.command_line.specs.Laws.{IsSampleBounded}
use Rattle.command_options.specs.Options.{AreOptions}
use Rattle.command_options.specs.declared.options.CommandName.{CommandName}
use Rattle.command_options.proofs.Moments.{below_digits, is_below}
use Rattle.command_options.proofs.OptionLists.{value_had, word_had}

moment_below : (command : CommandName) (words : List (List ℕ)) (options : List (Pair (List ℕ))) → AreOptions command words options
    → (now : ℕ) → IsSomeAnd (value_of options (codes "--now")) (λ digits. now ≡ digits_value 10 digits) → now < 10 ^ 15
moment_below command words options are now is = below (value_of options (codes "--now")) refl is
  where
    below : (found : Option (List ℕ)) → value_of options (codes "--now") ≡ found → IsSomeAnd found (λ digits. now ≡ digits_value 10 digits) → now < 10 ^ 15
    below None e is = absurd is
    below (Some digits) e is = subst (λ (n : ℕ). n < 10 ^ 15) (sym is) (is_below digits (value_had (codes "--now") digits options are.had e))

pub timely : (arguments : List (List ℕ)) (command : CommandLine) → IsCommand arguments command → IsTimely command
timely arguments Help is = tt
timely arguments (HelpOf command) is = tt
timely arguments Version is = tt
timely arguments (Base words) is = tt
timely arguments (Verify words) is = moment_below _ is.words is.options is.are words.now is.now_is
timely arguments (Sign words) is = moment_below _ is.words is.options is.are words.now is.now_is
timely arguments (Rewrite words) is = tt
timely arguments (Explain words) is = tt
timely arguments (Audit words) is = tt
timely arguments (Gateway words) is = tt
timely arguments (Lists words) is = tt
timely arguments (Negotiate words) is = moment_below _ is.words is.options is.are words.now is.now_is
timely arguments (Sample words) is = tt

pub right_nonce : (arguments : List (List ℕ)) (command : CommandLine) → IsCommand arguments command → HasRightNonce command
right_nonce arguments Help is = tt
right_nonce arguments (HelpOf command) is = tt
right_nonce arguments Version is = tt
right_nonce arguments (Base words) is = tt
right_nonce arguments (Verify words) is = tt
right_nonce arguments (Sign words) is = word_had (codes "--nonce") is.options words.nonce is.are.had is.nonce_is
right_nonce arguments (Rewrite words) is = tt
right_nonce arguments (Explain words) is = tt
right_nonce arguments (Audit words) is = tt
right_nonce arguments (Gateway words) is = tt
right_nonce arguments (Lists words) is = tt
right_nonce arguments (Negotiate words) is = tt
right_nonce arguments (Sample words) is = tt

pub sample_bounded : IsSampleBounded
sample_bounded arguments sample is =
    (subst (λ (n : ℕ). n < 10 ^ 9) (sym is.seed_is.1) (below_digits 9 is.seed is.seed_is.0), is.count_is.2)
