-- What a label is judged by.
use Rattle.std.specs.Prelude.{◌≡◌, ℕ, Option, None, IfSome, List, [], ◌∷◌, codes, option_copied}
use Rattle.component_values.specs.Context.{MessageContext, context_of}
use Rattle.component_values.specs.declared.context.Context.{Context}
use Rattle.settings.specs.Configuration.{Configuration}
use Rattle.settings.specs.ConfMeaning.{meaning}
use Rattle.nonces.specs.Books.{Book}
use Rattle.verdicts.specs.declared.verifier.Verifier.{Verifier}

-- what the values of components are drawn from, the label, the configuration, the moment in seconds
-- since the epoch, and the nonces that were seen, where they are remembered
pub record Verification : Type 0 where
  pub context : MessageContext
  pub label : List ℕ
  pub conf : Configuration
  pub now : ℕ
  pub seen : Option Book

-- the same parts, where the context is borrowed
abbrev pub verification_of : Context → List ℕ → Configuration → ℕ → Option Book → Verification
verification_of context label conf now seen = record {
  context = context_of context;
  label = label;
  conf = conf;
  now = now;
  seen = seen;
}

-- what a label of the message of this context is judged by, where the verifier is this one
abbrev pub verification_by : Verifier → MessageContext → List ℕ → Verification
verification_by verifier context label = record {
  context = context;
  label = label;
  conf = meaning verifier.conf.now;
  now = verifier.moment;
  seen = option_copied verifier.seen;
}

-- the moment of a book is this one
abbrev pub IsAt : ℕ → Option Book → Type 0
IsAt now seen = IfSome seen (λ book. book.moment ≡ now)

-- ---- the labels of a message

-- what is judged where a message has no label, which no Dictionary has
abbrev pub no_label : List ℕ
no_label = codes "-"

-- the labels, or `-` alone where there are none
abbrev pub or_no_label : List (List ℕ) → List (List ℕ)
or_no_label [] = no_label ∷ []
or_no_label labels = labels

-- what a label is judged by at this moment; no nonce is remembered
abbrev pub verification_for : Configuration → ℕ → MessageContext → List ℕ → Verification
verification_for conf moment context label = record {
  context = context;
  label = label;
  conf = conf;
  now = moment;
  seen = None;
}
