-- Which label of a message a gateway accepts (RFC 9421 section 3.2).
use Rattle.std.specs.Prelude.{◌≡◌, ℕ, Some, List, take, slice_get}
use Rattle.std.specs.List.{All}
use Rattle.component_values.specs.Context.{MessageContext}
use Rattle.nonces.specs.Books.{Book}
use Rattle.settings.specs.Configuration.{Configuration}
use Rattle.verdicts.specs.Verdicts.{Accepts, IsVerdict}
use Rattle.verdicts.specs.Verification.{Verification}
use Rattle.verdicts.specs.declared.outcome.Verdict.{Verdict}

-- what a label is judged by, with the nonces that were seen, at their moment
abbrev pub verification_seen : Configuration → Book → MessageContext → List ℕ → Verification
verification_seen conf seen context label = record {
  context = context;
  label = label;
  conf = conf;
  now = seen.moment;
  seen = Some seen;
}

-- none of the labels is accepted, where each is judged by this
abbrev pub AreRefused : (List ℕ → Verification) → List (List ℕ) → Type 0
AreRefused judged_by labels =
    All (λ label. (keyid : List ℕ) → ¬ Accepts (judged_by label) keyid) labels

-- the label of this index is accepted, under the key of this keyid, and none before it is
pub record IsAcceptedAt (judged_by : List ℕ → Verification) (labels : List (List ℕ)) (index : ℕ)
    (keyid : List ℕ) : Type 0 where
  pub label : List ℕ
  pub there : slice_get labels index ≡ Some label
  pub accepts : Accepts (judged_by label) keyid
  pub before : AreRefused judged_by (take index labels)

-- the label is the first that is accepted
pub record IsFirstAccepted (judged_by : List ℕ → Verification) (labels : List (List ℕ))
    (label keyid : List ℕ) : Type 0 where
  pub index : ℕ
  pub is : IsAcceptedAt judged_by labels index keyid
  pub label_is : is.label ≡ label

-- none is accepted, and the first one has this verdict
pub record IsRefusal (judged_by : List ℕ → Verification) (labels : List (List ℕ))
    (label : List ℕ) (verdict : Verdict) : Type 0 where
  pub first : slice_get labels 0 ≡ Some label
  pub none : AreRefused judged_by labels
  pub is : IsVerdict (judged_by label) verdict
