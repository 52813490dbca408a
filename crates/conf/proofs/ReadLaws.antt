-- The clauses of the reader of configurations.
use Rattle.std.proofs.Common.{◌≡◌, ◌⊎◌, ◌<◌, ℕ, Result, Ok, Err, IfOk, IfErr, MatchResult, List, refl, ap, arith, inl, inr}
use Rattle.byte_grammar.specs.Causes.{AnswersWhere, IsFirst}
use Rattle.toml.specs.Data.{Members}
use Rattle.settings.specs.declared.conf.Conf.{Conf}
use Rattle.conf.specs.declared.fault.ConfFault.{ConfFault}
use Rattle.conf.specs.declared.fault.ConfFault.TheVariants.{Memory, NotToml, UnknownKey, WrongType, OutOfRange, BadKeyText, BadComponents, BadScript, Missing}
use Rattle.settings.specs.ConfMeaning.{meaning}
use Rattle.settings.specs.Configuration.{Configuration}
use Rattle.conf.specs.Meaning.{Configures, IsConfiguration, IsDocument}
use Rattle.conf.specs.Refusals.{IsConfCause, IsCauseIn, IsConfFault, fault_number}
use Rattle.conf.specs.tools.Explained.{ExplainsConf}
use Rattle.conf.specs.tools.Judged.{IsFirstIn, IsNotToml}
use Rattle.conf.proofs.CauseLaws.{one_document, one_fault, not_both}
use Rattle.conf.proofs.MeaningLaws.{one_meaning}

-- ---- the first fault of a document is that of its text

before : (text : List ℕ) (document : Members) (fault other : ConfFault) → IsDocument text document → IsFirst fault_number (IsCauseIn document) fault → fault_number other < fault_number fault → ¬ IsConfCause text other
before text document fault NotToml is first lt h = h document is
before text document fault Memory is first lt h = h.2
before text document fault (UnknownKey path) is first lt (also, is_also, h) = first.none_before (UnknownKey path) lt (rw (one_document text document also is is_also) h)
before text document fault (WrongType path) is first lt (also, is_also, h) = first.none_before (WrongType path) lt (rw (one_document text document also is is_also) h)
before text document fault (OutOfRange path) is first lt (also, is_also, h) = first.none_before (OutOfRange path) lt (rw (one_document text document also is is_also) h)
before text document fault (BadKeyText path) is first lt (also, is_also, h) = first.none_before (BadKeyText path) lt (rw (one_document text document also is is_also) h)
before text document fault (BadComponents path) is first lt (also, is_also, h) = first.none_before (BadComponents path) lt (rw (one_document text document also is is_also) h)
before text document fault (BadScript path) is first lt (also, is_also, h) = first.none_before (BadScript path) lt (rw (one_document text document also is is_also) h)
before text document fault (Missing path) is first lt (also, is_also, h) = first.none_before (Missing path) lt (rw (one_document text document also is is_also) h)

pub first_of : (text : List ℕ) (document : Members) (fault : ConfFault) → IsDocument text document → IsFirstIn document fault → (fault ≡ Memory) ⊎ IsConfFault text fault
first_of text document Memory is h = inl refl
first_of text document NotToml is h = absurd h.holds
first_of text document (UnknownKey path) is h = inr (record { holds = (document, is, h.holds); none_before = λ other. before text document (UnknownKey path) other is h })
first_of text document (WrongType path) is h = inr (record { holds = (document, is, h.holds); none_before = λ other. before text document (WrongType path) other is h })
first_of text document (OutOfRange path) is h = inr (record { holds = (document, is, h.holds); none_before = λ other. before text document (OutOfRange path) other is h })
first_of text document (BadKeyText path) is h = inr (record { holds = (document, is, h.holds); none_before = λ other. before text document (BadKeyText path) other is h })
first_of text document (BadComponents path) is h = inr (record { holds = (document, is, h.holds); none_before = λ other. before text document (BadComponents path) other is h })
first_of text document (BadScript path) is h = inr (record { holds = (document, is, h.holds); none_before = λ other. before text document (BadScript path) other is h })
first_of text document (Missing path) is h = inr (record { holds = (document, is, h.holds); none_before = λ other. before text document (Missing path) other is h })

nothing_before : (text : List ℕ) (other : ConfFault) → fault_number other < 2 → ¬ IsConfCause text other
nothing_before text Memory lt h = h.2
nothing_before text other lt h = absurd (omega (arith, lt))

pub not_toml : (text : List ℕ) → ((document : Members) → ¬ IsDocument text document) → IsConfFault text NotToml
not_toml text none = record { holds = none; none_before = nothing_before text }

-- ---- what the reader answers

pub explains_not_toml : (text : List ℕ) (fault : ConfFault) → IsNotToml text fault → ExplainsConf text (Err fault)
explains_not_toml text Memory h = inl refl
explains_not_toml text NotToml h = inr (not_toml text h)
explains_not_toml text fault h = absurd h

pub explains_document : (text : List ℕ) (document : Members) (result : Result Conf ConfFault) → IsDocument text document
    → IfOk result (λ conf. IsConfiguration document (meaning conf)) → IfErr result (IsFirstIn document) → ExplainsConf text result
explains_document text document (Ok conf) is ok err = (document, is, ok)
explains_document text document (Err fault) is ok err = first_of text document fault is err

pub answers_ok : (text : List ℕ) (result : Result Conf ConfFault) → ExplainsConf text result → IfOk result (λ conf. Configures text (meaning conf))
answers_ok text (Ok conf) x = x
answers_ok text (Err fault) x = tt

pub answers_only : (text : List ℕ) (result : Result Conf ConfFault) → ExplainsConf text result → (conf : Configuration) → Configures text conf
    → MatchResult result (λ given. meaning given ≡ conf) (λ fault. fault ≡ Memory)
answers_only text (Ok given) x conf is = one_meaning text (meaning given) conf x is
answers_only text (Err fault) x conf is = elim x [
  | inl same ↦ same
  | inr first ↦ absurd (not_both text conf fault is first)
]

pub answers_fault : (text : List ℕ) (result : Result Conf ConfFault) → ExplainsConf text result → (fault : ConfFault) → ¬ (fault ≡ Memory) → AnswersWhere Memory result fault (IsConfFault text fault)
answers_fault text result x fault known = record { only = only text result x fault known; there = there text result x fault } where
  only : (text : List ℕ) (result : Result Conf ConfFault) → ExplainsConf text result → (fault : ConfFault) → ¬ (fault ≡ Memory) → result ≡ Err fault → IsConfFault text fault
  only text result x fault known e = elim (rw e at x) [
    | inl same ↦ absurd (known same)
    | inr first ↦ first
  ]

  there : (text : List ℕ) (result : Result Conf ConfFault) → ExplainsConf text result → (fault : ConfFault) → IsConfFault text fault → (result ≡ Err fault) ⊎ (result ≡ Err Memory)
  there text (Ok conf) x fault first = absurd (not_both text (meaning conf) fault x first)
  there text (Err f) x fault first = elim x [
    | inl same ↦ inr (ap (λ (e : ConfFault). Err e) same)
    | inr also ↦ inl (ap (λ (e : ConfFault). Err e) (one_fault text f fault also first))
  ]
