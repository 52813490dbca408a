-- Answers with values of two types.
use Rattle.std.proofs.Common.{◌≡◌, Result, Ok, Err, inl, inr, refl}
use Rattle.byte_grammar.specs.Causes.{AnswersWhere}

module _ {T U F : Type 0} (memory : F) (fault one : F) (P : Type 0) where
  same_fault : (own : Result T F) (other : Result U F) → own ≡ Err fault → other ≡ Err fault → AnswersWhere memory own one P → AnswersWhere memory other one P
  same_fault own other own_is other_is answers = record {
    only = λ e. answers.only (cc (own_is, other_is, e));
    there = λ p. elim (answers.there p) [
      | inl e ↦ inl (cc (own_is, other_is, e))
      | inr e ↦ inr (cc (own_is, other_is, e))
    ];
  }

  -- a fault that is answered just so in place of a value of another type
  pub fault_answers : AnswersWhere {T = T} memory (Err fault) one P → AnswersWhere {T = U} memory (Err fault) one P
  fault_answers answers = same_fault (Err fault) (Err fault) refl refl answers

  -- no fault is answered
  pub value_answers : (own : T) (other : U) → AnswersWhere memory (Ok own) one P → AnswersWhere memory (Ok other) one P
  value_answers own other answers = record {
    only = λ e. absurd cc;
    there = λ p. elim (answers.there p) [ inl e ↦ absurd cc | inr e ↦ absurd cc ];
  }
