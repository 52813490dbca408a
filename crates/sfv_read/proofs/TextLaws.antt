-- The laws of texts, from a reading of whole texts.
use Rattle.std.proofs.Common.{◌≡◌, ◌↔◌, ◌⊎◌, ℕ, ◌-◌, Bool, true, List, length, Result, Ok, Err, inl, inr, refl, sym, ap, subst}
use Rattle.byte_grammar.specs.FaultOffset.{IsFaultOffset}
use Rattle.byte_grammar.proofs.OffsetLaws.{one_offset}
use Rattle.byte_grammar.proofs.Whole.{Judges, one_value}
use Rattle.sfv_read.specs.Fault.{IsSfError}
use Rattle.sfv_read.specs.Laws.{HasFault, HasOneAnswer, HasValueOrNone}
use Rattle.sfv_read.specs.declared.error.SfError.{SfError}
use Rattle.sfv_read.specs.declared.error.SfError.TheVariants.{Memory, Syntax}

pub distinct_texts : {V : Type 0} {L : List ℕ → V → Type 0} {r : List ℕ → Result V ℕ} (j : Judges L r) (test : V → Bool) (text_of : V → List ℕ)
    → ((v : V) → test v ≡ true → L (text_of v) v) → (v w : V) → test v ≡ true → test w ≡ true → (text_of v ≡ text_of w) ↔ (v ≡ w)
distinct_texts {V} {L} j test text_of reads v w a b = (
  (λ e. one_value j (text_of v) v w (reads v a) (subst (λ (y : List ℕ). L y w) (sym e) (reads w b))),
  (λ e. ap text_of e),
)

-- the reading tells whether a text has a value
pub decided : {V : Type 0} {L : List ℕ → V → Type 0} {r : List ℕ → Result V ℕ} → Judges L r → HasValueOrNone L
decided {V} {L} {r} j text = by_reading (r text) refl
  where
    by_reading : (answer : Result V ℕ) → r text ≡ answer → ((v : V) × L text v) ⊎ ((v : V) → L text v → ⊥)
    by_reading (Ok v) e = inl (v, j.ok text v e)
    by_reading (Err n) e = inr (j.offset text n e).none

module _ {V : Type 0} {L : List ℕ → V → Type 0} {r : List ℕ → Result V ℕ} (j : Judges L r) where
  offset_of : (text : List ℕ) → ((v : V) → L text v → ⊥) → (offset : ℕ) × IsFaultOffset L text offset
  offset_of text none = by_reading (r text) refl
    where
      by_reading : (answer : Result V ℕ) → r text ≡ answer → (offset : ℕ) × IsFaultOffset L text offset
      by_reading (Ok v) e = absurd (none v (j.ok text v e))
      by_reading (Err n) e = (length text - n, j.offset text n e)

  fault_of : (text : List ℕ) → ((v : V) → L text v → ⊥) → (e : SfError) × IsSfError L text e × (e ≡ Memory → ⊥)
  fault_of text none =
      let at = offset_of text none in
      (Syntax at.0, at.1, λ e. absurd cc)

  -- a text that has no value has a fault
  pub has_fault : HasFault L
  has_fault = record { offset = offset_of; fault = fault_of }

module _ {V : Type 0} (L : List ℕ → V → Type 0) where
  one_fault : (text : List ℕ) (e f : SfError) → IsSfError L text e → IsSfError L text f → (e ≡ Memory → ⊥) → (f ≡ Memory → ⊥) → e ≡ f
  one_fault text Memory f a b x y = absurd (x refl)
  one_fault text (Syntax p) Memory a b x y = absurd (y refl)
  one_fault text (Syntax p) (Syntax q) a b x y = ap (λ (n : ℕ). Syntax n) (one_offset L text p q a b)

  no_fault : (text : List ℕ) (v : V) (e : SfError) → L text v → IsSfError L text e → e ≡ Memory
  no_fault text v Memory h a = refl
  no_fault text v (Syntax p) h a = absurd (a.none v h)

  -- a text has a value or one fault
  pub one_answer : HasOneAnswer L
  one_answer = record { one_fault = one_fault; no_fault = no_fault }
