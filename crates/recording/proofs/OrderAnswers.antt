-- The fault of items that aren't a chain is answered exactly where its cause holds.
use Rattle.std.proofs.Common.{◌≡◌, ◌≢◌, ◌≤◌, List, length, Result, Ok, Err, refl, sym, ap, subst, inl, inr, arith}
use Rattle.byte_grammar.specs.Causes.{AnswersWhere}
use Rattle.recording.specs.declared.chain.OrderFault.{OrderFault}
use Rattle.recording.specs.declared.chain.OrderFault.TheVariants.{Memory, Order, TooManyHops}
use Rattle.recording.specs.declared.limits.TheConstants.{MAX_HOPS}
use Rattle.recording.specs.declared.chain.RecordedChain.{RecordedChain as HeldChain}
use Rattle.recording.specs.Chains.{RecordedChain}
use Rattle.recording.specs.Items.{PlacedItem}
use Rattle.recording.specs.RecordedChains.{IsHeldChain, IsOrderCause, chain_meant}
use Rattle.recording.specs.tools.Ordered.{SaysOrder}
use Rattle.recording.proofs.OneChain.{one_chain}
use Rattle.recording.proofs.OrderFaults.{one_order_fault}

module _ (items : List PlacedItem) where
  -- items have one fault
  one_cause : (fault other : OrderFault) → IsOrderCause items fault → IsOrderCause items other → fault ≡ other
  one_cause Memory other is also = absurd is
  one_cause fault Memory is also = absurd also
  one_cause (Order offset) (Order place) is also = ap Order (one_order_fault items offset place is also)
  one_cause (Order offset) TooManyHops is also = absurd (is.none also.0 also.1)
  one_cause TooManyHops (Order place) is also = absurd (also.none is.0 is.1)
  one_cause TooManyHops TooManyHops is also = refl

  -- a chain of few hops has none
  no_cause : (chain : HeldChain) (fault : OrderFault) → IsHeldChain items chain → ¬ IsOrderCause items fault
  no_cause chain Memory held cause = cause
  no_cause chain (Order offset) held cause = cause.none (chain_meant chain) held.is
  no_cause chain TooManyHops held cause =
      let same = one_chain items cause.0 (chain_meant chain) cause.1 held.is in
      let few : length cause.0.hops ≤ MAX_HOPS = subst (λ (c : RecordedChain). length c.hops ≤ MAX_HOPS) (sym same) held.few in
      omega (arith, few, cause.2)

  pub fault_answered : (result : Result HeldChain OrderFault) → SaysOrder items result → (fault : OrderFault) → fault ≢ Memory
      → AnswersWhere Memory result fault (IsOrderCause items fault)
  fault_answered (Ok chain) says fault other = record {
    only = λ same. absurd (cc same);
    there = λ cause. absurd (no_cause chain fault says cause);
  }
  fault_answered (Err Memory) says fault other = record { only = λ same. absurd (other (cc same)); there = λ _. inr refl }
  fault_answered (Err (Order offset)) says fault other = record {
    only = λ same. let is : Order offset ≡ fault = cc same in subst (λ (f : OrderFault). IsOrderCause items f) is says;
    there = λ cause. inl (ap Err (one_cause (Order offset) fault says cause));
  }
  fault_answered (Err TooManyHops) says fault other = record {
    only = λ same. let is : TooManyHops ≡ fault = cc same in subst (λ (f : OrderFault). IsOrderCause items f) is says;
    there = λ cause. inl (ap Err (one_cause TooManyHops fault says cause));
  }
