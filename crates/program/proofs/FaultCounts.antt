-- The counts of faults where a file isn't taken, or isn't read.
use Rattle.std.proofs.Common.{◌≡◌, ◌∙◌, inl, ℕ, Result, Err, refl, subst}
use Rattle.hms_io.specs.Cause.{Rose}
use Rattle.intake.specs.Stops.{CountsStop, IfRefused}
use Rattle.commands.specs.declared.outcome.Outcome.{Outcome}
use Rattle.intake.specs.declared.stop.Stop.{Stop}
use Rattle.intake.specs.declared.stop.Stop.TheVariants.{Memory, ReadFault, Refused as IsRefused}
use Rattle.refusals.specs.declared.refusal.Refusal.{Refusal}
use Rattle.program.specs.tools.Parts.{CountsOne}

-- where a file isn't taken, only a failed read raises the shelf's count, and the source is untouched
pub shelf_counts : (T Same : Type 0) (shelf middle shelf_now source : ℕ) (stop : Stop) → middle ≡ shelf → CountsStop {T = T} middle shelf_now (Err stop) → Same
    → CountsOne Same shelf shelf_now source source (Err stop)
shelf_counts T Same shelf middle shelf_now source Memory before counts same = (counts ∙ before, refl)
shelf_counts T Same shelf middle shelf_now source ReadFault before counts same = inl (subst (λ (n : ℕ). Rose n shelf_now) before counts, same)
shelf_counts T Same shelf middle shelf_now source (IsRefused refusal) before counts same = (counts ∙ before, refl)

-- where the shelf's count is as it was, only what comes after it raises one
pub after_shelf : (Same : Type 0) (shelf middle shelf_now source source_now : ℕ) (result : Result Outcome Stop) → middle ≡ shelf → CountsOne Same middle shelf_now source source_now result
    → CountsOne Same shelf shelf_now source source_now result
after_shelf Same shelf middle shelf_now source source_now result before counts = subst (λ (n : ℕ). CountsOne Same n shelf_now source source_now result) before counts

-- a text that is refused raises none
pub text_counts : (Same : Type 0) (shelf shelf_now source : ℕ) (stop : Stop) (P : Refusal → Type 0) → IfRefused stop P → shelf_now ≡ shelf → CountsOne Same shelf shelf_now source source (Err stop)
text_counts Same shelf shelf_now source Memory P is same = (same, refl)
text_counts Same shelf shelf_now source ReadFault P is same = absurd is
text_counts Same shelf shelf_now source (IsRefused refusal) P is same = (same, refl)

-- nor does what is refused without a read
pub refused_counts : (T : Type 0) (P : Refusal → Type 0) (stop : Stop) (before now : ℕ) → IfRefused stop P → now ≡ before → CountsStop {T = T} before now (Err stop)
refused_counts T P Memory before now is same = same
refused_counts T P ReadFault before now is same = absurd is
refused_counts T P (IsRefused refusal) before now is same = same
