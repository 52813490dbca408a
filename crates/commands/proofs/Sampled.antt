-- What `sample` comes to.
use Rattle.std.proofs.Common.{◌≡◌, ◌⊎◌, ℕ, Bool, true, false, inl, inr, List, refl, sym, ap, ◌∙◌}
use Rattle.hms_io.specs.declared.status.Status.TheVariants as status
use Rattle.samples.specs.Summary.{IsSample, summary_text}
use Rattle.samples.specs.declared.summary.Summary.{Summary}
use Rattle.samples.proofs.OneSample.{one_sample}
use Rattle.samples.proofs.SomeSample.{some_sample}
use Rattle.commands.specs.Laws.{HasOneSampling, HasSomeSampling}
use Rattle.commands.specs.Outcome.{status_of}
use Rattle.commands.specs.Sample.{ReportsSample, sample_outcome}
use Rattle.commands.specs.declared.outcome.Outcome.{Outcome}
use Rattle.commands.specs.declared.outcome.Outcome.TheVariants.{Done, NotOk}

pub counted_sample : (seed count : ℕ) (summary : Summary) (text : List ℕ) (outcome : Outcome) → IsSample seed count summary → summary.finds_fault ≡ true → text ≡ summary_text summary → outcome ≡ NotOk text
    → ReportsSample seed count outcome
counted_sample seed count summary text outcome is finds written same = (summary, is, rw (finds, same, written) refl)

pub done_sample : (seed count : ℕ) (summary : Summary) (text : List ℕ) (outcome : Outcome) → IsSample seed count summary → summary.finds_fault ≡ false → text ≡ summary_text summary → outcome ≡ Done text
    → ReportsSample seed count outcome
done_sample seed count summary text outcome is none written same = (summary, is, rw (none, same, written) refl)

pub one_sampling : HasOneSampling
one_sampling seed count one other a b = a.2 ∙ (ap sample_outcome (one_sample seed count a.0 b.0 a.1 b.1) ∙ sym b.2)

answered : (summary : Summary) (counts : Bool) → summary.finds_fault ≡ counts
    → (status_of (sample_outcome summary) ≡ status.Done) ⊎ (status_of (sample_outcome summary) ≡ status.NotOk)
answered summary true is = rw is (inr refl)
answered summary false is = rw is (inl refl)

pub some_sampling : HasSomeSampling
some_sampling seed count =
    let some = some_sample seed count in
    (sample_outcome some.0, (some.0, some.1, refl), answered some.0 some.0.finds_fault refl)
