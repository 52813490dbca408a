use Rattle.std.proofs.Common.{◌≡◌, ◌+◌, ◌∷◌, [], ℕ, List, drop, sym, ap, subst, ◌∙◌}
use Rattle.std.proofs.lemmas.List.{drop_all, drop_more}
use Rattle.signatures.specs.Signatures.{AreLabels}
use Rattle.signatures.specs.tools.Reading.{AreReadSoFar}
use Rattle.signatures.proofs.ReadLabels.{all_labels_read, label_read}
use Rattle.signatures.proofs.message_signatures.signatures_in.Goals as goal

pub loop-label-preserved : goal.loop-label-preserved
loop-label-preserved c message are =
    let items = c.as_slice-label-items.result.now in
    let index = c.loop-label.label-index in
    let label = c.label-item.result in
    let left = drop (index + 1) items in
    let next : drop index items ≡ label ∷ left = drop_more items index label c.loop-label-test.true ∙ ap (λ (l : List ℕ). l ∷ left) (sym c.label-item.is) in
    let so_far = subst (λ (rest : List (List ℕ)). AreReadSoFar message c.loop-label.signatures items rest) next (c.loop-label.invariant message are) in
    let read = rw c.bytes.ensures at (c.in_ok-read.ensures message are) in
    rw (c.in_ok-put.ensures.ok, c.in_ok-copy.ensures.ok) (label_read message items c.loop-label.signatures label left c.in_ok-read.read so_far read)

pub returns : goal.returns
returns c message are labels =
    let items = c.as_slice-label-items.result.now in
    let none : drop c.loop-label.label-index items ≡ [] = drop_all c.loop-label.label-index items c.loop-label-test.false in
    let so_far = subst (λ (rest : List (List ℕ)). AreReadSoFar message c.loop-label.signatures items rest) none (c.loop-label.invariant message are) in
    all_labels_read message items c.loop-label.signatures (subst (λ (l : List (List ℕ)). AreLabels message l) (sym c.as_slice-label-items.ensures) labels) so_far
