use Rattle.std.proofs.Common.{◌≡◌, Some, option_map, sym, subst}
use Rattle.std.specs.Prelude.{slice_get}
use Rattle.recording.specs.Items.{placed}
use Rattle.recording.specs.tools.Ordered.{HeldItems}
use Rattle.recording.proofs.AheadLaws.{one_taken}
use Rattle.recording.proofs.order.ItemsAhead.take.Goals as goal

pub invariant_of-self : goal.invariant_of-self
invariant_of-self c =
    one_taken (record { items = c.self.inside.recording.now; taken = c.self.inside.taken }) (option_map placed c.self.inside.next) c.self.inside.later c.next-self-inside.new.self c.self.inside.last (placed c.args.item)
    c.next-self-inside.result c.self.invariant (subst (λ (h : HeldItems). slice_get h.items h.taken ≡ Some (placed c.args.item)) (sym c.self.view_is) c.requires) c.next-self-inside.ensures.steps
