use Rattle.std.proofs.Common.{◌≡◌}
use Rattle.nonces.specs.tools.Nodes.{free_nodes, last_of}
use Rattle.nonces.proofs.arrays.Nodes.free.Given as goal

abbrev pub invariant-nodes : goal.invariant-nodes
invariant-nodes l = (l.nodes.items ≡ free_nodes l.index) × (l.after ≡ last_of l.index)
