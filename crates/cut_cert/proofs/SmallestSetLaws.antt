-- The gates of the smallest least cut are the smallest least set.
use Rattle.std.proofs.Common.{ℕ, ◌≤◌, Bool, IsTrue, List, [], arith, refl, sym, subst}
use Rattle.aig_graph.specs.Marking.{has}
use Rattle.aig_graph.specs.Circuits.{Netlist}
use Rattle.aig_graph.specs.Closed.{IsClosedSet}
use Rattle.aig_graph.specs.Move.{move_of}
use Rattle.aig_graph.specs.Border.{border_size, IsLeast, IsSmallestLeast}
use Rattle.aig_graph.proofs.SetLaws.{empty-closed}
use Rattle.aig_graph.proofs.SearchLaws.{has_iff_contains}
use Rattle.frame_net.specs.FlowNet.{FlowNet, node_count, capacity_between}
use Rattle.frame_net.specs.Capacity.{latch_count}
use Rattle.frame_net.specs.Cuts.{NoUnboundedLeaves, AreGatesOf, IsNetworkOf, leaving}
use Rattle.frame_net.proofs.NetLaws.{cuts_are_closed-law}
use Rattle.frame_net.proofs.SetCutLaws.{closed_sets_are_cuts-law}
use Rattle.frame_net.proofs.LeastCutLaws.{empty-border, arc-counts}
use Rattle.frame_net.proofs.PassableLaws.{is_true}
use Rattle.cut_cert.specs.Cuts.{IsSmallestLeastCut, SmallestCutIsSmallestSet}

module _ (c : Netlist) (held : List ℕ) (net : FlowNet) (side : ℕ → Bool) (s : List ℕ) (is : IsNetworkOf c held net)
    (least : IsSmallestLeastCut (node_count net) (capacity_between net) side) (gates : AreGatesOf net side s) where
  small : leaving net side ≤ latch_count c.aig held
  small =
      let t = closed_sets_are_cuts-law c held net [] is (empty-closed c.aig held) in
      omega (arith, least.least t.0 t.1.is_cut, t.1.count, empty-border c held)

  no-unbounded : NoUnboundedLeaves net side
  no-unbounded v w h k a b = omega (arith, arc-counts (node_count net) (capacity_between net) side v w h k a b, small, is.is_net.latches)

  found : IsClosedSet c.aig held s × (border_size (move_of c held s) ≤ leaving net side)
  found = cuts_are_closed-law c held net side s is least.is_cut no-unbounded gates

  is-least : IsLeast c held s
  is-least = record {
    closed = found.0;
    least = λ r set. let t = closed_sets_are_cuts-law c held net r is set in omega (arith, found.1, least.least t.0 t.1.is_cut, t.1.count);
  }

  -- the gates of the smallest least cut of the network are the smallest least set of its circuit
  pub smallest-set : IsSmallestLeast c held s
  smallest-set = record {
    least = is-least;
    within = λ r other v member.
        let t = closed_sets_are_cuts-law c held net r is other.closed in
        let at = (gates.each v).0 (is_true (has s v) ((has_iff_contains s v).1 member)) in
        let inside = least.smallest t.0 t.1.is_cut (omega (arith, t.1.count, other.least s found.0, found.1, least.least t.0 t.1.is_cut)) at.0 at.1.0 at.1.1.0 in
        (has_iff_contains r v).0 (subst (λ (b : Bool). IsTrue b) (sym ((t.1.gates.each v).1 (at.0, (at.1.0, (inside, at.1.1.1))))) refl);
  }

-- of each circuit's network the gates of the smallest least cut are the smallest least set
pub smallest_cut_is_smallest_set-law : SmallestCutIsSmallestSet
smallest_cut_is_smallest_set-law c held net side s is least gates = smallest-set c held net side s is least gates
