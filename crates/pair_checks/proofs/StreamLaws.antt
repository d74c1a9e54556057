-- Circuits whose latches always hold what they read as, and whose properties are equal if they do,
-- have the same streams.
use Rattle.std.proofs.Common.{ℕ, ◌≡◌, suc, zero, List, map}
use Rattle.aig_graph.specs.Circuits.{Netlist}
use Rattle.aig_graph.specs.Graph.{Graph}
use Rattle.aig_graph.specs.Streams.{AreKept, SameShape, SameStreams, chosen, property_literals}
use Rattle.aig_graph.specs.Value.{Choice, Inputs, latch_value, value}
use Rattle.pair_checks.specs.Pairs.{AgreesWith, IsInductive, ReadAlike}

module _ (c d : Graph) (kept reads : List ℕ) (is : IsInductive c d kept reads) (x : Inputs) (f : Choice) where
  -- by induction over steps
  pub agrees-always : (t : ℕ) → AgreesWith c reads (latch_value c x f t) (latch_value d x (chosen kept f) t)
  unfolding latch_value
  agrees-always zero = is.starts f
  agrees-always (suc t) = is.steps (x t) (latch_value c x f t) (latch_value d x (chosen kept f) t) (agrees-always t)

-- so the properties have the same values at each step
pub same-streams : (c d : Netlist) (kept reads : List ℕ) → SameShape c d → AreKept c d kept → IsInductive c.aig d.aig kept reads → ReadAlike c d reads → SameStreams c d kept
unfolding value
same-streams c d kept reads shape places is alike = record { shape = shape; places = places; values = values-at }
  where
    values-at : (x : Inputs) (f : Choice) (t : ℕ) → map (value d.aig x (chosen kept f) t) (property_literals d.props) ≡ map (value c.aig x f t) (property_literals c.props)
    values-at x f t = alike (x t) (latch_value c.aig x f t) (latch_value d.aig x (chosen kept f) t) (agrees-always c.aig d.aig kept reads is x f t)
