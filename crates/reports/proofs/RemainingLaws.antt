-- What a retiming leaves.
use Rattle.std.proofs.Common.{ℕ, ◌≡◌, List, Bool, Option}
use Rattle.aig_graph.specs.Circuits.{Netlist}
use Rattle.reports.specs.CircuitCounts.{counts}
use Rattle.reports.specs.HeldBack.{held_back_within}
use Rattle.reports.specs.RemainingCounts.{remaining}
use Rattle.reports.specs.declared.held_back.HeldBack.{HeldBack}
use Rattle.reports.specs.declared.remaining_counts.Remaining.{Remaining}
use Rattle.reports.specs.declared.statistics.Counts.{Counts}

-- the counts and what holds latches back are what a retiming leaves
pub remaining-is : (c : Netlist) (held : List ℕ) (bound : Option ℕ) (is_least : Bool) (n : Counts) (h : HeldBack) → n ≡ counts c → h ≡ held_back_within bound c held
    → record { counts = n; held_back = h; is_least = is_least } ≡ remaining c held bound is_least
unfolding remaining
remaining-is c held bound is_least n h is_counts is_back = λ i. record { counts = is_counts i; held_back = is_back i; is_least = is_least }
