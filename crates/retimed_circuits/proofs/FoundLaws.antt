-- The set that is found in a circuit: there is one, it is closed, and it tells whether any helps.
use Rattle.std.proofs.Common.{ℕ, ◌≡◌, ◌<◌, ◌≤◌, List, Option, Some, None, arith, subst}
use Rattle.aig_graph.specs.Circuits.{Netlist}
use Rattle.aig_graph.specs.Graph.{known_latches}
use Rattle.aig_graph.specs.Closed.{IsClosedSet}
use Rattle.aig_graph.specs.Chosen.{IsChosen}
use Rattle.aig_graph.specs.declared.choice.Choice.{Choice}
use Rattle.aig_graph.specs.declared.choice.Choice.TheVariants.{Greatest, Smallest}
use Rattle.aig_graph.proofs.ChosenLaws.{chosen-least, chosen-one}
use Rattle.aig_graph.proofs.SetLaws.{rising_same}
use Rattle.path_levels.specs.Arrivals.{IsChosenWithin, IsLeastWithin}
use Rattle.path_levels.specs.Levels.{levels}
use Rattle.retimed_circuits.specs.Frames.{IsFound, IsFoundWithin, IsHelpingSet, IsTooLong, NoneHelps, NoneSmaller, count_over, found_whole, found_within, moved_over}

-- a chosen set of those that arrive within a bound is a least one of them
pub within-least : (bound : ℕ) (choice : Choice) (c : Netlist) (held s : List ℕ) → IsChosenWithin bound choice c held s → IsLeastWithin bound c held s
within-least bound Greatest c held s greatest = greatest.least
within-least bound Smallest c held s smallest = smallest.least

-- two that are chosen by one choice are one
pub within-one : (bound : ℕ) (choice : Choice) (c : Netlist) (held s r : List ℕ) → IsChosenWithin bound choice c held s → IsChosenWithin bound choice c held r → s ≡ r
within-one bound Greatest c held s r p q =
    rising_same s r p.least.closed.closed.rising q.least.closed.closed.rising (q.holds s p.least) (p.holds r q.least)
within-one bound Smallest c held s r p q =
    rising_same s r p.least.closed.closed.rising q.least.closed.closed.rising (p.within r q.least) (q.within s p.least)

-- a chosen set that keeps the bound, or doesn't help, isn't too long
not-longer : (bound : ℕ) (choice : Choice) (held : List ℕ) (c : Netlist) (s r : List ℕ) → IsChosen choice c held s
    → (count_over held c s < known_latches c.aig → levels (moved_over held c s) ≤ bound) → IsTooLong bound choice held c r → ⊥
not-longer bound choice held c s r chosen keeps long =
    let same : r ≡ s = chosen-one choice c held r s long.chosen chosen in
    let fewer : count_over held c s < known_latches c.aig = subst (λ (set : List ℕ). count_over held c set < known_latches c.aig) same long.fewer in
    let longer : bound < levels (moved_over held c s) = subst (λ (set : List ℕ). bound < levels (moved_over held c set)) same long.longer in
    let short : levels (moved_over held c s) ≤ bound = keeps fewer in
    omega (arith, longer, short)

within-found-one : (bound : ℕ) (choice : Choice) (held : List ℕ) (c : Netlist) (s r : List ℕ) → IsFoundWithin bound choice held c s → IsFoundWithin bound choice held c r → s ≡ r
within-found-one bound choice held c _ _ (found_whole s p keeps) (found_whole r q same) = chosen-one choice c held s r p q
within-found-one bound choice held c _ _ (found_whole s p keeps) (found_within a r long q) = absurd (not-longer bound choice held c s a p keeps long)
within-found-one bound choice held c _ _ (found_within a s long p) (found_whole r q keeps) = absurd (not-longer bound choice held c r a q keeps long)
within-found-one bound choice held c _ _ (found_within a s long p) (found_within b r other q) = within-one bound choice c held s r p q

-- one set is found
pub found-one : (bound : Option ℕ) (choice : Choice) (held : List ℕ) (c : Netlist) (s r : List ℕ) → IsFound bound choice held c s → IsFound bound choice held c r → s ≡ r
found-one None choice held c s r p q = chosen-one choice c held s r p q
found-one (Some bound) choice held c s r p q = within-found-one bound choice held c s r p q

within-found-closed : (bound : ℕ) (choice : Choice) (held : List ℕ) (c : Netlist) (s : List ℕ) → IsFoundWithin bound choice held c s → IsClosedSet c.aig held s
within-found-closed bound choice held c _ (found_whole s chosen keeps) = (chosen-least choice c held s chosen).closed
within-found-closed bound choice held c _ (found_within r s long chosen) = (within-least bound choice c held s chosen).closed.closed

-- it is closed
pub found-closed : (bound : Option ℕ) (choice : Choice) (held : List ℕ) (c : Netlist) (s : List ℕ) → IsFound bound choice held c s → IsClosedSet c.aig held s
found-closed None choice held c s chosen = (chosen-least choice c held s chosen).closed
found-closed (Some bound) choice held c s found = within-found-closed bound choice held c s found

none-smaller : (choice : Choice) (held : List ℕ) (c : Netlist) (s : List ℕ) → IsChosen choice c held s → known_latches c.aig ≤ count_over held c s → NoneSmaller held c
none-smaller choice held c s chosen many r closed =
    let least : count_over held c s ≤ count_over held c r = (chosen-least choice c held s chosen).least r closed in omega (arith, least, many)

within-none-helps : (bound : ℕ) (choice : Choice) (held : List ℕ) (c : Netlist) (s : List ℕ) → IsFoundWithin bound choice held c s → known_latches c.aig ≤ count_over held c s
    → NoneHelps (Some bound) choice held c
within-none-helps bound choice held c _ (found_whole s chosen keeps) many =
    let none : NoneSmaller held c = none-smaller choice held c s chosen many in
    record {
      none_within = λ r closed. none r closed.closed;
      longer = λ r other fewer. let more : known_latches c.aig ≤ count_over held c r = none r (chosen-least choice c held r other).closed in absurd (omega (arith, more, fewer));
    }
within-none-helps bound choice held c _ (found_within a s long chosen) many = record {
  none_within = λ r closed.
      let least : count_over held c s ≤ count_over held c r = (within-least bound choice c held s chosen).least r closed in omega (arith, least, many);
  longer = λ r other fewer.
      subst (λ (set : List ℕ). bound < levels (moved_over held c set)) (chosen-one choice c held a r long.chosen other) long.longer;
}

-- if it counts no less than the known latches, none helps
pub none-helps : (bound : Option ℕ) (choice : Choice) (held : List ℕ) (c : Netlist) (s : List ℕ) → IsFound bound choice held c s → known_latches c.aig ≤ count_over held c s
    → NoneHelps bound choice held c
none-helps None choice held c s chosen many = none-smaller choice held c s chosen many
none-helps (Some bound) choice held c s found many = within-none-helps bound choice held c s found many

within-never-helps : (bound : ℕ) (choice : Choice) (held : List ℕ) (c : Netlist) (s : List ℕ) → NoneHelps (Some bound) choice held c → IsFoundWithin bound choice held c s
    → count_over held c s < known_latches c.aig → ⊥
within-never-helps bound choice held c _ none (found_whole s chosen keeps) fewer =
    let longer : bound < levels (moved_over held c s) = none.longer s chosen fewer in
    let short : levels (moved_over held c s) ≤ bound = keeps fewer in
    omega (arith, longer, short)
within-never-helps bound choice held c _ none (found_within a s long chosen) fewer =
    let more : known_latches c.aig ≤ count_over held c s = none.none_within s (within-least bound choice c held s chosen).closed in omega (arith, more, fewer)

-- if none helps, that one doesn't
pub never-helps : (bound : Option ℕ) (choice : Choice) (held : List ℕ) (c : Netlist) (s : List ℕ) → NoneHelps bound choice held c → IsHelpingSet bound choice held c s → ⊥
never-helps None choice held c s none helps =
    let more : known_latches c.aig ≤ count_over held c s = none s (found-closed None choice held c s helps.found) in omega (arith, more, helps.fewer)
never-helps (Some bound) choice held c s none helps = within-never-helps bound choice held c s none helps.found helps.fewer
