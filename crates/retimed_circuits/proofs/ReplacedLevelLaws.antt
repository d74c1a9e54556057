-- A circuit that reads what stands for what it read is no deeper.
use Rattle.std.proofs.Common.{ℕ, ◌<◌, ◌≤◌, List, get_or, arith, sym, subst}
use Rattle.std.specs.List.{All}
use Rattle.std.proofs.lemmas.List.Elements.{All-map}
use Rattle.aig_graph.specs.declared.graph.Latch.{Latch}
use Rattle.aig_graph.specs.Graph.{Graph, IsGraph, variable, first_gate, variables_end}
use Rattle.aig_graph.specs.Circuits.{Netlist, IsNetlist}
use Rattle.aig_graph.specs.Streams.{property_literals}
use Rattle.aig_graph.proofs.PropsLaws.{mapped-literals, literals_within}
use Rattle.aig_graph.specs.Tables.{table}
use Rattle.cleaned_circuits.specs.Latches.{leaf_substitute}
use Rattle.cleaned_circuits.specs.Merged.{replaced, replaced_graph, replaced_circuit, substitutes_of, merged_of}
use Rattle.cleaned_circuits.proofs.LatchLaws.{leaf_substitute-below}
use Rattle.cleaned_circuits.proofs.SubstituteLaws.{AreLeaves, start-length, start-entry, substitutes-after}
use Rattle.cleaned_circuits.proofs.MergedLaws.{from_latch}
use Rattle.merged_circuits.specs.Readings.{leaves, substitutes_by}
use Rattle.merged_circuits.specs.Inductive.{IsMergedBy}
use Rattle.merged_circuits.proofs.ReadingLaws.{are-leaves}
use Rattle.path_levels.specs.Levels.{level, levels}
use Rattle.retimed_circuits.proofs.HighestLaws.{IsReadWithin, read-within_levels, levels-most}
use Rattle.retimed_circuits.proofs.SubstituteLevelLaws.{after-level}

-- for each literal there stands one that has, if all is replaced, at most the literal's level
abbrev SubstitutesLow : Graph → List ℕ → Type 0
SubstitutesLow g substitutes = (lit : ℕ) → variable lit < variables_end g → level (replaced_graph substitutes g) (variable (replaced substitutes lit)) ≤ level g (variable lit)

replaced-levels : (substitutes : List ℕ) (c : Netlist) → IsGraph c.aig → IsNetlist c → SubstitutesLow c.aig substitutes → levels (replaced_circuit substitutes c) ≤ levels c
replaced-levels substitutes c valid netlist low =
    let d : Graph = replaced_graph substitutes c.aig in
    let read : IsReadWithin (levels c) c = read-within_levels c in
    let P : ℕ → Type 0 = λ lit. level (replaced_graph substitutes c.aig) (variable lit) ≤ levels c in
    levels-most (levels c) (replaced_circuit substitutes c) (record {
      next = λ j latch there.
          let from = from_latch substitutes c.aig j latch there in
          let bound : P (replaced substitutes from.0.next) = omega (arith, low from.0.next (valid.latches j from.0 from.1), read.next j from.0 from.1) in
          subst (λ (l : Latch). P l.next) (sym from.2) bound;
      properties = subst (All P) (sym (mapped-literals (replaced substitutes) c.props))
          (All-map P (replaced substitutes) (property_literals c.props) (λ k d h.
          omega (arith, low (get_or (property_literals c.props) k d) (literals_within c.aig c.props netlist.props k d h), read.properties k d h)));
    })

cleaned-leaves : (g : Graph) (held : List ℕ) → AreLeaves g (table 0 (first_gate g) (leaf_substitute g held))
cleaned-leaves g held = record {
  long = start-length g held;
  below = λ v h. omega (arith, start-entry g held v (omega (arith, start-length g held)), leaf_substitute-below g held v h);
}

-- what a pass merges a circuit to is no deeper
pub merged-levels : (held : List ℕ) (c : Netlist) → IsGraph c.aig → IsNetlist c → levels (merged_of held c) ≤ levels c
merged-levels held c valid netlist = replaced-levels (substitutes_of c.aig held) c valid netlist
    (subst (λ (xs : List ℕ). SubstitutesLow c.aig xs) (sym (substitutes-after c.aig held))
    (after-level c.aig (table 0 (first_gate c.aig) (leaf_substitute c.aig held)) (cleaned-leaves c.aig held) valid))

-- a circuit whose latches are merged is no deeper
pub merged_latches-levels : (held reads : List ℕ) (c d : Netlist) → IsGraph c.aig → IsNetlist c → IsMergedBy held reads c d → levels d ≤ levels c
merged_latches-levels held reads c d valid netlist merged =
    let low : SubstitutesLow c.aig (substitutes_by c.aig reads) =
    after-level c.aig (leaves c.aig reads) (are-leaves c.aig held reads merged.inductive.reading) valid in
    subst (λ (e : Netlist). levels e ≤ levels c) (sym merged.circuit) (replaced-levels (substitutes_by c.aig reads) c valid netlist low)
