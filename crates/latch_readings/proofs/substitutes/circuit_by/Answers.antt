use Rattle.std.proofs.Common.{ℕ, ◌≡◌, ◌∙◌, ap, sym, subst, length, List}
use Rattle.aig_graph.specs.Graph.{Graph, IsGraph}
use Rattle.aig_graph.specs.Circuits.{IsNetlist}
use Rattle.cleaned_circuits.specs.Merged.{replaced_circuit}
use Rattle.merged_circuits.specs.Readings.{substitutes_by}
use Rattle.merged_circuits.proofs.MergingLaws.{IsGraph-kept, IsNetlist-kept}
use Rattle.latch_readings.proofs.SubstituteLaws.{substitutes_by-long}
use Rattle.latch_readings.proofs.substitutes.circuit_by.Goals as goal

-- what stands for variables, by another name of the graph
by-graph : (g h : Graph) (reads given : List ℕ) → h ≡ g → given ≡ substitutes_by h reads → given ≡ substitutes_by g reads
by-graph g h reads given same by = by ∙ ap (λ (x : Graph). substitutes_by x reads) same

pub replaced_circuit-after-requires-clause-long : goal.replaced_circuit-after-requires-clause-long
replaced_circuit-after-requires-clause-long c =
    let g : Graph = c.args.circuit.now.aig in
    ap (λ (xs : List ℕ). length xs) (by-graph g c.aig-aig.result.now c.args.reads.now c.in_ok-substitutes.substitutes c.aig-aig.ensures.value c.in_ok-substitutes.ensures)
    ∙ substitutes_by-long g c.args.reads.now c.requires.long

pub replaced_circuit-after-requires-clause-graph : goal.replaced_circuit-after-requires-clause-graph
replaced_circuit-after-requires-clause-graph c =
    let g : Graph = c.args.circuit.now.aig in
    let P : List ℕ → Type 0 = λ xs. IsGraph (replaced_circuit xs c.args.circuit.now).aig in
    subst P (sym (by-graph g c.aig-aig.result.now c.args.reads.now c.in_ok-substitutes.substitutes c.aig-aig.ensures.value c.in_ok-substitutes.ensures))
    (IsGraph-kept c.args.keep.now c.args.reads.now c.args.circuit.now c.aig-aig.ensures.graph c.requires)

pub replaced_circuit-after-requires-clause-netlist : goal.replaced_circuit-after-requires-clause-netlist
replaced_circuit-after-requires-clause-netlist c =
    let g : Graph = c.args.circuit.now.aig in
    let P : List ℕ → Type 0 = λ xs. IsNetlist (replaced_circuit xs c.args.circuit.now) in
    subst P (sym (by-graph g c.aig-aig.result.now c.args.reads.now c.in_ok-substitutes.substitutes c.aig-aig.ensures.value c.in_ok-substitutes.ensures))
    (IsNetlist-kept c.args.keep.now c.args.reads.now c.args.circuit.now c.aig-aig.ensures.graph c.requires c.aig-aig.ensures.netlist)
