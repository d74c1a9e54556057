-- A pass, and cleaning, make no path longer.
use Rattle.std.proofs.Common.{ℕ, ◌≤◌, List, arith, sym, subst}
use Rattle.aig_graph.specs.Circuits.{Netlist}
use Rattle.cleaned_circuits.specs.Merged.{merged_of}
use Rattle.cleaned_circuits.specs.Trimmed.{trimmed_of}
use Rattle.cleaned_circuits.specs.Cleaned.{IsPass, Cleans, unchanged, after_pass}
use Rattle.cleaned_circuits.proofs.PassLaws.{IsCircuit, IsCircuit-merged, IsCircuit-pass}
use Rattle.path_levels.specs.Levels.{levels}
use Rattle.retimed_circuits.proofs.ReplacedLevelLaws.{merged-levels}
use Rattle.retimed_circuits.proofs.TrimmedLevelLaws.{trimmed-levels}

-- a pass merges, and then trims
pass-levels : (held : List ℕ) (c d : Netlist) (kept still_held : List ℕ) → IsCircuit c → IsPass held c d kept still_held → levels d ≤ levels c
pass-levels held c d kept still_held valid pass =
    let m : Netlist = merged_of held c in
    let whole : IsCircuit m = IsCircuit-merged held c valid in
    let bound : levels (trimmed_of m pass.reached) ≤ levels c =
    omega (arith, merged-levels held c valid.graph valid.netlist, trimmed-levels m held pass.reached whole.graph pass.are_reached.holds whole.netlist) in
    subst (λ (e : Netlist). levels e ≤ levels c) (sym pass.circuit) bound

-- cleaning is passes, one after the other
pub cleans-levels : (d : Netlist) (held : List ℕ) (c : Netlist) (kept : List ℕ) → Cleans d held c kept → IsCircuit c → levels d ≤ levels c
cleans-levels d _ _ _ (unchanged held c kept pass same) valid = subst (λ (e : Netlist). levels e ≤ levels c) (sym same) (omega arith)
cleans-levels d _ _ _ (after_pass held c e first second still_held pass other rest) valid = omega (
  arith,
  pass-levels held c e first still_held valid pass,
  cleans-levels d still_held e second rest (IsCircuit-pass held c e first still_held valid pass),
)
