-- A pass, and what became of each latch.
use Rattle.std.specs.Prelude.{ℕ, ◌≡◌, ◌+◌, List, length, slice_get}
use Rattle.aig_graph.specs.Graph.{first_latch}
use Rattle.aig_graph.specs.Circuits.{Netlist}
use Rattle.aig_graph.specs.Tables.{table}
use Rattle.cleaned_circuits.specs.Latches.{latch_substitute}
use Rattle.cleaned_circuits.specs.Cleaned.{IsPass}
use Rattle.clean.specs.declared.tracing.TracedPass.{TracedPass}

-- a pass of c, with what stands for each latch, and whether it stays
pub record IsTraced (held : List ℕ) (c : Netlist) (t : TracedPass) : Type 0 where
  pub pass : IsPass held c t.circuit t.kept_free.items t.held.items
  pub substitutes : t.substitutes.items ≡ table 0 (length c.aig.latches) (λ j. latch_substitute c.aig held j (slice_get c.aig.latches j))
  pub stays : t.stays.items ≡ table 0 (length c.aig.latches) (λ j. pass.reached (first_latch c.aig + j))
