-- What is found of circuits of which the second has each free latch of the first.
use Rattle.std.proofs.Common.{ℕ, ◌≡◌, List, sym, ◌∙◌, subst}
use Rattle.aig_graph.specs.Circuits.{Netlist}
use Rattle.aig_graph.specs.Graph.{free_latches}
use Rattle.aig_graph.specs.Laws.{all_free}
use Rattle.aig_graph.specs.Streams.{AreKept}
use Rattle.aig_graph.proofs.StreamLaws.{same_streams-reflexive}
use Rattle.simulation_commands.specs.declared.kept.Shared.TheVariants.{Each}
use Rattle.map_commands.specs.Checking.{IsPairVerdict, IsVerdictKept}
use Rattle.map_commands.specs.declared.check.Verdict.{Verdict}

-- all free latches of c may be those of d, where d has as many
pub kept_all : (c d : Netlist) (kept : List ℕ) → kept ≡ all_free c.aig → free_latches d.aig ≡ free_latches c.aig → AreKept c d kept
kept_all c d kept is same =
    let places = (same_streams-reflexive c).places in
    subst (λ (xs : List ℕ). AreKept c d xs) (sym is) (record { rising = places.rising; below = places.below; each = places.each ∙ sym same })

-- what is found of them then is what is found where d has each
pub each_verdict : (c d : Netlist) (kept : List ℕ) (verdict : Verdict) → kept ≡ all_free c.aig → free_latches d.aig ≡ free_latches c.aig → IsVerdictKept c d kept verdict → IsPairVerdict Each c d verdict
each_verdict c d kept verdict is same found = (λ e. subst (λ (xs : List ℕ). IsVerdictKept c d xs verdict) is found, λ differ. absurd (differ same))
