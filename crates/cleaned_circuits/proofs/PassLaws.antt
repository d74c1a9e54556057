-- A pass, and cleaning, keep the streams.
use Rattle.std.proofs.Common.{ℕ, ◌≡◌, ◌<◌, List, length, Bool, true, false, refl, ap, sym, ◌∙◌, subst}
use Rattle.std.specs.List.{All}
use Rattle.aig_graph.specs.declared.properties.Props.{Props}
use Rattle.aig_graph.specs.Graph.{Graph, IsGraph, free_before, free_latches}
use Rattle.aig_graph.specs.Circuits.{Netlist, IsNetlist}
use Rattle.aig_graph.specs.Streams.{SameShape, SameStreams}
use Rattle.aig_graph.proofs.StreamLaws.{same_streams-transitive}
use Rattle.cleaned_circuits.specs.Merged.{replaced, merged_of, substitutes_of, replaced_graph}
use Rattle.cleaned_circuits.specs.Reached.{AreReached}
use Rattle.cleaned_circuits.specs.Trimmed.{trimmed_of, kept_free}
use Rattle.cleaned_circuits.specs.Cleaned.{IsPass, Cleans, unchanged, after_pass}
use Rattle.aig_graph.proofs.PropsLaws.{mapped-shape}
use Rattle.cleaned_circuits.proofs.MergedLaws.{IsGraph-merged, IsNetlist-merged, merged-properties, replaced-inputs, length-replaced_latches, replaced-free_before}
use Rattle.cleaned_circuits.proofs.TrimmedLaws.{IsGraph-trimmed}
use Rattle.cleaned_circuits.proofs.TrimmedValueLaws.{trimmed-streams}
use Rattle.cleaned_circuits.proofs.TrimmedNameLaws.{IsNetlist-trimmed}

-- a circuit in order
pub record IsCircuit (c : Netlist) : Type 0 where
  -- its graph has few enough variables, next literals in range, and gates in order
  pub graph : IsGraph c.aig
  -- its properties and symbols are in order
  pub netlist : IsNetlist c

-- what a pass merges a circuit to is a circuit
pub IsCircuit-merged : (held : List ℕ) (c : Netlist) → IsCircuit c → IsCircuit (merged_of held c)
IsCircuit-merged held c valid = record { graph = IsGraph-merged c.aig held valid.graph; netlist = IsNetlist-merged held c valid.graph valid.netlist }

-- merging in a pass leaves as many free latches
pub merged-free : (held : List ℕ) (c : Netlist) → free_latches (merged_of held c).aig ≡ free_latches c.aig
merged-free held c =
    let substitutes : List ℕ = substitutes_of c.aig held in
    replaced-free_before substitutes c.aig (length (replaced_graph substitutes c.aig).latches) ∙ ap (free_before c.aig) (length-replaced_latches substitutes c.aig)

same_shape-transitive : (c d e : Netlist) → SameShape c d → SameShape d e → SameShape c e
same_shape-transitive c d e p q = record {
  inputs = q.inputs ∙ p.inputs;
  outputs = q.outputs ∙ p.outputs;
  bad = q.bad ∙ p.bad;
  constraints = q.constraints ∙ p.constraints;
  justice = q.justice ∙ p.justice;
  fairness = q.fairness ∙ p.fairness;
}

-- a pass keeps the streams
pub trimmed_merged-streams : (held : List ℕ) (c : Netlist) (s : ℕ → Bool) → IsCircuit c → AreReached (merged_of held c).aig (merged_of held c).props held s → SameStreams c (trimmed_of (merged_of held c) s) (kept_free (merged_of held c).aig s)
trimmed_merged-streams held c s valid reached =
    let m : Netlist = merged_of held c in
    let d : Netlist = trimmed_of m s in
    let whole : IsCircuit m = IsCircuit-merged held c valid in
    let rest : SameStreams m d (kept_free m.aig s) = trimmed-streams m held s whole.graph whole.netlist reached.holds in
    let first : SameShape c m = mapped-shape (replaced (substitutes_of c.aig held)) c m (replaced-inputs (substitutes_of c.aig held) c.aig) refl in
    let P : ℕ → Type 0 = λ n. All (λ place. place < n) (kept_free m.aig s) in
    record {
      shape = same_shape-transitive c m d first rest.shape;
      places = record { rising = rest.places.rising; below = subst P (merged-free held c) rest.places.below; each = rest.places.each };
      values = λ x f t. rest.values x f t ∙ merged-properties held c valid.graph valid.netlist x f t;
    }

-- a circuit after a pass has the streams of that before it
pub pass-streams : (held : List ℕ) (c d : Netlist) (kept still_held : List ℕ) → IsCircuit c → IsPass held c d kept still_held → SameStreams c d kept
pass-streams held c d kept still_held valid pass =
    let P : Netlist → Type 0 = λ e. SameStreams c e (kept_free (merged_of held c).aig pass.reached) in
    let Q : List ℕ → Type 0 = λ places. SameStreams c d places in
    subst Q (sym pass.free) (subst P (sym pass.circuit) (trimmed_merged-streams held c pass.reached valid pass.are_reached))

-- what a pass makes of a circuit is a circuit
pub IsCircuit-pass : (held : List ℕ) (c d : Netlist) (kept still_held : List ℕ) → IsCircuit c → IsPass held c d kept still_held → IsCircuit d
IsCircuit-pass held c d kept still_held valid pass =
    let m : Netlist = merged_of held c in
    let whole : IsCircuit m = IsCircuit-merged held c valid in
    let P : Netlist → Type 0 = λ e. IsCircuit e in
    subst P (sym pass.circuit) (record {
      graph = IsGraph-trimmed m held pass.reached whole.graph pass.are_reached.holds;
      netlist = IsNetlist-trimmed m held pass.reached whole.graph whole.netlist pass.are_reached.holds;
    })

-- cleaning keeps the streams
pub cleans-streams : (d : Netlist) (held : List ℕ) (c : Netlist) (kept : List ℕ) → Cleans d held c kept → IsCircuit c → SameStreams c d kept
cleans-streams d _ _ _ (unchanged held c kept pass same) valid =
    let P : Netlist → Type 0 = λ e. SameStreams c e kept in
    subst P (sym same) (pass-streams held c c kept held valid pass)
cleans-streams d _ _ _ (after_pass held c e first second still_held pass other rest) valid =
    same_streams-transitive c e d first second (pass-streams held c e first still_held valid pass)
    (cleans-streams d still_held e second rest (IsCircuit-pass held c e first still_held valid pass))

-- what a circuit is cleaned to is a circuit
pub IsCircuit-cleans : (d : Netlist) (held : List ℕ) (c : Netlist) (kept : List ℕ) → Cleans d held c kept → IsCircuit c → IsCircuit d
IsCircuit-cleans d _ _ _ (unchanged held c kept pass same) valid = let P : Netlist → Type 0 = λ e. IsCircuit e in subst P (sym same) valid
IsCircuit-cleans d _ _ _ (after_pass held c e first second still_held pass other rest) valid =
    IsCircuit-cleans d still_held e second rest (IsCircuit-pass held c e first still_held valid pass)

-- the least of the sets is one
pub reached-same : (g : Graph) (p : Props) (held : List ℕ) (s r : ℕ → Bool) → AreReached g p held s → AreReached g p held r → (v : ℕ) → s v ≡ r v
reached-same g p held s r a b v = both (s v) (r v) (a.least r b.holds v) (b.least s a.holds v)
  where
    both : (p q : Bool) → (p ≡ true → q ≡ true) → (q ≡ true → p ≡ true) → p ≡ q
    both true q to from = sym (to refl)
    both false true to from = from refl
    both false false to from = refl
