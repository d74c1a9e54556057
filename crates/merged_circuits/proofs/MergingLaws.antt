-- A merged circuit has the streams of the circuit.
use Rattle.std.proofs.Common.{ℕ, ◌≡◌, List, length, refl, ap, sym, ◌∙◌, subst}
use Rattle.aig_graph.specs.Graph.{IsGraph, free_before, free_latches}
use Rattle.aig_graph.specs.Circuits.{Netlist, IsNetlist}
use Rattle.aig_graph.specs.Laws.{all_free}
use Rattle.aig_graph.specs.Streams.{SameStreams, chosen}
use Rattle.aig_graph.proofs.PropsLaws.{mapped-shape}
use Rattle.aig_graph.proofs.StreamLaws.{same_streams-reflexive}
use Rattle.cleaned_circuits.specs.Merged.{replaced, replaced_graph, replaced_circuit}
use Rattle.cleaned_circuits.proofs.SubstituteLaws.{after-within}
use Rattle.cleaned_circuits.proofs.MergedLaws.{SubstitutesWithin, SubstitutesRight, IsGraph-replaced, IsNetlist-replaced, replaced-properties, replaced-inputs, length-replaced_latches, replaced-free_before}
use Rattle.merged_circuits.specs.Readings.{IsReading, leaves, substitutes_by}
use Rattle.merged_circuits.specs.Inductive.{IsInductive, IsMergedBy}
use Rattle.merged_circuits.proofs.ReadingLaws.{are-leaves}
use Rattle.merged_circuits.proofs.ValueLaws.{substitutes_by-value}

module _ (held reads : List ℕ) (c : Netlist) (valid : IsGraph c.aig) (reading : IsReading c.aig held reads) where
  abbrev substitutes : List ℕ
  substitutes = substitutes_by c.aig reads

  -- no literal of a later variable stands for one
  pub kept-within : SubstitutesWithin c.aig (substitutes_by c.aig reads)
  kept-within = after-within c.aig (leaves c.aig reads) (are-leaves c.aig held reads reading) valid

  -- what is made of a graph is one
  pub IsGraph-kept : IsGraph (replaced_circuit (substitutes_by c.aig reads) c).aig
  IsGraph-kept = IsGraph-replaced c.aig substitutes valid kept-within

  -- and of a circuit
  pub IsNetlist-kept : IsNetlist c → IsNetlist (replaced_circuit (substitutes_by c.aig reads) c)
  IsNetlist-kept netlist = IsNetlist-replaced substitutes c valid netlist kept-within

module _ (held reads : List ℕ) (c : Netlist) (valid : IsGraph c.aig) (kept : IsInductive c.aig held reads) where
  kept-right : SubstitutesRight c.aig (substitutes_by c.aig reads)
  kept-right x f t lit h = substitutes_by-value c.aig held reads valid kept x f t lit h

  -- what is made of a circuit by a reading that steps preserve has its streams
  pub kept-streams : IsNetlist c → SameStreams c (replaced_circuit (substitutes_by c.aig reads) c) (all_free c.aig)
  kept-streams netlist =
      let d : Netlist = replaced_circuit (substitutes_by c.aig reads) c in
      let same : SameStreams c c (all_free c.aig) = same_streams-reflexive c in
      let free : free_latches d.aig ≡ free_latches c.aig =
      replaced-free_before (substitutes_by c.aig reads) c.aig (length (replaced_graph (substitutes_by c.aig reads) c.aig).latches)
      ∙ ap (free_before c.aig) (length-replaced_latches (substitutes_by c.aig reads) c.aig) in
      record {
        shape = mapped-shape (replaced (substitutes_by c.aig reads)) c d (replaced-inputs (substitutes_by c.aig reads) c.aig) refl;
        places = record { rising = same.places.rising; below = same.places.below; each = same.places.each ∙ sym free };
        values = λ x f t. replaced-properties (substitutes_by c.aig reads) c valid netlist (kept-within held reads c valid kept.reading) kept-right x (chosen (all_free c.aig) f) t ∙ same.values x f t;
      }

-- the streams of a merged circuit
pub merged_by-streams : (held reads : List ℕ) (c d : Netlist) → IsGraph c.aig → IsNetlist c → IsMergedBy held reads c d → SameStreams c d (all_free c.aig)
merged_by-streams held reads c d valid netlist merged =
    let P : Netlist → Type 0 = λ e. SameStreams c e (all_free c.aig) in
    subst P (sym merged.circuit) (kept-streams held reads c valid merged.inductive netlist)

-- a merged circuit has a graph
pub IsGraph-merged_by : (held reads : List ℕ) (c d : Netlist) → IsGraph c.aig → IsMergedBy held reads c d → IsGraph d.aig
IsGraph-merged_by held reads c d valid merged =
    let P : Netlist → Type 0 = λ e. IsGraph e.aig in
    subst P (sym merged.circuit) (IsGraph-kept held reads c valid merged.inductive.reading)

-- and is in order
pub IsNetlist-merged_by : (held reads : List ℕ) (c d : Netlist) → IsGraph c.aig → IsNetlist c → IsMergedBy held reads c d → IsNetlist d
IsNetlist-merged_by held reads c d valid netlist merged =
    let P : Netlist → Type 0 = λ e. IsNetlist e in
    subst P (sym merged.circuit) (IsNetlist-kept held reads c valid merged.inductive.reading netlist)
