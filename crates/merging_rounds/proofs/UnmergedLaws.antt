-- What is merged by no lines stays as it was.
use Rattle.std.proofs.Common.{ℕ, zero, suc, ◌+◌, ◌-◌, ◌*◌, ◌<◌, ◌≤◌, ◌≡◌, ◌∙◌, inl, inr, not, false, List, [], Option, length, get_or, refl, zero-add, add-one, arith, ap, sym, subst}
use Rattle.std.specs.List.{All}
use Rattle.std.proofs.lemmas.Bool.{cases_lt, eq-eqb}
use Rattle.std.proofs.lemmas.List.{ext_get_or}
use Rattle.aig_graph.specs.Circuits.{Netlist}
use Rattle.aig_graph.specs.Graph.{Graph, first_gate, first_latch, variables_end}
use Rattle.aig_graph.specs.Laws.{all_free}
use Rattle.aig_graph.specs.Tables.{table}
use Rattle.aig_graph.specs.declared.choice.Choice.{Choice}
use Rattle.aig_graph.proofs.TableLaws.{length-table, table-at}
use Rattle.certificates.specs.declared.merged.MergedLatch.{MergedLatch}
use Rattle.clean.specs.Normalised.{IsNormalised}
use Rattle.clean.proofs.FrameLaws.{normalised-cleaned}
use Rattle.clean.proofs.OwnLaws.{normalised-own}
use Rattle.cleaned_circuits.specs.Latches.{leaf_substitute}
use Rattle.cleaned_circuits.specs.Merged.{merge_gates, merging_from, replaced_circuit, substitutes_after, substitutes_of}
use Rattle.cleaned_circuits.proofs.OwnLaws.{substitutes-leaf}
use Rattle.cleaned_circuits.proofs.PassLaws.{IsCircuit}
use Rattle.cleaned_circuits.proofs.UnchangedLaws.{replaced_circuit-same}
use Rattle.merged_circuits.specs.Lines.{IsSaidBy, is_merged, latch_line}
use Rattle.merged_circuits.specs.Readings.{leaves, own_literal, own_reading, read, substitutes_by}
use Rattle.merged_circuits.proofs.LineLaws.{lines_below, lines-all, lines-none, lines-stay, one-reading}
use Rattle.merged_circuits.proofs.OwnLaws.{own-long}
use Rattle.merged_circuits.proofs.ReadingLaws.{leaf-latch, leaf-low, length-leaves}
use Rattle.retimed_circuits.specs.declared.report.FrameReport.{FrameReport}
use Rattle.retimed_circuits.specs.Frames.{AfterFrames, CleansTo, cleaned}
use Rattle.retimed_circuits.specs.Merging.{MergesIn}
use Rattle.retimed_circuits.proofs.RunLaws.{SameEnd, after-one, cleaned-one}

module _ (g : Graph) where
  reads-itself : (j : ℕ) → j < length g.latches → read (own_reading g) j ≡ own_literal g j
  unfolding own_reading
  reads-itself j h = table-at 0 (length g.latches) (own_literal g) j 0 h ∙ ap (own_literal g) (zero-add j)

  -- if each latch reads as itself, there is no line
  own-none : (n : ℕ) → n ≤ length g.latches → lines_below g (own_reading g) n ≡ []
  own-none zero h = lines-none g (own_reading g)
  own-none (suc n) h =
      let reads : List ℕ = own_reading g in
      let own : is_merged (latch_line g reads n) ≡ false = ap not (eq-eqb (read reads n) (own_literal g n) (reads-itself n (omega (arith, h)))) in
      ap (lines_below g reads) (sym (add-one n)) ∙ lines-stay g reads n own ∙ own-none n (omega (arith, h))

  -- and if there is none, each does
  unmerged-own : (reads : List ℕ) → IsSaidBy g [] reads → reads ≡ own_reading g
  unmerged-own reads said =
      let own : IsSaidBy g [] (own_reading g) = record { long = own-long g []; said = sym (lines-all g (own_reading g)) ∙ own-none (length g.latches) (omega arith) } in
      one-reading g [] reads (own_reading g) said own

  many-leaves : length (leaves g (own_reading g)) ≡ first_gate g
  many-leaves = omega (arith, length-leaves g [] (own_reading g), own-long g [])

  leaf-own : (v : ℕ) → v < first_gate g → get_or (leaves g (own_reading g)) v 0 ≡ 2 * v
  leaf-own v h = elim (cases_lt v (first_latch g)) [
    | inl low ↦ leaf-low g [] (own_reading g) v low
    | inr past ↦ (
        let j : ℕ = v - first_latch g in
        let place : first_latch g + j ≡ v = omega (arith, past) in
        let below : j < length g.latches = omega (arith, h, past) in
        ap (λ (w : ℕ). get_or (leaves g (own_reading g)) w 0) (sym place) ∙ leaf-latch g [] (own_reading g) j ∙ reads-itself j below ∙ ap (λ (w : ℕ). 2 * w) place)
  ]

module _ (held : List ℕ) (c : Netlist) (valid : IsCircuit c) (normalised : IsNormalised held c) where
  first-below : first_gate c.aig ≤ variables_end c.aig
  first-below = omega arith

  -- what stands for a variable before the gates in a pass of cleaning is that variable too
  same-leaves : table 0 (first_gate c.aig) (leaf_substitute c.aig held) ≡ leaves c.aig (own_reading c.aig)
  same-leaves =
      let n : ℕ = first_gate c.aig in
      let many : length (table 0 n (leaf_substitute c.aig held)) ≡ n = length-table 0 n (leaf_substitute c.aig held) in
      ext_get_or 0 (table 0 n (leaf_substitute c.aig held)) (leaves c.aig (own_reading c.aig)) (many ∙ sym (many-leaves c.aig)) (λ v h.
      let below : v < n = omega (arith, h, many) in
      table-at 0 n (leaf_substitute c.aig held) v 0 below ∙ ap (leaf_substitute c.aig held) (zero-add v)
      ∙ sym (substitutes-leaf c.aig held v below) ∙ normalised-own held c valid.graph normalised v (omega (arith, below, first-below)) ∙ sym (leaf-own c.aig v below))

  same-substitutes : substitutes_of c.aig held ≡ substitutes_by c.aig (own_reading c.aig)
  unfolding substitutes_of substitutes_after
  same-substitutes = ap (λ (xs : List ℕ). (merge_gates c.aig.gates (merging_from xs)).substitutes) same-leaves

  -- a normalised circuit that is merged by no lines is as it was
  unmerged-same : (reads : List ℕ) → IsSaidBy c.aig [] reads → replaced_circuit (substitutes_by c.aig reads) c ≡ c
  unmerged-same reads said =
      ap (λ (rs : List ℕ). replaced_circuit (substitutes_by c.aig rs) c) (unmerged-own c.aig reads said)
      ∙ ap (λ (xs : List ℕ). replaced_circuit xs c) (sym same-substitutes)
      ∙ replaced_circuit-same (substitutes_of c.aig held) c valid (normalised-own held c valid.graph normalised)

  module _ (in_range : All (λ j. j < length c.aig.latches) held) where
    own-end : CleansTo held c c (all_free c.aig) held
    own-end = let own = normalised-cleaned held c valid in_range normalised in record { cleans = own.cleans; held_after = own.held_after }

    -- so is one that is cleaned before
    pub unmerged-start : (start : Netlist) (kept now : List ℕ) (lines : List MergedLatch) → lines ≡ [] → MergesIn held c start kept now lines → SameEnd c start (all_free c.aig) kept held now lines lines
    unmerged-start start kept now lines none merges =
        let clean : Netlist = merges.clean in
        let same = cleaned-one held c c clean (all_free c.aig) kept held now lines lines own-end merges.cleaned refl in
        let P : Netlist → Type 0 = λ d. (start ≡ replaced_circuit (substitutes_by d.aig merges.reads) d) × IsSaidBy d.aig [] merges.reads in
        let there : P clean = (merges.merged.circuit, subst (λ (xs : List MergedLatch). IsSaidBy clean.aig xs merges.reads) none merges.said) in
        let here : P c = subst P (sym same.circuit) there in
        record { circuit = sym (here.0 ∙ unmerged-same merges.reads here.1); free = same.free; held = same.held; reports = refl }

    -- and one that is cleaned
    pub unmoved-end : (bound : Option ℕ) (choice : Choice) (d : Netlist) (kept now : List ℕ) (reports : List FrameReport) → AfterFrames bound choice held c 0 d kept now reports
        → SameEnd c d (all_free c.aig) kept held now [] reports
    unmoved-end bound choice d kept now reports run = after-one bound choice held c 0 c (all_free c.aig) held [] (cleaned c (all_free c.aig) held own-end) d kept now reports run
