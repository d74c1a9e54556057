-- Looks by tables are the looks of the circuit.
use Rattle.std.proofs.Common.{ℕ, ◌+◌, ◌<◌, ◌≤◌, ◌≡◌, ◌||◌, ◌&&◌, Bool, false, not, List, length, replicate, Some, None, ap, ap₂, sym, ◌∙◌, subst, arith}
use Rattle.aig_graph.specs.Marking.{has, mark_at, Marks, AreMarks}
use Rattle.aig_graph.specs.Tables.{table}
use Rattle.aig_graph.proofs.MarkingLaws.{table-marks, mark_at-covered, AreMarks-table}
use Rattle.aig_graph.proofs.TableLaws.{table-same, length-table}
use Rattle.aig_graph.specs.declared.properties.Props.{Props}
use Rattle.aig_graph.specs.Graph.{Graph, first_latch, latches_and_gates, latch_at, is_known}
use Rattle.aig_graph.specs.Circuits.{Netlist}
use Rattle.aig_graph.specs.Closed.{is_held}
use Rattle.aig_graph.specs.Border.{is_read_outside, is_read, is_gate_in, in_border}
use Rattle.aig_graph.proofs.ReadingLaws.{is_read_outside-marks}
use Rattle.frame_net.specs.Passable.{IsPassSet}
use Rattle.frame_net.specs.declared.pass_set.PassSet.{PassSet}
use Rattle.frame_net.proofs.PassableLaws.{has-passable}
use Rattle.pictures.specs.Looks.{look_of, look_alone, look_with, looks_by}
use Rattle.pictures.specs.Views.{plain}
use Rattle.pictures.specs.declared.look.Look.{Look}

abbrev look_by : Bool → Bool → Bool → Bool → Look
look_by h f i b = record { held = h; fixed = f; inside = i; border = b }

alone_at : (c : Netlist) (held : List ℕ) (pass : PassSet) → IsPassSet c.aig held pass → (v : ℕ) → look_alone c.aig held pass v ≡ look_of c held None v
unfolding look_alone look_of
alone_at c held pass is v =
    ap (λ (b : Bool). look_by (is_held c.aig held v) (not b) false false)
    (has-passable c.aig held pass.first pass.marks.items v is.first is.marks)

-- if no set is shown
pub alone_is : (c : Netlist) (held : List ℕ) (pass : PassSet) (g : Graph) (looks : List Look) → g ≡ c.aig → IsPassSet g held pass
    → looks ≡ looks_by g (look_alone g held pass) → looks ≡ looks_by c.aig (look_of c held None)
alone_is c held pass g looks same =
    subst (λ (x : Graph). IsPassSet x held pass → looks ≡ looks_by x (look_alone x held pass) → looks ≡ looks_by c.aig (look_of c held None)) (sym same)
    (λ is filled. filled ∙ table-same (first_latch c.aig) (latches_and_gates c.aig) _ _ plain (λ v low high. alone_at c held pass is v))

module _ (c : Netlist) (held s : List ℕ) (pass : PassSet) (read : List Bool) where
  abbrev reads_table : Type 0
  reads_table = read ≡ table (first_latch c.aig) (latches_and_gates c.aig) (is_read c s)

  with_at : IsPassSet c.aig held pass → reads_table → (v : ℕ) → first_latch c.aig ≤ v → v < first_latch c.aig + latches_and_gates c.aig
      → look_with c.aig held pass s read v ≡ look_of c held (Some s) v
  unfolding look_with look_of in_border
  with_at is filled v low high =
      let long : length read ≡ latches_and_gates c.aig = ap length filled ∙ length-table (first_latch c.aig) (latches_and_gates c.aig) (is_read c s) in
      let marked : AreMarks (first_latch c.aig) read (is_read c s) = AreMarks-table (first_latch c.aig) (latches_and_gates c.aig) read (is_read c s) filled in
      ap₂ (λ (b r : Bool). look_by (is_held c.aig held v) (not b) (is_gate_in c.aig s v) ((is_known (latch_at c.aig v) || is_gate_in c.aig s v) && (is_held c.aig held v || r)))
      (has-passable c.aig held pass.first pass.marks.items v is.first is.marks)
      (mark_at-covered (first_latch c.aig) read (is_read c s) v marked low (omega (arith, high, long)))

-- if a set is shown
pub with_is : (c : Netlist) (held s : List ℕ) (pass : PassSet) (read : List Bool) (g : Graph) (looks : List Look) → g ≡ c.aig → IsPassSet g held pass
    → read ≡ table (first_latch c.aig) (latches_and_gates c.aig) (is_read c s)
    → looks ≡ looks_by g (look_with g held pass s read) → looks ≡ looks_by c.aig (look_of c held (Some s))
with_is c held s pass read g looks same =
    subst (λ (x : Graph). IsPassSet x held pass → read ≡ table (first_latch c.aig) (latches_and_gates c.aig) (is_read c s)
    → looks ≡ looks_by x (look_with x held pass s read) → looks ≡ looks_by c.aig (look_of c held (Some s))) (sym same)
    (λ is marked filled. filled ∙ table-same (first_latch c.aig) (latches_and_gates c.aig) _ _ plain (λ v low high. with_at c held s pass read is marked v low high))

-- marks of what is read from outside the set
pub read_is : (c : Netlist) (s : List ℕ) (g : Graph) (props : Props) (n : ℕ) (inside old new : List Bool) → g ≡ c.aig → props ≡ c.props → n ≡ latches_and_gates g
    → inside ≡ table (first_latch g) n (has s) → old ≡ replicate n false → Marks (first_latch g) old new (is_read_outside g props (mark_at (first_latch g) inside))
    → new ≡ table (first_latch c.aig) (latches_and_gates c.aig) (is_read c s)
read_is c s g props n inside old new same_g same_p entries filled fresh marks =
    let long : length inside ≡ n = ap length filled ∙ length-table (first_latch g) n (has s) in
    let members : AreMarks (first_latch g) inside (has s) = AreMarks-table (first_latch g) n inside (has s) filled in
    table-marks (first_latch g) n old new _ fresh marks
    ∙ table-same (first_latch g) n _ _ false (λ v low high. is_read_outside-marks g props inside (has s) (omega (arith, long, entries)) members v)
    ∙ ap (λ (m : ℕ). table (first_latch g) m (is_read_outside g props (has s))) entries
    ∙ ap₂ (λ (x : Graph) (q : Props). table (first_latch x) (latches_and_gates x) (is_read_outside x q (has s))) same_g same_p
