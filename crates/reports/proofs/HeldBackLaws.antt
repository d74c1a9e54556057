-- Counting latches from the first one on.
use Rattle.std.proofs.Common.{ℕ, ◌≡◌, ◌∙◌, ◌<◌, ◌≤◌, ◌-◌, ◌&&◌, ◌+◌, ◌⊎◌, inl, inr, Bool, false, not, List, length, replicate, Option, None, sym, ap, arith, refl}
use Rattle.std.proofs.lemmas.Bool.{and_right, cases_lt}
use Rattle.aig_graph.specs.Counting.{count_below}
use Rattle.aig_graph.specs.Marking.{mark_at, Marks}
use Rattle.aig_graph.specs.Tables.{table}
use Rattle.aig_graph.proofs.CountingLaws.{count-none, count_below-same}
use Rattle.aig_graph.proofs.MarkingLaws.{AreMarks-table, mark_at-covered, table-marks}
use Rattle.aig_graph.proofs.TableLaws.{length-table}
use Rattle.aig_graph.specs.declared.graph.Latch.{Latch}
use Rattle.aig_graph.specs.declared.properties.Props.{Props}
use Rattle.aig_graph.specs.Graph.{Graph, first_latch, first_gate, latches_and_gates, latch_at, is_known, free_latches}
use Rattle.aig_graph.specs.Circuits.{Netlist}
use Rattle.aig_graph.specs.Closed.{is_held, may_move}
use Rattle.aig_graph.specs.Border.{is_read_outside}
use Rattle.aig_graph.proofs.KindLaws.{latch_at-before}
use Rattle.frame_net.specs.Passable.{is_passable, passable_gates}
use Rattle.frame_net.proofs.PassableLaws.{has-passable}
use Rattle.reports.specs.HeldBack.{held_back, is_known_held, is_read_elsewhere, is_marked_latch}
use Rattle.reports.specs.declared.held_back.HeldBack.{HeldBack}

held-early : (g : Graph) (held : List ℕ) (v : ℕ) → v < first_latch g → is_known_held g held v ≡ false
held-early g held v h = ap (λ (o : Option Latch). is_held g held v && is_known o) (latch_at-before g v h) ∙ and_right (is_held g held v) false refl

moves-early : (g : Graph) (held : List ℕ) (v : ℕ) → v < first_latch g → may_move g held v ≡ false
moves-early g held v h = ap (λ (o : Option Latch). not (is_held g held v) && is_known o) (latch_at-before g v h) ∙ and_right (not (is_held g held v)) false refl

-- none is counted before the latches
pub held-start : (g : Graph) (held : List ℕ) (n : ℕ) → n ≡ first_latch g → 0 ≡ count_below (is_known_held g held) n
held-start g held n same = sym (count-none (is_known_held g held) n (λ v h. held-early g held v (omega (arith, h, same))))

-- no marked latch that may move stands before the first latch
pub marked-start : (g : Graph) (held : List ℕ) (marks : List Bool) (n : ℕ) → n ≡ first_latch g → 0 ≡ count_below (is_marked_latch g held marks) n
marked-start g held marks n same =
    sym (count-none (is_marked_latch g held marks) n (λ v h. ap (λ (b : Bool). b && mark_at (first_latch g) marks v) (moves-early g held v (omega (arith, h, same)))))

abbrev AreMarksElsewhere : Netlist → List ℕ → List Bool → Type 0
AreMarksElsewhere c held marks = marks ≡ table (first_latch c.aig) (latches_and_gates c.aig) (is_read_outside c.aig c.props (is_passable c.aig held))

-- a latch's mark says whether it is read elsewhere
marked-latch : (c : Netlist) (held : List ℕ) (marks : List Bool) → AreMarksElsewhere c held marks → (v : ℕ) → v < first_gate c.aig
    → is_marked_latch c.aig held marks v ≡ is_read_elsewhere c held v
marked-latch c held marks filled v below =
    let test : ℕ → Bool = is_read_outside c.aig c.props (is_passable c.aig held) in
    let long : length marks ≡ latches_and_gates c.aig = ap (λ (xs : List Bool). length xs) filled ∙ length-table (first_latch c.aig) (latches_and_gates c.aig) test in
    elim (cases_lt v (first_latch c.aig)) [
      | inl early ↦ ap (λ (b : Bool). b && mark_at (first_latch c.aig) marks v) (moves-early c.aig held v early) ∙ sym (ap (λ (b : Bool). b && test v) (moves-early c.aig held v early))
      | inr from ↦ ap (λ (b : Bool). may_move c.aig held v && b) (mark_at-covered (first_latch c.aig) marks test v (AreMarks-table (first_latch c.aig) (latches_and_gates c.aig) marks test filled) from (omega (arith, long, below)))
    ]

-- the counts, by the graph that they are taken of
pub held_back-is : (c : Netlist) (held : List ℕ) (g : Graph) (marks : List Bool) (free kept read pass : ℕ) → g ≡ c.aig → AreMarksElsewhere c held marks
    → free ≡ free_latches g → kept ≡ count_below (is_known_held g held) (first_gate g) → read ≡ count_below (is_marked_latch g held marks) (first_gate g)
    → pass ≡ length (passable_gates g held)
    → record { free = free; held = kept; read_elsewhere = read; too_long = None; passable = pass } ≡ held_back c held
unfolding held_back
held_back-is c held g marks free kept read pass same filled is_free is_kept is_read is_pass =
    let all_free : free ≡ free_latches c.aig = is_free ∙ ap free_latches same in
    let all_kept : kept ≡ count_below (is_known_held c.aig held) (first_gate c.aig) = is_kept ∙ ap (λ (x : Graph). count_below (is_known_held x held) (first_gate x)) same in
    let all_read : read ≡ count_below (is_read_elsewhere c held) (first_gate c.aig) =
    is_read ∙ ap (λ (x : Graph). count_below (is_marked_latch x held marks) (first_gate x)) same
    ∙ count_below-same (is_marked_latch c.aig held marks) (is_read_elsewhere c held) (first_gate c.aig) (marked-latch c held marks filled) in
    let all_pass : pass ≡ length (passable_gates c.aig held) = is_pass ∙ ap (λ (x : Graph). length (passable_gates x held)) same in
    λ i. record { free = all_free i; held = all_kept i; read_elsewhere = all_read i; too_long = None; passable = all_pass i }

-- what the marks of passable gates leave marked
pub elsewhere-marks : (c : Netlist) (held : List ℕ) (g : Graph) (props : Props) (n first : ℕ) (pass old new : List Bool) → g ≡ c.aig → props ≡ c.props → n ≡ latches_and_gates g
    → first ≡ first_latch c.aig → pass ≡ table (first_latch c.aig) (latches_and_gates c.aig) (is_passable c.aig held)
    → old ≡ replicate n false → Marks (first_latch g) old new (is_read_outside g props (mark_at (first_latch g) pass))
    → AreMarksElsewhere c held new
elsewhere-marks c held g props n first pass old new same_g same_p size from filled fresh marked =
    let inside : mark_at (first_latch c.aig) pass ≡ is_passable c.aig held = λ i. λ v. has-passable c.aig held (first_latch c.aig) pass v refl filled i in
    table-marks (first_latch g) n old new (is_read_outside g props (mark_at (first_latch g) pass)) fresh marked
    ∙ ap (λ (m : ℕ). table (first_latch g) m (is_read_outside g props (mark_at (first_latch g) pass))) size
    ∙ ap (λ (x : Graph). table (first_latch x) (latches_and_gates x) (is_read_outside x props (mark_at (first_latch x) pass))) same_g
    ∙ ap (λ (q : Props). table (first_latch c.aig) (latches_and_gates c.aig) (is_read_outside c.aig q (mark_at (first_latch c.aig) pass))) same_p
    ∙ ap (λ (p : ℕ → Bool). table (first_latch c.aig) (latches_and_gates c.aig) (is_read_outside c.aig c.props p)) inside
