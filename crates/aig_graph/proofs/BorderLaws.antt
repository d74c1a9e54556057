-- What marks from the first latch on say of the border.
use Rattle.std.proofs.Common.{ℕ, ◌+◌, ◌-◌, ◌<◌, ◌≤◌, ◌≡◌, ◌||◌, ◌&&◌, Bool, true, false, List, length, get_or, Option, is_some, suc, arith, ap, ap₂, sym, ◌∙◌, inl, inr, subst}
use Rattle.std.proofs.Math.Bool.{and_comm, or_comm}
use Rattle.std.proofs.lemmas.Bool.{cases_lt, lt-leb}
use Rattle.aig_graph.specs.Counting.{count_below}
use Rattle.aig_graph.specs.Marking.{has, mark_at, AreMarks}
use Rattle.aig_graph.proofs.PlacesLaws.{count-pass, count-fail}
use Rattle.aig_graph.proofs.CountingLaws.{count_below-same, count-none}
use Rattle.aig_graph.proofs.MarkingLaws.{mark_at-covered}
use Rattle.aig_graph.specs.declared.graph.Gate.{Gate}
use Rattle.aig_graph.specs.declared.graph.Latch.{Latch}
use Rattle.aig_graph.specs.declared.properties.Props.{Props}
use Rattle.aig_graph.specs.Graph.{Graph, first_latch, variables_end, latches_and_gates, latch_at, gate_at, is_known}
use Rattle.aig_graph.specs.Circuits.{Netlist}
use Rattle.aig_graph.specs.Closed.{is_held}
use Rattle.aig_graph.specs.Move.{move_of}
use Rattle.aig_graph.specs.Border.{is_read_outside, is_read, is_gate_in, in_border, is_counted, border_size}
use Rattle.aig_graph.proofs.FoldingLaws.{gate_at-before}
use Rattle.aig_graph.proofs.KindLaws.{latch_at-before}
use Rattle.aig_graph.proofs.ReadingLaws.{is_read_outside-marks}

-- no mark before the first entry
mark_at-early : (first : ℕ) (marks : List Bool) (v : ℕ) → v < first → mark_at first marks v ≡ false
unfolding mark_at
mark_at-early first marks v h = ap (λ (b : Bool). b && get_or marks (v - first) false) (lt-leb first v h)

counted-early : (g : Graph) (inside marks : List Bool) (v : ℕ) → v < first_latch g → is_counted g inside marks v ≡ false
unfolding is_counted
counted-early g inside marks v h = ap (λ (b : Bool). b && ((is_some (gate_at g v) && mark_at (first_latch g) inside v) || is_known (latch_at g v))) (mark_at-early (first_latch g) marks v h)

-- before the first latch nothing is counted
pub counted-start : (g : Graph) (inside marks : List Bool) (n : ℕ) → n ≡ first_latch g → 0 ≡ count_below (is_counted g inside marks) n
counted-start g inside marks n same = sym (count-none (is_counted g inside marks) n (λ v h. counted-early g inside marks v (omega arith)))

-- a number that passes adds one to the total
pub counted-pass : (p : ℕ → Bool) (n total next : ℕ) (b : Bool) → b ≡ p n → b ≡ true → total ≡ count_below p n → next ≡ total + 1 → next ≡ count_below p (n + 1)
counted-pass p n total next b same passes counted more =
    let step : n + 1 ≡ suc n = omega arith in
    more ∙ ap (λ (k : ℕ). k + 1) counted ∙ sym (count-pass p n (sym same ∙ passes)) ∙ ap (count_below p) (sym step)

-- a number that doesn't pass leaves the total as it is
pub counted-fail : (p : ℕ → Bool) (n total next : ℕ) (b : Bool) → b ≡ p n → b ≡ false → total ≡ count_below p n → next ≡ total → next ≡ count_below p (n + 1)
counted-fail p n total next b same other counted more =
    let step : n + 1 ≡ suc n = omega arith in
    more ∙ counted ∙ sym (count-fail p n (sym same ∙ other)) ∙ ap (count_below p) (sym step)

-- the total at the end is the count of all
pub counted-end : (p : ℕ → Bool) (n m total : ℕ) → n ≡ m → total ≡ count_below p n → total ≡ count_below p m
counted-end p n m total same counted = counted ∙ ap (count_below p) same

-- what is before the latches is neither a latch nor a gate
in_border-early : (c : Netlist) (held s : List ℕ) (v : ℕ) → v < first_latch c.aig → in_border (move_of c held s) v ≡ false
unfolding in_border
in_border-early c held s v h =
    ap₂ (λ (latch : Option Latch) (gate : Option Gate). (is_known latch || (is_some gate && has s v)) && (is_held c.aig held v || is_read c s v))
    (latch_at-before c.aig v h) (gate_at-before c.aig v (omega arith))

turned : (a b c d : Bool) → ((a || b) && (c || d)) ≡ ((d || c) && (b || a))
turned a b c d = and_comm (a || b) (c || d) ∙ ap₂ (λ (x y : Bool). x && y) (or_comm c d) (or_comm a b)

module _ (c : Netlist) (held s : List ℕ) (inside marks : List Bool)
    (inside_long : length inside ≡ latches_and_gates c.aig) (marks_long : length marks ≡ latches_and_gates c.aig)
    (members : AreMarks (first_latch c.aig) inside (has s))
    (marked : AreMarks (first_latch c.aig) marks (λ v. is_read_outside c.aig c.props (mark_at (first_latch c.aig) inside) v || is_held c.aig held v)) where
  counted-late : (v : ℕ) → first_latch c.aig ≤ v → v < variables_end c.aig → is_counted c.aig inside marks v ≡ in_border (move_of c held s) v
  unfolding is_counted in_border
  counted-late v low high =
      let member : mark_at (first_latch c.aig) inside v ≡ has s v = mark_at-covered (first_latch c.aig) inside (has s) v members low (omega arith) in
      let here = mark_at-covered (first_latch c.aig) marks (λ w. is_read_outside c.aig c.props (mark_at (first_latch c.aig) inside) w || is_held c.aig held w) v marked low (omega arith) in
      let read : is_read_outside c.aig c.props (mark_at (first_latch c.aig) inside) v ≡ is_read c s v = is_read_outside-marks c.aig c.props inside (has s) (omega arith) members v in
      ap₂ (λ (a b : Bool). a && ((is_some (gate_at c.aig v) && b) || is_known (latch_at c.aig v))) (here ∙ ap (λ (b : Bool). b || is_held c.aig held v) read) member
      ∙ turned (is_read c s v) (is_held c.aig held v) (is_gate_in c.aig s v) (is_known (latch_at c.aig v))

  -- what marks of the set, and of what is held or read from outside, count is the size of the
  -- border
  pub border_size-counted : count_below (is_counted c.aig inside marks) (variables_end c.aig) ≡ border_size (move_of c held s)
  unfolding border_size
  border_size-counted = count_below-same (is_counted c.aig inside marks) (in_border (move_of c held s)) (variables_end c.aig) (λ v h. elim (cases_lt v (first_latch c.aig)) [
    | inl early ↦ counted-early c.aig inside marks v early ∙ sym (in_border-early c held s v early)
    | inr low ↦ counted-late v low h
  ])

-- that size, by a graph and properties that are those of the circuit
pub border_size-is : (c : Netlist) (held s : List ℕ) (g : Graph) (props : Props) (inside marks : List Bool) → g ≡ c.aig → props ≡ c.props
    → length inside ≡ latches_and_gates g → length marks ≡ latches_and_gates g → AreMarks (first_latch g) inside (has s)
    → AreMarks (first_latch g) marks (λ v. is_read_outside g props (mark_at (first_latch g) inside) v || is_held g held v)
    → count_below (is_counted g inside marks) (variables_end g) ≡ border_size (move_of c held s)
border_size-is c held s g props inside marks same_g same_p inside_long marks_long members marked =
    let test : Graph → Props → ℕ → Bool = λ x q v. is_read_outside x q (mark_at (first_latch x) inside) v || is_held x held v in
    ap (λ (x : Graph). count_below (is_counted x inside marks) (variables_end x)) same_g
    ∙ border_size-counted c held s inside marks (inside_long ∙ ap latches_and_gates same_g) (marks_long ∙ ap latches_and_gates same_g)
    (subst (λ (x : Graph). AreMarks (first_latch x) inside (has s)) same_g members)
    (subst (λ (q : Props). AreMarks (first_latch c.aig) marks (test c.aig q)) same_p
    (subst (λ (x : Graph). AreMarks (first_latch x) marks (test x props)) same_g marked))
