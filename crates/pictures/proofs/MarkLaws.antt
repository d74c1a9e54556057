-- Marks of neighbourhoods.
use Rattle.std.proofs.Common.{ℕ, ◌+◌, ◌-◌, ◌<◌, ◌≤◌, ◌≡◌, ◌||◌, ◌&&◌, nat_le, Bool, true, false, suc, zero, List, length, inl, inr, refl, ap, ap₂, sym, ◌∙◌, subst, arith}
use Rattle.std.proofs.lemmas.Bool.{cases_lt, lt-ltb, le-ltb, and_right}
use Rattle.std.proofs.lemmas.List.{get_or_past}
use Rattle.aig_graph.specs.Marking.{Marks, mark_at}
use Rattle.aig_graph.specs.Tables.{table}
use Rattle.aig_graph.proofs.MarkingLaws.{Marks-none, AreMarks-table, mark_at-covered}
use Rattle.aig_graph.proofs.TableLaws.{table-same, table-from, length-table}
use Rattle.aig_graph.specs.Graph.{Graph, variables_end}
use Rattle.aig_graph.specs.Circuits.{Netlist}
use Rattle.pictures.specs.Near.{is_centre, is_near, is_next}
use Rattle.aig_graph.proofs.StreamLaws.{funext}

-- if the condition holds, the marks of a test are those of the condition and the test together
pub marks-where : (old new : List Bool) (p : ℕ → Bool) (holds test : Bool) → test ≡ holds → test ≡ true → Marks 0 old new p → Marks 0 old new (λ v. holds && p v)
marks-where old new p holds test same passes marks = subst (λ (b : Bool). Marks 0 old new (λ v. b && p v)) (sym passes ∙ same) marks

-- if the condition doesn't hold, no mark is added for it and any test together
pub marks-nowhere : (old : List Bool) (p : ℕ → Bool) (holds test : Bool) → test ≡ holds → test ≡ false → Marks 0 old old (λ v. holds && p v)
marks-nowhere old p holds test same fails = subst (λ (b : Bool). Marks 0 old old (λ v. b && p v)) (sym fails ∙ same) (Marks-none 0 old)

near-past : (c : Netlist) (name : List ℕ) (depth v : ℕ) → variables_end c.aig ≤ v → is_near c name depth v ≡ false
unfolding is_near
near-past c name zero v h = ap (λ (b : Bool). b && is_centre c name v) (le-ltb v (variables_end c.aig) h)
near-past c name (suc depth) v h =
    ap (λ (b : Bool). b && (is_near c name depth v || is_next c.aig (is_near c name depth) v)) (le-ltb v (variables_end c.aig) h)

near-start : (c : Netlist) (name : List ℕ) (v : ℕ) → v < variables_end c.aig → is_centre c name v ≡ is_near c name 0 v
unfolding is_near
near-start c name v h = sym (ap (λ (b : Bool). b && is_centre c name v) (lt-ltb v (variables_end c.aig) h))

near-next : (c : Netlist) (name : List ℕ) (depth v : ℕ) → v < variables_end c.aig
    → (is_near c name depth v || is_next c.aig (is_near c name depth) v) ≡ is_near c name (suc depth) v
unfolding is_near
near-next c name depth v h = sym (ap (λ (b : Bool). b && (is_near c name depth v || is_next c.aig (is_near c name depth) v)) (lt-ltb v (variables_end c.aig) h))

-- what is the centre is what is near by no step
pub near-none : (c : Netlist) (name : List ℕ) (marks : List Bool) → marks ≡ table 0 (variables_end c.aig) (is_centre c name)
    → marks ≡ table 0 (variables_end c.aig) (is_near c name 0)
near-none c name marks filled = filled ∙ table-same 0 (variables_end c.aig) _ _ false (λ v low high. near-start c name v (omega (arith, high)))

mark_at-past : (marks : List Bool) (v : ℕ) → length marks ≤ v → mark_at 0 marks v ≡ false
unfolding mark_at
mark_at-past marks v h = ap (λ (b : Bool). nat_le 0 v && b) (get_or_past marks (v - 0) false (omega (arith, h))) ∙ and_right (nat_le 0 v) false refl

-- the marks of a neighbourhood, as a test
pub near-marks : (c : Netlist) (name : List ℕ) (depth : ℕ) (marks : List Bool) → marks ≡ table 0 (variables_end c.aig) (is_near c name depth)
    → (v : ℕ) → mark_at 0 marks v ≡ is_near c name depth v
near-marks c name depth marks filled v =
    let long : length marks ≡ variables_end c.aig = ap length filled ∙ length-table 0 (variables_end c.aig) (is_near c name depth) in
    elim (cases_lt v (variables_end c.aig)) [
      | inl lt ↦ mark_at-covered 0 marks (is_near c name depth) v (AreMarks-table 0 (variables_end c.aig) marks (is_near c name depth) filled) (omega arith) (omega (arith, lt, long))
      | inr ge ↦ mark_at-past marks v (omega (arith, ge, long)) ∙ sym (near-past c name depth v ge)
    ]

-- one edge further
pub near-more : (c : Netlist) (name : List ℕ) (depth : ℕ) (g : Graph) (marks new : List Bool) → g ≡ c.aig → marks ≡ table 0 (variables_end c.aig) (is_near c name depth)
    → Marks 0 marks new (is_next g (mark_at 0 marks)) → new ≡ table 0 (variables_end c.aig) (is_near c name (depth + 1))
near-more c name depth g marks new same filled step =
    let long : length marks ≡ variables_end c.aig = ap length filled ∙ length-table 0 (variables_end c.aig) (is_near c name depth) in
    let reached : mark_at 0 marks ≡ is_near c name depth = funext (mark_at 0 marks) (is_near c name depth) (near-marks c name depth marks filled) in
    let next : suc depth ≡ depth + 1 = omega arith in
    table-from 0 (variables_end c.aig) (is_near c name (depth + 1)) new false (step.as_long ∙ long) (λ k h.
    step.each k (omega (arith, h, long))
    ∙ ap₂ (λ (a b : Bool). a || b) (AreMarks-table 0 (variables_end c.aig) marks (is_near c name depth) filled k (omega (arith, h, long)))
    (ap₂ (λ (x : Graph) (near : ℕ → Bool). is_next x near (0 + k)) same reached)
    ∙ near-next c name depth (0 + k) (omega (arith, h)) ∙ ap (λ (n : ℕ). is_near c name n (0 + k)) next)
