-- The levels of variables, gate by gate, and the greatest of what is read.
use Rattle.std.proofs.Common.{ℕ, ◌+◌, ◌*◌, ◌<◌, ◌≤◌, ◌≡◌, ◌∙◌, inl, inr, suc, zero, List, length, map, Option, Some, None, sym, ap, arith}
use Rattle.std.specs.Prelude.{max}
use Rattle.std.proofs.Math.Nat.{max-le}
use Rattle.std.proofs.lemmas.Bool.{cases_lt}
use Rattle.std.proofs.lemmas.List.Sums.{fold-append}
use Rattle.aig_graph.specs.Tables.{table}
use Rattle.aig_graph.specs.declared.literal.TheConstants.{MAX_VARIABLES}
use Rattle.aig_graph.specs.declared.graph.Gate.{Gate}
use Rattle.aig_graph.specs.declared.graph.Latch.{Latch}
use Rattle.aig_graph.specs.declared.properties.Props.{Props}
use Rattle.aig_graph.specs.Graph.{Graph, IsGraph, variable, first_gate, variables_end, gate_at}
use Rattle.aig_graph.specs.Circuits.{Netlist}
use Rattle.aig_graph.specs.Folding.{fold_step, fold_to_depth, fold_gates}
use Rattle.aig_graph.specs.Streams.{property_literals}
use Rattle.aig_graph.proofs.FoldingLaws.{gate_at-before, fold_gates-leaf, fold_gates-gate}
use Rattle.aig_graph.proofs.KindLaws.{gate_place}
use Rattle.frame_net.proofs.PassableLaws.{gate_cases}
use Rattle.path_levels.specs.Levels.{ground_level, one_above, level, highest, read_literals, levels, entry_at}
use Rattle.path_levels.proofs.EntryLaws.{entry-of, entry-past, Rises}

step-bound : (leaf : ℕ → ℕ) (n : ℕ) (below : ℕ → ℕ) → ((w : ℕ) → below w ≤ n) → ((w : ℕ) → leaf w ≤ suc n) → (v : ℕ) (o : Option Gate) → fold_step leaf one_above below v o ≤ suc n
step-bound leaf n below each low v None = low v
step-bound leaf n below each low v (Some gate) =
    let high : max (below (variable gate.rhs0)) (below (variable gate.rhs1)) ≤ n = max-le (each (variable gate.rhs0)) (each (variable gate.rhs1)) in
    omega (arith, high)

depth-bound : (g : Graph) (leaf : ℕ → ℕ) (most : ℕ) → ((w : ℕ) → leaf w ≤ most) → (n v : ℕ) → fold_to_depth g leaf one_above n v ≤ most + n
unfolding fold_to_depth
depth-bound g leaf most low zero v = omega (arith, low v)
depth-bound g leaf most low (suc n) v =
    let step : fold_step leaf one_above (fold_to_depth g leaf one_above n) v (gate_at g v) ≤ suc (most + n) =
    step-bound leaf (most + n) (fold_to_depth g leaf one_above n) (λ w. depth-bound g leaf most low n w) (λ w. omega (arith, low w)) v (gate_at g v) in
    omega (arith, step)

-- what rises gate by gate from a bounded start is above the bound by at most the number of
-- variables up to its own
pub rise-bound : (g : Graph) (leaf : ℕ → ℕ) (most : ℕ) → ((w : ℕ) → leaf w ≤ most) → (v : ℕ) → fold_gates g leaf one_above v ≤ most + suc v
unfolding fold_gates
rise-bound g leaf most low v = depth-bound g leaf most low (suc v) v

-- what is no gate has level 0
pub level-no_gate : (g : Graph) (v : ℕ) → gate_at g v ≡ None → level g v ≡ 0
unfolding level
level-no_gate g v e = fold_gates-leaf g ground_level one_above v e

-- before the first gate all is on the ground
pub level-before : (g : Graph) (v : ℕ) → v < first_gate g → level g v ≡ 0
level-before g v h = level-no_gate g v (gate_at-before g v h)

-- and past the last one
level-past : (g : Graph) (v : ℕ) → variables_end g ≤ v → level g v ≡ 0
level-past g v h = elim (gate_cases g v) [
  | inl none ↦ level-no_gate g v none
  | inr some ↦ absurd (omega (arith, h, (gate_place g v some.0 some.1).below))
]

level-up : (g : Graph) (v : ℕ) → level g v ≤ suc v
unfolding level
level-up g v = let most : fold_gates g ground_level one_above v ≤ 0 + suc v = rise-bound g ground_level 0 (λ w. omega arith) v in omega (arith, most)

-- no level is greater than the number of variables
pub level-bound : (g : Graph) (v : ℕ) → level g v ≤ variables_end g
level-bound g v = elim (cases_lt v (variables_end g)) [
  | inl lt ↦ omega (arith, lt, level-up g v)
  | inr ge ↦ rw (level-past g v ge) (omega arith)
]

-- so none is greater than this
pub level-low : (g : Graph) → IsGraph g → (v : ℕ) → level g v ≤ 2 * MAX_VARIABLES
level-low g valid v = omega (arith, level-bound g v, valid.small)

-- a gate is one level above the higher of its fan-ins
pub level-gate : (g : Graph) → IsGraph g → Rises g (level g)
unfolding level
level-gate g valid v gate e = fold_gates-gate g valid ground_level one_above v gate e

-- the entry of any variable in the whole table is its level
pub entry-level : (g : Graph) (entries : List ℕ) → entries ≡ table (first_gate g) (length g.gates) (level g) → (v : ℕ) → entry_at (first_gate g) entries v ≡ level g v
entry-level g entries filled v = elim (cases_lt v (variables_end g)) [
  | inl lt ↦ entry-of (first_gate g) (length g.gates) v (level g) entries (level-before g) filled lt
  | inr ge ↦ entry-past (first_gate g) (length g.gates) v (level g) entries filled ge ∙ sym (level-past g v ge)
]

-- the greatest level of next literals, and from there that of the literals of properties
pub levels-are : (c : Netlist) (entries : List ℕ) (next all : ℕ) → entries ≡ table (first_gate c.aig) (length c.aig.gates) (level c.aig)
    → next ≡ highest (entry_at (first_gate c.aig) entries) 0 (map (λ latch. latch.next) c.aig.latches)
    → all ≡ highest (entry_at (first_gate c.aig) entries) next (property_literals c.props)
    → all ≡ levels c
unfolding levels
levels-are c entries next all filled is_next is_all =
    let same : entry_at (first_gate c.aig) entries ≡ level c.aig = λ i. λ v. entry-level c.aig entries filled v i in
    is_all
    ∙ ap (λ (start : ℕ). highest (entry_at (first_gate c.aig) entries) start (property_literals c.props)) is_next
    ∙ sym (fold-append (λ high lit. max high (entry_at (first_gate c.aig) entries (variable lit))) 0 (map (λ latch. latch.next) c.aig.latches) (property_literals c.props))
    ∙ ap (λ (f : ℕ → ℕ). highest f 0 (read_literals c)) same

-- levels by a graph, properties and latches that are those of the circuit
pub levels-by : (c : Netlist) (g : Graph) (props : Props) (first : ℕ) (entries : List ℕ) (latches : List Latch) (next all : ℕ) → g ≡ c.aig → props ≡ c.props → first ≡ first_gate g
    → entries ≡ table (first_gate g) (length g.gates) (level g) → latches ≡ g.latches
    → next ≡ highest (entry_at first entries) 0 (map (λ latch. latch.next) latches)
    → all ≡ highest (entry_at first entries) next (property_literals props)
    → all ≡ levels c
levels-by c g props first entries latches next all same_g same_p from filled are is_next is_all =
    let here : first ≡ first_gate c.aig = from ∙ ap first_gate same_g in
    levels-are c entries next all
    (filled ∙ ap (λ (x : Graph). table (first_gate x) (length x.gates) (level x)) same_g)
    (is_next ∙ ap (λ (n : ℕ). highest (entry_at n entries) 0 (map (λ latch. latch.next) latches)) here
    ∙ ap (λ (xs : List Latch). highest (entry_at (first_gate c.aig) entries) 0 (map (λ latch. latch.next) xs)) (are ∙ ap (λ (x : Graph). x.latches) same_g))
    (is_all ∙ ap (λ (n : ℕ). highest (entry_at n entries) next (property_literals props)) here
    ∙ ap (λ (q : Props). highest (entry_at (first_gate c.aig) entries) next (property_literals q)) same_p)
