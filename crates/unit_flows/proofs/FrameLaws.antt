-- What the tables of a frame say of a place.
use Rattle.std.proofs.Common.{◌≡◌, ℕ, suc, ◌+◌, ◌-◌, ◌<◌, ◌≤◌, ◌&&◌, ◌||◌, not, Bool, true, false, List, length, get_or, arith, ap, sym, ◌∙◌, subst}
use Rattle.aig_graph.specs.Tables.{table}
use Rattle.aig_graph.specs.Marking.{mark_at}
use Rattle.aig_graph.proofs.MarkingLaws.{AreMarks-table}
use Rattle.aig_graph.proofs.TableLaws.{length-table}
use Rattle.aig_graph.specs.declared.graph.Gate.{Gate}
use Rattle.aig_graph.specs.Graph.{Graph, IsGraph, IsGateAt, first_latch, first_gate, latches_and_gates}
use Rattle.aig_graph.specs.Circuits.{Netlist}
use Rattle.frame_net.specs.Passable.{is_passable}
use Rattle.frame_net.specs.Capacity.{is_observed}
use Rattle.unit_flows.specs.Units.{nth_gate}
use Rattle.unit_flows.specs.Shown.{IsCutAt}
use Rattle.std.proofs.lemmas.Bool.{le-leb}
use Rattle.std.proofs.lemmas.List.{get_or_default}
use Rattle.std.proofs.lemmas.Option.{slice_get_read}
use Rattle.frame_net.specs.Flow.{sum_below}

-- the table of which variables are observed has an entry for each latch and gate
pub leaving-long : (c : Netlist) (held : List ℕ) (marks : List Bool) → marks ≡ table (first_latch c.aig) (latches_and_gates c.aig) (is_observed c.aig c.props held) → length marks ≡ latches_and_gates c.aig
leaving-long c held marks filled = ap length filled ∙ length-table (first_latch c.aig) (latches_and_gates c.aig) (is_observed c.aig c.props held)

-- the entry at a place of this table says whether the variable there is observed
pub leaving-at : (c : Netlist) (held : List ℕ) (marks : List Bool) (p : ℕ) → marks ≡ table (first_latch c.aig) (latches_and_gates c.aig) (is_observed c.aig c.props held) → p < latches_and_gates c.aig
    → get_or marks p false ≡ is_observed c.aig c.props held (first_latch c.aig + p)
leaving-at c held marks p filled h = AreMarks-table (first_latch c.aig) (latches_and_gates c.aig) marks (is_observed c.aig c.props held) filled p (omega (arith, h, leaving-long c held marks filled))

-- the mark of the variable at a place
pub mark-at-place : (first : ℕ) (marks : List Bool) (p : ℕ) → mark_at first marks (first + p) ≡ get_or marks p false
unfolding mark_at
mark-at-place first marks p =
    let place : first + p - first ≡ p = omega arith in
    ap (λ (b : Bool). b && get_or marks (first + p - first) false) (le-leb first (first + p) (omega arith)) ∙ ap (λ (i : ℕ). get_or marks i false) place

-- the mark of a variable that comes no earlier than the table is the entry at its place
pub mark-covered : (first : ℕ) (marks : List Bool) (v : ℕ) → first ≤ v → mark_at first marks v ≡ get_or marks (v - first) false
unfolding mark_at
mark-covered first marks v h = ap (λ (b : Bool). b && get_or marks (v - first) false) (le-leb first v h)

-- what is read at a place of this table says whether the variable there is observed
pub leaving-read : (c : Netlist) (held : List ℕ) (marks : List Bool) (p : ℕ) (r : Bool) → marks ≡ table (first_latch c.aig) (latches_and_gates c.aig) (is_observed c.aig c.props held) → p < latches_and_gates c.aig
    → r ≡ get_or marks p r → r ≡ is_observed c.aig c.props held (first_latch c.aig + p)
leaving-read c held marks p r filled h read =
    read ∙ get_or_default marks p r false (omega (arith, h, leaving-long c held marks filled)) ∙ leaving-at c held marks p filled h

-- one place more of a sum
pub sum-more : (f : ℕ → ℕ) (n t u : ℕ) → t ≡ sum_below n f → u ≡ f n → t + u ≡ sum_below (n + 1) f
sum-more f n t u so here =
    let next : n + 1 ≡ suc n = omega arith in
    omega (arith, so, here, ap (λ (i : ℕ). sum_below i f) next)

-- if one thing implies another and the one holds, so does the other
pub or-not : (i a : Bool) → (not i || a) ≡ true → i ≡ true → a ≡ true
or-not true a e yes' = e
or-not false a e yes' = absurd (cc)

-- a cut at a gate, by numbers that are equal
pub cut-same : (first first' begin begin' var var' : ℕ) (gate gate' : Gate) (xs ys : List Bool) → first ≡ first' → begin ≡ begin' → var ≡ var' → gate ≡ gate'
    → IsCutAt begin (mark_at first xs) (mark_at first ys) var gate → IsCutAt begin' (mark_at first' xs) (mark_at first' ys) var' gate'
cut-same first first' begin begin' var var' gate gate' xs ys a b d e cut =
    subst (λ (n : ℕ). IsCutAt begin' (mark_at n xs) (mark_at n ys) var' gate') a
    (subst (λ (n : ℕ). IsCutAt n (mark_at first xs) (mark_at first ys) var' gate') b
    (subst (λ (n : ℕ). IsCutAt begin (mark_at first xs) (mark_at first ys) n gate') d (subst (λ (x : Gate). IsCutAt begin (mark_at first xs) (mark_at first ys) var x) e cut)))

-- the gate that is read at place k of a graph's gates is the graph's k-th gate
pub gate-read : (g : Graph) (gates : List Gate) (k : ℕ) (r : Gate) → gates ≡ g.gates → k < length gates → r ≡ get_or gates k r → r ≡ nth_gate g k
gate-read g gates k r same h read = read ∙ get_or_default gates k r _ h ∙ ap (λ (xs : List Gate). get_or xs k (record { rhs0 = 0; rhs1 = 0 })) same

-- the gate that is read at place k of a graph's gates stands at the k-th variable from the first
-- gate on
pub gate-there : (g : Graph) (gates : List Gate) (k var : ℕ) (r : Gate) → IsGraph g → gates ≡ g.gates → k < length gates → r ≡ get_or gates k r → var ≡ first_gate g + k → IsGateAt var r
gate-there g gates k var r valid same h read at =
    subst (λ (v : ℕ). IsGateAt v r) (sym at) (valid.gates k r (slice_get_read g.gates (length gates) k r (ap length same) h (read ∙ ap (λ (xs : List Gate). get_or xs k r) same)))

-- no test both holds and equals one that fails
pub not-both : (a b : Bool) → a ≡ true → a ≡ b → b ≡ false → ⊥
not-both true true e f g = absurd (cc)
not-both true false e f g = absurd (cc)
not-both false b e f g = absurd (cc)

-- what passes by variable has an entry for each latch and gate
pub passing-long : (g : Graph) (held : List ℕ) (marks : List Bool) → marks ≡ table (first_latch g) (latches_and_gates g) (is_passable g held) → length marks ≡ latches_and_gates g
passing-long g held marks filled = ap length filled ∙ length-table (first_latch g) (latches_and_gates g) (is_passable g held)

-- the entry of a gate says whether it passes
pub passing-at : (g : Graph) (held : List ℕ) (marks : List Bool) (k : ℕ) → marks ≡ table (first_latch g) (latches_and_gates g) (is_passable g held) → k < length g.gates
    → get_or marks (length g.latches + k) false ≡ is_passable g held (first_gate g + k)
passing-at g held marks k filled h =
    let at : first_latch g + (length g.latches + k) ≡ first_gate g + k = omega arith in
    AreMarks-table (first_latch g) (latches_and_gates g) marks (is_passable g held) filled (length g.latches + k) (omega (arith, h, passing-long g held marks filled)) ∙ ap (λ (v : ℕ). is_passable g held v) at
