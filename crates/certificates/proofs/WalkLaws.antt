-- What a walk through points keeps.
use Rattle.std.proofs.Common.{◌≡◌, ℕ, suc, ◌+◌, ◌<◌, ◌≤◌, ◌==◌, Bool, true, false, not, ◌&&◌, ◌||◌, is_some, List, ◌∷◌, length, slice_index_or, drop, drop-cons, Option, Some, None, arith, refl, ap, sym, ◌∙◌, subst, inl, inr}
use Rattle.std.proofs.lemmas.Bool.{eqb-true, and_left, or_cases, or_right, and_parts}
use Rattle.std.proofs.lemmas.List.{drop_all}
use Rattle.aig_graph.specs.Marking.{mark_at}
use Rattle.aig_graph.specs.Tables.{table}
use Rattle.aig_graph.proofs.MarkingLaws.{mark_at-covered, AreMarks-table}
use Rattle.aig_graph.proofs.TableLaws.{length-table}
use Rattle.aig_graph.specs.declared.graph.Latch.{Latch}
use Rattle.aig_graph.specs.declared.graph.Gate.{Gate}
use Rattle.aig_graph.specs.Graph.{Graph, first_latch, variables_end, latches_and_gates, latch_at, gate_at, is_known}
use Rattle.aig_graph.specs.Circuits.{Netlist}
use Rattle.aig_graph.proofs.KindLaws.{gate_place, latch_place}
use Rattle.frame_net.specs.declared.net.Point.{Point}
use Rattle.frame_net.specs.declared.pass_set.PassSet.{PassSet}
use Rattle.frame_net.specs.Passable.{is_passable, IsPassSet}
use Rattle.frame_net.specs.Capacity.{is_observed}
use Rattle.certificates.specs.Routes.{is_on, passes, enters, returns_to, may_step, goes_on}
use Rattle.certificates.proofs.RouteLaws.{four_parts}

gate-on : (g : Graph) (v : ℕ) → is_some (gate_at g v) ≡ true → is_on g v ≡ true
gate-on g v e = or_right (is_known (latch_at g v)) (is_some (gate_at g v)) e

passable-on : (g : Graph) (held : List ℕ) (v : ℕ) → is_passable g held v ≡ true → is_on g v ≡ true
unfolding is_passable
passable-on g held v e = gate-on g v (and_parts (is_some (gate_at g v)) _ e).0

-- a step leads to a gate
pub step-on : (g : Graph) (held : List ℕ) (p q : Point) → may_step g held p q ≡ true → is_on g q.var ≡ true
unfolding may_step
step-on g held p q e = elim (or_cases (passes g held p q) (enters g held p q || returns_to g held p q) e) [
  | inl through ↦ (
      let a = four_parts (not p.behind) q.behind (p.var == q.var) (is_passable g held p.var) through in
      subst (λ (v : ℕ). is_on g v ≡ true) (eqb-true p.var q.var a.2) (passable-on g held p.var a.3))
  | inr other ↦ elim (or_cases (enters g held p q) (returns_to g held p q) other) [
    | inl on ↦ passable-on g held q.var (four_parts p.behind (not q.behind) (is_passable g held q.var) _ on).2
    | inr back ↦ (
        let e = and_parts (not p.behind && not q.behind && is_passable g held p.var && is_some (gate_at g q.var)) _ back in
        gate-on g q.var (four_parts (not p.behind) (not q.behind) (is_passable g held p.var) (is_some (gate_at g q.var)) e.0).3)
  ]
]

-- a known latch or a gate is from the first latch on and below the variables' end
pub on-range : (g : Graph) (v : ℕ) → is_on g v ≡ true → (first_latch g ≤ v) × (v < variables_end g)
on-range g v on = elim (or_cases (is_known (latch_at g v)) (is_some (gate_at g v)) on) [
  | inl known ↦ of_latch (latch_at g v) refl known
  | inr some ↦ of_gate (gate_at g v) refl some
]
  where
    of_latch : (o : Option Latch) → latch_at g v ≡ o → is_known o ≡ true → (first_latch g ≤ v) × (v < variables_end g)
    of_latch None e k = absurd (cc)
    of_latch (Some latch) e k = let place = latch_place g v latch e in (place.from, omega (arith, place.below))

    of_gate : (o : Option Gate) → gate_at g v ≡ o → is_some o ≡ true → (first_latch g ≤ v) × (v < variables_end g)
    of_gate None e k = absurd (cc)
    of_gate (Some gate) e k = let place = gate_place g v gate e in (omega (arith, place.from), place.below)

-- the table's mark of such a variable
pub leaving-mark : (c : Netlist) (held : List ℕ) (marks : List Bool) (v : ℕ) → marks ≡ table (first_latch c.aig) (latches_and_gates c.aig) (is_observed c.aig c.props held) → is_on c.aig v ≡ true
    → mark_at (first_latch c.aig) marks v ≡ is_observed c.aig c.props held v
leaving-mark c held marks v filled on =
    let at = on-range c.aig v on in
    mark_at-covered (first_latch c.aig) marks (is_observed c.aig c.props held) v (AreMarks-table (first_latch c.aig) (latches_and_gates c.aig) marks (is_observed c.aig c.props held) filled)
    at.0 (omega (arith, at.1, ap length filled, length-table (first_latch c.aig) (latches_and_gates c.aig) (is_observed c.aig c.props held)))

from : (rest : List Point) (k : ℕ) (d : Point) → k < length rest → drop k rest ≡ slice_index_or rest k d ∷ drop (k + 1) rest
from rest k d h =
    let same : suc k ≡ k + 1 = omega arith in
    drop-cons rest k d h ∙ ap (λ (n : ℕ). slice_index_or rest k d ∷ drop n rest) same

-- one point more of the walk
pub goes-step : (c : Netlist) (held : List ℕ) (p : Point) (rest : List Point) (k : ℕ) (d : Point) → k < length rest → may_step c.aig held p (slice_index_or rest k d) ≡ true
    → goes_on c held p (drop k rest) ≡ goes_on c held (slice_index_or rest k d) (drop (k + 1) rest)
unfolding goes_on
goes-step c held p rest k d h steps =
    ap (λ (xs : List Point). goes_on c held p xs) (from rest k d h)
    ∙ ap (λ (b : Bool). b && goes_on c held (slice_index_or rest k d) (drop (k + 1) rest)) steps

-- a walk whose next point may not follow doesn't go on
pub goes-not : (c : Netlist) (held : List ℕ) (p : Point) (rest : List Point) (k : ℕ) (d : Point) → k < length rest → may_step c.aig held p (slice_index_or rest k d) ≡ false → goes_on c held p (drop k rest) ≡ false
unfolding goes_on
goes-not c held p rest k d h stops =
    ap (λ (xs : List Point). goes_on c held p xs) (from rest k d h) ∙ and_left (may_step c.aig held p (slice_index_or rest k d)) _ stops

-- an answer on a step that is right by a graph equal to the circuit's is right by the circuit's
pub step-is : (g h : Graph) (held : List ℕ) (pass : PassSet) (r : Bool) (p q : Point) → h ≡ g → ((held : List ℕ) → IsPassSet h held pass → r ≡ may_step h held p q) → IsPassSet g held pass
    → r ≡ may_step g held p q
step-is g h held pass r p q same is of = subst (λ (f : Graph). IsPassSet f held pass → r ≡ may_step f held p q) same (is held) of

-- the end of the walk
pub goes-end : (c : Netlist) (held : List ℕ) (marks : List Bool) (p : Point) (rest : List Point) (k first : ℕ) → length rest ≤ k → marks ≡ table (first_latch c.aig) (latches_and_gates c.aig) (is_observed c.aig c.props held)
    → is_on c.aig p.var ≡ true → first ≡ first_latch c.aig → goes_on c held p (drop k rest) ≡ (p.behind && mark_at first marks p.var)
unfolding goes_on
goes-end c held marks p rest k first past filled on from =
    ap (λ (xs : List Point). goes_on c held p xs) (drop_all k rest past)
    ∙ ap (λ (b : Bool). p.behind && b) (sym (leaving-mark c held marks p.var filled on) ∙ ap (λ (n : ℕ). mark_at n marks p.var) (sym from))
