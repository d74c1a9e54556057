-- A full cut, all of whose near side is reached from units that are left, shows the smallest least
-- set.
use Rattle.std.proofs.Common.{◌≡◌, ℕ, ◌+◌, ◌≤◌, Bool, true, false, not, IsTrue, List, length, arith, refl, ap, sym, ◌∙◌, subst}
use Rattle.std.proofs.lemmas.Bool.{and_parts, not-true, true≢false}
use Rattle.aig_graph.specs.Marking.{has, mark_at}
use Rattle.aig_graph.specs.Graph.{variable, first_latch, first_gate}
use Rattle.aig_graph.specs.Circuits.{Netlist}
use Rattle.aig_graph.specs.Closed.{IsClosedSet}
use Rattle.aig_graph.specs.Move.{move_of}
use Rattle.aig_graph.specs.Border.{border_size}
use Rattle.aig_graph.proofs.SearchLaws.{has_iff_contains}
use Rattle.frame_net.specs.Passable.{is_passable}
use Rattle.frame_net.proofs.NetLaws.{gate-range}
use Rattle.frame_net.proofs.PassableLaws.{is_true}
use Rattle.unit_flows.specs.declared.gate_flow.GateFlow.{GateFlow}
use Rattle.unit_flows.specs.Units.{nth_gate, nth_flow, AreTallies, IsBalanced, arrivals}
use Rattle.unit_flows.specs.Marks.{HoldsTails}
use Rattle.unit_flows.specs.Onward.{HoldsHeads, IsDownstream}
use Rattle.unit_flows.specs.Laws.{ShownSmallestLaw}
use Rattle.unit_flows.proofs.SideLaws.{far_after, far_before, far-outside}
use Rattle.unit_flows.proofs.BalanceLaws.{arrivals-le, left_after-near, left_before-near}
use Rattle.unit_flows.proofs.ShownLaws.{upstream, closed, border-le}

-- what doesn't hold of the ends of arcs if it doesn't of their beginnings
heads-of : (b a : ℕ → Bool) (w : ℕ) (gate : _) (flow : GateFlow) → HoldsTails b a w gate flow → HoldsHeads (λ v. not (b v)) (λ v. not (a v)) w gate flow
heads-of b a w gate flow tails = record {
  through = λ near free. other (b w) (a w) near (λ e. tails.through e free);
  first_on = λ near. other (b w) (b (variable gate.rhs1)) near tails.first_on;
  second_on = λ near. other (b w) (b (variable gate.rhs0)) near tails.second_on;
  first_home = λ near up. other (b w) (a (variable gate.rhs1)) near (λ e. tails.first_home e up);
  second_home = λ near up. other (b w) (a (variable gate.rhs0)) near (λ e. tails.second_home e up);
  first_reads = λ near. other (a (variable gate.rhs1)) (b w) near tails.first_reads;
  second_reads = λ near. other (a (variable gate.rhs0)) (b w) near tails.second_reads;
  first_back = λ near down. other (b (variable gate.rhs1)) (b w) near (λ e. tails.first_back e down);
  second_back = λ near down. other (b (variable gate.rhs0)) (b w) near (λ e. tails.second_back e down);
  back = λ near through. other (a w) (b w) near (λ e. tails.back e through);
}
  where
    other : (x y : Bool) → not x ≡ true → (y ≡ true → x ≡ true) → not y ≡ true
    other x true e h = absurd (true≢false (sym (h refl) ∙ not-true x e))
    other x false e h = refl

-- the near side of a least set
module _ (c : Netlist) (held r : List ℕ) (flows : List GateFlow) (went came : List ℕ) (set : IsClosedSet c.aig held r)
    (tallies : AreTallies c.aig flows (length c.aig.gates) went came) (balanced : IsBalanced c.aig flows went came)
    (least : border_size (move_of c held r) ≤ arrivals c held flows went) where
  downstream : IsDownstream c held flows went came (λ v. not (far_before c r v)) (λ v. not (far_after c held r v))
  downstream = record {
    left_after = λ p h left. ap not (left_after-near c held r flows went came set tallies balanced least p h left);
    left_before = λ k h left. ap not (left_before-near c held r flows went came set tallies balanced least k h left);
    gates = λ k h. heads-of (far_before c r) (far_after c held r) (first_gate c.aig + k) (nth_gate c.aig k) (nth_flow flows k) ((upstream c held r flows went came set tallies balanced least).gates k h);
  }

-- a full cut, each of whose gates off the marks is reached from a unit that is left, shows the
-- smallest least set
pub shown-smallest-law : ShownSmallestLaw
shown-smallest-law c held flows went came marks_before marks_after s valid tallies balanced cut far rising members =
    let before : ℕ → Bool = mark_at (first_latch c.aig) marks_before in
    let after : ℕ → Bool = mark_at (first_latch c.aig) marks_after in
    let set = closed c held flows went before after s valid cut rising members in
    let small = border-le c held flows went before after s valid cut rising members in
    record {
      least = record {
        closed = set;
        least = λ r closed-r. omega (arith, small, arrivals-le c held r flows went came closed-r tallies balanced);
      };
      within = λ r least v m.
          let down = downstream c held r flows went came least.closed tallies balanced (omega (arith, least.least s set, small)) in
          let off = and_parts (is_passable c.aig held v) (not (mark_at (first_latch c.aig) marks_before v)) (sym (members v) ∙ is_true (has s v) ((has_iff_contains s v).1 m)) in
          let range = gate-range c.aig held v off.0 in
          let near : not (far_before c r v) ≡ true = far (λ u. not (far_before c r u)) (λ u. not (far_after c held r u)) down v (omega (arith, range.0)) (omega (arith, range.1)) (not-true (mark_at (first_latch c.aig) marks_before v) off.1) in
          let out : not (has r v) ≡ false = sym (far-outside c r v range.0) ∙ not-true (far_before c r v) near in
          (has_iff_contains r v).0 (subst (λ (b : Bool). IsTrue b) (sym (not-false (has r v) out)) refl);
    }
  where
    not-false : (b : Bool) → not b ≡ false → b ≡ true
    not-false true e = refl
    not-false false e = absurd (true≢false e)
