-- The gates of the greatest least cut are the greatest least set.
use Rattle.std.proofs.Common.{◌≡◌, ℕ, suc, zero, ◌<◌, ◌≤◌, Bool, true, false, not, ◌&&◌, ◌||◌, cond, IsTrue, List, [], Option, arith, refl, ap, ap₂, sym, ◌∙◌, subst, inl, inr}
use Rattle.std.proofs.lemmas.Bool.{cases_lt, cases_Bool, cases_eq, true≢false}
use Rattle.frame_net.specs.Flow.{cut_value, sum_below}
use Rattle.frame_net.specs.Laws.{IsGreatestLeastCut}
use Rattle.frame_net.proofs.SumLaws.{term-le-sum_below}
use Rattle.aig_graph.specs.Counting.{count_below}
use Rattle.aig_graph.specs.Marking.{has}
use Rattle.aig_graph.proofs.PlacesLaws.{count-fail}
use Rattle.aig_graph.proofs.CountingLaws.{count-within}
use Rattle.aig_graph.specs.declared.graph.Latch.{Latch}
use Rattle.aig_graph.specs.Graph.{first_gate, variables_end, latch_at, is_known}
use Rattle.aig_graph.specs.Circuits.{Netlist}
use Rattle.aig_graph.specs.Closed.{IsClosedSet}
use Rattle.aig_graph.specs.Move.{move_of}
use Rattle.aig_graph.specs.Border.{border_size, IsLeast, IsGreatestLeast}
use Rattle.aig_graph.proofs.ClosedBorderLaws.{closed-border_size}
use Rattle.aig_graph.proofs.SetLaws.{empty-closed}
use Rattle.aig_graph.proofs.KindLaws.{latch_at-gates}
use Rattle.aig_graph.proofs.SearchLaws.{has_iff_contains}
use Rattle.frame_net.specs.FlowNet.{FlowNet, node_count, capacity_between}
use Rattle.frame_net.specs.Capacity.{has_node, latch_count}
use Rattle.frame_net.proofs.NodeLaws.{has_node-latch}
use Rattle.frame_net.specs.Cuts.{NoUnboundedLeaves, AreGatesOf, IsNetworkOf, leaving, GreatestCutIsGreatestSet}
use Rattle.frame_net.proofs.NetLaws.{cuts_are_closed-law}
use Rattle.frame_net.proofs.SetCutLaws.{at_border, closed_sets_are_cuts-law}
use Rattle.frame_net.proofs.PassableLaws.{is_true}

count-front : (p q : ℕ → Bool) (m n : ℕ) → m ≤ n → ((v : ℕ) → p v ≡ true → (v < m) × (q v ≡ true)) → count_below p n ≤ count_below q m
count-front p q m zero h only = let same : m ≡ 0 = omega arith in subst (λ (k : ℕ). count_below p 0 ≤ count_below q k) (sym same) (count-within p q 0 (λ v k e. (only v e).1))
count-front p q m (suc n) h only = elim (cases_eq m (suc n)) [
  | inl same ↦ subst (λ (k : ℕ). count_below p (suc n) ≤ count_below q k) (sym same) (count-within p q (suc n) (λ v k e. (only v e).1))
  | inr other ↦ elim (cases_Bool (p n)) [
    | inl yes' ↦ absurd (omega (arith, (only n yes').0, h, other))
    | inr no' ↦ omega (arith, count-fail p n no', count-front p q m n (omega (arith, h, other)) only)
  ]
]

-- the border of the empty set has at most the known latches
pub empty-border : (c : Netlist) (held : List ℕ) → border_size (move_of c held []) ≤ latch_count c.aig held
empty-border c held = subst (λ (n : ℕ). n ≤ latch_count c.aig held) (sym (closed-border_size c held [] (empty-closed c.aig held))) (count-front (at_border c.aig c.props held []) (has_node c.aig held) (first_gate c.aig) (variables_end c.aig) (omega arith) (λ v e.
    let known : is_known (latch_at c.aig v) ≡ true = first (is_known (latch_at c.aig v)) _ e in
    elim (cases_lt v (first_gate c.aig)) [
      | inl low ↦ (low, has_node-latch c.aig held v low ∙ known)
      | inr high ↦ absurd (true≢false (sym known ∙ ap (λ (o : Option Latch). is_known o) (latch_at-gates c.aig v high)))
    ]))
  where
    first : (a r : Bool) → ((a || false) && r) ≡ true → a ≡ true
    first true r e = refl
    first false r e = absurd (true≢false (sym e))

-- an arc that leaves adds to the cut
pub arc-counts : (n : ℕ) (capacity : ℕ → ℕ → ℕ) (side : ℕ → Bool) (x y : ℕ) → x < n → y < n → side x ≡ true → side y ≡ false → capacity x y ≤ cut_value n capacity side
arc-counts n capacity side x y h k a b =
    let here : cond (side x && not (side y)) (capacity x y) 0 ≡ capacity x y = ap₂ (λ (s t : Bool). cond (s && not t) (capacity x y) 0) a b in
    omega (
      arith,
      here,
      term-le-sum_below n y (λ w. cond (side x && not (side w)) (capacity x w) 0) k,
      term-le-sum_below n x (λ v. sum_below n (λ w. cond (side v && not (side w)) (capacity v w) 0)) h,
    )

module _ (c : Netlist) (held : List ℕ) (net : FlowNet) (side : ℕ → Bool) (s : List ℕ) (is : IsNetworkOf c held net)
    (least : IsGreatestLeastCut (node_count net) (capacity_between net) side) (gates : AreGatesOf net side s) where
  small : leaving net side ≤ latch_count c.aig held
  small =
      let t = closed_sets_are_cuts-law c held net [] is (empty-closed c.aig held) in
      omega (arith, least.least t.0 t.1.is_cut, t.1.count, empty-border c held)

  no-unbounded : NoUnboundedLeaves net side
  no-unbounded v w h k a b = omega (arith, arc-counts (node_count net) (capacity_between net) side v w h k a b, small, is.is_net.latches)

  found : IsClosedSet c.aig held s × (border_size (move_of c held s) ≤ leaving net side)
  found = cuts_are_closed-law c held net side s is least.is_cut no-unbounded gates

  is-least : IsLeast c held s
  is-least = record {
    closed = found.0;
    least = λ r set. let t = closed_sets_are_cuts-law c held net r is set in omega (arith, found.1, least.least t.0 t.1.is_cut, t.1.count);
  }

  -- the gates of the greatest least cut of the network are the greatest least set of its circuit
  pub greatest-set : IsGreatestLeast c held s
  greatest-set = record {
    least = is-least;
    holds = λ r other v member.
        let t = closed_sets_are_cuts-law c held net r is other.closed in
        let at = (t.1.gates.each v).0 (is_true (has r v) ((has_iff_contains r v).1 member)) in
        let inside = least.greatest t.0 t.1.is_cut (omega (arith, t.1.count, other.least s found.0, found.1)) at.0 at.1.0 at.1.1.0 in
        (has_iff_contains s v).0 (subst (λ (b : Bool). IsTrue b) (sym ((gates.each v).1 (at.0, (at.1.0, (inside, at.1.1.1))))) refl);
  }

-- of each circuit's network the gates of the greatest least cut are the greatest least set
pub greatest_cut_is_greatest_set-law : GreatestCutIsGreatestSet
greatest_cut_is_greatest_set-law c held net side s is least gates = greatest-set c held net side s is least gates
