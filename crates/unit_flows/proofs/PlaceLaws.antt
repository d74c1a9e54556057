-- What the judge has seen of the first places: that each holds, how many units arrive there, and
-- how many variables cross.
use Rattle.std.proofs.Common.{◌≡◌, ℕ, ◌+◌, ◌-◌, ◌<◌, ◌≤◌, ◌==◌, nat_le, nat_lt, ◌&&◌, ◌||◌, not, Bool, true, false, cond, List, length, slice_index, get_or, Some, arith, refl, ap, sym, ◌∙◌}
use Rattle.std.proofs.lemmas.Bool.{and_parts, leb-true, lt-ltb, le-ltb, and_left}
use Rattle.std.proofs.lemmas.Option.{slice_get_read}
use Rattle.frame_net.specs.Flow.{sum_below}
use Rattle.aig_graph.specs.Tables.{table}
use Rattle.aig_graph.specs.Marking.{mark_at}
use Rattle.aig_graph.specs.declared.graph.Latch.{Latch}
use Rattle.aig_graph.specs.Graph.{first_latch, first_gate, latches_and_gates, latch_at, is_free, is_known}
use Rattle.aig_graph.specs.Circuits.{Netlist}
use Rattle.aig_graph.proofs.KindLaws.{latch_at-first_latch, latch_at-gates}
use Rattle.frame_net.specs.Passable.{is_passable}
use Rattle.frame_net.specs.Capacity.{is_observed}
use Rattle.frame_net.proofs.PassableLaws.{passable-before}
use Rattle.unit_flows.specs.declared.gate_flow.GateFlow.{GateFlow}
use Rattle.unit_flows.specs.Units.{unit, nth_flow, comes_after, arrives}
use Rattle.unit_flows.specs.Shown.{is_off, crosses}
use Rattle.unit_flows.specs.Passes.{PlaceHolds}
use Rattle.unit_flows.proofs.FrameLaws.{sum-more, mark-at-place, or-not, leaving-at}
use Rattle.unit_flows.proofs.OffLaws.{all-more}

-- the test that the judge makes at a place
abbrev pub place_test : Bool → ℕ → Bool → Bool → Bool
place_test comes went leaves reached = nat_le went (unit comes) && (not leaves || reached)

-- a unit that is left after a place and leaves there
abbrev pub arrives_by : Bool → ℕ → Bool → Bool
arrives_by comes went leaves = leaves && comes && (went == 0)

-- Of the first n places each holds if all tests did. The numbers are those of units that arrive and
-- of variables that cross.
pub record AreSeen (c : Netlist) (held : List ℕ) (flows : List GateFlow) (went : List ℕ) (before after : ℕ → Bool) (n arrived crossed : ℕ) (holds : Bool) : Type 0 where
  -- as many units as places at most
  pub few_arrived : arrived ≤ n
  -- and as many variables
  pub few_crossed : crossed ≤ n
  -- the units that arrive at these places
  pub arrived_is : arrived ≡ sum_below n (λ p. unit (arrives c held flows went p))
  -- the variables that cross there
  pub crossed_is : crossed ≡ sum_below n (λ p. unit (crosses c held before after (first_latch c.aig + p)))
  -- if all tests held
  pub each : holds ≡ true → (p : ℕ) → p < n → PlaceHolds c held flows went after p

-- nothing is seen of no places
pub seen-none : (c : Netlist) (held : List ℕ) (flows : List GateFlow) (went : List ℕ) (before after : ℕ → Bool) → AreSeen c held flows went before after 0 0 0 true
seen-none c held flows went before after = record {
  few_arrived = omega arith;
  few_crossed = omega arith;
  arrived_is = refl;
  crossed_is = refl;
  each = λ t p h. absurd (omega (arith, h));
}

-- What is read at a place: whether a unit comes after the variable there, and the number that go
-- on. Also whether it leaves and is marked, and whether it crosses.
pub record IsPlace (c : Netlist) (held : List ℕ) (flows : List GateFlow) (went : List ℕ) (before after : ℕ → Bool) (p : ℕ) (comes : Bool) (goes : ℕ) (leaves reached crossing : Bool) : Type 0 where
  -- whether a unit comes after the variable
  pub comes_is : comes ≡ comes_after c.aig flows p
  -- how many go on from there
  pub goes_is : goes ≡ slice_index went p
  -- whether it leaves
  pub leaves_is : leaves ≡ is_observed c.aig c.props held (first_latch c.aig + p)
  -- whether it is marked after
  pub reached_is : reached ≡ after (first_latch c.aig + p)
  -- whether it crosses
  pub crossing_is : crossing ≡ crosses c held before after (first_latch c.aig + p)

-- a test counts as one at most
unit-small : (b : Bool) → unit b ≤ 1
unfolding unit
unit-small true = omega arith
unit-small false = omega arith

-- one place more
pub seen-more : (c : Netlist) (held : List ℕ) (flows : List GateFlow) (went : List ℕ) (before after : ℕ → Bool) (n arrived crossed : ℕ) (holds : Bool) (comes : Bool) (goes : ℕ) (leaves reached crossing : Bool) (arrived' crossed' : ℕ) (holds' : Bool)
    → AreSeen c held flows went before after n arrived crossed holds → IsPlace c held flows went before after n comes goes leaves reached crossing
    → holds' ≡ (holds && place_test comes goes leaves reached) → arrived' ≡ arrived + unit (arrives_by comes goes leaves) → crossed' ≡ crossed + unit crossing
    → AreSeen c held flows went before after (n + 1) arrived' crossed' holds'
seen-more c held flows went before after n arrived crossed holds comes goes leaves reached crossing arrived' crossed' holds' seen place tested counted counted' = record {
  few_arrived = omega (arith, seen.few_arrived, counted, unit-small (arrives_by comes goes leaves));
  few_crossed = omega (arith, seen.few_crossed, counted', unit-small crossing);
  arrived_is = counted ∙ sum-more _ _ _ _ seen.arrived_is (ap unit (rw (place.comes_is, place.goes_is, place.leaves_is) refl));
  crossed_is = counted' ∙ sum-more _ _ _ _ seen.crossed_is (ap unit place.crossing_is);
  each = λ t. let parts = and_parts holds (place_test comes goes leaves reached) (sym tested ∙ t) in
      all-more _ _ (seen.each parts.0) (here parts.1);
}
  where
    here : place_test comes goes leaves reached ≡ true → PlaceHolds c held flows went after n
    here t =
        let parts = and_parts (nat_le goes (unit comes)) (not leaves || reached) t in
        record {
          balanced = omega (arith, leb-true _ _ parts.0, place.goes_is, ap unit place.comes_is);
          marked = λ l. sym place.reached_is ∙ or-not leaves reached parts.1 (place.leaves_is ∙ l);
        }

-- a latch's place
pub latch-place : (c : Netlist) (held : List ℕ) (flows : List GateFlow) (went : List ℕ) (xs ys : List Bool) (latches : List Latch) (p : ℕ) (latch : Latch) (known leaves reached crossing : Bool) (leaving : List Bool)
    → latches ≡ c.aig.latches → p < length latches → latch ≡ get_or latches p latch → known ≡ not (is_free latch)
    → leaving ≡ table (first_latch c.aig) (latches_and_gates c.aig) (is_observed c.aig c.props held) → leaves ≡ get_or leaving p false
    → reached ≡ get_or ys p false → crossing ≡ (known && reached)
    → IsPlace c held flows went (mark_at (first_latch c.aig) xs) (mark_at (first_latch c.aig) ys) p known (slice_index went p) leaves reached crossing
latch-place c held flows went xs ys latches p latch known leaves reached crossing leaving same h read is filled read' marked crossing' =
    let long : length latches ≡ length c.aig.latches = ap length same in
    let at : latch_at c.aig (first_latch c.aig + p) ≡ Some latch = latch_at-first_latch c.aig p ∙ slice_get_read c.aig.latches (length latches) p latch long h (read ∙ ap (λ (zs : List Latch). get_or zs p latch) same) in
    let known_is : known ≡ is_known (latch_at c.aig (first_latch c.aig + p)) = is ∙ sym (ap is_known at) in
    let low : nat_lt p (length c.aig.latches) ≡ true = lt-ltb p (length c.aig.latches) (omega (arith, h, long)) in
    let reached_is : reached ≡ mark_at (first_latch c.aig) ys (first_latch c.aig + p) = marked ∙ sym (mark-at-place (first_latch c.aig) ys p) in
    let none : is_off c held (mark_at (first_latch c.aig) xs) (first_latch c.aig + p) ≡ false = and_left _ _ (passable-before c.aig held (first_latch c.aig + p) (omega (arith, h, long))) in
    record {
      comes_is = known_is ∙ sym (cond-at (nat_lt p (length c.aig.latches)) (is_known (latch_at c.aig (first_latch c.aig + p))) ((nth_flow flows (p - length c.aig.latches)).through) low);
      goes_is = refl;
      leaves_is = read' ∙ leaving-at c held leaving p filled (omega (arith, h, long));
      reached_is = reached_is;
      crossing_is = crossing' ∙ crossing-same known _ _ reached _ known_is none reached_is;
    }
  where
    cond-at : (t a b : Bool) → t ≡ true → cond t a b ≡ a
    cond-at true a b e = refl
    cond-at false a b e = absurd (cc)

    crossing-same : (k k' o r r' : Bool) → k ≡ k' → o ≡ false → r ≡ r' → (k && r) ≡ ((k' || o) && r')
    crossing-same true k' o r r' e f g = rw (← e, ← g) refl
    crossing-same false k' o r r' e f g = rw (← e, f) refl

-- a gate's place
pub gate-place : (c : Netlist) (held : List ℕ) (flows : List GateFlow) (went : List ℕ) (xs ys : List Bool) (k n : ℕ) (flow : GateFlow) (passes leaves marked reached crossing : Bool) (leaving : List Bool)
    → n ≡ length c.aig.latches → k < length c.aig.gates → flow ≡ nth_flow flows k
    → passes ≡ is_passable c.aig held (first_gate c.aig + k)
    → leaving ≡ table (first_latch c.aig) (latches_and_gates c.aig) (is_observed c.aig c.props held) → leaves ≡ get_or leaving (n + k) false
    → marked ≡ get_or xs (n + k) false → reached ≡ get_or ys (n + k) false → crossing ≡ ((passes && not marked) && reached)
    → IsPlace c held flows went (mark_at (first_latch c.aig) xs) (mark_at (first_latch c.aig) ys) (n + k) flow.through (slice_index went (n + k)) leaves reached crossing
gate-place c held flows went xs ys k n flow passes leaves marked reached crossing leaving long h flow-is pass filled read' marked' reached' crossing' =
    let var : first_latch c.aig + (n + k) ≡ first_gate c.aig + k = omega (arith, long) in
    let high : nat_lt (n + k) (length c.aig.latches) ≡ false = le-ltb (n + k) (length c.aig.latches) (omega (arith, long)) in
    let back : n + k - length c.aig.latches ≡ k = omega (arith, long) in
    let reached_is : reached ≡ mark_at (first_latch c.aig) ys (first_latch c.aig + (n + k)) = reached' ∙ sym (mark-at-place (first_latch c.aig) ys (n + k)) in
    let marked_is : marked ≡ mark_at (first_latch c.aig) xs (first_latch c.aig + (n + k)) = marked' ∙ sym (mark-at-place (first_latch c.aig) xs (n + k)) in
    let pass_is : passes ≡ is_passable c.aig held (first_latch c.aig + (n + k)) = pass ∙ ap (λ (v : ℕ). is_passable c.aig held v) (sym var) in
    let unknown : is_known (latch_at c.aig (first_latch c.aig + (n + k))) ≡ false = ap is_known (latch_at-gates c.aig (first_latch c.aig + (n + k)) (omega (arith, var))) in
    record {
      comes_is = ap (λ (f : GateFlow). f.through) (flow-is ∙ ap (λ (i : ℕ). nth_flow flows i) (sym back)) ∙ sym (cond-past (nat_lt (n + k) (length c.aig.latches)) (is_known (latch_at c.aig (first_latch c.aig + (n + k)))) ((nth_flow flows (n + k - length c.aig.latches)).through) high);
      goes_is = refl;
      leaves_is = read' ∙ leaving-at c held leaving (n + k) filled (omega (arith, h, long));
      reached_is = reached_is;
      crossing_is = crossing' ∙ crossing-same passes _ marked _ reached _ _ pass_is marked_is reached_is unknown;
    }
  where
    cond-past : (t a b : Bool) → t ≡ false → cond t a b ≡ b
    cond-past true a b e = absurd (cc)
    cond-past false a b e = refl

    crossing-same : (p p' m m' r r' k : Bool) → p ≡ p' → m ≡ m' → r ≡ r' → k ≡ false → ((p && not m) && r) ≡ ((k || (p' && not m')) && r')
    crossing-same p p' m m' r r' k e f g i = rw (← e, ← f, ← g, i) refl
