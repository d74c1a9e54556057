use Rattle.std.proofs.Common.{ℕ, ◌<◌, ◌≡◌, ◌∙◌, ◌*◌, ◌+◌, ◌-◌, ◌++◌, Some, List, [], arith, ap, sym, subst, length, get_or, take}
use Rattle.std.proofs.Common.{set as put}
use Rattle.std.proofs.lemmas.List.{append-nil, append_assoc, length-set, length-replicate, length-take-le}
use Rattle.aig_graph.specs.declared.graph.Gate.{Gate}
use Rattle.aig_graph.specs.Graph.{Graph, IsGraph, IsGateAt, IsLiteralOf, first_latch, gate_at, variables_end}
use Rattle.aig_graph.specs.Building.{gate_of, with_gate}
use Rattle.aig_graph.specs.declared.literal.TheConstants.{MAX_VARIABLES}
use Rattle.aig_graph.proofs.KindLaws.{GatePlace, gate_place}
use Rattle.aig_graph.proofs.GraphLaws.{gate_of-at}
use Rattle.aig_binary.specs.Text.{gate_deltas}
use Rattle.map_circuits.specs.Growing.{Extends, IsConjunction}
use Rattle.map_circuits.specs.Following.{AreWithin, Follows, literal_at}
use Rattle.map_circuits.specs.Packing.{ArePacked, packed}
use Rattle.map_circuits.proofs.GrowingLaws.{conjunction-gate, extends-gate, extends-itself, extends-transitive}
use Rattle.map_circuits.proofs.FollowingLaws.{at-place, fan_ins-covered, fan_ins-within, follows-all, follows-first, follows-more, gate-read, member-at, within-first, within-more}
use Rattle.map_circuits.proofs.PackingLaws.{are-packed-more, packed-grown, packed-more}
use Rattle.map_circuits.proofs.map_gates.add_in_room.Goals as goal

pub loop-var-init : goal.loop-var-init
loop-var-init c =
    let n : ℕ = c.args.inputs in
    let old : List ℕ = c.args.deltas.now.items in
    let h : Graph = packed n old in
    let g : Graph = c.args.aig.now in
    let same : old ≡ old ++ [] = sym (append-nil old) in
    let none : c.args.count ≡ c.args.count + 0 = omega arith in
    record {
      are = subst (λ (k : ℕ). ArePacked n k (old ++ [])) none (subst (λ (xs : List ℕ). ArePacked n c.args.count xs) same c.requires.packed);
      extends = subst (λ (xs : List ℕ). Extends h (packed n xs)) same (extends-itself h c.requires.packed.graph);
      long = c.requires.long;
      within = subst (λ (xs : List ℕ). AreWithin (packed n xs) g c.args.set.now (get_or c.args.set.now 0 (variables_end g)) c.args.literals.now) same
          (within-first g c.args.keep.now c.args.set.now c.requires.closed h c.args.literals.now c.requires.within);
      follows = λ functions p. subst (λ (xs : List ℕ). Follows h functions g c.args.set.now (get_or c.args.set.now 0 (variables_end g)) (packed n xs) c.args.literals.now) same
          (follows-first h g functions c.args.keep.now c.args.set.now c.first_latch-first.ensures.graph c.requires.closed h c.args.literals.now p);
      next = omega arith;
      chunk = length-replicate {A = ℕ} 640 0;
      waiting = omega arith;
      room = omega (arith, c.requires.room);
    }

pub overflow_sub-gate : goal.overflow_sub-gate
overflow_sub-gate c =
    let g : Graph = c.args.aig.now in
    let v : ℕ = get_or c.vars-var-items.result.now c.loop-var.var-index 0 in
    let gate = c.requires.closed.closed.passable v (member-at c.args.set.now c.vars-var-items.result.now c.loop-var.var-index c.vars-var-items.ensures.value c.loop-var-test.true) in
    let place : GatePlace g v gate.0 = gate_place g v gate.0 gate.1 in
    omega (arith, place.from, c.first_gate-start.ensures.value)

pub bounds-own-var : goal.bounds-own-var
bounds-own-var c =
    let g : Graph = c.args.aig.now in
    let v : ℕ = get_or c.vars-var-items.result.now c.loop-var.var-index 0 in
    let gate = c.requires.closed.closed.passable v (member-at c.args.set.now c.vars-var-items.result.now c.loop-var.var-index c.vars-var-items.ensures.value c.loop-var-test.true) in
    let place : GatePlace g v gate.0 = gate_place g v gate.0 gate.1 in
    omega (arith, place.from, place.below, c.first_gate-start.ensures.value, ap (λ (xs : List Gate). length xs) c.gates-own.ensures.value)

pub standing-a-requires-clause-from : goal.standing-a-requires-clause-from
standing-a-requires-clause-from c =
    let g : Graph = c.args.aig.now in
    let set : List ℕ = c.args.set.now in
    let v : ℕ = get_or c.vars-var-items.result.now c.loop-var.var-index 0 in
    let member = member-at set c.vars-var-items.result.now c.loop-var.var-index c.vars-var-items.ensures.value c.loop-var-test.true in
    let gate : Gate = c.index-own-var.result in
    let there : gate_at g v ≡ Some gate = gate-read g c.args.keep.now set c.requires.closed v c.first_gate-start.result c.gates-own.result.now gate c.gates-own.ensures.value c.first_gate-start.ensures.value member c.index-own-var.is in
    (fan_ins-covered g c.args.keep.now set c.first_latch-first.ensures.graph c.requires.closed v c.first_latch-first.result gate c.loop-var.literals there c.first_latch-first.ensures.value c.loop-var.invariant.long member).0.0

pub standing-a-requires-clause-below : goal.standing-a-requires-clause-below
standing-a-requires-clause-below c =
    let g : Graph = c.args.aig.now in
    let set : List ℕ = c.args.set.now in
    let v : ℕ = get_or c.vars-var-items.result.now c.loop-var.var-index 0 in
    let member = member-at set c.vars-var-items.result.now c.loop-var.var-index c.vars-var-items.ensures.value c.loop-var-test.true in
    let gate : Gate = c.index-own-var.result in
    let there : gate_at g v ≡ Some gate = gate-read g c.args.keep.now set c.requires.closed v c.first_gate-start.result c.gates-own.result.now gate c.gates-own.ensures.value c.first_gate-start.ensures.value member c.index-own-var.is in
    (fan_ins-covered g c.args.keep.now set c.first_latch-first.ensures.graph c.requires.closed v c.first_latch-first.result gate c.loop-var.literals there c.first_latch-first.ensures.value c.loop-var.invariant.long member).0.1

pub standing-b-requires-clause-from : goal.standing-b-requires-clause-from
standing-b-requires-clause-from c =
    let g : Graph = c.args.aig.now in
    let set : List ℕ = c.args.set.now in
    let v : ℕ = get_or c.vars-var-items.result.now c.loop-var.var-index 0 in
    let member = member-at set c.vars-var-items.result.now c.loop-var.var-index c.vars-var-items.ensures.value c.loop-var-test.true in
    let gate : Gate = c.index-own-var.result in
    let there : gate_at g v ≡ Some gate = gate-read g c.args.keep.now set c.requires.closed v c.first_gate-start.result c.gates-own.result.now gate c.gates-own.ensures.value c.first_gate-start.ensures.value member c.index-own-var.is in
    (fan_ins-covered g c.args.keep.now set c.first_latch-first.ensures.graph c.requires.closed v c.first_latch-first.result gate c.loop-var.literals there c.first_latch-first.ensures.value c.loop-var.invariant.long member).1.0

pub standing-b-requires-clause-below : goal.standing-b-requires-clause-below
standing-b-requires-clause-below c =
    let g : Graph = c.args.aig.now in
    let set : List ℕ = c.args.set.now in
    let v : ℕ = get_or c.vars-var-items.result.now c.loop-var.var-index 0 in
    let member = member-at set c.vars-var-items.result.now c.loop-var.var-index c.vars-var-items.ensures.value c.loop-var-test.true in
    let gate : Gate = c.index-own-var.result in
    let there : gate_at g v ≡ Some gate = gate-read g c.args.keep.now set c.requires.closed v c.first_gate-start.result c.gates-own.result.now gate c.gates-own.ensures.value c.first_gate-start.ensures.value member c.index-own-var.is in
    (fan_ins-covered g c.args.keep.now set c.first_latch-first.ensures.graph c.requires.closed v c.first_latch-first.result gate c.loop-var.literals there c.first_latch-first.ensures.value c.loop-var.invariant.long member).1.1

pub overflow_sub-place : goal.overflow_sub-place
overflow_sub-place c =
    let g : Graph = c.args.aig.now in
    let v : ℕ = get_or c.vars-var-items.result.now c.loop-var.var-index 0 in
    let gate = c.requires.closed.closed.passable v (member-at c.args.set.now c.vars-var-items.result.now c.loop-var.var-index c.vars-var-items.ensures.value c.loop-var-test.true) in
    let place : GatePlace g v gate.0 = gate_place g v gate.0 gate.1 in
    omega (arith, place.from, c.first_latch-first.ensures.value)

pub bounds-literals-place : goal.bounds-literals-place
bounds-literals-place c =
    let g : Graph = c.args.aig.now in
    let v : ℕ = get_or c.vars-var-items.result.now c.loop-var.var-index 0 in
    let gate = c.requires.closed.closed.passable v (member-at c.args.set.now c.vars-var-items.result.now c.loop-var.var-index c.vars-var-items.ensures.value c.loop-var-test.true) in
    let place : GatePlace g v gate.0 = gate_place g v gate.0 gate.1 in
    omega (arith, place.from, place.below, c.first_latch-first.ensures.value, c.loop-var.invariant.long)

pub leave_room-at-requires-clause-within : goal.leave_room-at-requires-clause-within
leave_room-at-requires-clause-within c = omega (arith, c.loop-var.invariant.chunk, c.loop-var.invariant.waiting)

pub leave_room-at-requires-clause-room : goal.leave_room-at-requires-clause-room
leave_room-at-requires-clause-room c = omega (arith, c.loop-var.invariant.room)

pub put_gate-waiting-requires-clause-small : goal.put_gate-waiting-requires-clause-small
put_gate-waiting-requires-clause-small c =
    let same : c.vars-var-items.result.now ≡ c.args.set.now = c.vars-var-items.ensures.value in
    let fewer : c.loop-var.var-index < length c.args.set.now = subst (λ (ws : List ℕ). c.loop-var.var-index < length ws) same c.loop-var-test.true in
    omega (arith, c.requires.small, c.loop-var.invariant.next, fewer)

pub put_gate-waiting-requires-clause-gate : goal.put_gate-waiting-requires-clause-gate
put_gate-waiting-requires-clause-gate c =
    let g : Graph = c.args.aig.now in
    let set : List ℕ = c.args.set.now in
    let held : List ℕ = c.args.keep.now in
    let h : Graph = packed c.args.inputs (c.loop-var.deltas.items ++ take c.loop-var.waiting c.loop-var.chunk) in
    let v : ℕ = get_or c.vars-var-items.result.now c.loop-var.var-index 0 in
    let a : ℕ = c.standing-a.result in
    let b : ℕ = c.standing-b.result in
    let gate : Gate = c.index-own-var.result in
    let literals : List ℕ = c.loop-var.literals in
    let start : c.first_latch-first.result ≡ first_latch g = c.first_latch-first.ensures.value in
    let member = member-at set c.vars-var-items.result.now c.loop-var.var-index c.vars-var-items.ensures.value c.loop-var-test.true in
    let there : gate_at g v ≡ Some gate = gate-read g held set c.requires.closed v c.first_gate-start.result c.gates-own.result.now gate c.gates-own.ensures.value c.first_gate-start.ensures.value member c.index-own-var.is in
    let all : AreWithin h g set v literals = subst (λ (n : ℕ). AreWithin h g set n literals) (at-place set c.vars-var-items.result.now c.loop-var.var-index (variables_end g) c.vars-var-items.ensures.value c.loop-var-test.true) c.loop-var.invariant.within in
    let both_within = fan_ins-within h g held set c.first_latch-first.ensures.graph c.requires.closed v c.first_latch-first.result gate literals there start member all in
    let within_a : IsLiteralOf h a = subst (λ (l : ℕ). IsLiteralOf h l) (sym c.standing-a.ensures) both_within.0 in
    let within_b : IsLiteralOf h b = subst (λ (l : ℕ). IsLiteralOf h l) (sym c.standing-b.ensures) both_within.1 in
    let many = c.loop-var.invariant.are.many in
    subst (λ (x : Gate). IsGateAt c.loop-var.next x) (sym c.of.ensures)
    (gate_of-at c.loop-var.next a b (omega (arith, within_a, many, c.loop-var.invariant.next)) (omega (arith, within_b, many, c.loop-var.invariant.next)))

pub loop-var-preserved : goal.loop-var-preserved
loop-var-preserved c =
    let n : ℕ = c.args.inputs in
    let g : Graph = c.args.aig.now in
    let set : List ℕ = c.args.set.now in
    let held : List ℕ = c.args.keep.now in
    let k : ℕ = c.loop-var.var-index in
    let count : ℕ = c.args.count + k in
    let before : List ℕ = c.loop-var.deltas.items ++ take c.loop-var.waiting c.loop-var.chunk in
    let standing : List ℕ = c.leave_room-at.new.deltas.items in
    let at : ℕ = c.leave_room-at.result in
    let after : List ℕ = standing ++ take c.put_gate-waiting.result c.put_gate-waiting.new.bytes in
    let old : Graph = packed n c.args.deltas.now.items in
    let h : Graph = packed n before in
    let i : Graph = packed n after in
    let vars : List ℕ = c.vars-var-items.result.now in
    let v : ℕ = get_or vars k 0 in
    let literals : List ℕ = c.loop-var.literals in
    let gate : Gate = c.index-own-var.result in
    let a : ℕ = c.standing-a.result in
    let b : ℕ = c.standing-b.result in
    let lit : ℕ = c.new.result in
    let start : c.first_latch-first.result ≡ first_latch g = c.first_latch-first.ensures.value in
    let same : vars ≡ set = c.vars-var-items.ensures.value in
    let are : ArePacked n count before = c.loop-var.invariant.are in
    let valid : IsGraph h = are.graph in
    let member = member-at set vars k same c.loop-var-test.true in
    let there : gate_at g v ≡ Some gate = gate-read g held set c.requires.closed v c.first_gate-start.result c.gates-own.result.now gate c.gates-own.ensures.value c.first_gate-start.ensures.value member c.index-own-var.is in
    let all : AreWithin h g set v literals = subst (λ (n : ℕ). AreWithin h g set n literals) (at-place set c.vars-var-items.result.now c.loop-var.var-index (variables_end g) c.vars-var-items.ensures.value c.loop-var-test.true) c.loop-var.invariant.within in
    let both_within = fan_ins-within h g held set c.first_latch-first.ensures.graph c.requires.closed v c.first_latch-first.result gate literals there start member all in
    let within_a : IsLiteralOf h a = subst (λ (l : ℕ). IsLiteralOf h l) (sym c.standing-a.ensures) both_within.0 in
    let within_b : IsLiteralOf h b = subst (λ (l : ℕ). IsLiteralOf h l) (sym c.standing-b.ensures) both_within.1 in
    let here : c.loop-var.next ≡ 1 + n + count = omega (arith, c.loop-var.invariant.next) in
    let pushed : after ≡ before ++ gate_deltas (1 + n + count) (gate_of a b) =
    ap (λ (xs : List ℕ). standing ++ xs) c.put_gate-waiting.ensures.deltas
    ∙ sym (append_assoc standing (take at c.loop-var.chunk) (gate_deltas c.loop-var.next c.of.result))
    ∙ ap (λ (xs : List ℕ). xs ++ gate_deltas c.loop-var.next c.of.result) c.leave_room-at.ensures.bytes
    ∙ ap (λ (x : Gate). before ++ gate_deltas c.loop-var.next x) c.of.ensures
    ∙ ap (λ (m : ℕ). before ++ gate_deltas m (gate_of a b)) here in
    let fewer : k < length set = subst (λ (ws : List ℕ). k < length ws) same c.loop-var-test.true in
    let small : 1 + n + count < MAX_VARIABLES = omega (arith, c.requires.small, fewer) in
    let grown : i ≡ with_gate h (gate_of a b) = packed-more n count before after a b are small within_a within_b pushed in
    let graph : IsGraph (with_gate h (gate_of a b)) = packed-grown n count before after a b are small within_a within_b pushed in
    let at_end : lit ≡ 2 * variables_end h = omega (arith, c.new.ensures, c.loop-var.invariant.next, are.many) in
    let more : Extends h i = extends-gate h i a b valid grown graph in
    let both : IsConjunction i a b lit = conjunction-gate h i a b lit valid grown graph at_end in
    let Q : ℕ → ℕ → Type 0 = λ x y. IsConjunction i x y lit in
    let R : ℕ → Type 0 = λ f. Q (literal_at f literals gate.rhs0) (literal_at f literals gate.rhs1) in
    let is : R (first_latch g) = subst R start (subst (λ (y : ℕ). Q (literal_at c.first_latch-first.result literals gate.rhs0) y) c.standing-b.ensures (subst (λ (x : ℕ). Q x b) c.standing-a.ensures both)) in
    let place : ℕ = v - c.first_latch-first.result in
    let written : put literals place lit ≡ put literals (v - first_latch g) lit = ap (λ (m : ℕ). put literals (v - m) lit) start in
    let one : count + 1 ≡ c.args.count + (k + 1) = omega arith in
    record {
      are = subst (λ (m : ℕ). ArePacked n m after) one (are-packed-more n count before after a b are small within_a within_b pushed);
      extends = extends-transitive old h i c.loop-var.invariant.extends more;
      long = ap (λ (m : ℕ). first_latch g + m) (length-set literals place lit) ∙ c.loop-var.invariant.long;
      within = subst (λ (ls : List ℕ). AreWithin i g set (get_or set (k + 1) (variables_end g)) ls) (sym written)
          (within-more g held set c.requires.closed h i literals vars k lit gate same c.loop-var-test.true there c.loop-var.invariant.long more is.within c.loop-var.invariant.within);
      follows = λ functions p. follows-more old g functions held set c.first_latch-first.ensures.graph c.requires.closed h i literals (put literals place lit) vars k lit gate same c.loop-var-test.true there
          valid (c.loop-var.invariant.follows functions p) more is written;
      next = omega (arith, c.loop-var.invariant.next);
      chunk = c.put_gate-waiting.ensures.long ∙ c.loop-var.invariant.chunk;
      waiting = omega (arith, c.put_gate-waiting.ensures.few, c.leave_room-at.ensures.room, c.loop-var.invariant.chunk);
      room = omega (arith, c.loop-var.invariant.room, c.put_gate-waiting.ensures.few, c.leave_room-at.ensures.many, c.leave_room-at.ensures.capacity, fewer);
    }

pub new-requires : goal.new-requires
new-requires c =
    let same : c.vars-var-items.result.now ≡ c.args.set.now = c.vars-var-items.ensures.value in
    let fewer : c.loop-var.var-index < length c.args.set.now = subst (λ (ws : List ℕ). c.loop-var.var-index < length ws) same c.loop-var-test.true in
    omega (arith, c.requires.small, c.loop-var.invariant.next, fewer)

pub slice_bounds-append_reserved-end : goal.slice_bounds-append_reserved-end
slice_bounds-append_reserved-end c = sym (length-take-le c.loop-var.waiting c.loop-var.chunk (omega (arith, c.loop-var.invariant.chunk, c.loop-var.invariant.waiting)))

pub slice_bounds-chunk-end : goal.slice_bounds-chunk-end
slice_bounds-chunk-end c = omega (arith, c.loop-var.invariant.chunk, c.loop-var.invariant.waiting)

pub append_reserved-requires : goal.append_reserved-requires
append_reserved-requires c =
    let whole = length-take-le c.loop-var.waiting c.loop-var.chunk (omega (arith, c.loop-var.invariant.chunk, c.loop-var.invariant.waiting)) in
    omega (arith, c.loop-var.invariant.room, whole)

pub returns-clause-packed : goal.returns-clause-packed
returns-clause-packed c =
    let same : c.vars-var-items.result.now ≡ c.args.set.now = c.vars-var-items.ensures.value in
    let all : c.args.count + c.loop-var.var-index ≡ c.args.count + length c.args.set.now = omega (arith, ap (λ (xs : List ℕ). length xs) same, c.loop-var-test.false, c.loop-var.auto.var-index-end) in
    subst (λ (m : ℕ). ArePacked c.args.inputs m c.append_reserved.new.deltas.items) all
    (subst (λ (xs : List ℕ). ArePacked c.args.inputs (c.args.count + c.loop-var.var-index) xs) (sym c.append_reserved.ensures.items) c.loop-var.invariant.are)

pub returns-clause-extends : goal.returns-clause-extends
returns-clause-extends c =
    subst (λ (xs : List ℕ). Extends (packed c.args.inputs c.args.deltas.now.items) (packed c.args.inputs xs)) (sym c.append_reserved.ensures.items) c.loop-var.invariant.extends

pub returns-clause-follows : goal.returns-clause-follows
returns-clause-follows c = λ functions p.
    let n : ℕ = c.args.inputs in
    let old : Graph = packed n c.args.deltas.now.items in
    let g : Graph = c.args.aig.now in
    let set : List ℕ = c.args.set.now in
    subst (λ (xs : List ℕ). Follows old functions g set (variables_end g) (packed n xs) c.loop-var.literals) (sym c.append_reserved.ensures.items)
    (follows-all old g functions c.args.keep.now set c.first_latch-first.ensures.graph c.requires.closed (packed n (c.loop-var.deltas.items ++ take c.loop-var.waiting c.loop-var.chunk)) c.loop-var.literals c.vars-var-items.result.now c.loop-var.var-index
    c.vars-var-items.ensures.value c.loop-var-test.false (c.loop-var.invariant.follows functions p))
