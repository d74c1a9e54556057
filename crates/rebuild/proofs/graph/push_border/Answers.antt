use Rattle.std.proofs.Common.{◌∙◌, ◌≡◌, ap, sym, arith, refl, length, List, Vec, Global, get_or, ℕ}
use Rattle.std.proofs.lemmas.List.{append-nil}
use Rattle.aig_graph.specs.Graph.{first_gate}
use Rattle.aig_graph.specs.Value.{reset_to}
use Rattle.aig_graph.specs.declared.graph.Latch.{Latch}
use Rattle.rebuild.proofs.MemberLaws.{border-all, border-more, border-skip, member-at, member-place}
use Rattle.rebuild.proofs.PlanLaws.{length-by_variable, whole-by_variable}
use Rattle.rebuild.proofs.ValueLaws.{start-member}
use Rattle.rebuild.specs.Moved.{latches_below}
use Rattle.rebuild.specs.Planned.{planned}
use Rattle.rebuild.specs.Starting.{member_start, start_value}
use Rattle.aig_graph.specs.Tables.{table}
use Rattle.rebuild.proofs.graph.push_border.Goals as goal
use Rattle.rebuild.proofs.graph.push_border.Goals.{then-is_latched+in_ok-push, else-is_latched}

pub loop-var-init : goal.loop-var-init
loop-var-init c = c.requires.staying ∙ sym (append-nil (latches_below (planned c.args.plan.now) (first_gate c.args.plan.now.marks.circuit.now.aig)))

pub is_latched-requires-clause-from : goal.is_latched-requires-clause-from
is_latched-requires-clause-from c =
    let k = c.args.plan.now.marks in
    let place = member-place (planned c.args.plan.now) k.passable (get_or c.vars-var-items.result.now c.loop-var.var-index 0) (member-at k.set.now c.vars-var-items.result.now c.loop-var.var-index c.vars-var-items.ensures.value c.loop-var-test.true) in
    omega (arith, place.0)

pub is_latched-requires-clause-below : goal.is_latched-requires-clause-below
is_latched-requires-clause-below c =
    let k = c.args.plan.now.marks in
    (member-place (planned c.args.plan.now) k.passable (get_or c.vars-var-items.result.now c.loop-var.var-index 0) (member-at k.set.now c.vars-var-items.result.now c.loop-var.var-index c.vars-var-items.ensures.value c.loop-var-test.true)).1

pub entry-value-requires-clause-from : goal.entry-value-requires-clause-from
entry-value-requires-clause-from c =
    let k = c.args.plan.now.marks in
    let place = member-place (planned c.args.plan.now) k.passable (get_or c.vars-var-items.result.now c.loop-var.var-index 0) (member-at k.set.now c.vars-var-items.result.now c.loop-var.var-index c.vars-var-items.ensures.value c.loop-var-test.true) in
    omega (arith, place.0, k.first_is)

pub entry-value-requires-clause-below : goal.entry-value-requires-clause-below
entry-value-requires-clause-below c =
    let k = c.args.plan.now.marks in
    let place = member-place (planned c.args.plan.now) k.passable (get_or c.vars-var-items.result.now c.loop-var.var-index 0) (member-at k.set.now c.vars-var-items.result.now c.loop-var.var-index c.vars-var-items.ensures.value c.loop-var-test.true) in
    omega (arith, place.1, k.first_is, length-by_variable k.circuit.now.aig (member_start k.circuit.now.aig k.set.now) c.args.values.now c.requires.values)

pub border_latch-requires-clause-from : goal.border_latch-requires-clause-from
border_latch-requires-clause-from c =
    let k = c.args.plan.now.marks in
    let place = member-place (planned c.args.plan.now) k.passable (get_or c.vars-var-items.result.now c.loop-var.var-index 0) (member-at k.set.now c.vars-var-items.result.now c.loop-var.var-index c.vars-var-items.ensures.value c.loop-var-test.true) in
    omega (arith, place.0)

pub border_latch-requires-clause-within : goal.border_latch-requires-clause-within
border_latch-requires-clause-within c =
    let k = c.args.plan.now.marks in
    (member-place (planned c.args.plan.now) k.passable (get_or c.vars-var-items.result.now c.loop-var.var-index 0) (member-at k.set.now c.vars-var-items.result.now c.loop-var.var-index c.vars-var-items.ensures.value c.loop-var-test.true)).1

pub border_latch-requires-clause-member : goal.border_latch-requires-clause-member
border_latch-requires-clause-member c = member-at c.args.plan.now.marks.set.now c.vars-var-items.result.now c.loop-var.var-index c.vars-var-items.ensures.value c.loop-var-test.true

pub loop-var-preserved : goal.loop-var-preserved
loop-var-preserved c =
    let k = c.args.plan.now.marks in
    let m = planned c.args.plan.now in
    let base : List Latch = latches_below m (first_gate m.circuit.aig) in
    let same : c.vars-var-items.result.now ≡ m.set = c.vars-var-items.ensures.value in
    let v : ℕ = get_or c.vars-var-items.result.now c.loop-var.var-index 0 in
    let f = member_start m.circuit.aig m.set in
    let whole : c.args.values.now ≡ table k.first (length c.args.values.now) f = whole-by_variable m.circuit.aig f c.args.values.now c.args.values.now k.first refl c.requires.values k.first_is in
    let value : f v ≡ start_value m.circuit.aig (get_or m.set c.loop-var.var-index 0) =
    start-member m.circuit.aig m.set v (member-at m.set c.vars-var-items.result.now c.loop-var.var-index same c.loop-var-test.true)
    ∙ ap (λ (ws : List ℕ). start_value m.circuit.aig (get_or ws c.loop-var.var-index 0)) same in
    elim c.if-is_latched.branch [
      | then-is_latched+in_ok-push w ↦ border-more m k.passable base c.vars-var-items.result.now c.loop-var.var-index w.from.result c.loop-var.latches.items c.if-is_latched.latches.items w.border_latch.result
          same c.loop-var-test.true (sym c.is_latched.ensures ∙ w.if-is_latched.true) (w.from.ensures ∙ ap reset_to (w.entry-value.ensures f whole ∙ value)) c.loop-var.invariant
          (ap (λ (v : Vec Latch Global). v.items) w.latches-is ∙ w.in_ok-push.ensures.items) w.border_latch.ensures
      | else-is_latched w ↦ ap (λ (v : Vec Latch Global). v.items) w.latches-is
          ∙ border-skip m k.passable base c.vars-var-items.result.now c.loop-var.var-index c.loop-var.latches.items same c.loop-var-test.true (sym c.is_latched.ensures ∙ w.if-is_latched.false) c.loop-var.invariant
    ]

pub returns : goal.returns
returns c =
    let k = c.args.plan.now.marks in
    border-all (planned c.args.plan.now) k.passable c.vars-var-items.result.now c.loop-var.var-index c.loop-var.latches.items c.vars-var-items.ensures.value c.vars-var-items.ensures.rising (omega (arith, c.loop-var-test.false)) c.loop-var.invariant
