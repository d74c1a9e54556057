use Rattle.std.proofs.Common.{◌∙◌, ◌≡◌, ◌+◌, ◌-◌, ap, sym, arith, ℕ, Some, None, true}
use Rattle.std.proofs.lemmas.Bool.{cond-true}
use Rattle.aig_graph.specs.Graph.{first_latch}
use Rattle.rebuild.proofs.BorderLaws.{new_variable-where_latched}
use Rattle.rebuild.proofs.PlanLaws.{length-by_variable, whole-by_variable}
use Rattle.rebuild.specs.Moved.{is_latched, new_variable}
use Rattle.rebuild.specs.Planned.{planned}
use Rattle.aig_graph.specs.Counting.{count_below}
use Rattle.rebuild.proofs.plan.Plan.staying_position.Goals as goal

pub is_latched-requires-clause-from : goal.is_latched-requires-clause-from
is_latched-requires-clause-from c =
    let p = c.args.self.now in
    omega (arith, p.marks.first_is)

pub is_latched-requires-clause-below : goal.is_latched-requires-clause-below
is_latched-requires-clause-below c =
    let p = c.args.self.now in
    omega (arith, p.marks.first_is, c.requires)

pub entry-requires-clause-below : goal.entry-requires-clause-below
entry-requires-clause-below c =
    let p = c.args.self.now in
    omega (arith, length-by_variable p.marks.circuit.now.aig (new_variable (planned p)) c.as_slice.result.now (c.as_slice.ensures.value ∙ p.variables_are), p.marks.first_is, c.requires)

pub overflow_sub-result : goal.overflow_sub-result
overflow_sub-result c =
    let p = c.args.self.now in
    let m = planned p in
    let first : p.marks.first ≡ first_latch m.circuit.aig = p.marks.first_is in
    let read : c.entry.result ≡ new_variable m (p.marks.first + c.args.position) =
    c.entry.ensures (new_variable m) (whole-by_variable m.circuit.aig (new_variable m) p.variables.items c.as_slice.result.now p.marks.first c.as_slice.ensures.value p.variables_are first) in
    omega (arith, new_variable-where_latched m (p.marks.first + c.args.position) (sym c.is_latched.ensures ∙ c.if-is_latched.true))

pub returns-then-is_latched : goal.returns-then-is_latched
returns-then-is_latched c =
    let p = c.args.self.now in
    let m = planned p in
    let first : p.marks.first ≡ first_latch m.circuit.aig = p.marks.first_is in
    let v : ℕ = p.marks.first + c.args.position in
    let w : ℕ = first_latch m.circuit.aig + c.args.position in
    let here : v ≡ w = ap (λ (n : ℕ). n + c.args.position) first in
    let read : c.entry.result ≡ new_variable m v =
    c.entry.ensures (new_variable m) (whole-by_variable m.circuit.aig (new_variable m) p.variables.items c.as_slice.result.now p.marks.first c.as_slice.ensures.value p.variables_are first) in
    let kept : is_latched m v ≡ true = sym c.is_latched.ensures ∙ c.if-is_latched.true in
    let rank : c.entry.result - p.marks.first ≡ count_below (is_latched m) v = omega (arith, new_variable-where_latched m v kept) in
    ap (λ (n : ℕ). Some n) (rank ∙ ap (count_below (is_latched m)) here)
    ∙ sym (cond-true (is_latched m w) (Some (count_below (is_latched m) w)) None (ap (is_latched m) (sym here) ∙ kept))
