use Rattle.std.proofs.Common.{◌∙◌, ◌≡◌, ◌*◌, ap, sym, arith, refl, ℕ}
use Rattle.aig_graph.specs.Value.{signed_as}
use Rattle.rebuild.proofs.PlanLaws.{length-by_variable, literal-leaf, variable-small, whole-by_variable}
use Rattle.rebuild.specs.Moved.{new_variable}
use Rattle.rebuild.specs.Planned.{marked}
use Rattle.rebuild.proofs.numbers.renamed.Goals as goal

pub returns-then-var-first : goal.returns-then-var-first
returns-then-var-first c =
    let k = c.args.marks.now in
    sym (literal-leaf (marked k) k.passable c.args.lit (omega (arith, c.if-var-first.true, c.var.ensures.variable, k.first_is)))

pub entry-var-requires-clause-below : goal.entry-var-requires-clause-below
entry-var-requires-clause-below c =
    let k = c.args.marks.now in
    omega (arith, length-by_variable k.circuit.now.aig (new_variable (marked k)) c.args.variables.now c.requires.table, k.first_is, c.var-2.ensures.variable, c.requires.known)

pub new-requires : goal.new-requires
new-requires c =
    let k = c.args.marks.now in
    let read : c.entry-var.result ≡ new_variable (marked k) c.var-2.result =
    c.entry-var.ensures (new_variable (marked k)) (whole-by_variable k.circuit.now.aig (new_variable (marked k)) c.args.variables.now c.args.variables.now k.first refl c.requires.table k.first_is) in
    omega (arith, variable-small (marked k) c.requires.room k.graph.small c.var-2.result (omega (arith, c.var-2.ensures.variable, c.requires.known)))

pub returns : goal.returns
returns c =
    let k = c.args.marks.now in
    let read : c.entry-var.result ≡ new_variable (marked k) c.var-2.result =
    c.entry-var.ensures (new_variable (marked k)) (whole-by_variable k.circuit.now.aig (new_variable (marked k)) c.args.variables.now c.args.variables.now k.first refl c.requires.table k.first_is) in
    let base : c.new.result ≡ 2 * c.entry-var.result = omega (arith, c.new.ensures) in
    c.signed_as.ensures ∙ ap (signed_as c.args.lit) (base ∙ ap (λ (v : ℕ). 2 * v) (read ∙ ap (new_variable (marked k)) c.var-2.ensures.variable))
