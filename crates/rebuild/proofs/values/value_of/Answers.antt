use Rattle.std.proofs.Common.{◌∙◌, ap, arith, sym, length, ℕ}
use Rattle.aig_graph.specs.Graph.{variable}
use Rattle.aig_graph.specs.Value.{signed}
use Rattle.rebuild.proofs.NumberLaws.{from-latch}
use Rattle.rebuild.proofs.ValueLaws.{start-inside}
use Rattle.rebuild.specs.Planned.{planned}
use Rattle.rebuild.specs.Starting.{member_start}
use Rattle.aig_graph.specs.Tables.{table}
use Rattle.rebuild.proofs.values.value_of.Goals as goal

pub entry-requires-clause-from : goal.entry-requires-clause-from
entry-requires-clause-from c =
    let k = c.args.plan.now.marks in
    omega (arith, k.first_is, c.var.ensures.variable, from-latch (planned c.args.plan.now) k.passable (variable c.args.lit) c.requires.inside)

pub entry-requires-clause-below : goal.entry-requires-clause-below
entry-requires-clause-below c =
    let k = c.args.plan.now.marks in
    omega (arith, k.first_is, c.var.ensures.variable, c.requires.before)

pub returns : goal.returns
returns c =
    let k = c.args.plan.now.marks in
    let g = k.circuit.now.aig in
    let f = member_start g k.set.now in
    c.value.ensures
    ∙ ap (signed c.args.lit) (c.entry.ensures f (c.requires.so_far ∙ ap (λ (n : ℕ). table n (length c.args.values.now) f) (sym k.first_is))
    ∙ ap f c.var.ensures.variable ∙ start-inside g k.set.now (variable c.args.lit) c.requires.inside)
