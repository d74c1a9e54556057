use Rattle.std.proofs.Common.{arith, ap, ◌∙◌, ◌<◌, List, length, refl}
use Rattle.std.proofs.lemmas.Option.{slice_get_read}
use Rattle.aig_graph.specs.declared.graph.Latch.{Latch}
use Rattle.aig_graph.specs.Graph.{Graph}
use Rattle.aig_graph.specs.Building.{with_next}
use Rattle.aig_graph.proofs.GraphLaws.{IsGraph-with_next, next_at-slice_set}
use Rattle.aig_graph.proofs.build.AigBuilder.set_latch.Goals as goal

pub invariant_of-self : goal.invariant_of-self
invariant_of-self c =
    let before : c.args.k < length c.self.inside.latches.items = omega (arith, ap (λ (g : Graph). length g.latches) c.self.view_is) in
    rw (next_at-slice_set _ _ c.args.next _ (slice_get_read _ _ _ _ refl before c.index_mut.ensures.value))
    (IsGraph-with_next _ _ c.args.k c.args.next c.self.view_is c.self.invariant c.requires.next)

pub returns : goal.returns
returns c =
    let before : c.args.k < length c.self.inside.latches.items = omega (arith, ap (λ (g : Graph). length g.latches) c.self.view_is) in
    let latches : List Latch → Graph = λ ls. record { inputs = c.self.inside.inputs; latches = ls; gates = c.self.inside.gates.items } in
    ap latches (next_at-slice_set _ _ c.args.next _ (slice_get_read _ _ _ _ refl before c.index_mut.ensures.value))
    ∙ ap (λ (g : Graph). with_next g c.args.k c.args.next) c.self.view_is
