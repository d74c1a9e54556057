use Rattle.std.proofs.Common.{ℕ, List, ◌++◌, ◌∙◌, ap, ap₂, map}
use Rattle.aig_graph.specs.declared.graph.Latch.{Latch}
use Rattle.map_circuits.specs.Instances.{substitute}
use Rattle.witness_circuits.proofs.PropertyLaws.{nexts-below}
use Rattle.witness_circuits.proofs.building.nexts_of.Goals as goal

pub push_nexts-requires : goal.push_nexts-requires
push_nexts-requires c = nexts-below c.args.first.now _ _ c.requires.first c.latches.ensures.value c.known.ensures

pub push_nexts-requires-2 : goal.push_nexts-requires-2
push_nexts-requires-2 c = c.requires.own

pub returns : goal.returns
returns c =
    let own = map (λ (latch : Latch). substitute c.args.parts.now.witness latch.next) c.args.own.now in
    c.in_ok-push_nexts-2.ensures
    ∙ ap (λ (xs : List ℕ). xs ++ own)
    (c.in_ok-push_nexts.ensures
    ∙ ap₂ (λ (xs : List ℕ) (ls : List Latch). xs ++ map (λ latch. substitute c.args.parts.now.first latch.next) ls) c.new-nexts.ensures.items c.latches.ensures.value)
