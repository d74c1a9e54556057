use Rattle.std.proofs.Common.{ℕ, ◌≡◌, ◌-◌, ◌≤◌, List, arith, ap, refl, length, take}
use Rattle.std.proofs.lemmas.List.{length-take-le}
use Rattle.aig_graph.specs.Graph.{Graph, first_gate, latches_and_gates}
use Rattle.map_circuits.specs.Following.{Follows}
use Rattle.map_circuits.proofs.FollowingLaws.{follows-start, within-start}
use Rattle.map_circuits.proofs.GatheringLaws.{front-cut, front-read}
use Rattle.map_circuits.proofs.latch_functions.move_front.Goals as goal

pub moved_front-requires-clause-within : goal.moved_front-requires-clause-within
moved_front-requires-clause-within c =
    let g : Graph = c.args.circuit.now.aig in
    let l : ℕ = length g.latches in
    let n : ℕ = c.latches_and_gates-long.result - 0 in
    let old : List ℕ = c.args.table.now.items in
    let counted : n ≡ latches_and_gates g = omega (arith, c.latches_and_gates-long.ensures.value, ap latches_and_gates c.aig.ensures.value) in
    within-start g c.args.keep.now c.args.set.now c.requires.closed c.args.gates.now (take l old) (take n c.as_mut_slice-entries.result.now)
    (front-read old c.lengthen.new.table.items c.as_mut_slice-entries.result.now l n c.requires.many (omega (arith, counted)) c.as_mut_slice-entries.ensures.value c.in_ok-lengthen.ensures.same)
    (length-take-le l old c.requires.many) c.requires.within

pub returns-clause-moved : goal.returns-clause-moved
returns-clause-moved c =
    let g : Graph = c.args.circuit.now.aig in
    let l : ℕ = length g.latches in
    let n : ℕ = c.latches_and_gates-long.result - 0 in
    let old : List ℕ = c.args.table.now.items in
    let entries : List ℕ = c.as_mut_slice-entries.result.now in
    let counted : n ≡ latches_and_gates g = omega (arith, c.latches_and_gates-long.ensures.value, ap latches_and_gates c.aig.ensures.value) in
    let sized : length (take n entries) ≡ n = length-take-le n entries (omega (arith, c.in_ok-lengthen.ensures.long, c.as_mut_slice-entries.ensures.len)) in
    let follows : Follows c.args.gates.now (take l old) g c.args.set.now (first_gate g) c.args.gates.now (take n entries) =
    follows-start c.args.gates.now g (take l old) c.args.keep.now c.args.set.now c.aig.ensures.graph c.requires.closed (take n entries)
    (front-read old c.lengthen.new.table.items entries l n c.requires.many (omega (arith, counted)) c.as_mut_slice-entries.ensures.value c.in_ok-lengthen.ensures.same)
    (omega (arith, sized, counted)) (length-take-le l old c.requires.many) c.requires.within in
    let inside : c.in_ok-kept.kept ≤ length c.moved_front.new.table = c.in_ok-kept.ensures.few in
    let within : c.in_ok-kept.kept ≤ c.lengthen.new.table.len = omega (arith, inside, c.moved_front.auto.table, sized, c.in_ok-lengthen.ensures.long) in
    c.in_ok-kept.ensures.moved (take l old) _ follows (front-cut c.in_ok-kept.kept c.lengthen.new.table.len c.moved_front.new.table _ _ c.lengthen.new.table.items refl inside within)

pub moved_front-requires-clause-graph : goal.moved_front-requires-clause-graph
moved_front-requires-clause-graph c = c.requires.graph

pub moved_front-requires-clause-closed : goal.moved_front-requires-clause-closed
moved_front-requires-clause-closed c = c.requires.closed

pub moved_front-requires-clause-marked : goal.moved_front-requires-clause-marked
moved_front-requires-clause-marked c = c.requires.marked

pub returns-clause-extends : goal.returns-clause-extends
returns-clause-extends c = c.in_ok-kept.ensures.extends
