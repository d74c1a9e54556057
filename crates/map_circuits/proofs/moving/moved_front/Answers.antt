use Rattle.std.proofs.Common.{ℕ, ◌≤◌, ◌≡◌, List, refl, arith, sym, subst, length, map}
use Rattle.aig_graph.specs.Graph.{Graph, first_gate, first_latch, variables_end}
use Rattle.aig_graph.specs.Move.{Move, move_of}
use Rattle.rebuild.specs.Moved.{is_latched}
use Rattle.aig_graph.specs.Counting.{places}
use Rattle.map_circuits.specs.Following.{Follows, entry_of}
use Rattle.map_circuits.proofs.GatheringLaws.{gathered-all}
use Rattle.map_circuits.proofs.SteppingLaws.{are-moved}
use Rattle.map_circuits.proofs.moving.moved_front.Goals as goal

pub returns-clause-moved : goal.returns-clause-moved
returns-clause-moved c = λ functions new p cut.
    let m : Move = move_of c.args.circuit.now c.args.keep.now c.args.set.now in
    let g : Graph = c.args.circuit.now.aig in
    let old : Graph = c.args.gates.now in
    let h : Graph = c.add_functions.new.self in
    let literals : List ℕ = c.add_functions.new.literals in
    let xs : List ℕ = c.gather_latched.new.entries in
    let kept : ℕ = c.gather_latched.result in
    let Before : Graph → Type 0 = λ a. Follows old functions a c.args.set.now (first_gate a) old c.args.table.now in
    let After : Graph → Type 0 = λ a. Follows old functions a c.args.set.now (variables_end a) h literals in
    let follows : After g = subst After c.aig.ensures.value (c.in_ok-add_functions.ensures.follows functions (subst Before (sym c.aig.ensures.value) p)) in
    let inside : kept ≤ length xs = omega (arith, c.gather_latched.ensures.few, c.gather_latched.ensures.long, follows.long) in
    let picked : new ≡ map (entry_of (first_latch g) literals) (places (is_latched m) (variables_end g)) =
    gathered-all (first_latch g) (is_latched m) literals (variables_end g) kept xs new c.gather_latched.ensures inside cut in
    are-moved old functions m h literals c.requires.closed follows (places (is_latched m) (variables_end g)) new refl picked
