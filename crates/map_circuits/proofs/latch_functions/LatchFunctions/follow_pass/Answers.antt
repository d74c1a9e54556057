use Rattle.std.proofs.Common.{ℕ, ◌≡◌, ◌∙◌, ◌+◌, ◌≤◌, Bool, List, arith, ap, sym, refl, length, map, take, take-take}
use Rattle.std.proofs.lemmas.List.{length-take-le}
use Rattle.aig_graph.specs.Graph.{first_latch}
use Rattle.aig_graph.specs.Counting.{places}
use Rattle.aig_graph.specs.Marking.{AreAllMarks}
use Rattle.aig_graph.proofs.MarkingLaws.{AreAllMarks-table}
use Rattle.aig_graph.proofs.TableLaws.{length-table}
use Rattle.map_circuits.specs.Following.{entry_of}
use Rattle.map_circuits.proofs.GatheringLaws.{gathered-all}
use Rattle.map_circuits.proofs.SteppingLaws.{are-passed}
use Rattle.map_circuits.proofs.latch_functions.LatchFunctions.follow_pass.Goals as goal

pub returns : goal.returns
returns c = λ g d reached all filled.
    let stays : List Bool = c.args.stays.now in
    let functions : List ℕ = c.args.self.now in
    let count : ℕ = c.self.inside.count in
    let start : List ℕ = take count c.self.inside.table.items in
    let items : List ℕ = c.pass_front-self-inside.new.table.items in
    let kept : ℕ = c.pass_front-self-inside.result in
    let n : ℕ = length d.latches in
    let p : ℕ → Bool = λ j. reached (first_latch d + j) in
    let marks : AreAllMarks 0 stays p = AreAllMarks-table 0 n stays p filled (λ v h. absurd (omega (arith, h))) in
    let many : length stays ≡ n = ap (λ (xs : List Bool). length xs) filled ∙ length-table 0 n p in
    let same : start ≡ functions = c.self.view_is in
    let sized : length start ≡ count = length-take-le count c.self.inside.table.items c.self.invariant in
    let ends : 0 + count ≡ n = omega (arith, many, c.requires, ap (λ (ys : List ℕ). length ys) same, sized) in
    let gathered = c.pass_front-self-inside.ensures.gathered 0 p marks in
    let few : kept ≤ count = c.pass_front-self-inside.ensures.few in
    let long : length (take count items) ≡ count = length-take-le count items (omega (arith, c.self.invariant, c.pass_front-self-inside.ensures.long)) in
    let picked : take kept items ≡ map (entry_of 0 functions) (places p n) =
    gathered-all 0 p start (0 + count) kept (take count items) (take kept items) gathered (omega (arith, few, long)) (sym (take-take kept count items few))
    ∙ ap (λ (k : ℕ). map (entry_of 0 start) (places p k)) ends ∙ ap (λ (ys : List ℕ). map (entry_of 0 ys) (places p n)) same in
    are-passed g functions d reached (sym c.requires ∙ many) (places p n) (take kept items) all refl picked
