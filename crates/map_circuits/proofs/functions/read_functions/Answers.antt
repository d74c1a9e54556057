use Rattle.map_circuits.specs.Steps.{read_functions}
use Rattle.std.proofs.lemmas.List.{take_all}
use Rattle.std.proofs.Common.{ℕ, List, get_or, sym, subst, ◌∙◌, ap}
use Rattle.aig_graph.specs.Graph.{Graph, first_latch}
use Rattle.map_circuits.specs.Constraining.{IsSubstitute}
use Rattle.map_circuits.proofs.ReadsSubstituteLaws.{all-substitutes}
use Rattle.map_circuits.proofs.functions.read_functions.Goals as goal

pub read_function-requires : goal.read_function-requires
read_function-requires c =
    let d : Graph = c.args.aig.now in
    let functions : List ℕ = c.args.functions.now in
    let lit : ℕ = c.lit-item.result in
    let here : IsSubstitute (first_latch d) functions (get_or c.args.reads.now c.loop-lit.lit-index lit) =
    all-substitutes d c.requires.reading.0 c.args.reads.now functions c.requires.reading.1 c.requires.many c.loop-lit.lit-index lit c.loop-lit-test.true in
    subst (λ (n : ℕ). IsSubstitute n functions lit) (sym c.first_latch-first.ensures.value) (subst (λ (l : ℕ). IsSubstitute (first_latch d) functions l) (sym c.lit-item.is) here)

pub returns : goal.returns
returns c =
    c.loop-lit.invariant ∙ ap (λ (ls : List ℕ). read_functions c.first_latch-first.result c.args.functions.now ls) (take_all _ _ c.loop-lit-test.false)
    ∙ ap (λ (n : ℕ). read_functions n c.args.functions.now c.args.reads.now) c.first_latch-first.ensures.value
