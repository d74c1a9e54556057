use Rattle.std.proofs.Common.{ℕ, ◌≡◌, ◌<◌, ◌∙◌, List, arith, ap, subst, length, get_or, sym}
use Rattle.aig_graph.specs.Graph.{Graph}
use Rattle.map_circuits.specs.Constraining.{AddsEquality, substitute_function, IsSubstitute}
use Rattle.map_circuits.proofs.ConstrainingLaws.{read-entry, substitute-within, substitutes-more}
use Rattle.map_circuits.proofs.constraining.add_constraints.Goals as goal

pub loop-place-preserved : goal.loop-place-preserved
loop-place-preserved c =
    let g : Graph = c.args.gates.now in
    let h : Graph = c.loop-place.gates in
    let i : Graph = c.add_constraint.new.gates in
    let first : ℕ = c.args.first in
    let functions : List ℕ = c.args.functions.now in
    let substitutes : List ℕ = c.args.substitutes.now in
    let old : List ℕ = c.loop-place.constraints.items in
    let new : List ℕ = c.add_constraint.new.constraints.items in
    let k : ℕ = c.loop-place.place in
    let within : k < length substitutes = c.loop-place-test.true in
    let below : k < length functions = omega (arith, within, c.requires.long) in
    let substitute : c.index-substitutes-place.result ≡ get_or substitutes k 0 = read-entry substitutes k c.index-substitutes-place.result within c.index-substitutes-place.is in
    let a : c.index-functions-place.result ≡ get_or functions k 0 = read-entry functions k c.index-functions-place.result below c.index-functions-place.is in
    let b : c.function_of-function.result ≡ substitute_function first functions (get_or substitutes k 0) = c.function_of-function.ensures ∙ ap (substitute_function first functions) substitute in
    let P : ℕ → ℕ → Type 0 = λ x y. AddsEquality h i old new x y in
    let adds : P (get_or functions k 0) (substitute_function first functions (get_or substitutes k 0)) =
    subst (λ (y : ℕ). P (get_or functions k 0) y) b (subst (λ (x : ℕ). P x c.function_of-function.result) a c.in_ok-add_constraint.ensures) in
    substitutes-more g first functions substitutes c.args.constraints.now.items h i old new k (c.requires.functions k 0 below)
    (substitute-within g first functions (get_or substitutes k 0) c.requires.graph c.requires.functions (c.requires.substitutes k 0 within)) c.loop-place.invariant adds

pub function_of-function-requires : goal.function_of-function-requires
function_of-function-requires c =
    subst (λ (l : ℕ). IsSubstitute c.args.first c.args.functions.now l) (sym c.index-substitutes-place.is) (c.requires.substitutes c.loop-place.place c.index-substitutes-place.result c.loop-place-test.true)
