use Rattle.std.proofs.Common.{arith, ap, List, ℕ, length}
use Rattle.frame_net.proofs.NodeLaws.{latches-among}
use Rattle.frame_net.proofs.LayoutLaws.{latches-bound, variables-bound}
use Rattle.frame_net.proofs.layout.Layout.nodes.Goals as goal

pub overflow_cast-variables : goal.overflow_cast-variables
overflow_cast-variables c =
    let k = c.args.self.now in
    omega (arith, c.len-variables.ensures, ap (λ (xs : List ℕ). length xs) k.variables_are, variables-bound k.aig.now k.keep.now, k.graph.small)

pub overflow_add-result : goal.overflow_add-result
overflow_add-result c =
    let k = c.args.self.now in
    omega (arith, k.latches_are, latches-bound k.aig.now k.keep.now, k.graph.small)

pub overflow_sub-result : goal.overflow_sub-result
overflow_sub-result c =
    let k = c.args.self.now in
    omega (arith, c.len-variables.ensures, ap (λ (xs : List ℕ). length xs) k.variables_are, k.latches_are, latches-among k.aig.now k.keep.now)

pub overflow_mul-result : goal.overflow_mul-result
overflow_mul-result c =
    let k = c.args.self.now in
    omega (arith, c.len-variables.ensures, ap (λ (xs : List ℕ). length xs) k.variables_are, variables-bound k.aig.now k.keep.now, k.graph.small)

pub overflow_add-result-2 : goal.overflow_add-result-2
overflow_add-result-2 c =
    let k = c.args.self.now in
    omega (arith, c.len-variables.ensures, ap (λ (xs : List ℕ). length xs) k.variables_are, variables-bound k.aig.now k.keep.now, k.latches_are, latches-bound k.aig.now k.keep.now, k.graph.small)
