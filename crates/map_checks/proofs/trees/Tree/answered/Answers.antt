use Rattle.std.proofs.Common.{rules, ℕ, ◌≡◌, ◌++◌, ◌∷◌, [], true, List, replicate, ap}
use Rattle.map_checks.proofs.CaseLaws.{tree-begun}
use Rattle.map_checks.proofs.trees.Tree.answered.Goals as goal

pub returns : goal.returns
returns c = λ n d m many valid shown.
    let one : c.new.result.items ++ [] ∷ [] ≡ [] ∷ [] = ap (λ (xs : List (List ℕ)). xs ++ [] ∷ []) c.new.ensures.items in
    let all : c.in_ok-vec.field-0.items ≡ replicate c.args.count true = search rules in
    c.in_ok-answer.ensures n d m valid shown (tree-begun n d m (c.new.result.items ++ [] ∷ []) c.in_ok-vec.field-0.items c.args.count many one all)
