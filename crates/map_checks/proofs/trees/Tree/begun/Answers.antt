use Rattle.std.proofs.Common.{rules, ℕ, ◌≡◌, ◌∙◌, ◌++◌, ◌∷◌, [], true, List, replicate, ap₂}
use Rattle.map_checks.proofs.CaseLaws.{tree-begun}
use Rattle.map_checks.proofs.trees.Tree.begun.Goals as goal

pub returns : goal.returns
returns c = λ n d m many.
    let one : c.push.new.self.items ≡ [] ∷ [] = c.in_ok-push.ensures.items ∙ ap₂ (λ (xs : List (List ℕ)) x. xs ++ x ∷ []) c.new-pending.ensures.items c.empty.ensures in
    let all : c.in_ok-shown.shown.items ≡ replicate c.args.count true = search rules in
    tree-begun n d m c.push.new.self.items c.in_ok-shown.shown.items c.args.count many one all
