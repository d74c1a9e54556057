use Rattle.std.proofs.Common.{ℕ, List, ◌≡◌, ◌≤◌, ◌∙◌, ap, arith, subst, sym}
use Rattle.path_levels.specs.Levels.{levels}
use Rattle.frame_runs.specs.Found.{levels_over}
use Rattle.frame_runs.proofs.bounding.judged_after.Goals as goal

pub returns-in-Ok : goal.returns-in-Ok
returns-in-Ok c = λ d held s over after.
    let kept = c.with_after.ensures d held s over after in
    let counted : c.in-Ok.high ≡ levels_over d held c.args.found.set = c.in-Ok.ensures ∙ ap levels after.value in
    let low : levels_over d held c.args.found.set ≤ c.args.most = omega (arith, counted, c.if-high-most.true) in
    (kept, subst (λ (x : List ℕ). levels_over d held x ≤ c.args.most) (over.same ∙ sym kept.same) low)
