use Rattle.std.proofs.Common.{[], ◌∷◌, ◌++◌, ◌∙◌, ap₂, sym}
use Rattle.std.proofs.lemmas.List.{map_more}
use Rattle.cleaned_circuits.specs.Trimmed.{new_position}
use Rattle.clean.specs.Sweep.{is_marked}
use Rattle.clean.proofs.trim.Trim.new_positions.Goals as goal

pub loop-position-preserved : goal.loop-position-preserved
loop-position-preserved c =
    c.in_ok-push.ensures.items ∙ ap₂ (λ xs x. xs ++ x ∷ []) c.loop-position.invariant c.new_position.ensures
    ∙ sym (map_more (new_position c.args.self.now.aig.now (is_marked c.args.self.now.reached.now)) c.args.positions.now _ 0 c.loop-position-test.true)
