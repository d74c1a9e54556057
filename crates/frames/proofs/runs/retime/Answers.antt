use Rattle.std.proofs.Common.{ℕ, Err, List, ap, refl, sym, subst}
use Rattle.retimed_circuits.specs.RetimingLevels.{KeepsLevels}
use Rattle.frame_runs.specs.Bounds.{bound_in}
use Rattle.frame_runs.specs.Named.{IsFirstNoLatchBy}
use Rattle.frame_runs.specs.declared.errors.RetimeError.{RetimeError}
use Rattle.frame_runs.proofs.HoldLaws.{at-latch}
use Rattle.merging_rounds.specs.Following.{AreRoundsOf}
use Rattle.merging_rounds.specs.declared.rounds.Rounds.{Rounds}
use Rattle.frames.proofs.runs.retime.Goals as goal

pub returns-in-Ok-clause-retimed : goal.returns-in-Ok-clause-retimed
returns-in-Ok-clause-retimed g c =
    let P : Rounds → Type 0 = λ r. (now : List ℕ) × AreRoundsOf c.args.options.now c.args.circuit.now r now in
    subst P (sym c.rounds_of.ensures) (c.in-Ok.run'.keep, c.in-Ok.ensures.retimed.rounds)

pub returns-in-Ok-clause-levels : goal.returns-in-Ok-clause-levels
returns-in-Ok-clause-levels g c =
    let before = c.args.circuit.now in
    subst (λ (r : Rounds). KeepsLevels (bound_in c.args.options.now before) before r.circuit) (sym c.rounds_of.ensures) c.in-Ok.ensures.retimed.levels

pub returns-in-Err-clause-no_latch : goal.returns-in-Err-clause-no_latch
returns-in-Err-clause-no_latch g c =
    at-latch {T = Rounds} (Err c.in-Err.error) c.in-Err.error (IsFirstNoLatchBy c.args.options.now c.args.circuit.now) refl
    (λ place is. c.in-Err.ensures.no_latch place (ap (λ (x : RetimeError). Err x) is))
