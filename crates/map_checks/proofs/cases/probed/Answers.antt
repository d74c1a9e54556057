use Rattle.std.proofs.Common.{ℕ, ◌∙◌, List, get_or, ap, sym}
use Rattle.map_checks.proofs.cases.probed.Goals as goal

pub returns-in_default-clause-equal : goal.returns-in_default-clause-equal
returns-in_default-clause-equal c = λ place marked values respects right.
    ap (λ (lits : List ℕ). values (get_or lits place 0)) (sym c.as_slice-lits.ensures.value)
    ∙ c.in_ok-marks.ensures.equal place marked values respects right
    ∙ ap (λ (lits : List ℕ). values (get_or lits place 0)) c.as_slice-others.ensures.value

pub returns-clause-equal : goal.returns-clause-equal
returns-clause-equal c = λ place marked values respects right.
    ap (λ (lits : List ℕ). values (get_or lits place 0)) (sym c.as_slice-lits.ensures.value)
    ∙ c.in_ok-marks.ensures.equal place marked values respects right
    ∙ ap (λ (lits : List ℕ). values (get_or lits place 0)) c.as_slice-others.ensures.value

pub returns-clause-asked : goal.returns-clause-asked
returns-clause-asked c = (
  c.in_ok-asked.ensures.long,
  λ place marked values respects right.
      c.in_ok-asked.ensures.equal place marked values respects (c.in_ok-marks.ensures.right values respects.negation right),
)
