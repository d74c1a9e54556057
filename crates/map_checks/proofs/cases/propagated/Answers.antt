use Rattle.std.proofs.Common.{ℕ, ◌∙◌, List, get_or, ap, sym}
use Rattle.map_checks.proofs.cases.propagated.Goals as goal

pub returns-clause-equal : goal.returns-clause-equal
returns-clause-equal c = λ place marked values respects right.
    ap (λ (lits : List ℕ). values (get_or lits place 0)) (sym c.as_slice-lits.ensures.value)
    ∙ c.in_ok-marks.ensures.equal place marked values respects right
    ∙ ap (λ (lits : List ℕ). values (get_or lits place 0)) c.as_slice-others.ensures.value
