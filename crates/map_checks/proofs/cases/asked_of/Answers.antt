use Rattle.std.proofs.Common.{ℕ, ◌∙◌, List, get_or, ap, sym, subst}
use Rattle.aig_graph.specs.Gates.{Gates, Respects}
use Rattle.map_checks.proofs.cases.asked_of.Goals as goal

pub returns-then-is_none-clause-equal : goal.returns-then-is_none-clause-equal
returns-then-is_none-clause-equal c = λ place marked values respects right.
    ap (λ (lits : List ℕ). values (get_or lits place 0)) (sym c.as_slice.ensures.value)
    ∙ c.in_ok-marks.ensures.equal c.args.shared.now place marked values respects right
    ∙ ap (λ (lits : List ℕ). values (get_or lits place 0)) c.as_slice-2.ensures.value

pub returns-clause-equal : goal.returns-clause-equal
returns-clause-equal c = λ place marked values respects right.
    c.in_ok-asked.ensures.equal place marked values (subst (λ (k : Gates). Respects k values) (sym c.in_ok-aig.ensures.gates) respects) (c.in_ok-marks.ensures.right values respects.negation right)
