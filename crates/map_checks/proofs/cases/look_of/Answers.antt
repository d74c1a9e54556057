use Rattle.std.proofs.Common.{ℕ, ◌∙◌, List, get_or, ap, sym, subst}
use Rattle.aig_graph.specs.Gates.{Gates, Respects}
use Rattle.map_checks.proofs.MarkLaws.{if-some}
use Rattle.map_checks.proofs.cases.look_of.Goals as goal

pub returns-then-is_none-clause-equal : goal.returns-then-is_none-clause-equal
returns-then-is_none-clause-equal c = λ place marked values respects right.
    ap (λ (lits : List ℕ). values (get_or lits place 0)) (sym c.as_slice.ensures.value)
    ∙ c.in_ok-marks.ensures.equal c.args.shared.now place marked values respects right
    ∙ ap (λ (lits : List ℕ). values (get_or lits place 0)) c.as_slice-2.ensures.value

pub returns-clause-equal : goal.returns-clause-equal
returns-clause-equal c = λ place marked values respects right.
    c.in_ok-look.ensures.equal place marked values (subst (λ (k : Gates). Respects k values) (sym c.in_ok-aig.ensures.gates) respects) (c.in_ok-marks.ensures.right values respects.negation right)

pub returns-clause-asked : goal.returns-clause-asked
returns-clause-asked c = if-some c.in_ok-look.look.asked (λ asked both. (
  both.0,
  λ place marked values respects right.
      both.1 place marked values (subst (λ (k : Gates). Respects k values) (sym c.in_ok-aig.ensures.gates) respects) (c.in_ok-marks.ensures.right values respects.negation right),
))
    c.in_ok-look.ensures.asked
