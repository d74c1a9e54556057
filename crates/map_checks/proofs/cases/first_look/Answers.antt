use Rattle.std.proofs.Common.{◌≡◌, ◌∙◌, [], ap}
use Rattle.aig_graph.specs.Gates.{Gates}
use Rattle.aig_graph.specs.Graph.{first_gate}
use Rattle.gate_sharing.specs.Equal.{Equal}
use Rattle.map_checks.proofs.MarkLaws.{if-some}
use Rattle.map_checks.proofs.StepLaws.{are-shown}
use Rattle.map_checks.proofs.cases.first_look.Goals as goal

pub returns-clause-marks : goal.returns-clause-marks
returns-clause-marks c =
    let k : Gates = c.pairs_of.new.shared in
    let place : k.first ≡ first_gate c.args.first.now.aig = c.in_ok-pairs.ensures.grows.first ∙ ap (λ (l : Gates). l.first) c.after-shared.ensures ∙ c.first_gate.ensures.value ∙ ap first_gate c.aig.ensures.value in
    are-shown k c.none-equal.result c.assume_case.new.equal c.pairs_of.new.equal c.args.first.now c.args.second.now c.args.map.now c.known-2.ensures place (ap (λ (e : Equal). e.substitutes) c.none-equal.ensures)
    c.in_ok-pairs.pairs.lits.items c.in_ok-pairs.pairs.others.items [] c.in_ok-pairs.ensures.pairs (c.in_ok-assume_case.ensures k) c.in_ok-look.look.marks.items c.in_ok-look.ensures.long c.in_ok-look.ensures.equal

pub returns-clause-asked : goal.returns-clause-asked
returns-clause-asked c =
    let k : Gates = c.pairs_of.new.shared in
    let place : k.first ≡ first_gate c.args.first.now.aig = c.in_ok-pairs.ensures.grows.first ∙ ap (λ (l : Gates). l.first) c.after-shared.ensures ∙ c.first_gate.ensures.value ∙ ap first_gate c.aig.ensures.value in
    if-some c.in_ok-look.look.asked (λ asked both.
    are-shown k c.none-equal.result c.assume_case.new.equal c.pairs_of.new.equal c.args.first.now c.args.second.now c.args.map.now c.known-2.ensures place (ap (λ (e : Equal). e.substitutes) c.none-equal.ensures)
    c.in_ok-pairs.pairs.lits.items c.in_ok-pairs.pairs.others.items [] c.in_ok-pairs.ensures.pairs (c.in_ok-assume_case.ensures k) asked.marks.items both.0 both.1)
    c.in_ok-look.ensures.asked
