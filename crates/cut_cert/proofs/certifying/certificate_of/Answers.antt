use Rattle.std.proofs.Common.{◌≡◌, ◌∙◌, sym, subst, ℕ, List}
use Rattle.aig_graph.specs.Border.{border_size, IsLeast}
use Rattle.aig_graph.specs.Move.{move_of}
use Rattle.cut_cert.proofs.certifying.certificate_of.Goals as goal

pub returns-clause-gates : goal.returns-clause-gates
returns-clause-gates c = c.in_ok-gates.ensures

pub returns-clause-passes : goal.returns-clause-passes
returns-clause-passes c =
    let before = c.args.circuit.now in
    let held = c.args.keep.now in
    let least : IsLeast before held c.in_ok-gates.gates = subst (IsLeast before held) (sym c.in_ok-gates.ensures) c.requires.least in
    let shown = c.requires.routes in
    let P : List ℕ → Type 0 = λ gates. c.in_ok-count.count ≡ border_size (move_of before held gates) in
    let border : P c.in_ok-gates.gates = subst P (sym c.in_ok-gates.ensures) c.in_ok-count.ensures in
    (least.closed, shown.right, shown.apart, record { of_border = border; of_routes = border ∙ shown.count c.in_ok-gates.gates least })
