use Rattle.std.proofs.Common.{◌≡◌, ◌+◌, ℕ, Bool, List, length, get_or, false, arith, ap, ◌∙◌, length-drop}
use Rattle.std.proofs.lemmas.List.{get_or-drop}
use Rattle.aig_graph.specs.Graph.{Graph}
use Rattle.unit_flows.proofs.FrameLaws.{passing-long, passing-at}
use Rattle.unit_flows.proofs.frame.Frame.passing_gates.Goals as goal

pub marks_from-requires : goal.marks_from-requires
marks_from-requires c =
    let long = passing-long c.args.self.now.circuit.now.aig c.args.self.now.keep.now c.args.self.now.pass.marks.items c.args.self.now.pass_is.marks in
    let latches : length c.latches.result.now ≡ length c.args.self.now.circuit.now.aig.latches = ap length (c.latches.ensures.value ∙ ap (λ (g : Graph). g.latches) c.aig.ensures.value) in
    omega (arith, long, latches, ap length c.marks.ensures)

pub returns-clause-len : goal.returns-clause-len
returns-clause-len c =
    let long = passing-long c.args.self.now.circuit.now.aig c.args.self.now.keep.now c.args.self.now.pass.marks.items c.args.self.now.pass_is.marks in
    let latches : length c.latches.result.now ≡ length c.args.self.now.circuit.now.aig.latches = ap length (c.latches.ensures.value ∙ ap (λ (g : Graph). g.latches) c.aig.ensures.value) in
    omega (arith, long, latches, ap length c.marks.ensures, ap length c.marks_from.ensures, length-drop (length c.latches.result.now) c.marks.result.now)

pub returns-clause-each : goal.returns-clause-each
returns-clause-each c = λ k h.
    let latches : length c.latches.result.now ≡ length c.args.self.now.circuit.now.aig.latches = ap length (c.latches.ensures.value ∙ ap (λ (g : Graph). g.latches) c.aig.ensures.value) in
    ap (λ (xs : List Bool). get_or xs k false) c.marks_from.ensures ∙ get_or-drop (length c.latches.result.now) c.marks.result.now k false
    ∙ ap (λ (n : ℕ). get_or c.marks.result.now (n + k) false) latches ∙ ap (λ (xs : List Bool). get_or xs (length c.args.self.now.circuit.now.aig.latches + k) false) c.marks.ensures
    ∙ passing-at c.args.self.now.circuit.now.aig c.args.self.now.keep.now c.args.self.now.pass.marks.items k c.args.self.now.pass_is.marks h

pub returns-clause-small : goal.returns-clause-small
returns-clause-small c =
    let long = passing-long c.args.self.now.circuit.now.aig c.args.self.now.keep.now c.args.self.now.pass.marks.items c.args.self.now.pass_is.marks in
    let latches : length c.latches.result.now ≡ length c.args.self.now.circuit.now.aig.latches = ap length (c.latches.ensures.value ∙ ap (λ (g : Graph). g.latches) c.aig.ensures.value) in
    omega (arith, long, latches, ap length c.marks.ensures, ap length c.marks_from.ensures, length-drop (length c.latches.result.now) c.marks.result.now, c.aig.ensures.graph.small)
