use Rattle.std.proofs.Common.{ℕ, ◌≡◌, ◌<◌, ◌∙◌, ◌+◌, ◌*◌, true, arith, ap, get_or, length, subst}
use Rattle.aig_graph.specs.Circuits.{Netlist}
use Rattle.aig_graph.specs.Graph.{Graph, first_gate, variable}
use Rattle.state_maps.specs.MapCircuits.{IsFreeInput}
use Rattle.map_miters.specs.Ties.{HasLatches}
use Rattle.map_miters.proofs.LeafLaws.{latches-room, latches-stay}
use Rattle.state_maps.proofs.FreeLaws.{free-within}
use Rattle.map_miters.proofs.TieLaws.{first-value, second-value, tie-says}
use Rattle.map_miters.proofs.ties.add_tie.Goals as goal

pub new-of_second-requires : goal.new-of_second-requires
new-of_second-requires c =
    let g : Graph = c.args.gates.now in
    let a : Netlist = c.args.first.now in
    let d : Netlist = c.args.second.now in
    let gate : c.first_gate.result ≡ 1 + a.aig.inputs + length a.aig.latches = c.first_gate.ensures.value ∙ ap (λ (h : Graph). first_gate h) c.aig-aig.ensures.value in
    omega (arith, gate, c.requires.place, latches-room a.aig d.aig g true c.requires.latches, c.requires.latches.inputs, c.requires.graph.small)

pub new-of_first-requires : goal.new-of_first-requires
new-of_first-requires c =
    let g : Graph = c.args.gates.now in
    let a : Netlist = c.args.first.now in
    let d : Netlist = c.args.second.now in
    let m : Netlist = c.args.map.now in
    let has : HasLatches a.aig d.aig true g = c.requires.latches in
    let gate : c.first_gate.result ≡ 1 + a.aig.inputs + length a.aig.latches = c.first_gate.ensures.value ∙ ap (λ (h : Graph). first_gate h) c.aig-aig.ensures.value in
    let inputs : c.inputs.result ≡ a.aig.inputs = c.inputs.ensures.value ∙ ap (λ (h : Graph). h.inputs) c.aig-aig.ensures.value in
    let short : c.requires.free.place < length a.aig.latches = free-within a.aig.latches c.requires.free.place c.requires.free.free in
    omega (arith, gate, inputs, short, c.requires.free.is, c.var.ensures.variable, c.requires.place, latches-room a.aig d.aig g true has, has.inputs, c.requires.graph.small)

pub add_equality-requires-clause-a : goal.add_equality-requires-clause-a
add_equality-requires-clause-a c =
    let g : Graph = c.args.gates.now in
    let a : Netlist = c.args.first.now in
    let d : Netlist = c.args.second.now in
    let m : Netlist = c.args.map.now in
    let has : HasLatches a.aig d.aig true g = c.requires.latches in
    let gate : c.first_gate.result ≡ 1 + a.aig.inputs + length a.aig.latches = c.first_gate.ensures.value ∙ ap (λ (h : Graph). first_gate h) c.aig-aig.ensures.value in
    let inputs : c.inputs.result ≡ a.aig.inputs = c.inputs.ensures.value ∙ ap (λ (h : Graph). h.inputs) c.aig-aig.ensures.value in
    let short : c.requires.free.place < length a.aig.latches = free-within a.aig.latches c.requires.free.place c.requires.free.free in
    omega (arith, c.new-of_second.ensures, gate, inputs, short, c.requires.free.is, c.var.ensures.variable, c.requires.place, latches-room a.aig d.aig g true has, has.inputs, c.requires.graph.small)

pub add_equality-requires-clause-b : goal.add_equality-requires-clause-b
add_equality-requires-clause-b c =
    let g : Graph = c.args.gates.now in
    let a : Netlist = c.args.first.now in
    let d : Netlist = c.args.second.now in
    let m : Netlist = c.args.map.now in
    let has : HasLatches a.aig d.aig true g = c.requires.latches in
    let gate : c.first_gate.result ≡ 1 + a.aig.inputs + length a.aig.latches = c.first_gate.ensures.value ∙ ap (λ (h : Graph). first_gate h) c.aig-aig.ensures.value in
    let inputs : c.inputs.result ≡ a.aig.inputs = c.inputs.ensures.value ∙ ap (λ (h : Graph). h.inputs) c.aig-aig.ensures.value in
    let short : c.requires.free.place < length a.aig.latches = free-within a.aig.latches c.requires.free.place c.requires.free.free in
    omega (arith, c.new-of_first.ensures, gate, inputs, short, c.requires.free.is, c.var.ensures.variable, c.requires.place, latches-room a.aig d.aig g true has, has.inputs, c.requires.graph.small)

pub returns-clause-says : goal.returns-clause-says
returns-clause-says c =
    let g : Graph = c.args.gates.now in
    let a : Netlist = c.args.first.now in
    let d : Netlist = c.args.second.now in
    let m : Netlist = c.args.map.now in
    let has : HasLatches a.aig d.aig true g = c.requires.latches in
    let gate : c.first_gate.result ≡ 1 + a.aig.inputs + length a.aig.latches = c.first_gate.ensures.value ∙ ap (λ (h : Graph). first_gate h) c.aig-aig.ensures.value in
    let inputs : c.inputs.result ≡ a.aig.inputs = c.inputs.ensures.value ∙ ap (λ (h : Graph). h.inputs) c.aig-aig.ensures.value in
    let short : c.requires.free.place < length a.aig.latches = free-within a.aig.latches c.requires.free.place c.requires.free.free in
    let h : Graph = c.add_equality.new.gates in
    let grown : HasLatches a.aig d.aig true h = latches-stay a.aig d.aig g h true c.in_ok-tie.ensures.extends has in
    let input : IsFreeInput a.aig (get_or m.props.outputs c.args.place 0) = subst (λ (l : ℕ). IsFreeInput a.aig l) c.requires.output c.requires.free in
    let x : c.new-of_second.result ≡ 2 * (1 + a.aig.inputs + length a.aig.latches + c.args.place) = omega (arith, c.new-of_second.ensures, gate) in
    let y : c.new-of_first.result ≡ 2 * (a.aig.inputs + variable (get_or m.props.outputs c.args.place 0)) =
    omega (arith, c.new-of_first.ensures, inputs, c.var.ensures.variable, c.requires.output) in
    tie-says a m h c.args.place c.new-of_second.result c.new-of_first.result c.in_ok-tie.tie c.in_ok-tie.ensures.is
    (second-value a d m c.requires.askable c.known.ensures.graph h c.in_ok-tie.ensures.extends.graph grown c.args.place c.new-of_second.result c.requires.place x)
    (first-value a d m c.requires.askable c.known.ensures.graph h c.in_ok-tie.ensures.extends.graph grown c.args.place c.new-of_first.result c.requires.place input y)

pub overflow_cast-place : goal.overflow_cast-place
overflow_cast-place c = omega (arith, c.requires.place, latches-room c.args.first.now.aig c.args.second.now.aig c.args.gates.now true c.requires.latches, c.requires.graph.small)

pub overflow_add-first_gate : goal.overflow_add-first_gate
overflow_add-first_gate c =
    let g : Graph = c.args.gates.now in
    let a : Netlist = c.args.first.now in
    let d : Netlist = c.args.second.now in
    let gate : c.first_gate.result ≡ 1 + a.aig.inputs + length a.aig.latches = c.first_gate.ensures.value ∙ ap (λ (h : Graph). first_gate h) c.aig-aig.ensures.value in
    omega (arith, gate, c.requires.place, latches-room a.aig d.aig g true c.requires.latches, c.requires.latches.inputs, c.requires.graph.small)

pub overflow_add-inputs : goal.overflow_add-inputs
overflow_add-inputs c =
    let g : Graph = c.args.gates.now in
    let a : Netlist = c.args.first.now in
    let d : Netlist = c.args.second.now in
    let has : HasLatches a.aig d.aig true g = c.requires.latches in
    let inputs : c.inputs.result ≡ a.aig.inputs = c.inputs.ensures.value ∙ ap (λ (h : Graph). h.inputs) c.aig-aig.ensures.value in
    let short : c.requires.free.place < length a.aig.latches = free-within a.aig.latches c.requires.free.place c.requires.free.free in
    omega (arith, inputs, short, c.requires.free.is, c.var.ensures.variable, latches-room a.aig d.aig g true has, has.inputs, c.requires.graph.small)

pub add_equality-requires-clause-graph : goal.add_equality-requires-clause-graph
add_equality-requires-clause-graph c = c.requires.graph

pub returns-clause-extends : goal.returns-clause-extends
returns-clause-extends c = c.in_ok-tie.ensures.extends
