use Rattle.std.proofs.Common.{◌≤◌, ◌∙◌, ap, sym, arith, subst}
use Rattle.aig_graph.specs.Circuits.{IsNetlist, Netlist}
use Rattle.aig_graph.specs.Closed.{IsClosedSet}
use Rattle.aig_graph.specs.Graph.{IsGraph, known_latches}
use Rattle.aig_graph.specs.Laws.{all_free}
use Rattle.aig_graph.specs.Move.{Move, move_of}
use Rattle.aig_graph.specs.Streams.{SameStreams}
use Rattle.aig_graph.specs.declared.literal.TheConstants.{MAX_VARIABLES}
use Rattle.rebuild.proofs.FreeLaws.{moved-known, moved-room}
use Rattle.rebuild.proofs.MovedLaws.{IsGraph-moved, moved-end}
use Rattle.rebuild.proofs.NameLaws.{IsNetlist-moved}
use Rattle.rebuild.proofs.StreamLaws.{moved-whole, same_streams}
use Rattle.rebuild.specs.Moved.{moved_of, moved_size}
use Rattle.rebuild.specs.Planned.{marked, planned}
use Rattle.rebuild.proofs.moving.moved_in.Goals as goal

pub new-requires-clause-moved : goal.new-requires-clause-moved
new-requires-clause-moved c =
    let k = c.new-marked.result in
    let set = subst (λ (m : Move). IsClosedSet m.circuit.aig m.held m.set) (sym c.new-marked.ensures) c.requires.closed in
    let room = subst (λ (m : Move). moved_size m ≤ MAX_VARIABLES) (sym c.new-marked.ensures) c.requires.room in
    IsGraph-moved (marked k) k.graph set (moved-room (marked k) set room)

pub new-requires-clause-room : goal.new-requires-clause-room
new-requires-clause-room c =
    let k = c.new-marked.result in
    let set = subst (λ (m : Move). IsClosedSet m.circuit.aig m.held m.set) (sym c.new-marked.ensures) c.requires.closed in
    let room = subst (λ (m : Move). moved_size m ≤ MAX_VARIABLES) (sym c.new-marked.ensures) c.requires.room in
    omega (arith, moved-room (marked k) set room, moved-end (marked k) set)

pub new-requires-2 : goal.new-requires-2
new-requires-2 c =
    let m = move_of c.args.circuit.now c.args.keep.now c.args.set.now in
    let k = c.new-marked.result in
    let same = c.in_ok-plan.ensures ∙ c.new-marked.ensures in
    let whole = moved-whole (planned c.in_ok-plan.plan) c.in_ok-aig.aig c.in_ok-props.props c.in_ok-symbols.symbols c.in_ok-aig.ensures c.in_ok-props.ensures c.in_ok-symbols.ensures ∙ ap moved_of same in
    let valid : IsGraph m.circuit.aig = subst (λ (x : Move). IsGraph x.circuit.aig) c.new-marked.ensures k.graph in
    let netlist : IsNetlist m.circuit = subst (λ (x : Move). IsNetlist x.circuit) c.new-marked.ensures k.netlist in
    subst IsNetlist (sym whole) (IsNetlist-moved m valid c.requires.closed netlist)

pub returns-clause-streams : goal.returns-clause-streams
returns-clause-streams c =
    let m = move_of c.args.circuit.now c.args.keep.now c.args.set.now in
    let k = c.new-marked.result in
    let same = c.in_ok-plan.ensures ∙ c.new-marked.ensures in
    let whole = moved-whole (planned c.in_ok-plan.plan) c.in_ok-aig.aig c.in_ok-props.props c.in_ok-symbols.symbols c.in_ok-aig.ensures c.in_ok-props.ensures c.in_ok-symbols.ensures ∙ ap moved_of same in
    let valid : IsGraph m.circuit.aig = subst (λ (x : Move). IsGraph x.circuit.aig) c.new-marked.ensures k.graph in
    let netlist : IsNetlist m.circuit = subst (λ (x : Move). IsNetlist x.circuit) c.new-marked.ensures k.netlist in
    subst (λ (x : Netlist). SameStreams c.args.circuit.now x (all_free c.args.circuit.now.aig)) (sym (c.new-2.ensures ∙ whole))
    (same_streams m valid netlist c.requires.closed (IsGraph-moved m valid c.requires.closed (moved-room m c.requires.closed c.requires.room)))

pub returns-clause-known : goal.returns-clause-known
returns-clause-known c =
    let m = move_of c.args.circuit.now c.args.keep.now c.args.set.now in
    let same = c.in_ok-plan.ensures ∙ c.new-marked.ensures in
    let whole = moved-whole (planned c.in_ok-plan.plan) c.in_ok-aig.aig c.in_ok-props.props c.in_ok-symbols.symbols c.in_ok-aig.ensures c.in_ok-props.ensures c.in_ok-symbols.ensures ∙ ap moved_of same in
    ap (λ (x : Netlist). known_latches x.aig) (c.new-2.ensures ∙ whole) ∙ moved-known m c.requires.closed
