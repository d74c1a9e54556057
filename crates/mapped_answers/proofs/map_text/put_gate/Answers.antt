use Rattle.std.proofs.Common.{ℕ, ◌-◌, ◌*◌, List, ◌++◌, arith, subst}
use Rattle.aig_graph.specs.declared.graph.Gate.{Gate}
use Rattle.counted_io.specs.Buffered.{Puts}
use Rattle.binary_file.specs.Deltas.{delta_of}
use Rattle.mapped_answers.proofs.MapTextLaws.{gate-begins, gate-ends, gate-row}
use Rattle.mapped_answers.proofs.map_text.put_gate.Goals as goal

pub read_delta-first-requires : goal.read_delta-first-requires
read_delta-first-requires g c =
    let is = c.requires.begins in
    let gate : Gate = is.0 in
    (4, 2 * c.args.var - gate.rhs0, delta_of (gate.rhs0 - gate.rhs1) ++ is.1, gate-begins c.args.var gate is.1 c.requires.small is.2 c.args.bytes.now is.3)

pub read_delta-second-requires : goal.read_delta-second-requires
read_delta-second-requires g c =
    let is = c.requires.begins in
    let gate : Gate = is.0 in
    let first = c.read_delta-first.ensures 4 (2 * c.args.var - gate.rhs0) (delta_of (gate.rhs0 - gate.rhs1) ++ is.1) (gate-begins c.args.var gate is.1 c.requires.small is.2 c.args.bytes.now is.3) in
    (4, gate.rhs0 - gate.rhs1, is.1, gate-ends c.args.var gate is.1 c.requires.small is.2 c.read_delta-first.result.1.now first.1)

pub returns : goal.returns
returns g c = λ gate tail here is.
    let var : ℕ = c.args.var in
    let first = c.read_delta-first.ensures 4 (2 * var - gate.rhs0) (delta_of (gate.rhs0 - gate.rhs1) ++ tail) (gate-begins var gate tail c.requires.small here c.args.bytes.now is) in
    let second = c.read_delta-second.ensures 4 (gate.rhs0 - gate.rhs1) tail (gate-ends var gate tail c.requires.small here c.read_delta-first.result.1.now first.1) in
    let row = gate-row var gate tail c.requires.small here c.read_delta-first.result.0 c.read_delta-second.result.0 first.0 second.0 in
    (subst (λ (xs : List ℕ). Puts g.W.CountedWrite.output c.args.out.now c.put_line.new.self xs) row (rw (c.from.ensures, c.from-2.ensures, c.from-3.ensures) at c.put_line.ensures), second.1)

pub overflow_sub-rhs0 : goal.overflow_sub-rhs0
overflow_sub-rhs0 g c =
    let is = c.requires.begins in
    let gate : Gate = is.0 in
    let first = c.read_delta-first.ensures 4 (2 * c.args.var - gate.rhs0) (delta_of (gate.rhs0 - gate.rhs1) ++ is.1) (gate-begins c.args.var gate is.1 c.requires.small is.2 c.args.bytes.now is.3) in
    omega (arith, first.0)

pub overflow_sub-rhs0-2 : goal.overflow_sub-rhs0-2
overflow_sub-rhs0-2 g c =
    let is = c.requires.begins in
    let gate : Gate = is.0 in
    let first = c.read_delta-first.ensures 4 (2 * c.args.var - gate.rhs0) (delta_of (gate.rhs0 - gate.rhs1) ++ is.1) (gate-begins c.args.var gate is.1 c.requires.small is.2 c.args.bytes.now is.3) in
    let second = c.read_delta-second.ensures 4 (gate.rhs0 - gate.rhs1) is.1 (gate-ends c.args.var gate is.1 c.requires.small is.2 c.read_delta-first.result.1.now first.1) in
    omega (arith, first.0, second.0, is.2.below, is.2.ordered)
