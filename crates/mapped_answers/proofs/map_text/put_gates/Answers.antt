use Rattle.std.proofs.Common.{ℕ, ◌+◌, ◌<◌, ◌≡◌, ◌∙◌, List, length, drop, arith, ap, subst, rules, true}
use Rattle.aig_graph.specs.declared.graph.Latch.{Latch}
use Rattle.aig_graph.specs.Graph.{first_gate}
use Rattle.counted_io.specs.Buffered.{Puts}
use Rattle.counted_io.specs.Line.{numbered_lines}
use Rattle.counted_io.proofs.BufferedLaws.{puts-nothing}
use Rattle.file_words.specs.Text.{gate_row, numbered_rows}
use Rattle.aig_binary.specs.Text.{gate_deltas}
use Rattle.mapped_answers.proofs.MapTextLaws.{gate-next, gate-stands, gate_of_place, puts-gate, puts-gates-end, puts-gates-ended}
use Rattle.mapped_answers.proofs.map_text.put_gates.Goals as goal

pub loop-place-init : goal.loop-place-init
loop-place-init g c =
    let m = c.args.gates.now in
    let none : length m.latches ≡ 0 = ap (λ (xs : List Latch). length xs) c.known.ensures.latches in
    let start : first_gate m ≡ 1 + c.inputs-first.result + 0 = omega (arith, none, c.inputs-first.ensures) in
    record { puts = puts-nothing c.args.out.now; rest = c.deltas-rest.ensures ∙ ap (λ (n : ℕ). numbered_lines gate_deltas n m.gates) start }

pub put_gate-rest-requires-clause-small : goal.put_gate-rest-requires-clause-small
put_gate-rest-requires-clause-small g c = omega (arith, c.known.ensures.graph.small, c.inputs-first.ensures, c.count-place-end.ensures, c.loop-place-test.true)

pub put_gate-rest-requires-clause-begins : goal.put_gate-rest-requires-clause-begins
put_gate-rest-requires-clause-begins g c =
    let m = c.args.gates.now in
    let k : ℕ = c.loop-place.place in
    let first : ℕ = 1 + c.inputs-first.result in
    let none : length m.latches ≡ 0 = ap (λ (xs : List Latch). length xs) c.known.ensures.latches in
    let start : first ≡ first_gate m = omega (arith, none, c.inputs-first.ensures) in
    let less : k < length m.gates = omega (arith, c.count-place-end.ensures, c.loop-place-test.true) in (
      gate_of_place m.gates k,
      numbered_lines gate_deltas (first + (k + 1)) (drop (k + 1) m.gates),
      gate-stands m first k c.known.ensures.graph start less,
      gate-next first k m.gates c.loop-place.rest.now less c.loop-place.invariant.rest,
    )

pub loop-place-preserved : goal.loop-place-preserved
loop-place-preserved g c =
    let m = c.args.gates.now in
    let k : ℕ = c.loop-place.place in
    let first : ℕ = 1 + c.inputs-first.result in
    let none : length m.latches ≡ 0 = ap (λ (xs : List Latch). length xs) c.known.ensures.latches in
    let start : first ≡ first_gate m = omega (arith, none, c.inputs-first.ensures) in
    let less : k < length m.gates = omega (arith, c.count-place-end.ensures, c.loop-place-test.true) in
    let put = c.put_gate-rest.ensures (gate_of_place m.gates k) (numbered_lines gate_deltas (first + (k + 1)) (drop (k + 1) m.gates))
    (gate-stands m first k c.known.ensures.graph start less) (gate-next first k m.gates c.loop-place.rest.now less c.loop-place.invariant.rest) in
    record { puts = puts-gate first k m.gates less c.loop-place.invariant.puts put.0; rest = put.1 }

pub returns-then-has_failed : goal.returns-then-has_failed
returns-then-has_failed g c =
    let m = c.args.gates.now in
    let bad : c.loop-place.out.failed ≡ true = search rules in
    let none : length m.latches ≡ 0 = ap (λ (xs : List Latch). length xs) c.known.ensures.latches in
    let start : 1 + c.inputs-first.result ≡ first_gate m = omega (arith, none, c.inputs-first.ensures) in
    subst (λ (n : ℕ). Puts g.W.CountedWrite.output c.args.out.now c.loop-place.out (numbered_rows gate_row n m.gates)) start
    (puts-gates-ended (1 + c.inputs-first.result) c.loop-place.place m.gates bad c.loop-place.invariant.puts)

pub returns : goal.returns
returns g c =
    let m = c.args.gates.now in
    let none : length m.latches ≡ 0 = ap (λ (xs : List Latch). length xs) c.known.ensures.latches in
    let start : 1 + c.inputs-first.result ≡ first_gate m = omega (arith, none, c.inputs-first.ensures) in
    subst (λ (n : ℕ). Puts g.W.CountedWrite.output c.args.out.now c.loop-place.out (numbered_rows gate_row n m.gates)) start
    (puts-gates-end (1 + c.inputs-first.result) c.loop-place.place m.gates (omega (arith, c.count-place-end.ensures, c.loop-place-test.false)) c.loop-place.invariant.puts)
