use Rattle.std.proofs.Common.{ℕ, List, ◌≡◌, ◌∙◌, arith, ap, length, refl}
use Rattle.aig_graph.specs.Border.{border_size}
use Rattle.aig_graph.specs.Graph.{known_latches}
use Rattle.aig_graph.specs.Move.{move_of}
use Rattle.frame_runs.proofs.FrameLaws.{closed-length}
use Rattle.frame_runs.proofs.helping.helping_over.Goals as goal

pub overflow_cast-report : goal.overflow_cast-report
overflow_cast-report c =
    let short = closed-length c.args.circuit.now.aig c.args.keep.now c.args.set c.known.ensures.graph c.requires in
    omega (arith, short, ap (λ (xs : List ℕ). length xs) c.vars.ensures.value)

pub new-requires : goal.new-requires
new-requires c = c.requires

pub returns-then-report : goal.returns-then-report
returns-then-report c =
    let before = c.args.circuit.now in
    let held = c.args.keep.now in
    let set = c.args.set in
    let known : c.known_latches.result ≡ known_latches before.aig = c.known_latches.ensures ∙ ap known_latches c.aig.ensures.value in
    let counted : c.border_size.result ≡ border_size (move_of before held set) = c.border_size.ensures (move_of before held set) c.in_ok-marks.ensures in
    let long : length c.vars.result.now ≡ length set = ap (λ (xs : List ℕ). length xs) c.vars.ensures.value in
    record {
      same = refl;
      saves = record { closed = c.requires; fewer = omega (arith, known, counted, c.if-report.true) };
      prepared = record { marks = c.in_ok-marks.ensures; after = tt };
      report = λ i. record { before = known i; after = counted i; moved = long i };
    }

pub returns-else-report : goal.returns-else-report
returns-else-report c =
    let before = c.args.circuit.now in
    let held = c.args.keep.now in
    let set = c.args.set in
    let known : c.known_latches.result ≡ known_latches before.aig = c.known_latches.ensures ∙ ap known_latches c.aig.ensures.value in
    let counted : c.border_size.result ≡ border_size (move_of before held set) = c.border_size.ensures (move_of before held set) c.in_ok-marks.ensures in
    omega (arith, known, counted, c.if-report.false)
