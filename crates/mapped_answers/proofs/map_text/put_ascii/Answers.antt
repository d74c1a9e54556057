use Rattle.std.proofs.Common.{ℕ, ◌≡◌, List, [], ap, subst, sym}
use Rattle.std.specs.Prelude.{codes}
use Rattle.aig_graph.specs.Graph.{first_latch}
use Rattle.counted_io.specs.Buffered.{Puts}
use Rattle.counted_io.proofs.BufferedLaws.{puts-nothing, puts-then}
use Rattle.file_words.specs.Text.{latch_row, numbered_rows, text}
use Rattle.mapped_answers.proofs.map_text.put_ascii.Goals as goal

pub returns : goal.returns
unfolding text
returns g c =
    let m = c.args.map.now in
    let none : numbered_rows latch_row (first_latch m.aig) m.aig.latches ≡ [] = ap (numbered_rows latch_row (first_latch m.aig)) c.known.ensures.latches in
    let nothing = subst (λ (xs : List ℕ). Puts g.W.CountedWrite.output c.put_inputs.new.out c.put_inputs.new.out xs) (sym none) (puts-nothing c.put_inputs.new.out) in
    rw (c.inputs.ensures, c.gates.ensures, c.props.ensures, c.gates-2.ensures, c.symbols.ensures) at
    (puts-then (puts-then (puts-then (puts-then (puts-then (puts-then {xs = codes "aag "} c.put.ensures c.put_counts.ensures) c.put_inputs.ensures) nothing)
    c.put_properties.ensures) c.put_gates.ensures) c.put_symbols.ensures)
