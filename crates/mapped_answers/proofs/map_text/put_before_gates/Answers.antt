use Rattle.std.proofs.Common.{ℕ, ◌≡◌, List, [], ap, subst, sym}
use Rattle.std.specs.Prelude.{codes}
use Rattle.aig_graph.specs.Graph.{first_latch}
use Rattle.counted_io.specs.Buffered.{Puts}
use Rattle.counted_io.proofs.BufferedLaws.{puts-nothing, puts-then}
use Rattle.file_words.specs.Text.{numbered_rows}
use Rattle.aig_binary.specs.Text.{next_row}
use Rattle.mapped_answers.specs.MapText.{before_gates}
use Rattle.mapped_answers.proofs.map_text.put_before_gates.Goals as goal

pub returns : goal.returns
unfolding before_gates
returns g c =
    let m = c.args.map.now in
    let none : numbered_rows next_row (first_latch m.aig) m.aig.latches ≡ [] = ap (numbered_rows next_row (first_latch m.aig)) c.known.ensures.latches in
    let nothing = subst (λ (xs : List ℕ). Puts g.W.CountedWrite.output c.put_counts.new.out c.put_counts.new.out xs) (sym none) (puts-nothing c.put_counts.new.out) in
    rw c.props.ensures at
    (puts-then (puts-then (puts-then {xs = codes "aig "} c.put.ensures c.put_counts.ensures) nothing) c.put_properties.ensures)
