use Rattle.std.proofs.Common.{ℕ, ◌++◌, Err, List, subst}
use Rattle.aig_graph.specs.Graph.{first_gate}
use Rattle.counted_io.specs.Line.{numbered_lines}
use Rattle.counted_io.specs.Output.{Writes}
use Rattle.file_words.specs.Text.{all_symbols}
use Rattle.aig_binary.specs.Text.{gate_deltas}
use Rattle.mapped_answers.specs.MapText.{before_gates}
use Rattle.mapped_answers.proofs.MapTextLaws.{binary-pieces, writes-no-more, writes-then}
use Rattle.mapped_answers.proofs.map_text.write_binary.Goals as goal

pub returns-in-Ok : goal.returns-in-Ok
returns-in-Ok g c =
    let m = c.args.map.now in
    let start = g.W.CountedWrite.output c.args.writer.now in
    let mid = g.W.CountedWrite.output c.write_before_gates.new.writer in
    let end = g.W.CountedWrite.output c.write_gates_on.new.writer in
    let rest : List ℕ = numbered_lines gate_deltas (first_gate m.aig) m.aig.gates ++ all_symbols m.symbols in
    subst (λ (xs : List ℕ). Writes start end c.write_gates_on.result xs) (binary-pieces m)
    (writes-then start mid end c.write_gates_on.result (before_gates m) rest c.in-Ok.ensures.ok c.write_gates_on.ensures)

pub returns-in-Err : goal.returns-in-Err
returns-in-Err g c =
    let m = c.args.map.now in
    let start = g.W.CountedWrite.output c.args.writer.now in
    let mid = g.W.CountedWrite.output c.write_before_gates.new.writer in
    let rest : List ℕ = numbered_lines gate_deltas (first_gate m.aig) m.aig.gates ++ all_symbols m.symbols in
    subst (λ (xs : List ℕ). Writes {T = Unit {0}} start mid (Err c.in-Err.error) xs) (binary-pieces m)
    (writes-no-more start mid c.in-Err.error (before_gates m) rest c.in-Err.ensures.err)
