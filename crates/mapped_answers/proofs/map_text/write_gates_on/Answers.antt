use Rattle.std.proofs.Common.{ℕ, ◌≡◌, ◌∙◌, List, ap, subst}
use Rattle.aig_graph.specs.Graph.{Graph, first_gate}
use Rattle.counted_io.specs.Line.{numbered_lines}
use Rattle.counted_io.specs.Output.{WritesAll, WritesPart}
use Rattle.file_words.specs.Text.{all_symbols}
use Rattle.aig_binary.specs.Text.{gate_deltas}
use Rattle.mapped_answers.proofs.MapTextLaws.{writes-no-more, writes-then}
use Rattle.mapped_answers.proofs.map_text.write_gates_on.Goals as goal

pub returns-in-Ok : goal.returns-in-Ok
returns-in-Ok g c =
    let m = c.args.map.now in
    let start = g.W.CountedWrite.output c.args.writer.now in
    let mid = g.W.CountedWrite.output c.write_all.new.writer in
    let end = g.W.CountedWrite.output c.write_symbols.new.writer in
    let lines : List ℕ = numbered_lines gate_deltas (first_gate m.aig) m.aig.gates in
    let are : c.deltas.result.now ≡ lines = c.deltas.ensures ∙ ap (λ (x : Graph). numbered_lines gate_deltas (first_gate x) x.gates) c.gates.ensures in
    writes-then start mid end c.write_symbols.result lines (all_symbols m.symbols) (subst (λ (xs : List ℕ). WritesAll start mid xs) are c.in-Ok.ensures.ok) c.write_symbols.ensures

pub returns-in-Err : goal.returns-in-Err
returns-in-Err g c =
    let m = c.args.map.now in
    let start = g.W.CountedWrite.output c.args.writer.now in
    let mid = g.W.CountedWrite.output c.write_all.new.writer in
    let lines : List ℕ = numbered_lines gate_deltas (first_gate m.aig) m.aig.gates in
    let are : c.deltas.result.now ≡ lines = c.deltas.ensures ∙ ap (λ (x : Graph). numbered_lines gate_deltas (first_gate x) x.gates) c.gates.ensures in
    writes-no-more start mid c.in-Err.error lines (all_symbols m.symbols) (subst (λ (xs : List ℕ). WritesPart start mid xs) are c.in-Err.ensures.err)
