use Rattle.std.proofs.Common.{ℕ, ◌∙◌, arith, ap, sym, zero-add}
use Rattle.aig_graph.proofs.TableLaws.{entry, table-end, table-none}
use Rattle.reports.specs.waves.Names.{default_name}
use Rattle.reports.proofs.waves.names.words.Goals as goal

pub loop-position-init : goal.loop-position-init
loop-position-init c = c.in_ok-words.ensures.items ∙ sym (table-none 0 _)

pub loop-position-preserved : goal.loop-position-preserved
loop-position-preserved c =
    let k : ℕ = c.loop-position.position in
    entry 0 k (default_name c.args.letter) c.loop-position.words.items c.push.new.self.items c.from_vec.result c.loop-position.invariant c.in_ok-push.ensures.items
    (c.from_vec.ensures ∙ c.in_ok-word_bytes.ensures ∙ ap (default_name c.args.letter) (sym (zero-add k)))

pub returns : goal.returns
returns c =
    table-end 0 c.loop-position.position c.args.count (default_name c.args.letter) c.loop-position.words.items (omega (arith, c.loop-position.auto.position-end)) (omega (arith, c.loop-position-test.false)) c.loop-position.invariant
