use Rattle.std.proofs.Common.{ℕ, ◌∙◌, arith, ap, length, sym, zero-add}
use Rattle.aig_graph.proofs.TableLaws.{entry, length-table, table-end, table-none}
use Rattle.witness_circuits.specs.Lifting.{literal_name}
use Rattle.witness_circuits.proofs.names.names.Goals as goal

pub loop-position-init : goal.loop-position-init
loop-position-init c = record { room = omega (arith, c.in_ok-names.ensures.exact); filled = c.in_ok-names.ensures.items ∙ sym (table-none 0 _) }

pub push_reserved-requires : goal.push_reserved-requires
push_reserved-requires c =
    omega (arith, c.loop-position-test.true, c.loop-position.invariant.room, ap (λ xs. length xs) c.loop-position.invariant.filled, length-table 0 c.loop-position.position (literal_name c.args.first))

pub loop-position-preserved : goal.loop-position-preserved
loop-position-preserved c =
    let k : ℕ = c.loop-position.position in
    record {
      room = omega (arith, c.loop-position.invariant.room, c.push_reserved.ensures.capacity);
      filled = entry 0 k (literal_name c.args.first) c.loop-position.names.items c.push_reserved.new.self.items c.in_ok-name.field-0 c.loop-position.invariant.filled c.push_reserved.ensures.items
          (c.in_ok-name.ensures ∙ ap (literal_name c.args.first) (sym (zero-add k)));
    }

pub returns : goal.returns
returns c =
    c.from_vec.ensures ∙ table-end 0 c.loop-position.position c.args.count (literal_name c.args.first) c.loop-position.names.items (omega (arith, c.loop-position.auto.position-end)) (omega (arith, c.loop-position-test.false)) c.loop-position.invariant.filled
