use Rattle.std.proofs.Common.{ℕ, ◌≡◌, ◌∙◌, ◌+◌, ◌*◌, arith, sym, ap, length}
use Rattle.aig_graph.proofs.TableLaws.{entry, table-end, table-none, length-table}
use Rattle.witness_circuits.proofs.literals.numbered.Goals as goal

pub loop-place-init : goal.loop-place-init
loop-place-init c = record { room = omega (arith, c.in_ok-lits.ensures.exact); filled = c.in_ok-lits.ensures.items ∙ sym (table-none 0 _) }

pub push_reserved-requires : goal.push_reserved-requires
push_reserved-requires c =
    omega (arith, c.loop-place-test.true, c.loop-place.invariant.room, ap (λ xs. length xs) c.loop-place.invariant.filled, length-table 0 c.loop-place.place (λ j. 2 * (c.args.first + j)))

pub loop-place-preserved : goal.loop-place-preserved
loop-place-preserved c =
    record {
      room = omega (arith, c.loop-place.invariant.room, c.push_reserved.ensures.capacity);
      filled =
          let k : ℕ = c.loop-place.place in
          let f : ℕ → ℕ = λ j. 2 * (c.args.first + j) in
          let here : c.new.result ≡ f (0 + k) = omega (arith, c.new.ensures) in
          entry 0 k f c.loop-place.lits.items c.push_reserved.new.self.items c.new.result c.loop-place.invariant.filled c.push_reserved.ensures.items here;
    }

pub returns : goal.returns
returns c =
    let f : ℕ → ℕ = λ j. 2 * (c.args.first + j) in
    table-end 0 c.loop-place.place c.args.count f c.loop-place.lits.items (omega (arith, c.loop-place.auto.place-end)) (omega (arith, c.loop-place-test.false)) c.loop-place.invariant.filled
