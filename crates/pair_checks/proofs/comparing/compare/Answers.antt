use Rattle.std.proofs.Common.{ℕ, ◌≡◌, true, length, get_or, arith, subst}
use Rattle.aig_graph.specs.Gates.{AreEqualIn, gates_of}
use Rattle.gate_sharing.specs.Copies.{copy_of}
use Rattle.pair_checks.specs.declared.pairs.Pair.{Pair}
use Rattle.pair_checks.proofs.PairLaws.{compare-end, compare-more}
use Rattle.pair_checks.proofs.comparing.compare.Goals as goal

pub loop-place-preserved : goal.loop-place-preserved
loop-place-preserved c =
    let p : Pair = c.args.pair.now in
    let n : ℕ = c.loop-place.place in
    let equal = c.in_ok-equal.equal in
    compare-more p c.args.first.now c.args.second.now n c.loop-place.found.open c.with_place-found.result.open equal c.loop-place.invariant c.with_place-found.ensures
    (subst (λ (k : ℕ). equal ≡ true → AreEqualIn (gates_of p.graph) (copy_of p.second k) (copy_of p.first (get_or c.args.first.now n 0))) c.literal_at-theirs.ensures
    (subst (λ (k : ℕ). equal ≡ true → AreEqualIn (gates_of p.graph) (copy_of p.second c.literal_at-theirs.result) (copy_of p.first k)) c.literal_at-ours.ensures c.in_ok-equal.ensures))

pub returns : goal.returns
returns c =
    compare-end c.args.pair.now c.args.first.now c.args.second.now c.loop-place.place (length c.args.first.now) c.loop-place.found.open (omega (arith, c.loop-place-test.false)) c.loop-place.invariant
