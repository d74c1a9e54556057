use Rattle.std.proofs.Common.{ℕ, ◌≡◌, ◌≤◌, ◌∙◌, List, refl, arith, ap, sym, subst, length, take, get_or}
use Rattle.std.proofs.lemmas.List.{length-take-le, take_all}
use Rattle.aig_graph.specs.declared.graph.Latch.{Latch}
use Rattle.aig_graph.specs.Building.{with_next}
use Rattle.aig_graph.specs.Graph.{Graph, IsGraph, IsLiteralOf}
use Rattle.aig_graph.proofs.GraphLaws.{IsGraph-with_next}
use Rattle.map_circuits.proofs.ConstrainingLaws.{read-entry}
use Rattle.witness_circuits.specs.Latches.{with_nexts}
use Rattle.witness_circuits.proofs.LatchLaws.{length-with_nexts, next-more}
use Rattle.witness_circuits.proofs.latches.set_nexts.Goals as goal

pub loop-place-init : goal.loop-place-init
loop-place-init c = record { is = refl; graph = c.requires.graph }

pub set_latch-requires-clause-k : goal.set_latch-requires-clause-k
set_latch-requires-clause-k c =
    let g : Graph = c.args.gates.now in
    let nexts : List ℕ = c.args.nexts.now in
    let k : ℕ = c.loop-place.place in
    let short : length (take k nexts) ≤ length g.latches = omega (arith, length-take-le k nexts (omega (arith, c.loop-place-test.true)), c.loop-place-test.true, c.requires.many) in
    let same : length c.loop-place.gates.latches ≡ length g.latches = ap (λ (h : Graph). length h.latches) c.loop-place.invariant.is ∙ length-with_nexts (take k nexts) g.latches short in
    omega (arith, same, c.loop-place-test.true, c.requires.many)

pub set_latch-requires-clause-next : goal.set_latch-requires-clause-next
set_latch-requires-clause-next c =
    let g : Graph = c.args.gates.now in
    let nexts : List ℕ = c.args.nexts.now in
    let k : ℕ = c.loop-place.place in
    let h : Graph = record g { latches = with_nexts (take k nexts) g.latches } in
    let short : length (take k nexts) ≤ length g.latches = omega (arith, length-take-le k nexts (omega (arith, c.loop-place-test.true)), c.loop-place-test.true, c.requires.many) in
    let same : length (with_nexts (take k nexts) g.latches) ≡ length g.latches = length-with_nexts (take k nexts) g.latches short in
    let read = read-entry nexts k c.index-nexts-place.result c.loop-place-test.true c.index-nexts-place.is in
    let here : IsLiteralOf h (get_or nexts k 0) = omega (arith, c.requires.within k 0 c.loop-place-test.true, same) in
    subst (λ (i : Graph). IsLiteralOf i c.index-nexts-place.result) (sym c.loop-place.invariant.is) (subst (λ (l : ℕ). IsLiteralOf h l) (sym read) here)

pub loop-place-preserved : goal.loop-place-preserved
loop-place-preserved c =
    let g : Graph = c.args.gates.now in
    let nexts : List ℕ = c.args.nexts.now in
    let k : ℕ = c.loop-place.place in
    let before : Graph = c.loop-place.gates in
    let next : ℕ = c.index-nexts-place.result in
    let h : Graph = record g { latches = with_nexts (take k nexts) g.latches } in
    let short : length (take k nexts) ≤ length g.latches = omega (arith, length-take-le k nexts (omega (arith, c.loop-place-test.true)), c.loop-place-test.true, c.requires.many) in
    let same : length (with_nexts (take k nexts) g.latches) ≡ length g.latches = length-with_nexts (take k nexts) g.latches short in
    let read : next ≡ get_or nexts k 0 = read-entry nexts k next c.loop-place-test.true c.index-nexts-place.is in
    let here : IsLiteralOf h (get_or nexts k 0) = omega (arith, c.requires.within k 0 c.loop-place-test.true, same) in
    let within : IsLiteralOf before next = subst (λ (i : Graph). IsLiteralOf i next) (sym c.loop-place.invariant.is) (subst (λ (l : ℕ). IsLiteralOf h l) (sym read) here) in
    record {
      is = c.set_latch.ensures
          ∙ ap (λ (i : Graph). with_next i k next) c.loop-place.invariant.is
          ∙ ap (λ (n : ℕ). with_next h k n) read
          ∙ ap (λ (ls : List Latch). record g { latches = ls }) (next-more nexts g.latches k c.loop-place-test.true (omega (arith, c.loop-place-test.true, c.requires.many)));
      graph = subst (λ (i : Graph). IsGraph i) (sym c.set_latch.ensures) (IsGraph-with_next before before k next refl c.loop-place.invariant.graph within);
    }

pub returns-clause-is : goal.returns-clause-is
returns-clause-is c =
    c.loop-place.invariant.is ∙ ap (λ (ns : List ℕ). record c.args.gates.now { latches = with_nexts ns c.args.gates.now.latches }) (take_all c.loop-place.place c.args.nexts.now (omega (arith, c.loop-place-test.false)))
