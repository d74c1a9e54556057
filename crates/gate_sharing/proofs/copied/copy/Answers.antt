use Rattle.std.proofs.Common.{◌≡◌, ◌∙◌, ◌+◌, List, Some, ℕ, arith, ap, sym, refl, subst, length, slice_get}
use Rattle.std.proofs.lemmas.Option.{slice_get_read}
use Rattle.aig_graph.specs.declared.graph.Gate.{Gate}
use Rattle.aig_graph.specs.Graph.{Graph, variable, variables_end}
use Rattle.aig_graph.specs.Gates.{Gates, Grows}
use Rattle.gate_sharing.specs.Shared.{IsSharedLiteral}
use Rattle.gate_sharing.specs.Copies.{AreShared, Copy, CopiesValues, copied_end, copy_of, with_literal}
use Rattle.gate_sharing.proofs.SharedLaws.{grows-itself, grows-transitive, respects-fewer}
use Rattle.gate_sharing.proofs.CopyLaws.{end-more, fan-ins-there, gate-copied, shared-push}
use Rattle.gate_sharing.proofs.copied.copy.Goals as goal

pub loop-gate-init : goal.loop-gate-init
loop-gate-init c = record {
  grows = grows-itself c.args.shared.now;
  right = λ values negated right. right;
  first = refl;
  long = omega (arith, c.requires.long);
  within = c.requires.within;
  follows = λ values own respects of_own right follows. subst (λ (n : ℕ). CopiesValues c.args.leaves n values own) (sym c.requires.long) follows;
}

pub gate-requires-clause-a : goal.gate-requires-clause-a
gate-requires-clause-a c =
    let g : Graph = c.args.aig.now in
    let k : ℕ = c.loop-gate.gate-index in
    let items : List Gate = c.gates-gate-items.result.now in
    let gate : Gate = c.gate-item.result in
    let there : slice_get g.gates k ≡ Some gate =
    ap (λ (xs : List Gate). slice_get xs k) (sym c.gates-gate-items.ensures.value) ∙ slice_get_read items (length items) k gate refl c.loop-gate-test.true c.gate-item.is in
    let fan_ins = fan-ins-there g c.loop-gate.shared c.loop-gate.shared (grows-itself c.loop-gate.shared) gate k there c.gates-gate-items.ensures.graph c.loop-gate.copied c.loop-gate.invariant.long in
    let here : IsSharedLiteral c.loop-gate.shared (copy_of c.loop-gate.copied gate.rhs0) = c.loop-gate.invariant.within gate.rhs0 fan_ins.0 in
    let same : variable c.literal.result ≡ variable (copy_of c.loop-gate.copied gate.rhs0) = ap variable c.literal.ensures in
    omega (arith, here, same, c.find-a.ensures.below)

pub gate-requires-clause-b : goal.gate-requires-clause-b
gate-requires-clause-b c =
    let g : Graph = c.args.aig.now in
    let k : ℕ = c.loop-gate.gate-index in
    let items : List Gate = c.gates-gate-items.result.now in
    let gate : Gate = c.gate-item.result in
    let there : slice_get g.gates k ≡ Some gate =
    ap (λ (xs : List Gate). slice_get xs k) (sym c.gates-gate-items.ensures.value) ∙ slice_get_read items (length items) k gate refl c.loop-gate-test.true c.gate-item.is in
    let fan_ins = fan-ins-there g c.loop-gate.shared c.loop-gate.shared (grows-itself c.loop-gate.shared) gate k there c.gates-gate-items.ensures.graph c.loop-gate.copied c.loop-gate.invariant.long in
    let here : IsSharedLiteral c.loop-gate.shared (copy_of c.loop-gate.copied gate.rhs1) = c.loop-gate.invariant.within gate.rhs1 fan_ins.1 in
    let same : variable c.literal-in-loop-gate.result ≡ variable (copy_of c.loop-gate.copied gate.rhs1) = ap variable c.literal-in-loop-gate.ensures in
    omega (arith, here, same, c.find-b.ensures.below)

pub loop-gate-preserved : goal.loop-gate-preserved
loop-gate-preserved c =
    let g : Graph = c.args.aig.now in
    let i : ℕ = c.loop-gate.gate-index in
    let items : List Gate = c.gates-gate-items.result.now in
    let gate : Gate = c.gate-item.result in
    let k : Gates = c.loop-gate.shared in
    let l : Gates = c.gate.new.self in
    let copied : Copy = c.loop-gate.copied in
    let new : ℕ = c.find.result in
    let grows : Grows k l = c.in_ok-lit.ensures.grows in
    let there : slice_get g.gates i ≡ Some gate =
    ap (λ (xs : List Gate). slice_get xs i) (sym c.gates-gate-items.ensures.value) ∙ slice_get_read items (length items) i gate refl c.loop-gate-test.true c.gate-item.is in
    let pushed : c.push.new.self ≡ with_literal copied new = c.in_ok-push.ensures in
    let here : IsSharedLiteral l new = omega (arith, c.find.ensures.below, c.in_ok-lit.ensures.is.within) in
    let end : copied_end c.push.new.self ≡ copied_end copied + 1 = ap (λ (p : Copy). copied_end p) pushed ∙ end-more copied new in
    record {
      grows = grows-transitive c.args.shared.now k l c.loop-gate.invariant.grows grows;
      right = λ values negated right. c.find.ensures.right values negated (c.find-b.ensures.right values negated (c.find-a.ensures.right values negated (c.loop-gate.invariant.right values negated right)));
      first = ap (λ (p : Copy). p.first) pushed ∙ c.loop-gate.invariant.first;
      long = omega (arith, end, c.loop-gate.invariant.long);
      within = subst (λ (p : Copy). AreShared l p) (sym pushed) (shared-push copied new k l grows c.loop-gate.invariant.within here);
      follows = λ values own respects of_own right follows.
          let negated = respects.negation in
          let one = c.loop-gate.invariant.right values negated right in
          let two = c.find-a.ensures.right values negated one in
          let three = c.find-b.ensures.right values negated two in
          let step : CopiesValues (with_literal copied new) (copied_end copied + 1) values own =
          gate-copied g k l grows gate i there c.gates-gate-items.ensures.graph copied c.loop-gate.invariant.long c.find-a.result c.find-b.result c.in_ok-lit.lit new values own respects of_own c.in_ok-lit.ensures.is
          (c.find-a.ensures.value values negated one ∙ ap values c.literal.ensures) (c.find-b.ensures.value values negated two ∙ ap values c.literal-in-loop-gate.ensures) (c.find.ensures.value values negated three)
          (c.loop-gate.invariant.follows values own (respects-fewer k l grows values respects) of_own right follows) in
          subst (λ (n : ℕ). CopiesValues c.push.new.self n values own) (sym end) (subst (λ (p : Copy). CopiesValues p (copied_end copied + 1) values own) (sym pushed) step);
    }

pub returns-clause-copies : goal.returns-clause-copies
returns-clause-copies c =
    let g : Graph = c.args.aig.now in
    let end : copied_end c.loop-gate.copied ≡ variables_end g =
    omega (arith, c.loop-gate.invariant.long, c.loop-gate-test.false, c.loop-gate.auto.gate-index-end, ap (λ (xs : List Gate). length xs) c.gates-gate-items.ensures.value) in
    record {
      first = c.loop-gate.invariant.first;
      long = end;
      within = c.loop-gate.invariant.within;
      follows = λ values own respects of_own right follows. subst (λ (n : ℕ). CopiesValues c.loop-gate.copied n values own) end (c.loop-gate.invariant.follows values own respects of_own right follows);
    }
