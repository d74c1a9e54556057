use Rattle.std.proofs.Common.{◌≡◌, ◌∙◌, ◌+◌, ◌-◌, ◌/◌, ◌<◌, ap, sym, arith, ℕ, Some, true, false}
use Rattle.frame_net.specs.FlowNet.{FlowNet, row_len, head, point_of}
use Rattle.cut_cert.specs.Steps.{precedes}
use Rattle.cut_cert.proofs.LookupLaws.{before-target, not-before-target}
use Rattle.cut_cert.proofs.lookup.place_of.Goals as goal

pub comes_before-requires : goal.comes_before-requires
comes_before-requires c =
    let m : ℕ = c.loop-low.low + (c.loop-low.high - c.loop-low.low) / 2 in
    let inside : m < row_len c.args.net.now c.args.node = omega (arith, c.loop-low-test.true, c.loop-low.invariant.within) in
    omega (arith, c.heads-heads.ensures.value m inside, c.known.ensures.network.heads_in c.args.node m c.requires inside)

pub loop-low-preserved-then-comes_before : goal.loop-low-preserved-then-comes_before
loop-low-preserved-then-comes_before c =
    let net : FlowNet = c.args.net.now in
    let m : ℕ = c.loop-low.low + (c.loop-low.high - c.loop-low.low) / 2 in
    let inside : m < row_len net c.args.node = omega (arith, c.loop-low-test.true, c.loop-low.invariant.within) in
    let is : precedes (point_of net (head net c.args.node m)) (Some c.args.point) ≡ true =
    ap (λ (x : ℕ). precedes (point_of net x) (Some c.args.point)) (sym (c.heads-heads.ensures.value m inside)) ∙ sym c.comes_before.ensures ∙ c.if-comes_before.true in
    record {
      ordered = omega (arith, c.loop-low-test.true);
      within = c.loop-low.invariant.within;
      around = λ rise k l at. (before-target net c.known.ensures.network rise c.args.node c.requires c.args.point k l at m inside is, (c.loop-low.invariant.around rise k l at).1);
    }

pub loop-low-preserved : goal.loop-low-preserved
loop-low-preserved c =
    let net : FlowNet = c.args.net.now in
    let m : ℕ = c.loop-low.low + (c.loop-low.high - c.loop-low.low) / 2 in
    let inside : m < row_len net c.args.node = omega (arith, c.loop-low-test.true, c.loop-low.invariant.within) in
    let is : precedes (point_of net (head net c.args.node m)) (Some c.args.point) ≡ false =
    ap (λ (x : ℕ). precedes (point_of net x) (Some c.args.point)) (sym (c.heads-heads.ensures.value m inside)) ∙ sym c.comes_before.ensures ∙ c.if-comes_before.false in
    record {
      ordered = omega (arith, c.loop-low-test.true);
      within = omega (arith, inside);
      around = λ rise k l at. ((c.loop-low.invariant.around rise k l at).0, not-before-target net c.known.ensures.network rise c.args.node c.requires c.args.point k l at m inside is);
    }

pub loop-low-init : goal.loop-low-init
loop-low-init c = record {
  ordered = omega arith;
  within = omega (arith, c.heads-heads.ensures.len);
  around = λ rise k l at. (omega arith, omega (arith, c.heads-heads.ensures.len, l));
}

pub returns-then-low-heads-clause-there : goal.returns-then-low-heads-clause-there
returns-then-low-heads-clause-there c = λ rise k l at.
    let around = c.loop-low.invariant.around rise k l at in
    let same : c.loop-low.low ≡ k = omega (arith, around.0, around.1, c.loop-low-test.false) in
    ap (λ (x : ℕ). Some x) same

pub returns-else-low-heads-clause-there : goal.returns-else-low-heads-clause-there
returns-else-low-heads-clause-there c = λ rise k l at. absurd (omega (arith, (c.loop-low.invariant.around rise k l at).0, l, c.if-low-heads.false, c.heads-heads.ensures.len))
