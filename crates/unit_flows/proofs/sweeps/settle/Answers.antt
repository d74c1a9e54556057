use Rattle.std.proofs.Common.{◌∙◌, refl}
use Rattle.unit_flows.proofs.sweeps.settle.Goals as goal

pub loop-init : goal.loop-init
loop-init c = record {
  reach = λ held h. h;
  long_before = refl;
  long_after = refl;
}

pub sweep-kept-requires-clause-flows : goal.sweep-kept-requires-clause-flows
sweep-kept-requires-clause-flows c = c.requires.flows

pub sweep-kept-requires-clause-before : goal.sweep-kept-requires-clause-before
sweep-kept-requires-clause-before c = c.loop.invariant.long_before ∙ c.requires.before

pub sweep-kept-requires-clause-after : goal.sweep-kept-requires-clause-after
sweep-kept-requires-clause-after c = c.loop.invariant.long_after ∙ c.requires.after

pub returns-then-kept-len-clause-reach : goal.returns-then-kept-len-clause-reach
returns-then-kept-len-clause-reach c = λ held h. c.sweep-kept.ensures.reach held (c.loop.invariant.reach held h)

pub returns-then-kept-len-clause-before : goal.returns-then-kept-len-clause-before
returns-then-kept-len-clause-before c = c.sweep-kept.ensures.before ∙ c.loop.invariant.long_before

pub returns-then-kept-len-clause-after : goal.returns-then-kept-len-clause-after
returns-then-kept-len-clause-after c = c.sweep-kept.ensures.after ∙ c.loop.invariant.long_after

pub loop-preserved : goal.loop-preserved
loop-preserved c = record {
  reach = λ held h. c.sweep-kept.ensures.reach held (c.loop.invariant.reach held h);
  long_before = c.sweep-kept.ensures.before ∙ c.loop.invariant.long_before;
  long_after = c.sweep-kept.ensures.after ∙ c.loop.invariant.long_after;
}

pub returns-clause-reach : goal.returns-clause-reach
returns-clause-reach c = c.loop.invariant.reach

pub returns-clause-before : goal.returns-clause-before
returns-clause-before c = c.loop.invariant.long_before

pub returns-clause-after : goal.returns-clause-after
returns-clause-after c = c.loop.invariant.long_after
