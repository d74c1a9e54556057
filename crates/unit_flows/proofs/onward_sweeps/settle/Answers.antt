use Rattle.std.proofs.Common.{◌∙◌, refl}
use Rattle.unit_flows.proofs.onward_sweeps.settle.Goals as goal

pub loop-init : goal.loop-init
loop-init c = record {
  reach = λ held went came h. h;
  long_before = refl;
  long_after = refl;
}

pub sweep-kept-requires : goal.sweep-kept-requires
sweep-kept-requires c = c.requires

pub returns-then-kept-len-clause-reach : goal.returns-then-kept-len-clause-reach
returns-then-kept-len-clause-reach c = λ held went came h. c.sweep-kept.ensures.reach held went came (c.loop.invariant.reach held went came h)

pub returns-then-kept-len-clause-before : goal.returns-then-kept-len-clause-before
returns-then-kept-len-clause-before c = c.sweep-kept.ensures.before ∙ c.loop.invariant.long_before

pub returns-then-kept-len-clause-after : goal.returns-then-kept-len-clause-after
returns-then-kept-len-clause-after c = c.sweep-kept.ensures.after ∙ c.loop.invariant.long_after

pub loop-preserved : goal.loop-preserved
loop-preserved c = record {
  reach = λ held went came h. c.sweep-kept.ensures.reach held went came (c.loop.invariant.reach held went came h);
  long_before = c.sweep-kept.ensures.before ∙ c.loop.invariant.long_before;
  long_after = c.sweep-kept.ensures.after ∙ c.loop.invariant.long_after;
}

pub returns-clause-reach : goal.returns-clause-reach
returns-clause-reach c = c.loop.invariant.reach

pub returns-clause-before : goal.returns-clause-before
returns-clause-before c = c.loop.invariant.long_before

pub returns-clause-after : goal.returns-clause-after
returns-clause-after c = c.loop.invariant.long_after
