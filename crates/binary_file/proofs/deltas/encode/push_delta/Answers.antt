use Rattle.std.proofs.Common.{inl, inr, ◌∙◌}
use Rattle.binary_file.proofs.DeltaLaws.{Spells-more, Spells-end}
use Rattle.binary_file.proofs.deltas.encode.push_delta.Goals as goal
use Rattle.binary_file.proofs.deltas.encode.push_delta.Goals.{else-loop-test, then-loop-test+then-rest-lt128}

pub loop-preserved : goal.loop-preserved
loop-preserved g c = Spells-more c.args.bytes.now.items c.loop.bytes.items c.push.new.self.items c.loop.counter c.loop.rest c.args.number
    c.loop-test.true c.if-rest-lt128.false c.loop.invariant c.push.ensures.items

pub returns-clause-items : goal.returns-clause-items
returns-clause-items g c =
    let whole = Spells-end c.args.bytes.now.items c.loop.bytes.items c.loop.counter c.loop.rest c.args.number c.loop.auto.counter-end in
    elim c.loop-test.branch [
      | else-loop-test w ↦ c.push-2.ensures.items ∙ whole (inl w.loop-test.false) c.loop.invariant
      | then-loop-test+then-rest-lt128 w ↦ c.push-2.ensures.items ∙ whole (inr w.if-rest-lt128.true) c.loop.invariant
    ]
