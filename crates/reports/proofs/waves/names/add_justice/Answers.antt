use Rattle.std.proofs.Common.{◌≡◌, ◌∙◌, ◌++◌, length, arith, ap}
use Rattle.reports.specs.waves.Names.{justice_words, words_before}
use Rattle.reports.proofs.WaveNameLaws.{one-more_property}
use Rattle.reports.proofs.waves.names.add_justice.Goals as goal

pub loop-k-preserved : goal.loop-k-preserved
loop-k-preserved c =
    one-more_property c.args.names.now.items c.loop-k.names.items _ c.args.justice.now c.loop-k.k c.index-justice-k.result c.loop-k-test.true c.index-justice-k.is
    c.loop-k.invariant (rw c.as_slice.ensures at c.in_ok-add_property.ensures)

pub returns : goal.returns
unfolding justice_words
returns c =
    let end : c.loop-k.k ≡ length c.args.justice.now = omega (arith, c.loop-k-test.false, c.loop-k.auto.k-end) in
    c.loop-k.invariant ∙ ap (λ n. c.args.names.now.items ++ words_before c.args.justice.now n) end
