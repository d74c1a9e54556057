use Rattle.std.proofs.Common.{◌∙◌, sym, ap, refl, arith, rules, length, get_or, []}
use Rattle.std.proofs.lemmas.List.{get_or_read}
use Rattle.aig_graph.proofs.ShapeLaws.{same_sizes, size_at}
use Rattle.aig_graph.proofs.shape.have_same_sizes.Goals as goal

pub returns-then-len : goal.returns-then-len
returns-then-len c = (
  λ f. absurd (search rules),
  λ e. absurd (c.if-len.true (
      c.len.ensures ∙ ap length (get_or_read c.args.a.now c.loop-k.k c.index-a-k.result c.loop-k-test.true c.index-a-k.is [])
      ∙ sym (size_at c.args.a.now c.loop-k.k) ∙ ap (λ sizes. get_or sizes c.loop-k.k 0) e ∙ size_at c.args.b.now c.loop-k.k
      ∙ sym (c.len-in-loop-k.ensures ∙ ap length (get_or_read c.args.b.now c.loop-k.k c.index-b-k.result (omega (arith, c.loop-k-test.true, c.if-a-b.false)) c.index-b-k.is [])))),
)

pub returns : goal.returns
returns c = (λ _. same_sizes c.args.a.now c.args.b.now (omega (arith, c.if-a-b.false)) (λ i h. c.loop-k.invariant i (omega (arith, c.loop-k-test.false))), λ _. refl)
