use Rattle.std.proofs.Common.{ℕ, ◌<◌, ◌^◌, get_or, subst, sym, ◌∙◌, All}
use Rattle.std.proofs.lemmas.List.Elements.{All-drop}
use Rattle.ascii_file.proofs.SplitLaws.{split_more, sum_more}
use Rattle.ascii_file.proofs.parts.by_kind.justice.Goals as goal

pub loop-size-preserved : goal.loop-size-preserved
loop-size-preserved c =
    let i : ℕ = c.loop-size.size-index in
    let before = c.loop-size.invariant in (
      split_more c.args.sizes.now i c.loop-size.rest.now c.split_at.result.1.now c.in_ok-literals.field-0 c.loop-size.properties.items c.push.new.self.items _ c.loop-size-test.true before.0
          (c.in_ok-literals.ensures ∙ c.split_at.ensures.front) c.split_at.ensures.back c.in_ok-push.ensures.items,
      sum_more c.args.sizes.now i c.loop-size.rest.now c.split_at.result.1.now c.loop-size-test.true before.1 c.split_at.ensures.back,
      subst (All (λ lit. lit < 2 ^ 29)) (sym c.split_at.ensures.back) (All-drop (λ lit. lit < 2 ^ 29) (get_or c.args.sizes.now i 0) c.loop-size.rest.now before.2),
    )
