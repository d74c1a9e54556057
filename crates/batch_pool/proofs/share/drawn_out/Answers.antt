use Rattle.std.proofs.Common.{List, [], ◌∷◌, ◌++◌, All, arith, refl, sym, ap, ◌∙◌, subst}
use Rattle.batch_pool.specs.Drawing.{jobs_of}
use Rattle.batch_pool.specs.declared.share.Numbered.{Numbered}
use Rattle.batch_pool.specs.Sharing.{IsOutcome}
use Rattle.batch_pool.proofs.RisingLaws.{after_last, after_last_snoc, after_last_le}
use Rattle.batch_pool.proofs.SharingLaws.{next_number, same_jobs, all_snoc}
use Rattle.batch_pool.proofs.share.drawn_out.Goals as goal

pub loop-number-smaller : goal.loop-number-smaller
loop-number-smaller g c =
    let drew = c.in-Some.ensures.some in
    let at = ap after_last drew.grows ∙ after_last_snoc c.loop-number.drawer.seat.me.0.drawn c.in-Some.number in
    let le = after_last_le c.in-Some.number c.loop-number.drawer.seat.me.0.drawn drew.rises in
    omega (arith, at, le, c.in-Some.ensures.job)

pub loop-number-preserved : goal.loop-number-preserved
loop-number-preserved g c =
    let P : Numbered g.row.X.Denot → Type 0 = IsOutcome (goal.F-post g c.args.run.now) (jobs_of c.args.draws.now) in
    let inv = c.loop-number.invariant in
    let number = c.in-Some.number in
    let n : Numbered g.row.X.Denot = record { number = number; outcome = c.run-outcome.result } in
    let pushed = c.push_reserved.ensures.items ∙ ap (λ (l : List (Numbered g.row.X.Denot)). l ++ n ∷ []) c.in_ok-reserve.ensures.items in (
      c.in-Some.ensures.mine,
      c.in-Some.ensures.going,
      next_number _ _ c.loop-number.done.items c.push_reserved.new.self.items n number refl inv.2 c.in-Some.ensures.some.grows pushed,
      subst (λ (l : List (Numbered g.row.X.Denot)). All P l) (sym pushed)
          (all_snoc P c.loop-number.done.items n inv.3 (c.in-Some.ensures.job, c.run-outcome.ensures)),
    )

pub returns : goal.returns
returns g c =
    let inv = c.loop-number.invariant in
    let none = c.in_default.ensures.none in
    record {
      mine = c.in_default.ensures.mine;
      done = c.in_default.ensures.done;
      numbered = same_jobs _ none.0 _ _ c.loop-number.done.items inv.2 none.2.grows none.1;
      outcomes = inv.3;
    }
