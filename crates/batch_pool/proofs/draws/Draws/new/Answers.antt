use Rattle.std.proofs.Common.{rules, ◌≡◌, List, [], All, arith, sym, ap, ◌∙◌, subst}
use Rattle.std.proofs.lemmas.List.Elements.{All-push}
use Rattle.batch_pool.specs.declared.draws.Drawer.{Drawer}
use Rattle.batch_pool.specs.Drawing.{drawn}
use Rattle.batch_pool.proofs.StepLaws.{deals}
use Rattle.batch_pool.proofs.PlaceLaws.{one_more_place}
use Rattle.batch_pool.proofs.draws.Draws.new.Goals as goal

pub split_seat-share-requires : goal.split_seat-share-requires
split_seat-share-requires c =
    let inv = c.loop-worker.invariant in (
      inv.0,
      search rules,
      deals c.in_ok-table.table.shared.key c.loop-worker.seat.id c.loop-worker.seat.me.0 (omega (arith, inv.3, c.loop-worker-test.true)) inv.2,
    )

pub loop-worker-preserved : goal.loop-worker-preserved
loop-worker-preserved c =
    let inv = c.loop-worker.invariant in
    let split = c.split_seat-share.ensures in
    let pushed = c.push_reserved.ensures.items in
    let mine : Drawer → Type 0 = λ d. d.seat.table_id ≡ c.in_ok-table.table.shared.table_id in
    let fresh : Drawer → Type 0 = λ d. drawn d ≡ [] in (
      search rules,
      search rules,
      search rules,
      search rules,
      search rules,
      subst (λ (l : List Drawer). All mine l) (sym pushed) (All-push mine c.loop-worker.list.items _ inv.5 (split.3 ∙ inv.0)),
      subst (λ (l : List Drawer). All fresh l) (sym pushed) (All-push fresh c.loop-worker.list.items _ inv.6 (ap (λ m. m.0.drawn) split.4)),
      one_more_place _ _ _ inv.7 (sym inv.4) pushed,
    )
