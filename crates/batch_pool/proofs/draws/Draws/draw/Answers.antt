use Rattle.std.proofs.Common.{rules, ◌≡◌, ◌≤◌, ℕ, arith, ap, ◌∙◌, List, [], ◌∷◌, ◌++◌}
use Rattle.batch_pool.specs.Rule.{is_past, past}
use Rattle.batch_pool.specs.declared.draws.Drawer.{Drawer}
use Rattle.batch_pool.specs.Drawing.{HasDrawn, drawn}
use Rattle.batch_pool.proofs.WeightLaws.{weigh_snoc, is_past_job, is_past_none, all_below}
use Rattle.batch_pool.proofs.StepLaws.{draws}
use Rattle.batch_pool.proofs.draws.Draws.draw.Goals as goal

pub fetch_add-number-requires : goal.fetch_add-number-requires
fetch_add-number-requires c =
    let p = c.args.self.now.table.shared.key in
    let jobs = ap (λ q. q.jobs) c.args.self.now.key in
    let drawers = ap (λ q. q.drawers) c.args.self.now.key in
    let few = c.args.self.now.few in
    let none_past : past p.jobs c.args.drawer.now.seat.me.0.drawn ≡ 0 = ap (λ (j : ℕ). past j c.args.drawer.now.seat.me.0.drawn) jobs ∙ c.requires.going in (
      c.requires.mine,
      search rules,
      draws p c.args.self.now.table.shared.table_id.slots c.args.drawer.now.seat.id c.args.drawer.now.seat.me (omega (arith, jobs, drawers, few.0, few.1, few.2)) (omega (arith, none_past, c.args.drawer.now.share)),
    )

after_draw : (jobs n : ℕ) (old new : List ℕ) → past jobs old ≡ 0 → new ≡ old ++ n ∷ [] → past jobs new ≡ is_past jobs n
after_draw jobs n old new none is = ap (past jobs) is ∙ (let a = weigh_snoc (is_past jobs) old n in omega (arith, a, none))

pub returns-then-number-self-clause-going : goal.returns-then-number-self-clause-going
returns-then-number-self-clause-going c =
    let jobs = c.args.self.now.jobs in
    after_draw jobs c.fetch_add-number.result c.args.drawer.now.seat.me.0.drawn c.fetch_add-number.new.seat.me.0.drawn c.requires.going (ap (λ v. v.drawn) c.fetch_add-number.ensures.2.0)
    ∙ is_past_job jobs c.fetch_add-number.result c.if-number-self.true

pub returns-else-number-self-clause-done : goal.returns-else-number-self-clause-done
returns-else-number-self-clause-done c =
    let jobs = c.args.self.now.jobs in
    after_draw jobs c.fetch_add-number.result c.args.drawer.now.seat.me.0.drawn c.fetch_add-number.new.seat.me.0.drawn c.requires.going (ap (λ v. v.drawn) c.fetch_add-number.ensures.2.0)
    ∙ is_past_none jobs c.fetch_add-number.result c.if-number-self.false

pub returns-then-number-self-clause-some : goal.returns-then-number-self-clause-some
returns-then-number-self-clause-some c =
    record {
      grows = ap (λ v. v.drawn) c.fetch_add-number.ensures.2.0;
      rises = all_below c.fetch_add-number.result c.args.drawer.now.seat.me.0.drawn c.fetch_add-number.ensures.2.2;
    }

drew_none : (jobs n : ℕ) (old new : Drawer) → jobs ≤ n → drawn new ≡ drawn old ++ n ∷ [] → past n (drawn old) ≡ 0 → (m : ℕ) × (jobs ≤ m) × HasDrawn old new m
drew_none jobs n old new past_jobs grows none = (n, past_jobs, record { grows = grows; rises = all_below n (drawn old) none })

pub returns-else-number-self-clause-none : goal.returns-else-number-self-clause-none
returns-else-number-self-clause-none c =
    drew_none c.args.self.now.jobs c.fetch_add-number.result c.args.drawer.now _ c.if-number-self.false (ap (λ v. v.drawn) c.fetch_add-number.ensures.2.0) c.fetch_add-number.ensures.2.2
