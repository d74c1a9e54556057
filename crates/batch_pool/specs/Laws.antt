-- What the rule of the counter says of its word and of all numbers drawn.
use Rattle.std.specs.Prelude.{◌≡◌, ℕ, ◌+◌, ◌<◌, ◌≤◌, length, slice_index}
use Rattle.atomic_table.specs.Table.{State}
use Rattle.batch_pool.specs.declared.rule.Hand.{Hand}
use Rattle.batch_pool.specs.declared.rule.Plan.{Plan}
use Rattle.batch_pool.specs.Rule.{times, total}

-- the word counts the draws, and the numbers below it were drawn once each
pub record IsCount (p : Plan) (s : State (Unit {0}) Hand) : Type 0 where
  pub draws : total (λ v. length v.drawn) s.views ≡ slice_index s.words 0
  pub few : slice_index s.words 0 ≤ p.jobs + p.drawers
  pub once : (x : ℕ) → x < slice_index s.words 0 → total (λ v. times x v.drawn) s.views ≡ 1
  pub no_other : (x : ℕ) → slice_index s.words 0 ≤ x → total (λ v. times x v.drawn) s.views ≡ 0
