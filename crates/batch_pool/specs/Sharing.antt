-- What a worker gives back, and what stands in the slots of the jobs.
use Rattle.std.specs.Prelude.{◌≡◌, ℕ, ◌<◌, cond, List, map, slice_index_or, All, Option, None, Some, is_some}
use Rattle.batch_pool.specs.Rule.{times}
use Rattle.batch_pool.specs.Drawing.{drawn, IsDrawerOf, IsDone, jobs_of}
use Rattle.batch_pool.specs.declared.draws.Draws.{Draws}
use Rattle.batch_pool.specs.declared.share.Numbered.{Numbered}
use Rattle.batch_pool.specs.declared.share.Share.{Share}

module _ {X : Type 0} where
  -- the jobs of the outcomes
  abbrev pub numbers : List (Numbered X) → List ℕ
  numbers xs = map (λ (n : Numbered X). n.number) xs

  -- 1 if the slot has an outcome
  abbrev pub filled : List (Option X) → ℕ → ℕ
  filled slots k = cond (is_some (slice_index_or slots k None)) 1 0

  abbrev pub IsFilled : Option X → Type 0
  IsFilled slot = 0 < cond (is_some slot) 1 0

-- `gives k x` says that x is an outcome of job k
module _ {X : Type 0} (gives : ℕ → X → Type 0) where
  -- the number is that of a job, and the outcome one of that job
  abbrev pub IsOutcome : ℕ → Numbered X → Type 0
  IsOutcome jobs n = (n.number < jobs) × gives n.number n.outcome

  -- the outcomes are those of the jobs that the drawer drew, and its last draw found none
  pub record IsShare (draws : Draws) (s : Share X) : Type 0 where
    pub mine : IsDrawerOf draws s.drawer
    pub done : IsDone draws s.drawer
    pub numbered : (x : ℕ) → x < jobs_of draws → times x (drawn s.drawer) ≡ times x (numbers s.done.items)
    pub outcomes : All (IsOutcome (jobs_of draws)) s.done.items

  -- each slot is empty, or has an outcome of the job of its number
  abbrev pub AreSlots : List (Option X) → Type 0
  AreSlots slots = (k : ℕ) (x : X) → slice_index_or slots k None ≡ Some x → gives k x
