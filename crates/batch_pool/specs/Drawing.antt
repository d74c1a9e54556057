-- What callers see of the draws and the drawers.
use Rattle.std.specs.Prelude.{◌≡◌, ℕ, ◌<◌, List, [], ◌∷◌, ◌++◌, All, length, slice_index_or}
use Rattle.batch_pool.specs.Rule.{past, times, total}
use Rattle.batch_pool.specs.declared.draws.Draws.{Draws}
use Rattle.batch_pool.specs.declared.draws.Drawer.{Drawer}

-- how many numbers are jobs
abbrev pub jobs_of : Draws → ℕ
jobs_of s = s.jobs

-- how many drawers share the counter
abbrev pub drawers_of : Draws → ℕ
drawers_of s = s.drawers

-- the numbers that the drawer drew, in order
abbrev pub drawn : Drawer → List ℕ
drawn d = d.seat.me.0.drawn

-- the drawer drew the number, which is past all that it drew before
pub record HasDrawn (old new : Drawer) (n : ℕ) : Type 0 where
  pub grows : drawn new ≡ drawn old ++ n ∷ []
  pub rises : All (λ x. x < n) (drawn old)

-- the drawer is one of this counter
abbrev pub IsDrawerOf : Draws → Drawer → Type 0
IsDrawerOf s d = d.seat.table_id ≡ s.table.shared.table_id

-- the i-th drawer has place i
abbrev pub AreInPlace : List Drawer → Type 0
AreInPlace ds = (i : ℕ) (d : Drawer) → i < length ds → (slice_index_or ds i d).worker ≡ i

-- all numbers that it drew are jobs
abbrev pub IsGoing : Draws → Drawer → Type 0
IsGoing s d = past s.jobs (drawn d) ≡ 0

-- one number that it drew is no job: it was told that no job is left
abbrev pub IsDone : Draws → Drawer → Type 0
IsDone s d = past s.jobs (drawn d) ≡ 1

-- how often they drew the number x, all together
abbrev pub times_drawn : ℕ → List Drawer → ℕ
times_drawn x ds = total (λ d. times x (drawn d)) ds
