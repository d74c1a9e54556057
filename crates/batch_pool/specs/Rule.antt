-- The rule of the counter: its word is the number of draws, and the seats together hold the numbers
-- below it, each once.
use Rattle.std.specs.Prelude.{◌≡◌, ℕ, zero, suc, ◌+◌, ◌-◌, ◌≤◌, ◌==◌, ltb, cond, List, [], ◌∷◌, ◌++◌, length, slice_index}
use mathlib.Core.Option.{some}
use lib.ListN.{get_elem?}
use Rattle.atomic_table.specs.Table.{State, Me, Step}
use Rattle.batch_pool.specs.declared.rule.Hand.{Hand}
use Rattle.batch_pool.specs.declared.rule.Plan.{Plan}

abbrev pub hand : ℕ → List ℕ → Hand
hand parts drawn = record { parts = parts; drawn = drawn }

abbrev pub plan : ℕ → ℕ → Plan
plan jobs drawers = record { jobs = jobs; drawers = drawers }

-- the weights of the numbers, added up
abbrev pub weigh : (ℕ → ℕ) → List ℕ → ℕ
weigh h [] = 0
weigh h (x ∷ xs) = h x + weigh h xs

-- the weights of the numbers below n, added up
abbrev pub weigh_below : (ℕ → ℕ) → ℕ → ℕ
weigh_below h zero = 0
weigh_below h (suc n) = weigh_below h n + h n

-- f of each, added up
abbrev pub total : {A : Type 0} → (A → ℕ) → List A → ℕ
total f [] = 0
total f (x ∷ xs) = f x + total f xs

abbrev pub is_it : ℕ → ℕ → ℕ
is_it x y = cond (y == x) 1 0

-- how often x stands in the list
abbrev pub times : ℕ → List ℕ → ℕ
times x xs = weigh (is_it x) xs

abbrev pub is_past : ℕ → ℕ → ℕ
is_past jobs y = cond (ltb y jobs) 0 1

-- how many numbers of the list are no jobs
abbrev pub past : ℕ → List ℕ → ℕ
past jobs xs = weigh (is_past jobs) xs

-- no more numbers that are no jobs than drawers, and a seat that stands for no drawer holds no
-- number
abbrev pub Fits : ℕ → Hand → Type 0
Fits jobs v = (past jobs v.drawn ≤ v.parts) × (v.parts ≡ 0 → v.drawn ≡ [])

-- the seats drew the numbers below the word once each, and a seat has at most its share of numbers
-- that are no jobs
pub record IsGiven (p : Plan) (s : State (Unit {0}) Hand) : Type 0 where
  pub one_word : length s.words ≡ 1
  pub shares : total (λ v. v.parts) s.views ≡ p.drawers
  pub drawn : (h : ℕ → ℕ) → total (λ v. weigh h v.drawn) s.views ≡ weigh_below h (slice_index s.words 0)
  pub each : (id : ℕ) (v : Hand) → get_elem? s.views id ≡ some v → Fits p.jobs v

-- the seat drew the number that it found, which is past all that it drew before
abbrev pub Drew : Step (Unit {0}) → Me (Unit {0}) Hand → ℕ → Me (Unit {0}) Hand → Type 0
Drew s m found m' = (m'.0 ≡ hand m.0.parts (m.0.drawn ++ found ∷ [])) × (m'.1 ≡ m.1) × (past found m.0.drawn ≡ 0)

-- the seat holds the numbers below the one found, each once
abbrev pub Tallied : Step (Unit {0}) → Me (Unit {0}) Hand → ℕ → Me (Unit {0}) Hand → Type 0
Tallied s m found m' = (h : ℕ → ℕ) → weigh h m.0.drawn ≡ weigh_below h found

abbrev pub dealt : Hand → Hand
dealt v = hand (v.parts - 1) v.drawn

abbrev pub one_drawer : Hand → Hand
one_drawer v = hand 1 []

abbrev pub together : Hand → Hand → Hand
together v w = hand (v.parts + w.parts) (v.drawn ++ w.drawn)
