-- The steps at which bad states are reached first, noted a step after another.
use Rattle.std.specs.Prelude.{ℕ, ◌<◌, ◌≡◌, Bool, true, false, List, length, Option, Some, None, slice_get, if◌then◌else◌}
use Rattle.std.specs.List.{slice_index_or}
use Rattle.std.specs.Option.{MatchOption}
use Rattle.aig_graph.specs.Circuits.{Netlist}
use Rattle.lane_sim.specs.declared.stimulus.InputSequence.{InputSequence}
use Rattle.witnesses.specs.Reaching.{IsFirstReached, NeverReached, ReachesIn}
use Rattle.witnesses.specs.declared.witness.Property.{Property}
use Rattle.witnesses.specs.declared.witness.Property.TheVariants.{Bad, Justice}

-- each literal is 1
abbrev pub AreTrue : (ℕ → Bool) → List ℕ → Type 0
AreTrue values literals = (k : ℕ) → k < length literals → values (slice_index_or literals k 0) ≡ true

-- whether the property is a bad state that is 1, by the values of the bad states
abbrev pub is_one_of : List Bool → Property → Bool
is_one_of row (Bad n) = slice_index_or row n false
is_one_of row (Justice n) = false

-- what was found of a property, or this step if nothing was found before and it is reached here
abbrev pub noted : List Bool → ℕ → Property → Option ℕ → Option ℕ
noted row step p (Some found) = Some found
noted row step p None = if is_one_of row p then Some step else None

-- the first step below t that reaches bad state n
pub record IsFirstBelow (c : Netlist) (run : InputSequence) (n t u : ℕ) : Type 0 where
  pub within : u < t
  pub reaches : ReachesIn c run n u
  pub before : (w : ℕ) → w < u → ReachesIn c run n w → ⊥

-- what was found by the steps below t, if it is a bad state
abbrev pub IsFoundBelow : Netlist → InputSequence → ℕ → Property → Option ℕ → Type 0
IsFoundBelow c run t (Bad n) found = MatchOption found ((u : ℕ) → u < t → ReachesIn c run n u → ⊥) (IsFirstBelow c run n t)
IsFoundBelow c run t (Justice n) found = Unit {0}

-- the first step of the sequence that reaches it, or that none does
abbrev pub IsReachingStep : Netlist → InputSequence → Property → Option ℕ → Type 0
IsReachingStep c run (Bad n) found = MatchOption found (NeverReached c run n) (IsFirstReached c run n)
IsReachingStep c run (Justice n) found = Unit {0}

-- that of each property
abbrev pub AreFound : Netlist → InputSequence → List Property → List (Option ℕ) → Type 0
AreFound c run properties found = (i : ℕ) (p : Property) → slice_get properties i ≡ Some p → IsReachingStep c run p (slice_index_or found i None)
