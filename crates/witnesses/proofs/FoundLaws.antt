-- What is found of bad states, a step after another.
use Rattle.std.proofs.Common.{ℕ, zero, suc, ◌+◌, ◌<◌, ◌≤◌, ◌≡◌, ◌==◌, ◌&&◌, inl, inr, map, ap₂, Bool, true, false, cond, List, [], ◌∷◌, Option, Some, None, get_or, length, slice_get, refl, arith, ap, sym, ◌∙◌, subst}
use Rattle.std.specs.List.{list_all}
use Rattle.std.proofs.lemmas.Bool.{cases_lt, false≢true, and_parts}
use Rattle.std.proofs.lemmas.Option.{same_Some, none-some}
use Rattle.aig_graph.specs.Circuits.{AreLiteralsOf, IsNetlist, Netlist}
use Rattle.lane_sim.specs.declared.stimulus.InputSequence.{InputSequence}
use Rattle.lane_sim.specs.Traces.{inputs_of, choice_of, value_in}
use Rattle.witnesses.specs.declared.witness.Property.{Property}
use Rattle.witnesses.specs.declared.witness.Property.TheVariants.{Bad, Justice}
use Rattle.witnesses.specs.Reaching.{bad_row, constraint_row, ReachesIn}
use Rattle.witnesses.specs.Circuits.{bad_literals}
use Rattle.witnesses.specs.Found.{AreTrue, IsReachingStep, IsFoundBelow, noted}

-- a value that is 1 stands at its place
stands : (row : List Bool) (n : ℕ) → get_or row n false ≡ true → slice_get row n ≡ Some true
stands [] n is = absurd (false≢true is)
stands (b ∷ row) zero is = ap Some is
stands (b ∷ row) (suc n) is = stands row n is

is_there : (row : List Bool) (n : ℕ) → slice_get row n ≡ Some true → get_or row n false ≡ true
is_there [] n at = absurd (none-some true at)
is_there (b ∷ row) zero at = same_Some b true at
is_there (b ∷ row) (suc n) at = is_there row n at

-- all are 1 if each is
pub all_true : (f : ℕ → Bool) (xs : List ℕ) → AreTrue f xs → list_all (λ b. b) (map f xs) ≡ true
all_true f [] each = refl
all_true f (x ∷ xs) each = both (f x) (list_all (λ b. b) (map f xs)) (each 0 (omega arith)) (all_true f xs (λ k h. each (suc k) (omega (arith, h)))) where
  both : (a b : Bool) → a ≡ true → b ≡ true → (a && b) ≡ true
  both a b first second = ap₂ (λ (x y : Bool). x && y) first second

-- and each is if all are
pub each_true : (f : ℕ → Bool) (xs : List ℕ) → list_all (λ b. b) (map f xs) ≡ true → AreTrue f xs
each_true f [] all k h = absurd (omega (arith, h))
each_true f (x ∷ xs) all zero h = (and_parts (f x) (list_all (λ b. b) (map f xs)) all).0
each_true f (x ∷ xs) all (suc k) h = each_true f xs (and_parts (f x) (list_all (λ b. b) (map f xs)) all).1 k (omega (arith, h))

module _ (c : Netlist) (run : InputSequence) where
  abbrev row : ℕ → List Bool
  row t = bad_row c (inputs_of run) (choice_of run) t

  abbrev holds : ℕ → Bool
  holds t = list_all (λ b. b) (constraint_row c (inputs_of run) (choice_of run) t)

  -- before the first step nothing is found
  pub none_yet : (p : Property) → IsFoundBelow c run 0 p None
  none_yet (Bad n) = λ u less r. absurd (omega (arith, less))
  none_yet (Justice n) = tt

  noted_now : (n t : ℕ) (b : Bool) → get_or (row t) n false ≡ b → ((u : ℕ) → u ≤ t → holds u ≡ true)
      → ((u : ℕ) → u < t → ReachesIn c run n u → ⊥) → IsFoundBelow c run (t + 1) (Bad n) (cond b (Some t) None)
  noted_now n t true is all none = record {
    within = omega arith;
    reaches = record { bad = stands (row t) n is; constrained = all };
    before = none;
  }
  noted_now n t false is all none = λ u less r. elim (cases_lt u t) [
    | inl before ↦ none u before r
    | inr here ↦
        let same : u ≡ t = omega (arith, less, here) in
        false≢true (sym is ∙ is_there (row t) n (subst (λ (k : ℕ). slice_get (row k) n ≡ Some true) same r.bad))
  ]

  -- one step more, at which and before which the constraints hold
  pub noted_more : (t : ℕ) (p : Property) (found : Option ℕ) → ((u : ℕ) → u ≤ t → holds u ≡ true) → IsFoundBelow c run t p found
      → IsFoundBelow c run (t + 1) p (noted (row t) t p found)
  noted_more t (Bad n) (Some u) all first = record { within = omega (arith, first.within); reaches = first.reaches; before = first.before }
  noted_more t (Bad n) None all none = noted_now n t (get_or (row t) n false) refl all none
  noted_more t (Justice n) found all before = tt

  -- if no later step reaches it, what was found so far is what is found
  pub finished : (t : ℕ) (p : Property) (found : Option ℕ) → t ≤ length run.steps → ((n u : ℕ) → t ≤ u → u < length run.steps → ReachesIn c run n u → ⊥)
      → IsFoundBelow c run t p found → IsReachingStep c run p found
  finished t (Bad n) None within later none = λ u less r. elim (cases_lt u t) [
    | inl before ↦ none u before r
    | inr after ↦ later n u (omega (arith, after)) less r
  ]
  finished t (Bad n) (Some u) within later first = record { within = omega (arith, first.within, within); reaches = first.reaches; before = first.before }
  finished t (Justice n) found within later before = tt

  -- after a step at which a constraint is 0 no step reaches it
  pub stopped : (t : ℕ) → (AreTrue (value_in c.aig run t) c.props.constraints → ⊥) → (n u : ℕ) → t ≤ u → ReachesIn c run n u → ⊥
  stopped t broken n u after r = broken (each_true (value_in c.aig run t) c.props.constraints (r.constrained t after))

-- the literals of the bad states are the graph's
pub bad-in : (c : Netlist) → IsNetlist c → AreLiteralsOf c.aig (bad_literals c.props)
bad-in c valid = by_test (length c.props.bad == 0)
  where
    by_test : (b : Bool) → AreLiteralsOf c.aig (cond b c.props.outputs c.props.bad)
    by_test true = valid.props.outputs
    by_test false = valid.props.bad
