-- What keeps a graph a graph, and what follows from being one.
use Rattle.std.proofs.Common.{get_or, cond, not, Bool, true, false, ℕ, ◌+◌, ◌<◌, ◌≤◌, ◌≡◌, ◌^◌, suc, zero, List, [], ◌∷◌, ◌++◌, length, Some, refl, arith, slice_get, slice_set, ap, sym, subst, ◌⊎◌, inl, inr, length-append}
use Rattle.std.proofs.lemmas.Option.{same_Some, slice_get-get_or, slice_get_within}
use Rattle.std.proofs.Math.Seq.{take-length}
use Rattle.std.proofs.lemmas.List.Sums.{sum_by-cons}
use Rattle.std.specs.List.{All, count_by}
use Rattle.aig_graph.proofs.PlacesLaws.{slice_get_push}
use Rattle.aig_graph.specs.declared.literal.TheConstants.{MAX_VARIABLES}
use Rattle.aig_graph.specs.declared.graph.Gate.{Gate}
use Rattle.aig_graph.specs.declared.graph.Latch.{Latch}
use Rattle.aig_graph.specs.Graph.{Graph, IsGraph, IsGateAt, IsLiteralOf, variable, variables_end, first_latch, first_gate, is_free, free_latches, known_latches}
use Rattle.aig_graph.specs.Building.{gate_of, with_gate, next_at, with_next}

-- the gate of two literals of variables below one stands there
pub gate_of-at : (v a b : ℕ) → variable a < v → variable b < v → IsGateAt v (gate_of a b)
gate_of-at v a b p q = record { ordered = omega arith; below = omega arith }

-- g is the fields, and h the value, of a struct that is seen as a graph
pub IsGraph-with_gate : (g h : Graph) (a b : ℕ) → g ≡ h → IsGraph g → variables_end h < 2 ^ 28 → IsLiteralOf h a → IsLiteralOf h b → IsGraph (with_gate g (gate_of a b))
IsGraph-with_gate g h a b same_graph valid room of_h_a of_h_b =
    let in_a : IsLiteralOf g a = subst (λ (x : Graph). IsLiteralOf x a) (sym same_graph) of_h_a in
    let in_b : IsLiteralOf g b = subst (λ (x : Graph). IsLiteralOf x b) (sym same_graph) of_h_b in
    let ends : variables_end g ≡ variables_end h = ap variables_end same_graph in
    let longer : length (g.gates ++ gate_of a b ∷ []) ≡ length g.gates + 1 = length-append g.gates (gate_of a b ∷ []) in
    record {
      small = omega arith;
      latches = λ k latch e. let before : variable latch.next < variables_end g = valid.latches k latch e in omega arith;
      gates = λ k gate e. elim (slice_get_push g.gates (gate_of a b) k gate e) [
        | inl h ↦ valid.gates k gate h
        | inr h ↦ subst (λ (x : Gate). IsGateAt (first_gate g + k) x) (sym h.1) (gate_of-at (first_gate g + k) a b (omega arith) (omega arith))
      ];
    }

-- a list with the latch at a place replaced, its reset kept, is one with another next literal there
pub next_at-slice_set : (xs : List Latch) (k next : ℕ) (latch : Latch) → slice_get xs k ≡ Some latch
    → slice_set xs k (record { next = next; reset = latch.reset }) ≡ next_at xs k next
next_at-slice_set [] k next latch e = refl
next_at-slice_set (x ∷ xs) zero next latch e = let same : x ≡ latch = same_Some x latch e in cc
next_at-slice_set (x ∷ xs) (suc k) next latch e = ap (λ ys. x ∷ ys) (next_at-slice_set xs k next latch e)

-- with another next literal there are as many latches
pub length-next_at : (xs : List Latch) (k next : ℕ) → length (next_at xs k next) ≡ length xs
length-next_at [] k next = refl
length-next_at (x ∷ xs) zero next = refl
length-next_at (x ∷ xs) (suc k) next = ap suc (length-next_at xs k next)

next_at-cases : (xs : List Latch) (k next j : ℕ) (latch : Latch) → slice_get (next_at xs k next) j ≡ Some latch
    → (slice_get xs j ≡ Some latch) ⊎ (latch.next ≡ next)
next_at-cases [] k next j latch e = inl e
next_at-cases (x ∷ xs) zero next zero latch e = inr (ap (λ (l : Latch). l.next) (sym (same_Some (record x { next = next }) latch e)))
next_at-cases (x ∷ xs) zero next (suc j) latch e = inl e
next_at-cases (x ∷ xs) (suc k) next zero latch e = inl e
next_at-cases (x ∷ xs) (suc k) next (suc j) latch e = next_at-cases xs k next j latch e

-- a graph with a next literal of it in the place of another is one
pub IsGraph-with_next : (g h : Graph) (k next : ℕ) → g ≡ h → IsGraph g → IsLiteralOf h next → IsGraph (with_next g k next)
IsGraph-with_next g h k next same_graph valid of_h =
    let in_next : IsLiteralOf g next = subst (λ (x : Graph). IsLiteralOf x next) (sym same_graph) of_h in
    let same : length (next_at g.latches k next) ≡ length g.latches = length-next_at g.latches k next in
    record {
      small = omega arith;
      latches = λ j latch e. elim (next_at-cases g.latches k next j latch e) [
        | inl h ↦ (let before : variable latch.next < variables_end g = valid.latches j latch h in omega arith)
        | inr h ↦ rw h (omega arith)
      ];
      gates = λ j gate e. rw same (valid.gates j gate e);
    }

-- what holds of the element at each place holds of all
pub all_from_slice_get : {X : Type 0} (P : X → Type 0) (xs : List X) → ((k : ℕ) (x : X) → slice_get xs k ≡ Some x → P x) → All P xs
all_from_slice_get P xs every = λ k d h. every k (get_or xs k d) (slice_get-get_or xs k d h)

-- the next literals and the fan-ins of a graph are in range
pub latches-within : (g : Graph) (n : ℕ) → IsGraph g → n ≡ variables_end g → All (λ (latch : Latch). variable latch.next < n) g.latches
latches-within g n valid e = all_from_slice_get (λ (latch : Latch). variable latch.next < n) g.latches (λ k latch there.
    let within : variable latch.next < variables_end g = valid.latches k latch there in omega arith)

-- the fan-ins of a graph's gates are in range
pub gates-within : (g : Graph) (n : ℕ) → IsGraph g → n ≡ variables_end g
    → All (λ (gate : Gate). (variable gate.rhs0 < n) × (variable gate.rhs1 < n)) g.gates
gates-within g n valid e = all_from_slice_get (λ (gate : Gate). (variable gate.rhs0 < n) × (variable gate.rhs1 < n)) g.gates (λ k gate there.
    let at : IsGateAt (first_gate g + k) gate = valid.gates k gate there in
    let short : k < length g.gates = slice_get_within g.gates k gate there in
    (omega arith, omega arith))

-- those that pass a test and those that don't are all
pass_or_not : {X : Type 0} (test : X → Bool) (xs : List X) → count_by test xs + count_by (λ x. not (test x)) xs ≡ length xs
pass_or_not test [] = refl
pass_or_not test (x ∷ xs) =
    let passing = sum_by-cons (λ y. bit (test y)) x xs in
    let failing = sum_by-cons (λ y. bit (not (test y))) x xs in
    let others = pass_or_not test xs in
    let one = either (test x) in
    omega (arith, passing, failing, others, one)
  where
    bit : Bool → ℕ
    bit b = cond b 1 0

    either : (b : Bool) → bit b + bit (not b) ≡ 1
    either true = refl
    either false = refl

-- the known latches and the free ones are all
pub known_and_free : (g : Graph) → known_latches g + free_latches g ≡ length g.latches
known_and_free g = rw take-length (omega (arith, pass_or_not is_free g.latches))

-- there is room for the latches of a border that isn't larger than the known latches
pub room : (g : Graph) (n : ℕ) → IsGraph g → n ≤ known_latches g → first_latch g + free_latches g + n + length g.gates ≤ MAX_VARIABLES
room g n valid fewer = omega (arith, known_and_free g, valid.small)
