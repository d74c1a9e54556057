-- Equal streams are reflexive and transitive.
use Rattle.std.proofs.Common.{ℕ, ◌+◌, ◌<◌, ◌≡◌, Bool, true, false, List, [], ◌∷◌, length, get_or, map, take, Option, Some, None, refl, arith, ap, ◌∙◌, suc, zero, slice_get, count_by, cond, zero-add, sym}
use Rattle.std.specs.List.{range_with_len}
use Rattle.std.specs.List.Sorted.{IsStrictlyIncreasing}
use Rattle.std.proofs.lemmas.List.{get_or-map, length-map, get_or_default, ext_get_or}
use Rattle.std.proofs.lemmas.List.FromFn.{get_or-range_with_len, length-range_with_len}
use Rattle.std.proofs.lemmas.List.Kept.{AllPairs-from_increasing}
use Rattle.std.proofs.lemmas.List.Sums.{sum_by-cons}
use Rattle.std.proofs.lemmas.Option.{none-some, same_Some}
use Rattle.aig_graph.specs.declared.graph.Latch.{Latch}
use Rattle.aig_graph.specs.declared.graph.Reset.{Reset}
use Rattle.aig_graph.specs.declared.graph.Reset.TheVariants.{Zero, One, Free}
use Rattle.aig_graph.specs.Graph.{Graph, free_before, is_free, free_latches}
use Rattle.aig_graph.specs.Circuits.{Netlist}
use Rattle.aig_graph.specs.Value.{Inputs, Choice, value, value_within, latch_value, opening, opening_at, next_value}
use Rattle.aig_graph.specs.Streams.{property_literals, chosen}
use Rattle.aig_graph.specs.Laws.{all_free, composed, IsReflexive, IsTransitive}

-- functions that agree everywhere are one
pub funext : {A B : Type 0} (f g : A → B) → ((x : A) → f x ≡ g x) → f ≡ g
funext f g h = λ i. λ x. h x i

-- a free latch has fewer free ones before it than there are
free_before-below : (latches : List Latch) (j : ℕ) (latch : Latch) → slice_get latches j ≡ Some latch → is_free latch ≡ true
    → count_by is_free (take j latches) < count_by is_free (take (length latches) latches)
free_before-below [] j latch e free = absurd (none-some latch e)
free_before-below (x ∷ xs) zero latch e free =
    let here : is_free x ≡ true = ap is_free (same_Some x latch e) ∙ free in
    let one : cond {A = ℕ} (is_free x) 1 0 ≡ 1 = ap (λ b. cond {A = ℕ} b 1 0) here in
    let all : count_by is_free (take (suc (length xs)) (x ∷ xs)) ≡ cond {A = ℕ} (is_free x) 1 0 + count_by is_free (take (length xs) xs) = sum_by-cons (λ l. cond {A = ℕ} (is_free l) 1 0) x (take (length xs) xs) in
    omega (arith, one, all)
free_before-below (x ∷ xs) (suc j) latch e free =
    let rest : count_by is_free (take j xs) < count_by is_free (take (length xs) xs) = free_before-below xs j latch e free in
    let all : count_by is_free (take (suc (length xs)) (x ∷ xs)) ≡ cond {A = ℕ} (is_free x) 1 0 + count_by is_free (take (length xs) xs) = sum_by-cons (λ l. cond {A = ℕ} (is_free l) 1 0) x (take (length xs) xs) in
    let some : count_by is_free (take (suc j) (x ∷ xs)) ≡ cond {A = ℕ} (is_free x) 1 0 + count_by is_free (take j xs) = sum_by-cons (λ l. cond {A = ℕ} (is_free l) 1 0) x (take j xs) in
    omega (arith, rest, all, some)

opening_at-cases : (g : Graph) (f h : Choice) (j : ℕ) (o : Option Latch)
    → ((latch : Latch) → o ≡ Some latch → is_free latch ≡ true → f (free_before g j) ≡ h (free_before g j)) → opening_at g f j o ≡ opening_at g h j o
opening_at-cases g f h j None same = refl
opening_at-cases g f h j (Some latch) same = by_reset latch.reset (λ e. same latch refl (ap is_free_reset e))
  where
    is_free_reset : Reset → Bool
    is_free_reset Zero = false
    is_free_reset One = false
    is_free_reset Free = true

    by_reset : (r : Reset) → (r ≡ Free → f (free_before g j) ≡ h (free_before g j)) → opening r (f (free_before g j)) ≡ opening r (h (free_before g j))
    by_reset Zero same = refl
    by_reset One same = refl
    by_reset Free same = same refl

-- what latches hold at step 0 depends on the choices for the free ones alone
opening_at-same : (g : Graph) (f h : Choice) → ((j : ℕ) → j < free_latches g → f j ≡ h j) → (j : ℕ) → opening_at g f j (slice_get g.latches j) ≡ opening_at g h j (slice_get g.latches j)
opening_at-same g f h same j = opening_at-cases g f h j (slice_get g.latches j) (λ latch e free. same (free_before g j) (free_before-below g.latches j latch e free))

latch_value-same : (g : Graph) (x : Inputs) (f h : Choice) → ((j : ℕ) → j < free_latches g → f j ≡ h j) → (t : ℕ) → latch_value g x f t ≡ latch_value g x h t
unfolding latch_value
latch_value-same g x f h same zero = funext _ _ (opening_at-same g f h same)
latch_value-same g x f h same (suc t) =
    let before : latch_value g x f t ≡ latch_value g x h t = latch_value-same g x f h same t in
    funext _ _ (λ j. ap (λ (latches : ℕ → Bool). next_value (value_within g (x t) latches) (slice_get g.latches j)) before)

-- the value of a literal depends on the choices for the free latches alone
pub value-same : (g : Graph) (x : Inputs) (f h : Choice) → ((j : ℕ) → j < free_latches g → f j ≡ h j) → (t lit : ℕ) → value g x f t lit ≡ value g x h t lit
unfolding value
value-same g x f h same t lit = ap (λ (latches : ℕ → Bool). value_within g (x t) latches lit) (latch_value-same g x f h same t)

-- and so do the values of a list of literals
pub values-same : (g : Graph) (x : Inputs) (f h : Choice) (t : ℕ) (lits : List ℕ) → ((j : ℕ) → j < free_latches g → f j ≡ h j) → map (value g x f t) lits ≡ map (value g x h t) lits
values-same g x f h t lits same = ap (λ (v : ℕ → Bool). map v lits) (funext (value g x f t) (value g x h t) (value-same g x f h same t))

-- a latch opens alike if it is known, or if the choices for it are equal
pub opening-same : (r : Reset) (next : ℕ) (a b : Bool) → (is_free (record { next = next; reset = r }) ≡ true → a ≡ b) → opening r a ≡ opening r b
opening-same Zero next a b same = refl
opening-same One next a b same = refl
opening-same Free next a b same = same refl

-- a circuit has its own streams, with each free latch in its place
pub same_streams-reflexive : (c : Netlist) → IsReflexive c
same_streams-reflexive c =
    let n : ℕ = free_latches c.aig in
    record {
      shape = record { inputs = refl; outputs = refl; bad = refl; constraints = refl; justice = refl; fairness = refl };
      places = record {
        rising = λ k h. let short : k + 1 < n = omega (arith, length-range_with_len 0 n) in
            rw (get_or-range_with_len 0 n k 0 (omega arith), get_or-range_with_len 0 n (k + 1) 0 short) (omega arith);
        below = λ k d h. rw (get_or-range_with_len 0 n k d (omega (arith, length-range_with_len 0 n))) (omega (arith, length-range_with_len 0 n));
        each = length-range_with_len 0 n;
      };
      values = λ x f t. values-same c.aig x (chosen (all_free c.aig) f) f t (property_literals c.props) (λ j h. ap f (get_or-range_with_len 0 n j 0 h ∙ zero-add j));
    }

rising-below : (first : List ℕ) → IsStrictlyIncreasing first → (i j : ℕ) → i < j → j < length first → get_or first i 0 < get_or first j 0
rising-below first rising i j lt within = AllPairs-from_increasing first rising i j 0 lt within

-- equal streams of a first circuit and a second, and of that and a third, are equal ones of the
-- first and the third
pub same_streams-transitive : (c d e : Netlist) (first second : List ℕ) → IsTransitive c d e first second
same_streams-transitive c d e first second p q =
    let at : ((k : ℕ) → k < length second → get_or (composed first second) k 0 ≡ get_or first (get_or second k 0) 0) =
    λ k h. get_or-map (λ i. get_or first i 0) second k 0 0 h in
    let within : ((k : ℕ) → k < length second → get_or second k 0 < length first) =
    λ k h. let below : get_or second k 0 < free_latches d.aig = q.places.below k 0 h in omega (arith, p.places.each) in
    let long : length (composed first second) ≡ length second = length-map second (λ i. get_or first i 0) in
    record {
      shape = record {
        inputs = q.shape.inputs ∙ p.shape.inputs;
        outputs = q.shape.outputs ∙ p.shape.outputs;
        bad = q.shape.bad ∙ p.shape.bad;
        constraints = q.shape.constraints ∙ p.shape.constraints;
        justice = q.shape.justice ∙ p.shape.justice;
        fairness = q.shape.fairness ∙ p.shape.fairness;
      };
      places = record {
        rising = λ k h. let short : k + 1 < length second = omega arith in
            rw (at k (omega arith), at (k + 1) short) (rising-below first p.places.rising (get_or second k 0) (get_or second (k + 1) 0) (q.places.rising k short) (within (k + 1) short));
        below = λ k z h. let short : k < length second = omega arith in
            let is : get_or (composed first second) k z ≡ get_or first (get_or second k 0) 0 = get_or_default (composed first second) k z 0 h ∙ at k short in
            rw is (p.places.below (get_or second k 0) 0 (within k short));
        each = long ∙ q.places.each;
      };
      values = λ x f t.
          values-same e.aig x (chosen (composed first second) f) (chosen second (chosen first f)) t (property_literals e.props) (λ j h. ap f (at j (omega (arith, q.places.each))))
          ∙ q.values x (chosen first f) t ∙ p.values x f t;
    }

-- a list with all its places is itself
pub composed-every : (kept : List ℕ) (n : ℕ) → length kept ≡ n → composed kept (range_with_len 0 n) ≡ kept
composed-every kept n long =
    let f : ℕ → ℕ = λ place. get_or kept place 0 in
    let places : List ℕ = range_with_len 0 n in
    let all : length (composed kept places) ≡ n = length-map places f ∙ length-range_with_len 0 n in
    ext_get_or 0 (composed kept places) kept (all ∙ sym long) (λ j h.
    let within : j < n = omega (arith, h, all) in
    let there : j < length places = omega (arith, within, length-range_with_len 0 n) in
    get_or-map f places j 0 0 there ∙ ap f (get_or-range_with_len 0 n j 0 within ∙ zero-add j))
