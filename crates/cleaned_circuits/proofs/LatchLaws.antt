-- What stands for a latch always has its value.
use Rattle.std.proofs.Common.{ℕ, ◌+◌, ◌-◌, ◌*◌, ◌<◌, ◌≤◌, ◌≡◌, ◌⊎◌, inl, inr, suc, zero, List, [], ◌∷◌, Bool, true, false, not, ◌&&◌, ◌||◌, cond, nat_eq, nat_lt, Option, Some, None, slice_get, get_or, refl, arith, ap, sym, ◌∙◌, add-one}
use Rattle.std.proofs.lemmas.Bool.{cases_Bool, cases_lt, eqb-true, and_parts, or_cases, or_parts, not-true, cond-true, cond-false, lt-ltb, le-ltb}
use Rattle.std.proofs.lemmas.Option.{none-some}
use Rattle.aig_graph.specs.declared.graph.Latch.{Latch}
use Rattle.aig_graph.specs.declared.graph.Reset.{Reset}
use Rattle.aig_graph.specs.declared.graph.Reset.TheVariants.{Zero, One, Free}
use Rattle.aig_graph.specs.Graph.{Graph, IsGraph, variable, first_latch, first_gate, is_free, free_before}
use Rattle.aig_graph.specs.Value.{Inputs, Choice, value, opening}
use Rattle.aig_graph.specs.Marking.{has}
use Rattle.aig_graph.specs.Counting.{count_below, places}
use Rattle.aig_graph.specs.Laws.{ValueLaws}
use Rattle.aig_graph.proofs.ValueLaws.{value_laws}
use Rattle.aig_graph.proofs.PlacesLaws.{Ranks, rank_at, at_rank, count-lt}
use Rattle.aig_graph.proofs.KindLaws.{element}
use Rattle.cleaned_circuits.specs.Latches.{constant_of, is_constant_latch, same_reset, same_latch, is_duplicate, first_where, first_duplicate, latch_substitute, leaf_substitute}

-- the first number that passes, if there is one
pub first_where-cases : (p : ℕ → Bool) (n : ℕ) → (first_where p n ≡ n) ⊎ ((first_where p n < n) × (p (first_where p n) ≡ true))
unfolding first_where
first_where-cases p n = go (places p n) refl
  where
    go : (xs : List ℕ) → places p n ≡ xs → (get_or (places p n) 0 n ≡ n) ⊎ ((get_or (places p n) 0 n < n) × (p (get_or (places p n) 0 n) ≡ true))
    go [] e = inl (ap (λ (ys : List ℕ). get_or ys 0 n) e)
    go (x ∷ xs) e =
        let first : get_or (places p n) 0 n ≡ x = ap (λ (ys : List ℕ). get_or ys 0 n) e in
        let r : Ranks p n 0 x = rank_at p n 0 x (ap (λ (ys : List ℕ). slice_get ys 0) e) in
        inr (omega (arith, r.below), ap p first ∙ r.passes)

-- no earlier number passes
pub first_where-least : (p : ℕ → Bool) (n v : ℕ) → v < first_where p n → p v ≡ false
unfolding first_where
first_where-least p n v h = go (places p n) refl
  where
    go : (xs : List ℕ) → places p n ≡ xs → p v ≡ false
    go [] e =
        let none : get_or (places p n) 0 n ≡ n = ap (λ (ys : List ℕ). get_or ys 0 n) e in
        elim (cases_Bool (p v)) [
          | inl pass ↦ (let there : slice_get (places p n) (count_below p v) ≡ Some v = at_rank p n v (omega arith) pass in absurd (none-some v (ap (λ (ys : List ℕ). slice_get ys (count_below p v)) (sym e) ∙ there)))
          | inr fails ↦ fails
        ]
    go (x ∷ xs) e =
        let first : get_or (places p n) 0 n ≡ x = ap (λ (ys : List ℕ). get_or ys 0 n) e in
        let r : Ranks p n 0 x = rank_at p n 0 x (ap (λ (ys : List ℕ). slice_get ys 0) e) in
        elim (cases_Bool (p v)) [
          | inl pass ↦ absurd (omega (arith, count-lt p v x (omega arith) pass, r.rank))
          | inr fails ↦ fails
        ]

pub record ConstantLatch (g : Graph) (j : ℕ) (latch : Latch) : Type 0 where
  -- its reset is known
  pub known : is_free latch ≡ false
  -- it reads itself or the constant of its reset
  pub next : (latch.next ≡ 2 * (first_latch g + j)) ⊎ (latch.next ≡ constant_of latch.reset)

-- a latch that is constant by the test is known, and reads itself or the constant of its reset
pub constant_latch_where : (g : Graph) (held : List ℕ) (j : ℕ) (latch : Latch) → is_constant_latch g held j latch ≡ true → ConstantLatch g j latch
constant_latch_where g held j latch e =
    let parts = and_parts (not (is_free latch) && not (has held j)) (nat_eq latch.next (2 * (first_latch g + j)) || nat_eq latch.next (constant_of latch.reset)) e in
    let first = and_parts (not (is_free latch)) (not (has held j)) parts.0 in
    record {
      known = not-true (is_free latch) first.0;
      next = elim (or_cases (nat_eq latch.next (2 * (first_latch g + j))) (nat_eq latch.next (constant_of latch.reset)) parts.1) [
        | inl own ↦ inl (eqb-true latch.next (2 * (first_latch g + j)) own)
        | inr constant ↦ inr (eqb-true latch.next (constant_of latch.reset) constant)
      ];
    }

-- resets that are equal by the test are equal
pub same_reset-is : (r s : Reset) → same_reset r s ≡ true → r ≡ s
same_reset-is Zero Zero e = refl
same_reset-is One One e = refl
same_reset-is Free Free e = refl
same_reset-is Zero One e = absurd (cc)
same_reset-is Zero Free e = absurd (cc)
same_reset-is One Zero e = absurd (cc)
same_reset-is One Free e = absurd (cc)
same_reset-is Free Zero e = absurd (cc)
same_reset-is Free One e = absurd (cc)

-- a latch that another duplicates
pub record Duplicate (g : Graph) (held : List ℕ) (latch : Latch) (i : ℕ) : Type 0 where
  -- the latch at place i
  pub other : Latch
  -- it stands there
  pub there : slice_get g.latches i ≡ Some other
  -- it isn't constant
  pub free_to_stand : is_constant_latch g held i other ≡ false
  -- it has the next literal of the latch
  pub next : other.next ≡ latch.next
  -- it has the reset of the latch
  pub reset : other.reset ≡ latch.reset

-- a latch at a place that another duplicates by the test isn't constant, and has its next literal
-- and reset
pub duplicate_where : (g : Graph) (held : List ℕ) (latch : Latch) (i : ℕ) → is_duplicate g held latch i (slice_get g.latches i) ≡ true → Duplicate g held latch i
duplicate_where g held latch i e = go (slice_get g.latches i) refl
  where
    go : (o : Option Latch) → slice_get g.latches i ≡ o → Duplicate g held latch i
    go None none = let clash : false ≡ true = ap (is_duplicate g held latch i) (sym none) ∙ e in absurd (cc)
    go (Some other) some =
        let told : is_duplicate g held latch i (Some other) ≡ true = ap (is_duplicate g held latch i) (sym some) ∙ e in
        let parts = and_parts (not (is_constant_latch g held i other)) (same_latch latch other) told in
        let same = and_parts (nat_eq latch.next other.next) (same_reset latch.reset other.reset) parts.1 in
        record {
          other = other;
          there = some;
          free_to_stand = not-true (is_constant_latch g held i other) parts.0;
          next = sym (eqb-true latch.next other.next same.0);
          reset = sym (same_reset-is latch.reset other.reset same.1);
        }

-- what stands for a latch
pub data StandsFor (g : Graph) (held : List ℕ) (j : ℕ) (latch : Latch) (substitute : ℕ) : Type 0 where
  by_constant : is_constant_latch g held j latch ≡ true → substitute ≡ constant_of latch.reset → StandsFor g held j latch substitute
  by_itself : is_constant_latch g held j latch ≡ false → substitute ≡ 2 * (first_latch g + j) → StandsFor g held j latch substitute
  by_earlier : (i : ℕ) → i < j → i ≡ first_duplicate g held j latch → Duplicate g held latch i → is_free latch ≡ false → has held j ≡ false → substitute ≡ 2 * (first_latch g + i) → StandsFor g held j latch substitute

-- what stands for a latch is its constant, the latch itself, or an earlier one that it duplicates
pub stands_for : (g : Graph) (held : List ℕ) (j : ℕ) (latch : Latch) → StandsFor g held j latch (latch_substitute g held j (Some latch))
stands_for g held j latch =
    let own : ℕ = 2 * (first_latch g + j) in
    let duplicate : ℕ = 2 * (first_latch g + first_duplicate g held j latch) in
    let rest : ℕ = cond (is_free latch || has held j) own duplicate in
    elim (cases_Bool (is_constant_latch g held j latch)) [
      | inl constant_latch ↦ by_constant constant_latch (cond-true (is_constant_latch g held j latch) (constant_of latch.reset) rest constant_latch)
      | inr moving ↦ (
          let here : latch_substitute g held j (Some latch) ≡ rest = cond-false (is_constant_latch g held j latch) (constant_of latch.reset) rest moving in
          elim (cases_Bool (is_free latch || has held j)) [
            | inl alone ↦ by_itself moving (here ∙ cond-true (is_free latch || has held j) own duplicate alone)
            | inr apart ↦ (
                let to : latch_substitute g held j (Some latch) ≡ duplicate = here ∙ cond-false (is_free latch || has held j) own duplicate apart in
                let parts = or_parts (is_free latch) (has held j) apart in
                elim (first_where-cases (λ i. is_duplicate g held latch i (slice_get g.latches i)) j) [
                  | inl last ↦ by_itself moving (to ∙ ap (λ (i : ℕ). 2 * (first_latch g + i)) last)
                  | inr earlier ↦ by_earlier (first_duplicate g held j latch) earlier.0 refl (duplicate_where g held latch (first_duplicate g held j latch) earlier.1) parts.0 parts.1 to
                ])
          ])
    ]

-- the constant of a reset is 0 or 1
pub constant-even : (r : Reset) → constant_of r < 2
constant-even Zero = omega arith
constant-even One = omega arith
constant-even Free = omega arith

known-opening : (r : Reset) (next : ℕ) (a b : Bool) → is_free (record { next = next; reset = r }) ≡ false → opening r a ≡ opening r b
known-opening Zero next a b known = refl
known-opening One next a b known = refl
known-opening Free next a b known = absurd (cc)

module _ (g : Graph) (valid : IsGraph g) (held : List ℕ) (x : Inputs) (f : Choice) where
  laws : ValueLaws g x f
  laws = value_laws g valid x f

  abbrev vals : ℕ → ℕ → Bool
  vals t lit = value g x f t lit

  true-value : (t : ℕ) → vals t 1 ≡ true
  true-value t = laws.negation t 0 ∙ ap not (laws.constant t)

  -- the constant of a known reset has its value at each step
  constant-value : (r : Reset) (next : ℕ) (b : Bool) (t : ℕ) → is_free (record { next = next; reset = r }) ≡ false → opening r b ≡ vals t (constant_of r)
  constant-value Zero next b t known = sym (laws.constant t)
  constant-value One next b t known = sym (true-value t)
  constant-value Free next b t known = absurd (cc)

  constant-same : (r : Reset) (t u : ℕ) → vals t (constant_of r) ≡ vals u (constant_of r)
  constant-same Zero t u = laws.constant t ∙ sym (laws.constant u)
  constant-same One t u = true-value t ∙ sym (true-value u)
  constant-same Free t u = laws.constant t ∙ sym (laws.constant u)

  constant_latch-value : (j : ℕ) (latch : Latch) → slice_get g.latches j ≡ Some latch → ConstantLatch g j latch → (t : ℕ) → vals t (constant_of latch.reset) ≡ vals t (2 * (first_latch g + j))
  constant_latch-value j latch there constant_latch zero =
      sym (laws.latch_at_start j latch there ∙ constant-value latch.reset latch.next (f (free_before g j)) 0 constant_latch.known)
  constant_latch-value j latch there constant_latch (suc t) =
      let before : vals t (constant_of latch.reset) ≡ vals t (2 * (first_latch g + j)) = constant_latch-value j latch there constant_latch t in
      let next : vals t latch.next ≡ vals t (constant_of latch.reset) = elim constant_latch.next [
        | inl own ↦ ap (vals t) own ∙ sym before
        | inr constant ↦ ap (vals t) constant
      ] in
      let later : vals (suc t) (2 * (first_latch g + j)) ≡ vals t latch.next = ap (λ (n : ℕ). vals n (2 * (first_latch g + j))) (sym (add-one t)) ∙ laws.latch_later t j latch there in
      constant-same latch.reset (suc t) t ∙ sym next ∙ sym later

  duplicate-value : (j i : ℕ) (latch : Latch) → slice_get g.latches j ≡ Some latch → is_free latch ≡ false → Duplicate g held latch i → (t : ℕ) → vals t (2 * (first_latch g + i)) ≡ vals t (2 * (first_latch g + j))
  duplicate-value j i latch there known duplicate zero =
      laws.latch_at_start i duplicate.other duplicate.there
      ∙ ap (λ (r : Reset). opening r (f (free_before g i))) duplicate.reset
      ∙ known-opening latch.reset latch.next (f (free_before g i)) (f (free_before g j)) known
      ∙ sym (laws.latch_at_start j latch there)
  duplicate-value j i latch there known duplicate (suc t) =
      let here : vals (suc t) (2 * (first_latch g + i)) ≡ vals t duplicate.other.next = ap (λ (n : ℕ). vals n (2 * (first_latch g + i))) (sym (add-one t)) ∙ laws.latch_later t i duplicate.other duplicate.there in
      let later : vals (suc t) (2 * (first_latch g + j)) ≡ vals t latch.next = ap (λ (n : ℕ). vals n (2 * (first_latch g + j))) (sym (add-one t)) ∙ laws.latch_later t j latch there in
      here ∙ ap (vals t) duplicate.next ∙ sym later

  -- what stands for a latch has its value at each step
  pub latch_substitute-value : (t j : ℕ) (latch : Latch) → slice_get g.latches j ≡ Some latch → vals t (latch_substitute g held j (Some latch)) ≡ vals t (2 * (first_latch g + j))
  latch_substitute-value t j latch there = elim (stands_for g held j latch) [
    | by_constant constant_latch e ↦ ap (vals t) e ∙ constant_latch-value j latch there (constant_latch_where g held j latch constant_latch) t
    | by_itself moving e ↦ ap (vals t) e
    | by_earlier i less first duplicate known apart e ↦ ap (vals t) e ∙ duplicate-value j i latch there known duplicate t
  ]

  -- what stands for a variable before the gates has its value at each step
  pub leaf_substitute-value : (t v : ℕ) → v < first_gate g → vals t (leaf_substitute g held v) ≡ vals t (2 * v)
  unfolding leaf_substitute
  leaf_substitute-value t v h =
      let other : ℕ = latch_substitute g held (v - first_latch g) (slice_get g.latches (v - first_latch g)) in
      elim (cases_lt v (first_latch g)) [
        | inl low ↦ ap (vals t) (cond-true (nat_lt v (first_latch g)) (2 * v) other (lt-ltb v (first_latch g) low))
        | inr past ↦ (
            let there = element g.latches (v - first_latch g) (omega arith) in
            let place : 2 * (first_latch g + (v - first_latch g)) ≡ 2 * v = omega arith in
            ap (vals t) (cond-false (nat_lt v (first_latch g)) (2 * v) other (le-ltb v (first_latch g) past))
            ∙ ap (λ (o : Option Latch). vals t (latch_substitute g held (v - first_latch g) o)) there.1
            ∙ latch_substitute-value t (v - first_latch g) there.0 there.1 ∙ ap (vals t) place)
      ]

-- no latch is replaced by a later variable
pub latch_substitute-below : (g : Graph) (held : List ℕ) (j : ℕ) (latch : Latch) → variable (latch_substitute g held j (Some latch)) ≤ first_latch g + j
latch_substitute-below g held j latch = elim (stands_for g held j latch) [
  | by_constant constant_latch e ↦ omega (arith, e, constant-even latch.reset)
  | by_itself moving e ↦ omega (arith, e)
  | by_earlier i less first duplicate known apart e ↦ omega (arith, e)
]

-- what stands for a variable before the gates is of no later variable
pub leaf_substitute-below : (g : Graph) (held : List ℕ) (v : ℕ) → v < first_gate g → variable (leaf_substitute g held v) ≤ v
unfolding leaf_substitute
leaf_substitute-below g held v h =
    let other : ℕ = latch_substitute g held (v - first_latch g) (slice_get g.latches (v - first_latch g)) in
    elim (cases_lt v (first_latch g)) [
      | inl low ↦ (let here : cond (nat_lt v (first_latch g)) (2 * v) other ≡ 2 * v = cond-true (nat_lt v (first_latch g)) (2 * v) other (lt-ltb v (first_latch g) low) in omega (arith, here))
      | inr past ↦ (
          let there = element g.latches (v - first_latch g) (omega arith) in
          let here : cond (nat_lt v (first_latch g)) (2 * v) other ≡ latch_substitute g held (v - first_latch g) (Some there.0) =
          cond-false (nat_lt v (first_latch g)) (2 * v) other (le-ltb v (first_latch g) past) ∙ ap (λ (o : Option Latch). latch_substitute g held (v - first_latch g) o) there.1 in
          omega (arith, here, latch_substitute-below g held (v - first_latch g) there.0))
    ]
