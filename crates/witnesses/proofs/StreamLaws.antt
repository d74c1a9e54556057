-- What equal streams make of bad states, constraints and witnesses.
use Rattle.std.proofs.Common.{ℕ, ◌-◌, ◌<◌, ◌≤◌, ◌≡◌, ◌==◌, ◌++◌, Bool, true, false, List, [], ◌∷◌, length, map, get_or, cond, slice_get, refl, arith, ap, ap₂, sym, ◌∙◌, append_assoc, length-append}
use Rattle.std.specs.List.{list_all, flat_map}
use Rattle.std.proofs.lemmas.List.Kept.{AllPairs-from_increasing}
use Rattle.std.proofs.lemmas.Option.{slice_get_within}
use Rattle.aig_graph.specs.declared.properties.Props.{Props}
use Rattle.aig_graph.specs.Graph.{free_latches}
use Rattle.aig_graph.specs.Circuits.{Netlist}
use Rattle.aig_graph.specs.Value.{Inputs, Choice, value}
use Rattle.aig_graph.specs.Streams.{property_literals, chosen, SameStreams}
use Rattle.witnesses.specs.declared.witness.Digit.{Digit}
use Rattle.witnesses.specs.declared.witness.Witness.{Witness}
use Rattle.witnesses.specs.Circuits.{bad_literals}
use Rattle.witnesses.specs.Carrying.{free_digits, spread}
use Rattle.witnesses.specs.Reaching.{bad_row, ReachesBadState}
use Rattle.witnesses.specs.Laws.{ReachesAlike, IsCarriedBack}
use Rattle.witnesses.proofs.FreeLaws.{Rises, taken_back, taken-few, spread-length, spread-kept}

-- ---- equal rows, part by part

abbrev Values : Type 0
Values = ℕ → Bool

-- the first parts of rows that are equal
front_same : (f g : Values) (xs ys zs ws : List ℕ) → length xs ≡ length ys → map f (xs ++ zs) ≡ map g (ys ++ ws) → map f xs ≡ map g ys
front_same f g [] [] zs ws long same = refl
front_same f g [] (y ∷ ys) zs ws long same = absurd (omega (arith, long))
front_same f g (x ∷ xs) [] zs ws long same = absurd (omega (arith, long))
front_same f g (x ∷ xs) (y ∷ ys) zs ws long same =
    let first : f x ≡ g y = ap (λ (bs : List Bool). get_or bs 0 false) same in
    let rest : map f (xs ++ zs) ≡ map g (ys ++ ws) = ap tail same in
    ap₂ (λ (b : Bool) (bs : List Bool). b ∷ bs) first (front_same f g xs ys zs ws (omega (arith, long)) rest)
  where
    tail : List Bool → List Bool
    tail [] = []
    tail (b ∷ bs) = bs

-- and their last parts
back_same : (f g : Values) (xs ys zs ws : List ℕ) → length xs ≡ length ys → map f (xs ++ zs) ≡ map g (ys ++ ws) → map f zs ≡ map g ws
back_same f g [] [] zs ws long same = same
back_same f g [] (y ∷ ys) zs ws long same = absurd (omega (arith, long))
back_same f g (x ∷ xs) [] zs ws long same = absurd (omega (arith, long))
back_same f g (x ∷ xs) (y ∷ ys) zs ws long same = back_same f g xs ys zs ws (omega (arith, long)) (ap tail same)
  where
    tail : List Bool → List Bool
    tail [] = []
    tail (b ∷ bs) = bs

-- outputs, bad states and constraints, before the other kinds
abbrev pub others : Props → List ℕ
others p = flat_map (λ lits. lits) p.justice ++ p.fairness

-- the literals of properties are those of outputs, bad states and constraints, and then those of
-- the other kinds
pub property_literals-parts : (p : Props) → property_literals p ≡ ((p.outputs ++ p.bad) ++ p.constraints) ++ others p
property_literals-parts p = append_assoc ((p.outputs ++ p.bad) ++ p.constraints) (flat_map (λ lits. lits) p.justice) p.fairness

-- the rows of the kinds that a witness speaks of
record SameRows (f g : Values) (p q : Props) : Type 0 where
  outputs : map f p.outputs ≡ map g q.outputs
  bad : map f p.bad ≡ map g q.bad
  constraints : map f p.constraints ≡ map g q.constraints

same_rows : (f g : Values) (p q : Props) → length p.outputs ≡ length q.outputs → length p.bad ≡ length q.bad → length p.constraints ≡ length q.constraints
    → map f (property_literals p) ≡ map g (property_literals q) → SameRows f g p q
same_rows f g p q outputs bad constraints same =
    let two : length (p.outputs ++ p.bad) ≡ length (q.outputs ++ q.bad) = omega (arith, length-append p.outputs p.bad, length-append q.outputs q.bad, outputs, bad) in
    let three : length ((p.outputs ++ p.bad) ++ p.constraints) ≡ length ((q.outputs ++ q.bad) ++ q.constraints) =
    omega (arith, two, length-append (p.outputs ++ p.bad) p.constraints, length-append (q.outputs ++ q.bad) q.constraints, constraints) in
    let parts = sym (ap (map f) (property_literals-parts p)) ∙ same ∙ ap (map g) (property_literals-parts q) in
    let kinds = front_same f g ((p.outputs ++ p.bad) ++ p.constraints) ((q.outputs ++ q.bad) ++ q.constraints) (others p) (others q) three parts in
    let first = front_same f g (p.outputs ++ p.bad) (q.outputs ++ q.bad) p.constraints q.constraints two kinds in
    record {
      outputs = front_same f g p.outputs q.outputs p.bad q.bad outputs first;
      bad = back_same f g p.outputs q.outputs p.bad q.bad outputs first;
      constraints = back_same f g (p.outputs ++ p.bad) (q.outputs ++ q.bad) p.constraints q.constraints two kinds;
    }

bad_same : (f g : Values) (p q : Props) → length p.bad ≡ length q.bad → SameRows f g p q → map f (bad_literals p) ≡ map g (bad_literals q)
bad_same f g p q many rows = ap (λ (n : ℕ). map f (cond (n == 0) p.outputs p.bad)) many ∙ by_test (length q.bad == 0)
  where
    by_test : (b : Bool) → map f (cond b p.outputs p.bad) ≡ map g (cond b q.outputs q.bad)
    by_test true = rows.outputs
    by_test false = rows.bad

-- ---- the same bad states at the same steps

module _ (c d : Netlist) (kept : List ℕ) (s : SameStreams c d kept) (x : Inputs) (f : Choice) where
  rows_at : (t : ℕ) → SameRows (value d.aig x (chosen kept f) t) (value c.aig x f t) d.props c.props
  rows_at t = same_rows (value d.aig x (chosen kept f) t) (value c.aig x f t) d.props c.props s.shape.outputs s.shape.bad s.shape.constraints (s.values x f t)

  bad_at : (t : ℕ) → bad_row d x (chosen kept f) t ≡ bad_row c x f t
  bad_at t = bad_same (value d.aig x (chosen kept f) t) (value c.aig x f t) d.props c.props s.shape.bad (rows_at t)

  there : (n t : ℕ) → ReachesBadState d x (chosen kept f) n t → ReachesBadState c x f n t
  there n t r = record {
    bad = ap (λ (row : List Bool). slice_get row n) (sym (bad_at t)) ∙ r.bad;
    constrained = λ u h. ap (list_all (λ b. b)) (sym (rows_at u).constraints) ∙ r.constrained u h;
  }

  back : (n t : ℕ) → ReachesBadState c x f n t → ReachesBadState d x (chosen kept f) n t
  back n t r = record {
    bad = ap (λ (row : List Bool). slice_get row n) (bad_at t) ∙ r.bad;
    constrained = λ u h. ap (list_all (λ b. b)) (rows_at u).constraints ∙ r.constrained u h;
  }

-- circuits with equal streams reach each bad state at equal steps
pub reaches_alike : (c d : Netlist) (kept : List ℕ) → ReachesAlike c d kept
reaches_alike c d kept s x f n t = (there c d kept s x f n t, back c d kept s x f n t)

-- ---- witnesses

-- a witness of a circuit, carried back, is one of the circuit with equal streams that it came from
pub is_carried_back : (c d : Netlist) (kept : List ℕ) (w : Witness) → IsCarriedBack c d kept w
is_carried_back c d kept w s n t wins x f agrees =
    there c d kept s x f n t (wins x (chosen kept f) (record {
      inputs = agrees.inputs;
      choice = λ j digit at.
          let few : length (free_digits d.aig.latches w.latches) ≤ free_latches d.aig = taken-few d.aig.latches w.latches in
          let within : j < length kept = omega (arith, slice_get_within (free_digits d.aig.latches w.latches) j digit at, few, s.places.each) in
          let zeroth : get_or kept j 0 - 0 ≡ get_or kept j 0 = omega arith in
          agrees.choice (get_or kept j 0) digit
          (ap (λ (ds : List Digit). slice_get ds (get_or kept j 0)) (taken_back c.aig.latches all (spread-length (free_latches c.aig) 0 kept (free_digits d.aig.latches w.latches)))
          ∙ ap (slice_get all) (sym zeroth) ∙ spread-kept (free_latches c.aig) 0 kept (free_digits d.aig.latches w.latches) rises j digit within at);
    }))
  where
    all : List Digit
    all = spread (free_latches c.aig) 0 kept (free_digits d.aig.latches w.latches)

    rises : Rises 0 (free_latches c.aig) kept
    rises = record {
      low = λ j h. omega arith;
      high = λ j h. let below : get_or kept j 0 < free_latches c.aig = s.places.below j 0 h in omega (arith, below);
      rising = λ i j lt h. AllPairs-from_increasing kept s.places.rising i j 0 lt h;
    }
