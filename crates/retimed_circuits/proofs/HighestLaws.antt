-- The levels of a circuit are the least bound on the level of each literal that its latches and
-- properties read.
use Rattle.std.proofs.Common.{ℕ, ◌≤◌, ◌≡◌, zero, suc, List, [], ◌∷◌, map, max, Some, slice_get, arith, sym, subst}
use Rattle.std.specs.List.{All}
use Rattle.std.proofs.Math.Nat.{max-le}
use Rattle.std.proofs.lemmas.Option.{none-some, same_Some}
use Rattle.std.proofs.lemmas.List.Sums.{fold-append}
use Rattle.std.proofs.lemmas.List.Elements.{All-nil, All-cons, All-head, All-tail, All-map}
use Rattle.aig_graph.specs.declared.graph.Latch.{Latch}
use Rattle.aig_graph.specs.Graph.{variable}
use Rattle.aig_graph.specs.Circuits.{Netlist}
use Rattle.aig_graph.specs.Streams.{property_literals}
use Rattle.aig_graph.proofs.GraphLaws.{all_from_slice_get}
use Rattle.path_levels.specs.Levels.{level, highest, levels}

module _ (at : ℕ → ℕ) where
  -- the highest is above what it starts from
  highest-start : (start : ℕ) (lits : List ℕ) → start ≤ highest at start lits
  highest-start start [] = omega arith
  highest-start start (lit ∷ lits) = omega (arith, highest-start (max start (at (variable lit))) lits)

  -- and above each literal
  highest-each : (start : ℕ) (lits : List ℕ) → All (λ lit. at (variable lit) ≤ highest at start lits) lits
  highest-each start [] = All-nil (λ lit. at (variable lit) ≤ start)
  highest-each start (lit ∷ lits) =
      let higher : ℕ = max start (at (variable lit)) in
      All-cons (λ l. at (variable l) ≤ highest at higher lits) lit lits (omega (arith, highest-start higher lits)) (highest-each higher lits)

  highest-next : (start : ℕ) (latches : List Latch) (j : ℕ) (latch : Latch) → slice_get latches j ≡ Some latch
      → at (variable latch.next) ≤ highest at start (map (λ l. l.next) latches)
  highest-next start [] j latch e = absurd (none-some latch e)
  highest-next start (first ∷ latches) zero latch e =
      let higher : ℕ = max start (at (variable first.next)) in
      let bound : at (variable first.next) ≤ highest at higher (map (λ (l : Latch). l.next) latches) =
      omega (arith, highest-start higher (map (λ (l : Latch). l.next) latches)) in
      subst (λ (l : Latch). at (variable l.next) ≤ highest at higher (map (λ (k : Latch). k.next) latches)) (same_Some first latch e) bound
  highest-next start (first ∷ latches) (suc j) latch e = highest-next (max start (at (variable first.next))) latches j latch e

  -- it is no greater than what all are within
  highest-most : (start n : ℕ) (lits : List ℕ) → start ≤ n → All (λ lit. at (variable lit) ≤ n) lits → highest at start lits ≤ n
  highest-most start n [] low all = low
  highest-most start n (lit ∷ lits) low all =
      let P : ℕ → Type 0 = λ l. at (variable l) ≤ n in
      highest-most (max start (at (variable lit))) n lits (max-le low (All-head P lit lits all)) (All-tail P lit lits all)

levels-parts : (c : Netlist) → levels c ≡ highest (level c.aig) (highest (level c.aig) 0 (map (λ latch. latch.next) c.aig.latches)) (property_literals c.props)
unfolding levels
levels-parts c =
    fold-append (λ (high lit : ℕ). max high (level c.aig (variable lit))) 0 (map (λ (latch : Latch). latch.next) c.aig.latches) (property_literals c.props)

-- what latches and properties read is within a level
pub record IsReadWithin (n : ℕ) (c : Netlist) : Type 0 where
  -- each next literal is
  pub next : (j : ℕ) (latch : Latch) → slice_get c.aig.latches j ≡ Some latch → level c.aig (variable latch.next) ≤ n
  -- each literal of a property is
  pub properties : All (λ lit. level c.aig (variable lit) ≤ n) (property_literals c.props)

-- what a circuit reads is within its levels
pub read-within_levels : (c : Netlist) → IsReadWithin (levels c) c
read-within_levels c =
    let below : ℕ = highest (level c.aig) 0 (map (λ (latch : Latch). latch.next) c.aig.latches) in
    subst (λ (n : ℕ). IsReadWithin n c) (sym (levels-parts c)) (record {
      next = λ j latch there. omega (arith, highest-next (level c.aig) 0 c.aig.latches j latch there, highest-start (level c.aig) below (property_literals c.props));
      properties = highest-each (level c.aig) below (property_literals c.props);
    })

-- a circuit of which all that is read is within level n has at most n levels
pub levels-most : (n : ℕ) (c : Netlist) → IsReadWithin n c → levels c ≤ n
levels-most n c within =
    let P : ℕ → Type 0 = λ lit. level c.aig (variable lit) ≤ n in
    let next : All P (map (λ (latch : Latch). latch.next) c.aig.latches) =
    All-map P (λ (latch : Latch). latch.next) c.aig.latches (all_from_slice_get (λ (latch : Latch). P latch.next) c.aig.latches within.next) in
    subst (λ (k : ℕ). k ≤ n) (sym (levels-parts c))
    (highest-most (level c.aig) (highest (level c.aig) 0 (map (λ (latch : Latch). latch.next) c.aig.latches)) n (property_literals c.props)
    (highest-most (level c.aig) 0 n (map (λ (latch : Latch). latch.next) c.aig.latches) (omega arith) next) within.properties)
