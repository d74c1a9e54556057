-- Products, and sums that go no further than a number.
use Rattle.std.proofs.Common.{ℕ, zero, suc, ◌+◌, ◌*◌, ◌<◌, ◌≤◌, ◌≡◌, ◌++◌, ◌⊎◌, inl, inr, List, length, min, nat_lt, take, arith, sym, ap, ◌∙◌}
use Rattle.std.specs.List.{flat_map, sum_by}
use Rattle.std.proofs.Math.Nat.{suc-mul}
use Rattle.std.proofs.lemmas.Bool.{cases_lt, lt-ltb}
use Rattle.std.proofs.lemmas.List.{length-append, take_all}
use Rattle.std.proofs.lemmas.List.Concat.{length-flat_map}
use Rattle.aig_graph.specs.declared.properties.Props.{Props}
use Rattle.aig_graph.specs.Streams.{property_literals}

-- a factor that is cut at a number above the limit is over it if the factor is
pub over_cut : (limit s l m : ℕ) → limit < m → nat_lt limit (s * min l m) ≡ nat_lt limit (s * l)
over_cut limit zero l m small = let none : 0 * min l m ≡ 0 * l = omega arith in ap (nat_lt limit) none
over_cut limit (suc k) l m small = over_some limit k l m small (cases_lt m l)
  where
    over_some : (limit k l m : ℕ) → limit < m → (m < l) ⊎ (l ≤ m) → nat_lt limit (suc k * min l m) ≡ nat_lt limit (suc k * l)
    over_some limit k l m small (inl above) =
        let cut : min l m ≡ m = omega (arith, above) in
        ap (λ (x : ℕ). nat_lt limit (suc k * x)) cut
        ∙ lt-ltb limit (suc k * m) (omega (arith, small, suc-mul k m)) ∙ sym (lt-ltb limit (suc k * l) (omega (arith, small, above, suc-mul k l)))
    over_some limit k l m small (inr within) = let whole : min l m ≡ l = omega (arith, within) in ap (λ (x : ℕ). nat_lt limit (suc k * x)) whole

-- how many literals properties have
literal-count : (p : Props)
    → length (property_literals p) ≡ length p.outputs + length p.bad + length p.constraints + sum_by (λ (lits : List ℕ). length lits) p.justice + length p.fairness
literal-count p =
    let some : List ℕ = p.outputs ++ p.bad ++ p.constraints in
    let joined : List ℕ = flat_map (λ (lits : List ℕ). lits) p.justice in
    let lengths : length joined ≡ sum_by (λ (lits : List ℕ). length lits) p.justice = length-flat_map (λ (lits : List ℕ). lits) p.justice in
    omega (arith, length-append (some ++ joined) p.fairness, length-append some joined, length-append (p.outputs ++ p.bad) p.constraints, length-append p.outputs p.bad, lengths)

-- counted list by list, as far as the number goes
pub literals_counted : (p : Props) (index count more result most : ℕ) → length p.justice ≤ index
    → count ≡ min (length p.outputs + length p.bad + length p.constraints + sum_by (λ (lits : List ℕ). length lits) (take index p.justice)) most → more ≡ length p.fairness
    → result ≡ min (count + more) most → result ≡ min (length (property_literals p)) most
literals_counted p index count more result most end before last is =
    let all : sum_by (λ (lits : List ℕ). length lits) (take index p.justice) ≡ sum_by (λ (lits : List ℕ). length lits) p.justice =
    ap (sum_by (λ (lits : List ℕ). length lits)) (take_all index p.justice end) in
    omega (arith, before, last, is, literal-count p, all)
