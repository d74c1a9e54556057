-- The properties of a raw circuit are as many as its header says.
use Rattle.std.proofs.Common.{ℕ, ◌+◌, ◌^◌, ◌≡◌, ◌≤◌, List, [], ◌∷◌, length, map, take, drop, arith}
use Rattle.std.specs.List.{sum}
use Rattle.std.proofs.lemmas.List.{length-take, length-drop}
use Rattle.std.proofs.lemmas.List.Sums.{sum_by-cons}
use Rattle.aig_graph.specs.declared.properties.Props.{Props}
use Rattle.ascii_file.specs.declared.header.Header.{Header}
use Rattle.ascii_file.specs.Raw.{safety_count}
use Rattle.ascii_file.specs.Meaning.{split_by, props_of}
use Rattle.ascii_file.proofs.OwnLiteralLaws.{length-split}

split-sum : (sizes xs : List ℕ) → sum (map length (split_by sizes xs)) ≤ sum sizes
split-sum [] xs = omega arith
split-sum (n ∷ sizes) xs =
    let rest : sum (map length (split_by sizes (drop n xs))) ≤ sum sizes = split-sum sizes (drop n xs) in
    let parts : sum (map length (split_by (n ∷ sizes) xs)) ≡ length (take n xs) + sum (map length (split_by sizes (drop n xs))) = sum_by-cons (λ m. m) (length (take n xs)) (map length (split_by sizes (drop n xs))) in
    let whole : sum (n ∷ sizes) ≡ n + sum sizes = sum_by-cons (λ m. m) n sizes in
    omega (arith, rest, parts, whole, length-take n xs)

-- the limits of a header, of properties
pub record ArePropsWithin (p : Props) : Type 0 where
  -- at most 2^24 outputs
  pub outputs : length p.outputs ≤ 2 ^ 24
  -- at most 2^24 bad states
  pub bad : length p.bad ≤ 2 ^ 24
  -- at most 2^24 constraints
  pub constraints : length p.constraints ≤ 2 ^ 24
  -- at most 2^24 justice properties
  pub justice : length p.justice ≤ 2 ^ 24
  -- at most 2^24 literals of justice properties
  pub justice_literals : sum (map length p.justice) ≤ 2 ^ 24
  -- at most 2^24 fairness literals
  pub fairness : length p.fairness ≤ 2 ^ 24

-- what a header says of properties is within its limits
pub record IsSmall (h : Header) : Type 0 where
  -- it says of outputs at most 2^24
  pub outputs : h.outputs ≤ 2 ^ 24
  -- it says of bad states at most 2^24
  pub bad : h.bad ≤ 2 ^ 24
  -- it says of constraints at most 2^24
  pub constraints : h.constraints ≤ 2 ^ 24
  -- it says of justice properties at most 2^24
  pub justice : h.justice ≤ 2 ^ 24
  -- it says of fairness literals at most 2^24
  pub fairness : h.fairness ≤ 2 ^ 24

-- properties that are as many as a header within its limits says are within them
pub props-within : (h : Header) (safety sizes liveness : List ℕ) → IsSmall h → length safety ≡ safety_count h → length sizes ≡ h.justice → length liveness ≡ sum sizes + h.fairness → sum sizes ≤ 2 ^ 24
    → ArePropsWithin (props_of h safety sizes liveness)
unfolding props_of
props-within h safety sizes liveness small first second third few =
    let parts = split-sum sizes liveness in
    record {
      outputs = omega (arith, small.outputs, length-take h.outputs safety);
      bad = omega (arith, small.bad, length-take h.bad (drop h.outputs safety));
      constraints = omega (arith, small.constraints, length-drop (h.outputs + h.bad) safety, first);
      justice = omega (arith, small.justice, length-split sizes liveness, second);
      justice_literals = omega (arith, parts, few);
      fairness = omega (arith, small.fairness, length-drop (sum sizes) liveness, third);
    }
