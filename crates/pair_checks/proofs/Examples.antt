-- Two small circuits side by side: how their latches begin, and what is held by what a latch reads
-- as. All by computing.
use Rattle.std.proofs.Common.{ℕ, ◌≡◌, Bool, true, false, [], ◌∷◌, refl}
use Rattle.aig_graph.specs.declared.graph.Reset.TheVariants.{Zero, One, Free}
use Rattle.aig_graph.specs.Graph.{Graph}
use Rattle.aig_graph.specs.Tables.{table}
use Rattle.pair_checks.specs.Openings.{openings}
use Rattle.pair_checks.specs.Pairs.{held, read_value}

-- a latch that is 0 first, and two free ones; each takes the input
first : Graph
first = record {
  inputs = 1;
  latches = record { next = 2; reset = Zero } ∷ record { next = 2; reset = Free } ∷ record { next = 2; reset = Free } ∷ [];
  gates = [];
}

-- one of the free ones, and a latch that is 1 first and takes the input's negation
second : Graph
second = record {
  inputs = 1;
  latches = record { next = 2; reset = Free } ∷ record { next = 3; reset = One } ∷ [];
  gates = [];
}

-- the free latch of the second circuit is the second free one of the first: they begin as one
-- variable
begins : openings first second (1 ∷ []) ≡ 0 ∷ 2 ∷ 4 ∷ 4 ∷ 1 ∷ []
unfolding first second table
begins = refl

-- it is the first one of them
begins-otherwise : openings first second (0 ∷ []) ≡ 0 ∷ 2 ∷ 4 ∷ 2 ∷ 1 ∷ []
unfolding first second table
begins-otherwise = refl

-- a state in which all is 1
ones : ℕ → Bool
ones j = true

-- the fourth latch of the list is the first one of the second circuit
held-by-second : held first ones (λ j. false) 3 ≡ false
unfolding first ones
held-by-second = refl

-- The literal 8 is of variable 4. That is the third latch: two variables stand before the latches.
-- The literal 9 is its negation.
read-by-first : read_value first ones (λ j. false) 8 ≡ true
unfolding first ones
read-by-first = refl

read-negated : read_value first ones (λ j. false) 9 ≡ false
unfolding first ones
read-negated = refl
