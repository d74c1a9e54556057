-- The constraints of a merging say that each latch holds what it reads as.
use Rattle.std.proofs.Common.{inl, inr, ℕ, ◌<◌, ◌≡◌, Bool, false, Some, slice_get, List, length, get_or, arith, sym, ◌∙◌, subst}
use Rattle.std.specs.List.{All}
use Rattle.std.proofs.lemmas.List.{get_or_default}
use Rattle.std.proofs.lemmas.Option.{slice_get_within}
use Rattle.aig_graph.specs.declared.graph.Latch.{Latch}
use Rattle.aig_graph.specs.Graph.{Graph, IsGraph, first_latch}
use Rattle.aig_graph.specs.Value.{value_within}
use Rattle.aig_graph.proofs.KindLaws.{element}
use Rattle.cleaned_circuits.proofs.LatchLaws.{constant-even}
use Rattle.merged_circuits.specs.Inductive.{IsInductive}
use Rattle.merged_circuits.specs.Readings.{IsReading, ReadsAs, as_constant, as_first, as_itself, read}
use Rattle.state_maps.specs.States.{State}
use Rattle.map_circuits.specs.Constraining.{IsSubstitute, SubstitutesBelow, substitute_function}
use Rattle.map_circuits.specs.Following.{state_of}
use Rattle.map_circuits.proofs.SubstituteLaws.{function-value, substitute-value}
use Rattle.state_maps.specs.MergedStates.{ReadsHold}
use Rattle.state_maps.proofs.ReadsHoldLaws.{steady}

module _ (d : Graph) (held reads functions : List ℕ) (reading : IsReading d held reads) (many : length functions ≡ length d.latches) where
  abbrev first : ℕ
  first = first_latch d

  is-substitute : (j : ℕ) (latch : Latch) (lit : ℕ) → slice_get d.latches j ≡ Some latch → ReadsAs d held reads j latch lit → IsSubstitute first functions lit
  is-substitute j latch lit there (as_itself e) = let below : j < length d.latches = slice_get_within d.latches j latch there in inr (omega (arith, e), omega (arith, e, below, many))
  is-substitute j latch lit there (as_constant may e) = inl (omega (arith, e, constant-even latch.reset))
  is-substitute j latch lit there (as_first i other less other_there may may_first own e) =
      let below : i < length d.latches = slice_get_within d.latches i other other_there in
      inr (omega (arith, e), omega (arith, e, below, many))

  -- what a latch reads as is a constant, or a literal of a latch
  read-substitute : (j : ℕ) → j < length d.latches → IsSubstitute first functions (read reads j)
  read-substitute j less = let latch = element d.latches j less in is-substitute j latch.0 (read reads j) latch.1 (reading.each j latch.0 latch.1)

  -- what latches read as are constants, or literals of latches
  pub all-substitutes : All (λ substitute. IsSubstitute first functions substitute) reads
  all-substitutes k a less =
      subst (λ (lit : ℕ). IsSubstitute first functions lit) (sym (get_or_default reads k a 0 less)) (read-substitute k (omega (arith, less, reading.long)))

  module _ (g : Graph) (graph : IsGraph g) (valid : IsGraph d) (s : State) where
    abbrev here : ℕ → Bool
    here = value_within g s (λ i. false)

    abbrev there : ℕ → Bool
    there = value_within d (λ i. false) (state_of g functions s)

    value-of-function : (j : ℕ) → j < length functions → here (get_or functions j 0) ≡ state_of g functions s j
    value-of-function = function-value d valid functions many g graph s

    substitute-here : (j : ℕ) → j < length d.latches → here (substitute_function first functions (get_or reads j 0)) ≡ there (read reads j)
    substitute-here j less = substitute-value d valid functions many g graph s (read reads j) (read-substitute j less)

    -- if latches hold what they read as in the state of the functions, each function has the value
    -- of what its latch reads as
    pub reads-below : ReadsHold d reads (state_of g functions s) → SubstitutesBelow g first functions reads (length reads) s
    reads-below holds j less =
        let below : j < length d.latches = omega (arith, less, reading.long) in
        let latch = element d.latches j below in
        value-of-function j (omega (arith, below, many)) ∙ sym (holds (λ i. false) j latch.0 latch.1) ∙ sym (substitute-here j below)

    -- if each function has the value of what its latch reads as, and steps preserve that, latches
    -- hold what they read as
    pub reads-hold : IsInductive d held reads → SubstitutesBelow g first functions reads (length reads) s → ReadsHold d reads (state_of g functions s)
    reads-hold kept below x j latch at =
        let less : j < length d.latches = slice_get_within d.latches j latch at in
        steady d held reads valid kept (state_of g functions s) x j latch at
        ∙ sym (substitute-here j less) ∙ sym (below j (omega (arith, less, reading.long))) ∙ value-of-function j (omega (arith, less, many))
