-- The constraints of a pass say that what stands for each latch is what it holds.
use Rattle.std.proofs.Common.{inl, inr, ℕ, ◌<◌, ◌≡◌, Bool, false, Some, slice_get, List, length, get_or, arith, ap, sym, ◌∙◌, subst, zero-add}
use Rattle.std.specs.List.{All}
use Rattle.std.proofs.lemmas.Option.{slice_get_within}
use Rattle.aig_graph.specs.declared.graph.Latch.{Latch}
use Rattle.aig_graph.specs.Graph.{Graph, IsGraph, first_latch}
use Rattle.aig_graph.specs.Value.{value_within}
use Rattle.aig_graph.proofs.KindLaws.{element}
use Rattle.cleaned_circuits.specs.Latches.{latch_substitute}
use Rattle.cleaned_circuits.proofs.LatchLaws.{constant-even, stands_for, by_constant, by_itself, by_earlier}
use Rattle.aig_graph.specs.Tables.{table}
use Rattle.aig_graph.proofs.TableLaws.{length-table, table-at}
use Rattle.state_maps.specs.States.{State}
use Rattle.state_maps.specs.CleanedStates.{SubstitutesHold}
use Rattle.state_maps.proofs.FrameMapLaws.{substitute-steady}
use Rattle.map_circuits.specs.Constraining.{IsSubstitute, SubstitutesBelow, substitute_function}
use Rattle.map_circuits.specs.Following.{state_of}
use Rattle.map_circuits.proofs.SubstituteLaws.{function-value, substitute-value}

-- what stands for the latches of a circuit
abbrev pub latch_substitutes : Graph → List ℕ → List ℕ
latch_substitutes d held = table 0 (length d.latches) (λ j. latch_substitute d held j (slice_get d.latches j))

module _ (d : Graph) (held functions : List ℕ) (many : length functions ≡ length d.latches) where
  abbrev first : ℕ
  first = first_latch d

  substitute-at : (j a : ℕ) (latch : Latch) → slice_get d.latches j ≡ Some latch → get_or (latch_substitutes d held) j a ≡ latch_substitute d held j (Some latch)
  substitute-at j a latch there =
      let f : ℕ → ℕ = λ k. latch_substitute d held k (slice_get d.latches k) in
      table-at 0 (length d.latches) f j a (slice_get_within d.latches j latch there) ∙ ap f (zero-add j) ∙ ap (latch_substitute d held j) there

  is-substitute : (j : ℕ) (latch : Latch) → slice_get d.latches j ≡ Some latch → IsSubstitute first functions (latch_substitute d held j (Some latch))
  is-substitute j latch there =
      let below : j < length d.latches = slice_get_within d.latches j latch there in
      elim (stands_for d held j latch) [
        | by_constant constant_latch e ↦ inl (omega (arith, e, constant-even latch.reset))
        | by_itself moving e ↦ inr (omega (arith, e), omega (arith, e, below, many))
        | by_earlier i less at duplicate known apart e ↦ inr (omega (arith, e), omega (arith, e, less, below, many))
      ]

  -- what stands for a latch in a pass is the constant, or a latch that has a function
  pub all-substitutes : All (λ substitute. IsSubstitute first functions substitute) (latch_substitutes d held)
  all-substitutes k a less =
      let below : k < length d.latches = omega (arith, less, length-table 0 (length d.latches) (λ j. latch_substitute d held j (slice_get d.latches j))) in
      let latch = element d.latches k below in
      subst (λ (lit : ℕ). IsSubstitute first functions lit) (sym (substitute-at k a latch.0 latch.1)) (is-substitute k latch.0 latch.1)

  module _ (g : Graph) (graph : IsGraph g) (valid : IsGraph d) (s : State) where
    abbrev here : ℕ → Bool
    here = value_within g s (λ i. false)

    abbrev there : ℕ → Bool
    there = value_within d (λ i. false) (state_of g functions s)

    value-of-function : (j : ℕ) → j < length functions → here (get_or functions j 0) ≡ state_of g functions s j
    value-of-function = function-value d valid functions many g graph s

    substitute-here : (j : ℕ) (latch : Latch) → slice_get d.latches j ≡ Some latch → here (substitute_function first functions (get_or (latch_substitutes d held) j 0)) ≡ there (latch_substitute d held j (Some latch))
    substitute-here j latch at =
        ap (λ (lit : ℕ). here (substitute_function first functions lit)) (substitute-at j 0 latch at) ∙ substitute-value d valid functions many g graph s (latch_substitute d held j (Some latch)) (is-substitute j latch at)

    -- if each function equals that of what stands for its latch, what stands for each latch is what
    -- the latch holds
    pub substitutes-hold : SubstitutesBelow g first functions (latch_substitutes d held) (length (latch_substitutes d held)) s → SubstitutesHold d held (state_of g functions s)
    substitutes-hold below x j latch at =
        let less : j < length d.latches = slice_get_within d.latches j latch at in
        let listed : j < length (latch_substitutes d held) = omega (arith, less, length-table 0 (length d.latches) (λ k. latch_substitute d held k (slice_get d.latches k))) in
        substitute-steady d held (state_of g functions s) valid x j latch at
        ∙ sym (substitute-here j latch at) ∙ sym (below j listed) ∙ value-of-function j (omega (arith, less, many))

    -- if what stands for each latch is what the latch holds, each function equals that of what
    -- stands for its latch
    pub substitutes-below : SubstitutesHold d held (state_of g functions s) → SubstitutesBelow g first functions (latch_substitutes d held) (length (latch_substitutes d held)) s
    substitutes-below holds j less =
        let below : j < length d.latches = omega (arith, less, length-table 0 (length d.latches) (λ k. latch_substitute d held k (slice_get d.latches k))) in
        let latch = element d.latches j below in
        value-of-function j (omega (arith, below, many)) ∙ sym (holds (λ i. false) j latch.0 latch.1) ∙ sym (substitute-here j latch.0 latch.1)
