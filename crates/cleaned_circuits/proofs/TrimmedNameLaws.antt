-- The literals and names of a trimmed circuit.
use Rattle.std.proofs.Common.{ℕ, ◌+◌, ◌<◌, ◌≤◌, ◌≡◌, List, [], ◌∷◌, length, map, filter, Bool, true, false, cond, get_or, refl, arith, ap, sym, subst}
use Rattle.std.specs.List.{All}
use Rattle.std.specs.List.Sorted.{IsStrictlyIncreasing}
use Rattle.std.proofs.lemmas.List.{length-map, get_or-map}
use Rattle.std.proofs.lemmas.List.Elements.{All-filter, All-map, All-get_or, filter_passes}
use Rattle.std.proofs.lemmas.List.Kept.{IsStrictlyIncreasing-filter}
use Rattle.aig_graph.specs.declared.properties.Symbol.{Symbol}
use Rattle.aig_graph.specs.Graph.{Graph, IsGraph, IsLiteralOf, variable, first_latch, first_gate}
use Rattle.aig_graph.specs.Circuits.{Netlist, IsNetlist, AreNamesBelow}
use Rattle.aig_graph.specs.Mapped.{mapped_props}
use Rattle.cleaned_circuits.specs.Reached.{stays, HoldsReads}
use Rattle.cleaned_circuits.specs.Trimmed.{new_variable, new_position, renumbered, new_name, trimmed_graph, trimmed_symbols, trimmed_of}
use Rattle.aig_graph.proofs.PropsLaws.{mapped-props, literals_within}
use Rattle.cleaned_circuits.proofs.TrimmedLaws.{stays-reached, new-from, new-less, renumbered-within, trimmed-inputs, trimmed-first_latch, trimmed-first_gate}

module _ (g : Graph) (s : ℕ → Bool) where
  abbrev stays_at : ℕ → Bool
  stays_at j = s (first_latch g + j)

  -- the new positions of latches that stay rise
  pub positions-rising : (xs : List ℕ) → IsStrictlyIncreasing xs → All (λ j. s (first_latch g + j) ≡ true) xs → IsStrictlyIncreasing (map (new_position g s) xs)
  positions-rising xs rising all k h =
      let long : length (map (new_position g s) xs) ≡ length xs = length-map xs (new_position g s) in
      let a : ℕ = get_or xs k 0 in
      let b : ℕ = get_or xs (k + 1) 0 in
      let first : get_or (map (new_position g s) xs) k 0 ≡ new_position g s a = get_or-map (new_position g s) xs k 0 0 (omega arith) in
      let second : get_or (map (new_position g s) xs) (k + 1) 0 ≡ new_position g s b = get_or-map (new_position g s) xs (k + 1) 0 0 (omega arith) in
      let less : a < b = rising k (omega arith) in
      let reached : s (first_latch g + a) ≡ true = All-get_or (λ j. s (first_latch g + j) ≡ true) xs k 0 (omega arith) all in
      let ranks : new_variable g s (first_latch g + a) < new_variable g s (first_latch g + b) = new-less g s (first_latch g + a) (first_latch g + b) (stays-reached g s (first_latch g + a) reached) (omega arith) in
      let from : first_latch g ≤ new_variable g s (first_latch g + a) = new-from g s (first_latch g + a) (omega arith) in
      omega arith

  positions : (names : List Symbol) → map (λ (n : Symbol). n.position) (map (new_name g s) (filter (λ (n : Symbol). s (first_latch g + n.position)) names))
      ≡ map (new_position g s) (filter stays_at (map (λ (n : Symbol). n.position) names))
  positions [] = refl
  positions (name ∷ names) = go (s (first_latch g + name.position)) (positions names)
    where
      go : (b : Bool)
          → map (λ (n : Symbol). n.position) (map (new_name g s) (filter (λ (n : Symbol). s (first_latch g + n.position)) names))
          ≡ map (new_position g s) (filter stays_at (map (λ (n : Symbol). n.position) names))
          → map (λ (n : Symbol). n.position) (map (new_name g s) (cond b (name ∷ filter (λ (n : Symbol). s (first_latch g + n.position)) names) (filter (λ (n : Symbol). s (first_latch g + n.position)) names)))
          ≡ map (new_position g s) (cond b (name.position ∷ filter stays_at (map (λ (n : Symbol). n.position) names)) (filter stays_at (map (λ (n : Symbol). n.position) names)))
      go true same = ap (λ (xs : List ℕ). new_position g s name.position ∷ xs) same
      go false same = same

  latches-long : first_latch g + length (trimmed_graph g s).latches ≡ new_variable g s (first_gate g)
  latches-long = omega (arith, trimmed-first_gate g s, trimmed-first_latch g s)

  latch-names : (names : List Symbol) → AreNamesBelow (length g.latches) names
      → AreNamesBelow (length (trimmed_graph g s).latches) (map (new_name g s) (filter (λ (n : Symbol). s (first_latch g + n.position)) names))
  latch-names names valid =
      let test : Symbol → Bool = λ n. s (first_latch g + n.position) in
      let places = map (λ (n : Symbol). n.position) names in
      let kept = filter test names in
      let below = All-filter test (λ (n : Symbol). n.position < length g.latches) names valid.below in
      let passes = filter_passes test names in
      record {
        rising = subst IsStrictlyIncreasing (sym (positions names))
            (positions-rising (filter stays_at places) (IsStrictlyIncreasing-filter stays_at places valid.rising) (filter_passes stays_at places));
        below = All-map (λ (n : Symbol). n.position < length (trimmed_graph g s).latches) (new_name g s) kept (λ k d h.
            let j : ℕ = (get_or kept k d).position in
            let one : j < length g.latches = below k d h in
            let reached : s (first_latch g + j) ≡ true = passes k d h in
            let ranks : new_variable g s (first_latch g + j) < new_variable g s (first_gate g) = new-less g s (first_latch g + j) (first_gate g) (stays-reached g s (first_latch g + j) reached) (omega arith) in
            omega (arith, latches-long, new-from g s (first_latch g + j) (omega arith)));
      }

module _ (c : Netlist) (held : List ℕ) (s : ℕ → Bool) (valid : IsGraph c.aig) (netlist : IsNetlist c) (holds : HoldsReads c.aig c.props held s) where
  names_as_many : (n m : ℕ) (names : List Symbol) → m ≡ n → AreNamesBelow n names → AreNamesBelow m names
  names_as_many n m names same below = let P : ℕ → Type 0 = λ k. AreNamesBelow k names in subst P (sym same) below

  -- trimmed to a set that holds what it reads, a circuit has properties in range and symbols by
  -- rising position
  pub IsNetlist-trimmed : IsNetlist (trimmed_of c s)
  unfolding mapped_props trimmed_symbols
  IsNetlist-trimmed =
      let f = renumbered c.aig s in
      let p = c.props in
      let n = netlist.symbols in
      let names = c.symbols in
      record {
        props = mapped-props f (λ lit. IsLiteralOf c.aig lit × (stays c.aig s (variable lit) ≡ true)) (trimmed_graph c.aig s) p
            (λ k d h. (literals_within c.aig p netlist.props k d h, holds.properties k d h))
            (λ lit both. renumbered-within c held s valid holds lit both.1 both.0);
        symbols = record {
          inputs = names_as_many c.aig.inputs (trimmed_graph c.aig s).inputs names.inputs (trimmed-inputs c.aig s) n.inputs;
          latches = latch-names c.aig s names.latches n.latches;
          outputs = names_as_many (length p.outputs) (length (map f p.outputs)) names.outputs (length-map p.outputs f) n.outputs;
          bad = names_as_many (length p.bad) (length (map f p.bad)) names.bad (length-map p.bad f) n.bad;
          constraints = names_as_many (length p.constraints) (length (map f p.constraints)) names.constraints (length-map p.constraints f) n.constraints;
          justice = names_as_many (length p.justice) (length (map (map f) p.justice)) names.justice (length-map p.justice (map f)) n.justice;
          fairness = names_as_many (length p.fairness) (length (map f p.fairness)) names.fairness (length-map p.fairness f) n.fairness;
        };
      }
