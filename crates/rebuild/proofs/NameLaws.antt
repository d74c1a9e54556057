-- The names of a moved circuit.
use Rattle.std.proofs.Common.{ℕ, ◌+◌, ◌<◌, ◌≤◌, ◌≡◌, List, [], ◌∷◌, length, map, filter, Bool, true, false, cond, get_or, refl, arith, ap, sym, ◌∙◌, subst}
use Rattle.std.specs.List.{All}
use Rattle.std.specs.List.Sorted.{IsStrictlyIncreasing}
use Rattle.std.proofs.lemmas.List.{length-map, get_or-map}
use Rattle.std.proofs.lemmas.List.Elements.{All-filter, All-map, All-get_or, filter_passes}
use Rattle.std.proofs.lemmas.List.Kept.{IsStrictlyIncreasing-filter}
use Rattle.aig_graph.specs.Circuits.{AreNamesBelow, AreSymbolsOf, IsNetlist}
use Rattle.aig_graph.specs.Closed.{IsClosedSet}
use Rattle.aig_graph.specs.Graph.{IsGraph, first_latch, variables_end}
use Rattle.aig_graph.specs.Move.{Move}
use Rattle.aig_graph.specs.Streams.{SameShape}
use Rattle.aig_graph.specs.declared.properties.Symbol.{Symbol}
use Rattle.rebuild.proofs.MovedLaws.{length-moved_latches}
use Rattle.rebuild.proofs.ReadLaws.{moved-props, moved-shape}
use Rattle.rebuild.specs.Moved.{is_latched, moved_graph, moved_of, moved_props, moved_symbols}
use Rattle.aig_graph.proofs.PlacesLaws.{count-le, count-lt}
use Rattle.aig_graph.specs.Counting.{count_below}

module _ (p : ℕ → Bool) (start : ℕ) where
  abbrev pass_at : ℕ → Bool
  pass_at j = p (start + j)

  abbrev rank_of : ℕ → ℕ
  rank_of j = count_below p (start + j)

  -- the ranks of rising places that pass rise
  pub ranks-rising : (xs : List ℕ) → IsStrictlyIncreasing xs → All (λ j. p (start + j) ≡ true) xs → IsStrictlyIncreasing (map rank_of xs)
  ranks-rising xs rising all k h =
      let long : length (map rank_of xs) ≡ length xs = length-map xs rank_of in
      let first : get_or (map rank_of xs) k 0 ≡ rank_of (get_or xs k 0) = get_or-map rank_of xs k 0 0 (omega arith) in
      let second : get_or (map rank_of xs) (k + 1) 0 ≡ rank_of (get_or xs (k + 1) 0) = get_or-map rank_of xs (k + 1) 0 0 (omega arith) in
      let less : get_or xs k 0 < get_or xs (k + 1) 0 = rising k (omega arith) in
      let passes : p (start + get_or xs k 0) ≡ true = All-get_or (λ j. p (start + j) ≡ true) xs k 0 (omega arith) all in
      let ranks : count_below p (start + get_or xs k 0) < count_below p (start + get_or xs (k + 1) 0) = count-lt p (start + get_or xs k 0) (start + get_or xs (k + 1) 0) (omega arith) passes in
      omega arith

  abbrev at_rank_of : Symbol → Symbol
  at_rank_of name = record name { position = count_below p (start + name.position) }

  positions : (names : List Symbol) → map (λ (s : Symbol). s.position) (map at_rank_of (filter (λ (s : Symbol). p (start + s.position)) names)) ≡ map rank_of (filter pass_at (map (λ (s : Symbol). s.position) names))
  positions [] = refl
  positions (name ∷ names) = go (p (start + name.position)) (positions names)
    where
      go : (b : Bool)
          → map (λ (s : Symbol). s.position) (map at_rank_of (filter (λ (s : Symbol). p (start + s.position)) names)) ≡ map rank_of (filter pass_at (map (λ (s : Symbol). s.position) names))
          → map (λ (s : Symbol). s.position) (map at_rank_of (cond b (name ∷ filter (λ (s : Symbol). p (start + s.position)) names) (filter (λ (s : Symbol). p (start + s.position)) names)))
          ≡ map rank_of (cond b (name.position ∷ filter pass_at (map (λ (s : Symbol). s.position) names)) (filter pass_at (map (λ (s : Symbol). s.position) names)))
      go true same = ap (λ (xs : List ℕ). rank_of name.position ∷ xs) same
      go false same = same

  ranked-names : (n m : ℕ) (names : List Symbol) → count_below p (start + n) ≤ m → AreNamesBelow n names → AreNamesBelow m (map at_rank_of (filter (λ (s : Symbol). p (start + s.position)) names))
  ranked-names n m names fits valid =
      let places = map (λ (s : Symbol). s.position) names in
      let kept = filter (λ (s : Symbol). p (start + s.position)) names in
      let below = All-filter (λ (s : Symbol). p (start + s.position)) (λ (s : Symbol). s.position < n) names valid.below in
      let passes = filter_passes (λ (s : Symbol). p (start + s.position)) names in
      record {
        rising = subst IsStrictlyIncreasing (sym (positions names))
            (ranks-rising (filter pass_at places) (IsStrictlyIncreasing-filter pass_at places valid.rising) (filter_passes pass_at places));
        below = All-map (λ (s : Symbol). s.position < m) at_rank_of kept (λ k d h.
            let one : (get_or kept k d).position < n = below k d h in
            let other : p (start + (get_or kept k d).position) ≡ true = passes k d h in
            let ranks : count_below p (start + (get_or kept k d).position) < count_below p (start + n) = count-lt p (start + (get_or kept k d).position) (start + n) (omega arith) other in
            omega arith);
      }

module _ (m : Move) (valid : IsGraph m.circuit.aig) (set : IsClosedSet m.circuit.aig m.held m.set) (netlist : IsNetlist m.circuit) where
  names-as_many : (n m : ℕ) (names : List Symbol) → m ≡ n → AreNamesBelow n names → AreNamesBelow m names
  names-as_many n m names same names_below = let P : ℕ → Type 0 = λ k. AreNamesBelow k names in subst P (sym same) names_below

  moved-symbols : AreSymbolsOf (moved_graph m) (moved_props m) (moved_symbols m)
  unfolding moved_symbols
  moved-symbols =
      let shape : SameShape m.circuit (moved_of m) = moved-shape m in
      let names = netlist.symbols in
      record {
        inputs = names-as_many m.circuit.aig.inputs (moved_graph m).inputs m.circuit.symbols.inputs shape.inputs names.inputs;
        latches = ranked-names (is_latched m) (first_latch m.circuit.aig) (length m.circuit.aig.latches) (length (moved_graph m).latches) m.circuit.symbols.latches
            (omega (arith, length-moved_latches m, count-le (is_latched m) (first_latch m.circuit.aig + length m.circuit.aig.latches) (variables_end m.circuit.aig) (omega arith))) names.latches;
        outputs = names-as_many (length m.circuit.props.outputs) (length (moved_props m).outputs) m.circuit.symbols.outputs shape.outputs names.outputs;
        bad = names-as_many (length m.circuit.props.bad) (length (moved_props m).bad) m.circuit.symbols.bad shape.bad names.bad;
        constraints = names-as_many (length m.circuit.props.constraints) (length (moved_props m).constraints) m.circuit.symbols.constraints shape.constraints names.constraints;
        justice = names-as_many (length m.circuit.props.justice) (length (moved_props m).justice) m.circuit.symbols.justice (same_lengths m.circuit.props.justice (moved_props m).justice shape.justice) names.justice;
        fairness = names-as_many (length m.circuit.props.fairness) (length (moved_props m).fairness) m.circuit.symbols.fairness shape.fairness names.fairness;
      }
    where
      same_lengths : (xs ys : List (List ℕ)) → map (length {A = ℕ}) ys ≡ map (length {A = ℕ}) xs → length ys ≡ length xs
      same_lengths xs ys e = sym (length-map ys (length {A = ℕ})) ∙ ap (length {A = ℕ}) e ∙ length-map xs (length {A = ℕ})

  -- a moved circuit has properties in range and symbols by rising position
  pub IsNetlist-moved : IsNetlist (moved_of m)
  IsNetlist-moved = record { props = moved-props m valid set netlist; symbols = moved-symbols }
