-- Cleaning, merging and moving keep held latches, with their names and resets.
use Rattle.std.proofs.Common.{ℕ, ◌+◌, ◌≡◌, ◌<◌, ◌≤◌, inl, inr, List, filter, length, map, Bool, true, Option, Some, slice_get, refl, arith, ap, sym, ◌∙◌, subst}
use Rattle.std.specs.List.{All}
use Rattle.std.proofs.lemmas.List.{length-map}
use Rattle.std.proofs.lemmas.Option.{slice_get_cases}
use Rattle.aig_graph.specs.declared.graph.Latch.{Latch}
use Rattle.aig_graph.specs.declared.properties.Symbol.{Symbol}
use Rattle.aig_graph.specs.Graph.{first_latch, latch_at}
use Rattle.aig_graph.specs.Circuits.{Netlist, IsNetlist}
use Rattle.aig_graph.specs.Keep.{is_named}
use Rattle.aig_graph.specs.Move.{Move, move_of}
use Rattle.aig_graph.proofs.KindLaws.{element, latch_at-first_latch}
use Rattle.aig_graph.proofs.ListLaws.{slice_get-map_some}
use Rattle.aig_graph.proofs.PlacesLaws.{count-lt}
use Rattle.cleaned_circuits.specs.Held.{HeldAfter, held_unchanged, held_after_pass}
use Rattle.cleaned_circuits.specs.Merged.{merged_of, replaced_circuit, replaced_graph, replaced_latch, substitutes_of}
use Rattle.cleaned_circuits.specs.Reached.{AreReached}
use Rattle.cleaned_circuits.specs.Trimmed.{new_position, new_variable, trimmed_of, trimmed_symbols}
use Rattle.cleaned_circuits.specs.Cleaned.{IsPass}
use Rattle.cleaned_circuits.proofs.HeldLaws.{still-in_range}
use Rattle.cleaned_circuits.proofs.PassLaws.{IsCircuit, IsCircuit-pass}
use Rattle.cleaned_circuits.proofs.TrimmedLaws.{latch_in as trimmed-latch, new-from, new-less, stays-reached}
use Rattle.merged_circuits.specs.Inductive.{IsMergedBy}
use Rattle.merged_circuits.specs.Readings.{substitutes_by}
use Rattle.rebuild.specs.Moved.{is_latched, latch_from, latch_for, moved_graph, moved_position, moved_symbols}
use Rattle.rebuild.proofs.HeldLaws.{all-stay}
use Rattle.rebuild.proofs.MovedLaws.{latch_in}
use Rattle.retimed_circuits.specs.Names.{StayHeld, held_latch, held_latches, latch_placed, names_at, reset_of}
use Rattle.retimed_circuits.specs.Frames.{CleansTo, held_over, moved_over}
use Rattle.retimed_circuits.proofs.StayLaws.{KeepsLatches, stays-same, stays-then, step-stays}

module _ (held : List ℕ) (c : Netlist) (valid : IsCircuit c) (in_range : All (λ j. j < length c.aig.latches) held) (s : ℕ → Bool)
    (reached : AreReached (merged_of held c).aig (merged_of held c).props held s) where
  abbrev m : Netlist
  m = merged_of held c

  merged-latch : (j : ℕ) (latch : Latch) → slice_get c.aig.latches j ≡ Some latch → slice_get m.aig.latches j ≡ Some (replaced_latch (substitutes_of c.aig held) latch)
  unfolding replaced_graph
  merged-latch j latch e = slice_get-map_some (replaced_latch (substitutes_of c.aig held)) c.aig.latches j latch e

  trimmed-reset : (j : ℕ) → j < length c.aig.latches → s (first_latch m.aig + j) ≡ true → reset_of (slice_get (trimmed_of m s).aig.latches (new_position m.aig s j)) ≡ reset_of (slice_get c.aig.latches j)
  trimmed-reset j low here =
      let found = element c.aig.latches j low in
      let from : first_latch m.aig ≤ new_variable m.aig s (first_latch m.aig + j) = new-from m.aig s (first_latch m.aig + j) (omega arith) in
      let rank : first_latch m.aig + new_position m.aig s j ≡ new_variable m.aig s (first_latch m.aig + j) = omega (arith, from) in
      let read = trimmed-latch m.aig s j (new_position m.aig s j) (replaced_latch (substitutes_of c.aig held) found.0) (merged-latch j found.0 found.1) here rank in
      ap reset_of read ∙ sym (ap reset_of found.1)

  trimmed-rises : (i j : ℕ) → s (first_latch m.aig + i) ≡ true → i < j → new_position m.aig s i < new_position m.aig s j
  trimmed-rises i j here less =
      let from : first_latch m.aig ≤ new_variable m.aig s (first_latch m.aig + i) = new-from m.aig s (first_latch m.aig + i) (omega arith) in
      let above : new_variable m.aig s (first_latch m.aig + i) < new_variable m.aig s (first_latch m.aig + j) =
      new-less m.aig s (first_latch m.aig + i) (first_latch m.aig + j) (stays-reached m.aig s (first_latch m.aig + i) here) (omega (arith, less)) in
      omega (arith, from, above)

  trimmed-keeps : KeepsLatches held c (trimmed_of m s) (λ j. s (first_latch m.aig + j)) (new_position m.aig s)
  unfolding trimmed_symbols
  trimmed-keeps = record {
    symbols = refl;
    below = valid.netlist.symbols.latches.below;
    in_range = in_range;
    stay = reached.holds.all_held;
    resets = trimmed-reset;
    rises = trimmed-rises;
  }

  trimmed-stays : StayHeld held c (map (new_position m.aig s) held) (trimmed_of m s)
  trimmed-stays = step-stays held c (trimmed_of m s) (λ j. s (first_latch m.aig + j)) (new_position m.aig s) trimmed-keeps

-- a pass of cleaning keeps the held latches
pub pass-keeps : (held : List ℕ) (c d : Netlist) (kept still_held : List ℕ) → IsCircuit c → All (λ j. j < length c.aig.latches) held → IsPass held c d kept still_held → StayHeld held c still_held d
pass-keeps held c d kept still_held valid in_range pass =
    subst (λ (x : Netlist). StayHeld held c still_held x) (sym pass.circuit)
    (subst (λ (xs : List ℕ). StayHeld held c xs (trimmed_of (merged_of held c) pass.reached)) (sym pass.positions) (trimmed-stays held c valid in_range pass.reached pass.are_reached))

after-keeps : (d : Netlist) (now held : List ℕ) (c : Netlist) → HeldAfter d now held c → IsCircuit c → All (λ j. j < length c.aig.latches) held → StayHeld held c now d
after-keeps d now _ _ (held_unchanged held c kept pass same there) valid in_range = stays-same held now c d same there
after-keeps d now _ _ (held_after_pass held c e first still_held pass differs rest) valid in_range =
    stays-then held still_held now c e d (pass-keeps held c e first still_held valid in_range pass)
    (after-keeps d now still_held e rest (IsCircuit-pass held c e first still_held valid pass) (still-in_range held c e first still_held pass in_range))

-- cleaning keeps the held latches
pub cleaning-keeps : (held : List ℕ) (c d : Netlist) (kept now : List ℕ) → IsCircuit c → All (λ j. j < length c.aig.latches) held → CleansTo held c d kept now → StayHeld held c now d
cleaning-keeps held c d kept now valid in_range cleans = after-keeps d now held c cleans.held_after valid in_range

-- ---- merging

-- a latch that reads something else has its reset
replaced-reset : (substitutes : List ℕ) (latches : List Latch) (j : ℕ) → reset_of (slice_get (map (replaced_latch substitutes) latches) j) ≡ reset_of (slice_get latches j)
replaced-reset substitutes latches j = elim (slice_get_cases latches j).1 [
  | inl found ↦ ap reset_of (slice_get-map_some (replaced_latch substitutes) latches j found.0 found.2) ∙ sym (ap reset_of found.2)
  | inr past ↦ elim (slice_get_cases (map (replaced_latch substitutes) latches) j).1 [
    | inl found ↦ absurd (omega (arith, past.0, found.1, length-map latches (replaced_latch substitutes)))
    | inr beyond ↦ ap reset_of (beyond.1 ∙ sym past.1)
  ]
]

replaced-stays : (held substitutes : List ℕ) (c : Netlist) → StayHeld held c held (replaced_circuit substitutes c)
unfolding held_latches replaced_graph
replaced-stays held substitutes c =
    let same : (x : Symbol) → held_latch (replaced_graph substitutes c.aig) x ≡ held_latch c.aig x = λ x. λ i. record { name = x.name; reset = replaced-reset substitutes c.aig.latches x.position i } in
    let placed : (j : ℕ) → latch_placed (replaced_circuit substitutes c) j ≡ latch_placed c j = λ j. λ i. record { names = names_at c.symbols.latches j; reset = replaced-reset substitutes c.aig.latches j i } in
    record {
      stay = ap (λ (f : ℕ → _). map f held) (λ i. λ j. placed j i);
      named = λ names covers. ap (λ (f : Symbol → _). map f (filter (is_named names) c.symbols.latches)) (λ i. λ x. same x i);
      covers = λ names covers. covers;
      exact = λ names is. is;
    }

-- merging keeps the held latches, if they are
pub merging-keeps : (held reads : List ℕ) (c d : Netlist) → IsMergedBy held reads c d → StayHeld held c held d
merging-keeps held reads c d merged = subst (λ (x : Netlist). StayHeld held c held x) (sym merged.circuit) (replaced-stays held (substitutes_by c.aig reads) c)

-- ---- moving

module _ (held : List ℕ) (c : Netlist) (set : List ℕ) (netlist : IsNetlist c) (in_range : All (λ j. j < length c.aig.latches) held) where
  abbrev move : Move
  move = move_of c held set

  abbrev is_there : ℕ → Type 0
  is_there j = is_latched move (first_latch c.aig + j) ≡ true

  moved-reset : (j : ℕ) → j < length c.aig.latches → is_there j → reset_of (slice_get (moved_graph move).latches (moved_position move j)) ≡ reset_of (slice_get c.aig.latches j)
  moved-reset j low kept =
      let found = element c.aig.latches j low in
      let v : ℕ = first_latch c.aig + j in
      let read = latch_in move v (omega (arith, low)) kept in
      let at : latch_at c.aig v ≡ Some found.0 = latch_at-first_latch c.aig j ∙ found.1 in
      let reset : Some (latch_for move v).reset ≡ Some found.0.reset = ap (λ (o : Option Latch). Some (latch_from move v o).reset) at in
      ap reset_of read ∙ reset ∙ sym (ap reset_of found.1)

  moved-keeps : KeepsLatches held c (moved_over held c set) (λ j. is_latched move (first_latch c.aig + j)) (moved_position move)
  unfolding moved_symbols
  moved-keeps = record {
    symbols = refl;
    below = netlist.symbols.latches.below;
    in_range = in_range;
    stay = all-stay move in_range;
    resets = moved-reset;
    rises = λ i j here less. count-lt (is_latched move) (first_latch c.aig + i) (first_latch c.aig + j) (omega (arith, less)) here;
  }

  -- moving latches over a set keeps the held ones
  pub moving-keeps : StayHeld held c (held_over held c set) (moved_over held c set)
  moving-keeps = step-stays held c (moved_over held c set) (λ j. is_latched move (first_latch c.aig + j)) (moved_position move) moved-keeps
