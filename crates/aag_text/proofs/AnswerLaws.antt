-- What is answered of the lists that reading left.
use Rattle.std.proofs.Common.{ℕ, ◌+◌, ◌^◌, ◌<◌, ◌≤◌, ◌≡◌, List, length, map, get_or, Bool, true, false, cond, ◌||◌, ◌&&◌, nat_eq, Option, Some, None, Result, Ok, Err, IfOk, IfErr, IsTrue, unwrap_or, sym, ap, ap₂, subst, ◌∙◌, inl, inr, arith}
use Rattle.std.specs.List.{list_all, sum}
use Rattle.std.proofs.lemmas.Bool.{cases_Bool, cond-true, cond-false, ltb-true}
use Rattle.std.proofs.lemmas.List.{length-map}
use Rattle.std.proofs.lemmas.List.Elements.{All-map}
use Rattle.aig_graph.specs.declared.graph.Latch.{Latch}
use Rattle.aig_graph.specs.declared.properties.Symbols.{Symbols}
use Rattle.aig_graph.specs.Graph.{variable}
use Rattle.aig_graph.specs.Circuits.{Netlist}
use Rattle.ascii_file.specs.order.Order.{ordered}
use Rattle.file_words.specs.declared.fault.ReadError.{ReadError}
use Rattle.file_words.specs.declared.fault.ReadError.TheVariants.{NoMemory}
use Rattle.file_words.specs.Answering.{Fails, Gives}
use Rattle.ascii_file.specs.declared.parts.places.Places.{Places}
use Rattle.ascii_file.specs.parts.Places.{place_of}
use Rattle.ascii_file.specs.declared.raw.RawLatch.{RawLatch}
use Rattle.ascii_file.specs.Raw.{RawSymbol}
use Rattle.ascii_file.specs.Meaning.{gate_reads}
use Rattle.ascii_file.specs.Reading.{is_resolved, resolve}
use Rattle.ascii_file.specs.parts.Parts.{AreNamesWithin}
use Rattle.ascii_file.proofs.PartLaws.{within}
use Rattle.aag_text.specs.declared.circuit.lists.RawLists.{RawLists}
use Rattle.aag_text.specs.Numbering.{has_place, is_placed, placed, placed_latch, placed_gate, is_gate_placed, placed_lists, PlacedLists, if_known}
use Rattle.aag_text.specs.Arranging.{IsBelow, HasFanInsBelow, order_or_cycle}
use Rattle.aag_text.specs.Resolving.{raw_of, AreListsRead, IsConsistent, PlacedListsFit, IsOrdered, arranged, placed_reads}
use Rattle.aag_text.proofs.ResolveLaws.{both_left, both_right, placed_is, placing_fails, known_value, length-defined, known_at, by_parts, as_placed, by_position, reads_are, circuit_is, resolved_is, ordering_fails}

-- ---- lists of a reader are consistent

-- lists that have been read have as many items as the header says, and names of things that it
-- counts
pub consistent : (l : RawLists) (symbols : List RawSymbol) → AreListsRead l symbols → IsConsistent l
consistent l symbols read = record {
  inputs = read.counted.inputs;
  latches = read.counted.latches;
  safety = read.counted.safety;
  sizes = read.counted.sizes;
  liveness = read.counted.liveness;
  names = subst (AreNamesWithin l.header) (sym read.names) (within l.header symbols read.names_apart.below read.names_apart.apart);
}

-- a test that holds doesn't fail
pub not_both : (b : Bool) → IsTrue b → b ≡ false → ⊥
not_both b it not_it = cc

-- ---- by places, whatever the places

placed_below : (places : Places) (count lit : ℕ) → is_placed places count lit ≡ true → variable (placed places lit) < 1 + count
placed_below places count lit known = elim (cases_Bool (nat_eq (variable lit) 0)) [
  | inl is ↦
      let none : cond (nat_eq (variable lit) 0) 0 (1 + unwrap_or (place_of places (variable lit)) 0) ≡ 0 = cond-true _ _ _ is in
      omega (arith, none)
  | inr other ↦
      let there : has_place count (place_of places (variable lit)) ≡ true = sym (ap (λ (b : Bool). b || has_place count (place_of places (variable lit))) other) ∙ known in
      let low = by_place (place_of places (variable lit)) there in
      let some : cond (nat_eq (variable lit) 0) 0 (1 + unwrap_or (place_of places (variable lit)) 0) ≡ 1 + unwrap_or (place_of places (variable lit)) 0 = cond-false _ _ _ other in
      omega (arith, some, low)
]
  where
    by_place : (o : Option ℕ) → has_place count o ≡ true → unwrap_or o 0 < count
    by_place None there = absurd (cc)
    by_place (Some p) there = ltb-true p count there

placed_parts : (l : RawLists) → IsConsistent l → 1 + length l.inputs.items + length l.latches.items + length l.gates.items ≤ 2 ^ 28 → (sizes : List ℕ) → sizes ≡ l.properties.sizes
    → list_all (λ (latch : RawLatch). is_placed l.places (length l.inputs.items + length l.latches.items + length l.gates.items) latch.next) l.latches.items ≡ true
    → list_all (is_placed l.places (length l.inputs.items + length l.latches.items + length l.gates.items)) l.properties.safety ≡ true
    → list_all (is_placed l.places (length l.inputs.items + length l.latches.items + length l.gates.items)) l.properties.liveness ≡ true
    → list_all (is_gate_placed l.places (length l.inputs.items + length l.latches.items + length l.gates.items)) l.gates.items ≡ true
    → PlacedListsFit l.header sizes (as_placed (map (placed_latch l.places) l.latches.items) (map (placed l.places) l.properties.safety) (map (placed l.places) l.properties.liveness) (map (placed_gate l.places) l.gates.items))
placed_parts l is small sizes same a b d g =
    let many = length-map l.gates.items (placed_gate l.places) in
    let end : 1 + (length l.inputs.items + length l.latches.items + length l.gates.items) ≡ 1 + l.header.inputs + l.header.latches + length (map (placed_gate l.places) l.gates.items)
    = omega (arith, many, is.inputs, is.latches) in
    record {
      small = omega (arith, many, is.inputs, is.latches, small);
      latches = length-map l.latches.items (placed_latch l.places) ∙ is.latches;
      safety = length-map l.properties.safety (placed l.places) ∙ is.safety;
      justice = ap length same ∙ is.sizes;
      liveness = length-map l.properties.liveness (placed l.places) ∙ is.liveness ∙ ap (λ (ns : List ℕ). sum ns + l.header.fairness) (sym same);
      latches_below = All-map (λ (latch : Latch). IsBelow (1 + l.header.inputs + l.header.latches + length (map (placed_gate l.places) l.gates.items)) latch.next) (placed_latch l.places) l.latches.items
          (λ k e less. subst (λ (n : ℕ). variable (placed l.places (get_or l.latches.items k e).next) < n) end
          (placed_below l.places (length l.inputs.items + length l.latches.items + length l.gates.items) (get_or l.latches.items k e).next (known_at (λ (latch : RawLatch). is_placed l.places (length l.inputs.items + length l.latches.items + length l.gates.items) latch.next) l.latches.items a k e less)));
      safety_below = All-map (IsBelow (1 + l.header.inputs + l.header.latches + length (map (placed_gate l.places) l.gates.items))) (placed l.places) l.properties.safety
          (λ k e less. subst (λ (n : ℕ). variable (placed l.places (get_or l.properties.safety k e)) < n) end
          (placed_below l.places (length l.inputs.items + length l.latches.items + length l.gates.items) (get_or l.properties.safety k e) (known_at (is_placed l.places (length l.inputs.items + length l.latches.items + length l.gates.items)) l.properties.safety b k e less)));
      liveness_below = All-map (IsBelow (1 + l.header.inputs + l.header.latches + length (map (placed_gate l.places) l.gates.items))) (placed l.places) l.properties.liveness
          (λ k e less. subst (λ (n : ℕ). variable (placed l.places (get_or l.properties.liveness k e)) < n) end
          (placed_below l.places (length l.inputs.items + length l.latches.items + length l.gates.items) (get_or l.properties.liveness k e) (known_at (is_placed l.places (length l.inputs.items + length l.latches.items + length l.gates.items)) l.properties.liveness d k e less)));
      gates_below = All-map (HasFanInsBelow (1 + l.header.inputs + l.header.latches + length (map (placed_gate l.places) l.gates.items))) (placed_gate l.places) l.gates.items
          (λ k e less.
          let both = known_at (is_gate_placed l.places (length l.inputs.items + length l.latches.items + length l.gates.items)) l.gates.items g k e less in (
            subst (λ (n : ℕ). variable (placed l.places (get_or l.gates.items k e).rhs0) < n) end (placed_below l.places (length l.inputs.items + length l.latches.items + length l.gates.items) (get_or l.gates.items k e).rhs0 (both_left (is_placed l.places (length l.inputs.items + length l.latches.items + length l.gates.items) (get_or l.gates.items k e).rhs0) (is_placed l.places (length l.inputs.items + length l.latches.items + length l.gates.items) (get_or l.gates.items k e).rhs1) both)),
            subst (λ (n : ℕ). variable (placed l.places (get_or l.gates.items k e).rhs1) < n) end (placed_below l.places (length l.inputs.items + length l.latches.items + length l.gates.items) (get_or l.gates.items k e).rhs1 (both_right (is_placed l.places (length l.inputs.items + length l.latches.items + length l.gates.items) (get_or l.gates.items k e).rhs0) (is_placed l.places (length l.inputs.items + length l.latches.items + length l.gates.items) (get_or l.gates.items k e).rhs1) both)),
          ));
    }

-- what consistent lists give by places fits a circuit of the header's numbers
pub are_placed : (l : RawLists) → IsConsistent l → 1 + length l.inputs.items + length l.latches.items + length l.gates.items ≤ 2 ^ 28 → (sizes : List ℕ) → sizes ≡ l.properties.sizes → (p : PlacedLists)
    → placed_lists l.places (length l.inputs.items + length l.latches.items + length l.gates.items) l.latches.items l.properties.safety l.properties.liveness l.gates.items ≡ Ok p
    → PlacedListsFit l.header sizes p
are_placed l is small sizes same p ok =
    let a = list_all (λ (latch : RawLatch). is_placed l.places (length l.inputs.items + length l.latches.items + length l.gates.items) latch.next) l.latches.items in
    let b = list_all (is_placed l.places (length l.inputs.items + length l.latches.items + length l.gates.items)) l.properties.safety in
    let d = list_all (is_placed l.places (length l.inputs.items + length l.latches.items + length l.gates.items)) l.properties.liveness in
    let g = list_all (is_gate_placed l.places (length l.inputs.items + length l.latches.items + length l.gates.items)) l.gates.items in
    let parts = known_value (((a && b) && d) && g) (as_placed (map (placed_latch l.places) l.latches.items) (map (placed l.places) l.properties.safety) (map (placed l.places) l.properties.liveness) (map (placed_gate l.places) l.gates.items)) p
    (sym (by_parts a b d g (map (placed_latch l.places) l.latches.items) (map (placed l.places) l.properties.safety) (map (placed l.places) l.properties.liveness) (map (placed_gate l.places) l.gates.items)) ∙ ok) in
    let three = both_left ((a && b) && d) g parts.0 in
    let two = both_left (a && b) d three in
    subst (PlacedListsFit l.header sizes) parts.1
    (placed_parts l is small sizes same (both_left a b two) (both_right a b two) (both_right (a && b) d three) (both_right ((a && b) && d) g parts.0))

-- ---- the answer

module _ (l : RawLists) (symbols : List RawSymbol) (read : AreListsRead l symbols) where
  by_places : placed_lists l.places (length l.inputs.items + length l.latches.items + length l.gates.items) l.latches.items l.properties.safety l.properties.liveness l.gates.items
      ≡ if_known (is_resolved (raw_of l symbols)) (by_position (raw_of l symbols))
  by_places = placed_is (raw_of l symbols) l.places (length l.inputs.items + length l.latches.items + length l.gates.items) (sym (length-defined (raw_of l symbols))) read.places

  -- a fault of the lists by places is that of the raw circuit
  pub fails_by_places : (e : ReadError)
      → Fails NoMemory e (placed_lists l.places (length l.inputs.items + length l.latches.items + length l.gates.items) l.latches.items l.properties.safety l.properties.liveness l.gates.items)
      → Fails NoMemory e (resolve l.header (raw_of l symbols))
  fails_by_places e fails = placing_fails l.header (raw_of l symbols) e _ by_places fails

  module _ (resolved : is_resolved (raw_of l symbols) ≡ true) where
    reads_same : placed_reads l.header (by_position (raw_of l symbols)) ≡ gate_reads (raw_of l symbols)
    reads_same =
        reads_are (raw_of l symbols) read.apart resolved (1 + l.header.inputs + l.header.latches) (omega (arith, read.counted.inputs, read.counted.latches))

    answered : (sizes : List ℕ) → sizes ≡ l.properties.sizes → (result : Result Netlist ReadError) → IfOk result (λ c. IsOrdered l.header sizes (by_position (raw_of l symbols)) l.names c)
        → IfErr result (λ e. Fails NoMemory e (order_or_cycle (ordered (placed_reads l.header (by_position (raw_of l symbols)))))) → Gives NoMemory (λ c. c) result (resolve l.header (raw_of l symbols))
    answered sizes same (Ok c) ok err =
        resolved_is l.header (raw_of l symbols) (Some ok.order) resolved (ap ordered (sym reads_same) ∙ ok.computed)
        ∙ ap (λ (d : Netlist). Ok d) (sym (ok.arranged.circuit
        ∙ ap₂ (λ (names : Symbols) (ns : List ℕ). arranged l.header ns (by_position (raw_of l symbols)) names ok.order ok.arranged.ranks) read.names same
        ∙ circuit_is l.header (raw_of l symbols) read.apart resolved read.counted.inputs read.counted.latches ok.order ok.arranged.ranks ok.is_order ok.arranged.are_ranks))
    answered sizes same (Err e) ok err = ordering_fails l.header (raw_of l symbols) (placed_reads l.header (by_position (raw_of l symbols))) e resolved reads_same err

  -- the circuit in the order found, or the fault of the order, is what the raw circuit gives if all
  -- that it reads is defined
  pub answers : (sizes : List ℕ) → sizes ≡ l.properties.sizes → (p : PlacedLists)
      → placed_lists l.places (length l.inputs.items + length l.latches.items + length l.gates.items) l.latches.items l.properties.safety l.properties.liveness l.gates.items ≡ Ok p
      → (result : Result Netlist ReadError) → IfOk result (λ c. IsOrdered l.header sizes p l.names c) → IfErr result (λ e. Fails NoMemory e (order_or_cycle (ordered (placed_reads l.header p))))
      → Gives NoMemory (λ c. c) result (resolve l.header (raw_of l symbols))
  answers sizes same p placed result ok err =
      let parts = known_value (is_resolved (raw_of l symbols)) (by_position (raw_of l symbols)) p (sym by_places ∙ placed) in
      answered parts.0 sizes same result (subst (λ (q : PlacedLists). IfOk result (λ c. IsOrdered l.header sizes q l.names c)) (sym parts.1) ok)
      (subst (λ (q : PlacedLists). IfErr result (λ e. Fails NoMemory e (order_or_cycle (ordered (placed_reads l.header q))))) (sym parts.1) err)
