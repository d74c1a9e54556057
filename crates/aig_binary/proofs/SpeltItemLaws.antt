-- The items of a circuit's binary text.
use Rattle.std.proofs.Common.{ℕ, ◌+◌, ◌-◌, ◌*◌, ◌^◌, ◌<◌, ◌≤◌, ◌≡◌, inl, List, [], ◌∷◌, ◌++◌, length, map, Some, false, refl, ap, subst, ◌∙◌, append_assoc, append-nil, arith}
use Rattle.std.specs.List.{flat_map, AllByRecursion, list_any, sum}
use Rattle.std.proofs.lemmas.List.Elements.{recursion_from_All}
use Rattle.std.proofs.lemmas.Option.{slice_get_within}
use Rattle.aig_graph.specs.Graph.{IsGraph, IsGateAt, variable, first_latch, first_gate, variables_end}
use Rattle.aig_graph.specs.Circuits.{Netlist, IsNetlist}
use Rattle.counted_io.specs.Line.{line}
use Rattle.file_words.specs.Text.{single_rows}
use Rattle.ascii_file.proofs.RangeLaws.{all_enumerated}
use Rattle.ascii_file.specs.declared.header.Header.{Header}
use Rattle.ascii_file.specs.declared.raw.RawLatch.{RawLatch}
use Rattle.ascii_file.specs.declared.raw.RawGate.{RawGate}
use Rattle.ascii_file.specs.declared.raw.Section.{Section}
use Rattle.ascii_file.specs.declared.raw.Section.TheVariants.{Latches, Safety, Sizes, Liveness, Gates, Symbols}
use Rattle.ascii_file.specs.Raw.{Raw, RawSymbol, nothing_yet, safety_count, count_of}
use Rattle.ascii_file.specs.Items.{Item, InputItem, LatchItem, SafetyItem, SizeItem, LivenessItem, GateItem, SymbolItem, items_of}
use Rattle.ascii_file.specs.Reading.{is_of_same}
use Rattle.ascii_file.specs.Files.{HasReset, IsCountedBy}
use Rattle.ascii_file.specs.Laws.{IsWithinLimits}
use Rattle.ascii_file.proofs.SectionLaws.{AllFollow}
use Rattle.ascii_file.proofs.StateLaws.{at_latches, at_safety, at_sizes, at_liveness, at_gates, at_symbols, latches_section, safety_section, sizes_section, liveness_section, gates_section, symbols_next}
use Rattle.ascii_file.proofs.DistinctItemLaws.{follow_each, follow_both, sizes_follow, pairs_follow}
use Rattle.ascii_file.proofs.WrittenCircuitLaws.{written_latch, written_gate, written, written_header, written-counted, written-in_range, written-resets}
use Rattle.ascii_file.proofs.NameLaws.{written-names}
use Rattle.ascii_file.proofs.TextLineLaws.{item_text, item_line, is_line, IsSmall, line-lacks, line-spells}
use Rattle.ascii_file.proofs.RoundTripLaws.{written-small}
use Rattle.binary_file.specs.Items.{next_section, item_in}
use Rattle.binary_file.specs.Files.{IsWithin, Fits, IsLine, AreItems}
use Rattle.aig_binary.proofs.LineLaws.{line_is, IsNextLatch, latch_bytes, latch_is, IsNextGate, gate_bytes, gate_is}
use Rattle.aig_binary.proofs.ItemLaws.{section_spelt, numbered_follow, follow_weaker, part_of, last_part}

-- what the text lists: all but the inputs
abbrev pub listed : Netlist → Raw
listed c = record (written c) { inputs = [] }

-- what the text lists are as many items of each section as its header says, but no inputs
pub listed-counted : (c : Netlist) → IsCountedBy (record (written_header c) { inputs = 0 }) (listed c)
listed-counted c =
    let all = written-counted c in
    record { inputs = refl; latches = all.latches; safety = all.safety; sizes = all.sizes; liveness = all.liveness; gates = all.gates }

-- ---- lines that are as in the ASCII text

line_of_item : (h : Header) (raw : Raw) (section : Section) (item : Item) (rest : List ℕ) → next_section h raw ≡ section → item_in h raw section (item_line item) ≡ Some item → IsSmall item → Fits h raw item
    → IsLine h raw item (item_text item ++ rest) rest
line_of_item h raw section item rest here spells small fits =
    line_is h raw item (item_line item) rest (item_text item ++ rest) (ap (λ (text : List ℕ). text ++ rest) (is_line item) ∙ append_assoc (item_line item) (10 ∷ []) rest) (line-lacks item small)
    (ap (λ (s : Section). item_in h raw s (item_line item)) here ∙ spells) fits

-- ---- the items fit

module _ (c : Netlist) (graph : IsGraph c.aig) (netlist : IsNetlist c) (within : IsWithinLimits c) where
  -- the numbers of all items
  record AreSmall : Type 0 where
    latches : AllByRecursion (λ latch. IsSmall (LatchItem latch)) (written c).latches
    safety : AllByRecursion (λ lit. IsSmall (SafetyItem lit)) (written c).safety
    sizes : AllByRecursion (λ size. IsSmall (SizeItem size)) (written c).sizes
    liveness : AllByRecursion (λ lit. IsSmall (LivenessItem lit)) (written c).liveness
    symbols : AllByRecursion (λ symbol. IsSmall (SymbolItem symbol)) (written c).symbols

  are_small : AreSmall
  are_small =
      let raw = written c in
      let inputs = part_of IsSmall InputItem raw.inputs _ (written-small c graph netlist within) in
      let latches = part_of IsSmall LatchItem raw.latches _ inputs.1 in
      let safety = part_of IsSmall SafetyItem raw.safety _ latches.1 in
      let sizes = part_of IsSmall SizeItem raw.sizes _ safety.1 in
      let liveness = part_of IsSmall LivenessItem raw.liveness _ sizes.1 in
      let gates = part_of IsSmall GateItem raw.gates _ liveness.1 in
      record { latches = latches.0; safety = safety.0; sizes = sizes.0; liveness = liveness.0; symbols = last_part IsSmall SymbolItem raw.symbols gates.1 }

  abbrev h : Header
  h = written_header c

  latches_fit : AllFollow (λ zs latch. IsNextLatch h (at_latches [] zs) latch) [] (written c).latches
  latches_fit =
      let most = 2 * (variables_end c.aig - 1) + 1 in
      let range = written-in_range c graph netlist in
      follow_weaker
      (λ zs latch. (((latch.current ≤ most) × (latch.next ≤ most)) × HasReset latch) × (IsSmall (LatchItem latch) × (latch.current ≡ 2 * (c.aig.inputs + 1 + length zs))))
      (λ zs latch. IsNextLatch h (at_latches [] zs) latch)
      (λ zs latch all. record { current = all.1.1; next = all.0.0.1; has_reset = all.0.1; small = (all.1.0.1, all.1.0.2) })
      (written c).latches []
      (follow_both _ _ (written c).latches []
      (follow_both _ _ (written c).latches []
      (follow_each (λ latch. (latch.current ≤ most) × (latch.next ≤ most)) (written c).latches [] (recursion_from_All _ (written c).latches range.latches))
      (follow_each HasReset (written c).latches [] (recursion_from_All HasReset (written c).latches (written-resets c))))
      (follow_both _ _ (written c).latches []
      (follow_each (λ latch. IsSmall (LatchItem latch)) (written c).latches [] are_small.latches)
      (numbered_follow written_latch (λ latch. latch.current) (c.aig.inputs + 1) (λ v x. refl) c.aig.latches [] (first_latch c.aig) (omega arith))))

  gates_fall : AllByRecursion (λ (gate : RawGate). (gate.rhs0 < gate.lhs) × (gate.rhs1 ≤ gate.rhs0) × (gate.lhs < 2 ^ 35)) (written c).gates
  gates_fall =
      all_enumerated (λ (gate : RawGate). (gate.rhs0 < gate.lhs) × (gate.rhs1 ≤ gate.rhs0) × (gate.lhs < 2 ^ 35)) written_gate c.aig.gates (first_gate c.aig) (λ k gate there.
      let at : IsGateAt (first_gate c.aig + k) gate = graph.gates k gate there in
      let less : k < length c.aig.gates = slice_get_within c.aig.gates k gate there in
      let ordered : gate.rhs1 ≤ gate.rhs0 = at.ordered in
      let below : variable gate.rhs0 < first_gate c.aig + k = at.below in
      let few : variables_end c.aig ≤ 2 ^ 28 = graph.small in
      (omega arith, ordered, omega arith))

  gates_fit : (latches : List RawLatch) (safety sizes liveness : List ℕ) → AllFollow (λ zs gate. IsNextGate h (at_gates [] latches safety sizes liveness zs) gate) [] (written c).gates
  gates_fit latches safety sizes liveness =
      follow_weaker (λ zs gate. ((gate.rhs0 < gate.lhs) × (gate.rhs1 ≤ gate.rhs0) × (gate.lhs < 2 ^ 35)) × (gate.lhs ≡ 2 * (c.aig.inputs + length c.aig.latches + 1 + length zs)))
      (λ zs gate. IsNextGate h (at_gates [] latches safety sizes liveness zs) gate)
      (λ zs gate all. record { lhs = all.1; falls = all.0.0; ordered = all.0.1; small = all.0.2 })
      (written c).gates []
      (follow_both _ _ (written c).gates [] (follow_each _ (written c).gates [] gates_fall)
      (numbered_follow written_gate (λ gate. gate.lhs) (c.aig.inputs + length c.aig.latches + 1) (λ v x. refl) c.aig.gates [] (first_gate c.aig) (omega arith)))

  abbrev FitsSymbol : List RawSymbol → RawSymbol → Type 0
  FitsSymbol zs symbol = ((symbol.position < count_of h symbol.kind) × (list_any (is_of_same symbol) zs ≡ false)) × IsSmall (SymbolItem symbol)

  symbols_fit : AllFollow FitsSymbol [] (written c).symbols
  symbols_fit =
      let names = written-names c netlist in
      follow_both _ _ (written c).symbols []
      (follow_both _ _ (written c).symbols []
      (follow_each (λ symbol. symbol.position < count_of h symbol.kind) (written c).symbols [] (recursion_from_All _ (written c).symbols names.below))
      (pairs_follow RawSymbol is_of_same (written c).symbols [] names.apart))
      (follow_each (λ symbol. IsSmall (SymbolItem symbol)) (written c).symbols [] are_small.symbols)

  -- ---- the items are spelt

  abbrev listed_header : Header
  listed_header = record (written_header c) { inputs = 0 }

  latches_next : (xs : List RawLatch) → length xs < length c.aig.latches → next_section h (at_latches [] xs) ≡ Latches
  unfolding next_section
  latches_next xs room = (latches_section listed_header [] (omega arith)).here xs room

  module _ (latches : List RawLatch) (all_latches : length c.aig.latches ≤ length latches) where
    safety_next : (xs : List ℕ) → length xs < safety_count h → next_section h (at_safety [] latches xs) ≡ Safety
    unfolding next_section
    safety_next xs room = (safety_section listed_header [] (omega arith) latches all_latches).here xs room

    module _ (safety : List ℕ) (all_safety : safety_count h ≤ length safety) where
      sizes_next : (xs : List ℕ) → length xs < h.justice → next_section h (at_sizes [] latches safety xs) ≡ Sizes
      unfolding next_section
      sizes_next xs room = (sizes_section listed_header [] (omega arith) latches all_latches safety all_safety).here xs room

      module _ (sizes : List ℕ) (all_sizes : h.justice ≤ length sizes) where
        liveness_next : (xs : List ℕ) → length xs < sum sizes + h.fairness → next_section h (at_liveness [] latches safety sizes xs) ≡ Liveness
        unfolding next_section
        liveness_next xs room = (liveness_section listed_header [] (omega arith) latches all_latches safety all_safety sizes all_sizes).here xs room

        module _ (liveness : List ℕ) (all_liveness : sum sizes + h.fairness ≤ length liveness) where
          gates_next : (xs : List RawGate) → length xs < h.gates → next_section h (at_gates [] latches safety sizes liveness xs) ≡ Gates
          unfolding next_section
          gates_next xs room = (gates_section listed_header [] (omega arith) latches all_latches safety all_safety sizes all_sizes liveness all_liveness).here xs room

          names_next : (gates : List RawGate) → h.gates ≤ length gates → (xs : List RawSymbol) → next_section h (at_symbols [] latches safety sizes liveness gates xs) ≡ Symbols
          unfolding next_section
          names_next gates all_gates xs = symbols_next listed_header [] (omega arith) latches all_latches safety all_safety sizes all_sizes liveness all_liveness gates all_gates xs

  -- the bytes of the items of each section, and of those after it
  abbrev name_bytes : List RawSymbol → List ℕ
  name_bytes symbols = flat_map (λ symbol. item_text (SymbolItem symbol)) symbols

  abbrev pub item_bytes : List ℕ
  item_bytes =
      flat_map latch_bytes (written c).latches ++ (single_rows (written c).safety ++ (single_rows (written c).sizes ++ (single_rows (written c).liveness
      ++ (flat_map gate_bytes (written c).gates ++ name_bytes (written c).symbols))))

  names_spelt : AreItems h (at_symbols [] (written c).latches (written c).safety (written c).sizes (written c).liveness (written c).gates []) (map SymbolItem (written c).symbols) (name_bytes (written c).symbols)
  names_spelt =
      let raw = written c in
      let all = written-counted c in
      let next = names_next raw.latches (omega (arith, all.latches)) raw.safety (omega (arith, all.safety)) raw.sizes (omega (arith, all.sizes)) raw.liveness (omega (arith, all.liveness)) raw.gates (omega (arith, all.gates)) in
      subst (λ (items : List Item). AreItems h (at_symbols [] raw.latches raw.safety raw.sizes raw.liveness raw.gates []) items (name_bytes raw.symbols)) (append-nil (map SymbolItem raw.symbols))
      (subst (λ (bytes : List ℕ). AreItems h (at_symbols [] raw.latches raw.safety raw.sizes raw.liveness raw.gates []) (map SymbolItem raw.symbols ++ []) bytes) (append-nil (name_bytes raw.symbols))
      (section_spelt h RawSymbol Symbols (length raw.symbols) SymbolItem (at_symbols [] raw.latches raw.safety raw.sizes raw.liveness raw.gates) (λ symbol. item_text (SymbolItem symbol)) FitsSymbol
      (λ xs room. next xs) (λ xs x. refl)
      (λ xs x rest here fit. line_of_item h _ Symbols (SymbolItem x) rest here (line-spells (SymbolItem x) fit.1) fit.1 fit.0)
      raw.symbols [] [] [] (omega arith) symbols_fit (next raw.symbols, inl refl)))

  gates_spelt : AreItems h (at_gates [] (written c).latches (written c).safety (written c).sizes (written c).liveness []) (map GateItem (written c).gates ++ map SymbolItem (written c).symbols)
      (flat_map gate_bytes (written c).gates ++ name_bytes (written c).symbols)
  gates_spelt =
      let raw = written c in
      let all = written-counted c in
      section_spelt h RawGate Gates h.gates GateItem (at_gates [] raw.latches raw.safety raw.sizes raw.liveness) gate_bytes (λ zs gate. IsNextGate h (at_gates [] raw.latches raw.safety raw.sizes raw.liveness zs) gate)
      (gates_next raw.latches (omega (arith, all.latches)) raw.safety (omega (arith, all.safety)) raw.sizes (omega (arith, all.sizes)) raw.liveness (omega (arith, all.liveness))) (λ xs x. refl)
      (λ xs x rest here fit. gate_is h _ x rest here fit)
      raw.gates [] (map SymbolItem raw.symbols) (name_bytes raw.symbols) (omega (arith, all.gates)) (gates_fit raw.latches raw.safety raw.sizes raw.liveness) names_spelt

  liveness_spelt : AreItems h (at_liveness [] (written c).latches (written c).safety (written c).sizes []) (map LivenessItem (written c).liveness ++ (map GateItem (written c).gates ++ map SymbolItem (written c).symbols))
      (single_rows (written c).liveness ++ (flat_map gate_bytes (written c).gates ++ name_bytes (written c).symbols))
  liveness_spelt =
      let raw = written c in
      let all = written-counted c in
      let range = written-in_range c graph netlist in
      section_spelt h ℕ Liveness (sum raw.sizes + h.fairness) LivenessItem (at_liveness [] raw.latches raw.safety raw.sizes) (λ lit. line (lit ∷ [])) (λ zs lit. IsWithin h lit × IsSmall (LivenessItem lit))
      (liveness_next raw.latches (omega (arith, all.latches)) raw.safety (omega (arith, all.safety)) raw.sizes (omega (arith, all.sizes))) (λ xs x. refl)
      (λ xs x rest here fit. line_of_item h _ Liveness (LivenessItem x) rest here (line-spells (LivenessItem x) fit.1) fit.1 fit.0)
      raw.liveness [] _ _ (omega (arith, all.liveness))
      (follow_both _ _ raw.liveness [] (follow_each (IsWithin h) raw.liveness [] (recursion_from_All _ raw.liveness range.liveness)) (follow_each (λ lit. IsSmall (LivenessItem lit)) raw.liveness [] are_small.liveness)) gates_spelt

  sizes_spelt : AreItems h (at_sizes [] (written c).latches (written c).safety []) (map SizeItem (written c).sizes ++ (map LivenessItem (written c).liveness ++ (map GateItem (written c).gates ++ map SymbolItem (written c).symbols)))
      (single_rows (written c).sizes ++ (single_rows (written c).liveness ++ (flat_map gate_bytes (written c).gates ++ name_bytes (written c).symbols)))
  sizes_spelt =
      let raw = written c in
      let all = written-counted c in
      section_spelt h ℕ Sizes h.justice SizeItem (at_sizes [] raw.latches raw.safety) (λ size. line (size ∷ [])) (λ zs size. (sum zs + size ≤ 2 ^ 24) × IsSmall (SizeItem size))
      (sizes_next raw.latches (omega (arith, all.latches)) raw.safety (omega (arith, all.safety))) (λ xs x. refl)
      (λ xs x rest here fit. line_of_item h _ Sizes (SizeItem x) rest here (line-spells (SizeItem x) fit.1) fit.1 fit.0)
      raw.sizes [] _ _ (omega (arith, all.sizes))
      (follow_both _ _ raw.sizes [] (sizes_follow (2 ^ 24) raw.sizes [] within.justice_literals) (follow_each (λ size. IsSmall (SizeItem size)) raw.sizes [] are_small.sizes)) liveness_spelt

  safety_spelt : AreItems h (at_safety [] (written c).latches [])
      (map SafetyItem (written c).safety ++ (map SizeItem (written c).sizes ++ (map LivenessItem (written c).liveness ++ (map GateItem (written c).gates ++ map SymbolItem (written c).symbols))))
      (single_rows (written c).safety ++ (single_rows (written c).sizes ++ (single_rows (written c).liveness ++ (flat_map gate_bytes (written c).gates ++ name_bytes (written c).symbols))))
  safety_spelt =
      let raw = written c in
      let all = written-counted c in
      let range = written-in_range c graph netlist in
      section_spelt h ℕ Safety (safety_count h) SafetyItem (at_safety [] raw.latches) (λ lit. line (lit ∷ [])) (λ zs lit. IsWithin h lit × IsSmall (SafetyItem lit))
      (safety_next raw.latches (omega (arith, all.latches))) (λ xs x. refl)
      (λ xs x rest here fit. line_of_item h _ Safety (SafetyItem x) rest here (line-spells (SafetyItem x) fit.1) fit.1 fit.0)
      raw.safety [] _ _ (omega (arith, all.safety))
      (follow_both _ _ raw.safety [] (follow_each (IsWithin h) raw.safety [] (recursion_from_All _ raw.safety range.safety)) (follow_each (λ lit. IsSmall (SafetyItem lit)) raw.safety [] are_small.safety)) sizes_spelt

  -- what is listed is spelt by these bytes
  pub listed-spelt : AreItems h nothing_yet (items_of (listed c)) item_bytes
  listed-spelt =
      let raw = written c in
      let all = written-counted c in
      section_spelt h RawLatch Latches (length c.aig.latches) LatchItem (at_latches []) latch_bytes (λ zs latch. IsNextLatch h (at_latches [] zs) latch)
      latches_next (λ xs x. refl) (λ xs x rest here fit. latch_is h _ x rest here fit)
      raw.latches [] _ _ (omega (arith, all.latches)) latches_fit safety_spelt
