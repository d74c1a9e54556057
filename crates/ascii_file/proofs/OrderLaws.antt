-- The items of a file stand section by section, as many as counted.
use Rattle.std.proofs.Common.{ℕ, ◌+◌, ◌≤◌, ◌≡◌, List, [], ◌++◌, length, map, true, refl, ap, ◌∙◌, arith}
use Rattle.std.specs.List.{sum}
use Rattle.ascii_file.specs.declared.header.Header.{Header}
use Rattle.ascii_file.specs.declared.raw.RawLatch.{RawLatch}
use Rattle.ascii_file.specs.declared.raw.RawGate.{RawGate}
use Rattle.ascii_file.specs.declared.raw.Section.TheVariants.{Inputs, Latches, Safety, Sizes, Liveness, Gates, Symbols}
use Rattle.ascii_file.specs.Raw.{Raw, RawSymbol, nothing_yet, safety_count}
use Rattle.ascii_file.specs.Items.{Item, InputItem, LatchItem, SafetyItem, SizeItem, LivenessItem, GateItem, SymbolItem, items_of}
use Rattle.ascii_file.specs.Reading.{is_symbols, is_complete}
use Rattle.ascii_file.specs.Files.{IsCountedBy}
use Rattle.ascii_file.proofs.SectionLaws.{Follow, with_items, AllFit, section_follows, section_grown, section_parts, last_follows, last_grown, last_parts}
use Rattle.ascii_file.proofs.StateLaws.{at_inputs, at_latches, at_safety, at_sizes, at_liveness, at_gates, at_symbols, inputs_section, latches_section, safety_section, sizes_section, liveness_section, gates_section, symbols_next, is_of}
use Rattle.ascii_file.proofs.ConditionLaws.{AllFitted}

-- each section has at least as many as counted
pub record IsFull (h : Header) (raw : Raw) : Type 0 where
  -- there are all inputs of the header
  pub inputs : h.inputs ≤ length raw.inputs
  -- there are all latches of the header
  pub latches : h.latches ≤ length raw.latches
  -- there are all outputs, bad states and constraints of the header
  pub safety : safety_count h ≤ length raw.safety
  -- there are all justice properties of the header
  pub sizes : h.justice ≤ length raw.sizes
  -- there are all literals of justice properties, and all fairness literals of the header
  pub liveness : sum raw.sizes + h.fairness ≤ length raw.liveness
  -- there are all gates of the header
  pub gates : h.gates ≤ length raw.gates

-- a raw circuit with as many items as the header says has each section full
pub full_where_counted : (h : Header) (raw : Raw) → IsCountedBy h raw → IsFull h raw
full_where_counted h raw counted = record {
  inputs = omega (arith, counted.inputs);
  latches = omega (arith, counted.latches);
  safety = omega (arith, counted.safety);
  sizes = omega (arith, counted.sizes);
  liveness = omega (arith, counted.liveness);
  gates = omega (arith, counted.gates);
}

-- if each section is full, all items but symbols have been read
pub complete_where_full : (h : Header) (raw : Raw) → IsFull h raw → is_complete h raw ≡ true
complete_where_full h raw full = ap is_symbols (symbols_next h raw.inputs full.inputs raw.latches full.latches raw.safety full.safety raw.sizes full.sizes raw.liveness full.liveness raw.gates full.gates raw.symbols)

-- what is left after each section
abbrev gate_items : Raw → List Item
gate_items raw = map GateItem raw.gates ++ map SymbolItem raw.symbols

abbrev liveness_items : Raw → List Item
liveness_items raw = map LivenessItem raw.liveness ++ gate_items raw

abbrev size_items : Raw → List Item
size_items raw = map SizeItem raw.sizes ++ liveness_items raw

abbrev safety_items : Raw → List Item
safety_items raw = map SafetyItem raw.safety ++ size_items raw

abbrev latch_items : Raw → List Item
latch_items raw = map LatchItem raw.latches ++ safety_items raw

module _ (h : Header) (raw : Raw) (counted : IsCountedBy h raw) where
  full : IsFull h raw
  full = full_where_counted h raw counted

  -- the items follow one another
  pub items_follow : AllFitted h raw → Follow h nothing_yet (items_of raw)
  items_follow fitted =
      section_follows h ℕ Inputs h.inputs InputItem at_inputs (inputs_section h) raw.inputs [] (latch_items raw) (omega (arith, counted.inputs)) fitted.inputs
      (section_follows h RawLatch Latches h.latches LatchItem (at_latches raw.inputs) (latches_section h raw.inputs full.inputs) raw.latches [] (safety_items raw) (omega (arith, counted.latches)) fitted.latches
      (section_follows h ℕ Safety (safety_count h) SafetyItem (at_safety raw.inputs raw.latches) (safety_section h raw.inputs full.inputs raw.latches full.latches) raw.safety [] (size_items raw) (omega (arith, counted.safety)) fitted.safety
      (section_follows h ℕ Sizes h.justice SizeItem (at_sizes raw.inputs raw.latches raw.safety) (sizes_section h raw.inputs full.inputs raw.latches full.latches raw.safety full.safety) raw.sizes [] (liveness_items raw) (omega (arith, counted.sizes)) fitted.sizes
      (section_follows h ℕ Liveness (sum raw.sizes + h.fairness) LivenessItem (at_liveness raw.inputs raw.latches raw.safety raw.sizes)
      (liveness_section h raw.inputs full.inputs raw.latches full.latches raw.safety full.safety raw.sizes full.sizes) raw.liveness [] (gate_items raw) (omega (arith, counted.liveness)) fitted.liveness
      (section_follows h RawGate Gates h.gates GateItem (at_gates raw.inputs raw.latches raw.safety raw.sizes raw.liveness)
      (gates_section h raw.inputs full.inputs raw.latches full.latches raw.safety full.safety raw.sizes full.sizes raw.liveness full.liveness) raw.gates [] (map SymbolItem raw.symbols) (omega (arith, counted.gates)) fitted.gates
      (last_follows h RawSymbol Symbols SymbolItem (at_symbols raw.inputs raw.latches raw.safety raw.sizes raw.liveness raw.gates)
      (symbols_next h raw.inputs full.inputs raw.latches full.latches raw.safety full.safety raw.sizes full.sizes raw.liveness full.liveness raw.gates full.gates) (λ xs x. refl) (λ x. refl) (is_of Symbols) raw.symbols [] fitted.symbols))))))

  -- and together they are the raw circuit
  pub items_grown : with_items nothing_yet (items_of raw) ≡ raw
  items_grown =
      section_grown h ℕ Inputs h.inputs InputItem at_inputs (inputs_section h) raw.inputs [] (latch_items raw)
      ∙ section_grown h RawLatch Latches h.latches LatchItem (at_latches raw.inputs) (latches_section h raw.inputs full.inputs) raw.latches [] (safety_items raw)
      ∙ section_grown h ℕ Safety (safety_count h) SafetyItem (at_safety raw.inputs raw.latches) (safety_section h raw.inputs full.inputs raw.latches full.latches) raw.safety [] (size_items raw)
      ∙ section_grown h ℕ Sizes h.justice SizeItem (at_sizes raw.inputs raw.latches raw.safety) (sizes_section h raw.inputs full.inputs raw.latches full.latches raw.safety full.safety) raw.sizes [] (liveness_items raw)
      ∙ section_grown h ℕ Liveness (sum raw.sizes + h.fairness) LivenessItem (at_liveness raw.inputs raw.latches raw.safety raw.sizes)
      (liveness_section h raw.inputs full.inputs raw.latches full.latches raw.safety full.safety raw.sizes full.sizes) raw.liveness [] (gate_items raw)
      ∙ section_grown h RawGate Gates h.gates GateItem (at_gates raw.inputs raw.latches raw.safety raw.sizes raw.liveness)
      (gates_section h raw.inputs full.inputs raw.latches full.latches raw.safety full.safety raw.sizes full.sizes raw.liveness full.liveness) raw.gates [] (map SymbolItem raw.symbols)
      ∙ last_grown h RawSymbol Symbols SymbolItem (at_symbols raw.inputs raw.latches raw.safety raw.sizes raw.liveness raw.gates)
      (symbols_next h raw.inputs full.inputs raw.latches full.latches raw.safety full.safety raw.sizes full.sizes raw.liveness full.liveness raw.gates full.gates) (λ xs x. refl) (λ x. refl) (is_of Symbols) raw.symbols []

-- ---- the items that are left, section by section from the last one

from_zero : (n : ℕ) → 0 + n ≡ n
from_zero n = omega arith

at_least : (m n : ℕ) → m ≡ n → n ≤ m
at_least m n e = omega (arith, e)

same_rest : (items front rest more : List Item) → items ≡ front ++ rest → rest ≡ more → items ≡ front ++ more
same_rest items front rest more e f = e ∙ ap (λ (zs : List Item). front ++ zs) f

record FromGates (h : Header) (inputs : List ℕ) (latches : List RawLatch) (safety : List ℕ) (sizes : List ℕ) (liveness : List ℕ) (items : List Item) : Type 0 where
  gates : List RawGate
  symbols : List RawSymbol
  are : items ≡ map GateItem gates ++ map SymbolItem symbols
  counted : length gates ≡ h.gates
  gates_fit : AllFit h GateItem (at_gates inputs latches safety sizes liveness) [] gates
  symbols_fit : AllFit h SymbolItem (at_symbols inputs latches safety sizes liveness gates) [] symbols

record FromLiveness (h : Header) (inputs : List ℕ) (latches : List RawLatch) (safety : List ℕ) (sizes : List ℕ) (items : List Item) : Type 0 where
  liveness : List ℕ
  counted : length liveness ≡ sum sizes + h.fairness
  rest : List Item
  later : FromGates h inputs latches safety sizes liveness rest
  are : items ≡ map LivenessItem liveness ++ (map GateItem later.gates ++ map SymbolItem later.symbols)
  fit : AllFit h LivenessItem (at_liveness inputs latches safety sizes) [] liveness

record FromSizes (h : Header) (inputs : List ℕ) (latches : List RawLatch) (safety : List ℕ) (items : List Item) : Type 0 where
  sizes : List ℕ
  counted : length sizes ≡ h.justice
  rest : List Item
  later : FromLiveness h inputs latches safety sizes rest
  are : items ≡ map SizeItem sizes ++ (map LivenessItem later.liveness ++ (map GateItem later.later.gates ++ map SymbolItem later.later.symbols))
  fit : AllFit h SizeItem (at_sizes inputs latches safety) [] sizes

record FromSafety (h : Header) (inputs : List ℕ) (latches : List RawLatch) (items : List Item) : Type 0 where
  safety : List ℕ
  counted : length safety ≡ safety_count h
  rest : List Item
  later : FromSizes h inputs latches safety rest
  are : items ≡ map SafetyItem safety ++ (map SizeItem later.sizes ++ (map LivenessItem later.later.liveness ++ (map GateItem later.later.later.gates ++ map SymbolItem later.later.later.symbols)))
  fit : AllFit h SafetyItem (at_safety inputs latches) [] safety

record FromLatches (h : Header) (inputs : List ℕ) (items : List Item) : Type 0 where
  latches : List RawLatch
  counted : length latches ≡ h.latches
  rest : List Item
  later : FromSafety h inputs latches rest
  are : items ≡ map LatchItem latches ++ (map SafetyItem later.safety ++ (map SizeItem later.later.sizes ++ (map LivenessItem later.later.later.liveness
      ++ (map GateItem later.later.later.later.gates ++ map SymbolItem later.later.later.later.symbols))))
  fit : AllFit h LatchItem (at_latches inputs) [] latches

module _ (h : Header) (inputs : List ℕ) (full_inputs : h.inputs ≤ length inputs) where
  module _ (latches : List RawLatch) (full_latches : h.latches ≤ length latches) where
    module _ (safety : List ℕ) (full_safety : safety_count h ≤ length safety) where
      module _ (sizes : List ℕ) (full_sizes : h.justice ≤ length sizes) where
        module _ (liveness : List ℕ) (full_liveness : sum sizes + h.fairness ≤ length liveness) where
          from_gates : (items : List Item) → Follow h (at_gates inputs latches safety sizes liveness []) items → is_complete h (with_items (at_gates inputs latches safety sizes liveness []) items) ≡ true → FromGates h inputs latches safety sizes liveness items
          from_gates items follow complete =
              let own = section_parts h RawGate Gates h.gates GateItem (at_gates inputs latches safety sizes liveness)
              (gates_section h inputs full_inputs latches full_latches safety full_safety sizes full_sizes liveness full_liveness) h.gates [] items (from_zero h.gates) follow complete in
              let later = last_parts h RawSymbol Symbols SymbolItem (at_symbols inputs latches safety sizes liveness own.front)
              (symbols_next h inputs full_inputs latches full_latches safety full_safety sizes full_sizes liveness full_liveness own.front (at_least (length own.front) h.gates own.counted))
              (λ xs x. refl) (λ x. refl) (is_of Symbols) [] own.rest own.follow in
              record { gates = own.front; symbols = later.0; are = same_rest items (map GateItem own.front) own.rest (map SymbolItem later.0) own.parts later.1; counted = own.counted; gates_fit = own.fit; symbols_fit = later.2 }

        from_liveness : (items : List Item) → Follow h (at_liveness inputs latches safety sizes []) items → is_complete h (with_items (at_liveness inputs latches safety sizes []) items) ≡ true → FromLiveness h inputs latches safety sizes items
        from_liveness items follow complete =
            let own = section_parts h ℕ Liveness (sum sizes + h.fairness) LivenessItem (at_liveness inputs latches safety sizes)
            (liveness_section h inputs full_inputs latches full_latches safety full_safety sizes full_sizes) (sum sizes + h.fairness) [] items (from_zero (sum sizes + h.fairness)) follow complete in
            let later = from_gates own.front (at_least (length own.front) (sum sizes + h.fairness) own.counted) own.rest own.follow own.complete in
            record {
              liveness = own.front;
              counted = own.counted;
              rest = own.rest;
              later = later;
              are = same_rest items (map LivenessItem own.front) own.rest (map GateItem later.gates ++ map SymbolItem later.symbols) own.parts later.are;
              fit = own.fit;
            }

      from_sizes : (items : List Item) → Follow h (at_sizes inputs latches safety []) items → is_complete h (with_items (at_sizes inputs latches safety []) items) ≡ true → FromSizes h inputs latches safety items
      from_sizes items follow complete =
          let own = section_parts h ℕ Sizes h.justice SizeItem (at_sizes inputs latches safety) (sizes_section h inputs full_inputs latches full_latches safety full_safety) h.justice [] items (from_zero h.justice) follow complete in
          let later = from_liveness own.front (at_least (length own.front) h.justice own.counted) own.rest own.follow own.complete in
          record { sizes = own.front; counted = own.counted; rest = own.rest; later = later; are = same_rest items (map SizeItem own.front) own.rest _ own.parts later.are; fit = own.fit }

    from_safety : (items : List Item) → Follow h (at_safety inputs latches []) items → is_complete h (with_items (at_safety inputs latches []) items) ≡ true → FromSafety h inputs latches items
    from_safety items follow complete =
        let own = section_parts h ℕ Safety (safety_count h) SafetyItem (at_safety inputs latches) (safety_section h inputs full_inputs latches full_latches) (safety_count h) [] items (from_zero (safety_count h)) follow complete in
        let later = from_sizes own.front (at_least (length own.front) (safety_count h) own.counted) own.rest own.follow own.complete in
        record { safety = own.front; counted = own.counted; rest = own.rest; later = later; are = same_rest items (map SafetyItem own.front) own.rest _ own.parts later.are; fit = own.fit }

  from_latches : (items : List Item) → Follow h (at_latches inputs []) items → is_complete h (with_items (at_latches inputs []) items) ≡ true → FromLatches h inputs items
  from_latches items follow complete =
      let own = section_parts h RawLatch Latches h.latches LatchItem (at_latches inputs) (latches_section h inputs full_inputs) h.latches [] items (from_zero h.latches) follow complete in
      let later = from_safety own.front (at_least (length own.front) h.latches own.counted) own.rest own.follow own.complete in
      record { latches = own.front; counted = own.counted; rest = own.rest; later = later; are = same_rest items (map LatchItem own.front) own.rest _ own.parts later.are; fit = own.fit }

-- items that follow and are complete are those of a raw circuit
pub record AreItems (h : Header) (items : List Item) : Type 0 where
  -- the raw circuit
  pub raw : Raw
  -- the items are its own, section by section
  pub are : items ≡ items_of raw
  -- it has as many of each section as the header says
  pub counted : IsCountedBy h raw
  -- each of its items fits after those before it
  pub fitted : AllFitted h raw

collected : (h : Header) (items rest : List Item) (inputs : List ℕ) → items ≡ map InputItem inputs ++ rest → length inputs ≡ h.inputs → AllFit h InputItem at_inputs [] inputs → (a : FromLatches h inputs rest) → AreItems h items
collected h items rest inputs are counted fit a =
    let b = a.later in
    let c = b.later in
    let d = c.later in
    let e = d.later in
    record {
      raw = at_symbols inputs a.latches b.safety c.sizes d.liveness e.gates e.symbols;
      are = same_rest items (map InputItem inputs) rest _ are a.are;
      counted = record { inputs = counted; latches = a.counted; safety = b.counted; sizes = c.counted; liveness = d.counted; gates = e.counted };
      fitted = record { inputs = fit; latches = a.fit; safety = b.fit; sizes = c.fit; liveness = d.fit; gates = e.gates_fit; symbols = e.symbols_fit };
    }

-- items that follow one another until all sections are full are those of a raw circuit
pub are_items : (h : Header) (items : List Item) → Follow h nothing_yet items → is_complete h (with_items nothing_yet items) ≡ true → AreItems h items
are_items h items follow complete =
    let own = section_parts h ℕ Inputs h.inputs InputItem at_inputs (inputs_section h) h.inputs [] items (from_zero h.inputs) follow complete in
    collected h items own.rest own.front own.parts own.counted own.fit (from_latches h own.front (at_least (length own.front) h.inputs own.counted) own.rest own.follow own.complete)
