-- The seven sections in their order.
use Rattle.std.proofs.Common.{ℕ, ◌+◌, ◌<◌, ◌≤◌, ◌≡◌, List, [], length, nat_lt, cond, refl, sym, subst, ◌∙◌}
use Rattle.std.specs.List.{sum}
use Rattle.std.proofs.lemmas.Bool.{le-ltb, lt-ltb, cond-true, cond-false}
use Rattle.ascii_file.specs.declared.header.Header.{Header}
use Rattle.ascii_file.specs.declared.raw.RawLatch.{RawLatch}
use Rattle.ascii_file.specs.declared.raw.RawGate.{RawGate}
use Rattle.ascii_file.specs.declared.raw.Section.{Section}
use Rattle.ascii_file.specs.declared.raw.Section.TheVariants.{Inputs, Latches, Safety, Sizes, Liveness, Gates, Symbols}
use Rattle.ascii_file.specs.Raw.{Raw, RawSymbol, safety_count, liveness_count}
use Rattle.ascii_file.specs.Items.{Item, InputItem, LatchItem, SafetyItem, SizeItem, LivenessItem, GateItem, SymbolItem, section_of}
use Rattle.ascii_file.specs.Reading.{next_section}
use Rattle.ascii_file.proofs.SectionLaws.{IsSection}

-- ---- the raw circuit while a section is read

abbrev pub at_inputs : List ℕ → Raw
at_inputs inputs = record { inputs = inputs; latches = []; safety = []; sizes = []; liveness = []; gates = []; symbols = [] }

abbrev pub at_latches : List ℕ → List RawLatch → Raw
at_latches inputs latches = record (at_inputs inputs) { latches = latches }

abbrev pub at_safety : List ℕ → List RawLatch → List ℕ → Raw
at_safety inputs latches safety = record (at_latches inputs latches) { safety = safety }

abbrev pub at_sizes : List ℕ → List RawLatch → List ℕ → List ℕ → Raw
at_sizes inputs latches safety sizes = record (at_safety inputs latches safety) { sizes = sizes }

abbrev pub at_liveness : List ℕ → List RawLatch → List ℕ → List ℕ → List ℕ → Raw
at_liveness inputs latches safety sizes liveness = record (at_sizes inputs latches safety sizes) { liveness = liveness }

abbrev pub at_gates : List ℕ → List RawLatch → List ℕ → List ℕ → List ℕ → List RawGate → Raw
at_gates inputs latches safety sizes liveness gates = record (at_liveness inputs latches safety sizes liveness) { gates = gates }

abbrev pub at_symbols : List ℕ → List RawLatch → List ℕ → List ℕ → List ℕ → List RawGate → List RawSymbol → Raw
at_symbols inputs latches safety sizes liveness gates symbols = record (at_gates inputs latches safety sizes liveness gates) { symbols = symbols }

-- ---- the section that is next

abbrev from_gates : Header → Raw → Section
from_gates h raw = cond (nat_lt (length raw.gates) h.gates) Gates Symbols

abbrev from_liveness : Header → Raw → Section
from_liveness h raw = cond (nat_lt (length raw.liveness) (liveness_count h raw)) Liveness (from_gates h raw)

abbrev from_sizes : Header → Raw → Section
from_sizes h raw = cond (nat_lt (length raw.sizes) h.justice) Sizes (from_liveness h raw)

abbrev from_safety : Header → Raw → Section
from_safety h raw = cond (nat_lt (length raw.safety) (safety_count h)) Safety (from_sizes h raw)

abbrev from_latches : Header → Raw → Section
from_latches h raw = cond (nat_lt (length raw.latches) h.latches) Latches (from_safety h raw)

module _ (h : Header) (raw : Raw) where
  -- if an input is missing, inputs come next
  pub is_inputs : length raw.inputs < h.inputs → next_section h raw ≡ Inputs
  unfolding next_section
  is_inputs room = cond-true (nat_lt (length raw.inputs) h.inputs) Inputs (from_latches h raw) (lt-ltb (length raw.inputs) h.inputs room)

  past_inputs : h.inputs ≤ length raw.inputs → next_section h raw ≡ from_latches h raw
  unfolding next_section
  past_inputs full = cond-false (nat_lt (length raw.inputs) h.inputs) Inputs (from_latches h raw) (le-ltb (length raw.inputs) h.inputs full)

  -- if all inputs are there and a latch is missing, latches come next
  pub is_latches : h.inputs ≤ length raw.inputs → length raw.latches < h.latches → next_section h raw ≡ Latches
  is_latches full room = past_inputs full ∙ cond-true (nat_lt (length raw.latches) h.latches) Latches (from_safety h raw) (lt-ltb (length raw.latches) h.latches room)

  past_latches : h.inputs ≤ length raw.inputs → h.latches ≤ length raw.latches → next_section h raw ≡ from_safety h raw
  past_latches inputs full = past_inputs inputs ∙ cond-false (nat_lt (length raw.latches) h.latches) Latches (from_safety h raw) (le-ltb (length raw.latches) h.latches full)

  -- if inputs and latches are full and an output, bad state or constraint is missing, these come
  -- next
  pub is_safety : h.inputs ≤ length raw.inputs → h.latches ≤ length raw.latches → length raw.safety < safety_count h → next_section h raw ≡ Safety
  is_safety inputs latches room = past_latches inputs latches ∙ cond-true (nat_lt (length raw.safety) (safety_count h)) Safety (from_sizes h raw) (lt-ltb (length raw.safety) (safety_count h) room)

  past_safety : h.inputs ≤ length raw.inputs → h.latches ≤ length raw.latches → safety_count h ≤ length raw.safety → next_section h raw ≡ from_sizes h raw
  past_safety inputs latches full = past_latches inputs latches ∙ cond-false (nat_lt (length raw.safety) (safety_count h)) Safety (from_sizes h raw) (le-ltb (length raw.safety) (safety_count h) full)

  -- if the sections before are full and a justice property is missing, sizes come next
  pub is_sizes : h.inputs ≤ length raw.inputs → h.latches ≤ length raw.latches → safety_count h ≤ length raw.safety → length raw.sizes < h.justice → next_section h raw ≡ Sizes
  is_sizes inputs latches safety room =
      past_safety inputs latches safety ∙ cond-true (nat_lt (length raw.sizes) h.justice) Sizes (from_liveness h raw) (lt-ltb (length raw.sizes) h.justice room)

  past_sizes : h.inputs ≤ length raw.inputs → h.latches ≤ length raw.latches → safety_count h ≤ length raw.safety → h.justice ≤ length raw.sizes → next_section h raw ≡ from_liveness h raw
  past_sizes inputs latches safety full =
      past_safety inputs latches safety ∙ cond-false (nat_lt (length raw.sizes) h.justice) Sizes (from_liveness h raw) (le-ltb (length raw.sizes) h.justice full)

  -- if the sections before are full and a literal of justice or fairness is missing, these come
  -- next
  pub is_liveness : h.inputs ≤ length raw.inputs → h.latches ≤ length raw.latches → safety_count h ≤ length raw.safety → h.justice ≤ length raw.sizes → length raw.liveness < liveness_count h raw → next_section h raw ≡ Liveness
  is_liveness inputs latches safety sizes room =
      past_sizes inputs latches safety sizes ∙ cond-true (nat_lt (length raw.liveness) (liveness_count h raw)) Liveness (from_gates h raw) (lt-ltb (length raw.liveness) (liveness_count h raw) room)

  past_liveness : h.inputs ≤ length raw.inputs → h.latches ≤ length raw.latches → safety_count h ≤ length raw.safety → h.justice ≤ length raw.sizes → liveness_count h raw ≤ length raw.liveness → next_section h raw ≡ from_gates h raw
  past_liveness inputs latches safety sizes full =
      past_sizes inputs latches safety sizes ∙ cond-false (nat_lt (length raw.liveness) (liveness_count h raw)) Liveness (from_gates h raw) (le-ltb (length raw.liveness) (liveness_count h raw) full)

  -- if the sections before are full and a gate is missing, gates come next
  pub is_gates : h.inputs ≤ length raw.inputs → h.latches ≤ length raw.latches → safety_count h ≤ length raw.safety → h.justice ≤ length raw.sizes → liveness_count h raw ≤ length raw.liveness → length raw.gates < h.gates → next_section h raw ≡ Gates
  is_gates inputs latches safety sizes liveness room =
      past_liveness inputs latches safety sizes liveness ∙ cond-true (nat_lt (length raw.gates) h.gates) Gates Symbols (lt-ltb (length raw.gates) h.gates room)

  -- if all sections are full, symbols come next
  pub is_symbols : h.inputs ≤ length raw.inputs → h.latches ≤ length raw.latches → safety_count h ≤ length raw.safety → h.justice ≤ length raw.sizes → liveness_count h raw ≤ length raw.liveness → h.gates ≤ length raw.gates → next_section h raw ≡ Symbols
  is_symbols inputs latches safety sizes liveness full =
      past_liveness inputs latches safety sizes liveness ∙ cond-false (nat_lt (length raw.gates) h.gates) Gates Symbols (le-ltb (length raw.gates) h.gates full)

-- ---- an item by its section

abbrev IsOf : Section → Item → Type 0
IsOf Inputs item = (x : ℕ) × (item ≡ InputItem x)
IsOf Latches item = (x : RawLatch) × (item ≡ LatchItem x)
IsOf Safety item = (x : ℕ) × (item ≡ SafetyItem x)
IsOf Sizes item = (x : ℕ) × (item ≡ SizeItem x)
IsOf Liveness item = (x : ℕ) × (item ≡ LivenessItem x)
IsOf Gates item = (x : RawGate) × (item ≡ GateItem x)
IsOf Symbols item = (x : RawSymbol) × (item ≡ SymbolItem x)

is_of_own : (item : Item) → IsOf (section_of item) item
is_of_own (InputItem lit) = (lit, refl)
is_of_own (LatchItem latch) = (latch, refl)
is_of_own (SafetyItem lit) = (lit, refl)
is_of_own (SizeItem size) = (size, refl)
is_of_own (LivenessItem lit) = (lit, refl)
is_of_own (GateItem gate) = (gate, refl)
is_of_own (SymbolItem symbol) = (symbol, refl)

-- an item of a section is of that section's form
pub is_of : (section : Section) (item : Item) → section ≡ section_of item → IsOf section item
is_of section item e = subst (λ (s : Section). IsOf s item) (sym e) (is_of_own item)

-- ---- the sections

-- the inputs are a section, from nothing on
pub inputs_section : (h : Header) → IsSection h Inputs h.inputs InputItem at_inputs
inputs_section h = record { here = λ xs room. is_inputs h (at_inputs xs) room; grows = λ xs x. refl; made = λ x. refl; inverse = is_of Inputs; unfinished = refl }

module _ (h : Header) (inputs : List ℕ) (full_inputs : h.inputs ≤ length inputs) where
  -- the latches are a section, once the inputs are full
  pub latches_section : IsSection h Latches h.latches LatchItem (at_latches inputs)
  latches_section = record { here = λ xs room. is_latches h (at_latches inputs xs) full_inputs room; grows = λ xs x. refl; made = λ x. refl; inverse = is_of Latches; unfinished = refl }

  module _ (latches : List RawLatch) (full_latches : h.latches ≤ length latches) where
    -- outputs, bad states and constraints are a section, once the latches are full
    pub safety_section : IsSection h Safety (safety_count h) SafetyItem (at_safety inputs latches)
    safety_section = record {
      here = λ xs room. is_safety h (at_safety inputs latches xs) full_inputs full_latches room;
      grows = λ xs x. refl;
      made = λ x. refl;
      inverse = is_of Safety;
      unfinished = refl;
    }

    module _ (safety : List ℕ) (full_safety : safety_count h ≤ length safety) where
      -- the sizes of justice properties are a section, once the outputs, bad states and constraints
      -- are full
      pub sizes_section : IsSection h Sizes h.justice SizeItem (at_sizes inputs latches safety)
      sizes_section = record {
        here = λ xs room. is_sizes h (at_sizes inputs latches safety xs) full_inputs full_latches full_safety room;
        grows = λ xs x. refl;
        made = λ x. refl;
        inverse = is_of Sizes;
        unfinished = refl;
      }

      module _ (sizes : List ℕ) (full_sizes : h.justice ≤ length sizes) where
        -- the literals of justice and fairness are a section, once the sizes are full
        pub liveness_section : IsSection h Liveness (sum sizes + h.fairness) LivenessItem (at_liveness inputs latches safety sizes)
        liveness_section = record {
          here = λ xs room. is_liveness h (at_liveness inputs latches safety sizes xs) full_inputs full_latches full_safety full_sizes room;
          grows = λ xs x. refl;
          made = λ x. refl;
          inverse = is_of Liveness;
          unfinished = refl;
        }

        module _ (liveness : List ℕ) (full_liveness : sum sizes + h.fairness ≤ length liveness) where
          -- the gates are a section, once the literals of justice and fairness are full
          pub gates_section : IsSection h Gates h.gates GateItem (at_gates inputs latches safety sizes liveness)
          gates_section = record {
            here = λ xs room. is_gates h (at_gates inputs latches safety sizes liveness xs) full_inputs full_latches full_safety full_sizes full_liveness room;
            grows = λ xs x. refl;
            made = λ x. refl;
            inverse = is_of Gates;
            unfinished = refl;
          }

          -- once the gates are full, symbols come next, however many there are
          pub symbols_next : (gates : List RawGate) → h.gates ≤ length gates → (xs : List RawSymbol) → next_section h (at_symbols inputs latches safety sizes liveness gates xs) ≡ Symbols
          symbols_next gates full xs = is_symbols h (at_symbols inputs latches safety sizes liveness gates xs) full_inputs full_latches full_safety full_sizes full_liveness full
