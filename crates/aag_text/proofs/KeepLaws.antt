-- What holds of the items so far holds with one more that fits.
use Rattle.std.proofs.Common.{ℕ, zero, suc, ◌+◌, ◌*◌, ◌^◌, ◌<◌, ◌≤◌, ◌≡◌, length, List, [], ◌∷◌, ◌++◌, map, All, false, refl, sym, subst, arith, append_assoc, append-nil}
use Rattle.std.specs.List.{sum}
use Rattle.std.proofs.lemmas.List.{length_push, map_push, nil_from_length}
use Rattle.std.proofs.lemmas.List.Elements.{All-push}
use Rattle.std.proofs.lemmas.List.Sums.{sum_by_push}
use Rattle.aig_graph.specs.Marking.{has}
use Rattle.aig_graph.specs.Graph.{variable}
use Rattle.ascii_file.specs.declared.header.Header.{Header}
use Rattle.ascii_file.specs.declared.raw.RawLatch.{RawLatch}
use Rattle.ascii_file.specs.declared.raw.RawGate.{RawGate}
use Rattle.ascii_file.specs.declared.raw.Section.TheVariants.{Inputs, Latches, Safety, Sizes, Liveness, Gates}
use Rattle.ascii_file.specs.Raw.{Raw, RawSymbol, defined, count_of}
use Rattle.ascii_file.specs.Items.{Item, InputItem, LatchItem, SafetyItem, SizeItem, LivenessItem, GateItem, SymbolItem, section_of}
use Rattle.ascii_file.specs.Reading.{next_section, with_item, is_of_same}
use Rattle.ascii_file.specs.Files.{IsInRange, IsDefinable, DefinesApart, HasReset, NamesApart}
use Rattle.ascii_file.proofs.CheckLaws.{Fits}
use Rattle.ascii_file.proofs.DistinctItemLaws.{AreApart, apart_and_new, pairs_from}
use Rattle.aag_text.specs.Filling.{IsFilling, IsReadSoFar}
use Rattle.aag_text.proofs.CountLaws.{room_in}

-- ---- the counts

-- an item of the next section leaves no section with more than the header says
pub fills : (h : Header) (raw : Raw) (item : Item) → IsFilling h raw → next_section h raw ≡ section_of item → IsFilling h (with_item raw item)
fills h raw (InputItem lit) filling next =
    let room = room_in h raw Inputs next in
    record {
      inputs = omega (arith, length_push raw.inputs lit);
      latches = filling.latches;
      safety = filling.safety;
      sizes = filling.sizes;
      liveness = filling.liveness;
      gates = filling.gates;
      latches_after = λ some. absurd (omega (arith, room, filling.latches_after some));
      gates_after = λ some. absurd (omega (arith, room, (filling.gates_after some).0));
    }
fills h raw (LatchItem latch) filling next =
    let room = room_in h raw Latches next in
    record {
      inputs = filling.inputs;
      latches = omega (arith, length_push raw.latches latch, room.1);
      safety = filling.safety;
      sizes = filling.sizes;
      liveness = filling.liveness;
      gates = filling.gates;
      latches_after = λ some. omega (arith, room.0, filling.inputs);
      gates_after = λ some. absurd (omega (arith, room.1, (filling.gates_after some).1));
    }
fills h raw (SafetyItem lit) filling next =
    let room = room_in h raw Safety next in
    record {
      inputs = filling.inputs;
      latches = filling.latches;
      safety = omega (arith, length_push raw.safety lit, room.2);
      sizes = filling.sizes;
      liveness = filling.liveness;
      gates = filling.gates;
      latches_after = filling.latches_after;
      gates_after = filling.gates_after;
    }
fills h raw (SizeItem size) filling next =
    let room = room_in h raw Sizes next in
    let more : sum (raw.sizes ++ size ∷ []) ≡ sum raw.sizes + size = sum_by_push (λ n. n) raw.sizes size in
    record {
      inputs = filling.inputs;
      latches = filling.latches;
      safety = filling.safety;
      sizes = omega (arith, length_push raw.sizes size, room.3);
      liveness = omega (arith, filling.liveness, more);
      gates = filling.gates;
      latches_after = filling.latches_after;
      gates_after = filling.gates_after;
    }
fills h raw (LivenessItem lit) filling next =
    let room = room_in h raw Liveness next in
    record {
      inputs = filling.inputs;
      latches = filling.latches;
      safety = filling.safety;
      sizes = filling.sizes;
      liveness = omega (arith, length_push raw.liveness lit, room.4);
      gates = filling.gates;
      latches_after = filling.latches_after;
      gates_after = filling.gates_after;
    }
fills h raw (GateItem gate) filling next =
    let room = room_in h raw Gates next in
    record {
      inputs = filling.inputs;
      latches = filling.latches;
      safety = filling.safety;
      sizes = filling.sizes;
      liveness = filling.liveness;
      gates = omega (arith, length_push raw.gates gate, room.5);
      latches_after = filling.latches_after;
      gates_after = λ some. (omega (arith, room.0, filling.inputs), omega (arith, room.1, filling.latches));
    }
fills h raw (SymbolItem symbol) filling next = record {
  inputs = filling.inputs;
  latches = filling.latches;
  safety = filling.safety;
  sizes = filling.sizes;
  liveness = filling.liveness;
  gates = filling.gates;
  latches_after = filling.latches_after;
  gates_after = filling.gates_after;
}

-- ---- the variables

zero_where : (n : ℕ) → (0 < n → ⊥) → n ≡ 0
zero_where zero none = refl
zero_where (suc n) none = absurd (none (omega arith))

-- no latch and no gate before the inputs are full, and no gate before the latches are
no_latches : (h : Header) (raw : Raw) → IsFilling h raw → length raw.inputs < h.inputs → raw.latches ≡ []
no_latches h raw filling room = nil_from_length raw.latches (zero_where (length raw.latches) (λ some. absurd (omega (arith, room, filling.latches_after some))))

no_gates : (h : Header) (raw : Raw) → IsFilling h raw → length raw.inputs < h.inputs → raw.gates ≡ []
no_gates h raw filling room = nil_from_length raw.gates (zero_where (length raw.gates) (λ some. absurd (omega (arith, room, (filling.gates_after some).0))))

no_gates_yet : (h : Header) (raw : Raw) → IsFilling h raw → length raw.latches < h.latches → raw.gates ≡ []
no_gates_yet h raw filling room = nil_from_length raw.gates (zero_where (length raw.gates) (λ some. absurd (omega (arith, room, (filling.gates_after some).1))))

input_defined : (inputs : List ℕ) (latches : List RawLatch) (gates : List RawGate) (lit : ℕ) → latches ≡ [] → gates ≡ []
    → map variable (inputs ++ lit ∷ []) ++ map (λ (latch : RawLatch). variable latch.current) latches ++ map (λ (gate : RawGate). variable gate.lhs) gates
    ≡ map variable inputs ++ map (λ (latch : RawLatch). variable latch.current) latches ++ map (λ (gate : RawGate). variable gate.lhs) gates ++ variable lit ∷ []
input_defined inputs latches gates lit e f = rw (e, f) (simp (append-nil, map_push))

latch_defined : (inputs : List ℕ) (latches : List RawLatch) (gates : List RawGate) (latch : RawLatch) → gates ≡ []
    → map variable inputs ++ map (λ (l : RawLatch). variable l.current) (latches ++ latch ∷ []) ++ map (λ (gate : RawGate). variable gate.lhs) gates
    ≡ map variable inputs ++ map (λ (l : RawLatch). variable l.current) latches ++ map (λ (gate : RawGate). variable gate.lhs) gates ++ variable latch.current ∷ []
latch_defined inputs latches gates latch f = rw f (simp (append-nil, map_push, append_assoc))

gate_defined : (inputs : List ℕ) (latches : List RawLatch) (gates : List RawGate) (gate : RawGate)
    → map variable inputs ++ map (λ (l : RawLatch). variable l.current) latches ++ map (λ (g : RawGate). variable g.lhs) (gates ++ gate ∷ [])
    ≡ map variable inputs ++ map (λ (l : RawLatch). variable l.current) latches ++ map (λ (g : RawGate). variable g.lhs) gates ++ variable gate.lhs ∷ []
gate_defined inputs latches gates gate = simp (map_push, append_assoc)

-- the variables that an item defines
abbrev pub variables_of : Item → List ℕ
variables_of (InputItem lit) = variable lit ∷ []
variables_of (LatchItem latch) = variable latch.current ∷ []
variables_of (GateItem gate) = variable gate.lhs ∷ []
variables_of item = []

-- an item of the next section defines its variables after those defined so far
pub defines : (h : Header) (raw : Raw) (item : Item) → IsFilling h raw → next_section h raw ≡ section_of item → defined (with_item raw item) ≡ defined raw ++ variables_of item
defines h raw (InputItem lit) filling next =
    let room = room_in h raw Inputs next in
    input_defined raw.inputs raw.latches raw.gates lit (no_latches h raw filling room) (no_gates h raw filling room)
defines h raw (LatchItem latch) filling next = latch_defined raw.inputs raw.latches raw.gates latch (no_gates_yet h raw filling (room_in h raw Latches next).1)
defines h raw (SafetyItem lit) filling next = sym (append-nil (defined raw))
defines h raw (SizeItem size) filling next = sym (append-nil (defined raw))
defines h raw (LivenessItem lit) filling next = sym (append-nil (defined raw))
defines h raw (GateItem gate) filling next = gate_defined raw.inputs raw.latches raw.gates gate
defines h raw (SymbolItem symbol) filling next = sym (append-nil (defined raw))

-- ---- the conditions

-- one more variable apart from those before it
still_apart : (vs : List ℕ) (v : ℕ) (more : List ℕ) → AreApart vs → has vs v ≡ false → more ≡ vs ++ v ∷ [] → AreApart more
still_apart vs v more apart fresh is = subst AreApart (sym is) (apart_and_new (v ∷ []) vs apart (fresh, tt))

range_kept : (h : Header) (raw : Raw) (item : Item) → IsInRange h raw → Fits h raw item → IsInRange h (with_item raw item)
range_kept h raw (InputItem lit) range fits =
    record { inputs = All-push (λ n. n ≤ 2 * h.greatest + 1) raw.inputs lit range.inputs fits.within.0; latches = range.latches; safety = range.safety; liveness = range.liveness; gates = range.gates }
range_kept h raw (LatchItem latch) range fits = record {
  inputs = range.inputs;
  latches = All-push (λ (l : RawLatch). (l.current ≤ 2 * h.greatest + 1) × (l.next ≤ 2 * h.greatest + 1)) raw.latches latch range.latches (fits.0.within.0, fits.0.within.1.0);
  safety = range.safety;
  liveness = range.liveness;
  gates = range.gates;
}
range_kept h raw (SafetyItem lit) range fits =
    record { inputs = range.inputs; latches = range.latches; safety = All-push (λ n. n ≤ 2 * h.greatest + 1) raw.safety lit range.safety fits.0; liveness = range.liveness; gates = range.gates }
range_kept h raw (SizeItem size) range fits = record { inputs = range.inputs; latches = range.latches; safety = range.safety; liveness = range.liveness; gates = range.gates }
range_kept h raw (LivenessItem lit) range fits =
    record { inputs = range.inputs; latches = range.latches; safety = range.safety; liveness = All-push (λ n. n ≤ 2 * h.greatest + 1) raw.liveness lit range.liveness fits.0; gates = range.gates }
range_kept h raw (GateItem gate) range fits = record {
  inputs = range.inputs;
  latches = range.latches;
  safety = range.safety;
  liveness = range.liveness;
  gates = All-push (λ (g : RawGate). (g.lhs ≤ 2 * h.greatest + 1) × (g.rhs0 ≤ 2 * h.greatest + 1) × (g.rhs1 ≤ 2 * h.greatest + 1)) raw.gates gate range.gates
      (fits.within.0, fits.within.1.0, fits.within.1.1.0);
}
range_kept h raw (SymbolItem symbol) range fits = record { inputs = range.inputs; latches = range.latches; safety = range.safety; liveness = range.liveness; gates = range.gates }

apart_kept : (h : Header) (raw : Raw) (item : Item) → DefinesApart raw → Fits h raw item → defined (with_item raw item) ≡ defined raw ++ variables_of item → DefinesApart (with_item raw item)
apart_kept h raw (InputItem lit) apart fits is = record {
  inputs = All-push IsDefinable raw.inputs lit apart.inputs fits.definable;
  latches = apart.latches;
  gates = apart.gates;
  apart = still_apart (defined raw) (variable lit) (defined (with_item raw (InputItem lit))) apart.apart fits.fresh is;
}
apart_kept h raw (LatchItem latch) apart fits is = record {
  inputs = apart.inputs;
  latches = All-push (λ (l : RawLatch). IsDefinable l.current) raw.latches latch apart.latches fits.0.definable;
  gates = apart.gates;
  apart = still_apart (defined raw) (variable latch.current) (defined (with_item raw (LatchItem latch))) apart.apart fits.0.fresh is;
}
apart_kept h raw (SafetyItem lit) apart fits is = record { inputs = apart.inputs; latches = apart.latches; gates = apart.gates; apart = apart.apart }
apart_kept h raw (SizeItem size) apart fits is = record { inputs = apart.inputs; latches = apart.latches; gates = apart.gates; apart = apart.apart }
apart_kept h raw (LivenessItem lit) apart fits is = record { inputs = apart.inputs; latches = apart.latches; gates = apart.gates; apart = apart.apart }
apart_kept h raw (GateItem gate) apart fits is = record {
  inputs = apart.inputs;
  latches = apart.latches;
  gates = All-push (λ (g : RawGate). IsDefinable g.lhs) raw.gates gate apart.gates fits.definable;
  apart = still_apart (defined raw) (variable gate.lhs) (defined (with_item raw (GateItem gate))) apart.apart fits.fresh is;
}
apart_kept h raw (SymbolItem symbol) apart fits is = record { inputs = apart.inputs; latches = apart.latches; gates = apart.gates; apart = apart.apart }

resets_kept : (h : Header) (raw : Raw) (item : Item) → All HasReset raw.latches → Fits h raw item → All HasReset ((with_item raw item).latches)
resets_kept h raw (InputItem lit) resets fits = resets
resets_kept h raw (LatchItem latch) resets fits = All-push HasReset raw.latches latch resets fits.1
resets_kept h raw (SafetyItem lit) resets fits = resets
resets_kept h raw (SizeItem size) resets fits = resets
resets_kept h raw (LivenessItem lit) resets fits = resets
resets_kept h raw (GateItem gate) resets fits = resets
resets_kept h raw (SymbolItem symbol) resets fits = resets

sizes_kept : (h : Header) (raw : Raw) (item : Item) → sum raw.sizes ≤ 2 ^ 24 → Fits h raw item → sum ((with_item raw item).sizes) ≤ 2 ^ 24
sizes_kept h raw (InputItem lit) most fits = most
sizes_kept h raw (LatchItem latch) most fits = most
sizes_kept h raw (SafetyItem lit) most fits = most
sizes_kept h raw (SizeItem size) most fits = let more : sum (raw.sizes ++ size ∷ []) ≡ sum raw.sizes + size = sum_by_push (λ n. n) raw.sizes size in omega (arith, more, fits)
sizes_kept h raw (LivenessItem lit) most fits = most
sizes_kept h raw (GateItem gate) most fits = most
sizes_kept h raw (SymbolItem symbol) most fits = most

names_kept : (h : Header) (raw : Raw) (item : Item) → NamesApart h raw → Fits h raw item → NamesApart h (with_item raw item)
names_kept h raw (InputItem lit) names fits = record { below = names.below; apart = names.apart }
names_kept h raw (LatchItem latch) names fits = record { below = names.below; apart = names.apart }
names_kept h raw (SafetyItem lit) names fits = record { below = names.below; apart = names.apart }
names_kept h raw (SizeItem size) names fits = record { below = names.below; apart = names.apart }
names_kept h raw (LivenessItem lit) names fits = record { below = names.below; apart = names.apart }
names_kept h raw (GateItem gate) names fits = record { below = names.below; apart = names.apart }
names_kept h raw (SymbolItem symbol) names fits = record {
  below = All-push (λ (s : RawSymbol). s.position < count_of h s.kind) raw.symbols symbol names.below fits.0;
  apart = pairs_from RawSymbol is_of_same (symbol ∷ []) raw.symbols names.apart (fits.1, tt);
}

-- one more item that fits
pub reads : (h : Header) (raw : Raw) (item : Item) → IsReadSoFar h raw → next_section h raw ≡ section_of item → Fits h raw item → IsReadSoFar h (with_item raw item)
reads h raw item read next fits = record {
  within = read.within;
  filling = fills h raw item read.filling next;
  in_range = range_kept h raw item read.in_range fits;
  apart = apart_kept h raw item read.apart fits (defines h raw item read.filling next);
  resets = resets_kept h raw item read.resets fits;
  sizes = sizes_kept h raw item read.sizes fits;
  names = names_kept h raw item read.names fits;
}
