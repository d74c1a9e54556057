-- The text of a map: its header, and its gates from their bytes.
use Rattle.std.proofs.Common.{ℕ, ◌+◌, ◌-◌, ◌*◌, ◌/◌, ◌%◌, ◌^◌, ◌<◌, ◌≤◌, ◌≡◌, ◌≢◌, ◌⊎◌, inl, inr, zero, suc, true, false, ◌==◌, List, [], ◌∷◌, ◌++◌, length, take, drop, get_or, Result, Ok, Err, refl, arith, ap, sym, ◌∙◌, subst}
use Rattle.std.specs.List.{flat_map, enumerate_from}
use Rattle.std.proofs.lemmas.Bool.{cases_lt}
use Rattle.std.proofs.lemmas.List.{append_assoc, drop_more, get_or_default, take-append-drop, take_all}
use Rattle.std.proofs.lemmas.List.Concat.{flat_map-append}
use Rattle.std.proofs.lemmas.Option.{slice_get-get_or}
use Rattle.aig_graph.specs.Circuits.{Netlist}
use Rattle.aig_graph.specs.declared.graph.Gate.{Gate}
use Rattle.aig_graph.specs.declared.graph.Latch.{Latch}
use Rattle.aig_graph.specs.declared.literal.TheConstants.{MAX_VARIABLES}
use Rattle.aig_graph.specs.Graph.{Graph, IsGraph, IsGateAt, first_gate}
use Rattle.binary_file.specs.Deltas.{bytes_within, delta_of}
use Rattle.binary_file.proofs.DeltaLaws.{bytes-low, bytes-high, fewer, first-same, rest-same}
use Rattle.counted_io.specs.Buffered.{Puts}
use Rattle.counted_io.specs.Line.{line, numbered_lines}
use Rattle.counted_io.specs.Output.{Output, Writes, WritesAll, WritesPart}
use Rattle.counted_io.specs.declared.buffered.Buffered.{Buffered}
use Rattle.counted_io.proofs.OutputLaws.{all-then, part-more, part-then}
use Rattle.counted_io.proofs.BufferedLaws.{enumerate_from-append, puts-no_more, puts-numbered_next}
use Rattle.file_words.specs.Text.{all_symbols, gate_row, header_row, numbered_rows, without_last_zeros}
use Rattle.aig_binary.specs.Text.{gate_deltas, text_binary}
use Rattle.retiming_maps.specs.Plain.{IsPlainMap}
use Rattle.aag_text.proofs.HeaderLaws.{not_zero}
use Rattle.mapped_answers.specs.MapText.{BeginsWith, before_gates}

-- ---- the header

some-constraints : (n : ℕ) → n ≢ 0 → without_last_zeros (0 ∷ n ∷ 0 ∷ 0 ∷ []) ≡ 0 ∷ n ∷ []
some-constraints n some = let test : (n == 0) ≡ false = not_zero n some in rw test refl

module _ (m : Netlist) (latches : m.aig.latches ≡ []) (plain : IsPlainMap m) where
  abbrev variables : ℕ
  variables = m.aig.inputs + length m.aig.gates

  abbrev first_counts : List ℕ → List ℕ
  first_counts ns = variables ∷ m.aig.inputs ∷ 0 ∷ length m.props.outputs ∷ length m.aig.gates ∷ ns

  counts : header_row m ≡ first_counts (without_last_zeros (0 ∷ length m.props.constraints ∷ 0 ∷ 0 ∷ []))
  counts =
      let no_latches : length m.aig.latches ≡ 0 = ap (λ (xs : List Latch). length xs) latches in
      let all : 1 + m.aig.inputs + length m.aig.latches + length m.aig.gates - 1 ≡ variables = omega (arith, no_latches) in
      let no_bad : length m.props.bad ≡ 0 = ap (λ (xs : List ℕ). length xs) plain.bad in
      let no_justice : length m.props.justice ≡ 0 = ap (λ (xs : List (List ℕ)). length xs) plain.justice in
      let no_fairness : length m.props.fairness ≡ 0 = ap (λ (xs : List ℕ). length xs) plain.fairness in
      let row : ℕ → ℕ → ℕ → ℕ → ℕ → List ℕ = λ n l b j f.
      n ∷ m.aig.inputs ∷ l ∷ length m.props.outputs ∷ length m.aig.gates ∷ without_last_zeros (b ∷ length m.props.constraints ∷ j ∷ f ∷ []) in
      ap (λ (n : ℕ). row n (length m.aig.latches) (length m.props.bad) (length m.props.justice) (length m.props.fairness)) all
      ∙ ap (λ (n : ℕ). row variables n (length m.props.bad) (length m.props.justice) (length m.props.fairness)) no_latches
      ∙ ap (λ (n : ℕ). row variables 0 n (length m.props.justice) (length m.props.fairness)) no_bad
      ∙ ap (λ (n : ℕ). row variables 0 0 n (length m.props.fairness)) no_justice
      ∙ ap (λ (n : ℕ). row variables 0 0 0 n) no_fairness

  -- these counts of inputs, gates, outputs and constraints are the map's
  pub record AreCountsOf (inputs gates outputs constraints : ℕ) : Type 0 where
    -- the first count is that of inputs
    pub inputs_are : inputs ≡ m.aig.inputs
    -- the second that of gates
    pub gates_are : gates ≡ length m.aig.gates
    -- the third that of outputs
    pub outputs_are : outputs ≡ length m.props.outputs
    -- the fourth that of constraints
    pub constraints_are : constraints ≡ length m.props.constraints

  same-counts : (i n o k : ℕ) (ns : List ℕ) → AreCountsOf i n o k → (i + n) ∷ i ∷ 0 ∷ o ∷ n ∷ ns ≡ first_counts ns
  same-counts i n o k ns are =
      ap (λ (x : ℕ). (x + n) ∷ x ∷ 0 ∷ o ∷ n ∷ ns) are.inputs_are
      ∙ ap (λ (x : ℕ). (m.aig.inputs + x) ∷ m.aig.inputs ∷ 0 ∷ o ∷ x ∷ ns) are.gates_are
      ∙ ap (λ (x : ℕ). variables ∷ m.aig.inputs ∷ 0 ∷ x ∷ length m.aig.gates ∷ ns) are.outputs_are

  -- the header of a map without constraints
  pub header-without : (i n o k : ℕ) → AreCountsOf i n o k → k ≡ 0 → (i + n) ∷ i ∷ 0 ∷ o ∷ n ∷ [] ≡ header_row m
  header-without i n o k are none =
      same-counts i n o k [] are
      ∙ sym (counts ∙ ap (λ (x : ℕ). first_counts (without_last_zeros (0 ∷ x ∷ 0 ∷ 0 ∷ []))) (sym are.constraints_are ∙ none))

  -- that of one with some
  pub header-with : (i n o k : ℕ) → AreCountsOf i n o k → k ≢ 0 → (i + n) ∷ i ∷ 0 ∷ o ∷ n ∷ 0 ∷ k ∷ [] ≡ header_row m
  header-with i n o k are some =
      same-counts i n o k (0 ∷ k ∷ []) are
      ∙ sym (counts ∙ ap (λ (x : ℕ). first_counts (without_last_zeros (0 ∷ x ∷ 0 ∷ 0 ∷ []))) (sym are.constraints_are)
      ∙ ap first_counts (some-constraints k some))

-- ---- numbers from bytes

-- the first byte has the low bits of the number, and the others follow
record GoesOn (n : ℕ) (tail bytes : List ℕ) : Type 0 where
  less : ℕ
  high : 128 ≤ n
  small : n / 128 < 128 ^ (suc less)
  is : bytes ≡ (n % 128 + 128) ∷ (bytes_within less (n / 128) ++ tail)

shape : (more n : ℕ) (tail bytes : List ℕ) → BeginsWith more n tail bytes → ((n < 128) × (bytes ≡ n ∷ tail)) ⊎ GoesOn n tail bytes
shape zero n tail bytes h =
    let low : n < 128 = (let small = h.small in omega arith) in
    inl (low, h.is ∙ ap (λ (xs : List ℕ). xs ++ tail) (bytes-low zero n low))
shape (suc less) n tail bytes h = elim (cases_lt n 128) [
  | inl low ↦ inl (low, h.is ∙ ap (λ (xs : List ℕ). xs ++ tail) (bytes-low (suc less) n low))
  | inr high ↦ inr (record { less = less; high = high; small = fewer (suc less) n h.small; is = h.is ∙ ap (λ (xs : List ℕ). xs ++ tail) (bytes-high less n high) })
]

-- no number begins with no byte
pub begins-none : (more n : ℕ) (tail bytes : List ℕ) → length bytes ≡ 0 → BeginsWith more n tail bytes → ⊥
begins-none more n tail bytes none h = elim (shape more n tail bytes h) [
  | inl last ↦ absurd (let long = ap (λ (xs : List ℕ). length xs) last.1 in omega arith)
  | inr on ↦ absurd (let long = ap (λ (xs : List ℕ). length xs) on.is in omega arith)
]

-- a first byte below 128 is the number
pub begins-last : (more n byte : ℕ) (tail rest bytes : List ℕ) → bytes ≡ byte ∷ rest → byte < 128 → BeginsWith more n tail bytes → (byte ≡ n) × (rest ≡ tail)
begins-last more n byte tail rest bytes e low h = elim (shape more n tail bytes h) [
  | inl last ↦ (first-same (sym e ∙ last.1), rest-same (sym e ∙ last.1))
  | inr on ↦ absurd (let same : byte ≡ n % 128 + 128 = first-same (sym e ∙ on.is) in omega arith)
]

-- after another byte the number without its low bits begins
pub record IsFollowedBy (n byte : ℕ) (tail rest : List ℕ) : Type 0 where
  -- n bytes at most follow the first of what is left
  pub less : ℕ
  -- the low bits and what is left are the number
  pub whole : byte - 128 + 128 * (n / 128) ≡ n
  -- it has 32 bits
  pub word : n < 2 ^ 32
  -- what is left begins
  pub begins : BeginsWith less (n / 128) tail rest

-- after a first byte from 128 on, the number without its low bits begins
pub begins-more : (more n byte : ℕ) (tail rest bytes : List ℕ) → bytes ≡ byte ∷ rest → 128 ≤ byte → BeginsWith more n tail bytes → IsFollowedBy n byte tail rest
begins-more more n byte tail rest bytes e high h = elim (shape more n tail bytes h) [
  | inl last ↦ absurd (let same : byte ≡ n = first-same (sym e ∙ last.1) in let low = last.0 in omega arith)
  | inr on ↦ (
      let same : byte ≡ n % 128 + 128 = first-same (sym e ∙ on.is) in
      let word = h.word in
      record { less = on.less; whole = omega arith; word = word; begins = record { small = on.small; word = omega arith; is = rest-same (sym e ∙ on.is) } })
]

-- ---- gates from bytes

module _ (var : ℕ) (gate : Gate) (tail : List ℕ) (small : var < MAX_VARIABLES) (here : IsGateAt var gate) where
  -- the first of a gate's deltas, and the second after it
  pub gate-begins : (bytes : List ℕ) → bytes ≡ gate_deltas var gate ++ tail → BeginsWith 4 (2 * var - gate.rhs0) (delta_of (gate.rhs0 - gate.rhs1) ++ tail) bytes
  unfolding gate_deltas
  gate-begins bytes is = record {
    small = omega (arith, small);
    word = omega (arith, small);
    is = is ∙ append_assoc (delta_of (2 * var - gate.rhs0)) (delta_of (gate.rhs0 - gate.rhs1)) tail;
  }

  -- the second
  pub gate-ends : (bytes : List ℕ) → bytes ≡ delta_of (gate.rhs0 - gate.rhs1) ++ tail → BeginsWith 4 (gate.rhs0 - gate.rhs1) tail bytes
  gate-ends bytes is = record { small = omega (arith, small, here.below); word = omega (arith, small, here.below); is = is }

  -- the row of a gate, from its deltas
  pub gate-row : (first second : ℕ) → first ≡ 2 * var - gate.rhs0 → second ≡ gate.rhs0 - gate.rhs1 → line (2 * var ∷ (2 * var - first) ∷ (2 * var - first - second) ∷ []) ≡ line (gate_row var gate)
  unfolding gate_row
  gate-row first second one two =
      let a : 2 * var - first ≡ gate.rhs0 = omega (arith, one, here.below) in
      let b : 2 * var - first - second ≡ gate.rhs1 = omega (arith, one, two, here.below, here.ordered) in
      ap (λ (x : ℕ). line (2 * var ∷ x ∷ (2 * var - first - second) ∷ [])) a ∙ ap (λ (x : ℕ). line (2 * var ∷ gate.rhs0 ∷ x ∷ [])) b

abbrev no_gate : Gate
no_gate = record { rhs0 = 0; rhs1 = 0 }

-- the gate at a place
abbrev pub gate_of_place : List Gate → ℕ → Gate
gate_of_place gates k = get_or gates k no_gate

-- a gate of a graph without latches stands there
pub gate-stands : (g : Graph) (first k : ℕ) → IsGraph g → first ≡ first_gate g → k < length g.gates → IsGateAt (first + k) (gate_of_place g.gates k)
gate-stands g first k valid is less =
    let it : IsGateAt (first_gate g + k) (gate_of_place g.gates k) = valid.gates k (gate_of_place g.gates k) (slice_get-get_or g.gates k no_gate less) in
    record { ordered = it.ordered; below = omega (arith, is, it.below) }

-- its bytes are the next
pub gate-next : (first k : ℕ) (gates : List Gate) (rest : List ℕ) → k < length gates → rest ≡ numbered_lines gate_deltas (first + k) (drop k gates)
    → rest ≡ gate_deltas (first + k) (gate_of_place gates k) ++ numbered_lines gate_deltas (first + (k + 1)) (drop (k + 1) gates)
gate-next first k gates rest less is =
    let next : first + k + 1 ≡ first + (k + 1) = omega arith in
    is ∙ ap (numbered_lines gate_deltas (first + k)) (drop_more gates k no_gate less)
    ∙ ap (λ (m : ℕ). gate_deltas (first + k) (gate_of_place gates k) ++ numbered_lines gate_deltas m (drop (k + 1) gates)) next

module _ {W : Type 0} {output : W → Output} where
  -- the line of one more gate
  pub puts-gate : {b c d : Buffered W} (first k : ℕ) (gates : List Gate) → k < length gates → Puts output b c (numbered_rows gate_row first (take k gates))
      → Puts output c d (line (gate_row (first + k) (gate_of_place gates k))) → Puts output b d (numbered_rows gate_row first (take (k + 1) gates))
  puts-gate first k gates less before put =
      puts-numbered_next (λ (v : ℕ) (x : Gate). line (gate_row v x)) first gates k (gate_of_place gates k) less (get_or_default gates k no_gate (gate_of_place gates k) less) before put

  -- after a write that failed those that are left
  pub puts-gates-ended : {b c : Buffered W} (first k : ℕ) (gates : List Gate) → c.failed ≡ true → Puts output b c (numbered_rows gate_row first (take k gates))
      → Puts output b c (numbered_rows gate_row first gates)
  puts-gates-ended {b = b} {c = c} first k gates bad before =
      let row : (ℕ × Gate) → List ℕ = λ e. line (gate_row e.0 e.1) in
      let left : List (ℕ × Gate) = enumerate_from (first + length (take k gates)) (drop k gates) in
      let whole : numbered_rows gate_row first (take k gates) ++ flat_map row left ≡ numbered_rows gate_row first gates =
      sym (flat_map-append row (enumerate_from first (take k gates)) left) ∙ sym (ap (flat_map row) (enumerate_from-append first (take k gates) (drop k gates)))
      ∙ ap (λ (gs : List Gate). flat_map row (enumerate_from first gs)) (take-append-drop k gates) in
      subst (λ (xs : List ℕ). Puts output b c xs) whole (puts-no_more (flat_map row left) bad before)

  -- all of them
  pub puts-gates-end : {b c : Buffered W} (first k : ℕ) (gates : List Gate) → length gates ≤ k → Puts output b c (numbered_rows gate_row first (take k gates))
      → Puts output b c (numbered_rows gate_row first gates)
  puts-gates-end {b = b} {c = c} first k gates all before = subst (λ (gs : List Gate). Puts output b c (numbered_rows gate_row first gs)) (take_all k gates all) before

-- ---- one text written after another

-- if the first was written, the second
pub writes-then : {T E : Type 0} (s t u : Output) (r : Result T E) (a b : List ℕ) → WritesAll s t a → Writes t u r b → Writes s u r (a ++ b)
writes-then s t u (Ok x) a b before after = record { ok = all-then s t u a b before after.ok; err = tt }
writes-then s t u (Err e) a b before after = record { ok = tt; err = part-then s t u a b before after.err }

-- if it wasn't, a beginning of both
pub writes-no-more : {T E : Type 0} (s t : Output) (e : E) (a b : List ℕ) → WritesPart s t a → Writes {T = T} s t (Err e) (a ++ b)
writes-no-more s t e a b part = record { ok = tt; err = part-more s t a b part }

-- the binary text in three pieces
pub binary-pieces : (m : Netlist) → before_gates m ++ (numbered_lines gate_deltas (first_gate m.aig) m.aig.gates ++ all_symbols m.symbols) ≡ text_binary m
unfolding before_gates text_binary
binary-pieces m = sym (append_assoc (before_gates m) (numbered_lines gate_deltas (first_gate m.aig) m.aig.gates) (all_symbols m.symbols))
