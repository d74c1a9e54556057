-- The bytes of gates are read as these gates, and those of one gate more as one gate more.
use Rattle.std.proofs.Common.{ℕ, ◌+◌, ◌-◌, ◌*◌, ◌/◌, ◌%◌, ◌^◌, ◌<◌, ◌≤◌, ◌≡◌, inl, inr, zero, suc, nat_lt, true, false, List, [], ◌∷◌, ◌++◌, length, take, Some, slice_get, refl, arith, ap, ap₂, sym, ◌∙◌, subst}
use Rattle.std.proofs.Common.{set as put}
use Rattle.std.specs.List.{flat_map, enumerate_from}
use Rattle.std.proofs.lemmas.Bool.{cases_lt, lt-ltb, le-ltb}
use Rattle.std.proofs.lemmas.List.{append-nil, append_assoc, length_push, take_more_set}
use Rattle.std.proofs.lemmas.List.Concat.{flat_map-append}
use Rattle.std.proofs.lemmas.Option.{none-some}
use Rattle.aig_graph.specs.declared.graph.Gate.{Gate}
use Rattle.aig_graph.specs.declared.literal.TheConstants.{MAX_VARIABLES}
use Rattle.aig_graph.specs.Building.{gate_of, with_gate}
use Rattle.aig_graph.specs.Graph.{Graph, IsGraph, IsGateAt, IsLiteralOf, first_gate}
use Rattle.aig_graph.proofs.GraphLaws.{IsGraph-with_gate}
use Rattle.counted_io.specs.Line.{numbered_lines}
use Rattle.counted_io.proofs.BufferedLaws.{enumerate_from-append}
use Rattle.binary_file.specs.Deltas.{bytes_within, delta_of}
use Rattle.binary_file.proofs.DeltaLaws.{Spells, Spells-end, Spells-more, bytes-low, bytes-high, fewer}
use Rattle.aig_binary.specs.Text.{gate_deltas}
use Rattle.map_circuits.specs.Growing.{gates_over}
use Rattle.map_circuits.specs.Packing.{ArePacked, gate_apart, gates_apart, gates_in, numbers_in, packed, with_low_bits}

-- ---- numbers

-- a byte below 128 is a number
last-byte : (byte : ℕ) (bytes : List ℕ) → byte < 128 → numbers_in (byte ∷ bytes) ≡ byte ∷ numbers_in bytes
last-byte byte bytes low = let test : nat_lt byte 128 ≡ true = lt-ltb byte 128 low in rw test refl

-- another is the low bits of the number that follows
other-byte : (byte : ℕ) (bytes : List ℕ) → 128 ≤ byte → numbers_in (byte ∷ bytes) ≡ with_low_bits byte (numbers_in bytes)
other-byte byte bytes high = let test : nat_lt byte 128 ≡ false = le-ltb byte 128 high in rw test refl

-- the bytes of a number are read as that number
pub number-read : (more n : ℕ) (rest : List ℕ) → n < 128 ^ (suc more) → numbers_in (bytes_within more n ++ rest) ≡ n ∷ numbers_in rest
number-read zero n rest small =
    let low : n < 128 = omega arith in
    ap (λ (bytes : List ℕ). numbers_in (bytes ++ rest)) (bytes-low zero n low) ∙ last-byte n rest low
number-read (suc more) n rest small = elim (cases_lt n 128) [
  | inl low ↦ ap (λ (bytes : List ℕ). numbers_in (bytes ++ rest)) (bytes-low (suc more) n low) ∙ last-byte n rest low
  | inr high ↦ (
      let byte : ℕ = n % 128 + 128 in
      let whole : byte - 128 + 128 * (n / 128) ≡ n = omega arith in
      ap (λ (bytes : List ℕ). numbers_in (bytes ++ rest)) (bytes-high more n high)
      ∙ other-byte byte (bytes_within more (n / 128) ++ rest) (omega arith)
      ∙ ap (with_low_bits byte) (number-read more (n / 128) rest (fewer (suc more) n small))
      ∙ ap (λ (m : ℕ). m ∷ numbers_in rest) whole)
]

-- ---- gates

-- the deltas of a gate, and what follows them, are read as how far its fan-ins are apart
deltas-read : (v : ℕ) (gate : Gate) (rest : List ℕ) → v < MAX_VARIABLES → IsGateAt v gate
    → numbers_in (gate_deltas v gate ++ rest) ≡ (2 * v - gate.rhs0) ∷ (gate.rhs0 - gate.rhs1) ∷ numbers_in rest
unfolding gate_deltas
deltas-read v gate rest small here =
    let first : ℕ = 2 * v - gate.rhs0 in
    let second : ℕ = gate.rhs0 - gate.rhs1 in
    ap numbers_in (append_assoc (delta_of first) (delta_of second) rest)
    ∙ number-read 4 first (delta_of second ++ rest) (omega arith)
    ∙ ap (λ (ns : List ℕ). first ∷ ns) (number-read 4 second rest (omega (arith, here.below)))

-- that far apart is the gate
gate-again : (v : ℕ) (gate : Gate) → IsGateAt v gate → gate_apart v (2 * v - gate.rhs0) (gate.rhs0 - gate.rhs1) ≡ gate
gate-again v gate here =
    let one : 2 * v - (2 * v - gate.rhs0) ≡ gate.rhs0 = omega (arith, here.below) in
    let two : 2 * v - (2 * v - gate.rhs0) - (gate.rhs0 - gate.rhs1) ≡ gate.rhs1 = omega (arith, here.below, here.ordered) in
    λ i. record { rhs0 = one i; rhs1 = two i }

-- the bytes of gates are read as these gates
pub gates-read : (first : ℕ) (gates : List Gate) → first + length gates ≤ MAX_VARIABLES
    → ((k : ℕ) (gate : Gate) → slice_get gates k ≡ Some gate → IsGateAt (first + k) gate) → gates_in first (numbered_lines gate_deltas first gates) ≡ gates
gates-read first [] small each = refl
gates-read first (gate ∷ gates) small each =
    let here : IsGateAt first gate = (let it : IsGateAt (first + 0) gate = each 0 gate refl in record { ordered = it.ordered; below = omega (arith, it.below) }) in
    let rest : List ℕ = numbered_lines gate_deltas (first + 1) gates in
    let others : gates_in (first + 1) rest ≡ gates = gates-read (first + 1) gates (omega (arith, small)) (λ k other there.
    let it : IsGateAt (first + suc k) other = each (suc k) other there in
    record { ordered = it.ordered; below = omega (arith, it.below) }) in
    ap (gates_apart first) (deltas-read first gate rest (omega (arith, small)) here)
    ∙ ap₂ (λ (g : Gate) (gs : List Gate). g ∷ gs) (gate-again first gate here) others

-- ---- one gate more

-- the line of one more numbered thing, at the end
pub numbered-push : {X : Type 0} (f : ℕ → X → List ℕ) (first : ℕ) (xs : List X) (x : X)
    → numbered_lines f first (xs ++ x ∷ []) ≡ numbered_lines f first xs ++ f (first + length xs) x
numbered-push f first xs x =
    let line : (ℕ × _) → List ℕ = λ e. f e.0 e.1 in
    ap (flat_map line) (enumerate_from-append first xs (x ∷ []))
    ∙ flat_map-append line (enumerate_from first xs) ((first + length xs, x) ∷ [])
    ∙ ap (λ (ys : List ℕ). numbered_lines f first xs ++ ys) (append-nil (f (first + length xs) x))

-- no bytes are no gates
pub packed-none : (inputs : ℕ) (bytes : List ℕ) → inputs < MAX_VARIABLES → bytes ≡ [] → ArePacked inputs 0 bytes
packed-none inputs bytes small none = subst (ArePacked inputs 0) (sym none) (record {
  graph = record {
    small = omega (arith, small);
    latches = λ k latch there. absurd (none-some latch there);
    gates = λ k gate there. absurd (none-some gate there);
  };
  spell = refl;
  many = refl;
})

module _ (inputs count : ℕ) (bytes more : List ℕ) (a b : ℕ) (old : ArePacked inputs count bytes) (small : 1 + inputs + count < MAX_VARIABLES)
    (within_a : IsLiteralOf (packed inputs bytes) a) (within_b : IsLiteralOf (packed inputs bytes) b)
    (pushed : more ≡ bytes ++ gate_deltas (1 + inputs + count) (gate_of a b)) where
  abbrev g : Graph
  g = packed inputs bytes

  abbrev gates : List Gate
  gates = gates_in (1 + inputs) bytes

  abbrev gate : Gate
  gate = gate_of a b

  -- with the gate of two literals it is a graph
  pub packed-grown : IsGraph (with_gate g gate)
  packed-grown = IsGraph-with_gate g g a b refl old.graph (omega (arith, small, old.many)) within_a within_b

  spelt-more : more ≡ numbered_lines gate_deltas (1 + inputs) (gates ++ gate ∷ [])
  spelt-more =
      pushed ∙ ap₂ (λ (xs ys : List ℕ). xs ++ ys) old.spell (ap (λ (n : ℕ). gate_deltas (1 + inputs + n) gate) old.many)
      ∙ sym (numbered-push gate_deltas (1 + inputs) gates gate)

  -- the gates of the bytes with those of one more are these gates with that one more
  read-more : gates_in (1 + inputs) more ≡ gates ++ gate ∷ []
  read-more =
      ap (gates_in (1 + inputs)) spelt-more
      ∙ gates-read (1 + inputs) (gates ++ gate ∷ []) (omega (arith, packed-grown.small)) (λ k other there.
      let it : IsGateAt (first_gate (with_gate g gate) + k) other = packed-grown.gates k other there in
      record { ordered = it.ordered; below = omega (arith, it.below) })

  -- packed more, of the graph
  pub packed-more : packed inputs more ≡ with_gate g gate
  packed-more = ap (gates_over inputs) read-more

  -- the bytes are those of one gate more
  pub are-packed-more : ArePacked inputs (count + 1) more
  are-packed-more = record {
    graph = subst IsGraph (sym packed-more) packed-grown;
    spell = spelt-more ∙ ap (numbered_lines gate_deltas (1 + inputs)) (sym read-more);
    many = omega (arith, old.many, ap (λ (gs : List Gate). length gs) read-more, length_push gates gate);
  }

-- ---- a delta in place

-- before its first byte the whole number is left
pub delta-start : (at number : ℕ) (old : List ℕ) → number < 2 ^ 32 → Spells (take at old) (take at old) (at - at) number number
delta-start at number old small =
    let none : 0 ≡ at - at = omega arith in
    subst (λ (k : ℕ). Spells (take at old) (take at old) k number number) none (omega arith, omega arith, refl)

module _ (at end number rest byte : ℕ) (old bytes : List ℕ) (from : at ≤ end) (few : end ≤ at + 4) (within : end < length bytes)
    (spells : Spells (take at old) (take end bytes) (end - at) rest number) where
  -- if the number has more than seven bits left, its last byte is still to come
  pub delta-few : 128 ≤ rest → end < at + 4
  delta-few high = elim (cases_lt end (at + 4)) [
    | inl less ↦ less
    | inr last ↦ (
        let four : end - at ≡ 4 = omega arith in
        let left : rest < 128 ^ (5 - 4) = subst (λ (k : ℕ). rest < 128 ^ (5 - k)) four spells.1 in
        absurd (omega (arith, left)))
  ]

  -- a byte with the lowest seven of them
  pub delta-more : 128 ≤ rest → byte ≡ rest % 128 + 128 → Spells (take at old) (take (end + 1) (put bytes end byte)) (end + 1 - at) (rest / 128) number
  delta-more high is =
      let few_so_far : end - at < 4 = (let before = delta-few high in omega arith) in
      let next : end - at + 1 ≡ end + 1 - at = omega arith in
      subst (λ (k : ℕ). Spells (take at old) (take (end + 1) (put bytes end byte)) k (rest / 128) number) next
      (Spells-more (take at old) (take end bytes) (take (end + 1) (put bytes end byte)) (end - at) rest number few_so_far high spells
      (take_more_set bytes end byte within ∙ ap (λ (b : ℕ). take end bytes ++ b ∷ []) is))

  -- what is left is the last byte
  pub delta-end : rest < 128 → byte ≡ rest → take (end + 1) (put bytes end byte) ≡ take at old ++ delta_of number
  delta-end low is =
      take_more_set bytes end byte within ∙ ap (λ (b : ℕ). take end bytes ++ b ∷ []) is
      ∙ Spells-end (take at old) (take end bytes) (end - at) rest number (omega arith) (inr low) spells
