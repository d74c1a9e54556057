-- The graph whose gates stand in order.
use Rattle.std.proofs.Common.{ℕ, ◌+◌, ◌-◌, ◌*◌, ◌%◌, ◌^◌, ◌<◌, ◌≤◌, ◌≡◌, List, length, map, get_or, slice_get, slice_index, All, Option, Some, None, refl, sym, ap, subst, ◌∙◌, inl, inr, arith}
use Rattle.std.proofs.lemmas.Bool.{cases_lt, lt-ltb, le-ltb, le-leb, cond-true, cond-false, or_left, or_right, eq-eqb}
use Rattle.std.proofs.lemmas.List.{length-map, get_or-map, get_or_default}
use Rattle.std.proofs.lemmas.List.Elements.{All-map}
use Rattle.std.proofs.lemmas.Option.{slice_get-map, slice_get-get_or, slice_get_within, get_or_from_slice_get}
use Rattle.aig_graph.specs.declared.graph.Gate.{Gate}
use Rattle.aig_graph.specs.declared.graph.Latch.{Latch}
use Rattle.aig_graph.specs.Building.{gate_of}
use Rattle.aig_graph.specs.Graph.{IsGraph, IsGateAt, variable, variables_end}
use Rattle.ascii_file.specs.declared.order.reads.Reads.{Reads}
use Rattle.ascii_file.specs.order.Order.{IsOrder}
use Rattle.ascii_file.specs.order.Cycles.{ReadsGate, does_read, is_gate}
use Rattle.ascii_file.proofs.GateOrderLaws.{follows_where_true}
use Rattle.ascii_file.proofs.CycleLaws.{each_once, reads_before}
use Rattle.aag_text.specs.Arranging.{gate_read, reads_of_gate, AreRanks, AreDistinct, AreMovable, IsBelow, moved, moved_latch, moved_gate, no_gate, gates_in_order, graph_in_order}

-- ---- an order

-- each number of an order is a place of the file, and stands once
pub order_below : (gates : List Reads) (order : List ℕ) → IsOrder gates order → (k g : ℕ) → slice_get order k ≡ Some g → g < length gates
order_below gates order is k g there = (follows_where_true gates _ g (is.each k g there).follows).below

-- no gate stands twice in an order, and each is below their number
pub distinct : (gates : List Reads) (order : List ℕ) → IsOrder gates order → AreDistinct order
distinct gates order is = record {
  below = λ k d within. let less = order_below gates order is k (get_or order k d) (slice_get-get_or order k d within) in omega (arith, less, is.as_many);
  alone = λ g i j first second. (each_once gates order is g (order_below gates order is i g first)).alone i j first second;
}

-- ---- ranks

-- what has a rank stands there
pub ranked : (gates : List Reads) (order ranks : List ℕ) → IsOrder gates order → AreRanks order ranks → (g : ℕ) → g < length gates → slice_get order (slice_index ranks g) ≡ Some g
ranked gates order ranks is are g less =
    let stands = (each_once gates order is g less).stands in
    let there : slice_get order stands.0 ≡ Some g = slice_get-get_or order stands.0 g stands.1 ∙ ap (λ n. Some n) stands.2 in
    ap (slice_get order) (are.at stands.0 g there) ∙ there

-- ranks of an order may move literals, if the variables are few enough
pub movable : (first : ℕ) (gates : List Reads) (order ranks : List ℕ) → IsOrder gates order → AreRanks order ranks → first + length gates ≤ 2 ^ 28 → AreMovable first ranks
movable first gates order ranks is are small = record {
  small = omega (arith, small, are.as_many, is.as_many);
  below = λ g d within.
      let less : g < length gates = omega (arith, within, are.as_many, is.as_many) in
      let there = slice_get_within order (slice_index ranks g) g (ranked gates order ranks is are g less) in
      subst (λ n. n < length ranks) (get_or_default ranks g 0 d within) (omega (arith, there, are.as_many));
}

-- ---- literals

-- the variable of a moved literal, by where the literal's variable stands
moved_low : (first : ℕ) (ranks : List ℕ) (lit : ℕ) → variable lit < first → moved first ranks lit ≡ lit
moved_low first ranks lit less = cond-true _ _ _ (lt-ltb (variable lit) first less)

moved_high : (first : ℕ) (ranks : List ℕ) (lit : ℕ) → first ≤ variable lit → variable (moved first ranks lit) ≡ first + slice_index ranks (variable lit - first)
moved_high first ranks lit more =
    let is : moved first ranks lit ≡ 2 * (first + slice_index ranks (variable lit - first)) + lit % 2 = cond-false _ _ _ (le-ltb (variable lit) first more) in
    ap variable is ∙ omega arith

-- a literal below the variables' end is moved to one below it
pub moved_below : (first : ℕ) (ranks : List ℕ) → AreMovable first ranks → (lit : ℕ) → IsBelow (first + length ranks) lit → IsBelow (first + length ranks) (moved first ranks lit)
moved_below first ranks are lit below = elim (cases_lt (variable lit) first) [
  | inl less ↦ subst (λ n. variable n < first + length ranks) (sym (moved_low first ranks lit less)) below
  | inr more ↦
      let rank = are.below (variable lit - first) 0 (omega (arith, below, more)) in
      omega (arith, moved_high first ranks lit more, rank)
]

-- literals below the variables' end are moved to such
pub all_moved_below : (first : ℕ) (ranks : List ℕ) → AreMovable first ranks → (lits : List ℕ) → All (IsBelow (first + length ranks)) lits → All (IsBelow (first + length ranks)) (map (moved first ranks) lits)
all_moved_below first ranks are lits all = All-map (IsBelow (first + length ranks)) (moved first ranks) lits (λ k d within. moved_below first ranks are (get_or lits k d) (all k d within))

-- ---- gates

-- a fan-in of the gate at a place is a gate at a place below, or no gate
module _ (first : ℕ) (gates : List Gate) (order ranks : List ℕ) (is : IsOrder (map (reads_of_gate first) gates) order) (are : AreRanks order ranks) where
  fan_in_before : (k g : ℕ) → slice_get order k ≡ Some g → (lit : ℕ) → (first ≤ variable lit → ReadsGate (map (reads_of_gate first) gates) g (variable lit - first)) → variable (moved first ranks lit) < first + k
  fan_in_before k g there lit reads = elim (cases_lt (variable lit) first) [
    | inl less ↦ subst (λ n. variable n < first + k) (sym (moved_low first ranks lit less)) (omega (arith, less))
    | inr more ↦
        let before = reads_before (map (reads_of_gate first) gates) order is k g (variable lit - first) there (reads more) in
        let rank = are.at before.0 (variable lit - first) before.2 in
        omega (arith, moved_high first ranks lit more, rank, before.1)
  ]

  reads_at : (g : ℕ) → g < length gates → slice_get (map (reads_of_gate first) gates) g ≡ Some (reads_of_gate first (get_or gates g no_gate))
  reads_at g less = slice_get-map (reads_of_gate first) gates g ∙ ap (λ (o : Option Gate). elim o [ None ↦ None | Some gate ↦ Some (reads_of_gate first gate) ]) (slice_get-get_or gates g no_gate less)

  reads_first : (g : ℕ) → g < length gates → first ≤ variable (get_or gates g no_gate).rhs0 → ReadsGate (map (reads_of_gate first) gates) g (variable (get_or gates g no_gate).rhs0 - first)
  reads_first g less more =
      let gate = get_or gates g no_gate in
      let read : gate_read first gate.rhs0 ≡ Some (variable gate.rhs0 - first) = cond-true _ _ _ (le-leb first (variable gate.rhs0) more) in
      ap (λ (o : Option Reads). does_read o (variable gate.rhs0 - first)) (reads_at g less)
      ∙ or_left _ (is_gate (gate_read first gate.rhs1) (variable gate.rhs0 - first)) (ap (λ (o : Option ℕ). is_gate o (variable gate.rhs0 - first)) read ∙ eq-eqb (variable gate.rhs0 - first) (variable gate.rhs0 - first) refl)

  reads_second : (g : ℕ) → g < length gates → first ≤ variable (get_or gates g no_gate).rhs1 → ReadsGate (map (reads_of_gate first) gates) g (variable (get_or gates g no_gate).rhs1 - first)
  reads_second g less more =
      let gate = get_or gates g no_gate in
      let read : gate_read first gate.rhs1 ≡ Some (variable gate.rhs1 - first) = cond-true _ _ _ (le-leb first (variable gate.rhs1) more) in
      ap (λ (o : Option Reads). does_read o (variable gate.rhs1 - first)) (reads_at g less)
      ∙ or_right (is_gate (gate_read first gate.rhs0) (variable gate.rhs1 - first)) _ (ap (λ (o : Option ℕ). is_gate o (variable gate.rhs1 - first)) read ∙ eq-eqb (variable gate.rhs1 - first) (variable gate.rhs1 - first) refl)

  gate_at_place : (k g : ℕ) → slice_get order k ≡ Some g → IsGateAt (first + k) (moved_gate first ranks (get_or gates g no_gate))
  gate_at_place k g there =
      let less : g < length gates = omega (arith, order_below (map (reads_of_gate first) gates) order is k g there, length-map gates (reads_of_gate first)) in
      let one = fan_in_before k g there (get_or gates g no_gate).rhs0 (reads_first g less) in
      let two = fan_in_before k g there (get_or gates g no_gate).rhs1 (reads_second g less) in
      gate_below (moved first ranks (get_or gates g no_gate).rhs0) (moved first ranks (get_or gates g no_gate).rhs1) (first + k) one two
    where
      gate_below : (a b n : ℕ) → variable a < n → variable b < n → IsGateAt n (gate_of a b)
      gate_below a b n p q = record { ordered = omega arith; below = omega (arith, p, q) }

-- ---- the graph

module _ (inputs : ℕ) (latches : List Latch) (gates : List Gate) (order ranks : List ℕ) (is : IsOrder (map (reads_of_gate (1 + inputs + length latches)) gates) order) (are : AreRanks order ranks)
    (small : 1 + inputs + length latches + length gates ≤ 2 ^ 28) (below : All (λ (latch : Latch). IsBelow (1 + inputs + length latches + length gates) latch.next) latches) where
  as_many : length order ≡ length gates
  as_many = is.as_many ∙ length-map gates (reads_of_gate (1 + inputs + length latches))

  first : ℕ
  first = 1 + inputs + length latches

  can_move : AreMovable (1 + inputs + length latches) ranks
  can_move = movable (1 + inputs + length latches) (map (reads_of_gate (1 + inputs + length latches)) gates) order ranks is are (omega (arith, small, length-map gates (reads_of_gate (1 + inputs + length latches))))

  -- the variables of the graph in order end where those of the gates by places do
  pub ends : variables_end (graph_in_order inputs latches gates order ranks) ≡ 1 + inputs + length latches + length gates
  ends = omega (
    arith,
    length-map latches (moved_latch (1 + inputs + length latches) ranks),
    length-map order (λ g. moved_gate (1 + inputs + length latches) ranks (get_or gates g no_gate)),
    as_many,
  )

  ranks_end : 1 + inputs + length latches + length ranks ≡ 1 + inputs + length latches + length gates
  ranks_end = omega (arith, are.as_many, as_many)

  latch_below : (k : ℕ) (latch : Latch) → slice_get (map (moved_latch (1 + inputs + length latches) ranks) latches) k ≡ Some latch → variable latch.next < 1 + inputs + length latches + length gates
  latch_below k latch there =
      let short : k < length latches = omega (arith, slice_get_within (map (moved_latch (1 + inputs + length latches) ranks) latches) k latch there, length-map latches (moved_latch (1 + inputs + length latches) ranks)) in
      let old = get_or latches k latch in
      let is_moved : moved_latch (1 + inputs + length latches) ranks old ≡ latch
      = sym (get_or-map (moved_latch (1 + inputs + length latches) ranks) latches k latch latch short) ∙ get_or_from_slice_get (map (moved_latch (1 + inputs + length latches) ranks) latches) k latch latch there in
      let next : moved (1 + inputs + length latches) ranks old.next ≡ latch.next = ap (λ (l : Latch). l.next) is_moved in
      let here = moved_below (1 + inputs + length latches) ranks can_move old.next (subst (λ n. variable old.next < n) (sym ranks_end) (below k latch short)) in
      omega (arith, here, next, ranks_end)

  gate_below_all : (k : ℕ) (gate : Gate) → slice_get (gates_in_order (1 + inputs + length latches) ranks order gates) k ≡ Some gate → IsGateAt (1 + inputs + length latches + k) gate
  gate_below_all k gate there =
      let f = λ (g : ℕ). moved_gate (1 + inputs + length latches) ranks (get_or gates g no_gate) in
      let short : k < length order = omega (arith, slice_get_within (map f order) k gate there, length-map order f) in
      let is_moved : f (get_or order k 0) ≡ gate = sym (get_or-map f order k 0 gate short) ∙ get_or_from_slice_get (map f order) k gate gate there in
      subst (IsGateAt (1 + inputs + length latches + k)) is_moved (gate_at_place (1 + inputs + length latches) gates order ranks is are k (get_or order k 0) (slice_get-get_or order k 0 short))

  -- the graph in order is one
  pub graph_is : IsGraph (graph_in_order inputs latches gates order ranks)
  graph_is = record {
    small = omega (arith, ends, small);
    latches = λ k latch there. let here = latch_below k latch there in omega (arith, here, ends);
    gates = λ k gate there. subst (λ n. IsGateAt (n + k) gate) (ap (λ m. 1 + inputs + m) (sym (length-map latches (moved_latch (1 + inputs + length latches) ranks)))) (gate_below_all k gate there);
  }
