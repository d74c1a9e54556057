-- The numbers of the nodes.
use Rattle.std.proofs.Common.{◌≡◌, ℕ, ◌+◌, ◌-◌, ◌*◌, ◌/◌, ◌%◌, ◌<◌, ◌≤◌, ◌==◌, nat_lt, Bool, true, ◌||◌, cond, List, length, get_or, Option, arith, ap, sym, ◌∙◌, inl, inr}
use Rattle.std.proofs.Math.Bool.{or-false}
use Rattle.std.proofs.lemmas.Bool.{cases_lt, cases_eq, cond-true, cond-false, lt-ltb, le-ltb, ne_eqb, eq-eqb}
use Rattle.std.proofs.lemmas.Option.{same_Some, slice_get-get_or}
use Rattle.aig_graph.proofs.PlacesLaws.{length-places, count-le, count-lt, at_rank, Ranks, rank_at}
use Rattle.aig_graph.specs.declared.graph.Latch.{Latch}
use Rattle.aig_graph.specs.Graph.{Graph, first_gate, variables_end, latch_at, is_known}
use Rattle.aig_graph.proofs.KindLaws.{latch_at-gates, element}
use Rattle.frame_net.specs.Passable.{is_passable}
use Rattle.frame_net.specs.FlowNet.{node_at}
use Rattle.frame_net.specs.FlowNet.Node.{before, after}
use Rattle.frame_net.specs.Capacity.{has_node, node_variables, latch_count, rank, latch_number, before_number, after_number, node_total}
use Rattle.frame_net.proofs.PassableLaws.{passable-before}

-- ---- a node by its number

past_ends : (n latches : ℕ) (variables : List ℕ) → 2 ≤ n → node_at latches variables n
    ≡ cond (nat_lt (n - 2) latches) (after (get_or variables (n - 2) 0))
    (cond ((n - 2 - latches) % 2 == 0) (before (get_or variables (latches + (n - 2 - latches) / 2) 0)) (after (get_or variables (latches + (n - 2 - latches) / 2) 0)))
past_ends n latches variables h = cond-false (n == 0) _ _ (ne_eqb n 0 (λ q. omega (arith, q, h))) ∙ cond-false (n == 1) _ _ (ne_eqb n 1 (λ q. omega (arith, q, h)))

-- the numbers from 2 on stand for the nodes after the latches, in order
pub node_at-latch : (latches : ℕ) (variables : List ℕ) (i : ℕ) → i < latches → node_at latches variables (2 + i) ≡ after (get_or variables i 0)
node_at-latch latches variables i h =
    let same : 2 + i - 2 ≡ i = omega arith in
    past_ends (2 + i) latches variables (omega arith) ∙ cond-true _ _ _ (lt-ltb (2 + i - 2) latches (omega (arith, h))) ∙ ap (λ (x : ℕ). after (get_or variables x 0)) same

-- after those of the latches, each even place stands for the node before a gate, in order
pub node_at-before : (latches : ℕ) (variables : List ℕ) (m : ℕ) → node_at latches variables (2 + latches + 2 * m) ≡ before (get_or variables (latches + m) 0)
node_at-before latches variables m =
    let even : (2 + latches + 2 * m - 2 - latches) % 2 ≡ 0 = omega arith in
    let half : latches + (2 + latches + 2 * m - 2 - latches) / 2 ≡ latches + m = omega arith in
    past_ends (2 + latches + 2 * m) latches variables (omega arith)
    ∙ cond-false _ _ _ (le-ltb (2 + latches + 2 * m - 2) latches (omega arith))
    ∙ cond-true _ _ _ (eq-eqb ((2 + latches + 2 * m - 2 - latches) % 2) 0 even)
    ∙ ap (λ (x : ℕ). before (get_or variables x 0)) half

-- after those of the latches, each odd place stands for the node after a gate, in order
pub node_at-after : (latches : ℕ) (variables : List ℕ) (m : ℕ) → node_at latches variables (3 + latches + 2 * m) ≡ after (get_or variables (latches + m) 0)
node_at-after latches variables m =
    let odd : (3 + latches + 2 * m - 2 - latches) % 2 ≡ 1 = omega arith in
    let half : latches + (3 + latches + 2 * m - 2 - latches) / 2 ≡ latches + m = omega arith in
    past_ends (3 + latches + 2 * m) latches variables (omega arith)
    ∙ cond-false _ _ _ (le-ltb (3 + latches + 2 * m - 2) latches (omega arith))
    ∙ cond-false _ _ _ (ne_eqb ((3 + latches + 2 * m - 2 - latches) % 2) 0 (λ q. omega (arith, q, odd)))
    ∙ ap (λ (x : ℕ). after (get_or variables x 0)) half

-- ---- which variables have nodes

-- a variable before the gates has a node if and only if it is a known latch
pub has_node-latch : (g : Graph) (held : List ℕ) (v : ℕ) → v < first_gate g → has_node g held v ≡ is_known (latch_at g v)
unfolding has_node
has_node-latch g held v h = ap (λ (b : Bool). is_known (latch_at g v) || b) (passable-before g held v h) ∙ or-false (is_known (latch_at g v))

-- a variable from the first gate on has nodes if and only if it is a passable gate
pub has_node-gate : (g : Graph) (held : List ℕ) (v : ℕ) → first_gate g ≤ v → has_node g held v ≡ is_passable g held v
unfolding has_node
has_node-gate g held v h = ap (λ (o : Option Latch). is_known o || is_passable g held v) (latch_at-gates g v h)

module _ (g : Graph) (held : List ℕ) where
  -- the known latches are among the variables with nodes
  pub latches-among : latch_count g held ≤ length (node_variables g held)
  latches-among = omega (arith, length-places (has_node g held) (variables_end g), count-le (has_node g held) (first_gate g) (variables_end g) (omega arith))

  -- the rank of a known latch is below the number of known latches
  pub rank-latch : (v : ℕ) → has_node g held v ≡ true → v < first_gate g → rank g held v < latch_count g held
  rank-latch v p h = count-lt (has_node g held) v (first_gate g) h p

  -- the rank of a gate is at least the number of known latches
  pub rank-gate : (v : ℕ) → first_gate g ≤ v → latch_count g held ≤ rank g held v
  rank-gate v h = count-le (has_node g held) (first_gate g) v h

  -- the rank of a variable with a node is below the number of such variables
  pub rank-below : (v : ℕ) → has_node g held v ≡ true → v < variables_end g → rank g held v < length (node_variables g held)
  rank-below v p h = omega (arith, length-places (has_node g held) (variables_end g), count-lt (has_node g held) v (variables_end g) h p)

  -- a variable with a node stands at its rank in the list of such variables
  pub variable-at : (v : ℕ) → has_node g held v ≡ true → v < variables_end g → get_or (node_variables g held) (rank g held v) 0 ≡ v
  variable-at v p h =
      same_Some _ _ (sym (slice_get-get_or (node_variables g held) (rank g held v) 0 (rank-below v p h)) ∙ at_rank (has_node g held) (variables_end g) v h p)

  -- the number of a known latch stands for the node after it
  pub at-latch : (v : ℕ) → has_node g held v ≡ true → v < first_gate g → node_at (latch_count g held) (node_variables g held) (latch_number g held v) ≡ after v
  at-latch v p h = node_at-latch (latch_count g held) (node_variables g held) (rank g held v) (rank-latch v p h) ∙ ap (λ (x : ℕ). after x) (variable-at v p (omega (arith, h)))

  -- the first number of a passable gate stands for the node before it
  pub at-before : (v : ℕ) → has_node g held v ≡ true → first_gate g ≤ v → v < variables_end g → node_at (latch_count g held) (node_variables g held) (before_number g held v) ≡ before v
  at-before v p from below =
      let place : latch_count g held + (rank g held v - latch_count g held) ≡ rank g held v = omega (arith, rank-gate v from) in
      node_at-before (latch_count g held) (node_variables g held) (rank g held v - latch_count g held)
      ∙ ap (λ (x : ℕ). before (get_or (node_variables g held) x 0)) place ∙ ap (λ (x : ℕ). before x) (variable-at v p below)

  -- the second number of a passable gate stands for the node after it
  pub at-after : (v : ℕ) → has_node g held v ≡ true → first_gate g ≤ v → v < variables_end g → node_at (latch_count g held) (node_variables g held) (after_number g held v) ≡ after v
  at-after v p from below =
      let place : latch_count g held + (rank g held v - latch_count g held) ≡ rank g held v = omega (arith, rank-gate v from) in
      node_at-after (latch_count g held) (node_variables g held) (rank g held v - latch_count g held)
      ∙ ap (λ (x : ℕ). after (get_or (node_variables g held) x 0)) place ∙ ap (λ (x : ℕ). after x) (variable-at v p below)

-- what a node's number is
pub data View (g : Graph) (held : List ℕ) (n : ℕ) : Type 0 where
  the_source : n ≡ 0 → View g held n
  the_sink : n ≡ 1 → View g held n
  a_latch : (v : ℕ) → has_node g held v ≡ true → v < first_gate g → n ≡ latch_number g held v → View g held n
  a_before : (v : ℕ) → has_node g held v ≡ true → first_gate g ≤ v → v < variables_end g → n ≡ before_number g held v → View g held n
  an_after : (v : ℕ) → has_node g held v ≡ true → first_gate g ≤ v → v < variables_end g → n ≡ after_number g held v → View g held n

ranked : (g : Graph) (held : List ℕ) (i : ℕ) → i < length (node_variables g held) → (v : ℕ) × Ranks (has_node g held) (variables_end g) i v
ranked g held i h = let e = element (node_variables g held) i h in (e.0, rank_at (has_node g held) (variables_end g) i e.0 e.1)

gate-side : (g : Graph) (held : List ℕ) (n : ℕ) → 2 ≤ n → latch_count g held ≤ n - 2 → n < node_total g held → View g held n
gate-side g held n two past below =
    let m : ℕ = (n - 2 - latch_count g held) / 2 in
    let u = ranked g held (latch_count g held + m) (omega (arith, below, latches-among g held)) in
    let from : first_gate g ≤ u.0 = elim (cases_lt u.0 (first_gate g)) [
      | inl lt ↦ absurd (omega (arith, rank-latch g held u.0 u.1.passes lt, u.1.rank))
      | inr ge ↦ ge
    ] in
    elim (cases_eq ((n - 2 - latch_count g held) % 2) 0) [
      | inl even ↦ a_before u.0 u.1.passes from u.1.below (omega (arith, even, u.1.rank, two, past))
      | inr odd ↦ an_after u.0 u.1.passes from u.1.below (omega (arith, odd, u.1.rank, two, past))
    ]

-- each number below that of the nodes is the source's, the sink's, a known latch's, or one of a
-- passable gate's two
pub view : (g : Graph) (held : List ℕ) (n : ℕ) → n < node_total g held → View g held n
view g held n below = elim (cases_eq n 0) [
  | inl zero' ↦ the_source zero'
  | inr not_zero ↦ elim (cases_eq n 1) [
    | inl one ↦ the_sink one
    | inr not_one ↦ elim (cases_lt (n - 2) (latch_count g held)) [
      | inl lt ↦
          let u = ranked g held (n - 2) (omega (arith, lt, latches-among g held)) in
          let before' : u.0 < first_gate g = elim (cases_lt u.0 (first_gate g)) [
            | inl low ↦ low
            | inr ge ↦ absurd (omega (arith, rank-gate g held u.0 ge, u.1.rank, lt))
          ] in
          a_latch u.0 u.1.passes before' (omega (arith, u.1.rank, not_zero, not_one))
      | inr ge ↦ gate-side g held n (omega (arith, not_zero, not_one)) ge below
    ]
  ]
]
