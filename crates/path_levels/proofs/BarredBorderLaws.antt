-- If no member of a set is barred, the set has its border in the circuit in which gates are barred.
use Rattle.std.proofs.Common.{ℕ, ◌+◌, ◌≡◌, ◌∙◌, ◌++◌, inl, inr, Bool, true, false, not, ◌&&◌, ◌||◌, List, [], ◌∷◌, map, Option, is_some, refl, sym, ap, ap₂, arith}
use Rattle.std.specs.List.{list_any, enumerate_from, flat_map}
use Rattle.std.proofs.Math.Bool.{or-false}
use Rattle.std.proofs.Common.{append-nil}
use Rattle.std.proofs.lemmas.Bool.{cases_eq, ne_eqb}
use Rattle.std.proofs.lemmas.List.Folds.{list_any-append}
use Rattle.aig_graph.specs.Counting.{count_below}
use Rattle.aig_graph.specs.Marking.{has}
use Rattle.aig_graph.proofs.CountingLaws.{count_below-same}
use Rattle.aig_graph.specs.declared.graph.Gate.{Gate}
use Rattle.aig_graph.specs.declared.graph.Latch.{Latch}
use Rattle.aig_graph.specs.Graph.{first_gate, variables_end, latch_at, is_known}
use Rattle.aig_graph.specs.Circuits.{Netlist, outputs_alone}
use Rattle.aig_graph.specs.Streams.{property_literals}
use Rattle.aig_graph.specs.Closed.{is_held}
use Rattle.aig_graph.specs.Move.{move_of}
use Rattle.aig_graph.specs.Border.{reads, is_fan_in, is_read_outside, is_read, in_border, border_size}
use Rattle.aig_graph.proofs.FoldingLaws.{gate_at-before}
use Rattle.aig_graph.proofs.KindLaws.{latch_at-before}
use Rattle.path_levels.specs.Bounded.{gate_left, reads_barred, gates_left, barred_reads, outputs_left, with_barred}
use Rattle.path_levels.proofs.BarringLaws.{variables-left, is_gate-left}

-- a gate that is barred isn't a member, and an output reads what it read
read-head : (barred inside : Bool) (v : ℕ) (gate : Gate) → (v ≡ 0 → ⊥) → (inside ≡ true → barred ≡ false)
    → ((not inside && is_fan_in v (gate_left barred gate)) || list_any (reads v) (reads_barred barred gate)) ≡ (not inside && is_fan_in v gate)
read-head false inside v gate other apart = or-false (not inside && is_fan_in v gate)
read-head true true v gate other apart = absurd (let never : true ≡ false = apart refl in cc)
read-head true false v gate other apart =
    let never : reads v 0 ≡ false = ne_eqb 0 v (λ same. other (sym same)) in
    ap (λ (b : Bool). (b || b) || (reads v gate.rhs0 || (reads v gate.rhs1 || false))) never ∙ ap (λ (b : Bool). reads v gate.rhs0 || b) (or-false (reads v gate.rhs1))

turned : (a b c d : Bool) → ((a || b) || (c || d)) ≡ ((a || c) || (b || d))
turned true b c d = refl
turned false true true d = refl
turned false true false d = refl
turned false false c d = refl

-- gate by gate
reads-left : (test inside : ℕ → Bool) (v : ℕ) → (v ≡ 0 → ⊥) → ((w : ℕ) → inside w ≡ true → test w ≡ false) → (first : ℕ) (gates : List Gate)
    → (list_any (λ (e : ℕ × Gate). not (inside e.0) && is_fan_in v e.1) (enumerate_from first (map (λ (e : ℕ × Gate). gate_left (test e.0) e.1) (enumerate_from first gates)))
    || list_any (reads v) (flat_map (λ (e : ℕ × Gate). reads_barred (test e.0) e.1) (enumerate_from first gates)))
    ≡ list_any (λ (e : ℕ × Gate). not (inside e.0) && is_fan_in v e.1) (enumerate_from first gates)
reads-left test inside v other apart first [] = refl
reads-left test inside v other apart first (x ∷ xs) =
    let gates_rest : Bool = list_any (λ (e : ℕ × Gate). not (inside e.0) && is_fan_in v e.1) (enumerate_from (first + 1) (map (λ (e : ℕ × Gate). gate_left (test e.0) e.1) (enumerate_from (first + 1) xs))) in
    let reads_rest : List ℕ = flat_map (λ (e : ℕ × Gate). reads_barred (test e.0) e.1) (enumerate_from (first + 1) xs) in
    let here : Bool = not (inside first) && is_fan_in v (gate_left (test first) x) in
    ap (λ (b : Bool). (here || gates_rest) || b) (list_any-append (reads v) (reads_barred (test first) x) reads_rest)
    ∙ turned here gates_rest (list_any (reads v) (reads_barred (test first) x)) (list_any (reads v) reads_rest)
    ∙ ap₂ (λ (a b : Bool). a || b) (read-head (test first) (inside first) v x other (apart first)) (reads-left test inside v other apart (first + 1) xs)

-- outputs are all that is read
alone : (lits : List ℕ) → property_literals (outputs_alone lits) ≡ lits
alone lits = append-nil (((lits ++ []) ++ []) ++ []) ∙ append-nil ((lits ++ []) ++ []) ∙ append-nil (lits ++ []) ∙ append-nil lits

parts : (gates latches props barred : Bool) → ((gates || latches) || (props || barred)) ≡ (((gates || barred) || latches) || props)
parts true latches props barred = refl
parts false true props true = refl
parts false true props false = refl
parts false false true true = refl
parts false false true false = refl
parts false false false true = refl
parts false false false false = refl

module _ (test : ℕ → Bool) (c : Netlist) (held s : List ℕ) (apart : (v : ℕ) → has s v ≡ true → test v ≡ false) where
  -- every variable but the constant is read from outside by its old readers
  read-left : (v : ℕ) → (v ≡ 0 → ⊥) → is_read (with_barred test c) s v ≡ is_read c s v
  unfolding is_read_outside
  read-left v other =
      let gates : Bool = list_any (λ (e : ℕ × Gate). not (has s e.0) && is_fan_in v e.1) (enumerate_from (first_gate c.aig) (gates_left test c.aig)) in
      let latches : Bool = list_any (λ (latch : Latch). reads v latch.next) c.aig.latches in
      ap (λ (lits : List ℕ). (gates || latches) || list_any (reads v) lits) (alone (outputs_left test c))
      ∙ ap (λ (b : Bool). (gates || latches) || b) (list_any-append (reads v) (property_literals c.props) (barred_reads test c.aig))
      ∙ parts gates latches (list_any (reads v) (property_literals c.props)) (list_any (reads v) (barred_reads test c.aig))
      ∙ ap (λ (b : Bool). (b || latches) || list_any (reads v) (property_literals c.props)) (reads-left test (has s) v other apart (first_gate c.aig) c.aig.gates)

  -- the constant is in no border
  constant-out : (d : Netlist) (v : ℕ) → v ≡ 0 → in_border (move_of d held s) v ≡ false
  unfolding in_border
  constant-out d v e =
      ap₂ (λ (latch : Option Latch) (gate : Option Gate). (is_known latch || (is_some gate && has s v)) && (is_held d.aig held v || is_read d s v))
      (latch_at-before d.aig v (omega arith)) (gate_at-before d.aig v (omega arith))

  in_border-left : (v : ℕ) → (v ≡ 0 → ⊥) → in_border (move_of (with_barred test c) held s) v ≡ in_border (move_of c held s) v
  unfolding in_border
  in_border-left v other =
      ap₂ (λ (gate read : Bool). (is_known (latch_at c.aig v) || (gate && has s v)) && (is_held c.aig held v || read)) (is_gate-left test c.aig v) (read-left v other)

  same-at : (v : ℕ) → in_border (move_of (with_barred test c) held s) v ≡ in_border (move_of c held s) v
  same-at v = elim (cases_eq v 0) [
    | inl constant ↦ constant-out (with_barred test c) v constant ∙ sym (constant-out c v constant)
    | inr other ↦ in_border-left v other
  ]

  -- the border is as large
  pub border-left : border_size (move_of (with_barred test c) held s) ≡ border_size (move_of c held s)
  unfolding border_size
  border-left =
      ap (λ (n : ℕ). count_below (in_border (move_of (with_barred test c) held s)) n) (variables-left test c.aig)
      ∙ count_below-same (in_border (move_of (with_barred test c) held s)) (in_border (move_of c held s)) (variables_end c.aig) (λ v h. same-at v)
