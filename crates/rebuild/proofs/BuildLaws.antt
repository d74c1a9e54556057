-- How a moved graph is built, latch by latch and gate by gate.
use Rattle.std.proofs.Common.{ℕ, ◌+◌, ◌<◌, ◌≤◌, ◌≡◌, List, [], ◌∷◌, ◌++◌, length, map, take, Bool, true, false, Some, None, slice_get, get_or, refl, arith, ap, sym, ◌∙◌, subst, add-one, filter, cond, Result, IfOk}
use Rattle.std.proofs.lemmas.Bool.{cond-true, cond-false, false_from_ne_true}
use Rattle.std.proofs.lemmas.Option.{none-some, slice_get_read, slice_get_within, cond_some}
use Rattle.std.proofs.lemmas.List.{map_push, map_more, append_assoc, take_all, append-nil}
use Rattle.std.proofs.lemmas.List.Elements.{filter_more}
use Rattle.aig_graph.proofs.FoldingLaws.{gate_at-first_gate}
use Rattle.aig_graph.proofs.KindLaws.{latch_at-before, latch_at-first_latch}
use Rattle.aig_graph.specs.Building.{gate_of}
use Rattle.aig_graph.specs.Graph.{Graph, IsGateAt, IsGraph, first_gate, first_latch, gate_at, latch_at, variable, variables_end}
use Rattle.aig_graph.specs.Move.{Move}
use Rattle.aig_graph.specs.declared.graph.Gate.{Gate}
use Rattle.aig_graph.specs.declared.graph.Latch.{Latch}
use Rattle.aig_graph.specs.declared.properties.Symbol.{Symbol}
use Rattle.aig_graph.specs.declared.properties.Symbols.{Symbols}
use Rattle.rebuild.proofs.BorderLaws.{latched-other, no-member-before, not_outside_before, not_outside_member, outside_where}
use Rattle.rebuild.specs.Members.{ArePassable}
use Rattle.rebuild.specs.Moved.{advanced_literal, copy_for, gate_between, gate_for, gates_below, is_latched, is_outside, latch_for, latch_from, latches_below, moved_graph, moved_literal, moved_name, moved_symbols, stays}
use Rattle.aig_graph.proofs.CountingLaws.{places-none}
use Rattle.aig_graph.proofs.PlacesLaws.{places-fail, places-pass}
use Rattle.aig_graph.specs.Counting.{places}
use Rattle.aig_graph.specs.Marking.{has}

push-place : {A : Type 0} (p : ℕ → Bool) (f : ℕ → A) (v : ℕ) (xs ys : List A) (x : A) → p v ≡ true → xs ≡ map f (places p v) → ys ≡ xs ++ x ∷ [] → x ≡ f v → ys ≡ map f (places p (v + 1))
push-place {A} p f v xs ys x passes listed pushed here =
    let longer : places p (v + 1) ≡ places p v ++ v ∷ [] = ap (places p) (add-one v) ∙ places-pass p v passes in
    pushed ∙ ap (λ (zs : List A). zs ++ x ∷ []) listed ∙ ap (λ (z : A). map f (places p v) ++ z ∷ []) here ∙ sym (map_push f (places p v) v) ∙ ap (map f) (sym longer)

skip-place : {A : Type 0} (p : ℕ → Bool) (f : ℕ → A) (v : ℕ) (xs : List A) → p v ≡ false → xs ≡ map f (places p v) → xs ≡ map f (places p (v + 1))
skip-place p f v xs fails listed =
    let same : places p (v + 1) ≡ places p v = ap (places p) (add-one v) ∙ places-fail p v fails in
    listed ∙ ap (map f) (sym same)

-- those places under another number
pub places-at : {A : Type 0} (p : ℕ → Bool) (f : ℕ → A) (n m : ℕ) (xs : List A) → n ≤ m → m ≤ n → xs ≡ map f (places p n) → xs ≡ map f (places p m)
places-at p f n m xs h k listed = let same : n ≡ m = omega arith in listed ∙ ap (λ (i : ℕ). map f (places p i)) same

-- what a loop over the latches or gates reads
pub latch-there : (g h : Graph) (items : List Latch) (k : ℕ) (x : Latch) → items ≡ h.latches → h ≡ g → k < length items → x ≡ get_or items k x → slice_get g.latches k ≡ Some x
latch-there g h items k x listed same within read =
    ap (λ (y : Graph). slice_get y.latches k) (sym same) ∙ ap (λ (xs : List Latch). slice_get xs k) (sym listed) ∙ slice_get_read items (length items) k x refl within read

-- a gate that a loop over the gates reads is the graph's at that place
pub gate-there : (g h : Graph) (items : List Gate) (k : ℕ) (x : Gate) → items ≡ h.gates → h ≡ g → k < length items → x ≡ get_or items k x → slice_get g.gates k ≡ Some x
gate-there g h items k x listed same within read =
    ap (λ (y : Graph). slice_get y.gates k) (sym same) ∙ ap (λ (xs : List Gate). slice_get xs k) (sym listed) ∙ slice_get_read items (length items) k x refl within read

-- a gate's fan-ins are in range
pub fan-ins_within : (g : Graph) → IsGraph g → (k : ℕ) (gate : Gate) → slice_get g.gates k ≡ Some gate → (variable gate.rhs0 < variables_end g) × (variable gate.rhs1 < variables_end g)
fan-ins_within g valid k gate there =
    let at : IsGateAt (first_gate g + k) gate = valid.gates k gate there in
    let within : k < length g.gates = slice_get_within g.gates k gate there in
    (omega arith, omega arith)

module _ (m : Move) where
  -- a latch that stays, reading its moved next literal, is the next latch of the moved graph
  pub staying-more : (k : ℕ) (latch : Latch) (xs ys : List Latch) (x : Latch) → slice_get m.circuit.aig.latches k ≡ Some latch → is_latched m (first_latch m.circuit.aig + k) ≡ true
      → xs ≡ latches_below m (first_latch m.circuit.aig + k) → ys ≡ xs ++ x ∷ [] → x ≡ record { next = moved_literal m latch.next; reset = latch.reset }
      → ys ≡ latches_below m (first_latch m.circuit.aig + (k + 1))
  staying-more k latch xs ys x there kept listed pushed made =
      let v : ℕ = first_latch m.circuit.aig + k in
      let here : latch_at m.circuit.aig v ≡ Some latch = latch_at-first_latch m.circuit.aig k ∙ there in
      places-at (is_latched m) (latch_for m) (v + 1) (first_latch m.circuit.aig + (k + 1)) ys (omega arith) (omega arith)
      (push-place (is_latched m) (latch_for m) v xs ys x kept listed pushed (made ∙ sym (ap (latch_from m v) here)))

  -- a latch that doesn't stay leaves the moved graph's latches as they are
  pub staying-skip : (k : ℕ) (xs : List Latch) → is_latched m (first_latch m.circuit.aig + k) ≡ false → xs ≡ latches_below m (first_latch m.circuit.aig + k)
      → xs ≡ latches_below m (first_latch m.circuit.aig + (k + 1))
  staying-skip k xs unkept listed =
      let v : ℕ = first_latch m.circuit.aig + k in
      places-at (is_latched m) (latch_for m) (v + 1) (first_latch m.circuit.aig + (k + 1)) xs (omega arith) (omega arith) (skip-place (is_latched m) (latch_for m) v xs unkept listed)

  -- before the first gate no gate is outside
  pub no-outside : gates_below m (first_gate m.circuit.aig) ≡ []
  no-outside = ap (map (gate_for m)) (places-none (is_outside m) (first_gate m.circuit.aig) (λ v h. not_outside_before m v h))

  -- a gate outside the set, reading its moved fan-ins, is the next gate of the moved graph
  pub outside-more : (k : ℕ) (gate : Gate) (xs ys : List Gate) (x : Gate) → slice_get m.circuit.aig.gates k ≡ Some gate → has m.set (first_gate m.circuit.aig + k) ≡ false
      → xs ≡ gates_below m (first_gate m.circuit.aig + k) → ys ≡ xs ++ x ∷ [] → x ≡ gate_of (moved_literal m gate.rhs0) (moved_literal m gate.rhs1)
      → ys ≡ gates_below m (first_gate m.circuit.aig + (k + 1))
  outside-more k gate xs ys x there other listed pushed made =
      let v : ℕ = first_gate m.circuit.aig + k in
      let here : gate_at m.circuit.aig v ≡ Some gate = gate_at-first_gate m.circuit.aig k ∙ there in
      places-at (is_outside m) (gate_for m) (v + 1) (first_gate m.circuit.aig + (k + 1)) ys (omega arith) (omega arith)
      (push-place (is_outside m) (gate_for m) v xs ys x (outside_where m v (omega arith) other) listed pushed (made ∙ sym (ap (gate_between (moved_literal m)) here)))

  -- a member leaves the gates outside as they are
  pub outside-skip : (k : ℕ) (xs : List Gate) → has m.set (first_gate m.circuit.aig + k) ≡ true → xs ≡ gates_below m (first_gate m.circuit.aig + k)
      → xs ≡ gates_below m (first_gate m.circuit.aig + (k + 1))
  outside-skip k xs member listed =
      let v : ℕ = first_gate m.circuit.aig + k in
      places-at (is_outside m) (gate_for m) (v + 1) (first_gate m.circuit.aig + (k + 1)) xs (omega arith) (omega arith)
      (skip-place (is_outside m) (gate_for m) v xs (not_outside_member m v member) listed)

  -- a member's copy, reading its advanced fan-ins, is the next of the copies
  pub copies-more : (i : ℕ) (gate : Gate) (base xs ys : List Gate) (x : Gate) → i < length m.set → gate_at m.circuit.aig (get_or m.set i 0) ≡ Some gate
      → xs ≡ base ++ map (copy_for m) (take i m.set) → ys ≡ xs ++ x ∷ [] → x ≡ gate_of (advanced_literal m gate.rhs0) (advanced_literal m gate.rhs1)
      → ys ≡ base ++ map (copy_for m) (take (i + 1) m.set)
  copies-more i gate base xs ys x h there listed pushed made =
      let here : x ≡ copy_for m (get_or m.set i 0) = made ∙ sym (ap (gate_between (advanced_literal m)) there) in
      pushed ∙ ap (λ (zs : List Gate). zs ++ x ∷ []) listed ∙ append_assoc base (map (copy_for m) (take i m.set)) (x ∷ [])
      ∙ ap (λ (z : Gate). base ++ (map (copy_for m) (take i m.set) ++ z ∷ [])) here
      ∙ ap (λ (zs : List Gate). base ++ zs) (sym (map_more (copy_for m) m.set i 0 h))

  -- past the last member all copies are made
  pub copies-all : (n : ℕ) (base xs : List Gate) → length m.set ≤ n → xs ≡ base ++ map (copy_for m) (take n m.set) → xs ≡ base ++ map (copy_for m) m.set
  copies-all n base xs h listed = listed ∙ ap (λ (vs : List ℕ). base ++ map (copy_for m) vs) (take_all n m.set h)

  -- the inputs, latches and gates that were made are the moved graph
  pub graph-is : (inputs : ℕ) (latches : List Latch) (gates : List Gate) → inputs ≡ m.circuit.aig.inputs → latches ≡ latches_below m (variables_end m.circuit.aig) → gates ≡ (moved_graph m).gates
      → record { inputs = inputs; latches = latches; gates = gates } ≡ moved_graph m
  unfolding moved_graph
  graph-is inputs latches gates e1 e2 e3 =
      let kept : List Latch = latches_below m (variables_end m.circuit.aig) in
      let by_inputs : ℕ → Graph = λ n. record { inputs = n; latches = latches; gates = gates } in
      let by_latches : List Latch → Graph = λ xs. record { inputs = m.circuit.aig.inputs; latches = xs; gates = gates } in
      let by_gates : List Gate → Graph = λ xs. record { inputs = m.circuit.aig.inputs; latches = kept; gates = xs } in
      ap by_inputs e1 ∙ ap by_latches e2 ∙ ap by_gates e3

-- before the first latch no latch of the moved graph is made
pub staying-none : (m : Move) → ArePassable m.circuit.aig m.held m.set → latches_below m (first_latch m.circuit.aig) ≡ []
staying-none m passable =
    ap (map (latch_for m)) (places-none (is_latched m) (first_latch m.circuit.aig) (λ v h. latched-other m v (latch_at-before m.circuit.aig v h) (no-member-before m passable v (omega arith))))

-- a copy with the names of the latches that stay
pub symbols-are : {E : Type 0} (m : Move) (old : Symbols) (latches : List Symbol) (r : Result Symbols E) → old ≡ m.circuit.symbols → latches ≡ map (moved_name m) (filter (stays m) old.latches)
    → IfOk r (λ copy. copy ≡ record old { latches = latches }) → IfOk r (λ copy. copy ≡ moved_symbols m)
unfolding moved_symbols
symbols-are m old latches r same listed made =
    subst (λ (s : Symbols). IfOk r (λ copy. copy ≡ record s { latches = map (moved_name m) (filter (stays m) s.latches) })) same
    (subst (λ (names : List Symbol). IfOk r (λ copy. copy ≡ record old { latches = names })) listed made)

-- one more name of a latch, which stays or not
pub name-stays : (m : Move) (names : List Symbol) (i : ℕ) (name : Symbol) (copies pushed : List Symbol) (copy : Symbol) (position : ℕ)
    → i < length names → name ≡ get_or names i name → copies ≡ map (moved_name m) (filter (stays m) (take i names))
    → cond (stays m name) (Some (moved_name m name).position) None ≡ Some position → copy ≡ record name { position = position } → pushed ≡ copies ++ copy ∷ []
    → pushed ≡ map (moved_name m) (filter (stays m) (take (i + 1) names))
name-stays m names i name copies pushed copy position within read listed answer made push =
    let parts = cond_some (stays m name) (moved_name m name).position position answer in
    let one : cond (stays m (get_or names i name)) (get_or names i name ∷ []) [] ≡ name ∷ [] =
    ap (λ (x : Symbol). cond (stays m x) (x ∷ []) []) (sym read) ∙ cond-true (stays m name) (name ∷ []) [] parts.0 in
    let more : filter (stays m) (take (i + 1) names) ≡ filter (stays m) (take i names) ++ name ∷ [] =
    filter_more (stays m) names i name within ∙ ap (λ (xs : List Symbol). filter (stays m) (take i names) ++ xs) one in
    let here : copy ≡ moved_name m name = made ∙ ap (λ (n : ℕ). symbol_at name n) (sym parts.1) in
    push ∙ ap (λ (xs : List Symbol). xs ++ copy ∷ []) listed ∙ ap (λ (x : Symbol). map (moved_name m) (filter (stays m) (take i names)) ++ x ∷ []) here
    ∙ sym (map_push (moved_name m) (filter (stays m) (take i names)) name) ∙ ap (map (moved_name m)) (sym more)
  where
    symbol_at : Symbol → ℕ → Symbol
    symbol_at x n = record x { position = n }

-- a name of a latch that doesn't stay leaves the copied names as they are
pub name-goes : (m : Move) (names : List Symbol) (i : ℕ) (name : Symbol) (copies : List Symbol)
    → i < length names → name ≡ get_or names i name → copies ≡ map (moved_name m) (filter (stays m) (take i names))
    → cond (stays m name) (Some (moved_name m name).position) None ≡ None
    → copies ≡ map (moved_name m) (filter (stays m) (take (i + 1) names))
name-goes m names i name copies within read listed answer =
    let gone : stays m name ≡ false = false_from_ne_true (stays m name) (λ passes. none-some (moved_name m name).position (sym answer ∙ cond-true (stays m name) (Some (moved_name m name).position) None passes)) in
    let one : cond (stays m (get_or names i name)) (get_or names i name ∷ []) [] ≡ [] =
    ap (λ (x : Symbol). cond (stays m x) (x ∷ []) []) (sym read) ∙ cond-false (stays m name) (name ∷ []) [] gone in
    let same : filter (stays m) (take (i + 1) names) ≡ filter (stays m) (take i names) =
    filter_more (stays m) names i name within ∙ ap (λ (xs : List Symbol). filter (stays m) (take i names) ++ xs) one ∙ append-nil (filter (stays m) (take i names)) in
    listed ∙ ap (map (moved_name m)) (sym same)
