-- What the list of a closed set's members says: the place and the value of each, and the latches of
-- the border.
use Rattle.std.proofs.Common.{ℕ, ◌+◌, ◌*◌, ◌<◌, ◌≤◌, ◌≡◌, inl, inr, suc, zero, List, [], ◌∷◌, ◌++◌, length, map, filter, take, Bool, true, false, ◌||◌, Option, None, is_some, get_or, refl, arith, ap, sym, ◌∙◌, subst}
use Rattle.std.specs.List.Sorted.{IsStrictlyIncreasing}
use Rattle.std.proofs.lemmas.Bool.{cases_eq, cases_Bool, cond-true, cond-false, and_from, or_left, or_right}
use Rattle.std.proofs.lemmas.List.{append-nil, append_assoc, get_or_default, map-append, map_push, take_all}
use Rattle.std.proofs.lemmas.List.Elements.{filter-append, filter_more}
use Rattle.aig_graph.proofs.KindLaws.{GatePlace, gate_place, latch_at-gates}
use Rattle.aig_graph.proofs.SearchLaws.{has_iff_contains}
use Rattle.aig_graph.specs.Closed.{IsClosed, IsLatchOrIn}
use Rattle.aig_graph.specs.Graph.{Graph, first_gate, latch_at, variable, variables_end}
use Rattle.aig_graph.specs.Move.{Move}
use Rattle.aig_graph.specs.Value.{reset_to}
use Rattle.aig_graph.specs.declared.graph.Latch.{Latch}
use Rattle.aig_graph.specs.declared.graph.Reset.{Reset}
use Rattle.rebuild.proofs.BorderLaws.{border-member, member-gate, no-member-before}
use Rattle.rebuild.specs.Members.{AreFanInsIn, ArePassable, is_latch_or_in}
use Rattle.rebuild.specs.Moved.{copy_variable, is_latched, latch_for, latch_from, latches_below}
use Rattle.rebuild.specs.Starting.{start_value}
use Rattle.aig_graph.proofs.CountingLaws.{places-none}
use Rattle.aig_graph.proofs.MemberLaws.{places-members}
use Rattle.aig_graph.proofs.PlacesLaws.{places-fail, places-pass}
use Rattle.aig_graph.specs.Counting.{places}
use Rattle.aig_graph.specs.Marking.{has}

-- the fan-ins of a closed set's members
pub closed-fan_ins : (g : Graph) (held s : List ℕ) → IsClosed g held s → AreFanInsIn g s
closed-fan_ins g held s closed = λ v gate member there.
    let sources = closed.fan_ins v gate ((has_iff_contains s v).0 member) there in
    and_from (is_latch_or_in g s (variable gate.rhs0)) (is_latch_or_in g s (variable gate.rhs1)) (inside (variable gate.rhs0) sources.0) (inside (variable gate.rhs1) sources.1)
  where
    inside : (w : ℕ) → IsLatchOrIn g s w → is_latch_or_in g s w ≡ true
    inside w (inl latch) = or_left (is_some (latch_at g w)) (has s w) (ap is_some latch.1)
    inside w (inr member) = or_right (is_some (latch_at g w)) (has s w) ((has_iff_contains s w).1 member)

-- what is no latch is a member
pub inside-member : (g : Graph) (s : List ℕ) (v : ℕ) → is_latch_or_in g s v ≡ true → latch_at g v ≡ None → has s v ≡ true
inside-member g s v inside none = sym (ap (λ (o : Option Latch). is_some o || has s v) none) ∙ inside

-- an element of the list of members, as a loop reads it
pub member-at : (s vars : List ℕ) (i : ℕ) → vars ≡ s → i < length vars → has s (get_or vars i 0) ≡ true
member-at s vars i same within =
    let v : ℕ = get_or vars i 0 in
    ap (λ (ws : List ℕ). has ws v) (sym same) ∙ (has_iff_contains vars v).1 (i, within, get_or_default vars i v 0 within)

-- the numbers that pass p, if none below a passes q, and each from a on that passes p passes q
split-none : (p q : ℕ → Bool) (a n : ℕ) → ((v : ℕ) → v < a → q v ≡ false) → a ≡ n → places p n ≡ places p a ++ filter p (places q n)
split-none p q a n none same =
    let empty : places q n ≡ [] = places-none q n (λ v less. none v (omega arith)) in
    ap (places p) (sym same) ∙ sym (append-nil (places p a)) ∙ ap (λ (xs : List ℕ). places p a ++ filter p xs) (sym empty)

places-split : (p q : ℕ → Bool) (a n : ℕ) → ((v : ℕ) → v < a → q v ≡ false) → ((v : ℕ) → a ≤ v → p v ≡ true → q v ≡ true) → a ≤ n → places p n ≡ places p a ++ filter p (places q n)
places-split p q a zero none within h = split-none p q a zero none (omega arith)
places-split p q a (suc n) none within h = elim (cases_eq a (suc n)) [
  | inl same ↦ split-none p q a (suc n) none same
  | inr other ↦ (
      let before : places p n ≡ places p a ++ filter p (places q n) = places-split p q a n none within (omega arith) in
      elim (cases_Bool (p n)) [
        | inl pass ↦ (
            let one : filter p (n ∷ []) ≡ n ∷ [] = cond-true (p n) (n ∷ []) [] pass in
            let longer : filter p (places q (suc n)) ≡ filter p (places q n) ++ n ∷ [] =
            ap (filter p) (places-pass q n (within n (omega arith) pass)) ∙ filter-append p (places q n) (n ∷ []) ∙ ap (λ (xs : List ℕ). filter p (places q n) ++ xs) one in
            places-pass p n pass ∙ ap (λ (xs : List ℕ). xs ++ n ∷ []) before ∙ append_assoc (places p a) (filter p (places q n)) (n ∷ []) ∙ ap (λ (xs : List ℕ). places p a ++ xs) (sym longer))
        | inr fails ↦ (
            let none_more : filter p (n ∷ []) ≡ [] = cond-false (p n) (n ∷ []) [] fails in
            let same : filter p (places q (suc n)) ≡ filter p (places q n) = elim (cases_Bool (q n)) [
              | inl member ↦ ap (filter p) (places-pass q n member) ∙ filter-append p (places q n) (n ∷ []) ∙ ap (λ (xs : List ℕ). filter p (places q n) ++ xs) none_more ∙ append-nil (filter p (places q n))
              | inr outer ↦ ap (filter p) (places-fail q n outer)
            ] in
            places-fail p n fails ∙ before ∙ ap (λ (xs : List ℕ). places p a ++ xs) (sym same))
      ])
]

module _ (m : Move) (passable : ArePassable m.circuit.aig m.held m.set) where
  -- a member is a variable among the gates
  pub member-place : (v : ℕ) → has m.set v ≡ true → (first_gate m.circuit.aig ≤ v) × (v < variables_end m.circuit.aig)
  member-place v member =
      let there = member-gate m passable v member in
      let place : GatePlace m.circuit.aig v there.0 = gate_place m.circuit.aig v there.0 there.1 in
      (place.from, place.below)

  -- the set is the list of the places of its members
  pub members : IsStrictlyIncreasing m.set → places (has m.set) (variables_end m.circuit.aig) ≡ m.set
  members rising = places-members m.set (variables_end m.circuit.aig) rising (λ k d h. (member-place (get_or m.set k d) ((has_iff_contains m.set (get_or m.set k d)).1 (k, h, get_or_default m.set k (get_or m.set k d) d h))).1)

  -- the latches of the border, after those that stay
  latches-split : IsStrictlyIncreasing m.set
      → latches_below m (variables_end m.circuit.aig) ≡ latches_below m (first_gate m.circuit.aig) ++ map (latch_for m) (filter (is_latched m) m.set)
  latches-split rising =
      let split : places (is_latched m) (variables_end m.circuit.aig) ≡ places (is_latched m) (first_gate m.circuit.aig) ++ filter (is_latched m) (places (has m.set) (variables_end m.circuit.aig)) =
      places-split (is_latched m) (has m.set) (first_gate m.circuit.aig) (variables_end m.circuit.aig) (no-member-before m passable) (border-member m) (omega arith) in
      ap (map (latch_for m)) (split ∙ ap (λ (xs : List ℕ). places (is_latched m) (first_gate m.circuit.aig) ++ filter (is_latched m) xs) (members rising))
      ∙ map-append (latch_for m) (places (is_latched m) (first_gate m.circuit.aig)) (filter (is_latched m) m.set)

  -- past the last member, the latches that stay and those of the border are the moved graph's
  pub border-all : (vars : List ℕ) (i : ℕ) (xs : List Latch) → vars ≡ m.set → IsStrictlyIncreasing vars → length vars ≤ i
      → xs ≡ latches_below m (first_gate m.circuit.aig) ++ map (latch_for m) (filter (is_latched m) (take i m.set)) → xs ≡ latches_below m (variables_end m.circuit.aig)
  border-all vars i xs same rising end listed =
      listed
      ∙ ap (λ (ws : List ℕ). latches_below m (first_gate m.circuit.aig) ++ map (latch_for m) (filter (is_latched m) ws)) (take_all i m.set (subst (λ (ws : List ℕ). length ws ≤ i) same end))
      ∙ sym (latches-split (subst IsStrictlyIncreasing same rising))

  -- one more latch of the border, or a member that has none
  pub border-more : (base : List Latch) (vars : List ℕ) (i : ℕ) (reset : Reset) (xs ys : List Latch) (x : Latch) → vars ≡ m.set → i < length vars → is_latched m (get_or vars i 0) ≡ true
      → reset ≡ reset_to (start_value m.circuit.aig (get_or m.set i 0)) → xs ≡ base ++ map (latch_for m) (filter (is_latched m) (take i m.set)) → ys ≡ xs ++ x ∷ []
      → x ≡ record { next = 2 * copy_variable m (get_or vars i 0); reset = reset } → ys ≡ base ++ map (latch_for m) (filter (is_latched m) (take (i + 1) m.set))
  border-more base vars i reset xs ys x same within latched start listed pushed made =
      let v : ℕ = get_or m.set i 0 in
      let here : get_or vars i 0 ≡ v = ap (λ (ws : List ℕ). get_or ws i 0) same in
      let inside : i < length m.set = subst (λ (ws : List ℕ). i < length ws) same within in
      let at : ℕ → Latch = λ w. record { next = 2 * copy_variable m w; reset = reset } in
      let from : Reset → Latch = λ r. record { next = 2 * copy_variable m v; reset = r } in
      let gate : latch_at m.circuit.aig v ≡ None = latch_at-gates m.circuit.aig v (member-place v (member-at m.set m.set i refl inside)).0 in
      let latch : x ≡ latch_for m v = made ∙ ap at here ∙ ap from start ∙ sym (ap (latch_from m v) gate) in
      let front : List ℕ = filter (is_latched m) (take i m.set) in
      let longer : filter (is_latched m) (take (i + 1) m.set) ≡ front ++ v ∷ [] =
      filter_more (is_latched m) m.set i 0 inside ∙ ap (λ (ws : List ℕ). front ++ ws) (cond-true (is_latched m v) (v ∷ []) [] (ap (is_latched m) (sym here) ∙ latched)) in
      pushed ∙ ap (λ (zs : List Latch). zs ++ x ∷ []) listed ∙ append_assoc base (map (latch_for m) front) (x ∷ []) ∙ ap (λ (z : Latch). base ++ (map (latch_for m) front ++ z ∷ [])) latch
      ∙ ap (λ (zs : List Latch). base ++ zs) (sym (map_push (latch_for m) front v) ∙ ap (map (latch_for m)) (sym longer))

  -- a member that has no latch leaves the latches as they are
  pub border-skip : (base : List Latch) (vars : List ℕ) (i : ℕ) (xs : List Latch) → vars ≡ m.set → i < length vars → is_latched m (get_or vars i 0) ≡ false
      → xs ≡ base ++ map (latch_for m) (filter (is_latched m) (take i m.set)) → xs ≡ base ++ map (latch_for m) (filter (is_latched m) (take (i + 1) m.set))
  border-skip base vars i xs same within other listed =
      let v : ℕ = get_or m.set i 0 in
      let here : get_or vars i 0 ≡ v = ap (λ (ws : List ℕ). get_or ws i 0) same in
      let inside : i < length m.set = subst (λ (ws : List ℕ). i < length ws) same within in
      let front : List ℕ = filter (is_latched m) (take i m.set) in
      let none : filter (is_latched m) (take (i + 1) m.set) ≡ front =
      filter_more (is_latched m) m.set i 0 inside ∙ ap (λ (ws : List ℕ). front ++ ws) (cond-false (is_latched m v) (v ∷ []) [] (ap (is_latched m) (sym here) ∙ other)) ∙ append-nil front in
      listed ∙ ap (λ (ws : List ℕ). base ++ map (latch_for m) ws) (sym none)
