-- The numbers that a move gives each variable, as they are counted one by one.
use Rattle.std.proofs.Common.{ℕ, ◌+◌, ◌-◌, ◌*◌, ◌<◌, ◌≤◌, ◌≡◌, inl, inr, suc, zero, List, Bool, true, false, ◌&&◌, not, Option, Some, None, slice_get, get_or, length, refl, arith, ap, sym, ◌∙◌, cond}
use Rattle.std.proofs.lemmas.Bool.{cases_Bool, cond-false, cond-true, le-leb}
use Rattle.std.proofs.lemmas.Option.{slice_get_within}
use Rattle.aig_graph.proofs.KindLaws.{LatchPlace, latch_at-first_latch, latch_at-gates, latch_place}
use Rattle.aig_graph.specs.Graph.{first_gate, first_latch, latch_at, variables_end}
use Rattle.aig_graph.specs.Move.{Move}
use Rattle.aig_graph.specs.declared.graph.Latch.{Latch}
use Rattle.rebuild.proofs.BorderLaws.{no-member-before, not_outside_before}
use Rattle.rebuild.proofs.MemberLaws.{inside-member, member-place}
use Rattle.rebuild.proofs.PlanLaws.{all-latched, all-members, literal-leaf}
use Rattle.rebuild.specs.Entries.{by_variable}
use Rattle.rebuild.specs.Members.{ArePassable, is_latch_or_in}
use Rattle.rebuild.specs.Moved.{advanced, copy_variable, gates_start, is_latched, is_outside, moved_literal, new_variable, next_of}
use Rattle.aig_graph.proofs.CountingLaws.{count-none, count-split}
use Rattle.aig_graph.proofs.TableLaws.{numbered-first, numbered-next, numbered-other}
use Rattle.aig_graph.proofs.PlacesLaws.{one_at_most}
use Rattle.aig_graph.specs.Counting.{count_below}
use Rattle.aig_graph.specs.Marking.{has}

-- one variable further the count has grown by one if it passes
pub count-next : (p : ℕ → Bool) (first k : ℕ) (b : Bool) → p (first + k) ≡ b → count_below p (first + (k + 1)) ≡ count_below p (first + k) + cond {A = ℕ} b 1 0
unfolding count_below
count-next p first k b here =
    let next : first + (k + 1) ≡ suc (first + k) = omega arith in
    ap (count_below p) next ∙ ap (λ (x : Bool). count_below p (first + k) + cond {A = ℕ} x 1 0) here

-- a count at another, equal number
pub count-at : (p : ℕ → Bool) (n m : ℕ) → n ≤ m → m ≤ n → count_below p n ≡ count_below p m
count-at p n m h k = let same : n ≡ m = omega arith in ap (count_below p) same

-- the number of a variable is by its marks that of its latch, of its gate outside, or its own
pub new-number : (m : Move) (v latch gate own x : ℕ) (kept outer : Bool) → is_latched m v ≡ kept → is_outside m v ≡ outer
    → latch ≡ first_latch m.circuit.aig + count_below (is_latched m) v → (outer ≡ true → gate ≡ gates_start m + count_below (is_outside m) v) → own ≡ v
    → x ≡ cond kept latch (cond outer gate own) → x ≡ new_variable m v
unfolding new_variable
new-number m v latch gate own x kept outer is_kept is_outer latch_is gate_is own_is made =
    let f : ℕ = first_latch m.circuit.aig in
    let n : ℕ = gates_start m in
    elim (cases_Bool kept) [
      | inl good ↦ made ∙ cond-true kept latch (cond outer gate own) good ∙ latch_is ∙ sym (numbered-first (is_latched m) (is_outside m) f n v (is_kept ∙ good))
      | inr fails ↦ elim (cases_Bool outer) [
        | inl good ↦ made ∙ cond-false kept latch (cond outer gate own) fails ∙ cond-true outer gate own good ∙ gate_is good ∙ sym (numbered-next (is_latched m) (is_outside m) f n v (is_kept ∙ fails) (is_outer ∙ good))
        | inr other ↦ made ∙ cond-false kept latch (cond outer gate own) fails ∙ cond-false outer gate own other ∙ own_is ∙ sym (numbered-other (is_latched m) (is_outside m) f n v (is_kept ∙ fails) (is_outer ∙ other))
      ]
    ]

module _ (m : Move) (passable : ArePassable m.circuit.aig m.held m.set) where
  -- the mark of what has a latch after the move
  pub latched-mark : (marks : List Bool) (k : ℕ) → marks ≡ by_variable m.circuit.aig (is_latched m) → k < length marks → is_latched m (first_latch m.circuit.aig + k) ≡ get_or marks k false
  latched-mark marks k filled h = let all = all-latched m passable marks filled in sym (all.each k h)

  -- the mark of a member
  pub member-mark : (marks : List Bool) (k : ℕ) → marks ≡ by_variable m.circuit.aig (has m.set) → k < length marks → has m.set (first_latch m.circuit.aig + k) ≡ get_or marks k false
  member-mark marks k filled h = let all = all-members m passable marks filled in sym (all.each k h)

  -- a gate is outside if it isn't marked as a member
  pub outside-mark : (marks : List Bool) (k : ℕ) → marks ≡ by_variable m.circuit.aig (has m.set) → length m.circuit.aig.latches ≤ k → k < length marks
      → is_outside m (first_latch m.circuit.aig + k) ≡ not (get_or marks k false)
  unfolding is_outside
  outside-mark marks k filled from h =
      let v : ℕ = first_latch m.circuit.aig + k in
      ap (λ (b : Bool). b && not (has m.set v)) (le-leb (first_gate m.circuit.aig) v (omega arith)) ∙ ap not (member-mark marks k filled h)

  -- no gate outside comes before the first gate
  pub no-outside-before : (v : ℕ) → v ≤ first_gate m.circuit.aig → count_below (is_outside m) v ≡ 0
  no-outside-before v h = count-none (is_outside m) v (λ w l. not_outside_before m w (omega arith))

  -- of n gates no more are outside
  pub outside-few : (k : ℕ) → count_below (is_outside m) (first_gate m.circuit.aig + k) ≤ k
  outside-few zero = omega (arith, no-outside-before (first_gate m.circuit.aig + 0) (omega arith))
  outside-few (suc k) =
      omega (
        arith,
        outside-few k,
        count-at (is_outside m) (first_gate m.circuit.aig + suc k) (first_gate m.circuit.aig + (k + 1)) (omega arith) (omega arith),
        count-next (is_outside m) (first_gate m.circuit.aig) k (is_outside m (first_gate m.circuit.aig + k)) refl,
        one_at_most (is_outside m (first_gate m.circuit.aig + k)),
      )

  -- nothing has a latch before the first one
  pub none-latched-before : (marks : List Bool) → marks ≡ by_variable m.circuit.aig (is_latched m) → count_below (is_latched m) (first_latch m.circuit.aig + 0) ≡ 0
  none-latched-before marks filled = let all = all-latched m passable marks filled in count-none (is_latched m) (first_latch m.circuit.aig + 0) (λ w l. all.before w (omega arith))

  -- no member comes before the first gate
  pub no-members-before : (v : ℕ) → v ≤ first_gate m.circuit.aig → count_below (has m.set) v ≡ 0
  no-members-before v h = count-none (has m.set) v (λ w l. no-member-before m passable w (omega arith))

  -- the members and the gates outside are all gates
  pub count-both : count_below (has m.set) (variables_end m.circuit.aig) + count_below (is_outside m) (variables_end m.circuit.aig) ≡ length m.circuit.aig.gates
  unfolding is_outside
  count-both =
      let split : count_below (has m.set) (variables_end m.circuit.aig) + count_below (is_outside m) (variables_end m.circuit.aig) ≡ variables_end m.circuit.aig - first_gate m.circuit.aig =
      count-split (has m.set) (is_outside m) (first_gate m.circuit.aig) (variables_end m.circuit.aig) (omega arith)
      (λ v h. (no-member-before m passable v h, not_outside_before m v h))
      (λ v h. ap (λ (b : Bool). b && not (has m.set v)) (le-leb (first_gate m.circuit.aig) v h)) in
      omega arith

  -- a latch has one step later what it reads next
  pub advanced-latch : (k : ℕ) (latch : Latch) → slice_get m.circuit.aig.latches k ≡ Some latch → advanced m (first_latch m.circuit.aig + k) ≡ moved_literal m latch.next
  unfolding advanced
  advanced-latch k latch there =
      let v : ℕ = first_latch m.circuit.aig + k in
      let o : Option Latch = latch_at m.circuit.aig v in
      let within : k < length m.circuit.aig.latches = slice_get_within m.circuit.aig.latches k latch there in
      cond-false (has m.set v) (2 * copy_variable m v) (moved_literal m (next_of o)) (no-member-before m passable v (omega arith))
      ∙ ap (λ (x : Option Latch). moved_literal m (next_of x)) (latch_at-first_latch m.circuit.aig k ∙ there)

  -- advanced, by the latch's variable
  pub advanced-at_latch : (v : ℕ) (latch : Latch) → latch_at m.circuit.aig v ≡ Some latch → advanced m v ≡ moved_literal m latch.next
  advanced-at_latch v latch there =
      let place : LatchPlace m.circuit.aig v latch = latch_place m.circuit.aig v latch there in
      ap (advanced m) (omega (arith, place.from)) ∙ advanced-latch (v - first_latch m.circuit.aig) latch place.there

  -- a gate has one step later what its copy has, if it is a member
  pub advanced-gate : (v x : ℕ) (member : Bool) → first_gate m.circuit.aig ≤ v → has m.set v ≡ member → x ≡ cond member (2 * copy_variable m v) 0 → x ≡ advanced m v
  unfolding advanced
  advanced-gate v x member from here made =
      let none : moved_literal m (next_of (latch_at m.circuit.aig v)) ≡ 0 =
      ap (λ (o : Option Latch). moved_literal m (next_of o)) (latch_at-gates m.circuit.aig v from) ∙ literal-leaf m passable 0 (omega arith) in
      made ∙ ap (λ (n : ℕ). cond member (2 * copy_variable m v) n) (sym none)
      ∙ ap (λ (b : Bool). cond b (2 * copy_variable m v) (moved_literal m (next_of (latch_at m.circuit.aig v)))) (sym here)

  -- a latch or member isn't before the first latch
  pub from-latch : (v : ℕ) → is_latch_or_in m.circuit.aig m.set v ≡ true → first_latch m.circuit.aig ≤ v
  from-latch v inside = go (latch_at m.circuit.aig v) refl
    where
      go : (o : Option Latch) → latch_at m.circuit.aig v ≡ o → first_latch m.circuit.aig ≤ v
      go None e = let place = member-place m passable v (inside-member m.circuit.aig m.set v inside e) in omega (arith, place.0)
      go (Some latch) e = let place : LatchPlace m.circuit.aig v latch = latch_place m.circuit.aig v latch e in place.from

-- what a member has one step later is its copy
pub advanced-member : (m : Move) (v : ℕ) → has m.set v ≡ true → advanced m v ≡ 2 * copy_variable m v
unfolding advanced
advanced-member m v member = cond-true (has m.set v) (2 * copy_variable m v) (moved_literal m (next_of (latch_at m.circuit.aig v))) member
