-- The tables of a plan.
use Rattle.std.proofs.Common.{subst, ℕ, ◌+◌, ◌-◌, ◌<◌, ◌≤◌, ◌≡◌, inl, inr, List, [], ◌∷◌, ◌++◌, length, Bool, true, false, ◌&&◌, ◌||◌, replicate, arith, ap, sym, ◌∙◌, Option, Some, None, refl}
use Rattle.std.proofs.Math.Bool.{or_comm}
use Rattle.std.proofs.lemmas.Bool.{cases_Bool}
use Rattle.std.proofs.lemmas.List.{length-replicate}
use Rattle.aig_graph.proofs.KindLaws.{LatchPlace, latch_at-before, latch_place}
use Rattle.aig_graph.proofs.ReadingLaws.{is_read_outside-marks}
use Rattle.aig_graph.specs.Border.{in_border, is_gate_in, is_read, is_read_outside}
use Rattle.aig_graph.specs.Closed.{both, is_held}
use Rattle.aig_graph.specs.Graph.{Graph, IsGraph, first_latch, is_known, latch_at, latches_and_gates, variable, variables_end, is_free_latch}
use Rattle.aig_graph.specs.Move.{Move}
use Rattle.aig_graph.specs.declared.graph.Latch.{Latch}
use Rattle.aig_graph.specs.declared.literal.TheConstants.{MAX_VARIABLES}
use Rattle.aig_graph.specs.declared.properties.Props.{Props}
use Rattle.rebuild.proofs.BorderLaws.{gates-members, latched-other, new_variable-leaf, no-member-before, not_outside_before}
use Rattle.rebuild.proofs.MovedLaws.{copies_start-is, copy_variable-is, gates_start-is}
use Rattle.rebuild.specs.Entries.{by_variable, latched_by}
use Rattle.rebuild.specs.Members.{ArePassable}
use Rattle.rebuild.specs.Moved.{copies_start, copy_variable, gates_start, is_latched, is_outside, moved_literal, new_variable, next_of}
use Rattle.aig_graph.proofs.MarkingLaws.{AreAllMarks-table, AreMarks-from_none, Marks-then, mark_at-all, mark_at-covered}
use Rattle.aig_graph.proofs.PlacesLaws.{count-lt}
use Rattle.aig_graph.proofs.TableLaws.{entry, length-table, numbered-first, numbered-next, numbered-other, table-end, table-none, table-same, whole-table}
use Rattle.aig_graph.specs.Counting.{count_below, numbered}
use Rattle.aig_graph.specs.Marking.{AreAllMarks, Marks, has, mark_at}
use Rattle.aig_graph.specs.Tables.{table}

-- a table from the first latch on has an entry for each latch and gate
pub length-by_variable : {A : Type 0} (g : Graph) (f : ℕ → A) (xs : List A) → xs ≡ by_variable g f → first_latch g + length xs ≡ variables_end g
length-by_variable {A} g f xs filled = omega (arith, ap (λ (ys : List A). length ys) filled, length-table (first_latch g) (latches_and_gates g) f)

-- a table that is filled variable by variable
pub table-begin : {A : Type 0} (first v : ℕ) (f : ℕ → A) (xs : List A) → xs ≡ [] → v ≡ first → xs ≡ table first (v - first) f
table-begin {A} first v f xs empty same = let none : v - first ≡ 0 = omega arith in empty ∙ sym (table-none first f) ∙ ap (λ (n : ℕ). table first n f) (sym none)

-- a table that is filled variable by variable has one entry more
pub table-next : {A : Type 0} (first v : ℕ) (f : ℕ → A) (xs ys : List A) (x : A) → first ≤ v → xs ≡ table first (v - first) f → ys ≡ xs ++ x ∷ [] → x ≡ f v → ys ≡ table first (v + 1 - first) f
table-next {A} first v f xs ys x low filled pushed here =
    let place : first + (v - first) ≡ v = omega arith in
    let next : v - first + 1 ≡ v + 1 - first = omega arith in
    entry first (v - first) f xs ys x filled pushed (here ∙ ap f (sym place)) ∙ ap (λ (n : ℕ). table first n f) next

-- past the last variable the table is whole
pub table-whole : {A : Type 0} (g : Graph) (v : ℕ) (f : ℕ → A) (xs : List A) → v ≤ variables_end g → variables_end g ≤ v → xs ≡ table (first_latch g) (v - first_latch g) f → xs ≡ by_variable g f
table-whole g v f xs low high filled = table-end (first_latch g) (v - first_latch g) (latches_and_gates g) f xs (omega arith) (omega arith) filled

-- what a mark says of a test that passes no variable before the latches
pub marked-at : (g : Graph) (p : ℕ → Bool) (items marks : List Bool) (first v : ℕ) → marks ≡ items → items ≡ by_variable g p → first ≡ first_latch g
    → ((w : ℕ) → w < first_latch g → p w ≡ false) → v < variables_end g → mark_at first marks v ≡ p v
marked-at g p items marks first v same filled starts before within =
    ap (λ (n : ℕ). mark_at n marks v) starts
    ∙ mark_at-all (first_latch g) marks p v (AreAllMarks-table (first_latch g) (latches_and_gates g) marks p (same ∙ filled) before)
    (omega (arith, length-by_variable g p marks (same ∙ filled)))

module _ (m : Move) (passable : ArePassable m.circuit.aig m.held m.set) where
  -- no member stands before the first latch
  pub member-before : (v : ℕ) → v < first_latch m.circuit.aig → has m.set v ≡ false
  member-before v h = no-member-before m passable v (omega arith)

  -- nothing before the first latch has a latch after the move
  pub latched-before : (v : ℕ) → v < first_latch m.circuit.aig → is_latched m v ≡ false
  latched-before v h = latched-other m v (latch_at-before m.circuit.aig v h) (member-before v h)

  -- no gate outside the set stands before the first latch
  pub outside-before : (v : ℕ) → v < first_latch m.circuit.aig → is_outside m v ≡ false
  outside-before v h = not_outside_before m v (omega arith)

  -- a table of the members marks all of them
  pub all-members : (marks : List Bool) → marks ≡ by_variable m.circuit.aig (has m.set) → AreAllMarks (first_latch m.circuit.aig) marks (has m.set)
  all-members marks filled = AreAllMarks-table (first_latch m.circuit.aig) (latches_and_gates m.circuit.aig) marks (has m.set) filled member-before

  -- a table of what has a latch after the move marks all of it
  pub all-latched : (marks : List Bool) → marks ≡ by_variable m.circuit.aig (is_latched m) → AreAllMarks (first_latch m.circuit.aig) marks (is_latched m)
  all-latched marks filled = AreAllMarks-table (first_latch m.circuit.aig) (latches_and_gates m.circuit.aig) marks (is_latched m) filled latched-before

  -- a table of the gates outside the set marks all of them
  pub all-outside : (marks : List Bool) → marks ≡ by_variable m.circuit.aig (is_outside m) → AreAllMarks (first_latch m.circuit.aig) marks (is_outside m)
  all-outside marks filled = AreAllMarks-table (first_latch m.circuit.aig) (latches_and_gates m.circuit.aig) marks (is_outside m) filled outside-before

  -- a literal before the latches stays as it is
  pub literal-leaf : (lit : ℕ) → variable lit < first_latch m.circuit.aig → moved_literal m lit ≡ lit
  literal-leaf lit h = let same : new_variable m (variable lit) ≡ variable lit = new_variable-leaf m passable (variable lit) h in omega arith

module _ (m : Move) (room : copies_start m + count_below (has m.set) (variables_end m.circuit.aig) ≤ MAX_VARIABLES) where
  -- if the moved circuit is within the limit, so is each new variable
  pub variable-small : variables_end m.circuit.aig ≤ MAX_VARIABLES → (v : ℕ) → v < variables_end m.circuit.aig → new_variable m v < MAX_VARIABLES
  unfolding new_variable
  variable-small few v h = elim (cases_Bool (is_latched m v)) [
    | inl kept ↦ omega (arith, numbered-first (is_latched m) (is_outside m) (first_latch m.circuit.aig) (gates_start m) v kept, gates_start-is m, copies_start-is m, count-lt (is_latched m) v (variables_end m.circuit.aig) h kept)
    | inr other ↦ elim (cases_Bool (is_outside m v)) [
      | inl outer ↦ omega (arith, numbered-next (is_latched m) (is_outside m) (first_latch m.circuit.aig) (gates_start m) v other outer, copies_start-is m, count-lt (is_outside m) v (variables_end m.circuit.aig) h outer)
      | inr rest ↦ omega (arith, numbered-other (is_latched m) (is_outside m) (first_latch m.circuit.aig) (gates_start m) v other rest)
    ]
  ]

  -- if the moved circuit is within the limit, so is each copy's variable
  pub copy-small : (v : ℕ) → v < variables_end m.circuit.aig → has m.set v ≡ true → copy_variable m v < MAX_VARIABLES
  copy-small v h member = omega (arith, copy_variable-is m v, count-lt (has m.set) v (variables_end m.circuit.aig) h member)

-- the next literal of a latch is in range
pub next-in_range : (g : Graph) → IsGraph g → (v : ℕ) → variable (next_of (latch_at g v)) < variables_end g
next-in_range g valid v = go (latch_at g v) refl
  where
    go : (o : Option Latch) → latch_at g v ≡ o → variable (next_of o) < variables_end g
    go None e = omega arith
    go (Some latch) e = let place : LatchPlace g v latch = latch_place g v latch e in valid.latches _ latch place.there

-- the marks of the members
pub members-table : (g : Graph) (first n : ℕ) (s vars : List ℕ) (items : List Bool) → items ≡ table first n (has vars) → first ≡ first_latch g → n ≡ latches_and_gates g → vars ≡ s
    → items ≡ by_variable g (has s)
members-table g first n s vars items filled starts long same =
    filled ∙ ap (λ (k : ℕ). table k n (has vars)) starts ∙ ap (λ (k : ℕ). table (first_latch g) k (has vars)) long
    ∙ ap (λ (ws : List ℕ). table (first_latch g) (latches_and_gates g) (has ws)) same

-- what is marked as latched
latched-here : (m : Move) (inside old new latched : List Bool) → ArePassable m.circuit.aig m.held m.set → inside ≡ by_variable m.circuit.aig (has m.set)
    → old ≡ replicate (latches_and_gates m.circuit.aig) false
    → Marks (first_latch m.circuit.aig) old new (λ v. is_read_outside m.circuit.aig m.circuit.props (mark_at (first_latch m.circuit.aig) inside) v || is_held m.circuit.aig m.held v)
    → latched ≡ by_variable m.circuit.aig (latched_by m.circuit.aig inside new) → latched ≡ by_variable m.circuit.aig (is_latched m)
unfolding is_latched in_border
latched-here m inside old new latched passable members fresh both filled =
    let g : Graph = m.circuit.aig in
    let all = all-members m passable inside members in
    let long : first_latch g + length inside ≡ variables_end g = length-by_variable g (has m.set) inside members in
    let marked = AreMarks-from_none (first_latch g) (latches_and_gates g) old new (λ v. is_read_outside g m.circuit.props (mark_at (first_latch g) inside) v || is_held g m.held v) fresh both in
    let longer : length new ≡ latches_and_gates g = both.as_long ∙ ap (λ (xs : List Bool). length xs) fresh ∙ length-replicate (latches_and_gates g) false in
    filled
    ∙ table-same (first_latch g) (latches_and_gates g) (latched_by g inside new) (is_latched m) false (λ v low high.
    let member : mark_at (first_latch g) inside v ≡ has m.set v = mark_at-all (first_latch g) inside (has m.set) v all (omega arith) in
    let mark : mark_at (first_latch g) new v ≡ (is_read_outside g m.circuit.props (mark_at (first_latch g) inside) v || is_held g m.held v) =
    mark_at-covered (first_latch g) new (λ w. is_read_outside g m.circuit.props (mark_at (first_latch g) inside) w || is_held g m.held w) v marked low (omega arith) in
    let outside : is_read_outside g m.circuit.props (mark_at (first_latch g) inside) v ≡ is_read m.circuit m.set v =
    is_read_outside-marks g m.circuit.props inside (has m.set) (omega arith) all.each v in
    ap (λ (b : Bool). is_free_latch (latch_at g v) || ((is_known (latch_at g v) || b) && mark_at (first_latch g) new v)) (member ∙ sym (gates-members m passable v))
    ∙ ap (λ (b : Bool). is_free_latch (latch_at g v) || ((is_known (latch_at g v) || is_gate_in g m.set v) && b))
    (mark ∙ ap (λ (b : Bool). b || is_held g m.held v) outside ∙ or_comm (is_read m.circuit m.set v) (is_held g m.held v)))

-- that table, by the graph and the properties that were read of the circuit
pub latched-table : (m : Move) (g : Graph) (p : Props) (inside old new latched : List Bool) → g ≡ m.circuit.aig → p ≡ m.circuit.props → ArePassable m.circuit.aig m.held m.set
    → inside ≡ by_variable m.circuit.aig (has m.set) → old ≡ replicate (latches_and_gates g) false
    → Marks (first_latch g) old new (λ v. is_read_outside g p (mark_at (first_latch g) inside) v || is_held g m.held v)
    → latched ≡ by_variable g (latched_by g inside new) → latched ≡ by_variable m.circuit.aig (is_latched m)
latched-table m g p inside old new latched same_graph same_props passable members fresh both filled =
    let P : Graph → Type 0 = λ h.
    old ≡ replicate (latches_and_gates h) false → Marks (first_latch h) old new (λ v. is_read_outside h p (mark_at (first_latch h) inside) v || is_held h m.held v)
    → latched ≡ by_variable h (latched_by h inside new) → latched ≡ by_variable m.circuit.aig (is_latched m) in
    let Q : Props → Type 0 = λ q. Marks (first_latch m.circuit.aig) old new (λ v. is_read_outside m.circuit.aig q (mark_at (first_latch m.circuit.aig) inside) v || is_held m.circuit.aig m.held v) in
    subst P (sym same_graph) (λ fresh both filled. latched-here m inside old new latched passable members fresh (subst Q same_props both) filled) fresh both filled

-- the new variables, as they are counted
pub variables-table : (m : Move) (first count n : ℕ) (numbers : List ℕ) → numbers ≡ table first n (numbered (is_latched m) (is_outside m) first (first + count))
    → first ≡ first_latch m.circuit.aig → n ≡ latches_and_gates m.circuit.aig → count ≡ count_below (is_latched m) (variables_end m.circuit.aig)
    → numbers ≡ by_variable m.circuit.aig (new_variable m)
unfolding new_variable
variables-table m first count n numbers filled starts long counted =
    let start : first + count ≡ gates_start m = omega (arith, gates_start-is m) in
    filled
    ∙ ap (λ (k : ℕ). table first n (numbered (is_latched m) (is_outside m) first k)) start
    ∙ ap (λ (k : ℕ). table k n (numbered (is_latched m) (is_outside m) k (gates_start m))) starts
    ∙ ap (λ (k : ℕ). table (first_latch m.circuit.aig) k (numbered (is_latched m) (is_outside m) (first_latch m.circuit.aig) (gates_start m))) long

-- ranks among the members, counted from the copies' start, are the copies' variables
pub copies-table : (m : Move) (first start n : ℕ) (numbers : List ℕ) → numbers ≡ table first n (λ v. start + count_below (has m.set) v)
    → first ≡ first_latch m.circuit.aig → n ≡ latches_and_gates m.circuit.aig → start ≡ copies_start m → numbers ≡ by_variable m.circuit.aig (copy_variable m)
unfolding copy_variable
copies-table m first start n numbers filled starts long here =
    filled
    ∙ ap (λ (k : ℕ). table first n (λ v. k + count_below (has m.set) v)) here
    ∙ ap (λ (k : ℕ). table k n (λ v. copies_start m + count_below (has m.set) v)) starts
    ∙ ap (λ (k : ℕ). table (first_latch m.circuit.aig) k (λ v. copies_start m + count_below (has m.set) v)) long

-- a table as its entries are read
pub whole-by_variable : {A : Type 0} (g : Graph) (f : ℕ → A) (items xs : List A) (first : ℕ) → xs ≡ items → items ≡ by_variable g f → first ≡ first_latch g → xs ≡ table first (length xs) f
whole-by_variable {A} g f items xs first same filled starts =
    whole-table (first_latch g) (latches_and_gates g) f xs items same filled ∙ ap (λ (n : ℕ). table n (length xs) f) (sym starts)

-- what is counted of marks from the first latch on is counted of all variables
pub counted : (m : Move) (p : ℕ → Bool) (marks : List Bool) (count : ℕ) → marks ≡ by_variable m.circuit.aig p → count ≡ count_below p (first_latch m.circuit.aig + length marks)
    → count ≡ count_below p (variables_end m.circuit.aig)
counted m p marks count filled here = here ∙ ap (count_below p) (length-by_variable m.circuit.aig p marks filled)

-- what is marked by two calls in turn
pub marks_in_turn : (first : ℕ) (xs ys zs : List Bool) (p q : ℕ → Bool) → Marks first xs ys p → Marks first ys zs q → Marks first xs zs (λ v. p v || q v)
marks_in_turn first xs ys zs p q before after = Marks-then first xs ys zs p q before after
