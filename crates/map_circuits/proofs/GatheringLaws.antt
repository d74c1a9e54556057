-- Entries that move to the front of a table, one after the other.
use Rattle.std.proofs.Common.{inl, inr, ℕ, ◌+◌, ◌-◌, ◌<◌, ◌≤◌, ◌≡◌, suc, zero, Bool, true, false, not, Some, List, [], ◌∷◌, ◌++◌, length, map, take, drop, get_or, slice_get, refl, arith, ap, sym, ◌∙◌, subst}
use Rattle.std.proofs.Common.{set as put}
use Rattle.std.proofs.Math.Bool.{beq}
use Rattle.std.proofs.Math.ListN.{get_or-append}
use Rattle.std.specs.List.{Contains, CopiedTo, SameBelow, SameFrom}
use Rattle.std.proofs.lemmas.Bool.{cases_eq, cases_lt, false_from_ne_true, true≢false}
use Rattle.std.proofs.lemmas.List.{ext_get_or, get_or-drop, get_or-map, get_or-set_other, get_or-set_same, get_or-take, get_or_past, get_or_push, get_or_read, get_or_default, length-append, length-drop, length-map, length-set, length-take-le, length_push, take-append-le, take-take, take_all}
use Rattle.std.proofs.lemmas.List.Kept.{AllPairs-from_increasing}
use Rattle.std.proofs.lemmas.Option.{get_or_from_slice_get}
use Rattle.aig_graph.specs.Closed.{IsClosedSet}
use Rattle.aig_graph.specs.Graph.{first_gate, first_latch, variables_end}
use Rattle.aig_graph.specs.Move.{Move}
use Rattle.aig_graph.proofs.KindLaws.{GatePlace, gate_place}
use Rattle.aig_graph.proofs.SearchLaws.{has_iff_contains}
use Rattle.rebuild.proofs.BorderLaws.{border-member}
use Rattle.rebuild.specs.Moved.{is_latched}
use Rattle.aig_graph.proofs.CountingLaws.{places-none}
use Rattle.aig_graph.proofs.PlacesLaws.{at_rank, count-pass, length-places, places-fail, places-pass, take-places}
use Rattle.aig_graph.specs.Counting.{count_below, places}
use Rattle.map_circuits.specs.Following.{entry_of}
use Rattle.map_circuits.specs.Gathering.{IsGathered}
use Rattle.map_circuits.proofs.FollowingLaws.{none-before, none-between}

-- what is cut from a table whose first entries were lent, and came back as xs, is cut from xs
pub front-cut : (kept long : ℕ) (xs rest back items : List ℕ) → back ≡ xs ++ rest → kept ≤ length xs → kept ≤ long → take kept (take long (back ++ drop (length back) items)) ≡ take kept xs
front-cut kept long xs rest back items is inside within =
    take-take kept long (back ++ drop (length back) items) within
    ∙ ap (λ (ys : List ℕ). take kept (ys ++ drop (length back) items)) is
    ∙ take-append-le kept (xs ++ rest) (drop (length back) items) (omega (arith, inside, length-append xs rest))
    ∙ take-append-le kept xs rest inside

-- if a table becomes longer, and its first entries are lent, it begins with what it began with
pub front-read : (old new entries : List ℕ) (few long : ℕ) → few ≤ length old → few ≤ long → entries ≡ new → take (length old) new ≡ old
    → (j : ℕ) → j < length (take few old) → get_or (take long entries) j 0 ≡ get_or (take few old) j 0
front-read old new entries few long within more is same j less =
    let inside : j < few = omega (arith, less, length-take-le few old within) in
    get_or-take long entries j 0 (omega (arith, inside, more))
    ∙ ap (λ (xs : List ℕ). get_or xs j 0) is
    ∙ sym (get_or-take (length old) new j 0 (omega (arith, inside, within)))
    ∙ ap (λ (xs : List ℕ). get_or xs j 0) same
    ∙ sym (get_or-take few old j 0 inside)

-- a mark that isn't the other one is this one
this-mark : (b x : Bool) → beq x (not b) ≡ false → x ≡ b
this-mark true true e = refl
this-mark true false e = absurd (true≢false e)
this-mark false true e = absurd (true≢false e)
this-mark false false e = refl

-- what no mark of a block is, none of the marks from one place up to the other is
in-block : (marks : List Bool) (from to : ℕ) (b : Bool) → from ≤ to → to ≤ length marks
    → ((k : ℕ) (d : Bool) → 0 ≤ k → k < length (take (to - from) (drop from marks)) → beq (get_or (take (to - from) (drop from marks)) k d) b ≡ false)
    → (k : ℕ) → from ≤ k → k < to → beq (get_or marks k false) b ≡ false
in-block marks from to b ordered within none k low less =
    let block : List Bool = take (to - from) (drop from marks) in
    let back : from + (k - from) ≡ k = omega (arith, low) in
    let at : get_or block (k - from) false ≡ get_or marks k false =
    get_or-take (to - from) (drop from marks) (k - from) false (omega (arith, low, less)) ∙ get_or-drop from marks (k - from) false ∙ ap (λ (q : ℕ). get_or marks q false) back in
    let rest : to - from ≤ length (drop from marks) = omega (arith, length-drop from marks, within, ordered) in
    ap (λ (x : Bool). beq x b) (sym at) ∙ none (k - from) false (omega arith) (omega (arith, low, less, length-take-le (to - from) (drop from marks) rest))

-- in a block without the other mark all are this one
pub block-all : (b : Bool) (marks : List Bool) (from to : ℕ) → from ≤ to → to ≤ length marks
    → ((k : ℕ) (d : Bool) → 0 ≤ k → k < length (take (to - from) (drop from marks)) → beq (get_or (take (to - from) (drop from marks)) k d) (not b) ≡ false)
    → (k : ℕ) → from ≤ k → k < to → get_or marks k false ≡ b
block-all b marks from to ordered within none k low less = this-mark b (get_or marks k false) (in-block marks from to (not b) ordered within none k low less)

module _ (first : ℕ) (p : ℕ → Bool) (old : List ℕ) where
  -- those of a table whose first entries were lent
  pub gathered-back : (n count long kept : ℕ) (start xs rest back items : List ℕ) → start ≡ old → back ≡ xs ++ rest → length start ≡ count → count ≤ long
      → IsGathered first p n start xs kept → IsGathered first p n old (take count (take long (back ++ drop (length back) items))) kept
  gathered-back n count long kept start xs rest back items same is many within g =
      let P : List ℕ → Type 0 = λ ys. IsGathered first p n old ys kept in
      let Q : List ℕ → Type 0 = λ ys. IsGathered first p n ys xs kept in
      let sized : length xs ≡ count = g.long ∙ many in
      subst P (sym (front-cut count long xs rest back items is (omega (arith, sized)) within ∙ take_all count xs (omega (arith, sized)))) (subst Q same g)

  -- before the first entry nothing has moved
  pub gathered-none : (n : ℕ) → ((v : ℕ) → v < n → p v ≡ false) → IsGathered first p n old old 0
  gathered-none n none = record {
    long = refl;
    few = omega arith;
    many = sym (ap (λ (vs : List ℕ). length vs) (places-none p n none));
    front = λ i less. absurd (omega arith);
    rest = λ j from. refl;
  }

  -- an entry that moves
  pub gathered-kept : (n place kept after : ℕ) (xs ys : List ℕ) (x : ℕ) → IsGathered first p n old xs kept → n ≡ first + place → place < length xs → p n ≡ true
      → x ≡ get_or xs place x → ys ≡ put xs kept x → after ≡ kept + 1 → IsGathered first p (n + 1) old ys after
  gathered-kept n place kept after xs ys x g at inside pass read moved one =
      let P : List ℕ → Type 0 = λ zs. IsGathered first p (n + 1) old zs (kept + 1) in
      let Q : ℕ → Type 0 = λ k. IsGathered first p (n + 1) old ys k in
      subst Q (sym one) (subst P (sym moved) (record {
        long = length-set xs kept x ∙ g.long;
        few = omega (arith, g.few, at);
        many = sym (ap (λ (vs : List ℕ). length vs) more ∙ length_push (places p n) n ∙ ap (λ (k : ℕ). k + 1) (sym g.many));
        front = front-more;
        rest = λ j after. get_or-set_other xs kept j x 0 (λ e. omega (arith, e, g.few, after, at)) ∙ g.rest j (omega (arith, after));
      }))
    where
      more : places p (n + 1) ≡ places p n ++ n ∷ []
      more = ap (places p) (omega arith) ∙ places-pass p n pass

      value : x ≡ entry_of first old n
      value = get_or_read xs place x inside read 0 ∙ ap (λ (k : ℕ). get_or xs k 0) (omega (arith, at)) ∙ g.rest (n - first) (omega arith)

      front-more : (i : ℕ) → i < kept + 1 → get_or (put xs kept x) i 0 ≡ entry_of first old (get_or (places p (n + 1)) i 0)
      front-more i less = elim (cases_eq i kept) [
        | inl same ↦ (
            let here : get_or (put xs kept x) kept 0 ≡ x = get_or-set_same xs kept x 0 (omega (arith, g.few, at, inside)) in
            let last : get_or (places p (n + 1)) kept 0 ≡ n = ap (λ (vs : List ℕ). get_or vs kept 0) more ∙ get_or_push (places p n) n 0 kept (sym g.many) in
            let Q : ℕ → Type 0 = λ k. get_or (put xs kept x) k 0 ≡ entry_of first old (get_or (places p (n + 1)) k 0) in
            subst Q (sym same) (here ∙ value ∙ sym (ap (entry_of first old) last)))
        | inr other ↦ (
            let before : i < kept = omega (arith, less, other) in
            let there : get_or (places p (n + 1)) i 0 ≡ get_or (places p n) i 0 = ap (λ (vs : List ℕ). get_or vs i 0) more ∙ get_or-append (places p n) (n ∷ []) 0 i (omega (arith, before, g.many)) in
            get_or-set_other xs kept i x 0 other ∙ g.front i before ∙ sym (ap (entry_of first old) there))
      ]

  -- one that stays behind
  pub gathered-left : (n kept : ℕ) (xs : List ℕ) → IsGathered first p n old xs kept → p n ≡ false → IsGathered first p (n + 1) old xs kept
  gathered-left n kept xs g fails = record {
    long = g.long;
    few = omega (arith, g.few);
    many = g.many ∙ sym (ap (λ (vs : List ℕ). length vs) same);
    front = λ i less. g.front i less ∙ sym (ap (λ (vs : List ℕ). entry_of first old (get_or vs i 0)) same);
    rest = λ j from. g.rest j (omega (arith, from));
  }
    where
      same : places p (n + 1) ≡ places p n
      same = ap (places p) (omega arith) ∙ places-fail p n fails

  -- none of those from n on moves
  gathered-more : (k n kept : ℕ) (xs : List ℕ) → IsGathered first p n old xs kept → ((v : ℕ) → n ≤ v → v < n + k → p v ≡ false) → IsGathered first p (n + k) old xs kept
  gathered-more zero n kept xs g none = subst (λ (e : ℕ). IsGathered first p e old xs kept) (omega arith) g
  gathered-more (suc k) n kept xs g none =
      let step : IsGathered first p (n + 1) old xs kept = gathered-left n kept xs g (none n (omega arith) (omega arith)) in
      subst (λ (e : ℕ). IsGathered first p e old xs kept) (omega arith) (gathered-more k (n + 1) kept xs step (λ v from less. none v (omega arith) (omega arith)))

  -- if none of those from n up to m moves, those below m have moved where those below n have
  pub gathered-skip : (n m kept : ℕ) (xs : List ℕ) → IsGathered first p n old xs kept → n ≤ m → ((v : ℕ) → n ≤ v → v < m → p v ≡ false) → IsGathered first p m old xs kept
  gathered-skip n m kept xs g before none =
      subst (λ (e : ℕ). IsGathered first p e old xs kept) (omega arith) (gathered-more (m - n) n kept xs g (λ v from less. none v from (omega arith)))

  -- if all from n on pass, each adds one to the count of those that do
  count-run : (k n : ℕ) → ((v : ℕ) → n ≤ v → v < n + k → p v ≡ true) → count_below p (n + k) ≡ count_below p n + k
  count-run zero n pass =
      let same : n + 0 ≡ n = omega arith in
      ap (count_below p) same ∙ omega arith
  count-run (suc k) n pass =
      let next : n + suc k ≡ suc (n + k) = omega arith in
      let last : count_below p (suc (n + k)) ≡ count_below p (n + k) + 1 = count-pass p (n + k) (pass (n + k) (omega arith) (omega arith)) in
      let before : count_below p (n + k) ≡ count_below p n + k = count-run k n (λ v from less. pass v from (omega (arith, less))) in
      ap (count_below p) next ∙ last ∙ omega (arith, before)

  -- all of those from n up to m move
  pub gathered-run : (from to kept : ℕ) (xs ys : List ℕ) → IsGathered first p (first + from) old xs kept → from ≤ to → kept ≤ from → length ys ≡ length xs
      → ((k : ℕ) → from ≤ k → k < to → p (first + k) ≡ true) → CopiedTo xs ys from kept (to - from) → SameBelow xs ys kept → SameFrom xs ys to
      → IsGathered first p (first + to) old ys (kept + (to - from))
  gathered-run from to kept xs ys g ordered behind long pass moved below above = record {
    long = long ∙ g.long;
    few = omega (arith, g.few, ordered);
    many = sym (length-places p (first + to) ∙ counted (to - from) (omega (arith, ordered)) (first + to) (omega (arith, ordered)));
    front = front-more;
    rest = λ j after. above j 0 (omega (arith, after)) ∙ g.rest j (omega (arith, after, ordered));
  }
    where
      before : count_below p (first + from) ≡ kept
      before = sym (length-places p (first + from)) ∙ sym g.many

      counted : (k : ℕ) → k ≤ to - from → (n : ℕ) → n ≡ first + from + k → count_below p n ≡ kept + k
      counted k few n is =
          let pass-at : (v : ℕ) → first + from ≤ v → v < first + from + k → p v ≡ true =
          λ v low less.
          let at : v ≡ first + (v - first) = omega (arith, low) in
          ap p at ∙ pass (v - first) (omega (arith, low)) (omega (arith, low, less, few, ordered)) in
          ap (count_below p) is ∙ count-run k (first + from) pass-at ∙ ap (λ (c : ℕ). c + k) before

      place-before : (i : ℕ) → i < kept → get_or (places p (first + to)) i 0 ≡ get_or (places p (first + from)) i 0
      place-before i less =
          let cut : take (count_below p (first + from)) (places p (first + to)) ≡ places p (first + from) = take-places p (first + to) (first + from) (omega (arith, ordered)) in
          sym (get_or-take (count_below p (first + from)) (places p (first + to)) i 0 (omega (arith, less, before))) ∙ ap (λ (vs : List ℕ). get_or vs i 0) cut

      place-run : (j : ℕ) → j < to - from → get_or (places p (first + to)) (kept + j) 0 ≡ first + from + j
      place-run j less =
          let there : first + from + j ≡ first + (from + j) = omega arith in
          let at : slice_get (places p (first + to)) (count_below p (first + from + j)) ≡ Some (first + from + j) =
          at_rank p (first + to) (first + from + j) (omega (arith, less)) (ap p there ∙ pass (from + j) (omega arith) (omega (arith, less))) in
          get_or_from_slice_get (places p (first + to)) (kept + j) (first + from + j) 0
          (ap (slice_get (places p (first + to))) (sym (counted j (omega (arith, less)) (first + from + j) refl)) ∙ at)

      front-more : (i : ℕ) → i < kept + (to - from) → get_or ys i 0 ≡ entry_of first old (get_or (places p (first + to)) i 0)
      front-more i less = elim (cases_lt i kept) [
        | inl early ↦ below i 0 early ∙ g.front i early ∙ sym (ap (entry_of first old) (place-before i early))
        | inr late ↦ (
            let j : ℕ = i - kept in
            let rank : i ≡ kept + j = omega (arith, late) in
            let place : from + j ≡ first + from + j - first = omega arith in
            let here : get_or (places p (first + to)) i 0 ≡ first + from + j = ap (λ (q : ℕ). get_or (places p (first + to)) q 0) rank ∙ place-run j (omega (arith, less, late)) in
            moved i 0 late (omega (arith, less))
            ∙ g.rest (from + j) (omega (arith, late))
            ∙ ap (λ (q : ℕ). get_or old q 0) place
            ∙ sym (ap (entry_of first old) here))
      ]

  -- the front of the table, when all have moved, is the entries of the variables that pass
  pub gathered-all : (n kept : ℕ) (xs new : List ℕ) → IsGathered first p n old xs kept → kept ≤ length xs → new ≡ take kept xs → new ≡ map (entry_of first old) (places p n)
  gathered-all n kept xs new g inside cut =
      cut ∙ ext_get_or 0 (take kept xs) (map (entry_of first old) (places p n))
      (long ∙ g.many ∙ sym (length-map (places p n) (entry_of first old)))
      (λ i less. get_or-take kept xs i 0 (omega (arith, less, long)) ∙ g.front i (omega (arith, less, long)) ∙ sym (get_or-map (entry_of first old) (places p n) i 0 0 (omega (arith, less, long, g.many))))
    where
      long : length (take kept xs) ≡ kept
      long = length-take-le kept xs inside

-- A move's latches: of the gates, members alone.
module _ (m : Move) (set : IsClosedSet m.circuit.aig m.held m.set) (old : List ℕ) where
  abbrev first : ℕ
  first = first_latch m.circuit.aig

  abbrev end : ℕ
  end = variables_end m.circuit.aig

  -- a member is a variable among the gates
  pub member-within : (v : ℕ) → Contains m.set v → (first_gate m.circuit.aig ≤ v) × (v < end)
  member-within v member =
      let gate = set.closed.passable v member in
      let place : GatePlace m.circuit.aig v gate.0 = gate_place m.circuit.aig v gate.0 gate.1 in
      (place.from, place.below)

  other-fails : (v : ℕ) → first_gate m.circuit.aig ≤ v → (Contains m.set v → ⊥) → is_latched m v ≡ false
  other-fails v from other = false_from_ne_true (is_latched m v) (λ kept. other ((has_iff_contains m.set v).0 (border-member m v from kept)))

  first-member : first_gate m.circuit.aig ≤ get_or m.set 0 end
  first-member = elim (cases_lt 0 (length m.set)) [
    | inl some ↦ (member-within (get_or m.set 0 end) (0, some, get_or_default m.set 0 (get_or m.set 0 end) end some)).0
    | inr none ↦ omega (arith, get_or_past m.set 0 end none)
  ]

  -- the entries of the latches have moved, so those below the first member have
  pub gathered-first : (n kept : ℕ) (xs : List ℕ) → n ≡ first_gate m.circuit.aig → IsGathered first (is_latched m) n old xs kept → IsGathered first (is_latched m) (get_or m.set 0 end) old xs kept
  gathered-first n kept xs at g =
      gathered-skip first (is_latched m) old n (get_or m.set 0 end) kept xs g (omega (arith, at, first-member))
      (λ v from less. other-fails v (omega (arith, at, from)) (none-before m.set end v set.rising less))

  -- past a member all below the next one have moved
  gathered-next : (k kept : ℕ) (xs : List ℕ) → k < length m.set → IsGathered first (is_latched m) (get_or m.set k 0 + 1) old xs kept → IsGathered first (is_latched m) (get_or m.set (k + 1) end) old xs kept
  gathered-next k kept xs inside g =
      let v : ℕ = get_or m.set k 0 in
      let within = member-within v (k, inside, get_or_default m.set k v 0 inside) in
      let above : v + 1 ≤ get_or m.set (k + 1) end = elim (cases_lt (k + 1) (length m.set)) [
        | inl some ↦ (
            let less : get_or m.set k end < get_or m.set (k + 1) end = AllPairs-from_increasing m.set set.rising k (k + 1) end (omega arith) some in
            omega (arith, less, get_or_default m.set k end 0 inside))
        | inr none ↦ omega (arith, get_or_past m.set (k + 1) end none, within.1)
      ] in
      gathered-skip first (is_latched m) old (v + 1) (get_or m.set (k + 1) end) kept xs g above
      (λ w from less. other-fails w (omega (arith, from, within.0)) (none-between m.set end k w set.rising inside (omega (arith, from)) less))

  module _ (vars : List ℕ) (k : ℕ) (same : vars ≡ m.set) (within : k < length vars) where
    inside : k < length m.set
    inside = subst (λ (ws : List ℕ). k < length ws) same within

    here : get_or vars k 0 ≡ get_or m.set k 0
    here = ap (λ (ws : List ℕ). get_or ws k 0) same

    at-member : (kept : ℕ) (xs : List ℕ) → IsGathered first (is_latched m) (get_or m.set k end) old xs kept → IsGathered first (is_latched m) (get_or m.set k 0) old xs kept
    at-member kept xs g = subst (λ (n : ℕ). IsGathered first (is_latched m) n old xs kept) (get_or_default m.set k end 0 inside) g

    -- a member that has a latch after the move
    pub gathered-member : (start kept after : ℕ) (xs ys : List ℕ) (x : ℕ) → start ≡ first → IsGathered first (is_latched m) (get_or m.set k end) old xs kept
        → first + length xs ≡ end → is_latched m (get_or vars k 0) ≡ true → x ≡ get_or xs (get_or vars k 0 - start) x → ys ≡ put xs kept x → after ≡ kept + 1
        → IsGathered first (is_latched m) (get_or m.set (k + 1) end) old ys after
    gathered-member start kept after xs ys x starts g long pass read moved one =
        let v : ℕ = get_or m.set k 0 in
        let place : ℕ = get_or vars k 0 - start in
        let bounds = member-within v (k, inside, get_or_default m.set k v 0 inside) in
        gathered-next k after ys inside (gathered-kept first (is_latched m) old v place kept after xs ys x (at-member kept xs g) (omega (arith, here, starts, bounds.0)) (omega (arith, here, starts, bounds.0, bounds.1, long))
        (ap (is_latched m) (sym here) ∙ pass) read moved one)

    -- one that has none
    pub gathered-other : (kept : ℕ) (xs : List ℕ) → IsGathered first (is_latched m) (get_or m.set k end) old xs kept → is_latched m (get_or vars k 0) ≡ false
        → IsGathered first (is_latched m) (get_or m.set (k + 1) end) old xs kept
    gathered-other kept xs g fails = gathered-next k kept xs inside (gathered-left first (is_latched m) old (get_or m.set k 0) kept xs (at-member kept xs g) (ap (is_latched m) (sym here) ∙ fails))

  -- past the last member all have moved
  pub gathered-end : (vars : List ℕ) (k kept : ℕ) (xs : List ℕ) → vars ≡ m.set → length vars ≤ k → IsGathered first (is_latched m) (get_or m.set k end) old xs kept → IsGathered first (is_latched m) end old xs kept
  gathered-end vars k kept xs same past g =
      subst (λ (n : ℕ). IsGathered first (is_latched m) n old xs kept) (get_or_past m.set k end (subst (λ (ws : List ℕ). length ws ≤ k) same past)) g
