-- What reaching one variable, and one after another, does.
use Rattle.std.proofs.Common.{ℕ, zero, ◌+◌, ◌-◌, ◌*◌, ◌<◌, ◌≤◌, ◌≡◌, inl, inr, List, [], ◌∷◌, ◌++◌, length, map, take, Bool, true, false, cond, nat_lt, nat_le, ◌||◌, ◌&&◌, set, get_or, count_by, refl, arith, ap, sym, ◌∙◌}
use Rattle.std.specs.List.{All, flat_map}
use Rattle.std.proofs.lemmas.Bool.{cases_Bool, cases_lt, cond-true, cond-false, lt-ltb, le-ltb, le-leb, lt-leb, or_left, or_right}
use Rattle.std.proofs.lemmas.List.{length-set, take_more, take_all, map_push, flat_map_more}
use Rattle.std.proofs.lemmas.List.Elements.{All-head, All-tail}
use Rattle.std.proofs.lemmas.List.Sums.{sum_by-set, count_by-le-length}
use Rattle.aig_graph.specs.Graph.{variable}
use Rattle.aig_graph.specs.Marking.{mark_at}
use Rattle.clean.specs.Sweep.{Front, front_end, is_marked, mark, with_next, reach, reach_in_sweep, reach_all}

-- ---- one variable

-- the front with one more variable
abbrev pub reach_new : Front → ℕ → Front
reach_new r v = with_next (mark r v) v

-- reaching the constant or an input changes nothing
pub reach-low : (r : Front) (v : ℕ) → v < r.first → reach r v ≡ r
unfolding reach
reach-low r v h = cond-true (nat_lt v r.first || is_marked r v) r (reach_new r v) (or_left (nat_lt v r.first) (is_marked r v) (lt-ltb v r.first h))

-- reaching a marked variable changes nothing
pub reach-marked : (r : Front) (v : ℕ) → is_marked r v ≡ true → reach r v ≡ r
unfolding reach
reach-marked r v e = cond-true (nat_lt v r.first || is_marked r v) r (reach_new r v) (or_right (nat_lt v r.first) (is_marked r v) e)

-- reaching a latch or gate that isn't marked marks it, and it waits
pub reach-new : (r : Front) (v : ℕ) → r.first ≤ v → is_marked r v ≡ false → reach r v ≡ reach_new r v
unfolding reach
reach-new r v h e =
    cond-false (nat_lt v r.first || is_marked r v) r (reach_new r v) (ap (λ (b : Bool). b || is_marked r v) (le-ltb v r.first h) ∙ e)

-- before a sweep, a gate is marked alone
pub sweep-gate : (r : Front) (v : ℕ) → r.first + r.latches ≤ v → reach_in_sweep r v ≡ mark r v
unfolding reach_in_sweep
sweep-gate r v h = cond-true (nat_le (r.first + r.latches) v) (mark r v) (reach r v) (le-leb (r.first + r.latches) v h)

-- before a sweep, what comes before the gates is reached
pub sweep-latch : (r : Front) (v : ℕ) → v < r.first + r.latches → reach_in_sweep r v ≡ reach r v
unfolding reach_in_sweep
sweep-latch r v h = cond-false (nat_le (r.first + r.latches) v) (mark r v) (reach r v) (lt-leb (r.first + r.latches) v h)

-- a variable from the first one on is marked if its entry is
pub mark-entry : (r : Front) (v : ℕ) → r.first ≤ v → is_marked r v ≡ get_or r.marks (v - r.first) false
unfolding mark_at
mark-entry r v h = ap (λ (b : Bool). b && get_or r.marks (v - r.first) false) (le-leb r.first v h)

-- the variables that have entries stay
pub record SameReach (r s : Front) : Type 0 where
  -- the entries begin at one variable
  pub first : s.first ≡ r.first
  -- there are as many entries
  pub long : length s.marks ≡ length r.marks

same-is : (r s : Front) → s ≡ r → SameReach r s
same-is r s e = record { first = ap (λ (t : Front). t.first) e; long = ap (λ (t : Front). length t.marks) e }

-- reaching a variable leaves the entries at their variables
pub reach-same : (r : Front) (v : ℕ) → SameReach r (reach r v)
reach-same r v = elim (cases_lt v r.first) [
  | inl low ↦ same-is r (reach r v) (reach-low r v low)
  | inr from ↦ elim (cases_Bool (is_marked r v)) [
    | inl marked ↦ same-is r (reach r v) (reach-marked r v marked)
    | inr fresh ↦ (
        let same : reach r v ≡ reach_new r v = reach-new r v from fresh in
        record { first = ap (λ (s : Front). s.first) same; long = ap (λ (s : Front). length s.marks) same ∙ length-set r.marks (v - r.first) true })
  ]
]

-- so does reaching it before a sweep
pub sweep-same : (r : Front) (v : ℕ) → SameReach r (reach_in_sweep r v)
sweep-same r v = elim (cases_lt v (r.first + r.latches)) [
  | inl before ↦ (
      let same : reach_in_sweep r v ≡ reach r v = sweep-latch r v before in
      let reached : SameReach r (reach r v) = reach-same r v in
      record { first = ap (λ (s : Front). s.first) same ∙ reached.first; long = ap (λ (s : Front). length s.marks) same ∙ reached.long })
  | inr from ↦ (
      let same : reach_in_sweep r v ≡ mark r v = sweep-gate r v from in
      record { first = ap (λ (s : Front). s.first) same; long = ap (λ (s : Front). length s.marks) same ∙ length-set r.marks (v - r.first) true })
]

-- ---- one after another, by any step

module _ (step : Front → ℕ → Front) where
  -- reaching no literals changes nothing
  pub all-nil : (r : Front) → reach_all step r [] ≡ r
  unfolding reach_all
  all-nil r = refl

  -- reaching literals is reaching the first one's variable and then the others
  pub all-cons : (r : Front) (lit : ℕ) (lits : List ℕ) → reach_all step r (lit ∷ lits) ≡ reach_all step (step r (variable lit)) lits
  unfolding reach_all
  all-cons r lit lits = refl

  -- reaching joined literals is reaching the first ones and then the others
  pub all-append : (xs ys : List ℕ) (r : Front) → reach_all step r (xs ++ ys) ≡ reach_all step (reach_all step r xs) ys
  all-append [] ys r = ap (λ (s : Front). reach_all step s ys) (sym (all-nil r))
  all-append (x ∷ xs) ys r =
      all-cons r x (xs ++ ys) ∙ all-append xs ys (step r (variable x)) ∙ ap (λ (s : Front). reach_all step s ys) (sym (all-cons r x xs))

  -- reaching one literal is reaching its variable
  pub all-one : (r : Front) (lit : ℕ) → reach_all step r (lit ∷ []) ≡ step r (variable lit)
  all-one r lit = all-cons r lit [] ∙ all-nil (step r (variable lit))

  -- reaching two literals is reaching both variables, one after the other
  pub all-two : (r : Front) (a b : ℕ) → reach_all step r (a ∷ b ∷ []) ≡ step (step r (variable a)) (variable b)
  all-two r a b = all-cons r a (b ∷ []) ∙ all-one (step r (variable a)) b

  -- after one part, another
  pub all-then : (xs ys : List ℕ) (r s t : Front) → s ≡ reach_all step r xs → t ≡ reach_all step s ys → t ≡ reach_all step r (xs ++ ys)
  all-then xs ys r s t one two = two ∙ ap (λ (u : Front). reach_all step u ys) one ∙ sym (all-append xs ys r)

  -- a loop's next turn
  pub all-more : (r s t : Front) (lits : List ℕ) (i lit : ℕ) → i < length lits → lit ≡ get_or lits i lit → s ≡ reach_all step r (take i lits) → t ≡ step s (variable lit)
      → t ≡ reach_all step r (take (i + 1) lits)
  all-more r s t lits i lit h read before turn =
      let longer : take (i + 1) lits ≡ take i lits ++ lit ∷ [] = take_more lits i lit h ∙ ap (λ (n : ℕ). take i lits ++ n ∷ []) (sym read) in
      all-then (take i lits) (lit ∷ []) r s t before (turn ∙ sym (all-one s lit)) ∙ ap (reach_all step r) (sym longer)

  -- nothing more
  pub all-start : (r s : Front) → s ≡ r → s ≡ reach_all step r []
  all-start r s e = e ∙ sym (all-nil r)

  -- past the last literal all have been reached
  pub all-whole : (r s : Front) (lits : List ℕ) (i : ℕ) → length lits ≤ i → s ≡ reach_all step r (take i lits) → s ≡ reach_all step r lits
  all-whole r s lits i h e = e ∙ ap (reach_all step r) (take_all i lits h)

  -- a loop's next turn over lists
  pub flat-more : (r s t : Front) (xss : List (List ℕ)) (i : ℕ) (xs : List ℕ) → i < length xss → xs ≡ get_or xss i xs → s ≡ reach_all step r (flat_map (λ lits. lits) (take i xss))
      → t ≡ reach_all step s xs → t ≡ reach_all step r (flat_map (λ lits. lits) (take (i + 1) xss))
  flat-more r s t xss i xs h read before turn =
      let longer : take (i + 1) xss ≡ take i xss ++ xs ∷ [] = take_more xss i xs h ∙ ap (λ (ys : List ℕ). take i xss ++ ys ∷ []) (sym read) in
      all-then (flat_map (λ lits. lits) (take i xss)) xs r s t before turn
      ∙ ap (reach_all step r) (flat_map_more (λ (lits : List ℕ). lits) [] (take i xss) xs ∙ ap (λ (yss : List (List ℕ)). flat_map (λ (lits : List ℕ). lits) yss) (sym longer))

  -- a loop's next turn over positions
  pub held-more : (r s t : Front) (first : ℕ) (held : List ℕ) (i lit : ℕ) → i < length held → lit ≡ 2 * (first + get_or held i 0) → s ≡ reach_all step r (map (λ j. 2 * (first + j)) (take i held))
      → t ≡ step s (variable lit) → t ≡ reach_all step r (map (λ j. 2 * (first + j)) (take (i + 1) held))
  held-more r s t first held i lit h is before turn =
      let f : ℕ → ℕ = λ j. 2 * (first + j) in
      let longer : map f (take (i + 1) held) ≡ map f (take i held) ++ lit ∷ [] =
      ap (map f) (take_more held i 0 h) ∙ map_push f (take i held) (get_or held i 0) ∙ ap (λ (n : ℕ). map f (take i held) ++ n ∷ []) (sym is) in
      all-then (map f (take i held)) (lit ∷ []) r s t before (turn ∙ sym (all-one s lit)) ∙ ap (reach_all step r) (sym longer)

-- ---- the same, by steps that leave the entries at their variables

module _ (step : Front → ℕ → Front) (same : (r : Front) (v : ℕ) → SameReach r (step r v)) where
  -- reaching literals leaves the entries at their variables
  pub all-same : (lits : List ℕ) (r : Front) → SameReach r (reach_all step r lits)
  all-same [] r = rw (all-nil step r) (record { first = refl; long = refl })
  all-same (lit ∷ lits) r =
      let one : SameReach r (step r (variable lit)) = same r (variable lit) in
      let rest : SameReach (step r (variable lit)) (reach_all step (step r (variable lit)) lits) = all-same lits (step r (variable lit)) in
      rw (all-cons step r lit lits) (record { first = rest.first ∙ one.first; long = rest.long ∙ one.long })

  -- reaching literals leaves the end of the entries
  pub all-end : (lits : List ℕ) (r s : Front) → s ≡ reach_all step r lits → front_end s ≡ front_end r
  all-end lits r s e =
      let kept : SameReach r (reach_all step r lits) = all-same lits r in
      omega (arith, ap (λ (t : Front). t.first) e, ap (λ (t : Front). length t.marks) e, kept.first, kept.long)

  -- a literal in range is in range of what was reached since
  pub within-since : (lits : List ℕ) (r s : Front) (n : ℕ) → s ≡ reach_all step r lits → n < front_end r → n < front_end s
  within-since lits r s n e h = omega (arith, h, all-end lits r s e)

  -- literals in range are in range of what was reached since
  pub all-since : (ys lits : List ℕ) (r s : Front) → s ≡ reach_all step r ys → All (λ lit. variable lit < front_end r) lits → All (λ lit. variable lit < front_end s) lits
  all-since ys lits r s e all = λ k d h. within-since ys r s (variable (get_or lits k d)) e (all k d h)

  -- lists of literals in range are in range of what was reached since
  pub each-since : (ys : List ℕ) (xss : List (List ℕ)) (r s : Front) → s ≡ reach_all step r ys → All (λ lits. All (λ lit. variable lit < front_end r) lits) xss → All (λ lits. All (λ lit. variable lit < front_end s) lits) xss
  each-since ys xss r s e all = λ k d h. all-since ys (get_or xss k d) r s e (all k d h)

-- ---- how much is left

-- how many variables wait or may still do so
abbrev pub room : Front → ℕ
room r = (length r.marks - count_by (λ b. b) r.marks) + length r.waiting

-- reaching a variable leaves no more
pub room-reach : (r : Front) (v : ℕ) → v < front_end r → room (reach r v) ≤ room r
room-reach r v h = elim (cases_lt v r.first) [
  | inl low ↦ omega (arith, ap (λ (s : Front). room s) (reach-low r v low))
  | inr from ↦ elim (cases_Bool (is_marked r v)) [
    | inl marked ↦ omega (arith, ap (λ (s : Front). room s) (reach-marked r v marked))
    | inr fresh ↦ (
        let counts = sum_by-set (λ (b : Bool). cond b 1 0) r.marks (v - r.first) true false (omega arith) in
        let entry : get_or r.marks (v - r.first) false ≡ false = sym (mark-entry r v from) ∙ fresh in
        let before : cond {A = ℕ} (get_or r.marks (v - r.first) false) 1 0 ≡ zero = ap (λ (b : Bool). cond {A = ℕ} b 1 0) entry in
        let few = count_by-le-length (λ (b : Bool). b) (set r.marks (v - r.first) true) in
        let long = length-set r.marks (v - r.first) true in
        omega (arith, ap (λ (s : Front). room s) (reach-new r v from fresh), counts, before, few, long))
  ]
]

-- reaching variables leaves no more
pub room-all : (lits : List ℕ) (r : Front) → All (λ lit. variable lit < front_end r) lits → room (reach_all reach r lits) ≤ room r
room-all [] r within = omega (arith, ap (λ (s : Front). room s) (all-nil reach r))
room-all (lit ∷ lits) r within =
    let s : Front = reach r (variable lit) in
    let one : room s ≤ room r = room-reach r (variable lit) (All-head (λ (l : ℕ). variable l < front_end r) lit lits within) in
    let rest : All (λ (l : ℕ). variable l < front_end s) lits =
    all-since reach reach-same (lit ∷ []) lits r s (sym (all-one reach r lit)) (All-tail (λ (l : ℕ). variable l < front_end r) lit lits within) in
    omega (arith, one, room-all lits s rest, ap (λ (t : Front). room t) (all-cons reach r lit lits))

-- if one that waits is taken and read, less is left
pub room-turn : (r s t : Front) (v : ℕ) (lits : List ℕ) → r ≡ with_next s v → All (λ lit. variable lit < front_end s) lits → t ≡ reach_all reach s lits → room t < room r
room-turn r s t v lits taken within is = omega (arith, ap (λ (u : Front). room u) taken, ap (λ (u : Front). room u) is, room-all lits s within)
