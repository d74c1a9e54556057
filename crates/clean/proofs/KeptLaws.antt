-- Kept gates on their lists: what a walk along a list finds, and what one more entry changes.
use Rattle.std.proofs.Common.{ℕ, ◌+◌, ◌-◌, ◌*◌, ◌<◌, ◌≤◌, ◌^◌, ◌≡◌, inl, inr, zero, suc, List, [], ◌∷◌, ◌++◌, Bool, cond, nat_eq, nat_lt, Option, Some, None, length, get_or, slice_set, replicate, refl, ap, sym, ◌∙◌, arith}
use Rattle.std.specs.Map.{lookup}
use Rattle.std.proofs.Math.ListN.{get_or-eq_default}
use Rattle.std.proofs.Math.Seq.{get_or-append_seam}
use Rattle.std.proofs.lemmas.Bool.{cases_Bool, cases_eq, cases_lt, cond-true, cond-false, eq-eqb, ne_eqb, lt-ltb, le-ltb}
use Rattle.std.proofs.lemmas.List.{get_or_append_left, get_or_default, get_or-set_same, get_or-set_other, get_or-replicate, length_push, length-replicate, length-set}
use Rattle.aig_graph.specs.declared.graph.Gate.{Gate}
use Rattle.aig_graph.specs.Graph.{variable}
use Rattle.cleaned_circuits.specs.Merged.{same_fan_ins}
use Rattle.cleaned_circuits.proofs.SubstituteLaws.{same_fan_ins-is}
use Rattle.clean.specs.Kept.{Kept, no_gate, kept_pairs, pairs, next_variable, last_of, or_else, on_list, listed, AreKept, IsListOf, SameLists, link_before, put_at}

-- no second answer
pub or_else-none : (o : Option ℕ) → or_else o None ≡ o
or_else-none None = refl
or_else-none (Some n) = refl

or_else-assoc : (a b c : Option ℕ) → or_else (or_else a b) c ≡ or_else a (or_else b c)
or_else-assoc None b c = refl
or_else-assoc (Some n) b c = refl

-- if neither answers, the second doesn't
or_else-second : (a b : Option ℕ) → or_else a b ≡ None → b ≡ None
or_else-second None b e = e
or_else-second (Some n) b e = absurd (cc)

-- a list of pairs with one more
pub lookup-push : {K : Type 0} (test : K → Bool) (entries : List (K × ℕ)) (key : K) (value : ℕ) → lookup test (entries ++ (key, value) ∷ []) ≡ or_else (lookup test entries) (cond (test key) (Some value) None)
lookup-push test [] key value = refl
lookup-push test ((k, v) ∷ entries) key value = elim (cases_Bool (test k)) [
  | inl here ↦
      cond-true (test k) (Some v) (lookup test (entries ++ (key, value) ∷ [])) here
      ∙ sym (ap (λ (o : Option ℕ). or_else o (cond (test key) (Some value) None)) (cond-true (test k) (Some v) (lookup test entries) here))
  | inr other ↦
      cond-false (test k) (Some v) (lookup test (entries ++ (key, value) ∷ [])) other ∙ lookup-push test entries key value
      ∙ sym (ap (λ (o : Option ℕ). or_else o (cond (test key) (Some value) None)) (cond-false (test k) (Some v) (lookup test entries) other))
]

-- tables whose first entries are equal
module _ (gates others : List Gate) (before links : List ℕ) (own : ℕ) where
  abbrev SameBelow : ℕ → Type 0
  SameBelow n = (i : ℕ) → i < n → (get_or others i no_gate ≡ get_or gates i no_gate) × (get_or links i 0 ≡ get_or before i 0)

  fewer : (n : ℕ) → SameBelow (suc n) → SameBelow n
  fewer n same i less = same i (omega (arith, less))

  -- a list over them is one list
  pub on_list-same : (gate : Gate) (n link : ℕ) → SameBelow n → on_list others links own gate n link ≡ on_list gates before own gate n link
  unfolding on_list
  on_list-same gate zero link same = refl
  on_list-same gate (suc n) link same =
      let b : Bool = nat_eq link (suc (suc n)) in
      let lit : ℕ = 2 * (own + n) in
      let at = same n (omega arith) in
      ap (λ (x : Gate). cond b (cond (same_fan_ins gate x) (Some lit) (on_list others links own gate n (get_or links n 0))) (on_list others links own gate n link)) at.0
      ∙ ap (λ (l : ℕ). cond b (cond (same_fan_ins gate (get_or gates n no_gate)) (Some lit) (on_list others links own gate n l)) (on_list others links own gate n link)) at.1
      ∙ ap (λ (o : Option ℕ). cond b (cond (same_fan_ins gate (get_or gates n no_gate)) (Some lit) o) (on_list others links own gate n link)) (on_list-same gate n (get_or before n 0) (fewer n same))
      ∙ ap (λ (o : Option ℕ). cond b (cond (same_fan_ins gate (get_or gates n no_gate)) (Some lit) (on_list gates before own gate n (get_or before n 0))) o) (on_list-same gate n link (fewer n same))

  -- and so are the kept gates
  pub kept_pairs-same : (n : ℕ) → SameBelow n → kept_pairs others links own n ≡ kept_pairs gates before own n
  unfolding kept_pairs
  kept_pairs-same zero same = refl
  kept_pairs-same (suc n) same =
      let lit : ℕ = 2 * (own + n) in
      let at = same n (omega arith) in
      let with : ℕ → Gate → List (Gate × ℕ) → List (Gate × ℕ) = λ l x ps. cond (nat_lt 0 l) (ps ++ (x, lit) ∷ []) ps in
      ap (λ (l : ℕ). with l (get_or others n no_gate) (kept_pairs others links own n)) at.1
      ∙ ap (λ (x : Gate). with (get_or before n 0) x (kept_pairs others links own n)) at.0
      ∙ ap (with (get_or before n 0) (get_or gates n no_gate)) (kept_pairs-same n (fewer n same))

-- the entries that a link begins
abbrev pub walk : List Gate → List ℕ → ℕ → Gate → ℕ → Option ℕ
walk gates before own gate link = on_list gates before own gate (link - 1) link

-- the gate of an entry, or what is looked for after it
abbrev found_at : List Gate → ℕ → Gate → ℕ → Option ℕ → Option ℕ
found_at gates own gate n rest = cond (same_fan_ins gate (get_or gates n no_gate)) (Some (2 * (own + n))) rest

-- a list without a gate
pub walk-none : (gates : List Gate) (before : List ℕ) (own : ℕ) (gate : Gate) (link : ℕ) → link ≤ 1 → walk gates before own gate link ≡ None
unfolding on_list
walk-none gates before own gate link few = let none : link - 1 ≡ 0 = omega (arith, few) in ap (λ (n : ℕ). on_list gates before own gate n link) none

-- the link of a kept gate begins what its list was
walk-before : (gates : List Gate) (before : List ℕ) (own : ℕ) (gate : Gate) (link : ℕ) → walk gates before own gate (link_before link) ≡ walk gates before own gate link
walk-before gates before own gate zero = walk-none gates before own gate 1 (omega arith) ∙ sym (walk-none gates before own gate 0 (omega arith))
walk-before gates before own gate (suc n) = refl

module _ (gates : List Gate) (before : List ℕ) (own : ℕ) (back : (n : ℕ) → get_or before n 0 ≤ n + 1) where
  -- a list has nothing behind its link
  pub on_list-down : (gate : Gate) (n link : ℕ) → link ≤ n + 1 → on_list gates before own gate n link ≡ walk gates before own gate link
  unfolding on_list
  on_list-down gate zero link few = let none : 0 ≡ link - 1 = omega (arith, few) in ap (λ (k : ℕ). on_list gates before own gate k link) none
  on_list-down gate (suc n) link few = elim (cases_eq link (suc (suc n))) [
    | inl same ↦ (let at : suc n ≡ link - 1 = omega (arith, same) in ap (λ (k : ℕ). on_list gates before own gate k link) at)
    | inr other ↦ cond-false (nat_eq link (suc (suc n))) _ _ (ne_eqb link (suc (suc n)) other) ∙ on_list-down gate n link (omega (arith, few, other))
  ]

  -- a list is the entry that its link leads to, and the list from there back
  pub on_list-step : (gate : Gate) (n : ℕ) → on_list gates before own gate (suc n) (suc (suc n)) ≡ found_at gates own gate n (walk gates before own gate (get_or before n 0))
  unfolding on_list
  on_list-step gate n =
      cond-true (nat_eq (suc (suc n)) (suc (suc n))) _ _ (eq-eqb (suc (suc n)) (suc (suc n)) refl)
      ∙ ap (found_at gates own gate n) (on_list-down gate n (get_or before n 0) (back n))

-- the link of an entry leads back, also with one more entry
before-more : (before : List ℕ) (link : ℕ) → ((n : ℕ) → get_or before n 0 ≤ n + 1) → link ≤ length before + 1 → (n : ℕ) → get_or (before ++ link ∷ []) n 0 ≤ n + 1
before-more before link back own n = elim (cases_lt n (length before)) [
  | inl less ↦ (let same = get_or_append_left before (link ∷ []) 0 n less in omega (arith, same, back n))
  | inr past ↦ elim (cases_eq n (length before)) [
    | inl at ↦ (
        let same : get_or (before ++ link ∷ []) n 0 ≡ link =
        ap (λ (m : ℕ). get_or (before ++ link ∷ []) m 0) at ∙ get_or-append_seam before link [] 0 in
        omega (arith, same, own, at))
    | inr other ↦ (
        let long : length (before ++ link ∷ []) ≤ n = omega (arith, length_push before link, past, other) in
        let same = get_or-eq_default {A = ℕ} (before ++ link ∷ []) 0 long in
        omega (arith, same))
  ]
]

module _ (k : Kept) (kept : AreKept k) where
  -- a variable's list begins with an entry
  pub last-few : (v : ℕ) → last_of k v ≤ length k.before + 1
  unfolding last_of
  last-few v = elim (cases_Bool (nat_lt v k.first)) [
    | inl low ↦ (let none = cond-true (nat_lt v k.first) 0 (get_or k.lists (v - k.first) 0) low in omega (arith, none))
    | inr high ↦ (let there = cond-false (nat_lt v k.first) 0 (get_or k.lists (v - k.first) 0) high in omega (arith, there, kept.last (v - k.first)))
  ]

  -- a walk begins at the last gate of the list
  pub list-start : (gate : Gate) (link : ℕ) → link ≡ last_of k (variable gate.rhs0) → walk k.gates k.before k.own gate link ≡ listed k gate
  list-start gate link e =
      ap (walk k.gates k.before k.own gate) e
      ∙ sym (on_list-down k.gates k.before k.own kept.back gate (length k.before) (last_of k (variable gate.rhs0)) (last-few (variable gate.rhs0)))

  -- the entry that a link leads to
  module _ (link : ℕ) (some : 1 < link) (few : link ≤ length k.before + 1) where
    -- its link leads to an earlier one
    pub link-back : (b : ℕ) → b ≡ get_or k.before (link - 2) b → b < link
    link-back b read =
        let there : b ≡ get_or k.before (link - 2) 0 = read ∙ get_or_default k.before (link - 2) b 0 (omega (arith, some, few)) in
        omega (arith, there, kept.back (link - 2), some)

    -- what is read back at an entry is what its link says
    pub back-read : get_or k.before (link - 2) 0 ≡ get_or k.before (link - 2) (get_or k.before (link - 2) 0)
    back-read = sym (get_or_default k.before (link - 2) (get_or k.before (link - 2) 0) 0 (omega (arith, some, few)))

    -- a list gives the gate's literal if it begins with it, and else what the list behind that
    -- gives
    pub list-next : (gate x : Gate) (b lit : ℕ) → x ≡ get_or k.gates (link - 2) x → b ≡ get_or k.before (link - 2) b → lit ≡ 2 * (k.own + (link - 2))
        → walk k.gates k.before k.own gate link ≡ cond (same_fan_ins gate x) (Some lit) (walk k.gates k.before k.own gate b)
    list-next gate x b lit read_gate read_link own =
        let n : ℕ = link - 2 in
        let gate_is : x ≡ get_or k.gates n no_gate = read_gate ∙ get_or_default k.gates n x no_gate (omega (arith, some, few, kept.room)) in
        let link_is : b ≡ get_or k.before n 0 = read_link ∙ get_or_default k.before n b 0 (omega (arith, some, few)) in
        let less : link - 1 ≡ suc n = omega (arith, some) in
        let at : link ≡ suc (suc n) = omega (arith, some) in
        ap (λ (m : ℕ). on_list k.gates k.before k.own gate m link) less
        ∙ ap (on_list k.gates k.before k.own gate (suc n)) at
        ∙ on_list-step k.gates k.before k.own kept.back gate n
        ∙ ap (λ (y : Gate). cond (same_fan_ins gate y) (Some (2 * (k.own + n))) (walk k.gates k.before k.own gate (get_or k.before n 0))) (sym gate_is)
        ∙ ap (λ (l : ℕ). cond (same_fan_ins gate x) (Some (2 * (k.own + n))) (walk k.gates k.before k.own gate l)) (sym link_is)
        ∙ ap (λ (l : ℕ). cond (same_fan_ins gate x) (Some l) (walk k.gates k.before k.own gate b)) (sym own)

module _ (gates : List Gate) (place : ℕ) (gate : Gate) (few : place ≤ length gates) where
  -- a gate that is put at a place stands there
  pub put-here : get_or (put_at gates place gate) place no_gate ≡ gate
  put-here = elim (cases_lt place (length gates)) [
    | inl less ↦
        ap (λ (xs : List Gate). get_or xs place no_gate) (cond-true (nat_lt place (length gates)) (slice_set gates place gate) (gates ++ gate ∷ []) (lt-ltb place (length gates) less))
        ∙ get_or-set_same gates place gate no_gate less
    | inr past ↦ (
        let at : place ≡ length gates = omega (arith, few, past) in
        ap (λ (xs : List Gate). get_or xs place no_gate) (cond-false (nat_lt place (length gates)) (slice_set gates place gate) (gates ++ gate ∷ []) (le-ltb place (length gates) past))
        ∙ ap (λ (n : ℕ). get_or (gates ++ gate ∷ []) n no_gate) at ∙ get_or-append_seam gates gate [] no_gate)
  ]

  -- and changes no earlier one
  pub put-below : (i : ℕ) → i < place → get_or (put_at gates place gate) i no_gate ≡ get_or gates i no_gate
  put-below i below = elim (cases_lt place (length gates)) [
    | inl less ↦
        ap (λ (xs : List Gate). get_or xs i no_gate) (cond-true (nat_lt place (length gates)) (slice_set gates place gate) (gates ++ gate ∷ []) (lt-ltb place (length gates) less))
        ∙ get_or-set_other gates place i gate no_gate (λ same. omega (arith, same, below))
    | inr past ↦
        ap (λ (xs : List Gate). get_or xs i no_gate) (cond-false (nat_lt place (length gates)) (slice_set gates place gate) (gates ++ gate ∷ []) (le-ltb place (length gates) past))
        ∙ get_or_append_left gates (gate ∷ []) no_gate i (omega (arith, few, below))
  ]

  -- the place is one of the table that has the gate
  pub put-long : place < length (put_at gates place gate)
  put-long = elim (cases_lt place (length gates)) [
    | inl less ↦ (
        let same = ap (λ (xs : List Gate). length xs) (cond-true (nat_lt place (length gates)) (slice_set gates place gate) (gates ++ gate ∷ []) (lt-ltb place (length gates) less)) in
        omega (arith, same, length-set gates place gate, less))
    | inr past ↦ (
        let same = ap (λ (xs : List Gate). length xs) (cond-false (nat_lt place (length gates)) (slice_set gates place gate) (gates ++ gate ∷ []) (le-ltb place (length gates) past)) in
        omega (arith, same, length_push gates gate, few))
  ]

-- a gate that is put at the place of the next entry
module _ (k : Kept) (kept : AreKept k) (gate : Gate) where
  abbrev pub with_gate : Kept
  with_gate = record { first = k.first; own = k.own; gates = put_at k.gates (length k.before) gate; before = k.before; lists = k.lists; rest = k.rest }

  same-entries : SameBelow k.gates (put_at k.gates (length k.before) gate) k.before k.before k.own (length k.before)
  same-entries i less = (put-below k.gates (length k.before) gate kept.room i less, refl)

  -- the kept gates stay
  pub pairs-put : pairs with_gate ≡ pairs k
  pairs-put = kept_pairs-same k.gates (put_at k.gates (length k.before) gate) k.before k.before k.own (length k.before) same-entries

  -- the kept gates stay, as no entry is at the place yet
  pub AreKept-put : AreKept with_gate
  unfolding last_of
  AreKept-put = record {
    few = kept.few;
    room = omega (arith, put-long k.gates (length k.before) gate kept.room);
    last = kept.last;
    back = kept.back;
    found = λ other.
        ap (lookup (same_fan_ins other)) pairs-put
        ∙ kept.found other
        ∙ ap (λ (o : Option ℕ). or_else o (lookup (same_fan_ins other) k.rest))
        (sym (on_list-same k.gates (put_at k.gates (length k.before) gate) k.before k.before k.own other (length k.before) (last_of k (variable other.rhs0)) same-entries));
  }

-- one more entry, whose gate stands there
module _ (k : Kept) (kept : AreKept k) (gate : Gate) (link : ℕ) (there : get_or k.gates (length k.before) no_gate ≡ gate) (back : link ≤ length k.before + 1) where
  abbrev more : List ℕ
  more = k.before ++ link ∷ []

  long : length more ≡ suc (length k.before)
  long = omega (arith, length_push k.before link)

  same-below : SameBelow k.gates k.gates k.before more k.own (length k.before)
  same-below i less = (refl, get_or_append_left k.before (link ∷ []) 0 i less)

  linked : get_or more (length k.before) 0 ≡ link
  linked = get_or-append_seam k.before link [] 0

  -- the kept gates, with this one if it is kept
  pub pairs-more : kept_pairs k.gates more k.own (length more) ≡ cond (nat_lt 0 link) (pairs k ++ (gate, 2 * next_variable k) ∷ []) (pairs k)
  unfolding kept_pairs
  pairs-more =
      let n : ℕ = length k.before in
      let with : ℕ → Gate → List (Gate × ℕ) → List (Gate × ℕ) = λ l x ps. cond (nat_lt 0 l) (ps ++ (x, 2 * (k.own + n)) ∷ []) ps in
      ap (kept_pairs k.gates more k.own) long
      ∙ ap (λ (l : ℕ). with l (get_or k.gates n no_gate) (kept_pairs k.gates more k.own n)) linked
      ∙ ap (λ (x : Gate). with link x (kept_pairs k.gates more k.own n)) there
      ∙ ap (with link gate) (kept_pairs-same k.gates k.gates k.before more k.own n same-below)

  -- any list of before
  same-list : (other : Gate) (l : ℕ) → l ≤ length k.before + 1 → on_list k.gates more k.own other (length more) l ≡ on_list k.gates k.before k.own other (length k.before) l
  same-list other l few =
      on_list-down k.gates more k.own (before-more k.before link kept.back back) other (length more) l (omega (arith, long, few))
      ∙ on_list-same k.gates k.gates k.before more k.own other (l - 1) l (λ i less. same-below i (omega (arith, less, few)))
      ∙ sym (on_list-down k.gates k.before k.own kept.back other (length k.before) l few)

  module _ (few : next_variable k < 2 ^ 28) (room : length k.before < length k.gates) where
    -- one that isn't kept
    module _ (none : link ≡ 0) where
      -- an entry without a link adds no pair
      pub pairs-passed : kept_pairs k.gates more k.own (length more) ≡ pairs k
      pairs-passed = pairs-more ∙ cond-false (nat_lt 0 link) _ (pairs k) (le-ltb 0 link (omega (arith, none)))

      -- and the kept gates stay as they are
      pub AreKept-passed : AreKept (record { first = k.first; own = k.own; gates = k.gates; before = more; lists = k.lists; rest = k.rest })
      unfolding last_of
      AreKept-passed = record {
        few = omega (arith, long, few);
        room = omega (arith, long, room);
        last = λ place. omega (arith, long, kept.last place);
        back = before-more k.before link kept.back back;
        found = λ other.
            ap (lookup (same_fan_ins other)) pairs-passed
            ∙ kept.found other
            ∙ ap (λ (o : Option ℕ). or_else o (lookup (same_fan_ins other) k.rest)) (sym (same-list other (last_of k (variable other.rhs0)) (last-few k kept (variable other.rhs0))));
      }

    module _ (some : 0 < link) where
      -- an entry with a link adds its gate, with its literal, as the last pair
      pub pairs-kept : kept_pairs k.gates more k.own (length more) ≡ pairs k ++ (gate, 2 * next_variable k) ∷ []
      pairs-kept = pairs-more ∙ cond-true (nat_lt 0 link) (pairs k ++ (gate, 2 * next_variable k) ∷ []) (pairs k) (lt-ltb 0 link some)

      abbrev own_answer : Gate → Option ℕ
      own_answer other = cond (same_fan_ins other gate) (Some (2 * next_variable k)) None

      found-more : (other : Gate) → lookup (same_fan_ins other) (kept_pairs k.gates more k.own (length more)) ≡ or_else (lookup (same_fan_ins other) (pairs k)) (own_answer other)
      found-more other = ap (lookup (same_fan_ins other)) pairs-kept ∙ lookup-push (same_fan_ins other) (pairs k) gate (2 * next_variable k)

      -- one that is kept in the hash table
      pub AreKept-rest : AreKept (record { first = k.first; own = k.own; gates = k.gates; before = more; lists = k.lists; rest = k.rest ++ (gate, 2 * next_variable k) ∷ [] })
      unfolding last_of
      AreKept-rest = record {
        few = omega (arith, long, few);
        room = omega (arith, long, room);
        last = λ place. omega (arith, long, kept.last place);
        back = before-more k.before link kept.back back;
        found = λ other.
            found-more other
            ∙ ap (λ (o : Option ℕ). or_else o (own_answer other)) (kept.found other)
            ∙ or_else-assoc (listed k other) (lookup (same_fan_ins other) k.rest) (own_answer other)
            ∙ ap (or_else (listed k other)) (sym (lookup-push (same_fan_ins other) k.rest gate (2 * next_variable k)))
            ∙ ap (λ (o : Option ℕ). or_else o (lookup (same_fan_ins other) (k.rest ++ (gate, 2 * next_variable k) ∷ []))) (sym (same-list other (last_of k (variable other.rhs0)) (last-few k kept (variable other.rhs0))));
      }

      -- one that is kept on the list of its larger fan-in
      module _ (place list : ℕ) (is_list : IsListOf k (variable gate.rhs0) place) (first : link ≡ link_before (get_or k.lists place 0)) (last : list ≡ length k.before + 2) (new : lookup (same_fan_ins gate) (pairs k) ≡ None) where
        abbrev longer : Kept
        longer = record { first = k.first; own = k.own; gates = k.gates; before = more; lists = slice_set k.lists place list; rest = k.rest }

        last-here : last_of longer (variable gate.rhs0) ≡ suc (suc (length k.before))
        unfolding last_of
        last-here =
            let v : ℕ = variable gate.rhs0 in
            let at : v - k.first ≡ place = omega (arith, is_list.at) in
            let next : list ≡ suc (suc (length k.before)) = omega (arith, last) in
            cond-false (nat_lt v k.first) 0 _ (le-ltb v k.first (omega (arith, is_list.at)))
            ∙ ap (λ (p : ℕ). get_or (slice_set k.lists place list) p 0) at
            ∙ get_or-set_same k.lists place list 0 is_list.within ∙ next

        before-here : last_of k (variable gate.rhs0) ≡ get_or k.lists place 0
        unfolding last_of
        before-here =
            let v : ℕ = variable gate.rhs0 in
            let at : v - k.first ≡ place = omega (arith, is_list.at) in
            cond-false (nat_lt v k.first) 0 _ (le-ltb v k.first (omega (arith, is_list.at)))
            ∙ ap (λ (p : ℕ). get_or k.lists p 0) at

        last-there : (v : ℕ) → (v ≡ variable gate.rhs0 → ⊥) → last_of longer v ≡ last_of k v
        unfolding last_of
        last-there v other = elim (cases_lt v k.first) [
          | inl low ↦ cond-true (nat_lt v k.first) 0 _ (lt-ltb v k.first low) ∙ sym (cond-true (nat_lt v k.first) 0 _ (lt-ltb v k.first low))
          | inr high ↦ ap (λ (l : ℕ). cond (nat_lt v k.first) 0 l)
              (get_or-set_other k.lists place (v - k.first) list 0 (λ same. other (omega (arith, same, high, is_list.at))))
        ]

        -- the list behind the entry is what the list was
        behind : (other : Gate) → variable other.rhs0 ≡ variable gate.rhs0 → walk k.gates more k.own other link ≡ listed k other
        behind other same =
            let l : ℕ = get_or k.lists place 0 in
            on_list-same k.gates k.gates k.before more k.own other (link - 1) link (λ i less. same-below i (omega (arith, less, back)))
            ∙ ap (walk k.gates k.before k.own other) first
            ∙ walk-before k.gates k.before k.own other l
            ∙ list-start k kept other l (sym before-here ∙ ap (last_of k) (sym same))

        -- the gate itself
        listed-here : (other : Gate) → variable other.rhs0 ≡ variable gate.rhs0 → listed longer other ≡ cond (same_fan_ins other gate) (Some (2 * next_variable k)) (listed k other)
        listed-here other same =
            let n : ℕ = length k.before in
            ap (λ (v : ℕ). on_list k.gates more k.own other (length more) (last_of longer v)) same
            ∙ ap (on_list k.gates more k.own other (length more)) last-here
            ∙ ap (λ (m : ℕ). on_list k.gates more k.own other m (suc (suc n))) long
            ∙ on_list-step k.gates more k.own (before-more k.before link kept.back back) other n
            ∙ ap (λ (x : Gate). cond (same_fan_ins other x) (Some (2 * (k.own + n))) (walk k.gates more k.own other (get_or more n 0))) there
            ∙ ap (λ (l : ℕ). cond (same_fan_ins other gate) (Some (2 * (k.own + n))) (walk k.gates more k.own other l)) linked
            ∙ ap (cond (same_fan_ins other gate) (Some (2 * (k.own + n)))) (behind other same)

        found-here : (other : Gate) → variable other.rhs0 ≡ variable gate.rhs0 → lookup (same_fan_ins other) (pairs longer) ≡ or_else (listed longer other) (lookup (same_fan_ins other) k.rest)
        found-here other same =
            let rest : Option ℕ = lookup (same_fan_ins other) k.rest in
            let lit : ℕ = 2 * next_variable k in
            let b : Bool = same_fan_ins other gate in
            elim (cases_Bool b) [
              | inl own ↦ (
                  let none : lookup (same_fan_ins other) (pairs k) ≡ None = ap (λ (g : Gate). lookup (same_fan_ins g) (pairs k)) (same_fan_ins-is other gate own) ∙ new in
                  found-more other
                  ∙ ap (λ (o : Option ℕ). or_else o (cond b (Some lit) None)) none
                  ∙ cond-true b (Some lit) None own
                  ∙ sym (ap (λ (o : Option ℕ). or_else o rest) (listed-here other same ∙ cond-true b (Some lit) (listed k other) own)))
              | inr apart ↦
                  found-more other
                  ∙ ap (or_else (lookup (same_fan_ins other) (pairs k))) (cond-false b (Some lit) None apart)
                  ∙ or_else-none (lookup (same_fan_ins other) (pairs k))
                  ∙ kept.found other
                  ∙ sym (ap (λ (o : Option ℕ). or_else o rest) (listed-here other same ∙ cond-false b (Some lit) (listed k other) apart))
            ]

        found-there : (other : Gate) → (variable other.rhs0 ≡ variable gate.rhs0 → ⊥) → lookup (same_fan_ins other) (pairs longer) ≡ or_else (listed longer other) (lookup (same_fan_ins other) k.rest)
        found-there other apart =
            let b : Bool = same_fan_ins other gate in
            let v : ℕ = variable other.rhs0 in
            elim (cases_Bool b) [
              | inl own ↦ absurd (apart (ap (λ (g : Gate). variable g.rhs0) (same_fan_ins-is other gate own)))
              | inr differs ↦
                  found-more other
                  ∙ ap (or_else (lookup (same_fan_ins other) (pairs k))) (cond-false b (Some (2 * next_variable k)) None differs)
                  ∙ or_else-none (lookup (same_fan_ins other) (pairs k))
                  ∙ kept.found other
                  ∙ sym (ap (λ (o : Option ℕ). or_else o (lookup (same_fan_ins other) k.rest)) (
                  ap (on_list k.gates more k.own other (length more)) (last-there v apart) ∙ same-list other (last_of k v) (last-few k kept v)))
            ]

        -- the gate stands on the list of its larger fan-in, which begins with it now
        pub AreKept-listed : AreKept longer
        AreKept-listed = record {
          few = omega (arith, long, few);
          room = omega (arith, long, room);
          last = λ p. elim (cases_eq p place) [
            | inl at ↦ (
                let same = ap (λ (q : ℕ). get_or (slice_set k.lists place list) q 0) at ∙ get_or-set_same k.lists place list 0 is_list.within in
                omega (arith, same, last, long))
            | inr other ↦ (
                let same = get_or-set_other k.lists place p list 0 other in
                omega (arith, same, kept.last p, long))
          ];
          back = before-more k.before link kept.back back;
          found = λ other. elim (cases_eq (variable other.rhs0) (variable gate.rhs0)) [
            | inl same ↦ found-here other same
            | inr apart ↦ found-there other apart
          ];
        }

-- the next entry, whose gate takes its place
module _ (k : Kept) (kept : AreKept k) (gate : Gate) (few : next_variable k < 2 ^ 28) where
  abbrev here : Kept
  here = with_gate k kept gate

  placed : AreKept here
  placed = AreKept-put k kept gate

  stands : get_or here.gates (length k.before) no_gate ≡ gate
  stands = put-here k.gates (length k.before) gate kept.room

  wide : length k.before < length here.gates
  wide = put-long k.gates (length k.before) gate kept.room

  -- one that isn't kept
  pub AreKept-enter_passed : AreKept (record { first = k.first; own = k.own; gates = here.gates; before = k.before ++ 0 ∷ []; lists = k.lists; rest = k.rest })
  AreKept-enter_passed = AreKept-passed here placed gate 0 stands (omega arith) few wide refl

  -- put there without a link, the gate is no pair
  pub pairs-enter_passed : kept_pairs here.gates (k.before ++ 0 ∷ []) k.own (length (k.before ++ 0 ∷ [])) ≡ pairs k
  pairs-enter_passed = pairs-passed here placed gate 0 stands (omega arith) few wide refl ∙ pairs-put k kept gate

  -- one that is kept
  module _ (link : ℕ) (back : link ≤ length k.before + 1) (some : 0 < link) where
    -- put there with a link, the gate and its literal are the last pair
    pub pairs-enter_kept : kept_pairs here.gates (k.before ++ link ∷ []) k.own (length (k.before ++ link ∷ [])) ≡ pairs k ++ (gate, 2 * next_variable k) ∷ []
    pairs-enter_kept =
        pairs-kept here placed gate link stands back few wide some
        ∙ ap (λ (ps : List (Gate × ℕ)). ps ++ (gate, 2 * next_variable k) ∷ []) (pairs-put k kept gate)

    -- the gate stands in the hash table, and the lists stay
    pub AreKept-enter_rest : AreKept (record { first = k.first; own = k.own; gates = here.gates; before = k.before ++ link ∷ []; lists = k.lists; rest = k.rest ++ (gate, 2 * next_variable k) ∷ [] })
    AreKept-enter_rest = AreKept-rest here placed gate link stands back few wide some

    -- the gate stands on the list of its larger fan-in, and the hash table stays
    pub AreKept-enter_listed : (place list : ℕ) → IsListOf k (variable gate.rhs0) place → link ≡ link_before (get_or k.lists place 0) → list ≡ length k.before + 2 → lookup (same_fan_ins gate) (pairs k) ≡ None
        → AreKept (record { first = k.first; own = k.own; gates = here.gates; before = k.before ++ link ∷ []; lists = slice_set k.lists place list; rest = k.rest })
    AreKept-enter_listed place list is_list first last new =
        AreKept-listed here placed gate link stands back few wide some place list (record { at = is_list.at; within = is_list.within }) first last
        (ap (lookup (same_fan_ins gate)) (pairs-put k kept gate) ∙ new)

-- the link of a kept gate leads to no later entry
pub link_before-bound : (link n : ℕ) → link ≤ n + 1 → link_before link ≤ n + 1
link_before-bound zero n few = omega arith
link_before-bound (suc m) n few = few

-- the link of a kept gate isn't 0
pub link_before-some : (link : ℕ) → 0 < link_before link
link_before-some zero = omega arith
link_before-some (suc m) = omega arith

-- no entries yet
pub AreKept-none : (first own n : ℕ) (gates : List Gate) → own ≤ 2 ^ 28 → AreKept (record { first = first; own = own; gates = gates; before = []; lists = replicate n 0; rest = [] })
unfolding on_list kept_pairs
AreKept-none first own n gates few = record {
  few = omega (arith, few);
  room = omega arith;
  last = λ place. elim (cases_lt place n) [
    | inl less ↦ (let same = get_or-replicate {A = ℕ} n place 0 0 less in omega (arith, same))
    | inr past ↦ (
        let long : length (replicate {A = ℕ} n 0) ≤ place = omega (arith, length-replicate {A = ℕ} n 0, past) in
        let same = get_or-eq_default {A = ℕ} (replicate n 0) 0 long in
        omega (arith, same))
  ];
  back = λ m. (let same = get_or-eq_default {A = ℕ} [] 0 {n = m} (omega arith) in omega (arith, same));
  found = λ gate. refl;
}

-- no kept gates
pub pairs-none : (first own : ℕ) (gates : List Gate) (lists : List ℕ) (rest : List (Gate × ℕ)) → pairs (record { first = first; own = own; gates = gates; before = []; lists = lists; rest = rest }) ≡ []
unfolding kept_pairs
pairs-none first own gates lists rest = refl

-- more lists, which are empty, hold what the lists held
module _ (k : Kept) (kept : AreKept k) (lists : List ℕ) (same : SameLists k.lists lists) where
  abbrev wider : Kept
  wider = record { first = k.first; own = k.own; gates = k.gates; before = k.before; lists = lists; rest = k.rest }

  same-last : (v : ℕ) → last_of wider v ≡ last_of k v
  unfolding last_of
  same-last v = ap (λ (l : ℕ). cond (nat_lt v k.first) 0 l) (same (v - k.first))

  -- a wider table has these gates on its lists
  pub AreKept-wider : AreKept wider
  AreKept-wider = record {
    few = kept.few;
    room = kept.room;
    last = λ place. omega (arith, same place, kept.last place);
    back = kept.back;
    found = λ gate.
        kept.found gate
        ∙ ap (λ (l : ℕ). or_else (on_list k.gates k.before k.own gate (length k.before) l) (lookup (same_fan_ins gate) k.rest)) (sym (same-last (variable gate.rhs0)));
  }

-- one more empty list
pub SameLists-push : (lists : List ℕ) → SameLists lists (lists ++ 0 ∷ [])
SameLists-push lists place = elim (cases_lt place (length lists)) [
  | inl less ↦ get_or_append_left lists (0 ∷ []) 0 place less
  | inr past ↦ (
      let none = get_or-eq_default {A = ℕ} lists 0 past in
      elim (cases_eq place (length lists)) [
        | inl at ↦ ap (λ (p : ℕ). get_or (lists ++ 0 ∷ []) p 0) at ∙ get_or-append_seam lists 0 [] 0 ∙ sym none
        | inr other ↦ get_or-eq_default (lists ++ 0 ∷ []) 0 (omega (arith, length_push lists 0, past, other)) ∙ sym none
      ])
]

-- lists that stay twice stay
pub SameLists-then : (first second third : List ℕ) → SameLists first second → SameLists second third → SameLists first third
SameLists-then first second third before after place = after place ∙ before place
