-- What a worker gives back, and what its outcomes fill.
use Rattle.std.proofs.Common.{◌≡◌, ◌≢◌, ℕ, zero, suc, ◌+◌, ◌<◌, ◌≤◌, cond, List, [], ◌∷◌, ◌++◌, length, get_or, map, reverse, set, All, IfOk, Result, Option, Some, None, refl, sym, ap, ◌∙◌, subst, arith, append_assoc, get_or-set_same, get_or-set_other}
use Rattle.std.specs.Prelude.{is_some}
use Rattle.std.proofs.lemmas.List.{get_or-map, length-map, reverse-append}
use Rattle.std.proofs.lemmas.Result.{IfOk-weaker}
use mathlib.Core.Logic.{dite}
use mathlib.Core.List.{map-append}
use native.Mathlib.Decide.{ℕ_discrete, dec_le}
use Rattle.batch_pool.specs.declared.draws.Drawer.{Drawer}
use Rattle.batch_pool.specs.Drawing.{drawn, times_drawn}
use Rattle.batch_pool.specs.Rule.{times, is_it}
use Rattle.batch_pool.proofs.WeightLaws.{weigh_snoc, total_snoc, is_it_else}
use Rattle.batch_pool.specs.declared.share.Numbered.{Numbered}
use Rattle.batch_pool.specs.Sharing.{numbers, filled, IsFilled, IsOutcome, AreSlots}

module _ {X : Type 0} where
  numbers_snoc : (xs : List (Numbered X)) (n : Numbered X) → numbers (xs ++ n ∷ []) ≡ numbers xs ++ n.number ∷ []
  numbers_snoc xs n = map-append (λ (m : Numbered X). m.number) xs (n ∷ [])

  -- a worker's next outcome
  pub next_number : (was now : List ℕ) (xs ys : List (Numbered X)) (n : Numbered X) (k : ℕ) → k ≡ n.number → was ≡ numbers xs → now ≡ was ++ k ∷ [] → ys ≡ xs ++ n ∷ [] → now ≡ numbers ys
  next_number was now xs ys n k num is drew pushed =
      drew ∙ (ap (λ (l : List ℕ). l ++ k ∷ []) is ∙ (ap (λ (j : ℕ). numbers xs ++ j ∷ []) num ∙ (sym (numbers_snoc xs n) ∙ sym (ap numbers pushed))))

  -- a last draw that is no job changes no count of a job
  pub same_jobs : (jobs n : ℕ) (was now : List ℕ) (xs : List (Numbered X)) → was ≡ numbers xs → now ≡ was ++ n ∷ [] → jobs ≤ n → (x : ℕ) → x < jobs → times x now ≡ times x (numbers xs)
  same_jobs jobs n was now xs is drew past x lt =
      let a = weigh_snoc (is_it x) was n in let e = is_it_else x n (λ same. omega (arith, same, past, lt)) in
      let d : times x now ≡ times x (was ++ n ∷ []) = ap (times x) drew in let w : times x was ≡ times x (numbers xs) = ap (times x) is in omega (arith, a, e, d, w)

  filled_here : (slots : List (Option X)) (k : ℕ) (x : X) → k < length slots → filled (set slots k (Some x)) k ≡ 1
  filled_here slots k x lt = ap (λ (o : Option X). cond {A = ℕ} (is_some o) 1 0) (get_or-set_same slots k (Some x) None lt)

  filled_else : (slots : List (Option X)) (k i : ℕ) (x : X) → k ≢ i → filled (set slots i (Some x)) k ≡ filled slots k
  filled_else slots k i x ne = ap (λ (o : Option X). cond {A = ℕ} (is_some o) 1 0) (get_or-set_other slots i k (Some x) None ne)

  -- one outcome more in its slot
  pub put_covers : (slots now : List (Option X)) (left rest : List (Numbered X)) (n : Numbered X) → n.number < length slots → left ≡ rest ++ n ∷ [] → now ≡ set slots n.number (Some n.outcome)
      → (k : ℕ) → 0 < times k (numbers left) + filled slots k → 0 < times k (numbers rest) + filled now k
  put_covers slots now left rest n lt is put k some_there =
      let f : filled now k ≡ filled (set slots n.number (Some n.outcome)) k = ap (λ (s : List (Option X)). filled s k) put in
      dite (ℕ_discrete k n.number)
      (λ here. let e = filled_here slots n.number n.outcome lt in let e' : filled (set slots n.number (Some n.outcome)) k ≡ filled (set slots n.number (Some n.outcome)) n.number = ap (filled (set slots n.number (Some n.outcome))) here in omega (arith, e, e', f))
      (λ apart. let e = filled_else slots k n.number n.outcome apart in
      let l : times k (numbers left) ≡ times k (numbers rest ++ n.number ∷ []) = ap (times k) (ap numbers is ∙ numbers_snoc rest n) in
      let a = weigh_snoc (is_it k) (numbers rest) n.number in let z = is_it_else k n.number (λ same. apart (sym same)) in omega (arith, e, l, a, z, f, some_there))

-- within a list the element at a place doesn't depend on what stands for none
pub same_at : {A : Type 0} (l : List A) (k : ℕ) (d e : A) → k < length l → get_or l k d ≡ get_or l k e
same_at [] k d e lt = absurd (omega arith)
same_at (x ∷ xs) zero d e lt = refl
same_at (x ∷ xs) (suc k) d e lt = same_at xs k d e (omega (arith, lt))

-- what holds of all elements and of one more holds of all of the longer list
pub all_snoc : {A : Type 0} (P : A → Type 0) (xs : List A) (x : A) → All P xs → P x → All P (xs ++ x ∷ [])
all_snoc P [] x h p zero d lt = p
all_snoc P [] x h p (suc k) d lt = absurd (omega (arith, lt))
all_snoc P (y ∷ ys) x h p zero d lt = h zero d (omega arith)
all_snoc P (y ∷ ys) x h p (suc k) d lt = all_snoc P ys x (λ j e less. h (suc j) e (omega (arith, less))) p k d (omega (arith, lt))

abbrev out_of : {X : Type 0} → X → Option X → X
out_of d (Some x) = x
out_of d None = d

-- one outcome more in its slot, which is one of its job
pub put_slots : {X : Type 0} (gives : ℕ → X → Type 0) (slots now : List (Option X)) (n : Numbered X) → AreSlots gives slots → IsOutcome gives (length slots) n
    → now ≡ set slots n.number (Some n.outcome) → AreSlots gives now
put_slots {X} gives slots now n were one put k x e =
    let at : get_or (set slots n.number (Some n.outcome)) k None ≡ Some x = ap (λ (s : List (Option X)). get_or s k None) (sym put) ∙ e in
    dite (ℕ_discrete k n.number)
    (λ here. let there : get_or (set slots n.number (Some n.outcome)) n.number None ≡ Some x = ap (λ (i : ℕ). get_or (set slots n.number (Some n.outcome)) i None) (sym here) ∙ at in
    let is : Some n.outcome ≡ Some x = sym (get_or-set_same slots n.number (Some n.outcome) None one.0) ∙ there in
    subst (λ (y : X). gives k y) (ap (out_of n.outcome) is) (subst (λ (i : ℕ). gives i n.outcome) (sym here) one.1))
    (λ apart. were k x (sym (get_or-set_other slots n.number k (Some n.outcome) None apart) ∙ at))

module _ {X : Type 0} where
  -- one worker's outcomes more
  pub share_covers : (jobs : ℕ) (slots now : List (Option X)) (back more : List Drawer) (d : Drawer) (done : List (Numbered X)) → more ≡ back ++ d ∷ []
      → ((x : ℕ) → x < jobs → times x (drawn d) ≡ times x (numbers done))
      → ((k : ℕ) → 0 < times k (numbers done) + filled slots k → 0 < filled now k)
      → ((k : ℕ) → k < jobs → 0 < times_drawn k back → 0 < filled slots k)
      → (k : ℕ) → k < jobs → 0 < times_drawn k more → 0 < filled now k
  share_covers jobs slots now back more d done is numbered puts was k lt some_there =
      let m : times_drawn k more ≡ times_drawn k (back ++ d ∷ []) = ap (times_drawn k) is in
      let t = total_snoc (λ (e : Drawer). times k (drawn e)) back d in
      let e = numbered k lt in
      dite (dec_le 1 (times k (numbers done)))
      (λ here. puts k (omega (arith, here)))
      (λ none. puts k (omega (arith, was k lt (omega (arith, m, t, e, none, some_there)))))

-- if each slot of a list counts as filled, all are filled
pub all_filled : {X : Type 0} (slots : List (Option X)) → ((k : ℕ) → k < length slots → 0 < filled slots k) → All IsFilled slots
all_filled slots h k d lt = subst IsFilled (same_at slots k None d lt) (h k lt)

no_outcome : {X : Type 0} (x : X) → None ≡ Some x → ⊥
no_outcome x e = cc

-- empty slots have no outcome of another job
pub empty_are_slots : {X : Type 0} (gives : ℕ → X → Type 0) (slots : List (Option X)) → ((k : ℕ) → get_or slots k None ≡ None) → AreSlots gives slots
empty_are_slots gives slots none k x e = absurd (no_outcome x (sym (none k) ∙ e))

empty_and_one : {X : Type 0} (slots : List (Option X)) → ((k : ℕ) → get_or slots k None ≡ None) → (k : ℕ) → get_or (slots ++ None ∷ []) k None ≡ None
empty_and_one [] none zero = refl
empty_and_one [] none (suc k) = refl
empty_and_one (slot ∷ slots) none zero = none zero
empty_and_one (slot ∷ slots) none (suc k) = empty_and_one slots (λ j. none (suc j)) k

-- one empty slot more
pub still_empty : {X : Type 0} (slots now : List (Option X)) → now ≡ slots ++ None ∷ [] → ((k : ℕ) → get_or slots k None ≡ None) → (k : ℕ) → get_or now k None ≡ None
still_empty {X} slots now pushed none k = ap (λ (l : List (Option X)). get_or l k None) pushed ∙ empty_and_one slots none k

-- ---- the outcomes without their slots

-- the last outcome is taken out of its slot
pub unwrapped_one : {X : Type 0} (whole left rest : List (Option X)) (slot : Option X) (was now : List X) (x : X) → left ≡ rest ++ slot ∷ [] → slot ≡ Some x
    → now ≡ was ++ x ∷ [] → left ++ map Some (reverse was) ≡ whole → rest ++ map Some (reverse now) ≡ whole
unwrapped_one {X} whole left rest slot was now x is some pushed so_far =
    ap (λ (l : List X). rest ++ map Some (reverse l)) pushed
    ∙ (ap (λ (l : List X). rest ++ map Some l) (reverse-append was (x ∷ []))
    ∙ (sym (append_assoc rest (Some x ∷ []) (map Some (reverse was)))
    ∙ (ap (λ (o : Option X). (rest ++ o ∷ []) ++ map Some (reverse was)) (sym some) ∙ (ap (λ (l : List (Option X)). l ++ map Some (reverse was)) (sym is) ∙ so_far))))

value_at : {X : Type 0} (values : List X) (slots : List (Option X)) (jobs k : ℕ) (x : X) → map Some values ≡ slots → length slots ≡ jobs → k < jobs
    → get_or slots k None ≡ Some (get_or values k x)
value_at {X} values slots jobs k x is len lt =
    let same : length (map Some values) ≡ length slots = ap length is in
    ap (λ (s : List (Option X)). get_or s k None) (sym is) ∙ get_or-map Some values k x None (omega (arith, lt, len, same, length-map values Some))

-- what was taken out of a slot for each job has an outcome for each job
pub ordered_len : {X V E : Type 0} (items : V → List X) (slots : List (Option X)) (jobs : ℕ) (r : Result V E) → length slots ≡ jobs
    → IfOk r (λ v. map Some (items v) ≡ slots) → IfOk r (λ v. length (items v) ≡ jobs)
ordered_len items slots jobs r len was =
    IfOk-weaker r (λ v. map Some (items v) ≡ slots) (λ v. length (items v) ≡ jobs) (λ v is. sym (length-map (items v) Some) ∙ (ap length is ∙ len)) was

-- the k-th is an outcome of job k
pub ordered : {X V E : Type 0} (gives : ℕ → X → Type 0) (items : V → List X) (slots : List (Option X)) (jobs : ℕ) (r : Result V E) → length slots ≡ jobs
    → AreSlots gives slots → IfOk r (λ v. map Some (items v) ≡ slots) → IfOk r (λ v. (k : ℕ) (x : X) → k < jobs → gives k (get_or (items v) k x))
ordered {X} gives items slots jobs r len are was =
    IfOk-weaker r (λ v. map Some (items v) ≡ slots) (λ v. (k : ℕ) (x : X) → k < jobs → gives k (get_or (items v) k x))
    (λ v is k x lt. are k (get_or (items v) k x) (value_at (items v) slots jobs k x is len lt)) was
