-- The set of the gates off the marks.
use Rattle.std.proofs.Common.{◌≡◌, ℕ, suc, zero, ◌+◌, ◌<◌, ◌==◌, nat_lt, Bool, true, false, not, ◌&&◌, ◌||◌, List, [], ◌∷◌, ◌++◌, length, get_or, arith, refl, ap, ap₂, sym, ◌∙◌, inl, inr}
use Rattle.std.proofs.lemmas.Bool.{cases_Bool, cases_lt, cases_eq, eq-eqb, ne_eqb, lt-ltb, le-ltb, and_left, and_right}
use Rattle.aig_graph.specs.Counting.{places}
use Rattle.aig_graph.specs.Marking.{has, mark_at}
use Rattle.aig_graph.proofs.PlacesLaws.{places-pass, places-fail, places-zero}
use Rattle.aig_graph.proofs.CountingLaws.{places-none}
use Rattle.aig_graph.proofs.MemberLaws.{has-push}
use Rattle.aig_graph.specs.Graph.{first_latch, first_gate, variables_end}
use Rattle.aig_graph.specs.Circuits.{Netlist}
use Rattle.frame_net.specs.Passable.{is_passable}
use Rattle.frame_net.proofs.PassableLaws.{passable-before, passable-past}
use Rattle.unit_flows.specs.Shown.{is_off}
use Rattle.unit_flows.proofs.FrameLaws.{mark-at-place}

-- what holds below n and at n holds below n + 1
pub all-more : (P : ℕ → Type 0) (n : ℕ) → ((i : ℕ) → i < n → P i) → P n → (i : ℕ) → i < n + 1 → P i
all-more P n before here i h = elim (cases_eq i n) [
  | inl same ↦ rw same here
  | inr other ↦ before i (omega (arith, h, other))
]

-- a member of the places passes, and is below the bound
has-places : (p : ℕ → Bool) (n v : ℕ) → has (places p n) v ≡ (p v && nat_lt v n)
has-places p zero v = ap (λ (xs : List ℕ). has xs v) (places-zero p) ∙ sym (and_right (p v) (nat_lt v 0) (le-ltb v 0 (omega arith)))
has-places p (suc n) v = elim (cases_Bool (p n)) [
  | inl good ↦ ap (λ (xs : List ℕ). has xs v) (places-pass p n good) ∙ has-push (places p n) n v ∙ ap (λ (b : Bool). b || (n == v)) (has-places p n v) ∙ passing good
  | inr fails ↦ ap (λ (xs : List ℕ). has xs v) (places-fail p n fails) ∙ has-places p n v ∙ failing fails
]
  where
    above : nat_lt v n ≡ nat_lt v (suc n) → (p v && nat_lt v n) ≡ (p v && nat_lt v (suc n))
    above e = ap (λ (b : Bool). p v && b) e

    or-off : (a b : Bool) → b ≡ false → (a || b) ≡ a
    or-off true b e = refl
    or-off false b e = e

    or-on : (a b : Bool) → b ≡ true → (a || b) ≡ true
    or-on true b e = refl
    or-on false b e = e

    both-on : (a b : Bool) → a ≡ true → b ≡ true → true ≡ (a && b)
    both-on true true e f = refl
    both-on true false e f = absurd (cc)
    both-on false b e f = absurd (cc)

    same-below : (v ≡ n → ⊥) → nat_lt v n ≡ nat_lt v (suc n)
    same-below other = elim (cases_lt v n) [
      | inl low ↦ lt-ltb v n low ∙ sym (lt-ltb v (suc n) (omega (arith, low)))
      | inr high ↦ le-ltb v n high ∙ sym (le-ltb v (suc n) (omega (arith, high, other)))
    ]

    passing : p n ≡ true → ((p v && nat_lt v n) || (n == v)) ≡ (p v && nat_lt v (suc n))
    passing good = elim (cases_eq v n) [
      | inl same ↦ or-on (p v && nat_lt v n) (n == v) (eq-eqb n v (sym same)) ∙ both-on (p v) (nat_lt v (suc n)) (ap p same ∙ good) (lt-ltb v (suc n) (omega (arith, same)))
      | inr other ↦ or-off (p v && nat_lt v n) (n == v) (ne_eqb n v (λ e. other (sym e))) ∙ above (same-below other)
    ]

    failing : p n ≡ false → (p v && nat_lt v n) ≡ (p v && nat_lt v (suc n))
    failing fails = elim (cases_eq v n) [
      | inl same ↦ and_left (p v) (nat_lt v n) (ap p same ∙ fails) ∙ sym (and_left (p v) (nat_lt v (suc n)) (ap p same ∙ fails))
      | inr other ↦ above (same-below other)
    ]

-- the places of the gates off the marks are just these
pub off-members : (c : Netlist) (held : List ℕ) (before : ℕ → Bool) (vars : List ℕ) (v : ℕ) → vars ≡ places (is_off c held before) (variables_end c.aig) → has vars v ≡ is_off c held before v
off-members c held before vars v listed = ap (λ (xs : List ℕ). has xs v) listed ∙ has-places (is_off c held before) (variables_end c.aig) v ∙ elim (cases_lt v (variables_end c.aig)) [
  | inl low ↦ ap (λ (b : Bool). is_off c held before v && b) (lt-ltb v (variables_end c.aig) low) ∙ and-true (is_off c held before v)
  | inr high ↦ (
      let none : is_off c held before v ≡ false = and_left (is_passable c.aig held v) (not (before v)) (passable-past c.aig held v high) in
      and_left (is_off c held before v) (nat_lt v (variables_end c.aig)) none ∙ sym none)
]
  where
    and-true : (b : Bool) → (b && true) ≡ b
    and-true true = refl
    and-true false = refl

-- ---- the list of them, place by place

-- no gate off the marks lies before the first gate
pub off-start : (c : Netlist) (held : List ℕ) (before : ℕ → Bool) → places (is_off c held before) (first_gate c.aig + 0) ≡ []
off-start c held before = places-none (is_off c held before) (first_gate c.aig + 0) (λ v low. and_left (is_passable c.aig held v) (not (before v)) (passable-before c.aig held v (omega (arith, low))))

-- what is read at a gate says whether it lies off the marks
pub off-here : (c : Netlist) (held : List ℕ) (xs : List Bool) (k n : ℕ) (passes marked : Bool) → n ≡ length c.aig.latches → passes ≡ is_passable c.aig held (first_gate c.aig + k) → marked ≡ get_or xs (n + k) false
    → is_off c held (mark_at (first_latch c.aig) xs) (first_gate c.aig + k) ≡ (passes && not marked)
off-here c held xs k n passes marked long pass read =
    let at : first_latch c.aig + (n + k) ≡ first_gate c.aig + k = omega (arith, long) in
    ap₂ (λ (p m : Bool). p && not m) (sym pass) (ap (λ (v : ℕ). mark_at (first_latch c.aig) xs v) (sym at) ∙ mark-at-place (first_latch c.aig) xs (n + k) ∙ sym read)

-- the list of passing variables up to a place, with the variable there if that passes, is the list
-- up to the next place
pub off-pass : (p : ℕ → Bool) (first place var : ℕ) (vars new : List ℕ) → var ≡ first + place → p var ≡ true → vars ≡ places p (first + place) → new ≡ vars ++ var ∷ [] → new ≡ places p (first + (place + 1))
off-pass p first place var vars new at passes listed pushed =
    let next : first + (place + 1) ≡ suc (first + place) = omega arith in
    pushed ∙ ap₂ (λ (xs : List ℕ) (v : ℕ). xs ++ v ∷ []) listed at ∙ sym (places-pass p (first + place) (sym (ap p at) ∙ passes)) ∙ ap (λ (n : ℕ). places p n) (sym next)

-- the list of passing variables up to a place is the list up to the next place if the variable
-- there doesn't pass
pub off-fail : (p : ℕ → Bool) (first place var : ℕ) (vars new : List ℕ) → var ≡ first + place → p var ≡ false → vars ≡ places p (first + place) → new ≡ vars → new ≡ places p (first + (place + 1))
off-fail p first place var vars new at fails listed same =
    let next : first + (place + 1) ≡ suc (first + place) = omega arith in
    same ∙ listed ∙ sym (places-fail p (first + place) (sym (ap p at) ∙ fails)) ∙ ap (λ (n : ℕ). places p n) (sym next)
