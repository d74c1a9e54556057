-- Whether some node is active, by the lists of the parts or by all nodes.
use Rattle.std.proofs.Common.{◌≡◌, ℕ, suc, zero, ◌+◌, ◌-◌, ◌*◌, ◌<◌, ◌≤◌, ◌&&◌, nat_lt, cond, Bool, true, false, List, [], ◌∷◌, length, slice_index, get_or, drop, arith, refl, ap, sym, ◌∙◌, subst, inl, inr}
use Rattle.std.proofs.lemmas.Bool.{cases_lt, cases_Bool, cases_eq, false≢true, or_cases, or_from, or_left, or_parts, or_right}
use Rattle.frame_net.specs.Flow.{State, is_active, pulse, potential, sum_below, greatest_active_label, IsValid}
use Rattle.frame_net.proofs.SumLaws.{sum_below-le_const, term-le-sum_below, greatest_below-le}
use Rattle.frame_net.proofs.PotentialLaws.{potential_falls}
use Rattle.frame_net.specs.FlowNet.{FlowNet, node_count}
use Rattle.pulse_parts.specs.declared.parts.FlowPart.{FlowPart}
use Rattle.pulse_parts.specs.Listing.{ListActive, ListsActive}
use Rattle.pulse_parts.specs.Parts.{FlowPartFits, AreFlowParts, cells_of, pairs, Agree}
use Rattle.pulse_parts.specs.Runs.{any_below, any_active, HasActive, LacksActive}
use Rattle.pulse_parts.proofs.PartsLeftLaws.{Left, left_all, left_more, left_here, left_at}
use Rattle.pulse_parts.proofs.JoinedPartLaws.{by_node, excess_piece}
use Rattle.pulse_parts.proofs.AgreeingStateLaws.{active_same, potential_same}

-- if a number below n passes, some number below n does
pub any_from : (n : ℕ) (p : ℕ → Bool) (v : ℕ) → v < n → p v ≡ true → any_below n p ≡ true
any_from zero p v h e = absurd (omega arith)
any_from (suc n) p v h e = elim (cases_eq v n) [
  | inl same ↦ or_right (any_below n p) (p n) (ap p (sym same) ∙ e)
  | inr other ↦ or_left (any_below n p) (p n) (any_from n p v (omega (arith, other)) e)
]

-- if no number below n passes, it isn't so that some does
pub none_from : (n : ℕ) (p : ℕ → Bool) → ((v : ℕ) → v < n → p v ≡ false) → any_below n p ≡ false
none_from zero p e = refl
none_from (suc n) p e = or_from (any_below n p) (p n) (none_from n p (λ v h. e v (omega arith))) (e n (omega arith))

-- if it isn't so that some number below n passes, none does
pub none_at : (n : ℕ) (p : ℕ → Bool) → any_below n p ≡ false → (v : ℕ) → v < n → p v ≡ false
none_at zero p e v h = absurd (omega arith)
none_at (suc n) p e v h = let q = or_parts (any_below n p) (p n) e in elim (cases_eq v n) [
  | inl same ↦ ap p same ∙ q.1
  | inr other ↦ none_at n p q.0 v (omega (arith, other))
]

-- if some number below n passes, there is one
pub some_at : (n : ℕ) (p : ℕ → Bool) → any_below n p ≡ true → (v : ℕ) × ((v < n) × (p v ≡ true))
some_at zero p e = absurd (false≢true e)
some_at (suc n) p e = elim (or_cases (any_below n p) (p n) e) [
  | inl rest ↦ let r = some_at n p rest in (r.0, (omega (arith, r.1.0), r.1.1))
  | inr here ↦ (n, (omega arith, here))
]

any_same : (n : ℕ) (p q : ℕ → Bool) → ((v : ℕ) → v < n → p v ≡ q v) → any_below n p ≡ any_below n q
any_same zero p q e = refl
any_same (suc n) p q e = let a = any_same n p q (λ v h. e v (omega arith)) in let b = e n (omega arith) in cc

-- of states that agree both have an active node, or neither
pub any_active_same : (n : ℕ) (s t : State) → Agree n s t → any_active n s ≡ any_active n t
any_active_same n s t a = any_same n (is_active n s) (is_active n t) (active_same n s t a)

-- ---- parts without an active node

pub record Quiet (net : FlowNet) (labels : List ℕ) (all rest : List FlowPart) : Type 0 where
  -- the node at which the parts that are left begin
  pub from : ℕ
  -- these parts hold the nodes from there on
  pub left : Left (FlowPartFits net) (λ p. p.first) (λ p. p.end) (λ p. p.excess.items) (λ x. x) (node_count net) from all rest
  -- no node before is active
  pub none : (v : ℕ) → v < from → is_active (node_count net) (pairs net (cells_of all) labels) v ≡ false

-- before the first part no node is active
pub quiet_none : (net : FlowNet) (labels : List ℕ) (all : List FlowPart) → AreFlowParts net 0 all → Quiet net labels all all
quiet_none net labels all cut = record {
  from = 0;
  left = left_all (FlowPartFits net) (λ p. p.first) (λ p. p.end) (λ p. p.excess.items) (λ x. x) (node_count net) all (by_node (node_count net)) cut;
  none = λ v h. absurd (omega arith);
}

at_index : (net : FlowNet) (labels : List ℕ) (all : List FlowPart) (i : ℕ) (p : FlowPart) → i < length all → p ≡ get_or all i p
    → Quiet net labels all (drop i all) → Quiet net labels all (p ∷ drop (i + 1) all)
at_index net labels all i p h e t = subst (λ (rest : List FlowPart). Quiet net labels all rest) (left_at all i p h e) t

-- the next part is one of the network's flow
pub quiet_fits : (net : FlowNet) (labels : List ℕ) (all : List FlowPart) (i : ℕ) (p : FlowPart) → i < length all → p ≡ get_or all i p → Quiet net labels all (drop i all) → FlowPartFits net p
quiet_fits net labels all i p h e t = (at_index net labels all i p h e t).left.cut.1.0

here_active : (net : FlowNet) (labels : List ℕ) (all : List FlowPart) (p : FlowPart) (ps : List FlowPart) (nodes : ℕ) (b : Bool) → nodes ≡ node_count net → Quiet net labels all (p ∷ ps)
    → (v : ℕ) → p.first ≤ v → v < p.end → (nat_lt 1 v && nat_lt 0 (slice_index p.excess.items (v - p.first)) && nat_lt (slice_index labels v) nodes) ≡ b
    → is_active (node_count net) (pairs net (cells_of all) labels) v ≡ b
here_active net labels all p ps nodes b en t v lo hi e =
    ap (λ (x : ℕ). nat_lt 1 v && nat_lt 0 x && nat_lt (slice_index labels v) (node_count net))
    (left_here (FlowPartFits net) (λ q. q.first) (λ q. q.end) (λ q. q.excess.items) (λ x. x) (node_count net) t.from all p ps (by_node (node_count net)) (excess_piece net) t.left v lo hi)
    ∙ (ap (λ (n : ℕ). nat_lt 1 v && nat_lt 0 (slice_index p.excess.items (v - p.first)) && nat_lt (slice_index labels v) n) (sym en) ∙ e)

-- past a part without an active node none has been active so far
pub quiet_more : (net : FlowNet) (labels : List ℕ) (all : List FlowPart) (i : ℕ) (p : FlowPart) (nodes : ℕ) → nodes ≡ node_count net → i < length all → p ≡ get_or all i p → Quiet net labels all (drop i all)
    → LacksActive nodes labels p → Quiet net labels all (drop (i + 1) all)
quiet_more net labels all i p nodes en h e t0 lacks =
    let t = at_index net labels all i p h e t0 in
    record {
      from = p.end;
      left = left_more (FlowPartFits net) (λ q. q.first) (λ q. q.end) (λ q. q.excess.items) (λ x. x) (node_count net) t.from all p (drop (i + 1) all) (by_node (node_count net)) (excess_piece net) t.left;
      none = λ v l. elim (cases_lt v p.first) [
        | inl lt ↦ t.none v (omega (arith, t.left.cut.0))
        | inr ge ↦ here_active net labels all p (drop (i + 1) all) nodes false en t v ge l (lacks v ge l)
      ];
    }

-- past the last part no node is active
pub quiet_all : (net : FlowNet) (labels : List ℕ) (all rest : List FlowPart) → rest ≡ [] → Quiet net labels all rest → any_active (node_count net) (pairs net (cells_of all) labels) ≡ false
quiet_all net labels all rest e t =
    let end : AreFlowParts net t.from [] = subst (λ (r : List FlowPart). AreFlowParts net t.from r) e t.left.cut in
    none_from (node_count net) (is_active (node_count net) (pairs net (cells_of all) labels)) (λ v h. t.none v (omega (arith, end)))

-- if a part has an active node, some node of the state is active
pub loud : (net : FlowNet) (labels : List ℕ) (all : List FlowPart) (i : ℕ) (p : FlowPart) (nodes : ℕ) → nodes ≡ node_count net → i < length all → p ≡ get_or all i p → Quiet net labels all (drop i all)
    → HasActive nodes labels p → any_active (node_count net) (pairs net (cells_of all) labels) ≡ true
loud net labels all i p nodes en h e t0 has =
    let t = at_index net labels all i p h e t0 in
    let fit : FlowPartFits net p = t.left.cut.1.0 in
    any_from (node_count net) (is_active (node_count net) (pairs net (cells_of all) labels)) has.node (omega (arith, fit.within, has.high))
    (here_active net labels all p (drop (i + 1) all) nodes true en t has.node has.low has.high has.active)

-- the part's list, for the number of nodes as it was read
pub lists_next : (net : FlowNet) (labels : List ℕ) (all : List FlowPart) (i : ℕ) (p : FlowPart) (nodes : ℕ) → nodes ≡ node_count net → i < length all → p ≡ get_or all i p → ListActive (node_count net) labels all
    → ListsActive nodes labels p
lists_next net labels all i p nodes en h e lists =
    subst (λ (n : ℕ). ListsActive n labels p) (sym en) (subst (λ (q : FlowPart). ListsActive (node_count net) labels q) (sym e) (lists i p h))

-- ---- runs

-- what is left to do: nothing if no node is active
abbrev pub work : ℕ → State → ℕ
work n s = cond (any_active n s) (potential n s + 1) 0

work_on : (b : Bool) (x : ℕ) → b ≡ true → cond b x 0 ≡ x
work_on true x h = refl
work_on false x h = absurd (false≢true h)

work_off : (b : Bool) (x : ℕ) → b ≡ false → cond b x 0 ≡ 0
work_off true x h = absurd (false≢true (sym h))
work_off false x h = refl

-- states that agree have equal work left to do
pub work_same : (n : ℕ) (s t : State) → Agree n s t → work n s ≡ work n t
work_same n s t a = ap (λ (b : Bool). cond b (potential n s + 1) 0) (any_active_same n s t a) ∙ ap (λ (x : ℕ). cond (any_active n t) (x + 1) 0) (potential_same n s t a)

-- a pulse from a state with an active node leaves less to do
pub work_falls : (n : ℕ) (s : State) → IsValid n s → any_active n s ≡ true → work n (pulse n s) < work n s
work_falls n s ok on = elim (cases_Bool (any_active n (pulse n s))) [
  | inl t ↦
      let w = some_at n (is_active n (pulse n s)) t in
      let fall : potential n (pulse n s) < potential n s = potential_falls n s ok w.0 w.1.0 w.1.1 in
      omega (arith, fall, work_on (any_active n s) (potential n s + 1) on, work_on (any_active n (pulse n s)) (potential n (pulse n s) + 1) t)
  | inr f ↦ omega (arith, work_on (any_active n s) (potential n s + 1) on, work_off (any_active n (pulse n s)) (potential n (pulse n s) + 1) f)
]

cond_le : (b : Bool) (x m : ℕ) → x ≤ m → cond b x 0 ≤ m
cond_le true x m h = h
cond_le false x m h = omega arith

-- the work at a valid state
pub work_bound : (n : ℕ) (s : State) → 1 < n → IsValid n s → work n s ≤ 2 * (n * n)
work_bound n s two ok =
    let labels : n ≤ sum_below n s.label = omega (arith, term-le-sum_below n 0 s.label (omega arith), ok.source) in
    let top : greatest_active_label n s ≤ n = greatest_below-le n (λ v. cond (is_active n s v) (s.label v) 0) n (λ v h. cond_le (is_active n s v) (s.label v) n (ok.small v h)) in
    let most : sum_below n s.label ≤ n * n = sum_below-le_const n n s.label ok.small in
    cond_le (any_active n s) (potential n s + 1) (2 * (n * n)) (omega (arith, labels, top, most))
