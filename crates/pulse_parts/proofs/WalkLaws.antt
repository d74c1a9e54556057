-- Read of the active nodes alone is Read of all.
use Rattle.std.proofs.Common.{◌≡◌, ℕ, suc, zero, ◌+◌, ◌-◌, ◌<◌, ◌≤◌, ◌&&◌, ◌==◌, ◌++◌, cond, Bool, true, false, List, [], ◌∷◌, length, slice_index, refl, arith, sym, ap, ◌∙◌, subst, inl, inr}
use Rattle.std.proofs.lemmas.Bool.{cases_Bool, cases_lt, cond-false, false≢true, and_left}
use Rattle.std.proofs.lemmas.List.{get_or-append_right, length-append}
use Rattle.std.proofs.Math.ListN.{get_or-append}
use Rattle.frame_net.proofs.SumLaws.{sum_below-le_const}
use Rattle.frame_net.specs.FlowNet.{FlowNet, node_count, start, head, IsFlowNet}
use Rattle.pulse_parts.specs.declared.node_list.NodeList.{NodeList}
use Rattle.pulse_parts.specs.Listing.{AreWithin, IsListed}
use Rattle.pulse_parts.specs.Parts.{Cells}
use Rattle.pulse_parts.specs.Reading.{RowsAreZero, Walks, WalksActive, active_below, arc_admissible, cells_active, cells_push}
use Rattle.pulse_parts.proofs.ReadRangeLaws.{read_none, read_then}

-- ---- lists

last_of : (list : List ℕ) (v : ℕ) → slice_index (list ++ v ∷ []) (length list) ≡ v
last_of list v = get_or-append_right list (v ∷ []) (length list) (length list) 0 refl (omega arith) ∙ at_first
  where
    at_first : slice_index (v ∷ []) (length list - length list) ≡ v
    at_first = let e : length list - length list ≡ 0 = omega arith in ap (λ (n : ℕ). slice_index (v ∷ []) n) e

listed_more : (list : List ℕ) (v w : ℕ) → IsListed list w → IsListed (list ++ v ∷ []) w
listed_more list v w l = record { place = l.place; inside = omega (arith, l.inside, length-append list (v ∷ [])); there = get_or-append list (v ∷ []) 0 l.place l.inside ∙ l.there }

listed_last : (list : List ℕ) (v w : ℕ) → w ≡ v → IsListed (list ++ v ∷ []) w
listed_last list v w e = record { place = length list; inside = omega (arith, length-append list (v ∷ [])); there = last_of list v ∙ sym e }

within_more : (list : List ℕ) (first low high v : ℕ) → AreWithin first low list → low ≤ high → first ≤ v → v < high → AreWithin first high (list ++ v ∷ [])
within_more list first low high v h up fv vh i l = elim (cases_lt i (length list)) [
  | inl lt ↦
      let same : slice_index (list ++ v ∷ []) i ≡ slice_index list i = get_or-append list (v ∷ []) 0 i lt in
      (omega (arith, same, (h i lt).0), omega (arith, same, (h i lt).1))
  | inr ge ↦
      let e : i ≡ length list = omega (arith, l, ge, length-append list (v ∷ [])) in
      let last : slice_index (list ++ v ∷ []) i ≡ v = ap (λ (n : ℕ). slice_index (list ++ v ∷ []) n) e ∙ last_of list v in
      (omega (arith, last), omega (arith, last))
]

-- ---- nodes that aren't active

-- a node that isn't active pushes nothing
pub idle_push : (net : FlowNet) (labels : List ℕ) (c : Cells) (v k : ℕ) → cells_active net labels c v ≡ false → cells_push net labels c v k ≡ 0
idle_push net labels c v k off =
    let none : arc_admissible net labels v (λ j. slice_index c.residuals (start net v + j)) (slice_index c.excess v) k ≡ 0 =
    cond-false {A = ℕ} (cells_active net labels c v && (slice_index labels (head net v k) + 1 == slice_index labels v)) (slice_index c.residuals (start net v + k)) 0
    (and_left (cells_active net labels c v) (slice_index labels (head net v k) + 1 == slice_index labels v) off) in
    omega (arith, none)

cond_one : (b : Bool) → cond b 1 0 ≤ 1
cond_one true = omega arith
cond_one false = omega arith

-- of the nodes below v at most v are active
pub active_few : (net : FlowNet) (labels : List ℕ) (c : Cells) (v : ℕ) → active_below net labels c v ≤ v
active_few net labels c v = omega (arith, sum_below-le_const v 1 (λ u. cond (cells_active net labels c u) 1 0) (λ u h. cond_one (cells_active net labels c u)))

-- an active node adds one to the number of active nodes below the next
pub active_on : (net : FlowNet) (labels : List ℕ) (c : Cells) (v : ℕ) → cells_active net labels c v ≡ true → active_below net labels c (v + 1) ≡ active_below net labels c v + 1
active_on net labels c v on =
    let e : v + 1 ≡ suc v = omega arith in
    ap (λ (x : ℕ). active_below net labels c x) e ∙ ap (λ (b : Bool). active_below net labels c v + cond {A = ℕ} b 1 0) on

-- none of the nodes from low up to high is active
pub active_flat : (net : FlowNet) (labels : List ℕ) (c : Cells) (low high : ℕ) → low ≤ high → ((v : ℕ) → low ≤ v → v < high → cells_active net labels c v ≡ false)
    → active_below net labels c high ≡ active_below net labels c low
active_flat net labels c low zero up off = let e : zero ≡ low = omega arith in ap (λ (x : ℕ). active_below net labels c x) e
active_flat net labels c low (suc high) up off = elim (cases_lt high low) [
  | inl lt ↦ let e : suc high ≡ low = omega arith in ap (λ (x : ℕ). active_below net labels c x) e
  | inr ge ↦
      let last : active_below net labels c (suc high) ≡ active_below net labels c high + 0 = ap (λ (b : Bool). active_below net labels c high + cond {A = ℕ} b 1 0) (off high ge (omega arith)) in
      omega (arith, last, active_flat net labels c low high ge (λ v lo hi. off v lo (omega arith)))
]

-- ---- a walk over rising nodes

-- over an empty range no node is walked
pub walks_none : (net : FlowNet) (labels : List ℕ) (base first : ℕ) (c : Cells) (xs : List ℕ) (list : NodeList) (walked : ℕ) → list.nodes.items ≡ [] → walked ≡ 0
    → WalksActive net labels base first first c xs xs list walked
walks_none net labels base first c xs list walked empty none = record {
  rows = read_none net labels base first c xs;
  within = λ h i l. absurd (omega (arith, l, ap length empty));
  listed = λ h v lo hi. absurd (omega (arith, lo, hi));
  counted = omega (arith, none);
}

-- an active node is walked
pub walks_on : (net : FlowNet) (labels : List ℕ) (base first v : ℕ) (c : Cells) (old mid new : List ℕ) (was now : NodeList) (before after : ℕ) → IsFlowNet net → base ≤ start net first → first ≤ v → v < node_count net
    → cells_active net labels c v ≡ true → WalksActive net labels base first v c old mid was before → Walks net labels base v c mid new was now before after
    → WalksActive net labels base first (v + 1) c old new now after
walks_on net labels base first v c old mid new was now before after ok from fv vn on w s = record {
  rows = read_then net labels base first v (v + 1) c old mid new ok from fv (omega arith) (omega (arith, vn)) w.rows s.row;
  within = λ h. subst (λ (t : List ℕ). AreWithin first (v + 1) t) (sym (s.listed h).1) (within_more was.nodes.items first v (v + 1) v (w.within (s.listed h).0) (omega arith) fv (omega arith));
  listed = λ h u lo hi a. subst (λ (t : List ℕ). IsListed t u) (sym (s.listed h).1) (elim (cases_lt u v) [
    | inl lt ↦ listed_more was.nodes.items v u (w.listed (s.listed h).0 u lo lt a)
    | inr ge ↦ listed_last was.nodes.items v u (omega (arith, ge, hi))
  ]);
  counted = omega (arith, s.counted, w.counted, active_on net labels c v on, active_few net labels c v, vn, ok.short);
}

-- the nodes from low up to high aren't active: their rows are 0s, as they were
pub walks_past : (net : FlowNet) (labels : List ℕ) (base first low high end : ℕ) (c : Cells) (old now : List ℕ) (list : NodeList) (walked : ℕ) → IsFlowNet net → base ≤ start net first → first ≤ low → low ≤ high → high ≤ end → end ≤ node_count net
    → RowsAreZero net base first end old → ((v : ℕ) → low ≤ v → v < high → cells_active net labels c v ≡ false) → WalksActive net labels base first low c old now list walked
    → WalksActive net labels base first high c old now list walked
walks_past net labels base first low high end c old now list walked ok from fl lh he en none off w = record {
  rows = record {
    same = w.rows.same;
    done = λ v k lo hi l. elim (cases_lt v low) [
      | inl lt ↦ w.rows.done v k lo lt l
      | inr ge ↦
          w.rows.kept (start net v + k - base) (inr (omega (arith, ok.rows low v ge (omega (arith, hi, he, en)))))
          ∙ (none v k lo (omega (arith, hi, he)) l ∙ sym (idle_push net labels c v k (off v ge hi)))
    ];
    kept = λ x out. w.rows.kept x (elim out [ inl lt ↦ inl lt | inr ge ↦ inr (omega (arith, ge, ok.rows low high lh (omega (arith, he, en)))) ]);
  };
  within = λ h i l. ((w.within h i l).0, omega (arith, (w.within h i l).1, lh));
  listed = λ h v lo hi a. elim (cases_lt v low) [ inl lt ↦ w.listed h v lo lt a | inr ge ↦ absurd (false≢true (sym (off v ge hi) ∙ a)) ];
  counted = omega (arith, w.counted, active_flat net labels c low high lh off);
}

-- one more node
pub walks_more : (net : FlowNet) (labels : List ℕ) (base first v end : ℕ) (c : Cells) (old mid new : List ℕ) (was now : NodeList) (before after : ℕ) → IsFlowNet net → base ≤ start net first → first ≤ v → v < end → end ≤ node_count net
    → RowsAreZero net base first end old → WalksActive net labels base first v c old mid was before
    → (cells_active net labels c v ≡ true → Walks net labels base v c mid new was now before after)
    → (cells_active net labels c v ≡ false → (new ≡ mid) × ((now ≡ was) × (after ≡ before)))
    → WalksActive net labels base first (v + 1) c old new now after
walks_more net labels base first v end c old mid new was now before after ok from fv ve en none w on off = elim (cases_Bool (cells_active net labels c v)) [
  | inl t ↦ walks_on net labels base first v c old mid new was now before after ok from fv (omega (arith, ve, en)) t w (on t)
  | inr f ↦
      subst (λ (x : ℕ). WalksActive net labels base first (v + 1) c old new now x) (sym (off f).1.1)
      (subst (λ (l : NodeList). WalksActive net labels base first (v + 1) c old new l before) (sym (off f).1.0)
      (subst (λ (xs : List ℕ). WalksActive net labels base first (v + 1) c old xs was before) (sym (off f).0)
      (walks_past net labels base first v (v + 1) end c old mid was before ok from fv (omega arith) (omega (arith, ve)) en none (λ u lo hi. at u (omega (arith, lo, hi)) f) w)))
]
  where
    at : (u : ℕ) → v ≡ u → cells_active net labels c v ≡ false → cells_active net labels c u ≡ false
    at u e f = subst (λ (x : ℕ). cells_active net labels c x ≡ false) e f
