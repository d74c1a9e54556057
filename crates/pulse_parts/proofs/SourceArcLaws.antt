-- The arcs at the source: those out of it, and their mates.
use Rattle.std.proofs.Common.{◌≡◌, ℕ, zero, suc, ◌+◌, ◌-◌, ◌<◌, ◌≤◌, ◌==◌, nat_lt, length, slice_index, arith, refl, ap, sym, ◌∙◌, subst, inl, inr, ◌⊎◌}
use Rattle.std.proofs.lemmas.Bool.{cases_lt, cases_eq, lt-ltb, le-ltb, eq-eqb, ne_eqb, or_from, cond-true, cond-false}
use Rattle.frame_net.specs.FlowNet.{FlowNet, node_count, start, row_len, head, mate, cap_at, HasMate, IsFlowNet, IsStartable}
use Rattle.pulse_parts.specs.Start.{start_res, start_excess}
use Rattle.pulse_parts.proofs.StartLaws.{stays, source_excess, no_excess}

same-place : (net : FlowNet) (v j k : ℕ) → IsFlowNet net → v < node_count net → j < row_len net v → k < row_len net v → head net v j ≡ head net v k → j ≡ k
same-place net v j k ok vn jl kl e = elim (cases_lt j k) [
  | inl lt ↦ absurd (omega (arith, ok.heads_rise v j k vn lt kl, e))
  | inr ge ↦ elim (cases_lt k j) [
    | inl lt ↦ absurd (omega (arith, ok.heads_rise v k j vn lt jl, e))
    | inr le ↦ omega (arith, ge, le)
  ]
]

-- the mate of the mate of an arc is the arc
mate-back : (net : FlowNet) (v k h m : ℕ) → IsFlowNet net → v < node_count net → k < row_len net v → head net v k ≡ h → m < row_len net h → mate net v k ≡ start net h + m → head net h m ≡ v
    → mate net h m ≡ start net v + k
mate-back net v k h m ok vn kl eh ml em back =
    let hn : h < node_count net = omega (arith, ok.heads_in v k vn kl, eh) in
    let q : HasMate net h m = ok.meets h m hn ml in
    let inside : q.place < row_len net v = subst (λ (x : ℕ). q.place < row_len net x) back q.inside in
    let there : mate net h m ≡ start net v + q.place = q.arc ∙ ap (λ (x : ℕ). start net x + q.place) back in
    let same : head net v q.place ≡ h = subst (λ (x : ℕ). head net x q.place ≡ h) back q.back in
    omega (arith, there, same-place net v q.place k ok vn inside kl (same ∙ sym eh))

row-of : (net : FlowNet) (n a : ℕ) → IsFlowNet net → a < start net n → (v : ℕ) × (v < n) × (start net v ≤ a) × (a < start net (v + 1))
row-of net zero a ok lt = absurd (omega (arith, ok.first, lt))
row-of net (suc n) a ok lt = elim (cases_lt a (start net n)) [
  | inl low ↦ (let r = row-of net n a ok low in (r.0, omega (arith, r.1), r.2, r.3))
  | inr ge ↦ (n, omega arith, ge, subst (λ (x : ℕ). a < start net x) (omega arith) lt)
]

-- an arc that the first n arcs out of the source and their mates leave out
abbrev pub Away : FlowNet → ℕ → ℕ → Type 0
Away net a n = (j : ℕ) → j < n → (j ≡ a → ⊥) × (slice_index net.mates j ≡ a → ⊥)

-- the residual of arc a, once the first n arcs out of the source and their mates have theirs
abbrev pub Holds : FlowNet → ℕ → ℕ → ℕ → Type 0
Holds net r a n = (r ≡ start_res net a) ⊎ ((r ≡ cap_at net a) × Away net a n)

-- before any arc of the source is filled, each arc has its capacity
pub holds-none : (net : FlowNet) (r a : ℕ) → r ≡ cap_at net a → Holds net r a 0
holds-none net r a e = inr (e, λ j h. absurd (omega (arith, h)))

-- an arc out of the source has no residual at the start
pub out-zero : (net : FlowNet) (a : ℕ) → a < start net 1 → 0 ≡ start_res net a
out-zero net a h = sym (cond-true (nat_lt a (start net 1)) 0 _ (lt-ltb a (start net 1) h))

-- the mate of an arc out of the source has both capacities at the start
pub into-both : (net : FlowNet) (n : ℕ) → IsFlowNet net → IsStartable net → n < start net 1 → cap_at net n + cap_at net (slice_index net.mates n) ≡ start_res net (slice_index net.mates n)
into-both net n ok s h =
    let some : 0 < node_count net = omega (arith, ok.two) in
    let nl : n < row_len net 0 = omega (arith, ok.first, h) in
    let n_is : start net 0 + n ≡ n = omega (arith, ok.first) in
    let p : HasMate net 0 n = ok.meets 0 n some nl in
    let m : ℕ = slice_index net.mates n in
    let m_is : m ≡ start net (head net 0 n) + p.place = ap (λ (x : ℕ). slice_index net.mates x) (sym n_is) ∙ p.arc in
    let above : 0 < head net 0 n = s.no_loop n nl in
    let late : start net 1 ≤ m = omega (arith, ok.rows 1 (head net 0 n) (omega (arith, above)) (omega (arith, ok.heads_in 0 n some nl)), m_is) in
    let home : slice_index net.heads m ≡ 0 = ap (λ (x : ℕ). slice_index net.heads x) m_is ∙ p.back in
    let back : slice_index net.mates m ≡ n = ap (λ (x : ℕ). slice_index net.mates x) m_is ∙ mate-back net 0 n (head net 0 n) p.place ok some nl refl p.inside p.arc p.back ∙ n_is in
    let value : start_res net m ≡ cap_at net m + cap_at net (slice_index net.mates m) =
    cond-false (nat_lt m (start net 1)) 0 _ (le-ltb m (start net 1) late) ∙ cond-true (slice_index net.heads m == 0) _ _ (eq-eqb (slice_index net.heads m) 0 home) in
    let turned : cap_at net (slice_index net.mates m) ≡ cap_at net n = ap (λ (x : ℕ). cap_at net x) back in
    omega (arith, value, turned)

-- an arc that is left out by all of them has its capacity
pub holds-all : (net : FlowNet) (r a : ℕ) → IsFlowNet net → a < length net.heads → Holds net r a (start net 1) → r ≡ start_res net a
holds-all net r a ok inside (inl done) = done
holds-all net r a ok inside (inr left) =
    let late : start net 1 ≤ a = elim (cases_lt a (start net 1)) [ inl lt ↦ absurd ((left.1 a lt).0 refl) | inr ge ↦ ge ] in
    left.0 ∙ stays net a (or_from (nat_lt a (start net 1)) (slice_index net.heads a == 0) (le-ltb a (start net 1) late) (ne_eqb (slice_index net.heads a) 0 (away late)))
  where
    away : start net 1 ≤ a → slice_index net.heads a ≡ 0 → ⊥
    away late home =
        let some : 0 < node_count net = omega (arith, ok.two) in
        let r = row-of net (node_count net) a ok (omega (arith, inside, ok.last)) in
        let k : ℕ = a - start net r.0 in
        let a_is : start net r.0 + k ≡ a = omega (arith, r.2) in
        let kl : k < row_len net r.0 = omega (arith, r.2, r.3) in
        let zero' : head net r.0 k ≡ 0 = ap (λ (x : ℕ). slice_index net.heads x) a_is ∙ home in
        let p : HasMate net r.0 k = ok.meets r.0 k r.1 kl in
        let pl : p.place < row_len net 0 = subst (λ (x : ℕ). p.place < row_len net x) zero' p.inside in
        let pa : mate net r.0 k ≡ start net 0 + p.place = p.arc ∙ ap (λ (x : ℕ). start net x + p.place) zero' in
        let pb : head net 0 p.place ≡ r.0 = subst (λ (x : ℕ). head net x p.place ≡ r.0) zero' p.back in
        let turned : mate net 0 p.place ≡ start net r.0 + k = mate-back net r.0 k 0 p.place ok r.1 kl zero' pl pa pb in
        let at : start net 0 + p.place ≡ p.place = omega (arith, ok.first) in
        (left.1 p.place (omega (arith, pl, ok.first))).1 (ap (λ (x : ℕ). slice_index net.mates x) (sym at) ∙ turned ∙ a_is)

-- one more arc out of the source
pub holds-next : (net : FlowNet) (old mid new a n : ℕ) → IsFlowNet net → IsStartable net → n < start net 1 → Holds net old a n
    → (a ≡ n → mid ≡ 0) → ((a ≡ n → ⊥) → mid ≡ old)
    → (a ≡ slice_index net.mates n → new ≡ cap_at net n + cap_at net (slice_index net.mates n)) → ((a ≡ slice_index net.mates n → ⊥) → new ≡ mid)
    → Holds net new a (n + 1)
holds-next net old mid new a n ok s h held at_out off_out at_in off_in = elim (cases_eq a (slice_index net.mates n)) [
  | inl is ↦ inl (at_in is ∙ into-both net n ok s h ∙ ap (λ (x : ℕ). start_res net x) (sym is))
  | inr no_mate ↦ elim (cases_eq a n) [
    | inl is ↦ inl (off_in no_mate ∙ at_out is ∙ out-zero net n h ∙ ap (λ (x : ℕ). start_res net x) (sym is))
    | inr no_arc ↦ keep held (off_in no_mate ∙ off_out no_arc) no_arc no_mate
  ]
]
  where
    keep : Holds net old a n → new ≡ old → (a ≡ n → ⊥) → (a ≡ slice_index net.mates n → ⊥) → Holds net new a (n + 1)
    keep (inl done) same no_arc no_mate = inl (same ∙ done)
    keep (inr left) same no_arc no_mate = inr (
      same ∙ left.0,
      λ j k. elim (cases_lt j n) [
        | inl lt ↦ left.1 j lt
        | inr ge ↦ (let e : j ≡ n = omega (arith, ge, k) in (λ q. no_arc (sym q ∙ e), λ q. no_mate (sym q ∙ ap (λ (x : ℕ). slice_index net.mates x) e)))
      ],
    )

-- the excess of a node, once the first n arcs out of the source are full
abbrev pub Filled : FlowNet → ℕ → ℕ → ℕ → Type 0
Filled net e v n = (e ≡ start_excess net v) ⊎ ((e ≡ 0) × ((j : ℕ) → j < n → slice_index net.heads j ≡ v → ⊥))

-- before any arc of the source is filled, each node has no excess
pub filled-none : (net : FlowNet) (e v : ℕ) → e ≡ 0 → Filled net e v 0
filled-none net e v z = inr (z, λ j h. absurd (omega (arith, h)))

-- the mate of an arc out of the source is the first arc of its row
into-excess : (net : FlowNet) (n v : ℕ) → IsFlowNet net → IsStartable net → n < start net 1 → v ≡ slice_index net.heads n → cap_at net n ≡ start_excess net v
into-excess net n v ok s h ev =
    let some : 0 < node_count net = omega (arith, ok.two) in
    let nl : n < row_len net 0 = omega (arith, ok.first, h) in
    let n_is : start net 0 + n ≡ n = omega (arith, ok.first) in
    let eh : head net 0 n ≡ v = ap (λ (x : ℕ). slice_index net.heads x) n_is ∙ sym ev in
    let vn : v < node_count net = omega (arith, ok.heads_in 0 n some nl, eh) in
    let above : 0 < v = omega (arith, s.no_loop n nl, eh) in
    let p : HasMate net 0 n = ok.meets 0 n some nl in
    let pl : p.place < row_len net v = subst (λ (x : ℕ). p.place < row_len net x) eh p.inside in
    let pb : head net v p.place ≡ 0 = subst (λ (x : ℕ). head net x p.place ≡ 0) eh p.back in
    let pa : mate net 0 n ≡ start net v + p.place = p.arc ∙ ap (λ (x : ℕ). start net x + p.place) eh in
    let turned : mate net v p.place ≡ start net 0 + n = mate-back net 0 n v p.place ok some nl eh pl pa pb in
    let one : p.place ≡ 0 = elim (cases_lt 0 p.place) [
      | inl lt ↦ absurd (omega (arith, ok.heads_rise v 0 p.place vn lt pl, pb))
      | inr ge ↦ omega (arith, ge)
    ] in
    let from : head net v 0 ≡ 0 = subst (λ (x : ℕ). head net v x ≡ 0) one pb in
    let met : mate net v 0 ≡ n = subst (λ (x : ℕ). mate net v x ≡ n) one (turned ∙ n_is) in
    source_excess net v (cap_at net n) (head net v 0) n ok vn above (omega (arith, pl)) refl from (sym met) refl

-- a node to which none of them leads starts with nothing
pub filled-all : (net : FlowNet) (e v : ℕ) → IsFlowNet net → v < node_count net → Filled net e v (start net 1) → e ≡ start_excess net v
filled-all net e v ok vn (inl done) = done
filled-all net e v ok vn (inr left) = elim (cases_eq v 0) [
  | inl is ↦ left.0 ∙ sym (cond-true (v == 0) 0 _ (eq-eqb v 0 is))
  | inr other ↦ left.0 ∙ no_excess net v ok vn (omega (arith, other)) first
]
  where
    first : 0 < row_len net v → 0 < head net v 0
    first some = elim (cases_lt 0 (head net v 0)) [
      | inl lt ↦ lt
      | inr ge ↦
          let zero' : head net v 0 ≡ 0 = omega (arith, ge) in
          let p : HasMate net v 0 = ok.meets v 0 vn some in
          let pl : p.place < row_len net 0 = subst (λ (x : ℕ). p.place < row_len net x) zero' p.inside in
          let pb : head net 0 p.place ≡ v = subst (λ (x : ℕ). head net x p.place ≡ v) zero' p.back in
          let at : start net 0 + p.place ≡ p.place = omega (arith, ok.first) in
          absurd (left.1 p.place (omega (arith, pl, ok.first)) (ap (λ (x : ℕ). slice_index net.heads x) (sym at) ∙ pb))
    ]

-- one more arc out of the source
pub filled-next : (net : FlowNet) (old new v n : ℕ) → IsFlowNet net → IsStartable net → n < start net 1 → Filled net old v n
    → (v ≡ slice_index net.heads n → new ≡ cap_at net n) → ((v ≡ slice_index net.heads n → ⊥) → new ≡ old)
    → Filled net new v (n + 1)
filled-next net old new v n ok s h held at off = elim (cases_eq v (slice_index net.heads n)) [
  | inl is ↦ inl (at is ∙ into-excess net n v ok s h is)
  | inr other ↦ keep held (off other) other
]
  where
    keep : Filled net old v n → new ≡ old → (v ≡ slice_index net.heads n → ⊥) → Filled net new v (n + 1)
    keep (inl done) same other = inl (same ∙ done)
    keep (inr left) same other = inr (
      same ∙ left.0,
      λ j k. elim (cases_lt j n) [
        | inl lt ↦ left.1 j lt
        | inr ge ↦ (let e : j ≡ n = omega (arith, ge, k) in (λ q. other (sym q ∙ ap (λ (x : ℕ). slice_index net.heads x) e)))
      ],
    )
