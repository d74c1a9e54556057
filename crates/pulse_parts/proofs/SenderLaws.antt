-- The lists of nodes that push, of all parts, as one list.
use Rattle.std.proofs.Common.{◌≡◌, ℕ, suc, zero, ◌+◌, ◌-◌, ◌<◌, ◌≤◌, ◌++◌, true, List, [], ◌∷◌, length, slice_index, get_or, refl, arith, sym, ap, ◌∙◌, subst, inl, inr}
use Rattle.std.proofs.lemmas.Bool.{cases_lt}
use Rattle.std.proofs.lemmas.List.{get_or-append_right, length-append}
use Rattle.std.proofs.Math.ListN.{get_or-append}
use Rattle.frame_net.specs.FlowNet.{FlowNet, node_count, start, row_len, IsFlowNet}
use Rattle.pulse_parts.specs.declared.parts.PushPart.{PushPart}
use Rattle.pulse_parts.specs.Parts.{ArePushParts, PushPartFits, values_of}
use Rattle.pulse_parts.specs.Delivering.{own}
use Rattle.pulse_parts.specs.Listing.{AreWithin, IsListed, IsRising}
use Rattle.pulse_parts.specs.Receiving.{ListInOrder, ListsSenders}
use Rattle.pulse_parts.proofs.PartsLeftLaws.{Holds, find_part, left_all, part_fits, whole_at}
use Rattle.pulse_parts.proofs.PushPartLaws.{push_piece, rising}
use Rattle.pulse_parts.proofs.JoinedPartLaws.{pick}
use Rattle.pulse_parts.proofs.GatheredLaws.{from_nodes, pushing_lists}

-- the nodes that push, part by part
abbrev pub pushers : List PushPart → List ℕ
pushers [] = []
pushers (p ∷ ps) = p.pushing.nodes.items ++ pushers ps

-- how many stand before those of part i
abbrev pub before : List PushPart → ℕ → ℕ
before ps zero = 0
before [] (suc i) = 0
before (p ∷ ps) (suc i) = length p.pushing.nodes.items + before ps i

-- before the nodes of the next part stand those of this one too
pub before_more : (ps : List PushPart) (i : ℕ) (d : PushPart) → i < length ps → before ps (suc i) ≡ before ps i + length (get_or ps i d).pushing.nodes.items
before_more [] i d h = absurd (omega arith)
before_more (p ∷ ps) zero d h = omega arith
before_more (p ∷ ps) (suc i) d h = omega (arith, before_more ps i d (omega arith))

-- before the end stand the nodes of all parts
pub before_all : (ps : List PushPart) → before ps (length ps) ≡ length (pushers ps)
before_all [] = refl
before_all (p ∷ ps) = omega (arith, before_all ps, length-append p.pushing.nodes.items (pushers ps))

-- the place of a part's listed node is within the whole list
pub before_in : (ps : List PushPart) (i j : ℕ) (d : PushPart) → i < length ps → j < length (get_or ps i d).pushing.nodes.items → before ps i + j < length (pushers ps)
before_in [] i j d h l = absurd (omega arith)
before_in (p ∷ ps) zero j d h l = omega (arith, l, length-append p.pushing.nodes.items (pushers ps))
before_in (p ∷ ps) (suc i) j d h l = omega (arith, before_in ps i j d (omega arith) l, length-append p.pushing.nodes.items (pushers ps))

-- a part's listed node stands in the whole list at its place after those of the parts before
pub at_before : (ps : List PushPart) (i j : ℕ) (d : PushPart) → i < length ps → j < length (get_or ps i d).pushing.nodes.items
    → slice_index (pushers ps) (before ps i + j) ≡ slice_index (get_or ps i d).pushing.nodes.items j
at_before [] i j d h l = absurd (omega arith)
at_before (p ∷ ps) zero j d h l = ap (slice_index (p.pushing.nodes.items ++ pushers ps)) (let e : 0 + j ≡ j = omega arith in e) ∙ get_or-append p.pushing.nodes.items (pushers ps) 0 j l
at_before (p ∷ ps) (suc i) j d h l =
    get_or-append_right p.pushing.nodes.items (pushers ps) (length p.pushing.nodes.items) (length p.pushing.nodes.items + before ps i + j) 0 refl (omega arith)
    ∙ (ap (slice_index (pushers ps)) (let e : length p.pushing.nodes.items + before ps i + j - length p.pushing.nodes.items ≡ before ps i + j = omega arith in e) ∙ at_before ps i j d (omega arith) l)

-- ---- they rise

pub record Rise (v : ℕ) (list : List ℕ) : Type 0 where
  -- the list rises
  pub up : IsRising list
  -- each of it is v or above it
  pub from : (i : ℕ) → i < length list → v ≤ slice_index list i

rise_append : (v m : ℕ) (xs ys : List ℕ) → IsRising xs → ((i : ℕ) → i < length xs → (v ≤ slice_index xs i) × (slice_index xs i < m)) → v ≤ m → Rise m ys → Rise v (xs ++ ys)
rise_append v m xs ys up within le rest = record {
  up = λ i j lt h. elim (cases_lt j (length xs)) [
    | inl here ↦ omega (arith, left i (omega (arith, lt, here)), left j here, up i j lt here)
    | inr there ↦
        let jl : j - length xs < length ys = omega (arith, h, length-append xs ys, there) in
        elim (cases_lt i (length xs)) [
          | inl here ↦ omega (arith, left i here, right j there, (within i here).1, rest.from (j - length xs) jl)
          | inr after ↦ omega (arith, right i after, right j there, rest.up (i - length xs) (j - length xs) (omega (arith, lt, after)) jl)
        ]
  ];
  from = λ i h. elim (cases_lt i (length xs)) [
    | inl here ↦ omega (arith, left i here, (within i here).0)
    | inr there ↦ omega (arith, right i there, rest.from (i - length xs) (omega (arith, h, length-append xs ys, there)), le)
  ];
}
  where
    left : (i : ℕ) → i < length xs → slice_index (xs ++ ys) i ≡ slice_index xs i
    left i h = get_or-append xs ys 0 i h

    right : (i : ℕ) → length xs ≤ i → slice_index (xs ++ ys) i ≡ slice_index ys (i - length xs)
    right i h = get_or-append_right xs ys (length xs) i 0 refl h

all_rise : (net : FlowNet) (v : ℕ) (ps : List PushPart) → ArePushParts net v ps → ListInOrder ps → Rise v (pushers ps)
all_rise net v [] cut order = record { up = λ i j lt h. absurd (omega arith); from = λ i h. absurd (omega arith) }
all_rise net v (p ∷ ps) cut order =
    let fit : PushPartFits net p = cut.1.0 in
    let here = order 0 p (omega arith) in
    rise_append v p.end p.pushing.nodes.items (pushers ps) here.1
    (λ i h. let w = fit.lists.within here.0 i h in (omega (arith, w.0, cut.0), w.1))
    (omega (arith, fit.ordered, cut.0)) (all_rise net p.end ps cut.1.1 (λ i d h. order (suc i) d (omega arith)))

-- the nodes that push, part by part, rise
pub pushers_rise : (net : FlowNet) (ps : List PushPart) → ArePushParts net 0 ps → ListInOrder ps → IsRising (pushers ps)
pushers_rise net ps cut order = (all_rise net 0 ps cut order).up

-- ---- each node that pushes is among them

-- in the list of its part
part_listed : (net : FlowNet) (all : List PushPart) (i : ℕ) (d : PushPart) → IsFlowNet net → ArePushParts net 0 all → i < length all → (get_or all i d).pushing.complete ≡ true
    → (u k : ℕ) → (get_or all i d).first ≤ u → u < (get_or all i d).end → u < node_count net → k < row_len net u → 0 < own net (values_of all) u k → IsListed (get_or all i d).pushing.nodes.items u
part_listed net all i d ok cut h done u k lo hi un kl some = elim (fit.lists.rest done u lo hi) [
  | inl at ↦ at
  | inr none ↦ absurd (omega (arith, some, value, none k kl))
]
  where
    fit : PushPartFits net (get_or all i d)
    fit = part_fits (PushPartFits net) (λ q. q.first) (λ q. q.end) (node_count net) 0 all cut i d h

    up : start net u ≤ start net (u + 1)
    up = ok.rows u (u + 1) (omega arith) (omega (arith, un))

    top : start net (u + 1) ≤ start net (get_or all i d).end
    top = ok.rows (u + 1) (get_or all i d).end (omega (arith, hi)) fit.within

    low : start net (get_or all i d).first ≤ start net u
    low = ok.rows (get_or all i d).first u lo (omega (arith, un))

    value : own net (values_of all) u k ≡ slice_index (get_or all i d).values.items (start net u + k - (get_or all i d).base)
    value =
        whole_at (PushPartFits net) (λ q. q.first) (λ q. q.end) (λ q. q.values.items) (start net) (node_count net) (rising net ok) (push_piece net) 0 all all
        (left_all (PushPartFits net) (λ q. q.first) (λ q. q.end) (λ q. q.values.items) (start net) (node_count net) all (rising net ok) cut) i d h (start net u + k) (omega (arith, low)) (omega (arith, top, kl, up))
        ∙ ap (slice_index (get_or all i d).values.items) (let e : start net u + k - start net (get_or all i d).first ≡ start net u + k - (get_or all i d).base = omega (arith, fit.based) in e)

-- each node that pushes is in the list of all parts
pub pushers_listed : (net : FlowNet) (all : List PushPart) → IsFlowNet net → ArePushParts net 0 all → ListInOrder all → ListsSenders net (values_of all) (pushers all)
pushers_listed net all ok cut order u k un kl some =
    let at : Holds (λ p. p.first) (λ p. p.end) all u = find_part (PushPartFits net) (λ p. p.first) (λ p. p.end) (node_count net) 0 all cut u (omega arith) un in
    let d : PushPart = pick all at.index at.lt in
    let there : IsListed (get_or all at.index d).pushing.nodes.items u = part_listed net all at.index d ok cut at.lt (order at.index d at.lt).0 u k (at.low d) (at.high d) un kl some in
    record {
      place = before all at.index + there.place;
      inside = before_in all at.index there.place d at.lt there.inside;
      there = at_before all at.index there.place d at.lt there.inside ∙ there.there;
    }

-- each of them is a node of the network
pub pusher_within : (net : FlowNet) (ps : List PushPart) (i : ℕ) (p : PushPart) (list : List ℕ) → ArePushParts net 0 ps → ListInOrder ps → i < length ps → p ≡ get_or ps i p → list ≡ p.pushing.nodes.items
    → AreWithin 0 (node_count net) list
pusher_within net ps i p list cut order hi ep el =
    from_nodes net ps i p list cut (pushing_lists net ps cut) hi ep (subst (λ (q : PushPart). q.pushing.complete ≡ true) (sym ep) (order i p hi).0) el

-- the next one of them is the next of its part
pub pusher_next : (ps : List PushPart) (i j u : ℕ) (p : PushPart) (list : List ℕ) → i < length ps → p ≡ get_or ps i p → list ≡ p.pushing.nodes.items → j < length list → u ≡ slice_index list j
    → (before ps i + j < length (pushers ps)) × (u ≡ slice_index (pushers ps) (before ps i + j))
pusher_next ps i j u p list hi ep el hj eu =
    let same : list ≡ (get_or ps i p).pushing.nodes.items = el ∙ ap (λ (q : PushPart). q.pushing.nodes.items) ep in
    let l : j < length (get_or ps i p).pushing.nodes.items = subst (λ (xs : List ℕ). j < length xs) same hj in
    (before_in ps i j p hi l, eu ∙ (ap (λ (xs : List ℕ). slice_index xs j) same ∙ sym (at_before ps i j p hi l)))

-- past a part's last listed node the next part's begin
pub pusher_part : (ps : List PushPart) (i : ℕ) (p : PushPart) (list : List ℕ) → i < length ps → p ≡ get_or ps i p → list ≡ p.pushing.nodes.items → before ps i + length list ≡ before ps (i + 1)
pusher_part ps i p list hi ep el =
    let next : before ps (i + 1) ≡ before ps (suc i) = ap (before ps) (let e : i + 1 ≡ suc i = omega arith in e) in
    let same : list ≡ (get_or ps i p).pushing.nodes.items = el ∙ ap (λ (q : PushPart). q.pushing.nodes.items) ep in
    omega (arith, next, before_more ps i p hi, ap length same)
