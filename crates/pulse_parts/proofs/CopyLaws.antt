-- Values of a range of nodes that are copied part by part.
use Rattle.std.proofs.Common.{◌≡◌, ℕ, ◌+◌, ◌-◌, ◌<◌, ◌≤◌, ◌++◌, min, max, List, [], ◌∷◌, length, slice_index, get_or, take, drop, arith, refl, ap, sym, ◌∙◌, subst, inl, inr}
use Rattle.std.proofs.lemmas.Bool.{cases_lt}
use Rattle.std.proofs.lemmas.List.{get_or-append_right, get_or-drop, get_or-take, length-append, length-drop, length-take-le}
use Rattle.std.proofs.Math.ListN.{get_or-append}
use Rattle.std.specs.List.{flat_map}
use Rattle.frame_net.specs.FlowNet.{FlowNet, node_count, start, IsFlowNet}
use Rattle.pulse_parts.specs.declared.parts.FlowPart.{FlowPart}
use Rattle.pulse_parts.specs.Parts.{AreFlowParts, FlowPartFits, IsPiece, IsParted}
use Rattle.pulse_parts.proofs.PushPartLaws.{rising}
use Rattle.pulse_parts.proofs.JoinedPartLaws.{res_piece}
use Rattle.pulse_parts.proofs.PartsLeftLaws.{Rising, Left, left_all, left_more, left_here, left_at, part_fits}

-- the values of the nodes from low up to high are copied from all parts but those that are left
pub record Copied {P : Type 0} (fits : P → Type 0) (first end : P → ℕ) (values : P → List ℕ) (pos : ℕ → ℕ) (n low high : ℕ) (all rest : List P) (xs : List ℕ) : Type 0 where
  -- the node at which the parts that are left begin
  pub from : ℕ
  -- these parts hold the nodes from there on
  pub left : Left fits first end values pos n from all rest
  -- as many values were copied as the range has places before that node
  pub sized : length xs + pos low ≡ pos (max low (min high from))
  -- they are the values of all parts at these places
  pub same : (i : ℕ) → i < length xs → slice_index xs i ≡ slice_index (flat_map values all) (pos low + i)

-- before the first part nothing has been copied
pub copied_none : {P : Type 0} (fits : P → Type 0) (first end : P → ℕ) (values : P → List ℕ) (pos : ℕ → ℕ) (n low high : ℕ) (all : List P) (xs : List ℕ) → Rising pos n → xs ≡ []
    → IsParted fits first end n 0 all → Copied fits first end values pos n low high all all xs
copied_none {P} fits first end values pos n low high all xs up none cut = record {
  from = 0;
  left = left_all fits first end values pos n all up cut;
  sized = let e : low ≡ max low (min high 0) = omega arith in omega (arith, ap length none, ap pos e);
  same = λ i h. absurd (omega (arith, h, ap length none));
}

-- the next part is the first of those that are left
pub copied_next : {P : Type 0} (fits : P → Type 0) (first end : P → ℕ) (values : P → List ℕ) (pos : ℕ → ℕ) (n low high : ℕ) (all : List P) (i : ℕ) (p : P) (xs : List ℕ) → i < length all → p ≡ get_or all i p
    → Copied fits first end values pos n low high all (drop i all) xs → Copied fits first end values pos n low high all (p ∷ drop (i + 1) all) xs
copied_next {P} fits first end values pos n low high all i p xs h e c = subst (λ (rest : List P). Copied fits first end values pos n low high all rest xs) (left_at all i p h e) c

-- what lies in the range from a to b of a part is added
pub copied_on : {P : Type 0} (fits : P → Type 0) (first end : P → ℕ) (values : P → List ℕ) (pos : ℕ → ℕ) (n low high : ℕ) (all : List P) (p : P) (ps : List P) (a b : ℕ) (xs ys slice : List ℕ) → Rising pos n
    → ((q : P) → fits q → IsPiece first end values pos n q) → a ≡ max low (first p) → b ≡ min high (end p) → a < b
    → length slice + pos a ≡ pos b → ((j : ℕ) → j < length slice → slice_index slice j ≡ slice_index (values p) (pos a - pos (first p) + j)) → ys ≡ xs ++ slice
    → Copied fits first end values pos n low high all (p ∷ ps) xs → Copied fits first end values pos n low high all ps ys
copied_on {P} fits first end values pos n low high all p ps a b xs ys slice up piece ea eb lt len part grown c =
    let fit : IsPiece first end values pos n p = piece p c.left.cut.1.0 in
    let here : pos (max low (min high c.from)) ≡ pos a = ap pos (let e : max low (min high c.from) ≡ a = omega (arith, c.left.cut.0) in e) in
    let there : pos b ≡ pos (max low (min high (end p))) = ap pos (let e : b ≡ max low (min high (end p)) = omega arith in e) in
    let begun : length xs + pos low ≡ pos a = c.sized ∙ here in
    let longer : length ys ≡ length xs + length slice = ap length grown ∙ length-append xs slice in
    let base : pos (first p) ≤ pos a = up.up (first p) a (omega arith) (omega (arith, fit.within)) in
    let top : pos b ≤ pos (end p) = up.up b (end p) (omega arith) fit.within in
    record {
      from = end p;
      left = left_more fits first end values pos n c.from all p ps up piece c.left;
      sized = omega (arith, longer, begun, len, there);
      same = λ i h. ap (λ (zs : List ℕ). slice_index zs i) grown ∙ elim (cases_lt i (length xs)) [
        | inl old ↦ get_or-append xs slice 0 i old ∙ c.same i old
        | inr new ↦
            let j : i - length xs < length slice = omega (arith, h, longer, new) in
            get_or-append_right xs slice (length xs) i 0 refl new ∙ (part (i - length xs) j
            ∙ sym (ap (λ (x : ℕ). slice_index (flat_map values all) x) (let e : pos low + i ≡ pos a + (i - length xs) = omega (arith, begun, new) in e)
            ∙ (left_here fits first end values pos n c.from all p ps up piece c.left (pos a + (i - length xs)) (omega (arith, base)) (omega (arith, j, len, top))
            ∙ ap (λ (x : ℕ). slice_index (values p) x) (let e : pos a + (i - length xs) - pos (first p) ≡ pos a - pos (first p) + (i - length xs) = omega (arith, base) in e))))
      ];
    }

-- the values at the places from one up to another
pub slice_len : (values : List ℕ) (from to : ℕ) → from ≤ to → to ≤ length values → length (take (to - from) (drop from values)) ≡ to - from
slice_len values from to ordered within = length-take-le (to - from) (drop from values) (omega (arith, length-drop from values))

-- a slice has at each place the value that many places on
pub slice_at : (values : List ℕ) (from to j : ℕ) → j < to - from → slice_index (take (to - from) (drop from values)) j ≡ slice_index values (from + j)
slice_at values from to j h = get_or-take (to - from) (drop from values) j 0 h ∙ get_or-drop from values j 0

-- the places of a range within a part
pub record RangeIn {P : Type 0} (first end : P → ℕ) (values : P → List ℕ) (pos : ℕ → ℕ) (p : P) (a b : ℕ) : Type 0 where
  -- the range begins no earlier than the part
  pub after : pos (first p) ≤ pos a
  -- the range ends no earlier than it begins
  pub ordered : pos a ≤ pos b
  -- the range ends no later than the part's values
  pub before : pos b ≤ pos (first p) + length (values p)

-- what of a range lies in a part has its places within the part's
pub range_in : {P : Type 0} (first end : P → ℕ) (values : P → List ℕ) (pos : ℕ → ℕ) (n low high : ℕ) (p : P) (a b : ℕ) → Rising pos n → IsPiece first end values pos n p → a ≡ max low (first p) → b ≡ min high (end p) → a < b
    → RangeIn first end values pos p a b
range_in {P} first end values pos n low high p a b up fit ea eb lt = record {
  after = up.up (first p) a (omega arith) (omega (arith, fit.within));
  ordered = up.up a b (omega arith) (omega (arith, fit.within));
  before = omega (arith, fit.sized, up.up b (end p) (omega arith) fit.within);
}

-- copied, by the places in the part's values
pub copied_slice : {P : Type 0} (fits : P → Type 0) (first end : P → ℕ) (values : P → List ℕ) (pos : ℕ → ℕ) (n low high : ℕ) (all : List P) (p : P) (ps : List P) (a b from to : ℕ) (xs ys vs : List ℕ) → Rising pos n
    → ((q : P) → fits q → IsPiece first end values pos n q) → a ≡ max low (first p) → b ≡ min high (end p) → a < b → from ≡ pos a - pos (first p) → to ≡ pos b - pos (first p) → vs ≡ values p
    → ys ≡ xs ++ take (to - from) (drop from vs)
    → Copied fits first end values pos n low high all (p ∷ ps) xs → Copied fits first end values pos n low high all ps ys
copied_slice {P} fits first end values pos n low high all p ps a b from to xs ys vs up piece ea eb lt ef et ev grown c =
    let r : RangeIn first end values pos p a b = range_in first end values pos n low high p a b up (piece p c.left.cut.1.0) ea eb lt in
    let len : length (take (to - from) (drop from (values p))) ≡ to - from = slice_len (values p) from to (omega (arith, r.ordered)) (omega (arith, r.before)) in
    copied_on fits first end values pos n low high all p ps a b xs ys (take (to - from) (drop from (values p))) up piece ea eb lt
    (omega (arith, len, r.after, r.ordered))
    (λ j h. slice_at (values p) from to j (omega (arith, h, len)) ∙ ap (λ (x : ℕ). slice_index (values p) (x + j)) ef)
    (grown ∙ ap (λ (zs : List ℕ). xs ++ take (to - from) (drop from zs)) ev) c

-- nothing of the range lies in a part
pub copied_off : {P : Type 0} (fits : P → Type 0) (first end : P → ℕ) (values : P → List ℕ) (pos : ℕ → ℕ) (n low high : ℕ) (all : List P) (p : P) (ps : List P) (a b : ℕ) (xs : List ℕ) → Rising pos n
    → ((q : P) → fits q → IsPiece first end values pos n q) → low ≤ high → a ≡ max low (first p) → b ≡ min high (end p) → b ≤ a
    → Copied fits first end values pos n low high all (p ∷ ps) xs → Copied fits first end values pos n low high all ps xs
copied_off {P} fits first end values pos n low high all p ps a b xs up piece ordered ea eb over c =
    let fit : IsPiece first end values pos n p = piece p c.left.cut.1.0 in
    record {
      from = end p;
      left = left_more fits first end values pos n c.from all p ps up piece c.left;
      sized = c.sized ∙ ap pos (let e : max low (min high c.from) ≡ max low (min high (end p)) = omega (arith, c.left.cut.0, fit.ordered) in e);
      same = c.same;
    }

-- the part at a place is one of the network's flow
pub part_here : (net : FlowNet) (all : List FlowPart) (i : ℕ) (p : FlowPart) → i < length all → p ≡ get_or all i p → AreFlowParts net 0 all → FlowPartFits net p
part_here net all i p h e cut = subst (λ (q : FlowPart). FlowPartFits net q) (sym e) (part_fits (FlowPartFits net) (λ q. q.first) (λ q. q.end) (node_count net) 0 all cut i p h)

-- the rows of a range lie within a part
pub rows_here : (net : FlowNet) (all : List FlowPart) (i : ℕ) (p : FlowPart) (low high a b : ℕ) → IsFlowNet net → i < length all → p ≡ get_or all i p → AreFlowParts net 0 all → a ≡ max low p.first → b ≡ min high p.end → a < b
    → RangeIn (λ q. q.first) (λ q. q.end) (λ q. q.residuals.items) (start net) p a b
rows_here net all i p low high a b ok h e cut ea eb lt =
    range_in (λ q. q.first) (λ q. q.end) (λ q. q.residuals.items) (start net) (node_count net) low high p a b (rising net ok) (res_piece net p (part_here net all i p h e cut)) ea eb lt
