-- A row as a slice of longer values, and where an arc's mate lies.
use Rattle.std.proofs.Common.{◌≡◌, ℕ, ◌+◌, ◌<◌, ◌≤◌, List, length, slice_index, take, drop, arith, sym, subst}
use Rattle.std.proofs.lemmas.List.{places}
use Rattle.frame_net.specs.FlowNet.{FlowNet, node_count, start, row_len, head, mate, HasMate, IsFlowNet}

-- a row cut out of longer values
pub cut_len : (xs : List ℕ) (a n : ℕ) → a + n ≤ length xs → length (take n (drop a xs)) ≡ n
cut_len xs a n h = grind (arith, places)

-- a row cut out of longer values has the values from its place on
pub cut_at : (xs : List ℕ) (a n k : ℕ) → a + n ≤ length xs → k < n → slice_index (take n (drop a xs)) k ≡ slice_index xs (a + k)
cut_at xs a n k h l = grind (arith, places)

-- the mate of an arc lies in the row of its head
pub record MateLies (net : FlowNet) (head_is mate_is : ℕ) : Type 0 where
  -- the mate isn't before the row of the head
  pub after : start net head_is ≤ mate_is
  -- the mate is before the end of that row
  pub before : mate_is < start net (head_is + 1)

-- the mate of each arc of a row lies in the row of the arc's head
pub mate_lies : (net : FlowNet) (v k h m : ℕ) → IsFlowNet net → v < node_count net → k < row_len net v → h ≡ head net v k → m ≡ mate net v k → MateLies net h m
mate_lies net v k h m ok vn kl eh em =
    let p : HasMate net v k = ok.meets v k vn kl in
    let in_head : MateLies net (head net v k) m = record { after = omega (arith, p.arc, em); before = omega (arith, p.arc, em, p.inside) } in
    subst (λ (x : ℕ). MateLies net x m) (sym eh) in_head
