-- A row of pushes: of an active node, of an inactive one, and of one with label 0.
use Rattle.std.proofs.Common.{◌≡◌, ℕ, ◌+◌, ◌<◌, ◌==◌, ◌&&◌, cond, Bool, true, false, List, length, slice_index, arith, refl, ap, sym, subst}
use Rattle.std.proofs.lemmas.Bool.{false≢true, ne_eqb}
use Rattle.frame_net.specs.Rows.{row_admissible, node_admissible, IsRowOfPushes}

-- of an active node, the pushes that its label admits are the row of what it may push
pub on_row : (b : Bool) (hs rs ls : List ℕ) (label excess : ℕ) (row : List ℕ) → IsRowOfPushes (row_admissible hs rs ls label) excess row → b ≡ true
    → IsRowOfPushes (node_admissible b hs rs ls label) excess row
on_row true hs rs ls label excess row h e = h
on_row false hs rs ls label excess row h e = absurd (false≢true e)

-- of an inactive node, a row of zeros is the row of what it may push
pub off_row : (b : Bool) (hs rs ls : List ℕ) (label excess : ℕ) (row : List ℕ) → ((k : ℕ) → k < length row → slice_index row k ≡ 0) → b ≡ false
    → IsRowOfPushes (node_admissible b hs rs ls label) excess row
off_row false hs rs ls label excess row h e = λ k l. omega (arith, h k l)
off_row true hs rs ls label excess row h e = absurd (false≢true (sym e))

no_admissible : (b : Bool) (x r : ℕ) → cond (b && (x + 1 == 0)) r 0 ≡ 0
no_admissible true x r = ap (λ (t : Bool). cond t r 0) (ne_eqb (x + 1) 0 (λ e. omega arith))
no_admissible false x r = refl

-- of a node with label 0, a row of zeros is the row of what it may push
pub low_row : (b : Bool) (hs rs ls : List ℕ) (label excess : ℕ) (row : List ℕ) → ((k : ℕ) → k < length row → slice_index row k ≡ 0) → label ≡ 0
    → IsRowOfPushes (node_admissible b hs rs ls label) excess row
low_row b hs rs ls label excess row h e = λ k l. omega (arith, h k l, zero_admissible k)
  where
    zero_admissible : (k : ℕ) → node_admissible b hs rs ls label k ≡ 0
    zero_admissible k = subst (λ (x : ℕ). node_admissible b hs rs ls x k ≡ 0) (sym e) (no_admissible b (slice_index ls (slice_index hs k)) (slice_index rs k))
