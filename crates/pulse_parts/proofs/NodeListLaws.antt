-- Lists of nodes that grow, and that are put in order.
use Rattle.std.proofs.Common.{◌≡◌, ℕ, ◌+◌, ◌-◌, ◌<◌, ◌≤◌, ◌==◌, ◌++◌, ◌⊎◌, true, List, [], ◌∷◌, length, slice_index, refl, arith, sym, ap, ◌∙◌, subst, inl, inr}
use Rattle.std.proofs.lemmas.Bool.{cases_lt}
use Rattle.std.proofs.lemmas.Grind.{get_or_default_zero}
use Rattle.std.proofs.lemmas.List.{get_or-append_right, length-append}
use Rattle.std.proofs.lemmas.List.Kept.{AllPairs-from_increasing, Contains-dedup_nat, Contains-from_dedup}
use Rattle.std.proofs.lemmas.List.Sorted.{Contains-permutation, IsPermutation-sym}
use Rattle.std.proofs.lemmas.Map.Keys.{IsStrictlyIncreasing-dedup}
use Rattle.std.proofs.Math.ListN.{get_or-append}
use Rattle.std.specs.List.{Contains, dedup}
use Rattle.std.specs.List.Sorted.{IsPermutation, IsSorted}
use Rattle.std.specs.Ordering.{nat_cmp}
use Rattle.pulse_parts.specs.declared.node_list.NodeList.{NodeList}
use Rattle.pulse_parts.specs.Listing.{AreWithin, Extends, IsListed, IsRising}

-- ---- one more node

-- the last of a list with one more node is this node
pub last_of : (list : List ℕ) (v : ℕ) → slice_index (list ++ v ∷ []) (length list) ≡ v
last_of list v = get_or-append_right list (v ∷ []) (length list) (length list) 0 refl (omega arith) ∙ at_first
  where
    at_first : slice_index (v ∷ []) (length list - length list) ≡ v
    at_first = let e : length list - length list ≡ 0 = omega arith in ap (λ (n : ℕ). slice_index (v ∷ []) n) e

-- what is listed is listed in a list with one more node
pub listed_more : (list : List ℕ) (v w : ℕ) → IsListed list w → IsListed (list ++ v ∷ []) w
listed_more list v w l = record { place = l.place; inside = omega (arith, l.inside, length-append list (v ∷ [])); there = get_or-append list (v ∷ []) 0 l.place l.inside ∙ l.there }

-- the node at the end of a list is listed
pub listed_last : (list : List ℕ) (v w : ℕ) → w ≡ v → IsListed (list ++ v ∷ []) w
listed_last list v w e = record { place = length list; inside = omega (arith, length-append list (v ∷ [])); there = last_of list v ∙ sym e }

-- a place of a list with one more node is one of the list, or the last
pub places : (list : List ℕ) (v i : ℕ) → i < length (list ++ v ∷ []) → ((i < length list) × (slice_index (list ++ v ∷ []) i ≡ slice_index list i)) ⊎ ((i ≡ length list) × (slice_index (list ++ v ∷ []) i ≡ v))
places list v i h = elim (cases_lt i (length list)) [
  | inl lt ↦ inl (lt, get_or-append list (v ∷ []) 0 i lt)
  | inr ge ↦
      let e : i ≡ length list = omega (arith, h, ge, length-append list (v ∷ [])) in
      inr (e, ap (λ (n : ℕ). slice_index (list ++ v ∷ []) n) e ∙ last_of list v)
]

-- nodes within a range, with one more in the range, are within it
pub within_more : (first end v : ℕ) (list : List ℕ) → first ≤ v → v < end → AreWithin first end list → AreWithin first end (list ++ v ∷ [])
within_more first end v list lo hi a i h = elim (places list v i h) [
  | inl old ↦ (omega (arith, old.1, (a i old.0).0), omega (arith, old.1, (a i old.0).1))
  | inr last ↦ (omega (arith, last.1, lo), omega (arith, last.1, hi))
]

-- ---- lists that grow

-- a list extends itself
pub extends_self : (first end : ℕ) (l : NodeList) → Extends first end l l
extends_self first end l = record { complete = λ h. h; within = λ h a. a; kept = λ h v a. a }

-- a list that extends one that extends a third extends that
pub extends_then : (first end : ℕ) (a b c : NodeList) → Extends first end a b → Extends first end b c → Extends first end a c
extends_then first end a b c p q = record {
  complete = λ h. p.complete (q.complete h);
  within = λ h x. q.within h (p.within (q.complete h) x);
  kept = λ h v x. q.kept h v (p.kept (q.complete h) v x);
}

-- what `add` ensures
abbrev pub Added : ℕ → NodeList → NodeList → Type 0
Added v old new = new.complete ≡ true → (old.complete ≡ true) × (new.nodes.items ≡ old.nodes.items ++ (v ∷ []))

-- a list to which a node in the range was added extends the list before
pub extends_add : (first end v : ℕ) (old new : NodeList) → first ≤ v → v < end → Added v old new → Extends first end old new
extends_add first end v old new lo hi added = record {
  complete = λ h. (added h).0;
  within = λ h a. subst (λ (x : List ℕ). AreWithin first end x) (sym (added h).1) (within_more first end v old.nodes.items lo hi a);
  kept = λ h w l. subst (λ (x : List ℕ). IsListed x w) (sym (added h).1) (listed_more old.nodes.items v w l);
}

-- a node that was added is listed, if the list is complete
pub added_here : (v w : ℕ) (old new : NodeList) → w ≡ v → Added v old new → new.complete ≡ true → IsListed new.nodes.items w
added_here v w old new e added h = subst (λ (x : List ℕ). IsListed x w) (sym (added h).1) (listed_last old.nodes.items v w e)

-- ---- lists in order

-- a listed node is contained in the list
pub contains_of : (list : List ℕ) (v : ℕ) → IsListed list v → Contains list v
contains_of list v l = (l.place, l.inside, get_or_default_zero list l.place v l.inside ∙ l.there)

-- a node contained in the list is listed
pub listed_of : (list : List ℕ) (v : ℕ) → Contains list v → IsListed list v
listed_of list v c = record { place = c.0; inside = c.1; there = sym (get_or_default_zero list c.0 v c.1) ∙ c.2 }

-- what a sort and the removal of doubles make of a list
pub record IsOrdered (old mid new : List ℕ) : Type 0 where
  -- the sorted list has the nodes of the old one, in another order
  pub moved : IsPermutation old mid
  -- it is sorted
  pub sorted : IsSorted nat_cmp mid
  -- the new list is the sorted one without doubles
  pub same : new ≡ dedup (λ x y. x == y) mid

-- a list put in order rises
pub ordered_rises : (old mid new : List ℕ) → IsOrdered old mid new → IsRising new
ordered_rises old mid new o i j lt h =
    AllPairs-from_increasing new (subst (λ (x : List ℕ). (k : ℕ) → k + 1 < length x → slice_index x k < slice_index x (k + 1)) (sym o.same) (IsStrictlyIncreasing-dedup mid o.sorted)) i j 0 lt h

-- putting a list in order keeps each of its nodes
pub ordered_keeps : (old mid new : List ℕ) (v : ℕ) → IsOrdered old mid new → IsListed old v → IsListed new v
ordered_keeps old mid new v o l =
    listed_of new v (subst (λ (x : List ℕ). Contains x v) (sym o.same) (Contains-dedup_nat mid v (Contains-permutation old mid v o.moved (contains_of old v l))))

-- a node of a list put in order is one of the list before
pub ordered_from : (old mid new : List ℕ) (v : ℕ) → IsOrdered old mid new → IsListed new v → IsListed old v
ordered_from old mid new v o l =
    listed_of old v (Contains-permutation mid old v (IsPermutation-sym old mid o.moved) (Contains-from_dedup (λ x y. x == y) mid v (subst (λ (x : List ℕ). Contains x v) o.same (contains_of new v l))))

-- a list put in order lies in each range in which the list before does
pub ordered_within : (old mid new : List ℕ) (first end : ℕ) → IsOrdered old mid new → AreWithin first end old → AreWithin first end new
ordered_within old mid new first end o a i h =
    let l : IsListed old (slice_index new i) = ordered_from old mid new (slice_index new i) o (record { place = i; inside = h; there = refl }) in
    let w = a l.place l.inside in
    (omega (arith, l.there, w.0), omega (arith, l.there, w.1))
