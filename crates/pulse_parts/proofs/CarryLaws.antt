-- Lists that new parts take over.
use Rattle.std.proofs.Common.{◌≡◌, ℕ, ◌+◌, ◌-◌, ◌<◌, ◌≤◌, ◌++◌, true, false, List, [], ◌∷◌, length, slice_index, get_or, arith, refl, sym, ap, ◌∙◌, subst, inl, inr}
use Rattle.std.proofs.lemmas.Bool.{cases_lt}
use Rattle.std.proofs.lemmas.List.{get_or_default, get_or-append_right, length-append}
use Rattle.std.proofs.Math.ListN.{get_or-append}
use Rattle.frame_net.specs.FlowNet.{FlowNet, node_count, IsFlowNet}
use Rattle.pulse_parts.specs.declared.node_list.NodeList.{NodeList}
use Rattle.pulse_parts.specs.declared.parts.FlowPart.{FlowPart}
use Rattle.pulse_parts.specs.Listing.{active_by, AreWithin, Extends, IsListed, IsRising, ListActive, ListsActive}
use Rattle.pulse_parts.specs.Parts.{AreFlowParts, FlowPartFits, cells_of}
use Rattle.pulse_parts.proofs.JoinedPartLaws.{AtPart, at_part}
use Rattle.pulse_parts.proofs.PartsLeftLaws.{Holds, find_part}
use Rattle.pulse_parts.proofs.NodeListLaws.{Added, added_here, extends_add, extends_self, extends_then}
use Rattle.pulse_parts.specs.TakingOver.{TakesOver}

-- ---- one list

pub record TakesSome (first end : ℕ) (listed : List ℕ) (count : ℕ) (old new : NodeList) : Type 0 where
  -- the list has grown, within the range
  pub extends : Extends first end old new
  -- of the first listed nodes each that lies in the range is listed now
  pub taken : new.complete ≡ true → (j : ℕ) → j < count → first ≤ slice_index listed j → slice_index listed j < end → IsListed new.nodes.items (slice_index listed j)

-- of no nodes nothing is taken over
pub some_none : (first end : ℕ) (listed : List ℕ) (old : NodeList) → TakesSome first end listed 0 old old
some_none first end listed old = record { extends = extends_self first end old; taken = λ h j l. absurd (omega (arith, l)) }

-- a node in the range that is added is taken over
pub some_on : (first end : ℕ) (listed : List ℕ) (i v : ℕ) (old mid new : NodeList) → v ≡ slice_index listed i → first ≤ v → v < end → Added v mid new
    → TakesSome first end listed i old mid → TakesSome first end listed (i + 1) old new
some_on first end listed i v old mid new ev lo hi added g =
    let more : Extends first end mid new = extends_add first end v mid new lo hi added in
    record {
      extends = extends_then first end old mid new g.extends more;
      taken = λ h j l low high. elim (cases_lt j i) [
        | inl lt ↦ more.kept h (slice_index listed j) (g.taken (more.complete h) j lt low high)
        | inr ge ↦ added_here v (slice_index listed j) mid new (ap (slice_index listed) (let e : j ≡ i = omega (arith, l, ge) in e) ∙ sym ev) added h
      ];
    }

-- a node outside of the range needs no taking over
pub some_off : (first end : ℕ) (listed : List ℕ) (i : ℕ) (old mid : NodeList) → (first ≤ slice_index listed i → slice_index listed i < end → ⊥)
    → TakesSome first end listed i old mid → TakesSome first end listed (i + 1) old mid
some_off first end listed i old mid out g = record {
  extends = g.extends;
  taken = λ h j l low high. elim (cases_lt j i) [
    | inl lt ↦ g.taken h j lt low high
    | inr ge ↦
        let e : j ≡ i = omega (arith, l, ge) in
        absurd (out (subst (λ (k : ℕ). first ≤ slice_index listed k) e low) (subst (λ (k : ℕ). slice_index listed k < end) e high))
  ];
}

-- ---- all parts' lists

pub record TakesParts (qs : List FlowPart) (first end count : ℕ) (old new : NodeList) : Type 0 where
  -- the list has grown, within the range
  pub extends : Extends first end old new
  -- if it is complete, so are the lists of the first parts
  pub complete : new.complete ≡ true → (i : ℕ) (d : FlowPart) → i < count → i < length qs → (get_or qs i d).active.complete ≡ true
  -- if it is complete, it has each node in the range that these list
  pub listed : new.complete ≡ true → (i : ℕ) (d : FlowPart) (v : ℕ) → i < count → i < length qs → first ≤ v → v < end → IsListed (get_or qs i d).active.nodes.items v → IsListed new.nodes.items v

-- of no parts nothing is taken over
pub parts_none : (qs : List FlowPart) (first end : ℕ) (old : NodeList) → TakesParts qs first end 0 old old
parts_none qs first end old = record {
  extends = extends_self first end old;
  complete = λ h i d l. absurd (omega (arith, l));
  listed = λ h i d v l. absurd (omega (arith, l));
}

-- a part whose listed nodes in the range were all added is taken over
pub parts_more : (qs : List FlowPart) (first end i : ℕ) (p : FlowPart) (from : List ℕ) (old mid new : NodeList) → i < length qs → p ≡ get_or qs i p → p.active.complete ≡ true → from ≡ p.active.nodes.items
    → Extends first end mid new → (new.complete ≡ true → (j : ℕ) → j < length from → first ≤ slice_index from j → slice_index from j < end → IsListed new.nodes.items (slice_index from j))
    → TakesParts qs first end i old mid → TakesParts qs first end (i + 1) old new
parts_more qs first end i p from old mid new hi ep done ef more here g = record {
  extends = extends_then first end old mid new g.extends more;
  complete = λ h j d l la. elim (cases_lt j i) [
    | inl lt ↦ g.complete (more.complete h) j d lt la
    | inr ge ↦ let e : i ≡ j = omega (arith, l, ge) in subst (λ (q : FlowPart). q.active.complete ≡ true) (at d j e) done
  ];
  listed = λ h j d v l la lo up on. elim (cases_lt j i) [
    | inl lt ↦ more.kept h v (g.listed (more.complete h) j d v lt la lo up on)
    | inr ge ↦
        let e : i ≡ j = omega (arith, l, ge) in
        let same : (get_or qs j d).active.nodes.items ≡ from = sym (ef ∙ ap (λ (q : FlowPart). q.active.nodes.items) (at d j e)) in
        there (subst (λ (xs : List ℕ). IsListed xs v) same on) lo up h
  ];
}
  where
    at : (d : FlowPart) (j : ℕ) → i ≡ j → p ≡ get_or qs j d
    at d j e = ep ∙ (get_or_default qs i p d hi ∙ ap (λ (x : ℕ). get_or qs x d) e)

    there : {v : ℕ} → IsListed from v → first ≤ v → v < end → new.complete ≡ true → IsListed new.nodes.items v
    there {v} on lo up h = subst (λ (w : ℕ). IsListed new.nodes.items w) on.there (here h on.place on.inside (omega (arith, on.there, lo)) (omega (arith, on.there, up)))

-- what the steps of a list's making ensure
pub record Makes (qs : List FlowPart) (first end : ℕ) (begun grown : NodeList) (list : NodeList) : Type 0 where
  -- the list begins empty
  pub empty : begun.nodes.items ≡ []
  -- it has grown, within the range
  pub extends : Extends first end begun grown
  -- if the grown list is complete, so are the lists of all parts
  pub complete : grown.complete ≡ true → (i : ℕ) (d : FlowPart) → i < length qs → (get_or qs i d).active.complete ≡ true
  -- if it is complete, it has each node in the range that a part lists
  pub listed : grown.complete ≡ true → (i : ℕ) (d : FlowPart) (v : ℕ) → i < length qs → first ≤ v → v < end → IsListed (get_or qs i d).active.nodes.items v → IsListed grown.nodes.items v
  -- the list that was made is complete if the grown one is
  pub same : list.complete ≡ grown.complete
  -- its nodes rise
  pub rising : IsRising list.nodes.items
  -- it has each node that the grown list has
  pub kept : (v : ℕ) → IsListed grown.nodes.items v → IsListed list.nodes.items v
  -- it lies in each range in which the grown list does
  pub within : (first end : ℕ) → AreWithin first end grown.nodes.items → AreWithin first end list.nodes.items

-- a list made so, if it is complete, takes over what the parts list in the range
pub taken_over : (qs : List FlowPart) (first end : ℕ) (begun grown list : NodeList) → Makes qs first end begun grown list → list.complete ≡ true → TakesOver qs first end list.nodes.items
taken_over qs first end begun grown list m h =
    let done : grown.complete ≡ true = sym m.same ∙ h in
    record {
      within = m.within first end (m.extends.within done (λ i l. absurd (omega (arith, l, ap length m.empty))));
      rising = m.rising;
      complete = m.complete done;
      kept = λ i d v l lo up on. m.kept v (m.listed done i d v l lo up on);
    }

-- ---- parts that take over

-- a new part lists its active nodes if the parts before did
pub lists_anew : (net : FlowNet) (labels : List ℕ) (qs : List FlowPart) (q : FlowPart) → IsFlowNet net → AreFlowParts net 0 qs → q.end ≤ node_count net → length q.excess.items + q.first ≡ q.end
    → ((i : ℕ) → i < length q.excess.items → slice_index q.excess.items i ≡ slice_index (cells_of qs).excess (q.first + i))
    → ((w : ℕ) → q.first ≤ w → w < q.end → slice_index q.next.items (w - q.first) ≡ slice_index labels w)
    → (q.active.complete ≡ true → TakesOver qs q.first q.end q.active.nodes.items)
    → ListActive (node_count net) labels qs → ListsActive (node_count net) labels q
lists_anew net labels qs q ok cut within nodes excess next takes lists = record {
  within = λ h. (takes h).within;
  rising = λ h. (takes h).rising;
  next = λ h. next;
  rest = λ h v lo hi.
      let t : TakesOver qs q.first q.end q.active.nodes.items = takes h in
      let at : Holds (λ p. p.first) (λ p. p.end) qs v = find_part (FlowPartFits net) (λ p. p.first) (λ p. p.end) (node_count net) 0 qs cut v (omega arith) (omega (arith, hi, within)) in
      let was : AtPart net qs v (get_or qs at.index q) = at_part net qs v at.index q ok cut at.lt (at.low q) (at.high q) in
      elim ((lists at.index q at.lt).rest (t.complete at.index q at.lt) v (at.low q) (at.high q)) [
        | inl on ↦ inl (t.kept at.index q v at.lt lo hi on)
        | inr off ↦ inr (subst (λ (x : ℕ). active_by (node_count net) v x (slice_index labels v) ≡ false) (sym (same v lo hi ∙ was.excess)) off)
      ];
}
  where
    same : (v : ℕ) → q.first ≤ v → v < q.end → slice_index q.excess.items (v - q.first) ≡ slice_index (cells_of qs).excess v
    same v lo hi = excess (v - q.first) (omega (arith, hi, lo, nodes)) ∙ ap (slice_index (cells_of qs).excess) (let e : q.first + (v - q.first) ≡ v = omega (arith, lo) in e)

-- one more part that lists its active nodes
pub lists_more : (n : ℕ) (labels : List ℕ) (qs us : List FlowPart) (q : FlowPart) → us ≡ qs ++ q ∷ [] → ListActive n labels qs → ListsActive n labels q → ListActive n labels us
lists_more n labels qs us q e lists new i d h =
    let longer : length us ≡ length qs + 1 = omega (arith, ap length e, length-append qs (q ∷ [])) in
    subst (λ (xs : List FlowPart). ListsActive n labels (get_or xs i d)) (sym e) (elim (cases_lt i (length qs)) [
      | inl lt ↦ subst (λ (p : FlowPart). ListsActive n labels p) (sym (get_or-append qs (q ∷ []) d i lt)) (lists i d lt)
      | inr ge ↦
          let first : i - length qs ≡ 0 = omega (arith, h, longer, ge) in
          subst (λ (p : FlowPart). ListsActive n labels p) (sym (get_or-append_right qs (q ∷ []) (length qs) i d refl ge ∙ ap (λ (k : ℕ). get_or (q ∷ []) k d) first)) new
    ])
