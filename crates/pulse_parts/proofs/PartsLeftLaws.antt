-- Parts that stand end to end, of which the first ones were passed: what the next one holds.
use Rattle.std.proofs.Common.{◌≡◌, ℕ, suc, zero, ◌+◌, ◌-◌, ◌<◌, ◌≤◌, List, [], ◌∷◌, length, slice_index, get_or, drop, drop-cons, arith, refl, ap, sym, ◌∙◌, inl, inr}
use Rattle.std.proofs.lemmas.Bool.{cases_lt}
use Rattle.std.proofs.lemmas.List.{get_or-append_right, length-append}
use Rattle.std.proofs.Math.ListN.{get_or-append}
use Rattle.std.specs.List.{flat_map}
use Rattle.pulse_parts.specs.Parts.{IsPiece, IsParted}

pub record Rising (pos : ℕ → ℕ) (n : ℕ) : Type 0 where
  -- the places begin at 0
  pub zeroed : pos 0 ≡ 0
  -- they don't fall
  pub up : (u v : ℕ) → u ≤ v → v ≤ n → pos u ≤ pos v

-- the parts that are left hold the nodes from a node on
pub record Left {P : Type 0} (fits : P → Type 0) (first end : P → ℕ) (values : P → List ℕ) (pos : ℕ → ℕ) (n from : ℕ) (all rest : List P) : Type 0 where
  -- the parts that are left stand end to end from there on
  pub cut : IsParted fits first end n from rest
  -- the values of all parts from there on are those of the parts that are left
  pub same : (x : ℕ) → pos from ≤ x → slice_index (flat_map values all) x ≡ slice_index (flat_map values rest) (x - pos from)

-- before the first part all are left
pub left_all : {P : Type 0} (fits : P → Type 0) (first end : P → ℕ) (values : P → List ℕ) (pos : ℕ → ℕ) (n : ℕ) (all : List P) → Rising pos n
    → IsParted fits first end n 0 all → Left fits first end values pos n 0 all all
left_all {P} fits first end values pos n all up cut = record {
  cut = cut;
  same = λ x past. ap (λ (y : ℕ). slice_index (flat_map values all) y) (let e : x ≡ x - pos 0 = omega (arith, up.zeroed) in e);
}

-- past the next part those after it are left, from its end on
pub left_more : {P : Type 0} (fits : P → Type 0) (first end : P → ℕ) (values : P → List ℕ) (pos : ℕ → ℕ) (n from : ℕ) (all : List P) (p : P) (ps : List P) → Rising pos n
    → ((q : P) → fits q → IsPiece first end values pos n q) → Left fits first end values pos n from all (p ∷ ps) → Left fits first end values pos n (end p) all ps
left_more {P} fits first end values pos n from all p ps up piece l =
    let fit : IsPiece first end values pos n p = piece p l.cut.1.0 in
    let is : pos (first p) ≡ pos from = ap (λ (x : ℕ). pos x) l.cut.0 in
    let mid : pos (first p) ≤ pos (end p) = up.up (first p) (end p) fit.ordered fit.within in
    let size : length (values p) + pos from ≡ pos (end p) = omega (arith, fit.sized, is) in
    record {
      cut = l.cut.1.1;
      same = λ x past. l.same x (omega (arith, size)) ∙ (get_or-append_right (values p) (flat_map values ps) (length (values p)) (x - pos from) 0 refl (omega (arith, size, past))
          ∙ ap (λ (y : ℕ). slice_index (flat_map values ps) y) (let e : x - pos from - length (values p) ≡ x - pos (end p) = omega (arith, size, past) in e));
    }

-- what the next part holds
pub left_here : {P : Type 0} (fits : P → Type 0) (first end : P → ℕ) (values : P → List ℕ) (pos : ℕ → ℕ) (n from : ℕ) (all : List P) (p : P) (ps : List P) → Rising pos n
    → ((q : P) → fits q → IsPiece first end values pos n q) → Left fits first end values pos n from all (p ∷ ps)
    → (x : ℕ) → pos (first p) ≤ x → x < pos (end p) → slice_index (flat_map values all) x ≡ slice_index (values p) (x - pos (first p))
left_here {P} fits first end values pos n from all p ps up piece l x lo hi =
    let fit : IsPiece first end values pos n p = piece p l.cut.1.0 in
    let is : pos (first p) ≡ pos from = ap (λ (y : ℕ). pos y) l.cut.0 in
    let inside : x - pos from < length (values p) = omega (arith, fit.sized, is, hi, lo) in
    l.same x (omega (arith, is, lo)) ∙ (get_or-append (values p) (flat_map values ps) 0 (x - pos from) inside
    ∙ ap (λ (y : ℕ). slice_index (values p) y) (let e : x - pos from ≡ x - pos (first p) = omega (arith, is) in e))

-- the parts from a place on are the part there and those after it
pub left_at : {P : Type 0} (all : List P) (i : ℕ) (p : P) → i < length all → p ≡ get_or all i p → drop i all ≡ p ∷ drop (i + 1) all
left_at {P} all i p h e = drop-cons all i p h ∙ ap (λ (q : P). q ∷ drop (suc i) all) (sym e) ∙ ap (λ (x : ℕ). p ∷ drop x all) (let q : suc i ≡ i + 1 = omega arith in q)

-- the part of a cut that holds node v
pub record Holds {P : Type 0} (first end : P → ℕ) (ps : List P) (v : ℕ) : Type 0 where
  -- the place of the part
  pub index : ℕ
  -- it is the place of one of the parts
  pub lt : index < length ps
  -- the part begins at v or before it
  pub low : (d : P) → first (get_or ps index d) ≤ v
  -- it ends after v
  pub high : (d : P) → v < end (get_or ps index d)

-- a node among those of the parts is one of some part's
pub find_part : {P : Type 0} (fits : P → Type 0) (first end : P → ℕ) (n u : ℕ) (ps : List P) → IsParted fits first end n u ps → (v : ℕ) → u ≤ v → v < n → Holds first end ps v
find_part {P} fits first end n u [] cut v lo hi = absurd (omega (arith, cut))
find_part {P} fits first end n u (p ∷ ps) cut v lo hi = elim (cases_lt v (end p)) [
  | inl lt ↦ record { index = 0; lt = omega arith; low = λ d. omega (arith, cut.0); high = λ d. lt }
  | inr ge ↦ let h : Holds first end ps v = find_part fits first end n (end p) ps cut.1.1 v ge hi in
      record { index = suc h.index; lt = omega (arith, h.lt); low = λ d. h.low d; high = λ d. h.high d }
]

-- each part of a cut fits
pub part_fits : {P : Type 0} (fits : P → Type 0) (first end : P → ℕ) (n u : ℕ) (ps : List P) → IsParted fits first end n u ps → (i : ℕ) (d : P) → i < length ps → fits (get_or ps i d)
part_fits {P} fits first end n u [] cut i d h = absurd (omega arith)
part_fits {P} fits first end n u (p ∷ ps) cut zero d h = cut.1.0
part_fits {P} fits first end n u (p ∷ ps) cut (suc i) d h = part_fits fits first end n (end p) ps cut.1.1 i d (omega arith)

-- the values of a part are those of the whole
pub whole_at : {P : Type 0} (fits : P → Type 0) (first end : P → ℕ) (values : P → List ℕ) (pos : ℕ → ℕ) (n : ℕ) → Rising pos n → ((q : P) → fits q → IsPiece first end values pos n q)
    → (from : ℕ) (all : List P) (ps : List P) → Left fits first end values pos n from all ps → (i : ℕ) (d : P) → i < length ps
    → (x : ℕ) → pos (first (get_or ps i d)) ≤ x → x < pos (end (get_or ps i d)) → slice_index (flat_map values all) x ≡ slice_index (values (get_or ps i d)) (x - pos (first (get_or ps i d)))
whole_at {P} fits first end values pos n up piece from all [] l i d h x lo hi = absurd (omega arith)
whole_at {P} fits first end values pos n up piece from all (p ∷ ps) l zero d h x lo hi = left_here fits first end values pos n from all p ps up piece l x lo hi
whole_at {P} fits first end values pos n up piece from all (p ∷ ps) l (suc i) d h x lo hi =
    whole_at fits first end values pos n up piece (end p) all ps (left_more fits first end values pos n from all p ps up piece l) i d (omega arith) x lo hi

-- parts end to end have as many values together as their nodes have places
pub whole_len : {P : Type 0} (fits : P → Type 0) (first end : P → ℕ) (values : P → List ℕ) (pos : ℕ → ℕ) (n u : ℕ) → Rising pos n → ((q : P) → fits q → IsPiece first end values pos n q)
    → (ps : List P) → u ≤ n → IsParted fits first end n u ps → length (flat_map values ps) + pos u ≡ pos n
whole_len {P} fits first end values pos n u up piece [] le cut = omega (arith, ap (λ (x : ℕ). pos x) cut)
whole_len {P} fits first end values pos n u up piece (p ∷ ps) le cut =
    let fit : IsPiece first end values pos n p = piece p cut.1.0 in
    let is : pos (first p) ≡ pos u = ap (λ (y : ℕ). pos y) cut.0 in
    omega (arith, length-append (values p) (flat_map values ps), whole_len fits first end values pos n (end p) up piece ps fit.within cut.1.1, fit.sized, is)
