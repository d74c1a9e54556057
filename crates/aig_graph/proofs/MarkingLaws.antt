-- Marks of one test after another, and what is counted of them.
use Rattle.std.proofs.Common.{[], ◌∷◌, ◌++◌, ℕ, ◌+◌, ◌-◌, ◌<◌, ◌≤◌, ◌≡◌, List, length, Bool, true, false, ◌||◌, ◌&&◌, nat_eq, get_or, take, cond, refl, arith, ap, sym, ◌∙◌, set, inl, inr, replicate, suc, nat_le}
use Rattle.std.proofs.Math.Bool.{or-false, or-true, or_assoc}
use Rattle.std.proofs.Math.ListN.{length-set}
use Rattle.std.proofs.lemmas.Bool.{cases_eq, cases_lt, eq-eqb, ne_eqb, le-leb, lt-leb, and_right}
use Rattle.std.proofs.lemmas.List.{get_or-set_same, get_or-set_other, take_all, length-replicate, get_or-replicate, get_or_past}
use Rattle.std.proofs.lemmas.List.Folds.{list_any_more}
use Rattle.std.specs.List.{list_any}
use Rattle.aig_graph.specs.Counting.{count_below, places}
use Rattle.aig_graph.specs.Marking.{Marks, AreMarks, AreAllMarks, mark_at}
use Rattle.aig_graph.specs.Tables.{table}
use Rattle.aig_graph.proofs.CountingLaws.{count-none, places-none}
use Rattle.aig_graph.proofs.TableLaws.{table-from, table-at, length-table}

-- marks of one test and then of another are marks of what passes either
pub Marks-then : (first : ℕ) (xs ys zs : List Bool) (p q : ℕ → Bool) → Marks first xs ys p → Marks first ys zs q → Marks first xs zs (λ v. p v || q v)
Marks-then first xs ys zs p q before after = record {
  as_long = after.as_long ∙ before.as_long;
  each = λ k h. let e = before.each k h in
      after.each k (omega (arith, before.as_long)) ∙ ap (λ (b : Bool). b || q (first + k)) e ∙ or_assoc (get_or xs k false) (p (first + k)) (q (first + k));
}

-- tests that agree on the variables of the table
pub Marks-alike : (first : ℕ) (xs ys : List Bool) (p q : ℕ → Bool) → Marks first xs ys p → ((v : ℕ) → first ≤ v → v < first + length xs → p v ≡ q v) → Marks first xs ys q
Marks-alike first xs ys p q marks same = record {
  as_long = marks.as_long;
  each = λ k h. marks.each k h ∙ ap (λ (b : Bool). get_or xs k false || b) (same (first + k) (omega arith) (omega arith));
}

-- tests that agree everywhere have equal marks
pub Marks-same : (first : ℕ) (xs ys : List Bool) (p q : ℕ → Bool) → Marks first xs ys p → ((v : ℕ) → p v ≡ q v) → Marks first xs ys q
Marks-same first xs ys p q marks same = Marks-alike first xs ys p q marks (λ v low high. same v)

-- marks that stay as they are are those of a test that nothing passes
pub Marks-none : (first : ℕ) (xs : List Bool) → Marks first xs xs (λ v. false)
Marks-none first xs = record { as_long = refl; each = λ k h. sym (or-false (get_or xs k false)) }

-- a variable that the table covers
pub Marks-one : (first : ℕ) (xs : List Bool) (w : ℕ) → first ≤ w → w - first < length xs → Marks first xs (set xs (w - first) true) (λ v. nat_eq w v)
Marks-one first xs w low h = record {
  as_long = length-set xs (w - first) true;
  each = λ k within. elim (cases_eq k (w - first)) [
    | inl same ↦ rw (same, get_or-set_same xs (w - first) true false h, eq-eqb w (first + (w - first)) (omega arith)) (sym (or-true (get_or xs (w - first) false)))
    | inr other ↦ rw (get_or-set_other xs (w - first) k true false other, ne_eqb w (first + k) (λ e. other (omega arith))) (sym (or-false (get_or xs k false)))
  ];
}

-- a variable that it doesn't
pub Marks-outside : (first : ℕ) (xs : List Bool) (w : ℕ) → ((k : ℕ) → k < length xs → w ≡ first + k → ⊥) → Marks first xs xs (λ v. nat_eq w v)
Marks-outside first xs w outside = record {
  as_long = refl;
  each = λ k h. rw (ne_eqb w (first + k) (outside k h)) (sym (or-false (get_or xs k false)));
}

-- one more element, y, of a list
pub Marks-more : {X : Type 0} (test : ℕ → X → Bool) (items : List X) (i : ℕ) (y : X) (first : ℕ) (xs ys zs : List Bool) → i < length items → y ≡ get_or items i y
    → Marks first xs ys (λ v. list_any (test v) (take i items)) → Marks first ys zs (λ v. test v y) → Marks first xs zs (λ v. list_any (test v) (take (i + 1) items))
Marks-more test items i y first xs ys zs h there before after =
    Marks-same first xs zs (λ v. list_any (test v) (take i items) || test v y) (λ v. list_any (test v) (take (i + 1) items))
    (Marks-then first xs ys zs (λ v. list_any (test v) (take i items)) (λ v. test v y) before after)
    (λ v. ap (λ x. list_any (test v) (take i items) || test v x) there ∙ sym (list_any_more (test v) items i y h))

-- those marks, if the loop has come to the end
pub Marks-all : {X : Type 0} (test : ℕ → X → Bool) (items : List X) (n first : ℕ) (xs ys : List Bool) → length items ≤ n
    → Marks first xs ys (λ v. list_any (test v) (take n items)) → Marks first xs ys (λ v. list_any (test v) items)
Marks-all test items n first xs ys h marks = rw take_all at marks

-- marks of nothing, and then those of a test
pub AreMarks-from_none : (first n : ℕ) (old new : List Bool) (p : ℕ → Bool) → old ≡ replicate n false → Marks first old new p → AreMarks first new p
AreMarks-from_none first n old new p fresh marks k h =
    let long : length new ≡ n = marks.as_long ∙ ap length fresh ∙ length-replicate n false in
    let unmarked : get_or old k false ≡ false = ap (λ (xs : List Bool). get_or xs k false) fresh ∙ get_or-replicate n k false false (omega arith) in
    marks.each k (omega (arith, marks.as_long)) ∙ ap (λ (b : Bool). b || p (first + k)) unmarked

-- a table of no marks that gets those of a test is the test's table
pub table-marks : (first n : ℕ) (old new : List Bool) (p : ℕ → Bool) → old ≡ replicate n false → Marks first old new p → new ≡ table first n p
table-marks first n old new p fresh marks =
    let long : length old ≡ n = ap length fresh ∙ length-replicate n false in
    table-from first n p new false (marks.as_long ∙ long) (λ k h. AreMarks-from_none first n old new p fresh marks k (omega (arith, marks.as_long)))

-- a test's table has the marks of the test
pub AreMarks-table : (first n : ℕ) (marks : List Bool) (p : ℕ → Bool) → marks ≡ table first n p → AreMarks first marks p
AreMarks-table first n marks p filled k h =
    let long : length marks ≡ n = ap length filled ∙ length-table first n p in
    ap (λ (xs : List Bool). get_or xs k false) filled ∙ table-at first n p k false (omega arith)

-- a test's table has all its marks, if no variable before the table passes
pub AreAllMarks-table : (first n : ℕ) (marks : List Bool) (p : ℕ → Bool) → marks ≡ table first n p → ((v : ℕ) → v < first → p v ≡ false) → AreAllMarks first marks p
AreAllMarks-table first n marks p filled before = record { before = before; each = AreMarks-table first n marks p filled }

-- the mark of a variable that the table covers
pub mark_at-covered : (first : ℕ) (marks : List Bool) (p : ℕ → Bool) (v : ℕ) → AreMarks first marks p → first ≤ v → v < first + length marks → mark_at first marks v ≡ p v
unfolding mark_at
mark_at-covered first marks p v each low high =
    ap (λ (b : Bool). b && get_or marks (v - first) false) (le-leb first v low) ∙ each (v - first) (omega arith) ∙ ap p (omega arith)

-- the mark of one before it or covered, if all are marked
pub mark_at-all : (first : ℕ) (marks : List Bool) (p : ℕ → Bool) (v : ℕ) → AreAllMarks first marks p → v < first + length marks → mark_at first marks v ≡ p v
unfolding mark_at
mark_at-all first marks p v all high = elim (cases_lt v first) [
  | inl early ↦ ap (λ (b : Bool). b && get_or marks (v - first) false) (lt-leb first v early) ∙ sym (all.before v early)
  | inr low ↦ mark_at-covered first marks p v all.each low high
]

-- counts at the start of a loop over marks, and one entry further
pub count-start : (first : ℕ) (marks : List Bool) (p : ℕ → Bool) → AreAllMarks first marks p → count_below p (first + 0) ≡ 0
count-start first marks p all = count-none p (first + 0) (λ v h. all.before v (omega arith))

-- one entry further the count has grown by one if the entry is marked
pub count-entry : (first : ℕ) (marks : List Bool) (p : ℕ → Bool) (i : ℕ) → AreAllMarks first marks p → i < length marks
    → count_below p (first + (i + 1)) ≡ count_below p (first + i) + cond (get_or marks i false) 1 0
unfolding count_below
count-entry first marks p i all h =
    let next : first + (i + 1) ≡ suc (first + i) = omega arith in
    ap (count_below p) next ∙ ap (λ (b : Bool). count_below p (first + i) + cond b 1 0) (sym (all.each i h))

-- at the start of a loop over marks no variable has been listed
pub places-start : (first : ℕ) (marks : List Bool) (p : ℕ → Bool) → AreAllMarks first marks p → places p (first + 0) ≡ []
places-start first marks p all = places-none p (first + 0) (λ v h. all.before v (omega arith))

-- one entry further the variables that pass have got the next one if the entry is marked
pub places-entry : (first : ℕ) (marks : List Bool) (p : ℕ → Bool) (i : ℕ) → AreAllMarks first marks p → i < length marks
    → places p (first + (i + 1)) ≡ places p (first + i) ++ cond (get_or marks i false) ((first + i) ∷ []) []
unfolding places
places-entry first marks p i all h =
    let next : first + (i + 1) ≡ suc (first + i) = omega arith in
    ap (places p) next ∙ ap (λ (b : Bool). places p (first + i) ++ cond b ((first + i) ∷ []) []) (sym (all.each i h))

-- a count at the end of a loop
pub count-end : (first n m : ℕ) (p : ℕ → Bool) (k : ℕ) → n ≤ m → m ≤ n → k ≡ count_below p (first + n) → k ≡ count_below p (first + m)
count-end first n m p k h l counted = let same : n ≡ m = omega arith in counted ∙ ap (λ (i : ℕ). count_below p (first + i)) same

-- at the end of a loop the variables listed are those of the whole table that pass
pub places-end : (first n m : ℕ) (p : ℕ → Bool) (vars : List ℕ) → n ≤ m → m ≤ n → vars ≡ places p (first + n) → vars ≡ places p (first + m)
places-end first n m p vars h l listed = let same : n ≡ m = omega arith in listed ∙ ap (λ (i : ℕ). places p (first + i)) same

-- no mark of a fresh table is set
pub none-marked : (first n v : ℕ) → mark_at first (replicate n false) v ≡ false
unfolding mark_at
none-marked first n v = and_right (nat_le first v) (get_or (replicate n false) (v - first) false) (fresh n (v - first))
  where
    fresh : (n k : ℕ) → get_or (replicate n false) k false ≡ false
    fresh n k = elim (cases_lt k n) [
      | inl below ↦ get_or-replicate n k false false below
      | inr past ↦ get_or_past (replicate n false) k false (omega (arith, past, length-replicate n false))
    ]
