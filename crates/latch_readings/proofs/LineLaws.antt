-- What the lines up to a place say of the latches up to another.
use Rattle.std.proofs.Common.{ℕ, zero, suc, add-one, zero-add, ◌+◌, ◌-◌, ◌<◌, ◌≤◌, ◌≡◌, inl, inr, List, [], ◌∷◌, ◌++◌, length, take, append-nil, append_assoc, get_or, true, false, not, eq-eqb, Some, slice_get, refl, arith, ap, sym, ◌∙◌, subst}
use Rattle.std.proofs.Math.Seq.{take-suc}
use Rattle.std.specs.List.{All, Contains, filter}
use Rattle.std.proofs.lemmas.Bool.{cases_Bool}
use Rattle.std.proofs.lemmas.List.{get_or_append_left, get_or_push, length-take-le, length_push, take_all}
use Rattle.std.proofs.lemmas.List.Elements.{All-contains, All-filter}
use Rattle.std.proofs.lemmas.Option.{get_or_from_slice_get, slice_get_within}
use Rattle.aig_graph.specs.Graph.{Graph, first_latch}
use Rattle.aig_graph.specs.Tables.{table}
use Rattle.aig_graph.proofs.PlacesLaws.{slice_get-append_left, slice_get-append_right}
use Rattle.aig_graph.proofs.TableLaws.{length-table, table-at, table-same}
use Rattle.certificates.specs.declared.merged.MergedLatch.{MergedLatch}
use Rattle.merged_circuits.specs.Lines.{IsSaidBy, is_merged, latch_line, merged_lines}
use Rattle.merged_circuits.specs.Readings.{own_literal, read}
use Rattle.merged_circuits.proofs.LineLaws.{lines_below, lines-all, lines-more, lines-none, lines-stay}
use Rattle.latch_readings.specs.Judgements.{NameLatch, SayNoReading}

-- the first lines are those of the latches that have a literal
pub record AreSaid (g : Graph) (lines : List MergedLatch) (reads : List ℕ) (place at : ℕ) : Type 0 where
  -- each latch before the place has a literal
  pub long : length reads ≡ place
  -- `at` lines are taken
  pub within : at ≤ length lines
  -- those are the lines of these latches
  pub said : lines_below g reads place ≡ take at lines

-- a literal more at the end leaves the lines before
lines-before : (g : Graph) (reads : List ℕ) (lit : ℕ) → lines_below g (reads ++ lit ∷ []) (length reads) ≡ lines_below g reads (length reads)
unfolding lines_below
lines-before g reads lit =
    let none : MergedLatch = record { latch = 0; reads = 0 } in
    ap (filter is_merged)
    (table-same 0 (length reads) (latch_line g (reads ++ lit ∷ [])) (latch_line g reads) none (λ v low h.
    ap (λ (n : ℕ). record { latch = first_latch g + v; reads = n }) (get_or_append_left reads (lit ∷ []) 0 v (omega (arith, h)))))

read-last : (reads : List ℕ) (lit : ℕ) → read (reads ++ lit ∷ []) (length reads) ≡ lit
read-last reads lit = get_or_push reads lit 0 (length reads) refl

module _ (g : Graph) (lines : List MergedLatch) where
  -- nothing is said of no latch
  pub said-none : AreSaid g lines [] 0 0
  said-none = record { long = refl; within = omega arith; said = lines-none g [] }

  -- the line of the next latch
  pub said-more : (reads : List ℕ) (place at lit : ℕ) → AreSaid g lines reads place at → slice_get lines at ≡ Some (record { latch = first_latch g + place; reads = lit })
      → is_merged (record { latch = first_latch g + place; reads = lit }) ≡ true → AreSaid g lines (reads ++ lit ∷ []) (place + 1) (at + 1)
  said-more reads place at lit so there merged =
      let line : MergedLatch = record { latch = first_latch g + place; reads = lit } in
      let less : at < length lines = slice_get_within lines at line there in
      let here : latch_line g (reads ++ lit ∷ []) place ≡ line =
      ap (λ (n : ℕ). record { latch = first_latch g + place; reads = n }) (ap (read (reads ++ lit ∷ [])) (sym so.long) ∙ read-last reads lit) in
      let before : lines_below g (reads ++ lit ∷ []) place ≡ take at lines =
      ap (lines_below g (reads ++ lit ∷ [])) (sym so.long) ∙ lines-before g reads lit ∙ ap (lines_below g reads) so.long ∙ so.said in
      record {
        long = length_push reads lit ∙ ap (λ (n : ℕ). n + 1) so.long;
        within = omega (arith, less);
        said =
            lines-more g (reads ++ lit ∷ []) place (ap is_merged here ∙ merged)
            ∙ ap (λ (xs : List MergedLatch). xs ++ latch_line g (reads ++ lit ∷ []) place ∷ []) before
            ∙ ap (λ (x : MergedLatch). take at lines ++ x ∷ []) (here ∙ sym (get_or_from_slice_get lines at line line there))
            ∙ sym (take-suc lines at line less) ∙ ap (λ (n : ℕ). take n lines) (sym (add-one at));
      }

  -- the next latch has no line
  pub said-own : (reads : List ℕ) (place at own : ℕ) → AreSaid g lines reads place at → own ≡ own_literal g place → AreSaid g lines (reads ++ own ∷ []) (place + 1) at
  said-own reads place at own so is =
      let here : latch_line g (reads ++ own ∷ []) place ≡ record { latch = first_latch g + place; reads = own } =
      ap (λ (n : ℕ). record { latch = first_latch g + place; reads = n }) (ap (read (reads ++ own ∷ [])) (sym so.long) ∙ read-last reads own) in
      let before : lines_below g (reads ++ own ∷ []) place ≡ take at lines =
      ap (lines_below g (reads ++ own ∷ [])) (sym so.long) ∙ lines-before g reads own ∙ ap (lines_below g reads) so.long ∙ so.said in
      record {
        long = length_push reads own ∙ ap (λ (n : ℕ). n + 1) so.long;
        within = so.within;
        said = lines-stay g (reads ++ own ∷ []) place (ap is_merged here ∙ not-merged own place is) ∙ before;
      }
    where
      not-merged : (own place : ℕ) → own ≡ own_literal g place → is_merged (record { latch = first_latch g + place; reads = own }) ≡ false
      not-merged own place is = ap not (eq-eqb own (own_literal g place) is)

  -- all latches have a literal, and all lines are read
  pub said-all : (reads : List ℕ) (place at : ℕ) → AreSaid g lines reads place at → place ≡ length g.latches → length lines ≤ at → IsSaidBy g lines reads
  said-all reads place at so end all = record {
    long = so.long ∙ end;
    said = sym (lines-all g reads) ∙ ap (lines_below g reads) (sym end) ∙ so.said ∙ take_all at lines all;
  }

-- the latches before the place have the first `at` lines in each reading that the lines say
abbrev pub AreTaken : Graph → List MergedLatch → ℕ → ℕ → Type 0
AreTaken g lines place at = (whole : List ℕ) → IsSaidBy g lines whole → lines_below g whole place ≡ take at lines

module _ (g : Graph) (lines : List MergedLatch) where
  -- the lines of further latches stand behind those of the latches before
  lines-further : (whole : List ℕ) (n k : ℕ) → (rest : List MergedLatch) × (lines_below g whole (n + k) ≡ lines_below g whole n ++ rest)
  lines-further whole n zero = ([], ap (lines_below g whole) (omega arith) ∙ sym (append-nil (lines_below g whole n)))
  lines-further whole n (suc k) =
      let before = lines-further whole n k in
      let line : MergedLatch = latch_line g whole (n + k) in
      let next : n + suc k ≡ n + k + 1 = omega arith in
      elim (cases_Bool (is_merged line)) [
        | inl merged ↦ (
          before.0 ++ line ∷ [],
          ap (lines_below g whole) next ∙ lines-more g whole (n + k) merged ∙ ap (λ (xs : List MergedLatch). xs ++ line ∷ []) before.1
              ∙ append_assoc (lines_below g whole n) before.0 (line ∷ []),
        )
        | inr own ↦ (before.0, ap (lines_below g whole) next ∙ lines-stay g whole (n + k) own ∙ before.1)
      ]

  -- so they begin all lines
  pub lines-begin : (whole : List ℕ) (n : ℕ) → n ≤ length g.latches → IsSaidBy g lines whole → (rest : List MergedLatch) × (lines ≡ lines_below g whole n ++ rest)
  lines-begin whole n h so =
      let further = lines-further whole n (length g.latches - n) in
      let all : length g.latches ≡ n + (length g.latches - n) = omega (arith, h) in
      (further.0, sym so.said ∙ sym (lines-all g whole) ∙ ap (lines_below g whole) all ∙ further.1)

  -- a line is that of the latch that it names
  line-of : (whole : List ℕ) → IsSaidBy g lines whole → (line : MergedLatch) → Contains lines line → (j : ℕ) → line.latch ≡ first_latch g + j → line ≡ latch_line g whole j
  unfolding merged_lines
  line-of whole so line listed =
      let P : MergedLatch → Type 0 = λ x. (j : ℕ) → x.latch ≡ first_latch g + j → x ≡ latch_line g whole j in
      let each : All P (table 0 (length g.latches) (latch_line g whole)) =
      λ k d h j is.
      let less : k < length g.latches = omega (arith, h, length-table 0 (length g.latches) (latch_line g whole)) in
      let here : get_or (table 0 (length g.latches) (latch_line g whole)) k d ≡ latch_line g whole k =
      table-at 0 (length g.latches) (latch_line g whole) k d less ∙ ap (latch_line g whole) (zero-add k) in
      let place : k ≡ j = omega (arith, is, ap (λ (x : MergedLatch). x.latch) here) in
      here ∙ ap (latch_line g whole) place in
      All-contains P lines line (subst (λ (xs : List MergedLatch). All P xs) so.said (All-filter is_merged P (table 0 (length g.latches) (latch_line g whole)) each)) listed

  -- no latch has a line
  pub taken-none : AreTaken g lines 0 0
  taken-none = λ whole so. lines-none g whole

  -- the next line names the next latch
  pub taken-more : (place at lit : ℕ) → AreTaken g lines place at → slice_get lines at ≡ Some (record { latch = first_latch g + place; reads = lit })
      → is_merged (record { latch = first_latch g + place; reads = lit }) ≡ true → AreTaken g lines (place + 1) (at + 1)
  taken-more place at lit taken there merged =
      λ whole so.
      let line : MergedLatch = record { latch = first_latch g + place; reads = lit } in
      let less : at < length lines = slice_get_within lines at line there in
      let here : get_or lines at line ≡ line = get_or_from_slice_get lines at line line there in
      let same : line ≡ latch_line g whole place = line-of whole so line (at, less, here) place refl in
      lines-more g whole place (ap is_merged (sym same) ∙ merged) ∙ ap (λ (xs : List MergedLatch). xs ++ latch_line g whole place ∷ []) (taken whole so)
      ∙ ap (λ (x : MergedLatch). take at lines ++ x ∷ []) (sym same ∙ sym here) ∙ sym (take-suc lines at line less) ∙ ap (λ (n : ℕ). take n lines) (sym (add-one at))

  -- it doesn't, so the next latch reads as itself
  pub taken-own : (place at : ℕ) → place < length g.latches → at ≤ length lines → AreTaken g lines place at
      → ((lit : ℕ) → slice_get lines at ≡ Some (record { latch = first_latch g + place; reads = lit }) → is_merged (record { latch = first_latch g + place; reads = lit }) ≡ true → ⊥)
      → AreTaken g lines (place + 1) at
  taken-own place at h within taken none =
      λ whole so.
      let line : MergedLatch = latch_line g whole place in
      elim (cases_Bool (is_merged line)) [
        | inl merged ↦ (
            let begun = lines-begin whole (place + 1) (omega (arith, h)) so in
            let more : lines ≡ (take at lines ++ line ∷ []) ++ begun.0 =
            begun.1 ∙ ap (λ (xs : List MergedLatch). xs ++ begun.0) (lines-more g whole place merged ∙ ap (λ (xs : List MergedLatch). xs ++ line ∷ []) (taken whole so)) in
            let end : at ≡ length (take at lines) + 0 = omega (arith, length-take-le at lines within) in
            let last : slice_get (take at lines ++ line ∷ []) at ≡ Some line =
            ap (slice_get (take at lines ++ line ∷ [])) end ∙ slice_get-append_right (take at lines) (line ∷ []) 0 in
            let there : slice_get lines at ≡ Some line = ap (λ (xs : List MergedLatch). slice_get xs at) more ∙ slice_get-append_left (take at lines ++ line ∷ []) begun.0 at line last in
            absurd (none line.reads there merged)
            )
        | inr own ↦ lines-stay g whole place own ∙ taken whole so
      ]

  -- if a line is left over, no reading has these lines
  pub taken-all : (place at : ℕ) → AreTaken g lines place at → place ≡ length g.latches → at < length lines → SayNoReading g lines
  taken-all place at taken end left =
      λ whole so.
      let all : lines ≡ take at lines = sym so.said ∙ sym (lines-all g whole) ∙ ap (lines_below g whole) (sym end) ∙ taken whole so in
      omega (arith, left, ap (λ (xs : List MergedLatch). length xs) all, length-take-le at lines (omega (arith, left)))

-- a line that is left over names its latch
pub named : (lines : List MergedLatch) (at : ℕ) (line : MergedLatch) → at < length lines → get_or lines at line ≡ line → NameLatch lines line.latch
named lines at line less there = (line, (at, less, there), refl)
