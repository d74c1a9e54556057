-- The lines of a file are read as its items, section by section.
use Rattle.std.proofs.Common.{ℕ, suc, zero, ◌+◌, ◌<◌, ◌≤◌, ◌≡◌, ◌⊎◌, inl, inr, List, [], ◌∷◌, ◌++◌, length, map, fold, Result, Ok, Bool, true, false, cond, ◌&&◌, refl, sym, ap, subst, ◌∙◌, append_assoc, append-nil, arith}
use Rattle.std.specs.List.{AllZip}
use Rattle.std.proofs.lemmas.List.{length_push}
use Rattle.std.proofs.lemmas.Bool.{and_parts}
use Rattle.file_words.specs.declared.fault.ReadError.{ReadError}
use Rattle.file_words.specs.Answering.{◌>>=◌}
use Rattle.ascii_file.specs.declared.header.Header.{Header}
use Rattle.ascii_file.specs.declared.raw.Section.{Section}
use Rattle.ascii_file.specs.Raw.{Raw}
use Rattle.ascii_file.specs.Items.{Item, section_of, begins_comment}
use Rattle.ascii_file.specs.Reading.{next_section, with_item, read_line, State, InItems, InComment, is_symbols, is_complete, take_lines}
use Rattle.ascii_file.specs.Files.{Spells, IsComment}
use Rattle.ascii_file.proofs.CheckLaws.{same_ok, Fits}
use Rattle.ascii_file.proofs.StepLaws.{bind_ok, LineRead, line_was_read, item_taken}

-- ---- items that follow one another

-- each item is of the section that is next, and fits
abbrev pub Follow : Header → Raw → List Item → Type 0
Follow h raw [] = Unit {0}
Follow h raw (item ∷ items) = ((next_section h raw ≡ section_of item) × Fits h raw item) × Follow h (with_item raw item) items

abbrev pub with_items : Raw → List Item → Raw
with_items raw items = fold with_item raw items

-- the offset after these lines
abbrev pub offset_after : ℕ → List (List ℕ) → ℕ
offset_after at [] = at
offset_after at (line ∷ rest) = offset_after (at + length line + 1) rest

-- lines that spell items which follow are read as these items
pub items_taken : (h : Header) (items : List Item) (raw : Raw) (at : ℕ) (middle rest : List (List ℕ)) → AllZip Spells middle items → Follow h raw items
    → take_lines (InItems h raw at) (middle ++ rest) ≡ take_lines (InItems h (with_items raw items) (offset_after at middle)) rest
unfolding take_lines
items_taken h [] raw at [] rest spelt follow = refl
items_taken h [] raw at (line ∷ middle) rest spelt follow = absurd spelt
items_taken h (item ∷ items) raw at [] rest spelt follow = absurd spelt
items_taken h (item ∷ items) raw at (line ∷ middle) rest spelt follow =
    ap (λ (r : Result State ReadError). r >>= λ next. take_lines next (middle ++ rest)) (item_taken h raw at line item follow.0.0 spelt.0 follow.0.1)
    ∙ items_taken h items (with_item raw item) (at + length line + 1) middle rest spelt.1 follow.1

-- in the comment nothing changes
pub comment_taken : (h : Header) (raw : Raw) (rest : List (List ℕ)) → take_lines (InComment h raw) rest ≡ Ok (InComment h raw)
unfolding take_lines
comment_taken h raw [] = refl
comment_taken h raw (line ∷ rest) = comment_taken h raw rest

-- how the lines of the items end: with the file, or where a comment begins
abbrev pub Ends : Header → Raw → List (List ℕ) → State → Type 0
Ends h raw last state =
    ((last ≡ []) × (at : ℕ) × (state ≡ InItems h raw at))
    ⊎ (IsComment last × (is_complete h raw ≡ true) × (state ≡ InComment h raw))

-- what was read of lines
pub record WasRead (h : Header) (raw : Raw) (ls : List (List ℕ)) (state : State) : Type 0 where
  -- the items that were read
  pub items : List Item
  -- the lines that spell them
  pub middle : List (List ℕ)
  -- the lines after these
  pub last : List (List ℕ)
  -- the lines are these two parts
  pub parts : ls ≡ middle ++ last
  -- each of the lines spells its item
  pub spelt : AllZip Spells middle items
  -- the items follow what was read before
  pub follow : Follow h raw items
  -- the last lines end the items where the reading stands
  pub ends : Ends h (with_items raw items) last state

-- lines that are taken after the header spell items which follow, and then the file or its comment
-- ends them
pub lines_were_read : (h : Header) (ls : List (List ℕ)) (raw : Raw) (at : ℕ) (state : State) → take_lines (InItems h raw at) ls ≡ Ok state → WasRead h raw ls state
unfolding take_lines
lines_were_read h [] raw at state e = record { items = []; middle = []; last = []; parts = refl; spelt = tt; follow = tt; ends = inl (refl, at, sym (same_ok (InItems h raw at) state e)) }
lines_were_read h (line ∷ ls) raw at state e = by_test (λ (r : Raw) (offset : ℕ) same. lines_were_read h ls r offset state same) (is_complete h raw && begins_comment line) refl e
  where
    by_test : ((r : Raw) (offset : ℕ) → take_lines (InItems h r offset) ls ≡ Ok state → WasRead h r ls state) → (test : Bool) → (is_complete h raw && begins_comment line) ≡ test
        → (cond test (Ok (InComment h raw)) (read_line h raw at line >>= λ more. Ok (InItems h more (at + length line + 1))) >>= λ next. take_lines next ls) ≡ Ok state
        → WasRead h raw (line ∷ ls) state
    by_test again true is e =
        let both = and_parts (is_complete h raw) (begins_comment line) is in
        record {
          items = [];
          middle = [];
          last = line ∷ ls;
          parts = refl;
          spelt = tt;
          follow = tt;
          ends = inr (both.1, both.0, same_ok state (InComment h raw) (sym e ∙ comment_taken h raw ls));
        }
    by_test again false is e =
        let step = bind_ok (read_line h raw at line >>= λ more. Ok (InItems h more (at + length line + 1))) (λ next. take_lines next ls) state e in
        let read = bind_ok (read_line h raw at line) (λ more. Ok (InItems h more (at + length line + 1))) step.0 step.1 in
        let one : LineRead h raw line read.0 = line_was_read h raw read.0 at line read.1 in
        let next : InItems h (with_item raw one.item) (at + length line + 1) ≡ step.0
        = ap (λ (r : Raw). InItems h r (at + length line + 1)) one.grown ∙ same_ok (InItems h read.0 (at + length line + 1)) step.0 read.2 in
        let later = again (with_item raw one.item) (at + length line + 1) (ap (λ (s : State). take_lines s ls) next ∙ step.2) in
        record {
          items = one.item ∷ later.items;
          middle = line ∷ later.middle;
          last = later.last;
          parts = ap (λ (zs : List (List ℕ)). line ∷ zs) later.parts;
          spelt = (one.spelt, later.spelt);
          follow = ((one.next, one.fits), later.follow);
          ends = later.ends;
        }

-- ---- the items of one section

-- A section: the raw circuit when those before it are full and it has these items.
pub record IsSection (h : Header) {X : Type 0} (section : Section) (count : ℕ) (make : X → Item) (state : List X → Raw) : Type 0 where
  -- until it has as many items as counted, the section is the next one
  pub here : (xs : List X) → length xs < count → next_section h (state xs) ≡ section
  -- with an item more the raw circuit is that of the longer list
  pub grows : (xs : List X) (x : X) → with_item (state xs) (make x) ≡ state (xs ++ x ∷ [])
  -- its items belong to the section
  pub made : (x : X) → section_of (make x) ≡ section
  -- each item of the section is made so
  pub inverse : (item : Item) → section ≡ section_of item → (x : X) × (item ≡ make x)
  -- it isn't the section of symbols
  pub unfinished : is_symbols section ≡ false

-- each of the items ys may follow those before it, of which xs are the first
abbrev pub AllFollow : {X : Type 0} → (List X → X → Type 0) → List X → List X → Type 0
AllFollow Follows xs [] = Unit {0}
AllFollow Follows xs (y ∷ ys) = Follows xs y × AllFollow Follows (xs ++ y ∷ []) ys

-- each fits
abbrev pub AllFit : {X : Type 0} → Header → (X → Item) → (List X → Raw) → List X → List X → Type 0
AllFit h make state xs ys = AllFollow (λ zs y. Fits h (state zs) (make y)) xs ys

same_front : (a b : Item) (more others : List Item) → a ≡ b → more ≡ others → a ∷ more ≡ b ∷ others
same_front a b more others e f = cc

-- the items of a section, and those of the sections after it
pub record Parts (h : Header) {X : Type 0} (n : ℕ) (make : X → Item) (state : List X → Raw) (xs : List X) (items : List Item) : Type 0 where
  -- the items of this section
  pub front : List X
  -- the items of the sections after it
  pub rest : List Item
  -- the items are these two parts
  pub parts : items ≡ map make front ++ rest
  -- there are as many of this section as it lacked
  pub counted : length front ≡ n
  -- each of them fits after those before it
  pub fit : AllFit h make state xs front
  -- the rest follows after them
  pub follow : Follow h (state (xs ++ front)) rest
  -- with the rest all sections are full
  pub complete : is_complete h (with_items (state (xs ++ front)) rest) ≡ true

module _ (h : Header) (X : Type 0) (section : Section) (count : ℕ) (make : X → Item) (state : List X → Raw) (laws : IsSection h section count make state) where
  -- items of a section that each fit, and what follows after them, follow what was read before
  pub section_follows : (ys xs : List X) (rest : List Item) → length xs + length ys ≤ count → AllFit h make state xs ys → Follow h (state (xs ++ ys)) rest → Follow h (state xs) (map make ys ++ rest)
  section_follows [] xs rest room fit follow = subst (λ (zs : List X). Follow h (state zs) rest) (append-nil xs) follow
  section_follows (y ∷ ys) xs rest room fit follow = (
    (laws.here xs (omega arith) ∙ sym (laws.made y), fit.0),
    subst (λ (raw : Raw). Follow h raw (map make ys ++ rest)) (sym (laws.grows xs y))
        (section_follows ys (xs ++ y ∷ []) rest (omega (arith, length_push xs y)) fit.1 (subst (λ (zs : List X). Follow h (state zs) rest) (sym (append_assoc xs (y ∷ []) ys)) follow)),
  )

  -- a section's items taken one by one make the raw circuit with all of them
  pub section_grown : (ys xs : List X) (rest : List Item) → with_items (state xs) (map make ys ++ rest) ≡ with_items (state (xs ++ ys)) rest
  section_grown [] xs rest = ap (λ (zs : List X). with_items (state zs) rest) (sym (append-nil xs))
  section_grown (y ∷ ys) xs rest =
      ap (λ (raw : Raw). with_items raw (map make ys ++ rest)) (laws.grows xs y) ∙ section_grown ys (xs ++ y ∷ []) rest
      ∙ ap (λ (zs : List X). with_items (state zs) rest) (append_assoc xs (y ∷ []) ys)

  -- what stands there is of the section until it is full
  pub section_parts : (n : ℕ) (xs : List X) (items : List Item) → length xs + n ≡ count → Follow h (state xs) items → is_complete h (with_items (state xs) items) ≡ true → Parts h n make state xs items
  section_parts zero xs items left follow complete =
      let same : xs ≡ xs ++ [] = sym (append-nil xs) in
      record {
        front = [];
        rest = items;
        parts = refl;
        counted = refl;
        fit = tt;
        follow = subst (λ (zs : List X). Follow h (state zs) items) same follow;
        complete = subst (λ (zs : List X). is_complete h (with_items (state zs) items) ≡ true) same complete;
      }
  section_parts (suc n) xs [] left follow complete = absurd (both (ap is_symbols (laws.here xs (omega arith)) ∙ laws.unfinished) complete)
    where
      both : {b : Bool} → b ≡ false → b ≡ true → ⊥
      both e f = cc
  section_parts (suc n) xs (item ∷ items) left follow complete =
      let found = laws.inverse item (sym (laws.here xs (omega arith)) ∙ follow.0.0) in
      let grown : with_item (state xs) item ≡ state (xs ++ found.0 ∷ []) = ap (with_item (state xs)) found.1 ∙ laws.grows xs found.0 in
      let later = section_parts n (xs ++ found.0 ∷ []) items (omega (arith, length_push xs found.0)) (subst (λ (raw : Raw). Follow h raw items) grown follow.1)
      (subst (λ (raw : Raw). is_complete h (with_items raw items) ≡ true) grown complete) in
      let same : xs ++ found.0 ∷ [] ++ later.front ≡ xs ++ (found.0 ∷ later.front) = append_assoc xs (found.0 ∷ []) later.front in
      record {
        front = found.0 ∷ later.front;
        rest = later.rest;
        parts = same_front item (make found.0) items (map make later.front ++ later.rest) found.1 later.parts;
        counted = ap suc later.counted;
        fit = (subst (Fits h (state xs)) found.1 follow.0.1, later.fit);
        follow = subst (λ (zs : List X). Follow h (state zs) later.rest) same later.follow;
        complete = subst (λ (zs : List X). is_complete h (with_items (state zs) later.rest) ≡ true) same later.complete;
      }

-- the last section takes all that is left
module _ (h : Header) (X : Type 0) (section : Section) (make : X → Item) (state : List X → Raw) (here : (xs : List X) → next_section h (state xs) ≡ section)
    (grows : (xs : List X) (x : X) → with_item (state xs) (make x) ≡ state (xs ++ x ∷ [])) (made : (x : X) → section_of (make x) ≡ section)
    (inverse : (item : Item) → section ≡ section_of item → (x : X) × (item ≡ make x)) where
  -- items of the last section that each fit follow what was read before
  pub last_follows : (ys xs : List X) → AllFit h make state xs ys → Follow h (state xs) (map make ys)
  last_follows [] xs fit = tt
  last_follows (y ∷ ys) xs fit = (
    (here xs ∙ sym (made y), fit.0),
    subst (λ (raw : Raw). Follow h raw (map make ys)) (sym (grows xs y)) (last_follows ys (xs ++ y ∷ []) fit.1),
  )

  -- the last section's items taken one by one make the raw circuit with all of them
  pub last_grown : (ys xs : List X) → with_items (state xs) (map make ys) ≡ state (xs ++ ys)
  last_grown [] xs = ap state (sym (append-nil xs))
  last_grown (y ∷ ys) xs = ap (λ (raw : Raw). with_items raw (map make ys)) (grows xs y) ∙ last_grown ys (xs ++ y ∷ []) ∙ ap state (append_assoc xs (y ∷ []) ys)

  -- items that follow in the last section are all of that section, and each fits
  pub last_parts : (xs : List X) (items : List Item) → Follow h (state xs) items → (ys : List X) × (items ≡ map make ys) × AllFit h make state xs ys
  last_parts xs [] follow = ([], refl, tt)
  last_parts xs (item ∷ items) follow =
      let found = inverse item (sym (here xs) ∙ follow.0.0) in
      let grown : with_item (state xs) item ≡ state (xs ++ found.0 ∷ []) = ap (with_item (state xs)) found.1 ∙ grows xs found.0 in
      let later = last_parts (xs ++ found.0 ∷ []) items (subst (λ (raw : Raw). Follow h raw items) grown follow.1) in (
        found.0 ∷ later.0,
        same_front item (make found.0) items (map make later.0) found.1 later.1,
        (subst (Fits h (state xs)) found.1 follow.0.1, later.2),
      )
