-- Pass after pass.
use Rattle.std.proofs.Common.{zero-add, ℕ, ◌+◌, ◌<◌, ◌≤◌, ◌≡◌, ◌≢◌, ◌⊎◌, inl, inr, List, [], ◌∷◌, ◌++◌, length, map, true, get_or, refl, arith, ap, sym, ◌∙◌, subst}
use Rattle.std.specs.List.{All, range_with_len}
use Rattle.std.proofs.Math.Seq.{get_or-append_seam}
use Rattle.std.proofs.lemmas.List.{length-map, get_or-map, append_assoc, length_push}
use Rattle.std.proofs.lemmas.Bool.{cases_lt}
use Rattle.std.proofs.lemmas.List.FromFn.{get_or-range_with_len}
use Rattle.std.proofs.lemmas.List.Elements.{All-head, All-tail}
use Rattle.aig_graph.specs.Graph.{first_latch, first_gate, variables_end, latches_and_gates, free_latches}
use Rattle.aig_graph.specs.Circuits.{Netlist}
use Rattle.aig_graph.specs.Laws.{all_free, composed}
use Rattle.aig_graph.proofs.PlacesLaws.{count-bound}
use Rattle.cleaned_circuits.specs.Merged.{merged_of, substitutes_of}
use Rattle.cleaned_circuits.specs.Reached.{stays}
use Rattle.cleaned_circuits.specs.Trimmed.{trimmed_graph, new_variable, new_position}
use Rattle.cleaned_circuits.specs.Cleaned.{IsPass, Cleans, unchanged, after_pass}
use Rattle.cleaned_circuits.specs.Held.{HeldAfter, held_unchanged, held_after_pass}
use Rattle.aig_graph.proofs.ListLaws.{map-map}
use Rattle.cleaned_circuits.proofs.MergedLaws.{length-replaced_latches, replaced-first_latch, replaced-first_gate, replaced-end}
use Rattle.cleaned_circuits.proofs.PickedLaws.{count-all}
use Rattle.cleaned_circuits.proofs.TrimmedLaws.{trimmed-first_latch, trimmed-first_gate, trimmed-end}
use Rattle.cleaned_circuits.proofs.PassLaws.{IsCircuit, pass-streams, cleans-streams, IsCircuit-pass}
use Rattle.cleaned_circuits.proofs.HeldLaws.{still-in_range}
use Rattle.cleaned_circuits.proofs.UnchangedLaws.{count-full, map-fixed_all, pass-unchanged}
use Rattle.clean.specs.Normalised.{IsNormalised}
use Rattle.clean.proofs.PassLaws.{normalised-pass}
use Rattle.clean.specs.Settled.{AreOwnLatches}
use Rattle.clean.proofs.SettledLaws.{settled-normalised}

-- composed with all places, a list is itself
pub composed-all : (n : ℕ) (more : List ℕ) → All (λ place. place < n) more → composed (range_with_len 0 n) more ≡ more
composed-all n more below = map-fixed_all (λ place. place < n) (λ place. get_or (range_with_len 0 n) place 0) (λ place h. get_or-range_with_len 0 n place 0 h ∙ zero-add place) more below

-- composing twice is composing with the composed
pub composed-then : (first second third : List ℕ) → All (λ place. place < length second) third → composed first (composed second third) ≡ composed (composed first second) third
composed-then first second third below =
    let f : ℕ → ℕ = λ place. get_or first place 0 in
    let each : All (λ place. f (get_or second place 0) ≡ get_or (composed first second) place 0) third = λ k d h.
    sym (get_or-map f second (get_or third k d) 0 0 (below k d h)) in
    map-map f (λ place. get_or second place 0) third ∙ alike third each
  where
    alike : (xs : List ℕ) → All (λ place. get_or first (get_or second place 0) 0 ≡ get_or (composed first second) place 0) xs
        → map (λ place. get_or first (get_or second place 0) 0) xs ≡ map (λ place. get_or (composed first second) place 0) xs
    alike [] all = refl
    alike (x ∷ xs) all =
        ap (λ (n : ℕ). n ∷ map (λ place. get_or first (get_or second place 0) 0) xs) (All-head (λ (place : ℕ). get_or first (get_or second place 0) 0 ≡ get_or (composed first second) place 0) x xs all)
        ∙ ap (λ (ys : List ℕ). get_or (composed first second) x 0 ∷ ys) (alike xs (All-tail (λ (place : ℕ). get_or first (get_or second place 0) 0 ≡ get_or (composed first second) place 0) x xs all))

-- a pass that leaves as many latches and gates leaves the circuit, and the positions of held
-- latches
module _ (held : List ℕ) (c d : Netlist) (kept still : List ℕ) (valid : IsCircuit c) (in_range : All (λ j. j < length c.aig.latches) held) (pass : IsPass held c d kept still)
    (many : latches_and_gates c.aig ≤ latches_and_gates d.aig) where
  abbrev merged : Netlist
  merged = merged_of held c

  ends : variables_end merged.aig ≡ variables_end c.aig
  ends = replaced-end (substitutes_of c.aig held) c.aig

  full : new_variable merged.aig pass.reached (variables_end merged.aig) ≡ variables_end merged.aig
  full =
      let same : latches_and_gates d.aig ≡ latches_and_gates (trimmed_graph merged.aig pass.reached) = ap (λ (e : Netlist). latches_and_gates e.aig) pass.circuit in
      omega (
        arith,
        many,
        same,
        ends,
        trimmed-end merged.aig pass.reached,
        trimmed-first_latch merged.aig pass.reached,
        replaced-first_latch (substitutes_of c.aig held) c.aig,
        count-bound (stays merged.aig pass.reached) (variables_end merged.aig),
      )

  all_stay : (v : ℕ) → v < variables_end merged.aig → stays merged.aig pass.reached v ≡ true
  all_stay = count-full (stays merged.aig pass.reached) (variables_end merged.aig) full

  new-same : (v : ℕ) → v ≤ variables_end merged.aig → new_variable merged.aig pass.reached v ≡ v
  new-same v h = count-all (stays merged.aig pass.reached) v (λ w less. all_stay w (omega arith))

  circuit-same : d ≡ c
  circuit-same =
      let gate : new_variable merged.aig pass.reached (first_gate merged.aig) ≡ first_gate merged.aig = new-same (first_gate merged.aig) (omega arith) in
      let latches : length (trimmed_graph merged.aig pass.reached).latches ≡ length c.aig.latches =
      omega (arith, gate, trimmed-first_gate merged.aig pass.reached, trimmed-first_latch merged.aig pass.reached, length-replaced_latches (substitutes_of c.aig held) c.aig) in
      let gates : length (trimmed_graph merged.aig pass.reached).gates ≡ length c.aig.gates =
      omega (arith, full, trimmed-end merged.aig pass.reached, gate, trimmed-first_gate merged.aig pass.reached, ends, replaced-first_gate (substitutes_of c.aig held) c.aig) in
      pass.circuit ∙ pass-unchanged held c valid (λ j h. in_range j 0 h) pass.reached pass.are_reached latches gates

  positions-same : still ≡ held
  positions-same =
      pass.positions
      ∙ map-fixed_all (λ j. j < length c.aig.latches) (new_position merged.aig pass.reached)
      (λ j h.
      let at : new_variable merged.aig pass.reached (first_latch merged.aig + j) ≡ first_latch merged.aig + j =
      new-same (first_latch merged.aig + j) (omega (arith, length-replaced_latches (substitutes_of c.aig held) c.aig)) in
      omega (arith, at)) held in_range

  pass-same : IsPass held c c kept held
  pass-same =
      let P : Netlist → Type 0 = λ e. IsPass held c e kept still in
      let Q : List ℕ → Type 0 = λ js. IsPass held c c kept js in
      subst Q positions-same (subst P circuit-same pass)

  cleans-unchanged : Cleans d held c kept
  cleans-unchanged = unchanged held c kept pass-same circuit-same

  held-unchanged : HeldAfter d still held c
  held-unchanged = held_unchanged held c kept pass-same circuit-same positions-same

-- what is left of a circuit after some passes; before the last one there were `before` latches and
-- gates
pub record Passed (held : List ℕ) (c : Netlist) (before : ℕ) (d : Netlist) (kept still : List ℕ) : Type 0 where
  -- the circuit before the last pass
  pub from : Netlist
  -- the positions of its held latches
  pub from_held : List ℕ
  -- the places of its free latches among those of c
  pub from_kept : List ℕ
  -- the places of the free latches that the last pass kept, among its
  pub first : List ℕ
  -- it is a circuit
  pub valid : IsCircuit from
  -- the positions of its held latches are those of latches
  pub in_range : All (λ j. j < length from.aig.latches) from_held
  -- the last pass made d of it
  pub pass : IsPass from_held from d first still
  -- it had this number of latches and gates
  pub size : before ≡ latches_and_gates from.aig
  -- the places of d's free latches among those of c
  pub is : kept ≡ composed from_kept first
  -- what it is cleaned to is what c is cleaned to
  pub front : (x : Netlist) (more : List ℕ) → Cleans x from_held from more → Cleans x held c (composed from_kept more)
  -- where its held latches stand after cleaning, there those of c do
  pub onward : (x : Netlist) (now : List ℕ) → HeldAfter x now from_held from → HeldAfter x now held c

-- what the first pass makes of a circuit is what passes leave of it
pub passed-start : (held : List ℕ) (c d : Netlist) (before : ℕ) (kept still : List ℕ) → IsCircuit c → All (λ j. j < length c.aig.latches) held → IsPass held c d kept still → before ≡ latches_and_gates c.aig
    → Passed held c before d kept still
passed-start held c d before kept still valid in_range pass size =
    let n : ℕ = free_latches c.aig in
    record {
      from = c;
      from_held = held;
      from_kept = all_free c.aig;
      first = kept;
      valid = valid;
      in_range = in_range;
      pass = pass;
      size = size;
      is = sym (composed-all n kept (pass-streams held c d kept still valid pass).places.below);
      front = λ x more cleans.
          let P : List ℕ → Type 0 = λ places. Cleans x held c places in
          subst P (sym (composed-all n more (cleans-streams x held c more cleans valid).places.below)) cleans;
      onward = λ x now after. after;
    }

module _ (held : List ℕ) (c : Netlist) (before : ℕ) (d : Netlist) (kept still : List ℕ) (passed : Passed held c before d kept still) where
  -- what passes leave of a circuit is a circuit
  pub passed-valid : IsCircuit d
  passed-valid = IsCircuit-pass passed.from_held passed.from d passed.first still passed.valid passed.pass

  -- the positions of held latches are in range after passes
  pub passed-in_range : All (λ j. j < length d.aig.latches) still
  passed-in_range = still-in_range passed.from_held passed.from d passed.first still passed.pass passed.in_range

  first-long : length passed.first ≡ free_latches d.aig
  first-long = (pass-streams passed.from_held passed.from d passed.first still passed.valid passed.pass).places.each

  -- there is a kept place for each free latch that is left
  pub kept-long : length kept ≡ free_latches d.aig
  kept-long = ap (λ (xs : List ℕ). length xs) passed.is ∙ length-map passed.first (λ place. get_or passed.from_kept place 0) ∙ first-long

  differs : latches_and_gates d.aig < before → d ≢ passed.from
  differs less = λ same. omega (arith, less, passed.size, ap (λ (n : Netlist). latches_and_gates n.aig) same)

  -- one more pass, after one that left fewer latches or gates
  pub passed-more : (e : Netlist) (second both still2 : List ℕ) → latches_and_gates d.aig < before → IsPass still d e second still2 → both ≡ composed kept second → Passed held c (latches_and_gates d.aig) e both still2
  passed-more e second both still2 less pass is = record {
    from = d;
    from_held = still;
    from_kept = kept;
    first = second;
    valid = passed-valid;
    in_range = passed-in_range;
    pass = pass;
    size = refl;
    is = is;
    front = λ x more cleans.
        let whole = passed.front x (composed passed.first more) (after_pass passed.from_held passed.from d passed.first more still passed.pass (differs less) cleans) in
        let below : All (λ place. place < length passed.first) more = λ k a h.
        let here : get_or more k a < free_latches d.aig = (cleans-streams x still d more cleans passed-valid).places.below k a h in
        omega (arith, here, first-long) in
        let P : List ℕ → Type 0 = λ places. Cleans x held c places in
        subst P (composed-then passed.from_kept passed.first more below ∙ ap (λ (xs : List ℕ). composed xs more) (sym passed.is)) whole;
    onward = λ x now after. passed.onward x now (held_after_pass passed.from_held passed.from d passed.first still passed.pass (differs less) after);
  }

  -- the places that a next pass keeps are among those that are kept
  pub next-below : (e : Netlist) (second still2 : List ℕ) → IsPass still d e second still2 → All (λ place. place < length kept) second
  next-below e second still2 pass = λ k a h.
      let here : get_or second k a < free_latches d.aig = (pass-streams still d e second still2 passed-valid pass).places.below k a h in
      omega (arith, here, kept-long)

  -- a pass that left as many latches and gates was the last
  pub passed-end : before ≤ latches_and_gates d.aig → Cleans d held c kept
  passed-end many =
      let last : Cleans d passed.from_held passed.from passed.first =
      cleans-unchanged passed.from_held passed.from d passed.first still passed.valid passed.in_range passed.pass (omega (arith, many, passed.size)) in
      let P : List ℕ → Type 0 = λ places. Cleans d held c places in
      subst P (sym passed.is) (passed.front d passed.first last)

  -- the held latches stand where it left them
  pub held-end : before ≤ latches_and_gates d.aig → HeldAfter d still held c
  held-end many = passed.onward d still (held-unchanged passed.from_held passed.from d passed.first still passed.valid passed.in_range passed.pass (omega (arith, many, passed.size)))

-- the entries of a list from a place on, read one after another
read-from : (ys xs : List ℕ) → map (λ place. get_or (ys ++ xs) place 0) (range_with_len (length ys) (length xs)) ≡ xs
read-from ys [] = refl
read-from ys (x ∷ xs) =
    let f : List ℕ → ℕ → List ℕ = λ zs a. map (λ place. get_or zs place 0) (range_with_len a (length xs)) in
    let rest : f (ys ++ x ∷ xs) (length ys + 1) ≡ xs =
    ap (λ (zs : List ℕ). f zs (length ys + 1)) (sym (append_assoc ys (x ∷ []) xs)) ∙ ap (f (ys ++ x ∷ [] ++ xs)) (sym (length_push ys x)) ∙ read-from (ys ++ x ∷ []) xs in
    ap (λ (n : ℕ). n ∷ f (ys ++ x ∷ xs) (length ys + 1)) (get_or-append_seam ys x xs 0) ∙ ap (λ (zs : List ℕ). x ∷ zs) rest

-- all places, composed with a list, are the list
composed-range : (xs : List ℕ) → composed xs (range_with_len 0 (length xs)) ≡ xs
composed-range xs = read-from [] xs

-- if each latch stands for itself, one more pass changes nothing
settled-next : (held : List ℕ) (c : Netlist) (before : ℕ) (d : Netlist) (kept still : List ℕ) → Passed held c before d kept still → AreOwnLatches d.aig still → latches_and_gates d.aig < before
    → Passed held c (latches_and_gates d.aig) d (composed kept (all_free d.aig)) still
settled-next held c before d kept still passed own less =
    let valid : IsCircuit d = passed-valid held c before d kept still passed in
    let in_range : All (λ j. j < length d.aig.latches) still = passed-in_range held c before d kept still passed in
    let normalised : IsNormalised still d = settled-normalised passed.from_held passed.from d passed.first still passed.valid passed.in_range passed.pass own in
    let same : IsPass still d d (all_free d.aig) still = normalised-pass still d valid in_range normalised in
    passed-more held c before d kept still passed d (all_free d.aig) (composed kept (all_free d.aig)) still less same refl

-- what a pass left is what is left of the circuit, if each latch is its own substitute
pub settled-end : (held : List ℕ) (c : Netlist) (before : ℕ) (d : Netlist) (kept still : List ℕ) → Passed held c before d kept still → AreOwnLatches d.aig still → Cleans d held c kept
settled-end held c before d kept still passed own = elim (cases_lt (latches_and_gates d.aig) before) [
  | inr many ↦ passed-end held c before d kept still passed many
  | inl less ↦ (
      let next = settled-next held c before d kept still passed own less in
      let places : composed kept (all_free d.aig) ≡ kept = ap (λ (n : ℕ). composed kept (range_with_len 0 n)) (sym (kept-long held c before d kept still passed)) ∙ composed-range kept in
      subst (λ (xs : List ℕ). Cleans d held c xs) places (passed-end held c (latches_and_gates d.aig) d (composed kept (all_free d.aig)) still next (omega arith)))
]

-- so it is if the last pass took nothing away, or each latch is its own substitute
pub passed-done : (held : List ℕ) (c : Netlist) (before : ℕ) (d : Netlist) (kept still : List ℕ) → Passed held c before d kept still → (before ≤ latches_and_gates d.aig) ⊎ AreOwnLatches d.aig still → Cleans d held c kept
passed-done held c before d kept still passed (inl many) = passed-end held c before d kept still passed many
passed-done held c before d kept still passed (inr own) = settled-end held c before d kept still passed own

-- and there the held latches stand where the last pass left them
pub passed-held : (held : List ℕ) (c : Netlist) (before : ℕ) (d : Netlist) (kept still : List ℕ) → Passed held c before d kept still → (before ≤ latches_and_gates d.aig) ⊎ AreOwnLatches d.aig still → HeldAfter d still held c
passed-held held c before d kept still passed (inl many) = held-end held c before d kept still passed many
passed-held held c before d kept still passed (inr own) = elim (cases_lt (latches_and_gates d.aig) before) [
  | inr many ↦ held-end held c before d kept still passed many
  | inl less ↦ held-end held c (latches_and_gates d.aig) d (composed kept (all_free d.aig)) still (settled-next held c before d kept still passed own less) (omega arith)
]
