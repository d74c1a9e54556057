-- What stays of a graph, latch by latch and gate by gate.
use Rattle.std.proofs.Common.{ℕ, ◌+◌, ◌*◌, ◌<◌, ◌≤◌, ◌≡◌, suc, List, [], ◌∷◌, ◌++◌, length, map, take, Bool, true, false, cond, Some, slice_get, get_or, refl, arith, ap, sym, ◌∙◌, zero-add, add-one, add-zero}
use Rattle.std.proofs.lemmas.List.{map_push, take_more, length-take, append-nil, take_all}
use Rattle.std.specs.List.{All}
use Rattle.aig_graph.specs.declared.graph.Gate.{Gate}
use Rattle.aig_graph.specs.declared.graph.Latch.{Latch}
use Rattle.aig_graph.specs.declared.properties.Props.{Props}
use Rattle.aig_graph.specs.Graph.{free_before, Graph, IsGraph, IsLiteralOf, variable, variables_end, first_latch, first_gate}
use Rattle.aig_graph.specs.declared.properties.Symbols.{Symbols}
use Rattle.aig_graph.specs.Circuits.{Netlist}
use Rattle.aig_graph.specs.Value.{signed_as}
use Rattle.aig_graph.specs.Building.{gate_of}
use Rattle.aig_graph.specs.Counting.{count_below, places}
use Rattle.aig_graph.specs.Tables.{table}
use Rattle.aig_graph.proofs.TableLaws.{length-table, table-at, table-same, entry}
use Rattle.aig_graph.proofs.PlacesLaws.{count-bound, places-zero, places-pass, places-fail}
use Rattle.aig_graph.specs.Mapped.{OfProps, mapped_props}
use Rattle.cleaned_circuits.specs.Reached.{stays}
use Rattle.cleaned_circuits.specs.Merged.{replaced, replaced_latch, replaced_gate}
use Rattle.cleaned_circuits.specs.Trimmed.{new_variable, renumbered, picked, renumbered_latch, renumbered_gate, trimmed_graph, trimmed_of, trimmed_symbols, is_kept_free, kept_free}
use Rattle.aig_graph.proofs.ListLaws.{map-same}
use Rattle.cleaned_circuits.proofs.TrimmedLaws.{stays-past, new-low, renumbered-variable}
use Rattle.aig_graph.proofs.PropsLaws.{mapped-is}
use Rattle.clean.proofs.MappingLaws.{graph-is}
use Rattle.clean.specs.Substitutions.{own_literals, new_literals}

-- those that pass, of one more
picked-push : {A : Type 0} (p : ℕ → Bool) (n : ℕ) (xs : List A) (x : A) → picked p n (xs ++ x ∷ []) ≡ picked p n xs ++ cond (p (n + length xs)) (x ∷ []) []
unfolding picked
picked-push p n [] x = ap (λ (k : ℕ). cond (p k) (x ∷ []) []) (sym (add-zero n))
picked-push {A} p n (y ∷ ys) x =
    let place : suc n + length ys ≡ n + length (y ∷ ys) = omega arith in
    let rest : picked p (suc n) (ys ++ x ∷ []) ≡ picked p (suc n) ys ++ cond (p (n + length (y ∷ ys))) (x ∷ []) [] =
    picked-push p (suc n) ys x ∙ ap (λ (k : ℕ). picked p (suc n) ys ++ cond (p k) (x ∷ []) []) place in
    ap (λ (zs : List A). cond (p n) (y ∷ zs) zs) rest ∙ over (p n) y (picked p (suc n) ys) (cond (p (n + length (y ∷ ys))) (x ∷ []) [])
  where
    over : {B : Type 0} (b : Bool) (z : B) (zs ws : List B) → cond b (z ∷ (zs ++ ws)) (zs ++ ws) ≡ cond b (z ∷ zs) zs ++ ws
    over true z zs ws = refl
    over false z zs ws = refl

module _ {A B : Type 0} (p : ℕ → Bool) (f : A → B) (n k : ℕ) (xs : List A) (x : A) (h : k < length xs) (read : x ≡ get_or xs k x) where
  taken : length (take k xs) ≡ k
  taken = omega (arith, length-take k xs)

  longer : picked p n (take (k + 1) xs) ≡ picked p n (take k xs) ++ cond (p (n + k)) (x ∷ []) []
  longer =
      let more : take (k + 1) xs ≡ take k xs ++ x ∷ [] = take_more xs k x h ∙ ap (λ (y : A). take k xs ++ y ∷ []) (sym read) in
      let long : length (take k xs) ≡ k = taken in
      ap (picked p n) more ∙ picked-push p n (take k xs) x ∙ ap (λ (m : ℕ). picked p n (take k xs) ++ cond (p (n + m)) (x ∷ []) []) long

  -- an element whose number passes is picked next
  pub picked-more : (old new : List B) (y : B) → p (n + k) ≡ true → old ≡ map f (picked p n (take k xs)) → new ≡ old ++ y ∷ [] → y ≡ f x → new ≡ map f (picked p n (take (k + 1) xs))
  picked-more old new y passes before pushed is =
      pushed ∙ ap (λ (ys : List B). ys ++ y ∷ []) before ∙ ap (λ (z : B). map f (picked p n (take k xs)) ++ z ∷ []) is ∙ sym (map_push f (picked p n (take k xs)) x)
      ∙ sym (ap (map f) (longer ∙ ap (λ (b : Bool). picked p n (take k xs) ++ cond b (x ∷ []) []) passes))

  -- an element whose number doesn't pass leaves what was picked as it is
  pub picked-skip : (old : List B) → p (n + k) ≡ false → old ≡ map f (picked p n (take k xs)) → old ≡ map f (picked p n (take (k + 1) xs))
  picked-skip old fails before =
      before ∙ sym (ap (map f) (longer ∙ ap (λ (b : Bool). picked p n (take k xs) ++ cond b (x ∷ []) []) fails ∙ append-nil (picked p n (take k xs))))

count-more : (p : ℕ → Bool) (n : ℕ) → count_below p (suc n) ≡ count_below p n + cond (p n) 1 0
unfolding count_below
count-more p n = refl

module _ (g : Graph) (s : ℕ → Bool) where
  -- there is a new literal for each variable
  pub length-new_literals : length (new_literals g s) ≡ variables_end g
  unfolding new_literals
  length-new_literals = length-table 0 (variables_end g) (λ v. 2 * new_variable g s v)

  new-at : (v : ℕ) → v < variables_end g → get_or (new_literals g s) v 0 ≡ 2 * new_variable g s v
  unfolding new_literals
  new-at v h = table-at 0 (variables_end g) (λ w. 2 * new_variable g s w) v 0 h ∙ ap (λ (w : ℕ). 2 * new_variable g s w) (zero-add v)

  -- the new literals are those of what stays
  pub replaced-new : (literals : List ℕ) (lit : ℕ) → literals ≡ new_literals g s → IsLiteralOf g lit → replaced literals lit ≡ renumbered g s lit
  replaced-new literals lit is within = ap (λ (xs : List ℕ). replaced xs lit) is ∙ ap (signed_as lit) (new-at (variable lit) within)

  -- a latch that reads its next literal's new one is the renumbered latch
  pub latch-new : (literals : List ℕ) (k : ℕ) (latch : Latch) → IsGraph g → literals ≡ new_literals g s → slice_get g.latches k ≡ Some latch → replaced_latch literals latch ≡ renumbered_latch g s latch
  latch-new literals k latch valid is there =
      let with_next : ℕ → Latch = λ n. record { next = n; reset = latch.reset } in
      ap with_next (replaced-new literals latch.next is (valid.latches k latch there))

  -- a gate that reads its fan-ins' new literals is the renumbered gate
  pub gate-new : (literals : List ℕ) (k : ℕ) (gate : Gate) → literals ≡ new_literals g s → (variable gate.rhs0 < variables_end g) × (variable gate.rhs1 < variables_end g) → replaced_gate literals gate ≡ renumbered_gate g s gate
  gate-new literals k gate is within =
      ap (λ (n : ℕ). gate_of n (replaced literals gate.rhs1)) (replaced-new literals gate.rhs0 is within.0) ∙ ap (gate_of (renumbered g s gate.rhs0)) (replaced-new literals gate.rhs1 is within.1)

  -- properties with the new literals are the renumbered ones
  pub props-new : (literals : List ℕ) (p : Props) → literals ≡ new_literals g s → OfProps (λ lit. IsLiteralOf g lit) p → mapped_props (replaced literals) p ≡ mapped_props (renumbered g s) p
  unfolding mapped_props
  props-new literals p is within =
      let f : ℕ → ℕ = replaced literals in
      let h : ℕ → ℕ = renumbered g s in
      let same : (lit : ℕ) → IsLiteralOf g lit → f lit ≡ h lit = λ lit inside. replaced-new literals lit is inside in
      let each : (lits : List ℕ) → All (λ lit. IsLiteralOf g lit) lits → map f lits ≡ map h lits = λ lits all. map-same (λ lit. IsLiteralOf g lit) f h same lits all in
      mapped-is h p (map f p.outputs) (map f p.bad) (map f p.constraints) (map (map f) p.justice) (map f p.fairness) (each p.outputs within.outputs) (each p.bad within.bad) (each p.constraints within.constraints)
      (map-same (λ lits. All (λ lit. IsLiteralOf g lit) lits) (map f) (map h) each p.justice within.justice) (each p.fairness within.fairness)

  -- one more new literal
  pub new-start : (old : List ℕ) → old ≡ own_literals (first_latch g) → old ≡ table 0 (first_latch g) (λ v. 2 * new_variable g s v)
  unfolding own_literals
  new-start old is =
      is ∙ table-same 0 (first_latch g) (λ v. 2 * v) (λ v. 2 * new_variable g s v) 0 (λ v from h. ap (λ (w : ℕ). 2 * w) (sym (new-low g s v (omega arith))))

  -- the next variable's new literal goes to the end of the table
  pub new-more : (v lit : ℕ) (old new : List ℕ) → old ≡ table 0 v (λ w. 2 * new_variable g s w) → new ≡ old ++ lit ∷ [] → lit ≡ 2 * new_variable g s v → new ≡ table 0 (v + 1) (λ w. 2 * new_variable g s w)
  new-more v lit old new before pushed is =
      entry 0 v (λ w. 2 * new_variable g s w) old new lit before pushed (is ∙ ap (λ (w : ℕ). 2 * new_variable g s w) (sym (zero-add v)))

  -- the next new variable is one more if this variable stays
  pub new-next : (v next one : ℕ) (b : Bool) → first_latch g ≤ v → next ≡ new_variable g s v → b ≡ s v → one ≡ cond b 1 0 → next + one ≡ new_variable g s (v + 1)
  new-next v next one b from is mark step =
      let counts : new_variable g s (v + 1) ≡ new_variable g s v + cond (s v) 1 0 =
      ap (new_variable g s) (add-one v) ∙ count-more (stays g s) v ∙ ap (λ (c : Bool). new_variable g s v + cond c 1 0) (stays-past g s v from) in
      ap (λ (n : ℕ). n + one) is ∙ ap (λ (n : ℕ). new_variable g s v + n) (step ∙ ap (λ (c : Bool). cond {A = ℕ} c 1 0) mark) ∙ sym counts

  -- past the last variable the table of new literals is whole
  pub new-end : (n : ℕ) (old : List ℕ) → n ≡ variables_end g → old ≡ table 0 n (λ w. 2 * new_variable g s w) → old ≡ new_literals g s
  unfolding new_literals
  new-end n old same is = is ∙ ap (λ (m : ℕ). table 0 m (λ w. 2 * new_variable g s w)) same

  -- the variable of a latch's new literal is the new one of the latch's position
  pub position-new : (literals : List ℕ) (lit position v : ℕ) → literals ≡ new_literals g s → lit ≡ 2 * (first_latch g + position) → position < length g.latches → v ≡ variable (replaced literals lit)
      → v ≡ new_variable g s (first_latch g + position)
  position-new literals lit position v is at within read =
      let place : variable lit ≡ first_latch g + position = omega arith in
      read ∙ ap variable (replaced-new literals lit is (omega arith)) ∙ renumbered-variable g s lit ∙ ap (new_variable g s) place

  -- no variable gets a greater number
  pub new-bound : (v : ℕ) → new_variable g s v ≤ v
  new-bound v = count-bound (stays g s) v

-- of no elements none is picked
pub picked-nil : {A B : Type 0} (p : ℕ → Bool) (f : A → B) (n : ℕ) (items : List B) → items ≡ [] → items ≡ map f (picked p n [])
unfolding picked
picked-nil p f n items e = e

-- all of a list are taken
pub picked-whole : {A B : Type 0} (p : ℕ → Bool) (f : A → B) (n k : ℕ) (xs : List A) (items : List B) → length xs ≤ k → items ≡ map f (picked p n (take k xs)) → items ≡ map f (picked p n xs)
picked-whole {A} p f n k xs items h e = e ∙ ap (λ (ys : List A). map f (picked p n ys)) (take_all k xs h)

module _ (g : Graph) (s : ℕ → Bool) where
  -- the inputs, with the latches and gates picked and renumbered, are the trimmed graph
  pub trimmed-is : (n : ℕ) (latches : List Latch) (gates : List Gate) → n ≡ g.inputs → latches ≡ map (renumbered_latch g s) (picked (stays g s) (first_latch g) g.latches)
      → gates ≡ map (renumbered_gate g s) (picked (stays g s) (first_gate g) g.gates) → ◌≡◌ {A = Graph} (record { inputs = n; latches = latches; gates = gates }) (trimmed_graph g s)
  unfolding trimmed_graph
  trimmed-is n latches gates one two three = graph-is g.inputs latches (map (renumbered_latch g s) (picked (stays g s) (first_latch g) g.latches)) gates (map (renumbered_gate g s) (picked (stays g s) (first_gate g) g.gates)) n one two three

  -- the free latches that stay, of one more latch
  pub kept-start : (items : List ℕ) → items ≡ [] → items ≡ map (free_before g) (places (is_kept_free g s) 0)
  kept-start items e = e ∙ sym (ap (map (free_before g)) (places-zero (is_kept_free g s)))

  -- a free latch that stays adds its place among the free ones
  pub kept-more : (k free : ℕ) (old new : List ℕ) → is_kept_free g s k ≡ true → old ≡ map (free_before g) (places (is_kept_free g s) k) → new ≡ old ++ free ∷ [] → free ≡ free_before g k
      → new ≡ map (free_before g) (places (is_kept_free g s) (k + 1))
  kept-more k free old new stays_free before pushed is =
      let p : ℕ → Bool = is_kept_free g s in
      pushed ∙ ap (λ (xs : List ℕ). xs ++ free ∷ []) before ∙ ap (λ (n : ℕ). map (free_before g) (places p k) ++ n ∷ []) is ∙ sym (map_push (free_before g) (places p k) k)
      ∙ sym (ap (map (free_before g)) (ap (places p) (add-one k) ∙ places-pass p k stays_free))

  -- a latch that isn't free, or doesn't stay, adds none
  pub kept-skip : (k : ℕ) (old : List ℕ) → is_kept_free g s k ≡ false → old ≡ map (free_before g) (places (is_kept_free g s) k) → old ≡ map (free_before g) (places (is_kept_free g s) (k + 1))
  kept-skip k old goes before = before ∙ sym (ap (map (free_before g)) (ap (places (is_kept_free g s)) (add-one k) ∙ places-fail (is_kept_free g s) k goes))

  -- past the last latch all kept free latches have their places
  pub kept-end : (k : ℕ) (items : List ℕ) → k ≡ length g.latches → items ≡ map (free_before g) (places (is_kept_free g s) k) → items ≡ kept_free g s
  unfolding kept_free
  kept-end k items end e = e ∙ ap (λ (n : ℕ). map (free_before g) (places (is_kept_free g s) n)) end

-- a trimmed graph, its renumbered properties and trimmed symbols are the trimmed circuit
pub netlist-is : (c : Netlist) (s : ℕ → Bool) (g : Graph) (p : Props) (names : Symbols) → g ≡ trimmed_graph c.aig s → p ≡ mapped_props (renumbered c.aig s) c.props → names ≡ trimmed_symbols c.aig s c.symbols
    → ◌≡◌ {A = Netlist} (record { aig = g; props = p; symbols = names }) (trimmed_of c s)
netlist-is c s g p names one two three =
    let first : Graph → Netlist = λ h. record { aig = h; props = p; symbols = names } in
    let second : Props → Netlist = λ q. record { aig = trimmed_graph c.aig s; props = q; symbols = names } in
    let third : Symbols → Netlist = λ ns. record { aig = trimmed_graph c.aig s; props = mapped_props (renumbered c.aig s) c.props; symbols = ns } in
    ap first one ∙ ap second two ∙ ap third three
