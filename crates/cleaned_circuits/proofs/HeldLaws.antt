-- Where the held latches of a circuit stand in what it is cleaned to.
use Rattle.std.proofs.Common.{ℕ, ◌+◌, ◌<◌, ◌≡◌, ◌≢◌, List, length, get_or, Bool, true, arith, sym, ◌∙◌, subst}
use Rattle.std.specs.List.{All}
use Rattle.std.specs.List.Sorted.{IsStrictlyIncreasing}
use Rattle.std.proofs.lemmas.List.Elements.{All-map}
use Rattle.aig_graph.specs.Graph.{first_latch, first_gate}
use Rattle.aig_graph.specs.Circuits.{Netlist}
use Rattle.cleaned_circuits.specs.Merged.{merged_of, substitutes_of}
use Rattle.cleaned_circuits.specs.Reached.{stays}
use Rattle.cleaned_circuits.specs.Trimmed.{trimmed_graph, new_variable, new_position}
use Rattle.cleaned_circuits.specs.Cleaned.{IsPass}
use Rattle.cleaned_circuits.specs.Held.{HeldAfter, held_unchanged, held_after_pass}
use Rattle.cleaned_circuits.proofs.CleanedLaws.{pass-one}
use Rattle.cleaned_circuits.proofs.MergedLaws.{length-replaced_latches}
use Rattle.cleaned_circuits.proofs.TrimmedLaws.{new-from, new-less, stays-reached, trimmed-first_gate, trimmed-first_latch}
use Rattle.cleaned_circuits.proofs.TrimmedNameLaws.{positions-rising}

-- after a pass the held latches are in range
pub still-in_range : (held : List ℕ) (c d : Netlist) (kept still : List ℕ) → IsPass held c d kept still → All (λ j. j < length c.aig.latches) held → All (λ j. j < length d.aig.latches) still
still-in_range held c d kept still pass in_range =
    let m : Netlist = merged_of held c in
    let s : ℕ → Bool = pass.reached in
    let same : length m.aig.latches ≡ length c.aig.latches = length-replaced_latches (substitutes_of c.aig held) c.aig in
    let P : Netlist → Type 0 = λ e. All (λ j. j < length e.aig.latches) still in
    let Q : List ℕ → Type 0 = λ js. All (λ j. j < length (trimmed_graph m.aig s).latches) js in
    subst P (sym pass.circuit) (subst Q (sym pass.positions) (All-map (λ j. j < length (trimmed_graph m.aig s).latches) (new_position m.aig s) held (λ k d h.
    let j : ℕ = get_or held k d in
    let within : j < length c.aig.latches = in_range k d h in
    let stayed : stays m.aig s (first_latch m.aig + j) ≡ true = stays-reached m.aig s (first_latch m.aig + j) (pass.are_reached.holds.all_held k d h) in
    let ranks : new_variable m.aig s (first_latch m.aig + j) < new_variable m.aig s (first_gate m.aig) = new-less m.aig s (first_latch m.aig + j) (first_gate m.aig) stayed (omega arith) in
    omega (arith, ranks, trimmed-first_gate m.aig s, trimmed-first_latch m.aig s, new-from m.aig s (first_latch m.aig + j) (omega arith)))))

-- after a pass the positions of held latches rise, as before it
pub still-rising : (held : List ℕ) (c d : Netlist) (kept still : List ℕ) → IsPass held c d kept still → IsStrictlyIncreasing held → IsStrictlyIncreasing still
still-rising held c d kept still pass rising =
    subst IsStrictlyIncreasing (sym pass.positions) (positions-rising (merged_of held c).aig pass.reached held rising pass.are_reached.holds.all_held)

-- after cleaning the held latches are in range
pub held_after-in_range : (d : Netlist) (now held : List ℕ) (c : Netlist) → HeldAfter d now held c → All (λ j. j < length c.aig.latches) held → All (λ j. j < length d.aig.latches) now
held_after-in_range d now _ _ (held_unchanged held c kept pass same positions) in_range =
    let P : Netlist → Type 0 = λ e. All (λ j. j < length e.aig.latches) now in
    let Q : List ℕ → Type 0 = λ js. All (λ j. j < length c.aig.latches) js in
    subst P (sym same) (subst Q (sym positions) in_range)
held_after-in_range d now _ _ (held_after_pass held c e first still_held pass differs rest) in_range =
    held_after-in_range d now still_held e rest (still-in_range held c e first still_held pass in_range)

-- after cleaning the positions of held latches rise, as before it
pub held_after-rising : (d : Netlist) (now held : List ℕ) (c : Netlist) → HeldAfter d now held c → IsStrictlyIncreasing held → IsStrictlyIncreasing now
held_after-rising d now _ _ (held_unchanged held c kept pass same positions) rising = subst IsStrictlyIncreasing (sym positions) rising
held_after-rising d now _ _ (held_after_pass held c e first still_held pass differs rest) rising =
    held_after-rising d now still_held e rest (still-rising held c e first still_held pass rising)

-- the held latches stand at one list of positions of what a circuit is cleaned to
pub held_after-one : (d : Netlist) (now held : List ℕ) (c : Netlist) → HeldAfter d now held c → (other : List ℕ) → HeldAfter d other held c → now ≡ other
held_after-one d now _ _ (held_unchanged held c kept pass same positions) other second = from_unchanged held c d kept now other pass positions second
  where
    from_unchanged : (held : List ℕ) (c d : Netlist) (kept now other : List ℕ) → IsPass held c c kept held → now ≡ held → HeldAfter d other held c → now ≡ other
    from_unchanged _ _ d kept now other pass positions (held_unchanged held c kept2 pass2 same2 positions2) = positions ∙ sym positions2
    from_unchanged _ _ d kept now other pass positions (held_after_pass held c e first still_held pass2 differs rest) =
        absurd (differs (sym (pass-one held c c e kept first held still_held pass pass2).circuit))
held_after-one d now _ _ (held_after_pass held c e first still_held pass differs rest) other second =
    from_pass held c d e first now other still_held pass differs (λ (more : List ℕ) (after : HeldAfter d more still_held e). held_after-one d now still_held e rest more after) second
  where
    from_pass : (held : List ℕ) (c d e : Netlist) (first now other still_held : List ℕ) → IsPass held c e first still_held → e ≢ c
        → ((more : List ℕ) → HeldAfter d more still_held e → now ≡ more) → HeldAfter d other held c → now ≡ other
    from_pass _ _ d e first now other still_held pass differs again (held_unchanged held c kept2 pass2 same2 positions2) =
        absurd (differs (pass-one held c e c first kept2 still_held held pass pass2).circuit)
    from_pass _ _ d e first now other still_held pass differs again (held_after_pass held c e2 first2 still_held2 pass2 differs2 rest2) =
        let same = pass-one held c e e2 first first2 still_held still_held2 pass pass2 in
        let P : Netlist → Type 0 = λ a. HeldAfter d other still_held2 a in
        let Q : List ℕ → Type 0 = λ positions. HeldAfter d other positions e in
        again other (subst Q (sym same.positions) (subst P (sym same.circuit) rest2))
