-- Cleaning is a function.
use Rattle.std.proofs.Common.{ℕ, ◌≡◌, ◌≢◌, Bool, List, map, ap, sym, ◌∙◌, subst}
use Rattle.aig_graph.specs.Circuits.{Netlist}
use Rattle.aig_graph.specs.Laws.{composed}
use Rattle.cleaned_circuits.specs.Merged.{merged_of}
use Rattle.cleaned_circuits.specs.Trimmed.{trimmed_of, kept_free, new_position}
use Rattle.cleaned_circuits.specs.Cleaned.{IsPass, Cleans, unchanged, after_pass}
use Rattle.cleaned_circuits.proofs.PassLaws.{reached-same}
use Rattle.aig_graph.proofs.StreamLaws.{funext}

-- what a pass makes is one
pub record SamePass (d e : Netlist) (first second one_held other_held : List ℕ) : Type 0 where
  -- the circuits are equal
  pub circuit : d ≡ e
  -- the places of kept free latches are equal
  pub free : first ≡ second
  -- the positions of held latches are equal
  pub positions : one_held ≡ other_held

-- two passes over one circuit give one result
pub pass-one : (held : List ℕ) (c d e : Netlist) (first second one_held other_held : List ℕ) → IsPass held c d first one_held → IsPass held c e second other_held
    → SamePass d e first second one_held other_held
pass-one held c d e first second one_held other_held p q =
    let m : Netlist = merged_of held c in
    let same : p.reached ≡ q.reached = funext p.reached q.reached (reached-same m.aig m.props held p.reached q.reached p.are_reached q.are_reached) in
    record {
      circuit = p.circuit ∙ ap (λ (s : ℕ → Bool). trimmed_of m s) same ∙ sym q.circuit;
      free = p.free ∙ ap (λ (s : ℕ → Bool). kept_free m.aig s) same ∙ sym q.free;
      positions = p.positions ∙ ap (λ (s : ℕ → Bool). map (new_position m.aig s) held) same ∙ sym q.positions;
    }

-- a circuit is cleaned to one circuit, and to one list of kept free latches
pub cleans-one : (d : Netlist) (held : List ℕ) (c : Netlist) (first : List ℕ) → Cleans d held c first → (e : Netlist) (second : List ℕ) → Cleans e held c second → (d ≡ e) × (first ≡ second)
cleans-one d _ _ _ (unchanged held c first pass same) e second other = from_unchanged held c d e first _ pass same other
  where
    from_unchanged : (held : List ℕ) (c d e : Netlist) (first second : List ℕ) → IsPass held c c first held → d ≡ c → Cleans e held c second → (d ≡ e) × (first ≡ second)
    from_unchanged _ _ d e first _ pass same (unchanged held c second pass2 same2) = (same ∙ sym same2, (pass-one held c c c first second held held pass pass2).free)
    from_unchanged _ _ d e first _ pass same (after_pass held c b one two still_held pass2 differs rest) =
        absurd (differs (sym (pass-one held c c b first one held still_held pass pass2).circuit))
cleans-one d _ _ _ (after_pass held c b one two still_held pass differs rest) e second other =
    from_pass held c d e b one two _ still_held pass differs (λ (a : Netlist) (kept : List ℕ) (more : Cleans a still_held b kept). cleans-one d still_held b two rest a kept more) other
  where
    from_pass : (held : List ℕ) (c d e b : Netlist) (one two second still_held : List ℕ) → IsPass held c b one still_held → b ≢ c
        → ((a : Netlist) (kept : List ℕ) → Cleans a still_held b kept → (d ≡ a) × (two ≡ kept)) → Cleans e held c second → (d ≡ e) × (composed one two ≡ second)
    from_pass _ _ d e b one two _ still_held pass differs again (unchanged held c second pass2 same2) =
        absurd (differs (pass-one held c b c one second still_held held pass pass2).circuit)
    from_pass _ _ d e b one two _ still_held pass differs again (after_pass held c b2 one2 two2 still_held2 pass2 differs2 rest2) =
        let same = pass-one held c b b2 one one2 still_held still_held2 pass pass2 in
        let P : Netlist → Type 0 = λ a. Cleans e still_held2 a two2 in
        let Q : List ℕ → Type 0 = λ positions. Cleans e positions b two2 in
        let both = again e two2 (subst Q (sym same.positions) (subst P (sym same.circuit) rest2)) in
        (both.0, ap (λ (xs : List ℕ). composed xs two) same.free ∙ ap (composed one2) both.1)
