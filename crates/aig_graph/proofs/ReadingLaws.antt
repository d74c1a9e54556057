-- What is read from outside, by tests and by marks.
use Rattle.std.proofs.Common.{ℕ, ◌+◌, ◌<◌, ◌≤◌, ◌≡◌, ◌||◌, ◌&&◌, not, Bool, List, [], ◌∷◌, length, refl, arith, ap, subst}
use Rattle.std.specs.List.{list_any, enumerate_from}
use Rattle.aig_graph.specs.Marking.{mark_at, Marks, AreMarks}
use Rattle.aig_graph.proofs.MarkingLaws.{mark_at-covered, Marks-then}
use Rattle.aig_graph.specs.declared.graph.Gate.{Gate}
use Rattle.aig_graph.specs.declared.graph.Latch.{Latch}
use Rattle.aig_graph.specs.declared.properties.Props.{Props}
use Rattle.aig_graph.specs.Graph.{Graph, first_latch, first_gate, variables_end, latches_and_gates}
use Rattle.aig_graph.specs.Streams.{property_literals}
use Rattle.aig_graph.specs.Border.{reads, is_fan_in, is_read_outside}

-- tests that agree on the numbers of the list
list_any-numbered-same : {X : Type 0} (p q : ℕ × X → Bool) (first : ℕ) (xs : List X)
    → ((v : ℕ) (x : X) → first ≤ v → v < first + length xs → p (v, x) ≡ q (v, x)) → list_any p (enumerate_from first xs) ≡ list_any q (enumerate_from first xs)
list_any-numbered-same p q first [] same = refl
list_any-numbered-same p q first (x ∷ xs) same =
    let here : p (first, x) ≡ q (first, x) = same first x (omega arith) (omega arith) in
    let rest = list_any-numbered-same p q (first + 1) xs (λ v y low high. same v y (omega arith) (omega arith)) in
    cc

-- what is read from outside, if two tests agree on the gates
pub is_read_outside-same : (g : Graph) (props : Props) (p q : ℕ → Bool) → ((v : ℕ) → first_gate g ≤ v → v < variables_end g → p v ≡ q v)
    → (v : ℕ) → is_read_outside g props p v ≡ is_read_outside g props q v
unfolding is_read_outside
is_read_outside-same g props p q same v =
    ap (λ b. (b || list_any (λ (latch : Latch). reads v latch.next) g.latches) || list_any (reads v) (property_literals props))
    (list_any-numbered-same (λ (e : ℕ × Gate). not (p e.0) && is_fan_in v e.1) (λ (e : ℕ × Gate). not (q e.0) && is_fan_in v e.1) (first_gate g) g.gates
    (λ w gate low high. ap (λ b. not b && is_fan_in v gate) (same w low high)))

-- that reading, by the marks of a test
pub is_read_outside-marks : (g : Graph) (props : Props) (marks : List Bool) (p : ℕ → Bool) → latches_and_gates g ≤ length marks → AreMarks (first_latch g) marks p
    → (v : ℕ) → is_read_outside g props (mark_at (first_latch g) marks) v ≡ is_read_outside g props p v
is_read_outside-marks g props marks p long marked =
    is_read_outside-same g props (mark_at (first_latch g) marks) p (λ v low high. mark_at-covered (first_latch g) marks p v marked (omega arith) (omega arith))

-- the three parts of what is read
pub Marks-read : (g : Graph) (props : Props) (inside : List Bool) (f fg : ℕ) (gates : List Gate) (latches : List Latch) (xs ys zs ws : List Bool)
    → f ≡ first_latch g → fg ≡ first_gate g → gates ≡ g.gates → latches ≡ g.latches
    → Marks f xs ys (λ v. list_any (λ (e : ℕ × Gate). not (mark_at f inside e.0) && is_fan_in v e.1) (enumerate_from fg gates))
    → Marks f ys zs (λ v. list_any (λ (latch : Latch). reads v latch.next) latches)
    → Marks f zs ws (λ v. list_any (reads v) (property_literals props))
    → Marks (first_latch g) xs ws (is_read_outside g props (mark_at (first_latch g) inside))
unfolding is_read_outside
Marks-read g props inside f fg gates latches xs ys zs ws same_f same_fg same_gates same_latches p q r =
    let by_gates : ℕ → List Bool → ℕ → List Gate → ℕ → Bool = λ first marks start items v. list_any (λ (e : ℕ × Gate). not (mark_at first marks e.0) && is_fan_in v e.1) (enumerate_from start items) in
    let by_latches : List Latch → ℕ → Bool = λ items v. list_any (λ (latch : Latch). reads v latch.next) items in
    let by_props : ℕ → Bool = λ v. list_any (reads v) (property_literals props) in
    subst (λ (first : ℕ). Marks first xs ws (λ v. (by_gates first inside (first_gate g) g.gates v || by_latches g.latches v) || by_props v)) same_f
    (subst (λ (start : ℕ). Marks f xs ws (λ v. (by_gates f inside start g.gates v || by_latches g.latches v) || by_props v)) same_fg
    (subst (λ (items : List Gate). Marks f xs ws (λ v. (by_gates f inside fg items v || by_latches g.latches v) || by_props v)) same_gates
    (subst (λ (items : List Latch). Marks f xs ws (λ v. (by_gates f inside fg gates v || by_latches items v) || by_props v)) same_latches
    (Marks-then f xs zs ws (λ v. by_gates f inside fg gates v || by_latches latches v) by_props (Marks-then f xs ys zs (by_gates f inside fg gates) (by_latches latches) p q) r))))
