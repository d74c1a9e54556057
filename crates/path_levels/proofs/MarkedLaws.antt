-- The marks of barred gates, and what passes over gates and marks make.
use Rattle.std.proofs.Common.{ℕ, ◌+◌, ◌-◌, ◌<◌, ◌≡◌, ◌∙◌, ◌++◌, inl, inr, Bool, false, ◌&&◌, nat_lt, nat_le, List, [], ◌∷◌, length, map, take, get_or, refl, sym, ap, ap₂, arith, append_assoc, append-nil}
use Rattle.std.specs.List.{All, enumerate_from, flat_map}
use Rattle.std.proofs.lemmas.Bool.{cases_lt, and_right}
use Rattle.std.proofs.lemmas.List.{get_or_past, map-append, take_more}
use Rattle.std.proofs.lemmas.List.Concat.{flat_map-append}
use Rattle.std.proofs.lemmas.List.FromFn.{length-enumerate_from, get_or-enumerate_from}
use Rattle.aig_graph.specs.Tables.{table}
use Rattle.aig_graph.specs.Marking.{mark_at}
use Rattle.aig_graph.proofs.TableLaws.{entry, length-table}
use Rattle.aig_graph.proofs.MarkingLaws.{AreAllMarks-table, mark_at-all}
use Rattle.aig_graph.specs.declared.graph.Gate.{Gate}
use Rattle.aig_graph.specs.declared.properties.Props.{Props}
use Rattle.aig_graph.specs.Graph.{Graph, first_latch, first_gate, variables_end, latches_and_gates}
use Rattle.aig_graph.specs.Circuits.{Netlist}
use Rattle.aig_graph.specs.Streams.{property_literals}
use Rattle.frame_net.specs.declared.pass_set.PassSet.{PassSet}
use Rattle.frame_net.specs.Passable.{is_passable, IsPassSet}
use Rattle.frame_net.proofs.PassableLaws.{passable-before, passable-past, has-passable, mark_at-past}
use Rattle.path_levels.specs.Levels.{entry_at}
use Rattle.path_levels.specs.Arrivals.{arrival}
use Rattle.path_levels.specs.Bounded.{is_barred, gate_left, reads_barred, outputs_left, with_barred, bounded, NoneBarred}
use Rattle.path_levels.proofs.EntryLaws.{entry-of}
use Rattle.path_levels.proofs.ArrivalLaws.{arrival-before}
use Rattle.path_levels.proofs.UnbarredLaws.{unbarred-other}

barred-is : (bound : ℕ) (g : Graph) (held : List ℕ) (v time : ℕ) (passes x : Bool) → passes ≡ is_passable g held v → time ≡ arrival g v → x ≡ (passes && nat_lt bound time) → x ≡ is_barred bound g held v
unfolding is_barred
barred-is bound g held v time passes x passing timed is = is ∙ ap₂ (λ (b : Bool) (n : ℕ). b && nat_lt bound n) passing timed

-- the loop's step: the marks with the next gate's
pub barred-more : (bound : ℕ) (g : Graph) (held : List ℕ) (first k v time : ℕ) (pass : PassSet) (arrivals read : List ℕ) (marks more : List Bool) (passes x : Bool)
    → IsPassSet g held pass → passes ≡ mark_at pass.first pass.marks.items v → v ≡ first_gate g + k → k < length g.gates
    → first ≡ first_latch g → arrivals ≡ table (first_latch g) (latches_and_gates g) (arrival g) → read ≡ arrivals → time ≡ entry_at first read v
    → x ≡ (passes && nat_lt bound time) → marks ≡ table (first_gate g) k (is_barred bound g held) → more ≡ marks ++ x ∷ []
    → more ≡ table (first_gate g) (k + 1) (is_barred bound g held)
barred-more bound g held first k v time pass arrivals read marks more passes x set passing place h from filled is_read timed is marked pushed =
    let passable : passes ≡ is_passable g held v = passing ∙ has-passable g held pass.first pass.marks.items v set.first set.marks in
    let arrives : time ≡ arrival g v = timed ∙ ap (λ (n : ℕ). entry_at n read v) from
    ∙ entry-of (first_latch g) (latches_and_gates g) v (arrival g) read (arrival-before g) (is_read ∙ filled) (omega (arith, place, h)) in
    entry (first_gate g) k (is_barred bound g held) marks more x marked pushed (barred-is bound g held v time passes x passable arrives is ∙ ap (is_barred bound g held) place)

-- the mark of any variable says whether it is barred
mark-barred : (bound : ℕ) (g : Graph) (held : List ℕ) (marks : List Bool) → marks ≡ table (first_gate g) (length g.gates) (is_barred bound g held) → (v : ℕ)
    → mark_at (first_gate g) marks v ≡ is_barred bound g held v
mark-barred bound g held marks filled v =
    let long : length marks ≡ length g.gates = ap (λ (xs : List Bool). length xs) filled ∙ length-table (first_gate g) (length g.gates) (is_barred bound g held) in
    elim (cases_lt v (variables_end g)) [
      | inl lt ↦ mark_at-all (first_gate g) marks (is_barred bound g held) v
          (AreAllMarks-table (first_gate g) (length g.gates) marks (is_barred bound g held) filled (λ w early. unbarred-other bound g held w (passable-before g held w early)))
          (omega (arith, lt, long))
      | inr ge ↦ mark_at-past (first_gate g) marks v (omega (arith, ge, long)) ∙ sym (unbarred-other bound g held v (passable-past g held v ge))
    ]

-- the circuit in which the marked gates are barred is the bounded one
pub bounded-marked : (bound : ℕ) (held : List ℕ) (c : Netlist) (g : Graph) (marks read : List Bool) → g ≡ c.aig → marks ≡ table (first_gate g) (length g.gates) (is_barred bound g held) → read ≡ marks
    → with_barred (mark_at (first_gate c.aig) read) c ≡ bounded bound held c
unfolding bounded
bounded-marked bound held c g marks read same filled is_read =
    let here : read ≡ table (first_gate c.aig) (length c.aig.gates) (is_barred bound c.aig held) =
    is_read ∙ filled ∙ ap (λ (x : Graph). table (first_gate x) (length x.gates) (is_barred bound x held)) same in
    let test : mark_at (first_gate c.aig) read ≡ is_barred bound c.aig held = λ i. λ v. mark-barred bound c.aig held read here v i in
    ap (λ (p : ℕ → Bool). with_barred p c) test

unmarked-at : (first : ℕ) (marks : List Bool) → All (λ mark. mark ≡ false) marks → (v : ℕ) → mark_at first marks v ≡ false
unfolding mark_at
unmarked-at first marks none v = elim (cases_lt (v - first) (length marks)) [
  | inl lt ↦ ap (λ (b : Bool). nat_le first v && b) (none (v - first) false lt) ∙ and_right (nat_le first v) false refl
  | inr ge ↦ ap (λ (b : Bool). nat_le first v && b) (get_or_past marks (v - first) false ge) ∙ and_right (nat_le first v) false refl
]

-- if no gate is marked none is barred
pub none-barred : (bound : ℕ) (held : List ℕ) (h g : Graph) (marks read : List Bool) → g ≡ h → marks ≡ table (first_gate g) (length g.gates) (is_barred bound g held) → read ≡ marks
    → All (λ mark. mark ≡ false) read → NoneBarred bound h held
none-barred bound held h g marks read same filled is_read none v =
    let here : read ≡ table (first_gate h) (length h.gates) (is_barred bound h held) =
    is_read ∙ filled ∙ ap (λ (x : Graph). table (first_gate x) (length x.gates) (is_barred bound x held)) same in
    sym (mark-barred bound h held read here v) ∙ unmarked-at (first_gate h) read none v

-- one more gate of a numbered list
taken-more : (first k : ℕ) (gate : Gate) (gates : List Gate) → k < length gates → gate ≡ get_or gates k gate
    → take (k + 1) (enumerate_from first gates) ≡ take k (enumerate_from first gates) ++ (first + k, gate) ∷ []
taken-more first k gate gates h there =
    let long : k < length (enumerate_from first gates) = omega (arith, h, length-enumerate_from first gates) in
    take_more (enumerate_from first gates) k (first + k, gate) long
    ∙ ap (λ (e : ℕ × Gate). take k (enumerate_from first gates) ++ e ∷ [])
    (get_or-enumerate_from first gates k (first + k, gate) h ∙ ap (λ (x : Gate). (first + k, x)) (sym there))

-- what is left of one more
pub left-more : (test : ℕ → Bool) (first k : ℕ) (gate x : Gate) (gates left more : List Gate) (b : Bool) → k < length gates → gate ≡ get_or gates k gate
    → left ≡ map (λ (e : ℕ × Gate). gate_left (test e.0) e.1) (take k (enumerate_from first gates)) → more ≡ left ++ x ∷ [] → b ≡ test (first + k) → x ≡ gate_left b gate
    → more ≡ map (λ (e : ℕ × Gate). gate_left (test e.0) e.1) (take (k + 1) (enumerate_from first gates))
left-more test first k gate x gates left more b h there before pushed marked is =
    let f : ℕ × Gate → Gate = λ e. gate_left (test e.0) e.1 in
    pushed ∙ ap₂ (λ (xs : List Gate) (y : Gate). xs ++ y ∷ []) before (is ∙ ap (λ (m : Bool). gate_left m gate) marked)
    ∙ sym (map-append f (take k (enumerate_from first gates)) ((first + k, gate) ∷ []))
    ∙ ap (map f) (sym (taken-more first k gate gates h there))

-- what is read of one more
pub reads-more : (test : ℕ → Bool) (first k : ℕ) (gate : Gate) (gates : List Gate) (start reads more : List ℕ) (b : Bool) → k < length gates → gate ≡ get_or gates k gate
    → reads ≡ start ++ flat_map (λ (e : ℕ × Gate). reads_barred (test e.0) e.1) (take k (enumerate_from first gates)) → more ≡ reads ++ reads_barred b gate → b ≡ test (first + k)
    → more ≡ start ++ flat_map (λ (e : ℕ × Gate). reads_barred (test e.0) e.1) (take (k + 1) (enumerate_from first gates))
reads-more test first k gate gates start reads more b h there before pushed marked =
    let f : ℕ × Gate → List ℕ = λ e. reads_barred (test e.0) e.1 in
    pushed ∙ ap₂ (λ (xs : List ℕ) (m : Bool). xs ++ reads_barred m gate) before marked
    ∙ append_assoc start (flat_map f (take k (enumerate_from first gates))) (reads_barred (test (first + k)) gate)
    ∙ ap (λ (xs : List ℕ). start ++ xs)
    (ap (λ (xs : List ℕ). flat_map f (take k (enumerate_from first gates)) ++ xs) (sym (append-nil (reads_barred (test (first + k)) gate)))
    ∙ sym (flat_map-append f (take k (enumerate_from first gates)) ((first + k, gate) ∷ []))
    ∙ ap (flat_map f) (sym (taken-more first k gate gates h there)))

-- the outputs, by a graph and properties that are those of the circuit
pub outputs-are : (c : Netlist) (g : Graph) (props : Props) (first : ℕ) (gates : List Gate) (barred : List Bool) (literals outputs : List ℕ) → g ≡ c.aig → props ≡ c.props → first ≡ first_gate g → gates ≡ g.gates
    → literals ≡ property_literals props
    → outputs ≡ literals ++ flat_map (λ (e : ℕ × Gate). reads_barred (mark_at first barred e.0) e.1) (enumerate_from first gates)
    → outputs ≡ outputs_left (mark_at (first_gate c.aig) barred) c
outputs-are c g props first gates barred literals outputs same_g same_p from are collected is =
    let all : ℕ → List Gate → List ℕ = λ n xs. flat_map (λ (e : ℕ × Gate). reads_barred (mark_at n barred e.0) e.1) (enumerate_from n xs) in
    is ∙ ap₂ (λ (n : ℕ) (xs : List Gate). literals ++ all n xs) (from ∙ ap first_gate same_g) (are ∙ ap (λ (x : Graph). x.gates) same_g)
    ∙ ap (λ (xs : List ℕ). xs ++ all (first_gate c.aig) c.aig.gates) (collected ∙ ap property_literals same_p)
