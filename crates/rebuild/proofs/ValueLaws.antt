-- Values at step 0 of latches and members, one by one.
use Rattle.std.proofs.Common.{ℕ, ◌+◌, ◌≤◌, ◌≡◌, List, Bool, true, false, ◌&&◌, ◌||◌, Option, Some, is_some, slice_get, ap, sym, ◌∙◌}
use Rattle.std.proofs.lemmas.Bool.{or_right}
use Rattle.aig_graph.proofs.KindLaws.{latch_at-first_latch, latch_at-gates}
use Rattle.aig_graph.specs.Graph.{Graph, IsGraph, first_gate, first_latch, latch_at}
use Rattle.aig_graph.specs.Value.{opening}
use Rattle.aig_graph.specs.declared.graph.Latch.{Latch}
use Rattle.rebuild.proofs.StartLaws.{start-latch}
use Rattle.rebuild.specs.Members.{is_latch_or_in}
use Rattle.rebuild.specs.Starting.{member_start, start_value}
use Rattle.aig_graph.specs.Marking.{has}

-- the entry of a latch or member is its value
pub start-inside : (g : Graph) (s : List ℕ) (v : ℕ) → is_latch_or_in g s v ≡ true → member_start g s v ≡ start_value g v
start-inside g s v inside = ap (λ (b : Bool). b && start_value g v) inside

-- that of a member
pub start-member : (g : Graph) (s : List ℕ) (v : ℕ) → has s v ≡ true → member_start g s v ≡ start_value g v
start-member g s v member = start-inside g s v (or_right (is_some (latch_at g v)) (has s v) member)

-- that of a latch, by its reset
pub start-of_latch : (g : Graph) → IsGraph g → (s : List ℕ) (k : ℕ) (latch : Latch) → slice_get g.latches k ≡ Some latch
    → member_start g s (first_latch g + k) ≡ opening latch.reset false
start-of_latch g valid s k latch there =
    let v : ℕ = first_latch g + k in
    let here : latch_at g v ≡ Some latch = latch_at-first_latch g k ∙ there in
    ap (λ (o : Option Latch). (is_some o || has s v) && start_value g v) here ∙ start-latch g valid v latch here

-- that of a gate outside is false
pub start-outside : (g : Graph) (s : List ℕ) (v : ℕ) → first_gate g ≤ v → has s v ≡ false → false ≡ member_start g s v
start-outside g s v from outer =
    sym (ap (λ (b : Bool). b && start_value g v) (ap (λ (o : Option Latch). is_some o || has s v) (latch_at-gates g v from) ∙ outer))
