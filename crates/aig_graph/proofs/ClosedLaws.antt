-- A set is closed if and only if each member rests on latches that may move and on members.
use Rattle.std.proofs.Common.{ℕ, ◌<◌, ◌≡◌, ◌⊎◌, inl, inr, suc, zero, Option, Some, None, refl, arith, Bool, true, false, not, ◌&&◌, List, get_or, subst, sym, ◌∙◌, IsTrue}
use Rattle.std.specs.Prelude.{◌↔◌}
use Rattle.std.specs.List.{Contains, All}
use Rattle.std.specs.List.Sorted.{IsStrictlyIncreasing}
use Rattle.std.proofs.lemmas.Bool.{and_from}
use Rattle.std.proofs.lemmas.List.{get_or_default}
use Rattle.std.proofs.lemmas.Option.{none-some, same_Some}
use Rattle.aig_graph.specs.declared.graph.Gate.{Gate}
use Rattle.aig_graph.specs.declared.graph.Latch.{Latch}
use Rattle.aig_graph.specs.Graph.{Graph, IsGraph, IsGateAt, variable, latch_at, gate_at, is_known}
use Rattle.aig_graph.specs.Closed.{is_held, may_move, both, is_settled, IsPassable, IsLatchOrIn, IsClosed, IsClosedSet, MayMoveOrIn, RestsOn}
use Rattle.aig_graph.proofs.KindLaws.{latch_place}
use Rattle.aig_graph.proofs.FoldingLaws.{gate_at-before, gate_at-is, fold_gates-leaf, fold_gates-gate}

known-latch : (o : Option Latch) → IsTrue (is_known o) → (latch : Latch) × (o ≡ Some latch)
known-latch None h = absurd (cc)
known-latch (Some latch) h = (latch, refl)

-- if both of two hold, the first does
pub and_left : (a b : Bool) → IsTrue (a && b) → IsTrue a
and_left true b p = refl
and_left false b p = absurd (cc)

-- if both of two hold, the second does
pub and_right : (a b : Bool) → IsTrue (a && b) → IsTrue b
and_right true b p = p
and_right false b p = absurd (cc)

-- a latch that may move is a known latch
pub movable-latch : (g : Graph) (held : List ℕ) (v : ℕ) → IsTrue (may_move g held v) → (latch : Latch) × (latch_at g v ≡ Some latch)
movable-latch g held v h = known-latch (latch_at g v) (and_right (not (is_held g held v)) (is_known (latch_at g v)) h)

module _ (g : Graph) (held : List ℕ) where
  -- a latch is settled if it may move
  is_settled-latch : (v : ℕ) (latch : Latch) → latch_at g v ≡ Some latch → is_settled g held v ≡ may_move g held v
  unfolding is_settled
  is_settled-latch v latch e = fold_gates-leaf g (may_move g held) both v (gate_at-before g v (latch_place g v latch e).below)

  -- what isn't a gate is settled if it is a latch that may move
  is_settled-leaf : (v : ℕ) → gate_at g v ≡ None → is_settled g held v ≡ may_move g held v
  unfolding is_settled
  is_settled-leaf v e = fold_gates-leaf g (may_move g held) both v e

  -- a gate is settled if and only if both its fan-ins' variables are
  pub is_settled-gate : IsGraph g → (v : ℕ) (gate : Gate) → gate_at g v ≡ Some gate
      → is_settled g held v ≡ (is_settled g held (variable gate.rhs0) && is_settled g held (variable gate.rhs1))
  unfolding is_settled
  is_settled-gate valid v gate e = fold_gates-gate g valid (may_move g held) both v gate e

  -- a settled variable is a latch that may move or a gate
  pub settled_where : (v : ℕ) → IsTrue (is_settled g held v) ↔ (IsTrue (may_move g held v) ⊎ IsPassable g held v)
  settled_where v = elim (option_cases (gate_at g v)) [
    | inl none ↦
        (let leaf : is_settled g held v ≡ may_move g held v = is_settled-leaf v none in (
          (λ yes. inl (subst (λ (b : Bool). IsTrue b) leaf yes)),
          (λ either. elim either [
            | inl movable ↦ subst (λ (b : Bool). IsTrue b) (sym leaf) movable
            | inr passable ↦ absurd (none-some passable.0 (sym none ∙ passable.1))
          ]),
        ))
    | inr some ↦ (
      (λ yes. inr (some.0, some.1, yes)),
      (λ either. elim either [
        | inl movable ↦ (let latch = movable-latch g held v movable in absurd (none-some some.0 (sym (gate_at-before g v (latch_place g v latch.0 latch.1).below) ∙ some.1)))
        | inr passable ↦ passable.2
      ]),
    )
  ]
    where
      option_cases : (o : Option Gate) → (o ≡ None) ⊎ ((gate : Gate) × (o ≡ Some gate))
      option_cases None = inl refl
      option_cases (Some gate) = inr (gate, refl)

module _ (g : Graph) (held : List ℕ) (valid : IsGraph g) (s : List ℕ) where
  -- if each member rests on such latches and members, each member is settled
  settled-below : ((v : ℕ) → Contains s v → RestsOn g held s v) → (n v : ℕ) → v < n → MayMoveOrIn g held s v → IsTrue (is_settled g held v)
  unfolding RestsOn
  settled-below rests zero v h there = absurd (omega arith)
  settled-below rests (suc n) v h (inl movable) =
      let latch = movable-latch g held v movable in
      subst (λ (b : Bool). IsTrue b) (sym (is_settled-latch g held v latch.0 latch.1)) movable
  settled-below rests (suc n) v h (inr member) =
      let rest = rests v member in
      let here : IsGateAt v rest.0 = gate_at-is g valid v rest.0 rest.1 in
      subst (λ (b : Bool). IsTrue b) (sym (is_settled-gate g held valid v rest.0 rest.1))
      (and_from (is_settled g held (variable rest.0.rhs0)) (is_settled g held (variable rest.0.rhs1))
      (settled-below rests n (variable rest.0.rhs0) (omega arith) rest.2)
      (settled-below rests n (variable rest.0.rhs1) (omega arith) rest.3))

  latch_or_in : (v : ℕ) → MayMoveOrIn g held s v → IsLatchOrIn g s v
  latch_or_in v (inl movable) = inl (movable-latch g held v movable)
  latch_or_in v (inr member) = inr member

  movable_or_in : (v : ℕ) → IsTrue (is_settled g held v) → IsLatchOrIn g s v → MayMoveOrIn g held s v
  movable_or_in v settled (inl latch) = inl (subst (λ (b : Bool). IsTrue b) (is_settled-latch g held v latch.0 latch.1) settled)
  movable_or_in v settled (inr member) = inr member

  -- a set whose members all rest on latches that may move and on members is closed
  pub closed-from_rests : ((v : ℕ) → Contains s v → RestsOn g held s v) → IsClosed g held s
  unfolding RestsOn
  closed-from_rests rests = record {
    passable = λ v member. let rest = rests v member in (rest.0, rest.1, settled-below rests (suc v) v (omega arith) (inr member));
    fan_ins = λ v gate member e.
        let rest = rests v member in
        let same : rest.0 ≡ gate = same_Some rest.0 gate (sym rest.1 ∙ e) in
        subst (λ (x : Gate). IsLatchOrIn g s (variable x.rhs0) × IsLatchOrIn g s (variable x.rhs1)) same
        (latch_or_in (variable rest.0.rhs0) rest.2, latch_or_in (variable rest.0.rhs1) rest.3);
  }

  -- each member of a closed set rests on latches that may move and on members
  pub rests-from_closed : IsClosed g held s → (v : ℕ) → Contains s v → RestsOn g held s v
  unfolding RestsOn
  rests-from_closed closed v member =
      let pass = closed.passable v member in
      let ins = closed.fan_ins v pass.0 member pass.1 in
      let settled : IsTrue (is_settled g held (variable pass.0.rhs0) && is_settled g held (variable pass.0.rhs1)) =
      subst (λ (b : Bool). IsTrue b) (is_settled-gate g held valid v pass.0 pass.1) pass.2 in (
        pass.0,
        pass.1,
        movable_or_in (variable pass.0.rhs0) (and_left (is_settled g held (variable pass.0.rhs0)) (is_settled g held (variable pass.0.rhs1)) settled) ins.0,
        movable_or_in (variable pass.0.rhs1) (and_right (is_settled g held (variable pass.0.rhs0)) (is_settled g held (variable pass.0.rhs1)) settled) ins.1,
      )

-- at a member, and at each of the list
at_member : (P : ℕ → Type 0) (s : List ℕ) → All P s → (v : ℕ) → Contains s v → P v
at_member P s all v member = subst P member.2 (all member.0 v member.1)

at_each : (P : ℕ → Type 0) (s : List ℕ) → ((v : ℕ) → Contains s v → P v) → All P s
at_each P s every = λ k d h. every (get_or s k d) (k, h, get_or_default s k (get_or s k d) d h)

-- a set is closed if and only if each of its list rests on latches that may move and on members
pub closed_iff_rests : (g : Graph) (held : List ℕ) → IsGraph g → (s : List ℕ) → IsClosed g held s ↔ All (RestsOn g held s) s
closed_iff_rests g held valid s = (
  (λ closed. at_each (RestsOn g held s) s (rests-from_closed g held valid s closed)),
  (λ all. closed-from_rests g held valid s (at_member (RestsOn g held s) s all)),
)

-- a strictly rising list is a closed set if and only if each of it reads only latches that may move
-- and members
pub closed_set_iff_rests : (g : Graph) (held : List ℕ) → IsGraph g → (s : List ℕ) → IsStrictlyIncreasing s → IsClosedSet g held s ↔ All (RestsOn g held s) s
closed_set_iff_rests g held valid s rising =
    let laws = closed_iff_rests g held valid s in
    ((λ set. laws.0 set.closed), (λ all. record { rising = rising; closed = laws.1 all }))
