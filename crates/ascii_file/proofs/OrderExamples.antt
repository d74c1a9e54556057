-- What the definitions say of small files.
use Rattle.std.proofs.Common.{ℕ, ◌≡◌, [], ◌∷◌, Option, Some, None, refl}
use Rattle.ascii_file.specs.declared.order.reads.Reads.{Reads}
use Rattle.ascii_file.specs.order.Order.{may_follow, first_below, order_from, ordered}

abbrev gate : Option ℕ → Option ℕ → Reads
gate first second = record { first = first; second = second }

-- the first gate waits for the third, which waits for the second
waits : ordered (gate (Some 2) None ∷ gate None None ∷ gate (Some 1) (Some 1) ∷ gate (Some 0) (Some 2) ∷ []) ≡ Some (1 ∷ 2 ∷ 0 ∷ 3 ∷ [])
unfolding order_from first_below may_follow
waits = refl

-- a gate that waited goes before those after it in the file
returns_first : ordered (gate (Some 1) None ∷ gate None None ∷ gate None None ∷ []) ≡ Some (1 ∷ 0 ∷ 2 ∷ [])
unfolding order_from first_below may_follow
returns_first = refl

-- in order already
in_order : ordered (gate None None ∷ gate (Some 0) None ∷ gate (Some 0) (Some 1) ∷ []) ≡ Some (0 ∷ 1 ∷ 2 ∷ [])
unfolding order_from first_below may_follow
in_order = refl

-- two gates that read each other, and one that reads itself
cycle : ordered (gate None None ∷ gate (Some 2) (Some 0) ∷ gate (Some 1) None ∷ []) ≡ None
unfolding order_from first_below may_follow
cycle = refl

itself : ordered (gate (Some 0) None ∷ []) ≡ None
unfolding order_from first_below may_follow
itself = refl

-- an empty file
empty : ordered [] ≡ Some []
unfolding order_from
empty = refl
