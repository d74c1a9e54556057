use Rattle.std.proofs.Common.{List, ◌≡◌, ◌++◌, Result, Ok, Err, append_assoc}
use Rattle.std.specs.Prelude.{OnOk, is_ok, if◌then◌else◌}
use Rattle.aig_graph.proofs.shape.add_properties.Goals as goal

-- five lists, one put after the other, the last by this result
five_added : {A T E : Type 0} (r : Result T E) (start a b c d e : List A) {p q s t u : List A} → p ≡ start ++ a → q ≡ p ++ b → s ≡ q ++ c → t ≡ s ++ d
    → u ≡ (if is_ok r then t ++ e else t) → OnOk r (u ≡ start ++ (a ++ b ++ c ++ d ++ e))
five_added (Ok x) start a b c d e first second third fourth fifth = rw (fifth, fourth, third, second, first) (simp append_assoc)
five_added (Err x) start a b c d e first second third fourth fifth = tt

pub returns : goal.returns
returns c =
    five_added _ _ _ _ _ _ _
    (rw c.as_slice.ensures at c.in_ok-extend_from_slice.ensures.items)
    (rw c.as_slice-2.ensures at c.in_ok-extend_from_slice-2.ensures.items)
    (rw c.as_slice-3.ensures at c.in_ok-extend_from_slice-3.ensures.items)
    (rw c.as_slice-4.ensures at c.in_ok-add_each.ensures)
    (rw c.as_slice-5.ensures at c.extend_from_slice-4.ensures.items)
