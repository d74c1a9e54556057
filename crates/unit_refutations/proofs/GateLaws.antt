-- What follows of a gate and its fan-ins.
use Rattle.std.proofs.Common.{◌≡◌, Bool, true, false, ◌&&◌, ap, sym, ◌∙◌}
use Rattle.std.proofs.Math.Bool.{and-true, and-false}

-- of a gate with a fan-in of 0, the gate
pub zero-first : (o a b : Bool) → o ≡ (a && b) → a ≡ false → o ≡ false
zero-first o a b gate zero = gate ∙ ap (λ (x : Bool). x && b) zero

-- of a gate whose second fan-in is 0, the gate
pub zero-second : (o a b : Bool) → o ≡ (a && b) → b ≡ false → o ≡ false
zero-second o a b gate zero = gate ∙ ap (λ (x : Bool). a && x) zero ∙ and-false a

-- of a gate with two of 1, the gate
pub both-one : (o a b : Bool) → o ≡ (a && b) → a ≡ true → b ≡ true → o ≡ true
both-one o a b gate first second = gate ∙ ap (λ (x : Bool). x && b) first ∙ second

-- of a gate of 0 with a fan-in of 1, the other one
pub other-second : (o a b : Bool) → o ≡ (a && b) → a ≡ true → o ≡ false → b ≡ false
other-second o a b gate one zero = ap (λ (x : Bool). x && b) (sym one) ∙ sym gate ∙ zero

-- of a gate of 0 whose second fan-in is 1, the first one
pub other-first : (o a b : Bool) → o ≡ (a && b) → b ≡ true → o ≡ false → a ≡ false
other-first o a b gate one zero = sym (and-true a) ∙ ap (λ (x : Bool). a && x) (sym one) ∙ sym gate ∙ zero
