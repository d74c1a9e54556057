-- What the units at one gate add to both sides of a cut.
use Rattle.std.proofs.Common.{◌≡◌, ◌⊎◌, ℕ, suc, zero, ◌+◌, ◌*◌, ◌<◌, ◌≤◌, Bool, true, false, arith, refl, inl, inr}
use Rattle.unit_flows.specs.Units.{unit}

-- a test that holds counts 1
pub unit-true : (b : Bool) → b ≡ true → unit b ≡ 1
unfolding unit
unit-true true e = refl
unit-true false e = absurd (cc)

-- a test that fails counts 0
pub unit-false : (b : Bool) → b ≡ false → unit b ≡ 0
unfolding unit
unit-false true e = absurd (cc)
unit-false false e = refl

-- a test counts 1 at most
pub unit-le : (b : Bool) → unit b ≤ 1
unfolding unit
unit-le true = omega arith
unit-le false = omega arith

-- a number times at most 1 is no larger than the number
pub mul-le : (a b : ℕ) → b ≤ 1 → a * b ≤ a
mul-le a zero h = omega arith
mul-le a (suc zero) h = omega arith
mul-le a (suc (suc b)) h = absurd (omega (arith, h))

-- at most 1 times a number is no larger than the number
pub le-mul : (a b : ℕ) → a ≤ 1 → a * b ≤ b
le-mul zero b h = omega arith
le-mul (suc zero) b h = omega arith
le-mul (suc (suc a)) b h = absurd (omega (arith, h))

-- The weights of the nodes before and after a gate, and of those of its fan-ins. A weight is 1 on
-- the far side of a cut, else 0. `border` is 1 if the gate is in the border. Here the node before
-- the gate is far.
pub record IsFar (before after border after1 after2 before1 before2 : ℕ) : Type 0 where
  -- the node before the gate is far
  pub before_is : before ≡ 1
  -- the node after the gate is far
  pub after_is : after ≡ 1
  -- the gate isn't in the border
  pub border_is : border ≡ 0
  -- the node after the first fan-in is far
  pub after1_is : after1 ≡ 1
  -- the node after the second fan-in is far
  pub after2_is : after2 ≡ 1
  -- the node before the first fan-in weighs 1 at most
  pub before1_le : before1 ≤ 1
  -- the node before the second fan-in weighs 1 at most
  pub before2_le : before2 ≤ 1

-- .. and if it lies on the near side
pub record IsNear (before after border after1 after2 before1 before2 : ℕ) : Type 0 where
  -- the node before the gate is near
  pub before_is : before ≡ 0
  -- the node after the gate weighs 1 at most
  pub after_le : after ≤ 1
  -- the gate is in the border just if the node after the gate is far
  pub border_is : border ≡ after
  -- the node before the first fan-in is near
  pub before1_is : before1 ≡ 0
  -- the node before the second fan-in is near
  pub before2_is : before2 ≡ 0

abbrev pub IsSplit : ℕ → ℕ → ℕ → ℕ → ℕ → ℕ → ℕ → Type 0
IsSplit before after border after1 after2 before1 before2 = IsFar before after border after1 after2 before1 before2 ⊎ IsNear before after border after1 after2 before1 before2

module _ (through up1 up2 down1 down2 : ℕ) (small : through ≤ 1) (before after border after1 after2 before1 before2 : ℕ) where
  -- what comes to far nodes here, and what goes on from them with the border
  abbrev pub comes : ℕ
  comes = through * after + before * (up1 + up2) + (down1 * before1 + down2 * before2)

  abbrev pub goes : ℕ
  goes = up1 * after1 + up2 * after2 + before * (through + down1 + down2) + border

  -- at a gate no more comes to far nodes than goes on from them with the border
  pub comes-le : IsSplit before after border after1 after2 before1 before2 → comes ≤ goes
  comes-le (inl far) = rw (far.before_is, far.after_is, far.border_is, far.after1_is, far.after2_is) (omega (arith, mul-le down1 before1 far.before1_le, mul-le down2 before2 far.before2_le))
  comes-le (inr near) = rw (near.before_is, near.border_is, near.before1_is, near.before2_is) (omega (arith, le-mul through after small))

  -- if as much goes on as comes, no unit goes to the near side, and each way to the far side is
  -- full
  pub full-through : IsSplit before after border after1 after2 before1 before2 → goes ≤ comes → after ≡ 1 → through ≡ 0 → before ≡ 1
  full-through (inl far) full a t = far.before_is
  full-through (inr near) full a t = absurd (let f = rw (near.before_is, near.border_is, near.before1_is, near.before2_is, a, t) at full in omega (arith, f))

  -- if no less comes than goes on, a unit from a far node after the first fan-in comes to a far
  -- node before the gate
  pub full-first_home : IsSplit before after border after1 after2 before1 before2 → goes ≤ comes → after1 ≡ 1 → up1 ≡ 1 → before ≡ 1
  full-first_home (inl far) full a u = far.before_is
  full-first_home (inr near) full a u = absurd (let f = rw (near.before_is, near.border_is, near.before1_is, near.before2_is, a, u) at full in omega (arith, f, le-mul through after small))

  -- if no less comes than goes on, a unit from a far node after the second fan-in comes to a far
  -- node before the gate
  pub full-second_home : IsSplit before after border after1 after2 before1 before2 → goes ≤ comes → after2 ≡ 1 → up2 ≡ 1 → before ≡ 1
  full-second_home (inl far) full a u = far.before_is
  full-second_home (inr near) full a u = absurd (let f = rw (near.before_is, near.border_is, near.before1_is, near.before2_is, a, u) at full in omega (arith, f, le-mul through after small))

  -- if no less comes than goes on, no unit goes from a far node before the gate to a near one
  -- before the first fan-in
  pub full-first_back : IsSplit before after border after1 after2 before1 before2 → goes ≤ comes → before ≡ 1 → 0 < down1 → before1 ≡ 0 → ⊥
  full-first_back (inl far) full b d z = let f = rw (far.before_is, far.after_is, far.border_is, far.after1_is, far.after2_is, z) at full in omega (arith, f, d, mul-le down2 before2 far.before2_le)
  full-first_back (inr near) full b d z = omega (arith, b, near.before_is)

  -- if no less comes than goes on, no unit goes from a far node before the gate to a near one
  -- before the second fan-in
  pub full-second_back : IsSplit before after border after1 after2 before1 before2 → goes ≤ comes → before ≡ 1 → 0 < down2 → before2 ≡ 0 → ⊥
  full-second_back (inl far) full b d z = let f = rw (far.before_is, far.after_is, far.border_is, far.after1_is, far.after2_is, z) at full in omega (arith, f, d, mul-le down1 before1 far.before1_le)
  full-second_back (inr near) full b d z = omega (arith, b, near.before_is)
