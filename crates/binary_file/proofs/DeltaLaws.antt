-- What the bytes of deltas spell.
use Rattle.std.proofs.Common.{ℕ, ◌+◌, ◌*◌, ◌/◌, ◌%◌, ◌^◌, ◌-◌, ◌<◌, ◌≤◌, ◌≡◌, ◌⊎◌, inl, inr, nat_lt, Bool, true, false, ◌&&◌, IsTrue, List, [], ◌∷◌, ◌++◌, length, refl, arith, sym, ◌∙◌, ap, ap₂, zero, suc, subst, get_or, length-append, append_assoc, All}
use Rattle.std.proofs.Math.Nat.{pow-suc, div-lt_iff_lt-mul}
use Rattle.std.proofs.lemmas.Bool.{cases_lt, lt-ltb, le-ltb, ltb-true}
use Rattle.binary_file.specs.Deltas.{delta_value, is_delta, bytes_within, delta_of}
use Rattle.std.specs.List.{IsFirstAndRest}
use Rattle.binary_file.specs.Laws.{DeltaLaws, EndsOnce}

-- one byte spells its low seven bits
pub value-last : (last : ℕ) → delta_value (last ∷ []) ≡ last % 128
unfolding delta_value
value-last last = omega arith

-- a byte before others spells its low seven bits, and 128 times what the others do
pub value-next : (byte : ℕ) (rest : List ℕ) → delta_value (byte ∷ rest) ≡ byte % 128 + 128 * delta_value rest
unfolding delta_value
value-next byte rest = refl

-- what at most four bytes spell fits 28 bits
pub few_bytes : (k v : ℕ) → k < 4 → v < 128 ^ (k + 1) → v < 2 ^ 28
few_bytes zero v few small = omega arith
few_bytes (suc zero) v few small = omega arith
few_bytes (suc (suc zero)) v few small = omega arith
few_bytes (suc (suc (suc zero))) v few small = omega arith
few_bytes (suc (suc (suc (suc k)))) v few small = absurd (omega arith)

-- one group less
pub fewer : (k n : ℕ) → n < 128 ^ (suc k) → n / 128 < 128 ^ k
fewer k n h =
    let grown : 128 ^ (suc k) ≡ 128 ^ k * 128 = pow-suc 128 k in
    let low : n < 128 ^ k * 128 = rw (sym grown) h in
    (div-lt_iff_lt-mul {k = 128} {x = n} {y = 128 ^ k} (omega arith)).1 low

-- a last byte with none before it spells its low seven bits
pub value-none : (xs : List ℕ) (last : ℕ) → length xs ≡ 0 → delta_value (xs ++ last ∷ []) ≡ last % 128
value-none [] last e = value-last last
value-none (x ∷ xs) last e = absurd (omega arith)

-- the first of some bytes before a last one spells its low seven bits, and 128 times what the rest
-- do
pub value-split : (xs rest : List ℕ) (byte last : ℕ) → IsFirstAndRest xs byte rest
    → delta_value (xs ++ last ∷ []) ≡ byte % 128 + 128 * delta_value (rest ++ last ∷ [])
value-split xs rest byte last e = rw e.0 (value-next byte (rest ++ last ∷ []))

-- at most four bytes have fewer than four after the first
pub rest-few : {xs rest : List ℕ} {byte : ℕ} → IsFirstAndRest xs byte rest → length xs ≤ 4 → length rest < 4
rest-few e few = let longer = e.1 in omega arith

-- a byte before a delta
is_delta-cons : (byte : ℕ) (bytes : List ℕ) → 127 < byte → IsTrue (is_delta bytes) → IsTrue (is_delta (byte ∷ bytes))
unfolding is_delta
is_delta-cons byte [] high ends = absurd (cc)
is_delta-cons byte (next ∷ bytes) high ends = let first : nat_lt 127 byte ≡ true = lt-ltb 127 byte high in rw first ends

is_delta-last : (byte : ℕ) → byte < 128 → IsTrue (is_delta (byte ∷ []))
unfolding is_delta
is_delta-last byte low = lt-ltb byte 128 low

-- a byte before other bytes of a delta has its top bit set
first-high : (byte next : ℕ) (bytes : List ℕ) → IsTrue (is_delta (byte ∷ next ∷ bytes)) → 127 < byte
unfolding is_delta
first-high byte next bytes ends = elim (cases_lt 127 byte) [
  | inl high ↦ high
  | inr low ↦ (let first : nat_lt 127 byte ≡ false = le-ltb 127 byte low in let both : (nat_lt 127 byte && is_delta (next ∷ bytes)) ≡ true = ends in absurd (cc))
]

rest-delta : (byte next : ℕ) (bytes : List ℕ) → IsTrue (is_delta (byte ∷ next ∷ bytes)) → IsTrue (is_delta (next ∷ bytes))
unfolding is_delta
rest-delta byte next bytes ends =
    let first : nat_lt 127 byte ≡ true = lt-ltb 127 byte (first-high byte next bytes ends) in
    let both : (nat_lt 127 byte && is_delta (next ∷ bytes)) ≡ true = ends in
    taken (nat_lt 127 byte) (is_delta (next ∷ bytes)) first both
  where
    taken : (a b : Bool) → a ≡ true → (a && b) ≡ true → b ≡ true
    taken true b e h = h
    taken false b e h = absurd (cc)

last-low : (byte : ℕ) → IsTrue (is_delta (byte ∷ [])) → byte < 128
unfolding is_delta
last-low byte ends = ltb-true byte 128 ends

not-empty : (bytes : List ℕ) → IsTrue (is_delta bytes) → 0 < length bytes
unfolding is_delta
not-empty [] ends = absurd (cc)
not-empty (byte ∷ bytes) ends = omega arith

-- the bytes of a number
pub bytes-low : (more n : ℕ) → n < 128 → bytes_within more n ≡ n ∷ []
unfolding bytes_within
bytes-low zero n low = refl
bytes-low (suc more) n low = let test : nat_lt n 128 ≡ true = lt-ltb n 128 low in rw test refl

-- a number from 128 on is its low seven bits with the top bit set, and then the bytes of the rest
pub bytes-high : (more n : ℕ) → 128 ≤ n → bytes_within (suc more) n ≡ (n % 128 + 128) ∷ bytes_within more (n / 128)
unfolding bytes_within
bytes-high more n high = let test : nat_lt n 128 ≡ false = le-ltb n 128 high in rw test refl

bytes-value : (more n : ℕ) → n < 128 ^ (suc more) → delta_value (bytes_within more n) ≡ n
bytes-value zero n small = let low : n < 128 = omega arith in let spelled = value-last n in rw (bytes-low zero n low) (omega arith)
bytes-value (suc more) n small = elim (cases_lt n 128) [
  | inl low ↦ (let spelled = value-last n in rw (bytes-low (suc more) n low) (omega arith))
  | inr high ↦ (
      let rest : delta_value (bytes_within more (n / 128)) ≡ n / 128 = bytes-value more (n / 128) (fewer (suc more) n small) in
      let spelled = value-next (n % 128 + 128) (bytes_within more (n / 128)) in
      rw (bytes-high more n high) (omega arith))
]

bytes-form : (more n : ℕ) → n < 128 ^ (suc more) → IsTrue (is_delta (bytes_within more n))
bytes-form zero n small = let low : n < 128 = omega arith in rw (bytes-low zero n low) (is_delta-last n low)
bytes-form (suc more) n small = elim (cases_lt n 128) [
  | inl low ↦ rw (bytes-low (suc more) n low) (is_delta-last n low)
  | inr high ↦ rw (bytes-high more n high)
      (is_delta-cons (n % 128 + 128) (bytes_within more (n / 128)) (omega arith) (bytes-form more (n / 128) (fewer (suc more) n small)))
]

bytes-shortest : (more n : ℕ) (bytes : List ℕ) → IsTrue (is_delta bytes) → delta_value bytes ≡ n → length (bytes_within more n) ≤ length bytes
unfolding bytes_within
bytes-shortest zero n bytes ends spelled = not-empty bytes ends
bytes-shortest (suc more) n [] ends spelled = absurd (let some = not-empty [] ends in omega arith)
bytes-shortest (suc more) n (byte ∷ []) ends spelled =
    let low : n < 128 = (let value = value-last byte in omega arith) in
    rw (bytes-low (suc more) n low) (omega arith)
bytes-shortest (suc more) n (byte ∷ next ∷ bytes) ends spelled = elim (cases_lt n 128) [
  | inl low ↦ rw (bytes-low (suc more) n low) (omega arith)
  | inr high ↦ (
      let value = value-next byte (next ∷ bytes) in
      let rest : delta_value (next ∷ bytes) ≡ n / 128 = omega arith in
      let shorter = bytes-shortest more (n / 128) (next ∷ bytes) (rest-delta byte next bytes ends) rest in
      rw (bytes-high more n high) (omega arith))
]

-- the shortest delta of a number below 2^35 spells it, is a delta, and no delta that spells it is
-- shorter
pub delta_laws : (n : ℕ) → n < 2 ^ 35 → DeltaLaws n
delta_laws n small = record {
  value = bytes-value 4 n (omega arith);
  form = bytes-form 4 n (omega arith);
  shortest = bytes-shortest 4 n;
}

-- equal lists have equal first elements
pub first-same : {a b : ℕ} {xs ys : List ℕ} → a ∷ xs ≡ b ∷ ys → a ≡ b
first-same e = ap (λ l. get_or l 0 0) e

-- and equal rests
pub rest-same : {a b : ℕ} {xs ys : List ℕ} → a ∷ xs ≡ b ∷ ys → xs ≡ ys
rest-same e = ap rest_of e
  where
    rest_of : List ℕ → List ℕ
    rest_of [] = []
    rest_of (x ∷ xs) = xs

-- two deltas that begin one list of bytes are one
pub ends_once : (first second rest other : List ℕ) → EndsOnce first second rest other
ends_once [] second rest other ends1 ends2 e = absurd (let some = not-empty [] ends1 in omega arith)
ends_once (a ∷ xs) [] rest other ends1 ends2 e = absurd (let some = not-empty [] ends2 in omega arith)
ends_once (a ∷ []) (b ∷ []) rest other ends1 ends2 e = let same : a ≡ b = first-same e in ap (λ x. x ∷ []) same
ends_once (a ∷ []) (b ∷ d ∷ ys) rest other ends1 ends2 e =
    let same : a ≡ b = first-same e in
    let low = last-low a ends1 in
    let high = first-high b d ys ends2 in
    absurd (omega arith)
ends_once (a ∷ c ∷ xs) (b ∷ []) rest other ends1 ends2 e =
    let same : a ≡ b = first-same e in
    let high = first-high a c xs ends1 in
    let low = last-low b ends2 in
    absurd (omega arith)
ends_once (a ∷ c ∷ xs) (b ∷ d ∷ ys) rest other ends1 ends2 e =
    ap₂ (λ x l. x ∷ l) (first-same e)
    (ends_once (c ∷ xs) (d ∷ ys) rest other (rest-delta a c xs ends1) (rest-delta b d ys ends2) (rest-same e))

-- n bytes of a number stand, and what is left of it is spelt by those that follow
abbrev pub Spells : List ℕ → List ℕ → ℕ → ℕ → ℕ → Type 0
Spells before items counter rest number =
    (length items ≡ length before + counter) × (rest < 128 ^ (5 - counter)) × (items ++ bytes_within (4 - counter) rest ≡ before ++ delta_of number)

-- one byte more, with the top bit set, leaves the number without these seven bits to spell
pub Spells-more : (before items more : List ℕ) (counter rest number : ℕ) → counter < 4 → 128 ≤ rest → Spells before items counter rest number
    → more ≡ items ++ (rest % 128 + 128) ∷ [] → Spells before more (counter + 1) (rest / 128) number
Spells-more before items more counter rest number turn high h pushed =
    let room : 5 - counter ≡ suc (suc (3 - counter)) = omega arith in
    let left : 4 - counter ≡ suc (3 - counter) = omega arith in
    let next_room : 5 - (counter + 1) ≡ suc (3 - counter) = omega arith in
    let next_left : 4 - (counter + 1) ≡ 3 - counter = omega arith in
    let small : rest < 128 ^ (suc (suc (3 - counter))) = subst (λ (k : ℕ). rest < 128 ^ k) room h.1 in
    let whole : items ++ bytes_within (suc (3 - counter)) rest ≡ before ++ delta_of number =
    subst (λ (k : ℕ). items ++ bytes_within k rest ≡ before ++ delta_of number) left h.2 in
    let opened : items ++ (rest % 128 + 128) ∷ bytes_within (3 - counter) (rest / 128) ≡ before ++ delta_of number =
    sym (ap (λ l. items ++ l) (bytes-high (3 - counter) rest high)) ∙ whole in
    let longer : length more ≡ length items + 1 = ap length pushed ∙ length-append items ((rest % 128 + 128) ∷ []) in (
      omega (arith, longer, h.0),
      subst (λ (k : ℕ). rest / 128 < 128 ^ k) (sym next_room) (fewer (suc (3 - counter)) rest small),
      subst (λ (k : ℕ). more ++ bytes_within k (rest / 128) ≡ before ++ delta_of number) (sym next_left)
          (ap (λ l. l ++ bytes_within (3 - counter) (rest / 128)) pushed
          ∙ append_assoc items ((rest % 128 + 128) ∷ []) (bytes_within (3 - counter) (rest / 128)) ∙ opened),
    )

-- with what is left as its last byte, the number's shortest delta stands
pub Spells-end : (before items : List ℕ) (counter rest number : ℕ) → counter ≤ 4 → (4 ≤ counter) ⊎ (rest < 128) → Spells before items counter rest number
    → items ++ rest ∷ [] ≡ before ++ delta_of number
unfolding bytes_within
Spells-end before items counter rest number within (inl done) h =
    let none : 4 - counter ≡ 0 = omega arith in
    subst (λ (k : ℕ). items ++ bytes_within k rest ≡ before ++ delta_of number) none h.2
Spells-end before items counter rest number within (inr low) h =
    sym (ap (λ l. items ++ l) (bytes-low (4 - counter) rest low)) ∙ h.2

-- bytes with the top bit set, and one without it, are a delta
pub is_delta-ended : (bytes : List ℕ) (last : ℕ) → All (λ byte. 127 < byte) bytes → last < 128 → IsTrue (is_delta (bytes ++ last ∷ []))
is_delta-ended [] last high low = is_delta-last last low
is_delta-ended (byte ∷ bytes) last high low = is_delta-cons byte (bytes ++ last ∷ []) (high 0 0 (omega arith))
    (is_delta-ended bytes last (λ k d within. high (suc k) d (omega arith)) low)
