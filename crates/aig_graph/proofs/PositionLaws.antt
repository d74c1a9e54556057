-- Lists of positions, and the latches that names and positions hold.
use Rattle.std.proofs.Common.{ℕ, ◌+◌, ◌<◌, ◌≡◌, ◌||◌, inl, inr, List, [], ◌∷◌, length, get_or, nat_eq, Bool, true, false, refl, arith, ap, sym, ◌∙◌}
use Rattle.std.specs.List.{All}
use Rattle.std.specs.List.Sorted.{IsStrictlyIncreasing}
use Rattle.std.proofs.lemmas.Bool.{cases_lt, or_left, or_right}
use Rattle.std.proofs.lemmas.Option.{slice_get-get_or, same_Some}
use Rattle.aig_graph.specs.Counting.{count_below, places}
use Rattle.aig_graph.specs.Marking.{has, Marks}
use Rattle.aig_graph.specs.Tables.{table}
use Rattle.aig_graph.proofs.MarkingLaws.{AreMarks-table}
use Rattle.aig_graph.proofs.TableLaws.{length-table, table-from}
use Rattle.aig_graph.proofs.PlacesLaws.{Ranks, at_rank, count-le, count-lt, length-places, rank_at}
use Rattle.aig_graph.specs.Circuits.{IsNetlist, Netlist}
use Rattle.aig_graph.specs.Keep.{Holding, held_also, held_in, held_of}
use Rattle.aig_graph.proofs.HoldingLaws.{held-below, held-rising}
use Rattle.aig_graph.proofs.SearchLaws.{has_iff_contains}

-- the places of what passes rise
pub places-rising : (p : ℕ → Bool) (n : ℕ) → IsStrictlyIncreasing (places p n)
places-rising p n k h =
    let v : ℕ = get_or (places p n) k 0 in
    let w : ℕ = get_or (places p n) (k + 1) 0 in
    let first : Ranks p n k v = rank_at p n k v (slice_get-get_or (places p n) k 0 (omega arith)) in
    let second : Ranks p n (k + 1) w = rank_at p n (k + 1) w (slice_get-get_or (places p n) (k + 1) 0 h) in
    elim (cases_lt v w) [
      | inl less ↦ less
      | inr more ↦ absurd (omega (arith, count-le p w v more, first.rank, second.rank))
    ]

-- the places below n are below n
pub places-below : (p : ℕ → Bool) (n : ℕ) → All (λ v. v < n) (places p n)
places-below p n k d h = let there : Ranks p n k (get_or (places p n) k d) = rank_at p n k (get_or (places p n) k d) (slice_get-get_or (places p n) k d h) in there.below

-- what passes is among the places
pub places-have : (p : ℕ → Bool) (n v : ℕ) → v < n → p v ≡ true → has (places p n) v ≡ true
places-have p n v h good =
    let k : ℕ = count_below p v in
    let within : k < length (places p n) = omega (arith, count-lt p v n h good, length-places p n) in
    let there : get_or (places p n) k v ≡ v = same_Some (get_or (places p n) k v) v (sym (slice_get-get_or (places p n) k v within) ∙ at_rank p n v h good) in
    (has_iff_contains (places p n) v).1 (k, within, there)

-- a list has its own elements
pub has-own : (xs : List ℕ) → All (λ j. has xs j ≡ true) xs
has-own xs k d h = (has_iff_contains xs (get_or xs k d)).1 (k, h, same_element k d (get_or xs k d) h)
  where
    same_element : (i x y : ℕ) → i < length xs → get_or xs i y ≡ get_or xs i x
    same_element i x y low = let one = slice_get-get_or xs i x low in let other = slice_get-get_or xs i y low in cc

-- if there are positions, what is held with them is what passes one of two tests
pub held_also-some : (held positions : List ℕ) (c : Netlist) → nat_eq (length positions) 0 ≡ false
    → held_also held positions c ≡ places (λ j. has held j || has positions j) (length c.aig.latches)
held_also-some held [] c some = absurd (cc)
held_also-some held (position ∷ positions) c some = refl

-- what is held with positions are positions of latches
pub held_also-below : (held positions : List ℕ) (c : Netlist) → All (λ j. j < length c.aig.latches) held → All (λ j. j < length c.aig.latches) (held_also held positions c)
held_also-below held [] c below = below
held_also-below held (position ∷ positions) c below = places-below (λ j. has held j || has (position ∷ positions) j) (length c.aig.latches)

-- what is held with positions rises
pub held_also-rising : (held positions : List ℕ) (c : Netlist) → IsStrictlyIncreasing held → IsStrictlyIncreasing (held_also held positions c)
held_also-rising held [] c rising = rising
held_also-rising held (position ∷ positions) c rising = places-rising (λ j. has held j || has (position ∷ positions) j) (length c.aig.latches)

-- what was held is held with positions
pub held_also-held : (held positions : List ℕ) (c : Netlist) (j : ℕ) → j < length c.aig.latches → has held j ≡ true → has (held_also held positions c) j ≡ true
held_also-held held [] c j low here = here
held_also-held held (position ∷ positions) c j low here =
    places-have (λ i. has held i || has (position ∷ positions) i) (length c.aig.latches) j low (or_left (has held j) (has (position ∷ positions) j) here)

-- a latch at one of the positions is held
pub held_also-position : (held positions : List ℕ) (c : Netlist) (j : ℕ) → j < length c.aig.latches → has positions j ≡ true → has (held_also held positions c) j ≡ true
held_also-position held [] c j low here = absurd (cc)
held_also-position held (position ∷ positions) c j low here =
    places-have (λ i. has held i || has (position ∷ positions) i) (length c.aig.latches) j low (or_right (has held j) (has (position ∷ positions) j) here)

-- marks of held latches, and then of positions
pub both-marked : (n : ℕ) (held positions : List ℕ) (old new : List Bool) → old ≡ table 0 n (has held) → Marks 0 old new (has positions)
    → new ≡ table 0 n (λ j. has held j || has positions j)
both-marked n held positions old new filled marks =
    let long : length old ≡ n = ap (λ (xs : List Bool). length xs) filled ∙ length-table 0 n (has held) in
    table-from 0 n (λ j. has held j || has positions j) new false (marks.as_long ∙ long) (λ k h.
    let within : k < length old = omega arith in
    marks.each k within ∙ ap (λ (b : Bool). b || has positions (0 + k)) (AreMarks-table 0 n old (has held) filled k within))

-- the held latches are among the circuit's
pub held_of-below : (h : Holding) (c : Netlist) → IsNetlist c → All (λ j. j < length c.aig.latches) (held_of h c)
held_of-below h c netlist = held_also-below (held_in h.names c) h.positions c (held-below h.names c netlist)

-- their positions rise
pub held_of-rising : (h : Holding) (c : Netlist) → IsNetlist c → IsStrictlyIncreasing (held_of h c)
held_of-rising h c netlist = held_also-rising (held_in h.names c) h.positions c (held-rising h.names c.symbols.latches (length c.aig.latches) netlist.symbols.latches)

-- each latch that has one of the names is held
pub held_of-names : (h : Holding) (c : Netlist) → IsNetlist c → All (λ j. has (held_of h c) j ≡ true) (held_in h.names c)
held_of-names h c netlist k d low =
    held_also-held (held_in h.names c) h.positions c (get_or (held_in h.names c) k d) (held-below h.names c netlist k d low) (has-own (held_in h.names c) k d low)

-- each latch at one of the positions is held
pub held_of-positions : (h : Holding) (c : Netlist) → All (λ j. j < length c.aig.latches) h.positions → All (λ j. has (held_of h c) j ≡ true) h.positions
held_of-positions h c within k d low =
    held_also-position (held_in h.names c) h.positions c (get_or h.positions k d) (within k d low) (has-own h.positions k d low)
