-- Outputs that stand for free latches, latch by latch.
use Rattle.std.proofs.Common.{ℕ, suc, zero, ◌+◌, ◌-◌, ◌/◌, ◌%◌, ◌<◌, ◌≤◌, ◌≡◌, ◌↔◌, ◌&&◌, Bool, true, false, IsTrue, Option, List, [], ◌∷◌, ◌++◌, length, take, get_or, slice_get, Some, if◌then◌else◌, refl, arith, ap, sym, ◌∙◌}
use Rattle.std.specs.List.{All}
use Rattle.std.specs.List.Sorted.{IsStrictlyIncreasing}
use Rattle.std.proofs.lemmas.List.{append-nil}
use Rattle.std.proofs.lemmas.Option.{none-some, same_Some}
use Rattle.aig_graph.specs.declared.graph.Latch.{Latch}
use Rattle.aig_graph.specs.Circuits.{Netlist}
use Rattle.aig_graph.specs.Graph.{Graph, first_latch, is_free, is_free_latch, latch_at}
use Rattle.aig_graph.proofs.KindLaws.{latch_at-first_latch}
use Rattle.state_maps.specs.MapCircuits.{FreeStay, IsFreeInput, free_outputs}

put-first : (b : Bool) (x : ℕ) (xs ys zs : List ℕ) → xs ≡ ys ++ zs → (if b then x ∷ xs else xs) ≡ (if b then x ∷ ys else ys) ++ zs
put-first true x xs ys zs e = ap (λ (ls : List ℕ). x ∷ ls) e
put-first false x xs ys zs e = e

-- one more latch
free-suc : (latches : List Latch) (lits : List ℕ) (k : ℕ) (latch : Latch) → slice_get latches k ≡ Some latch → k < length lits
    → free_outputs (take (suc k) latches) (take (suc k) lits) ≡ free_outputs (take k latches) (take k lits) ++ free_outputs (latch ∷ []) (get_or lits k 0 ∷ [])
free-suc [] lits k latch there less = absurd (none-some latch there)
free-suc (l ∷ ls) [] k latch there less = absurd (omega (arith, less))
free-suc (l ∷ ls) (x ∷ xs) zero latch there less = ap (λ (q : Latch). free_outputs (q ∷ []) (x ∷ [])) (same_Some l latch there)
free-suc (l ∷ ls) (x ∷ xs) (suc k) latch there less =
    put-first (is_free l) x (free_outputs (take (suc k) ls) (take (suc k) xs)) (free_outputs (take k ls) (take k xs)) (free_outputs (latch ∷ []) (get_or xs k 0 ∷ []))
    (free-suc ls xs k latch there (omega (arith, less)))

only-free : (b : Bool) (x : ℕ) → b ≡ true → (if b then x ∷ [] else []) ≡ x ∷ []
only-free true x e = refl
only-free false x e = absurd (cc)

only-known : (b : Bool) (x : ℕ) → b ≡ false → (if b then x ∷ [] else []) ≡ []
only-known true x e = absurd (cc)
only-known false x e = refl

module _ (latches : List Latch) (lits : List ℕ) (k : ℕ) (latch : Latch) (there : slice_get latches k ≡ Some latch) (less : k < length lits) where
  next : free_outputs (take (k + 1) latches) (take (k + 1) lits) ≡ free_outputs (take k latches) (take k lits) ++ free_outputs (latch ∷ []) (get_or lits k 0 ∷ [])
  next =
      let at : k + 1 ≡ suc k = omega arith in
      ap (λ (n : ℕ). free_outputs (take n latches) (take n lits)) at ∙ free-suc latches lits k latch there less

  -- if latch k is free, the outputs for free latches among the first k + 1 are those among the
  -- first k, then output k
  pub free-more : (old new : List ℕ) (lit : ℕ) → is_free latch ≡ true → lit ≡ get_or lits k 0 → old ≡ free_outputs (take k latches) (take k lits) → new ≡ old ++ lit ∷ []
      → new ≡ free_outputs (take (k + 1) latches) (take (k + 1) lits)
  free-more old new lit free here before pushed =
      pushed ∙ ap (λ (ls : List ℕ). ls ++ lit ∷ []) before
      ∙ ap (λ (l : ℕ). free_outputs (take k latches) (take k lits) ++ l ∷ []) here
      ∙ ap (λ (ls : List ℕ). free_outputs (take k latches) (take k lits) ++ ls) (sym (only-free (is_free latch) (get_or lits k 0) free))
      ∙ sym next

  -- if latch k isn't free, the outputs for free latches among the first k + 1 are those among the
  -- first k
  pub known-more : (old : List ℕ) → is_free latch ≡ false → old ≡ free_outputs (take k latches) (take k lits) → old ≡ free_outputs (take (k + 1) latches) (take (k + 1) lits)
  known-more old known before =
      before ∙ sym (append-nil (free_outputs (take k latches) (take k lits)))
      ∙ ap (λ (ls : List ℕ). free_outputs (take k latches) (take k lits) ++ ls) (sym (only-known (is_free latch) (get_or lits k 0) known))
      ∙ sym next

-- whether a literal is that of an input that stands for a free latch
pub free-input : (g : Graph) (code : ℕ) (o : Option Latch) (b : Bool) → 2 ≤ code → (code % 2 ≡ 1 → ⊥) → o ≡ latch_at g (g.inputs + code / 2) → b ≡ is_free_latch o → IsTrue b ↔ IsFreeInput g code
free-input g code o b two even here is =
    let k : ℕ = code / 2 - 1 in
    let place : g.inputs + code / 2 ≡ first_latch g + (code / 2 - 1) = omega (arith, two) in
    let there : o ≡ slice_get g.latches (code / 2 - 1) = here ∙ ap (latch_at g) place ∙ latch_at-first_latch g (code / 2 - 1) in
    let value : b ≡ is_free_latch (slice_get g.latches (code / 2 - 1)) = is ∙ ap is_free_latch there in (
      λ holds. record { place = k; is = omega (arith, two, even); free = sym value ∙ holds },
      λ free.
          let same : code / 2 - 1 ≡ free.place = omega (arith, free.is) in
          value ∙ ap (λ (n : ℕ). is_free_latch (slice_get g.latches n)) same ∙ free.free,
    )

-- both tests together
pub stay-says : (c d m : Netlist) (are rising both : Bool) → IsTrue are ↔ All (IsFreeInput c.aig) (free_outputs d.aig.latches m.props.outputs)
    → IsTrue rising ↔ IsStrictlyIncreasing (free_outputs d.aig.latches m.props.outputs) → both ≡ (are && rising) → IsTrue both ↔ FreeStay c d m
stay-says c d m are rising both first second is = (
  λ holds.
      let parts = each are rising (sym is ∙ holds) in
      record { are = first.0 parts.0; rising = second.0 parts.1 },
  λ stay. is ∙ ap (λ (t : Bool). t && rising) (first.1 stay.are) ∙ second.1 stay.rising,
)
  where
    each : (a b : Bool) → (a && b) ≡ true → (a ≡ true) × (b ≡ true)
    each true b h = (refl, h)
    each false b h = absurd (cc)
