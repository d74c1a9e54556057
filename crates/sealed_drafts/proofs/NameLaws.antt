-- Names that are put one after another.
use Rattle.std.proofs.Common.{ℕ, ◌+◌, ◌<◌, ◌≡◌, ◌++◌, List, [], ◌∷◌, length, get_or, map, arith, sym, subst}
use Rattle.std.specs.List.Sorted.{IsStrictlyIncreasing}
use Rattle.std.proofs.lemmas.List.{get_or-map, length-map, map-append}
use Rattle.std.proofs.lemmas.List.Elements.{All-append, All-cons, All-nil, All-weaker}
use Rattle.aig_graph.specs.declared.properties.Symbol.{Symbol}
use Rattle.aig_graph.specs.Circuits.{AreNamesBelow}
use Rattle.map_checks.proofs.StartLaws.{push-rising}

abbrev places : List Symbol → List ℕ
places names = map (λ s. s.position) names

-- no names
pub names-none : AreNamesBelow 0 []
names-none = record { rising = λ k less. absurd (omega (arith, less)); below = λ k a less. absurd (omega (arith, less)) }

-- names below a bound are below a greater one
pub names-wider : (n : ℕ) (names : List Symbol) → AreNamesBelow n names → AreNamesBelow (n + 1) names
names-wider n names are = record {
  rising = are.rising;
  below = All-weaker (λ (s : Symbol). s.position < n) (λ (s : Symbol). s.position < n + 1) (λ s below. omega (arith, below)) names are.below;
}

-- a name at the bound
pub names-more : (n : ℕ) (names : List Symbol) (s : Symbol) → AreNamesBelow n names → s.position ≡ n → AreNamesBelow (n + 1) (names ++ s ∷ [])
names-more n names s are at = record {
  rising =
      subst (λ (xs : List ℕ). IsStrictlyIncreasing xs) (sym (map-append (λ (t : Symbol). t.position) names (s ∷ [])))
      (push-rising (places names) s.position are.rising
      (λ k less.
      let short : k < length names = omega (arith, less, length-map names (λ (t : Symbol). t.position)) in
      let is : get_or (places names) k 0 ≡ (get_or names k s).position = get_or-map (λ (t : Symbol). t.position) names k s 0 short in
      omega (arith, is, are.below k s short, at)));
  below = All-append (λ (t : Symbol). t.position < n + 1) names (s ∷ []) (names-wider n names are).below
      (All-cons (λ (t : Symbol). t.position < n + 1) s [] (omega (arith, at)) (All-nil (λ (t : Symbol). t.position < n + 1)));
}
