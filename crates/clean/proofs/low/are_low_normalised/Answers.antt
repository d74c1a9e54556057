use Rattle.std.proofs.Common.{◌≡◌, ℕ, ◌+◌, ◌-◌, ap, sym, subst, length, List, Bool, true, false, refl}
use Rattle.aig_graph.specs.declared.graph.Gate.{Gate}
use Rattle.aig_graph.specs.Graph.{Graph, first_gate}
use Rattle.clean.specs.Normalised.{AreLowNormalised}
use Rattle.clean.proofs.GatherLaws.{shared-sliced, spoilt-sliced, normalised-sliced}
use Rattle.clean.proofs.low.are_low_normalised.Goals as goal

-- a test that is no if it isn't so
yes_where : {A : Type 0} (b : Bool) → (b ≡ false → A → ⊥) → A → b ≡ true
yes_where true fails a = refl
yes_where false fails a = absurd (fails refl a)

pub returns-then-branch : goal.returns-then-branch
returns-then-branch c =
    let g : Graph = c.args.aig.now in
    let gates : List Gate = c.gates-gates.result.now in
    let first : ℕ = length gates - c.args.copies in
    let start : ℕ = c.first_gate.result + first in
    let same : gates ≡ g.gates = c.gates-gates.ensures.value in
    let starts : start ≡ first_gate g + first = ap (λ (n : ℕ). n + first) c.first_gate.ensures.value in
    let gathered = c.in_ok-gather.ensures.yes c.if-branch.true in
    let P : List Gate → Type 0 = λ xs. AreLowNormalised g (length xs - c.args.copies) in (
      λ yes. subst P same (normalised-sliced g gates first start c.gather.new.pairs same starts gathered (c.are_new.ensures.yes yes)),
      λ normalised. yes_where c.are_new.result (λ no low. shared-sliced g gates first start c.gather.new.pairs same starts gathered (c.are_new.ensures.no no) low) (subst P (sym same) normalised),
    )

pub returns : goal.returns
returns c =
    let g : Graph = c.args.aig.now in
    let gates : List Gate = c.gates-gates.result.now in
    let first : ℕ = length gates - c.args.copies in
    let start : ℕ = c.first_gate.result + first in
    let same : gates ≡ g.gates = c.gates-gates.ensures.value in
    let starts : start ≡ first_gate g + first = ap (λ (n : ℕ). n + first) c.first_gate.ensures.value in
    let P : List Gate → Type 0 = λ xs. AreLowNormalised g (length xs - c.args.copies) in (
      λ yes. absurd (cc),
      λ normalised. absurd (spoilt-sliced g gates first start same starts (c.in_ok-gather.ensures.no c.if-branch.false) (subst P (sym same) normalised)),
    )
