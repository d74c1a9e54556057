use Rattle.std.proofs.Common.{ℕ, Bool, ◌≡◌, ◌∙◌, inl, inr, Some, arith, ap, sym, refl, subst, length, slice_get}
use Rattle.std.proofs.lemmas.Bool.{cases_lt}
use Rattle.std.proofs.lemmas.Option.{same_Some, slice_get_read, slice_get_within}
use Rattle.aig_graph.specs.declared.properties.Symbol.{Symbol}
use Rattle.witness_circuits.specs.Naming.{IsSaying, Tells}
use Rattle.witness_circuits.proofs.naming.any_says.Goals as goal

pub loop-name-init : goal.loop-name-init
loop-name-init c = λ j name less. absurd (omega (arith, less))

pub loop-name-preserved : goal.loop-name-preserved
loop-name-preserved c = λ j name less there saying.
    let k : ℕ = c.loop-name.name-index in
    let item : Symbol = c.name-item.result in
    let here : slice_get c.args.names.now k ≡ Some item = slice_get_read c.args.names.now (length c.args.names.now) k item refl c.loop-name-test.true c.name-item.is in
    let silent : IsSaying item.name → ⊥ = subst (λ (b : Bool). Tells item b) c.if-says.false c.says.ensures in
    elim (cases_lt j k) [
      | inl before ↦ c.loop-name.invariant j name before there saying
      | inr past ↦ (
          let last : j ≡ k = omega (arith, past, less) in
          let same : name ≡ item = same_Some name item (sym there ∙ ap (slice_get c.args.names.now) last ∙ here) in
          silent (subst (λ (s : Symbol). IsSaying s.name) same saying))
    ]

pub returns-then-says : goal.returns-then-says
returns-then-says c =
    let k : ℕ = c.loop-name.name-index in
    let item : Symbol = c.name-item.result in
    let here : slice_get c.args.names.now k ≡ Some item = slice_get_read c.args.names.now (length c.args.names.now) k item refl c.loop-name-test.true c.name-item.is in
    (k, item, here, subst (λ (b : Bool). Tells item b) c.if-says.true c.says.ensures)

pub returns : goal.returns
returns c = λ j name there saying. c.loop-name.invariant j name (omega (arith, c.loop-name-test.false, slice_get_within c.args.names.now j name there)) there saying
