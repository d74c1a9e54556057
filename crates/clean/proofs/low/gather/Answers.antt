use Rattle.std.proofs.Common.{◌≡◌, ◌∙◌, ℕ, ◌+◌, ◌<◌, ◌≤◌, Some, None, slice_get, refl, arith, ap, sym, subst, length, List, Bool, true}
use Rattle.aig_graph.specs.declared.graph.Gate.{Gate}
use Rattle.std.specs.Map.{lookup}
use Rattle.aig_graph.specs.Graph.{variable}
use Rattle.cleaned_circuits.specs.Merged.{same_fan_ins}
use Rattle.std.proofs.lemmas.Option.{slice_get_read}
use Rattle.clean.specs.Gathered.{is_plain, AreGathered, AreMarked, by_gate}
use Rattle.clean.proofs.GatherLaws.{gathered-more, gathered-skip, marked-more, none-where, spoilt-pair}
use Rattle.clean.proofs.low.gather.Goals as goal
use Rattle.clean.proofs.low.gather.Goals.{then-var-start+else-not-is_plain+else-is_among+in_ok-add, else-var-start, then-not-is_plain-via-then-not-is_plain, then-not-is_plain-via-else-not-is_plain+then-is_among}

pub loop-gate-preserved : goal.loop-gate-preserved
loop-gate-preserved c =
    let copies : List Gate = c.args.copies.now in
    let k : ℕ = c.loop-gate.gate-index in
    let gate : Gate = c.gate-item.result in
    let there : slice_get copies k ≡ Some gate = slice_get_read copies (length copies) k gate refl c.loop-gate-test.true c.gate-item.is in
    elim c.if-var-start.branch [
      | then-var-start+else-not-is_plain+else-is_among+in_ok-add w ↦ (
          let low : variable gate.rhs1 < c.args.start = omega (arith, w.if-var-start.true, c.var.ensures.variable) in
          let plain : is_plain gate ≡ true = sym w.is_plain.ensures ∙ w.if-not-is_plain.false in
          let none : lookup (same_fan_ins gate) c.loop-gate.pairs ≡ None = none-where (lookup (same_fan_ins gate) c.loop-gate.pairs) (sym w.is_among.ensures ∙ w.if-is_among.false) in
          let P : List (Gate × ℕ) → Type 0 = λ pairs. AreGathered copies c.args.start (k + 1) pairs in
          let pairs_are = w.pairs-is ∙ w.in_ok-add.ensures in
          record {
            gathered = subst P (sym pairs_are) (gathered-more copies c.args.start k gate c.loop-gate.pairs there low plain none c.loop-gate.invariant.gathered);
            marked = subst (λ (marks : List Bool). AreMarked c.if-var-start.pairs marks) (sym w.marks-is)
                (subst (λ (pairs : List (Gate × ℕ)). AreMarked pairs w.mark_variable.new.marks) (sym pairs_are)
                (marked-more c.loop-gate.pairs c.loop-gate.marks w.mark_variable.new.marks gate w.var-then-var-start.result w.var-then-var-start.ensures.variable
                (omega (arith, low, w.var-then-var-start.ensures.variable, c.loop-gate.invariant.long)) w.mark_variable.ensures c.loop-gate.invariant.marked));
            long = ap (λ (marks : List Bool). length marks) w.marks-is ∙ w.mark_variable.ensures.as_long ∙ c.loop-gate.invariant.long;
          })
      | else-var-start w ↦ (
          let high : c.args.start ≤ variable gate.rhs1 = omega (arith, w.if-var-start.false, c.var.ensures.variable) in
          let P : List (Gate × ℕ) → Type 0 = λ pairs. AreGathered copies c.args.start (k + 1) pairs in
          record {
            gathered = subst P (sym w.pairs-is) (gathered-skip copies c.args.start k gate c.loop-gate.pairs there high c.loop-gate.invariant.gathered);
            marked = subst (λ (marks : List Bool). AreMarked c.if-var-start.pairs marks) (sym w.marks-is)
                (subst (λ (pairs : List (Gate × ℕ)). AreMarked pairs c.loop-gate.marks) (sym w.pairs-is) c.loop-gate.invariant.marked);
            long = ap (λ (marks : List Bool). length marks) w.marks-is ∙ c.loop-gate.invariant.long;
          })
    ]

pub returns-then-not-is_plain-clause-no : goal.returns-then-not-is_plain-clause-no
returns-then-not-is_plain-clause-no c = λ no.
    let copies : List Gate = c.args.copies.now in
    let k : ℕ = c.loop-gate.gate-index in
    let gate : Gate = c.gate-item.result in
    let there : slice_get copies k ≡ Some gate = slice_get_read copies (length copies) k gate refl c.loop-gate-test.true c.gate-item.is in
    let low : variable gate.rhs1 < c.args.start = omega (arith, c.if-var-start.true, c.var.ensures.variable) in
    elim c.then-not-is_plain.branch [
      | then-not-is_plain-via-then-not-is_plain w ↦ by_gate k gate there low (sym c.is_plain.ensures ∙ w.if-not-is_plain.true)
      | then-not-is_plain-via-else-not-is_plain+then-is_among w ↦
          spoilt-pair copies c.args.start k gate c.loop-gate.pairs there (sym w.is_among.ensures ∙ w.if-is_among.true) c.loop-gate.invariant.gathered
    ]
