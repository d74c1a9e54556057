use Rattle.std.proofs.Common.{ℕ, ◌<◌, ◌+◌, ◌≡◌, ◌∙◌, Bool, List, arith, ap, sym, subst, length, get_or, map}
use Rattle.std.proofs.lemmas.List.{get_or_default, take_all}
use Rattle.aig_graph.specs.declared.graph.Gate.{Gate}
use Rattle.aig_graph.specs.Graph.{variable}
use Rattle.cleaned_circuits.specs.Merged.{replaced_gate}
use Rattle.cleaned_circuits.specs.Trimmed.{picked}
use Rattle.clean.specs.Kept.{no_gate}
use Rattle.clean.specs.Sweep.{is_marked}
use Rattle.clean.proofs.CloseLaws.{IsClosing, closing-none, closing-kept, closing-left, read-at}
use Rattle.clean.proofs.trim.close_gates.Goals as goal
use Rattle.clean.proofs.trim.close_gates.Goals.{then-has, else-has}

pub loop-place-init : goal.loop-place-init
loop-place-init c = closing-none c.args.literals.now (is_marked c.args.reached.now) c.args.first c.args.gates.now

pub gate-requires-clause-first : goal.gate-requires-clause-first
gate-requires-clause-first c =
    let read : List Gate = c.args.gates.now in
    let place : ℕ = c.loop-place.place in
    let gate : Gate = c.index-gates-place.result in
    let within : place < length read = omega (arith, c.loop-place-test.true) in
    let at : gate ≡ get_or read place gate =
    read-at c.args.literals.now (is_marked c.args.reached.now) c.args.first read c.loop-place.gates c.loop-place.kept place c.loop-place.invariant within gate c.index-gates-place.is in
    subst (λ (g : Gate). variable g.rhs0 < length c.args.literals.now) (sym at) (c.requires.larger place gate within)

pub gate-requires-clause-second : goal.gate-requires-clause-second
gate-requires-clause-second c =
    let read : List Gate = c.args.gates.now in
    let place : ℕ = c.loop-place.place in
    let gate : Gate = c.index-gates-place.result in
    let within : place < length read = omega (arith, c.loop-place-test.true) in
    let at : gate ≡ get_or read place gate =
    read-at c.args.literals.now (is_marked c.args.reached.now) c.args.first read c.loop-place.gates c.loop-place.kept place c.loop-place.invariant within gate c.index-gates-place.is in
    subst (λ (g : Gate). variable g.rhs1 < length c.args.literals.now) (sym at) (c.requires.smaller place gate within)

pub loop-place-preserved : goal.loop-place-preserved
loop-place-preserved c =
    let read : List Gate = c.args.gates.now in
    let s : ℕ → Bool = is_marked c.args.reached.now in
    let place : ℕ = c.loop-place.place in
    let within : place < length read = omega (arith, c.loop-place-test.true) in
    elim c.if-has.branch [
      | then-has w ↦ (
          let P : ℕ → Type 0 = λ n. IsClosing c.args.literals.now s c.args.first read c.if-has.gates n (place + 1) in
          subst P (sym w.kept-is)
          (closing-kept c.args.literals.now s c.args.first read c.loop-place.gates c.loop-place.kept place c.loop-place.invariant within w.index-gates-place.result w.index-gates-place.is c.if-has.gates w.gate.result
          (sym c.has.ensures ∙ w.if-has.true) w.gate.ensures w.gates-is))
      | else-has w ↦ (
          let P : ℕ → Type 0 = λ n. IsClosing c.args.literals.now s c.args.first read c.if-has.gates n (place + 1) in
          let Q : List Gate → Type 0 = λ xs. IsClosing c.args.literals.now s c.args.first read xs c.loop-place.kept (place + 1) in
          subst P (sym w.kept-is)
          (subst Q (sym w.gates-is)
          (closing-left c.args.literals.now s c.args.first read c.loop-place.gates c.loop-place.kept place c.loop-place.invariant within (get_or c.loop-place.gates place no_gate)
          (get_or_default c.loop-place.gates place no_gate (get_or c.loop-place.gates place no_gate) (omega (arith, within, c.loop-place.invariant.long))) (sym c.has.ensures ∙ w.if-has.false))))
    ]

pub returns-clause-gates : goal.returns-clause-gates
returns-clause-gates c =
    let read : List Gate = c.args.gates.now in
    let s : ℕ → Bool = is_marked c.args.reached.now in
    c.loop-place.invariant.front
    ∙ ap (λ (xs : List Gate). map (replaced_gate c.args.literals.now) (picked s c.args.first xs)) (take_all c.loop-place.place read (omega (arith, c.loop-place-test.false)))
