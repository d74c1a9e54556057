use Rattle.std.proofs.Common.{ℕ, ◌<◌, ◌≤◌, ◌≡◌, ◌++◌, ◌∙◌, List, length, get_or, refl, arith, ap, sym, subst}
use Rattle.aig_graph.specs.Gates.{Gates, gates_end}
use Rattle.gate_sharing.specs.Copies.{AreShared}
use Rattle.gate_sharing.proofs.CopyLaws.{leaves-shared}
use Rattle.gate_sharing.proofs.copied.leaves_below.Goals as goal

pub returns-clause-within : goal.returns-clause-within
returns-clause-within c = λ k fits.
    let all = c.if-not-are_below.ensures refl in
    let is : c.extend_from_slice.new.self.items ≡ c.args.lits.now = c.in_ok-extend_from_slice.ensures.items ∙ ap (λ (xs : List ℕ). xs ++ c.args.lits.now) c.new-literals.ensures.items in
    subst (λ (xs : List ℕ). AreShared k (record { first = c.args.first; literals = xs })) (sym is)
    (leaves-shared k (record { first = c.args.first; literals = c.args.lits.now }) (omega (arith, fits, c.requires)) (λ j less. omega (arith, all j 0 less, fits)))
