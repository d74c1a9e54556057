use Rattle.std.proofs.Common.{◌≡◌, ◌+◌, ◌-◌, ◌*◌, ◌∙◌, ap, arith, ℕ, List, Bool, length}
use Rattle.aig_graph.specs.Graph.{Graph, first_latch, variable}
use Rattle.cleaned_circuits.specs.Trimmed.{new_variable}
use Rattle.cleaned_circuits.proofs.TrimmedLaws.{new-from}
use Rattle.clean.specs.Sweep.{is_marked}
use Rattle.clean.proofs.TrimLaws.{length-new_literals, position-new}
use Rattle.clean.proofs.trim.Trim.new_position.Goals as goal

pub literal-requires : goal.literal-requires
literal-requires c =
    let g : Graph = c.args.self.now.aig.now in
    omega (
      arith,
      c.new.ensures,
      c.requires,
      c.first_latch-first.ensures.value,
      ap (λ (xs : List ℕ). length xs) c.args.self.now.renumbers,
      length-new_literals g (is_marked c.args.self.now.reached.now),
    )

pub overflow_sub-result : goal.overflow_sub-result
overflow_sub-result c =
    let g : Graph = c.args.self.now.aig.now in
    let s : ℕ → Bool = is_marked c.args.self.now.reached.now in
    let at : c.new.result ≡ 2 * (first_latch g + c.args.position) = omega (arith, c.new.ensures, c.first_latch-first.ensures.value) in
    let is : c.var.result ≡ new_variable g s (first_latch g + c.args.position) =
    position-new g s c.args.self.now.literals.now c.new.result c.args.position c.var.result c.args.self.now.renumbers at c.requires (c.var.ensures.variable ∙ ap variable c.literal.ensures) in
    omega (arith, is, new-from g s (first_latch g + c.args.position) (omega arith), c.first_latch-first.ensures.value)

pub returns : goal.returns
returns c =
    let g : Graph = c.args.self.now.aig.now in
    let s : ℕ → Bool = is_marked c.args.self.now.reached.now in
    let at : c.new.result ≡ 2 * (first_latch g + c.args.position) = omega (arith, c.new.ensures, c.first_latch-first.ensures.value) in
    let is : c.var.result ≡ new_variable g s (first_latch g + c.args.position) =
    position-new g s c.args.self.now.literals.now c.new.result c.args.position c.var.result c.args.self.now.renumbers at c.requires (c.var.ensures.variable ∙ ap variable c.literal.ensures) in
    ap (λ (v : ℕ). v - c.first_latch-first.result) is ∙ ap (λ (n : ℕ). new_variable g s (first_latch g + c.args.position) - n) c.first_latch-first.ensures.value
