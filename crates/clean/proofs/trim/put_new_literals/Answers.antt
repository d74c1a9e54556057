use Rattle.std.proofs.Common.{rules, ◌≡◌, ◌≤◌, ◌*◌, ◌∙◌, ap, sym, subst, arith, ℕ, List, Bool, length}
use Rattle.aig_graph.specs.Graph.{Graph, first_latch, variables_end}
use Rattle.aig_graph.specs.Tables.{table}
use Rattle.aig_graph.proofs.TableLaws.{length-table}
use Rattle.cleaned_circuits.specs.Trimmed.{new_variable}
use Rattle.cleaned_circuits.proofs.TrimmedLaws.{new-low}
use Rattle.clean.specs.Substitutions.{own_literals}
use Rattle.clean.specs.Sweep.{is_marked}
use Rattle.clean.proofs.TrimLaws.{new-start, new-more, new-next, new-end, new-bound}
use Rattle.clean.proofs.trim.put_new_literals.Goals as goal

pub loop-var-init : goal.loop-var-init
loop-var-init c =
    let g : Graph = c.args.aig.now in
    let s : ℕ → Bool = is_marked c.args.reached.now in
    let first : c.first_latch-first.result ≡ first_latch g = c.first_latch-first.ensures.value in
    record {
      literals = subst (λ (n : ℕ). c.renew.new.self ≡ table 0 n (λ v. 2 * new_variable g s v)) (sym first)
          (new-start g s c.renew.new.self (c.in_ok-renew.ensures ∙ ap own_literals first));
      next = first ∙ sym (new-low g s (first_latch g) (omega arith)) ∙ ap (new_variable g s) (sym first);
    }

pub new-requires : goal.new-requires
new-requires c =
    let g : Graph = c.args.aig.now in
    omega (arith, c.loop-var.invariant.next, new-bound g (is_marked c.args.reached.now) c.loop-var.var, c.loop-var-test.true, c.variables-var-end.ensures.value, c.first_latch-first.ensures.graph.small)

pub push-requires : goal.push-requires
push-requires c =
    let g : Graph = c.args.aig.now in
    omega (
      arith,
      ap (λ (xs : List ℕ). length xs) c.loop-var.invariant.literals,
      length-table 0 c.loop-var.var (λ v. 2 * new_variable g (is_marked c.args.reached.now) v),
      c.loop-var-test.true,
      c.variables-var-end.ensures.value,
      c.first_latch-first.ensures.graph.small,
    )

pub loop-var-preserved : goal.loop-var-preserved
loop-var-preserved c =
    let g : Graph = c.args.aig.now in
    let s : ℕ → Bool = is_marked c.args.reached.now in
    let from : first_latch g ≤ c.loop-var.var = omega (arith, c.loop-var.auto.var, c.first_latch-first.ensures.value) in
    let lit : c.new.result ≡ 2 * new_variable g s c.loop-var.var = omega (arith, c.new.ensures, c.loop-var.invariant.next) in
    record {
      literals = new-more g s c.loop-var.var c.new.result c.loop-var.literals c.push.new.self c.loop-var.invariant.literals c.in_ok-push.ensures lit;
      next = new-next g s c.loop-var.var c.loop-var.next c.from-next.result c.has.result from c.loop-var.invariant.next c.has.ensures (search rules);
    }

pub returns : goal.returns
returns c =
    let g : Graph = c.args.aig.now in
    let end : c.loop-var.var ≡ variables_end g =
    omega (arith, c.loop-var-test.false, c.loop-var.auto.var-end, c.variables-var-end.ensures.value, c.first_latch-first.ensures.value) in
    new-end g (is_marked c.args.reached.now) c.loop-var.var c.loop-var.literals end c.loop-var.invariant.literals
