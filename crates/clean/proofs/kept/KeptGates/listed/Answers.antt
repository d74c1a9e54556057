use Rattle.std.proofs.Common.{ℕ, ◌≡◌, ◌∙◌, ◌+◌, ◌-◌, ◌*◌, arith, ap, sym, Some, get_or, refl, subst}
use Rattle.std.proofs.lemmas.Bool.{cond-true, cond-false}
use Rattle.aig_graph.specs.declared.graph.Gate.{Gate}
use Rattle.aig_graph.specs.Graph.{variable}
use Rattle.cleaned_circuits.specs.Merged.{same_fan_ins}
use Rattle.clean.specs.Kept.{Kept, AreKept, last_of}
use Rattle.clean.proofs.KeptLaws.{last-few, list-start, link-back, list-next, back-read, walk, walk-none}
use Rattle.clean.proofs.kept.KeptGates.listed.Goals as goal

pub loop-link-init : goal.loop-link-init
loop-link-init c =
    let k : Kept = c.args.self.now in
    let kept : AreKept k = subst AreKept c.self.view_is c.self.invariant in
    let at : c.last_of-link.result ≡ last_of k (variable c.args.gate.rhs0) = c.last_of-link.ensures ∙ ap (last_of k) c.var.ensures.variable in
    record {
      within = omega (arith, at, last-few k kept (variable c.args.gate.rhs0));
      rest = list-start k kept c.args.gate c.last_of-link.result at;
    }

pub returns : goal.returns
returns c =
    let k : Kept = c.args.self.now in
    sym (walk-none k.gates k.before k.own c.args.gate c.loop-link.link (omega (arith, c.loop-link-test.false))) ∙ c.loop-link.invariant.rest

pub returns-then-eq : goal.returns-then-eq
returns-then-eq c =
    let k : Kept = c.args.self.now in
    let kept : AreKept k = subst AreKept c.self.view_is c.self.invariant in
    let link : ℕ = c.loop-link.link in
    let x : Gate = c.index.result.now in
    let read : x ≡ get_or k.gates (link - 2) x = c.index.ensures ∙ ap (λ (j : Kept). get_or j.gates (link - 2) x) c.self.view_is in
    let lit : c.new.result ≡ 2 * (k.own + (link - 2)) = omega (arith, c.new.ensures, ap (λ (j : Kept). j.own) c.self.view_is) in
    let b : ℕ = get_or k.before (link - 2) 0 in
    sym (cond-true (same_fan_ins c.args.gate x) (Some c.new.result) (walk k.gates k.before k.own c.args.gate b) (sym c.eq.ensures ∙ c.if-eq.true))
    ∙ sym (list-next k kept link c.loop-link-test.true c.loop-link.invariant.within c.args.gate x b c.new.result read (back-read k kept link c.loop-link-test.true c.loop-link.invariant.within) lit)
    ∙ c.loop-link.invariant.rest

pub loop-link-preserved : goal.loop-link-preserved
loop-link-preserved c =
    let k : Kept = c.args.self.now in
    let kept : AreKept k = subst AreKept c.self.view_is c.self.invariant in
    let link : ℕ = c.loop-link.link in
    let x : Gate = c.index.result.now in
    let b : ℕ = c.index-link.result.now in
    let lit : ℕ = 2 * (k.own + (link - 2)) in
    let read : x ≡ get_or k.gates (link - 2) x = c.index.ensures ∙ ap (λ (j : Kept). get_or j.gates (link - 2) x) c.self.view_is in
    let read_link : b ≡ get_or k.before (link - 2) b = c.index-link.ensures ∙ ap (λ (j : Kept). get_or j.before (link - 2) b) c.self.view_is in
    record {
      within = omega (arith, link-back k kept link c.loop-link-test.true c.loop-link.invariant.within b read_link, c.loop-link.invariant.within);
      rest =
          sym (cond-false (same_fan_ins c.args.gate x) (Some lit) (walk k.gates k.before k.own c.args.gate b) (sym c.eq.ensures ∙ c.if-eq.false))
          ∙ sym (list-next k kept link c.loop-link-test.true c.loop-link.invariant.within c.args.gate x b lit read read_link refl)
          ∙ c.loop-link.invariant.rest;
    }
