use Rattle.std.proofs.Common.{ℕ, ◌+◌, ◌∙◌, List, ap, sym, subst}
use Rattle.aig_graph.specs.declared.properties.Symbol.{Symbol}
use Rattle.aig_graph.specs.Circuits.{AreNamesBelow}
use Rattle.sealed_drafts.proofs.NameLaws.{names-more, names-wider}
use Rattle.sealed_drafts.proofs.names.latch_names.Goals as goal
use Rattle.sealed_drafts.proofs.names.latch_names.Goals.{in-Some+in_ok-at+in_ok-push, in_default}

pub loop-place-preserved : goal.loop-place-preserved
loop-place-preserved c =
    let k : ℕ = c.loop-place.place in
    elim c.match-named.branch [
      | in-Some+in_ok-at+in_ok-push w ↦
          subst (λ (xs : List Symbol). AreNamesBelow (k + 1) xs) (sym (ap (λ v. v.items) w.own-is ∙ w.in_ok-push.ensures.items))
          (names-more k c.loop-place.own.items w.in_ok-at.field-0 c.loop-place.invariant (ap (λ (s : Symbol). s.position) w.in_ok-at.ensures))
      | in_default w ↦
          subst (λ (xs : List Symbol). AreNamesBelow (k + 1) xs) (sym (ap (λ v. v.items) w.own-is)) (names-wider k c.loop-place.own.items c.loop-place.invariant)
    ]
