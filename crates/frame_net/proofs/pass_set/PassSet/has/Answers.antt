use Rattle.std.proofs.Common.{◌≡◌, ◌∙◌, Bool, List, ap, sym, subst, IsTrue}
use Rattle.aig_graph.specs.Marking.{mark_at}
use Rattle.frame_net.specs.Passable.{is_passable}
use Rattle.frame_net.proofs.PassableLaws.{passable-means, has-passable}
use Rattle.frame_net.proofs.pass_set.PassSet.has.Goals as goal

pub returns-clause-passable : goal.returns-clause-passable
returns-clause-passable c = λ g held pass.
    let is : c.mark_at.result ≡ is_passable g held c.args.var =
    c.mark_at.ensures ∙ (ap (λ (marks : List Bool). mark_at c.args.self.now.first marks c.args.var) c.as_slice.ensures.value ∙ has-passable g held c.args.self.now.first c.args.self.now.marks.items c.args.var pass.first pass.marks) in (
      (λ t. (passable-means g held c.args.var).0 (subst (λ (b : Bool). IsTrue b) is t)),
      (λ p. subst (λ (b : Bool). IsTrue b) (sym is) ((passable-means g held c.args.var).1 p)),
    )
