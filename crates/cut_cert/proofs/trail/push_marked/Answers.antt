use Rattle.std.proofs.Common.{◌∙◌, ap, subst, sym, true, set, length, reverse}
use Rattle.aig_graph.proofs.ListLaws.{reverse-push}
use Rattle.cut_cert.specs.Walks.{AreOn}
use Rattle.cut_cert.proofs.TrailLaws.{on-push}
use Rattle.cut_cert.proofs.trail.push_marked.Goals as goal

pub returns-clause-on : goal.returns-clause-on
returns-clause-on c =
    subst (AreOn (length c.args.marks.now) (set c.args.marks.now c.args.node true)) (sym (ap reverse c.in_ok-push.ensures.items ∙ reverse-push c.args.nodes.now.items c.args.node))
    (on-push (length c.args.marks.now) c.args.marks.now (reverse c.args.nodes.now.items) c.args.node c.requires.within c.requires.new c.requires.on)
