use Rattle.std.proofs.Common.{◌∙◌, ap, subst, length, reverse}
use Rattle.aig_graph.proofs.ListLaws.{reverse-push}
use Rattle.cut_cert.specs.Walks.{AreOn}
use Rattle.cut_cert.proofs.TrailLaws.{first-in, on-pop}
use Rattle.cut_cert.proofs.trail.pop_marked.Goals as goal

pub bounds-marks-node : goal.bounds-marks-node
bounds-marks-node c =
    first-in (length c.args.marks.now) c.args.marks.now (reverse c.args.nodes.now.items) (reverse c.pop.new.self.items) c.in_ok-node.node (ap reverse c.in_ok-node.ensures.items ∙ reverse-push c.pop.new.self.items c.in_ok-node.node) c.requires.on

pub returns-clause-on : goal.returns-clause-on
returns-clause-on c =
    on-pop (length c.args.marks.now) c.args.marks.now (reverse c.pop.new.self.items) c.in_ok-node.node
    (subst (AreOn (length c.args.marks.now) c.args.marks.now) (ap reverse c.in_ok-node.ensures.items ∙ reverse-push c.pop.new.self.items c.in_ok-node.node) c.requires.on)
