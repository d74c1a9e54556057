use Rattle.std.proofs.Common.{◌≡◌, refl, true, arith, subst, sym}
use Rattle.pulse_parts.specs.declared.node_list.NodeList.{NodeList}
use Rattle.pulse_parts.specs.Listing.{Extends, IsListed}
use Rattle.pulse_parts.proofs.gathering.add_from.Goals as goal
use Rattle.pulse_parts.proofs.gathering.add_from.Goals.{then-u-first+then-u-end+then-not-has_at, else-u-first, else-u-first-via-then-u-first+else-u-end, else-u-first-via-then-u-first+then-u-end+else-not-has_at, else-u-first-via-else-u-first}
use Rattle.pulse_parts.proofs.NodeListLaws.{added_here, extends_add, extends_self, extends_then}

pub returns-clause-extends : goal.returns-clause-extends
returns-clause-extends c = extends_then c.args.first c.args.end c.args.list.now c.if-u-first.list c.add_heads.new.list
    (elim c.if-u-first.branch [
      | then-u-first+then-u-end+then-not-has_at w ↦ subst (λ (l : NodeList). Extends c.args.first c.args.end c.args.list.now l) (sym w.list-is) (extends_add c.args.first c.args.end c.args.u c.args.list.now w.add.new.self (omega arith) (omega arith) w.add.ensures.added)
      | else-u-first w ↦ subst (λ (l : NodeList). Extends c.args.first c.args.end c.args.list.now l) (sym w.list-is) (extends_self c.args.first c.args.end c.args.list.now)
    ]) c.add_heads.ensures.extends

pub returns-clause-listed : goal.returns-clause-listed
returns-clause-listed c h = record {
  here = λ lo hi. c.add_heads.ensures.extends.kept h c.args.u (elim c.if-u-first.branch [
    | then-u-first+then-u-end+then-not-has_at w ↦
        subst (λ (l : NodeList). IsListed l.nodes.items c.args.u) (sym w.list-is)
        (added_here c.args.u c.args.u c.args.list.now w.add.new.self refl w.add.ensures.added (subst (λ (l : NodeList). l.complete ≡ true) w.list-is (c.add_heads.ensures.extends.complete h)))
    | else-u-first w ↦ elim w.else-u-first.branch [
      | else-u-first-via-then-u-first+else-u-end x ↦ absurd (omega (arith, hi, x.if-u-end.false))
      | else-u-first-via-then-u-first+then-u-end+else-not-has_at x ↦ subst (λ (l : NodeList). IsListed l.nodes.items c.args.u) (sym w.list-is) (x.has_at.ensures x.if-not-has_at.false)
      | else-u-first-via-else-u-first x ↦ absurd (omega (arith, lo, x.if-u-first.false))
    ]
  ]);
  heads = c.add_heads.ensures.heads h;
}
