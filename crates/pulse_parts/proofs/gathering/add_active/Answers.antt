use Rattle.std.proofs.Common.{◌+◌, refl, arith, subst, sym}
use Rattle.pulse_parts.specs.declared.node_list.NodeList.{NodeList}
use Rattle.pulse_parts.proofs.gathering.add_active.Goals as goal
use Rattle.pulse_parts.proofs.gathering.add_active.Goals.{then-is_active, else-is_active}
use Rattle.pulse_parts.proofs.GatheredLaws.{GathersActive, active_none, active_on, active_off}

pub loop-i-init : goal.loop-i-init
loop-i-init c = active_none c.args.nodes c.args.labels.now c.args.first c.args.excess.now c.args.listed.now c.args.list.now

pub loop-i-preserved : goal.loop-i-preserved
loop-i-preserved c = elim c.if-is_active.branch [
  | then-is_active w ↦
      subst (λ (l : NodeList). GathersActive c.args.nodes c.args.labels.now c.args.first c.args.excess.now c.args.listed.now (c.loop-i.i + 1) c.args.list.now l) (sym w.list-is)
      (active_on c.args.nodes c.args.labels.now c.args.first c.args.excess.now c.args.listed.now c.loop-i.i _ c.args.list.now c.loop-i.list w.add.new.self c.requires.listed (omega arith) refl w.add.ensures.added c.loop-i.invariant)
  | else-is_active w ↦
      subst (λ (l : NodeList). GathersActive c.args.nodes c.args.labels.now c.args.first c.args.excess.now c.args.listed.now (c.loop-i.i + 1) c.args.list.now l) (sym w.list-is)
      (active_off c.args.nodes c.args.labels.now c.args.first c.args.excess.now c.args.listed.now c.loop-i.i _ _ _ c.is_active.result c.args.list.now c.loop-i.list refl refl refl c.is_active.ensures w.if-is_active.false c.loop-i.invariant)
]
