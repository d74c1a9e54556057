use Rattle.std.proofs.Common.{◌+◌, arith, refl, subst, sym}
use Rattle.pulse_parts.specs.declared.node_list.NodeList.{NodeList}
use Rattle.pulse_parts.proofs.CarryLaws.{TakesSome, some_none, some_off, some_on}
use Rattle.pulse_parts.proofs.carrying.add_within.Goals as goal
use Rattle.pulse_parts.proofs.carrying.add_within.Goals.{then-v-first+then-v-end, else-v-first, else-v-first-via-then-v-first+else-v-end, else-v-first-via-else-v-first}

pub loop-i-init : goal.loop-i-init
loop-i-init c = some_none c.args.first c.args.end c.args.listed.now c.args.list.now

pub loop-i-preserved : goal.loop-i-preserved
loop-i-preserved c = elim c.if-v-first.branch [
  | then-v-first+then-v-end w ↦
      subst (λ (l : NodeList). TakesSome c.args.first c.args.end c.args.listed.now (c.loop-i.i + 1) c.args.list.now l) (sym w.list-is)
      (some_on c.args.first c.args.end c.args.listed.now c.loop-i.i _ c.args.list.now c.loop-i.list w.add.new.self refl (omega arith) (omega arith) w.add.ensures.added c.loop-i.invariant)
  | else-v-first w ↦
      subst (λ (l : NodeList). TakesSome c.args.first c.args.end c.args.listed.now (c.loop-i.i + 1) c.args.list.now l) (sym w.list-is)
      (some_off c.args.first c.args.end c.args.listed.now c.loop-i.i c.args.list.now c.loop-i.list (λ lo hi. elim w.else-v-first.branch [
        | else-v-first-via-then-v-first+else-v-end x ↦ omega (arith, hi, x.if-v-end.false)
        | else-v-first-via-else-v-first x ↦ omega (arith, lo, x.if-v-first.false)
      ]) c.loop-i.invariant)
]

pub returns-clause-listed : goal.returns-clause-listed
returns-clause-listed c h i l = c.loop-i.invariant.taken h i (omega (arith, l))
