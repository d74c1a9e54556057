use Rattle.std.proofs.Common.{◌+◌, arith, subst, sym}
use Rattle.pulse_parts.specs.declared.node_list.NodeList.{NodeList}
use Rattle.pulse_parts.specs.Parts.{values_of}
use Rattle.pulse_parts.proofs.gathering.add_heads.Goals as goal
use Rattle.pulse_parts.proofs.gathering.add_heads.Goals.{then-row-k-gt0+then-w-first+then-w-end, else-row-k-gt0, else-row-k-gt0-via-then-row-k-gt0+then-w-first+else-w-end, else-row-k-gt0-via-then-row-k-gt0+else-w-first, else-row-k-gt0-via-else-row-k-gt0}
use Rattle.pulse_parts.proofs.GatheredLaws.{GathersHeads, heads_none, heads_on, heads_off}

pub loop-k-init : goal.loop-k-init
loop-k-init c = heads_none c.args.net.now (values_of c.args.pushes.now) c.args.first c.args.end c.args.u c.args.list.now

pub loop-k-preserved : goal.loop-k-preserved
loop-k-preserved c = elim c.if-row-k-gt0.branch [
  | then-row-k-gt0+then-w-first+then-w-end w ↦
      subst (λ (l : NodeList). GathersHeads c.args.net.now (values_of c.args.pushes.now) c.args.first c.args.end c.args.u (c.loop-k.k + 1) c.args.list.now l) (sym w.list-is)
      (heads_on c.args.net.now (values_of c.args.pushes.now) c.args.first c.args.end c.args.u c.loop-k.k _ c.args.list.now c.loop-k.list w.add.new.self (c.heads-heads.ensures.value c.loop-k.k (omega arith))
      (omega arith) (omega arith) w.add.ensures.added c.loop-k.invariant)
  | else-row-k-gt0 w ↦
      subst (λ (l : NodeList). GathersHeads c.args.net.now (values_of c.args.pushes.now) c.args.first c.args.end c.args.u (c.loop-k.k + 1) c.args.list.now l) (sym w.list-is)
      (heads_off c.args.net.now (values_of c.args.pushes.now) c.args.first c.args.end c.args.u c.loop-k.k c.args.list.now c.loop-k.list
      (λ some lo hi. elim w.else-row-k-gt0.branch [
        | else-row-k-gt0-via-then-row-k-gt0+then-w-first+else-w-end x ↦ omega (arith, hi, x.if-w-end.false, c.heads-heads.ensures.value c.loop-k.k (omega arith))
        | else-row-k-gt0-via-then-row-k-gt0+else-w-first x ↦ omega (arith, lo, x.if-w-first.false, c.heads-heads.ensures.value c.loop-k.k (omega arith))
        | else-row-k-gt0-via-else-row-k-gt0 x ↦ omega (arith, some, x.if-row-k-gt0.false, c.push_row-row.ensures.value c.loop-k.k (omega arith))
      ]) c.loop-k.invariant)
]

pub returns-clause-heads : goal.returns-clause-heads
returns-clause-heads c h k l = c.loop-k.invariant.heads h k (omega (arith, l))
