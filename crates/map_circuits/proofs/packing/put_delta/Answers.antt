use Rattle.std.proofs.Common.{◌+◌, ◌<◌, arith, length, ◌∙◌, refl}
use Rattle.std.proofs.lemmas.List.{length-set}
use Rattle.map_circuits.proofs.PackingLaws.{delta-end, delta-few, delta-more, delta-start}
use Rattle.map_circuits.proofs.packing.put_delta.Goals as goal

pub loop-rest-init : goal.loop-rest-init
loop-rest-init c = record {
  from = omega arith;
  few = omega arith;
  long = refl;
  spells = delta-start c.args.at c.args.number c.args.bytes.now (omega arith);
}

pub loop-rest-preserved : goal.loop-rest-preserved
loop-rest-preserved c =
    let i = c.loop-rest.invariant in
    let within : c.loop-rest.end < length c.loop-rest.bytes = omega (arith, i.few, i.long, c.requires) in
    let before : c.loop-rest.end < c.args.at + 4 =
    delta-few c.args.at c.loop-rest.end c.args.number c.loop-rest.rest 0 c.args.bytes.now c.loop-rest.bytes i.from i.few within i.spells c.loop-rest-test.true in
    record {
      from = omega (arith, i.from);
      few = omega (arith, before);
      long = length-set c.loop-rest.bytes c.loop-rest.end _ ∙ i.long;
      spells = delta-more c.args.at c.loop-rest.end c.args.number c.loop-rest.rest _ c.args.bytes.now c.loop-rest.bytes i.from i.few within i.spells c.loop-rest-test.true refl;
    }

pub returns-clause-delta : goal.returns-clause-delta
returns-clause-delta c =
    let i = c.loop-rest.invariant in
    let within : c.loop-rest.end < length c.loop-rest.bytes = omega (arith, i.few, i.long, c.requires) in
    delta-end c.args.at c.loop-rest.end c.args.number c.loop-rest.rest _ c.args.bytes.now c.loop-rest.bytes i.from i.few within i.spells c.loop-rest-test.false refl
