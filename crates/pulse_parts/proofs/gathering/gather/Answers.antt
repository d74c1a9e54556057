use Rattle.pulse_parts.specs.Parts.{values_of}
use Rattle.pulse_parts.proofs.gathering.gather.Goals as goal
use Rattle.pulse_parts.proofs.GatheredLaws.{covers_work}

pub returns-then-part-clause-work : goal.returns-then-part-clause-work
returns-then-part-clause-work c =
    covers_work c.args.net.now c.args.labels.now (values_of c.args.pushes.now) c.args.part.now c.nodes-nodes.result c.as_slice.result.now c.as_slice-actives.result.now c.begin.new.self c.add_active.new.list c.add_all_pushes.new.list c.rise.new.self
    c.known.ensures.network c.requires.part (c.requires.active c.if-listed.true) c.if-part.true c.nodes-nodes.ensures c.as_slice.ensures.value c.as_slice-actives.ensures.value
    record {
      empty = c.begin.ensures.empty;
      actives = c.add_active.ensures.extends;
      active = c.add_active.ensures.active;
      more = c.add_all_pushes.ensures.extends;
      pushes = c.add_all_pushes.ensures.listed;
      same = c.rise.ensures.complete;
      rising = c.rise.ensures.rising;
      kept = c.rise.ensures.kept;
      within = c.rise.ensures.within;
    }
