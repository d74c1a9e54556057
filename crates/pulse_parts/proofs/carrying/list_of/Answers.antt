use Rattle.pulse_parts.proofs.carrying.list_of.Goals as goal
use Rattle.pulse_parts.proofs.CarryLaws.{taken_over}

pub returns : goal.returns
returns c h =
    taken_over c.args.parts.now c.args.first c.args.end c.begin.new.self c.add_listed.new.list c.rise.new.self record {
      empty = c.begin.ensures.empty;
      extends = c.add_listed.ensures.extends;
      complete = c.add_listed.ensures.complete;
      listed = c.add_listed.ensures.listed;
      same = c.rise.ensures.complete;
      rising = c.rise.ensures.rising;
      kept = c.rise.ensures.kept;
      within = c.rise.ensures.within;
    } h
