use Rattle.std.proofs.Common.{◌+◌, inr, length, refl, ap, ◌∙◌}
use Rattle.binary_file.specs.Reading.{State, feed, InFirst, end_first}
use Rattle.binary_file.proofs.FeedLaws.{after_end, fault_at_end, delta_ended, delta_open}
use Rattle.binary_file.proofs.items.Items.feed_first.Goals as goal

pub returns-in-Ok-clause-fed : goal.returns-in-Ok-clause-fed
returns-in-Ok-clause-fed c state offset is place =
    let d = delta_ended c.args.self.now.at offset c.args.end c.offset_of.result (InFirst is.h is.raw c.args.self.now.at) (end_first is.h is.raw c.args.self.now.at) state c.args.delta c.take_delta.new.reader c.args.piece.now c.in-Ok-Some-default.left.now is.is is.place place
    c.in-Ok-Some-default.field-0-0 c.in-Ok-Some-default.number c.in-Ok-Some-default.field-0-0-is c.offset_of.ensures (c.in-Ok-Some-default.ensures.taken c.args.self.now.at (InFirst is.h is.raw c.args.self.now.at) (end_first is.h is.raw c.args.self.now.at) (λ delta b. refl)) in
    after_end _ c.args.end c.offset_of.result state c.args.piece.now c.in-Ok-Some-default.left.now (end_first is.h is.raw c.args.self.now.at d.delta) d.fed d.place (c.in-Ok.ensures is.h is.raw d.delta is.contents is.section d.value d.at_after)

pub returns-in-Err-end_first-clause-fed : goal.returns-in-Err-end_first-clause-fed
returns-in-Err-end_first-clause-fed c state offset is place =
    let d = delta_ended c.args.self.now.at offset c.args.end c.offset_of.result (InFirst is.h is.raw c.args.self.now.at) (end_first is.h is.raw c.args.self.now.at) state c.args.delta c.take_delta.new.reader c.args.piece.now c.in-Ok-Some-default.left.now is.is is.place place
    c.in-Ok-Some-default.field-0-0 c.in-Ok-Some-default.number c.in-Ok-Some-default.field-0-0-is c.offset_of.ensures (c.in-Ok-Some-default.ensures.taken c.args.self.now.at (InFirst is.h is.raw c.args.self.now.at) (end_first is.h is.raw c.args.self.now.at) (λ delta b. refl)) in
    fault_at_end c.in-Err-end_first.fault state c.args.piece.now c.in-Ok-Some-default.left.now (end_first is.h is.raw c.args.self.now.at d.delta) d.fed (c.in-Err-end_first.ensures is.h is.raw d.delta is.contents is.section d.value d.at_after)

pub returns-in-Ok-None-default-clause-fed : goal.returns-in-Ok-None-default-clause-fed
returns-in-Ok-None-default-clause-fed c state offset is place =
    let d = delta_open c.args.self.now.at offset c.args.end c.args.end (InFirst is.h is.raw c.args.self.now.at) (end_first is.h is.raw c.args.self.now.at) state c.args.delta c.take_delta.new.reader c.args.piece.now c.in-Ok-None-default.left.now is.is is.place place
    c.in-Ok-None-default.field-0-0 c.in-Ok-None-default.field-0-0-is (c.in-Ok-None-default.ensures.taken c.args.self.now.at (InFirst is.h is.raw c.args.self.now.at) (end_first is.h is.raw c.args.self.now.at) (λ delta b. refl)) in
    record {
      next = InFirst is.h is.raw c.args.self.now.at c.take_delta.new.reader;
      offset = c.args.self.now.at + length c.take_delta.new.reader;
      stands = record { h = is.h; raw = is.raw; is = refl; contents = is.contents; section = is.section; place = refl };
      place = d.1;
      fed = d.0;
    }

pub returns-in-Err-clause-fed : goal.returns-in-Err-clause-fed
returns-in-Err-clause-fed c state offset is place = inr (ap (λ (s : State). feed s c.args.piece.now) is.is ∙ c.in-Err.ensures.too_long c.args.self.now.at (InFirst is.h is.raw c.args.self.now.at) (end_first is.h is.raw c.args.self.now.at) (λ delta b. refl))
