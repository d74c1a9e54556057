use Rattle.std.proofs.Common.{ℕ, length, subst}
use Rattle.ascii_file.specs.Raw.{nothing_yet}
use Rattle.binary_file.specs.Reading.{before_item}
use Rattle.binary_file.specs.Standing.{Stands}
use Rattle.binary_file.proofs.stage.feed_first_items.Goals as goal

pub returns : goal.returns
returns c bytes reading place =
    c.feed_items.ensures bytes (before_item c.args.header nothing_yet (length bytes)) reading
    (subst (λ (n : ℕ). Stands c.new-items.result n (before_item c.args.header nothing_yet n)) (c.offset_of.ensures (length bytes) place) c.new-items.ensures) place
