use Rattle.std.proofs.Common.{◌≡◌, ◌<◌, ◌∙◌, List, length, get_or, slice_get, Some, None, sym}
use Rattle.std.proofs.lemmas.List.Elements.{All-get_or}
use Rattle.std.proofs.lemmas.Option.{slice_get-get_or}
use Rattle.ascii_file.specs.declared.order.reads.Reads.{Reads}
use Rattle.ascii_file.specs.order.Order.{ReadsBelow}
use Rattle.ascii_file.specs.order.Readers.{read_by}
use Rattle.ascii_file.proofs.ReaderLaws.{AreReaders-more, AreReaders-skip, read_by-at, fan_in_below}
use Rattle.ascii_file.proofs.order.readers.link.Goals as goal
use Rattle.ascii_file.proofs.order.readers.link.Goals.{in-Some, in_default}

pub loop-place-preserved : goal.loop-place-preserved
loop-place-preserved c =
    let gates : List Reads = c.args.gates.now in
    let k = c.loop-place.place in
    let none : Reads = record { first = None; second = None } in
    let less : k < length gates = c.loop-place-test.true in
    let there : slice_get gates k ≡ Some (get_or gates k none) = slice_get-get_or gates k none less in
    let by : read_by c.args.side gates k ≡ c.by.result = read_by-at c.args.side gates k (get_or gates k none) there ∙ sym c.by.ensures in
    elim c.match-by.branch [
      | in-Some w ↦ (
          let inside : ReadsBelow (length gates) (get_or gates k none) = All-get_or (ReadsBelow (length gates)) gates k none less c.requires.in_file in
          let below : w.in-Some.read < length gates = fan_in_below c.args.side (length gates) (get_or gates k none) w.in-Some.read inside (sym c.by.ensures ∙ w.in-Some.is) in
          rw (w.last-is, w.before-is) (AreReaders-more (read_by c.args.side gates) (length gates) k w.in-Some.read c.loop-place.last c.loop-place.before c.loop-place.invariant less below (by ∙ w.in-Some.is)))
      | in_default w ↦
          rw (w.last-is, w.before-is) (AreReaders-skip (read_by c.args.side gates) (length gates) k c.loop-place.last c.loop-place.before c.loop-place.invariant (by ∙ w.in_default.is))
    ]
