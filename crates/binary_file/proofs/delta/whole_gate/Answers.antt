use Rattle.std.proofs.Common.{◌-◌, ◌≡◌, arith, drop, length, length-drop, take}
use Rattle.std.proofs.lemmas.List.{drop-drop, take_all}
use Rattle.binary_file.proofs.delta.whole_gate.Goals as goal

pub whole_delta-requires-2 : goal.whole_delta-requires-2
whole_delta-requires-2 c =
    let len = c.in_ok-first.len in
    let bytes = c.args.bytes.now in
    let whole : take (length bytes - len) (drop len bytes) ≡ drop len bytes = take_all _ _ (omega (arith, length-drop len bytes)) in
    rw whole (omega (arith, c.requires, c.in_ok-first.ensures.1, length-drop len bytes))

pub overflow_sub-rhs0 : goal.overflow_sub-rhs0
overflow_sub-rhs0 c = omega (arith, c.if-first-from.false, c.from.ensures)

pub overflow_sub-result : goal.overflow_sub-result
overflow_sub-result c = omega (arith, c.if-second-from.false, c.from-2.ensures)

pub returns : goal.returns
returns c =
    let len = c.in_ok-first.len in
    let more = c.in_ok-second.more in
    let bytes = c.args.bytes.now in
    let whole : take (length bytes - len) (drop len bytes) ≡ drop len bytes = take_all _ _ (omega (arith, length-drop len bytes)) in
    let second = rw whole at c.in_ok-second.ensures in (
      omega (arith, c.in_ok-first.ensures.0),
      omega (arith, c.in_ok-first.ensures.1, second.1),
      record {
        first = c.in_ok-first.first;
        second = c.in_ok-second.second;
        middle = drop len bytes;
        begins = c.in_ok-first.ensures.2;
        goes_on = rw drop-drop at second.2;
        some = omega (arith, c.if-first-eq0.false);
        below = omega (arith, c.if-first-from.false, c.from.ensures);
        ordered = omega (arith, c.if-second-from.false, c.from-2.ensures);
      },
    )
