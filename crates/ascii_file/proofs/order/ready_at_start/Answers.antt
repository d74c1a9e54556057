use Rattle.std.proofs.Common.{ℕ, ◌≡◌, ◌∙◌, ◌+◌, List, [], get_or, Bool, None, sym, arith}
use Rattle.std.specs.BinaryHeap.{heap_items}
use Rattle.std.proofs.lemmas.Option.{slice_get-get_or}
use Rattle.ascii_file.specs.declared.order.reads.Reads.{Reads}
use Rattle.ascii_file.specs.order.Order.{may_follow}
use Rattle.ascii_file.proofs.ReadyLaws.{Gains-none, Gains-same, Gains-push, before, before_none, before_skip, before_push, before_all, may_follow-start, may_follow-past}
use Rattle.ascii_file.proofs.order.ready_at_start.Goals as goal
use Rattle.ascii_file.proofs.order.ready_at_start.Goals.{then-is_free+in_ok-push, else-is_free}

pub loop-place-init : goal.loop-place-init
loop-place-init c =
    let test : (ℕ → Bool) = may_follow c.args.gates.now [] in
    record { heap = c.new-ready.ensures.heap_order; each = rw c.new-ready.ensures.items (Gains-none (before 0 test) [] (before_none test)) }

pub loop-place-preserved : goal.loop-place-preserved
loop-place-preserved c =
    let gates : List Reads = c.args.gates.now in
    let test : (ℕ → Bool) = may_follow gates [] in
    let k = c.loop-place.place in
    let none : Reads = record { first = None; second = None } in
    let start : test k ≡ c.is_free.result = may_follow-start gates k (get_or gates k none) (slice_get-get_or gates k none c.loop-place-test.true) ∙ sym c.is_free.ensures in
    let old = heap_items c.loop-place.ready in
    elim c.if-is_free.branch [
      | then-is_free+in_ok-push w ↦ rw w.ready-is (record {
        heap = w.in_ok-push.ensures.heap_order c.loop-place.invariant.heap;
        each = Gains-push (before k test) (before (k + 1) test) [] old (heap_items w.push.new.self) (record { 0 = k })
            (before_push k test (start ∙ w.if-is_free.true)) c.loop-place.invariant.each w.in_ok-push.ensures.permutation;
      })
      | else-is_free w ↦ rw w.ready-is (record {
        heap = c.loop-place.invariant.heap;
        each = Gains-same (before k test) (before (k + 1) test) [] old (before_skip k test (start ∙ w.if-is_free.false)) c.loop-place.invariant.each;
      })
    ]

pub returns-clause-each : goal.returns-clause-each
returns-clause-each c =
    let test : (ℕ → Bool) = may_follow c.args.gates.now [] in
    let k = c.loop-place.place in
    Gains-same (before k test) test [] (heap_items c.loop-place.ready)
    (before_all k test (λ g above. may_follow-past c.args.gates.now [] g (omega arith)))
    c.loop-place.invariant.each
