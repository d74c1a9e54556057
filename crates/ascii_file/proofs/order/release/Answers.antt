use Rattle.std.proofs.Common.{ℕ, ◌≡◌, ◌∙◌, ◌+◌, ◌-◌, ◌<◌, ◌≤◌, List, length, get_or, slice_get, Bool, Option, Some, None, sym, subst, arith}
use Rattle.std.specs.BinaryHeap.{heap_items}
use Rattle.std.proofs.lemmas.List.{get_or_default}
use Rattle.std.proofs.lemmas.Option.{slice_get-get_or}
use Rattle.ascii_file.specs.declared.order.reads.Reads.{Reads}
use Rattle.ascii_file.specs.order.Readers.{read_by, IsLastReader, AreReaderTables}
use Rattle.ascii_file.specs.order.Ready.{Gains, is_released}
use Rattle.ascii_file.proofs.ReadyLaws.{Gains-none, Gains-same, Gains-push, from, from_skip, from_push, released-gap, released-none, released-at, from-all}
use Rattle.ascii_file.proofs.order.release.Goals as goal
use Rattle.ascii_file.proofs.order.release.Goals.{then-are_marked+in_ok-push, else-are_marked}

pub loop-link-init : goal.loop-link-init
loop-link-init c =
    let gates : List Reads = c.args.gates.now in
    let link : ℕ = c.index-link.result.now in
    let table : List ℕ = c.args.readers.now.last.items in
    let same : link ≡ get_or table c.args.place 0 = c.index-link.ensures ∙ get_or_default table c.args.place link 0 (omega (arith, c.requires.tables.last_length, c.requires.place)) in
    let last : IsLastReader (read_by c.args.side gates) c.args.place (length gates) link =
    subst (IsLastReader (read_by c.args.side gates) c.args.place (length gates)) (sym same) (c.requires.tables.last_of c.args.place c.requires.place) in
    record {
      within = last.within;
      one = last.one;
      heap = c.requires.heap;
      each = Gains-none (from link (is_released gates c.args.side c.args.marks.now c.args.place)) (heap_items c.args.ready.now)
          (released-none gates c.args.side c.args.marks.now c.args.place link last);
    }

-- a link of the second table leads to the last reader below
last_below : (reads : ℕ → Option ℕ) (n p link next : ℕ) (last before : List ℕ) → AreReaderTables reads n n last before → link ≤ n → 0 < link
    → ((g : ℕ) → g + 1 ≡ link → reads g ≡ Some p) → next ≡ get_or before (link - 1) next → IsLastReader reads p (link - 1) next
last_below reads n p link next last before tables within some one read =
    let r : ℕ = link - 1 in
    let inside : r < n = omega arith in
    let same : next ≡ get_or before r 0 = read ∙ get_or_default before r next 0 (omega (arith, tables.before_length)) in
    subst (IsLastReader reads p r) (sym same) (tables.before_of r p inside (one r (omega arith)))

pub loop-link-smaller : goal.loop-link-smaller
loop-link-smaller c =
    let last = last_below (read_by c.args.side c.args.gates.now) (length c.args.gates.now) c.args.place c.loop-link.link c.index-link-in-loop-link.result.now
    c.args.readers.now.last.items c.args.readers.now.before.items c.requires.tables c.loop-link.invariant.within c.loop-link-test.true c.loop-link.invariant.one c.index-link-in-loop-link.ensures in
    omega (arith, last.within, c.loop-link-test.true)

pub loop-link-preserved : goal.loop-link-preserved
loop-link-preserved c =
    let gates : List Reads = c.args.gates.now in
    let n : ℕ = length gates in
    let p : ℕ = c.args.place in
    let link : ℕ = c.loop-link.link in
    let r : ℕ = link - 1 in
    let next : ℕ = c.index-link-in-loop-link.result.now in
    let last : IsLastReader (read_by c.args.side gates) p r next =
    last_below (read_by c.args.side gates) n p link next c.args.readers.now.last.items c.args.readers.now.before.items c.requires.tables c.loop-link.invariant.within c.loop-link-test.true
    c.loop-link.invariant.one c.index-link-in-loop-link.ensures in
    let none : Reads = record { first = None; second = None } in
    let inside : r < n = omega (arith, c.loop-link.invariant.within, c.loop-link-test.true) in
    let there : slice_get gates r ≡ Some (get_or gates r none) = slice_get-get_or gates r none inside in
    let reader : read_by c.args.side gates r ≡ Some p = c.loop-link.invariant.one r (omega (arith, c.loop-link-test.true)) in
    let test : (ℕ → Bool) = is_released gates c.args.side c.args.marks.now p in
    let here : test r ≡ c.are_marked.result = released-at gates c.args.side c.args.marks.now p r (get_or gates r none) reader there ∙ sym c.are_marked.ensures in
    let gap = released-gap gates c.args.side c.args.marks.now p r next last in
    let old = heap_items c.args.ready.now in
    let mid = heap_items c.loop-link.ready in
    let above : link ≡ r + 1 = omega (arith, c.loop-link-test.true) in
    let before : Gains (from (r + 1) test) old mid = subst (λ (k : ℕ). Gains (from k test) old mid) above c.loop-link.invariant.each in
    elim c.if-are_marked.branch [
      | then-are_marked+in_ok-push w ↦ rw w.ready-is (record {
        within = omega (arith, last.within);
        one = last.one;
        heap = w.in_ok-push.ensures.heap_order c.loop-link.invariant.heap;
        each = Gains-push (from (r + 1) test) (from next test) old mid (heap_items w.push.new.self) (record { 0 = r })
            (from_push next r test last.within gap (here ∙ w.if-are_marked.true)) before w.in_ok-push.ensures.permutation;
      })
      | else-are_marked w ↦ rw w.ready-is (record {
        within = omega (arith, last.within);
        one = last.one;
        heap = c.loop-link.invariant.heap;
        each = Gains-same (from (r + 1) test) (from next test) old mid (from_skip next r test last.within gap (here ∙ w.if-are_marked.false)) before;
      })
    ]

pub returns-clause-each : goal.returns-clause-each
returns-clause-each c =
    let test : (ℕ → Bool) = is_released c.args.gates.now c.args.side c.args.marks.now c.args.place in
    let end : c.loop-link.link ≡ 0 = omega (arith, c.loop-link-test.false) in
    let done : Gains (from 0 test) (heap_items c.args.ready.now) (heap_items c.loop-link.ready) =
    subst (λ (k : ℕ). Gains (from k test) (heap_items c.args.ready.now) (heap_items c.loop-link.ready)) end c.loop-link.invariant.each in
    Gains-same (from 0 test) test (heap_items c.args.ready.now) (heap_items c.loop-link.ready) (from-all test) done
