use Rattle.std.proofs.Common.{◌∙◌, ◌≡◌, ap, arith, sym, length, Bool, List, ℕ, replicate, false}
use Rattle.aig_graph.specs.Graph.{first_latch, free_latches, latches_and_gates, variables_end}
use Rattle.aig_graph.specs.Move.{move_of}
use Rattle.rebuild.proofs.BorderLaws.{closed-passable}
use Rattle.rebuild.proofs.FreeLaws.{count-is_latched}
use Rattle.rebuild.proofs.PlanLaws.{all-latched, counted, latched-table, length-by_variable, members-table}
use Rattle.rebuild.specs.Entries.{by_variable, latched_by}
use Rattle.rebuild.specs.Moved.{is_latched}
use Rattle.aig_graph.proofs.TableLaws.{length-table}
use Rattle.aig_graph.specs.Counting.{count_below}
use Rattle.aig_graph.specs.Marking.{has}
use Rattle.rebuild.proofs.marking.MoveMarks.new.Goals as goal

pub latched_marks-requires-clause-inside : goal.latched_marks-requires-clause-inside
latched_marks-requires-clause-inside c =
    omega (
      arith,
      ap (λ (xs : List Bool). length xs) (c.as_slice-2.ensures.value ∙ c.in_ok-members.ensures),
      length-table c.first_latch.result c.latches_and_gates-entries.result (has c.vars.result.now),
      c.latches_and_gates-entries.ensures.value,
    )

pub count_marks-requires : goal.count_marks-requires
count_marks-requires c =
    let m = move_of c.args.circuit.now c.args.keep.now c.args.set.now in
    let g = c.args.circuit.now.aig in
    let members : c.in_ok-members.members.items ≡ by_variable g (has c.args.set.now) =
    members-table g c.first_latch.result c.latches_and_gates-entries.result c.args.set.now c.vars.result.now c.in_ok-members.members.items c.in_ok-members.ensures
    (c.first_latch.ensures.value ∙ ap first_latch c.aig-aig.ensures.value) (c.latches_and_gates-entries.ensures.value ∙ ap latches_and_gates c.aig-aig.ensures.value) c.vars.ensures.value in
    let latched : c.in_ok-latched.latched.items ≡ by_variable g (is_latched m) =
    latched-table m c.aig-aig.result.now c.props.result.now c.as_slice.result.now c.as_mut_slice-marks.result.now c.mark_read_or_held.new.marks c.in_ok-latched.latched.items
    c.aig-aig.ensures.value c.props.ensures.value (closed-passable m c.requires.closed) (c.as_slice.ensures.value ∙ members)
    (c.as_mut_slice-marks.ensures.value ∙ c.in_ok-held_or_read.ensures.items_if_clones_equal (λ y h. h) ∙ ap (λ (n : ℕ). replicate n false) c.latches_and_gates-entries.ensures.value)
    c.mark_read_or_held.ensures
    (c.in_ok-latched.ensures ∙ ap (λ (inside : List Bool). by_variable c.aig-aig.result.now (latched_by c.aig-aig.result.now inside c.mark_read_or_held.new.marks)) (c.as_slice-2.ensures.value ∙ sym c.as_slice.ensures.value)) in
    omega (arith, length-by_variable g (is_latched m) c.as_slice-3.result.now (c.as_slice-3.ensures.value ∙ latched), c.aig-aig.ensures.graph.small)

pub overflow_sub-border : goal.overflow_sub-border
overflow_sub-border c =
    let m = move_of c.args.circuit.now c.args.keep.now c.args.set.now in
    let g = c.args.circuit.now.aig in
    let passable = closed-passable m c.requires.closed in
    let members : c.in_ok-members.members.items ≡ by_variable g (has c.args.set.now) =
    members-table g c.first_latch.result c.latches_and_gates-entries.result c.args.set.now c.vars.result.now c.in_ok-members.members.items c.in_ok-members.ensures
    (c.first_latch.ensures.value ∙ ap first_latch c.aig-aig.ensures.value) (c.latches_and_gates-entries.ensures.value ∙ ap latches_and_gates c.aig-aig.ensures.value) c.vars.ensures.value in
    let latched : c.in_ok-latched.latched.items ≡ by_variable g (is_latched m) =
    latched-table m c.aig-aig.result.now c.props.result.now c.as_slice.result.now c.as_mut_slice-marks.result.now c.mark_read_or_held.new.marks c.in_ok-latched.latched.items
    c.aig-aig.ensures.value c.props.ensures.value passable (c.as_slice.ensures.value ∙ members)
    (c.as_mut_slice-marks.ensures.value ∙ c.in_ok-held_or_read.ensures.items_if_clones_equal (λ y h. h) ∙ ap (λ (n : ℕ). replicate n false) c.latches_and_gates-entries.ensures.value)
    c.mark_read_or_held.ensures
    (c.in_ok-latched.ensures ∙ ap (λ (inside : List Bool). by_variable c.aig-aig.result.now (latched_by c.aig-aig.result.now inside c.mark_read_or_held.new.marks)) (c.as_slice-2.ensures.value ∙ sym c.as_slice.ensures.value)) in
    let count : c.count_marks.result ≡ count_below (is_latched m) (variables_end g) = counted m (is_latched m) c.as_slice-3.result.now c.count_marks.result (c.as_slice-3.ensures.value ∙ latched)
    (c.count_marks.ensures (first_latch g) (is_latched m) (all-latched m passable c.as_slice-3.result.now (c.as_slice-3.ensures.value ∙ latched))) in
    omega (arith, count-is_latched m c.requires, c.free_latches.ensures, ap free_latches c.aig-aig.ensures.value)

pub returns : goal.returns
returns c =
    let m = move_of c.args.circuit.now c.args.keep.now c.args.set.now in
    let g = c.args.circuit.now.aig in
    let passable = closed-passable m c.requires.closed in
    let members : c.in_ok-members.members.items ≡ by_variable g (has c.args.set.now) =
    members-table g c.first_latch.result c.latches_and_gates-entries.result c.args.set.now c.vars.result.now c.in_ok-members.members.items c.in_ok-members.ensures
    (c.first_latch.ensures.value ∙ ap first_latch c.aig-aig.ensures.value) (c.latches_and_gates-entries.ensures.value ∙ ap latches_and_gates c.aig-aig.ensures.value) c.vars.ensures.value in
    let latched : c.in_ok-latched.latched.items ≡ by_variable g (is_latched m) =
    latched-table m c.aig-aig.result.now c.props.result.now c.as_slice.result.now c.as_mut_slice-marks.result.now c.mark_read_or_held.new.marks c.in_ok-latched.latched.items
    c.aig-aig.ensures.value c.props.ensures.value passable (c.as_slice.ensures.value ∙ members)
    (c.as_mut_slice-marks.ensures.value ∙ c.in_ok-held_or_read.ensures.items_if_clones_equal (λ y h. h) ∙ ap (λ (n : ℕ). replicate n false) c.latches_and_gates-entries.ensures.value)
    c.mark_read_or_held.ensures
    (c.in_ok-latched.ensures ∙ ap (λ (inside : List Bool). by_variable c.aig-aig.result.now (latched_by c.aig-aig.result.now inside c.mark_read_or_held.new.marks)) (c.as_slice-2.ensures.value ∙ sym c.as_slice.ensures.value)) in
    let count : c.count_marks.result ≡ count_below (is_latched m) (variables_end g) = counted m (is_latched m) c.as_slice-3.result.now c.count_marks.result (c.as_slice-3.ensures.value ∙ latched)
    (c.count_marks.ensures (first_latch g) (is_latched m) (all-latched m passable c.as_slice-3.result.now (c.as_slice-3.ensures.value ∙ latched))) in
    record {
      members = members;
      latched = latched;
      border = omega (arith, count-is_latched m c.requires, c.free_latches.ensures, ap free_latches c.aig-aig.ensures.value);
    }
