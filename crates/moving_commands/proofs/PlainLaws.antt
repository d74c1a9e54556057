-- What is printed of a move has no float and nests a few levels, so that readers take it.
use Rattle.std.proofs.Common.{ℕ, ◌≡◌, ◌≤◌, false, List, [], ◌∷◌, map, Option, Some, None, refl, arith}
use Rattle.std.proofs.Math.Nat.{max-le}
use Rattle.std.proofs.lemmas.Bool.{or_from}
use Rattle.aig_graph.specs.Circuits.{Netlist}
use Rattle.reports.specs.declared.statistics.Counts.{Counts}
use Rattle.serde_json.specs.Data.{Data, object, Members, member, no_members, depth, items_depth, members_depth}
use Rattle.serde_json.specs.View.{items_of}
use Rattle.serde_json.specs.Written.{has_float, items_have_float, members_have_float}
use Rattle.backward_moves.specs.declared.frame.FrameCounts.{FrameCounts}
use Rattle.backward_moves.specs.declared.staying.Staying.{Staying}
use Rattle.json_reports.specs.Lines.{IsPlain}
use Rattle.json_reports.specs.Members.{array_of, count, or_null}
use Rattle.counted_io.specs.declared.target.Target.{Target}
use Rattle.command_line.specs.declared.task.Moving.{Moving}
use Rattle.moving_commands.specs.Printing.{backward_frame_data, frames_data, held_back_data, map_data_for, moves_data, reported_bound, staying_data, staying_with}
use Rattle.moving_commands.specs.declared.answering.Answer.{Answer}
use Rattle.moving_commands.specs.declared.engines.Report.{Report}
use Rattle.moving_commands.specs.declared.engines.Report.TheVariants.{OfBackward, OfEnables}

-- it nests at most n levels
record Plain (n : ℕ) (d : Data) : Type 0 where
  whole : has_float d ≡ false
  nests : depth d ≤ n

record PlainMembers (n : ℕ) (ms : Members) : Type 0 where
  whole : members_have_float ms ≡ false
  nests : members_depth ms ≤ n

plain-none : PlainMembers 3 no_members
plain-none = record { whole = refl; nests = omega arith }

plain-member : {k : List ℕ} {d : Data} {ms : Members} → Plain 3 d → PlainMembers 3 ms → PlainMembers 3 (member k d ms)
plain-member p q = record { whole = or_from _ _ p.whole q.whole; nests = max-le p.nests q.nests }

plain-frame : (f : FrameCounts) → Plain 2 (backward_frame_data f)
plain-frame f = record { whole = refl; nests = omega arith }

floats-none : (frames : List FrameCounts) → items_have_float (items_of (map backward_frame_data frames)) ≡ false
floats-none [] = refl
floats-none (f ∷ frames) = let e = plain-frame f in or_from _ _ e.whole (floats-none frames)

nests-most : (frames : List FrameCounts) → items_depth (items_of (map backward_frame_data frames)) ≤ 2
nests-most [] = omega arith
nests-most (f ∷ frames) = let e = plain-frame f in max-le e.nests (nests-most frames)

plain-frames : (frames : List FrameCounts) → Plain 3 (array_of backward_frame_data frames)
plain-frames frames = let below = nests-most frames in record { whole = floats-none frames; nests = omega (arith, below) }

plain-map : (target : Option Target) (m : Netlist) → Plain 3 (map_data_for target m)
plain-map None m = record { whole = refl; nests = omega arith }
plain-map (Some target) m = record { whole = refl; nests = omega arith }

plain-or_null : (o : Option ℕ) → Plain 3 (or_null count o)
plain-or_null None = record { whole = refl; nests = omega arith }
plain-or_null (Some n) = record { whole = refl; nests = omega arith }

plain-with : (s : Staying) (o : Option ℕ) → Plain 3 (staying_with s (or_null count o))
plain-with s None = record { whole = refl; nests = omega arith }
plain-with s (Some n) = record { whole = refl; nests = omega arith }

plain-staying : (s : Staying) → Plain 3 (staying_data s)
plain-staying s = plain-with s s.too_long

plain-taken : (r : Report) → Plain 3 (frames_data r)
plain-taken (OfBackward frames staying is_shown) = plain-frames frames.items
plain-taken (OfEnables frames refused) = record { whole = refl; nests = omega arith }

plain-held_back : (r : Report) → Plain 3 (held_back_data r)
plain-held_back (OfBackward frames staying is_shown) = plain-staying staying
plain-held_back (OfEnables frames refused) = record { whole = refl; nests = omega arith }

is_plain : {ms : Members} → PlainMembers 3 ms → IsPlain (object ms)
is_plain p = record { whole = p.whole; nests = omega (arith, p.nests) }

-- the object of a move
pub moves : (task : Moving) (answer : Answer) (after : Counts) → IsPlain (moves_data task answer after)
moves task answer after =
    is_plain (plain-member record { whole = refl; nests = omega arith } (plain-member record { whole = refl; nests = omega arith } (plain-member (plain-or_null (reported_bound task.options.bound answer.before))
    (plain-member record { whole = refl; nests = omega arith } (plain-member (plain-taken answer.moved.report) (plain-member (plain-held_back answer.moved.report) (plain-member (plain-map task.map answer.moved.map)
    (plain-member record { whole = refl; nests = omega arith } (plain-member record { whole = refl; nests = omega arith } plain-none)))))))))
