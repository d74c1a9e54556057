use Rattle.std.proofs.Common.{ℕ, ◌≡◌, ◌+◌, ◌<◌, ◌==◌, ◌&&◌, ◌||◌, false, nat_lt, [], get_or}
use Rattle.lane_sim.specs.Lanes.{held}
use Rattle.lane_sim.proofs.table.load_row.Given as goal

abbrev pub invariant-loop-i : goal.invariant-loop-i
invariant-loop-i l = record {
  loaded : (i m : ℕ) → i < l.inputs → m < 256 → held l.table (1 + i) m ≡ (((m == l.place) && (nat_lt i l.i && get_or l.row i false)) || held l.fn.table (1 + i) m);
  constant : get_or l.table 0 [] ≡ get_or l.fn.table 0 [];
  after : (v : ℕ) → l.inputs < v → get_or l.table v [] ≡ get_or l.fn.table v [];
}
