-- How much room random sequences take, and the trace under them.
use Rattle.std.specs.Prelude.{ℕ, ◌+◌, ◌*◌, ◌^◌, ◌||◌, Bool, max, nat_lt, length}
use Rattle.aig_graph.specs.Circuits.{Netlist}
use Rattle.aig_graph.specs.Graph.{free_latches}
use Rattle.aig_graph.specs.Streams.{property_literals}

-- over 2^28 bytes of steps, each of 64 beside its digits, a byte each
abbrev pub steps_fill : Netlist → ℕ → ℕ → Bool
steps_fill c sequences steps = nat_lt (2 ^ 28) (sequences * steps * (c.aig.inputs + 64))

-- over 2^28 digits for free latches
abbrev pub choices_fill : Netlist → ℕ → Bool
choices_fill c sequences = nat_lt (2 ^ 28) (sequences * free_latches c.aig)

-- over 2^31 bits of a trace, which has room for 256 sequences at least
abbrev pub trace_fills : Netlist → ℕ → ℕ → Bool
trace_fills c sequences steps = nat_lt (2 ^ 31) (max sequences 256 * steps * length (property_literals c.props))

-- sequences of these numbers would take over 2^28 bytes of steps or of choices, or over 2^31 bits
-- of trace
abbrev pub is_too_long : Netlist → ℕ → ℕ → Bool
is_too_long c sequences steps = steps_fill c sequences steps || choices_fill c sequences || trace_fills c sequences steps
