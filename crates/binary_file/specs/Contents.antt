-- What is held of a binary file that has been read in part.
use Rattle.std.specs.Prelude.{ℕ, ◌≡◌, ◌+◌, ◌*◌, nat_lt, List, length, map, if◌then◌else◌}
use Rattle.std.specs.List.{sum}
use Rattle.aig_graph.specs.declared.graph.Latch.{Latch}
use Rattle.aig_graph.specs.declared.graph.Gate.{Gate}
use Rattle.aig_graph.specs.declared.properties.Symbols.{Symbols}
use Rattle.aig_graph.specs.Circuits.{Netlist}
use Rattle.ascii_file.specs.declared.header.Header.{Header}
use Rattle.ascii_file.specs.declared.raw.RawLatch.{RawLatch}
use Rattle.ascii_file.specs.declared.raw.RawGate.{RawGate}
use Rattle.ascii_file.specs.declared.raw.Section.{Section}
use Rattle.ascii_file.specs.declared.raw.Section.TheVariants as section
use Rattle.ascii_file.specs.Raw.{Raw, safety_count}
use Rattle.ascii_file.specs.Meaning.{reset_of, props_of, symbols_of}
use Rattle.ascii_file.specs.parts.Lists.{Lists}

-- the header, and the parts of the circuit: the literals of a binary file are the circuit's own
pub record Contents : Type 0 where
  pub header : Header
  pub latches : List Latch
  pub properties : Lists
  pub gates : List Gate
  pub names : Symbols

-- a latch and a gate of the circuit by their numbers in the file
abbrev pub latch_as_listed : RawLatch → Latch
latch_as_listed latch = record { next = latch.next; reset = reset_of latch.reset }

abbrev pub gate_as_listed : RawGate → Gate
gate_as_listed gate = record { rhs0 = gate.rhs0; rhs1 = gate.rhs1 }

-- the contents of a raw circuit
abbrev pub contents_of : Header → Raw → Contents
contents_of h raw = record {
  header = h;
  latches = map latch_as_listed raw.latches;
  properties = record { safety = raw.safety; sizes = raw.sizes; liveness = raw.liveness };
  gates = map gate_as_listed raw.gates;
  names = symbols_of raw.symbols;
}

-- the contents are those of a raw circuit
abbrev pub IsAt : Contents → Header → Raw → Type 0
IsAt c h raw = c ≡ contents_of h raw

-- the first section that isn't full
abbrev pub section_to_fill : Contents → Section
section_to_fill c =
    if nat_lt (length c.latches) c.header.latches then section.Latches else (if nat_lt (length c.properties.safety) (safety_count c.header) then section.Safety
    else (if nat_lt (length c.properties.sizes) c.header.justice then section.Sizes else (if nat_lt (length c.properties.liveness) (sum c.properties.sizes + c.header.fairness) then section.Liveness
    else (if nat_lt (length c.gates) c.header.gates then section.Gates else section.Symbols))))

-- the literal of the next latch, and that of the next gate
abbrev pub latch_literal : Contents → ℕ
latch_literal c = 2 * (c.header.inputs + 1 + length c.latches)

abbrev pub gate_literal : Contents → ℕ
gate_literal c = 2 * (c.header.inputs + c.header.latches + 1 + length c.gates)

-- the circuit of the contents, if all sections are full
abbrev pub netlist_of_contents : Contents → Netlist
netlist_of_contents c = record {
  aig = record { inputs = c.header.inputs; latches = c.latches; gates = c.gates };
  props = props_of c.header c.properties.safety c.properties.sizes c.properties.liveness;
  symbols = c.names;
}
