-- The network of the circuit whose tables a layout holds.
use Rattle.std.specs.Prelude.{ℕ, ◌+◌, List}
use Rattle.frame_net.specs.declared.edges.Link.{Link}
use Rattle.frame_net.specs.declared.links.NodeLinks.{NodeLinks}
use Rattle.frame_net.specs.declared.layout.Layout.{Layout}
use Rattle.frame_net.specs.Edges.{Edge, edges_below}
use Rattle.frame_net.specs.Links.{links_of}
use Rattle.frame_net.specs.Capacity.{latch_count, node_total, unbounded, capacity}

-- how many nodes there are
abbrev pub nodes_of : Layout → ℕ
nodes_of l = node_total l.aig.now l.keep.now

-- the capacity of the arc from one node to another
abbrev pub capacity_of : Layout → ℕ → ℕ → ℕ
capacity_of l = capacity l.aig.now l.props.now l.keep.now

-- all edges
abbrev pub edges_of : Layout → List Edge
edges_of l = edges_below (capacity_of l) (nodes_of l)

-- the links of a node to lower ones, by what it is linked to
abbrev pub links_in : Layout → NodeLinks → List Link
links_in l node = links_of (2 + latch_count l.aig.now l.keep.now) (unbounded l.aig.now l.keep.now) node
