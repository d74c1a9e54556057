-- Routes: walks over the points of a circuit, from a known latch to a point that something other
-- than a passable gate reads.
use Rattle.std.specs.Prelude.{ℕ, ◌==◌, ◌&&◌, ◌||◌, Bool, not, false, is_some, List, [], ◌∷◌, ◌++◌, if◌then◌else◌}
use Rattle.aig_graph.specs.Graph.{Graph, latch_at, gate_at, is_known}
use Rattle.aig_graph.specs.Circuits.{Netlist}
use Rattle.frame_net.specs.declared.net.Point.{Point}
use Rattle.frame_net.specs.Passable.{is_passable}
use Rattle.frame_net.specs.Capacity.{gate_reads, is_observed}

-- a route begins after a known latch
abbrev pub begins_at : Graph → Point → Bool
begins_at g p = p.behind && is_known (latch_at g p.var)

-- through a passable gate
abbrev pub passes : Graph → List ℕ → Point → Point → Bool
passes g held p q = not p.behind && q.behind && p.var == q.var && is_passable g held p.var

-- from after a variable to before a passable gate that reads it
abbrev pub enters : Graph → List ℕ → Point → Point → Bool
enters g held p q = p.behind && not q.behind && is_passable g held q.var && gate_reads p.var (gate_at g q.var)

-- from before a passable gate back to before a gate that it reads
abbrev pub returns_to : Graph → List ℕ → Point → Point → Bool
returns_to g held p q = not p.behind && not q.behind && is_passable g held p.var && is_some (gate_at g q.var) && gate_reads q.var (gate_at g p.var)

unfoldable pub may_step : Graph → List ℕ → Point → Point → Bool
may_step g held p q = passes g held p q || (enters g held p q || returns_to g held p q)

-- a known latch or a gate: what a point of a route is at
abbrev pub is_on : Graph → ℕ → Bool
is_on g v = is_known (latch_at g v) || is_some (gate_at g v)

-- whether the rest of a route may follow a point: it ends after a variable that is held, or read
-- from outside the passable gates
unfoldable pub goes_on : Netlist → List ℕ → Point → List Point → Bool
goes_on c held p [] = p.behind && is_observed c.aig c.props held p.var
goes_on c held p (q ∷ rest) = may_step c.aig held p q && goes_on c held q rest

-- whether the points are a route
abbrev pub is_route : Netlist → List ℕ → List Point → Bool
is_route c held [] = false
is_route c held (p ∷ rest) = begins_at c.aig p && goes_on c held p rest

-- the variables after which a route passes
unfoldable pub passed : List Point → List ℕ
passed [] = []
passed (p ∷ rest) = if p.behind then p.var ∷ passed rest else passed rest

-- the variables after which the routes pass, route by route
unfoldable pub all_passed : List (List Point) → List ℕ
all_passed [] = []
all_passed (route ∷ routes) = passed route ++ all_passed routes
