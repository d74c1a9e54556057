-- What a certificate is worth.
use Rattle.std.specs.Prelude.{ℕ, ◌≡◌, ◌==◌, true, List, length, All}
use Rattle.std.specs.List.{IsDistinct}
use Rattle.aig_graph.specs.Circuits.{Netlist}
use Rattle.aig_graph.specs.Closed.{IsClosedSet}
use Rattle.aig_graph.specs.Move.{move_of}
use Rattle.aig_graph.specs.Border.{border_size, IsLeast}
use Rattle.frame_net.specs.declared.net.Point.{Point}
use Rattle.certificates.specs.declared.certificate.Certificate.{Certificate}
use Rattle.certificates.specs.declared.verdict.Verdict.{Verdict}
use Rattle.certificates.specs.declared.verdict.Verdict.TheVariants.{Yes, No}
use Rattle.certificates.specs.declared.verdict.Objection.TheVariants.{NotClosed, BadRoute, UsedTwice, CountDiffers}
use Rattle.certificates.specs.Routes.{is_route, all_passed}

-- each list of points is a route
abbrev pub AreRoutes : Netlist → List ℕ → List (List Point) → Type 0
AreRoutes c held routes = All (λ route. is_route c held route ≡ true) routes

-- no two routes, and no route twice, pass after one variable
abbrev pub AreApart : List (List Point) → Type 0
AreApart routes = IsDistinct (λ v w. v == w) (all_passed routes)

-- a closed set with as many routes, apart from one another, as its border has variables
pub record ShowsLeast (c : Netlist) (held gates : List ℕ) (routes : List (List Point)) : Type 0 where
  pub closed : IsClosedSet c.aig held gates
  pub right : AreRoutes c held routes
  pub apart : AreApart routes
  pub count : border_size (move_of c held gates) ≡ length routes

-- such a set is least
abbrev pub LeastLaw : Type 0
LeastLaw = (c : Netlist) (held gates : List ℕ) (routes : List (List Point)) → ShowsLeast c held gates routes → IsLeast c held gates

-- the stated count, the size of the border and the number of routes are equal
pub record CountsAgree (c : Netlist) (held : List ℕ) (cert : Certificate) : Type 0 where
  pub of_border : cert.count ≡ border_size (move_of c held cert.gates)
  pub of_routes : cert.count ≡ length cert.routes

-- the first test that fails, if any: the set is closed, the routes are right, they are apart, the
-- counts agree
abbrev pub IsVerdict : Netlist → List ℕ → Certificate → Verdict → Type 0
IsVerdict c held cert Yes = IsClosedSet c.aig held cert.gates × AreRoutes c held cert.routes × AreApart cert.routes × CountsAgree c held cert
IsVerdict c held cert (No NotClosed) = IsClosedSet c.aig held cert.gates → ⊥
IsVerdict c held cert (No BadRoute) = IsClosedSet c.aig held cert.gates × (AreRoutes c held cert.routes → ⊥)
IsVerdict c held cert (No UsedTwice) = IsClosedSet c.aig held cert.gates × AreRoutes c held cert.routes × (AreApart cert.routes → ⊥)
IsVerdict c held cert (No CountDiffers) = IsClosedSet c.aig held cert.gates × AreRoutes c held cert.routes × AreApart cert.routes × (CountsAgree c held cert → ⊥)

-- the certificate of a Yes has a least set, and its size
abbrev pub YesLaw : Type 0
YesLaw = (c : Netlist) (held : List ℕ) (cert : Certificate) → IsVerdict c held cert Yes → IsLeast c held cert.gates × (cert.count ≡ border_size (move_of c held cert.gates))
