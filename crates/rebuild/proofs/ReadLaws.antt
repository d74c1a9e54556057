-- The properties of a moved circuit.
use Rattle.std.proofs.Common.{ℕ, ◌<◌, ◌≡◌, map, true, get_or, refl, arith}
use Rattle.std.specs.List.{All}
use Rattle.std.proofs.lemmas.Option.{slice_get-get_or}
use Rattle.aig_graph.specs.Border.{is_read}
use Rattle.aig_graph.specs.Circuits.{ArePropsOf, IsNetlist}
use Rattle.aig_graph.specs.Closed.{IsClosedSet}
use Rattle.aig_graph.specs.Graph.{IsGraph, IsLiteralOf, variable, variables_end}
use Rattle.aig_graph.specs.Move.{Move}
use Rattle.aig_graph.specs.Streams.{SameShape, property_literals}
use Rattle.rebuild.proofs.BorderLaws.{read-property}
use Rattle.rebuild.proofs.MovedLaws.{moved-end, moved-inputs, new_variable-within}
use Rattle.aig_graph.proofs.PropsLaws.{literals_within, mapped-literals, mapped-props, mapped-shape}
use Rattle.aig_graph.proofs.SignLaws.{variable-signed_as_twice}
use Rattle.rebuild.specs.Moved.{moved_graph, moved_literal, moved_of, moved_props, new_variable}

-- a literal in range that is read from outside
pub record IsReadable (m : Move) (lit : ℕ) : Type 0 where
  -- its variable is read from outside the set
  pub read : is_read m.circuit m.set (variable lit) ≡ true
  -- its variable is one of the circuit's
  pub within : variable lit < variables_end m.circuit.aig

module _ (m : Move) where
  -- the moved circuit's property literals are the moved ones of the circuit
  pub moved-literals : property_literals (moved_props m) ≡ map (moved_literal m) (property_literals m.circuit.props)
  moved-literals = mapped-literals (moved_literal m) m.circuit.props

  -- the moved circuit has the shape of the circuit
  pub moved-shape : SameShape m.circuit (moved_of m)
  moved-shape = mapped-shape (moved_literal m) m.circuit (moved_of m) (moved-inputs m) refl

module _ (m : Move) (netlist : IsNetlist m.circuit) where
  -- each property literal is in range and read from outside
  pub all-readable : All (λ lit. IsReadable m lit) (property_literals m.circuit.props)
  all-readable =
      let within = literals_within m.circuit.aig m.circuit.props netlist.props in
      λ k d h. record { read = read-property m k (get_or (property_literals m.circuit.props) k d) (slice_get-get_or (property_literals m.circuit.props) k d h); within = within k d h }

module _ (m : Move) (valid : IsGraph m.circuit.aig) (set : IsClosedSet m.circuit.aig m.held m.set) where
  -- a literal in range that is read from outside is moved to one of the moved graph
  pub moved_literal-readable : (lit : ℕ) → IsReadable m lit → IsLiteralOf (moved_graph m) (moved_literal m lit)
  moved_literal-readable lit readable =
      omega (arith, variable-signed_as_twice lit (new_variable m (variable lit)), new_variable-within m valid set (variable lit) readable.read readable.within, moved-end m set)

  -- the properties of the moved circuit are literals of its graph
  pub moved-props : IsNetlist m.circuit → ArePropsOf (moved_graph m) (moved_props m)
  moved-props netlist = mapped-props (moved_literal m) (λ lit. IsReadable m lit) (moved_graph m) m.circuit.props (all-readable m netlist) moved_literal-readable
