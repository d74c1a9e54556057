-- A witness circuit of a mapped circuit, read through the map, passes the five checks for the
-- circuit.
use Rattle.std.proofs.Common.{ℕ, ◌≡◌, Bool, true, false, List, [], ◌∷◌, map, sym, subst, refl, arith}
use Rattle.std.specs.List.{All}
use Rattle.aig_graph.specs.Circuits.{Netlist}
use Rattle.aig_graph.specs.Streams.{chosen}
use Rattle.aig_graph.specs.Value.{value_within}
use Rattle.state_maps.specs.MapCircuits.{IsMapCircuit, mapped}
use Rattle.state_maps.specs.States.{Digits, SameReads, State}
use Rattle.witness_circuits.specs.declared.sharing.Sharing.{Sharing}
use Rattle.witness_circuits.specs.Witnesses.{IsGood, bad_or}
use Rattle.state_maps.specs.States.{IsAllowed}
use Rattle.witness_circuits.specs.LiftedLaws.{LiftsWitnesses}
use Rattle.witness_circuits.proofs.CarrierLaws.{IsCarrier, sharing-carried, witness-carried}
use Rattle.witness_circuits.proofs.FirstLaws.{goes-itself}

-- bad states of two circuits have equal values, if their bad literals and their outputs do
bad-same : (f g : ℕ → Bool) (b o p q : List ℕ) → map f b ≡ map g p → map f o ≡ map g q → map f (bad_or b o) ≡ map g (bad_or p q)
bad-same f g [] o [] q bad outputs = outputs
bad-same f g [] o (x ∷ p) q bad outputs = absurd (cc)
bad-same f g (x ∷ b) o [] q bad outputs = absurd (cc)
bad-same f g (x ∷ b) o (y ∷ p) q bad outputs = bad

-- Let the properties of one circuit have the values of another's. Then its constraints hold if the
-- other's do, and it is good if the other is.
module _ (c d : Netlist) (x : Digits) (s t : State) (reads : SameReads c d x s t) where
  -- its constraints hold if the other's do
  pub allowed-there : IsAllowed c x s → IsAllowed d x t
  allowed-there h = subst (λ (bs : List Bool). All (λ b. b ≡ true) bs) (sym reads.constraints) h

  -- and the other way round
  pub allowed-back : IsAllowed d x t → IsAllowed c x s
  allowed-back h = subst (λ (bs : List Bool). All (λ b. b ≡ true) bs) reads.constraints h

  -- it is good if the other is
  pub good-there : IsGood c x s → IsGood d x t
  good-there h = subst (λ (bs : List Bool). All (λ b. b ≡ false) bs)
      (sym (bad-same (value_within d.aig x t) (value_within c.aig x s) d.props.bad d.props.outputs c.props.bad c.props.outputs reads.bad reads.outputs)) h

  -- and the other way round
  pub good-back : IsGood d x t → IsGood c x s
  good-back h = subst (λ (bs : List Bool). All (λ b. b ≡ false) bs)
      (bad-same (value_within d.aig x t) (value_within c.aig x s) d.props.bad d.props.outputs c.props.bad c.props.outputs reads.bad reads.outputs) h

-- a circuit carries what its map gives
carrier-itself : (c d : Netlist) (kept : List ℕ) (m : Netlist) → IsMapCircuit c d kept m → IsCarrier c d c m
carrier-itself c d kept m is = record {
  inputs = refl;
  many = omega arith;
  first = goes-itself c;
  allowed = λ z u. (λ h. h, λ h. h);
  graph = is.graph;
  netlist = is.netlist;
  wide = is.inputs;
  begins = λ f. (is.maps.holds_first f, (chosen kept f, is.maps.first f));
  keeps = is.maps.keeps;
  steps = is.maps.steps;
  allows = λ x s here h. allowed-there c d x s (mapped m s) (is.maps.reads x s here) h;
  shows = λ x s here h. good-back c d x s (mapped m s) (is.maps.reads x s here) h;
}

-- a witness circuit of the mapped circuit, lifted, is a witness circuit of the circuit
pub lifts-witnesses : (c d : Netlist) (kept : List ℕ) (m w : Netlist) (k : Sharing) (r : Netlist) → LiftsWitnesses c d kept m w k r
lifts-witnesses c d kept m w k r valid net graph is sharing passes lifted =
    let carrier : IsCarrier c d c m = carrier-itself c d kept m is in
    (sharing-carried c d c m w k r valid net carrier sharing passes lifted.over, witness-carried c d c m w k r valid net carrier sharing passes lifted.over)
