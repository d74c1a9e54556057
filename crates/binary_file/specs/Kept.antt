-- What holds of all that is read of a binary file.
use Rattle.std.specs.Prelude.{ℕ, ◌≡◌, ◌+◌, ◌^◌, ◌<◌, ◌≤◌, false, List, length, All, AllPairs, slice_get, Some}
use Rattle.std.specs.List.{sum}
use Rattle.aig_graph.specs.declared.graph.Gate.{Gate}
use Rattle.aig_graph.specs.Graph.{IsGateAt}
use Rattle.ascii_file.specs.Raw.{RawSymbol, safety_count, count_of}
use Rattle.ascii_file.specs.Meaning.{symbols_of}
use Rattle.ascii_file.specs.Reading.{is_of_same}
use Rattle.binary_file.specs.Headers.{IsHeaderWithin}
use Rattle.binary_file.specs.Files.{IsWithin}
use Rattle.binary_file.specs.Contents.{Contents}

-- no section has more items than the header says
pub record AreCounted (c : Contents) : Type 0 where
  pub latches : length c.latches ≤ c.header.latches
  pub safety : length c.properties.safety ≤ safety_count c.header
  pub sizes : length c.properties.sizes ≤ c.header.justice
  pub size_sum : sum c.properties.sizes ≤ 2 ^ 24
  pub liveness : length c.properties.liveness ≤ sum c.properties.sizes + c.header.fairness
  pub gates : length c.gates ≤ c.header.gates

-- literals are in range, and those of gates below their own
pub record AreInRange (c : Contents) : Type 0 where
  pub latches : All (λ latch. IsWithin c.header latch.next) c.latches
  pub safety : All (IsWithin c.header) c.properties.safety
  pub liveness : All (IsWithin c.header) c.properties.liveness
  pub gates : (k : ℕ) (gate : Gate) → slice_get c.gates k ≡ Some gate → IsGateAt (1 + c.header.inputs + c.header.latches + k) gate

-- the names are those of symbols that name a thing of their own
pub record AreNamed (c : Contents) : Type 0 where
  pub symbols : List RawSymbol
  pub names : c.names ≡ symbols_of symbols
  pub below : All (λ symbol. symbol.position < count_of c.header symbol.kind) symbols
  pub apart : AllPairs (λ symbol other. is_of_same other symbol ≡ false) symbols

-- the header is within the limits, there are as many items as it says, and all literals and names
-- are in range
pub record IsKept (c : Contents) : Type 0 where
  pub within : IsHeaderWithin c.header
  pub counted : AreCounted c
  pub in_range : AreInRange c
  pub named : AreNamed c
