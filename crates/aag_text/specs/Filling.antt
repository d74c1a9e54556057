-- What holds of the items that have been read so far.
use Rattle.std.specs.Prelude.{◌^◌, ◌<◌, ◌≤◌, ◌≡◌, length, All}
use Rattle.std.specs.List.{sum}
use Rattle.ascii_file.specs.declared.header.Header.{Header}
use Rattle.ascii_file.specs.Raw.{Raw, safety_count, liveness_count}
use Rattle.ascii_file.specs.Headers.{IsHeaderWithin}
use Rattle.ascii_file.specs.Files.{IsInRange, DefinesApart, HasReset, NamesApart}

-- No section has more items than the header says. One that defines begins only if those before it
-- that define are full.
pub record IsFilling (h : Header) (raw : Raw) : Type 0 where
  pub inputs : length raw.inputs ≤ h.inputs
  pub latches : length raw.latches ≤ h.latches
  pub safety : length raw.safety ≤ safety_count h
  pub sizes : length raw.sizes ≤ h.justice
  pub liveness : length raw.liveness ≤ liveness_count h raw
  pub gates : length raw.gates ≤ h.gates
  pub latches_after : 0 < length raw.latches → length raw.inputs ≡ h.inputs
  pub gates_after : 0 < length raw.gates → (length raw.inputs ≡ h.inputs) × (length raw.latches ≡ h.latches)

-- the conditions on a file, as far as it has been read
pub record IsReadSoFar (h : Header) (raw : Raw) : Type 0 where
  pub within : IsHeaderWithin h
  pub filling : IsFilling h raw
  pub in_range : IsInRange h raw
  pub apart : DefinesApart raw
  pub resets : All HasReset raw.latches
  pub sizes : sum raw.sizes ≤ 2 ^ 24
  pub names : NamesApart h raw
