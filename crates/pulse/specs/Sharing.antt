-- How a pulse is shared out.
use Rattle.std.specs.Prelude.{ℕ, ◌==◌, Bool, false, min, nat_le, nat_lt, if◌then◌else◌}
use Rattle.std.specs.Int.{div_ceil}
use Rattle.pulse.specs.declared.sharing.Share.{Share}

-- whether `active` active nodes are many: a quarter of all nodes, or 4096
abbrev pub are_many : ℕ → ℕ → Bool
are_many nodes active = nat_le (min (div_ceil nodes 4) 4096) active

-- a part for each worker, handed out if there are two workers or more
abbrev pub share_among : ℕ → Share
share_among workers = record { parts = workers; handed = nat_lt 1 workers }

-- the crew makes the next pulse if many nodes are active, else the calling thread; the parts are
-- joined only if exact labels are due
abbrev pub next_share : ℕ → ℕ → Bool → ℕ → Share → Share
next_share nodes active due crew share =
    if are_many nodes active then share_among crew else (if due then share_among 1 else record { parts = share.parts; handed = false })

-- The first pulse of a crew of one is made in one part. That of a larger crew is shared out as a
-- next pulse is, by the number of active nodes.
abbrev pub first_share : ℕ → ℕ → ℕ → Share → Share
first_share nodes active crew begun = if crew == 1 then share_among 1 else next_share nodes active false crew begun
