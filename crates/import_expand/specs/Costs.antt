-- What is held for one message costs.
use Rattle.std.specs.Prelude.{ℕ, ◌+◌}
use Rattle.serde_json.specs.Data.{Members}
use Rattle.ifa_value.specs.Sizes.{members_size}

-- an entry that was taken out of its map: its members, and its two brackets
abbrev pub entry_size : Members → ℕ
entry_size ms = members_size ms + 2
