-- The addresses that sockets are bound to.
use Rattle.std.specs.Prelude.{ℕ, List, [], ◌∷◌, take, map}
use Rattle.std.specs.Int.{w16, to_be_bytes}
use Rattle.system_io.specs.Net.{NetTold, Adds, asked}

-- 127.0.0.1, and behind it the number
abbrev pub loopback_bytes : ℕ → List ℕ
loopback_bytes number = 127 ∷ (0 ∷ (0 ∷ (1 ∷ to_be_bytes w16 number)))

-- was asked for this one
abbrev pub Asks : (old new : NetTold) → List ℕ → Type 0
Asks old new address = Adds old new (asked address ∷ [])

-- the addresses of a port of these numbers: datagrams, connections of clients, and the feed
abbrev pub port_addresses : (udp feed : ℕ) → List (List ℕ)
port_addresses udp feed = loopback_bytes udp ∷ (loopback_bytes udp ∷ (loopback_bytes feed ∷ []))

-- was asked for these, one after the other
abbrev pub AsksAll : (old new : NetTold) → List (List ℕ) → Type 0
AsksAll old new addresses = Adds old new (map asked addresses)

-- it was asked for the first of these, one after the other
abbrev pub AsksFirst : (old new : NetTold) → List (List ℕ) → Type 0
AsksFirst old new addresses = (n : ℕ) × AsksAll old new (take n addresses)
