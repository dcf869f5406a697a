-- What a poll of sockets brings.
use Rattle.std.specs.Prelude.{◌≡◌, ℕ, ◌<◌, ◌≤◌, Result, Ok, IfOk}
use Rattle.byte_io.specs.declared.port.Polled.{Polled}
use Rattle.byte_io.specs.declared.port.Polled.TheVariants as polls

-- it is no fault, and its bytes, where it has some, fit in so much room
abbrev pub IsWithin : Polled → ℕ → Type 0
IsWithin (polls.Query client n) room = n ≤ room
IsWithin (polls.Stream client n) room = n ≤ room
IsWithin (polls.StreamEnd client) room = Unit {0}
IsWithin (polls.Feed n) room = n ≤ room
IsWithin polls.FeedEnd room = Unit {0}
IsWithin polls.Nothing room = Unit {0}
IsWithin polls.Failed room = ⊥

-- what it brings of a client's connection is of this one
abbrev pub IsOnlyOf : ℕ → Polled → Type 0
IsOnlyOf client (polls.Stream from n) = from ≡ client
IsOnlyOf client (polls.StreamEnd from) = from ≡ client
IsOnlyOf client polled = Unit {0}

-- what it brings of a client's bytes is what was read, and nothing is brought but that or an end
abbrev pub IsOfRead : {E : Type 0} → Result ℕ E → Polled → Type 0
IsOfRead read (polls.Query client n) = ⊥
IsOfRead read (polls.Stream client n) = (read ≡ Ok n) × (0 < n)
IsOfRead read (polls.StreamEnd client) = IfOk read (λ n. n ≡ 0)
IsOfRead read (polls.Feed n) = ⊥
IsOfRead read polls.FeedEnd = ⊥
IsOfRead read polls.Nothing = IfOk read (λ n. ⊥)
IsOfRead read polls.Failed = ⊥

-- the same of the feed
abbrev pub IsOfFeed : {E : Type 0} → Result ℕ E → Polled → Type 0
IsOfFeed read (polls.Query client n) = ⊥
IsOfFeed read (polls.Stream client n) = ⊥
IsOfFeed read (polls.StreamEnd client) = ⊥
IsOfFeed read (polls.Feed n) = (read ≡ Ok n) × (0 < n)
IsOfFeed read polls.FeedEnd = IfOk read (λ n. n ≡ 0)
IsOfFeed read polls.Nothing = IfOk read (λ n. ⊥)
IsOfFeed read polls.Failed = ⊥
