-- What the streams are, once the message that was given is let go.
use Rattle.std.specs.Prelude.{⊤, ℕ, List, Option}
use Rattle.std.specs.Borrow.{Bor, Fml, MutBor, follows_so}
use mathlib.Core.Option.{none}
use Rattle.dns_tcp.specs.Streams.{Stream, Gives}
use Rattle.dns_tcp.specs.contracts.streams.Streams.{the_row}

abbrev pub ends_as : MutBor (List Stream) → ℕ → Option (Bor (List ℕ)) → Fml
ends_as streams client result = follows_so the_row the_row streams.ghost_name none (λ _ _. ⊤) (λ new. Gives client streams.now new result)
