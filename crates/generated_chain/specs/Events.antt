-- The events of a run.
use Rattle.std.specs.Prelude.{ℕ, zero, suc, ◌+◌, ◌%◌, ◌==◌, Bool, true, false, List, [], ◌∷◌, ◌++◌}
use Rattle.nmc_base.specs.declared.chain_ends.Tip.{Tip}
use Rattle.chain_commands.specs.Event.{Connect, Disconnect, Datagram, Event, Do, Ask, Save}
use Rattle.generated_chain.specs.Blocks.{block_on, tip_with, number_at, drawn_stand, tip_at}
use Rattle.generated_chain.specs.Texts.{query_text}
use Rattle.generated_chain.specs.declared.run.Round.{Round}
use Rattle.generated_chain.specs.declared.stand.Stand.{Stand}

-- the block of this hash leaves the chain and joins it again
abbrev pub joined_again : Bool → (block hash : List ℕ) → List Event
joined_again false block hash = []
joined_again true block hash = Do (Disconnect hash) ∷ Do (Connect block) ∷ []

abbrev pub saved : Bool → List Event
saved false = []
saved true = Save ∷ []

-- a query comes twice
abbrev pub asked_twice : List ℕ → List Event
asked_twice query = Ask Datagram query ∷ Ask Datagram query ∷ []

-- the events of a round
abbrev pub events_of : Round → List Event
events_of round =
    Do (Connect round.block) ∷ (joined_again round.reconnects round.block round.hash.0 ++ (saved round.saves ++ asked_twice round.query))

-- the round of the block on a tip, which is about a name that stands so
abbrev pub round_on : Tip → (number : ℕ) → Stand → Round
round_on tip number stand =
    let block = block_on tip number stand in
    let height = tip.height + 1 in
    record {
      block = block;
      hash = (tip_with tip block).hash;
      reconnects = height % 20 == 0;
      saves = height % 50 == 0;
      query = query_text height number;
    }

-- the next round, behind so many blocks
abbrev pub round_at : (seed blocks : ℕ) → Round
round_at seed blocks = round_on (tip_at seed blocks) (number_at seed blocks) (drawn_stand seed blocks)

-- the events of so many blocks
abbrev pub generated_events : (blocks seed : ℕ) → List Event
generated_events zero seed = []
generated_events (suc blocks) seed = generated_events blocks seed ++ events_of (round_at seed blocks)
