-- Disconnects: when the hash of a block is refused, with what, and what it leaves.
use Rattle.std.specs.Prelude.{◌≡◌, ◌≢◌, ℕ, List, []}
use Rattle.chain_commands.specs.Chain.{Chain, tip_hash}
use Rattle.chain_commands.specs.Event.{Disconnect}
use Rattle.chain_commands.specs.RunState.{RunState, chain_of, IsFull}
use Rattle.feed_frames.specs.Replies.{Reply}
use Rattle.chain_commands.specs.Refusals.{Refusals, IsFirst, HasNoneBelow, Answers, LeavesDone}

pub data BackRefusal : Type 0 where
  -- no block stands on the base
  AtBase : BackRefusal
  -- the hash is another block's than the tip's; the tip's hash
  NotTip : List ℕ → BackRefusal
  -- the journal has no room for the hash
  JournalFull : BackRefusal

-- the condition of a refusal alone, wherever it stands in the order
abbrev pub HoldsBack : (full : Type 0) → Chain → List ℕ → BackRefusal → Type 0
HoldsBack full chain hash AtBase = chain.blocks ≡ []
HoldsBack full chain hash (NotTip tip) = (hash ≢ tip_hash chain) × (tip ≡ tip_hash chain)
HoldsBack full chain hash JournalFull = full

abbrev pub back_order : BackRefusal → ℕ
back_order AtBase = 0
back_order (NotTip tip) = 1
back_order JournalFull = 2

abbrev pub back_reply : BackRefusal → Reply
back_reply AtBase = record { code = 7; payload = [] }
back_reply (NotTip tip) = record { code = 6; payload = tip }
back_reply JournalFull = record { code = 5; payload = [] }

-- base and tip are looked at before any memory is taken
abbrev pub disconnects : Refusals BackRefusal
disconnects = record { order = back_order; places = 3; before_memory = 2; reply_of = back_reply }

-- the refusal of the hash on the chain, where the journal is as full as this
abbrev pub RefusesBack : (full : Type 0) → Chain → List ℕ → BackRefusal → Type 0
RefusesBack full chain hash refusal = IsFirst (HoldsBack full chain hash) back_order refusal

abbrev pub IsValidBack : (full : Type 0) → Chain → List ℕ → Type 0
IsValidBack full chain hash = HasNoneBelow (HoldsBack full chain hash) back_order disconnects.places

abbrev pub TakesMemoryBack : (full : Type 0) → Chain → List ℕ → Type 0
TakesMemoryBack full chain hash = HasNoneBelow (HoldsBack full chain hash) back_order disconnects.before_memory

-- from the old state the machine may give this reply to the hash and go on to the new state
abbrev pub Disconnects : RunState → List ℕ → Reply → RunState → Type 0
Disconnects old hash reply new =
    Answers disconnects (HoldsBack (IsFull old (Disconnect hash)) (chain_of old) hash) (LeavesDone old (Disconnect hash)) old reply new
