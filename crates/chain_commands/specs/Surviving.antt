-- The chain that commands leave, whoever answered them.
use Rattle.std.specs.Prelude.{◌≡◌, ℕ, ◌<◌, ◌≤◌, List, [], ◌∷◌, length, slice_index, ◌==◌, if◌then◌else◌}
use Rattle.nmc_base.specs.declared.limits.TheConstants.{LONGEST_BLOCK}
use Rattle.chain_names.specs.Sound.{AreAccepted}
use Rattle.chain_commands.specs.Chain.{Chain}
use Rattle.chain_commands.specs.Event.{Command, Connect, Disconnect, Event, Do, Ask, Save}
use Rattle.chain_commands.specs.RunState.{after_command}
use Rattle.feed_frames.specs.Replies.{Reply}
use Rattle.chain_commands.specs.Refusals.{Refusals, IsFirst, HasNoneBelow}
use Rattle.chain_commands.specs.Connecting.{connects, Holds}
use Rattle.chain_commands.specs.Disconnecting.{disconnects, HoldsBack}

-- a command without a refusal is done; one that has a refusal changes nothing
pub data Survives {R : Type 0} (refusals : Refusals R) (Holds : R → Type 0) (old done new : Chain) : Type 0 where
  is_done : HasNoneBelow Holds refusals.order refusals.places → new ≡ done → Survives refusals Holds old done new
  stays : (refusal : R) → IsFirst Holds refusals.order refusal → new ≡ old → Survives refusals Holds old done new

-- no journal is full here
abbrev pub SurvivesCommand : Chain → Command → Chain → Type 0
SurvivesCommand old (Connect block) new = Survives connects (Holds ⊥ old block) old (after_command old (Connect block)) new
SurvivesCommand old (Disconnect hash) new = Survives disconnects (HoldsBack ⊥ old hash) old (after_command old (Disconnect hash)) new

-- the chain that these commands leave, of old: the surviving chain
abbrev pub Surviving : Chain → List Command → Chain → Type 0
Surviving old [] new = new ≡ old
Surviving old (command ∷ commands) new = (mid : Chain) × SurvivesCommand old command mid × Surviving mid commands new

-- the payload of a connect is at most 8,388,608 bytes long
pub record IsAllowedPayload (payload : List ℕ) : Type 0 where
  pub short : length payload ≤ LONGEST_BLOCK
  pub bytes : (i : ℕ) → slice_index payload i < 256

abbrev pub HasAllowedPayload : Command → Type 0
HasAllowedPayload (Connect block) = IsAllowedPayload block
HasAllowedPayload (Disconnect hash) = Unit {0}

-- its start list and its blocks are accepted
abbrev pub IsAcceptedChain : Chain → Type 0
IsAcceptedChain chain = AreAccepted chain.base.profile chain.start chain.base.height chain.blocks

-- the commands whose reply has code 0; a query is none, and a save neither
abbrev pub accepted_of : List Event → List Reply → List Command
accepted_of [] replies = []
accepted_of (event ∷ events) [] = []
accepted_of (Do command ∷ events) (reply ∷ replies) =
    if reply.code == 0 then command ∷ accepted_of events replies else accepted_of events replies
accepted_of (Ask carrier message ∷ events) (reply ∷ replies) = accepted_of events replies
accepted_of (Save ∷ events) (reply ∷ replies) = accepted_of events replies
