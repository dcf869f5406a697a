-- The chains that survive commands are accepted, and so their indexes are sound.
use Rattle.std.proofs.Common.{◌≡◌, ℕ, ◌-◌, ◌<◌, drop, List, [], ◌∷◌, length, refl, sym, ap, subst, ◌∙◌, arith}
use Rattle.std.specs.Prelude.{Option, None, Some, Result, Ok, Err}
use Rattle.std.specs.List.{AllByRecursion}
use Rattle.block_grammar.specs.Block.{Block, IsBlock}
use Rattle.block_grammar.specs.Reading.{block_from}
use Rattle.block_grammar.specs.declared.kinds.BlockKind.{BlockKind}
use Rattle.block_grammar.proofs.BlockLaws.{block_again}
use Rattle.block_grammar.proofs.Statements.{block_read, fault_place}
use Rattle.nmc_base.specs.Heights.{highest}
use Rattle.chain_names.specs.Log.{behind_coinbase, transactions_read, log_of}
use Rattle.chain_names.specs.Index.{next_height, refused_in}
use Rattle.chain_names.specs.Changes.{Refused}
use Rattle.chain_names.specs.Sound.{IsAccepted, AreAccepted}
use Rattle.chain_commands.specs.Chain.{Chain, height_of, with_block, without_newest}
use Rattle.chain_commands.specs.Event.{Command, Connect, Disconnect}
use Rattle.chain_commands.specs.Connecting.{BadBlock, HeightLimit, Rule, IsValid, refused_on}
use Rattle.chain_commands.specs.Surviving.{is_done, stays, SurvivesCommand, Surviving, IsAllowedPayload, HasAllowedPayload, IsAcceptedChain}

module _ (chain : Chain) (bytes : List ℕ) (allowed : IsAllowedPayload bytes) (valid : IsValid ⊥ chain bytes) where
  -- where none of the refusals holds, the bytes are a block
  spelled : (read : Result Block (BlockKind × List ℕ)) → block_from bytes ≡ read → (block : Block) × IsBlock bytes block
  spelled (Ok block) is = (block, (block_read bytes block allowed.bytes).0 is)
  spelled (Err (kind, rest)) is = absurd (valid.none (BadBlock (length bytes - length rest)) (omega arith) (fault_place bytes kind rest allowed.bytes is))

  low_enough : height_of chain < highest
  low_enough = omega (arith, valid.none HeightLimit (omega arith))

  module _ (block : Block) (is : IsBlock bytes block) where
    none_refused : (first : Option Refused) → refused_on chain block ≡ first → refused_on chain block ≡ None
    none_refused None is_first = is_first
    none_refused (Some (index, refusal)) is_first =
        absurd (valid.none (Rule index refusal) (omega arith) (record { block = block; is_block = is; refused = is_first }))

    pub next_accepted : IsAccepted chain.base.profile chain.start chain.base.height bytes chain.blocks
    next_accepted = record {
      low = omega (arith, low_enough);
      content = block;
      is_block = is;
      short = allowed.short;
      unrefused =
          ap (λ ts. refused_in chain.base.profile (next_height chain.base.height chain.blocks) 1 (behind_coinbase ts) (log_of chain.start chain.base.height chain.blocks))
          (ap transactions_read (block_again bytes block is))
          ∙ none_refused (refused_on chain block) refl;
    }

  pub accepted_next : IsAcceptedChain chain → IsAcceptedChain (with_block chain bytes)
  accepted_next accepted = let read = spelled (block_from bytes) refl in (next_accepted read.0 read.1, accepted)

accepted_below : (chain : Chain) (blocks : List (List ℕ)) → chain.blocks ≡ blocks → IsAcceptedChain chain → IsAcceptedChain (without_newest chain)
accepted_below chain [] is accepted = subst (λ bs. AreAccepted chain.base.profile chain.start chain.base.height (drop 1 bs)) (sym is) (subst (AreAccepted chain.base.profile chain.start chain.base.height) is accepted)
accepted_below chain (block ∷ blocks) is accepted =
    subst (λ bs. AreAccepted chain.base.profile chain.start chain.base.height (drop 1 bs)) (sym is) (subst (AreAccepted chain.base.profile chain.start chain.base.height) is accepted).1

command_accepted : (command : Command) (old new : Chain) → HasAllowedPayload command → SurvivesCommand old command new → IsAcceptedChain old → IsAcceptedChain new
command_accepted (Connect bytes) old new allowed (is_done valid new_is) accepted = subst IsAcceptedChain (sym new_is) (accepted_next old bytes allowed valid accepted)
command_accepted (Connect bytes) old new allowed (stays refusal first new_is) accepted = subst IsAcceptedChain (sym new_is) accepted
command_accepted (Disconnect hash) old new allowed (is_done valid new_is) accepted = subst IsAcceptedChain (sym new_is) (accepted_below old old.blocks refl accepted)
command_accepted (Disconnect hash) old new allowed (stays refusal first new_is) accepted = subst IsAcceptedChain (sym new_is) accepted

pub survivor_accepted : (old new : Chain) (commands : List Command) → AllByRecursion HasAllowedPayload commands → Surviving old commands new → IsAcceptedChain old → IsAcceptedChain new
survivor_accepted old new [] allowed survives accepted = subst IsAcceptedChain (sym survives) accepted
survivor_accepted old new (command ∷ commands) allowed (mid, first, rest) accepted =
    survivor_accepted mid new commands allowed.1 rest (command_accepted command old mid allowed.0 first accepted)
