-- What a command or a save of a run that was refused has as its cause, and where one leads that was accepted.
use Rattle.std.proofs.Common.{◌≡◌, ◌≢◌, ℕ, suc, ◌<◌, ◌≤◌, List, [], ◌∷◌, refl, sym, ap, subst, ◌∙◌, arith, inl, inr}
use Rattle.block_grammar.specs.Block.{block_hash}
use Rattle.feed_frames.specs.Replies.{Reply}
use Rattle.chain_commands.specs.Chain.{Chain, tip_hash, without_newest, with_block}
use Rattle.chain_commands.specs.Event.{Command, Connect, Disconnect, Event, Do}
use Rattle.chain_commands.specs.RunState.{RunState, accepted, chain_of, IsFull}
use Rattle.chain_commands.specs.Reply.{no_memory_reply}
use Rattle.chain_commands.specs.Refusals.{accepts, declines, lacks_memory}
use Rattle.chain_commands.specs.Connecting.{BadBlock, Connects, HeightLimit, Holds, IsValid, MerkleMismatch, NotOnTip, Refusal, Rule}
use Rattle.chain_commands.specs.Connecting as connecting
use Rattle.chain_commands.specs.Disconnecting.{AtBase, BackRefusal, Disconnects, HoldsBack, NotTip}
use Rattle.chain_commands.specs.Disconnecting as disconnecting
use Rattle.chain_commands.specs.Saving.{CheckpointLimit, HasLongText, HoldsSave, ImageLimit, SaveRefusal, Saves, longest_image, most_selections}
use Rattle.chain_commands.proofs.RefusalLemmas.{code_of}
use Rattle.generated_validity.specs.Carried.{HaveOneTxid}
use Rattle.generated_validity.specs.Blocks.{block_behind, blocks_behind}
use Rattle.generated_validity.specs.Causes.{HasCause, alike, chain_behind, full, long}
use Rattle.generated_validity.proofs.Chains.{later_txid}
use Rattle.generated_validity.proofs.Validity.{valid_or}

-- a code that isn't that of an acceptance, nor of want of memory
pub record IsOther (reply : Reply) : Type 0 where
  pub not_done : reply.code ≢ 0
  pub had_memory : reply.code ≢ no_memory_reply.code

-- ---- a connect

-- a valid block has no refusal but that of a full area
only_full : (is_full : Type 0) (chain : Chain) (bytes : List ℕ) → IsValid ⊥ chain bytes → (refusal : Refusal) → Holds is_full chain bytes refusal → is_full
only_full is_full chain bytes valid (BadBlock place) holds = absurd (valid.none (BadBlock place) (omega arith) holds)
only_full is_full chain bytes valid (NotOnTip tip) holds = absurd (valid.none (NotOnTip tip) (omega arith) holds)
only_full is_full chain bytes valid HeightLimit holds = absurd (valid.none HeightLimit (omega arith) holds)
only_full is_full chain bytes valid (MerkleMismatch computed) holds = absurd (valid.none (MerkleMismatch computed) (omega arith) holds)
only_full is_full chain bytes valid (Rule index refusal) holds = absurd (valid.none (Rule index refusal) (omega arith) holds)
only_full is_full chain bytes valid connecting.JournalFull holds = holds

module _ (old new : RunState) (bytes : List ℕ) (reply : Reply) (other : IsOther reply) where
  refused_full : IsValid ⊥ (chain_of old) bytes → Connects old bytes reply new → IsFull old (Connect bytes)
  refused_full valid (accepts none done) = absurd (other.not_done (code_of _ _ done.told))
  refused_full valid (declines refusal first same told) = only_full (IsFull old (Connect bytes)) (chain_of old) bytes valid refusal first.holds
  refused_full valid (lacks_memory none same told) = absurd (other.had_memory (code_of _ _ told))

pub connect_cause : (seed n : ℕ) (old new : RunState) (reply : Reply) → suc n < 65536 → chain_of old ≡ chain_behind seed n → IsOther reply
    → Connects old (block_behind seed n) reply new → HasCause seed (suc n) old (Do (Connect (block_behind seed n)))
connect_cause seed n old new reply low chain other step =
    elim (valid_or seed n low) [
      | inl same ↦ alike (Do (Connect (block_behind seed n))) same
      | inr valid ↦ full (Connect (block_behind seed n))
          (refused_full old new (block_behind seed n) reply other (subst (λ (c : Chain). IsValid ⊥ c (block_behind seed n)) (sym chain) valid) step)
    ]

-- ---- a disconnect

module _ (seed n : ℕ) (old new : RunState) (hash : List ℕ) (reply : Reply) (chain : chain_of old ≡ chain_behind seed (suc n)) (is : hash ≡ block_hash (block_behind seed n)) where
  some_block : chain_behind seed (suc n) ≡ record (chain_behind seed n) { blocks = block_behind seed n ∷ blocks_behind seed n }
  unfolding blocks_behind
  some_block = refl

  only_full_back : (is_full : Type 0) (refusal : BackRefusal) → HoldsBack is_full (chain_of old) hash refusal → is_full
  only_full_back is_full AtBase holds =
      let none : block_behind seed n ∷ blocks_behind seed n ≡ [] = sym (ap (λ (c : Chain). c.blocks) (chain ∙ some_block)) ∙ holds in
      absurd cc
  only_full_back is_full (NotTip tip) holds = absurd (holds.0 (is ∙ sym (ap tip_hash (chain ∙ some_block))))
  only_full_back is_full disconnecting.JournalFull holds = holds

  pub disconnect_cause : IsOther reply → Disconnects old hash reply new → IsFull old (Disconnect hash)
  disconnect_cause other (accepts none done) = absurd (other.not_done (code_of _ _ done.told))
  disconnect_cause other (declines refusal first same told) = only_full_back (IsFull old (Disconnect hash)) refusal first.holds
  disconnect_cause other (lacks_memory none same told) = absurd (other.had_memory (code_of _ _ told))

  pub one_less : chain_of (accepted old (Disconnect hash)) ≡ chain_behind seed n
  one_less = ap without_newest (chain ∙ some_block)

pub one_more : (seed n : ℕ) (old : RunState) → chain_of old ≡ chain_behind seed n → chain_of (accepted old (Connect (block_behind seed n))) ≡ chain_behind seed (suc n)
unfolding blocks_behind
one_more seed n old chain = ap (λ (c : Chain). with_block c (block_behind seed n)) chain

-- ---- a save

only_long : (run : RunState) → run.selections < most_selections → (refusal : SaveRefusal) → HoldsSave run refusal → HasLongText longest_image (chain_of run)
only_long run few CheckpointLimit holds = absurd (omega (arith, few, holds))
only_long run few ImageLimit holds = holds

pub save_cause : (old new : RunState) (reply : Reply) → old.selections < most_selections → IsOther reply → Saves old reply new → HasLongText longest_image (chain_of old)
save_cause old new reply few other (accepts none done) = absurd (other.not_done (code_of _ _ done.told))
save_cause old new reply few other (declines refusal first same told) = only_long old few refusal first.holds
save_cause old new reply few other (lacks_memory none same told) = absurd (other.had_memory (code_of _ _ told))

-- ---- of more blocks

pub later_cause : (seed n m : ℕ) (run : RunState) (event : Event) → n ≤ m → HasCause seed n run event → HasCause seed m run event
later_cause seed n m run event le (full command is) = full command is
later_cause seed n m run event le (long is) = long is
later_cause seed n m run event le (alike other same) = alike other (later_txid seed n m le same)

-- where the area has room and the text isn't too long, one cause is left
pub one_cause : (seed n : ℕ) (run : RunState) (event : Event) → ((command : Command) → event ≡ Do command → ¬ (IsFull run command)) → ¬ (HasLongText longest_image (chain_of run)) → HasCause seed n run event
    → HaveOneTxid seed n
one_cause seed n run event room short (full command is) = absurd (room command refl is)
one_cause seed n run event room short (long is) = absurd (short is)
one_cause seed n run event room short (alike other same) = same
