-- What an index takes is what the chains allow that it stands for.
use Rattle.std.proofs.Common.{◌≡◌, ℕ, List, [], ◌∷◌, drop, refl, sym, ◌∙◌, subst, arith}
use Rattle.block_grammar.specs.Block.{Block, IsBlock}
use Rattle.chain_state.specs.Chain.{Indexed, rule_refused}
use Rattle.chain_state.specs.Standing.{StandsForChain}
use Rattle.chain_state.specs.declared.back.BackRefusal.TheVariants as code_back
use Rattle.chain_commands.specs.Chain.{Chain, tip_hash, without_newest}
use Rattle.chain_commands.specs.Event.{Command, Connect, Disconnect}
use Rattle.chain_commands.specs.RunState.{after_command}
use Rattle.chain_commands.specs.Connecting as connecting
use Rattle.chain_commands.specs.Connecting.{refused_on, Holds}
use Rattle.chain_commands.specs.Disconnecting as disconnecting
use Rattle.chain_commands.specs.Disconnecting.{HoldsBack}
use Rattle.chain_commands.proofs.CommandLemmas.{placed, placed_back}
use Rattle.chain_state.proofs.StandingLemmas.{refused_alike, connects, disconnects}
use Rattle.chain_state.proofs.RefusalLemmas.{back_by_chain, back_by_index}
use Rattle.index_commands.specs.Standing.{StandsFor}
use Rattle.index_commands.specs.Allowed.{IsAllowed}
use Rattle.index_commands.specs.Taking.{HoldsOn, HoldsBackOn, IsTakenBy, TakesCommand, TakesDisconnect}
use Rattle.index_commands.proofs.ChainTips.{index_tip, rule_of_bytes}
use Rattle.index_commands.proofs.TakenLemmas.{same_self, taken}

module _ (index : Indexed) (chain : Chain) (stands : StandsFor index chain) where
  tip_is : index.tip.hash.0 ≡ tip_hash chain
  tip_is = index_tip index chain stands

  -- ---- each refusal both ways

  rule_is : (bytes : List ℕ) (block : Block) → IsBlock bytes block → rule_refused index block ≡ refused_on chain block
  rule_is bytes block is = refused_alike chain.base chain.start chain.blocks index stands bytes block is ∙ rule_of_bytes chain bytes block is

  by_chain : (bytes : List ℕ) (refusal : connecting.Refusal) → HoldsOn index bytes refusal → Holds ⊥ chain bytes refusal
  by_chain bytes (connecting.BadBlock place) h = h
  by_chain bytes (connecting.NotOnTip tip) h = (record { block = h.0.block; is_block = h.0.is_block; off = λ e. h.0.off (e ∙ sym tip_is) }, h.1 ∙ tip_is)
  by_chain bytes connecting.HeightLimit h = omega (arith, h, stands.height)
  by_chain bytes (connecting.MerkleMismatch computed) h = h
  by_chain bytes (connecting.Rule tx refusal) h = record { block = h.block; is_block = h.is_block; refused = sym (rule_is bytes h.block h.is_block) ∙ h.refused }
  by_chain bytes connecting.JournalFull h = h

  by_index : (bytes : List ℕ) (refusal : connecting.Refusal) → Holds ⊥ chain bytes refusal → HoldsOn index bytes refusal
  by_index bytes (connecting.BadBlock place) h = h
  by_index bytes (connecting.NotOnTip tip) h = (record { block = h.0.block; is_block = h.0.is_block; off = λ e. h.0.off (e ∙ tip_is) }, h.1 ∙ sym tip_is)
  by_index bytes connecting.HeightLimit h = omega (arith, h, stands.height)
  by_index bytes (connecting.MerkleMismatch computed) h = h
  by_index bytes (connecting.Rule tx refusal) h = record { block = h.block; is_block = h.is_block; refused = rule_is bytes h.block h.is_block ∙ h.refused }
  by_index bytes connecting.JournalFull h = h

  back_chain : (hash : List ℕ) (refusal : disconnecting.BackRefusal) → HoldsBackOn index hash refusal → HoldsBack ⊥ chain hash refusal
  back_chain hash disconnecting.AtBase h = back_by_chain chain.base chain.start chain.blocks index stands index.tip.hash code_back.AtBase h
  back_chain hash (disconnecting.NotTip tip) h = ((λ e. h.0 (e ∙ sym tip_is)), h.1 ∙ tip_is)
  back_chain hash disconnecting.JournalFull h = h

  back_index : (hash : List ℕ) (refusal : disconnecting.BackRefusal) → HoldsBack ⊥ chain hash refusal → HoldsBackOn index hash refusal
  back_index hash disconnecting.AtBase h = back_by_index chain.base chain.start chain.blocks index stands index.tip.hash code_back.AtBase h
  back_index hash (disconnecting.NotTip tip) h = ((λ e. h.0 (e ∙ tip_is)), h.1 ∙ sym tip_is)
  back_index hash disconnecting.JournalFull h = h

  -- ---- so of commands

  pub allowed_if : (command : Command) → IsTakenBy index command → IsAllowed chain command
  allowed_if (Connect bytes) is = (record { none = λ refusal low h. is.0 refusal (by_index bytes refusal h) }, is.1)
  allowed_if (Disconnect hash) is = (record { none = λ refusal low h. is.0 refusal (back_index hash refusal h) }, is.1)

  pub taken_if : (command : Command) → IsAllowed chain command → IsTakenBy index command
  taken_if (Connect bytes) is = ((λ refusal h. is.0.none refusal (placed refusal) (by_chain bytes refusal h)), is.1)
  taken_if (Disconnect hash) is = ((λ refusal h. is.0.none refusal (placed_back refusal) (back_chain hash refusal h)), is.1)

  -- ---- what comes of them

  below_stands : (blocks : List (List ℕ)) → chain.blocks ≡ blocks → (hash : List ℕ) (new : Indexed) → TakesDisconnect index hash new → StandsFor new (without_newest chain)
  below_stands [] none hash new takes = absurd ((taken index new (Disconnect hash) takes).0 disconnecting.AtBase (back_index hash disconnecting.AtBase none))
  below_stands (block ∷ blocks) some hash new takes =
      subst (λ (bs : List (List ℕ)). StandsForChain chain.base chain.start (drop 1 bs) new) (sym some)
      (disconnects index new (record { staged = index; hash = index.tip.hash; on = record { above = λ none. (taken index new (Disconnect hash) takes).0 disconnecting.AtBase none; hash_is = refl; same = same_self index }; gone = takes.disconnected })
      chain.base chain.start block blocks (subst (λ (bs : List (List ℕ)). StandsForChain chain.base chain.start bs index) some stands))

  pub stands_behind : (command : Command) (new : Indexed) → TakesCommand index command new → StandsFor new (after_command chain command)
  stands_behind (Connect bytes) new takes =
      connects chain.base chain.start chain.blocks bytes index takes.staged (record { stands = stands; block = takes.takes.block; is_block = takes.takes.is_block; short = takes.short; on = takes.takes.on }) new takes.connected
  stands_behind (Disconnect hash) new takes = below_stands chain.blocks refl hash new takes
