-- No area of a run is full.
use Rattle.std.proofs.Common.{◌≡◌, ℕ, zero, suc, ◌<◌, ◌≤◌, ◌⊎◌, length, sym, ap, subst, ◌∙◌, arith, inl, inr}
use Rattle.std.proofs.lemmas.Bool.{cases_eq}
use Rattle.nmc_base.specs.declared.limits.TheConstants.{LONGEST_BLOCK}
use Rattle.feed_frames.specs.Replies.{Reply}
use Rattle.chain_commands.specs.Event.{Command}
use Rattle.chain_commands.specs.RunState.{RunState, IsFull, accepted, area_of, record_length}
use Rattle.chain_commands.specs.Refusals.{accepts, declines, lacks_memory}
use Rattle.chain_commands.specs.Saving.{ImageLimit, Saves, longest_image}
use Rattle.chain_commands.proofs.RefusalLemmas.{code_of, lacking_code}
use Rattle.chain_commands.proofs.SavingLemmas.{coded_save}
use Rattle.generated_validity.specs.Carried.{HaveOneTxid}
use Rattle.generated_validity.specs.Blocks.{block_behind}
use Rattle.generated_validity.specs.Lengths.{longest_behind, longest_record, most_requests}
use Rattle.generated_validity.proofs.Blocks.{block_short}
use Rattle.generated_validity.proofs.Chains.{goes_or, later_txid}

-- ---- blocks

abbrev pub AreShortBlocks : (seed blocks : ℕ) → Type 0
AreShortBlocks seed blocks = (below : ℕ) → below < blocks → length (block_behind seed below) ≤ LONGEST_BLOCK

module _ (seed n : ℕ) (short : AreShortBlocks seed n) (next : length (block_behind seed n) ≤ LONGEST_BLOCK) where
  blocks_next : AreShortBlocks seed (suc n)
  blocks_next below lt =
      elim (cases_eq below n) [
        | inl same ↦ subst (λ (k : ℕ). length (block_behind seed k) ≤ LONGEST_BLOCK) (sym same) next
        | inr other ↦ short below (omega (arith, lt, other))
      ]

pub blocks_short : (seed n : ℕ) → n < 65536 → HaveOneTxid seed n ⊎ AreShortBlocks seed n
blocks_short seed zero low = inr (λ below lt. absurd (omega (arith, lt)))
blocks_short seed (suc n) low =
    elim (goes_or seed n low) [
      | inl same ↦ inl same
      | inr g ↦ elim (blocks_short seed n (omega (arith, low))) [
        | inl same ↦ inl (later_txid seed n (suc n) (omega arith) same)
        | inr short ↦ inr (blocks_next seed n short (block_short seed n g.fits (omega (arith, low))))
      ]
    ]

-- ---- areas

-- a record more
pub room_next : (run : RunState) (command : Command) (requests : ℕ) → area_of run ≤ longest_behind requests → record_length command ≤ longest_record
    → area_of (accepted run command) ≤ longest_behind (suc requests)
room_next run command requests room short = omega (arith, room, short)

pub not_full : (run : RunState) (command : Command) (requests : ℕ) → requests < most_requests → area_of run ≤ longest_behind requests → record_length command ≤ longest_record
    → ¬ (IsFull run command)
not_full run command requests few room short is = omega (arith, is, few, room, short)

pub saved_room : (old new : RunState) (reply : Reply) → reply.code ≡ 0 → Saves old reply new → area_of new ≤ longest_behind 0
saved_room old new reply is_zero (accepts none done) =
    let text = done.is_saved.text in
    let short : ¬ (longest_image < length text) = λ long. none.none ImageLimit (omega arith) (record { text = text; is_text = done.is_saved.is_text; long = long }) in
    let fits : length text ≤ longest_image = omega (arith, short) in
    omega (arith, fits, ap area_of done.is_saved.state_is)
saved_room old new reply is_zero (declines refusal first same told) = absurd (coded_save refusal (sym (code_of _ _ told) ∙ is_zero))
saved_room old new reply is_zero (lacks_memory none same told) = absurd (lacking_code (sym (code_of _ _ told) ∙ is_zero))
