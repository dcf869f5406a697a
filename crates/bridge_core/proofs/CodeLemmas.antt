-- The codes of replies: code 0 is that of an acceptance alone, and code FD that of a fault alone.
use Rattle.std.proofs.Common.{◌≡◌, ◌≤◌, sym, ◌∙◌, arith}
use Rattle.feed_frames.specs.Replies.{Reply}
use Rattle.chain_names.specs.declared.refusal.RuleRefusal.{RuleRefusal}
use Rattle.chain_names.specs.declared.refusal.RuleRefusal.TheVariants.{MultipleNameInputs, MultipleNameOutputs, PlainWithNameInput, PlainWithNameOutput, NameWithoutOutput, Greedy, NewWithNameInput, NewWrongSize, UpdateWithoutInput, NameTooLong, ValueTooLong, UpdateOfNew, NameMismatch, FirstNotFromNew, Immature, RandTooLong, CommitMismatch, NameTaken, DuplicateOutpoint}
use Rattle.chain_names.specs.Refusals.{number_of}
use Rattle.chain_commands.specs.Connecting.{Refusal, BadBlock, NotOnTip, HeightLimit, MerkleMismatch, Rule, JournalFull, refusal_reply}
use Rattle.chain_commands.specs.Disconnecting as back
use Rattle.chain_commands.specs.Disconnecting.{BackRefusal, AtBase, NotTip, back_reply}
use Rattle.chain_commands.specs.Saving.{SaveRefusal, CheckpointLimit, ImageLimit, save_refusal_reply}
use Rattle.chain_commands.proofs.CommandLemmas.{coded, coded_back}
use Rattle.chain_commands.proofs.RefusalLemmas.{code_of}
use Rattle.chain_commands.proofs.SavingLemmas.{coded_save}
use Rattle.index_commands.specs.Views.{refusal_of, back_refusal_of}
use Rattle.index_commands.specs.declared.staged.CommandRefusal.{CommandRefusal}
use Rattle.index_commands.specs.declared.staged.CommandRefusal.TheVariants as refused
use Rattle.bridge_core.specs.Bridge.{IsUndone, fault_code}
use Rattle.bridge_core.specs.CommandReply.{command_reply}

-- a rule's number
numbered : (r : RuleRefusal) → number_of r ≤ 28
numbered MultipleNameInputs = omega arith
numbered MultipleNameOutputs = omega arith
numbered PlainWithNameInput = omega arith
numbered PlainWithNameOutput = omega arith
numbered NameWithoutOutput = omega arith
numbered Greedy = omega arith
numbered NewWithNameInput = omega arith
numbered NewWrongSize = omega arith
numbered UpdateWithoutInput = omega arith
numbered NameTooLong = omega arith
numbered ValueTooLong = omega arith
numbered UpdateOfNew = omega arith
numbered NameMismatch = omega arith
numbered FirstNotFromNew = omega arith
numbered Immature = omega arith
numbered RandTooLong = omega arith
numbered CommitMismatch = omega arith
numbered NameTaken = omega arith
numbered DuplicateOutpoint = omega arith

pub refusal_small : (r : Refusal) → (refusal_reply r).code ≤ 28
refusal_small (BadBlock place) = omega arith
refusal_small (NotOnTip tip) = omega arith
refusal_small HeightLimit = omega arith
refusal_small (MerkleMismatch computed) = omega arith
refusal_small (Rule index refusal) = numbered refusal
refusal_small JournalFull = omega arith

pub back_small : (r : BackRefusal) → (back_reply r).code ≤ 28
back_small AtBase = omega arith
back_small (NotTip tip) = omega arith
back_small back.JournalFull = omega arith

pub save_small : (r : SaveRefusal) → (save_refusal_reply r).code ≤ 30
save_small CheckpointLimit = omega arith
save_small ImageLimit = omega arith

no_fault : (a b : Reply) → a ≡ b → b.code ≤ 30 → a.code ≡ fault_code → ⊥
no_fault a b e small is = let same = code_of a b e in omega (arith, small, same, is)

module _ (reply : Reply) where
  refused_undone : (r : Refusal) → reply ≡ refusal_reply r → IsUndone reply
  refused_undone r e =
      let small = refusal_small r in
      (λ done. coded r (sym (code_of reply (refusal_reply r) e) ∙ done), no_fault reply (refusal_reply r) e (omega (arith, small)))

  back_undone : (r : BackRefusal) → reply ≡ back_reply r → IsUndone reply
  back_undone r e =
      let small = back_small r in
      (λ done. coded_back r (sym (code_of reply (back_reply r) e) ∙ done), no_fault reply (back_reply r) e (omega (arith, small)))

  pub save_undone : (r : SaveRefusal) → reply ≡ save_refusal_reply r → IsUndone reply
  save_undone r e = (λ done. coded_save r (sym (code_of reply (save_refusal_reply r) e) ∙ done), no_fault reply (save_refusal_reply r) e (save_small r))

  pub command_undone : (r : CommandRefusal) → reply ≡ command_reply r → IsUndone reply
  command_undone (refused.Connect r) e = refused_undone (refusal_of r) e
  command_undone (refused.Disconnect r) e = back_undone (back_refusal_of r) e
