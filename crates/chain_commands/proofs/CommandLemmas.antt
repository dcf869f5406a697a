-- The refusals of each command: one at a place, each with a code of its own, whatever the journal holds.
use Rattle.std.proofs.Common.{◌≡◌, ℕ, ◌<◌, List, Some, refl, ap, ◌∙◌, sym, arith}
use Rattle.block_grammar.specs.Block.{block_text, FitsBlock}
use Rattle.block_grammar.specs.Merkle.{block_root}
use Rattle.block_grammar.proofs.PlaceLaws.{one_place}
use Rattle.block_grammar.proofs.Statements.{same_block}
use Rattle.chain_names.specs.Changes.{Refused}
use Rattle.chain_names.specs.declared.refusal.RuleRefusal.{RuleRefusal}
use Rattle.chain_names.specs.declared.refusal.RuleRefusal.TheVariants.{MultipleNameInputs, MultipleNameOutputs, PlainWithNameInput, PlainWithNameOutput, NameWithoutOutput, Greedy, NewWithNameInput, NewWrongSize, UpdateWithoutInput, NameTooLong, ValueTooLong, UpdateOfNew, NameMismatch, FirstNotFromNew, Immature, RandTooLong, CommitMismatch, NameTaken, DuplicateOutpoint}
use Rattle.chain_names.specs.Refusals.{number_of}
use Rattle.chain_commands.specs.Chain.{Chain}
use Rattle.chain_commands.specs.Connecting.{Refusal, BadBlock, NotOnTip, HeightLimit, MerkleMismatch, Rule, JournalFull, refused_on, Holds, order_of, refusal_reply}
use Rattle.chain_commands.specs.Disconnecting as back
use Rattle.chain_commands.specs.Disconnecting.{BackRefusal, AtBase, NotTip, HoldsBack, back_order, back_reply}

-- ---- a connect

same_rule : (first second : Refused) → Some first ≡ Some second → Rule first.0 first.1 ≡ Rule second.0 second.1
same_rule first second e =
    let same : first ≡ second = cc in
    ap (λ (r : Refused). Rule r.0 r.1) same

module _ (full : Type 0) (chain : Chain) (bytes : List ℕ) where
  pub one_at_place : (r s : Refusal) → Holds full chain bytes r → Holds full chain bytes s → order_of r ≡ order_of s → r ≡ s
  one_at_place (BadBlock p) (BadBlock q) hr hs e = ap BadBlock (one_place block_text FitsBlock bytes p q hr.first hs.first)
  one_at_place (NotOnTip t) (NotOnTip u) hr hs e = ap NotOnTip (hr.1 ∙ sym hs.1)
  one_at_place HeightLimit HeightLimit hr hs e = refl
  one_at_place (MerkleMismatch a) (MerkleMismatch b) hr hs e =
      ap MerkleMismatch (hr.computed_is ∙ ap block_root (same_block bytes hr.block hs.block hr.is_block hs.is_block) ∙ sym hs.computed_is)
  one_at_place (Rule i a) (Rule j b) hr hs e =
      same_rule (i, a) (j, b) (sym hr.refused ∙ ap (refused_on chain) (same_block bytes hr.block hs.block hr.is_block hs.is_block) ∙ hs.refused)
  one_at_place JournalFull JournalFull hr hs e = refl
  one_at_place r s hr hs e = absurd (omega arith)

  pub without_journal : (r : Refusal) → Holds ⊥ chain bytes r → Holds full chain bytes r
  without_journal (BadBlock place) h = h
  without_journal (NotOnTip tip) h = h
  without_journal HeightLimit h = h
  without_journal (MerkleMismatch computed) h = h
  without_journal (Rule index refusal) h = h
  without_journal JournalFull h = absurd h

pub placed : (r : Refusal) → order_of r < 6
placed (BadBlock place) = omega arith
placed (NotOnTip tip) = omega arith
placed HeightLimit = omega arith
placed (MerkleMismatch computed) = omega arith
placed (Rule index refusal) = omega arith
placed JournalFull = omega arith

-- no rule has the number of an acceptance
numbered : (r : RuleRefusal) → number_of r ≡ 0 → ⊥
numbered MultipleNameInputs e = omega (arith, e)
numbered MultipleNameOutputs e = omega (arith, e)
numbered PlainWithNameInput e = omega (arith, e)
numbered PlainWithNameOutput e = omega (arith, e)
numbered NameWithoutOutput e = omega (arith, e)
numbered Greedy e = omega (arith, e)
numbered NewWithNameInput e = omega (arith, e)
numbered NewWrongSize e = omega (arith, e)
numbered UpdateWithoutInput e = omega (arith, e)
numbered NameTooLong e = omega (arith, e)
numbered ValueTooLong e = omega (arith, e)
numbered UpdateOfNew e = omega (arith, e)
numbered NameMismatch e = omega (arith, e)
numbered FirstNotFromNew e = omega (arith, e)
numbered Immature e = omega (arith, e)
numbered RandTooLong e = omega (arith, e)
numbered CommitMismatch e = omega (arith, e)
numbered NameTaken e = omega (arith, e)
numbered DuplicateOutpoint e = omega (arith, e)

pub coded : (r : Refusal) → (refusal_reply r).code ≡ 0 → ⊥
coded (BadBlock place) e = omega (arith, e)
coded (NotOnTip tip) e = omega (arith, e)
coded HeightLimit e = omega (arith, e)
coded (MerkleMismatch computed) e = omega (arith, e)
coded (Rule index refusal) e = numbered refusal e
coded JournalFull e = omega (arith, e)

-- ---- a disconnect

module _ (full : Type 0) (chain : Chain) (hash : List ℕ) where
  pub one_at_place_back : (r s : BackRefusal) → HoldsBack full chain hash r → HoldsBack full chain hash s → back_order r ≡ back_order s → r ≡ s
  one_at_place_back AtBase AtBase hr hs e = refl
  one_at_place_back (NotTip t) (NotTip u) hr hs e = ap NotTip (hr.1 ∙ sym hs.1)
  one_at_place_back back.JournalFull back.JournalFull hr hs e = refl
  one_at_place_back r s hr hs e = absurd (omega arith)

  pub without_journal_back : (r : BackRefusal) → HoldsBack ⊥ chain hash r → HoldsBack full chain hash r
  without_journal_back AtBase h = h
  without_journal_back (NotTip tip) h = h
  without_journal_back back.JournalFull h = absurd h

pub placed_back : (r : BackRefusal) → back_order r < 3
placed_back AtBase = omega arith
placed_back (NotTip tip) = omega arith
placed_back back.JournalFull = omega arith

pub coded_back : (r : BackRefusal) → (back_reply r).code ≡ 0 → ⊥
coded_back AtBase e = omega (arith, e)
coded_back (NotTip tip) e = omega (arith, e)
coded_back back.JournalFull e = omega (arith, e)
