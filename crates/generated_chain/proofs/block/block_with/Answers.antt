use Rattle.std.proofs.Common.{◌≡◌, ◌≤◌, ◌+◌, ℕ, List, length, sym, ap, subst, ◌∙◌, arith}
use Rattle.std.specs.Prelude.{IfOk, Option}
use Rattle.block_grammar.specs.Block.{IsBlock}
use Rattle.block_maker.specs.Generated.{Making, generated_block}
use Rattle.block_maker.specs.Seen.{asked_at}
use Rattle.block_maker.specs.declared.operation.TheConstants.{LONGEST_PART}
use Rattle.generated_chain.specs.Stands.{committed_at, making_by, making_with}
use Rattle.generated_chain.specs.Texts.{name_text, rand_text, value_text}
use Rattle.generated_chain.specs.declared.stand.Deed.{Deed}
use Rattle.generated_chain.proofs.Lengths.{name_short, value_short}
use Rattle.generated_chain.proofs.block.block_with.Goals as goal

short_along : (text part : List ℕ) → part ≡ text → length text ≤ LONGEST_PART → length part ≤ LONGEST_PART
short_along text part is short = subst (λ (x : List ℕ). length x ≤ LONGEST_PART) (sym is) short

making_is : (height number at : ℕ) (deed : Deed) (name rand value : List ℕ) → name ≡ name_text number → rand ≡ rand_text at → at ≡ committed_at height deed → value ≡ value_text height
    → making_with height name rand value deed ≡ making_by height number deed
making_is height number at deed name rand value n r a v =
    ap (λ (x : List ℕ). making_with height x rand value deed) n
    ∙ ap (λ (x : List ℕ). making_with height (name_text number) x value deed) (r ∙ ap rand_text a)
    ∙ ap (λ (x : List ℕ). making_with height (name_text number) (rand_text (committed_at height deed)) x deed) v

pub operation-op-requires : goal.operation-op-requires
operation-op-requires c = (
  short_along _ _ (c.as_slice.ensures ∙ c.in_ok-name.ensures) (name_short c.args.number c.ranges.number.fits),
  short_along _ _ c.to_le_bytes-rand.ensures (omega arith),
  short_along _ _ (c.as_slice-2.ensures ∙ c.in_ok-value.ensures) (value_short _),
)

pub returns-clause-block : goal.returns-clause-block
returns-clause-block c =
    let height = c.args.tip.height + 1 in
    let making = making_is height c.args.number _ c.args.deed.now _ _ _ (c.as_slice.ensures ∙ c.in_ok-name.ensures) c.to_le_bytes-rand.ensures c.committed_at-committed.ensures (c.as_slice-2.ensures ∙ c.in_ok-value.ensures) in
    subst (λ (m : Option Making). IfOk c.block.result (λ bytes. IsBlock bytes (generated_block c.args.tip m)))
    (ap (asked_at height) c.as_ref.ensures.value ∙ c.operation-op.ensures.making height ∙ making) c.block.ensures.block
