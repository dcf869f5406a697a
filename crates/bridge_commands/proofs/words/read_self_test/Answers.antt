use Rattle.std.proofs.Common.{ℕ, List, [], ◌∷◌, ◌≡◌, length, codes, refl, sym, ap, subst, ◌∙◌, arith}
use Rattle.std.proofs.lemmas.Result.{err_from_is_err_and}
use Rattle.bridge_commands.specs.Words.{AreBlocks, IsSeed}
use Rattle.bridge_commands.specs.WrongWords.{IsFirstNot, count, of_no_field, fields}
use Rattle.bridge_commands.specs.declared.wrong.Field.TheVariants as field
use Rattle.bridge_commands.specs.declared.wrong.Form.TheVariants as form
use Rattle.bridge_commands.proofs.LineLemmas.{holds_of, none_of, items_2}
use Rattle.bridge_commands.proofs.words.read_self_test.Goals.{in_default-via-then-behind-lt2, in_default-via-else-behind-lt2+else-behind-lt3}
use Rattle.bridge_commands.proofs.words.read_self_test.Goals as goal

pub returns-in_default : goal.returns-in_default
returns-in_default c =
    count form.SelfTest c.args.behind.now refl (λ e. elim c.in_default.branch [
      | in_default-via-then-behind-lt2 w ↦ grind (arith, e)
      | in_default-via-else-behind-lt2+else-behind-lt3 w ↦ grind (arith, e)
    ]) c.at.ensures

pub returns-in_err-blocks : goal.returns-in_err-blocks
returns-in_err-blocks c =
    let p = err_from_is_err_and c.from_residual.result c.from_residual.ensures.1 in
    let items : c.args.behind.now ≡ c.blocks-item.result ∷ c.seed-item.result ∷ [] = items_2 c.args.behind.now c.blocks-item.result c.seed-item.result (omega (arith, c.in-len2.len_at_least, c.in-len2.len_below)) c.blocks-item.is c.seed-item.is in
    rw (p.1, p.2) (of_no_field form.SelfTest c.args.behind.now 0 field.Blocks refl (omega (arith, c.in-len2.len_at_least, c.in-len2.len_below)) (subst (λ (words : List (List ℕ)). IsFirstNot (fields form.SelfTest) words 0 field.Blocks) (sym items)
    (refl, none_of AreBlocks c.as_slice.ensures c.in_err-blocks.ensures.none.0 c.read_blocks.ensures.one)) c.in_err-blocks.ensures.none.1)

pub returns-in_err-seed : goal.returns-in_err-seed
returns-in_err-seed c =
    let p = err_from_is_err_and c.from_residual-in_err-seed.result c.from_residual-in_err-seed.ensures.1 in
    let items : c.args.behind.now ≡ c.blocks-item.result ∷ c.seed-item.result ∷ [] = items_2 c.args.behind.now c.blocks-item.result c.seed-item.result (omega (arith, c.in-len2.len_at_least, c.in-len2.len_below)) c.blocks-item.is c.seed-item.is in
    rw (p.1, p.2) (of_no_field form.SelfTest c.args.behind.now 1 field.Seed refl (omega (arith, c.in-len2.len_at_least, c.in-len2.len_below)) (subst (λ (words : List (List ℕ)). IsFirstNot (fields form.SelfTest) words 1 field.Seed) (sym items)
    ((c.in_ok-blocks.blocks, holds_of AreBlocks c.as_slice.ensures c.in_ok-blocks.ensures.value c.read_blocks.ensures.found), (refl, none_of IsSeed c.as_slice-2.ensures c.in_err-seed.ensures.none.0 c.read_seed.ensures.one))) c.in_err-seed.ensures.none.1)

pub returns : goal.returns
returns c =
    let items : c.args.behind.now ≡ c.blocks-item.result ∷ c.seed-item.result ∷ [] = items_2 c.args.behind.now c.blocks-item.result c.seed-item.result (omega (arith, c.in-len2.len_at_least, c.in-len2.len_below)) c.blocks-item.is c.seed-item.is in
    record {
      blocks = c.blocks-item.result;
      seed = c.seed-item.result;
      words_are = ap (λ (words : List (List ℕ)). codes "selftest" ∷ words) items;
      numbers = record {
        blocks_are = holds_of AreBlocks c.as_slice.ensures c.in_ok-blocks.ensures.value c.read_blocks.ensures.found;
        seed_is = holds_of IsSeed c.as_slice-2.ensures c.in_ok-seed.ensures.value c.read_seed.ensures.found;
      };
    }
