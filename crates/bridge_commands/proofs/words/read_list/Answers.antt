use Rattle.std.proofs.Common.{ℕ, List, [], ◌∷◌, ◌≡◌, length, codes, refl, sym, ap, subst, ◌∙◌, arith}
use Rattle.std.proofs.lemmas.Result.{err_from_is_err_and}
use Rattle.bridge_commands.specs.Words.{IsPageSize}
use Rattle.bridge_commands.specs.WrongWords.{IsFirstNot, count, of_no_field, fields}
use Rattle.bridge_commands.specs.declared.wrong.Field.TheVariants as field
use Rattle.bridge_commands.specs.declared.wrong.Form.TheVariants as form
use Rattle.bridge_commands.proofs.LineLemmas.{holds_of, none_of, items_1}
use Rattle.bridge_commands.proofs.words.read_list.Goals.{in_default-via-then-behind-lt1, in_default-via-else-behind-lt1+else-behind-lt2}
use Rattle.bridge_commands.proofs.words.read_list.Goals as goal

pub returns-in_default : goal.returns-in_default
returns-in_default c =
    count form.Listing c.args.behind.now refl (λ e. elim c.in_default.branch [
      | in_default-via-then-behind-lt1 w ↦ grind (arith, e)
      | in_default-via-else-behind-lt1+else-behind-lt2 w ↦ grind (arith, e)
    ]) c.at.ensures

pub returns-in_err-rows : goal.returns-in_err-rows
returns-in_err-rows c =
    let p = err_from_is_err_and c.from_residual.result c.from_residual.ensures.1 in
    let items : c.args.behind.now ≡ c.rows-item.result ∷ [] = items_1 c.args.behind.now c.rows-item.result (omega (arith, c.in-len1.len_at_least, c.in-len1.len_below)) c.rows-item.is in
    rw (p.1, p.2) (of_no_field form.Listing c.args.behind.now 0 field.Rows refl (omega (arith, c.in-len1.len_at_least, c.in-len1.len_below)) (subst (λ (words : List (List ℕ)). IsFirstNot (fields form.Listing) words 0 field.Rows) (sym items)
    (refl, none_of IsPageSize c.as_slice.ensures c.in_err-rows.ensures.none.0 c.read_page_size.ensures.one)) c.in_err-rows.ensures.none.1)

pub returns : goal.returns
returns c =
    let items : c.args.behind.now ≡ c.rows-item.result ∷ [] = items_1 c.args.behind.now c.rows-item.result (omega (arith, c.in-len1.len_at_least, c.in-len1.len_below)) c.rows-item.is in
    record {
      text = c.rows-item.result;
      words_are = ap (λ (words : List (List ℕ)). codes "list" ∷ words) items;
      size_is = holds_of IsPageSize c.as_slice.ensures c.in_ok-rows.ensures.value c.read_page_size.ensures.found;
    }
