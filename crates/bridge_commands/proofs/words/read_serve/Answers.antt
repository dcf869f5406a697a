use Rattle.std.proofs.Common.{ℕ, List, [], ◌∷◌, ◌≡◌, length, codes, refl, sym, ap, subst, ◌∙◌, arith}
use Rattle.std.proofs.lemmas.Result.{err_from_is_err_and}
use Rattle.bridge_commands.specs.Words.{AreTurns, IsPort}
use Rattle.bridge_commands.specs.WrongWords.{IsFirstNot, count, of_no_field, fields}
use Rattle.bridge_commands.specs.declared.wrong.Field.TheVariants as field
use Rattle.bridge_commands.specs.declared.wrong.Form.TheVariants as form
use Rattle.bridge_commands.proofs.LineLemmas.{holds_of, none_of, items_3}
use Rattle.bridge_commands.proofs.words.read_serve.Goals.{in_default-via-then-behind-lt3, in_default-via-else-behind-lt3+else-behind-lt4}
use Rattle.bridge_commands.proofs.words.read_serve.Goals as goal

pub returns-in_default : goal.returns-in_default
returns-in_default c =
    count form.Serve c.args.behind.now refl (λ e. elim c.in_default.branch [
      | in_default-via-then-behind-lt3 w ↦ grind (arith, e)
      | in_default-via-else-behind-lt3+else-behind-lt4 w ↦ grind (arith, e)
    ]) c.at.ensures

pub returns-in_err-udp : goal.returns-in_err-udp
returns-in_err-udp c =
    let p = err_from_is_err_and c.from_residual.result c.from_residual.ensures.1 in
    let items : c.args.behind.now ≡ c.udp-item.result ∷ c.feed-item.result ∷ c.turns-item.result ∷ [] = items_3 c.args.behind.now c.udp-item.result c.feed-item.result c.turns-item.result (omega (arith, c.in-len3.len_at_least, c.in-len3.len_below)) c.udp-item.is c.feed-item.is c.turns-item.is in
    rw (p.1, p.2) (of_no_field form.Serve c.args.behind.now 0 field.Port refl (omega (arith, c.in-len3.len_at_least, c.in-len3.len_below)) (subst (λ (words : List (List ℕ)). IsFirstNot (fields form.Serve) words 0 field.Port) (sym items)
    (refl, none_of IsPort c.as_slice.ensures c.in_err-udp.ensures.none.0 c.read_port.ensures.one)) c.in_err-udp.ensures.none.1)

pub returns-in_err-feed : goal.returns-in_err-feed
returns-in_err-feed c =
    let p = err_from_is_err_and c.from_residual-in_err-feed.result c.from_residual-in_err-feed.ensures.1 in
    let items : c.args.behind.now ≡ c.udp-item.result ∷ c.feed-item.result ∷ c.turns-item.result ∷ [] = items_3 c.args.behind.now c.udp-item.result c.feed-item.result c.turns-item.result (omega (arith, c.in-len3.len_at_least, c.in-len3.len_below)) c.udp-item.is c.feed-item.is c.turns-item.is in
    rw (p.1, p.2) (of_no_field form.Serve c.args.behind.now 1 field.Port refl (omega (arith, c.in-len3.len_at_least, c.in-len3.len_below)) (subst (λ (words : List (List ℕ)). IsFirstNot (fields form.Serve) words 1 field.Port) (sym items)
    ((c.in_ok-udp.udp, holds_of IsPort c.as_slice.ensures c.in_ok-udp.ensures.value c.read_port.ensures.found), (refl, none_of IsPort c.as_slice-2.ensures c.in_err-feed.ensures.none.0 c.read_port-2.ensures.one))) c.in_err-feed.ensures.none.1)

pub returns-in_err-turns : goal.returns-in_err-turns
returns-in_err-turns c =
    let p = err_from_is_err_and c.from_residual-in_err-turns.result c.from_residual-in_err-turns.ensures.1 in
    let items : c.args.behind.now ≡ c.udp-item.result ∷ c.feed-item.result ∷ c.turns-item.result ∷ [] = items_3 c.args.behind.now c.udp-item.result c.feed-item.result c.turns-item.result (omega (arith, c.in-len3.len_at_least, c.in-len3.len_below)) c.udp-item.is c.feed-item.is c.turns-item.is in
    rw (p.1, p.2) (of_no_field form.Serve c.args.behind.now 2 field.Turns refl (omega (arith, c.in-len3.len_at_least, c.in-len3.len_below)) (subst (λ (words : List (List ℕ)). IsFirstNot (fields form.Serve) words 2 field.Turns) (sym items)
    ((c.in_ok-udp.udp, holds_of IsPort c.as_slice.ensures c.in_ok-udp.ensures.value c.read_port.ensures.found), ((c.in_ok-feed.feed, holds_of IsPort c.as_slice-2.ensures c.in_ok-feed.ensures.value c.read_port-2.ensures.found), (refl, none_of AreTurns c.as_slice-3.ensures c.in_err-turns.ensures.none.0 c.read_turns.ensures.one)))) c.in_err-turns.ensures.none.1)

pub returns : goal.returns
returns c =
    let items : c.args.behind.now ≡ c.udp-item.result ∷ c.feed-item.result ∷ c.turns-item.result ∷ [] = items_3 c.args.behind.now c.udp-item.result c.feed-item.result c.turns-item.result (omega (arith, c.in-len3.len_at_least, c.in-len3.len_below)) c.udp-item.is c.feed-item.is c.turns-item.is in
    record {
      udp = c.udp-item.result;
      feed = c.feed-item.result;
      turns = c.turns-item.result;
      words_are = ap (λ (words : List (List ℕ)). codes "serve" ∷ words) items;
      numbers = record {
        udp_is = holds_of IsPort c.as_slice.ensures c.in_ok-udp.ensures.value c.read_port.ensures.found;
        feed_is = holds_of IsPort c.as_slice-2.ensures c.in_ok-feed.ensures.value c.read_port-2.ensures.found;
        turns_are = holds_of AreTurns c.as_slice-3.ensures c.in_ok-turns.ensures.value c.read_turns.ensures.found;
      };
    }
