use Rattle.std.proofs.Common.{◌≡◌, ℕ, List, ◌++◌, length, Some, None, sym, ap, ◌∙◌, arith}
use Rattle.std.specs.Int.{w32, to_le_bytes}
use Rattle.std.specs.List.{slice_get}
use Rattle.chain_names.specs.declared.coin.Coin.{Coin}
use Rattle.nmc_base.specs.declared.hashes.OutPoint.{OutPoint}
use Rattle.undo_records.specs.Text.{held_text}
use Rattle.sliced_save.specs.Mirror.{Mirrored, held_pair}
use Rattle.sliced_save.specs.Left.{names_left}
use Rattle.sliced_save.specs.declared.stage.Stage.TheVariants.{InCoins, InNames}
use Rattle.sliced_save.proofs.StageLemmas.{next_value, no_value, writes}
use Rattle.sliced_save.proofs.stage.step_coins.Goals as goal

pub returns-in-Some-clause-writes : goal.returns-in-Some-clause-writes
returns-in-Some-clause-writes g c =
    let m = c.args.mirror.now in
    let pair : OutPoint × Coin = (c.in-Some.at.now, c.in-Some.coin.now) in
    let here : Some pair ≡ slice_get m.coins c.args.from = c.in-Some.ensures.pair ∙ ap (λ (z : Mirrored). slice_get z.coins c.args.from) c.mirror.view_is in
    writes m (InCoins c.args.from) _ c.put_held.new.page (held_text (held_pair pair)) (c.put_held.ensures.text ∙ ap (λ (l : List ℕ). l ++ held_text (held_pair pair)) c.requires)
    (omega (arith, c.put_held.ensures.grows.some)) (next_value held_pair held_text m.coins c.args.from (to_le_bytes w32 (length m.names) ++ names_left m 0) pair (sym here))

pub returns-in-None-clause-writes : goal.returns-in-None-clause-writes
returns-in-None-clause-writes g c =
    let m = c.args.mirror.now in
    let past : None ≡ slice_get m.coins c.args.from = c.in-None.ensures.pair ∙ ap (λ (z : Mirrored). slice_get z.coins c.args.from) c.mirror.view_is in
    let count : c.count.result ≡ length m.names = c.count.ensures.count ∙ ap (λ (z : Mirrored). length z.names) c.mirror.view_is in
    writes m (InCoins c.args.from) (InNames 0) c.put_count.new.page (to_le_bytes w32 (length m.names))
    (c.put_count.ensures.text ∙ ap (λ (l : List ℕ). l ++ to_le_bytes w32 c.count.result) c.requires ∙ ap (to_le_bytes w32) count)
    (omega (arith, c.put_count.ensures.grows.some)) (no_value held_pair held_text m.coins c.args.from (to_le_bytes w32 (length m.names) ++ names_left m 0) past)
