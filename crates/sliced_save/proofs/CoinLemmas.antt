-- The coins of a mirror, once one was put in or taken out.
use Rattle.std.proofs.Common.{◌≡◌, ℕ, ◌+◌, ◌-◌, ◌≤◌, arith, length, Some, None, ap, ◌∙◌}
use Rattle.std.proofs.Math.Path.{fun_ext}
use Rattle.std.specs.declared.cmp.Ordering.TheVariants.{Equal}
use Rattle.nmc_base.specs.Hash.{outpoint_cmp}
use Rattle.nmc_base.specs.declared.hashes.OutPoint.{OutPoint}
use Rattle.chain_names.proofs.OrderLemmas.{outpoint_cmp-total, same_by_cmp}
use Rattle.chain_names.proofs.Points.{same_point-Decides}
use Rattle.chain_names.specs.Points.{same_point, changed}
use Rattle.chain_names.specs.declared.coin.Coin.{Coin}
use Rattle.undo_records.specs.Text.{held_text}
use Rattle.image_writer.specs.Lengths.{capped}
use Rattle.shared_chunks.specs.Pairs.{AreInOrder, with_pair, without_key}
use Rattle.sliced_save.specs.Kept.{AreKeptCoins, IsKeptCoin, coins_length}
use Rattle.sliced_save.specs.Lengths.{held_weight}
use Rattle.sliced_save.specs.Mirror.{CoinPairs, coin_at, held_pair}
use Rattle.sliced_save.specs.declared.most.TheConstants.{MOST}
use Rattle.sliced_save.proofs.PairLemmas.{all_with, all_without, exact_by, found_set, found_unset, set_size, unset_size}

pub exact_point : (a b : OutPoint) → outpoint_cmp a b ≡ Equal → a ≡ b
exact_point = exact_by same_point outpoint_cmp same_point-Decides same_by_cmp

-- how long the coin that stands there is
pub here_length : (coins : CoinPairs) (at : OutPoint) (coin : Coin) (n : ℕ) → coins_length coins ≤ MOST → coin_at coins at ≡ Some coin → n ≡ capped (0 + length (held_text (held_pair (at, coin))))
    → (n ≡ held_weight at (coin_at coins at)) × (n ≤ coins_length coins)
here_length coins at coin n most here e =
    let part = unset_size held_pair held_text outpoint_cmp exact_point coins at in
    let long : held_weight at (coin_at coins at) ≡ length (held_text (held_pair (at, coin))) = ap (held_weight at) here in
    (omega (arith, part, long, e, most), omega (arith, part, long, e, most))

pub coins_set : (old new : CoinPairs) (at : OutPoint) (coin : Coin) (before here len : ℕ) → AreKeptCoins old → IsKeptCoin (at, coin) → new ≡ with_pair outpoint_cmp old at coin → AreInOrder outpoint_cmp new
    → before ≡ coins_length old → here ≡ held_weight at (coin_at old at) → len ≡ capped (before - here + length (held_text (held_pair (at, coin)))) → len ≤ MOST
    → AreKeptCoins new × (len ≡ coins_length new) × (len ≤ MOST)
coins_set old new at coin before here len kept kept_coin is order before_is here_is e most =
    let size = set_size held_pair held_text outpoint_cmp exact_point outpoint_cmp-total old at coin kept.order in
    let part = unset_size held_pair held_text outpoint_cmp exact_point old at in (
      record { order = order; each = rw is (all_with IsKeptCoin outpoint_cmp old at coin kept_coin kept.each) },
      rw is (omega (arith, size, part, before_is, here_is, e, most)),
      most,
    )

pub coin_set : (old new : CoinPairs) (at : OutPoint) (coin : Coin) → new ≡ with_pair outpoint_cmp old at coin → coin_at new ≡ changed same_point (coin_at old) at (Some coin)
coin_set old new at coin is = fun_ext (λ q. ap (λ (z : CoinPairs). coin_at z q) is ∙ found_set same_point outpoint_cmp same_point-Decides same_by_cmp outpoint_cmp-total old at coin q)

pub coins_unset : (old new : CoinPairs) (at : OutPoint) (before here : ℕ) → AreKeptCoins old → new ≡ without_key outpoint_cmp old at → AreInOrder outpoint_cmp new
    → before ≡ coins_length old → before ≤ MOST → here ≡ held_weight at (coin_at old at)
    → AreKeptCoins new × (before - here ≡ coins_length new) × (before - here ≤ MOST)
coins_unset old new at before here kept is order before_is most here_is =
    let size = unset_size held_pair held_text outpoint_cmp exact_point old at in (
      record { order = order; each = rw is (all_without IsKeptCoin outpoint_cmp old at kept.each) },
      rw is (omega (arith, size, before_is, here_is)),
      omega (arith, most),
    )

pub coin_unset : (old new : CoinPairs) (at : OutPoint) → AreInOrder outpoint_cmp old → new ≡ without_key outpoint_cmp old at → coin_at new ≡ changed same_point (coin_at old) at None
coin_unset old new at order is = fun_ext (λ q. ap (λ (z : CoinPairs). coin_at z q) is ∙ found_unset same_point outpoint_cmp same_point-Decides same_by_cmp outpoint_cmp-total old at q order)
