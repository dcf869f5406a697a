use Rattle.std.proofs.Common.{rules}
use Rattle.std.proofs.lemmas.Fn.{always_returns_same}
use Rattle.std.proofs.lemmas.List.Sorted.{IsPermutation-trans}
use Rattle.image_writer.proofs.OrderLemmas.{coins_ordered, coins_ranked}
use Rattle.image_writer.proofs.order.coins_in_order.Goals as goal

pub returns : goal.returns
returns c =
    coins_ordered c.args.coins.now c.collect_coins.new.listed.items c.sort_unstable_by-2.new.self.items c.in_ok-collect_coins.ensures.distinct c.in_ok-collect_coins.ensures.coins
    c.in_ok-collect_coins.ensures.there (IsPermutation-trans _ _ _ c.sort_unstable_by.ensures.permutation c.sort_unstable_by-2.ensures.permutation)
    (c.sort_unstable_by-2.ensures.sorted _ (coins_ranked c.args.coins.now) (always_returns_same _ _ _ (λ a r f k. search rules)))
