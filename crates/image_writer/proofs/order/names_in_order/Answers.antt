use Rattle.std.proofs.Common.{rules}
use Rattle.std.proofs.lemmas.Fn.{always_returns_same}
use Rattle.std.proofs.lemmas.List.Sorted.{IsPermutation-trans}
use Rattle.image_writer.proofs.OrderLemmas.{names_ordered, names_ranked}
use Rattle.image_writer.proofs.order.names_in_order.Goals as goal

pub returns : goal.returns
returns c =
    names_ordered c.args.names.now c.collect_names.new.listed.items c.sort_unstable_by-2.new.self.items c.in_ok-collect_names.ensures.distinct c.requires c.in_ok-collect_names.ensures.names
    c.in_ok-collect_names.ensures.there (IsPermutation-trans _ _ _ c.sort_unstable_by.ensures.permutation c.sort_unstable_by-2.ensures.permutation)
    (c.sort_unstable_by-2.ensures.sorted _ (names_ranked c.args.names.now) (always_returns_same _ _ _ (λ a r f k. search rules)))
