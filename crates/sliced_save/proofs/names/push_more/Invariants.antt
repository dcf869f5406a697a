use Rattle.std.proofs.Common.{◌≡◌, ◌+◌, ◌<◌, ◌^◌, ◌++◌, drop, length}
use Rattle.std.specs.List.{AllByRecursion}
use Rattle.image_writer.specs.Lengths.{capped}
use Rattle.image_writer.specs.Listed.{IsShortItem}
use Rattle.sliced_save.specs.Changes.{grown}
use Rattle.sliced_save.specs.Kept.{IsKeptItem, IsLowItem}
use Rattle.sliced_save.specs.Lengths.{items_length}
use Rattle.sliced_save.proofs.names.push_more.Given as goal

-- what was pushed and the rest make the whole, and so do their lengths
abbrev pub invariant-loop-rest : goal.invariant-loop-rest
invariant-loop-rest l = record {
  whole : l.here ++ l.rest ≡ grown l.fn.here l.items;
  kept : AllByRecursion IsKeptItem l.here;
  short : AllByRecursion IsShortItem l.rest;
  low : AllByRecursion IsLowItem l.rest;
  fits : l.sum < 2 ^ 64;
  length : capped (l.sum + items_length l.rest) ≡ capped (l.total + items_length (drop (length l.fn.here) l.items));
}

abbrev pub decreases-loop-rest : goal.decreases-loop-rest
decreases-loop-rest l = length l.rest
