-- What the labels of an object's map tell of its entries, once they are listed.
use Rattle.std.specs.Prelude.{ℕ, List, Bool, true, Option, Some, None}
use Rattle.import_expand.specs.Labels.{is_among}
use Rattle.import_expand.specs.declared.labels.Labels.{Labels}

-- Whether there may be an entry under a label. Where the labels aren't listed there may be one under each.
abbrev pub may_have : Option Labels → List ℕ → Bool
may_have None label = true
may_have (Some ls) label = is_among ls.numbers.items label
