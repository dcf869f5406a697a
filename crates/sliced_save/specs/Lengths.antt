-- How long parts are in an image.
use Rattle.std.specs.Prelude.{◌≡◌, ℕ, ◌+◌, List, length, Option, Some, None}
use Rattle.std.specs.Cmp.Lexicographic.{slice_cmp}
use Rattle.std.specs.List.{flat_map}
use Rattle.std.specs.Ordering.{nat_cmp}
use Rattle.nmc_base.specs.declared.hashes.OutPoint.{OutPoint}
use Rattle.chain_names.specs.declared.coin.Coin.{Coin}
use Rattle.chain_names.specs.declared.coin.Item.{Item}
use Rattle.undo_records.specs.Text.{held_text, item_text}
use Rattle.undo_records.specs.declared.version.Version.TheVariants.{Two}
use Rattle.image_grammar.specs.Text.{history_text}
use Rattle.shared_chunks.specs.Pairs.{value_at}
use Rattle.sliced_save.specs.Kept.{names_length}
use Rattle.sliced_save.specs.Mirror.{NamePairs, held_pair, history_pair}

-- the bytes of something that may be there
abbrev pub weight : {K V : Type 0} → (K × V → List ℕ) → K → Option V → ℕ
weight text key None = 0
weight text key (Some value) = length (text (key, value))

abbrev pub held_weight : OutPoint → Option Coin → ℕ
held_weight at coin = weight (λ pair. held_text (held_pair pair)) at coin

abbrev pub name_weight : List ℕ → Option (List Item) → ℕ
name_weight name items = weight (λ pair. history_text Two (history_pair pair)) name items

abbrev pub items_length : List Item → ℕ
items_length items = length (flat_map (item_text Two) items)

-- the bytes of all names where this one has these items, and where it is none
abbrev pub SetsLength : NamePairs → List ℕ → List Item → ℕ → Type 0
SetsLength names name items len =
    len + name_weight name (value_at (slice_cmp nat_cmp) names name) ≡ names_length names + length (history_text Two (history_pair (name, items)))

abbrev pub UnsetsLength : NamePairs → List ℕ → ℕ → Type 0
UnsetsLength names name len = len + name_weight name (value_at (slice_cmp nat_cmp) names name) ≡ names_length names
