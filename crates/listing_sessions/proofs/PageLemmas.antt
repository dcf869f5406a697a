-- The rows of a page, and which of them are served.
use Rattle.std.proofs.Common.{◌≡◌, ℕ, zero, suc, ◌+◌, arith, Bool, true, false, not, List, [], ◌∷◌, ◌++◌, length, take, drop, Option, Some, None, refl, sym, ap, ◌∙◌, append_assoc}
use Rattle.std.specs.Prelude.{nat_le}
use Rattle.std.specs.Int.{w32, to_le_bytes}
use Rattle.std.specs.List.{AllByRecursion, flat_map, slice_get}
use Rattle.std.specs.Option.{is_some, option_map}
use Rattle.std.proofs.lemmas.Grind.{flat_map-append}
use Rattle.std.proofs.lemmas.List.{take_more, append-nil}
use Rattle.std.proofs.lemmas.Option.{slice_get_within, get_or_from_slice_get, slice_get_past}
use Rattle.nmc_base.specs.Expiry.{is_expired}
use Rattle.nmc_base.specs.declared.chain_ends.Profile.{Profile}
use Rattle.chain_names.specs.Coins.{entry_of}
use Rattle.chain_names.specs.Index.{served_item, value_of}
use Rattle.chain_names.specs.declared.coin.Item.{Item}
use Rattle.chain_commands.specs.Chain.{Chain, height_of}
use Rattle.pin_views.specs.Rows.{row_of}
use Rattle.pin_views.specs.declared.rows.Row.{Row}
use Rattle.sliced_save.proofs.RowLemmas.{found_at}
use Rattle.listing_sessions.specs.Listing.{IsListing, flag, histories, is_served, page_text, row_text}
use Rattle.listing_sessions.specs.Pages.{is_live}

-- ---- lists

pub get_drop : {X : Type 0} (n : ℕ) (xs : List X) (i : ℕ) → slice_get (drop n xs) i ≡ slice_get xs (n + i)
get_drop zero xs i = ap (slice_get xs) (omega arith)
get_drop (suc n) [] i = sym (slice_get_past [] (suc n + i) (omega arith))
get_drop (suc n) (x ∷ xs) i = get_drop n xs i ∙ ap (slice_get (x ∷ xs)) {x = suc (n + i)} {y = suc n + i} (omega arith)

pub all_of_each : {X : Type 0} (P : X → Type 0) (xs : List X) → ((i : ℕ) (x : X) → slice_get xs i ≡ Some x → P x) → AllByRecursion P xs
all_of_each P [] each = tt
all_of_each P (x ∷ xs) each = (each 0 x refl, all_of_each P xs (λ i y e. each (suc i) y e))

all_drop : {X : Type 0} (P : X → Type 0) (n : ℕ) (xs : List X) → AllByRecursion P xs → AllByRecursion P (drop n xs)
all_drop P zero xs all = all
all_drop P (suc n) [] all = tt
all_drop P (suc n) (x ∷ xs) all = all_drop P n xs all.1

all_take : {X : Type 0} (P : X → Type 0) (n : ℕ) (xs : List X) → AllByRecursion P xs → AllByRecursion P (take n xs)
all_take P zero xs all = tt
all_take P (suc n) [] all = tt
all_take P (suc n) (x ∷ xs) all = (all.0, all_take P n xs all.1)

-- ---- rows, one by one

module _ (live : List ℕ × Row → Bool) where
  -- one row more was written
  pub rows_more : (left : List (List ℕ × Row)) (i : ℕ) (row : List ℕ × Row) (before now new : List ℕ) → slice_get left i ≡ Some row
      → now ≡ before ++ flat_map (row_text live) (take i left) → new ≡ now ++ row_text (λ other. live row) row
      → new ≡ before ++ flat_map (row_text live) (take (i + 1) left)
  rows_more left i row before now new at so_far is =
      let within = slice_get_within left i row at in
      let here : take (i + 1) left ≡ take i left ++ row ∷ [] = take_more left i row within ∙ ap (λ z. take i left ++ z ∷ []) (get_or_from_slice_get left i row row at) in
      let text : flat_map (row_text live) (take (i + 1) left) ≡ flat_map (row_text live) (take i left) ++ row_text live row =
      ap (flat_map (row_text live)) here ∙ flat_map-append (row_text live) (take i left) (row ∷ []) ∙ ap (λ z. flat_map (row_text live) (take i left) ++ z) (append-nil (row_text live row)) in
      is ∙ ap (λ z. z ++ row_text live row) so_far ∙ append_assoc before (flat_map (row_text live) (take i left)) (row_text live row) ∙ ap (λ z. before ++ z) (sym text)

-- ---- which rows are served

at_item : (profile : Profile) (tip : ℕ) (item : Item) (b : Bool) → is_expired profile item.height tip ≡ b → is_some (value_of (served_item profile tip (Some item))) ≡ not b
at_item profile tip item true e = rw e refl
at_item profile tip item false e = rw e refl

at_entry : (profile : Profile) (tip : ℕ) (entry : Option Item) (row : Row) → Some row ≡ option_map row_of entry
    → not (is_expired profile row.height tip) ≡ is_some (value_of (served_item profile tip entry))
at_entry profile tip None row e = absurd (cc e)
at_entry profile tip (Some item) row e =
    let same : row ≡ row_of item = cc e in
    ap (λ (r : Row). not (is_expired profile r.height tip)) same ∙ sym (at_item profile tip item (is_expired profile item.height tip) refl)

-- a row of the chain's listing is served exactly where its value isn't expired at the tip
each_alike : (chain : Chain) (rows : List (List ℕ × Row)) → IsListing chain rows → AllByRecursion (λ row. is_live chain.base.profile (height_of chain) row ≡ is_served chain row) rows
each_alike chain rows listing = all_of_each (λ row. is_live chain.base.profile (height_of chain) row ≡ is_served chain row) rows
    (λ i row at. at_entry chain.base.profile (height_of chain) (entry_of (histories chain row.0)) row.1 (sym (found_at rows i row listing.order at) ∙ listing.row row.0))

texts_alike : (one other : List ℕ × Row → Bool) (rows : List (List ℕ × Row)) → AllByRecursion (λ row. one row ≡ other row) rows → flat_map (row_text one) rows ≡ flat_map (row_text other) rows
texts_alike one other [] alike = refl
texts_alike one other (row ∷ rows) alike =
    ap (λ (b : Bool). row_text (λ any. b) row ++ flat_map (row_text one) rows) alike.0 ∙ ap (λ z. row_text other row ++ z) (texts_alike one other rows alike.1)

-- so its pages are those of the chain
pub pages_alike : (chain : Chain) (rows : List (List ℕ × Row)) (size position : ℕ) → IsListing chain rows
    → page_text (is_live chain.base.profile (height_of chain)) size (drop position rows) ≡ page_text (is_served chain) size (drop position rows)
pages_alike chain rows size position listing =
    let left = drop position rows in
    let served = is_served chain in
    let live = is_live chain.base.profile (height_of chain) in
    ap (λ (text : List ℕ). flag (nat_le (length left) size) ∷ (to_le_bytes w32 (length (take size left)) ++ text))
    (texts_alike live served (take size left)
    (all_take (λ row. live row ≡ served row) size left (all_drop (λ row. live row ≡ served row) position rows (each_alike chain rows listing))))
