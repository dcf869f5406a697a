-- What is gathered of an image.
use Rattle.std.proofs.Common.{◌≡◌, ◌≢◌, ℕ, Bool, true, false, cond, List, [], ◌∷◌, ◌++◌, Option, Some, None, reverse, refl, sym, ap, ◌∙◌, append_assoc, append-nil}
use Rattle.std.proofs.lemmas.List.{reverse-append}
use Rattle.std.specs.Cmp.Lexicographic.{slice_cmp}
use Rattle.std.specs.Ordering.{nat_cmp}
use Rattle.std.specs.List.{AllByRecursion}
use Rattle.std.specs.List.Sorted.{IsStrictlySortedBy}
use Rattle.std.specs.Str.{bytes_eq}
use Rattle.std.proofs.lemmas.Slice.Eq.{bytes_eq-Decides}
use Rattle.nmc_base.specs.declared.hashes.OutPoint.{OutPoint}
use Rattle.chain_names.specs.declared.coin.HeldCoin.{HeldCoin}
use Rattle.chain_names.specs.declared.coin.Item.{Item}
use Rattle.chain_names.specs.declared.undo.UndoOp.{UndoOp}
use Rattle.chain_names.specs.Coins.{Maps}
use Rattle.chain_names.specs.Expired.{IsSortedByPoint}
use Rattle.chain_names.specs.Points.{same_point, changed}
use Rattle.chain_names.specs.Undo.{UndoRecord}
use Rattle.chain_names.proofs.Changed.{changed_at, changed_kept}
use Rattle.chain_names.proofs.Points.{same_point-Decides}
use Rattle.chain_names.specs.declared.coin.Coin.{Coin}
use Rattle.image_grammar.specs.Answers.{Holds}
use Rattle.image_grammar.specs.Image.{Image, History, names_of, coins_listed, names_listed}
use Rattle.image_grammar.proofs.ListedLaws.{changed_twice, onto, listed, AreApart, onto_is, points_apart, names_apart}
use Rattle.undo_records.proofs.CoinLaws.{last_after}
use Rattle.image_grammar.specs.Stages.{Gathered, nothing_of, begun, with_op, with_expired, closed, without_last, with_entry, named, with_item}
use Rattle.image_grammar.proofs.FoldLaws.{gathered_all}
use Rattle.image_grammar.proofs.AgainLaws.{with_undo, with_undos, with_history, with_names}

-- ---- records

ops_gathered : (g : Gathered) (ops : List UndoOp) → gathered_all with_op g ops ≡ record g { undo = record g.undo { ops = g.undo.ops ++ ops } }
ops_gathered g [] = λ i. record g { undo = record g.undo { ops = sym (append-nil g.undo.ops) i } }
ops_gathered g (op ∷ ops) = ops_gathered (with_op g op) ops ∙ (λ i. record g { undo = record g.undo { ops = append_assoc g.undo.ops (op ∷ []) ops i } })

expired_gathered : (g : Gathered) (helds : List HeldCoin) → gathered_all with_expired g helds ≡ record g { undo = record g.undo { expired = g.undo.expired ++ helds }; last = last_after g.last helds }
expired_gathered g [] = λ i. record g { undo = record g.undo { expired = sym (append-nil g.undo.expired) i } }
expired_gathered g (held ∷ helds) =
    expired_gathered (with_expired g held) helds ∙ (λ i. record g { undo = record g.undo { expired = append_assoc g.undo.expired (held ∷ []) helds i }; last = last_after (Some held.at) helds })

-- a whole record is gathered, and nothing else but its last outpoint
undo_gathered : (g : Gathered) (u : UndoRecord) → with_undo g u ≡ record g { undo = u; undos = u ∷ g.undos; last = last_after None u.expired }
undo_gathered g u =
    ap (λ (h : Gathered). closed (gathered_all with_expired h u.expired)) (ops_gathered (begun g u.block.0) u.ops)
    ∙ ap closed (expired_gathered (record g { undo = record { block = u.block; ops = u.ops; expired = [] }; last = None }) u.expired)

pub undos_name : (g : Gathered) (us : List UndoRecord) → (with_undos g us).name ≡ g.name
undos_name g [] = refl
undos_name g (u ∷ us) = undos_name (with_undo g u) us ∙ ap (λ (h : Gathered). h.name) (undo_gathered g u)

pub undos_base : (g : Gathered) (us : List UndoRecord) → (with_undos g us).base ≡ g.base
undos_base g [] = refl
undos_base g (u ∷ us) = undos_base (with_undo g u) us ∙ ap (λ (h : Gathered). h.base) (undo_gathered g u)

pub undos_maps : (g : Gathered) (us : List UndoRecord) → (with_undos g us).maps ≡ g.maps
undos_maps g [] = refl
undos_maps g (u ∷ us) = undos_maps (with_undo g u) us ∙ ap (λ (h : Gathered). h.maps) (undo_gathered g u)

-- the newest is first
pub undos_gathered : (g : Gathered) (us : List UndoRecord) → (with_undos g us).undos ≡ reverse us ++ g.undos
undos_gathered g [] = refl
undos_gathered g (u ∷ us) =
    undos_gathered (with_undo g u) us ∙ ap (λ (h : Gathered). reverse us ++ h.undos) (undo_gathered g u) ∙ sym (append_assoc (reverse us) (u ∷ []) g.undos)
    ∙ ap (λ (vs : List UndoRecord). vs ++ g.undos) (sym (reverse-append (u ∷ []) us))

-- ---- coins

abbrev coins_onto : (OutPoint → Option Coin) → List HeldCoin → OutPoint → Option Coin
coins_onto = onto same_point-Decides (λ (held : HeldCoin). held.at) (λ (held : HeldCoin). Some held.coin)

pub coins_gathered : (g : Gathered) (helds : List HeldCoin)
    → gathered_all with_entry g helds ≡ record g { maps = record g.maps { coins = coins_onto g.maps.coins helds }; last = last_after g.last helds }
coins_gathered g [] = refl
coins_gathered g (held ∷ helds) = coins_gathered (with_entry g held) helds

coins_are : (helds : List HeldCoin) → listed same_point-Decides (λ (held : HeldCoin). held.at) (λ (held : HeldCoin). Some held.coin) (λ point. None) helds ≡ coins_listed helds
coins_are [] = refl
coins_are (held ∷ helds) = ap (λ (f : OutPoint → Option Coin). changed same_point f held.at (Some held.coin)) (coins_are helds)

-- ---- names

abbrev with_map : Gathered → (List ℕ → List Item) → Gathered
with_map g names = record g { maps = record g.maps { names = names } }

-- the histories with more items of one name
abbrev longer : (List ℕ → List Item) → List ℕ → List Item → List ℕ → List Item
longer f name items = changed bytes_eq f name (f name ++ items)

longer_twice : (f : List ℕ → List Item) (name : List ℕ) (item : Item) (items : List Item) → longer (longer f name (item ∷ [])) name items ≡ longer f name (item ∷ items)
longer_twice f name item items =
    let once : (List ℕ → List Item) = longer f name (item ∷ []) in
    ap (λ (v : List Item). changed bytes_eq once name (v ++ items)) (changed_at bytes_eq-Decides f name (f name ++ item ∷ []))
    ∙ changed_twice bytes_eq f name (f name ++ item ∷ []) ((f name ++ item ∷ []) ++ items)
    ∙ ap (λ (v : List Item). changed bytes_eq f name v) (append_assoc (f name) (item ∷ []) items)

items_gathered : (g : Gathered) (name : List ℕ) (items : List Item) → gathered_all with_item (named g name) items ≡ named (with_map g (longer g.maps.names name items)) name
items_gathered g name [] = λ i. named (with_map g (sym (changed_kept bytes_eq-Decides g.maps.names name (g.maps.names name ++ []) (sym (append-nil (g.maps.names name)))) i)) name
items_gathered g name (item ∷ items) =
    items_gathered (with_map g (longer g.maps.names name (item ∷ []))) name items ∙ (λ i. named (with_map g (longer_twice g.maps.names name item items i)) name)

names_base : (g : Gathered) (hs : List History) → (with_names g hs).base ≡ g.base
names_base g [] = refl
names_base g (h ∷ hs) = names_base (with_history g h) hs ∙ ap (λ (k : Gathered). k.base) (items_gathered g h.name h.items)

names_undos : (g : Gathered) (hs : List History) → (with_names g hs).undos ≡ g.undos
names_undos g [] = refl
names_undos g (h ∷ hs) = names_undos (with_history g h) hs ∙ ap (λ (k : Gathered). k.undos) (items_gathered g h.name h.items)

abbrev names_onto : (List ℕ → List Item) → List History → List ℕ → List Item
names_onto f [] = f
names_onto f (h ∷ hs) = names_onto (longer f h.name h.items) hs

abbrev maps_onto : Gathered → List History → Maps
maps_onto g hs = record { coins = g.maps.coins; names = names_onto g.maps.names hs }

names_gathered : (g : Gathered) (hs : List History) → (with_names g hs).maps ≡ maps_onto g hs
names_gathered g [] = refl
names_gathered g (h ∷ hs) = names_gathered (with_history g h) hs ∙ ap (λ (k : Gathered). maps_onto k hs) (items_gathered g h.name h.items)

-- ---- names that have no item yet

abbrev ItemlessIn : (List ℕ → List Item) → List History → Type 0
ItemlessIn f hs = AllByRecursion (λ (h : History). f h.name ≡ []) hs

abbrev name_of : History → List ℕ
name_of h = h.name

abbrev items_of : History → List Item
items_of h = h.items

still_itemless : (f : List ℕ → List Item) (name : List ℕ) (items : List Item) (hs : List History) → AllByRecursion (λ (h : History). name ≢ h.name) hs → ItemlessIn f hs
    → ItemlessIn (changed bytes_eq f name items) hs
still_itemless f name items [] apart none = tt
still_itemless f name items (h ∷ hs) apart none = (by (bytes_eq name h.name) refl, still_itemless f name items hs apart.1 none.1)
  where
    by : (b : Bool) → bytes_eq name h.name ≡ b → cond b items (f h.name) ≡ []
    by true is = absurd (apart.0 ((bytes_eq-Decides name h.name).0 is))
    by false is = none.0

names_are_onto : (f : List ℕ → List Item) (hs : List History) → AreApart bytes_eq-Decides name_of items_of hs → ItemlessIn f hs → names_onto f hs ≡ onto bytes_eq-Decides name_of items_of f hs
names_are_onto f [] apart none = refl
names_are_onto f (h ∷ hs) apart none =
    ap (λ (v : List Item). names_onto (changed bytes_eq f h.name (v ++ h.items)) hs) none.0
    ∙ names_are_onto (changed bytes_eq f h.name h.items) hs apart.1 (still_itemless f h.name h.items hs apart.0 none.1)

no_items : (hs : List History) → ItemlessIn (λ name. []) hs
no_items [] = tt
no_items (h ∷ hs) = (refl, no_items hs)

names_are : (hs : List History) → listed bytes_eq-Decides name_of items_of (λ name. []) hs ≡ names_listed hs
names_are [] = refl
names_are (h ∷ hs) = ap (λ (f : List ℕ → List Item). changed bytes_eq f h.name h.items) (names_are hs)

-- ---- the whole

-- what is gathered before the coins, before the names, and at the end
abbrev pub before_coins : Image → Gathered
before_coins image = without_last (with_undos (nothing_of image.base) image.undos)

abbrev pub before_names : Image → Gathered
before_names image = gathered_all with_entry (before_coins image) image.coins

abbrev pub gathered_of : Image → Gathered
gathered_of image = with_names (before_names image) image.names

pub holds_image : (image : Image) → IsSortedByPoint image.coins → IsStrictlySortedBy (slice_cmp nat_cmp) (names_of image.names) → Holds image (gathered_of image)
holds_image image coins_sorted names_sorted =
    let start : Gathered = nothing_of image.base in
    let coins : before_names image ≡ _ = coins_gathered (before_coins image) image.coins in
    let maps : (before_coins image).maps ≡ start.maps = undos_maps start image.undos in
    let coins_on = onto_is same_point-Decides (λ (held : HeldCoin). held.at) (λ (held : HeldCoin). Some held.coin) (λ point. None) image.coins (points_apart image.coins coins_sorted) ∙ coins_are image.coins in
    let apart = names_apart image.names names_sorted in
    let names_on = names_are_onto (λ name. []) image.names apart (no_items image.names) ∙ onto_is bytes_eq-Decides name_of items_of (λ name. []) image.names apart ∙ names_are image.names in
    record {
      base_is = names_base (before_names image) image.names ∙ ap (λ (g : Gathered). g.base) coins ∙ undos_base start image.undos;
      undos_are = names_undos (before_names image) image.names ∙ ap (λ (g : Gathered). g.undos) coins ∙ undos_gathered start image.undos ∙ append-nil (reverse image.undos);
      maps_are =
          names_gathered (before_names image) image.names ∙ ap (λ (g : Gathered). maps_onto g image.names) coins
          ∙ ap (λ (m : Maps). record { coins = coins_onto m.coins image.coins; names = names_onto m.names image.names }) maps
          ∙ (λ i. record { coins = coins_on i; names = names_on i });
    }
