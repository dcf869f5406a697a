-- The tables are the index of the makes so far, with one make more.
use Rattle.std.proofs.Common.{◌≡◌, ℕ, suc, cond, List, ◌∷◌, refl, sym, ap, ◌∙◌}
use Rattle.std.specs.Prelude.{Option, Some, None}
use Rattle.nmc_base.specs.declared.chain_ends.Base.{Base}
use Rattle.nmc_base.specs.declared.hashes.OutPoint.{OutPoint}
use Rattle.chain_names.specs.declared.coin.Coin.{Coin}
use Rattle.chain_names.specs.declared.coin.Item.{Item}
use Rattle.chain_names.specs.Coins.{Maps, coin_of, coin_now, unless_expired, live_coin, history_of, with_operation}
use Rattle.chain_names.specs.Log.{Log}
use Rattle.chain_names.specs.Points.{same_point, changed}
use Rattle.chain_names.specs.Start.{IsStartOperation}
use Rattle.chain_names.specs.Tables.{coins_in, names_in}
use Rattle.chain_names.proofs.Changed.{changed_mapped}
use Rattle.name_tables.specs.declared.tables.Tables.{Tables}
use Rattle.name_snapshot.specs.Makes.{MayFollow}
use Rattle.name_snapshot.specs.Standing.{IsFirst, IsPut, IsIndexOf}
use Rattle.name_snapshot.specs.Text.{Told, commitment, value, StartMake, operation_of, start_of}

lives : (base : Base) (below : Log) (t : Told) (height : ℕ) → IsStartOperation base.profile base.height below (operation_of t) height
    → unless_expired base.profile (suc base.height) (Some (coin_of (operation_of t) height)) ≡ Some (coin_of (operation_of t) height)
lives base below (commitment hash) height fits = refl
lives base below (value name bytes) height fits = ap (λ b. cond b None (Some (coin_of (operation_of (value name bytes)) height))) fits.live

-- the coin of a make is live in the block after the base
pub live_more : (base : Base) (below : List StartMake) (m : StartMake) → MayFollow base below m
    → live_coin base.profile (start_of (m ∷ below)) (suc base.height) ≡ changed same_point (live_coin base.profile (start_of below) (suc base.height)) m.at (Some (coin_of (operation_of m.told) m.height))
live_more base below m may =
    changed_mapped same_point (unless_expired base.profile (suc base.height)) (coin_now (start_of below)) m.at (Some (coin_of (operation_of m.told) m.height))
    ∙ ap (changed same_point (live_coin base.profile (start_of below) (suc base.height)) m.at) (lives base (start_of below) m.told m.height may.start.fits)

first_of : (base : Base) (below : Log) (t : Told) (height : ℕ) (names : List ℕ → List Item) → names ≡ history_of below → IsStartOperation base.profile base.height below (operation_of t) height → IsFirst names t
first_of base below (commitment hash) height names same fits = tt
first_of base below (value name bytes) height names same fits = ap (λ (f : List ℕ → List Item). f name) same ∙ fits.one

module _ (base : Base) (below : List StartMake) (m : StartMake) (may : MayFollow base below m) (old new : Tables) (is : IsIndexOf base below old) (put : IsPut m old new) where
  abbrev height : ℕ
  height = suc base.height

  abbrev coin : Coin
  coin = coin_of (operation_of m.told) m.height

  coins_before : coins_in old.coins ≡ live_coin base.profile (start_of below) height
  coins_before = ap (λ (m : Maps). m.coins) is.maps

  names_before : names_in old.names ≡ history_of (start_of below)
  names_before = ap (λ (m : Maps). m.names) is.maps

  coins_now : coins_in new.coins ≡ live_coin base.profile (start_of (m ∷ below)) height
  coins_now =
      put.coins ∙ ap (λ (f : OutPoint → Option Coin). changed same_point f m.at (Some coin)) coins_before ∙ sym (live_more base below m may)

  names_now : names_in new.names ≡ history_of (start_of (m ∷ below))
  names_now =
      put.names (first_of base (start_of below) m.told m.height (names_in old.names) names_before may.start.fits)
      ∙ ap (λ (f : List ℕ → List Item). with_operation f m.at (operation_of m.told) m.height) names_before

  free : coins_in old.coins m.at ≡ None
  free = ap (λ (f : OutPoint → Option Coin). f m.at) coins_before ∙ ap (unless_expired base.profile height) may.start.one

  pub index_more : IsIndexOf base (m ∷ below) new
  index_more = record { maps = λ i. record { coins = coins_now i; names = names_now i }; queue = put.queue free is.queue }
