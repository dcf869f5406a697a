-- A wide start list says what is as wide as its fields, and one that says it is wide.
use Rattle.std.proofs.Common.{◌≡◌, ℕ, suc, ◌<◌, ◌^◌, Bool, true, false, cond, [], ◌∷◌, refl, ap, ◌∙◌, arith}
use Rattle.std.proofs.lemmas.Option.{none-some}
use Rattle.std.specs.Prelude.{Option, Some, None}
use Rattle.name_script.specs.NameScript.{NameOperation, name_new, name_firstupdate, name_update}
use Rattle.nmc_base.specs.declared.chain_ends.Profile.{Profile}
use Rattle.nmc_base.specs.declared.hashes.OutPoint.{OutPoint}
use Rattle.nmc_base.specs.Expiry.{is_expired}
use Rattle.chain_names.specs.declared.coin.Coin.{Coin}
use Rattle.chain_names.specs.declared.coin.Coin.TheVariants.{New, Named}
use Rattle.chain_names.specs.Coins.{coin_of, coin_now, entry_of, opened, updated, unless_expired, live_coin, history_of, maps_of}
use Rattle.chain_names.specs.Log.{Log, Spend, Make}
use Rattle.chain_names.specs.Measured.{IsMeasuredCoin, AreCoinsMeasured, AreItemsMeasured, AreMeasured}
use Rattle.chain_names.specs.Points.{same_point}
use Rattle.chain_names.specs.Start.{IsStartOperation, AreStartMakes}
use Rattle.chain_names.specs.Writable.{IsWritablePoint}
use Rattle.chain_names.proofs.Changed.{changed_at}
use Rattle.chain_names.proofs.PointLemmas.{put_or_there}
use Rattle.chain_names.proofs.Points.{same_point-Decides}
use Rattle.chain_names.proofs.UndoneBlockLemmas.{live_left}
use Rattle.saved_widths.specs.Wide.{HaveWidePoints}
use Rattle.saved_widths.proofs.VerdictLemmas.{opened_measured, updated_measured, value_measured, put_measured}

-- ---- of a wide list

-- the coin of a make
coin_measured : (profile : Profile) (base : ℕ) (below : Log) (point : OutPoint) (operation : NameOperation) (made : ℕ) → IsStartOperation profile base below operation made
    → IsWritablePoint point → made < 2 ^ 32 → IsMeasuredCoin point (coin_of operation made)
coin_measured profile base below point (name_new hash) made fits at low = record { at = at; height = low; hash = fits }
coin_measured profile base below point (name_firstupdate name rand value) made fits at low = record { at = at; height = low; hash = tt }
coin_measured profile base below point (name_update name value) made fits at low = record { at = at; height = low; hash = tt }

start_coins : (profile : Profile) (base : ℕ) (start : Log) → base < 2 ^ 32 → AreStartMakes profile base start → HaveWidePoints start → AreCoinsMeasured (coin_now start)
start_coins profile base [] low makes wide = λ point coin e. absurd (none-some coin e)
start_coins profile base (Spend point ∷ below) low makes wide = absurd makes
start_coins profile base (Make point operation made ∷ below) low makes wide =
    put_measured (coin_now below) point (coin_of operation made) (start_coins profile base below low makes.1 wide.1)
    (coin_measured profile base below point operation made makes.0.fits wide.0 (omega (arith, low, makes.0.low)))

start_items : (profile : Profile) (base : ℕ) (start : Log) → base < 2 ^ 32 → AreStartMakes profile base start → HaveWidePoints start → AreItemsMeasured (history_of start)
start_items profile base [] low makes wide = λ name. tt
start_items profile base (Spend point ∷ below) low makes wide = absurd makes
start_items profile base (Make point (name_new hash) made ∷ below) low makes wide = start_items profile base below low makes.1 wide.1
start_items profile base (Make point (name_firstupdate name rand value) made ∷ below) low makes wide =
    value_measured (history_of below) name (opened made point value) (start_items profile base below low makes.1 wide.1)
    (opened_measured made point value (omega (arith, low, makes.0.low)) wide.0)
start_items profile base (Make point (name_update name value) made ∷ below) low makes wide =
    let before = start_items profile base below low makes.1 wide.1 in
    value_measured (history_of below) name (updated (entry_of (history_of below name)) made point value) before
    (updated_measured (history_of below name) made point value (before name) (omega (arith, low, makes.0.low)) wide.0)

-- a coin that is left was there
pub left_there : (profile : Profile) (height : ℕ) (coin : Option Coin) (c : Coin) → unless_expired profile height coin ≡ Some c → coin ≡ Some c
left_there profile height None c e = e
left_there profile height (Some (New hash made)) c e = e
left_there profile height (Some (Named name made)) c e = by (is_expired profile made height) e
  where
    by : (b : Bool) → cond b None (Some (Named name made)) ≡ Some c → Some (Named name made) ≡ Some c
    by true e' = absurd (none-some c e')
    by false e' = e'

pub start_measured : (profile : Profile) (base : ℕ) (start : Log) (height : ℕ) → base < 2 ^ 32 → AreStartMakes profile base start → HaveWidePoints start
    → AreMeasured (maps_of profile start height)
start_measured profile base start height low makes wide = record {
  coins = λ point coin e. start_coins profile base start low makes wide point coin (left_there profile height (coin_now start point) coin e);
  items = start_items profile base start low makes wide;
}

-- ---- of a list that says what is wide

-- no coin of a start list is expired in the first block
live_made : (profile : Profile) (base : ℕ) (below : Log) (operation : NameOperation) (made : ℕ) → IsStartOperation profile base below operation made
    → unless_expired profile (suc base) (Some (coin_of operation made)) ≡ Some (coin_of operation made)
live_made profile base below (name_new hash) made fits = refl
live_made profile base below (name_firstupdate name rand value) made fits = live_left profile (suc base) name made fits.live
live_made profile base below (name_update name value) made fits = live_left profile (suc base) name made fits.live

start_live : (profile : Profile) (base : ℕ) (start : Log) → AreStartMakes profile base start → (point : OutPoint) (coin : Coin) → coin_now start point ≡ Some coin
    → unless_expired profile (suc base) (Some coin) ≡ Some coin
start_live profile base [] makes = λ point coin e. absurd (none-some coin e)
start_live profile base (Spend point ∷ below) makes = absurd makes
start_live profile base (Make point operation made ∷ below) makes =
    put_or_there (λ q coin. unless_expired profile (suc base) (Some coin) ≡ Some coin) (coin_now below) point (coin_of operation made)
    (live_made profile base below operation made makes.0.fits) (start_live profile base below makes.1)

-- each outpoint that has a coin is wide
abbrev pub AllWide : (OutPoint → Option Coin) → Type 0
AllWide coins = (point : OutPoint) (coin : Coin) → coins point ≡ Some coin → IsWritablePoint point

-- and so it was before a make, which takes no coin away
wide_below : (below : Log) (point : OutPoint) (operation : NameOperation) (made : ℕ) → AllWide (coin_now (Make point operation made ∷ below)) → AllWide (coin_now below)
wide_below below point operation made wide q coin e = by (same_point point q) refl
  where
    by : (b : Bool) → same_point point q ≡ b → IsWritablePoint q
    by true is = wide q (coin_of operation made) (ap (λ b. cond b (Some (coin_of operation made)) (coin_now below q)) is)
    by false is = wide q coin (ap (λ b. cond b (Some (coin_of operation made)) (coin_now below q)) is ∙ e)

made_wide : (profile : Profile) (base : ℕ) (start : Log) → AreStartMakes profile base start → AllWide (coin_now start) → HaveWidePoints start
made_wide profile base [] makes wide = tt
made_wide profile base (Spend point ∷ below) makes wide = absurd makes
made_wide profile base (Make point operation made ∷ below) makes wide = (
  wide point (coin_of operation made) (changed_at same_point-Decides (coin_now below) point (Some (coin_of operation made))),
  made_wide profile base below makes.1 (wide_below below point operation made wide),
)

pub start_wide : (profile : Profile) (base : ℕ) (start : Log) → AreStartMakes profile base start → AllWide (live_coin profile start (suc base)) → HaveWidePoints start
start_wide profile base start makes wide =
    made_wide profile base start makes (λ point coin e. wide point coin (ap (unless_expired profile (suc base)) e ∙ start_live profile base start makes point coin e))
