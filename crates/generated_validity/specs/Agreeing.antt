-- What a run knows of its names agrees with the coins and histories of its chain.
use Rattle.std.specs.Prelude.{◌≡◌, ℕ, suc, ◌+◌, ◌<◌, ◌≤◌, ◌^◌, [], ◌++◌, length, Option, Some, None}
use Rattle.hash160.specs.Hash160.{hash160}
use Rattle.nmc_base.specs.declared.hashes.OutPoint.{OutPoint}
use Rattle.nmc_base.specs.declared.chain_ends.Profile.TheVariants.{Regtest}
use Rattle.chain_names.specs.declared.coin.Coin.{Coin}
use Rattle.chain_names.specs.declared.coin.Coin.TheVariants.{New}
use Rattle.chain_names.specs.Coins.{Maps}
use Rattle.chain_names.specs.Changes.{first_refused, after_block}
use Rattle.chain_names.specs.Log.{behind_coinbase}
use Rattle.chain_names.specs.State.{IsLastItem}
use Rattle.block_maker.specs.Script.{HasShortPushes}
use Rattle.block_maker.specs.Generated.{Making, generated_transactions}
use Rattle.generated_chain.specs.Texts.{name_text, rand_text}
use Rattle.generated_chain.specs.Blocks.{number_at, stand_at}
use Rattle.generated_chain.specs.declared.stand.Made.{Made}
use Rattle.generated_chain.specs.declared.stand.Stand.{Stand}
use Rattle.generated_validity.specs.Carried.{IsOutput}

-- the last change of a name, if there was one, is expired at the height
abbrev pub IsOver : Option Made → ℕ → Type 0
IsOver None height = Unit {0}
IsOver (Some change) height = change.height + 30 ≤ height

-- The commitment to a name that waits is one of the block that made it, its coin is there, and the name's last change was expired then.
pub record IsWaiting (seed blocks number : ℕ) (maps : Maps) (changed : Option Made) (made : Made) : Type 0 where
  pub below : ℕ
  pub within : below < blocks
  pub height : made.height ≡ suc below
  pub about : number_at seed below ≡ number
  pub coin : maps.coins made.output ≡ Some (New (record { 0 = hash160 (rand_text made.height ++ name_text number) }) made.height)
  pub over : IsOver changed made.height

abbrev pub Waits : (seed blocks number : ℕ) → Maps → (changed waiting : Option Made) → Type 0
Waits seed blocks number maps changed None = Unit {0}
Waits seed blocks number maps changed (Some made) = IsWaiting seed blocks number maps changed made

-- the last change of a name is the last item of its history, and without one it has none
abbrev pub Ends : (number : ℕ) → Maps → (changed : Option Made) → Type 0
Ends number maps None = maps.names (name_text number) ≡ []
Ends number maps (Some change) = IsLastItem (maps.names (name_text number)) change.height change.output

-- a name stands so in the maps behind these blocks
pub record StandsSo (seed blocks number : ℕ) (maps : Maps) (stand : Stand) : Type 0 where
  pub waits : Waits seed blocks number maps stand.changed stand.waiting
  pub ends : Ends number maps stand.changed

-- each name does, and each coin is at an output of one of the blocks' name transactions
pub record Agrees (seed blocks : ℕ) (maps : Maps) : Type 0 where
  pub coins : (point : OutPoint) (coin : Coin) → maps.coins point ≡ Some coin → IsOutput seed blocks point
  pub stands : (number : ℕ) → number < 64 → StandsSo seed blocks number maps (stand_at seed number blocks)

-- the outpoint that is spent has a text, and what is pushed has a push
pub record FitsMaking (making : Making) : Type 0 where
  pub txid : length making.spent.txid.0 ≡ 32
  pub index : making.spent.index < 2 ^ 32
  pub pushes : HasShortPushes making.operation

abbrev pub Fits : Option Making → Type 0
Fits None = Unit {0}
Fits (Some making) = FitsMaking making

-- a block that carries this is refused by no rule on names, and what it leaves agrees
pub record Goes (seed blocks : ℕ) (maps : Maps) (making : Option Making) : Type 0 where
  pub fits : Fits making
  pub unrefused : first_refused Regtest (suc blocks) 1 (behind_coinbase (generated_transactions (suc blocks) making)) maps ≡ None
  pub agrees : Agrees seed (suc blocks) (after_block Regtest (suc blocks) (behind_coinbase (generated_transactions (suc blocks) making)) maps)
