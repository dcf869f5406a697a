-- Maps still stand after the transactions of a block, and after the coins that are due are gone.
use Rattle.std.proofs.Common.{◌≡◌, ℕ, suc, Bool, true, false, not, cond, List, [], ◌∷◌, refl, sym, ap, ◌∙◌, arith}
use Rattle.std.specs.Prelude.{Option, Some, None}
use Rattle.block_grammar.specs.Transaction.{Transaction, txid_of}
use Rattle.nmc_base.specs.declared.hashes.OutPoint.{OutPoint}
use Rattle.nmc_base.specs.declared.chain_ends.Profile.{Profile}
use Rattle.nmc_base.specs.Expiry.{is_expired}
use Rattle.chain_names.specs.State.{Stands}
use Rattle.chain_names.specs.declared.coin.Coin.{Coin}
use Rattle.chain_names.specs.declared.coin.Coin.TheVariants.{New, Named}
use Rattle.chain_names.specs.Points.{point_at}
use Rattle.chain_names.specs.Coins.{Maps, entry_of, opened, updated, unless_expired}
use Rattle.chain_names.specs.Meaning.{Means, Opens, Updates}
use Rattle.chain_names.specs.Verdict.{Verdict, plain, commits, opens, updates, refused, verdict, is_taken}
use Rattle.chain_names.specs.Changes.{after_verdict, after_transaction, after_all, without_expired}
use Rattle.chain_names.proofs.LogLemmas.{stays_expired}
use Rattle.chain_names.proofs.Meanings.{verdict_means}
use Rattle.chain_names.proofs.Shown.{true_is_not_false}
use Rattle.chain_names.proofs.HistoryLemmas.{one_point}
use Rattle.chain_names.proofs.MoveLemmas.{commitment_stands, moved_stands}

-- ---- one transaction

-- a name that isn't taken has no coin
untaken_free : (profile : Profile) (height : ℕ) (maps : Maps) (name : List ℕ) (point : OutPoint) (made : ℕ) → Stands profile height height maps
    → is_taken profile height (entry_of (maps.names name)) ≡ false → maps.coins point ≡ Some (Named name made) → ⊥
untaken_free profile height maps name point made stands untaken held =
    let standing = stands.named_coins point name made held in
    true_is_not_false (sym (ap (is_taken profile height) standing.is_last.last ∙ ap not standing.live) ∙ untaken)

opened_stands : (profile : Profile) (height : ℕ) (maps : Maps) (t : Transaction) (name value : List ℕ) (place : ℕ) (spent : OutPoint)
    → Opens profile maps height t name value place spent → Stands profile height height maps
    → Stands profile height height (after_verdict maps height (txid_of t) (opens name value place spent))
opened_stands profile height maps t name value place spent means stands =
    moved_stands profile maps spent name (opened height (point_at (txid_of t) place) value)
    (record {
      coin = New means.hash means.made;
      stands = stands;
      fresh = means.output.fresh;
      held = means.input.held;
      fits = means.fits;
      only_here = λ q made held. absurd (untaken_free profile height maps name q made stands means.untaken held);
      only_this = λ n made same. absurd (is_no_name n made same);
    })
  where
    is_no_name : (n : List ℕ) (made : ℕ) → New means.hash means.made ≡ Named n made → ⊥
    is_no_name n made same = cc

updated_stands : (profile : Profile) (height : ℕ) (maps : Maps) (t : Transaction) (name value : List ℕ) (place : ℕ) (spent : OutPoint)
    → Updates profile maps t name value place spent → Stands profile height height maps
    → Stands profile height height (after_verdict maps height (txid_of t) (updates name value place spent))
updated_stands profile height maps t name value place spent means stands =
    moved_stands profile maps spent name (updated (entry_of (maps.names name)) height (point_at (txid_of t) place) value)
    (record {
      coin = Named name means.made;
      stands = stands;
      fresh = means.output.fresh;
      held = means.input.held;
      fits = means.fits;
      only_here = λ q made held.
          one_point (maps.names name) made means.made q spent (stands.named_coins q name made held).is_last (stands.named_coins spent name means.made means.input.held).is_last;
      only_this = λ n made same. is_the_name n made same;
    })
  where
    is_the_name : (n : List ℕ) (made : ℕ) → Named name means.made ≡ Named n made → n ≡ name
    is_the_name n made same = cc

pub verdict_stands : (profile : Profile) (height : ℕ) (maps : Maps) (t : Transaction) (v : Verdict) → Means profile maps height t v → Stands profile height height maps
    → Stands profile height height (after_verdict maps height (txid_of t) v)
verdict_stands profile height maps t plain means stands = stands
verdict_stands profile height maps t (commits hash place) means stands =
    commitment_stands profile height height height maps (point_at (txid_of t) place) (record { 0 = hash }) (omega arith) stands means.output.fresh
verdict_stands profile height maps t (opens name value place spent) means stands = opened_stands profile height maps t name value place spent means stands
verdict_stands profile height maps t (updates name value place spent) means stands = updated_stands profile height maps t name value place spent means stands
verdict_stands profile height maps t (refused refusal) means stands = stands

-- ---- the transactions of a block

pub all_stand : (profile : Profile) (height : ℕ) (ts : List Transaction) (maps : Maps) → Stands profile height height maps → Stands profile height height (after_all profile height ts maps)
all_stand profile height [] maps stands = stands
all_stand profile height (t ∷ ts) maps stands =
    all_stand profile height ts (after_transaction profile height t maps)
    (verdict_stands profile height maps t (verdict profile maps height t) (verdict_means profile maps height t) stands)

-- ---- the coins that are due are gone

-- a coin that is left was there, and a name's isn't expired
left_coin : (profile : Profile) (height : ℕ) (was : Option Coin) (coin : Coin) → unless_expired profile height was ≡ Some coin → was ≡ Some coin
left_coin profile height None coin e = absurd cc
left_coin profile height (Some (New hash made)) coin e = e
left_coin profile height (Some (Named name made)) coin e = by (is_expired profile made height) e
  where
    by : (b : Bool) → cond b None (Some (Named name made)) ≡ Some coin → Some (Named name made) ≡ Some coin
    by true e' = absurd cc
    by false e' = e'

left_live : (profile : Profile) (height : ℕ) (name : List ℕ) (made : ℕ) → unless_expired profile height (Some (Named name made)) ≡ Some (Named name made) → is_expired profile made height ≡ false
left_live profile height name made e = by (is_expired profile made height) e
  where
    by : (b : Bool) → cond b None (Some (Named name made)) ≡ Some (Named name made) → b ≡ false
    by true e' = absurd cc
    by false e' = refl

pub live_left : (profile : Profile) (height : ℕ) (name : List ℕ) (made : ℕ) → is_expired profile made height ≡ false → unless_expired profile height (Some (Named name made)) ≡ Some (Named name made)
live_left profile height name made live = ap (λ b. cond b None (Some (Named name made))) live

-- what isn't expired at the next height isn't at this one
pub live_before : (profile : Profile) (made height : ℕ) → is_expired profile made (suc height) ≡ false → is_expired profile made height ≡ false
live_before profile made height live = by (is_expired profile made height) refl
  where
    by : (b : Bool) → is_expired profile made height ≡ b → b ≡ false
    by true is = absurd (true_is_not_false (sym (stays_expired profile made height is) ∙ live))
    by false is = refl

pub block_stands : (profile : Profile) (height top : ℕ) (maps : Maps) → Stands profile height top maps → Stands profile (suc height) top (without_expired profile (suc height) maps)
block_stands profile height top maps stands = record {
  coin_heights = λ point coin e. stands.coin_heights point coin (left_coin profile (suc height) (maps.coins point) coin e);
  item_heights = stands.item_heights;
  rising = stands.rising;
  lengths = stands.lengths;
  named_coins = λ point name made e.
      let was = left_coin profile (suc height) (maps.coins point) (Named name made) e in
      record {
        is_last = (stands.named_coins point name made was).is_last;
        live = left_live profile (suc height) name made (ap (unless_expired profile (suc height)) (sym was) ∙ e);
      };
  standing_names = λ name item entry live.
      ap (unless_expired profile (suc height)) (stands.standing_names name item entry (live_before profile item.height height live))
      ∙ live_left profile (suc height) name item.height live;
}
