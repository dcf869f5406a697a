-- Maps still stand after a commitment, and after a name moved.
use Rattle.std.proofs.Common.{◌≡◌, ℕ, ◌≤◌, Bool, true, false, cond, List, [], ◌∷◌, ◌++◌, refl, sym, ap, subst, ◌∙◌, arith}
use Rattle.std.specs.Prelude.{Option, Some, None}
use Rattle.std.specs.List.{AllByRecursion}
use Rattle.std.specs.Str.{bytes_eq}
use Rattle.nmc_base.specs.declared.hashes.Hash20.{Hash20}
use Rattle.nmc_base.specs.declared.hashes.OutPoint.{OutPoint}
use Rattle.nmc_base.specs.declared.chain_ends.Profile.{Profile}
use Rattle.nmc_base.specs.Expiry.{is_expired}
use Rattle.nmc_base.proofs.ListLemmas.{all-append}
use Rattle.chain_names.specs.declared.coin.Coin.{Coin}
use Rattle.chain_names.specs.declared.coin.Coin.TheVariants.{New, Named}
use Rattle.chain_names.specs.declared.coin.Item.{Item}
use Rattle.chain_names.specs.Points.{same_point, changed}
use Rattle.chain_names.specs.Coins.{Maps, entry_of}
use Rattle.chain_names.specs.Meaning.{FitsName}
use Rattle.chain_names.specs.Verdict.{made_at}
use Rattle.chain_names.specs.Changes.{moved}
use Rattle.chain_names.proofs.Changed.{changed_at, bytes_eq-self}
use Rattle.chain_names.proofs.LogLemmas.{fresh_stands}
use Rattle.chain_names.proofs.Points.{same_point-Decides, same_point-true, same_point-self}
use Rattle.chain_names.proofs.Shown.{true_is_not_false}
use Rattle.chain_names.proofs.HistoryLemmas.{each_history, entry_of-more, last_item, own_history, rising-more}
use Rattle.chain_names.specs.State.{IsUpTo, FitsItem, IsRising, IsStandingCoin, Stands}
use Rattle.chain_names.proofs.PointLemmas.{apart, put_or_there}
use Rattle.chain_names.proofs.StandLemmas.{StandsAs, each_stands}

-- ---- a commitment

abbrev pub with_commitment : Maps → OutPoint → Hash20 → ℕ → Maps
with_commitment maps point hash height = record { coins = changed same_point maps.coins point (Some (New hash height)); names = maps.names }

pub commitment_stands : (profile : Profile) (height top made : ℕ) (maps : Maps) (point : OutPoint) (hash : Hash20) → made ≤ top → Stands profile height top maps
    → maps.coins point ≡ None → Stands profile height top (with_commitment maps point hash made)
commitment_stands profile height top made maps point hash low stands fresh = record {
  coin_heights = put_or_there (λ q coin. made_at coin ≤ top) maps.coins point (New hash made) low stands.coin_heights;
  item_heights = stands.item_heights;
  rising = stands.rising;
  lengths = stands.lengths;
  named_coins = λ q name at. put_or_there (StandsAs profile height maps.names) maps.coins point (New hash made) tt (each_stands profile height top maps stands) q (Named name at);
  standing_names = λ name item entry live.
      let held = stands.standing_names name item entry live in
      ap (λ b. cond b (Some (New hash made)) (maps.coins item.at)) (apart maps.coins point item.at (Named name item.height) fresh held) ∙ held;
}

-- ---- a name moves
-- The name's coin, where it has one, is the one that is spent, and no coin of another name is.
pub record Moves (profile : Profile) (maps : Maps) (spent : OutPoint) (name : List ℕ) (item : Item) : Type 0 where
  pub coin : Coin
  pub stands : Stands profile item.height item.height maps
  pub fresh : maps.coins item.at ≡ None
  pub held : maps.coins spent ≡ Some coin
  pub fits : FitsName name item.value
  pub only_here : (q : OutPoint) (made : ℕ) → maps.coins q ≡ Some (Named name made) → q ≡ spent
  pub only_this : (n : List ℕ) (made : ℕ) → coin ≡ Named n made → n ≡ name

module _ (profile : Profile) (maps : Maps) (spent : OutPoint) (name : List ℕ) (new : Item) (m : Moves profile maps spent name new) where
  abbrev Now : Maps
  Now = moved maps spent name new

  -- the coins without the one that is spent
  abbrev Left : OutPoint → Option Coin
  Left = changed same_point maps.coins spent None

  abbrev Stays : OutPoint → Coin → Type 0
  Stays q c = (same_point spent q ≡ false) × (maps.coins q ≡ Some c)

  stays : (q : OutPoint) (c : Coin) → Left q ≡ Some c → Stays q c
  stays q c = by (same_point spent q) refl
    where
      by : (s : Bool) → same_point spent q ≡ s → cond s None (maps.coins q) ≡ Some c → Stays q c
      by true is e = absurd cc
      by false is e = (is, e)

  made_standing : IsStandingCoin profile new.height (Now.names name) new.height new.at
  made_standing =
      subst (λ items. IsStandingCoin profile new.height items new.height new.at)
      (sym (own_history maps.names name new))
      (record { is_last = last_item (maps.names name) new; live = fresh_stands profile new.height })

  other_coin : (q : OutPoint) (c : Coin) → Stays q c → StandsAs profile new.height Now.names q c
  other_coin q (New hash made) stays = tt
  other_coin q (Named n made) stays =
      each_history maps.names name new (λ k items. maps.coins q ≡ Some (Named k made) → IsStandingCoin profile new.height items made q)
      (λ here. absurd (true_is_not_false (sym (ap (same_point spent) (m.only_here q made here) ∙ same_point-self spent) ∙ stays.0)))
      (λ k other_name. m.stands.named_coins q k made)
      n stays.1

  -- the coin of another name is still there
  still_there : (n : List ℕ) (item : Item) → bytes_eq name n ≡ false → maps.coins item.at ≡ Some (Named n item.height) → Now.coins item.at ≡ Some (Named n item.height)
  still_there n item other there =
      ap (λ b. cond b (Some (Named name new.height)) (cond (same_point spent item.at) None (maps.coins item.at))) (apart maps.coins new.at item.at (Named n item.height) m.fresh there)
      ∙ by (same_point spent item.at) refl
    where
      by : (b : Bool) → same_point spent item.at ≡ b → cond b None (maps.coins item.at) ≡ Some (Named n item.height)
      by true is =
          let both : Some m.coin ≡ Some (Named n item.height) = sym m.held ∙ ap maps.coins (same_point-true spent item.at is) ∙ there in
          let same : m.coin ≡ Named n item.height = cc in
          absurd (true_is_not_false (sym (ap (bytes_eq name) (m.only_this n item.height same) ∙ bytes_eq-self name) ∙ other))
      by false is = there

  new_entry : (item : Item) → entry_of (maps.names name ++ new ∷ []) ≡ Some item → Now.coins item.at ≡ Some (Named name item.height)
  new_entry item entry =
      let some : Some new ≡ Some item = sym (entry_of-more (maps.names name) new) ∙ entry in
      let same : new ≡ item = cc in
      subst (λ (i : Item). Now.coins i.at ≡ Some (Named name i.height)) same
      (changed_at same_point-Decides Left new.at (Some (Named name new.height)))

  pub moved_stands : Stands profile new.height new.height Now
  moved_stands = record {
    coin_heights = put_or_there (λ q c. made_at c ≤ new.height) Left new.at (Named name new.height) (omega arith) (λ q c e. m.stands.coin_heights q c (stays q c e).1);
    item_heights = each_history maps.names name new (λ n items. AllByRecursion (IsUpTo new.height) items)
        (all-append (IsUpTo new.height) (maps.names name) (new ∷ []) (m.stands.item_heights name) (omega arith, tt)) (λ n other. m.stands.item_heights n);
    rising = each_history maps.names name new (λ n items. IsRising items) (rising-more (maps.names name) new (m.stands.rising name) (m.stands.item_heights name)) (λ n other. m.stands.rising n);
    lengths = each_history maps.names name new (λ n items. AllByRecursion (FitsItem n) items)
        (all-append (FitsItem name) (maps.names name) (new ∷ []) (m.stands.lengths name) (m.fits, tt)) (λ n other. m.stands.lengths n);
    named_coins = λ q n made.
        put_or_there (StandsAs profile new.height Now.names) Left new.at (Named name new.height) made_standing (λ q' c e. other_coin q' c (stays q' c e)) q (Named n made);
    standing_names = each_history maps.names name new
        (λ n items. (item : Item) → entry_of items ≡ Some item → is_expired profile item.height new.height ≡ false → Now.coins item.at ≡ Some (Named n item.height))
        (λ item entry live. new_entry item entry)
        (λ n other item entry live. still_there n item other (m.stands.standing_names n item entry live));
  }
