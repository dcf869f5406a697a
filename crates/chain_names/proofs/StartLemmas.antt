-- The maps of a start list stand in the block after the base.
use Rattle.std.proofs.Common.{◌≡◌, ℕ, suc, ◌<◌, ◌≤◌, ◌^◌, Bool, true, false, cond, List, [], ◌∷◌, ◌++◌, length, refl, sym, ap, subst, ◌∙◌}
use Rattle.std.specs.Prelude.{Some, None}
use Rattle.std.specs.List.{AllByRecursion, list_any}
use Rattle.std.proofs.lemmas.Option.{none-some}
use Rattle.std.proofs.lemmas.Bool.{or_left, or_right}
use Rattle.name_script.specs.NameScript.{NameOperation, name_new, name_firstupdate, name_update}
use Rattle.nmc_base.specs.Heights.{highest}
use Rattle.nmc_base.specs.declared.hashes.OutPoint.{OutPoint}
use Rattle.nmc_base.specs.declared.chain_ends.Profile.{Profile}
use Rattle.nmc_base.specs.Expiry.{is_expired}
use Rattle.nmc_base.proofs.ListLemmas.{all-append}
use Rattle.chain_names.specs.declared.coin.Coin.{Coin}
use Rattle.chain_names.specs.declared.coin.Coin.TheVariants.{New, Named}
use Rattle.chain_names.specs.declared.coin.Item.{Item}
use Rattle.chain_names.specs.Points.{same_point, changed}
use Rattle.chain_names.specs.Coins.{Maps, coin_of, coin_now, entry_of, opened, updated, with_value, unless_expired, live_coin, history_of, maps_of}
use Rattle.chain_names.specs.Log.{Log, Spend, Make}
use Rattle.chain_names.specs.Meaning.{FitsName}
use Rattle.chain_names.specs.Start.{IsOneValue, IsStartMake, AreStartMakes, IsStart}
use Rattle.chain_names.specs.Tables.{is_named_at}
use Rattle.chain_names.specs.Verdict.{made_at}
use Rattle.chain_names.proofs.Changed.{changed_at, changed_mapped}
use Rattle.chain_names.proofs.Points.{same_point-Decides, same_point-comm}
use Rattle.chain_names.proofs.Shown.{true_is_not_false}
use Rattle.chain_names.proofs.HistoryLemmas.{each_history, entry_of-more, last_item, own_history}
use Rattle.chain_names.specs.State.{IsUpTo, FitsItem, IsRising, IsStandingCoin, HasFewNames, IsState, Stands}
use Rattle.chain_names.specs.Sound.{BeginsRegistration, IsSound}
use Rattle.chain_names.proofs.PointLemmas.{apart, put_or_there}
use Rattle.chain_names.proofs.StandLemmas.{StandsAs, standing_state}
use Rattle.chain_names.proofs.MoveLemmas.{commitment_stands}
use Rattle.chain_names.proofs.UndoneBlockLemmas.{live_left}
use Rattle.chain_names.proofs.CountLemmas.{named_left}

-- ---- a name's first value

-- the outpoint has no coin yet and the name no value
record IsFirstValue (profile : Profile) (base : ℕ) (maps : Maps) (name : List ℕ) (item : Item) : Type 0 where
  stands : Stands profile (suc base) base maps
  low : item.height ≤ base
  fresh : maps.coins item.at ≡ None
  one : maps.names name ≡ []
  live : is_expired profile item.height (suc base) ≡ false
  fits : FitsName name item.value

module _ (profile : Profile) (base : ℕ) (maps : Maps) (name : List ℕ) (new : Item) (first : IsFirstValue profile base maps name new) where
  abbrev Now : Maps
  Now = record { coins = changed same_point maps.coins new.at (Some (Named name new.height)); names = with_value maps.names name new }

  own_coin : IsStandingCoin profile (suc base) (Now.names name) new.height new.at
  own_coin =
      subst (λ items. IsStandingCoin profile (suc base) items new.height new.at) (sym (own_history maps.names name new))
      (record { is_last = last_item (maps.names name) new; live = first.live })

  -- no other coin bears the name
  no_other : (q : OutPoint) (made : ℕ) → maps.coins q ≡ Some (Named name made) → ⊥
  no_other q made there =
      let standing = first.stands.named_coins q name made there in
      let bad : None ≡ Some _ = sym (ap entry_of first.one) ∙ standing.is_last.last in
      cc

  other_coin : (q : OutPoint) (c : Coin) → maps.coins q ≡ Some c → StandsAs profile (suc base) Now.names q c
  other_coin q (New hash made) there = tt
  other_coin q (Named n made) there =
      each_history maps.names name new (λ k items. maps.coins q ≡ Some (Named k made) → IsStandingCoin profile (suc base) items made q)
      (λ here. absurd (no_other q made here)) (λ k other. first.stands.named_coins q k made) n there

  own_entry : (item : Item) → entry_of (maps.names name ++ new ∷ []) ≡ Some item → Now.coins item.at ≡ Some (Named name item.height)
  own_entry item entry =
      let some : Some new ≡ Some item = sym (entry_of-more (maps.names name) new) ∙ entry in
      let same : new ≡ item = cc in
      subst (λ (i : Item). Now.coins i.at ≡ Some (Named name i.height)) same
      (changed_at same_point-Decides maps.coins new.at (Some (Named name new.height)))

  other_entry : (n : List ℕ) (item : Item) → maps.coins item.at ≡ Some (Named n item.height) → Now.coins item.at ≡ Some (Named n item.height)
  other_entry n item there =
      ap (λ b. cond b (Some (Named name new.height)) (maps.coins item.at)) (apart maps.coins new.at item.at (Named n item.height) first.fresh there) ∙ there

  value_stands : Stands profile (suc base) base Now
  value_stands = record {
    coin_heights = put_or_there (λ q c. made_at c ≤ base) maps.coins new.at (Named name new.height) first.low first.stands.coin_heights;
    item_heights = each_history maps.names name new (λ n items. AllByRecursion (IsUpTo base) items)
        (all-append (IsUpTo base) (maps.names name) (new ∷ []) (first.stands.item_heights name) (first.low, tt)) (λ n other. first.stands.item_heights n);
    rising = each_history maps.names name new (λ n items. IsRising items)
        (subst (λ (items : List Item). IsRising (items ++ new ∷ [])) (sym first.one) tt) (λ n other. first.stands.rising n);
    lengths = each_history maps.names name new (λ n items. AllByRecursion (FitsItem n) items)
        (all-append (FitsItem name) (maps.names name) (new ∷ []) (first.stands.lengths name) (first.fits, tt)) (λ n other. first.stands.lengths n);
    named_coins = λ q n made.
        put_or_there (StandsAs profile (suc base) Now.names) maps.coins new.at (Named name new.height) own_coin other_coin q (Named n made);
    standing_names = each_history maps.names name new
        (λ n items. (item : Item) → entry_of items ≡ Some item → is_expired profile item.height (suc base) ≡ false → Now.coins item.at ≡ Some (Named n item.height))
        (λ item entry alive. own_entry item entry)
        (λ n other item entry alive. other_entry n item (first.stands.standing_names n item entry alive));
  }

-- ---- the makes

-- the first value of a name begins its registration, also where an update gives it
first_update : (below : Log) (point : OutPoint) (made : ℕ) (name value : List ℕ) → history_of below name ≡ []
    → history_of (Make point (name_update name value) made ∷ below) ≡ with_value (history_of below) name (opened made point value)
first_update below point made name value one =
    ap (λ before. with_value (history_of below) name (updated (entry_of before) made point value)) one

-- the maps with a make more
more_maps : (profile : Profile) (below : Log) (point : OutPoint) (operation : NameOperation) (made height : ℕ) (names : List ℕ → List Item)
    → unless_expired profile height (Some (coin_of operation made)) ≡ Some (coin_of operation made) → history_of (Make point operation made ∷ below) ≡ names
    → maps_of profile (Make point operation made ∷ below) height
    ≡ record { coins = changed same_point (live_coin profile below height) point (Some (coin_of operation made)); names = names }
more_maps profile below point operation made height names live is =
    let coins =
    changed_mapped same_point (unless_expired profile height) (coin_now below) point (Some (coin_of operation made))
    ∙ ap (changed same_point (live_coin profile below height) point) live in
    λ i. record { coins = coins i; names = is i }

-- a make on top of makes that stand
record IsOnTop (profile : Profile) (base : ℕ) (below : Log) (point : OutPoint) (made : ℕ) : Type 0 where
  stands : Stands profile (suc base) base (maps_of profile below (suc base))
  low : made ≤ base
  fresh : live_coin profile below (suc base) point ≡ None

module _ (profile : Profile) (base : ℕ) (below : Log) (point : OutPoint) (made : ℕ) (top : IsOnTop profile base below point made) where
  -- the value begins its registration: the name has none before
  value_more : (name value : List ℕ) → IsOneValue profile base below name value made
      → Stands profile (suc base) base (record {
        coins = changed same_point (live_coin profile below (suc base)) point (Some (Named name made));
        names = with_value (history_of below) name (opened made point value);
      })
  value_more name value fits =
      value_stands profile base (maps_of profile below (suc base)) name (opened made point value)
      (record { stands = top.stands; low = top.low; fresh = top.fresh; one = fits.one; live = fits.live; fits = fits.fits })

  make_stands : (operation : NameOperation) → IsStartMake profile base below point operation made
      → Stands profile (suc base) base (maps_of profile (Make point operation made ∷ below) (suc base))
  make_stands (name_new hash) make =
      subst (Stands profile (suc base) base) (sym (more_maps profile below point (name_new hash) made (suc base) (history_of below) refl refl))
      (commitment_stands profile (suc base) base made (maps_of profile below (suc base)) point (record { 0 = hash }) top.low top.stands top.fresh)
  make_stands (name_firstupdate name rand value) make =
      subst (Stands profile (suc base) base)
      (sym (more_maps profile below point (name_firstupdate name rand value) made (suc base) (with_value (history_of below) name (opened made point value))
      (live_left profile (suc base) name made make.fits.live) refl))
      (value_more name value make.fits)
  make_stands (name_update name value) make =
      subst (Stands profile (suc base) base)
      (sym (more_maps profile below point (name_update name value) made (suc base) (with_value (history_of below) name (opened made point value))
      (live_left profile (suc base) name made make.fits.live) (first_update below point made name value make.fits.one)))
      (value_more name value make.fits)

makes_stand : (profile : Profile) (base : ℕ) (start : Log) → AreStartMakes profile base start → Stands profile (suc base) base (maps_of profile start (suc base))
makes_stand profile base [] makes = record {
  coin_heights = λ point coin e. absurd (none-some coin e);
  item_heights = λ name. tt;
  rising = λ name. tt;
  lengths = λ name. tt;
  named_coins = λ point name made e. absurd cc;
  standing_names = λ name item e. absurd cc;
}
makes_stand profile base (Spend point ∷ below) makes = absurd makes
makes_stand profile base (Make point operation made ∷ below) makes =
    make_stands profile base below point made
    (record { stands = makes_stand profile base below makes.1; low = makes.0.low; fresh = ap (unless_expired profile (suc base)) makes.0.one }) operation makes.0

-- ---- how many names there are

abbrev points_in : Log → List OutPoint
points_in [] = []
points_in (Spend point ∷ log) = point ∷ points_in log
points_in (Make point operation height ∷ log) = point ∷ points_in log

length-points_in : (log : Log) → length (points_in log) ≡ length log
length-points_in [] = refl
length-points_in (Spend point ∷ log) = ap suc (length-points_in log)
length-points_in (Make point operation height ∷ log) = ap suc (length-points_in log)

touched : (log : Log) (row : ℕ) (q : OutPoint) → is_named_at row (coin_now log q) ≡ true → list_any (same_point q) (points_in log) ≡ true
touched [] row q e = absurd (true_is_not_false (sym e))
touched (Spend point ∷ log) row q e = by (same_point point q) refl e (touched log row q)
  where
    by : (b : Bool) → same_point point q ≡ b → is_named_at row (cond b None (coin_now log q)) ≡ true
        → (is_named_at row (coin_now log q) ≡ true → list_any (same_point q) (points_in log) ≡ true) → list_any (same_point q) (point ∷ points_in log) ≡ true
    by true is e' later = absurd (true_is_not_false (sym e'))
    by false is e' later = or_right (same_point q point) (list_any (same_point q) (points_in log)) (later e')
touched (Make point operation height ∷ log) row q e = by (same_point point q) refl e (touched log row q)
  where
    by : (b : Bool) → same_point point q ≡ b → is_named_at row (cond b (Some (coin_of operation height)) (coin_now log q)) ≡ true
        → (is_named_at row (coin_now log q) ≡ true → list_any (same_point q) (points_in log) ≡ true) → list_any (same_point q) (point ∷ points_in log) ≡ true
    by true is e' later = or_left (same_point q point) (list_any (same_point q) (points_in log)) (same_point-comm q point ∙ is)
    by false is e' later = or_right (same_point q point) (list_any (same_point q) (points_in log)) (later e')

few_in : (profile : Profile) (height : ℕ) (log : Log) → length log < 2 ^ 32 → (row : ℕ) → HasFewNames (live_coin profile log height) row
few_in profile height log few row = record {
  points = points_in log;
  few = subst (λ n. n < 2 ^ 32) (sym (length-points_in log)) few;
  all = λ point named. touched log row point (named_left profile height row (coin_now log point) named);
}

start_state : (profile : Profile) (start : Log) (base : ℕ) → base ≤ highest → IsStart profile base start → IsState profile base (maps_of profile start (suc base))
start_state profile start base low starts =
    standing_state profile base (maps_of profile start (suc base)) low (few_in profile (suc base) start starts.few) (makes_stand profile base start starts.makes)

-- ---- each of them begins a registration

value_begins : (below : Log) (name : List ℕ) (new : Item) → BeginsRegistration new → ((n : List ℕ) → AllByRecursion BeginsRegistration (history_of below n))
    → (n : List ℕ) → AllByRecursion BeginsRegistration (with_value (history_of below) name new n)
value_begins below name new begins before =
    each_history (history_of below) name new (λ n items. AllByRecursion BeginsRegistration items)
    (all-append BeginsRegistration (history_of below name) (new ∷ []) (before name) (begins, tt)) (λ n other. before n)

start_begins : (profile : Profile) (base : ℕ) (start : Log) → AreStartMakes profile base start → (n : List ℕ) → AllByRecursion BeginsRegistration (history_of start n)
start_begins profile base [] makes n = tt
start_begins profile base (Spend point ∷ below) makes n = absurd makes
start_begins profile base (Make point (name_new hash) made ∷ below) makes n = start_begins profile base below makes.1 n
start_begins profile base (Make point (name_firstupdate name rand value) made ∷ below) makes n =
    value_begins below name (opened made point value) refl (start_begins profile base below makes.1) n
start_begins profile base (Make point (name_update name value) made ∷ below) makes n =
    subst (λ (names : List ℕ → List Item). AllByRecursion BeginsRegistration (names n)) (sym (first_update below point made name value makes.0.fits.one))
    (value_begins below name (opened made point value) refl (start_begins profile base below makes.1) n)

pub base_sound : (profile : Profile) (start : Log) (base : ℕ) → base ≤ highest → IsStart profile base start → IsSound profile base base (maps_of profile start (suc base)) []
base_sound profile start base low starts = record { at_base = refl; state = start_state profile start base low starts; registered = start_begins profile base start starts.makes }
