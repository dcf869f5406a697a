-- What a block does to a name is refused by no rule, unless its output has a coin.
use Rattle.std.proofs.Common.{◌≡◌, ◌≢◌, ℕ, suc, ◌+◌, ◌<◌, ◌≤◌, ◌⊎◌, Bool, true, false, cond, List, [], ◌∷◌, ◌++◌, length, Option, Some, None, refl, sym, ap, subst, ◌∙◌, arith, inl, inr, nat_le}
use Rattle.std.proofs.lemmas.Bool.{leb-true, leb-false, le-leb, lt-leb}
use Rattle.sha2.specs.Sha256.{sha256}
use Rattle.sha2.proofs.Facts256.{length-sha256}
use Rattle.hash160.specs.Hash160.{hash160}
use Rattle.block_grammar.specs.Transaction.{stripped_text, txid_of}
use Rattle.name_script.specs.NameScript.{name_new, name_firstupdate, name_update}
use Rattle.nmc_base.specs.declared.hashes.OutPoint.{OutPoint}
use Rattle.nmc_base.specs.declared.chain_ends.Profile.TheVariants.{Regtest}
use Rattle.nmc_base.specs.Expiry.{is_expired}
use Rattle.chain_names.specs.declared.coin.Coin.{Coin}
use Rattle.chain_names.specs.declared.coin.Coin.TheVariants.{New, Named}
use Rattle.chain_names.specs.declared.coin.Item.{Item}
use Rattle.chain_names.specs.Points.{same_point, changed}
use Rattle.chain_names.specs.Coins.{Maps, entry_of, registered_behind}
use Rattle.chain_names.specs.Changes.{after_verdict, moved, refused_or, without_expired}
use Rattle.chain_names.specs.State.{IsLastItem, IsState}
use Rattle.chain_names.specs.Verdict.{Verdict, commits, is_taken, opens, updates, verdict}
use Rattle.chain_names.proofs.Points.{same_point-Decides}
use Rattle.chain_names.proofs.PointLemmas.{apart, put_or_there}
use Rattle.chain_names.proofs.Changed.{changed_at}
use Rattle.chain_names.proofs.HistoryLemmas.{last_item, own_history}
use Rattle.block_maker.specs.Generated.{Making, name_transaction}
use Rattle.generated_chain.specs.Texts.{name_text, rand_text, value_text}
use Rattle.generated_chain.specs.Stands.{deed_with, made_at, making_by, nowhere, output_of}
use Rattle.generated_chain.specs.Blocks.{drawn_stand, number_at, stand_at}
use Rattle.generated_chain.specs.declared.stand.Made.{Made}
use Rattle.generated_chain.specs.declared.stand.Stand.{Stand}
use Rattle.generated_chain.specs.declared.stand.Deed.TheVariants.{Nothing, Commit, Open, Update}
use Rattle.generated_validity.specs.Carried.{HaveOneTxid, IsOutput, making_behind}
use Rattle.generated_validity.specs.Agreeing.{Agrees, Ends, FitsMaking, Goes, IsOver, IsWaiting, StandsSo}
use Rattle.generated_validity.proofs.Names.{name_length, names_differ, value_length}
use Rattle.generated_validity.proofs.Makings.{commitment_length, first_short, making_own, new_short, transactions_differ, update_short}
use Rattle.generated_validity.proofs.Verdicts.{committing, opening, updating}
use Rattle.generated_validity.proofs.Coins.{elsewhere, named_elsewhere, spent_was, two_coins}
use Rattle.generated_validity.proofs.Keeping.{Keeps, carried_by, ends_kept, kept, stand_after, waits_kept}

-- ---- outputs

later_output : (seed n : ℕ) (point : OutPoint) → IsOutput seed n point → IsOutput seed (suc n) point
later_output seed n point is = record { below = is.below; within = omega (arith, is.within); making = is.making; carried = is.carried; point_is = is.point_is }

own_output : (seed n : ℕ) (making : Making) → making_behind seed n ≡ Some making → IsOutput seed (suc n) (output_of making)
own_output seed n making carried = record { below = n; within = omega arith; making = making; carried = carried; point_is = refl }

output_index : (seed n : ℕ) (point : OutPoint) → IsOutput seed n point → point.index ≡ 0
output_index seed n point is = ap (λ (p : OutPoint). p.index) is.point_is

pub output_length : (making : Making) → length (output_of making).txid.0 ≡ 32
unfolding txid_of
output_length making = length-sha256 (sha256 (stripped_text (name_transaction making)))

txid_length : (seed n : ℕ) (point : OutPoint) → IsOutput seed n point → length point.txid.0 ≡ 32
txid_length seed n point is = ap (λ (p : OutPoint). length p.txid.0) is.point_is ∙ output_length is.making

-- the name of the next block stands so, for the run and in the maps
pub record IsDrawn (seed n : ℕ) (maps : Maps) (waiting change : Option Made) : Type 0 where
  pub stand_is : drawn_stand seed n ≡ record { waiting = waiting; changed = change }
  pub so : StandsSo seed n (number_at seed n) maps (record { waiting = waiting; changed = change })

-- The next block carries this name transaction. There is no coin at its output, and the coin that it spends isn't that of another name's
-- commitment.
pub record IsChange (seed n : ℕ) (maps : Maps) (making : Making) : Type 0 where
  pub carried : making_behind seed n ≡ Some making
  pub fresh : maps.coins (output_of making) ≡ None
  pub coin : Coin
  pub held : maps.coins making.spent ≡ Some coin
  pub apart_from : (other : ℕ) (change : Option Made) (made : Made) → other ≢ number_at seed n → IsWaiting seed n other maps change made
      → coin ≢ New (record { 0 = hash160 (rand_text made.height ++ name_text other) }) made.height

module _ (seed n : ℕ) (low : suc n < 65536) (maps : Maps) (agrees : Agrees seed n maps) where
  abbrev number : ℕ
  number = number_at seed n

  small : number < 64
  small = omega arith

  -- there is no coin at the output, or two txids are one
  fresh_or : (making : Making) → making_behind seed n ≡ Some making → HaveOneTxid seed (suc n) ⊎ (maps.coins (output_of making) ≡ None)
  fresh_or making carried = by (maps.coins (output_of making)) refl
    where
      by : (coin : Option Coin) → maps.coins (output_of making) ≡ coin → HaveOneTxid seed (suc n) ⊎ (maps.coins (output_of making) ≡ None)
      by None e = inr e
      by (Some coin) e =
          let is = agrees.coins (output_of making) coin e in
          inl (record {
            first = is.below;
            second = n;
            in_order = is.within;
            within = omega arith;
            one = is.making;
            other = making;
            one_is = is.carried;
            other_is = carried;
            differ = transactions_differ (suc is.below) (suc n) is.making making (omega (arith, is.within)) low (making_own seed is.below is.making is.carried) (making_own seed n making carried);
            same = ap (λ (p : OutPoint). p.txid.0) (sym is.point_is);
          })

  -- by the verdict, and what it keeps
  goes_with : (making : Making) (v : Verdict) (stand : Stand) → FitsMaking making → verdict Regtest maps (suc n) (name_transaction making) ≡ v → refused_or 1 v None ≡ None
      → Keeps seed n maps (after_verdict maps (suc n) (txid_of (name_transaction making)) v) stand → Goes seed n maps (Some making)
  goes_with making v stand fits e unrefused keeps = record {
    fits = fits;
    unrefused = ap (λ (w : Verdict). refused_or 1 w None) e ∙ unrefused;
    agrees = subst (λ (w : Verdict). Agrees seed (suc n) (without_expired Regtest (suc (suc n)) (after_verdict maps (suc n) (txid_of (name_transaction making)) w))) (sym e)
        (kept seed n maps (after_verdict maps (suc n) (txid_of (name_transaction making)) v) stand keeps agrees (suc (suc n)));
  }

  -- ---- a commitment

  module _ (change : Option Made) (drawn : IsDrawn seed n maps None change) (deed_is : deed_with (suc n) None change ≡ Commit) (over : IsOver change (suc n)) where
    abbrev hash : List ℕ
    hash = hash160 (rand_text (suc n) ++ name_text number)

    abbrev commitment : Making
    commitment = record { operation = name_new hash; spent = nowhere (suc n) }

    committed : making_behind seed n ≡ Some commitment
    committed = carried_by seed n (record { waiting = None; changed = change }) Commit drawn.stand_is deed_is

    nothing_there : maps.coins (nowhere (suc n)) ≡ None
    nothing_there = by (maps.coins (nowhere (suc n))) refl
      where
        by : (coin : Option Coin) → maps.coins (nowhere (suc n)) ≡ coin → coin ≡ None
        by None e = refl
        by (Some coin) e = absurd (omega (arith, output_index seed n (nowhere (suc n)) (agrees.coins (nowhere (suc n)) coin e)))

    commit_keeps : maps.coins (output_of commitment) ≡ None → Keeps seed n maps (after_verdict maps (suc n) (txid_of (name_transaction commitment)) (commits hash 0))
        (record { waiting = Some (made_at (suc n) (output_of commitment)); changed = change })
    commit_keeps fresh =
        let coin : Coin = New (record { 0 = hash }) (suc n) in
        let new = after_verdict maps (suc n) (txid_of (name_transaction commitment)) (commits hash 0) in
        record {
          coins = put_or_there (λ (point : OutPoint) (c : Coin). IsOutput seed (suc n) point) maps.coins (output_of commitment) coin (own_output seed n commitment committed)
              (λ point c e. later_output seed n point (agrees.coins point c e));
          waiting = λ other change' made differs is.
              elsewhere maps.coins (output_of commitment) made.output (Some coin) _ (apart maps.coins (output_of commitment) made.output _ fresh is.coin) is.coin;
          names = λ other lower differs. refl;
          own = record {
            waits = record {
              below = n;
              within = omega arith;
              height = refl;
              about = refl;
              coin = changed_at same_point-Decides maps.coins (output_of commitment) (Some coin);
              over = over;
            };
            ends = ends_kept number maps new change refl drawn.so.ends;
          };
          stand_is = stand_after seed n (record { waiting = None; changed = change }) Commit drawn.stand_is deed_is;
        }

    pub commit_goes : HaveOneTxid seed (suc n) ⊎ Goes seed n maps (Some commitment)
    commit_goes =
        elim (fresh_or commitment committed) [
          | inl same ↦ inl same
          | inr fresh ↦ inr (goes_with commitment (commits hash 0) _ (record { txid = refl; index = omega (arith, low); pushes = new_short (rand_text (suc n) ++ name_text number) })
              (committing maps (suc n) (nowhere (suc n)) hash (new_short (rand_text (suc n) ++ name_text number)) nothing_there (commitment_length (rand_text (suc n) ++ name_text number)) fresh)
              refl (commit_keeps fresh))
        ]

  -- ---- a change

  module _ (making : Making) (c : IsChange seed n maps making) where
    abbrev item_of : (registered : ℕ) (value : List ℕ) → Item
    item_of registered value = record { height = suc n; registered = registered; at = output_of making; value = value }

    abbrev changed_maps : (registered : ℕ) (value : List ℕ) → Maps
    changed_maps registered value = moved maps making.spent (name_text number) (item_of registered value)

    abbrev changed_stand : Stand
    changed_stand = record { waiting = None; changed = Some (made_at (suc n) (output_of making)) }

    pub change_keeps : (registered : ℕ) (value : List ℕ) → stand_at seed number (suc n) ≡ changed_stand → Keeps seed n maps (changed_maps registered value) changed_stand
    change_keeps registered value stand_is =
        let gone = changed same_point maps.coins making.spent None in
        let name = Named (name_text number) (suc n) in
        let item = item_of registered value in
        record {
          coins = put_or_there (λ (point : OutPoint) (c : Coin). IsOutput seed (suc n) point) gone (output_of making) name (own_output seed n making c.carried)
              (λ point other e. later_output seed n point (agrees.coins point other (spent_was maps.coins making.spent point other e)));
          waiting = λ other change made differs is.
              let own : Option Coin = Some (New (record { 0 = hash160 (rand_text made.height ++ name_text other) }) made.height) in
              elsewhere gone (output_of making) made.output (Some name) own (apart maps.coins (output_of making) made.output _ c.fresh is.coin)
              (elsewhere maps.coins making.spent made.output None own (two_coins maps.coins making.spent made.output c.coin _ c.held is.coin (c.apart_from other change made differs is)) is.coin);
          names = λ other lower differs. named_elsewhere maps.names (name_text number) (name_text other) (maps.names (name_text number) ++ item ∷ [])
              (names_differ number other small lower (λ e. differs (sym e)));
          own = record {
            waits = tt;
            ends = subst (λ (items : List Item). IsLastItem items (suc n) (output_of making)) (sym (own_history maps.names (name_text number) item)) (last_item (maps.names (name_text number)) item);
          };
          stand_is = stand_is;
        }

  -- ---- a name is opened

  taken : (height : ℕ) (change : Option Made) → IsOver change height → height ≤ suc n → Ends number maps change → is_taken Regtest (suc n) (entry_of (maps.names (name_text number))) ≡ false
  taken height None over le ends = ap (λ (items : List Item). is_taken Regtest (suc n) (entry_of items)) ends
  taken height (Some change) over le ends =
      let expired : is_expired Regtest change.height (suc n) ≡ true = le-leb (change.height + 30) (suc n) (omega (arith, over, le)) in
      ap (is_taken Regtest (suc n)) ends.last ∙ rw expired refl

  module _ (waiting : Made) (change : Option Made) (drawn : IsDrawn seed n maps (Some waiting) change) (old : waiting.height + 12 ≤ suc n)
      (deed_is : deed_with (suc n) (Some waiting) change ≡ Open waiting) where
    abbrev first : Making
    first = record { operation = name_firstupdate (name_text number) (rand_text waiting.height) (value_text (suc n)); spent = waiting.output }

    opened_so : making_behind seed n ≡ Some first
    opened_so = carried_by seed n (record { waiting = Some waiting; changed = change }) (Open waiting) drawn.stand_is deed_is

    abbrev commitment_coin : Coin
    commitment_coin = New (record { 0 = hash160 (rand_text waiting.height ++ name_text number) }) waiting.height

    -- it isn't that of another commitment, whose block was about another name
    not_another : (other : ℕ) (change' : Option Made) (made : Made) → other ≢ number → IsWaiting seed n other maps change' made
        → commitment_coin ≢ New (record { 0 = hash160 (rand_text made.height ++ name_text other) }) made.height
    not_another other change' made differs is e =
        let height : waiting.height ≡ made.height = cc in
        let below : drawn.so.waits.below ≡ is.below = omega (arith, height, drawn.so.waits.height, is.height) in
        differs (sym is.about ∙ sym (ap (number_at seed) below) ∙ drawn.so.waits.about)

    pub open_goes : HaveOneTxid seed (suc n) ⊎ Goes seed n maps (Some first)
    open_goes =
        let v = opens (name_text number) (value_text (suc n)) 0 waiting.output in
        let short = first_short number waiting.height (suc n) small in
        let point = agrees.coins waiting.output commitment_coin drawn.so.waits.coin in
        elim (fresh_or first opened_so) [
          | inl same ↦ inl same
          | inr fresh ↦ inr (goes_with first v _
              (record { txid = txid_length seed n waiting.output point; index = omega (arith, output_index seed n waiting.output point); pushes = short })
              (opening maps (suc n) waiting.output (name_text number) (rand_text waiting.height) (value_text (suc n)) waiting.height (record {
                short = short;
                coin = drawn.so.waits.coin;
                name_length = omega (arith, name_length number small);
                rand_length = omega arith;
                value_length = omega (arith, value_length (suc n));
                old = old;
                untaken = taken waiting.height change drawn.so.waits.over (omega (arith, old)) drawn.so.ends;
                fresh = fresh;
              }))
              refl
              (change_keeps first (record { carried = opened_so; fresh = fresh; coin = commitment_coin; held = drawn.so.waits.coin; apart_from = not_another }) (suc n) (value_text (suc n))
              (stand_after seed n (record { waiting = Some waiting; changed = change }) (Open waiting) drawn.stand_is deed_is)))
        ]

  -- ---- a name is updated

  module _ (state : IsState Regtest n maps) (change : Made) (drawn : IsDrawn seed n maps None (Some change)) (young : suc n < change.height + 30)
      (deed_is : deed_with (suc n) None (Some change) ≡ Update change) where
    abbrev update : Making
    update = record { operation = name_update (name_text number) (value_text (suc n)); spent = change.output }

    updated_so : making_behind seed n ≡ Some update
    updated_so = carried_by seed n (record { waiting = None; changed = Some change }) (Update change) drawn.stand_is deed_is

    abbrev name_coin : Coin
    name_coin = Named (name_text number) change.height

    standing : maps.coins change.output ≡ Some name_coin
    standing = state.standing_names (name_text number) _ drawn.so.ends.last (lt-leb (change.height + 30) (suc n) young)

    pub update_goes : HaveOneTxid seed (suc n) ⊎ Goes seed n maps (Some update)
    update_goes =
        let v = updates (name_text number) (value_text (suc n)) 0 change.output in
        let short = update_short number (suc n) small in
        let point = agrees.coins change.output name_coin standing in
        elim (fresh_or update updated_so) [
          | inl same ↦ inl same
          | inr fresh ↦ inr (goes_with update v _
              (record { txid = txid_length seed n change.output point; index = omega (arith, output_index seed n change.output point); pushes = short })
              (updating maps (suc n) change.output (name_text number) (value_text (suc n)) change.height (record {
                short = short;
                coin = standing;
                name_length = omega (arith, name_length number small);
                value_length = omega (arith, value_length (suc n));
                fresh = fresh;
              }))
              refl
              (change_keeps update (record { carried = updated_so; fresh = fresh; coin = name_coin; held = standing; apart_from = λ other change' made differs is e. absurd cc })
              (registered_behind (entry_of (maps.names (name_text number))) (suc n)) (value_text (suc n))
              (stand_after seed n (record { waiting = None; changed = Some change }) (Update change) drawn.stand_is deed_is)))
        ]

  -- ---- nothing is done

  module _ (waiting change : Option Made) (drawn : IsDrawn seed n maps waiting change) (deed_is : deed_with (suc n) waiting change ≡ Nothing) where
    nothing_keeps : Keeps seed n maps maps (record { waiting = waiting; changed = change })
    nothing_keeps = record {
      coins = λ point coin e. later_output seed n point (agrees.coins point coin e);
      waiting = λ other change' made differs is. is.coin;
      names = λ other lower differs. refl;
      own = record {
        waits = waits_kept seed n (suc n) number maps maps change waiting (omega arith) (λ made is. is.coin) drawn.so.waits;
        ends = drawn.so.ends;
      };
      stand_is = stand_after seed n (record { waiting = waiting; changed = change }) Nothing drawn.stand_is deed_is;
    }

    pub nothing_goes : HaveOneTxid seed (suc n) ⊎ Goes seed n maps None
    nothing_goes = inr (record {
      fits = tt;
      unrefused = refl;
      agrees = kept seed n maps maps (record { waiting = waiting; changed = change }) nothing_keeps agrees (suc (suc n));
    })

  -- ---- by the deed

  abbrev Comes : Option Making → Type 0
  Comes making = HaveOneTxid seed (suc n) ⊎ Goes seed n maps making

  module _ (state : IsState Regtest n maps) where
    goes_by : (waiting change : Option Made) → IsDrawn seed n maps waiting change → Comes (making_by (suc n) number (deed_with (suc n) waiting change))
    goes_by (Some waiting) change drawn = by (nat_le (waiting.height + 12) (suc n)) refl
      where
        by : (b : Bool) → nat_le (waiting.height + 12) (suc n) ≡ b → Comes (making_by (suc n) number (cond b (Open waiting) Nothing))
        by true e = open_goes waiting change drawn (leb-true (waiting.height + 12) (suc n) e) (rw e refl)
        by false e = nothing_goes (Some waiting) change drawn (rw e refl)
    goes_by None None drawn = commit_goes None drawn refl tt
    goes_by None (Some change) drawn = by (nat_le (change.height + 30) (suc n)) refl
      where
        by : (b : Bool) → nat_le (change.height + 30) (suc n) ≡ b → Comes (making_by (suc n) number (cond b Commit (Update change)))
        by true e = commit_goes (Some change) drawn (rw e refl) (leb-true (change.height + 30) (suc n) e)
        by false e = update_goes state change drawn (leb-false (change.height + 30) (suc n) e) (rw e refl)

    pub goes : Comes (making_behind seed n)
    goes = goes_by (drawn_stand seed n).waiting (drawn_stand seed n).changed (record { stand_is = refl; so = agrees.stands number small })
