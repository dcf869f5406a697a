-- What the transactions of a block leave, and what it leaves once the coins that are expired are gone.
use Rattle.std.proofs.Common.{◌≡◌, ◌≢◌, ℕ, suc, ◌+◌, ◌<◌, ◌≤◌, ◌==◌, Bool, true, false, cond, List, ◌++◌, Option, Some, None, refl, sym, ap, subst, ◌∙◌, arith, inl, inr, add-one}
use Rattle.std.proofs.lemmas.Bool.{cases_eq}
use Rattle.std.specs.Option.{option_map}
use Rattle.hash160.specs.Hash160.{hash160}
use Rattle.nmc_base.specs.declared.hashes.OutPoint.{OutPoint}
use Rattle.nmc_base.specs.declared.chain_ends.Profile.TheVariants.{Regtest}
use Rattle.chain_names.specs.declared.coin.Coin.{Coin}
use Rattle.chain_names.specs.declared.coin.Coin.TheVariants.{New}
use Rattle.chain_names.specs.declared.coin.Item.{Item}
use Rattle.chain_names.specs.Coins.{Maps, unless_expired}
use Rattle.chain_names.specs.Changes.{without_expired}
use Rattle.chain_names.specs.State.{IsLastItem}
use Rattle.generated_chain.specs.Texts.{name_text, rand_text}
use Rattle.generated_chain.specs.Stands.{deed_at, made_at, making_by, output_of, stand_behind, stand_by}
use Rattle.generated_chain.specs.Blocks.{drawn_stand, number_at, stand_at}
use Rattle.generated_chain.specs.declared.stand.Made.{Made}
use Rattle.generated_chain.specs.declared.stand.Stand.{Stand}
use Rattle.generated_chain.specs.declared.stand.Deed.{Deed}
use Rattle.generated_validity.specs.Carried.{IsOutput, making_behind}
use Rattle.generated_validity.specs.Agreeing.{Agrees, Ends, IsWaiting, StandsSo, Waits}
use Rattle.generated_validity.proofs.Coins.{live_is}

-- ---- stands of the run

same_number : (a : ℕ) → (a == a) ≡ true
same_number a = grind arith

other_number : (a b : ℕ) → a ≢ b → (a == b) ≡ false
other_number a b differ = grind arith

pub stand_drawn : (seed n : ℕ) → stand_at seed (number_at seed n) (suc n) ≡ stand_behind (suc n) (number_at seed n) (drawn_stand seed n)
unfolding stand_at
stand_drawn seed n =
    let number = number_at seed n in
    ap (λ (b : Bool). cond b (stand_behind (n + 1) number (stand_at seed number n)) (stand_at seed number n)) (same_number number)
    ∙ ap (λ (h : ℕ). stand_behind h number (stand_at seed number n)) (add-one n)

pub stand_other : (seed number n : ℕ) → number ≢ number_at seed n → stand_at seed number (suc n) ≡ stand_at seed number n
unfolding stand_at
stand_other seed number n other =
    ap (λ (b : Bool). cond b (stand_behind (n + 1) number (stand_at seed number n)) (stand_at seed number n)) (other_number (number_at seed n) number (λ e. other (sym e)))

module _ (seed n : ℕ) (stand : Stand) (deed : Deed) (stand_is : drawn_stand seed n ≡ stand) (deed_is : deed_at (suc n) stand ≡ deed) where
  pub carried_by : making_behind seed n ≡ making_by (suc n) (number_at seed n) deed
  carried_by =
      ap (λ (s : Stand). making_by (suc n) (number_at seed n) (deed_at (suc n) s)) stand_is ∙ ap (making_by (suc n) (number_at seed n)) deed_is

  pub stand_after : stand_at seed (number_at seed n) (suc n) ≡ stand_by deed (option_map (made_at (suc n)) (option_map output_of (making_by (suc n) (number_at seed n) deed))) stand
  stand_after =
      stand_drawn seed n ∙ ap (stand_behind (suc n) (number_at seed n)) stand_is
      ∙ ap (λ (d : Deed). stand_by d (option_map (made_at (suc n)) (option_map output_of (making_by (suc n) (number_at seed n) d))) stand) deed_is

-- ---- what is kept

pub waits_kept : (seed n m number : ℕ) (old new : Maps) (changed waiting : Option Made) → n ≤ m
    → ((made : Made) → IsWaiting seed n number old changed made → new.coins made.output ≡ Some (New (record { 0 = hash160 (rand_text made.height ++ name_text number) }) made.height))
    → Waits seed n number old changed waiting → Waits seed m number new changed waiting
waits_kept seed n m number old new changed None le there waits = tt
waits_kept seed n m number old new changed (Some made) le there waits = record {
  below = waits.below;
  within = omega (arith, waits.within, le);
  height = waits.height;
  about = waits.about;
  coin = there made waits;
  over = waits.over;
}

pub ends_kept : (number : ℕ) (old new : Maps) (changed : Option Made) → new.names (name_text number) ≡ old.names (name_text number) → Ends number old changed → Ends number new changed
ends_kept number old new None same ends = same ∙ ends
ends_kept number old new (Some change) same ends = subst (λ (items : List Item). IsLastItem items change.height change.output) (sym same) ends

expired_stands : (seed n number height : ℕ) (maps : Maps) (stand : Stand) → StandsSo seed n number maps stand → StandsSo seed n number (without_expired Regtest height maps) stand
expired_stands seed n number height maps stand so = record {
  waits = waits_kept seed n n number maps (without_expired Regtest height maps) stand.changed stand.waiting (omega arith) (λ made is. ap (unless_expired Regtest height) is.coin) so.waits;
  ends = ends_kept number maps (without_expired Regtest height maps) stand.changed refl so.ends;
}

-- the maps behind a block's transactions, of those before it: this becomes of its name, and the others stay
pub record Keeps (seed n : ℕ) (old new : Maps) (stand : Stand) : Type 0 where
  pub coins : (point : OutPoint) (coin : Coin) → new.coins point ≡ Some coin → IsOutput seed (suc n) point
  pub waiting : (number : ℕ) (changed : Option Made) (made : Made) → number ≢ number_at seed n → IsWaiting seed n number old changed made
      → new.coins made.output ≡ Some (New (record { 0 = hash160 (rand_text made.height ++ name_text number) }) made.height)
  pub names : (number : ℕ) → number < 64 → number ≢ number_at seed n → new.names (name_text number) ≡ old.names (name_text number)
  pub own : StandsSo seed (suc n) (number_at seed n) new stand
  pub stand_is : stand_at seed (number_at seed n) (suc n) ≡ stand

module _ (seed n : ℕ) (old new : Maps) (stand : Stand) (keeps : Keeps seed n old new stand) (agrees : Agrees seed n old) where
  other_stands : (number : ℕ) → number < 64 → number ≢ number_at seed n → StandsSo seed (suc n) number new (stand_at seed number n)
  other_stands number low other =
      let so = agrees.stands number low in
      let s = stand_at seed number n in
      record {
        waits = waits_kept seed n (suc n) number old new s.changed s.waiting (omega arith) (λ made is. keeps.waiting number s.changed made other is) so.waits;
        ends = ends_kept number old new s.changed (keeps.names number low other) so.ends;
      }

  pub all_stand : (number : ℕ) → number < 64 → StandsSo seed (suc n) number new (stand_at seed number (suc n))
  all_stand number low =
      elim (cases_eq number (number_at seed n)) [
        | inl same ↦ subst (λ (x : ℕ). StandsSo seed (suc n) x new (stand_at seed x (suc n))) (sym same)
            (subst (StandsSo seed (suc n) (number_at seed n) new) (sym keeps.stand_is) keeps.own)
        | inr other ↦ subst (StandsSo seed (suc n) number new) (sym (stand_other seed number n other)) (other_stands number low other)
      ]

  pub kept : (height : ℕ) → Agrees seed (suc n) (without_expired Regtest height new)
  kept height = record {
    coins = λ point coin e. keeps.coins point coin (live_is height (new.coins point) coin e);
    stands = λ number low. expired_stands seed (suc n) number height new (stand_at seed number (suc n)) (all_stand number low);
  }
