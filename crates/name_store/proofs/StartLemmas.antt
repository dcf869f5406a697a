-- The index of a start list, and its text.
use Rattle.std.proofs.Common.{◌≡◌, ◌≢◌, ℕ, suc, ◌+◌, ◌≤◌, Bool, List, [], ◌∷◌, length, Ok, Err, refl, sym, ◌∙◌, ap, subst, arith}
use Rattle.std.specs.Prelude.{Some, None, if◌then◌else◌, Result, IsErrAnd}
use Rattle.fault_counts.specs.Faults.{NeverFell}
use Rattle.disk_model.specs.DiskSeen.{DiskSeen, EndsWith}
use Rattle.name_script.specs.NameScript.{NameOperation, name_new, name_firstupdate, name_update}
use Rattle.nmc_base.specs.Heights.{highest}
use Rattle.nmc_base.specs.declared.chain_ends.Base.{Base}
use Rattle.nmc_base.specs.declared.chain_ends.Profile.{Profile}
use Rattle.nmc_base.specs.declared.hashes.OutPoint.{OutPoint}
use Rattle.chain_names.specs.Coins.{Maps, coin_of, coin_now, unless_expired, live_coin}
use Rattle.chain_names.specs.Log.{Log, Spend, Make}
use Rattle.chain_names.specs.Sound.{IsSound}
use Rattle.chain_names.specs.Start.{IsStartOperation, IsStartMake, AreStartMakes}
use Rattle.chain_names.specs.Tables.{CoinSlots, coins_in, queue_of}
use Rattle.chain_names.specs.Undo.{UndoRecord}
use Rattle.chain_names.specs.UndoOf.{AreUndos}
use Rattle.chain_names.specs.declared.coin.Coin.TheVariants.{Named}
use Rattle.chain_names.proofs.Points.{same_point-self}
use Rattle.chain_state.specs.Chain.{newest_hash}
use Rattle.chain_state.specs.Standing.{AreValid, StandsForChain}
use Rattle.chain_state.proofs.SoundLemmas.{valid_sound}
use Rattle.chain_commands.specs.RunState.{on_base}
use Rattle.chain_commands.specs.Saving.{IsTextOf, longest_image}
use Rattle.chain_commands.proofs.SavingLemmas.{one_text}
use Rattle.image_files.specs.SavingIndex.{IsTextOfIndex}
use Rattle.name_tables.specs.Parts.{newest_first, tables_of}
use Rattle.name_tables.specs.Tables.{maps_by}
use Rattle.name_tables.specs.declared.parts.Parts.{Parts}
use Rattle.undo_records.specs.declared.version.Version.TheVariants.{Two}
use Rattle.saved_widths.proofs.ChainLemmas.{wide_by_text}
use Rattle.name_store.specs.Starting.{IsStartIndex, start_index, HasCoin, IsStartText, HasShortText, HasStartText}
use Rattle.name_store.specs.declared.faults.CreateFromFault.{CreateFromFault}
use Rattle.name_store.specs.declared.faults.CreateFromFault.TheVariants.{DiskFault}
use Rattle.index_commands.proofs.ReadingLemmas.{never_fell, failed_since}
use Rattle.name_store.proofs.TextLemmas.{text_of, read_again}

-- ---- the coins of a start list

-- what is made stands there
made_coin : (below : Log) (point : OutPoint) (operation : NameOperation) (height : ℕ) → coin_now (Make point operation height ∷ below) point ≡ Some (coin_of operation height)
made_coin below point operation height = ap (λ (b : Bool). if b then Some (coin_of operation height) else coin_now below point) (same_point-self point)

-- and is not expired in the first block
unexpired : (profile : Profile) (base : ℕ) (below : Log) (operation : NameOperation) (height : ℕ) → IsStartOperation profile base below operation height
    → unless_expired profile (suc base) (Some (coin_of operation height)) ≡ Some (coin_of operation height)
unexpired profile base below (name_new hash) height fits = refl
unexpired profile base below (name_firstupdate name rand value) height fits = ap (λ (b : Bool). if b then None else Some (Named name height)) fits.live
unexpired profile base below (name_update name value) height fits = ap (λ (b : Bool). if b then None else Some (Named name height)) fits.live

make_lives : (profile : Profile) (base : ℕ) (below : Log) (point : OutPoint) (operation : NameOperation) (height : ℕ) → IsStartMake profile base below point operation height
    → live_coin profile (Make point operation height ∷ below) (suc base) point ≢ None
make_lives profile base below point operation height is none =
    let clash : Some (coin_of operation height) ≡ None =
    sym (unexpired profile base below operation height is.fits) ∙ ap (unless_expired profile (suc base)) (sym (made_coin below point operation height)) ∙ none in
    cc

-- a start list without a coin is empty
no_makes : (profile : Profile) (base : ℕ) (start : Log) → AreStartMakes profile base start → ((point : OutPoint) → live_coin profile start (suc base) point ≡ None) → start ≡ []
no_makes profile base [] makes none = refl
no_makes profile base (Spend point ∷ below) makes none = absurd makes
no_makes profile base (Make point operation height ∷ below) makes none = absurd (make_lives profile base below point operation height makes.0 (none point))

-- ---- its index

module _ (base : Base) (start : Log) (parts : Parts) (is : IsStartIndex base start parts) where
  coins_said : (point : OutPoint) → coins_in parts.coins point ≡ live_coin base.profile start (suc base.height) point
  coins_said point =
      let next : suc (base.height + 0) ≡ suc base.height = omega arith in
      ap (λ (m : Maps). m.coins point) is.maps_are ∙ ap (λ (n : ℕ). live_coin base.profile start n point) next

  pub empty_start : parts.coins ≡ [] → start ≡ []
  empty_start none = no_makes base.profile base.height start is.is_start.makes (λ point. sym (coins_said point) ∙ ap (λ (slots : CoinSlots). coins_in slots point) none)

  pub some_start : HasCoin parts.coins → start ≢ []
  some_start has none =
      let clash : Some has.coin ≡ None = sym has.is_there ∙ coins_said has.point ∙ ap (λ (l : Log). live_coin base.profile l (suc base.height) has.point) none in
      cc

  module _ (low : base.height ≤ highest) where
    valid : AreValid base start []
    valid = record { low = low; starts = is.is_start }

    no_records : newest_first parts.undos.items ≡ []
    no_records = ap newest_first is.no_undos

    pub index_sound : IsSound base.profile base.height (base.height + 0) (maps_by (tables_of parts)) (newest_first parts.undos.items)
    index_sound =
        subst (λ (undos : List UndoRecord). IsSound base.profile base.height (base.height + 0) (maps_by (tables_of parts)) undos) (sym no_records)
        (subst (λ (maps : Maps). IsSound base.profile base.height (base.height + 0) maps []) (sym is.maps_are) (valid_sound base start [] [] valid tt))

    index_stands : StandsForChain base start [] (start_index base parts)
    index_stands = record {
      base_is = refl;
      height = omega (arith, ap length is.no_undos);
      hash = ap (λ (undos : List UndoRecord). (newest_hash base undos).0) no_records;
      maps = is.maps_are;
      queue = is.queue ∙ ap (λ (maps : Maps). queue_of maps.coins) is.maps_are;
      undos = subst (AreUndos base.profile start base.height []) (sym no_records) tt;
      valid = valid;
    }

    -- the text of the index is one of the list's
    pub index_text : (text : List ℕ) → IsTextOfIndex (start_index base parts) text → IsTextOf Two (on_base base start) text
    index_text text is_text = text_of (start_index base parts) (on_base base start) index_stands text is_text

    pub image_size : HasShortText base parts → (text : List ℕ) → IsTextOfIndex (start_index base parts) text → length text ≤ longest_image
    image_size short text is_text = short start is text (index_text text is_text)

    pub start_has : HasCoin parts.coins → (text : List ℕ) → IsTextOfIndex (start_index base parts) text → length text ≤ longest_image → HasStartText base start text
    start_has some text is_text short = record {
      is_start = is.is_start;
      wide = wide_by_text Two base start text (index_text text is_text) is.is_start (read_again (start_index base parts) (on_base base start) index_stands text is_text short Two (index_text text is_text));
      is_text = of_makes start (some_start some) (index_text text is_text);
      short = short;
    }
      where
        of_makes : (list : Log) → list ≢ [] → IsTextOf Two (on_base base list) text → IsStartText base list text
        of_makes [] none so = absurd (none refl)
        of_makes (event ∷ below) none so = so

-- a start list has one text
pub one_start_text : (base : Base) (start : Log) (text other : List ℕ) → IsStartText base start text → IsStartText base start other → text ≡ other
one_start_text base [] text other is also = is ∙ sym also
one_start_text base (event ∷ start) text other is also = one_text Two (on_base base (event ∷ start)) text other is also

-- ---- the step behind the look at the header

-- a fault that was passed on
pub as_fault : (P : Result (Unit {0}) CreateFromFault → Type 0) (result : Result (Unit {0}) CreateFromFault) (fault : CreateFromFault) → IsErrAnd result (λ e. e ≡ fault) → P (Err fault) → P result
as_fault P (Ok done) fault passed holds = absurd passed
as_fault P (Err e) fault passed holds = subst (λ (f : CreateFromFault). P (Err f)) (sym passed) holds

-- its faults are those of both
pub ends_then : (d0 d1 d2 : DiskSeen) (fault : CreateFromFault) → NeverFell d0.faults d1.faults → EndsWith {T = Unit {0}} DiskFault d1 d2 (Err fault) → EndsWith {T = Unit {0}} DiskFault d0 d2 (Err fault)
ends_then d0 d1 d2 fault first ends = record { later = never_fell first ends.later; worked = tt; none = tt; failed = λ is. failed_since first (ends.failed is) }
