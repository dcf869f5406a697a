-- The index of a chain of valid blocks is as wide as its fields, and its text is read again.
use Rattle.std.proofs.Common.{◌≡◌, ℕ, ◌+◌, ◌<◌, ◌≤◌, ◌^◌, List, [], ◌∷◌, length, subst, arith}
use Rattle.std.proofs.lemmas.Option.{none-some}
use Rattle.std.specs.List.{AllByRecursion}
use Rattle.nmc_base.specs.Heights.{highest}
use Rattle.nmc_base.specs.declared.chain_ends.Base.{Base}
use Rattle.chain_names.specs.declared.coin.HeldCoin.{HeldCoin}
use Rattle.chain_names.specs.Coins.{Maps}
use Rattle.chain_names.specs.Index.{next_height}
use Rattle.chain_names.specs.Limits.{IsWithinLimits}
use Rattle.chain_names.specs.Log.{Log}
use Rattle.chain_names.specs.Measured.{AreMeasured}
use Rattle.chain_names.specs.Sound.{IsAccepted}
use Rattle.chain_names.specs.Start.{IsStart}
use Rattle.chain_names.specs.Undo.{UndoRecord}
use Rattle.chain_names.specs.UndoOf.{AreUndos}
use Rattle.chain_names.specs.Writable.{IsWritablePoint, IsWritable}
use Rattle.chain_names.proofs.IndexLemmas.{index_at_base}
use Rattle.chain_names.proofs.PointLemmas.{put_or_there}
use Rattle.undo_records.specs.Measured.{IsMeasured}
use Rattle.undo_records.specs.declared.version.Version.{Version}
use Rattle.undo_records.proofs.WidthLaws.{measured_fits}
use Rattle.image_grammar.specs.Image.{IsWritableEntry, HasText, coins_listed}
use Rattle.image_grammar.proofs.WrittenLaws.{sound_limits, written-sound}
use Rattle.chain_state.specs.Standing.{IsValidOn, AreValid, chain_maps}
use Rattle.chain_state.proofs.SoundLemmas.{valid_sound}
use Rattle.chain_commands.specs.Chain.{Chain}
use Rattle.chain_commands.specs.RunState.{on_base}
use Rattle.chain_commands.specs.Saving.{IsTextOf, longest_image}
use Rattle.saved_widths.specs.Wide.{HaveWidePoints}
use Rattle.saved_widths.proofs.BlockLemmas.{block_measured, record_measured}
use Rattle.saved_widths.proofs.StartLemmas.{AllWide, start_measured, start_wide}

-- ---- chains

-- a valid block is accepted
accepted : (base : Base) (start : Log) (blocks : List (List ℕ)) (block : List ℕ) → IsValidOn base start blocks block → IsAccepted base.profile start base.height block blocks
accepted base start blocks block valid =
    let next : next_height base.height blocks ≤ highest = omega (arith, valid.low) in
    record { low = next; content = valid.block; is_block = valid.is_block; short = valid.short; unrefused = valid.unrefused }

low_next : (base : Base) (start : Log) (blocks : List (List ℕ)) (block : List ℕ) → IsValidOn base start blocks block → next_height base.height blocks < 2 ^ 32
low_next base start blocks block valid =
    let under : base.height + length blocks < 2000000000 = valid.low in
    omega (arith, under)

pub chain_measured : (base : Base) (start : Log) (blocks : List (List ℕ)) → HaveWidePoints start → AreValid base start blocks → AreMeasured (chain_maps base start blocks)
chain_measured base start [] wide valid =
    let high : base.height ≤ 2000000000 = valid.low in
    start_measured base.profile base.height start (next_height base.height []) (omega (arith, high)) valid.starts.makes wide
chain_measured base start (block ∷ blocks) wide valid =
    block_measured base.profile start base.height block blocks (accepted base start blocks block valid.0) (low_next base start blocks block valid.0)
    (chain_measured base start blocks wide valid.1)

pub undos_measured : (base : Base) (start : Log) (blocks : List (List ℕ)) (undos : List UndoRecord) → HaveWidePoints start → AreValid base start blocks
    → AreUndos base.profile start base.height blocks undos → AllByRecursion IsMeasured undos
undos_measured base start [] [] wide valid are = tt
undos_measured base start [] (u ∷ us) wide valid are = absurd are
undos_measured base start (block ∷ blocks) [] wide valid are = absurd are
undos_measured base start (block ∷ blocks) (u ∷ us) wide valid are = (
  record_measured base.profile start base.height block blocks (accepted base start blocks block valid.0) (low_next base start blocks block valid.0)
      (chain_measured base start blocks wide valid.1) u are.0,
  undos_measured base start blocks us wide valid.1 are.1,
)

each_writable : (undos : List UndoRecord) → AllByRecursion IsWithinLimits undos → AllByRecursion IsMeasured undos → AllByRecursion IsWritable undos
each_writable [] limits measured = tt
each_writable (u ∷ us) limits measured = (measured_fits u limits.0 measured.0, each_writable us limits.1 measured.1)

pub undos_writable : (base : Base) (start : Log) (blocks : List (List ℕ)) (undos : List UndoRecord) → HaveWidePoints start → AreValid base start blocks
    → AreUndos base.profile start base.height blocks undos → AllByRecursion IsWritable undos
undos_writable base start blocks undos wide valid are =
    each_writable undos
    (sound_limits base.profile base.height (base.height + length blocks) (chain_maps base start blocks) undos (valid_sound base start blocks undos valid are))
    (undos_measured base start blocks undos wide valid are)

-- ---- start lists

wide_start : (base : Base) (start : Log) → IsStart base.profile base.height start → AllWide (chain_maps base start []).coins → HaveWidePoints start
wide_start base start is wide =
    start_wide base.profile base.height start is.makes
    (subst (λ (m : Maps). AllWide m.coins) (index_at_base base.profile start base.height) wide)

pub wide_by_maps : (base : Base) (start : Log) → IsStart base.profile base.height start → AreMeasured (chain_maps base start []) → HaveWidePoints start
wide_by_maps base start is measured = wide_start base start is (λ point coin e. (measured.coins point coin e).at)

-- what an image that is read again lists
entries_wide : (helds : List HeldCoin) → AllByRecursion IsWritableEntry helds → AllWide (coins_listed helds)
entries_wide [] fits = λ point coin e. absurd (none-some coin e)
entries_wide (held ∷ helds) fits = put_or_there (λ q coin. IsWritablePoint q) (coins_listed helds) held.at held.coin fits.0.at (entries_wide helds fits.1)

pub wide_by_text : (version : Version) (base : Base) (start : Log) (text : List ℕ) (is : IsTextOf version (on_base base start) text)
    → IsStart base.profile base.height start → HasText is.is_text.image → HaveWidePoints start
wide_by_text version base start text is starts has =
    wide_start base start starts (subst (λ (m : Maps). AllWide m.coins) is.is_text.image_is.maps_are (entries_wide is.is_text.image.coins has.coins))

-- ---- texts

pub text_again : (version : Version) (chain : Chain) (text : List ℕ) (is : IsTextOf version chain text) → length chain.base.hash.0 ≡ 32
    → HaveWidePoints chain.start → AreValid chain.base chain.start chain.blocks → length text ≤ longest_image → HasText is.is_text.image
text_again version chain text is hash wide valid short =
    written-sound version chain.base (chain.base.height + length chain.blocks) is.undos (chain_maps chain.base chain.start chain.blocks) text is.is_text
    (record {
      hash = hash;
      undos_are = undos_measured chain.base chain.start chain.blocks is.undos wide valid is.are_undos;
      maps_are = chain_measured chain.base chain.start chain.blocks wide valid;
    })
    (valid_sound chain.base chain.start chain.blocks is.undos valid is.are_undos) short
