-- At which height the registration of a value began.
use Rattle.std.proofs.Common.{◌≡◌, ℕ, List, ◌∷◌, sym, ap, ◌∙◌}
use Rattle.std.specs.Prelude.{Some}
use Rattle.name_script.specs.NameScript.{name_firstupdate, name_update}
use Rattle.nmc_base.specs.declared.hashes.OutPoint.{OutPoint}
use Rattle.chain_names.specs.declared.coin.Item.{Item}
use Rattle.chain_names.specs.Coins.{entry_of, opened, updated, registered_behind, with_value, history_of}
use Rattle.chain_names.specs.Log.{Log, Make}
use Rattle.chain_names.proofs.HistoryLemmas.{entry_of-more, own_history}

-- a value more is the entry
new_entry : (names : List ℕ → List Item) (name : List ℕ) (new entry : Item) → entry_of (with_value names name new name) ≡ Some entry → entry ≡ new
new_entry names name new entry e =
    let some : Some entry ≡ Some new = sym e ∙ ap entry_of (own_history names name new) ∙ entry_of-more (names name) new in
    cc

pub opened-begins : (log : Log) (point : OutPoint) (name rand value : List ℕ) (height : ℕ) (entry : Item)
    → entry_of (history_of (Make point (name_firstupdate name rand value) height ∷ log) name) ≡ Some entry → entry.registered ≡ height
opened-begins log point name rand value height entry e =
    ap (λ (item : Item). item.registered) (new_entry (history_of log) name (opened height point value) entry e)

pub updated-goes_on : (log : Log) (point : OutPoint) (name value : List ℕ) (height : ℕ) (before entry : Item) → entry_of (history_of log name) ≡ Some before
    → entry_of (history_of (Make point (name_update name value) height ∷ log) name) ≡ Some entry → entry.registered ≡ before.registered
updated-goes_on log point name value height before entry was e =
    ap (λ (item : Item). item.registered) (new_entry (history_of log) name (updated (entry_of (history_of log name)) height point value) entry e)
    ∙ ap (λ o. registered_behind o height) was
