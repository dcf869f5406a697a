-- The maps follow the log: what a transaction does to them is what its events say.
use Rattle.std.proofs.Common.{◌≡◌, ℕ, suc, ◌<◌, ◌≤◌, Bool, true, false, cond, List, [], ◌∷◌, refl, ap, ◌∙◌, arith}
use Rattle.std.specs.Prelude.{Option, Some, None, ◌⊎◌}
use Rattle.std.proofs.Common.{inl, inr}
use Rattle.std.proofs.lemmas.Grind.{common_steps}
use Rattle.block_grammar.specs.Transaction.{Transaction, txid_of, TxInput, TxOutput}
use Rattle.name_script.specs.NameScript.{NameOperation, name_new, name_firstupdate, name_update}
use Rattle.name_script.specs.Reading.{name_op}
use Rattle.nmc_base.specs.declared.hashes.OutPoint.{OutPoint}
use Rattle.nmc_base.specs.declared.chain_ends.Profile.{Profile}
use Rattle.nmc_base.specs.declared.chain_ends.Profile.TheVariants.{Regtest, Main}
use Rattle.nmc_base.specs.Expiry.{expiry_depth, is_expired}
use Rattle.chain_names.specs.declared.coin.Coin.{Coin}
use Rattle.chain_names.specs.declared.coin.Coin.TheVariants.{New, Named}
use Rattle.chain_names.specs.declared.coin.HeldCoin.{HeldCoin}
use Rattle.chain_names.specs.declared.coin.Item.{Item}
use Rattle.chain_names.specs.Points.{same_point, point_at, spent_by, changed}
use Rattle.chain_names.specs.Log.{Log, Spend, Make, spends, made, makes, touches}
use Rattle.chain_names.specs.Coins.{Maps, coin_of, coin_now, unless_expired, live_coin, with_operation, history_of, maps_of}
use Rattle.chain_names.specs.Verdict.{Verdict, plain, commits, opens, updates, refused, NameOutput, with_held, with_output, name_inputs, name_outputs, verdict}
use Rattle.chain_names.specs.Meaning.{IsPlain, HasOutput, HasInput, Commits, Means}
use Rattle.chain_names.specs.Changes.{after_verdict, after_transaction}
use Rattle.chain_names.proofs.Changed.{changed_kept, changed_mapped}
use Rattle.chain_names.proofs.Points.{same_point-Decides}
use Rattle.chain_names.proofs.Shown.{is_refused, true_is_not_false}
use Rattle.chain_names.proofs.Meanings.{verdict_means}

-- ---- laws of the depth

pub some_depth : (profile : Profile) (height : ℕ) → 0 < expiry_depth profile height
some_depth Regtest height = omega arith
some_depth Main height = grind (arith, common_steps)

pub no_steeper : (profile : Profile) (height : ℕ) → expiry_depth profile (suc height) ≤ suc (expiry_depth profile height)
no_steeper Regtest height = omega arith
no_steeper Main height = grind (arith, common_steps)

pub no_lower : (profile : Profile) (height : ℕ) → expiry_depth profile height ≤ expiry_depth profile (suc height)
no_lower Regtest height = omega arith
no_lower Main height = grind (arith, common_steps)

-- a coin isn't expired in its own block
pub fresh_stands : (profile : Profile) (height : ℕ) → is_expired profile height height ≡ false
fresh_stands profile height = grind (arith, some_depth profile height)

-- what is expired stays expired
pub stays_expired : (profile : Profile) (made height : ℕ) → is_expired profile made height ≡ true → is_expired profile made (suc height) ≡ true
stays_expired profile made height e = grind (arith, e, no_steeper profile height)

-- ---- the inputs

-- the live coins after an outpoint is spent
live-spend : (profile : Profile) (log : Log) (height : ℕ) (point : OutPoint)
    → live_coin profile (Spend point ∷ log) height ≡ changed same_point (live_coin profile log height) point None
live-spend profile log height point = changed_mapped same_point (unless_expired profile height) (coin_now log) point None

history_of-spends : (inputs : List TxInput) (log : Log) → history_of (spends inputs log) ≡ history_of log
history_of-spends [] log = refl
history_of-spends (input ∷ inputs) log = history_of-spends inputs (Spend (spent_by input) ∷ log)

some_held : (point : OutPoint) (coin : Coin) (held : List HeldCoin) → with_held point (Some coin) held ≡ [] → ⊥
some_held point coin held e = cc

abbrev first_held : HeldCoin → List HeldCoin → HeldCoin
first_held held [] = held
first_held held (first ∷ more) = first

abbrev rest_held : List HeldCoin → List HeldCoin
rest_held [] = []
rest_held (first ∷ more) = more

-- no input spends a live coin: the live coins stay
no_head : (point : OutPoint) (c : Option Coin) (held : List HeldCoin) → with_held point c held ≡ [] → (c ≡ None) × (held ≡ [])
no_head point None held e = (refl, e)
no_head point (Some coin) held e = absurd (some_held point coin held e)

live-spends_none : (profile : Profile) (height : ℕ) (inputs : List TxInput) (log : Log) → name_inputs (live_coin profile log height) inputs ≡ []
    → live_coin profile (spends inputs log) height ≡ live_coin profile log height
live-spends_none profile height [] log e = refl
live-spends_none profile height (input ∷ inputs) log e =
    let point = spent_by input in
    let live = live_coin profile log height in
    let h = no_head point (live point) (name_inputs live inputs) e in
    let same = live-spend profile log height point ∙ changed_kept same_point-Decides live point None h.0 in
    live-spends_none profile height inputs (Spend point ∷ log) (ap (λ f. name_inputs f inputs) same ∙ h.1) ∙ same

-- none is left where one is taken away
less : (point next : OutPoint) (b : Bool) (c : Option Coin) (held : List HeldCoin) → c ≡ None → held ≡ [] → with_held next (cond b None c) held ≡ []
less point next true c held is none = none
less point next false c held is none = rw is none

name_inputs-less : (coins : OutPoint → Option Coin) (point : OutPoint) (inputs : List TxInput) → name_inputs coins inputs ≡ [] → name_inputs (changed same_point coins point None) inputs ≡ []
name_inputs-less coins point [] e = refl
name_inputs-less coins point (input ∷ inputs) e =
    let h = no_head (spent_by input) (coins (spent_by input)) (name_inputs coins inputs) e in
    less point (spent_by input) (same_point point (spent_by input)) (coins (spent_by input)) _ h.0 (name_inputs-less coins point inputs h.1)

-- one input spends a live coin: it is gone
one_head : (point : OutPoint) (c : Option Coin) (held : List HeldCoin) (at : OutPoint) (coin : Coin) → with_held point c held ≡ record { at = at; coin = coin } ∷ []
    → ((c ≡ None) × (held ≡ record { at = at; coin = coin } ∷ [])) ⊎ ((point ≡ at) × (held ≡ []))
one_head point None held at coin e = inl (refl, e)
one_head point (Some c) held at coin e =
    inr (ap (λ hs. (first_held (record { at = at; coin = coin }) hs).at) e, ap rest_held e)

by_spending : (profile : Profile) (height : ℕ) (input : TxInput) (inputs : List TxInput) (log : Log) (at : OutPoint) (coin : Coin)
    → (name_inputs (live_coin profile (Spend (spent_by input) ∷ log) height) inputs ≡ record { at = at; coin = coin } ∷ []
    → live_coin profile (spends inputs (Spend (spent_by input) ∷ log)) height ≡ changed same_point (live_coin profile (Spend (spent_by input) ∷ log) height) at None)
    → ((live_coin profile log height (spent_by input) ≡ None) × (name_inputs (live_coin profile log height) inputs ≡ record { at = at; coin = coin } ∷ []))
    ⊎ ((spent_by input ≡ at) × (name_inputs (live_coin profile log height) inputs ≡ []))
    → live_coin profile (spends inputs (Spend (spent_by input) ∷ log)) height ≡ changed same_point (live_coin profile log height) at None
by_spending profile height input inputs log at coin later (inl h) =
    let same = live-spend profile log height (spent_by input) ∙ changed_kept same_point-Decides (live_coin profile log height) (spent_by input) None h.0 in
    later (ap (λ f. name_inputs f inputs) same ∙ h.1) ∙ ap (λ f. changed same_point f at None) same
by_spending profile height input inputs log at coin later (inr h) =
    let one = live-spend profile log height (spent_by input) in
    live-spends_none profile height inputs (Spend (spent_by input) ∷ log)
    (ap (λ f. name_inputs f inputs) one ∙ name_inputs-less (live_coin profile log height) (spent_by input) inputs h.1)
    ∙ one ∙ ap (λ p. changed same_point (live_coin profile log height) p None) h.0

live-spends_one : (profile : Profile) (height : ℕ) (inputs : List TxInput) (log : Log) (at : OutPoint) (coin : Coin)
    → name_inputs (live_coin profile log height) inputs ≡ record { at = at; coin = coin } ∷ []
    → live_coin profile (spends inputs log) height ≡ changed same_point (live_coin profile log height) at None
live-spends_one profile height [] log at coin e = absurd cc
live-spends_one profile height (input ∷ inputs) log at coin e =
    let point = spent_by input in
    let live = live_coin profile log height in
    by_spending profile height input inputs log at coin (live-spends_one profile height inputs (Spend point ∷ log) at coin)
    (one_head point (live point) (name_inputs live inputs) at coin e)

-- ---- the outputs

no_output_head : (place value : ℕ) (op : Option NameOperation) (outputs : List NameOutput) → with_output place value op outputs ≡ [] → (op ≡ None) × (outputs ≡ [])
no_output_head place value None outputs e = (refl, e)
no_output_head place value (Some op) outputs e = absurd cc

makes_none : (txid : List ℕ) (height place : ℕ) (outputs : List TxOutput) (log : Log) → name_outputs place outputs ≡ [] → makes txid height place outputs log ≡ log
makes_none txid height place [] log e = refl
makes_none txid height place (output ∷ outputs) log e =
    let h = no_output_head place output.value (name_op output.script) (name_outputs (suc place) outputs) e in
    rw h.0 (makes_none txid height (suc place) outputs log h.1)

abbrev first_output : NameOutput → List NameOutput → NameOutput
first_output output [] = output
first_output output (first ∷ more) = first

abbrev rest_outputs : List NameOutput → List NameOutput
rest_outputs [] = []
rest_outputs (first ∷ more) = more

one_output_head : (place value : ℕ) (op : Option NameOperation) (outputs : List NameOutput) (only : NameOutput) → with_output place value op outputs ≡ only ∷ []
    → ((op ≡ None) × (outputs ≡ only ∷ [])) ⊎ ((op ≡ Some only.operation) × (place ≡ only.place) × (outputs ≡ []))
one_output_head place value None outputs only e = inl (refl, e)
one_output_head place value (Some op) outputs only e =
    inr (ap (λ os. Some (first_output only os).operation) e, ap (λ os. (first_output only os).place) e, ap rest_outputs e)

by_making : (txid : List ℕ) (height place : ℕ) (output : TxOutput) (outputs : List TxOutput) (log : Log) (only : NameOutput)
    → (name_outputs (suc place) outputs ≡ only ∷ [] → makes txid height (suc place) outputs log ≡ Make (point_at txid only.place) only.operation height ∷ log)
    → ((name_op output.script ≡ None) × (name_outputs (suc place) outputs ≡ only ∷ []))
    ⊎ ((name_op output.script ≡ Some only.operation) × (place ≡ only.place) × (name_outputs (suc place) outputs ≡ []))
    → makes txid height (suc place) outputs (made (point_at txid place) height (name_op output.script) log) ≡ Make (point_at txid only.place) only.operation height ∷ log
by_making txid height place output outputs log only later (inl h) = rw h.0 (later h.1)
by_making txid height place output outputs log only later (inr h) =
    rw h.0 (makes_none txid height (suc place) outputs (Make (point_at txid place) only.operation height ∷ log) h.2
    ∙ ap (λ n. Make (point_at txid n) only.operation height ∷ log) h.1)

makes_one : (txid : List ℕ) (height place : ℕ) (outputs : List TxOutput) (log : Log) (only : NameOutput) → name_outputs place outputs ≡ only ∷ []
    → makes txid height place outputs log ≡ Make (point_at txid only.place) only.operation height ∷ log
makes_one txid height place [] log only e = absurd cc
makes_one txid height place (output ∷ outputs) log only e =
    by_making txid height place output outputs log only (makes_one txid height (suc place) outputs log only)
    (one_output_head place output.value (name_op output.script) (name_outputs (suc place) outputs) only e)

-- ---- one transaction

live_fresh : (profile : Profile) (height : ℕ) (operation : NameOperation) → unless_expired profile height (Some (coin_of operation height)) ≡ Some (coin_of operation height)
live_fresh profile height (name_new hash) = refl
live_fresh profile height (name_firstupdate name rand value) = rw (fresh_stands profile height) refl
live_fresh profile height (name_update name value) = rw (fresh_stands profile height) refl

-- the live coins after a name output
live-make : (profile : Profile) (log : Log) (height : ℕ) (point : OutPoint) (operation : NameOperation)
    → live_coin profile (Make point operation height ∷ log) height ≡ changed same_point (live_coin profile log height) point (Some (coin_of operation height))
live-make profile log height point operation =
    changed_mapped same_point (unless_expired profile height) (coin_now log) point (Some (coin_of operation height))
    ∙ ap (λ c. changed same_point (live_coin profile log height) point c) (live_fresh profile height operation)

abbrev pub with_maps : (OutPoint → Option Coin) → (List ℕ → List Item) → Maps
with_maps coins names = record { coins = coins; names = names }

maps_joined : (coins coins' : OutPoint → Option Coin) (names names' : List ℕ → List Item) → coins ≡ coins' → names ≡ names' → with_maps coins names ≡ with_maps coins' names'
maps_joined coins coins' names names' e f = λ i. record { coins = e i; names = f i }

-- a commitment
commit_follows : (profile : Profile) (log : Log) (height : ℕ) (t : Transaction) (hash : List ℕ) (place : ℕ) → Commits profile (maps_of profile log height) t hash place
    → maps_of profile (touches height t log) height ≡ after_verdict (maps_of profile log height) height (txid_of t) (commits hash place)
commit_follows profile log height t hash place means =
    let only : NameOutput = record { place = place; value = means.output.amount; operation = name_new hash } in
    ap (λ l. maps_of profile l height) (makes_one (txid_of t) height 0 t.outputs (spends t.inputs log) only means.output.outputs)
    ∙ (maps_joined _ _ _ _
    (live-make profile (spends t.inputs log) height (point_at (txid_of t) place) (name_new hash)
    ∙ ap (λ f. changed same_point f (point_at (txid_of t) place) (Some (coin_of (name_new hash) height))) (live-spends_none profile height t.inputs log means.inputs))
    (history_of-spends t.inputs log))

-- a name moves from one outpoint to another
move_follows : (profile : Profile) (log : Log) (height : ℕ) (t : Transaction) (operation : NameOperation) (place : ℕ) (spent : OutPoint) (coin : Coin)
    → HasInput (maps_of profile log height) t spent coin
    → HasOutput profile (maps_of profile log height) t place operation
    → maps_of profile (touches height t log) height
    ≡ with_maps (changed same_point (changed same_point (live_coin profile log height) spent None) (point_at (txid_of t) place) (Some (coin_of operation height)))
    (with_operation (history_of log) (point_at (txid_of t) place) operation height)
move_follows profile log height t operation place spent coin input output =
    let only : NameOutput = record { place = place; value = output.amount; operation = operation } in
    ap (λ l. maps_of profile l height) (makes_one (txid_of t) height 0 t.outputs (spends t.inputs log) only output.outputs)
    ∙ (maps_joined _ _ _ _
    (live-make profile (spends t.inputs log) height (point_at (txid_of t) place) operation
    ∙ ap (λ f. changed same_point f (point_at (txid_of t) place) (Some (coin_of operation height))) (live-spends_one profile height t.inputs log spent coin input.inputs))
    (ap (λ f. with_operation f (point_at (txid_of t) place) operation height) (history_of-spends t.inputs log)))

plain_follows : (profile : Profile) (log : Log) (height : ℕ) (t : Transaction) → IsPlain (maps_of profile log height) t
    → maps_of profile (touches height t log) height ≡ maps_of profile log height
plain_follows profile log height t means =
    ap (λ l. maps_of profile l height) (makes_none (txid_of t) height 0 t.outputs (spends t.inputs log) means.outputs)
    ∙ (maps_joined _ _ _ _ (live-spends_none profile height t.inputs log means.inputs) (history_of-spends t.inputs log))

verdict_follows : (profile : Profile) (log : Log) (height : ℕ) (t : Transaction) (v : Verdict) → is_refused v ≡ false
    → Means profile (maps_of profile log height) height t v
    → maps_of profile (touches height t log) height ≡ after_verdict (maps_of profile log height) height (txid_of t) v
verdict_follows profile log height t plain kept means = plain_follows profile log height t means
verdict_follows profile log height t (commits hash place) kept means = commit_follows profile log height t hash place means
verdict_follows profile log height t (opens name value place spent) kept means =
    move_follows profile log height t (name_firstupdate name means.rand value) place spent (New means.hash means.made) means.input means.output
verdict_follows profile log height t (updates name value place spent) kept means =
    move_follows profile log height t (name_update name value) place spent (Named name means.made) means.input means.output
verdict_follows profile log height t (refused refusal) kept means = absurd (true_is_not_false kept)

-- a transaction that isn't refused changes the maps as its events do
pub transaction_follows : (profile : Profile) (height : ℕ) (t : Transaction) (log : Log) → is_refused (verdict profile (maps_of profile log height) height t) ≡ false
    → maps_of profile (touches height t log) height ≡ after_transaction profile height t (maps_of profile log height)
transaction_follows profile height t log kept =
    verdict_follows profile log height t (verdict profile (maps_of profile log height) height t) kept
    (verdict_means profile (maps_of profile log height) height t)
