-- How a name stands, and what a block does to it.
use Rattle.std.specs.Prelude.{ℕ, ◌+◌, nat_le, if◌then◌else◌, List, ◌++◌, replicate, Option, Some, None}
use Rattle.std.specs.Option.{option_map}
use Rattle.hash160.specs.Hash160.{hash160}
use Rattle.name_script.specs.NameScript.{name_new, name_firstupdate, name_update}
use Rattle.nmc_base.specs.declared.hashes.OutPoint.{OutPoint}
use Rattle.block_grammar.specs.Transaction.{Transaction, txid_of}
use Rattle.block_maker.specs.Generated.{Making, name_transaction}
use Rattle.generated_chain.specs.Texts.{name_text, rand_text, value_text}
use Rattle.generated_chain.specs.declared.stand.Made.{Made}
use Rattle.generated_chain.specs.declared.stand.Stand.{Stand}
use Rattle.generated_chain.specs.declared.stand.Deed.{Deed}
use Rattle.generated_chain.specs.declared.stand.Deed.TheVariants.{Nothing, Commit, Open, Update}

-- no NAME_NEW of it waits, and it was never changed
abbrev pub unknown : Stand
unknown = record { waiting = None; changed = None }

-- What a block at a height does to a name: its NAME_NEW that waits is opened 12 blocks behind it; where none waits, the name is
-- updated until 30 blocks behind its last change, and else committed to.
abbrev pub deed_with : (height : ℕ) → (waiting changed : Option Made) → Deed
deed_with height (Some commitment) changed = if nat_le (commitment.height + 12) height then Open commitment else Nothing
deed_with height None None = Commit
deed_with height None (Some change) = if nat_le (change.height + 30) height then Commit else Update change

abbrev pub deed_at : ℕ → Stand → Deed
deed_at height stand = deed_with height stand.waiting stand.changed

-- ---- the operation

-- the output of no transaction
abbrev pub nowhere : ℕ → OutPoint
nowhere height = record { txid = record { 0 = replicate 32 0xEE }; index = height }

-- what a block at a height makes of a name, with a rand and a value, if it does anything
abbrev pub making_with : (height : ℕ) → (name rand value : List ℕ) → Deed → Option Making
making_with height name rand value Nothing = None
making_with height name rand value Commit = Some (record { operation = name_new (hash160 (rand ++ name)); spent = nowhere height })
making_with height name rand value (Open waiting) = Some (record { operation = name_firstupdate name rand value; spent = waiting.output })
making_with height name rand value (Update changed) = Some (record { operation = name_update name value; spent = changed.output })

-- the height of the NAME_NEW, which tells the rand
abbrev pub committed_at : (height : ℕ) → Deed → ℕ
committed_at height Nothing = height
committed_at height Commit = height
committed_at height (Open waiting) = waiting.height
committed_at height (Update changed) = height

abbrev pub making_by : (height number : ℕ) → Deed → Option Making
making_by height number deed = making_with height (name_text number) (rand_text (committed_at height deed)) (value_text height) deed

-- ---- behind the block

abbrev pub first_output : Transaction → OutPoint
first_output t = record { txid = record { 0 = txid_of t }; index = 0 }

-- the output of the name transaction
abbrev pub output_of : Making → OutPoint
output_of making = first_output (name_transaction making)

abbrev pub made_at : (height : ℕ) → OutPoint → Made
made_at height output = record { height = height; output = output }

-- a NAME_NEW waits until it is opened; what opens a name or updates it is its last change
abbrev pub stand_by : Deed → (made : Option Made) → Stand → Stand
stand_by Nothing made stand = stand
stand_by Commit made stand = record { waiting = made; changed = stand.changed }
stand_by (Open waiting) made stand = record { waiting = None; changed = made }
stand_by (Update changed) made stand = record { waiting = None; changed = made }

-- how a name stands behind a block that was about it
abbrev pub stand_behind : (height number : ℕ) → Stand → Stand
stand_behind height number stand =
    let deed = deed_at height stand in
    stand_by deed (option_map (made_at height) (option_map output_of (making_by height number deed))) stand
