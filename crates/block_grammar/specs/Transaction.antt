-- Transactions of Bitcoin's block format ("tx"), with the witness of BIP 144 or without it.
use Rattle.std.specs.Prelude.{◌≡◌, ℕ, ◌<◌, ◌≤◌, ◌^◌, List, ◌∷◌, ◌++◌, length, Option, Some, None}
use Rattle.std.specs.List.{flat_map, AllByRecursion}
use Rattle.std.specs.Int.{w32, w64, to_le_bytes}
use Rattle.block_grammar.specs.CompactSize.{counted, counted_list}
use Rattle.block_grammar.specs.Hashes.{double_sha256}
use Rattle.block_grammar.specs.Witness.{stack_text, FitsWitness}

-- "txin": the output that is spent, as the txid of its transaction and its index there; a script; a sequence number
pub record TxInput : Type 0 where
  pub txid : List ℕ
  pub index : ℕ
  pub script : List ℕ
  pub sequence : ℕ

-- "txout": an amount and a script
pub record TxOutput : Type 0 where
  pub value : ℕ
  pub script : List ℕ

-- The witness has for each input a list of byte strings. There is none in the plain form.
pub record Transaction : Type 0 where
  pub version : ℕ
  pub inputs : List TxInput
  pub outputs : List TxOutput
  pub witness : Option (List (List (List ℕ)))
  pub lock_time : ℕ

unfoldable pub input_text : TxInput → List ℕ
input_text i = i.txid ++ (to_le_bytes w32 i.index ++ (counted i.script ++ to_le_bytes w32 i.sequence))

unfoldable pub output_text : TxOutput → List ℕ
output_text o = to_le_bytes w64 o.value ++ counted o.script

-- the transaction without marker, flag and witness
unfoldable pub stripped_text : Transaction → List ℕ
stripped_text t =
    to_le_bytes w32 t.version ++ (counted_list input_text t.inputs ++ (counted_list output_text t.outputs ++ to_le_bytes w32 t.lock_time))

-- what stands behind the version: the marker 00 and the flag 01 where there is a witness (BIP 144, "Serialization")
abbrev pub body_text : List TxInput → List TxOutput → Option (List (List (List ℕ))) → ℕ → List ℕ
body_text inputs outputs None lock_time =
    counted_list input_text inputs ++ (counted_list output_text outputs ++ to_le_bytes w32 lock_time)
body_text inputs outputs (Some stacks) lock_time =
    0 ∷ (1 ∷ (counted_list input_text inputs ++ (counted_list output_text outputs ++ (flat_map stack_text stacks ++ to_le_bytes w32 lock_time))))

unfoldable pub transaction_text : Transaction → List ℕ
transaction_text t = to_le_bytes w32 t.version ++ body_text t.inputs t.outputs t.witness t.lock_time

-- contents that have a text: numbers in their fields, hashes of 32 bytes, one input and one output at least
pub record FitsInput (i : TxInput) : Type 0 where
  pub txid : length i.txid ≡ 32
  pub index : i.index < 2 ^ 32
  pub script : length i.script < 2 ^ 64
  pub sequence : i.sequence < 2 ^ 32

pub record FitsOutput (o : TxOutput) : Type 0 where
  pub value : o.value < 2 ^ 64
  pub script : length o.script < 2 ^ 64

pub record FitsTransaction (t : Transaction) : Type 0 where
  pub version : t.version < 2 ^ 32
  pub some_input : 1 ≤ length t.inputs
  pub input_count : length t.inputs < 2 ^ 64
  pub inputs : AllByRecursion FitsInput t.inputs
  pub some_output : 1 ≤ length t.outputs
  pub output_count : length t.outputs < 2 ^ 64
  pub outputs : AllByRecursion FitsOutput t.outputs
  pub witness : FitsWitness (length t.inputs) t.witness
  pub lock_time : t.lock_time < 2 ^ 32

-- the bytes are the transaction, all of them
pub record IsTransaction (bytes : List ℕ) (t : Transaction) : Type 0 where
  pub fits : FitsTransaction t
  pub text : bytes ≡ transaction_text t

-- the transaction id: marker, flag and witness are no part of it
unfoldable pub txid_of : Transaction → List ℕ
txid_of t = double_sha256 (stripped_text t)
