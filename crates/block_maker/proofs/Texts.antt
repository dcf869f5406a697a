-- The texts of transactions of one input and one output.
use Rattle.std.proofs.Common.{◌≡◌, ℕ, ◌+◌, ◌<◌, ◌≤◌, ◌^◌, List, [], ◌∷◌, ◌++◌, length, sym, ◌∙◌, append-nil, append_assoc, arith, inl, inr}
use Rattle.std.specs.Int.{w32, w64, to_le_bytes}
use Rattle.std.proofs.lemmas.Bool.{cases_lt, lt-ltb, le-ltb}
use Rattle.std.proofs.lemmas.List.{length-append}
use Rattle.nmc_base.specs.declared.hashes.OutPoint.{OutPoint}
use Rattle.block_grammar.specs.CompactSize.{compact_size, counted}
use Rattle.block_grammar.specs.Transaction.{TxInput, TxOutput, input_text, output_text, transaction_text, FitsTransaction}
use Rattle.block_maker.specs.Generated.{single_transaction}
use Rattle.block_maker.specs.Pieces.{IsShortTransaction}

abbrev pub single_input : OutPoint → List ℕ → TxInput
single_input spent unlocking = record { txid = spent.txid.0; index = spent.index; script = unlocking; sequence = 0xFFFF_FFFF }

abbrev pub single_output : ℕ → List ℕ → TxOutput
single_output amount locking = record { value = amount; script = locking }

-- its parts, in order
pub single_text : (version : ℕ) (spent : OutPoint) (unlocking : List ℕ) (amount : ℕ) (locking : List ℕ)
    → transaction_text (single_transaction version spent unlocking amount locking)
    ≡ to_le_bytes w32 version ++ (1 ∷ (input_text (single_input spent unlocking) ++ (1 ∷ (output_text (single_output amount locking) ++ (0 ∷ 0 ∷ 0 ∷ 0 ∷ [])))))
unfolding transaction_text compact_size
single_text version spent unlocking amount locking = simp append-nil

pub single_fits : (version : ℕ) (spent : OutPoint) (unlocking : List ℕ) (amount : ℕ) (locking : List ℕ)
    → version < 2 ^ 32 → length spent.txid.0 ≡ 32 → spent.index < 2 ^ 32 → length unlocking ≤ 200000 → amount < 2 ^ 64 → length locking ≤ 200000
    → FitsTransaction (single_transaction version spent unlocking amount locking)
single_fits version spent unlocking amount locking v txid index u a l = record {
  version = v;
  some_input = omega arith;
  input_count = omega arith;
  inputs = (record { txid = txid; index = index; script = omega (arith, u); sequence = omega arith }, tt);
  some_output = omega arith;
  output_count = omega arith;
  outputs = (record { value = a; script = omega (arith, l) }, tt);
  witness = tt;
  lock_time = omega arith;
}

-- ---- how long they are

-- a compact size has nine bytes at most
size_short : (n : ℕ) → n < 2 ^ 32 → length (compact_size n) ≤ 5
unfolding compact_size
size_short n lt =
    elim (cases_lt n 0xFD) [
      | inl small ↦ rw (lt-ltb n 0xFD small) (omega arith)
      | inr past ↦ elim (cases_lt n (2 ^ 16)) [
        | inl less ↦ rw (le-ltb n 0xFD past, lt-ltb n (2 ^ 16) less) (omega arith)
        | inr more ↦ rw (le-ltb n 0xFD past, le-ltb n (2 ^ 16) more, lt-ltb n (2 ^ 32) lt) (omega arith)
      ]
    ]

counted_short : (bytes : List ℕ) → length bytes ≤ 200000 → length (counted bytes) ≤ length bytes + 5
counted_short bytes le =
    let size : length (compact_size (length bytes)) ≤ 5 = size_short (length bytes) (omega (arith, le)) in
    omega (arith, length-append (compact_size (length bytes)) bytes)

input_short : (i : TxInput) → length i.txid ≡ 32 → length i.script ≤ 200000 → length (input_text i) ≤ length i.script + 45
unfolding input_text
input_short i txid le =
    let script = counted_short i.script le in
    omega (arith, script, length-append (counted i.script) (to_le_bytes w32 i.sequence), length-append (to_le_bytes w32 i.index) (counted i.script ++ to_le_bytes w32 i.sequence), length-append i.txid (to_le_bytes w32 i.index ++ (counted i.script ++ to_le_bytes w32 i.sequence)))

output_short : (o : TxOutput) → length o.script ≤ 200000 → length (output_text o) ≤ length o.script + 13
unfolding output_text
output_short o le = omega (arith, counted_short o.script le, length-append (to_le_bytes w64 o.value) (counted o.script))

pub single_short : (version : ℕ) (spent : OutPoint) (unlocking : List ℕ) (amount : ℕ) (locking : List ℕ)
    → length spent.txid.0 ≡ 32 → length unlocking ≤ 60 → length locking ≤ 200000
    → length (transaction_text (single_transaction version spent unlocking amount locking)) ≤ 300000
single_short version spent unlocking amount locking txid u l =
    let input = single_input spent unlocking in
    let output = single_output amount locking in
    let behind : List ℕ = output_text output ++ (0 ∷ 0 ∷ 0 ∷ 0 ∷ []) in
    rw (single_text version spent unlocking amount locking)
    (omega (arith, input_short input txid (omega (arith, u)), output_short output l, length-append (output_text output) (0 ∷ 0 ∷ 0 ∷ 0 ∷ []), length-append (input_text input) (1 ∷ behind), length-append (to_le_bytes w32 version) (1 ∷ (input_text input ++ (1 ∷ behind)))))

pub single_is : (bytes : List ℕ) (version : ℕ) (spent : OutPoint) (unlocking : List ℕ) (amount : ℕ) (locking : List ℕ)
    → version < 2 ^ 32 → length spent.txid.0 ≡ 32 → spent.index < 2 ^ 32 → length unlocking ≤ 60 → amount < 2 ^ 64 → length locking ≤ 200000
    → bytes ≡ to_le_bytes w32 version ++ (1 ∷ (input_text (single_input spent unlocking) ++ (1 ∷ (output_text (single_output amount locking) ++ (0 ∷ 0 ∷ 0 ∷ 0 ∷ [])))))
    → IsShortTransaction bytes (single_transaction version spent unlocking amount locking)
single_is bytes version spent unlocking amount locking v txid index u a l text =
    let whole : bytes ≡ transaction_text (single_transaction version spent unlocking amount locking) = text ∙ sym (single_text version spent unlocking amount locking) in
    record {
      transaction = record { fits = single_fits version spent unlocking amount locking v txid index (omega (arith, u)) a l; text = whole };
      short = rw whole (single_short version spent unlocking amount locking txid u l);
    }

-- six pieces, written one after the other
pub six_parts : (t0 t1 t2 t3 t4 t5 a b c d e f : List ℕ) → t0 ≡ a → t1 ≡ t0 ++ b → t2 ≡ t1 ++ c → t3 ≡ t2 ++ d → t4 ≡ t3 ++ e → t5 ≡ t4 ++ f
    → t5 ≡ a ++ (b ++ (c ++ (d ++ (e ++ f))))
six_parts t0 t1 t2 t3 t4 t5 a b c d e f p0 p1 p2 p3 p4 p5 =
    rw (p5, p4, p3, p2, p1, p0) (simp append_assoc)
