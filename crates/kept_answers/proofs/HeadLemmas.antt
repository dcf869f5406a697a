-- The header of a reply, and the 8 bytes that are kept of it.
use Rattle.std.proofs.Common.{◌≡◌, ℕ, ◌+◌, ◌*◌, ◌/◌, ◌%◌, ◌^◌, ◌<◌, ◌≤◌, Bool, true, false, ◌∷◌, ◌++◌, if◌then◌else◌, ap₂, arith}
use Rattle.dns_message.specs.Header.{word_text, opcode_of, rd_of, flags_of_reply}
use Rattle.kept_answers.specs.Kept.{Kept, IsKept, bits_of, kept_head}

-- AA and TC in the high byte of the flags
bits_by : (flags rcode : ℕ) (aa tc : Bool) → flags_of_reply flags aa tc rcode / 256 % 256 / 4 % 2 * 4 + flags_of_reply flags aa tc rcode / 256 % 256 / 2 % 2 * 2
    ≡ (if aa then 2 ^ 2 else 0) + (if tc then 2 ^ 1 else 0)
bits_by flags rcode true true = omega arith
bits_by flags rcode true false = omega arith
bits_by flags rcode false true = omega arith
bits_by flags rcode false false = omega arith

pub bits_read : (flags : ℕ) (k : Kept) (high : ℕ) → high ≡ flags_of_reply flags k.aa k.tc k.rcode / 256 % 256 → high / 4 % 2 * 4 + high / 2 % 2 * 2 ≡ bits_of k
bits_read flags k high e = rw e (bits_by flags k.rcode k.aa k.tc)

rcode_by : (flags rcode : ℕ) (aa tc : Bool) → rcode < 2 ^ 4 → flags_of_reply flags aa tc rcode % 256 % 16 ≡ rcode
rcode_by flags rcode true true small = omega arith
rcode_by flags rcode true false small = omega arith
rcode_by flags rcode false true small = omega arith
rcode_by flags rcode false false small = omega arith

-- the RCODE in the low byte
pub rcode_read : (flags : ℕ) (k : Kept) (low : ℕ) → IsKept k → low ≡ flags_of_reply flags k.aa k.tc k.rcode % 256 → low % 16 ≡ k.rcode
rcode_read flags k low is e = rw e (rcode_by flags k.rcode k.aa k.tc is.rcode)

-- the other way round
flags_by : (flags rcode : ℕ) (aa tc : Bool) → rcode < 2 ^ 4
    → 2 ^ 15 + opcode_of flags * 2 ^ 11 + ((if aa then 2 ^ 2 else 0) + (if tc then 2 ^ 1 else 0)) * 2 ^ 8 + rd_of flags * 2 ^ 8 + rcode ≡ flags_of_reply flags aa tc rcode
flags_by flags rcode true true small = omega arith
flags_by flags rcode true false small = omega arith
flags_by flags rcode false true small = omega arith
flags_by flags rcode false false small = omega arith

pub flags_written : (flags bits rcode : ℕ) (k : Kept) → IsKept k → bits ≡ bits_of k → rcode ≡ k.rcode
    → 2 ^ 15 + opcode_of flags * 2 ^ 11 + bits * 2 ^ 8 + rd_of flags * 2 ^ 8 + rcode ≡ flags_of_reply flags k.aa k.tc k.rcode
flags_written flags bits rcode k is b r = rw (b, r) (flags_by flags k.rcode k.aa k.tc is.rcode)

few_by : (aa tc : Bool) → (if aa then 2 ^ 2 else 0) + (if tc then 2 ^ 1 else 0) ≤ 6
few_by true true = omega arith
few_by true false = omega arith
few_by false true = omega arith
few_by false false = omega arith

pub few_bits : (k : Kept) → bits_of k ≤ 6
few_bits k = few_by k.aa k.tc

-- the bytes, one by one
pub same_head : (k : Kept) (bits rcode : ℕ) → bits ≡ bits_of k → rcode ≡ k.rcode → bits ∷ (rcode ∷ (word_text k.answers ++ (word_text k.authorities ++ word_text 0))) ≡ kept_head k
same_head k bits rcode b r = ap₂ (λ x y. x ∷ (y ∷ (word_text k.answers ++ (word_text k.authorities ++ word_text 0)))) b r
