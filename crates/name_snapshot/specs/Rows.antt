-- Texts to look at the definitions by.
use Rattle.std.specs.Prelude.{ℕ, List, [], ◌∷◌, ◌++◌, replicate}
use Rattle.nmc_base.specs.declared.chain_ends.Base.{Base}
use Rattle.nmc_base.specs.declared.chain_ends.Profile.TheVariants.{Main}
use Rattle.name_snapshot.specs.Text.{commitment, value, StartMake}

-- a base of the public network at height 500,000
abbrev pub base_of_rows : Base
base_of_rows = record { profile = Main; height = 500000; hash = record { 0 = replicate 32 0 } }

-- `d/example`
abbrev pub name_of_rows : List ℕ
name_of_rows = 0x64 ∷ 0x2f ∷ 0x65 ∷ 0x78 ∷ 0x61 ∷ 0x6d ∷ 0x70 ∷ 0x6c ∷ 0x65 ∷ []

-- `{"ip":"1.2.3.4"}`
abbrev pub value_of_rows : List ℕ
value_of_rows = 0x7b ∷ 0x22 ∷ 0x69 ∷ 0x70 ∷ 0x22 ∷ 0x3a ∷ 0x22 ∷ 0x31 ∷ 0x2e ∷ 0x32 ∷ 0x2e ∷ 0x33 ∷ 0x2e ∷ 0x34 ∷ 0x22 ∷ 0x7d ∷ []

-- that value of that name, at this height, by the output with this number of the transaction aa .. aa
abbrev pub value_make : ℕ → ℕ → StartMake
value_make index height = record { at = record { txid = record { 0 = replicate 32 0xaa }; index = index }; height = height; told = value name_of_rows value_of_rows }

-- a commitment of 20 bytes bb
abbrev pub commitment_make : ℕ → ℕ → StartMake
commitment_make index height = record { at = record { txid = record { 0 = replicate 32 0xaa }; index = index }; height = height; told = commitment (replicate 20 0xbb) }

-- ---- bytes

abbrev pub head_bytes : ℕ → List ℕ
head_bytes count = 0x4e ∷ 0x4d ∷ 0x43 ∷ 0x53 ∷ 1 ∷ count ∷ 0 ∷ 0 ∷ 0 ∷ []

abbrev pub point_bytes : ℕ → List ℕ
point_bytes index = replicate 32 0xaa ++ (index ∷ 0 ∷ 0 ∷ 0 ∷ [])

-- the tag, the low bytes of the height, and the name behind its length
abbrev pub named_bytes : ℕ → ℕ → ℕ → ℕ → List ℕ
named_bytes tag a b c = tag ∷ a ∷ b ∷ c ∷ 0 ∷ 9 ∷ name_of_rows

abbrev pub value_bytes : List ℕ
value_bytes = 0x10 ∷ 0 ∷ value_of_rows

-- that value of that name, by the output with this number, at the height of these bytes
abbrev pub make_bytes : ℕ → ℕ → ℕ → ℕ → List ℕ
make_bytes index a b c = point_bytes index ++ (named_bytes 0x53 a b c ++ value_bytes)

-- a snapshot of that alone
abbrev pub one_text : ℕ → ℕ → ℕ → List ℕ
one_text a b c = head_bytes 1 ++ make_bytes 0 a b c
