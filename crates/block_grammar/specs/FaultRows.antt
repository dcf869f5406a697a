-- The table of faults of a transaction, and of a header: which bytes stand before the place of a fault, and which from it on (`rest`).
use Rattle.std.specs.Prelude.{◌≡◌, ℕ, ◌-◌, ◌<◌, ◌≤◌, ◌^◌, ◌⊎◌, Bool, true, false, List, [], ◌∷◌, ◌++◌, length, drop, replicate}
use Rattle.std.specs.List.{flat_map, AllByRecursion}
use Rattle.std.specs.Int.{Width, w16, w32, w64, byte_len, to_le_bytes}
use Rattle.block_grammar.specs.declared.kinds.TxKind.{TxKind}
use Rattle.block_grammar.specs.declared.kinds.TxKind.TheVariants.{Cut, LongForm, BadFlag, NoInput, NoOutput, EmptyWitness}
use Rattle.block_grammar.specs.CompactSize.{compact_size, counted, counted_list}
use Rattle.block_grammar.specs.Hashes.{IsHash}
use Rattle.block_grammar.specs.Witness.{stack_text, FitsItem, FitsStack}
use Rattle.block_grammar.specs.Transaction.{TxInput, TxOutput, Transaction, input_text, output_text, transaction_text, FitsInput, FitsOutput, FitsTransaction}
use Rattle.block_grammar.specs.MergePart.{branch_text, FitsBranch}
use Rattle.block_grammar.specs.PureHeader.{PureHeader, pure_header_text, FitsPureHeader, IsMerged}
use Rattle.block_grammar.specs.Fault.{IsFrontPlace}

-- values that stand behind their number, which is 1 at least
pub record FitsSome {A : Type 0} (Fits : A → Type 0) (xs : List A) : Type 0 where
  pub some : 1 ≤ length xs
  pub count : length xs < 2 ^ 64
  pub each : AllByRecursion Fits xs

-- ---- a compact size in a longer form

-- behind the mark stands a number that a shorter form holds, low byte first; the rest begins with the last of these bytes
pub record IsLonger (mark : ℕ) (width : Width) (least : ℕ) (bytes rest : List ℕ) : Type 0 where
  pub number : ℕ
  pub less : number < least
  pub more : List ℕ
  pub text : bytes ≡ mark ∷ (to_le_bytes width number ++ more)
  pub rest_is : rest ≡ drop (byte_len width) bytes

-- a form of so many bytes stands at the front, and its number needs fewer
pub data IsLongSize (bytes rest : List ℕ) : Type 0 where
  three_bytes : IsLonger 0xFD w16 0xFD bytes rest → IsLongSize bytes rest
  five_bytes : IsLonger 0xFE w32 (2 ^ 16) bytes rest → IsLongSize bytes rest
  nine_bytes : IsLonger 0xFF w64 (2 ^ 32) bytes rest → IsLongSize bytes rest

-- it stands where the format has a compact size
pub record HasLongForm (IsBefore : List ℕ → Type 0) (bytes rest : List ℕ) : Type 0 where
  pub before : List ℕ
  pub is_before : IsBefore before
  pub behind : List ℕ
  pub text : bytes ≡ before ++ behind
  pub long : IsLongSize behind rest

-- ---- where a transaction has a compact size

-- nothing stands before it
abbrev pub IsFirst : List ℕ → Type 0
IsFirst before = before ≡ []

-- the length of an input's script stands behind txid and index
pub record IsBeforeInputSize (before : List ℕ) : Type 0 where
  pub txid : List ℕ
  pub txid_length : length txid ≡ 32
  pub index : ℕ
  pub index_fits : index < 2 ^ 32
  pub text : before ≡ txid ++ to_le_bytes w32 index

-- the length of an output's script stands behind the value
pub record IsBeforeOutputSize (before : List ℕ) : Type 0 where
  pub value : ℕ
  pub value_fits : value < 2 ^ 64
  pub text : before ≡ to_le_bytes w64 value

-- in a value of a list, behind the list's number and fewer values than it says
pub record IsInValue {A : Type 0} (text : A → List ℕ) (Fits : A → Type 0) (IsBefore : List ℕ → Type 0) (before : List ℕ) : Type 0 where
  pub count : ℕ
  pub count_fits : count < 2 ^ 64
  pub values : List A
  pub values_fit : AllByRecursion Fits values
  pub fewer : length values < count
  pub inner : List ℕ
  pub is_before : IsBefore inner
  pub text_is : before ≡ compact_size count ++ (flat_map text values ++ inner)

-- the number of a list stands at its front
abbrev pub IsBeforeListSize : {A : Type 0} → (A → List ℕ) → (A → Type 0) → (List ℕ → Type 0) → List ℕ → Type 0
IsBeforeListSize text Fits IsBefore before = IsFirst before ⊎ IsInValue text Fits IsBefore before

-- with a witness the marker 00 and the flag 01 stand behind the version (BIP 144)
abbrev pub opening : Bool → List ℕ
opening true = 0 ∷ (1 ∷ [])
opening false = []

-- in the inputs, behind the version
pub record IsInInputs (before : List ℕ) : Type 0 where
  pub version : ℕ
  pub version_fits : version < 2 ^ 32
  pub witness : Bool
  pub inner : List ℕ
  pub is_before : IsBeforeListSize input_text FitsInput IsBeforeInputSize inner
  pub text : before ≡ to_le_bytes w32 version ++ (opening witness ++ inner)

-- in the outputs, behind the inputs
pub record IsInOutputs (before : List ℕ) : Type 0 where
  pub version : ℕ
  pub version_fits : version < 2 ^ 32
  pub witness : Bool
  pub inputs : List TxInput
  pub inputs_fit : FitsSome FitsInput inputs
  pub inner : List ℕ
  pub is_before : IsBeforeListSize output_text FitsOutput IsBeforeOutputSize inner
  pub text : before ≡ to_le_bytes w32 version ++ (opening witness ++ (counted_list input_text inputs ++ inner))

-- in the lists of the witness, of which there are as many as inputs
pub record IsInWitness (before : List ℕ) : Type 0 where
  pub version : ℕ
  pub version_fits : version < 2 ^ 32
  pub inputs : List TxInput
  pub inputs_fit : FitsSome FitsInput inputs
  pub outputs : List TxOutput
  pub outputs_fit : FitsSome FitsOutput outputs
  pub lists : List (List (List ℕ))
  pub lists_fit : AllByRecursion FitsStack lists
  pub fewer : length lists < length inputs
  pub inner : List ℕ
  pub is_before : IsBeforeListSize counted FitsItem IsFirst inner
  pub text : before ≡ to_le_bytes w32 version ++ (opening true ++ (counted_list input_text inputs ++ (counted_list output_text outputs ++ (flat_map stack_text lists ++ inner))))

pub data IsBeforeSize (before : List ℕ) : Type 0 where
  in_inputs : IsInInputs before → IsBeforeSize before
  in_outputs : IsInOutputs before → IsBeforeSize before
  in_witness : IsInWitness before → IsBeforeSize before

-- ---- the faults that are a byte of their own

-- the byte behind the marker isn't 01
pub record HasBadFlag (bytes rest : List ℕ) : Type 0 where
  pub version : ℕ
  pub version_fits : version < 2 ^ 32
  pub flag : ℕ
  pub more : List ℕ
  pub rest_is : rest ≡ flag ∷ more
  pub no_flag : ¬ (flag ≡ 1)
  pub text : bytes ≡ to_le_bytes w32 version ++ (0 ∷ rest)

-- the number 00 of inputs stands behind marker and flag
pub record HasNoInput (bytes rest : List ℕ) : Type 0 where
  pub version : ℕ
  pub version_fits : version < 2 ^ 32
  pub more : List ℕ
  pub rest_is : rest ≡ 0 ∷ more
  pub text : bytes ≡ to_le_bytes w32 version ++ (opening true ++ rest)

-- the number 00 of outputs stands behind the inputs
pub record HasNoOutput (bytes rest : List ℕ) : Type 0 where
  pub version : ℕ
  pub version_fits : version < 2 ^ 32
  pub witness : Bool
  pub inputs : List TxInput
  pub inputs_fit : FitsSome FitsInput inputs
  pub more : List ℕ
  pub rest_is : rest ≡ 0 ∷ more
  pub text : bytes ≡ to_le_bytes w32 version ++ (opening witness ++ (counted_list input_text inputs ++ rest))

-- the number 00 of the last input's list stands behind those of all other inputs, which are 00 too
pub record HasEmptyWitness (bytes rest : List ℕ) : Type 0 where
  pub version : ℕ
  pub version_fits : version < 2 ^ 32
  pub inputs : List TxInput
  pub inputs_fit : FitsSome FitsInput inputs
  pub outputs : List TxOutput
  pub outputs_fit : FitsSome FitsOutput outputs
  pub more : List ℕ
  pub rest_is : rest ≡ 0 ∷ more
  pub text : bytes ≡ to_le_bytes w32 version ++ (opening true ++ (counted_list input_text inputs ++ (counted_list output_text outputs ++ (replicate (length inputs - 1) 0 ++ rest))))

-- the five faults that are a byte: each has a row
abbrev pub TransactionByte : TxKind → List ℕ → List ℕ → Type 0
TransactionByte Cut bytes rest = ⊥
TransactionByte LongForm bytes rest = HasLongForm IsBeforeSize bytes rest
TransactionByte BadFlag bytes rest = HasBadFlag bytes rest
TransactionByte NoInput bytes rest = HasNoInput bytes rest
TransactionByte NoOutput bytes rest = HasNoOutput bytes rest
TransactionByte EmptyWitness bytes rest = HasEmptyWitness bytes rest

-- a compact size alone has one
abbrev pub SizeByte : TxKind → List ℕ → List ℕ → Type 0
SizeByte Cut bytes rest = ⊥
SizeByte LongForm bytes rest = IsLongSize bytes rest
SizeByte BadFlag bytes rest = ⊥
SizeByte NoInput bytes rest = ⊥
SizeByte NoOutput bytes rest = ⊥
SizeByte EmptyWitness bytes rest = ⊥

-- ---- headers

-- the number of a Merkle branch stands behind the parent's coinbase and block hash
pub record IsBeforeCoinbaseBranch (before : List ℕ) : Type 0 where
  pub coinbase : Transaction
  pub coinbase_fits : FitsTransaction coinbase
  pub parent_hash : List ℕ
  pub parent_hash_is : IsHash parent_hash
  pub text : before ≡ transaction_text coinbase ++ parent_hash

-- and that of the other behind the first branch and its index
pub record IsBeforeChainBranch (before : List ℕ) : Type 0 where
  pub first : List ℕ
  pub is_first : IsBeforeCoinbaseBranch first
  pub branch : List (List ℕ)
  pub branch_fits : FitsBranch branch
  pub index : ℕ
  pub index_fits : index < 2 ^ 32
  pub text : before ≡ first ++ (branch_text branch ++ to_le_bytes w32 index)

-- where the merge-mining part has a compact size
pub data IsBeforePartSize (before : List ℕ) : Type 0 where
  in_coinbase : IsBeforeSize before → IsBeforePartSize before
  in_coinbase_branch : IsBeforeCoinbaseBranch before → IsBeforePartSize before
  in_chain_branch : IsBeforeChainBranch before → IsBeforePartSize before

-- the merge-mining part has the parent's coinbase in front
abbrev pub PartByte : TxKind → List ℕ → List ℕ → Type 0
PartByte Cut bytes rest = ⊥
PartByte LongForm bytes rest = HasLongForm IsBeforePartSize bytes rest
PartByte BadFlag bytes rest = HasBadFlag bytes rest
PartByte NoInput bytes rest = HasNoInput bytes rest
PartByte NoOutput bytes rest = HasNoOutput bytes rest
PartByte EmptyWitness bytes rest = HasEmptyWitness bytes rest

-- one of them in the part, which stands behind 80 bytes whose version has bit 0x100
pub record HeaderByte (kind : TxKind) (bytes rest : List ℕ) : Type 0 where
  pub fields : PureHeader
  pub fields_fit : FitsPureHeader fields
  pub merged : IsMerged fields.version
  pub body : List ℕ
  pub text : bytes ≡ pure_header_text fields ++ body
  pub fault : PartByte kind body rest

-- ---- the table

-- nothing is left where the input is cut, and else the row of the byte
abbrev pub FaultRow : (TxKind → List ℕ → List ℕ → Type 0) → TxKind → List ℕ → List ℕ → Type 0
FaultRow Byte Cut bytes rest = rest ≡ []
FaultRow Byte LongForm bytes rest = Byte LongForm bytes rest
FaultRow Byte BadFlag bytes rest = Byte BadFlag bytes rest
FaultRow Byte NoInput bytes rest = Byte NoInput bytes rest
FaultRow Byte NoOutput bytes rest = Byte NoOutput bytes rest
FaultRow Byte EmptyWitness bytes rest = Byte EmptyWitness bytes rest

-- No text stands at the front of the bytes; the place is that of the first byte that none can have there, or the input's
-- length; and the kind is that of the table.
pub record IsTableFault {A : Type 0} (text : A → List ℕ) (Fits : A → Type 0) (Byte : TxKind → List ℕ → List ℕ → Type 0) (bytes : List ℕ) (kind : TxKind) (place : ℕ) : Type 0 where
  pub first : IsFrontPlace text Fits bytes place
  pub row : FaultRow Byte kind bytes (drop place bytes)
