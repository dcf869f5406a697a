-- Headers of blocks: the 80 bytes, and the merge-mining part where their version says that there is one.
use Rattle.std.specs.Prelude.{◌≡◌, ℕ, List, [], ◌++◌, Option, Some, None}
use Rattle.block_grammar.specs.Hashes.{double_sha256}
use Rattle.block_grammar.specs.PureHeader.{PureHeader, pure_header_text, FitsPureHeader, IsMerged}
use Rattle.block_grammar.specs.MergePart.{MergePart, merge_part_text, FitsMergePart}

pub record Header : Type 0 where
  pub fields : PureHeader
  pub merged : Option MergePart

abbrev pub merged_text : Option MergePart → List ℕ
merged_text None = []
merged_text (Some m) = merge_part_text m

unfoldable pub header_text : Header → List ℕ
header_text h = pure_header_text h.fields ++ merged_text h.merged

-- the part is there exactly where bit 0x100 of the version is set
abbrev pub FitsMerged : ℕ → Option MergePart → Type 0
FitsMerged version None = ¬ IsMerged version
FitsMerged version (Some m) = IsMerged version × FitsMergePart m

pub record FitsHeader (h : Header) : Type 0 where
  pub fields : FitsPureHeader h.fields
  pub merged : FitsMerged h.fields.version h.merged

-- the bytes are the header with its merge-mining part, all of them
pub record IsHeader (bytes : List ℕ) (h : Header) : Type 0 where
  pub fits : FitsHeader h
  pub text : bytes ≡ header_text h

-- the hash of a block, of the 80 bytes at its front
unfoldable pub header_hash : Header → List ℕ
header_hash h = double_sha256 (pure_header_text h.fields)
