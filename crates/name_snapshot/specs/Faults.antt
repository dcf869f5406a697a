-- The first fault of a text, by the grammar. The rest is what stands from the place of the fault on.
use Rattle.std.specs.Prelude.{◌≡◌, ◌≢◌, ℕ, ◌-◌, ◌<◌, ◌^◌, List, [], ◌∷◌, ◌++◌, length}
use Rattle.std.specs.Int.{w32, to_le_bytes}
use Rattle.nmc_base.specs.declared.chain_ends.Base.{Base}
use Rattle.nmc_base.specs.declared.hashes.OutPoint.{OutPoint}
use Rattle.chain_names.specs.Writable.{IsWritablePoint, IsWritableName}
use Rattle.undo_records.specs.Faults.{IsOther, IsLongLength, IsProperFront}
use Rattle.undo_records.specs.Text.{point_text, name_text}
use Rattle.name_snapshot.specs.Makes.{IsWritableMake, MayFollowAll, IsMisplaced}
use Rattle.name_snapshot.specs.Text.{StartMake, make_text, makes_text, mark, head_text}

-- a head, makes of which each may stand on those below, and then these bytes
pub record Reaches (base : Base) (text : List ℕ) (count : ℕ) (below : List StartMake) (bytes : List ℕ) : Type 0 where
  pub count_fits : count < 2 ^ 32
  pub follow : MayFollowAll base below
  pub text_is : text ≡ head_text count ++ (makes_text below ++ bytes)

abbrev pub IsBelow32 : ℕ → Type 0
IsBelow32 n = n < 2 ^ 32

-- ---- a byte that can't stand there

-- What is wrong with the make that stands at the front: its tag, the length of its value, or the whole of it. Its form goes first:
-- a make is misplaced where it stands there whole.
pub data IsBadMake (base : Base) (below : List StartMake) (bytes rest : List ℕ) : Type 0 where
  other_tag : (at : OutPoint) → IsWritablePoint at → bytes ≡ point_text at ++ rest → IsOther (0x51 ∷ 0x53 ∷ []) rest → IsBadMake base below bytes rest
  long_value : (at : OutPoint) (height : ℕ) (name : List ℕ) → IsWritablePoint at → height < 2 ^ 32 → IsWritableName name
      → bytes ≡ point_text at ++ (0x53 ∷ (to_le_bytes w32 height ++ (name_text name ++ rest))) → IsLongLength rest → IsBadMake base below bytes rest
  misplaced : (m : StartMake) (more : List ℕ) → IsWritableMake m → bytes ≡ make_text m ++ more → IsMisplaced base below m → rest ≡ bytes → IsBadMake base below bytes rest

pub data IsBad (base : Base) (text rest : List ℕ) : Type 0 where
  -- a byte of the mark is another one, and none before it
  other_mark : (front : List ℕ) (wanted : ℕ) (others : List ℕ) → mark ≡ front ++ wanted ∷ others → text ≡ front ++ rest → IsOther (wanted ∷ []) rest → IsBad base text rest
  bad_make : (count : ℕ) (below : List StartMake) (bytes : List ℕ) → Reaches base text count below bytes → length below < count → IsBadMake base below bytes rest → IsBad base text rest
  -- a byte follows the last make
  behind : (below : List StartMake) → Reaches base text (length below) below rest → rest ≢ [] → IsBad base text rest

-- ---- the end

-- the text ends within its head, or within a make
pub data IsCut (base : Base) (text : List ℕ) : Type 0 where
  in_head : IsProperFront head_text IsBelow32 text → IsCut base text
  in_make : (count : ℕ) (below : List StartMake) (bytes : List ℕ) → Reaches base text count below bytes → length below < count → IsProperFront make_text IsWritableMake bytes → IsCut base text

-- ---- the place

pub data HasFault (base : Base) (text : List ℕ) (at : ℕ) : Type 0 where
  bad : (rest : List ℕ) → IsBad base text rest → at ≡ length text - length rest → HasFault base text at
  cut : IsCut base text → at ≡ length text → HasFault base text at
