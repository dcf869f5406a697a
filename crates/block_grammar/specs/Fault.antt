-- The place of a fault, by the grammar alone.
use Rattle.std.specs.Prelude.{◌≡◌, ℕ, ◌+◌, ◌≤◌, ◌⊎◌, List, ◌++◌, length, take}
use Rattle.block_grammar.specs.Block.{Block, block_text, FitsBlock, IsBlock}

-- some text of the format begins with the bytes
pub record IsFront {A : Type 0} (text : A → List ℕ) (Fits : A → Type 0) (bytes : List ℕ) : Type 0 where
  pub value : A
  pub fits : Fits value
  pub more : List ℕ
  pub text_is : text value ≡ bytes ++ more

-- The place is the number of bytes before the first one that makes the input no front of any text; or the input's
-- length, where it is a front of one.
pub record IsFirstFault {A : Type 0} (text : A → List ℕ) (Fits : A → Type 0) (bytes : List ℕ) (place : ℕ) : Type 0 where
  pub inside : place ≤ length bytes
  pub front : IsFront text Fits (take place bytes)
  pub no_further : (place ≡ length bytes) ⊎ (IsFront text Fits (take (place + 1) bytes) → ⊥)

-- no block is these bytes, and the place is that of their fault
pub record IsFaultPlace (bytes : List ℕ) (place : ℕ) : Type 0 where
  pub no_block : (b : Block) → ¬ (IsBlock bytes b)
  pub first : IsFirstFault block_text FitsBlock bytes place

-- the value's text takes the first n bytes
pub record StandsFirst {A : Type 0} (text : A → List ℕ) (Fits : A → Type 0) (bytes : List ℕ) (x : A) (n : ℕ) : Type 0 where
  pub within : n ≤ length bytes
  pub fits : Fits x
  pub text_is : take n bytes ≡ text x

-- no text stands at the front of the bytes, and the place is that of their fault
pub record IsFrontPlace {A : Type 0} (text : A → List ℕ) (Fits : A → Type 0) (bytes : List ℕ) (place : ℕ) : Type 0 where
  pub none : (x : A) (n : ℕ) → ¬ (StandsFirst text Fits bytes x n)
  pub first : IsFirstFault text Fits bytes place
