-- The forms of a command line, and the first word of one that is of no form.
use Rattle.std.specs.Prelude.{◌≡◌, ◌≢◌, ◌⊎◌, ℕ, zero, suc, length, List, [], ◌∷◌, codes, Result, Ok, Err}
use Rattle.nmc_base.specs.declared.chain_ends.Profile.{Profile}
use Rattle.nmc_base.specs.declared.hashes.Hash32.{Hash32}
use Rattle.name_store.specs.Host.{IsHostOf}
use Rattle.bridge_commands.specs.Words.{IsHeight, IsPort, AreTurns, AreBlocks, IsPageSize, IsSeed, IsHash, profile_word, Asks}
use Rattle.bridge_commands.specs.declared.words.Command.{Command}
use Rattle.bridge_commands.specs.declared.wrong.Field.{Field}
use Rattle.bridge_commands.specs.declared.wrong.Form.{Form}
use Rattle.bridge_commands.specs.declared.wrong.Wrong.{Wrong}
use Rattle.bridge_commands.specs.declared.wrong.WrongWord.{WrongWord}
use Rattle.bridge_commands.specs.declared.wrong.Field.TheVariants as field
use Rattle.bridge_commands.specs.declared.wrong.Form.TheVariants as form
use Rattle.bridge_commands.specs.declared.wrong.Wrong.TheVariants as wrong

-- ---- the table of the forms

-- the word of a form's command
abbrev pub form_word : Form → List ℕ
form_word form.Init = codes "init"
form_word form.InitFrom = codes "init-from"
form_word form.Serve = codes "serve"
form_word form.Replay = codes "replay"
form_word form.Listing = codes "list"
form_word form.Dump = codes "dump"
form_word form.SelfTest = codes "selftest"

-- what stands behind it
abbrev pub fields : Form → List Field
fields form.Init = field.Profile ∷ field.Height ∷ field.Hash ∷ field.Host ∷ []
fields form.InitFrom = field.Profile ∷ field.Height ∷ field.Hash ∷ field.Host ∷ []
fields form.Serve = field.Port ∷ field.Port ∷ field.Turns ∷ []
fields form.Replay = []
fields form.Listing = field.Rows ∷ []
fields form.Dump = []
fields form.SelfTest = field.Blocks ∷ field.Seed ∷ []

-- the word is one of the field
abbrev pub IsOf : Field → List ℕ → Type 0
IsOf field.Profile word = (profile : Profile) × (word ≡ profile_word profile)
IsOf field.Height word = (height : ℕ) × IsHeight word height
IsOf field.Hash word = (hash : Hash32) × IsHash word hash.0
IsOf field.Host word = (name : List ℕ) × IsHostOf word name
IsOf field.Port word = (number : ℕ) × IsPort word number
IsOf field.Turns word = (number : ℕ) × AreTurns word number
IsOf field.Rows word = (size : ℕ) × IsPageSize word size
IsOf field.Blocks word = (number : ℕ) × AreBlocks word number
IsOf field.Seed word = (number : ℕ) × IsSeed word number

-- ---- the first wrong word

-- the words for help
abbrev pub AsksForHelp : List ℕ → Type 0
AsksForHelp word = (word ≡ codes "--help") ⊎ (word ≡ codes "-h")

-- no form begins with the word
pub record IsNoCommand (word : List ℕ) : Type 0 where
  pub no_help : AsksForHelp word → ⊥
  pub no_form : (f : Form) → word ≢ form_word f

-- of the words, each with its field, the one behind so many is the first that isn't of its field
abbrev pub IsFirstNot : List Field → List (List ℕ) → ℕ → Field → Type 0
IsFirstNot [] words behind first = ⊥
IsFirstNot (f ∷ fs) [] behind first = ⊥
IsFirstNot (f ∷ fs) (word ∷ words) zero first = (first ≡ f) × (IsOf f word → ⊥)
IsFirstNot (f ∷ fs) (word ∷ words) (suc behind) first = IsOf f word × IsFirstNot fs words behind first

-- the first wrong word: there is none; it asks for help; no form begins with it; it is a form's, and there are more or fewer words behind it than the form has fields;
-- or there are as many, and it is the first that isn't of its field
pub data IsWrong (words : List (List ℕ)) (first : WrongWord) : Type 0 where
  missing : words ≡ [] → first ≡ record { place = 0; wrong = wrong.Missing } → IsWrong words first
  help : (word : List ℕ) (rest : List (List ℕ)) → words ≡ word ∷ rest → AsksForHelp word → first ≡ record { place = 0; wrong = wrong.Help } → IsWrong words first
  no_command : (word : List ℕ) (rest : List (List ℕ)) → words ≡ word ∷ rest → IsNoCommand word → first ≡ record { place = 0; wrong = wrong.NoCommand } → IsWrong words first
  count : (f : Form) (rest : List (List ℕ)) → words ≡ form_word f ∷ rest → length rest ≢ length (fields f) → first ≡ record { place = 0; wrong = wrong.Count f } → IsWrong words first
  of_no_field : (f : Form) (rest : List (List ℕ)) (behind : ℕ) (it : Field) → words ≡ form_word f ∷ rest → length rest ≡ length (fields f) → IsFirstNot (fields f) rest behind it
      → first ≡ record { place = suc behind; wrong = wrong.Field it } → IsWrong words first

-- what a command line is read as: the command that it asks for, or its first wrong word
abbrev pub IsReadAs : List (List ℕ) → Result Command WrongWord → Type 0
IsReadAs words (Ok asked) = Asks words asked
IsReadAs words (Err first) = IsWrong words first
