-- The commands, and the words of a command line that ask for them.
use Rattle.std.specs.Prelude.{◌≡◌, ◌≢◌, ℕ, ◌-◌, ◌^◌, ◌≤◌, length, slice_index, List, [], ◌∷◌, reverse, codes, Ok}
use Rattle.std.specs.Fmt.{decimal}
use Rattle.hex.specs.Hex.{decode_sized}
use Rattle.nmc_base.specs.Heights.{highest}
use Rattle.nmc_base.specs.declared.chain_ends.Base.{Base}
use Rattle.nmc_base.specs.declared.chain_ends.Profile.{Profile}
use Rattle.nmc_base.specs.declared.chain_ends.Profile.TheVariants.{Regtest, Main}
use Rattle.name_store.specs.Host.{IsHostOf}
use Rattle.bridge_commands.specs.declared.words.Command.{Command}
use Rattle.bridge_commands.specs.declared.words.Command.TheVariants.{Replay, Listing, Dump, Init, Serve, SelfTest}
use Rattle.bridge_commands.specs.declared.words.Plan.{Plan}
use Rattle.bridge_commands.specs.declared.words.Start.{Start}
use Rattle.bridge_commands.specs.declared.words.Start.TheVariants.{Empty, Snapshot}
use Rattle.bridge_commands.specs.declared.words.Trial.{Trial}

-- a number within its limits: decimal digits without a leading zero, or `0`
pub record IsNumber (least most : ℕ) (text : List ℕ) (n : ℕ) : Type 0 where
  pub spelled : text ≡ decimal n
  pub no_less : least ≤ n
  pub no_more : n ≤ most

-- the height of a block
abbrev pub IsHeight : List ℕ → ℕ → Type 0
IsHeight = IsNumber 0 highest

-- the number of a UDP port, or of a feed's
abbrev pub IsPort : List ℕ → ℕ → Type 0
IsPort = IsNumber 1 65535

-- how many polls are made
abbrev pub AreTurns : List ℕ → ℕ → Type 0
AreTurns = IsNumber 1 1000000000

-- how many blocks a self-test generates
abbrev pub AreBlocks : List ℕ → ℕ → Type 0
AreBlocks = IsNumber 1 10000

-- how many rows a page has
abbrev pub IsPageSize : List ℕ → ℕ → Type 0
IsPageSize = IsNumber 1 50

-- the number that a generated chain is made from
abbrev pub IsSeed : List ℕ → ℕ → Type 0
IsSeed = IsNumber 0 (2 ^ 64 - 1)

-- neither a sign nor a leading zero stands in front
pub record IsPlain (text : List ℕ) : Type 0 where
  pub no_sign : slice_index text 0 ≢ 43
  pub no_zero : slice_index text 0 ≡ 48 → length text ≡ 1

-- the hash of a block as people write it: 64 hexadecimal digits of either case, of its bytes from the last to the first
pub record IsHash (text hash : List ℕ) : Type 0 where
  pub bytes : List ℕ
  pub spelled : decode_sized text 32 ≡ Ok bytes
  pub hash_is : hash ≡ reverse bytes

-- the word of a profile
abbrev pub profile_word : Profile → List ℕ
profile_word Regtest = codes "regtest"
profile_word Main = codes "main"

-- the word of a start list: none, or that of a snapshot
abbrev pub start_word : Start → List ℕ
start_word Empty = codes "init"
start_word Snapshot = codes "init-from"

-- the texts of a base's profile, height and hash and of its host, which has this name
pub record AreFields (profile height hash host : List ℕ) (base : Base) (name : List ℕ) : Type 0 where
  pub profile_is : profile ≡ profile_word base.profile
  pub height_is : IsHeight height base.height
  pub hash_is : IsHash hash base.hash.0
  pub host_is : IsHostOf host name

-- the word of a start list, a profile, a height, a hash, and a host
pub record AsksForFiles (words : List (List ℕ)) (start : Start) (base : Base) (name : List ℕ) : Type 0 where
  pub profile : List ℕ
  pub height : List ℕ
  pub hash : List ℕ
  pub host : List ℕ
  pub words_are : words ≡ start_word start ∷ (profile ∷ (height ∷ (hash ∷ (host ∷ []))))
  pub fields : AreFields profile height hash host base name

-- the texts of the numbers of two ports, and of the turns
pub record AreNumbers (udp feed turns : List ℕ) (plan : Plan) : Type 0 where
  pub udp_is : IsPort udp plan.udp
  pub feed_is : IsPort feed plan.feed
  pub turns_are : AreTurns turns plan.turns

-- the words `serve`, the numbers of two ports, and the turns
pub record AsksToServe (words : List (List ℕ)) (plan : Plan) : Type 0 where
  pub udp : List ℕ
  pub feed : List ℕ
  pub turns : List ℕ
  pub words_are : words ≡ codes "serve" ∷ (udp ∷ (feed ∷ (turns ∷ [])))
  pub numbers : AreNumbers udp feed turns plan

-- the texts of how many blocks, and of the seed
pub record AreTrial (blocks seed : List ℕ) (trial : Trial) : Type 0 where
  pub blocks_are : AreBlocks blocks trial.blocks
  pub seed_is : IsSeed seed trial.seed

-- the words `selftest`, how many blocks, and the seed
pub record AsksToTest (words : List (List ℕ)) (trial : Trial) : Type 0 where
  pub blocks : List ℕ
  pub seed : List ℕ
  pub words_are : words ≡ codes "selftest" ∷ (blocks ∷ (seed ∷ []))
  pub numbers : AreTrial blocks seed trial

-- the word `list`, and how many rows a page has
pub record AsksToList (words : List (List ℕ)) (size : ℕ) : Type 0 where
  pub text : List ℕ
  pub words_are : words ≡ codes "list" ∷ (text ∷ [])
  pub size_is : IsPageSize text size

-- the words ask for the command
abbrev pub Asks : List (List ℕ) → Command → Type 0
Asks words Replay = words ≡ codes "replay" ∷ []
Asks words (Listing size) = AsksToList words size
Asks words Dump = words ≡ codes "dump" ∷ []
Asks words (Init start base name) = AsksForFiles words start base name
Asks words (Serve plan) = AsksToServe words plan
Asks words (SelfTest trial) = AsksToTest words trial

-- what a command has no use for stays as it is: the source, the sink and the port
abbrev pub Spares : Command → (source sink port : Type 0) → Type 0
Spares Replay source sink port = port
Spares (Listing size) source sink port = port
Spares Dump source sink port = source × port
Spares (Init Empty base name) source sink port = source × sink × port
Spares (Init Snapshot base name) source sink port = sink × port
Spares (Serve plan) source sink port = source × sink
Spares (SelfTest trial) source sink port = source × port
