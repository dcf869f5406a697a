-- The codes of the refusals.
use Rattle.std.specs.Prelude.{ℕ}
use Rattle.chain_names.specs.declared.refusal.RuleRefusal.{RuleRefusal}
use Rattle.chain_names.specs.declared.refusal.RuleRefusal.TheVariants.{MultipleNameInputs, MultipleNameOutputs, PlainWithNameInput, PlainWithNameOutput, NameWithoutOutput, Greedy, NewWithNameInput, NewWrongSize, UpdateWithoutInput, NameTooLong, ValueTooLong, UpdateOfNew, NameMismatch, FirstNotFromNew, Immature, RandTooLong, CommitMismatch, NameTaken, DuplicateOutpoint}

abbrev pub number_of : RuleRefusal → ℕ
number_of MultipleNameInputs = 10
number_of MultipleNameOutputs = 11
number_of PlainWithNameInput = 12
number_of PlainWithNameOutput = 13
number_of NameWithoutOutput = 14
number_of Greedy = 15
number_of NewWithNameInput = 16
number_of NewWrongSize = 17
number_of UpdateWithoutInput = 18
number_of NameTooLong = 19
number_of ValueTooLong = 20
number_of UpdateOfNew = 21
number_of NameMismatch = 22
number_of FirstNotFromNew = 23
number_of Immature = 24
number_of RandTooLong = 25
number_of CommitMismatch = 26
number_of NameTaken = 27
number_of DuplicateOutpoint = 28
