-- The selections in file 0, and the two areas in files 1 and 2 that they name by turns.
use Rattle.std.specs.Prelude.{ℕ, zero, suc, ◌+◌, ◌-◌, ◌*◌, ◌%◌, List, [], ◌∷◌, ◌++◌}
use Rattle.gate_journal.specs.Records.{HasRecords}

-- the file of the selections
abbrev pub selections_file : ℕ
selections_file = 0

-- the area that so many selections select: with none it is file 1, and each selection goes over to the other one
abbrev pub selected_by : ℕ → ℕ
selected_by count = 1 + count % 2

-- the other one, in which the next image is drafted: the next selection names it
abbrev pub drafted_by : ℕ → ℕ
drafted_by count = 2 - count % 2

-- the record of the selection behind so many others: the number of the area's file, and no body
abbrev pub next_selection : ℕ → List ℕ
next_selection count = drafted_by count ∷ []

-- the records of the first selections, the oldest first: those of odd numbers name file 2, the others file 1
abbrev pub selections : ℕ → List (List ℕ)
selections zero = []
selections (suc count) = selections count ++ next_selection count ∷ []

-- behind this front the file has exactly so many selections
abbrev pub HasSelections : List ℕ → ℕ → List ℕ → Type 0
HasSelections front count file = HasRecords front (selections count) file

-- the limit of a journal with room for so many selections and a gate behind them
abbrev pub selections_limit : ℕ → ℕ → ℕ
selections_limit at most = at + 1 + 6 * most
