use Rattle.std.proofs.Common.{List, ℕ, subst}
use Rattle.bridge_commands.specs.WrongWords.{IsReadAs}
use Rattle.bridge_commands.proofs.LineLemmas.{asked_read, read_found, read_wrong, wrong_read}
use Rattle.bridge_commands.proofs.words.read_words.Goals as goal

pub returns-clause-found : goal.returns-clause-found
returns-clause-found c =
    read_found _ c.read_line.result (subst (λ (words : List (List ℕ)). IsReadAs words c.read_line.result) c.as_slice.ensures c.read_line.ensures)

pub returns-clause-one : goal.returns-clause-one
returns-clause-one c =
    asked_read _ c.read_line.result (subst (λ (words : List (List ℕ)). IsReadAs words c.read_line.result) c.as_slice.ensures c.read_line.ensures)

pub returns-clause-wrong : goal.returns-clause-wrong
returns-clause-wrong c =
    read_wrong _ c.read_line.result (subst (λ (words : List (List ℕ)). IsReadAs words c.read_line.result) c.as_slice.ensures c.read_line.ensures)

pub returns-clause-first : goal.returns-clause-first
returns-clause-first c =
    wrong_read _ c.read_line.result (subst (λ (words : List (List ℕ)). IsReadAs words c.read_line.result) c.as_slice.ensures c.read_line.ensures)
