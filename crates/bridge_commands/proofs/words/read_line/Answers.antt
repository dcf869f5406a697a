use Rattle.std.proofs.Common.{◌≡◌, ℕ, List, ◌∷◌, drop, sym, ap, ◌∙◌, subst}
use Rattle.bridge_commands.specs.WrongWords.{AsksForHelp, IsNoCommand}
use Rattle.bridge_commands.proofs.LineLemmas.{first_word, wrong_word}
use Rattle.bridge_commands.proofs.words.read_line.Goals as goal

pub returns-in-Err : goal.returns-in-Err
returns-in-Err c =
    wrong_word c.args.words.now c.word-item.result (first_word c.args.words.now c.word-item.result c.in-len1-up.len_at_least c.word-item.is)
    c.as_slice.result.now c.as_slice.ensures c.in-Err.wrong c.in-Err.ensures.wrong c.at-in-Err.result c.at-in-Err.ensures
