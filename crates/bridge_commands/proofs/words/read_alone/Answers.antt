use Rattle.std.proofs.Common.{ℕ, List, length, ap, refl, sym, ◌∙◌, arith}
use Rattle.bridge_commands.specs.WrongWords.{count, fields}
use Rattle.bridge_commands.proofs.words.read_alone.Goals as goal

pub returns-else-is_empty : goal.returns-else-is_empty
returns-else-is_empty c =
    count c.args.form c.args.behind.now refl (λ e. grind (arith, e ∙ ap length c.requires.alone, c.is_empty.ensures, c.if-is_empty.false)) c.at.ensures
