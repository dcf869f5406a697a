-- The first refusal of a table, and answers of the code that may be one.
use Rattle.std.specs.Prelude.{List, [], ◌∷◌, Option, Some, None, Result, Ok, Err, cond}
use Rattle.chain_names.specs.declared.refusal.RuleRefusal.{RuleRefusal}
use Rattle.chain_names.specs.Verdict.{Test, Verdict as Said, refused}
use Rattle.name_rules.specs.declared.verdict.Verdict.{Verdict}
use Rattle.name_rules.specs.Seen.{seen_verdict}

-- the first refusal whose condition holds
abbrev pub refusal_in : List Test → Option RuleRefusal
refusal_in [] = None
refusal_in (test ∷ tests) = cond test.1 (Some test.0) (refusal_in tests)

abbrev pub said : Result Verdict RuleRefusal → Said
said (Ok verdict) = seen_verdict verdict
said (Err refusal) = refused refusal
