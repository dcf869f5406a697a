-- What the code finds, without where its bytes lie in memory.
use Rattle.std.specs.Prelude.{List, map}
use Rattle.chain_names.specs.declared.coin.Coin.{Coin}
use Rattle.chain_names.specs.declared.coin.Coin.TheVariants.{New, Named}
use Rattle.chain_names.specs.declared.coin.HeldCoin.{HeldCoin}
use Rattle.chain_names.specs.Verdict.{Verdict as Said, NameOutput, plain, commits, opens, updates, refused}
use Rattle.name_script.specs.Seen.{seen_operation}
use Rattle.name_rules.specs.Found.{listed}
use Rattle.name_rules.specs.declared.found.Found.{Found}
use Rattle.name_rules.specs.declared.view.CoinRef.{CoinRef}
use Rattle.name_rules.specs.declared.view.CoinRef.TheVariants.{New as new_ref, Named as named_ref}
use Rattle.name_rules.specs.declared.inputs.Spent.{Spent}
use Rattle.name_rules.specs.declared.outputs.Made.{Made}
use Rattle.name_rules.specs.declared.verdict.Verdict.{Verdict}
use Rattle.name_rules.specs.declared.verdict.Verdict.TheVariants.{Plain, New as NewName, First, Update, Refused}

abbrev pub seen_coin : CoinRef → Coin
seen_coin (new_ref hash height) = New hash.now height
seen_coin (named_ref name height) = Named name.now height

abbrev pub seen_spent : Spent → HeldCoin
seen_spent spent = record { at = spent.at; coin = seen_coin spent.coin }

abbrev pub seen_made : Made → NameOutput
seen_made made = record { place = made.place; value = made.amount; operation = seen_operation made.operation }

-- the name inputs that were found, up to two
abbrev pub found_inputs : Found Spent → List HeldCoin
found_inputs found = map seen_spent (listed found)

-- the name outputs that were found, up to two
abbrev pub found_outputs : Found Made → List NameOutput
found_outputs found = map seen_made (listed found)

abbrev pub seen_verdict : Verdict → Said
seen_verdict Plain = plain
seen_verdict (NewName hash output) = commits hash.0 output
seen_verdict (First name value output spent) = opens name.now value.now output spent
seen_verdict (Update name value output spent) = updates name.now value.now output spent
seen_verdict (Refused refusal) = refused refusal
