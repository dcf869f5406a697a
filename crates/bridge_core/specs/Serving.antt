-- What a chain serves, and the replies to messages from it.
use Rattle.std.specs.Prelude.{ℕ, ◌+◌, List, length, Option}
use Rattle.nmc_base.specs.declared.chain_ends.Base.{Base}
use Rattle.chain_names.specs.Log.{Log, log_of}
use Rattle.chain_names.specs.Coins.{history_of}
use Rattle.chain_names.specs.Index.{served_value}
use Rattle.chain_names.specs.Tables.{names_in}
use Rattle.chain_state.specs.Chain.{Indexed}
use Rattle.dns_message.specs.declared.transport.Transport.{Transport}
use Rattle.import_expand.specs.Sources.{Live}
use Rattle.kept_answers.specs.Answering.{Answering, AnswersMessage, zone_at}

-- the values that an index serves at its tip
abbrev pub served_by : Indexed → Live
served_by c = served_value c.base.profile (names_in c.tables.names) c.tip.height

-- the values that a chain serves at its tip: of each name that of its entry in the chain's log, while it isn't expired
abbrev pub served_on : Base → Log → List (List ℕ) → Live
served_on base start blocks = served_value base.profile (history_of (log_of start base.height blocks)) (base.height + length blocks)

-- What a message that came by this transport is answered with from an index, where the answers that are kept are right for what it
-- serves.
abbrev pub AnswersBy : Indexed → List ℕ → Transport → List ℕ → Answering → Option (List ℕ) → Answering → Type 0
AnswersBy c host = AnswersMessage (served_by c) (zone_at host c.tip.height)

-- the same from a chain
abbrev pub AnswersOn : Base → Log → List (List ℕ) → List ℕ → Transport → List ℕ → Answering → Option (List ℕ) → Answering → Type 0
AnswersOn base start blocks host = AnswersMessage (served_on base start blocks) (zone_at host (base.height + length blocks))
