-- The report: which names it lists, and what comes of giving it to a sink.
use Rattle.std.specs.Prelude.{◌≡◌, ℕ, ◌+◌, List, length, Result, Ok, Err}
use Rattle.std.specs.Option.{is_some}
use Rattle.byte_io.specs.Sink.{SinkSeen}
use Rattle.frame_loop.specs.Delivery.{TookAll, TookPart}
use Rattle.nmc_base.specs.declared.chain_ends.Base.{Base}
use Rattle.chain_names.specs.declared.coin.Item.{Item}
use Rattle.chain_names.specs.Coins.{entry_of, history_of}
use Rattle.chain_names.specs.Log.{Log, log_of}
use Rattle.chain_names.specs.Tables.{names_in}
use Rattle.chain_state.specs.Chain.{Indexed}
use Rattle.chain_state.specs.Standing.{hash_of}
use Rattle.name_report.specs.Order.{has_name, AreAscending}
use Rattle.name_report.specs.Text.{Reported, report_text}
use Rattle.name_report.specs.declared.reporting.ReportFault.{ReportFault}
use Rattle.name_report.specs.declared.reporting.ReportFault.TheVariants.{NoMemory, SinkFault}

-- the names that have an entry, each once and in order
pub record AreNamesOf (histories : List ℕ → List Item) (names : List (List ℕ)) : Type 0 where
  pub ascending : AreAscending names
  pub each : (name : List ℕ) → has_name names name ≡ is_some (entry_of (histories name))

-- The text is the report. There is one such text at most.
pub record IsReport (what : Reported) (text : List ℕ) : Type 0 where
  pub names : List (List ℕ)
  pub are : AreNamesOf what.histories names
  pub is : text ≡ report_text what names

-- what an index says of its chain
abbrev pub reported_by : Indexed → Reported
reported_by c = record { profile = c.base.profile; height = c.tip.height; hash = c.tip.hash.0; histories = names_in c.tables.names }

-- what the log of a chain says
abbrev pub reported_on : Base → Log → List (List ℕ) → Reported
reported_on base start blocks = record {
  profile = base.profile;
  height = base.height + length blocks;
  hash = hash_of base blocks;
  histories = history_of (log_of start base.height blocks);
}

-- ---- what comes of it

-- the sink took the whole report
pub record ReportsAll (what : Reported) (old new : SinkSeen) : Type 0 where
  pub text : List ℕ
  pub is : IsReport what text
  pub took : TookAll old new text

-- the sink took a part of the report, and not all of it: its last write failed or stalled
pub record ReportsPart (what : Reported) (old new : SinkSeen) : Type 0 where
  pub text : List ℕ
  pub is : IsReport what text
  pub took : TookPart old new text

-- without memory nothing was written
abbrev pub Reports : Reported → SinkSeen → SinkSeen → Result (Unit {0}) ReportFault → Type 0
Reports what old new (Ok done) = ReportsAll what old new
Reports what old new (Err SinkFault) = ReportsPart what old new
Reports what old new (Err NoMemory) = new ≡ old
