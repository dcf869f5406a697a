-- How many names a report has.
use Rattle.std.specs.Prelude.{◌≡◌, ℕ, List, length}
use Rattle.std.specs.List.{count_by}
use Rattle.name_report.specs.Report.{AreNamesOf}
use Rattle.name_report.specs.Text.{Reported, is_served}
use Rattle.name_report.specs.declared.counting.NameCounts.{NameCounts}

-- The counts are those of the names that have an entry. There is one such pair at most.
pub record AreCounts (what : Reported) (counts : NameCounts) : Type 0 where
  pub names : List (List ℕ)
  pub are : AreNamesOf what.histories names
  pub all : counts.names ≡ length names
  pub served : counts.served ≡ count_by (is_served what) names
