use Rattle.std.proofs.Common.{◌≡◌, ◌+◌}
use Rattle.std.specs.List.{count_by}
use Rattle.name_report.specs.Order.{bytes_of}
use Rattle.name_report.specs.Report.{reported_by}
use Rattle.name_report.specs.Text.{is_served}
use Rattle.name_report.proofs.counting.count_served.Given as goal

-- the names so far and the rest make the whole
abbrev pub invariant-loop-name : goal.invariant-loop-name
invariant-loop-name l =
    let what = reported_by l.chain in
    l.served + count_by (is_served what) (bytes_of l.name-iterator) ≡ count_by (is_served what) (bytes_of l.names.keys)
