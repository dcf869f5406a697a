use Rattle.std.proofs.Common.{refl}
use Rattle.undo_records.specs.Reading.{point_from, name_from, value_length_from, value_from}
use Rattle.undo_records.specs.Text.{point_text}
use Rattle.name_snapshot.proofs.RowLemmas.{whole_row, bad_row, cut_row}
use Rattle.name_snapshot.proofs.laws.worked_rows.Goals as goal

pub returns : goal.returns
unfolding point_from name_from value_length_from value_from point_text
returns c = record {
  whole = whole_row _ _ refl refl;
  live = whole_row _ _ refl refl;
  expired = bad_row _ _ 9 refl refl refl;
  too_high = bad_row _ _ 9 refl refl refl;
  cut = cut_row _ 77 refl refl refl;
  none = cut_row _ 0 refl refl refl;
  behind = bad_row _ _ 78 refl refl refl;
  front = cut_row _ 2 refl refl refl;
  mark = bad_row _ _ 1 refl refl refl;
  version = bad_row _ _ 4 refl refl refl;
  tag = bad_row _ _ 45 refl refl refl;
  long = bad_row _ _ 60 refl refl refl;
  twice = bad_row _ _ 70 refl refl refl;
  taken = bad_row _ _ 78 refl refl refl;
}
