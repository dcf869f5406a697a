use Rattle.std.proofs.Common.{◌≡◌, ◌+◌, ◌*◌, ◌≤◌, ◌++◌, take}
use Rattle.std.specs.List.{flat_map}
use Rattle.std.specs.Vec.{vec_capacity, vec_len}
use Rattle.listing_sessions.specs.Listing.{row_text}
use Rattle.listing_sessions.specs.Pages.{is_live, left_of}
use Rattle.listing_sessions.proofs.listing.Listing.write_rows.Given as goal

abbrev pub invariant-loop-i : goal.invariant-loop-i
invariant-loop-i g l = record {
  text_is : l.text.items ≡ l.initial.text.items ++ flat_map (row_text (is_live l.self.profile l.self.height)) (take l.i (left_of l.self));
  short : vec_len l.text ≤ vec_len l.initial.text + l.i * 1286;
  capacity : vec_capacity l.initial.text ≤ vec_capacity l.text;
  cost : l.steps ≡ l.initial.steps + l.i;
}
