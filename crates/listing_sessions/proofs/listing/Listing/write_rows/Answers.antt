use Rattle.std.proofs.Common.{◌++◌, List, ℕ, sym, ap, ◌∙◌, arith}
use Rattle.std.specs.Prelude.{Bool}
use Rattle.pin_views.specs.Rows.{row_of}
use Rattle.pin_views.specs.declared.rows.Row.{Row}
use Rattle.listing_sessions.specs.Listing.{row_text}
use Rattle.listing_sessions.specs.Pages.{is_live, left_of}
use Rattle.listing_sessions.proofs.PageLemmas.{rows_more}
use Rattle.listing_sessions.proofs.listing.Listing.write_rows.Goals as goal

pub loop-i-preserved : goal.loop-i-preserved
loop-i-preserved g c =
    let listing = c.args.self.now in
    let row : List ℕ × Row = (c.left.result.0.now, row_of c.left.result.1.now) in
    record {
      text_is = rows_more (is_live listing.profile listing.height) (left_of listing) c.loop-i.i row c.args.text.now.items c.loop-i.text.items c.write_row.new.text.items
          (sym c.left.ensures.row) c.loop-i.invariant.text_is (c.write_row.ensures.text ∙ ap (λ (b : Bool). c.loop-i.text.items ++ row_text (λ other. b) row) c.serves.ensures);
      short = omega arith;
      capacity = omega arith;
      cost = omega arith;
    }
