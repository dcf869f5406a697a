use Rattle.std.proofs.Common.{List, ℕ, subst, ◌∙◌}
use Rattle.state_image.specs.Turning.{StopsAt}
use Rattle.state_image.proofs.loader.take.Goals as goal

pub returns-in-Err-At : goal.returns-in-Err-At
returns-in-Err-At c =
    let place = rw c.in-Err-At.field-0-is at c.saturating_sub.ensures in
    let read = rw c.in-Err-At.field-0-is at c.in-Err-At.ensures.reads in
    let fault = c.in-Err-At.fault in
    record {
      kind = fault.kind;
      rest = fault.rest.now;
      stops = subst (λ (p : List ℕ). StopsAt c.args.reading.now p fault.kind fault.rest.now) (c.as_slice.ensures ∙ c.in_ok-extend.ensures.ok) read.0;
      other = read.1;
      at_is = place;
    }
