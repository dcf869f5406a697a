use Rattle.std.proofs.Common.{◌≡◌, ℕ, List, [], length, sym, ap, ◌∙◌, true≢false}
use Rattle.std.specs.Prelude.{◌==◌}
use Rattle.state_image.proofs.TurnLemmas.{end_stops}
use Rattle.state_image.proofs.reading.Reading.end.Goals as goal

pub returns-else-is_empty : goal.returns-else-is_empty
returns-else-is_empty c =
    end_stops c.args.self.now c.args.bytes.now c.bad_tag.result.kind c.bad_tag.result.rest.now c.requires
    (λ (e : c.args.bytes.now ≡ []). true≢false (sym (ap (λ (l : List ℕ). length l == 0) e) ∙ sym c.is_empty.ensures ∙ c.if-is_empty.false)) c.bad_tag.ensures.kind c.bad_tag.ensures.rest
