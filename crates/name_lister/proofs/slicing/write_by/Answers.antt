use Rattle.std.proofs.Common.{rules, ◌≡◌, ◌∙◌, ℕ, ◌-◌, ap, length, take}
use Rattle.std.specs.Prelude.{min}
use Rattle.sliced_save.specs.Sliced.{Sliced}
use Rattle.name_lister.proofs.PieceLemmas.{piece_next, stays_given}
use Rattle.name_lister.proofs.slicing.write_by.Goals as goal

pub slice-turned-requires-clause-next : goal.slice-turned-requires-clause-next
slice-turned-requires-clause-next g c =
    let now = c.next-count.new.buf in
    let same : length now ≡ length c.args.buf.now = search rules in
    let slices = c.args.saving.slices in
    let count_is = c.next-count.ensures.count ∙ ap (λ (n : ℕ). min n (length slices.text - slices.given)) c.requires.room in
    λ told. record {
      image = slices.text;
      on = c.requires.drafted told;
      next = piece_next c.args.saving c.requires.given now c.next-count.result c.args.most (same ∙ c.requires.room) count_is c.next-count.ensures.bytes;
    }

pub returns-clause-writes : goal.returns-clause-writes
returns-clause-writes g c =
    let now = c.next-count.new.buf in
    let count = c.next-count.result in
    let most = c.args.most in
    let same : length now ≡ length c.args.buf.now = search rules in
    let size = same ∙ c.requires.room in
    let slices = c.args.saving.slices in
    let count_is = c.next-count.ensures.count ∙ ap (λ (n : ℕ). min n (length slices.text - slices.given)) c.requires.room in
    record {
      piece = take count now;
      next = piece_next c.args.saving c.requires.given now count most size count_is c.next-count.ensures.bytes;
      answer = c.slice-turned.ensures.answer;
      undone = c.slice-turned.ensures.undone;
      leaves = c.slice-turned.ensures.leaves;
      stands = c.slice-turned.ensures.stands;
      kept = c.slice-turned.ensures.kept;
      answers = c.slice-turned.ensures.answers;
      text_is = ap (λ (s : Sliced). s.text) c.next-count.ensures.given;
      given = stays_given c.args.saving c.requires.given now count most size count_is c.next-count.new.self c.next-count.ensures.given c.args.bridge.store c.slice-turned.result c.slice-turned.ensures.answer;
    }
