use Rattle.std.proofs.Common.{map, ap, ◌∙◌}
use Rattle.std.proofs.lemmas.Result.{on_ok_weaker}
use Rattle.name_tables.specs.Parts.{newest_first}
use Rattle.registrations.specs.Filling.{all_begun}
use Rattle.registrations.specs.Seen.{seen_taken}
use Rattle.registrations.proofs.FilledLemmas.{filled_so}
use Rattle.registrations.proofs.filling.fill_by_rule.Goals as goal

pub returns : goal.returns
returns g c =
    on_ok_weaker c.put_undos.result
    (λ done.
    filled_so c.args.names.now c.begin_all.new.names c.put_undos.new.names (newest_first c.args.undos.now.items) (newest_first c.put_undos.new.undos.items) (map seen_taken c.in_ok-back.back.items)
    (record {
      keys_kept = c.in_ok-begin_all.ensures.list ∙ c.in_ok-back.ensures.list;
      names_begun = c.in_ok-begin_all.ensures.names ∙ ap all_begun c.in_ok-back.ensures.names;
      back_is = c.in_ok-back.ensures.back;
      done = done;
    }))
    c.put_undos.ensures
