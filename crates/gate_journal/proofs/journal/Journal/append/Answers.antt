use Rattle.std.proofs.Common.{rules, ◌≡◌, ℕ, ◌+◌, ◌-◌, ◌<◌, ◌≤◌, [], ◌∷◌, ◌++◌, length, take, sym, ap, subst, arith}
use Rattle.std.specs.Prelude.{IsTrue}
use Rattle.std.specs.Int.{w32, to_le_bytes}
use Rattle.disk_model.specs.FileState.{IsSettled, put}
use Rattle.disk_model.specs.Moments.{EachMoment}
use Rattle.disk_model.specs.Changes.{Changes}
use Rattle.disk_model.specs.Reads.{seen}
use Rattle.gate_journal.specs.Stand.{Stand, text_before}
use Rattle.gate_journal.specs.Gate.{IsClosed, record_text}
use Rattle.gate_journal.specs.Writes.{KeepsBelow, OpensSettled}
use Rattle.gate_journal.proofs.AppendLemmas.{Stages, OpensRecord, HasOpened, nothing_staged, stand_staged, stand_opened, stand_whole, stand_holds, settled_holds, stand_inside, stand_closed, stand_text}
use Rattle.gate_journal.proofs.journal.Journal.append.Goals as goal

pub returns-then-self-clause-appends : goal.returns-then-self-clause-appends
returns-then-self-clause-appends g c =
    let stand = c.args.self.now in
    let old = (g.D.Disk.seen c.args.disk.now).moments in
    let some : 0 < stand.length = subst (λ (s : Stand). 0 < s.length) c.self.view_is c.self.invariant.1 in
    record {
      ok = search rules;
      err = search rules;
      at_gate = search rules;
      text = search rules;
      whole = search rules;
      any_moment = λ tells. stand_staged stand c.args.head.now c.args.body.now old old (nothing_staged stand old some (c.requires.at_gate tells));
      durable = search rules;
      full = search rules;
      only_full = search rules;
      ends = search rules;
    }

pub returns-in_err-write_behind-clause-appends : goal.returns-in_err-write_behind-clause-appends
returns-in_err-write_behind-clause-appends g c =
    let stand = c.args.self.now in
    let old = (g.D.Disk.seen c.args.disk.now).moments in
    let some : 0 < stand.length = subst (λ (s : Stand). 0 < s.length) c.self.view_is c.self.invariant.1 in
    let m1 = (g.D.Disk.seen c.write_behind.new.disk).moments in
    let stages : (tells : IsTrue g.D.Disk.tells) → Stages stand old m1 = λ tells. record {
      some = some;
      at = c.requires.at_gate tells;
      kept = subst (λ (s : Stand). EachMoment (Changes s.file (KeepsBelow s.length) old.now) old m1) c.self.view_is (c.write_behind.ensures.any_moment tells);
    } in
    record {
      ok = search rules;
      err = search rules;
      at_gate = search rules;
      text = search rules;
      whole = search rules;
      any_moment = λ tells. stand_staged stand c.args.head.now c.args.body.now old m1 (stages tells);
      durable = search rules;
      full = search rules;
      only_full = search rules;
      ends = search rules;
    }

pub returns-in_err-open_behind-clause-appends : goal.returns-in_err-open_behind-clause-appends
returns-in_err-open_behind-clause-appends g c =
    let stand = c.args.self.now in
    let old = (g.D.Disk.seen c.args.disk.now).moments in
    let some : 0 < stand.length = subst (λ (s : Stand). 0 < s.length) c.self.view_is c.self.invariant.1 in
    let head = c.args.head.now in
    let body = c.args.body.now in
    let m1 = (g.D.Disk.seen c.write_behind.new.disk).moments in
    let stages : (tells : IsTrue g.D.Disk.tells) → Stages stand old m1 = λ tells. record {
      some = some;
      at = c.requires.at_gate tells;
      kept = subst (λ (s : Stand). EachMoment (Changes s.file (KeepsBelow s.length) old.now) old m1) c.self.view_is (c.write_behind.ensures.any_moment tells);
    } in
    let m2 = (g.D.Disk.seen c.open_behind.new.disk).moments in
    let opens : (tells : IsTrue g.D.Disk.tells) → OpensRecord stand head body old m1 m2 = λ tells. record {
      stages = stages tells;
      wrote = subst (λ (s : Stand). seen m1 s.file ≡ put (seen old s.file) s.length ((to_le_bytes w32 (length head + length body) ++ head) ++ (body ++ 0 ∷ []))) c.self.view_is (c.in_ok-write_behind.ensures.written tells);
      opens = subst (λ (s : Stand). EachMoment (OpensSettled s.file (s.length - 1) (seen m1 s.file) m1.now) m1 m2) c.self.view_is (c.open_behind.ensures.any_moment tells);
    } in
    record {
      ok = search rules;
      err = search rules;
      at_gate = search rules;
      text = search rules;
      whole = search rules;
      any_moment = λ tells. stand_opened stand head body old m1 m2 (opens tells);
      durable = search rules;
      full = search rules;
      only_full = search rules;
      ends = search rules;
    }

pub returns-clause-appends : goal.returns-clause-appends
returns-clause-appends g c =
    let stand = c.args.self.now in
    let old = (g.D.Disk.seen c.args.disk.now).moments in
    let some : 0 < stand.length = subst (λ (s : Stand). 0 < s.length) c.self.view_is c.self.invariant.1 in
    let head = c.args.head.now in
    let body = c.args.body.now in
    let m1 = (g.D.Disk.seen c.write_behind.new.disk).moments in
    let stages : (tells : IsTrue g.D.Disk.tells) → Stages stand old m1 = λ tells. record {
      some = some;
      at = c.requires.at_gate tells;
      kept = subst (λ (s : Stand). EachMoment (Changes s.file (KeepsBelow s.length) old.now) old m1) c.self.view_is (c.write_behind.ensures.any_moment tells);
    } in
    let m2 = (g.D.Disk.seen c.open_behind.new.disk).moments in
    let opens : (tells : IsTrue g.D.Disk.tells) → OpensRecord stand head body old m1 m2 = λ tells. record {
      stages = stages tells;
      wrote = subst (λ (s : Stand). seen m1 s.file ≡ put (seen old s.file) s.length ((to_le_bytes w32 (length head + length body) ++ head) ++ (body ++ 0 ∷ []))) c.self.view_is (c.in_ok-write_behind.ensures.written tells);
      opens = subst (λ (s : Stand). EachMoment (OpensSettled s.file (s.length - 1) (seen m1 s.file) m1.now) m1 m2) c.self.view_is (c.open_behind.ensures.any_moment tells);
    } in
    let done : (tells : IsTrue g.D.Disk.tells) → HasOpened stand head body old m1 m2 = λ tells. record {
      opens = opens tells;
      opened = subst (λ (s : Stand). seen m2 s.file ≡ put (seen m1 s.file) (s.length - 1) (1 ∷ [])) c.self.view_is (c.in_ok-open_behind.ensures.opened tells);
      settled = subst (λ (s : Stand). IsSettled (m2.now s.file)) c.self.view_is (c.in_ok-open_behind.ensures.settled tells);
    } in
    let file_is = ap (λ (s : Stand). s.file) c.self.view_is in
    let next = c.self.inside.length + (5 + length head + length body) in
    let size : stand.length + 5 + length head + length body ≡ next = let length_is = ap (λ (s : Stand). s.length) c.self.view_is in omega (arith, length_is) in
    record {
      ok = search rules;
      err = search rules;
      at_gate = λ tells. record {
        settled = c.in_ok-open_behind.ensures.settled tells;
        inside = subst (λ f. next ≤ length (seen m2 f)) (sym file_is) (subst (λ (n : ℕ). n ≤ length (seen m2 stand.file)) size (stand_inside stand head body old m1 m2 (done tells)));
        closed = subst (λ f. IsClosed (seen m2 f) (next - 1)) (sym file_is) (subst (λ (n : ℕ). IsClosed (seen m2 stand.file) (n - 1)) size (stand_closed stand head body old m1 m2 (done tells)));
      };
      text = λ tells. subst (λ f. take (next - 1) (seen m2 f) ≡ text_before stand (seen old stand.file) ++ record_text (head ++ body)) (sym file_is)
          (subst (λ (n : ℕ). take (n - 1) (seen m2 stand.file) ≡ text_before stand (seen old stand.file) ++ record_text (head ++ body)) size (stand_text stand head body old m1 m2 (done tells)));
      whole = λ tells. stand_whole stand head body old m1 m2 (done tells);
      any_moment = λ tells. stand_opened stand head body old m1 m2 (opens tells);
      durable = λ tells. settled_holds (text_before stand (seen old stand.file) ++ record_text (head ++ body)) (m2.now stand.file) (done tells).settled (stand_holds stand head body old m1 m2 (done tells));
      full = search rules;
      only_full = search rules;
      ends = search rules;
    }
