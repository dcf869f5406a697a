use Rattle.std.proofs.Common.{rules, List, ℕ, [], ◌∷◌, ◌∙◌, ap, subst}
use Rattle.std.specs.Prelude.{IsTrue}
use Rattle.nmc_base.specs.declared.chain_ends.Base.{Base}
use Rattle.disk_model.specs.FileState.{put}
use Rattle.disk_model.specs.DiskSeen.{file_in}
use Rattle.gate_journal.specs.Writes.{KeepsBelow}
use Rattle.name_store.specs.MakingSteps.{HasSettled, IsShort, closed_header, open_header}
use Rattle.name_store.proofs.StepLemmas.{leaves, leaves_more, others_then, settled_ok}
use Rattle.name_store.proofs.MakingHeaderLemmas.{making_then, gate_made, fields_made, gate_opened}
use Rattle.name_store.proofs.making_header.make_header.Goals as goal

pub returns-in_err-make_gate-clause-makes : goal.returns-in_err-make_gate-clause-makes
returns-in_err-make_gate-clause-makes g c = λ text is_host.
    let base = c.args.base.now in
    let m0 = (g.D.Disk.seen c.args.disk.now).moments in
    let m1 = (g.D.Disk.seen c.make_gate.new.disk).moments in
    record {
      begun = record { low = c.requires.low; hash = c.whole-base.ensures.hash; is_host = record { name = c.args.host.now; host = is_host } };
      made = search rules;
      from_short = λ tells short. gate_made base text m0 m1 short (c.make_gate.ensures.any_moment tells);
    }

pub returns-in_err-make_fields-clause-makes : goal.returns-in_err-make_fields-clause-makes
returns-in_err-make_fields-clause-makes g c = λ text is_host.
    let base = c.args.base.now in
    let m0 = (g.D.Disk.seen c.args.disk.now).moments in
    let m1 = (g.D.Disk.seen c.make_gate.new.disk).moments in
    let m2 = (g.D.Disk.seen c.make_fields.new.disk).moments in
    record {
      begun = record { low = c.requires.low; hash = c.whole-base.ensures.hash; is_host = record { name = c.args.host.now; host = is_host } };
      made = search rules;
      from_short = λ tells short.
          making_then base text m0 m1 m2 (gate_made base text m0 m1 short (c.make_gate.ensures.any_moment tells))
          (fields_made base text m1 m2 (c.in_ok-make_gate.ensures.made tells) (c.make_fields.ensures.any_moment tells));
    }

pub returns-clause-makes : goal.returns-clause-makes
returns-clause-makes g c = λ text is_host.
    let base = c.args.base.now in
    let m0 = (g.D.Disk.seen c.args.disk.now).moments in
    let m1 = (g.D.Disk.seen c.make_gate.new.disk).moments in
    let m2 = (g.D.Disk.seen c.make_fields.new.disk).moments in
    let new = g.D.Disk.seen c.open_gate.new.disk in
    let spelled = c.as_slice.ensures.value ∙ c.of-text.ensures text is_host in
    let closed = λ (tells : IsTrue g.D.Disk.tells). subst (λ (b : Base). HasSettled (closed_header b text) (m2.now 0)) c.whole-base.ensures.value
    (subst (λ (t : List ℕ). HasSettled (closed_header c.whole-base.result t) (m2.now 0)) spelled (c.in_ok-make_fields.ensures.made tells)) in
    record {
      begun = record { low = c.requires.low; hash = c.whole-base.ensures.hash; is_host = record { name = c.args.host.now; host = is_host } };
      made = λ tells. settled_ok c.open_gate.result (file_in new 0) (put (m2.now 0).bytes 0 (1 ∷ [])) (open_header base text) (c.open_gate.ensures.settled tells) (c.open_gate.ensures.opened tells)
          (ap (λ (bytes : List ℕ). put bytes 0 (1 ∷ [])) (closed tells).are);
      from_short = λ tells short.
          making_then base text m0 m2 new.moments
          (making_then base text m0 m1 m2 (gate_made base text m0 m1 short (c.make_gate.ensures.any_moment tells))
          (fields_made base text m1 m2 (c.in_ok-make_gate.ensures.made tells) (c.make_fields.ensures.any_moment tells)))
          (gate_opened base text m2 new.moments (closed tells) (c.open_gate.ensures.any_moment tells));
    }

pub returns-in_err-make_gate-clause-others : goal.returns-in_err-make_gate-clause-others
returns-in_err-make_gate-clause-others g c = λ tells. leaves 0 IsShort (g.D.Disk.seen c.args.disk.now).moments (g.D.Disk.seen c.make_gate.new.disk).moments (c.make_gate.ensures.any_moment tells)

pub returns-in_err-make_fields-clause-others : goal.returns-in_err-make_fields-clause-others
returns-in_err-make_fields-clause-others g c = λ tells.
    let m0 = (g.D.Disk.seen c.args.disk.now).moments in
    let m1 = (g.D.Disk.seen c.make_gate.new.disk).moments in
    leaves_more 0 (KeepsBelow 1) m0 m1 (g.D.Disk.seen c.make_fields.new.disk).moments (leaves 0 IsShort m0 m1 (c.make_gate.ensures.any_moment tells)) (c.make_fields.ensures.any_moment tells)

pub returns-clause-others : goal.returns-clause-others
returns-clause-others g c = λ tells.
    let m0 = (g.D.Disk.seen c.args.disk.now).moments in
    let m1 = (g.D.Disk.seen c.make_gate.new.disk).moments in
    others_then 0 (λ files so. so.others)
    (leaves_more 0 (KeepsBelow 1) m0 m1 (g.D.Disk.seen c.make_fields.new.disk).moments (leaves 0 IsShort m0 m1 (c.make_gate.ensures.any_moment tells)) (c.make_fields.ensures.any_moment tells))
    (c.open_gate.ensures.any_moment tells)
