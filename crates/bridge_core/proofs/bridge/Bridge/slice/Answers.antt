use Rattle.std.proofs.Common.{ap, subst}
use Rattle.std.specs.Prelude.{IsTrue}
use Rattle.name_store.specs.Slicing.{KeepsSliced, StandsBehind}
use Rattle.name_store.specs.Stored.{Stored}
use Rattle.name_store.specs.declared.slicing.SliceOutcome.TheVariants.{Written, Selected, AreaLimit, Faulted}
use Rattle.bridge_core.specs.Bridged.{Bridged}
use Rattle.bridge_core.proofs.bridge.Bridge.slice.Goals as goal

pub returns-in-Written-clause-kept : goal.returns-in-Written-clause-kept
returns-in-Written-clause-kept g c =
    subst (λ (s : Stored). IsTrue g.D.Disk.tells → KeepsSliced s c.args.draft c.args.piece.now c.args.most (g.D.Disk.seen c.args.disk.now) (g.D.Disk.seen c.slice.new.disk) (Written c.in-Written.store c.in-Written.draft))
    (ap (λ (b : Bridged). b.store) c.self.view_is) c.in-Written.ensures.kept

pub returns-in-Selected-clause-stands : goal.returns-in-Selected-clause-stands
returns-in-Selected-clause-stands g c =
    subst (λ (s : Stored). StandsBehind s c.args.draft (Selected c.in-Selected.store c.in-Selected.number)) (ap (λ (b : Bridged). b.store) c.self.view_is) c.in-Selected.ensures.stands

pub returns-in-Selected-clause-kept : goal.returns-in-Selected-clause-kept
returns-in-Selected-clause-kept g c =
    subst (λ (s : Stored). IsTrue g.D.Disk.tells → KeepsSliced s c.args.draft c.args.piece.now c.args.most (g.D.Disk.seen c.args.disk.now) (g.D.Disk.seen c.slice.new.disk) (Selected c.in-Selected.store c.in-Selected.number))
    (ap (λ (b : Bridged). b.store) c.self.view_is) c.in-Selected.ensures.kept

pub returns-in-AreaLimit-clause-kept : goal.returns-in-AreaLimit-clause-kept
returns-in-AreaLimit-clause-kept g c =
    subst (λ (s : Stored). IsTrue g.D.Disk.tells → KeepsSliced s c.args.draft c.args.piece.now c.args.most (g.D.Disk.seen c.args.disk.now) (g.D.Disk.seen c.slice.new.disk) (AreaLimit c.in-AreaLimit.store))
    (ap (λ (b : Bridged). b.store) c.self.view_is) c.in-AreaLimit.ensures.kept

pub returns-in-Faulted-clause-kept : goal.returns-in-Faulted-clause-kept
returns-in-Faulted-clause-kept g c =
    subst (λ (s : Stored). IsTrue g.D.Disk.tells → KeepsSliced s c.args.draft c.args.piece.now c.args.most (g.D.Disk.seen c.args.disk.now) (g.D.Disk.seen c.slice.new.disk) Faulted)
    (ap (λ (b : Bridged). b.store) c.self.view_is) c.in-Faulted.ensures.kept
