use Rattle.std.proofs.Common.{◌≡◌, ℕ, ◌+◌, ◌-◌, ◌<◌, ◌≤◌, length, refl, sym, ap, ◌∙◌, subst, arith}
use Rattle.std.proofs.lemmas.Result.{IfOk-weaker}
use Rattle.std.specs.Prelude.{IfOk}
use Rattle.pin_views.specs.Nodes.{IsFilled, IsFit}
use Rattle.pin_views.specs.Piles.{Heap, Places, joined}
use Rattle.pin_views.proofs.PileLemmas.{moved, sizes, behind_all, on_left, left_full, left_fewer, in_middle, on_right, right_same, right_more}
use Rattle.pin_views.proofs.pile.Pile.+put.Goals.{else-i-node-via-then-i-node+else-behind-before, else-i-node-via-else-i-node}
use Rattle.pin_views.proofs.pile.Pile.+put.Goals as goal

pub join_left-requires-clause-full : goal.join_left-requires-clause-full
join_left-requires-clause-full g t c =
    let fit : IsFilled c.as_ref-node.result.now = rw c.as_ref-node.ensures (subst IsFit c.in-Some.is c.self.invariant) in
    left_full c.as_ref-node.result.now fit c.args.i c.args.item.value c.in_ok-left-in-Some-2.left (omega (arith, c.if-i-before.true)) c.in_ok-left-in-Some-2.ensures

pub join_left-requires-clause-fewer : goal.join_left-requires-clause-fewer
join_left-requires-clause-fewer g t c =
    let fit : IsFilled c.as_ref-node.result.now = rw c.as_ref-node.ensures (subst IsFit c.in-Some.is c.self.invariant) in
    left_fewer c.as_ref-node.result.now fit c.args.i c.args.item.value c.in_ok-left-in-Some-2.left (omega (arith, c.if-i-before.true)) c.in_ok-left-in-Some-2.ensures

pub join_right-requires-clause-fewer : goal.join_right-requires-clause-fewer
join_right-requires-clause-fewer g t c =
    let fit : IsFilled c.as_ref-node.result.now = rw c.as_ref-node.ensures (subst IsFit c.in-Some.is c.self.invariant) in
    let behind : c.as_ref-node.result.now.before < c.args.i = omega (arith, c.if-i-before.false, c.if-i-before-2.false) in
    let size : length c.args.self.now.items ≡ c.as_ref-node.result.now.size = rw (sym c.self.view_is, c.in-Some.is, sym c.as_ref-node.ensures) (sizes c.as_ref-node.result.now fit c.args.i c.args.item.value) in
    elim c.else-i-node.branch [
      | else-i-node-via-then-i-node+else-behind-before w ↦ omega (
        arith,
        right_more c.as_ref-node.result.now fit c.args.i c.args.item.value c.in_ok-right-in-Some.right behind c.in_ok-right-in-Some.ensures w.if-i-node.true,
        w.if-behind-before.false,
        fit.before,
        fit.size,
        fit.fewer,
      )
      | else-i-node-via-else-i-node w ↦ omega (
        arith,
        right_same c.as_ref-node.result.now fit c.args.i c.args.item.value c.in_ok-right-in-Some.right behind c.in_ok-right-in-Some.ensures (omega (arith, w.if-i-node.false, c.requires.place, size)),
        fit.fewer,
      )
    ]

pub join_right-requires-clause-fits : goal.join_right-requires-clause-fits
join_right-requires-clause-fits g t c =
    let fit : IsFilled c.as_ref-node.result.now = rw c.as_ref-node.ensures (subst IsFit c.in-Some.is c.self.invariant) in
    let behind : c.as_ref-node.result.now.before < c.args.i = omega (arith, c.if-i-before.false, c.if-i-before-2.false) in
    let size : length c.args.self.now.items ≡ c.as_ref-node.result.now.size = rw (sym c.self.view_is, c.in-Some.is, sym c.as_ref-node.ensures) (sizes c.as_ref-node.result.now fit c.args.i c.args.item.value) in
    elim c.else-i-node.branch [
      | else-i-node-via-then-i-node+else-behind-before w ↦ omega (
        arith,
        right_more c.as_ref-node.result.now fit c.args.i c.args.item.value c.in_ok-right-in-Some.right behind c.in_ok-right-in-Some.ensures w.if-i-node.true,
        w.if-i-node.true,
        c.requires.fits,
        fit.size,
      )
      | else-i-node-via-else-i-node w ↦ omega (
        arith,
        right_same c.as_ref-node.result.now fit c.args.i c.args.item.value c.in_ok-right-in-Some.right behind c.in_ok-right-in-Some.ensures (omega (arith, w.if-i-node.false, c.requires.place, size)),
        fit.size,
      )
    ]

pub returns-then-behind-before : goal.returns-then-behind-before
returns-then-behind-before g t c =
    let fit : IsFilled c.as_ref-node.result.now = rw c.as_ref-node.ensures (subst IsFit c.in-Some.is c.self.invariant) in
    let is : joined c.as_ref-node.result.now.left c.as_ref-node.result.now.item.value c.as_ref-node.result.now.right ≡ c.args.self.now = rw (sym c.self.view_is, c.in-Some.is, sym c.as_ref-node.ensures) refl in
    IfOk-weaker c.join-then-behind-before.result _ _ (λ p e. moved c.args.self.now _ p _ c.args.i c.args.item.value is
    (e ∙ ap (λ z. joined z c.args.item.value c.new-then-behind-before.result) (c.in_ok-left-in-Some.ensures ∙ sym is)
    ∙ ap (λ z. joined (joined c.as_ref-node.result.now.left c.as_ref-node.result.now.item.value c.as_ref-node.result.now.right) c.args.item.value z) c.new-then-behind-before.ensures)
    (behind_all c.as_ref-node.result.now fit c.args.i c.args.item.value c.if-i-node.true)) c.join-then-behind-before.ensures

pub returns-in_ok-left-in-Some-2 : goal.returns-in_ok-left-in-Some-2
returns-in_ok-left-in-Some-2 g t c =
    let fit : IsFilled c.as_ref-node.result.now = rw c.as_ref-node.ensures (subst IsFit c.in-Some.is c.self.invariant) in
    let is : joined c.as_ref-node.result.now.left c.as_ref-node.result.now.item.value c.as_ref-node.result.now.right ≡ c.args.self.now = rw (sym c.self.view_is, c.in-Some.is, sym c.as_ref-node.ensures) refl in
    IfOk-weaker c.join_left.result _ _ (λ p e. moved c.args.self.now _ p _ c.args.i c.args.item.value is e (on_left c.as_ref-node.result.now fit c.args.i c.args.item.value c.in_ok-left-in-Some-2.left (omega (arith, c.if-i-before.true)) c.in_ok-left-in-Some-2.ensures)) c.join_left.ensures

pub returns-then-i-before-2 : goal.returns-then-i-before-2
returns-then-i-before-2 g t c =
    let fit : IsFilled c.as_ref-node.result.now = rw c.as_ref-node.ensures (subst IsFit c.in-Some.is c.self.invariant) in
    let is : joined c.as_ref-node.result.now.left c.as_ref-node.result.now.item.value c.as_ref-node.result.now.right ≡ c.args.self.now = rw (sym c.self.view_is, c.in-Some.is, sym c.as_ref-node.ensures) refl in
    IfOk-weaker c.join_item.result _ _ (λ p e. moved c.args.self.now _ p _ c.args.i c.args.item.value is e (in_middle c.as_ref-node.result.now fit c.args.i c.args.item.value (omega (arith, c.if-i-before-2.true)))) c.join_item.ensures

pub returns-in_ok-right-in-Some : goal.returns-in_ok-right-in-Some
returns-in_ok-right-in-Some g t c =
    let fit : IsFilled c.as_ref-node.result.now = rw c.as_ref-node.ensures (subst IsFit c.in-Some.is c.self.invariant) in
    let behind : c.as_ref-node.result.now.before < c.args.i = omega (arith, c.if-i-before.false, c.if-i-before-2.false) in
    let is : joined c.as_ref-node.result.now.left c.as_ref-node.result.now.item.value c.as_ref-node.result.now.right ≡ c.args.self.now = rw (sym c.self.view_is, c.in-Some.is, sym c.as_ref-node.ensures) refl in
    IfOk-weaker c.join_right.result _ _ (λ p e. moved c.args.self.now _ p _ c.args.i c.args.item.value is e (on_right c.as_ref-node.result.now fit c.args.i c.args.item.value c.in_ok-right-in-Some.right behind c.in_ok-right-in-Some.ensures)) c.join_right.ensures
