-- Outpoints are the same exactly where they are equal.
use Rattle.std.proofs.Common.{◌≡◌, true, refl, sym, ap}
use Rattle.std.specs.Bool.{Decides}
use Rattle.std.specs.Cmp.{unsigned_Decides}
use Rattle.std.proofs.lemmas.Slice.Eq.{bytes_eq-Decides}
use Rattle.std.proofs.lemmas.Bool.{and_parts, and_from}
use Rattle.nmc_base.specs.declared.hashes.OutPoint.{OutPoint}
use Rattle.nmc_base.proofs.TruthLemmas.{same_truth}
use Rattle.chain_names.specs.Points.{same_point}

joined_points : (a b : OutPoint) → a.txid.0 ≡ b.txid.0 → a.index ≡ b.index → a ≡ b
joined_points a b e f = λ i. record { txid = record { 0 = e i }; index = f i }

pub same_point-Decides : (a b : OutPoint) → Decides (same_point a b) (a ≡ b)
same_point-Decides a b =
    let t = bytes_eq-Decides a.txid.0 b.txid.0 in
    let n = unsigned_Decides a.index b.index in (
      (λ e. let parts = and_parts _ _ e in joined_points a b (t.0 parts.0) (n.0 parts.1)),
      (λ e. and_from _ _ (t.1 (ap (λ (p : OutPoint). p.txid.0) e)) (n.1 (ap (λ (p : OutPoint). p.index) e))),
    )

pub same_point-true : (a b : OutPoint) → same_point a b ≡ true → a ≡ b
same_point-true a b = (same_point-Decides a b).0

pub same_point-self : (a : OutPoint) → same_point a a ≡ true
same_point-self a = (same_point-Decides a a).1 refl

pub same_point-comm : (a b : OutPoint) → same_point a b ≡ same_point b a
same_point-comm a b = same_truth _ _ (λ e. (same_point-Decides b a).1 (sym (same_point-true a b e))) (λ e. (same_point-Decides a b).1 (sym (same_point-true b a e)))
