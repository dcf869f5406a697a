-- What is found, and only that.
use Rattle.std.proofs.Common.{◌≡◌, Option, Some, None, refl, ap, MatchOption}
use Rattle.std.specs.Option.{option_and_then}

pub exactly : {X : Type 0} (P : X → Type 0) (o : Option X) → ((x : X) → o ≡ Some x → P x) → ((x : X) → P x → o ≡ Some x) → MatchOption o ((x : X) → P x → ⊥) P
exactly P None found only = λ x p. let e = only x p in absurd (cc)
exactly P (Some x) found only = found x refl

-- a step of a chain that gave something
pub and_then-found : {X Y : Type 0} (f : X → Option Y) (o : Option X) (y : Y) → option_and_then f o ≡ Some y → (x : X) × (o ≡ Some x) × (f x ≡ Some y)
and_then-found f None y e = absurd (cc)
and_then-found f (Some x) y e = (x, refl, e)

pub and_then-step : {X Y : Type 0} (f : X → Option Y) (o : Option X) (x : X) → o ≡ Some x → option_and_then f o ≡ f x
and_then-step f o x e = ap (option_and_then f) e
