-- Where a step gave a value, the steps before it did.
use Rattle.std.proofs.Common.{◌≡◌, Option, None, Some, option_map, option_and_then, refl}
use Rattle.std.proofs.lemmas.Option.{same_Some}

pub then-found : {A B P : Type 0} (f : A → Option B) (o : Option A) (y : B) → option_and_then f o ≡ Some y
    → ((x : A) → o ≡ Some x → f x ≡ Some y → P) → P
then-found f None y e k = absurd (cc)
then-found f (Some x) y e k = k x refl e

pub map-found : {A B P : Type 0} (f : A → B) (o : Option A) (y : B) → option_map f o ≡ Some y → ((x : A) → o ≡ Some x → f x ≡ y → P) → P
map-found f None y e k = absurd (cc)
map-found f (Some x) y e k = k x refl (same_Some (f x) y e)
