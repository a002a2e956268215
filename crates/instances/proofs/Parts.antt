-- What a message has as parts, from the parts of its term.
use Rattle.std.proofs.Common.{◌≡◌, Some, None, Option, refl, arith}
use Rattle.std.specs.Option.{option_map}
use Rattle.instances.specs.Substitution.{both}

-- of one part: it is there
pub of_one : {A B : Type 0} {f : A → B} {z : B} (a : Option A) → option_map f a ≡ Some z → (x : A) × (a ≡ Some x) × (z ≡ f x)
of_one None e = absurd (grind arith)
of_one (Some x) e = (x, refl, cc)

-- of two parts: both are there
pub of-both : {A B C : Type 0} {f : A → B → C} {z : C} (a : Option A) (b : Option B) → both f a b ≡ Some z → (x : A) × (y : B) × (a ≡ Some x) × (b ≡ Some y) × (z ≡ f x y)
of-both None b e = absurd (grind arith)
of-both (Some x) None e = absurd (grind arith)
of-both (Some x) (Some y) e = (x, y, refl, refl, cc)
