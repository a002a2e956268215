-- Two lists of atoms, compared one by one.
use Rattle.std.proofs.Common.{◌≡◌, Bool, List, [], ◌∷◌, refl}
use Rattle.std.specs.Cmp.Lexicographic.{pointwise}
use Rattle.model.specs.declared.node.Field.{Field}
use Rattle.terms.specs.Same.{same_field, same_fields}

-- where a test tells the same atoms, it tells the same lists of them place by place
pub fields-pointwise : {test : Field → Field → Bool} → ((f g : Field) → test f g ≡ same_field f g) → (fs gs : List Field) → pointwise test fs gs ≡ same_fields fs gs
fields-pointwise same [] [] = refl
fields-pointwise same [] (g ∷ gs) = refl
fields-pointwise same (f ∷ fs) [] = refl
fields-pointwise same (f ∷ fs) (g ∷ gs) = rw (same f g, fields-pointwise same fs gs) refl
