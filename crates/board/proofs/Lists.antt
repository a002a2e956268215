-- Elements of lists.
use Rattle.std.proofs.Common.{◌≡◌, ℕ, suc, ◌+◌, ◌<◌, List, [], ◌∷◌, ◌++◌, length, drop, get_or, sym, refl, ap, ◌∙◌, add-one, drop-cons}
use Rattle.std.specs.Prelude.{slice_set}

set_at : {X : Type 0} (xs zs : List X) (d x : X) → slice_set (xs ++ (d ∷ zs)) (length xs) x ≡ (xs ++ (x ∷ [])) ++ zs
set_at [] zs d x = refl
set_at (y ∷ xs) zs d x = ap (λ l. y ∷ l) (set_at xs zs d x)

-- the element behind a front is changed
pub set_behind : {X : Type 0} (xs ys : List X) (i : ℕ) (x : X) → length xs ≡ i → i < length ys → slice_set (xs ++ drop i ys) i x ≡ (xs ++ (x ∷ [])) ++ drop (i + 1) ys
set_behind xs ys i x e h =
    rw add-one
    (ap (λ l. slice_set (xs ++ l) i x) (drop-cons ys i x h) ∙ ap (λ j. slice_set (xs ++ (get_or ys i x ∷ drop (suc i) ys)) j x) (sym e) ∙ set_at xs (drop (suc i) ys) (get_or ys i x) x)
