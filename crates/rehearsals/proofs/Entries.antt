-- The entries of a list after one is added or changed.
use Rattle.std.specs.Prelude.{◌≡◌, ℕ, zero, suc, ◌⊎◌, List, [], ◌∷◌, ◌++◌, length, Some, slice_set}
use Rattle.std.specs.List.{slice_get}
use Rattle.std.proofs.Common.{sym, refl, ap, inl, inr, ⊎_elim}
use Rattle.std.proofs.lemmas.Option.{none-some, same_Some}

module _ {A : Type 0} where
  pub entry_set : (xs : List A) (i j : ℕ) (y s : A) → slice_get (slice_set xs i y) j ≡ Some s → (s ≡ y) ⊎ (slice_get xs j ≡ Some s)
  entry_set [] i j y s e = inr e
  entry_set (x ∷ xs) zero zero y s e = inl (sym (same_Some y s e))
  entry_set (x ∷ xs) zero (suc j) y s e = inr e
  entry_set (x ∷ xs) (suc i) zero y s e = inr e
  entry_set (x ∷ xs) (suc i) (suc j) y s e = entry_set xs i j y s e

  pub entry_last : (xs : List A) (j : ℕ) (y s : A) → slice_get (xs ++ (y ∷ [])) j ≡ Some s → ((s ≡ y) × (j ≡ length xs)) ⊎ (slice_get xs j ≡ Some s)
  entry_last [] zero y s e = inl (sym (same_Some y s e), refl)
  entry_last [] (suc j) y s e = inr e
  entry_last (x ∷ xs) zero y s e = inr e
  entry_last (x ∷ xs) (suc j) y s e = ⊎_elim (λ h. inl (h.0, ap suc h.1)) (λ h. inr h) (entry_last xs j y s e)

  pub entry_kept : (xs ys : List A) (j : ℕ) (s : A) → slice_get xs j ≡ Some s → slice_get (xs ++ ys) j ≡ Some s
  entry_kept [] ys j s e = absurd (none-some s e)
  entry_kept (x ∷ xs) ys zero s e = e
  entry_kept (x ∷ xs) ys (suc j) s e = entry_kept xs ys j s e

  pub entry_added : (xs : List A) (y : A) → slice_get (xs ++ (y ∷ [])) (length xs) ≡ Some y
  entry_added [] y = refl
  entry_added (x ∷ xs) y = entry_added xs y
