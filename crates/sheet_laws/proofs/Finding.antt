-- Finding by number and by name: what is found is there, and keeps its number when more comes.
use Rattle.std.proofs.Common.{◌≡◌, ℕ, zero, suc, ◌+◌, ◌<◌, ◌≤◌, ◌⊎◌, List, [], ◌∷◌, ◌++◌, map, length, Some, refl, ap, inl, inr, add-one, arith}
use lib.ListN.{length-map}
use Rattle.std.proofs.lemmas.Slice.Eq.{bytes_eq-Decides}
use Rattle.std.specs.List.{slice_get}
use Rattle.std.specs.Str.{bytes_eq}
use Rattle.model.specs.Names.{index_of}
use Rattle.sheet_laws.proofs.Passing.{Finds, by-test, has-it, made_of, none, one}

-- ---- by name

-- what is found stands among them
pub found_below : (xs : List (List ℕ)) (w : List ℕ) (n : ℕ) → index_of xs w ≡ Some n → n < length xs
found_below [] w n e = grind arith
found_below (x ∷ xs) w n e = grind (arith, found_below xs w)

pub found_among : {T : Type 0} (name : T → List ℕ) (xs : List T) (w : List ℕ) (n : ℕ) → index_of (map name xs) w ≡ Some n → n < length xs
found_among name xs w n e = omega (arith, found_below (map name xs) w n e, length-map xs name)

-- it has the name
pub found_at : (xs : List (List ℕ)) (w : List ℕ) → Finds (λ n. slice_get xs n ≡ Some w) (index_of xs w)
found_at [] w = none
found_at (x ∷ xs) w = by-test (bytes_eq x w) (λ t. one (ap Some ((bytes_eq-Decides x w).0 t))) (λ _. made_of (λ i. i + 1) (index_of xs w) (λ n e. rw add-one (has-it (found_at xs w) e)))

-- ---- by number

module _ {A : Type 0} where
  -- what is there is there with more at the end
  nth-append : (xs ys : List A) (i : ℕ) (x : A) → slice_get xs i ≡ Some x → slice_get (xs ++ ys) i ≡ Some x
  nth-append [] ys i x e = grind arith
  nth-append (y ∷ xs) ys zero x e = e
  nth-append (y ∷ xs) ys (suc i) x e = nth-append xs ys i x e

  -- what is there with one at the end was there, or is that one
  pub nth-push : (xs : List A) (x : A) (i : ℕ) (y : A) → slice_get (xs ++ (x ∷ [])) i ≡ Some y → (slice_get xs i ≡ Some y) ⊎ (x ≡ y)
  nth-push [] x zero y e = inr (cc)
  nth-push [] x (suc i) y e = grind arith
  nth-push (z ∷ xs) x zero y e = inl e
  nth-push (z ∷ xs) x (suc i) y e = nth-push xs x i y e

-- Each of these is among those under the same number.
pub record Kept {A : Type 0} (xs ys : List A) : Type 0 where
  pub at : (i : ℕ) (x : A) → slice_get xs i ≡ Some x → slice_get ys i ≡ Some x

module _ {A : Type 0} where
  -- they themselves
  pub kept-all : {xs : List A} → Kept xs xs
  kept-all = record { at = λ i x e. e }

  -- without the last one
  pub kept_less : (xs : List A) (x : A) {ys : List A} → Kept (xs ++ (x ∷ [])) ys → Kept xs ys
  kept_less xs x k = record { at = λ i y e. k.at i y (nth-append xs (x ∷ []) i y e) }

  -- there are as many at least
  pub kept-length : (xs ys : List A) → Kept xs ys → length xs ≤ length ys
  kept-length [] ys k = omega arith
  kept-length (x ∷ xs) [] k = grind (arith, k.at 0 x refl)
  kept-length (x ∷ xs) (y ∷ ys) k = omega (arith, kept-length xs ys (record { at = λ i z e. k.at (suc i) z e }))
