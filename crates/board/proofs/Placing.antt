-- Elements that are placed into a table one after another.
use Rattle.std.proofs.Common.{◌≡◌, ℕ, zero, suc, ◌+◌, ◌<◌, ◌≤◌, List, [], ◌∷◌, ◌++◌, Some, None, Option, length, drop, take, sym, refl, ap, ◌∙◌, add-one, arith, length-append}
use Rattle.std.specs.Prelude.{slice_set}
use Rattle.std.specs.List.{slice_get}
use Rattle.std.proofs.lemmas.List.{append-nil, take_all}
use Rattle.std.proofs.lemmas.Option.{none-some, same_Some}
use Rattle.instances.specs.Substitution.{both}
use Rattle.instances.proofs.Parts.{of-both}
use Rattle.board.specs.Placing.{each}
use Rattle.board.proofs.Lists.{set_behind}

module _ {A B : Type 0} (f : ℕ → A → Option B) where
  -- one element more
  each_more : (k i j : ℕ) (xs : List A) (ys : List B) (x : A) (y : B) → j ≡ k + i → slice_get xs i ≡ Some x → f j x ≡ Some y
      → each f k (take i xs) ≡ Some ys → each f k (take (suc i) xs) ≡ Some (ys ++ (y ∷ []))
  each_more k i j [] ys x y at e h p = absurd (none-some x e)
  each_more k zero j (z ∷ xs) ys x y at e h p =
      let same : z ≡ x = same_Some z x e in
      let none : [] ≡ ys = same_Some _ _ p in
      let here : j ≡ k = omega arith in
      let is : f k z ≡ Some y = rw same (rw here at h) in
      ap (λ o. both (λ y ys. y ∷ ys) o (Some [])) is ∙ ap (λ l. Some (l ++ (y ∷ []))) none
  each_more k (suc i) j (z ∷ xs) ys x y at e h p =
      let (w, ws, first, rest, is) = of-both (f k z) (each f (k + 1) (take i xs)) p in
      let more = each_more (k + 1) i j xs ws x y (omega arith) e h rest in
      ap (λ o. both (λ y ys. y ∷ ys) o (each f (k + 1) (take (suc i) xs))) first ∙ ap (λ o. both (λ y ys. y ∷ ys) (Some w) o) more ∙ ap (λ l. Some (l ++ (y ∷ []))) (sym is)

  -- one that is missing
  each_lacks : (k i j : ℕ) (xs : List A) (x : A) → j ≡ k + i → slice_get xs i ≡ Some x → f j x ≡ None → each f k xs ≡ None
  each_lacks k i j [] x at e h = absurd (none-some x e)
  each_lacks k zero j (z ∷ xs) x at e h =
      let same : z ≡ x = same_Some z x e in
      let here : j ≡ k = omega arith in
      let is : f k z ≡ None = rw same (rw here at h) in
      ap (λ o. both (λ y ys. y ∷ ys) o (each f (k + 1) xs)) is
  each_lacks k (suc i) j (z ∷ xs) x at e h = rw (each_lacks (k + 1) i j xs x (omega arith) e h) (no-rest (f k z))
    where
      no-rest : (o : Option B) → both (λ y ys. y ∷ ys) o None ≡ None
      no-rest None = refl
      no-rest (Some w) = refl

  pub each_missing : (i : ℕ) (xs : List A) (x : A) → slice_get xs i ≡ Some x → f i x ≡ None → each f 0 xs ≡ None
  each_missing i xs x e h = each_lacks 0 i i xs x (omega arith) e h

  -- The first i elements are placed at the front of the table.
  pub record Placed (xs : List A) (table : List B) (i : ℕ) (now : List B) : Type 0 where
    pub ys : List B
    pub are : each f 0 (take i xs) ≡ Some ys
    pub many : length ys ≡ i
    pub lie : now ≡ ys ++ drop i table

  pub placed_first : (xs : List A) (table : List B) → Placed xs table 0 table
  placed_first xs table = record { ys = []; are = refl; many = refl; lie = refl }

  pub placed_more : (xs : List A) (table now : List B) (i : ℕ) (x : A) (y : B) → Placed xs table i now → slice_get xs i ≡ Some x → f i x ≡ Some y → i < length table
      → Placed xs table (i + 1) (slice_set now i y)
  placed_more xs table now i x y p e h lt = record {
    ys = p.ys ++ (y ∷ []);
    are = rw add-one (each_more 0 i i xs p.ys x y (omega arith) e h p.are);
    many = omega (arith, length-append p.ys (y ∷ []), p.many);
    lie = ap (λ l. slice_set l i y) p.lie ∙ set_behind p.ys table i y p.many lt;
  }

  -- all are placed
  pub placed_all : (xs : List A) (table now : List B) (i : ℕ) → Placed xs table i now → length xs ≤ i
      → (ys : List B) × (each f 0 xs ≡ Some ys) × (length ys ≡ i) × (now ≡ ys ++ drop i table)
  placed_all xs table now i p h = (p.ys, ap (λ l. each f 0 l) (sym (take_all i xs h)) ∙ p.are, p.many, p.lie)

  pub each_length : (k : ℕ) (xs : List A) (ys : List B) → each f k xs ≡ Some ys → length ys ≡ length xs
  each_length k [] ys e = ap length (sym (same_Some [] ys e))
  each_length k (x ∷ xs) ys e =
      let (w, ws, first, rest, is) = of-both (f k x) (each f (k + 1) xs) e in
      ap length is ∙ ap suc (each_length (k + 1) xs ws rest)

  each_at : (k i j : ℕ) (xs : List A) (ys : List B) (y : B) → j ≡ k + i → each f k xs ≡ Some ys → slice_get ys i ≡ Some y → (x : A) × (slice_get xs i ≡ Some x) × (f j x ≡ Some y)
  each_at k i j [] ys y at e g = absurd (none-some y (ap (λ l. slice_get l i) (same_Some [] ys e) ∙ g))
  each_at k zero j (x ∷ xs) ys y at e g =
      let (w, ws, first, rest, is) = of-both (f k x) (each f (k + 1) xs) e in
      let same : w ≡ y = same_Some w y (ap (λ l. slice_get l zero) (sym is) ∙ g) in
      let here : j ≡ k = omega arith in
      (x, refl, ap (λ n. f n x) here ∙ first ∙ ap Some same)
  each_at k (suc i) j (x ∷ xs) ys y at e g =
      let (w, ws, first, rest, is) = of-both (f k x) (each f (k + 1) xs) e in
      each_at (k + 1) i j xs ws y (omega arith) rest (ap (λ l. slice_get l (suc i)) (sym is) ∙ g)

  -- an element of what is answered
  pub each_gives : (i : ℕ) (xs : List A) (ys : List B) (y : B) → each f 0 xs ≡ Some ys → slice_get ys i ≡ Some y → (x : A) × (slice_get xs i ≡ Some x) × (f i x ≡ Some y)
  each_gives i xs ys y e g = each_at 0 i i xs ys y (omega arith) e g

  -- all are placed, and the table is full
  pub placed_whole : (xs : List A) (table now : List B) (i : ℕ) → Placed xs table i now → length xs ≤ i → length table ≤ i → Some now ≡ each f 0 xs
  placed_whole xs table now i p h full =
      let (ys, are, many, lie) = placed_all xs table now i p h in
      ap Some (lie ∙ ap (λ l. ys ++ l) (none_left table i full) ∙ append-nil ys) ∙ sym are
    where
      none_left : (l : List B) (n : ℕ) → length l ≤ n → drop n l ≡ []
      none_left [] zero h = refl
      none_left [] (suc n) h = refl
      none_left (y ∷ l) zero h = absurd (omega arith)
      none_left (y ∷ l) (suc n) h = none_left l n (omega arith)
