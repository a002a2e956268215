-- One name more among names that are apart.
use Rattle.std.proofs.Common.{◌≡◌, ℕ, true, false, ◌||◌, List, [], ◌∷◌, ◌++◌, Bool, map, sym, refl, ◌∙◌, arith}
use Rattle.std.proofs.lemmas.Slice.Eq.{bytes_eq-Decides}
use Rattle.std.proofs.lemmas.List.{map-append}
use Rattle.std.proofs.lemmas.Bool.Decides.{Decides-like, same_from_decides}
use Rattle.std.specs.Str.{bytes_eq}
use Rattle.model.specs.Names.{is_name}
use Rattle.terms.specs.Terms.{has}
use Rattle.sheet_laws.specs.NamesApart.{Apart}

-- ---- one name more

-- The names and one more, somewhere.
pub data Adds (w : List ℕ) : List (List ℕ) → List (List ℕ) → Type 0 where
  here : {xs : List (List ℕ)} → Adds w xs (w ∷ xs)
  later : {x : List ℕ} {xs ys : List (List ℕ)} → Adds w xs ys → Adds w (x ∷ xs) (x ∷ ys)

module _ {w : List ℕ} where
  -- at the end of the names; behind other names, and before other names
  pub adds-last : (xs : List (List ℕ)) → Adds w xs (xs ++ (w ∷ []))
  adds-last [] = here
  adds-last (x ∷ xs) = later (adds-last xs)

  pub adds-behind : (zs : List (List ℕ)) {xs ys : List (List ℕ)} → Adds w xs ys → Adds w (zs ++ xs) (zs ++ ys)
  adds-behind [] a = a
  adds-behind (z ∷ zs) a = later (adds-behind zs a)

  pub adds-before : (zs : List (List ℕ)) {xs ys : List (List ℕ)} → Adds w xs ys → Adds w (xs ++ zs) (ys ++ zs)
  adds-before zs here = here
  adds-before zs (later a) = later (adds-before zs a)

-- at the end of what has the names
pub adds-named : {T : Type 0} (name : T → List ℕ) (xs : List T) (x : T) → Adds (name x) (map name xs) (map name (xs ++ (x ∷ [])))
adds-named name xs x = rw map-append (adds-last (map name xs))

-- ---- whether a name is among others

-- sameness has no order
same-swap : (x y : List ℕ) → bytes_eq x y ≡ bytes_eq y x
same-swap x y = same_from_decides _ _ (bytes_eq-Decides x y) (Decides-like _ (λ e. sym e) (λ e. sym e) (bytes_eq-Decides y x))

-- the first, or another
has_first : (x : List ℕ) (xs : List (List ℕ)) (w : List ℕ) → has (x ∷ xs) w ≡ (bytes_eq x w || has xs w)
has_first x xs w = grind arith

-- among the first ones, or among the others
pub has-append : (xs ys : List (List ℕ)) (w : List ℕ) → has (xs ++ ys) w ≡ (has xs w || has ys w)
has-append [] ys w = refl
has-append (x ∷ xs) ys w = grind (arith, has_first x (xs ++ ys) w, has_first x xs w, has-append xs ys w)

-- the new one, or one of the old
pub adds-has : {w : List ℕ} {xs ys : List (List ℕ)} → Adds w xs ys → (x : List ℕ) → has ys x ≡ (bytes_eq w x || has xs x)
adds-has {w} {xs} here x = has_first w xs x
adds-has (later {x = y} {xs} {ys} a) x = grind (arith, has_first y xs x, has_first y ys x, adds-has a x)

-- ---- names that are apart

-- neither of two is so, if not one of them is, and back
neither : (a b : Bool) → (a || b) ≡ false → (a ≡ false) × (b ≡ false)
neither true b e = absurd (cc)
neither false b e = (refl, e)

both-not : (a b : Bool) → a ≡ false → b ≡ false → (a || b) ≡ false
both-not true b p q = absurd (cc)
both-not false b p q = q

-- a new name is apart from the others
pub adds-apart : {w : List ℕ} {xs ys : List (List ℕ)} → Adds w xs ys → is_name w ≡ true → has xs w ≡ false → Apart xs → Apart ys
adds-apart here n h a = (n, h, a)
adds-apart {w} (later {x} {xs} {ys} s) n h a =
    let o = neither (bytes_eq x w) (has xs w) (sym (has_first x xs w) ∙ h) in
    (a.0, adds-has s x ∙ both-not (bytes_eq w x) (has xs x) (same-swap w x ∙ o.0) a.1, adds-apart s n o.1 a.2)
