-- Finding by name, one at a time.
use Rattle.std.proofs.Common.{◌≡◌, ℕ, ◌+◌, Bool, true, false, cond, List, [], ◌∷◌, map, Some, None, Option, refl, ap, ◌∙◌, arith}
use Rattle.std.specs.List.{position, position_from}
use Rattle.std.proofs.lemmas.Iterator.Adapters.{position_from-zero}
use Rattle.std.specs.Option.{option_map}
use Rattle.std.specs.Str.{bytes_eq}
use Rattle.model.specs.Names.{index_of}

module _ {X M : Type 0} (of : X → M) (name : M → List ℕ) (w : List ℕ) where
  -- the first whose name is this word is the first of the names that is this word, so much further on as the count begins
  index_from : (i : ℕ) (xs : List X) → position_from (λ x. bytes_eq (name (of x)) w) i xs ≡ option_map (λ k. k + i) (index_of (map name (map of xs)) w)
  index_from i [] = refl
  index_from i (x ∷ xs) = by (bytes_eq (name (of x)) w) (index_of (map name (map of xs)) w) (index_from (i + 1) xs)
    where
      by : (b : Bool) (o : Option ℕ) {later : Option ℕ} → later ≡ option_map (λ k. k + (i + 1)) o → cond b (Some i) later ≡ option_map (λ k. k + i) (cond b (Some 0) (option_map (λ k. k + 1) o))
      by true o e = ap Some (omega arith)
      by false None e = e
      by false (Some k) e = e ∙ ap Some (omega arith)

  pub index_of-position : (xs : List X) → position (λ x. bytes_eq (name (of x)) w) xs ≡ index_of (map name (map of xs)) w
  index_of-position xs = position_from-zero (λ x. bytes_eq (name (of x)) w) xs ∙ index_from 0 xs ∙ from-zero (index_of (map name (map of xs)) w)
    where
      from-zero : (o : Option ℕ) → option_map (λ k. k + 0) o ≡ o
      from-zero None = refl
      from-zero (Some k) = ap Some (omega arith)
