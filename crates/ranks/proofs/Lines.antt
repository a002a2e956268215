-- The rank of the first line that holds: there is one, just one, and the line that gives it.
use Rattle.std.specs.Prelude.{◌≡◌, ℕ, zero, suc, ◌<◌, true, ◌⊎◌, List, [], ◌∷◌, ℤ, Some}
use Rattle.std.specs.List.{slice_get}
use Rattle.std.proofs.Common.{sym, refl, ap, subst, ◌∙◌, inl, inr, ⊎_elim, arith}
use Rattle.std.proofs.lemmas.Option.{none-some, same_Some}
use Rattle.model.specs.Sheet.{Ranked}
use Rattle.scale.specs.Scales.{Scale}
use Rattle.ranks.specs.Ranks.{EachValued, First}

module _ {A : Type 0} (P : A → Type 0) (Else : ℤ → Type 0) where
  pub first_total : ((a : A) → Dec (P a)) → ((v : ℤ) × Else v) → (ls : List (Ranked A)) → (v : ℤ) × First P Else ls v
  first_total d o [] = o
  first_total d o (l ∷ ls) = go (d l.what) (first_total d o ls)
    where
      go : Dec (P l.what) → ((v : ℤ) × First P Else ls v) → (v : ℤ) × First P Else (l ∷ ls) v
      go (yes p) r = (l.rank, inl (p, refl))
      go (no n) r = (r.0, inr (n, r.1))

  pub first_one : ((u v : ℤ) → Else u → Else v → u ≡ v) → (ls : List (Ranked A)) (u v : ℤ) → First P Else ls u → First P Else ls v → u ≡ v
  first_one o [] u v h k = o u v h k
  first_one o (l ∷ ls) u v (inl p) (inl q) = p.1 ∙ sym q.1
  first_one o (l ∷ ls) u v (inl p) (inr q) = absurd (q.0 p.0)
  first_one o (l ∷ ls) u v (inr p) (inl q) = absurd (p.0 q.0)
  first_one o (l ∷ ls) u v (inr p) (inr q) = first_one o ls u v p.1 q.1

  -- the line that gives the rank, with none before it
  pub record Found (ls : List (Ranked A)) (v : ℤ) : Type 0 where
    pub at : ℕ
    pub line : Ranked A
    pub is_line : slice_get ls at ≡ Some line
    pub holds : P line.what
    pub is_rank : v ≡ line.rank
    pub first : (j : ℕ) (l : Ranked A) → j < at → slice_get ls j ≡ Some l → P l.what → ⊥

  pub found : (ls : List (Ranked A)) (v : ℤ) → First P Else ls v → Found ls v ⊎ Else v
  found [] v h = inr h
  found (l ∷ ls) v (inl h) = inl (record { at = 0; line = l; is_line = refl; holds = h.0; is_rank = h.1; first = λ j e lt. absurd (omega arith) })
  found (l ∷ ls) v (inr h) = ⊎_elim (λ f. inl (later f)) (λ o. inr o) (found ls v h.1)
    where
      earlier : (f : Found ls v) (j : ℕ) (e : Ranked A) → j < suc f.at → slice_get (l ∷ ls) j ≡ Some e → P e.what → ⊥
      earlier f zero e lt is p = h.0 (subst (λ (x : Ranked A). P x.what) (sym (same_Some l e is)) p)
      earlier f (suc j) e lt is p = f.first j e (omega arith) is p

      later : Found ls v → Found (l ∷ ls) v
      later f = record { at = suc f.at; line = f.line; is_line = f.is_line; holds = f.holds; is_rank = f.is_rank; first = earlier f }

  -- the rank of a line that is the first to hold
  pub first_at : (ls : List (Ranked A)) (i : ℕ) (l : Ranked A) → slice_get ls i ≡ Some l → P l.what
      → ((j : ℕ) (e : Ranked A) → j < i → slice_get ls j ≡ Some e → P e.what → ⊥) → First P Else ls l.rank
  first_at [] i l is p none = absurd (none-some l is)
  first_at (k ∷ ls) zero l is p none = let e : k ≡ l = same_Some k l is in inl (subst (λ (x : Ranked A). P x.what) (sym e) p, ap (λ (x : Ranked A). x.rank) (sym e))
  first_at (k ∷ ls) (suc i) l is p none = inr (none 0 k (omega arith) refl, first_at ls i l is p (λ j e lt. none (suc j) e (omega arith)))

  -- it is one of the scale's values, where each line's rank is
  pub first_has : (scale : Scale) (ls : List (Ranked A)) → EachValued scale ls → ((v : ℤ) → Else v → scale.has v ≡ true)
      → (v : ℤ) → First P Else ls v → scale.has v ≡ true
  first_has scale ls each other v h = ⊎_elim (λ f. ap scale.has f.is_rank ∙ each f.at f.line f.is_line) (other v) (found ls v h)
