-- The least row that breaks a test is found among the canonical ones.
use Rattle.std.proofs.Common.{◌≡◌, ℕ, ◌<◌, ◌≤◌, List, [], ◌∷◌, ◌⊎◌, inl, inr, sym, ap, subst, ◌∙◌, refl, arith}
use Rattle.std.proofs.lemmas.Bool.{cases_lt, cases_order}
use Rattle.message.specs.declared.Kind.{Kind}
use Rattle.message.specs.Message.{size}
use Rattle.search.specs.declared.place.Counts.{Counts}
use Rattle.search.specs.declared.place.Place.{Place}
use Rattle.search.specs.Canonical.{Tried, past}
use Rattle.search.specs.Exchange.{Invariant, Stranger, exchanged}
use Rattle.search.specs.Rows.{Allowed, Breaking, Empty, Fits, Least, Less, count}
use Rattle.search.proofs.Exchanged.{allowed-exchanged, head-kept, head-swapped, past-grows, stranger-fits}

-- Of the numbers that are not used yet, from `next` on, no two are told apart.
pub record Free (named next : Counts) (ps : List Place) (broken : List ℕ → Type 0) : Type 0 where
  pub grows : (k : Kind) → count named k ≤ count next k
  pub blind : (k : Kind) (u w : ℕ) → count next k ≤ u → u < size k → count next k ≤ w → w < size k → (xs : List ℕ) → Allowed named ps xs → broken xs → broken (exchanged k u w ps xs)

free-start : (named : Counts) (ps : List Place) (broken : List ℕ → Type 0) → Invariant named ps broken → Free named named ps broken
free-start named ps broken inv = record {
  grows = λ k. omega arith;
  blind = λ k u w lu hu lw hw xs al b. inv.blind k u w (record { low = lu; high = hu }) (record { low = lw; high = hw }) xs al b;
}

module _ (named next : Counts) (p : Place) (ps : List Place) (broken : List ℕ → Type 0) (free : Free named next (p ∷ ps) broken) where
  free-step : (x : ℕ) → Fits named p x → Free named (past next p.kind x) ps (λ ys. broken (x ∷ ys))
  free-step x fit = record {
    grows = λ k. omega (arith, free.grows k, past-grows next p.kind k x);
    blind = λ k u w lu hu lw hw xs al b.
        let up = past-grows next p.kind k x in
        let e = head-kept next p.kind k x u w lu lw in
        subst (λ (y : ℕ). broken (y ∷ exchanged k u w ps xs)) e (free.blind k u w (omega arith) hu (omega arith) hw (x ∷ xs) (fit, al) b);
  }

  -- A first number above the next one that is not used is exchanged for that one.
  module _ (x : ℕ) (more : count next p.kind < x) (fit : Fits named p x) where
    above : Stranger named p.kind x
    above = record { low = omega (arith, free.grows p.kind); high = fit.0 }

    lowest : Stranger named p.kind (count next p.kind)
    lowest = record { low = free.grows p.kind; high = omega (arith, above.high) }

    lowered-fits : Fits named p (count next p.kind)
    lowered-fits = stranger-fits named p x (count next p.kind) above lowest fit

    lowered-allowed : (xs : List ℕ) → Allowed named ps xs → Allowed named ps (exchanged p.kind x (count next p.kind) ps xs)
    lowered-allowed xs al = allowed-exchanged named p.kind x (count next p.kind) ps xs above lowest al

    lowered-breaks : (xs : List ℕ) → Allowed named ps xs → broken (x ∷ xs) → broken (count next p.kind ∷ exchanged p.kind x (count next p.kind) ps xs)
    lowered-breaks xs al b =
        let n : ℕ = count next p.kind in
        subst (λ (y : ℕ). broken (y ∷ exchanged p.kind x n ps xs)) (head-swapped p.kind x n) (free.blind p.kind x n (omega arith) above.high (omega arith) lowest.high (x ∷ xs) (fit, al) b)

-- A row that is tried, breaks the test and is no greater.
abbrev Found : Counts → Counts → List Place → (List ℕ → Type 0) → List ℕ → Type 0
Found named next ps broken xs = (ys : List ℕ) × Tried named next ps broken ys × ((ys ≡ xs) ⊎ Less ys xs)

keep-first : (named next : Counts) (p : Place) (ps : List Place) (broken : List ℕ → Type 0) (x : ℕ) (xs : List ℕ) → x ≤ count next p.kind → Fits named p x → Found named (past next p.kind x) ps (λ ys. broken (x ∷ ys)) xs → Found named next (p ∷ ps) broken (x ∷ xs)
keep-first named next p ps broken x xs few fit (ys, tried, most) = (
  x ∷ ys,
  ((fit, tried.0), (few, tried.1), tried.2),
  elim most [ inl e ↦ inl (ap (λ (l : List ℕ). x ∷ l) e) | inr less ↦ inr (inr (refl, less)) ],
)

lower-first : (named next : Counts) (p : Place) (ps : List Place) (broken : List ℕ → Type 0) (x y : ℕ) (xs ys : List ℕ) → y < x → Found named next (p ∷ ps) broken (y ∷ ys) → Found named next (p ∷ ps) broken (x ∷ xs)
lower-first named next p ps broken x y xs ys less (zs, tried, most) = (zs, tried, inr (below zs most))
  where
    below : (zs : List ℕ) → (zs ≡ y ∷ ys) ⊎ Less zs (y ∷ ys) → Less zs (x ∷ xs)
    below zs (inl e) = subst (λ (l : List ℕ). Less l (x ∷ xs)) (sym e) (inl less)
    below [] (inr l) = tt
    below (z ∷ zs) (inr (inl l)) = inl (omega arith)
    below (z ∷ zs) (inr (inr l)) = inl (omega (arith, l.0))

found : (named next : Counts) (ps : List Place) (broken : List ℕ → Type 0) (xs : List ℕ) → Free named next ps broken → Allowed named ps xs → broken xs → Found named next ps broken xs
found named next [] broken xs free al b = (xs, (al, tt, b), inl refl)
found named next (p ∷ ps) broken [] free al b = absurd al
found named next (p ∷ ps) broken (x ∷ xs) free al b =
    elim (cases_lt (count next p.kind) x) [
      | inl more ↦
          let n : ℕ = count next p.kind in
          let fit = lowered-fits named next p ps broken free x more al.0 in
          let zs : List ℕ = exchanged p.kind x n ps xs in
          let r = found named (past next p.kind n) ps (λ ys. broken (n ∷ ys)) zs (free-step named next p ps broken free n fit) (lowered-allowed named next p ps broken free x more al.0 xs al.1) (lowered-breaks named next p ps broken free x more al.0 xs al.1 b) in
          lower-first named next p ps broken x n xs zs more (keep-first named next p ps broken n zs (omega arith) fit r)
      | inr few ↦ keep-first named next p ps broken x xs few al.0 (found named (past next p.kind x) ps (λ ys. broken (x ∷ ys)) xs (free-step named next p ps broken free x al.0) al.1 b)
    ]

less-trans : (xs ys zs : List ℕ) → Less xs ys → Less ys zs → Less xs zs
less-trans [] [] zs h k = absurd h
less-trans [] (y ∷ ys) [] h k = k
less-trans [] (y ∷ ys) (z ∷ zs) h k = tt
less-trans (x ∷ xs) [] zs h k = absurd h
less-trans (x ∷ xs) (y ∷ ys) [] h k = k
less-trans (x ∷ xs) (y ∷ ys) (z ∷ zs) (inl h) (inl k) = inl (omega arith)
less-trans (x ∷ xs) (y ∷ ys) (z ∷ zs) (inl h) (inr k) = inl (omega (arith, k.0))
less-trans (x ∷ xs) (y ∷ ys) (z ∷ zs) (inr h) (inl k) = inl (omega (arith, h.0))
less-trans (x ∷ xs) (y ∷ ys) (z ∷ zs) (inr h) (inr k) = inr (h.0 ∙ k.0, less-trans xs ys zs h.1 k.1)

-- Two allowed rows are equal, or one is less.
less-cases : (named : Counts) (ps : List Place) (xs ys : List ℕ) → Allowed named ps xs → Allowed named ps ys → (xs ≡ ys) ⊎ (Less xs ys ⊎ Less ys xs)
less-cases named [] [] [] al bl = inl refl
less-cases named [] [] (y ∷ ys) al bl = absurd bl
less-cases named [] (x ∷ xs) ys al bl = absurd al
less-cases named (p ∷ ps) [] ys al bl = absurd al
less-cases named (p ∷ ps) (x ∷ xs) [] al bl = absurd bl
less-cases named (p ∷ ps) (x ∷ xs) (y ∷ ys) al bl =
    elim (cases_order x y) [
      | inl e ↦ elim (less-cases named ps xs ys al.1 bl.1) [
        | inl same ↦ inl (ap (λ (z : ℕ). z ∷ xs) e ∙ ap (λ (l : List ℕ). y ∷ l) same)
        | inr (inl l) ↦ inr (inl (inr (e, l)))
        | inr (inr l) ↦ inr (inr (inr (sym e, l)))
      ]
      | inr (inl l) ↦ inr (inl (inl l))
      | inr (inr l) ↦ inr (inr (inl l))
    ]

module _ (named : Counts) (ps : List Place) (broken : List ℕ → Type 0) (inv : Invariant named ps broken) where
  -- For every allowed row that breaks the test there is a canonical one that is no greater.
  pub canonical_suffices : (xs : List ℕ) → Breaking named ps broken xs → Found named named ps broken xs
  canonical_suffices xs (al, b) = found named named ps broken xs (free-start named ps broken inv) al b

  -- So the least canonical row that breaks it is the least that does.
  pub canonical_least : (xs : List ℕ) → Least (Tried named named ps broken) xs → Least (Breaking named ps broken) xs
  canonical_least xs r = record {
    is = (r.is.0, r.is.2);
    least = λ ys breaks less. let (zs, tried, most) = canonical_suffices ys breaks in
        r.least zs tried (elim most [
          | inl e ↦ subst (λ (l : List ℕ). Less l xs) (sym e) less
          | inr l ↦ less-trans zs ys xs l less
        ]);
  }

  -- If no canonical row breaks it, no row does.
  pub canonical_none : Empty (Tried named named ps broken) → Empty (Breaking named ps broken)
  canonical_none empty = record { none = λ ys breaks. let (zs, tried, _) = canonical_suffices ys breaks in empty.none zs tried }

-- There is one least row at most.
pub least_one : (named : Counts) (ps : List Place) (broken : List ℕ → Type 0) (xs ys : List ℕ) → Least (Breaking named ps broken) xs → Least (Breaking named ps broken) ys → xs ≡ ys
least_one named ps broken xs ys r s =
    elim (less-cases named ps xs ys r.is.0 s.is.0) [
      | inl e ↦ e
      | inr (inl l) ↦ absurd (s.least xs r.is l)
      | inr (inr l) ↦ absurd (r.least ys s.is l)
    ]
