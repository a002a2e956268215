-- What each step of the search shows.
use Rattle.std.proofs.Common.{◌≡◌, ℕ, ◌+◌, ◌<◌, ◌≤◌, min, Bool, true, false, List, [], ◌∷◌, ◌++◌, ◌-◌, length, take, ◌↔◌, IsTrue, inl, inr, sym, ap, subst, ◌∙◌, append_assoc, arith, below_more}
use Rattle.std.proofs.lemmas.Bool.{false≢true}
use Rattle.std.proofs.lemmas.Grind.{common_steps}
use Rattle.message.specs.declared.Kind.{Kind}
use Rattle.message.specs.declared.Kind.TheVariants.{Agent, Nonce, Text}
use Rattle.message.specs.Message.{size}
use Rattle.search.specs.declared.place.Counts.{Counts}
use Rattle.search.specs.declared.place.Place.{Place}
use Rattle.search.specs.Canonical.{Extends, Tried, past}
use Rattle.search.specs.Rows.{Empty, Fits, Least, Less, count}

-- No kind has more numbers than 65,536.
size-small : (k : Kind) → size k ≤ 65536
size-small Agent = omega arith
size-small Nonce = omega arith
size-small Text = omega arith

-- An end that begins with the number is written either way.
begun : (row ys : List ℕ) (x : ℕ) → (row ++ (x ∷ [])) ++ ys ≡ row ++ (x ∷ ys)
begun row ys x = append_assoc row (x ∷ []) ys

-- A list with one element more, without it.
front : (row : List ℕ) (n : ℕ) → take (length (row ++ (n ∷ [])) - 1) (row ++ (n ∷ [])) ≡ row
front row n = grind (arith, common_steps)

-- The row is as it was, and no number below n begins an end that is tried and breaks the test.
pub record Passed (named next : Counts) (p : Place) (ps : List Place) (broken : List ℕ → Type 0) (row now : List ℕ) (n : ℕ) : Type 0 where
  pub kept : now ≡ row
  pub none : (x : ℕ) → x < n → Fits named p x → Empty (Tried named (past next p.kind x) ps (λ ys. broken ((row ++ (x ∷ [])) ++ ys)))

module _ {named next : Counts} {p : Place} {ps : List Place} {broken : List ℕ → Type 0} {row now : List ℕ} {n : ℕ} where
  -- A number that may not stand there begins none.
  pub passed_over : (later : List ℕ) (fits : Bool) → later ≡ now → fits ≡ false → (IsTrue fits ↔ Fits named p n) → Passed named next p ps broken row now n → Passed named next p ps broken row later (n + 1)
  passed_over later fits same unfit decided passed = record {
    kept = same ∙ passed.kept;
    none = below_more _ _ passed.none (λ fit. absurd (false≢true (sym unfit ∙ decided.1 fit)));
  }

  -- what was found with the number at the end
  module _ (with after : List ℕ) (used : Counts) (found : Bool) (pushed : with ≡ now ++ (n ∷ [])) (is-past : used ≡ past next p.kind n) (passed : Passed named next p ps broken row now n) where
    same-found : (b : Bool) → found ≡ b → Extends found (Tried named used ps (λ ys. broken (with ++ ys))) with after → Extends b (Tried named (past next p.kind n) ps (λ ys. broken ((row ++ (n ∷ [])) ++ ys))) (row ++ (n ∷ [])) after
    same-found b is-b found-so =
        let is-with : with ≡ row ++ (n ∷ []) = pushed ∙ ap (λ (l : List ℕ). l ++ (n ∷ [])) passed.kept in
        subst (λ (v : Bool). Extends v (Tried named (past next p.kind n) ps (λ ys. broken ((row ++ (n ∷ [])) ++ ys))) (row ++ (n ∷ [])) after) is-b
        (subst (λ (d : Counts). Extends found (Tried named d ps (λ ys. broken ((row ++ (n ∷ [])) ++ ys))) (row ++ (n ∷ [])) after) is-past
        (subst (λ (l : List ℕ). Extends found (Tried named used ps (λ ys. broken (l ++ ys))) l after) is-with found-so))

    -- Nothing was found with this number either, which is taken off again.
    pub passed_by : (later : List ℕ) (many : ℕ) → many ≡ length after → later ≡ take (many - 1) after → found ≡ false → Extends found (Tried named used ps (λ ys. broken (with ++ ys))) with after → Passed named next p ps broken row later (n + 1)
    passed_by later many is-many popped nothing found-so =
        let none-here = same-found false nothing found-so in
        record {
          kept = popped ∙ ap (λ (k : ℕ). take (k - 1) after) is-many ∙ subst (λ (l : List ℕ). take (length l - 1) l ≡ row) (sym none-here.0) (front row n);
          none = below_more _ _ passed.none (λ _. none-here.1);
        }

    -- The least end that begins with this number is the least one.
    pub least_found : (places : List Place) → places ≡ p ∷ ps → found ≡ true → Extends found (Tried named used ps (λ ys. broken (with ++ ys))) with after → Fits named p n → n ≤ count next p.kind → Extends true (Tried named next places (λ ys. broken (row ++ ys))) row after
    least_found places split something found-so fit low =
        let (end, is-after, r) = same-found true something found-so in
        subst (λ (l : List Place). Extends true (Tried named next l (λ ys. broken (row ++ ys))) row after) (sym split) (
          n ∷ end,
          is-after ∙ begun row end n,
          record {
            is = ((fit, r.is.0), (low, r.is.1), subst broken (begun row end n) r.is.2);
            least = less-none r;
          },
        )
      where
        less-none : {end : List ℕ} → Least (Tried named (past next p.kind n) ps (λ ys. broken ((row ++ (n ∷ [])) ++ ys))) end → (ys : List ℕ) → Tried named next (p ∷ ps) (λ ys. broken (row ++ ys)) ys → Less ys (n ∷ end) → ⊥
        less-none r [] tried less = tried.0
        less-none r (y ∷ ys) tried (inl less) = (passed.none y less tried.0.0).none ys (tried.0.1, tried.1.1, subst broken (sym (begun row ys y)) tried.2)
        less-none r (y ∷ ys) tried (inr less) = r.least ys (subst (λ (x : ℕ). Tried named (past next p.kind x) ps (λ ys. broken ((row ++ (x ∷ [])) ++ ys)) ys) less.0 (tried.0.1, tried.1.1, subst broken (sym (begun row ys y)) tried.2)) less.1

  -- Where none begins with a number that is tried there is none at all.
  pub none_found : (places : List Place) (last : ℕ) → places ≡ p ∷ ps → n ≡ last + 1 → last ≡ min (count next p.kind) 65535 → Passed named next p ps broken row now n → Extends false (Tried named next places (λ ys. broken (row ++ ys))) row now
  none_found places last split e is passed = (
    passed.kept,
    subst (λ (l : List Place). Empty (Tried named next l (λ ys. broken (row ++ ys)))) (sym split) (record { none = none }),
  )
    where
      none : (ys : List ℕ) → Tried named next (p ∷ ps) (λ ys. broken (row ++ ys)) ys → ⊥
      none [] tried = tried.0
      none (y ∷ ys) tried =
          let high : y < size p.kind = tried.0.0.0 in
          let low : y ≤ count next p.kind = tried.1.0 in
          let some : size p.kind ≤ 65536 = size-small p.kind in
          (passed.none y (omega arith) tried.0.0).none ys (tried.0.1, tried.1.1, subst broken (sym (begun row ys y)) tried.2)
