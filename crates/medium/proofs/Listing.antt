-- Messages in a row, met one after another.
use Rattle.std.proofs.Common.{◌≡◌, ℕ, zero, suc, ◌≢◌, ◌⊎◌, ◌↔◌, min, List, [], ◌∷◌, ◌++◌, length, take, drop, inl, inr, sym, refl, ap, subst, ◌∙◌, arith, length-append}
use Rattle.std.proofs.lemmas.List.{drop_at, take_at}
use Rattle.message.specs.Message.{Msg, wire}
use Rattle.medium.specs.Store.{Listed, laid}

pub listed_first : (x : Msg) (xs : List Msg) (bytes : List ℕ) → wire x ≡ bytes → Listed (x ∷ xs) bytes
listed_first x xs bytes e = (x, (0, omega arith, refl), e)

pub listed_later : (x : Msg) (xs : List Msg) (bytes : List ℕ) → Listed xs bytes → Listed (x ∷ xs) bytes
listed_later x xs bytes (m, (k, h, is), e) = (m, (suc k, omega arith, is), e)

pub listed_cases : (x : Msg) (xs : List Msg) (bytes : List ℕ) → Listed (x ∷ xs) bytes → (wire x ≡ bytes) ⊎ Listed xs bytes
listed_cases x xs bytes (m, (zero, h, is), e) = inl (ap wire is ∙ e)
listed_cases x xs bytes (m, (suc k, h, is), e) = inr (m, (k, omega arith, is), e)

pub none_listed : (bytes : List ℕ) → Listed [] bytes → ⊥
none_listed bytes (m, (k, h, is), e) = omega arith

-- The messages left, after the first, and the first.
pub record Splits (left : List Msg) (message behind : List ℕ) : Type 0 where
  pub first : Msg
  pub others : List Msg
  pub all : left ≡ first ∷ others
  pub bytes : wire first ≡ message
  pub laid-others : laid others ≡ behind

pub splits : (left : List Msg) (n : ℕ) (rest : List ℕ) → laid left ≡ n ∷ rest → Splits left (take (min (length rest) n) rest) (drop (min (length rest) n) rest)
splits [] n rest e = cc
splits (x ∷ xs) n rest e =
    let tails : wire x ++ laid xs ≡ rest = cc in
    let len : length (wire x) ≡ n = cc in
    let cut : length (wire x) ≡ min (length rest) n = omega (arith, ap length tails, length-append (wire x) (laid xs)) in
    record {
      first = x;
      others = xs;
      all = refl;
      bytes = sym (take_at (wire x) (laid xs) _ cut) ∙ ap (take (min (length rest) n)) tails;
      laid-others = sym (drop_at (wire x) (laid xs) _ cut) ∙ ap (drop (min (length rest) n)) tails;
    }

-- What is listed among all the messages is listed among those left.
abbrev pub Left : List ℕ → List ℕ → List ℕ → Type 0
Left stored rest bytes = (heard : List Msg) → laid heard ≡ stored → (left : List Msg) × (laid left ≡ rest) × (Listed heard bytes ↔ Listed left bytes)

pub left_all : (stored bytes : List ℕ) → Left stored stored bytes
left_all stored bytes heard e = (heard, e, (λ x. x, λ x. x))

pub left_one : (stored rest bytes : List ℕ) (n : ℕ) (others : List ℕ) → rest ≡ n ∷ others → take (min (length others) n) others ≢ bytes → Left stored rest bytes → Left stored (drop (min (length others) n) others) bytes
left_one stored rest bytes n others e other before heard is =
    let (left, f, both) = before heard is in
    let s = splits left n others (f ∙ e) in (
      s.others,
      s.laid-others,
      (
        λ x. elim (listed_cases s.first s.others bytes (subst (λ l. Listed l bytes) s.all (both.0 x))) [ inl w ↦ absurd (other (sym s.bytes ∙ w)) | inr w ↦ w ],
        λ x. both.1 (subst (λ l. Listed l bytes) (sym s.all) (listed_later s.first s.others bytes x)),
      ),
    )

pub left_found : (stored rest bytes : List ℕ) (n : ℕ) (others : List ℕ) → rest ≡ n ∷ others → take (min (length others) n) others ≡ bytes → Left stored rest bytes → (heard : List Msg) → laid heard ≡ stored → Listed heard bytes
left_found stored rest bytes n others e same before heard is =
    let (left, f, both) = before heard is in
    let s = splits left n others (f ∙ e) in
    both.1 (subst (λ l. Listed l bytes) (sym s.all) (listed_first s.first s.others bytes (s.bytes ∙ same)))

pub left_none : (stored rest bytes : List ℕ) → length rest ≡ 0 → Left stored rest bytes → (heard : List Msg) → laid heard ≡ stored → Listed heard bytes → ⊥
left_none stored rest bytes e before heard is x =
    let (left, f, both) = before heard is in
    nothing left f (both.0 x)
  where
    nothing : (left : List Msg) → laid left ≡ rest → Listed left bytes → ⊥
    nothing [] f y = none_listed bytes y
    nothing (m ∷ ms) f y = omega (arith, ap length f)
