-- The exchange of two numbers that have no name.
use Rattle.std.specs.Prelude.{ℕ, ◌<◌, ◌≤◌, Bool, true, false, cond, nat_eq, List, [], ◌∷◌}
use Rattle.message.specs.declared.Kind.{Kind}
use Rattle.message.specs.declared.Kind.TheVariants.{Agent, Nonce, Text}
use Rattle.message.specs.Message.{size}
use Rattle.search.specs.declared.place.Counts.{Counts}
use Rattle.search.specs.declared.place.Place.{Place}
use Rattle.search.specs.Rows.{Allowed, count}

-- A number of the kind that has no name.
pub record Stranger (named : Counts) (k : Kind) (n : ℕ) : Type 0 where
  pub low : count named k ≤ n
  pub high : n < size k

abbrev pub same_kind : Kind → Kind → Bool
same_kind Agent Agent = true
same_kind Agent Nonce = false
same_kind Agent Text = false
same_kind Nonce Agent = false
same_kind Nonce Nonce = true
same_kind Nonce Text = false
same_kind Text Agent = false
same_kind Text Nonce = false
same_kind Text Text = true

-- n, or the other one of u and w if it is one of them
abbrev pub swap : ℕ → ℕ → ℕ → ℕ
swap u w n = cond (nat_eq n u) w (cond (nat_eq n w) u n)

-- a row with u and w exchanged at every place of the kind
abbrev pub exchanged : Kind → ℕ → ℕ → List Place → List ℕ → List ℕ
exchanged k u w [] xs = xs
exchanged k u w (p ∷ ps) [] = []
exchanged k u w (p ∷ ps) (x ∷ xs) = cond (same_kind p.kind k) (swap u w x) x ∷ exchanged k u w ps xs

-- The test tells no two strangers apart: where an allowed row breaks it, so does that row with two strangers of one kind exchanged.
pub record Invariant (named : Counts) (ps : List Place) (broken : List ℕ → Type 0) : Type 0 where
  pub blind : (k : Kind) (u w : ℕ) → Stranger named k u → Stranger named k w → (xs : List ℕ) → Allowed named ps xs → broken xs → broken (exchanged k u w ps xs)
