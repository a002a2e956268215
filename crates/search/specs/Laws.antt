-- Laws of canonical rows: why it is enough to try them, and how many strangers are in them.
use Rattle.std.specs.Prelude.{◌≡◌, ◌≢◌, ℕ, ◌+◌, ◌≤◌, true, ◌⊎◌, List, [], ◌∷◌, length, All}
use Rattle.message.specs.declared.Kind.{Kind}
use Rattle.message.specs.Message.{size}
use Rattle.search.specs.declared.place.Counts.{Counts}
use Rattle.search.specs.declared.place.Place.{Place}
use Rattle.search.specs.Canonical.{Canonical, Tried}
use Rattle.search.specs.Exchange.{Stranger}
use Rattle.search.specs.Rows.{Allowed, Breaking, Least, Less, count}

-- For every allowed row that breaks the test there is a canonical one that does, and that is no greater.
abbrev pub CanonicalSuffices : Counts → List Place → (List ℕ → Type 0) → Type 0
CanonicalSuffices named ps broken = (xs : List ℕ) → Breaking named ps broken xs → (ys : List ℕ) × Tried named named ps broken ys × ((ys ≡ xs) ⊎ Less ys xs)

-- The least canonical row that breaks the test is the least that does, and there is no other.
abbrev pub CanonicalIsLeast : Counts → List Place → (List ℕ → Type 0) → Type 0
CanonicalIsLeast named ps broken = (xs : List ℕ) → Least (Tried named named ps broken) xs → Least (Breaking named ps broken) xs × ((ys : List ℕ) → Least (Breaking named ps broken) ys → xs ≡ ys)

-- Another number than x stands at every place of the kind.
abbrev pub Absent : Kind → ℕ → List Place → List ℕ → Type 0
Absent k x [] ys = Unit {0}
Absent k x (p ∷ ps) [] = Unit {0}
Absent k x (p ∷ ps) (y ∷ ys) = (p.kind ≡ k → x ≢ y) × Absent k x ps ys

-- At each place stands a stranger that stands at no other place of its kind.
abbrev pub Strangers : Counts → List Place → List ℕ → Type 0
Strangers named [] xs = Unit {0}
Strangers named (p ∷ ps) [] = ⊥
Strangers named (p ∷ ps) (x ∷ xs) = Stranger named p.kind x × Absent p.kind x ps xs × Strangers named ps xs

-- Where every place lets strangers in, and no kind has fewer of them than there are places, a row is tried in which all are different.
abbrev pub MeetsStrangers : Type 0
MeetsStrangers = (named : Counts) (ps : List Place) → All (λ p. p.strangers ≡ true) ps → ((k : Kind) → count named k + length ps ≤ size k)
    → (xs : List ℕ) × Allowed named ps xs × Canonical named ps xs × Strangers named ps xs
