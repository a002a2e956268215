-- A canonical row of strangers, no two of which are the same.
use Rattle.std.proofs.Common.{◌≡◌, ℕ, suc, ◌+◌, ◌<◌, ◌≤◌, true, List, [], ◌∷◌, inr, sym, subst, length, All, arith}
use Rattle.message.specs.declared.Kind.{Kind}
use Rattle.message.specs.declared.Kind.TheVariants.{Agent, Nonce, Text}
use Rattle.message.specs.Message.{size}
use Rattle.search.specs.declared.place.Counts.{Counts}
use Rattle.search.specs.declared.place.Place.{Place}
use Rattle.search.specs.Canonical.{Canonical, past}
use Rattle.search.specs.Laws.{Absent, MeetsStrangers, Strangers}
use Rattle.search.specs.Rows.{Allowed, count}
use Rattle.search.proofs.Exchanged.{past-grows}

-- At each place the first number of its kind that is not used before.
abbrev newcomers : Counts → List Place → List ℕ
newcomers next [] = []
newcomers next (p ∷ ps) = count next p.kind ∷ newcomers (past next p.kind (count next p.kind)) ps

-- A number that is used is past.
past-it : (next : Counts) (k : Kind) (x : ℕ) → x < count (past next k x) k
past-it next Agent x = omega arith
past-it next Nonce x = omega arith
past-it next Text x = omega arith

-- One number more is used, of one kind.
past-one : (next : Counts) (j k : Kind) → count (past next j (count next j)) k ≤ count next k + 1
past-one next Agent Agent = omega arith
past-one next Agent Nonce = omega arith
past-one next Agent Text = omega arith
past-one next Nonce Agent = omega arith
past-one next Nonce Nonce = omega arith
past-one next Nonce Text = omega arith
past-one next Text Agent = omega arith
past-one next Text Nonce = omega arith
past-one next Text Text = omega arith

absent : (next : Counts) (k : Kind) (x : ℕ) (ps : List Place) → x < count next k → Absent k x ps (newcomers next ps)
absent next k x [] h = tt
absent next k x (p ∷ ps) h = (
  (λ e same. let low : x < count next p.kind = subst (λ (j : Kind). x < count next j) (sym e) h in omega arith),
  absent (past next p.kind (count next p.kind)) k x ps (omega (arith, past-grows next p.kind k (count next p.kind))),
)

tried : (named next : Counts) (ps : List Place) → ((k : Kind) → count named k ≤ count next k) → All (λ p. p.strangers ≡ true) ps → ((k : Kind) → count next k + length ps ≤ size k) → Allowed named ps (newcomers next ps) × Canonical next ps (newcomers next ps) × Strangers named ps (newcomers next ps)
tried named next [] grows welcome room = (tt, tt, tt)
tried named next (p ∷ ps) grows welcome room =
    let n : ℕ = count next p.kind in
    let low : count named p.kind ≤ n = grows p.kind in
    let high : n < size p.kind = omega (arith, room p.kind) in
    let rest = tried named (past next p.kind n) ps (λ k. omega (arith, grows k, past-grows next p.kind k n)) (λ k d h. welcome (suc k) d (omega arith)) (λ k. omega (arith, room k, past-one next p.kind k)) in (
      ((high, inr (low, welcome 0 p (omega arith))), rest.0),
      (omega arith, rest.1),
      (record { low = low; high = high }, absent (past next p.kind n) p.kind n ps (past-it next p.kind n), rest.2),
    )

pub newcomers_tried : MeetsStrangers
newcomers_tried named ps welcome room = let r = tried named named ps (λ k. omega arith) welcome room in (newcomers named ps, r.0, r.1, r.2)
