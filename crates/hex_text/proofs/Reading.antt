-- A reading from the front of a line to its end.
use Rattle.std.proofs.Common.{◌≡◌, ℕ, ◌<◌, ◌≤◌, ◌⊎◌, List, [], ◌∷◌, ◌++◌, length, get_or, sym, ap, ◌∙◌, subst, ⊎_elim, append_assoc, arith}
use Rattle.std.specs.List.{between}
use Rattle.std.proofs.lemmas.List.{take_all}
use Rattle.std.proofs.lemmas.Slice.{first_rest}
use Rattle.hex_text.specs.Hex.{NoDigit, Pair, Spells}
use Rattle.hex_text.proofs.Texts.{SpellsSome, Follows, follows-some, join, part_at}

-- The bytes `done` are read from the front of the line. Those of the rest go on from them, and the line is the text
-- of some bytes only if the rest is.
pub record Sofar (line done rest : List ℕ) : Type 0 where
  pub makes : (b : ℕ) (bs : List ℕ) → Spells (b ∷ bs) rest → Spells (done ++ b ∷ bs) line
  pub wants : (all : List ℕ) → Spells all line → SpellsSome rest

wants-some : (line : List ℕ) → 0 < length line → (all : List ℕ) → Spells all line → SpellsSome line
wants-some line some [] s = absurd (omega (arith, ap length s))
wants-some line some (b ∷ bs) s = (b, bs, s)

pub start : (line done : List ℕ) → 0 < length line → done ≡ [] → Sofar line done line
start line done some e = record { makes = λ b bs s. rw e s; wants = wants-some line some }

-- the pattern `[high, low, more @ ..]`
pub first_two : (rest : List ℕ) → 2 ≤ length rest → rest ≡ get_or rest 0 0 ∷ get_or rest 1 0 ∷ between 2 (length rest) rest
first_two [] h = absurd (omega arith)
first_two (x ∷ []) h = absurd (omega arith)
first_two (x ∷ y ∷ more) h = ap (λ m. x ∷ y ∷ m) (sym (take_all _ more (omega arith)))

-- the pattern `[b' ', after @ ..]`
pub spaced : (more : List ℕ) → get_or more 0 0 ≡ 32 → 0 < length more → more ≡ 32 ∷ between 1 (length more) more
spaced more is some = first_rest more 0 some ∙ ap (λ x. x ∷ between 1 (length more) more) is

module _ {line done rest : List ℕ} (h : Sofar line done rest) where
  module _ {high low : ℕ} {more : List ℕ} (cut : rest ≡ high ∷ low ∷ more) where
    pub no-digits : NoDigit high ⊎ NoDigit low → (all : List ℕ) → Spells all line → ⊥
    no-digits none all s =
        let (b, bs, t) = h.wants all s in
        let (p, f) = part_at b bs rest cut t in
        ⊎_elim (λ no-high. no-high _ p.0) (λ no-low. no-low _ p.1) none

    wants-more : (all : List ℕ) → Spells all line → (bs : List ℕ) × Follows bs more
    wants-more all s = let (b, bs, t) = h.wants all s in (bs, (part_at b bs rest cut t).1)

    module _ (b : ℕ) (p : Pair high low b) where
      pub last : more ≡ [] → Spells (done ++ b ∷ []) line
      last e = h.makes b [] (join b [] high low more cut p e)

      pub again : (after : List ℕ) → more ≡ 32 ∷ after → Sofar line (done ++ b ∷ []) after
      again after e = record {
        makes = λ c cs s. rw append_assoc (h.makes b (c ∷ cs) (join b (c ∷ cs) high low more cut p (after, e, s)));
        wants = λ all s. let (bs, f) = wants-more all s in follows-some bs after (subst (Follows bs) e f);
      }
