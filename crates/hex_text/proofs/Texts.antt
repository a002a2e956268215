-- The text of bytes, taken apart and put together one byte at a time.
use Rattle.std.proofs.Common.{◌≡◌, ℕ, ◌/◌, ◌%◌, ◌<◌, List, [], ◌∷◌, length, get_or, drop, sym, refl, ap, ◌∙◌, subst, arith}
use Rattle.hex_text.specs.Hex.{Digit, Pair, Spells, UniqueReading}

-- the text of one byte or more
abbrev pub SpellsSome : List ℕ → Type 0
SpellsSome text = (b : ℕ) × (bs : List ℕ) × Spells (b ∷ bs) text

-- what stands after a byte's digits where these bytes follow it
abbrev pub Follows : List ℕ → List ℕ → Type 0
Follows [] more = more ≡ []
Follows (b ∷ bs) more = (after : List ℕ) × (more ≡ 32 ∷ after) × Spells (b ∷ bs) after

pub follows-some : (bs after : List ℕ) → Follows bs (32 ∷ after) → SpellsSome after
follows-some [] after f = absurd (omega (arith, ap length f))
follows-some (b ∷ bs) after (also, e, s) = (b, bs, subst (Spells (b ∷ bs)) (sym (ap (drop 1) e)) s)

pub join : (b : ℕ) (bs : List ℕ) {line : List ℕ} (high low : ℕ) (more : List ℕ) → line ≡ high ∷ low ∷ more → Pair high low b → Follows bs more → Spells (b ∷ bs) line
join b [] high low more cut p f = (high, low, p, cut ∙ ap (λ m. high ∷ low ∷ m) f)
join b (c ∷ bs) high low more cut p (after, e, s) = (high, low, after, p, cut ∙ ap (λ m. high ∷ low ∷ m) e, s)

pub part : (b : ℕ) (bs line : List ℕ) → Spells (b ∷ bs) line → (high : ℕ) × (low : ℕ) × (more : List ℕ) × (line ≡ high ∷ low ∷ more) × Pair high low b × Follows bs more
part b [] line (high, low, p, e) = (high, low, [], e, p, refl)
part b (c ∷ bs) line (high, low, after, p, e, s) = (high, low, 32 ∷ after, e, p, (after, refl, s))

-- the same where the line's first two characters are known
pub part_at : (b : ℕ) (bs line : List ℕ) {high low : ℕ} {more : List ℕ} → line ≡ high ∷ low ∷ more → Spells (b ∷ bs) line → Pair high low b × Follows bs more
part_at b bs line cut s =
    let (h, l, m, e, p, f) = part b bs line s in
    subst (λ t. Pair (get_or t 0 0) (get_or t 1 0) b × Follows bs (drop 2 t)) (sym e ∙ cut) (p, f)

pub two-at-least : (b : ℕ) (bs line : List ℕ) → Spells (b ∷ bs) line → length line < 2 → ⊥
two-at-least b bs line s short = let (h, l, m, e, p, f) = part b bs line s in omega (arith, ap length e)

one-digit : (code v w : ℕ) → Digit code v → Digit code w → v ≡ w
one-digit code v w p q = grind arith

one_byte : {high low : ℕ} (x y : ℕ) → Pair high low x → Pair high low y → x ≡ y
one_byte {high} {low} x y (xh, xl) (yh, yl) = omega (arith, one-digit high (x / 16) (y / 16) xh yh, one-digit low (x % 16) (y % 16) xl yl)

one_follows : (xs ys more : List ℕ) → Follows xs more → Follows ys more → xs ≡ ys
one_follows [] [] more f g = refl
one_follows [] (y ∷ ys) more f (after, e, s) = absurd (omega (arith, ap length (sym f ∙ e)))
one_follows (x ∷ xs) [] more (after, e, s) g = absurd (omega (arith, ap length (sym g ∙ e)))
one_follows (x ∷ xs) (y ∷ ys) more (after, e, s) (also, e2, t) =
    let (high, low, rest, cut, p, f) = part x xs after s in
    let (q, g) = part_at y ys also (ap (drop 1) (sym e2 ∙ e) ∙ cut) t in (λ i. one_byte x y p q i ∷ one_follows xs ys rest f g i)

pub unique : UniqueReading
unique line [] [] s t = refl
unique line [] (y ∷ ys) s t = absurd (two-at-least y ys line t (omega (arith, ap length s)))
unique line (x ∷ xs) [] s t = absurd (two-at-least x xs line s (omega (arith, ap length t)))
unique line (x ∷ xs) (y ∷ ys) s t = one_follows (x ∷ xs) (y ∷ ys) (32 ∷ line) (line, refl, s) (line, refl, t)
