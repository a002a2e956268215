-- A message taken apart one level, by its letter.
use Rattle.std.proofs.Common.{◌≡◌, ℕ, ◌+◌, ◌-◌, ◌*◌, ◌<◌, ◌≤◌, List, [], ◌∷◌, ◌++◌, length, get_or, take, Ok, sym, ap, ◌∙◌, subst, append-nil, arith, length-append, take_all, take_at}
use Rattle.std.specs.List.{between}
use Rattle.message.specs.declared.read.Parts.TheVariants.{Agent, Nonce, Text, Key, Pair, Seal}
use Rattle.message.specs.Laws.{PartsAreMessages}
use Rattle.message.specs.Message.{shared, Msg, agent, nonce, text, key, pair, seal, two_bytes, key_bytes, wire, Fits, Reads, IsMessage}
use Rattle.message.specs.Message as tree
use Rattle.message.specs.Reading.{Begins, Splits}
use Rattle.message.proofs.Forms.{at-agent, at-nonce, at-text, at_key, at_pair, at-seal, halves}
use Rattle.message.proofs.Shapes.{unique}
use Rattle.message.proofs.Whole.{begins}

-- a number from its two bytes
back : (n : ℕ) (body : List ℕ) → body ≡ two_bytes n ++ [] → n ≡ get_or body 0 0 * 256 + get_or body 1 0
back n body e = omega (arith, ap (λ l. get_or l 0 0) e, ap (λ l. get_or l 1 0) e)

-- what `Splits` says of a pair's halves, and of a seal's key and content
abbrev pub Halves : List ℕ → List ℕ → List ℕ → Type 0
Halves bytes first second = (m : Msg) × Reads bytes m × ((l : Msg) × (r : Msg) × (m ≡ pair l r) × (wire l ≡ first) × (wire r ≡ second))

abbrev pub Opens : List ℕ → List ℕ → List ℕ → Type 0
Opens bytes k content = (m : Msg) × Reads bytes m × ((s : tree.Key) × (c : Msg) × (m ≡ seal s c) × (key_bytes s ≡ k) × (wire c ≡ content))

module _ (bytes body : List ℕ) (w : IsMessage bytes) where
  pub agent-parts : bytes ≡ 65 ∷ body → Splits bytes (Ok (Agent (get_or body 0 0)))
  agent-parts e =
      let (n, is, f) = at-agent bytes body [] e (begins bytes w) in
      (w.0, w.1, is ∙ ap agent (sym (ap (λ l. get_or l 0 0) f)))

  pub agent-length : bytes ≡ 65 ∷ body → length body ≡ 1
  agent-length e =
      let (n, is, f) = at-agent bytes body [] e (begins bytes w) in
      ap length f

  pub nonce-parts : bytes ≡ 78 ∷ body → (v : ℕ) → v ≡ get_or body 0 0 * 256 + get_or body 1 0 → Splits bytes (Ok (Nonce v))
  nonce-parts e v sum =
      let (n, is, f) = at-nonce bytes body [] e (begins bytes w) in
      (w.0, w.1, is ∙ ap nonce (back n body f ∙ sym sum))

  pub nonce-length : bytes ≡ 78 ∷ body → length body ≡ 2
  nonce-length e =
      let (n, is, f) = at-nonce bytes body [] e (begins bytes w) in
      ap length f

  pub text-parts : bytes ≡ 84 ∷ body → (v : ℕ) → v ≡ get_or body 0 0 * 256 + get_or body 1 0 → Splits bytes (Ok (Text v))
  text-parts e v sum =
      let (n, is, f) = at-text bytes body [] e (begins bytes w) in
      (w.0, w.1, is ∙ ap text (back n body f ∙ sym sum))

  pub text-length : bytes ≡ 84 ∷ body → length body ≡ 2
  text-length e =
      let (n, is, f) = at-text bytes body [] e (begins bytes w) in
      ap length f

  pub key-parts : bytes ≡ 75 ∷ body → Splits bytes (Ok (Key (get_or body 0 0) (get_or body 1 0)))
  key-parts e =
      let (a, b, is, order, f) = at_key bytes body [] e (begins bytes w) in
      (w.0, w.1, is ∙ λ i. key (shared (ap (λ l. get_or l 0 0) (sym f) i) (ap (λ l. get_or l 1 0) (sym f) i)))

  pub key-length : bytes ≡ 75 ∷ body → length body ≡ 2
  key-length e =
      let (a, b, is, order, f) = at_key bytes body [] e (begins bytes w) in
      ap length f

  pub pair_parts : bytes ≡ 80 ∷ body → (first second : List ℕ) → Begins body second → first ≡ between 0 (length body - length second) body → Halves bytes first second
  pair_parts e first second p cut =
      let (l, r, is, fits, f) = at_pair bytes body [] e (begins bytes w) in
      let one = unique l p.message (wire r ++ []) second (sym f ∙ sym p.splits) in
      let n : length (wire l) ≡ (length body - length second) - 0 = omega (arith, simp length-append at (ap length f), ap length one.1, simp length-append at (ap length one.1)) in
      let front : wire l ≡ first = sym (take_at (wire l) (wire r ++ []) _ n) ∙ ap (take ((length body - length second) - 0)) (sym f) ∙ sym cut in
      (w.0, w.1, (l, r, is, front, sym (append-nil (wire r)) ∙ one.1))

  pub pair-second : bytes ≡ 80 ∷ body → ((second : List ℕ) → Begins body second → ⊥) → ⊥
  pair-second e none =
      let (second, p, q) = halves bytes body [] e (begins bytes w) in
      none second p

  pub seal-parts : bytes ≡ 69 ∷ body → (k content : List ℕ) → k ≡ between 0 3 body → content ≡ between 3 (length body) body → Opens bytes k content
  seal-parts e k content front end =
      let (a, b, m, is, fits, f) = at-seal bytes body [] e (begins bytes w) in
      let rest : wire m ++ [] ≡ content = sym (take_all _ (wire m ++ []) (omega arith)) ∙ sym (ap (λ l. between 3 (length l) l) f) ∙ sym end in
      (w.0, w.1, (shared a b, m, is, sym (ap (λ l. between 0 3 l) f) ∙ sym front, sym (append-nil (wire m)) ∙ rest))

  pub seal-length : bytes ≡ 69 ∷ body → 2 < length body
  seal-length e =
      let (a, b, m, is, fits, f) = at-seal bytes body [] e (begins bytes w) in
      omega (arith, ap length f)

-- the parts of a message are messages

short-half : (l r : Msg) → length (wire (pair l r)) ≤ 96 → (length (wire l) ≤ 96) × (length (wire r) ≤ 96)
short-half l r h = let long = length-append (wire l) (wire r) in (omega arith, omega arith)

pub whole_parts : PartsAreMessages
whole_parts bytes (Agent n) s = tt
whole_parts bytes (Nonce n) s = tt
whole_parts bytes (Text n) s = tt
whole_parts bytes (Key a b) s = tt
whole_parts bytes (Pair first second) (m, w, (l, r, is, f, g)) =
    let fits = subst Fits is w.fits in
    let short = short-half l r (subst (λ n. n ≤ 96) (ap length (sym w.form ∙ ap wire is)) w.short) in (
      (l, record { fits = fits.0; form = f; short = subst (λ x. length x ≤ 96) f short.0 }),
      (r, record { fits = fits.1; form = g; short = subst (λ x. length x ≤ 96) g short.1 }),
    )
whole_parts bytes (Seal k content) (m, w, (shared a b, c, is, f, g)) =
    let fits = subst Fits is w.fits in
    let long = ap length (sym w.form ∙ ap wire is) in (
      (key (shared a b), record { fits = fits.0; form = f; short = omega (arith, ap length f) }),
      (c, record { fits = fits.1; form = g; short = omega (arith, long, w.short, ap length g) }),
    )
