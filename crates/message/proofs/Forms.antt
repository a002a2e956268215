-- What a form at the front of some bytes looks like, from its first byte on.
use Rattle.std.proofs.Common.{◌≡◌, ℕ, ◌+◌, ◌*◌, ◌/◌, ◌%◌, ◌<◌, ◌≤◌, ◌≢◌, List, [], ◌∷◌, ◌++◌, length, get_or, Some, None, Option, sym, refl, ap, ◌∙◌, subst, append_assoc, arith, length-append, take_all, Fits as FitsIn, w8, Bor}
use Rattle.std.specs.List.{between}
use Rattle.std.proofs.lemmas.Slice.{first_rest}
use Rattle.message.specs.Message.{shared, Msg, agent, nonce, text, key, pair, seal, two_bytes, wire, Fits}
use Rattle.message.specs.Reading.{Begins, Leaves}
use Rattle.message.proofs.Shapes.{Lettered, lettered, tail-is, unique, wire-is, tag, body}

-- every element is a byte
abbrev pub Small : List ℕ → Type 0
Small bytes = (i : ℕ) → get_or bytes i 0 < 256

pub small : (bytes : List ℕ) → ((i : ℕ) → FitsIn w8 (get_or bytes i 0)) → Small bytes
small bytes f i = omega (arith, f i)

-- ---- the first bytes of a list that is long enough

pub first_two : (xs : List ℕ) → 1 < length xs → xs ≡ get_or xs 0 0 ∷ get_or xs 1 0 ∷ between 2 (length xs) xs
first_two [] h = absurd (omega arith)
first_two (x ∷ []) h = absurd (omega arith)
first_two (x ∷ y ∷ zs) h = ap (λ l. x ∷ y ∷ l) (sym (take_all _ zs (omega arith)))

pub first_three : (xs : List ℕ) → 2 < length xs → xs ≡ get_or xs 0 0 ∷ get_or xs 1 0 ∷ get_or xs 2 0 ∷ between 3 (length xs) xs
first_three [] h = absurd (omega arith)
first_three (x ∷ []) h = absurd (omega arith)
first_three (x ∷ y ∷ []) h = absurd (omega arith)
first_three (x ∷ y ∷ z ∷ zs) h = ap (λ l. x ∷ y ∷ z ∷ l) (sym (take_all _ zs (omega arith)))

-- the bytes, with the first of them known
pub tagged : (bytes : List ℕ) (t : ℕ) → get_or bytes 0 0 ≡ t → 0 < length bytes → bytes ≡ t ∷ between 1 (length bytes) bytes
tagged bytes t is h = first_rest bytes 0 h ∙ ap (λ x. x ∷ between 1 (length bytes) bytes) is

pub keyed : (xs : List ℕ) (k : ℕ) → get_or xs 0 0 ≡ k → 2 < length xs → xs ≡ k ∷ get_or xs 1 0 ∷ get_or xs 2 0 ∷ between 3 (length xs) xs
keyed xs k is h = first_three xs h ∙ ap (λ x. x ∷ get_or xs 1 0 ∷ get_or xs 2 0 ∷ between 3 (length xs) xs) is

-- ---- what makes a form

pub agent-front : (bytes body rest : List ℕ) (n : ℕ) → bytes ≡ 65 ∷ body → body ≡ n ∷ rest → Small bytes → Begins bytes rest
agent-front bytes body rest n e f small =
    let is = e ∙ ap (λ l. 65 ∷ l) f in
    record { message = agent n; fits = subst Small is small 1; splits = sym is }

-- two bytes as a number
pub number_of : (hi lo : ℕ) → hi < 256 → lo < 256 → (hi * 256 + lo < 65536) × (two_bytes (hi * 256 + lo) ≡ hi ∷ lo ∷ [])
number_of hi lo high low =
    let q : (hi * 256 + lo) / 256 ≡ hi = omega arith in
    let r : (hi * 256 + lo) % 256 ≡ lo = omega arith in
    (omega arith, λ i. q i ∷ r i ∷ [])

-- an atom whose number has two bytes
pub number-front : (letter : ℕ) (make : ℕ → Msg) → ((n : ℕ) → wire (make n) ≡ letter ∷ two_bytes n) → ((n : ℕ) → n < 65536 → Fits (make n)) → (bytes body rest : List ℕ) (hi lo : ℕ) → bytes ≡ letter ∷ body → body ≡ hi ∷ lo ∷ rest → Small bytes → Begins bytes rest
number-front letter make form fits bytes body rest hi lo e f small =
    let is = e ∙ ap (λ l. letter ∷ l) f in
    let n = number_of hi lo (subst Small is small 1) (subst Small is small 2) in
    record {
      message = make (hi * 256 + lo);
      fits = fits _ n.0;
      splits = ap (λ l. l ++ rest) (form (hi * 256 + lo) ∙ ap (λ l. letter ∷ l) n.1) ∙ sym is;
    }

pub key-front : (bytes body rest : List ℕ) (a b : ℕ) → bytes ≡ 75 ∷ body → body ≡ a ∷ b ∷ rest → a ≤ b → Small bytes → Begins bytes rest
key-front bytes body rest a b e f order small =
    let is = e ∙ ap (λ l. 75 ∷ l) f in
    record { message = key (shared a b); fits = (order, subst Small is small 2); splits = sym is }

pub pair-front : (bytes body second rest : List ℕ) → bytes ≡ 80 ∷ body → Begins body second → Begins second rest → Begins bytes rest
pair-front bytes body second rest e p q = record {
  message = pair p.message q.message;
  fits = (p.fits, q.fits);
  splits = ap (λ l. 80 ∷ l) (append_assoc (wire p.message) (wire q.message) rest ∙ ap (λ l. wire p.message ++ l) q.splits ∙ p.splits) ∙ sym e;
}

pub seal-front : (bytes body content rest : List ℕ) (a b : ℕ) → bytes ≡ 69 ∷ body → body ≡ 75 ∷ a ∷ b ∷ content → a ≤ b → Small bytes → Begins content rest → Begins bytes rest
seal-front bytes body content rest a b e f order small p =
    let is = e ∙ ap (λ l. 69 ∷ l) f in
    record {
      message = seal (shared a b) p.message;
      fits = ((order, subst Small is small 3), p.fits);
      splits = ap (λ l. 69 ∷ 75 ∷ a ∷ b ∷ l) p.splits ∙ sym is;
    }

-- ---- what a form looks like

module _ (bytes body rest : List ℕ) where
  -- the tree at the front, by its letter, and the bytes that follow the letter
  front-tree : (t : ℕ) → bytes ≡ t ∷ body → (p : Begins bytes rest) → Lettered t p.message
  front-tree t e p = lettered p.message rest body t (p.splits ∙ e)

  follows : (t : ℕ) (m : Msg) (xs : List ℕ) → bytes ≡ t ∷ body → (p : Begins bytes rest) → p.message ≡ m → wire m ++ rest ≡ t ∷ xs → body ≡ xs
  follows t m xs e p is form = tail-is (sym e ∙ sym p.splits ∙ ap (λ x. wire x ++ rest) is ∙ form)

  pub at-agent : bytes ≡ 65 ∷ body → (p : Begins bytes rest) → (n : ℕ) × (p.message ≡ agent n) × (body ≡ n ∷ rest)
  at-agent e p =
      let (n, is) = front-tree 65 e p in
      (n, is, follows 65 (agent n) _ e p is refl)

  pub at-nonce : bytes ≡ 78 ∷ body → (p : Begins bytes rest) → (n : ℕ) × (p.message ≡ nonce n) × (body ≡ two_bytes n ++ rest)
  at-nonce e p =
      let (n, is) = front-tree 78 e p in
      (n, is, follows 78 (nonce n) _ e p is refl)

  pub at-text : bytes ≡ 84 ∷ body → (p : Begins bytes rest) → (n : ℕ) × (p.message ≡ text n) × (body ≡ two_bytes n ++ rest)
  at-text e p =
      let (n, is) = front-tree 84 e p in
      (n, is, follows 84 (text n) _ e p is refl)

  pub at_key : bytes ≡ 75 ∷ body → (p : Begins bytes rest) → (a : ℕ) × (b : ℕ) × (p.message ≡ key (shared a b)) × (a ≤ b) × (body ≡ a ∷ b ∷ rest)
  at_key e p =
      let (a, b, is) = front-tree 75 e p in
      (a, b, is, (subst Fits is p.fits).0, follows 75 (key (shared a b)) _ e p is refl)

  pub at_pair : bytes ≡ 80 ∷ body → (p : Begins bytes rest) → (l : Msg) × (r : Msg) × (p.message ≡ pair l r) × (Fits l × Fits r) × (body ≡ wire l ++ (wire r ++ rest))
  at_pair e p =
      let (l, r, is) = front-tree 80 e p in
      (l, r, is, subst Fits is p.fits, follows 80 (pair l r) _ e p is refl ∙ append_assoc (wire l) (wire r) rest)

  pub at-seal : bytes ≡ 69 ∷ body → (p : Begins bytes rest) → (a : ℕ) × (b : ℕ) × (m : Msg) × (p.message ≡ seal (shared a b) m) × (((a ≤ b) × (b < 256)) × Fits m) × (body ≡ 75 ∷ a ∷ b ∷ wire m ++ rest)
  at-seal e p =
      let (a, b, m, is) = front-tree 69 e p in
      (a, b, m, is, subst Fits is p.fits, follows 69 (seal (shared a b) m) _ e p is refl)

  -- the first half of a pair leaves the second
  pub halves : bytes ≡ 80 ∷ body → Begins bytes rest → (second : List ℕ) × Begins body second × Begins second rest
  halves e p =
      let (l, r, is, fits, f) = at_pair e p in
      (wire r ++ rest, record { message = l; fits = fits.0; splits = sym f }, record { message = r; fits = fits.1; splits = refl })

pub one-rest : (bytes r s : List ℕ) → Begins bytes r → Begins bytes s → r ≡ s
one-rest bytes r s p q = (unique p.message q.message r s (p.splits ∙ sym q.splits)).1

pub at_other : (bytes rest : List ℕ) → get_or bytes 0 0 ≢ 65 → get_or bytes 0 0 ≢ 78 → get_or bytes 0 0 ≢ 84 → get_or bytes 0 0 ≢ 75 → get_or bytes 0 0 ≢ 80 → get_or bytes 0 0 ≢ 69 → Begins bytes rest → ⊥
at_other bytes rest a n t k p s b = no-letter b.message (ap (λ l. get_or l 0 0) (sym b.splits ∙ ap (λ w. w ++ rest) (wire-is b.message)))
  where
    no-letter : (m : Msg) → get_or bytes 0 0 ≡ tag m → ⊥
    no-letter (agent v) e = a e
    no-letter (nonce v) e = n e
    no-letter (text v) e = t e
    no-letter (key v) e = k e
    no-letter (pair x y) e = p e
    no-letter (seal x y) e = s e

pub nonempty : (m : Msg) → 0 < length (wire m)
nonempty m = omega (arith, ap length (wire-is m))

pub shorter : {bytes rest : List ℕ} → Begins bytes rest → length rest < length bytes
shorter {bytes} {rest} b =
    let long = ap length b.splits in
    let some = nonempty b.message in
    omega (arith, simp length-append at long)

pub at-empty : (bytes rest : List ℕ) → length bytes < 1 → Begins bytes rest → ⊥
at-empty bytes rest h b = omega (arith, shorter b)

-- ---- from what the parts leave to what the whole leaves

pub pair-leaves : (o : Option (Bor (List ℕ))) (bytes body second : List ℕ) → bytes ≡ 80 ∷ body → Begins body second → Leaves second o → Leaves bytes o
pair-leaves None bytes body second e p none =
    λ rest b.
    let (also, p2, q) = halves bytes body rest e b in
    none rest (subst (λ l. Begins l rest) (one-rest body also second p2 p) q)
pair-leaves (Some rest) bytes body second e p q = pair-front bytes body second rest.now e p q

pub seal-leaves : (o : Option (Bor (List ℕ))) (bytes body content : List ℕ) (a b : ℕ) → bytes ≡ 69 ∷ body → body ≡ 75 ∷ a ∷ b ∷ content → a ≤ b → Small bytes → Leaves content o → Leaves bytes o
seal-leaves None bytes body content a b e f order small none =
    λ rest p.
    let (x, y, m, is, fits, g) = at-seal bytes body rest e p in
    none rest (record { message = m; fits = fits.1; splits = tail-is (tail-is (tail-is (sym g ∙ f))) })
seal-leaves (Some rest) bytes body content a b e f order small p = seal-front bytes body content rest.now a b e f order small p
