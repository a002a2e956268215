-- A message is known by its bytes, and by where they end.
use Rattle.std.proofs.Common.{◌≡◌, ℕ, ◌/◌, ◌%◌, eqb, List, [], ◌∷◌, ◌++◌, MatchBool, sym, refl, ap, ◌∙◌, subst, append_assoc, arith}
use Rattle.message.specs.Message.{shared, Msg, agent, nonce, text, key, pair, seal, two_bytes, key_bytes, wire}

-- the first byte, and the others
abbrev pub tag : Msg → ℕ
tag (agent n) = 65
tag (nonce n) = 78
tag (text n) = 84
tag (key k) = 75
tag (pair l r) = 80
tag (seal k m) = 69

abbrev pub body : Msg → List ℕ
body (agent n) = n ∷ []
body (nonce n) = two_bytes n
body (text n) = two_bytes n
body (key (shared a b)) = a ∷ b ∷ []
body (pair l r) = wire l ++ wire r
body (seal k m) = key_bytes k ++ wire m

pub wire-is : (m : Msg) → wire m ≡ tag m ∷ body m
wire-is (agent n) = refl
wire-is (nonce n) = refl
wire-is (text n) = refl
wire-is (key (shared a b)) = refl
wire-is (pair l r) = refl
wire-is (seal k m) = refl

pub head-is : {x y : ℕ} {xs ys : List ℕ} → x ∷ xs ≡ y ∷ ys → x ≡ y
head-is e = cc

pub tail-is : {x y : ℕ} {xs ys : List ℕ} → x ∷ xs ≡ y ∷ ys → xs ≡ ys
tail-is e = cc

-- what a message is, by its first byte
abbrev pub Lettered : ℕ → Msg → Type 0
Lettered t m =
    MatchBool (eqb t 65) ((n : ℕ) × (m ≡ agent n))
    (MatchBool (eqb t 78) ((n : ℕ) × (m ≡ nonce n))
    (MatchBool (eqb t 84) ((n : ℕ) × (m ≡ text n))
    (MatchBool (eqb t 75) ((a : ℕ) × (b : ℕ) × (m ≡ key (shared a b)))
    (MatchBool (eqb t 80) ((l : Msg) × (r : Msg) × (m ≡ pair l r))
    (MatchBool (eqb t 69) ((a : ℕ) × (b : ℕ) × (c : Msg) × (m ≡ seal (shared a b) c)) ⊥)))))

pub by-tag : (m : Msg) → Lettered (tag m) m
by-tag (agent n) = (n, refl)
by-tag (nonce n) = (n, refl)
by-tag (text n) = (n, refl)
by-tag (key (shared a b)) = (a, b, refl)
by-tag (pair l r) = (l, r, refl)
by-tag (seal (shared a b) m) = (a, b, m, refl)

pub lettered : (m : Msg) (rest bytes : List ℕ) (t : ℕ) → wire m ++ rest ≡ t ∷ bytes → Lettered t m
lettered m rest bytes t e = subst (λ x. Lettered x m) (head-is (sym (ap (λ w. w ++ rest) (wire-is m)) ∙ e)) (by-tag m)

-- a number is known by its two bytes
pub same_number : (n k : ℕ) (r s : List ℕ) → two_bytes n ++ r ≡ two_bytes k ++ s → (n ≡ k) × (r ≡ s)
same_number n k r s e =
    let high : n / 256 ≡ k / 256 = cc in
    let low : n % 256 ≡ k % 256 = cc in
    (omega arith, cc)

-- Two messages that begin the same bytes are one, and leave the same rest.
pub unique : (m k : Msg) (r s : List ℕ) → wire m ++ r ≡ wire k ++ s → (m ≡ k) × (r ≡ s)
unique (agent n) k r s e =
    let (v, is) = lettered k s _ 65 (sym e) in
    let e2 : 65 ∷ n ∷ r ≡ 65 ∷ v ∷ s = e ∙ ap (λ x. wire x ++ s) is in
    let p : n ≡ v = cc in
    (ap agent p ∙ sym is, cc)
unique (nonce n) k r s e =
    let (v, is) = lettered k s _ 78 (sym e) in
    let p = same_number n v r s (tail-is (e ∙ ap (λ x. wire x ++ s) is)) in
    (ap nonce p.0 ∙ sym is, p.1)
unique (text n) k r s e =
    let (v, is) = lettered k s _ 84 (sym e) in
    let p = same_number n v r s (tail-is (e ∙ ap (λ x. wire x ++ s) is)) in
    (ap text p.0 ∙ sym is, p.1)
unique (key (shared a b)) k r s e =
    let (c, d, is) = lettered k s _ 75 (sym e) in
    let e2 : 75 ∷ a ∷ b ∷ r ≡ 75 ∷ c ∷ d ∷ s = e ∙ ap (λ x. wire x ++ s) is in
    let same : key (shared a b) ≡ key (shared c d) = cc in
    (same ∙ sym is, cc)
unique (pair a b) k r s e =
    let (c, d, is) = lettered k s _ 80 (sym e) in
    let e2 : 80 ∷ (wire a ++ wire b) ++ r ≡ 80 ∷ (wire c ++ wire d) ++ s = e ∙ ap (λ x. wire x ++ s) is in
    let e3 : wire a ++ (wire b ++ r) ≡ wire c ++ (wire d ++ s) = sym (append_assoc (wire a) (wire b) r) ∙ tail-is e2 ∙ append_assoc (wire c) (wire d) s in
    let p = unique a c _ _ e3 in
    let q = unique b d r s p.1 in
    ((λ i. pair (p.0 i) (q.0 i)) ∙ sym is, q.1)
unique (seal (shared a b) m) k r s e =
    let (c, d, n, is) = lettered k s _ 69 (sym e) in
    let e2 : 69 ∷ 75 ∷ a ∷ b ∷ wire m ++ r ≡ 69 ∷ 75 ∷ c ∷ d ∷ wire n ++ s = e ∙ ap (λ x. wire x ++ s) is in
    let p = unique m n r s (tail-is (tail-is (tail-is (tail-is e2)))) in
    let same : shared a b ≡ shared c d = cc in
    ((λ i. seal (same i) (p.0 i)) ∙ sym is, p.1)

-- a message is known by its bytes
pub same-tree : (m k : Msg) → wire m ≡ wire k → m ≡ k
same-tree m k e = (unique m k [] [] (ap (λ l. l ++ []) e)).0
