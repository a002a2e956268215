-- A message is known by its words, and by where they end.
use Rattle.std.proofs.Common.{◌≡◌, ℕ, ◌-◌, ◌^◌, ◌<◌, cond, eqb, List, [], ◌∷◌, ◌++◌, get_or, codes, decimal, sym, refl, ap, ◌∙◌, subst, append_assoc, arith}
use Rattle.std.specs.Str.Parse.{AllDigits}
use Rattle.std.specs.Char.{digit_value}
use Rattle.std.proofs.lemmas.Fmt.{decimal_is_IsNumeral, decimal_injective}
use Rattle.std.proofs.lemmas.List.{append_cancel_left}
use Rattle.std.proofs.lemmas.Str.Parse.{digit_from_value}
use Rattle.message.specs.Message.{Key, shared, Msg, agent, nonce, text, key, pair, seal, KeyFits, Fits}
use Rattle.message.specs.Laws.{TellingWords}
use Rattle.message.specs.Words.{owners, words}
use Rattle.message.proofs.Shapes.{tag, head-is, tail-is, Lettered, by-tag}

-- nothing follows, or a space does
abbrev Ends : List ℕ → Type 0
Ends r = get_or r 0 32 ≡ 32

-- x and y are told apart by what is written of them, which also tells where it ends
abbrev Tells : {X : Type 0} → (X → List ℕ) → X → X → Type 0
Tells w x y = (r s : List ℕ) → Ends r → Ends s → w x ++ r ≡ w y ++ s → (x ≡ y) × (r ≡ s)

-- a digit is no space
no-space : (c : ℕ) → digit_value c < 10 → c ≡ 32 → ⊥
no-space c d e = omega (arith, digit_from_value c d)

-- digits go on to the end or to the first space
same_digits : (xs ys : List ℕ) → AllDigits 10 xs → AllDigits 10 ys → Tells (λ l. l) xs ys
same_digits [] [] p q r s x y e = (refl, e)
same_digits [] (c ∷ ys) p q r s x y e = absurd (no-space c q.0 (sym (ap (λ l. get_or l 0 32) e) ∙ x))
same_digits (c ∷ xs) [] p q r s x y e = absurd (no-space c p.0 (ap (λ l. get_or l 0 32) e ∙ y))
same_digits (c ∷ xs) (d ∷ ys) p q r s x y e =
    let t = same_digits xs ys p.1 q.1 r s x y (tail-is e) in
    ((λ i. head-is e i ∷ t.0 i), t.1)

-- a number is known by its digits
same-decimal : (a b : ℕ) → a < 2 ^ 64 → b < 2 ^ 64 → Tells decimal a b
same-decimal a b f g r s x y e =
    let t = same_digits (decimal a) (decimal b) (decimal_is_IsNumeral a f).0.1 (decimal_is_IsNumeral b g).0.1 r s x y e in
    (decimal_injective a b f g t.0, t.1)

-- two things with a space between them
abbrev spaced : {X Y : Type 0} → (X → List ℕ) → (Y → List ℕ) → X × Y → List ℕ
spaced w v p = w p.0 ++ (codes " " ++ v p.1)

-- they are known by what is written of them, if each is
same-two : {X Y : Type 0} (w : X → List ℕ) (v : Y → List ℕ) {a c : X} {b d : Y} → Tells w a c → Tells v b d → Tells (spaced w v) (a, b) (c, d)
same-two w v {b} {d} first second r s x y e =
    let t = first (codes " " ++ v b ++ r) (codes " " ++ v d ++ s) refl refl (simp append_assoc at e) in
    let u = second r s x y (tail-is t.1) in
    ((λ i. (t.0 i, u.0 i)), u.1)

-- a key is known by its two agents
same-owners : (k j : Key) → KeyFits k → KeyFits j → Tells owners k j
same-owners (shared a b) (shared c d) f g r s x y e =
    let t = same-two decimal decimal (same-decimal a c (omega arith) (omega arith)) (same-decimal b d (omega arith) (omega arith)) r s x y e in
    (ap (λ p. shared p.0 p.1) t.0, t.1)

-- Of two messages made in one way, behind one front: they are known by their words, if the parts are by what is written of them.
same-made : {X : Type 0} (w : X → List ℕ) (make : X → Msg) (front : List ℕ) → ((p : X) → words (make p) ≡ front ++ w p) → {a c : X} {k : Msg} → k ≡ make c → Tells w a c → Tells words (make a) k
same-made w make front written is parts r s x y e =
    let t = parts r s x y (append_cancel_left front _ _ (simp (written, append_assoc) at (e ∙ ap (λ m. words m ++ s) is))) in
    (ap make t.0 ∙ sym is, t.1)

-- the first byte of a message from the first letter of its words: E from s, and else the capital
abbrev tag_of : List ℕ → ℕ
tag_of l = cond (eqb (get_or l 0 0) 115) 69 (get_or l 0 0 - 32)

-- it is that byte
tag_is : (m : Msg) (r : List ℕ) → tag_of (words m ++ r) ≡ tag m
tag_is (agent n) r = refl
tag_is (nonce n) r = refl
tag_is (text n) r = refl
tag_is (key k) r = refl
tag_is (pair a b) r = refl
tag_is (seal k m) r = refl

-- words that begin alike are of messages of one kind
same_kind : (m k : Msg) (r s : List ℕ) → words m ++ r ≡ words k ++ s → Lettered (tag m) k
same_kind m k r s e = subst (λ t. Lettered t k) (sym (tag_is k s) ∙ sym (ap tag_of e) ∙ tag_is m r) (by-tag k)

-- Two messages whose words begin the same text are one, and leave the same rest.
said : (m k : Msg) → Fits m → Fits k → Tells words m k
said (agent n) k f g r s x y e =
    let (v, is) = same_kind (agent n) k r s e in
    let h : Fits (agent v) = subst Fits is g in
    same-made decimal agent (codes "agent ") (λ p. refl) is (same-decimal n v (omega arith) (omega arith)) r s x y e
said (nonce n) k f g r s x y e =
    let (v, is) = same_kind (nonce n) k r s e in
    let h : Fits (nonce v) = subst Fits is g in
    same-made decimal nonce (codes "nonce ") (λ p. refl) is (same-decimal n v (omega arith) (omega arith)) r s x y e
said (text n) k f g r s x y e =
    let (v, is) = same_kind (text n) k r s e in
    let h : Fits (text v) = subst Fits is g in
    same-made decimal text (codes "text ") (λ p. refl) is (same-decimal n v (omega arith) (omega arith)) r s x y e
said (key j) k f g r s x y e =
    let (c, d, is) = same_kind (key j) k r s e in
    same-made owners key (codes "key ") (λ p. refl) is (same-owners j (shared c d) f (subst Fits is g)) r s x y e
said (pair a b) k f g r s x y e =
    let (c, d, is) = same_kind (pair a b) k r s e in
    let h : Fits (pair c d) = subst Fits is g in
    same-made (spaced words words) (λ p. pair p.0 p.1) (codes "pair ") (λ p. refl) is (same-two words words (said a c f.0 h.0) (said b d f.1 h.1)) r s x y e
said (seal j m) k f g r s x y e =
    let (c, d, n, is) = same_kind (seal j m) k r s e in
    let h : Fits (seal (shared c d) n) = subst Fits is g in
    same-made (spaced owners words) (λ p. seal p.0 p.1) (codes "seal ") (λ p. refl) is (same-two owners words (same-owners j (shared c d) f.0 h.0) (said m n f.1 h.1)) r s x y e

-- a message is known by its words
pub same_words : TellingWords
same_words m k f g e = (said m k f g [] [] refl refl (ap (λ l. l ++ []) e)).0
