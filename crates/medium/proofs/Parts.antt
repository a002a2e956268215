-- What is made by pairing and sealing, from the parts of the bytes.
use Rattle.std.proofs.Common.{◌≡◌, ℕ, ◌⊎◌, Bool, true, false, Decides, List, length, Ok, inl, inr, sym, refl, ap, subst, ◌∙◌, arith, length-append}
use Rattle.std.specs.Borrow.{Bor}
use Rattle.message.specs.Generates.{Builds, member, pairing, sealing}
use Rattle.message.specs.Message as tree
use Rattle.message.specs.Message.{Msg, Reads, agent, key, key_bytes, nonce, pair, seal, shared, text, wire}
use Rattle.message.specs.Reading.{Splits}
use Rattle.message.specs.declared.read.Parts.{Parts}
use Rattle.message.specs.declared.read.Parts.TheVariants.{Agent, Nonce, Text, Key, Pair, Seal}
use Rattle.message.proofs.Closure.{made}
use Rattle.message.proofs.Shapes.{same-tree}
use Rattle.model.specs.Sheet.{Sheet}
use Rattle.medium.specs.Making.{Held, Makes}
use Rattle.medium.specs.Spreading.{Knows}

pub denied : {r : Bool} {P : Type 0} → Decides r P → r ≡ false → P → ⊥
denied {r} d e h = let z : true ≡ false = sym (d.1 h) ∙ e in cc

-- the halves of the message that the bytes are
record Halves (bytes first second : List ℕ) (m : Msg) : Type 0 where
  l : Msg
  r : Msg
  is : m ≡ pair l r
  l-reads : Reads first l
  r-reads : Reads second r

halves : (bytes : List ℕ) (m : Msg) (p : Parts) (f s : Bor (List ℕ)) → Reads bytes m → Splits bytes (Ok p) → p ≡ Pair f s → Halves bytes f.now s.now m
halves bytes m p f s r h e =
    let (n, q, (a, b, is, front, back)) = subst (λ x. Splits bytes (Ok x)) e h in
    let one : m ≡ pair a b = same-tree m n (r.form ∙ sym q.form) ∙ is in
    let whole : Reads bytes (pair a b) = subst (Reads bytes) one r in
    let long = ap length whole.form in
    record {
      l = a;
      r = b;
      is = one;
      l-reads = record { fits = whole.fits.0; form = front; short = omega (arith, whole.short, length-append (wire a) (wire b), ap length front) };
      r-reads = record { fits = whole.fits.1; form = back; short = omega (arith, whole.short, length-append (wire a) (wire b), ap length back) };
    }

record Opened (bytes k content : List ℕ) (m : Msg) : Type 0 where
  x : tree.Key
  c : Msg
  is : m ≡ seal x c
  key-is : key_bytes x ≡ k
  c-reads : Reads content c

opened : (bytes : List ℕ) (m : Msg) (p : Parts) (k t : Bor (List ℕ)) → Reads bytes m → Splits bytes (Ok p) → p ≡ Seal k t → Opened bytes k.now t.now m
opened bytes m p k t r h e =
    let (n, q, (a, b, is, front, back)) = subst (λ x. Splits bytes (Ok x)) e h in
    let one : m ≡ seal a b = same-tree m n (r.form ∙ sym q.form) ∙ is in
    let whole : Reads bytes (seal a b) = subst (Reads bytes) one r in
    record {
      x = a;
      c = b;
      is = one;
      key-is = front;
      c-reads = record { fits = whole.fits.1; form = back; short = omega (arith, whole.short, ap length whole.form, length-append (key_bytes a) (wire b), ap length back) };
    }

module _ (sheet : Sheet) (bytes marks other other_marks : List ℕ) where
  abbrev S : Msg → Type 0
  S = Held sheet bytes marks other other_marks

  pub known_makes : (wanted : List ℕ) → Knows sheet bytes marks other other_marks wanted → Makes sheet bytes marks other other_marks wanted true
  known_makes wanted h m r = (λ _. member (subst (Knows sheet bytes marks other other_marks) (sym r.form) h), λ _. refl)

  unknown : (wanted : List ℕ) (m : Msg) → Reads wanted m → (Knows sheet bytes marks other other_marks wanted → ⊥) → S m → ⊥
  unknown wanted m r h s = h (subst (Knows sheet bytes marks other other_marks) r.form s)

  module _ (wanted : List ℕ) (p : Parts) (split : Splits wanted (Ok p)) (not-known : Knows sheet bytes marks other other_marks wanted → ⊥) where
    pub pair_makes : (f s : Bor (List ℕ)) → p ≡ Pair f s → (a b r : Bool) → Makes sheet bytes marks other other_marks f.now a → (a ≡ true → (r ≡ b) × Makes sheet bytes marks other other_marks s.now b) → (a ≡ false → r ≡ false) → Makes sheet bytes marks other other_marks wanted r
    pair_makes f s e a b r one two none m reads =
        let h = halves wanted m p f s reads split e in
        subst (λ n. Decides r (Builds S n)) (sym h.is) (by_answer h a refl)
      where
        by_answer : (h : Halves wanted f.now s.now m) (v : Bool) → a ≡ v → Decides r (Builds S (pair h.l h.r))
        by_answer h true is =
            let (same, rest) = two is in (
              λ holds. pairing ((one h.l h.l-reads).0 is) ((rest h.r h.r-reads).0 (sym same ∙ holds)),
              λ built. elim (made S built) [ inl held ↦ absurd (unknown wanted (pair h.l h.r) (subst (Reads wanted) h.is reads) not-known held) | inr parts ↦ same ∙ (rest h.r h.r-reads).1 parts.1 ],
            )
        by_answer h false is = (
          λ holds. let z : false ≡ true = sym (none is) ∙ holds in cc,
          λ built. elim (made S built) [
            | inl held ↦ absurd (unknown wanted (pair h.l h.r) (subst (Reads wanted) h.is reads) not-known held)
            | inr parts ↦ let z : false ≡ true = sym is ∙ (one h.l h.l-reads).1 parts.0 in cc
          ],
        )

    pub seal_makes : (k t : Bor (List ℕ)) → p ≡ Seal k t → (a b r : Bool) → Decides a (Knows sheet bytes marks other other_marks k.now) → (a ≡ true → (r ≡ b) × Makes sheet bytes marks other other_marks t.now b) → (a ≡ false → r ≡ false) → Makes sheet bytes marks other other_marks wanted r
    seal_makes k t e a b r one two none m reads =
        let h = opened wanted m p k t reads split e in
        subst (λ n. Decides r (Builds S n)) (sym h.is) (by_answer h a refl)
      where
        key_held : (h : Opened wanted k.now t.now m) → Builds S (key h.x) → Knows sheet bytes marks other other_marks k.now
        key_held h built = subst (Knows sheet bytes marks other other_marks) h.key-is (made S built)

        by_answer : (h : Opened wanted k.now t.now m) (v : Bool) → a ≡ v → Decides r (Builds S (seal h.x h.c))
        by_answer h true is =
            let (same, rest) = two is in (
              λ holds. sealing (member (subst (Knows sheet bytes marks other other_marks) (sym h.key-is) (one.0 is))) ((rest h.c h.c-reads).0 (sym same ∙ holds)),
              λ built. elim (made S built) [ inl held ↦ absurd (unknown wanted (seal h.x h.c) (subst (Reads wanted) h.is reads) not-known held) | inr parts ↦ same ∙ (rest h.c h.c-reads).1 parts.1 ],
            )
        by_answer h false is = (
          λ holds. let z : false ≡ true = sym (none is) ∙ holds in cc,
          λ built. elim (made S built) [
            | inl held ↦ absurd (unknown wanted (seal h.x h.c) (subst (Reads wanted) h.is reads) not-known held)
            | inr parts ↦ let z : false ≡ true = sym is ∙ one.1 (subst (Knows sheet bytes marks other other_marks) h.key-is parts.0) in cc
          ],
        )

    -- an atom is made only if it is known
    atom_makes : (n : Msg) → Reads wanted n → (Builds S n → S n) → Makes sheet bytes marks other other_marks wanted false
    atom_makes n q only m reads =
        let one : m ≡ n = same-tree m n (reads.form ∙ sym q.form) in
        (λ holds. cc, λ built. absurd (unknown wanted n q not-known (only (subst (Builds S) one built))))

    pub leaf_makes : ((n : ℕ) × (p ≡ Agent n)) ⊎ (((n : ℕ) × (p ≡ Nonce n)) ⊎ (((n : ℕ) × (p ≡ Text n)) ⊎ ((a : ℕ) × (b : ℕ) × (p ≡ Key a b)))) → Makes sheet bytes marks other other_marks wanted false
    leaf_makes (inl (n, e)) = let (m, q, is) = subst (λ x. Splits wanted (Ok x)) e split in atom_makes (agent n) (subst (Reads wanted) is q) (λ b. made S b)
    leaf_makes (inr (inl (n, e))) = let (m, q, is) = subst (λ x. Splits wanted (Ok x)) e split in atom_makes (nonce n) (subst (Reads wanted) is q) (λ b. made S b)
    leaf_makes (inr (inr (inl (n, e)))) = let (m, q, is) = subst (λ x. Splits wanted (Ok x)) e split in atom_makes (text n) (subst (Reads wanted) is q) (λ b. made S b)
    leaf_makes (inr (inr (inr (a, b, e)))) = let (m, q, is) = subst (λ x. Splits wanted (Ok x)) e split in atom_makes (key (shared a b)) (subst (Reads wanted) is q) (λ b. made S b)
