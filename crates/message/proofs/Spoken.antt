-- The words of a message from those of its parts.
use Rattle.std.proofs.Common.{◌≡◌, ℕ, List, ◌++◌, get_or, Ok, codes, decimal, sym, ap, ◌∙◌, subst, append_assoc, Bor}
use Rattle.message.specs.declared.read.Parts.{Parts}
use Rattle.message.specs.declared.read.Parts.TheVariants.{Pair, Seal}
use Rattle.message.specs.Message.{Key, shared, Msg, pair, seal, key_bytes, Reads}
use Rattle.message.specs.Reading.{Splits}
use Rattle.message.specs.Words.{owners, words}
use Rattle.message.proofs.Apart.{Halves, Opens}
use Rattle.message.proofs.Shapes.{same-tree}

-- after is before with the words of the message behind it
abbrev pub Told : List ℕ → List ℕ → List ℕ → Type 0
Told bytes before after = (m : Msg) × Reads bytes m × (after ≡ before ++ words m)

-- the words before a seal's content, by the bytes of its key
pub seal_words : (bytes : List ℕ) (k : Key) → key_bytes k ≡ bytes → codes "seal " ++ (decimal (get_or bytes 1 0) ++ (codes " " ++ (decimal (get_or bytes 2 0) ++ codes " "))) ≡ codes "seal " ++ (owners k ++ codes " ")
seal_words bytes (shared a b) e =
    let first : get_or bytes 1 0 ≡ a = ap (λ l. get_or l 1 0) (sym e) in
    let second : get_or bytes 2 0 ≡ b = ap (λ l. get_or l 2 0) (sym e) in
    (λ i. codes "seal " ++ (decimal (first i) ++ (codes " " ++ (decimal (second i) ++ codes " "))))
    ∙ ap (λ l. codes "seal " ++ l) (sym (append_assoc (decimal a) (codes " " ++ decimal b) (codes " ")))

pub halved : (bytes : List ℕ) (p : Parts) (first second : Bor (List ℕ)) → Splits bytes (Ok p) → p ≡ Pair first second → Halves bytes first.now second.now
halved bytes p first second h e = subst (λ x. Splits bytes (Ok x)) e h

pub opened : (bytes : List ℕ) (p : Parts) (k content : Bor (List ℕ)) → Splits bytes (Ok p) → p ≡ Seal k content → Opens bytes k.now content.now
opened bytes p k content h e = subst (λ x. Splits bytes (Ok x)) e h

module _ (bytes first second : List ℕ) (h : Halves bytes first second) where
  pub pair-told : (t0 t1 t2 t3 t4 : List ℕ) → t1 ≡ t0 ++ codes "pair " → Told first t1 t2 → t3 ≡ t2 ++ codes " " → Told second t3 t4 → Told bytes t0 t4
  pair-told t0 t1 t2 t3 t4 e1 (l', wl, e2) e3 (r', wr, e4) =
      let (m, w, (l, r, is, f, g)) = h in
      let left : l' ≡ l = same-tree l' l (wl.form ∙ sym f) in
      let right : r' ≡ r = same-tree r' r (wr.form ∙ sym g) in
      let all : t4 ≡ (((t0 ++ codes "pair ") ++ words l) ++ codes " ") ++ words r = e4 ∙ (λ i. (e3 ∙ ap (λ x. x ++ codes " ") (e2 ∙ λ j. e1 j ++ words (left j))) i ++ words (right i)) in
      let grouped : (((t0 ++ codes "pair ") ++ words l) ++ codes " ") ++ words r ≡ t0 ++ words (pair l r) = simp append_assoc in
      (m, w, all ∙ grouped ∙ ap (λ x. t0 ++ words x) (sym is))

module _ (bytes k content : List ℕ) (h : Opens bytes k content) where
  pub seal-told : (t0 t1 t2 : List ℕ) → ((s : Key) → key_bytes s ≡ k → t1 ≡ t0 ++ (codes "seal " ++ (owners s ++ codes " "))) → Told content t1 t2 → Told bytes t0 t2
  seal-told t0 t1 t2 e1 (x', wx, e2) =
      let (m, w, (s, x, is, f, g)) = h in
      let same : x' ≡ x = same-tree x' x (wx.form ∙ sym g) in
      let all : t2 ≡ (t0 ++ (codes "seal " ++ (owners s ++ codes " "))) ++ words x = e2 ∙ (λ i. e1 s f i ++ words (same i)) in
      let grouped : (t0 ++ (codes "seal " ++ (owners s ++ codes " "))) ++ words x ≡ t0 ++ words (seal s x) = simp append_assoc in
      (m, w, all ∙ grouped ∙ ap (λ y. t0 ++ words y) (sym is))
