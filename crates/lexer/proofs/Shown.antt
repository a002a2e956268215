-- What the pieces of a text say of its bytes.
use Rattle.std.proofs.Common.{◌≡◌, ℕ, zero, suc, ◌+◌, ◌-◌, ◌≤◌, Bool, true, false, cond, ◌&&◌, eqb, leb, List, [], ◌∷◌, length, get_or, take, Ok, Err, Result, refl, inl, inr, arith}
use Rattle.std.proofs.lemmas.Bool.{and_parts, eqb-true, leb-true}
use Rattle.std.specs.List.{onto_first}
use Rattle.lexer.specs.declared.Fault.{Fault}
use Rattle.lexer.specs.declared.Rule.TheVariants.{Size, Spacing}
use Rattle.lexer.specs.Laws.{AllShown, Printable, PrintableTexts, Shown}
use Rattle.lexer.specs.Text.{LineAt, are_words, before, glyph, glyphs, is_word, lines_at, placed, sized, split}

-- each piece is of shown bytes
abbrev EachShown : List (List ℕ) → Type 0
EachShown [] = Unit {0}
EachShown (w ∷ ws) = AllShown w × EachShown ws

-- a byte that is put onto the first piece is shown where the pieces then are, and they are without it
first_byte : (b : ℕ) (ws : List (List ℕ)) → EachShown (onto_first b ws) → Shown b × EachShown ws
first_byte b [] p = (p.0.0, tt)
first_byte b (w ∷ ws) p = (p.0.0, (p.0.1, p.1))

-- where the pieces and the separator are shown, so is the text that is cut into them
joined : (s : ℕ) → Shown s → (xs : List ℕ) → EachShown (split s xs) → AllShown xs
joined s h [] p = tt
joined s h (b ∷ bs) p = let r = by (eqb b s) refl p in (r.0, joined s h bs r.1)
  where
    by : (t : Bool) → eqb b s ≡ t → EachShown (cond t ([] ∷ split s bs) (onto_first b (split s bs))) → Shown b × EachShown (split s bs)
    by true e q = (rw (eqb-true b s e) h, q.1)
    by false e q = first_byte b (split s bs) q

-- glyphs are shown
glyphs-shown : (w : List ℕ) → glyphs w ≡ true → AllShown w
glyphs-shown [] e = tt
glyphs-shown (b ∷ bs) e =
    let g = and_parts (glyph b) (glyphs bs) e in
    let r = and_parts (leb 33 b) (leb b 126) g.0 in
    let low = leb-true 33 b r.0 in
    (inr (omega arith, leb-true b 126 r.1), glyphs-shown bs g.1)

-- words are shown
words-shown : (ws : List (List ℕ)) → are_words ws ≡ true → EachShown ws
words-shown [] e = tt
words-shown (w ∷ ws) e =
    let g = and_parts (is_word w) (are_words ws) e in
    (glyphs-shown w (and_parts (leb 1 (length w)) (glyphs w) g.0).1, words-shown ws g.1)

-- where a line stands before others, those are lines too
others : (l : LineAt) (r : Result (List LineAt) Fault) (ls : List LineAt) → before l r ≡ Ok ls → (ms : List LineAt) × (r ≡ Ok ms)
others l (Ok ms) ls e = (ms, refl)
others l (Err f) ls e = absurd cc

-- pieces that are lines are shown
lines-shown : (at : ℕ) (ps : List (List ℕ)) (ls : List LineAt) → lines_at at ps ≡ Ok ls → EachShown ps
lines-shown at [] ls e = tt
lines-shown at (p ∷ ps) ls e =
    let r = by (are_words (split 32 p)) refl e in
    (joined 32 (inr (omega arith, omega arith)) p (words-shown (split 32 p) r.0), lines-shown (at + length p + 1) ps r.1.0 r.1.1)
  where
    by : (t : Bool) → are_words (split 32 p) ≡ t → cond t (before (record { place = at; text = p; words = placed at (split 32 p) }) (lines_at (at + length p + 1) ps)) (Err (record { rule = Spacing; place = at })) ≡ Ok ls → (are_words (split 32 p) ≡ true) × ((ms : List LineAt) × (lines_at (at + length p + 1) ps ≡ Ok ms))
    by true w q = (w, others _ (lines_at (at + length p + 1) ps) ls q)
    by false w q = absurd cc

-- a text is shown where all but its last byte are, and that byte is
whole : (n : ℕ) (xs : List ℕ) → length xs ≤ suc n → AllShown (take n xs) → Shown (get_or xs n 0) → AllShown xs
whole n [] l a e = tt
whole zero (x ∷ []) l a e = (e, tt)
whole zero (x ∷ (y ∷ xs)) l a e = absurd (omega arith)
whole (suc n) (x ∷ xs) l a e = (a.0, whole n xs (omega arith) a.1 e)

-- a text that has lines is printable
pub printable : PrintableTexts
printable text ls e = by (sized text) refl e
  where
    by : (t : Bool) → sized text ≡ t → cond t (lines_at 0 (split 10 (take (length text - 1) text))) (Err (record { rule = Size; place = 0 })) ≡ Ok ls → Printable text
    by true s q =
        let l = and_parts (leb 1 (length text) && leb (length text) 8192) (eqb (get_or text (length text - 1) 0) 10) s in
        let m = and_parts (leb 1 (length text)) (leb (length text) 8192) l.0 in
        let end = eqb-true (get_or text (length text - 1) 0) 10 l.1 in
        record {
          some = leb-true 1 (length text) m.0;
          few = leb-true (length text) 8192 m.1;
          ended = end;
          shown = whole (length text - 1) text (omega arith) (joined 10 (inl refl) _ (lines-shown 0 _ ls q)) (inl end);
        }
    by false s q = absurd cc
