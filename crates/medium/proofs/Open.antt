-- The messages that stand open in a row, at which byte, and what is there.
use Rattle.std.proofs.Common.{◌≡◌, ℕ, zero, suc, ◌+◌, ◌-◌, Bool, true, false, cond, Contains, All, List, [], ◌∷◌, ◌++◌, length, replicate, get_or, drop, inl, inr, sym, refl, ap, subst, ◌∙◌, arith, append_assoc, length-append}
use Rattle.std.proofs.lemmas.List.{drop-drop, drop_at, get_or-append_right, get_or-drop, length-replicate}
use Rattle.std.proofs.lemmas.List.Elements.{All-contains, Contains-append_right}
use Rattle.std.proofs.Math.Seq.{drop-append-add}
use Rattle.std.proofs.Math.ListN.{get_or-append}
use Rattle.std.proofs.lemmas.Bool.{cases_lt}
use Rattle.message.specs.Message.{Key, Msg, agent, key, nonce, pair, seal, shared, text, wire}
use Rattle.message.proofs.Shapes.{unique}
use Rattle.medium.specs.Marks.{marks_in, row_marks}
use Rattle.medium.specs.Spreading.{Stands}
use Rattle.medium.specs.Store.{IsWhole, laid}

-- m begins at byte k of the row: it is one of the messages, a half of an open pair, or the content of an open seal under one of the keys.
pub data Open (ms : List Msg) (keys : Key → Bool) : ℕ → Msg → Type 0 where
  begins : (before : List Msg) (m : Msg) (after : List Msg) → ms ≡ before ++ m ∷ after → Open ms keys (length (laid before) + 1) m
  first : {k : ℕ} {l r : Msg} → Open ms keys k (pair l r) → Open ms keys (k + 1) l
  second : {k : ℕ} {l r : Msg} → Open ms keys k (pair l r) → Open ms keys (k + 1 + length (wire l)) r
  content : {k : ℕ} {x : Key} {m : Msg} → Open ms keys k (seal x m) → keys x ≡ true → Open ms keys (k + 4) m

pub one_stands : (bytes : List ℕ) (k : ℕ) (m n : Msg) → Stands bytes k m → Stands bytes k n → m ≡ n
one_stands bytes k m n s t = (unique m n s.rest t.rest (sym s.splits ∙ t.splits)).0

drop-more : (xs : List ℕ) (k j : ℕ) (front rest : List ℕ) → length front ≡ j → drop k xs ≡ front ++ rest → drop (k + j) xs ≡ rest
drop-more xs k j front rest long e = sym (drop-drop j k xs) ∙ ap (drop j) e ∙ drop_at front rest j long

pub laid-append : (ms ns : List Msg) → laid (ms ++ ns) ≡ laid ms ++ laid ns
laid-append [] ns = refl
laid-append (m ∷ ms) ns = ap (λ l. length (wire m) ∷ wire m ++ l) (laid-append ms ns) ∙ ap (λ l. length (wire m) ∷ l) (sym (append_assoc (wire m) (laid ms) (laid ns)))

pub whole_first : (l r : Msg) → IsWhole (pair l r) → IsWhole l
whole_first l r w = record { fits = w.fits.0; form = refl; short = omega (arith, w.short, length-append (wire l) (wire r)) }

pub whole_second : (l r : Msg) → IsWhole (pair l r) → IsWhole r
whole_second l r w = record { fits = w.fits.1; form = refl; short = omega (arith, w.short, length-append (wire l) (wire r)) }

pub whole_content : (x : Key) (m : Msg) → IsWhole (seal x m) → IsWhole m
whole_content (shared a b) m w = record { fits = w.fits.1; form = refl; short = omega (arith, w.short) }

-- ---- what stands there

pub stands_first : (bytes : List ℕ) (k : ℕ) (l r : Msg) → Stands bytes k (pair l r) → Stands bytes (k + 1) l
stands_first bytes k l r s = record {
  whole = whole_first l r s.whole;
  rest = wire r ++ s.rest;
  splits = drop-more bytes k 1 (80 ∷ []) ((wire l ++ wire r) ++ s.rest) refl s.splits ∙ append_assoc (wire l) (wire r) s.rest;
}

pub stands_second : (bytes : List ℕ) (k : ℕ) (l r : Msg) → Stands bytes k (pair l r) → Stands bytes (k + 1 + length (wire l)) r
unfolding stands_first
stands_second bytes k l r s = record {
  whole = whole_second l r s.whole;
  rest = s.rest;
  splits = drop-more bytes (k + 1) (length (wire l)) (wire l) (wire r ++ s.rest) refl (stands_first bytes k l r s).splits;
}

pub stands_content : (bytes : List ℕ) (k : ℕ) (x : Key) (m : Msg) → Stands bytes k (seal x m) → Stands bytes (k + 4) m
stands_content bytes k (shared a b) m s = record {
  whole = whole_content (shared a b) m s.whole;
  rest = s.rest;
  splits = drop-more bytes k 4 (69 ∷ 75 ∷ a ∷ b ∷ []) (wire m ++ s.rest) refl s.splits;
}

pub open_stands : {ms : List Msg} {keys : Key → Bool} {k : ℕ} {m : Msg} → All IsWhole ms → Open ms keys k m → Stands (laid ms) k m
open_stands {ms} w (begins before m after e) = record {
  whole = All-contains IsWhole ms m w (subst (λ l. Contains l m) (sym e) (Contains-append_right before (m ∷ after) m (0, omega arith, refl)));
  rest = laid after;
  splits = ap (λ l. drop (length (laid before) + 1) (laid l)) e ∙ ap (drop (length (laid before) + 1)) (laid-append before (m ∷ after)) ∙ drop-append-add (laid before) (length (wire m) ∷ wire m ++ laid after) 1;
}
open_stands {ms} w (first {k = k} {l = l} {r = r} o) = stands_first (laid ms) k l r (open_stands w o)
open_stands {ms} w (second {k = k} {l = l} {r = r} o) = stands_second (laid ms) k l r (open_stands w o)
open_stands {ms} w (content {k = k} {x = x} {m = m} o has) = stands_content (laid ms) k x m (open_stands w o)

-- ---- its marks

pub length-marks : (keys : Key → Bool) (m : Msg) → length (marks_in keys m) ≡ length (wire m)
length-marks keys (agent n) = refl
length-marks keys (nonce n) = refl
length-marks keys (text n) = refl
length-marks keys (key (shared a b)) = refl
length-marks keys (pair l r) = omega (arith, length-append (marks_in keys l) (marks_in keys r), length-append (wire l) (wire r), length-marks keys l, length-marks keys r)
length-marks keys (seal (shared a b) m) = ap (λ n. suc (suc (suc (suc n)))) (either (keys (shared a b)) (length-marks keys m))
  where
    either : (b : Bool) → length (marks_in keys m) ≡ length (wire m) → length (cond b (marks_in keys m) (replicate (length (wire m)) 0)) ≡ length (wire m)
    either true h = h
    either false h = length-replicate (length (wire m)) 0

pub length-row : (keys : Key → Bool) (ms : List Msg) → length (row_marks keys ms) ≡ length (laid ms)
length-row keys [] = refl
length-row keys (m ∷ ms) = omega (arith, length-append (marks_in keys m) (row_marks keys ms), length-append (wire m) (laid ms), length-marks keys m, length-row keys ms)

pub row-append : (keys : Key → Bool) (ms ns : List Msg) → row_marks keys (ms ++ ns) ≡ row_marks keys ms ++ row_marks keys ns
row-append keys [] ns = refl
row-append keys (m ∷ ms) ns = ap (λ l. 0 ∷ marks_in keys m ++ l) (row-append keys ms ns) ∙ ap (λ l. 0 ∷ l) (sym (append_assoc (marks_in keys m) (row_marks keys ms) (row_marks keys ns)))

-- the marks of m begin at byte k
MarkedAt : (Key → Bool) → List Msg → ℕ → Msg → Type 0
MarkedAt keys ms k m = (rest : List ℕ) × (drop k (row_marks keys ms) ≡ marks_in keys m ++ rest)

open_at : {ms : List Msg} {keys : Key → Bool} {k : ℕ} {m : Msg} → Open ms keys k m → MarkedAt keys ms k m
unfolding MarkedAt
open_at {ms} {keys} (begins before m after e) = (
  row_marks keys after,
  ap (λ l. drop (length (laid before) + 1) (row_marks keys l)) e
      ∙ ap (drop (length (laid before) + 1)) (row-append keys before (m ∷ after))
      ∙ ap (λ n. drop (n + 1) (row_marks keys before ++ row_marks keys (m ∷ after))) (sym (length-row keys before))
      ∙ drop-append-add (row_marks keys before) (row_marks keys (m ∷ after)) 1,
)
open_at {ms} {keys} (first {k = k} {l = l} {r = r} o) =
    let (rest, e) = open_at o in
    (marks_in keys r ++ rest, drop-more (row_marks keys ms) k 1 (1 ∷ []) ((marks_in keys l ++ marks_in keys r) ++ rest) refl e ∙ append_assoc (marks_in keys l) (marks_in keys r) rest)
open_at {ms} {keys} (second {k = k} {l = l} {r = r} o) =
    let (rest, e) = open_at o in
    let f = drop-more (row_marks keys ms) k 1 (1 ∷ []) ((marks_in keys l ++ marks_in keys r) ++ rest) refl e ∙ append_assoc (marks_in keys l) (marks_in keys r) rest in
    (rest, drop-more (row_marks keys ms) (k + 1) (length (wire l)) (marks_in keys l) (marks_in keys r ++ rest) (length-marks keys l) f)
open_at {ms} {keys} (content {k = k} {x = x} {m = m} o has) =
    let (rest, e) = open_at o in
    let f = e ∙ ap (λ b. 1 ∷ 0 ∷ 0 ∷ 0 ∷ cond b (marks_in keys m) (replicate (length (wire m)) 0) ++ rest) has in
    (rest, drop-more (row_marks keys ms) k 4 (1 ∷ 0 ∷ 0 ∷ 0 ∷ []) (marks_in keys m ++ rest) refl f)

begins_marked : (keys : Key → Bool) (m : Msg) (rest : List ℕ) → get_or (marks_in keys m ++ rest) 0 0 ≡ 1
begins_marked keys (agent n) rest = refl
begins_marked keys (nonce n) rest = refl
begins_marked keys (text n) rest = refl
begins_marked keys (key k) rest = refl
begins_marked keys (pair l r) rest = refl
begins_marked keys (seal k m) rest = refl

-- what stands open has its mark
pub open_marked : {ms : List Msg} {keys : Key → Bool} {k : ℕ} {m : Msg} → Open ms keys k m → get_or (row_marks keys ms) k 0 ≡ 1
unfolding MarkedAt
open_marked {ms} {keys} {k} {m} o =
    let (rest, e) = open_at o in
    let whole : k ≡ k + 0 = omega arith in
    ap (λ n. get_or (row_marks keys ms) n 0) whole ∙ sym (get_or-drop k (row_marks keys ms) 0 0) ∙ ap (λ l. get_or l 0 0) e ∙ begins_marked keys m rest

-- ---- and what has a mark stands open

moved : {ms : List Msg} {keys : Key → Bool} {m : Msg} (j k : ℕ) → j ≡ k → Open ms keys j m → Open ms keys k m
moved {ms} {keys} {m} j k e o = subst (λ i. Open ms keys i m) e o

abbrev Some : List Msg → (Key → Bool) → ℕ → Type 0
Some ms keys k = (m : Msg) × Open ms keys k m

pub all_zeros : (n j : ℕ) → ◌≡◌ {A = ℕ} (get_or (replicate n 0) j 0) 0
all_zeros zero j = refl
all_zeros (suc n) zero = refl
all_zeros (suc n) (suc j) = all_zeros n j

here : {ms : List Msg} {keys : Key → Bool} {m : Msg} (p : ℕ) → Open ms keys p m → Some ms keys (p + 0)
here {m = m} p o = (m, moved p (p + 0) (omega arith) o)

within_tree : (ms : List Msg) (keys : Key → Bool) (m : Msg) (p j : ℕ) → Open ms keys p m → get_or (marks_in keys m) j 0 ≡ 1 → Some ms keys (p + j)
within_tree ms keys (agent n) p zero o e = here p o
within_tree ms keys (agent n) p (suc zero) o e = absurd (omega arith)
within_tree ms keys (agent n) p (suc (suc j)) o e = absurd (omega arith)
within_tree ms keys (nonce n) p zero o e = here p o
within_tree ms keys (nonce n) p (suc zero) o e = absurd (omega arith)
within_tree ms keys (nonce n) p (suc (suc zero)) o e = absurd (omega arith)
within_tree ms keys (nonce n) p (suc (suc (suc j))) o e = absurd (omega arith)
within_tree ms keys (text n) p zero o e = here p o
within_tree ms keys (text n) p (suc zero) o e = absurd (omega arith)
within_tree ms keys (text n) p (suc (suc zero)) o e = absurd (omega arith)
within_tree ms keys (text n) p (suc (suc (suc j))) o e = absurd (omega arith)
within_tree ms keys (key k) p zero o e = here p o
within_tree ms keys (key k) p (suc zero) o e = absurd (omega arith)
within_tree ms keys (key k) p (suc (suc zero)) o e = absurd (omega arith)
within_tree ms keys (key k) p (suc (suc (suc j))) o e = absurd (omega arith)
within_tree ms keys (pair l r) p zero o e = here p o
within_tree ms keys (pair l r) p (suc j) o e =
    elim (cases_lt j (length (marks_in keys l))) [
      | inl lt ↦
          let (m, q) = within_tree ms keys l (p + 1) j (first o) (sym (get_or-append (marks_in keys l) (marks_in keys r) 0 j lt) ∙ e) in
          (m, moved (p + 1 + j) (p + suc j) (omega arith) q)
      | inr ge ↦
          let (m, q) = within_tree ms keys r (p + 1 + length (wire l)) (j - length (marks_in keys l)) (second o) (sym (get_or-append_right (marks_in keys l) (marks_in keys r) (length (marks_in keys l)) j 0 refl ge) ∙ e) in
          (m, moved (p + 1 + length (wire l) + (j - length (marks_in keys l))) (p + suc j) (omega (arith, length-marks keys l)) q)
    ]
within_tree ms keys (seal x m) p zero o e = here p o
within_tree ms keys (seal x m) p (suc zero) o e = absurd (omega arith)
within_tree ms keys (seal x m) p (suc (suc zero)) o e = absurd (omega arith)
within_tree ms keys (seal x m) p (suc (suc (suc zero))) o e = absurd (omega arith)
within_tree ms keys (seal x m) p (suc (suc (suc (suc j)))) o e = either (keys x) refl (λ is f. within_tree ms keys m (p + 4) j (content o is) f) e
  where
    either : (b : Bool) → keys x ≡ b → (keys x ≡ true → get_or (marks_in keys m) j 0 ≡ 1 → Some ms keys (p + 4 + j)) → get_or (cond b (marks_in keys m) (replicate (length (wire m)) 0)) j 0 ≡ 1 → Some ms keys (p + suc (suc (suc (suc j))))
    either true is inside f =
        let (n, q) = inside is f in
        (n, moved (p + 4 + j) (p + suc (suc (suc (suc j)))) (omega arith) q)
    either false is inside f = absurd (omega (arith, all_zeros (length (wire m)) j))

within_row : (ms : List Msg) (keys : Key → Bool) (before after : List Msg) (j : ℕ) → ms ≡ before ++ after → get_or (row_marks keys after) j 0 ≡ 1 → Some ms keys (length (laid before) + j)
within_row ms keys before [] j e f = absurd (omega arith)
within_row ms keys before (m ∷ after) zero e f = absurd (omega arith)
within_row ms keys before (m ∷ after) (suc j) e f =
    elim (cases_lt j (length (marks_in keys m))) [
      | inl lt ↦
          let (n, q) = within_tree ms keys m (length (laid before) + 1) j (begins before m after e) (sym (get_or-append (marks_in keys m) (row_marks keys after) 0 j lt) ∙ f) in
          (n, moved (length (laid before) + 1 + j) (length (laid before) + suc j) (omega arith) q)
      | inr ge ↦
          let (n, q) = within_row ms keys (before ++ m ∷ []) after (j - length (marks_in keys m)) (e ∙ sym (append_assoc before (m ∷ []) after)) (sym (get_or-append_right (marks_in keys m) (row_marks keys after) (length (marks_in keys m)) j 0 refl ge) ∙ f) in
          let long : length (laid (before ++ m ∷ [])) ≡ length (laid before) + 1 + length (wire m) = ap length (laid-append before (m ∷ [])) ∙ omega (arith, length-append (laid before) (laid (m ∷ [])), length-append (wire m) (laid [])) in
          (n, moved (length (laid (before ++ m ∷ [])) + (j - length (marks_in keys m))) (length (laid before) + suc j) (omega (arith, length-marks keys m)) q)
    ]

pub marked_open : (ms : List Msg) (keys : Key → Bool) (k : ℕ) → get_or (row_marks keys ms) k 0 ≡ 1 → (m : Msg) × Open ms keys k m
marked_open ms keys k e =
    let (m, o) = within_row ms keys [] ms k refl e in
    (m, moved (length (laid []) + k) k (omega arith) o)
