-- One mark more, and what it makes known.
use Rattle.std.proofs.Common.{◌≡◌, ℕ, zero, suc, ◌+◌, ◌-◌, ◌<◌, ◌≤◌, ◌⊎◌, ◌≢◌, min, Bool, true, List, [], ◌∷◌, ◌++◌, length, get_or, take, drop, set, inl, inr, sym, ap, subst, ◌∙◌, arith, length-drop, get_or-set_other, get_or-set_same}
use Rattle.std.proofs.lemmas.List.{take_at}
use Rattle.std.proofs.lemmas.Bool.{ne_eqb}
use Rattle.message.specs.Message.{Key, key_bytes, shared}
use Rattle.model.specs.Sheet.{Sheet}
use Rattle.medium.specs.Spreading.{Knows, Marked, Quiet, unmarked}

pub same_or : (i j : ℕ) → (i ≡ j) ⊎ (i ≢ j)
same_or i j = search arith

-- the bytes of a key at a byte
pub key_slice : (bytes : List ℕ) (at : ℕ) (x : Key) (rest : List ℕ) → drop at bytes ≡ key_bytes x ++ rest → take (min (length bytes) (at + 3) - at) (drop at bytes) ≡ key_bytes x
key_slice bytes at (shared a b) rest e =
    let n : 3 ≡ min (length bytes) (at + 3) - at = omega (arith, ap length e, length-drop at bytes) in
    ap (take (min (length bytes) (at + 3) - at)) e ∙ take_at (75 ∷ a ∷ b ∷ []) rest _ n

pub marked_more : (marks : List ℕ) (at k : ℕ) → at < length marks → Marked marks k → Marked (set marks at 1) k
marked_more marks at k lt on =
    elim (same_or k at) [
      | inl e ↦ ap (λ i. get_or (set marks at 1) i 0) e ∙ get_or-set_same marks at 1 0 lt
      | inr d ↦ get_or-set_other marks at k 1 0 d ∙ on
    ]

pub marked_before : (marks : List ℕ) (at k : ℕ) → Marked (set marks at 1) k → (k ≡ at) ⊎ Marked marks k
marked_before marks at k on = elim (same_or k at) [ inl e ↦ inl e | inr d ↦ inr (sym (get_or-set_other marks at k 1 0 d) ∙ on) ]

-- No key is new where the mark is put, if each key that stands there is known.
pub marks_quiet : (sheet : Sheet) (bytes other other_marks marks : List ℕ) (at : ℕ) → ((x : Key) (rest : List ℕ) → drop at bytes ≡ key_bytes x ++ rest → Knows sheet bytes marks other other_marks (key_bytes x)) → Quiet sheet bytes other other_marks marks (set marks at 1)
marks_quiet sheet bytes other other_marks marks at h x (inl k) = inl k
marks_quiet sheet bytes other other_marks marks at h x (inr (inr k)) = inr (inr k)
marks_quiet sheet bytes other other_marks marks at h x (inr (inl s)) =
    elim (marked_before marks at s.at s.marked) [
      | inl e ↦ h x s.rest (subst (λ i. drop i bytes ≡ key_bytes x ++ s.rest) e s.splits)
      | inr on ↦ inr (inl (record { at = s.at; marked = on; rest = s.rest; splits = s.splits }))
    ]

-- the slice at a key is a key that was found known, or begins with no K
pub known_key : (sheet : Sheet) (bytes other other_marks marks : List ℕ) (at cut : ℕ) (answer : Bool) → cut ≡ min (length bytes) (at + 3) → (answer ≡ true → Knows sheet bytes marks other other_marks (take (cut - at) (drop at bytes))) → answer ≡ true → (x : Key) (rest : List ℕ) → drop at bytes ≡ key_bytes x ++ rest → Knows sheet bytes marks other other_marks (key_bytes x)
known_key sheet bytes other other_marks marks at cut answer e told is x rest f =
    subst (Knows sheet bytes marks other other_marks) (ap (λ n. take (n - at) (drop at bytes)) e ∙ key_slice bytes at x rest f) (told is)

pub key_begins : (bytes : List ℕ) (at cut : ℕ) (x : Key) (rest : List ℕ) → cut ≡ min (length bytes) (at + 3) → drop at bytes ≡ key_bytes x ++ rest → get_or (take (cut - at) (drop at bytes)) 0 0 ≡ 75
key_begins bytes at cut (shared a b) rest e f = ap (λ n. get_or (take (n - at) (drop at bytes)) 0 0) e ∙ ap (λ l. get_or l 0 0) (key_slice bytes at (shared a b) rest f)

-- ---- how many bytes have no mark

pub fewer : (marks : List ℕ) (k : ℕ) → k < length marks → (Marked marks k → ⊥) → unmarked (set marks k 1) < unmarked marks
fewer [] k h n = absurd (omega arith)
fewer (x ∷ xs) zero h n = rw (ne_eqb x 1 n) (omega arith)
fewer (x ∷ xs) (suc k) h n = omega (arith, fewer xs k (omega arith) n)

pub no_more : (marks : List ℕ) (k : ℕ) → unmarked (set marks k 1) ≤ unmarked marks
no_more [] k = omega arith
no_more (x ∷ xs) zero = omega arith
no_more (x ∷ xs) (suc k) = omega (arith, no_more xs k)
