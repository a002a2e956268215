-- The marks of two rows that are taken apart are those of all that is had by taking apart.
use Rattle.std.proofs.Common.{◌≡◌, ℕ, zero, suc, ◌+◌, ◌-◌, ◌≤◌, Bool, true, All, List, ◌∷◌, ◌++◌, length, drop, inl, inr, sym, refl, subst, ◌∙◌, arith}
use Rattle.instances.specs.Start.{Own}
use Rattle.message.specs.Message.{Key, Msg, key, key_bytes, pair, seal, shared}
use Rattle.message.proofs.Shapes.{same-tree, unique}
use Rattle.model.specs.Sheet.{Sheet}
use Rattle.medium.specs.Marks.{told_by}
use Rattle.medium.specs.Rounds.{keys_at, shown}
use Rattle.medium.specs.Spreading.{Apart, Both, Gives, Grows, Knows, Marked, Owned, RowApart, Seen, Stands, both_heard, both_same, both_told, gives_content, gives_first, gives_second, more, same}
use Rattle.medium.specs.Store.{IsWhole, laid}
use Rattle.medium.proofs.Growing.{marked_before}
use Rattle.medium.proofs.Learning.{Includes, next_heard, next_told, one_round, open_more, or_cases, own_told, rounds, shown-append_cases, shown_open}
use Rattle.medium.proofs.Open.{Open, begins, content, first, one_stands, open_stands, second}

-- a key's bytes where a message stands
pub stood_key : (bytes : List ℕ) (k : ℕ) (m : Msg) (x : Key) (rest : List ℕ) → Stands bytes k m → drop k bytes ≡ key_bytes x ++ rest → m ≡ key x
stood_key bytes k m x rest s e = (unique m (key x) s.rest rest (sym s.splits ∙ e)).0

owned_key : (sheet : Sheet) (x : Key) → Owned sheet (key_bytes x) → Own sheet (key x)
owned_key sheet x (m, r, h) = subst (Own sheet) (same-tree m (key x) r.form) h

pub own_owned : (sheet : Sheet) (x : Key) → Own sheet (key x) → Owned sheet (key_bytes x)
own_owned sheet (shared a b) h = (key (shared a b), record { fits = h.0; form = refl; short = omega arith }, h)

-- every message begins at a marked byte
unfoldable pub Starts : List Msg → List ℕ → Type 0
Starts ms marks = (before : List Msg) (m : Msg) (after : List Msg) → ms ≡ before ++ m ∷ after → Marked marks (length (laid before) + 1)

module _ (sheet : Sheet) (heard : List Msg) where
  abbrev K : ℕ → Key → Bool
  K n = keys_at sheet (told_by sheet ++ heard) n

  -- the marks of a row are of what stands open after so many rounds
  unfoldable pub RowSound : List Msg → ℕ → List ℕ → Type 0
  RowSound ms n marks = (k : ℕ) → Marked marks k → (m : Msg) × Open ms (K n) k m

  pub later : (n j : ℕ) → n ≤ j → Includes (K n) (K j)
  later n j h = subst (λ i. Includes (K n) (K i)) (let z : j - n + n ≡ j = omega arith in z) (rounds sheet heard n (j - n))

  pub sound_later : (ms : List Msg) (n j : ℕ) (marks : List ℕ) → n ≤ j → RowSound ms n marks → RowSound ms j marks
  unfolding RowSound
  sound_later ms n j marks h s k on = let (m, o) = s k on in (m, open_more (later n j h) o)

  -- a key that is known from sound marks is known a round later
  Next : List Msg → Type 0
  Next ms = (n k : ℕ) (x : Key) → Open ms (K n) k (key x) → K (suc n) x ≡ true

  seen_key : (ms : List Msg) → All IsWhole ms → Next ms → (n : ℕ) (marks : List ℕ) → RowSound ms n marks → (x : Key) → Seen (laid ms) marks (key_bytes x) → K (suc n) x ≡ true
  unfolding RowSound Next
  seen_key ms w next n marks s x seen =
      let (m, o) = s seen.at seen.marked in
      let is = stood_key (laid ms) seen.at m x seen.rest (open_stands w o) seen.splits in
      next n seen.at x (subst (Open ms (K n) seen.at) is o)

  pub owned_round : (n : ℕ) (x : Key) → Owned sheet (key_bytes x) → K n x ≡ true
  unfolding Includes keys_at
  owned_round n x h = later 0 n (omega arith) x ((own_told sheet x).1 (owned_key sheet x h))

  known_round : (ms os : List Msg) → All IsWhole ms → All IsWhole os → Next ms → Next os → (n : ℕ) (marks other_marks : List ℕ) → RowSound ms n marks → RowSound os n other_marks → (x : Key) → Knows sheet (laid ms) marks (laid os) other_marks (key_bytes x) → K (suc n) x ≡ true
  known_round ms os w v a b n marks other_marks s t x (inl h) = owned_round (suc n) x h
  known_round ms os w v a b n marks other_marks s t x (inr (inl h)) = seen_key ms w a n marks s x h
  known_round ms os w v a b n marks other_marks s t x (inr (inr h)) = seen_key os v b n other_marks t x h

  -- what an open message gives stands open a round later
  given_open : (ms : List Msg) (n i k : ℕ) (m : Msg) (keys : List ℕ → Type 0) → All IsWhole ms → Open ms (K n) i m → ((x : Key) → keys (key_bytes x) → K (suc n) x ≡ true) → Gives (laid ms) keys i k → (c : Msg) × Open ms (K (suc n)) k c
  given_open ms n i k m keys w o h (gives_first l r s) =
      let is : m ≡ pair l r = one_stands (laid ms) i m (pair l r) (open_stands w o) s in
      (l, first (open_more (one_round sheet heard n) (subst (Open ms (K n) i) is o)))
  given_open ms n i k m keys w o h (gives_second l r s) =
      let is : m ≡ pair l r = one_stands (laid ms) i m (pair l r) (open_stands w o) s in
      (r, second (open_more (one_round sheet heard n) (subst (Open ms (K n) i) is o)))
  given_open ms n i k m keys w o h (gives_content x c s g) =
      let is : m ≡ seal x c = one_stands (laid ms) i m (seal x c) (open_stands w o) s in
      (c, content (open_more (one_round sheet heard n) (subst (Open ms (K n) i) is o)) (h x g))

  -- marks that grow from sound ones are sound some rounds later
  grown_sound : (ms os : List Msg) → All IsWhole ms → All IsWhole os → Next ms → Next os → (n : ℕ) (before other_marks after : List ℕ) → RowSound ms n before → RowSound os n other_marks → Grows sheet (laid ms) (laid os) other_marks before after → (j : ℕ) × (n ≤ j) × RowSound ms j after
  unfolding RowSound
  grown_sound ms os w v a b n before other_marks after s t same = (n, omega arith, s)
  grown_sound ms os w v a b n before other_marks after s t (more {marks = marks} i k g on h) =
      let (j, le, r) = grown_sound ms os w v a b n before other_marks marks s t g in (
        suc j,
        omega arith,
        λ p marked. elim (marked_before marks k p marked) [
          | inl e ↦
              let (m, o) = r i on in
              let (c, q) = given_open ms j i k m _ w o (known_round ms os w v a b j marks other_marks r (sound_later os n j other_marks le t)) h in
              (c, subst (λ z. Open ms (K (suc j)) z c) (sym e) q)
          | inr old ↦ let (m, o) = r p old in (m, open_more (one_round sheet heard j) o)
        ],
      )

  pub record Sound (n : ℕ) (marks told_marks : List ℕ) : Type 0 where
    pub heard-sound : RowSound heard n marks
    pub told-sound : RowSound (told_by sheet) n told_marks

  module _ (w : All IsWhole heard) (v : All IsWhole (told_by sheet)) where
    next-heard : Next heard
    unfolding Next
    next-heard = next_heard sheet heard

    next-told : Next (told_by sheet)
    unfolding Next
    next-told = next_told sheet heard

    pub both_sound : (n : ℕ) (m0 t0 m t : List ℕ) → Sound n m0 t0 → Both sheet (laid heard) (laid (told_by sheet)) m0 t0 m t → (j : ℕ) × Sound j m t
    both_sound n m0 t0 m t s both_same = (n, s)
    both_sound n m0 t0 m t s (both_heard a b c g h) =
        let (j, r) = both_sound n m0 t0 a c s g in
        let (i, le, q) = grown_sound heard (told_by sheet) w v next-heard next-told j a c b r.heard-sound r.told-sound h in
        (i, record { heard-sound = q; told-sound = sound_later (told_by sheet) j i c le r.told-sound })
    both_sound n m0 t0 m t s (both_told a b c g h) =
        let (j, r) = both_sound n m0 t0 a b s g in
        let (i, le, q) = grown_sound (told_by sheet) heard v w next-told next-heard j b a c r.told-sound r.heard-sound h in
        (i, record { heard-sound = sound_later heard j i a le r.heard-sound; told-sound = q })

    pub known_key : (n : ℕ) (m t : List ℕ) → Sound n m t → (x : Key) → Knows sheet (laid heard) m (laid (told_by sheet)) t (key_bytes x) → K (suc n) x ≡ true
    known_key n m t s x h = known_round heard (told_by sheet) w v next-heard next-told n m t s.heard-sound s.told-sound x h

    -- ---- all that stands open is marked

    row_complete : (ms : List Msg) (keys : Key → Bool) (marks other other_marks : List ℕ) → All IsWhole ms → ((x : Key) → keys x ≡ true → Knows sheet (laid ms) marks other other_marks (key_bytes x)) → Starts ms marks → RowApart sheet (laid ms) marks other other_marks → {k : ℕ} {m : Msg} → Open ms keys k m → Marked marks k
    unfolding Starts
    row_complete ms keys marks other other_marks whole known starts apart (begins before m after e) = starts before m after e
    row_complete ms keys marks other other_marks whole known starts apart (first {k = k} {l = l} {r = r} o) = apart k (k + 1) (row_complete ms keys marks other other_marks whole known starts apart o) (gives_first l r (open_stands whole o))
    row_complete ms keys marks other other_marks whole known starts apart (second {k = k} {l = l} {r = r} o) = apart k _ (row_complete ms keys marks other other_marks whole known starts apart o) (gives_second l r (open_stands whole o))
    row_complete ms keys marks other other_marks whole known starts apart (content {k = k} {x = x} {m = m} o has) = apart k (k + 4) (row_complete ms keys marks other other_marks whole known starts apart o) (gives_content x m (open_stands whole o) (known x has))

    module _ (marks told_marks : List ℕ) (starts : Starts heard marks) (told-starts : Starts (told_by sheet) told_marks) (apart : Apart sheet (laid heard) marks (laid (told_by sheet)) told_marks) where
      abbrev pub Knows-here : Key → Type 0
      Knows-here x = Knows sheet (laid heard) marks (laid (told_by sheet)) told_marks (key_bytes x)

      swapped : (x : Key) → Knows-here x → Knows sheet (laid (told_by sheet)) told_marks (laid heard) marks (key_bytes x)
      swapped x (inl h) = inl h
      swapped x (inr (inl h)) = inr (inr h)
      swapped x (inr (inr h)) = inr (inl h)

      seen_at : (ms : List Msg) (row : List ℕ) (keys : Key → Bool) (k : ℕ) (x : Key) → All IsWhole ms → Open ms keys k (key x) → Marked row k → Seen (laid ms) row (key_bytes x)
      seen_at ms row keys k x whole o on = let s = open_stands whole o in record { at = k; marked = on; rest = s.rest; splits = s.splits }

      pub keys_known : (n : ℕ) (x : Key) → K n x ≡ true → Knows-here x
      unfolding keys_at
      keys_known zero x e = inl (own_owned sheet x ((own_told sheet x).0 e))
      keys_known (suc n) x e =
          elim (or_cases (K n x) (shown (K n) x (told_by sheet ++ heard)) e) [
            | inl h ↦ keys_known n x h
            | inr h ↦ elim (shown-append_cases (K n) x (told_by sheet) heard h) [
              | inl p ↦
                  let (k, o) = shown_open (told_by sheet) (K n) x p in
                  inr (inr (seen_at (told_by sheet) told_marks (K n) k x v o (row_complete (told_by sheet) (K n) told_marks (laid heard) marks v (λ y f. swapped y (keys_known n y f)) told-starts apart.told-apart o)))
              | inr p ↦
                  let (k, o) = shown_open heard (K n) x p in
                  inr (inl (seen_at heard marks (K n) k x w o (row_complete heard (K n) marks (laid (told_by sheet)) told_marks w (keys_known n) starts apart.heard-apart o)))
            ]
          ]

      pub heard_complete : (n k : ℕ) (m : Msg) → Open heard (K n) k m → Marked marks k
      heard_complete n k m o = row_complete heard (K n) marks (laid (told_by sheet)) told_marks w (keys_known n) starts apart.heard-apart o

      pub told_complete : (n k : ℕ) (m : Msg) → Open (told_by sheet) (K n) k m → Marked told_marks k
      told_complete n k m o = row_complete (told_by sheet) (K n) told_marks (laid heard) marks v (λ y f. swapped y (keys_known n y f)) told-starts apart.told-apart o
