-- One message more: what was known before is known, and the marks are again those of all that is had.
use Rattle.std.proofs.Common.{◌≡◌, ℕ, zero, suc, ◌+◌, ◌<◌, ◌≤◌, ◌⊎◌, Bool, true, All, List, [], ◌∷◌, ◌++◌, length, set, inl, inr, sym, refl, ap, subst, ◌∙◌, arith, append_assoc, length-append, length-drop, get_or-set_same}
use Rattle.std.specs.List.{slice_index}
use Rattle.std.proofs.lemmas.Bool.{cases_lt}
use Rattle.std.proofs.lemmas.List.Elements.{All-append, All-cons, All-nil}
use Rattle.message.specs.Message.{Key, Msg, agent, key, key_bytes, nonce, pair, seal, text, wire}
use Rattle.message.proofs.Forms.{nonempty}
use Rattle.model.specs.Sheet.{Sheet}
use Rattle.medium.specs.Marks.{told_by}
use Rattle.medium.specs.Rounds.{keys_at, shown, shows}
use Rattle.medium.specs.Spreading.{ApartBefore, Both, Gives, Knows, Learns, Marked, both_heard, both_same, both_told, gives_content, gives_first, gives_second}
use Rattle.medium.specs.Store.{IsWhole, laid}
use Rattle.medium.proofs.Growing.{marked_before}
use Rattle.medium.proofs.Knowing.{RowSound, Sound, Starts, both_sound, heard_complete, owned_round, stood_key, told_complete}
use Rattle.medium.proofs.Learning.{Includes, and_e, and_i, next_heard, next_told, one_round, open_more, or_cases, or_l, or_r, shown-append, shown-append_cases}
use Rattle.medium.proofs.Open.{Open, begins, content, first, one_stands, open_stands, second}
use Rattle.medium.proofs.Spreading.{grows_marked, marked_kept}

-- ---- more keys and more messages show more

shows_more : (keys more : Key → Bool) (x : Key) (m : Msg) → Includes keys more → shows keys x m ≡ true → shows more x m ≡ true
unfolding Includes
shows_more keys more x (agent n) h e = e
shows_more keys more x (nonce n) h e = e
shows_more keys more x (text n) h e = e
shows_more keys more x (key k) h e = e
shows_more keys more x (pair l r) h e = elim (or_cases (shows keys x l) (shows keys x r) e) [ inl p ↦ or_l _ _ (shows_more keys more x l h p) | inr p ↦ or_r (shows more x l) _ (shows_more keys more x r h p) ]
shows_more keys more x (seal k m) h e = let (p, q) = and_e (keys k) (shows keys x m) e in and_i _ _ (h k p) (shows_more keys more x m h q)

shown_more : (keys more : Key → Bool) (x : Key) (ms : List Msg) → Includes keys more → shown keys x ms ≡ true → shown more x ms ≡ true
shown_more keys more x [] h e = e
shown_more keys more x (m ∷ ms) h e = elim (or_cases (shows keys x m) (shown keys x ms) e) [ inl p ↦ or_l _ _ (shows_more keys more x m h p) | inr p ↦ or_r (shows more x m) _ (shown_more keys more x ms h p) ]

pub keys_more : (sheet : Sheet) (heard : List Msg) (m : Msg) (n : ℕ) → Includes (keys_at sheet (told_by sheet ++ heard) n) (keys_at sheet (told_by sheet ++ (heard ++ m ∷ [])) n)
unfolding Includes keys_at
keys_more sheet heard m zero x e = e
keys_more sheet heard m (suc n) x e =
    let old = keys_at sheet (told_by sheet ++ heard) n in
    let new = keys_at sheet (told_by sheet ++ (heard ++ m ∷ [])) n in
    elim (or_cases (old x) (shown old x (told_by sheet ++ heard)) e) [
      | inl h ↦ or_l _ _ (keys_more sheet heard m n x h)
      | inr h ↦ or_r (new x) _ (elim (shown-append_cases old x (told_by sheet) heard h) [
        | inl p ↦ shown-append new x (told_by sheet) (heard ++ m ∷ []) (inl (shown_more old new x (told_by sheet) (keys_more sheet heard m n) p))
        | inr p ↦ shown-append new x (told_by sheet) (heard ++ m ∷ []) (inr (shown-append new x heard (m ∷ []) (inl (shown_more old new x heard (keys_more sheet heard m n) p))))
      ])
    ]

pub open_extend : {ms : List Msg} {keys : Key → Bool} {k : ℕ} {m : Msg} (ns : List Msg) → Open ms keys k m → Open (ms ++ ns) keys k m
open_extend ns (begins before m after e) = begins before m (after ++ ns) (ap (λ l. l ++ ns) e ∙ append_assoc before (m ∷ after) ns)
open_extend ns (first o) = first (open_extend ns o)
open_extend ns (second o) = second (open_extend ns o)
open_extend ns (content o h) = content (open_extend ns o) h

last_cases : (xs : List Msg) (m : Msg) (before : List Msg) (x : Msg) (after : List Msg) → xs ++ m ∷ [] ≡ before ++ x ∷ after → ((before ≡ xs) × (x ≡ m)) ⊎ ((rest : List Msg) × (xs ≡ before ++ x ∷ rest))
last_cases [] m [] x after e = inl (refl, cc)
last_cases [] m (b ∷ bs) x after e =
    let tails : [] ≡ bs ++ x ∷ after = cc in
    absurd (omega (arith, ap length tails, length-append bs (x ∷ after)))
last_cases (y ∷ ys) m [] x after e = let h : y ≡ x = cc in inr (ys, ap (λ z. z ∷ ys) h)
last_cases (y ∷ ys) m (b ∷ bs) x after e =
    let h : y ≡ b = cc in
    let tails : ys ++ m ∷ [] ≡ bs ++ x ∷ after = cc in
    elim (last_cases ys m bs x after tails) [
      | inl p ↦ inl (ap (λ l. b ∷ l) p.0 ∙ ap (λ z. z ∷ ys) (sym h), p.1)
      | inr p ↦ inr (p.0, ap (λ z. z ∷ ys) h ∙ ap (λ l. b ∷ l) p.1)
    ]

pub heard_kept : (sheet : Sheet) (bytes told : List ℕ) {m0 t0 m t : List ℕ} → Both sheet bytes told m0 t0 m t → (k : ℕ) → Marked m0 k → Marked m k
heard_kept sheet bytes told both_same k on = on
heard_kept sheet bytes told (both_heard a b c g h) k on = grows_marked sheet bytes told c h k (heard_kept sheet bytes told g k on)
heard_kept sheet bytes told (both_told a b c g h) k on = heard_kept sheet bytes told g k on

pub told_kept : (sheet : Sheet) (bytes told : List ℕ) {m0 t0 m t : List ℕ} → Both sheet bytes told m0 t0 m t → (k : ℕ) → Marked t0 k → Marked t k
told_kept sheet bytes told both_same k on = on
told_kept sheet bytes told (both_heard a b c g h) k on = told_kept sheet bytes told g k on
told_kept sheet bytes told (both_told a b c g h) k on = grows_marked sheet told bytes a h k (told_kept sheet bytes told g k on)

-- ---- the state of two rows

module _ (sheet : Sheet) (heard : List Msg) where
  abbrev K : ℕ → Key → Bool
  K n = keys_at sheet (told_by sheet ++ heard) n

  -- all that stands open is marked
  pub record Complete (marks told_marks : List ℕ) : Type 0 where
    pub heard-marked : (n k : ℕ) (m : Msg) → Open heard (K n) k m → Marked marks k
    pub told-marked : (n k : ℕ) (m : Msg) → Open (told_by sheet) (K n) k m → Marked told_marks k

module _ (sheet : Sheet) (heard : List Msg) (m : Msg) (w : All IsWhole heard) (v : All IsWhole (told_by sheet)) (whole : IsWhole m) (old marks told_marks : List ℕ) (n : ℕ) (sound : Sound sheet heard n old told_marks) (complete : Complete sheet heard old told_marks)
    (kept : (k : ℕ) → k < length (laid heard) → slice_index marks k ≡ slice_index old k) (clear : (k : ℕ) → length (laid heard) ≤ k → slice_index marks k ≡ 0) where
  abbrev now : List Msg
  now = heard ++ m ∷ []

  abbrev Old : ℕ → Key → Bool
  Old i = keys_at sheet (told_by sheet ++ heard) i

  w-now : All IsWhole now
  w-now = All-append IsWhole heard (m ∷ []) w (All-cons IsWhole m [] whole (All-nil IsWhole))

  -- a mark is one of before
  old_mark : (k : ℕ) → Marked marks k → (k < length (laid heard)) × Marked old k
  old_mark k on = elim (cases_lt k (length (laid heard))) [ inl lt ↦ (lt, sym (kept k lt) ∙ on) | inr ge ↦ let z : ◌≡◌ {A = ℕ} 0 1 = sym (clear k ge) ∙ on in absurd (omega arith) ]

  long_old : (j k : ℕ) (x : Msg) → Open heard (Old j) k x → k < length (laid heard)
  long_old j k x o = let s = open_stands w o in omega (arith, nonempty x, ap length s.splits, length-append (wire x) s.rest, length-drop k (laid heard))

  now_mark : (k : ℕ) → k < length (laid heard) → Marked old k → Marked marks k
  now_mark k lt on = kept k lt ∙ on

  heard_at : (k : ℕ) → Marked marks k → (x : Msg) × Open heard (Old n) k x
  unfolding RowSound
  heard_at k on = sound.heard-sound k (old_mark k on).1

  known_old : (x : Key) → Knows sheet (laid now) marks (laid (told_by sheet)) told_marks (key_bytes x) → Old (suc n) x ≡ true
  unfolding RowSound
  known_old x (inl h) = owned_round sheet heard (suc n) x h
  known_old x (inr (inl s)) =
      let (y, o) = heard_at s.at s.marked in
      let is = stood_key (laid now) s.at y x s.rest (open_stands w-now (open_extend (m ∷ []) o)) s.splits in
      next_heard sheet heard n s.at x (subst (Open heard (Old n) s.at) is o)
  known_old x (inr (inr s)) =
      let (y, o) = sound.told-sound s.at s.marked in
      let is = stood_key (laid (told_by sheet)) s.at y x s.rest (open_stands v o) s.splits in
      next_told sheet heard n s.at x (subst (Open (told_by sheet) (Old n) s.at) is o)

  before_apart : (i k : ℕ) → Marked marks i → Gives (laid now) (Knows sheet (laid now) marks (laid (told_by sheet)) told_marks) i k → Marked marks k
  before_apart i k on g = let (y, o) = heard_at i on in by_shape i k y o g
    where
      shut : (k : ℕ) (c : Msg) → Open heard (Old (suc n)) k c → Marked marks k
      shut k c o = now_mark k (long_old (suc n) k c o) (complete.heard-marked (suc n) k c o)

      up : {k : ℕ} {c : Msg} → Open heard (Old n) k c → Open heard (Old (suc n)) k c
      up o = open_more (one_round sheet heard n) o

      by_shape : (i k : ℕ) (y : Msg) → Open heard (Old n) i y → Gives (laid now) (Knows sheet (laid now) marks (laid (told_by sheet)) told_marks) i k → Marked marks k
      by_shape i k y o (gives_first l r s) =
          let is : y ≡ pair l r = one_stands (laid now) i y (pair l r) (open_stands w-now (open_extend (m ∷ []) o)) s in
          shut (i + 1) l (first (up (subst (Open heard (Old n) i) is o)))
      by_shape i k y o (gives_second l r s) =
          let is : y ≡ pair l r = one_stands (laid now) i y (pair l r) (open_stands w-now (open_extend (m ∷ []) o)) s in
          shut (i + 1 + length (wire l)) r (second (up (subst (Open heard (Old n) i) is o)))
      by_shape i k y o (gives_content x c s h) =
          let is : y ≡ seal x c = one_stands (laid now) i y (seal x c) (open_stands w-now (open_extend (m ∷ []) o)) s in
          shut (i + 4) c (content (up (subst (Open heard (Old n) i) is o)) (known_old x h))

  told_apart : (i k : ℕ) → Marked told_marks i → Gives (laid (told_by sheet)) (Knows sheet (laid (told_by sheet)) told_marks (laid now) marks) i k → Marked told_marks k
  unfolding RowSound
  told_apart i k on g = let (y, o) = sound.told-sound i on in by_shape i k y o g
    where
      up : {k : ℕ} {c : Msg} → Open (told_by sheet) (Old n) k c → Open (told_by sheet) (Old (suc n)) k c
      up o = open_more (one_round sheet heard n) o

      turned : (x : Key) → Knows sheet (laid (told_by sheet)) told_marks (laid now) marks (key_bytes x) → Knows sheet (laid now) marks (laid (told_by sheet)) told_marks (key_bytes x)
      turned x (inl h) = inl h
      turned x (inr (inl h)) = inr (inr h)
      turned x (inr (inr h)) = inr (inl h)

      by_shape : (i k : ℕ) (y : Msg) → Open (told_by sheet) (Old n) i y → Gives (laid (told_by sheet)) (Knows sheet (laid (told_by sheet)) told_marks (laid now) marks) i k → Marked told_marks k
      by_shape i k y o (gives_first l r s) =
          let is : y ≡ pair l r = one_stands (laid (told_by sheet)) i y (pair l r) (open_stands v o) s in
          complete.told-marked (suc n) (i + 1) l (first (up (subst (Open (told_by sheet) (Old n) i) is o)))
      by_shape i k y o (gives_second l r s) =
          let is : y ≡ pair l r = one_stands (laid (told_by sheet)) i y (pair l r) (open_stands v o) s in
          complete.told-marked (suc n) (i + 1 + length (wire l)) r (second (up (subst (Open (told_by sheet) (Old n) i) is o)))
      by_shape i k y o (gives_content x c s h) =
          let is : y ≡ seal x c = one_stands (laid (told_by sheet)) i y (seal x c) (open_stands v o) s in
          complete.told-marked (suc n) (i + 4) c (content (up (subst (Open (told_by sheet) (Old n) i) is o)) (known_old x (turned x h)))

  apart_before : ApartBefore sheet (laid now) marks (laid (told_by sheet)) told_marks (length (laid heard) + 1)
  apart_before = record {
    before = λ i k lt on g. before_apart i k on g;
    clear = λ i ge on. let z : ◌≡◌ {A = ℕ} 0 1 = sym (clear i (omega arith)) ∙ on in absurd (omega arith);
    told-apart = told_apart;
  }

  -- with the new message's mark
  start_sound : Sound sheet now n (set marks (length (laid heard) + 1) 1) told_marks
  unfolding RowSound
  start_sound = record {
    heard-sound = λ k on. elim (marked_before marks (length (laid heard) + 1) k on) [
      | inl e ↦ (m, subst (λ i. Open now (keys_at sheet (told_by sheet ++ now) n) i m) (sym e) (begins heard m [] refl))
      | inr h ↦ let (y, o) = heard_at k h in (y, open_more (keys_more sheet heard m n) (open_extend (m ∷ []) o))
    ];
    told-sound = λ k on. let (y, o) = sound.told-sound k on in (y, open_more (keys_more sheet heard m n) o);
  }

  module _ (after told_after : List ℕ) (lt : length (laid heard) + 1 < length marks) (learns : Learns sheet (laid now) (laid (told_by sheet)) marks told_marks after told_after (length (laid heard) + 1)) where
    starts_now : Starts now after
    unfolding Starts
    starts_now before x rest e =
        heard_kept sheet (laid now) (laid (told_by sheet)) learns.grows (length (laid before) + 1)
        (elim (last_cases heard m before x rest e) [
          | inl p ↦ subst (λ l. Marked (set marks (length (laid heard) + 1) 1) (length (laid l) + 1)) (sym p.0) (get_or-set_same marks (length (laid heard) + 1) 1 0 lt)
          | inr p ↦
              let o : Open heard (Old 0) (length (laid before) + 1) x = begins before x p.0 p.1 in
              marked_kept marks (length (laid heard) + 1) (length (laid before) + 1) (now_mark (length (laid before) + 1) (long_old 0 (length (laid before) + 1) x o) (complete.heard-marked 0 (length (laid before) + 1) x o))
        ])

    told_starts : Starts (told_by sheet) told_after
    unfolding Starts
    told_starts before x rest e = told_kept sheet (laid now) (laid (told_by sheet)) learns.grows (length (laid before) + 1) (complete.told-marked 0 (length (laid before) + 1) x (begins before x rest e))

    pub learnt_sound : (j : ℕ) × Sound sheet now j after told_after
    learnt_sound = both_sound sheet now w-now v n (set marks (length (laid heard) + 1) 1) told_marks after told_after start_sound learns.grows

    pub learnt_complete : Complete sheet now after told_after
    learnt_complete = record {
      heard-marked = heard_complete sheet now w-now v after told_after starts_now told_starts (learns.apart apart_before);
      told-marked = told_complete sheet now w-now v after told_after starts_now told_starts (learns.apart apart_before);
    }
