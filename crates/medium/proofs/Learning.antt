-- What is known from a sheet's start and the messages heard, round by round, is all that is generated.
use Rattle.std.proofs.Common.{◌≡◌, ℕ, zero, suc, ◌+◌, ◌⊎◌, ◌||◌, ◌&&◌, not, Bool, true, false, eqb, leb, ltb, Contains, filter_map, List, [], ◌∷◌, ◌++◌, Option, Some, None, inl, inr, sym, refl, ap, subst, ◌∙◌, arith, append_assoc, eqb-true, eq-eqb, leb-true, ltb-true, le-leb, lt-ltb, Decides}
use Rattle.std.specs.List.{cons_option}
use Rattle.std.specs.Option.{option_and_then}
use Rattle.std.specs.List.{slice_get}
use Rattle.std.proofs.lemmas.List.Elements.{Contains-append_right}
use Rattle.instances.specs.Start.{Own}
use Rattle.instances.specs.Substitution.{message, names_alone}
use Rattle.message.specs.Generates.{Builds, Closed, Generates, known, left, member, opened, paired, pairing, right, sealed, sealing}
use Rattle.message.specs.Message.{Key, Msg, agent, key, nonce, pair, seal, shared, text}
use Rattle.message.proofs.Closure.{generated-built, made}
use Rattle.model.specs.Sheet.{Sheet, honest}
use Rattle.model.specs.Trees.{Term}
use Rattle.medium.specs.Marks.{told_by}
use Rattle.medium.specs.Media.{Known}
use Rattle.medium.specs.Rounds.{keys_at, own_key, same_key, shown, shows}
use Rattle.medium.proofs.Open.{Open, begins, content, first, second}

-- ---- tests

pub or_l : (a b : Bool) → a ≡ true → a || b ≡ true
or_l true b e = refl
or_l false b e = cc

pub or_r : (a b : Bool) → b ≡ true → a || b ≡ true
or_r true b e = refl
or_r false b e = e

pub or_cases : (a b : Bool) → a || b ≡ true → (a ≡ true) ⊎ (b ≡ true)
or_cases true b e = inl refl
or_cases false b e = inr e

pub and_i : (a b : Bool) → a ≡ true → b ≡ true → a && b ≡ true
and_i true b e f = f
and_i false b e f = cc

pub and_e : (a b : Bool) → a && b ≡ true → (a ≡ true) × (b ≡ true)
and_e true b e = (refl, e)
and_e false b e = cc

pub key_itself : (x : Key) → same_key x x ≡ true
key_itself (shared a b) = and_i (eqb a a) (eqb b b) (eq-eqb a a refl) (eq-eqb b b refl)

same_keys : (x y : Key) → same_key x y ≡ true → x ≡ y
same_keys (shared a b) (shared c d) e =
    let (p, q) = and_e (eqb a c) (eqb b d) e in
    λ i. shared (eqb-true a c p i) (eqb-true b d q i)

-- ---- what stands open shows its keys

unfoldable pub Includes : (Key → Bool) → (Key → Bool) → Type 0
Includes keys more = (x : Key) → keys x ≡ true → more x ≡ true

pub open_more : {ms : List Msg} {keys more : Key → Bool} {k : ℕ} {m : Msg} → Includes keys more → Open ms keys k m → Open ms more k m
unfolding Includes
open_more h (begins before m after e) = begins before m after e
open_more h (first o) = first (open_more h o)
open_more h (second o) = second (open_more h o)
open_more h (content {x = x} o has) = content (open_more h o) (h x has)

pub shown-append : (keys : Key → Bool) (x : Key) (ms ns : List Msg) → (shown keys x ms ≡ true) ⊎ (shown keys x ns ≡ true) → shown keys x (ms ++ ns) ≡ true
shown-append keys x [] ns (inl e) = cc
shown-append keys x [] ns (inr e) = e
shown-append keys x (m ∷ ms) ns (inl e) = elim (or_cases (shows keys x m) (shown keys x ms) e) [ inl h ↦ or_l _ _ h | inr h ↦ or_r _ _ (shown-append keys x ms ns (inl h)) ]
shown-append keys x (m ∷ ms) ns (inr e) = or_r (shows keys x m) _ (shown-append keys x ms ns (inr e))

pub shown-append_cases : (keys : Key → Bool) (x : Key) (ms ns : List Msg) → shown keys x (ms ++ ns) ≡ true → (shown keys x ms ≡ true) ⊎ (shown keys x ns ≡ true)
shown-append_cases keys x [] ns e = inr e
shown-append_cases keys x (m ∷ ms) ns e =
    elim (or_cases (shows keys x m) (shown keys x (ms ++ ns)) e) [
      | inl h ↦ inl (or_l _ _ h)
      | inr h ↦ elim (shown-append_cases keys x ms ns h) [ inl p ↦ inl (or_r (shows keys x m) _ p) | inr q ↦ inr q ]
    ]

open_shown : {ms : List Msg} {keys : Key → Bool} {k : ℕ} {m : Msg} (x : Key) → Open ms keys k m → shows keys x m ≡ true → shown keys x ms ≡ true
open_shown {ms} {keys} x (begins before m after e) h = subst (λ l. shown keys x l ≡ true) (sym e) (shown-append keys x before (m ∷ after) (inr (or_l (shows keys x m) _ h)))
open_shown {ms} {keys} x (first {l = l} {r = r} o) h = open_shown x o (or_l (shows keys x l) (shows keys x r) h)
open_shown {ms} {keys} x (second {l = l} {r = r} o) h = open_shown x o (or_r (shows keys x l) (shows keys x r) h)
open_shown {ms} {keys} x (content {x = y} {m = m} o has) h = open_shown x o (and_i (keys y) (shows keys x m) has h)

shows_open : (ms : List Msg) (keys : Key → Bool) (x : Key) (m : Msg) (k : ℕ) → Open ms keys k m → shows keys x m ≡ true → (j : ℕ) × Open ms keys j (key x)
shows_open ms keys x (agent n) k o e = cc
shows_open ms keys x (nonce n) k o e = cc
shows_open ms keys x (text n) k o e = cc
shows_open ms keys x (key y) k o e = (k, subst (λ z. Open ms keys k (key z)) (sym (same_keys x y e)) o)
shows_open ms keys x (pair l r) k o e = elim (or_cases (shows keys x l) (shows keys x r) e) [ inl h ↦ shows_open ms keys x l (k + 1) (first o) h | inr h ↦ shows_open ms keys x r _ (second o) h ]
shows_open ms keys x (seal y m) k o e =
    let (has, h) = and_e (keys y) (shows keys x m) e in
    shows_open ms keys x m (k + 4) (content o has) h

shown_from : (ms : List Msg) (keys : Key → Bool) (x : Key) (before after : List Msg) → ms ≡ before ++ after → shown keys x after ≡ true → (j : ℕ) × Open ms keys j (key x)
shown_from ms keys x before [] is e = cc
shown_from ms keys x before (m ∷ after) is e =
    elim (or_cases (shows keys x m) (shown keys x after) e) [
      | inl h ↦ shows_open ms keys x m _ (begins before m after is) h
      | inr h ↦ shown_from ms keys x (before ++ m ∷ []) after (is ∙ sym (append_assoc before (m ∷ []) after)) h
    ]

pub shown_open : (ms : List Msg) (keys : Key → Bool) (x : Key) → shown keys x ms ≡ true → (j : ℕ) × Open ms keys j (key x)
shown_open ms keys x e = shown_from ms keys x [] ms refl e

-- ---- the start

pub own_told : (sheet : Sheet) (x : Key) → Decides (own_key sheet x) (Own sheet (key x))
own_told sheet (shared a b) = (
  λ e.
      let (p, q) = and_e (leb a b && ltb b 256) (not (honest (slice_get sheet.agents a)) || not (honest (slice_get sheet.agents b))) e in
      let (l, s) = and_e (leb a b) (ltb b 256) p in
      ((leb-true a b l, ltb-true b 256 s), elim (or_cases (not (honest (slice_get sheet.agents a))) (not (honest (slice_get sheet.agents b))) q) [ inl h ↦ inl (is_false _ h) | inr h ↦ inr (is_false _ h) ]),
  λ ((l, s), d).
      and_i (leb a b && ltb b 256) (not (honest (slice_get sheet.agents a)) || not (honest (slice_get sheet.agents b)))
      (and_i (leb a b) (ltb b 256) (le-leb a b l) (lt-ltb b 256 s))
      (elim d [ inl h ↦ or_l _ _ (ap not h) | inr h ↦ or_r (not (honest (slice_get sheet.agents a))) _ (ap not h) ]),
)
  where
    is_false : (v : Bool) → not v ≡ true → v ≡ false
    is_false true h = cc
    is_false false h = refl

told_listed : (ts : List Term) (m : Msg) → Contains (filter_map (message names_alone) ts) m → (i : ℕ) × (t : Term) × (slice_get ts i ≡ Some t) × (message names_alone t ≡ Some m)
told_listed [] m (k, h, e) = absurd (omega arith)
told_listed (t ∷ ts) m h = either (message names_alone t) refl h (told_listed ts m)
  where
    either : (o : Option Msg) → message names_alone t ≡ o → Contains (cons_option o (filter_map (message names_alone) ts)) m → (Contains (filter_map (message names_alone) ts) m → (i : ℕ) × (u : Term) × (slice_get ts i ≡ Some u) × (message names_alone u ≡ Some m)) → (i : ℕ) × (u : Term) × (slice_get (t ∷ ts) i ≡ Some u) × (message names_alone u ≡ Some m)
    either None is h more = let (i, u, e, f) = more h in (suc i, u, e, f)
    either (Some n) is (zero, lt, e) more = (0, t, refl, is ∙ ap Some e)
    either (Some n) is (suc k, lt, e) more = let (i, u, g, f) = more (k, omega arith, e) in (suc i, u, g, f)

listed_told : (ts : List Term) (m : Msg) (i : ℕ) (t : Term) → slice_get ts i ≡ Some t → message names_alone t ≡ Some m → Contains (filter_map (message names_alone) ts) m
listed_told [] m i t e f = cc
listed_told (u ∷ ts) m zero t e f =
    let is : message names_alone u ≡ Some m = subst (λ o. option_and_then (message names_alone) o ≡ Some m) (sym e) f in
    subst (λ o. Contains (cons_option o (filter_map (message names_alone) ts)) m) (sym is) (0, omega arith, refl)
listed_told (u ∷ ts) m (suc i) t e f = either (message names_alone u) (listed_told ts m i t e f)
  where
    either : (o : Option Msg) → Contains (filter_map (message names_alone) ts) m → Contains (cons_option o (filter_map (message names_alone) ts)) m
    either None h = h
    either (Some n) (k, lt, g) = (suc k, omega arith, g)

between_of : (ms : List Msg) (m : Msg) → Contains ms m → (before : List Msg) × (after : List Msg) × (ms ≡ before ++ m ∷ after)
between_of [] m (k, h, e) = absurd (omega arith)
between_of (n ∷ ms) m (zero, h, e) = ([], ms, ap (λ x. x ∷ ms) e)
between_of (n ∷ ms) m (suc k, h, e) = let (before, after, is) = between_of ms m (k, omega arith, e) in (n ∷ before, after, ap (λ l. n ∷ l) is)

-- ---- rounds over the messages of a sheet and those heard

module _ (sheet : Sheet) (heard : List Msg) where
  abbrev all : List Msg
  all = told_by sheet ++ heard

  abbrev K : ℕ → Key → Bool
  K n = keys_at sheet all n

  abbrev S : Msg → Type 0
  S = Known sheet heard

  pub one_round : (n : ℕ) → Includes (K n) (K (suc n))
  unfolding Includes keys_at
  one_round n x e = or_l (K n x) _ e

  pub rounds : (n j : ℕ) → Includes (K n) (K (j + n))
  unfolding Includes
  rounds n zero x e = subst (λ i. K i x ≡ true) (let z : n ≡ 0 + n = omega arith in z) e
  rounds n (suc j) x e = subst (λ i. K i x ≡ true) (let z : suc (j + n) ≡ suc j + n = omega arith in z) (one_round (j + n) x (rounds n j x e))

  -- a key that stands open is known a round later
  pub next_told : (n k : ℕ) (x : Key) → Open (told_by sheet) (K n) k (key x) → K (suc n) x ≡ true
  unfolding keys_at
  next_told n k x o = or_r (K n x) _ (shown-append (K n) x (told_by sheet) heard (inl (open_shown x o (key_itself x))))

  pub next_heard : (n k : ℕ) (x : Key) → Open heard (K n) k (key x) → K (suc n) x ≡ true
  unfolding keys_at
  next_heard n k x o = or_r (K n x) _ (shown-append (K n) x (told_by sheet) heard (inr (open_shown x o (key_itself x))))

  -- Everything that stands open is generated.
  abbrev Made : (Key → Bool) → Type 0
  Made keys = (x : Key) → keys x ≡ true → Generates S (key x)

  told_known : (m : Msg) → Contains (told_by sheet) m → S m
  told_known m h = inl (inr (told_listed sheet.known m h))

  open_made : (ms : List Msg) → ((m : Msg) → Contains ms m → S m) → (keys : Key → Bool) → Made keys → {k : ℕ} {m : Msg} → Open ms keys k m → Generates S m
  open_made ms in-s keys h (begins before m after e) = known (in-s m (subst (λ l. Contains l m) (sym e) (Contains-append_right before (m ∷ after) m (0, omega arith, refl))))
  open_made ms in-s keys h (first o) = left (open_made ms in-s keys h o)
  open_made ms in-s keys h (second o) = right (open_made ms in-s keys h o)
  open_made ms in-s keys h (content {x = x} o has) = opened (open_made ms in-s keys h o) (h x has)

  pub keys_made : (n : ℕ) → Made (K n)
  unfolding keys_at
  keys_made zero x e = known (inl (inl ((own_told sheet x).0 e)))
  keys_made (suc n) x e =
      elim (or_cases (K n x) (shown (K n) x all) e) [
        | inl h ↦ keys_made n x h
        | inr h ↦ elim (shown-append_cases (K n) x (told_by sheet) heard h) [
          | inl p ↦ let (j, o) = shown_open (told_by sheet) (K n) x p in open_made (told_by sheet) told_known (K n) (keys_made n) o
          | inr p ↦ let (j, o) = shown_open heard (K n) x p in open_made heard (λ m c. inr c) (K n) (keys_made n) o
        ]
      ]

  pub told_made : (n : ℕ) {k : ℕ} {m : Msg} → Open (told_by sheet) (K n) k m → Generates S m
  told_made n o = open_made (told_by sheet) told_known (K n) (keys_made n) o

  pub heard_made : (n : ℕ) {k : ℕ} {m : Msg} → Open heard (K n) k m → Generates S m
  heard_made n o = open_made heard (λ m c. inr c) (K n) (keys_made n) o

  -- what is had by taking apart
  pub data Had : Msg → Type 0 where
    own : {m : Msg} → Own sheet m → Had m
    of-told : {m : Msg} (n k : ℕ) → Open (told_by sheet) (K n) k m → Had m
    of-heard : {m : Msg} (n k : ℕ) → Open heard (K n) k m → Had m

  pub had_made : {m : Msg} → Had m → Generates S m
  had_made (own h) = known (inl (inl h))
  had_made (of-told n k o) = told_made n o
  had_made (of-heard n k o) = heard_made n o

  pub had_key : (x : Key) → Had (key x) → (n : ℕ) × (K n x ≡ true)
  unfolding keys_at
  had_key x (own h) = (0, (own_told sheet x).1 h)
  had_key x (of-told n k o) = (suc n, next_told n k x o)
  had_key x (of-heard n k o) = (suc n, next_heard n k x o)

  had_halves : (l r : Msg) → Had (pair l r) → Had l × Had r
  had_halves l r (own h) = absurd h
  had_halves l r (of-told n k o) = (of-told n (k + 1) (first o), of-told n _ (second o))
  had_halves l r (of-heard n k o) = (of-heard n (k + 1) (first o), of-heard n _ (second o))

  at_sum : (n j : ℕ) → Includes (K j) (K (j + n))
  unfolding Includes
  at_sum n j x e = subst (λ i. K i x ≡ true) (let z : n + j ≡ j + n = omega arith in z) (rounds j n x e)

  had_content : (x : Key) (m : Msg) → Had (seal x m) → Had (key x) → Had m
  unfolding Includes
  had_content x m (own h) c = absurd h
  had_content x m (of-told n k o) c =
      let (j, e) = had_key x c in
      of-told (j + n) (k + 4) (content (open_more (rounds n j) o) (at_sum n j x e))
  had_content x m (of-heard n k o) c =
      let (j, e) = had_key x c in
      of-heard (j + n) (k + 4) (content (open_more (rounds n j) o) (at_sum n j x e))

  had_closed : Closed Had
  had_closed = record { halves = had_halves; content = had_content }

  starts : {m : Msg} → S m → Had m
  starts (inl (inl h)) = own h
  starts {m} (inl (inr (i, t, e, f))) = let (before, after, is) = between_of (told_by sheet) m (listed_told sheet.known m i t e f) in of-told 0 _ (begins before m after is)
  starts {m} (inr h) = let (before, after, is) = between_of heard m h in of-heard 0 _ (begins before m after is)

  -- Exactly that is generated which is built from what is had.
  had_through : {m : Msg} → Generates S m → Generates Had m
  had_through (known h) = known (starts h)
  had_through (paired p q) = paired (had_through p) (had_through q)
  had_through (left p) = left (had_through p)
  had_through (right p) = right (had_through p)
  had_through (sealed p q) = sealed (had_through p) (had_through q)
  had_through (opened p q) = opened (had_through p) (had_through q)

  pub generated_built : {m : Msg} → Generates S m → Builds Had m
  generated_built g = generated-built Had had_closed (had_through g)

  pub built_generated : {m : Msg} → Builds Had m → Generates S m
  built_generated (member h) = had_made h
  built_generated (pairing p q) = paired (built_generated p) (built_generated q)
  built_generated (sealing p q) = sealed (built_generated p) (built_generated q)

  pub generated_key : (x : Key) → Generates S (key x) → (n : ℕ) × (K n x ≡ true)
  generated_key x g = had_key x (made Had (generated_built g))
