-- What an enemy's areas say of what it knows.
use Rattle.std.proofs.Common.{◌≡◌, ℕ, zero, suc, ◌+◌, ◌<◌, ◌≤◌, Bool, true, false, not, ◌||◌, ◌==◌, Decides, All, List, [], ◌∷◌, ◌++◌, length, cond, replicate, drop, inl, inr, sym, refl, ap, subst, ◌∙◌, arith, eqb-true, eq-eqb}
use mathlib.Core.HLevel.{is_prop→PathP}
use Rattle.std.proofs.Math.Logic.{∥∥₁_elim}
use Rattle.std.proofs.Props.{props}
use Rattle.std.proofs.lemmas.Bool.{cases_lt}
use Rattle.std.specs.List.{slice_index}
use Rattle.instances.specs.Start.{Own}
use Rattle.message.specs.Generates.{Builds, Generates, member, pairing, sealing}
use Rattle.message.specs.Message.{Key, Msg, agent, key, key_bytes, nonce, pair, seal, shared, text, wire}
use Rattle.message.proofs.Shapes.{same-tree, unique}
use Rattle.model.specs.Sheet.{Sheet}
use Rattle.medium.specs.Making.{Held}
use Rattle.medium.specs.Marks.{marks_in, row_marks, told_by}
use Rattle.medium.specs.Media.{Known}
use Rattle.medium.specs.Rounds.{keys_at, shown}
use Rattle.medium.specs.Settled.{Settled, covered, sound_at}
use Rattle.medium.specs.Spreading.{Knows, Marked, Stands}
use Rattle.medium.specs.Store.{IsWhole, laid}
use Rattle.medium.proofs.Hearing.{Complete}
use Rattle.medium.proofs.Knowing.{RowSound, Sound, known_key, own_owned}
use Rattle.medium.proofs.Growing.{same_or}
use Rattle.medium.proofs.Learning.{Had, and_e, and_i, built_generated, generated_built, generated_key, keys_made, of-heard, of-told, one_round, open_more, or_cases, own, own_told, shown-append_cases, shown_open}
use Rattle.medium.proofs.Open.{Open, length-row, marked_open, open_marked, open_stands, whole_content, whole_first, whole_second}

-- ---- marks that are covered

pub covered_at : (xs ys : List ℕ) (k : ℕ) → covered xs ys ≡ true → Marked xs k → Marked ys k
covered_at [] ys k e on = absurd (omega arith)
covered_at (x ∷ xs) [] zero e on = let (p, q) = and_e (not (x == 1)) (covered xs []) e in let z : not (x == 1) ≡ false = ap not (eq-eqb x 1 on) in cc
covered_at (x ∷ xs) [] (suc k) e on = let (p, q) = and_e (not (x == 1)) (covered xs []) e in empty (covered_at xs [] k q on)
  where
    empty : Marked [] k → Marked [] (suc k)
    empty h = absurd (omega arith)
covered_at (x ∷ xs) (y ∷ ys) zero e on = let (p, q) = and_e (not (x == 1) || y == 1) (covered xs ys) e in eqb-true y 1 (by_left (x == 1) (y == 1) (eq-eqb x 1 on) p)
  where
    by_left : (a b : Bool) → a ≡ true → not a || b ≡ true → b ≡ true
    by_left true b f g = g
    by_left false b f g = cc
covered_at (x ∷ xs) (y ∷ ys) (suc k) e on = let (p, q) = and_e (not (x == 1) || y == 1) (covered xs ys) e in covered_at xs ys k q on

pub cover : (xs ys : List ℕ) → ((k : ℕ) → Marked xs k → Marked ys k) → covered xs ys ≡ true
cover [] ys h = refl
cover (x ∷ xs) [] h = and_i (not (x == 1)) (covered xs []) (off (x == 1) refl) (cover xs [] (λ k on. absurd (nowhere (suc k) (h (suc k) on))))
  where
    nowhere : (k : ℕ) → Marked [] k → ⊥
    nowhere k e = omega arith

    off : (b : Bool) → (x == 1) ≡ b → not b ≡ true
    off true e = absurd (nowhere 0 (h 0 (eqb-true x 1 e)))
    off false e = refl
cover (x ∷ xs) (y ∷ ys) h = and_i (not (x == 1) || y == 1) (covered xs ys) (one (x == 1) refl) (cover xs ys (λ k on. h (suc k) on))
  where
    one : (b : Bool) → (x == 1) ≡ b → not b || y == 1 ≡ true
    one true e = eq-eqb y 1 (h 0 (eqb-true x 1 e))
    one false e = refl

-- ---- marks are 0 or 1

pub zeros_small : (n k : ℕ) → slice_index (replicate n 0) k ≤ 1
zeros_small zero k = omega arith
zeros_small (suc n) zero = omega arith
zeros_small (suc n) (suc k) = zeros_small n k

pub append_small : (xs ys : List ℕ) → ((k : ℕ) → slice_index xs k ≤ 1) → ((k : ℕ) → slice_index ys k ≤ 1) → (k : ℕ) → slice_index (xs ++ ys) k ≤ 1
append_small [] ys h g k = g k
append_small (x ∷ xs) ys h g zero = h 0
append_small (x ∷ xs) ys h g (suc k) = append_small xs ys (λ j. h (suc j)) g k

cons_small : (x : ℕ) (xs : List ℕ) → x ≤ 1 → ((k : ℕ) → slice_index xs k ≤ 1) → (k : ℕ) → slice_index (x ∷ xs) k ≤ 1
cons_small x xs h g zero = h
cons_small x xs h g (suc k) = g k

pub none_small : (k : ℕ) → slice_index [] k ≤ 1
none_small k = omega arith

marks_small : (keys : Key → Bool) (m : Msg) (k : ℕ) → slice_index (marks_in keys m) k ≤ 1
marks_small keys (agent n) = cons_small 1 (0 ∷ []) (omega arith) (cons_small 0 [] (omega arith) none_small)
marks_small keys (nonce n) = cons_small 1 (0 ∷ 0 ∷ []) (omega arith) (zeros_small 2)
marks_small keys (text n) = cons_small 1 (0 ∷ 0 ∷ []) (omega arith) (zeros_small 2)
marks_small keys (key x) = cons_small 1 (0 ∷ 0 ∷ []) (omega arith) (zeros_small 2)
marks_small keys (pair l r) = cons_small 1 (marks_in keys l ++ marks_in keys r) (omega arith) (append_small (marks_in keys l) (marks_in keys r) (marks_small keys l) (marks_small keys r))
marks_small keys (seal x m) =
    let rest = cond (keys x) (marks_in keys m) (replicate (length (wire m)) 0) in
    cons_small 1 (0 ∷ 0 ∷ 0 ∷ rest) (omega arith) (cons_small 0 (0 ∷ 0 ∷ rest) (omega arith) (cons_small 0 (0 ∷ rest) (omega arith) (cons_small 0 rest (omega arith) (either (keys x) (marks_small keys m)))))
  where
    either : (b : Bool) → ((k : ℕ) → slice_index (marks_in keys m) k ≤ 1) → (k : ℕ) → slice_index (cond b (marks_in keys m) (replicate (length (wire m)) 0)) k ≤ 1
    either true h k = h k
    either false h k = zeros_small (length (wire m)) k

row_small : (keys : Key → Bool) (ms : List Msg) (k : ℕ) → slice_index (row_marks keys ms) k ≤ 1
row_small keys [] = none_small
row_small keys (m ∷ ms) = cons_small 0 (marks_in keys m ++ row_marks keys ms) (omega arith) (append_small (marks_in keys m) (row_marks keys ms) (marks_small keys m) (row_small keys ms))

same_list : (xs ys : List ℕ) → length xs ≡ length ys → ((k : ℕ) → slice_index xs k ≡ slice_index ys k) → xs ≡ ys
same_list [] [] e h = refl
same_list [] (y ∷ ys) e h = absurd (omega arith)
same_list (x ∷ xs) [] e h = absurd (omega arith)
same_list (x ∷ xs) (y ∷ ys) e h = let more = same_list xs ys (omega arith) (λ k. h (suc k)) in λ i. h 0 i ∷ more i

-- ---- a number that merely is

record Least (P : ℕ → Bool) (j : ℕ) : Type 0 where
  holds : P j ≡ true
  first : (i : ℕ) → i < j → P i ≡ false

least_from : (P : ℕ → Bool) (d k : ℕ) → ((i : ℕ) → i < k → P i ≡ false) → P (d + k) ≡ true → (j : ℕ) × Least P j
least_from P zero k below e = (k, record { holds = subst (λ i. P i ≡ true) (let z : 0 + k ≡ k = omega arith in z) e; first = below })
least_from P (suc d) k below e = by_here (P k) refl (λ more f. least_from P d (k + 1) more f)
  where
    more : P k ≡ false → (i : ℕ) → i < k + 1 → P i ≡ false
    more f i lt = elim (cases_lt i k) [ inl h ↦ below i h | inr h ↦ subst (λ n. P n ≡ false) (let z : k ≡ i = omega arith in z) f ]

    by_here : (b : Bool) → P k ≡ b → (((i : ℕ) → i < k + 1 → P i ≡ false) → P (d + (k + 1)) ≡ true → (j : ℕ) × Least P j) → (j : ℕ) × Least P j
    by_here true f next = (k, record { holds = f; first = below })
    by_here false f next = next (more f) (subst (λ i. P i ≡ true) (let z : suc d + k ≡ d + (k + 1) = omega arith in z) e)

least_prop : (P : ℕ → Bool) → IsProp ((j : ℕ) × Least P j)
least_prop P x y =
    let same : x.0 ≡ y.0 = one in
    λ i. (same i, is_prop→PathP (λ j. Least P (same j)) (λ j. prop (same j)) x.1 y.1 i)
  where
    prop : (j : ℕ) → IsProp (Least P j)
    prop j = hlevel props

    not_less : (a b : (j : ℕ) × Least P j) → a.0 < b.0 → ⊥
    not_less a b lt = let z : true ≡ false = sym a.1.holds ∙ b.1.first a.0 lt in cc

    one : x.0 ≡ y.0
    one = elim (cases_lt x.0 y.0) [ inl h ↦ absurd (not_less x y h) | inr h ↦ elim (cases_lt y.0 x.0) [ inl k ↦ absurd (not_less y x k) | inr k ↦ omega arith ] ]

pub merely_some : (P : ℕ → Bool) → ∥ ((n : ℕ) × (P n ≡ true)) ∥₁ → (n : ℕ) × (P n ≡ true)
merely_some P t =
    let (j, l) = ∥∥₁_elim t (least_prop P) (λ (n, e). least_from P n 0 (λ i lt. absurd (omega arith)) (subst (λ i. P i ≡ true) (let z : n ≡ n + 0 = omega arith in z) e)) in
    (j, l.holds)

-- ---- marks and what stands open

module _ (sheet : Sheet) (heard : List Msg) (marks told told_marks : List ℕ) where
  abbrev K : ℕ → Key → Bool
  K n = keys_at sheet (told_by sheet ++ heard) n

  pub settled_sound : Settled sheet heard marks told told_marks → (n : ℕ) × Sound sheet heard n marks told_marks
  unfolding RowSound
  settled_sound s =
      let (n, e) = merely_some (sound_at sheet heard marks told_marks) s.sound in
      let (p, q) = and_e (covered marks (row_marks (K n) heard)) (covered told_marks (row_marks (K n) (told_by sheet))) e in (
        n,
        record {
          heard-sound = λ k on. marked_open heard (K n) k (covered_at marks (row_marks (K n) heard) k p on);
          told-sound = λ k on. marked_open (told_by sheet) (K n) k (covered_at told_marks (row_marks (K n) (told_by sheet)) k q on);
        },
      )

  pub settled_complete : Settled sheet heard marks told told_marks → Complete sheet heard marks told_marks
  settled_complete s = record {
    heard-marked = λ n k m o. s.marked n k (open_marked o);
    told-marked = λ n k m o. s.told-marked n k (open_marked o);
  }

  pub state_settled : (n : ℕ) → length marks ≡ length (laid heard) → ((k : ℕ) → slice_index marks k ≤ 1) → told ≡ laid (told_by sheet) → All IsWhole (told_by sheet) → length told_marks ≡ length told → Sound sheet heard n marks told_marks → Complete sheet heard marks told_marks → Settled sheet heard marks told told_marks
  unfolding RowSound
  state_settled n long small told-is whole told-long sound complete = record {
    long = long;
    small = small;
    told-is = told-is;
    told-whole = whole;
    told-long = told-long;
    marked = λ j k e. let (m, o) = marked_open heard (K j) k e in complete.heard-marked j k m o;
    told-marked = λ j k e. let (m, o) = marked_open (told_by sheet) (K j) k e in complete.told-marked j k m o;
    sound = ∣ (
      n,
      and_i (covered marks (row_marks (K n) heard)) (covered told_marks (row_marks (K n) (told_by sheet)))
          (cover marks (row_marks (K n) heard) (λ k on. open_marked ((sound.heard-sound k on).1)))
          (cover told_marks (row_marks (K n) (told_by sheet)) (λ k on. open_marked ((sound.told-sound k on).1))),
    ) ∣₁;
  }

module _ (sheet : Sheet) (heard : List Msg) (marks told_marks : List ℕ) (n : ℕ) (sound : Sound sheet heard n marks told_marks) (complete : Complete sheet heard marks told_marks) (w : All IsWhole heard) (v : All IsWhole (told_by sheet)) where
  abbrev Row : List ℕ → Type 0
  Row wanted = Knows sheet (laid heard) marks (laid (told_by sheet)) told_marks wanted

  abbrev Keys : ℕ → Key → Bool
  Keys j = keys_at sheet (told_by sheet ++ heard) j

  stood : (bytes : List ℕ) (k : ℕ) (y m : Msg) (rest : List ℕ) → Stands bytes k y → drop k bytes ≡ wire m ++ rest → y ≡ m
  stood bytes k y m rest s e = (unique y m s.rest rest (sym s.splits ∙ e)).0

  knows_had : (m : Msg) → Row (wire m) → Had sheet heard m
  unfolding RowSound
  knows_had m (inl (y, r, h)) = own (subst (Own sheet) (same-tree y m r.form) h)
  knows_had m (inr (inl s)) =
      let (y, o) = sound.heard-sound s.at s.marked in
      of-heard n s.at (subst (Open heard (Keys n) s.at) (stood (laid heard) s.at y m s.rest (open_stands w o) s.splits) o)
  knows_had m (inr (inr s)) =
      let (y, o) = sound.told-sound s.at s.marked in
      of-told n s.at (subst (Open (told_by sheet) (Keys n) s.at) (stood (laid (told_by sheet)) s.at y m s.rest (open_stands v o) s.splits) o)

  had_knows : (m : Msg) → IsWhole m → Had sheet heard m → Row (wire m)
  had_knows m whole (own h) = inl (m, whole, h)
  had_knows m whole (of-told j k o) = let s = open_stands v o in inr (inr (record { at = k; marked = complete.told-marked j k m o; rest = s.rest; splits = s.splits }))
  had_knows m whole (of-heard j k o) = let s = open_stands w o in inr (inl (record { at = k; marked = complete.heard-marked j k m o; rest = s.rest; splits = s.splits }))

  key_whole : (x : Key) (m : Msg) → IsWhole (seal x m) → IsWhole (key x)
  key_whole (shared a b) m h = record { fits = h.fits.0; form = refl; short = omega arith }

  held_built : {m : Msg} → Builds (Held sheet (laid heard) marks (laid (told_by sheet)) told_marks) m → Builds (Had sheet heard) m
  held_built {m} (member h) = member (knows_had m h)
  held_built (pairing p q) = pairing (held_built p) (held_built q)
  held_built (sealing p q) = sealing (held_built p) (held_built q)

  built_held : {m : Msg} → IsWhole m → Builds (Had sheet heard) m → Builds (Held sheet (laid heard) marks (laid (told_by sheet)) told_marks) m
  built_held {m} whole (member h) = member (had_knows m whole h)
  built_held whole (pairing {l = l} {r = r} p q) = pairing (built_held (whole_first l r whole) p) (built_held (whole_second l r whole) q)
  built_held whole (sealing {k = k} {m = m} p q) = sealing (built_held (key_whole k m whole) p) (built_held (whole_content k m whole) q)

  -- to be made is to be generated
  pub made_generated : (m : Msg) → Builds (Held sheet (laid heard) marks (laid (told_by sheet)) told_marks) m → Generates (Known sheet heard) m
  made_generated m b = built_generated sheet heard (held_built b)

  pub generated_made : (m : Msg) → IsWhole m → Generates (Known sheet heard) m → Builds (Held sheet (laid heard) marks (laid (told_by sheet)) told_marks) m
  generated_made m whole g = built_held whole (generated_built sheet heard g)

  -- ---- the keys that are known

  complete_key : (j : ℕ) (x : Key) → Keys j x ≡ true → Row (key_bytes x)
  unfolding keys_at
  complete_key zero x e = inl (own_owned sheet x ((own_told sheet x).0 e))
  complete_key (suc j) x e =
      elim (or_cases (Keys j x) (shown (Keys j) x (told_by sheet ++ heard)) e) [
        | inl h ↦ complete_key j x h
        | inr h ↦ elim (shown-append_cases (Keys j) x (told_by sheet) heard h) [
          | inl p ↦ let (k, o) = shown_open (told_by sheet) (Keys j) x p in let s = open_stands v o in inr (inr (record { at = k; marked = complete.told-marked j k (key x) o; rest = s.rest; splits = s.splits }))
          | inr p ↦ let (k, o) = shown_open heard (Keys j) x p in let s = open_stands w o in inr (inl (record { at = k; marked = complete.heard-marked j k (key x) o; rest = s.rest; splits = s.splits }))
        ]
      ]

  pub keys_generated : (x : Key) → Decides (Keys (suc n) x) (Generates (Known sheet heard) (key x))
  keys_generated x = (
    keys_made sheet heard (suc n) x,
    λ g. let (j, e) = generated_key sheet heard x g in known_key sheet heard w v n marks told_marks sound x (complete_key j x e),
  )

  pub marks_are : length marks ≡ length (laid heard) → ((k : ℕ) → slice_index marks k ≤ 1) → marks ≡ row_marks (Keys (suc n)) heard
  unfolding RowSound
  marks_are long small = same_list marks (row_marks (Keys (suc n)) heard) (long ∙ sym (length-row (Keys (suc n)) heard)) at
    where
      rows : (k : ℕ) → Marked marks k → Marked (row_marks (Keys (suc n)) heard) k
      rows k on = open_marked (open_more (one_round sheet heard n) (sound.heard-sound k on).1)

      back : (k : ℕ) → Marked (row_marks (Keys (suc n)) heard) k → Marked marks k
      back k on = let (m, o) = marked_open heard (Keys (suc n)) k on in complete.heard-marked (suc n) k m o

      at : (k : ℕ) → slice_index marks k ≡ slice_index (row_marks (Keys (suc n)) heard) k
      at k = elim (same_or (slice_index marks k) 1) [
        | inl e ↦ e ∙ sym (rows k e)
        | inr d ↦ elim (same_or (slice_index (row_marks (Keys (suc n)) heard) k) 1) [
          | inl e ↦ absurd (d (back k e))
          | inr f ↦ omega (arith, small k, row_small (Keys (suc n)) heard k)
        ]
      ]
