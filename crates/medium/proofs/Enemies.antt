-- What an enemy's taking leaves in its areas.
use Rattle.std.proofs.Common.{◌≡◌, ℕ, zero, suc, ◌+◌, ◌-◌, ◌<◌, ◌≤◌, Bool, true, false, Decides, All, List, [], ◌∷◌, ◌++◌, length, min, replicate, take, drop, set, inl, inr, sym, refl, ap, subst, ◌∙◌, arith, append_assoc, length-append, length-take}
use Rattle.std.proofs.Math.Path.{transport}
use Rattle.std.proofs.lemmas.Bool.{cases_lt}
use Rattle.std.proofs.lemmas.List.{get_or-append_right, get_or_append_left, length-replicate, nil_from_length, take-append-drop}
use Rattle.std.proofs.lemmas.List.Elements.{All-nil}
use Rattle.std.specs.List.{slice_index}
use Rattle.message.specs.Message.{IsMessage, Key, Msg, Reads, wire}
use Rattle.message.proofs.Forms.{nonempty}
use Rattle.model.specs.Sheet.{Sheet}
use Rattle.sheet.specs.Kept.{contents_of}
use Rattle.medium.specs.declared.enemy.Enemy.{Enemy}
use Rattle.medium.specs.Enemies.{MarksLie, Takes, analysing, heard}
use Rattle.medium.specs.Making.{Makes}
use Rattle.medium.specs.Marks.{row_marks, told_by}
use Rattle.medium.specs.Media.{Declines, Offers}
use Rattle.medium.specs.Rounds.{keys_at}
use Rattle.medium.specs.Settled.{Analysed, Settled}
use Rattle.medium.specs.Single.{front_is, one_held}
use Rattle.medium.specs.Told.{Tells, first_marks}
use Rattle.medium.specs.Spreading.{Both, Grows, Learns, Settles, Marked, both_heard, both_same, both_told, more, same}
use Rattle.medium.specs.Store.{Admits, Holds, IsWhole, Lies, Put, cost, counted, laid}
use Rattle.medium.proofs.Analysing.{append_small, none_small, generated_made, keys_generated, made_generated, marks_are, settled_complete, settled_sound, state_settled, zeros_small}
use Rattle.medium.proofs.Hearing.{learnt_complete, learnt_sound, told_kept}
use Rattle.medium.proofs.Knowing.{RowSound, Sound, Starts, both_sound, heard_complete, told_complete}
use Rattle.medium.proofs.Open.{Open, all_zeros, begins, laid-append}
use Rattle.medium.proofs.Relaying.{used_cost, whole_form}
use Rattle.medium.proofs.Telling.{length-first}
use Rattle.medium.proofs.Storing.{put_holds, put_lies, put_long}
use Rattle.medium.proofs.Spreading.{grows_length}

-- ---- marks stay 0 or 1

set_small : (xs : List ℕ) (k : ℕ) → ((i : ℕ) → slice_index xs i ≤ 1) → (i : ℕ) → slice_index (set xs k 1) i ≤ 1
set_small [] k h i = h i
set_small (x ∷ xs) zero h zero = omega arith
set_small (x ∷ xs) zero h (suc i) = h (suc i)
set_small (x ∷ xs) (suc k) h zero = h 0
set_small (x ∷ xs) (suc k) h (suc i) = set_small xs k (λ j. h (suc j)) i

grows_small : (sheet : Sheet) (bytes other other_marks : List ℕ) {before after : List ℕ} → Grows sheet bytes other other_marks before after → ((i : ℕ) → slice_index before i ≤ 1) → (i : ℕ) → slice_index after i ≤ 1
grows_small sheet bytes other other_marks same h = h
grows_small sheet bytes other other_marks (more {marks = marks} j k g on w) h = set_small marks k (grows_small sheet bytes other other_marks g h)

both_small : (sheet : Sheet) (bytes told : List ℕ) {m0 t0 m t : List ℕ} → Both sheet bytes told m0 t0 m t → ((i : ℕ) → slice_index m0 i ≤ 1) → (i : ℕ) → slice_index m i ≤ 1
both_small sheet bytes told both_same h = h
both_small sheet bytes told (both_heard a b c g w) h = grows_small sheet bytes told c w (both_small sheet bytes told g h)
both_small sheet bytes told (both_told a b c g w) h = both_small sheet bytes told g h

pub both_told_length : (sheet : Sheet) (bytes told : List ℕ) {m0 t0 m t : List ℕ} → Both sheet bytes told m0 t0 m t → length t ≡ length t0
both_told_length sheet bytes told both_same = refl
both_told_length sheet bytes told (both_heard a b c g w) = both_told_length sheet bytes told g
both_told_length sheet bytes told (both_told a b c g w) = grows_length sheet told bytes a w ∙ both_told_length sheet bytes told g

-- ---- the areas after a message of these bytes

pub record Hearing (sheet : Sheet) (used : ℕ) (area marks told tm area2 marks2 told2 tm2 bytes : List ℕ) : Type 0 where
  pub room : used + length bytes + 1 ≤ length area
  pub marks-room : used + length bytes + 1 ≤ length marks
  pub put : Put used bytes area area2
  pub told-same : told2 ≡ told
  pub learns : Learns sheet (take (used + length bytes + 1) area2) told (take used marks ++ replicate (length bytes + 1) 0) tm (take (used + length bytes + 1) marks2) tm2 (used + 1)
  pub marks-long : length marks2 ≡ length marks

module _ (sheet : Sheet) (used : ℕ) (area marks told tm area2 marks2 told2 tm2 : List ℕ) (before : List Msg) (m : Msg) (holds : Holds used area before) (settled : Settled sheet before (take used marks) told tm) (whole : IsWhole m) (h : Hearing sheet used area marks told tm area2 marks2 told2 tm2 (wire m)) where
  end-is : used + length (wire m) + 1 ≡ used + cost m
  end-is = omega arith

  room-here : used + cost m ≤ length area
  room-here = omega (arith, h.room)

  now-holds : Holds (used + cost m) area2 (before ++ m ∷ [])
  now-holds = put_holds used area area2 before m holds whole room-here h.put

  area-is : take (used + length (wire m) + 1) area2 ≡ laid (before ++ m ∷ [])
  area-is = ap (λ n. take n area2) end-is ∙ front_is (used + cost m) area2 (before ++ m ∷ []) now-holds

  old-long : length (take used marks) ≡ used
  old-long = omega (arith, h.marks-room, length-take used marks)

  start : List ℕ
  start = take used marks ++ replicate (length (wire m) + 1) 0

  kept : (k : ℕ) → k < length (laid before) → slice_index start k ≡ slice_index (take used marks) k
  unfolding start
  kept k lt = get_or_append_left (take used marks) (replicate (length (wire m) + 1) 0) 0 k (omega (arith, old-long, holds.long))

  clear : (k : ℕ) → length (laid before) ≤ k → slice_index start k ≡ 0
  unfolding start
  clear k ge = get_or-append_right (take used marks) (replicate (length (wire m) + 1) 0) used k 0 old-long (omega (arith, holds.long)) ∙ all_zeros (length (wire m) + 1) (k - used)

  at-is : used + 1 ≡ length (laid before) + 1
  at-is = omega (arith, holds.long)

  learnt : Learns sheet (laid (before ++ m ∷ [])) (laid (told_by sheet)) start tm (take (used + length (wire m) + 1) marks2) tm2 (length (laid before) + 1)
  unfolding start
  learnt = transport (λ i. Learns sheet (area-is i) (settled.told-is i) (take used marks ++ replicate (length (wire m) + 1) 0) tm (take (used + length (wire m) + 1) marks2) tm2 (at-is i)) h.learns

  start-long : length (laid before) + 1 < length start
  unfolding start
  start-long = omega (arith, length-append (take used marks) (replicate (length (wire m) + 1) 0), old-long, length-replicate {A = ℕ} (length (wire m) + 1) 0, holds.long, nonempty m)

  new_settled : Settled sheet (before ++ m ∷ []) (take (used + cost m) marks2) told2 tm2
  unfolding start
  new_settled =
      let (n, sound) = settled_sound sheet before (take used marks) told tm settled in
      let complete = settled_complete sheet before (take used marks) told tm settled in
      let (j, after) = learnt_sound sheet before m holds.whole settled.told-whole whole (take used marks) start tm n sound complete kept clear (take (used + length (wire m) + 1) marks2) tm2 start-long learnt in
      let done = learnt_complete sheet before m holds.whole settled.told-whole whole (take used marks) start tm n sound complete kept clear (take (used + length (wire m) + 1) marks2) tm2 start-long learnt in
      subst (λ k. Settled sheet (before ++ m ∷ []) (take k marks2) told2 tm2) end-is
      (state_settled sheet (before ++ m ∷ []) (take (used + length (wire m) + 1) marks2) told2 tm2 j
      (omega (arith, length-take (used + length (wire m) + 1) marks2, h.marks-long, h.marks-room, now-holds.long))
      (both_small sheet (laid (before ++ m ∷ [])) (laid (told_by sheet)) learnt.grows (set_small start (length (laid before) + 1) (append_small (take used marks) (replicate (length (wire m) + 1) 0) settled.small (zeros_small (length (wire m) + 1)))))
      (h.told-same ∙ settled.told-is)
      settled.told-whole
      (both_told_length sheet (laid (before ++ m ∷ [])) (laid (told_by sheet)) learnt.grows ∙ settled.told-long ∙ ap length (sym h.told-same))
      after done)

-- ---- an enemy before and after

pub analysed_more : (sheet : Sheet) (used : ℕ) (area marks told tm area2 marks2 told2 tm2 bytes : List ℕ) (n : ℕ) → n ≡ used + (length bytes + 1) → Analysed sheet used area marks told tm → Admits (counted (min (length area) (length marks))) used bytes → Hearing sheet used area marks told tm area2 marks2 told2 tm2 bytes → length area2 ≡ length area → Analysed sheet n area2 marks2 told2 tm2
analysed_more sheet used area marks told tm area2 marks2 told2 tm2 bytes n is (within, rest) (m, r, room) h kept-long =
    let whole = whole_form bytes m r in
    let here : Hearing sheet used area marks told tm area2 marks2 told2 tm2 (wire m) = subst (Hearing sheet used area marks told tm area2 marks2 told2 tm2) (sym r.form) h in
    let long = ap length r.form in
    let k : used + cost m ≡ n = omega (arith, is) in (
      omega (arith, kept-long, h.marks-long, is),
      (
        rest.0 ++ m ∷ [],
        subst (λ i. Holds i area2 (rest.0 ++ m ∷ [])) k (now-holds sheet used area marks told tm area2 marks2 told2 tm2 rest.0 m rest.1 rest.2 whole here),
        subst (λ i. Settled sheet (rest.0 ++ m ∷ []) (take i marks2) told2 tm2) k (new_settled sheet used area marks told tm area2 marks2 told2 tm2 rest.0 m rest.1 rest.2 whole here),
      ),
    )

-- an enemy's marks are of all that is generated
pub marks_lie : (e : Enemy) (old : List ℕ) → drop e.used e.marks.now ≡ drop e.used old → MarksLie (contents_of e.sheet.now) (heard e) old e.marks.now
unfolding heard
marks_lie e old behind =
    let sheet = contents_of e.sheet.now in
    let (all, holds, settled) = e.analysed.1 in
    let (n, sound) = settled_sound sheet all (take e.used e.marks.now) e.told.bytes.items e.told.marks.items settled in
    let complete = settled_complete sheet all (take e.used e.marks.now) e.told.bytes.items e.told.marks.items settled in (
      keys_at sheet (told_by sheet ++ all) (suc n),
      keys_generated sheet all (take e.used e.marks.now) e.told.marks.items n sound complete holds.whole settled.told-whole,
      sym (take-append-drop e.used e.marks.now)
          ∙ ap (λ l. l ++ drop e.used e.marks.now) (marks_are sheet all (take e.used e.marks.now) e.told.marks.items n sound complete holds.whole settled.told-whole settled.long settled.small)
          ∙ ap (λ l. row_marks (keys_at sheet (told_by sheet ++ all) (suc n)) all ++ l) behind
          ∙ ap (λ k. row_marks (keys_at sheet (told_by sheet ++ all) (suc n)) all ++ drop k old) (sym holds.long),
    )

pub enemy_takes : (s t : Enemy) (bytes : List ℕ) → Admits (counted (min (length s.area.now) (length s.marks.now))) s.used bytes → t.sheet.now ≡ s.sheet.now → t.used ≡ s.used + (length bytes + 1) → Hearing (contents_of s.sheet.now) s.used s.area.now s.marks.now s.told.bytes.items s.told.marks.items t.area.now t.marks.now t.told.bytes.items t.told.marks.items bytes → drop (s.used + length bytes + 1) t.marks.now ≡ drop (s.used + length bytes + 1) s.marks.now → t.area.ghost_name ≡ s.area.ghost_name → t.marks.ghost_name ≡ s.marks.ghost_name → (m : Msg) × Reads bytes m × Takes s m t
unfolding heard
enemy_takes s t bytes (m, r, room) sheet used h behind area-name marks-name =
    let whole = whole_form bytes m r in
    let old = s.analysed.1 in
    let now-used : s.used + cost m ≡ t.used = omega (arith, ap length r.form) in
    let end : t.used ≡ s.used + length bytes + 1 = omega arith in
    let put : Put s.used (wire m) s.area.now t.area.now = subst (λ b. Put s.used b s.area.now t.area.now) (sym r.form) h.put in
    let within : s.used + cost m ≤ length s.area.now = omega (arith, h.room, ap length r.form) in
    let new = put_holds s.used s.area.now t.area.now old.0 m old.1 whole within put in
    let all : heard t ≡ heard s ++ m ∷ [] = one_held t.used t.area.now (heard t) (old.0 ++ m ∷ []) t.analysed.1.1 (subst (λ n. Holds n t.area.now (old.0 ++ m ∷ [])) now-used new) in
    let lies : Lies (old.0 ++ m ∷ []) s.area.now t.area.now = put_lies s.used s.area.now t.area.now old.0 m old.1 whole within put ∙ ap (λ k. laid (old.0 ++ m ∷ []) ++ drop k s.area.now) (sym (put_long s.used s.area.now t.area.now old.0 m old.1 whole within put)) in (
      m,
      r,
      record {
        hears = record {
          space = omega (arith, room, used_cost s.used s.area.now old.0 old.1);
          sheet = ap contents_of sheet;
          heard = all;
        };
        area = subst (λ l. Lies l s.area.now t.area.now) (sym all) lies;
        marks = marks_lie t s.marks.now (ap (λ k. drop k t.marks.now) end ∙ behind ∙ ap (λ k. drop k s.marks.now) (sym end));
        same-area = area-name;
        same-marks = marks-name;
      },
    )

pub enemy_declines : (s : Enemy) (bytes : List ℕ) → (Admits (counted (min (length s.area.now) (length s.marks.now))) s.used bytes → ⊥) → Declines (analysing s) bytes
unfolding heard
enemy_declines s bytes none m r room = none (m, r, omega (arith, room, used_cost s.used s.area.now s.analysed.1.0 s.analysed.1.1))

pub enemy_offers : (s : Enemy) (bytes : List ℕ) (answer : Bool) (told tm : List ℕ) → told ≡ s.told.bytes.items → tm ≡ s.told.marks.items → IsMessage bytes → Makes (contents_of s.sheet.now) (take (s.used - 0) (drop 0 s.area.now)) (take (s.used - 0) (drop 0 s.marks.now)) told tm bytes answer → Decides answer (Offers (analysing s) bytes)
unfolding heard
enemy_offers s bytes answer told tm et em (m, r) makes =
    let sheet = contents_of s.sheet.now in
    let (all, holds, settled) = s.analysed.1 in
    let (n, sound) = settled_sound sheet all (take s.used s.marks.now) s.told.bytes.items s.told.marks.items settled in
    let complete = settled_complete sheet all (take s.used s.marks.now) s.told.bytes.items s.told.marks.items settled in
    let whole : s.used - 0 ≡ s.used = omega arith in
    let rows : Makes sheet (laid all) (take s.used s.marks.now) (laid (told_by sheet)) s.told.marks.items bytes answer = transport (λ i. Makes sheet ((ap (λ k. take k s.area.now) whole ∙ front_is s.used s.area.now all holds) i) (take (whole i) s.marks.now) ((et ∙ settled.told-is) i) (em i) bytes answer) makes in (
      λ yes-answer. (m, r, made_generated sheet all (take s.used s.marks.now) s.told.marks.items n sound complete holds.whole settled.told-whole m ((rows m r).0 yes-answer)),
      λ (k, q, g). (rows k q).1 (generated_made sheet all (take s.used s.marks.now) s.told.marks.items n sound complete holds.whole settled.told-whole k (whole_form bytes k q) g),
    )

-- ---- an enemy that is made

first_open : (ms : List Msg) (keys : Key → Bool) (before after : List Msg) (j : ℕ) → ms ≡ before ++ after → Marked (first_marks after) j → (m : Msg) × Open ms keys (length (laid before) + j) m
first_open ms keys before [] j e on = absurd (omega arith)
first_open ms keys before (m ∷ after) zero e on = absurd (omega arith)
first_open ms keys before (m ∷ after) (suc zero) e on = (m, subst (λ k. Open ms keys k m) (let z : length (laid before) + 1 ≡ length (laid before) + suc zero = omega arith in z) (begins before m after e))
first_open ms keys before (m ∷ after) (suc (suc j)) e on =
    let rest = length (wire m) - 1 in
    elim (cases_lt j rest) [
      | inl lt ↦
          let z : ◌≡◌ {A = ℕ} 0 1 = sym (get_or_append_left (replicate rest 0) (first_marks after) 0 j (omega (arith, length-replicate {A = ℕ} rest 0)) ∙ all_zeros rest j) ∙ on in
          absurd (omega arith)
      | inr ge ↦
          let (n, o) = first_open ms keys (before ++ m ∷ []) after (j - rest) (e ∙ sym (append_assoc before (m ∷ []) after)) (sym (get_or-append_right (replicate rest 0) (first_marks after) rest j 0 (length-replicate rest 0) ge) ∙ on) in
          let long : length (laid (before ++ m ∷ [])) ≡ length (laid before) + 1 + length (wire m) = ap length (laid-append before (m ∷ [])) ∙ omega (arith, length-append (laid before) (laid (m ∷ [])), length-append (wire m) (laid [])) in
          (n, subst (λ k. Open ms keys k n) (let z : length (laid (before ++ m ∷ [])) + (j - rest) ≡ length (laid before) + suc (suc j) = omega (arith, nonempty m) in z) o)
    ]

first_at : (before : List Msg) (m : Msg) (after : List Msg) → Marked (first_marks (before ++ m ∷ after)) (length (laid before) + 1)
first_at [] m after = refl
first_at (n ∷ before) m after =
    let rest = length (wire n) - 1 in
    let tail = replicate rest 0 ++ first_marks (before ++ m ∷ after) in
    let place : length (laid (n ∷ before)) + 1 ≡ suc (suc (rest + (length (laid before) + 1))) = omega (arith, length-append (wire n) (laid before), nonempty n) in
    ap (λ k. slice_index (0 ∷ 1 ∷ tail) k) place
    ∙ get_or-append_right (replicate rest 0) (first_marks (before ++ m ∷ after)) rest (rest + (length (laid before) + 1)) 0 (length-replicate rest 0) (omega arith)
    ∙ ap (λ k. slice_index (first_marks (before ++ m ∷ after)) k) (let z : rest + (length (laid before) + 1) - rest ≡ length (laid before) + 1 = omega arith in z)
    ∙ first_at before m after

none_marked : (k : ℕ) → Marked [] k → ⊥
none_marked k e = omega arith

module _ (sheet : Sheet) (after told_after : List ℕ) (whole : All IsWhole (told_by sheet)) (s : Settles sheet [] (laid (told_by sheet)) [] (first_marks (told_by sheet)) after told_after true) (none : length after ≡ 0) where
  nothing : All IsWhole []
  nothing = All-nil IsWhole

  first_sound : Sound sheet [] 0 [] (first_marks (told_by sheet))
  unfolding RowSound
  first_sound = record {
    heard-sound = λ k on. absurd (none_marked k on);
    told-sound = λ k on.
        let (m, o) = first_open (told_by sheet) (keys_at sheet (told_by sheet ++ []) 0) [] (told_by sheet) k refl on in
        (m, subst (λ i. Open (told_by sheet) (keys_at sheet (told_by sheet ++ []) 0) i m) (let z : 0 + k ≡ k = omega arith in z) o);
  }

  first_starts : Starts [] after
  unfolding Starts
  first_starts before m rest e = absurd (omega (arith, ap length e, length-append before (m ∷ rest)))

  told_starts : Starts (told_by sheet) told_after
  unfolding Starts
  told_starts before m rest e = told_kept sheet [] (laid (told_by sheet)) s.grows (length (laid before) + 1) (subst (λ l. Marked (first_marks l) (length (laid before) + 1)) (sym e) (first_at before m rest))

  empty : after ≡ []
  empty = nil_from_length after none

  first_settled : Settled sheet [] [] (laid (told_by sheet)) told_after
  first_settled =
      let (j, sound) = both_sound sheet [] nothing whole 0 [] (first_marks (told_by sheet)) after told_after first_sound s.grows in
      let apart = s.apart (λ e. let z : true ≡ false = e in cc) in
      subst (λ l. Settled sheet [] l (laid (told_by sheet)) told_after) empty
      (state_settled sheet [] after (laid (told_by sheet)) told_after j none (λ k. subst (λ l. slice_index l k ≤ 1) (sym empty) (none_small k)) refl whole
      (both_told_length sheet [] (laid (told_by sheet)) s.grows ∙ length-first (told_by sheet))
      sound
      (record {
        heard-marked = heard_complete sheet [] nothing whole after told_after first_starts told_starts apart;
        told-marked = told_complete sheet [] nothing whole after told_after first_starts told_starts apart;
      }))

pub started : (sheet : Sheet) (area told first after told_after told_out : List ℕ) → Tells (told_by sheet) told first → Settles sheet [] told [] first after told_after true → length after ≡ 0 → told_out ≡ told_after → (heard : List Msg) × Holds 0 area heard × Settled sheet heard [] told told_out
started sheet area told first after told_after told_out t s none e =
    let here : Settles sheet [] (laid (told_by sheet)) [] (first_marks (told_by sheet)) after told_after true = transport (λ i. Settles sheet [] (t.bytes-are i) [] (t.marks-are i) after told_after true) s in (
      [],
      record { whole = All-nil IsWhole; long = refl; front = refl },
      transport (λ i. Settled sheet [] [] (sym t.bytes-are i) (sym e i)) (first_settled sheet after told_after t.whole here none),
    )

pub told_long : (sheet : Sheet) (bytes marks told tm : List ℕ) → Tells (told_by sheet) bytes marks → told ≡ bytes → tm ≡ marks → length tm ≡ length told
told_long sheet bytes marks told tm t e f = ap length (f ∙ t.marks-are) ∙ length-first (told_by sheet) ∙ ap length (sym (e ∙ t.bytes-are))

pub enemy_silent : (e : Enemy) → e.used ≡ 0 → heard e ≡ []
unfolding heard
enemy_silent e none = one_held e.used e.area.now (heard e) [] e.analysed.1.1 (record { whole = All-nil IsWhole; long = sym none; front = ap (λ n. drop n e.area.now) (sym none) })

pub settled_from : (sheet : Sheet) (t told tm first after told_after : List ℕ) → t ≡ told → tm ≡ first → Settles sheet [] t [] tm after told_after true → Settles sheet [] told [] first after told_after true
settled_from sheet t told tm first after told_after e f s = transport (λ i. Settles sheet [] (e i) [] (f i) after told_after true) s
