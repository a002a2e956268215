-- Events as the log keeps them.
use Rattle.std.proofs.Common.{◌≡◌, ℕ, zero, suc, ◌+◌, ◌≤◌, List, [], ◌∷◌, ◌++◌, map, length, drop, Some, None, Option, sym, refl, ap, ◌∙◌, arith}
use Rattle.std.specs.Prelude.{replicate}
use Rattle.std.specs.List.{slice_get}
use Rattle.std.specs.Option.{option_map}
use Rattle.message.specs.declared.Atom.{Atom}
use Rattle.model.specs.declared.node.Field.{Field}
use Rattle.model.specs.declared.name.Name.{Name}
use Rattle.model.specs.Names.{letters}
use Rattle.instances.specs.Actions.{atoms_under, event}
use Rattle.instances.specs.Substitution.{Values, both, value}
use Rattle.board.specs.Placing.{each}
use Rattle.board.specs.Records.{in_places, there}
use Rattle.board.specs.Steps.{Keeps}
use Rattle.board.proofs.Placing.{Placed, each_missing, placed_all}

-- what a field stands for, as a place has it
abbrev pub place : Values → ℕ → Field → Option (Option Atom)
place v i f = option_map Some (value v f)

both_places : {A : Type 0} (o : Option A) (os : Option (List A)) → both (λ y ys. y ∷ ys) (option_map Some o) (option_map (map Some) os) ≡ option_map (map Some) (both (λ y ys. y ∷ ys) o os)
both_places None os = refl
both_places (Some x) None = refl
both_places (Some x) (Some xs) = refl

places_are : (v : Values) (k : ℕ) (fs : List Field) → each (place v) k fs ≡ option_map (map Some) (atoms_under v fs)
places_are v k [] = refl
places_are v k (f ∷ fs) = ap (λ o. both (λ y ys. y ∷ ys) (option_map Some (value v f)) o) (places_are v (k + 1) fs) ∙ both_places (value v f) (atoms_under v fs)

there_places : (xs : List Atom) (n : ℕ) → there (map Some xs ++ replicate n None) ≡ xs
there_places [] zero = refl
there_places [] (suc n) = there_places [] n
there_places (x ∷ xs) n = ap (λ l. x ∷ l) (there_places xs n)

drop_none : (k n : ℕ) → (m : ℕ) × (drop k (replicate {A = Option Atom} n None) ≡ replicate m None)
drop_none zero n = (n, refl)
drop_none (suc k) zero = (0, refl)
drop_none (suc k) (suc n) = drop_none k n

in_places_are : (n : ℕ) (xs : List Atom) → length xs ≤ n → in_places n xs ≡ map Some xs ++ drop (length xs) (replicate n None)
in_places_are zero [] h = refl
in_places_are zero (x ∷ xs) h = absurd (omega arith)
in_places_are (suc n) [] h = ap (λ l. None ∷ l) (in_places_are n [] (omega arith))
in_places_are (suc n) (x ∷ xs) h = ap (λ l. Some x ∷ l) (in_places_are n xs (omega arith))

length_map : {A B : Type 0} (f : A → B) (xs : List A) → length (map f xs) ≡ length xs
length_map f [] = refl
length_map f (x ∷ xs) = ap suc (length_map f xs)

module _ (v : Values) (word : Name) (fs : List Field) where
  none_of : {A B : Type 0} (f : A → B) (o : Option A) → option_map f o ≡ None → o ≡ None
  none_of f None e = refl
  none_of f (Some x) e = cc

  -- a field stands for nothing
  pub no_event : (i : ℕ) (f : Field) → slice_get fs i ≡ Some f → value v f ≡ None → event v (record { word = letters word; fields = fs }) ≡ None
  no_event i f is none =
      let missing = each_missing (place v) i fs f is (ap (option_map Some) none) in
      ap (option_map (λ xs. record { word = letters word; atoms = xs })) (none_of (map Some) (atoms_under v fs) (sym (places_are v 0 fs) ∙ missing))

  -- all are placed
  pub event_kept : (i : ℕ) (now : List (Option Atom)) → Placed (place v) fs (replicate 4 None) i now → length fs ≤ i → i ≤ 4
      → Keeps (event v (record { word = letters word; fields = fs })) (Some (record { word = word; atoms = now }))
  event_kept i now p all few = keeps (atoms_under v fs) refl
    where
      keeps : (o : Option (List Atom)) → atoms_under v fs ≡ o → Keeps (event v (record { word = letters word; fields = fs })) (Some (record { word = word; atoms = now }))
      keeps None e =
          let (ys, are, many, lie) = placed_all (place v) fs (replicate 4 None) now i p all in
          absurd (let z : None ≡ Some ys = sym (ap (option_map (map Some)) e) ∙ sym (places_are v 0 fs) ∙ are in cc)
      keeps (Some xs) e =
          let (ys, are, many, lie) = placed_all (place v) fs (replicate 4 None) now i p all in
          let z : Some (map Some xs) ≡ Some ys = sym (ap (option_map (map Some)) e) ∙ sym (places_are v 0 fs) ∙ are in
          let same : map Some xs ≡ ys = cc in
          let many : length xs ≡ i = sym (length_map Some xs) ∙ ap length same ∙ many in
          let now-is : now ≡ map Some xs ++ drop i (replicate 4 None) = lie ∙ ap (λ l. l ++ drop i (replicate 4 None)) (sym same) in
          let (m, rest) = drop_none i 4 in
          let atoms : there now ≡ xs = ap there now-is ∙ ap (λ l. there (map Some xs ++ l)) rest ∙ there_places xs m in
          let kept : now ≡ in_places 4 (there now) = now-is ∙ ap (λ j. map Some xs ++ drop j (replicate 4 None)) (sym many) ∙ sym (in_places_are 4 xs (omega arith)) ∙ ap (in_places 4) (sym atoms) in (
            ap (option_map (λ xs. record { word = letters word; atoms = xs })) (e ∙ ap Some (sym atoms)),
            ap (λ l. record { word = word; atoms = l }) kept,
          )
