-- The rank of the event that a signal is under values, without making the event.
use Rattle.std.specs.Prelude.{◌≡◌, suc, true, false, ◌&&◌, List, [], ◌∷◌, length, ℤ, is_some, Some, None, Option, Decides, ◌==◌}
use Rattle.std.specs.List.{list_all, zip}
use Rattle.std.specs.Option.{option_map, unwrap_or}
use Rattle.std.specs.Str.{bytes_eq}
use Rattle.std.proofs.Common.{sym, refl, ap, subst, ◌∙◌}
use Rattle.std.proofs.lemmas.Option.{none-some, same_Some}
use Rattle.std.proofs.lemmas.Bool.{false≢true}
use Rattle.message.specs.declared.Atom.{Atom}
use Rattle.model.specs.declared.node.Field.{Field}
use Rattle.model.specs.Sheet.{Sheet, Signal}
use Rattle.instances.specs.Actions.{Event, atoms_under, event}
use Rattle.instances.specs.Substitution.{Values, both, value}
use Rattle.instances.proofs.Parts.{of-both}
use Rattle.scale.specs.Scales.{Scale}
use Rattle.ranks.specs.Matching.{is_event, is_event_under, is_name_of, may_stand}
use Rattle.ranks.specs.Ranking.{first_rank, mark_rank}
use Rattle.ranks.specs.Ranks.{EventRank, ListsEvent, ListsSignal, SignalRank, event_of}
use Rattle.ranks.proofs.Events.{event_ranked, lists}

-- both are there
some_both : {A B C : Type 0} (f : A → B → C) (a : Option A) (b : Option B) → (is_some a && is_some b) ≡ is_some (both f a b)
some_both f None b = refl
some_both f (Some x) None = refl
some_both f (Some x) (Some y) = refl

module _ (v : Values) where
  -- each field stands for something exactly where all the atoms are there
  all_there : (fs : List Field) → list_all (λ f. is_some (value v f)) fs ≡ is_some (atoms_under v fs)
  all_there [] = refl
  all_there (f ∷ fs) = ap (λ t. is_some (value v f) && t) (all_there fs) ∙ some_both (λ (x : Atom) xs. x ∷ xs) (value v f) (atoms_under v fs)

  lengths_under : (gs : List Field) (xs : List Atom) → atoms_under v gs ≡ Some xs → length gs ≡ length xs
  lengths_under [] xs e = ap length (same_Some [] xs e)
  lengths_under (g ∷ gs) xs e =
      let (x, ys, at, rest, is) = of-both (value v g) (atoms_under v gs) e in
      ap (λ n. suc n) (lengths_under gs ys rest) ∙ sym (ap length is)

  pairs_under : (fs gs : List Field) (xs : List Atom) → atoms_under v gs ≡ Some xs
      → list_all (λ p. is_name_of p.0 (value v p.1)) (zip fs gs) ≡ list_all (λ p. may_stand [] [] p.0 p.1) (zip fs xs)
  pairs_under [] gs xs e = refl
  pairs_under (f ∷ fs) [] xs e = ap (λ ys. list_all (λ p. may_stand [] [] p.0 p.1) (zip (f ∷ fs) ys)) (same_Some [] xs e)
  pairs_under (f ∷ fs) (g ∷ gs) xs e =
      let (x, ys, at, rest, is) = of-both (value v g) (atoms_under v gs) e in
      let later = pairs_under fs gs ys rest in
      (λ i. is_name_of f (at i) && later i) ∙ sym (ap (λ zs. list_all (λ p. may_stand [] [] p.0 p.1) (zip (f ∷ fs) zs)) is)

  same_event : (line s : Signal) (xs : List Atom) → atoms_under v s.fields ≡ Some xs → is_event_under v line s ≡ is_event line s.word xs
  same_event line s xs e =
      let same = lengths_under s.fields xs e in
      let pairs = pairs_under line.fields s.fields xs e in
      (λ i. bytes_eq line.word s.word && (length line.fields == same i && pairs i))

  module _ (scale : Scale) (sheet : Sheet) (s : Signal) where
    abbrev under : ℤ
    under = unwrap_or (first_rank (λ l. is_event_under v l s) sheet.marks) scale.fixed

    pub signal_ranked : list_all (λ f. is_some (value v f)) s.fields ≡ true → SignalRank scale sheet (event v s) (Some under)
    signal_ranked all = go (atoms_under v s.fields) refl
      where
        go : (o : Option (List Atom)) → atoms_under v s.fields ≡ o → SignalRank scale sheet (option_map (event_of s.word) o) (Some under)
        go None e = let z : false ≡ true = sym (ap is_some e) ∙ sym (all_there s.fields) ∙ all in cc
        go (Some xs) e =
            let same : mark_rank scale sheet s.word xs ≡ under = sym (ap (λ p. unwrap_or (first_rank p sheet.marks) scale.fixed) (λ i l. same_event l s xs e i)) in
            subst (EventRank scale sheet (event_of s.word xs)) same (event_ranked scale sheet s.word xs)

    pub signal_none : list_all (λ f. is_some (value v f)) s.fields ≡ false → SignalRank scale sheet (event v s) None
    signal_none none = go (atoms_under v s.fields) refl
      where
        go : (o : Option (List Atom)) → atoms_under v s.fields ≡ o → SignalRank scale sheet (option_map (event_of s.word) o) None
        go None e = refl
        go (Some xs) e = let z : true ≡ false = sym (ap is_some e) ∙ sym (all_there s.fields) ∙ none in cc

  -- a line lists the event, where each field stands for something and the comparison finds it
  pub listed_under : (line s : Signal) → list_all (λ f. is_some (value v f)) s.fields ≡ true → Decides (is_event_under v line s) (ListsSignal line (event v s))
  listed_under line s all = go (atoms_under v s.fields) refl
    where
      go : (o : Option (List Atom)) → atoms_under v s.fields ≡ o → Decides (is_event_under v line s) (ListsSignal line (option_map (event_of s.word) o))
      go None e = let z : false ≡ true = sym (ap is_some e) ∙ sym (all_there s.fields) ∙ all in cc
      go (Some xs) e =
          let same = same_event line s xs e in
          let d = lists line s.word xs in
          (λ is. (event_of s.word xs, refl, d.0 (sym same ∙ is)), λ l. same ∙ d.1 (subst (λ (x : Event). ListsEvent line x) (sym (same_Some (event_of s.word xs) l.0 l.1)) l.2))

  pub unlisted_under : (line s : Signal) → list_all (λ f. is_some (value v f)) s.fields ≡ false → Decides false (ListsSignal line (event v s))
  unlisted_under line s none = go (atoms_under v s.fields) refl
    where
      go : (o : Option (List Atom)) → atoms_under v s.fields ≡ o → Decides false (ListsSignal line (option_map (event_of s.word) o))
      go None e = (λ z. absurd (false≢true z), λ l. absurd (none-some l.0 l.1))
      go (Some xs) e = let z : true ≡ false = sym (ap is_some e) ∙ sym (all_there s.fields) ∙ none in cc
