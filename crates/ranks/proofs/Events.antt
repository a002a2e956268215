-- The rank of an event is that of the first line that lists it.
use Rattle.std.specs.Prelude.{◌≡◌, ℕ, suc, Bool, true, false, ◌&&◌, List, [], ◌∷◌, length, Some, Decides, ◌==◌}
use Rattle.std.specs.List.{list_all, zip}
use Rattle.std.specs.Option.{option_map}
use Rattle.std.specs.Str.{bytes_eq}
use Rattle.std.proofs.Common.{sym, refl, ap, ap₂, subst, ◌∙◌, arith, eq-eqb, eqb-true}
use Rattle.std.specs.Cmp.Lexicographic.{bytes_decides}
use Rattle.std.proofs.lemmas.Option.{same_Some}
use Rattle.message.specs.declared.Atom.{Atom}
use Rattle.model.specs.declared.node.Field.{Field}
use Rattle.model.specs.declared.node.Field.TheVariants.{Player, Variable, Named}
use Rattle.model.specs.Sheet.{Sheet, Signal}
use Rattle.instances.specs.Actions.{Event, atoms_under}
use Rattle.instances.specs.Substitution.{both, names_alone, value}
use Rattle.instances.proofs.Parts.{of-both, of_one}
use Rattle.scale.specs.Scales.{Scale}
use Rattle.ranks.specs.Matching.{are_named, is_event, may_stand}
use Rattle.ranks.specs.Ranking.{mark_rank}
use Rattle.ranks.specs.Ranks.{EventRank, ListsEvent, event_of}
use Rattle.ranks.proofs.Ranking.{first_is}
use Rattle.ranks.proofs.Settling.{both_true, first_true, may_said, said_name, second_true}

-- a field that may stand for an atom where there are no free variables is that atom's name
name_stands : (f : Field) (x : Atom) → may_stand [] [] f x ≡ true → value names_alone f ≡ Some x
name_stands Player x e = let z : false ≡ true = e in cc
name_stands (Variable i) x e = let z : false ≡ true = e in cc
name_stands (Named k n) x e = said_name k n x e

abbrev pairwise : List Field → List Atom → Bool
pairwise fs xs = list_all (λ p. may_stand [] [] p.0 p.1) (zip fs xs)

named_said : (fs : List Field) (xs : List Atom) → atoms_under names_alone fs ≡ Some xs → are_named fs xs ≡ true
named_said [] xs e = subst (λ (ys : List Atom). are_named [] ys ≡ true) (same_Some [] xs e) refl
named_said (f ∷ fs) xs e =
    let (x, ys, at, rest, is) = of-both (value names_alone f) (atoms_under names_alone fs) e in
    let later = named_said fs ys rest in
    let same : length fs ≡ length ys = eqb-true (length fs) (length ys) (first_true _ _ later) in
    subst
    (λ (zs : List Atom). are_named (f ∷ fs) zs ≡ true)
    (sym is)
    (both_true
    (length (f ∷ fs) == length (x ∷ ys))
    (may_stand [] [] f x && pairwise fs ys)
    (eq-eqb _ _ (ap suc same))
    (both_true (may_stand [] [] f x) (pairwise fs ys) (may_said [] [] tt [] tt f x at) (second_true (length fs == length ys) _ later)))

said_named : (fs : List Field) (xs : List Atom) → are_named fs xs ≡ true → atoms_under names_alone fs ≡ Some xs
said_named [] [] e = refl
said_named [] (x ∷ xs) e = let z : 0 ≡ length (x ∷ xs) = eqb-true 0 (length (x ∷ xs)) (first_true _ _ e) in absurd (omega arith)
said_named (f ∷ fs) [] e = let z : length (f ∷ fs) ≡ 0 = eqb-true (length (f ∷ fs)) 0 (first_true _ _ e) in absurd (omega arith)
said_named (f ∷ fs) (x ∷ xs) e =
    let lengths : suc (length fs) ≡ suc (length xs) = eqb-true (length (f ∷ fs)) (length (x ∷ xs)) (first_true _ _ e) in
    let each : (may_stand [] [] f x && pairwise fs xs) ≡ true = second_true (length (f ∷ fs) == length (x ∷ xs)) _ e in
    ap₂ (both (λ y ys. y ∷ ys)) (name_stands f x (first_true _ _ each)) (said_named fs xs (both_true (length fs == length xs) (pairwise fs xs) (eq-eqb _ _ (omega (arith, lengths))) (second_true (may_stand [] [] f x) _ each)))

pub lists : (s : Signal) (word : List ℕ) (atoms : List Atom) → Decides (is_event s word atoms) (ListsEvent s (event_of word atoms))
lists s word atoms = (listed, found)
  where
    listed : is_event s word atoms ≡ true → ListsEvent s (event_of word atoms)
    listed e =
        let words : s.word ≡ word = (bytes_decides s.word word).0 (first_true _ _ e) in
        let said = said_named s.fields atoms (second_true (bytes_eq s.word word) _ e) in
        ap (option_map (λ (xs : List Atom). event_of s.word xs)) said ∙ ap (λ (w : List ℕ). Some (event_of w atoms)) words

    found : ListsEvent s (event_of word atoms) → is_event s word atoms ≡ true
    found e =
        let (xs, said, is) = of_one (atoms_under names_alone s.fields) e in
        let words : s.word ≡ word = sym (ap (λ (d : Event). d.word) is) in
        let same : xs ≡ atoms = sym (ap (λ (d : Event). d.atoms) is) in
        both_true (bytes_eq s.word word) _ ((bytes_decides s.word word).1 words) (named_said s.fields atoms (said ∙ ap Some same))

pub event_ranked : (scale : Scale) (sheet : Sheet) (word : List ℕ) (atoms : List Atom) → EventRank scale sheet (event_of word atoms) (mark_rank scale sheet word atoms)
event_ranked scale sheet word atoms = first_is (λ s. ListsEvent s (event_of word atoms)) (λ u. u ≡ scale.fixed) _ (λ s. lists s word atoms) sheet.marks scale.fixed refl
