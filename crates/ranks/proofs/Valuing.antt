-- Whether the ranks of a sheet's lines are values of the scale is told line by line.
use Rattle.std.specs.Prelude.{◌≡◌, zero, suc, Bool, true, ◌&&◌, List, [], ◌∷◌, map, Decides}
use Rattle.std.specs.List.{list_all}
use Rattle.std.proofs.Common.{sym, refl, ap, subst, ◌∙◌}
use Rattle.std.proofs.lemmas.Option.{none-some, same_Some}
use Rattle.model.specs.declared.node.Node.{Node}
use Rattle.model.specs.declared.stored.Ranked as stored
use Rattle.model.specs.declared.stored.Sealed.{Sealed}
use Rattle.model.specs.declared.stored.Signal.{Signal}
use Rattle.model.specs.Sheet.{Ranked, Sheet}
use Rattle.model.specs.Stored.{ranked_of, sealed_of, signal_of}
use Rattle.scale.specs.Scales.{Scale}
use Rattle.sheet.specs.Sheets.{atom_of}
use Rattle.ranks.specs.Ranks.{EachValued, Valued}
use Rattle.ranks.proofs.Settling.{both_true, first_true, second_true}

-- the rank of a line as it is kept is one of the values
abbrev pub kept : {X : Type 0} → Scale → List (stored.Ranked X) → Bool
kept scale xs = list_all (λ x. scale.has x.rank) xs

module _ (scale : Scale) where
  abbrev each : {A : Type 0} → List (Ranked A) → Bool
  each ls = list_all (λ l. scale.has l.rank) ls

  each_kept : {X M : Type 0} (of : X → M) (xs : List (stored.Ranked X)) → each (map (ranked_of of) xs) ≡ kept scale xs
  each_kept of [] = refl
  each_kept of (x ∷ xs) = ap (λ t. scale.has x.rank && t) (each_kept of xs)

  each_atom : (ls : List (Ranked Node)) → each (map atom_of ls) ≡ each ls
  each_atom [] = refl
  each_atom (l ∷ ls) = ap (λ t. scale.has l.rank && t) (each_atom ls)

  each_valued : {A : Type 0} (ls : List (Ranked A)) → each ls ≡ true → EachValued scale ls
  each_valued [] e i l is = absurd (none-some l is)
  each_valued (k ∷ ls) e zero l is = subst (λ (x : Ranked _). scale.has x.rank ≡ true) (same_Some k l is) (first_true _ _ e)
  each_valued (k ∷ ls) e (suc i) l is = each_valued ls (second_true (scale.has k.rank) _ e) i l is

  valued_each : {A : Type 0} (ls : List (Ranked A)) → EachValued scale ls → each ls ≡ true
  valued_each [] h = refl
  valued_each (k ∷ ls) h = both_true (scale.has k.rank) (each ls) (h 0 k refl) (valued_each ls (λ i l is. h (suc i) l is))

  -- all three kinds of lines
  pub valued_kept : (sheet : Sheet) (atoms : List (stored.Ranked Node)) (seals : List (stored.Ranked Sealed)) (marks : List (stored.Ranked Signal))
      → map atom_of (map (ranked_of (λ n. n)) atoms) ≡ sheet.atoms → map (ranked_of sealed_of) seals ≡ sheet.seals → map (ranked_of signal_of) marks ≡ sheet.marks
      → (a b c : Bool) → a ≡ kept scale atoms → b ≡ kept scale seals → c ≡ kept scale marks → Decides (a && (b && c)) (Valued scale sheet)
  valued_kept sheet atoms seals marks p q r a b c x y z = (
    λ e.
        let later = second_true a _ e in
        record {
          atoms = each_valued sheet.atoms (sym a-is ∙ first_true a _ e);
          seals = each_valued sheet.seals (sym b-is ∙ first_true b _ later);
          marks = each_valued sheet.marks (sym c-is ∙ second_true b _ later);
        },
    λ v. both_true a _ (a-is ∙ valued_each sheet.atoms v.atoms) (both_true b c (b-is ∙ valued_each sheet.seals v.seals) (c-is ∙ valued_each sheet.marks v.marks)),
  )
    where
      a-is : a ≡ each sheet.atoms
      a-is = x ∙ sym (ap each (sym p) ∙ each_atom (map (ranked_of (λ n. n)) atoms) ∙ each_kept (λ n. n) atoms)

      b-is : b ≡ each sheet.seals
      b-is = y ∙ sym (ap each (sym q) ∙ each_kept sealed_of seals)

      c-is : c ≡ each sheet.marks
      c-is = z ∙ sym (ap each (sym r) ∙ each_kept signal_of marks)
