-- Where variables first stand, one word and one variable at a time.
use Rattle.std.proofs.Common.{◌≡◌, ℕ, ◌≤◌, Bool, true, false, cond, List, [], ◌∷◌, ◌++◌, map, length, min, take, drop, inl, inr, Some, Ok, Option, Result, refl, ap, ◌∙◌, arith}
use Rattle.std.proofs.lemmas.Bool.{cases_lt}
use Rattle.std.proofs.lemmas.List.{drop_all}
use Rattle.std.specs.List.{find}
use Rattle.std.specs.Option.{option_map}
use Rattle.std.specs.Str.{bytes_eq}
use Rattle.lexer.specs.declared.Fault.{Fault}
use Rattle.lexer.specs.declared.Word.{Word}
use Rattle.lexer.specs.Text.{WordAt, words_of}
use Rattle.terms.specs.declared.usages.Usage.{Usage}
use Rattle.model.specs.declared.stored.Variable.{Variable}
use Rattle.terms.specs.Usages.{check_usages, note_all, place_of}
use Rattle.model.specs.Sheet as model
use Rattle.model.specs.Stored.{variable_of}

place-cond : (b : Bool) (w : Word) (o : Option Word) → option_map (λ x. x.place) (cond b (Some w) o) ≡ cond b (Some w.place) (option_map (λ x. x.place) o)
place-cond true w o = refl
place-cond false w o = refl

-- the first word that is this name lies at the place that is asked for
pub place-found : (ws : List Word) (name : List ℕ) → option_map (λ w. w.place) (find (λ w. bytes_eq w.text.now name) ws) ≡ place_of (words_of ws) name
place-found [] name = refl
place-found (w ∷ ws) name = place-cond (bytes_eq w.text.now name) w (find (λ x. bytes_eq x.text.now name) ws) ∙ ap (cond (bytes_eq w.text.now name) (Some w.place)) (place-found ws name)

-- the variables from i on
module _ (vs : List Variable) (i : ℕ) where
  no-variable : length vs ≤ i → map variable_of (drop i vs) ≡ []
  no-variable h = ap (map variable_of) (drop_all i vs h)

module _ (vs : List Variable) (ws : List WordAt) (received : Bool) where
  -- the usages of which those from i on are yet to be noted
  abbrev pub note_from : ℕ → List Usage → List Usage
  note_from i us = take i us ++ note_all (map variable_of (drop i vs)) (drop i us) ws received

module _ (vs : List Variable) (us : List Usage) where
  -- what the usages from i on come to
  abbrev pub check_from : ℕ → Result (Unit {0}) Fault
  check_from i = check_usages (map variable_of (drop i vs)) (drop i us)

  -- with no usage there is nothing to check
  none-checked : (ms : List model.Variable) → check_usages ms [] ≡ Ok tt
  none-checked [] = refl
  none-checked (m ∷ ms) = refl

  -- all are checked where the usages end, or the variables
  pub checked-all : (i : ℕ) → length us ≤ i → check_from i ≡ Ok tt
  checked-all i h = ap (check_usages (map variable_of (drop i vs))) (drop_all i us h) ∙ none-checked (map variable_of (drop i vs))

  pub checked-variables : (i : ℕ) → length vs ≤ i → check_from i ≡ Ok tt
  checked-variables i h = ap (λ l. check_usages l (drop i us)) (no-variable vs i h)

  -- both at once, where a loop over the two together ends
  pub checked-end : (i : ℕ) → i ≡ min (length vs) (length us) → check_from i ≡ Ok tt
  checked-end i h = elim (cases_lt (length vs) (length us)) [ inl e ↦ checked-variables i (omega arith) | inr e ↦ checked-all i (omega arith) ]
