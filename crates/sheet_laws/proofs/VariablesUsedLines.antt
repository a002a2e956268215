-- In each line that is read, a variable stands exactly where its name stands.
use Rattle.std.proofs.Common.{◌≡◌, ℕ, zero, suc, ◌+◌, ◌<◌, Bool, true, false, ◌||◌, List, [], ◌∷◌, ◌++◌, length, drop, Some, sym, refl, ◌∙◌, add-one, arith}
use Rattle.std.proofs.lemmas.Slice.Eq.{bytes_eq-Decides}
use Rattle.std.proofs.lemmas.List.{at_drop_more}
use Rattle.std.proofs.lemmas.Bool.{cond-true, or_parts}
use Rattle.std.specs.List.{slice_get}
use Rattle.std.specs.Str.{bytes_eq}
use Rattle.lexer.specs.Text.{LineAt, WordAt, word_at}
use Rattle.model.specs.Names.{index_of, is_name}
use Rattle.model.specs.Sheet as model
use Rattle.model.specs.Trees.{Term}
use Rattle.model.specs.Variables.{receives, stands_in, stands_in_step}
use Rattle.terms.specs.Terms.{Scope, agent_names, has, variable_names}
use Rattle.draft.specs.Drafts.{Cast, Script, Table, free_scope, script_scope}
use Rattle.sheet_laws.specs.NamesApart.{Apart}
use Rattle.sheet_laws.proofs.Adding.{has-append}
use Rattle.sheet_laws.proofs.Passing.{given, has-it}
use Rattle.sheet_laws.proofs.Readings.{SealRead, StepRead, received, sealed, sent, signalled}
use Rattle.sheet_laws.proofs.VariablesUsedWords.{Called, first, says, says_first, second, signal, term}

-- ---- the names of variables

-- in a list of names that are apart, each variable is found by its name, which is none of the others
found-by-name : (vs : List model.Variable) (ns : List (List ℕ)) → Apart (variable_names vs ++ ns) → (i : ℕ) (v : model.Variable) → slice_get vs i ≡ Some v → (is_name v.name ≡ true) × (index_of (variable_names vs) v.name ≡ Some i) × (has ns v.name ≡ false)
found-by-name [] ns a i v e = absurd (grind arith)
found-by-name (x ∷ vs) ns a zero v e =
    let w = x.name in
    let apart = or_parts (has (variable_names vs) w) (has ns w) (sym (has-append (variable_names vs) ns w) ∙ a.1) in
    let same : x ≡ v = cc in
    rw (← same) (a.0, cond-true (bytes_eq w w) _ _ ((bytes_eq-Decides w w).1 refl), apart.1)
found-by-name (x ∷ vs) ns a (suc i) v e = grind (arith, found-by-name vs ns a.2 i v e, a.1, bytes_eq-Decides x.name v.name, has-append (variable_names vs) ns x.name, add-one i)

-- so it is called in its scope
pub called : (s : Scope) (ns : List (List ℕ)) → Apart (variable_names s.variables ++ (agent_names s.agents ++ ns)) → (i : ℕ) (v : model.Variable) → slice_get s.variables i ≡ Some v → Called s i v.name
called s ns a i v e =
    let r = found-by-name s.variables (agent_names s.agents ++ ns) a i v e in
    record { name = r.0; at = r.1; no-agent = (or_parts (has (agent_names s.agents) v.name) (has ns v.name) (sym (has-append (agent_names s.agents) ns v.name) ∙ r.2)).0 }

-- ---- the lines

-- a name is a word of the line, or one of those after it
says-next : (l : LineAt) (w : List ℕ) (n : ℕ) → n < length l.words → says (drop n l.words) w ≡ (bytes_eq (word_at l n).text w || says (drop (n + 1) l.words) w)
says-next l w n h = at_drop_more (λ ws. says ws w) l.words n (record { place = l.place; text = [] }) h ∙ says_first (word_at l n) (drop (n + 1) l.words) w

module _ {c : Cast} {l : LineAt} where
  -- a step, which receives or does not
  pub receiving-step : {s : Script} {x : model.Step} {ws : List WordAt} {receiving : Bool} → StepRead c s l x ws receiving → receives x ≡ receiving
  receiving-step (sent e) = refl
  receiving-step (received e) = refl
  receiving-step (signalled r) = refl

  pub step-said : {s : Script} {x : model.Step} {ws : List WordAt} {receiving : Bool} {i : ℕ} {w : List ℕ} → StepRead c s l x ws receiving → Called (script_scope c s) i w → stands_in_step i x ≡ says ws w
  step-said (sent e) h = given (term h _ _) e
  step-said (received e) h = given (term h _ _) e
  step-said (signalled r) h = signal h r

  -- a seal: two agents and its content
  pub seal-said : {t : Table} {x : Term} {i : ℕ} {w : List ℕ} → SealRead c t l x → Called (free_scope c t) i w → stands_in i x ≡ says (drop 2 l.words) w
  seal-said {w = w} (sealed many e k r) h = grind (arith, says-next l w 2 (omega arith), says-next l w 3 (omega arith), has-it (first h (word_at l 2).text) e, has-it (second h (word_at l 3).text) k, given (term h l.place (drop 4 l.words)) r)
