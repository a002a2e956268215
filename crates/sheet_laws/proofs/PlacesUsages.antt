-- Where variables stand lies in the text or at its end, and so does the fault of one that stands wrong.
use Rattle.std.proofs.Common.{ℕ, ◌≤◌, Bool, true, false, cond, List, [], ◌∷◌, ◌++◌, Some, None, Option}
use Rattle.std.proofs.ByRecursion.{All-push}
use Rattle.std.specs.List.{AllByRecursion}
use Rattle.std.specs.Str.{bytes_eq}
use Rattle.lexer.specs.Text.{WordAt}
use Rattle.model.specs.declared.node.Sort.{Sort}
use Rattle.terms.specs.declared.usages.First.{First}
use Rattle.terms.specs.declared.usages.Usage.{Usage}
use Rattle.model.specs.Sheet.{Variable}
use Rattle.terms.specs.Usages.{check_first, check_usages, first_at, note_all, place_of, still_first}
use Rattle.draft.specs.Sections.{unused}
use Rattle.sheet_laws.proofs.PlacesLexed.{WordWithin}
use Rattle.sheet_laws.proofs.PlacesWithin.{Any, Within, faults, gives, readings}

-- a variable first stands within n bytes or at their end, and is declared there
abbrev FirstWithin : ℕ → Option First → Type 0
FirstWithin n None = Unit {0}
FirstWithin n (Some f) = f.place ≤ n

abbrev pub UsageWithin : ℕ → Usage → Type 0
UsageWithin n u = (u.declared ≤ n) × FirstWithin n u.first

module _ (n : ℕ) where
  -- the first of these words that is this name
  first-within : (ws : List WordAt) (name : List ℕ) (received : Bool) → AllByRecursion (WordWithin n) ws → FirstWithin n (first_at (place_of ws name) received)
  first-within [] name received h = tt
  first-within (w ∷ ws) name received h = by (bytes_eq w.text name) (first-within ws name received h.1)
    where
      by : (t : Bool) → FirstWithin n (first_at (place_of ws name) received) → FirstWithin n (first_at (cond t (Some w.place) (place_of ws name)) received)
      by true g = h.0
      by false g = g

  -- the earlier of two
  still-within : (old new : Option First) → FirstWithin n old → FirstWithin n new → FirstWithin n (still_first old new)
  still-within None new g h = h
  still-within (Some f) new g h = g

  -- one line more with these words
  pub noted-within : (vs : List Variable) (us : List Usage) (ws : List WordAt) (received : Bool) → AllByRecursion (UsageWithin n) us → AllByRecursion (WordWithin n) ws → AllByRecursion (UsageWithin n) (note_all vs us ws received)
  noted-within [] us ws received g h = g
  noted-within (v ∷ vs) [] ws received g h = tt
  noted-within (v ∷ vs) (u ∷ us) ws received g h =
      ((g.0.0, still-within u.first _ g.0.1 (first-within ws v.name received h)), noted-within vs us ws received g.1 h)

  -- one variable more
  pub declared-within : {at : ℕ} (us : List Usage) → AllByRecursion (UsageWithin n) us → at ≤ n → AllByRecursion (UsageWithin n) (us ++ (unused at ∷ []))
  declared-within {at} us g h = All-push (UsageWithin n) us (unused at) g (h, tt)

  -- the check of one variable
  first-checked : {declared : ℕ} (sort : Sort) (first : Option First) → declared ≤ n → FirstWithin n first → Within n Any (check_first sort declared first)
  first-checked sort None g h = faults g
  first-checked sort (Some f) g h = search readings

  -- the check of all
  pub checked : (vs : List Variable) (us : List Usage) → AllByRecursion (UsageWithin n) us → Within n Any (check_usages vs us)
  checked [] us g = gives tt
  checked (v ∷ vs) [] g = gives tt
  checked (v ∷ vs) (u ∷ us) g = let rest = checked vs us g.1 in search (readings, first-checked)
