-- The faults of a sheet lie in its text or at its end.
use Rattle.std.proofs.Common.{ℕ, ◌+◌, ◌≤◌, List, [], ◌∷◌, length, take, drop, Some, None, Ok, Option, ⊎_elim, arith}
use Rattle.std.proofs.ByRecursion.{All-drop, All-get_or, All-take}
use Rattle.std.proofs.lemmas.List.{get_or_past}
use Rattle.std.proofs.lemmas.Bool.{cases_lt}
use Rattle.std.specs.List.{AllByRecursion}
use Rattle.lexer.specs.Text.{LineAt, word_at}
use Rattle.model.specs.Sheet.{Claim}
use Rattle.terms.specs.Terms.{and_then}
use Rattle.draft.specs.declared.draft.Part.{Part}
use Rattle.draft.specs.declared.draft.Part.TheVariants as part
use Rattle.draft.specs.Drafts.{Draft}
use Rattle.draft.specs.Sections.{closed, in_part, lines_from, opened, role_line}
use Rattle.sheet.specs.Sheets.{finished}
use Rattle.sheet_laws.specs.Places.{FaultsWithin}
use Rattle.sheet_laws.proofs.PlacesLexed.{LineWithin, WordWithin, lexed-within}
use Rattle.sheet_laws.proofs.PlacesTerms.{signal, term}
use Rattle.sheet_laws.proofs.PlacesUsages.{UsageWithin, checked, declared-within, noted-within}
use Rattle.sheet_laws.proofs.PlacesWithin.{Any, Within, faults, gives, its-fault, next_of, readings}

-- the variables of a draft, of the role and of the table, are declared and stand within n bytes or at their end
abbrev DraftWithin : ℕ → Draft → Type 0
DraftWithin n d = AllByRecursion (UsageWithin n) d.script.usages × AllByRecursion (UsageWithin n) d.table.usages

module _ (n : ℕ) where
  -- the end of a role
  closed-within : (d : Draft) → DraftWithin n d → Within n (DraftWithin n) (closed d)
  closed-within d g = search (readings, checked)

  module _ {l : LineAt} (h : LineWithin n l) where
    -- the word at an index, also a missing one
    word : (i : ℕ) → (word_at l i).place ≤ n
    word i =
        ⊎_elim (λ there. All-get_or (WordWithin n) l.words i _ there h.words) (λ missing. rw (get_or_past l.words i _ missing) h.begins) (cases_lt i (length l.words))

    -- the words from an index on, and so many of them
    words-from : (i : ℕ) → AllByRecursion (WordWithin n) (drop i l.words)
    words-from i = All-drop (WordWithin n) i l.words h.words

    some-from : (i k : ℕ) → AllByRecursion (WordWithin n) (take k (drop i l.words))
    some-from i k = All-take (WordWithin n) k (drop i l.words) (words-from i)

    -- how the reading of a line is put together
    ruleset line = (readings, word, words-from, some-from, term, signal, declared-within, noted-within, checked)

    -- another role after a role, and the nonces
    role-next : (d : Draft) → DraftWithin n d → Within n (DraftWithin n) (and_then (closed d) (λ e. role_line e l))
    role-next d g = next_of (closed-within d g) (λ e f. search line depth 20)

    nonces-next : (d : Draft) (k : ℕ) → DraftWithin n d → Within n (DraftWithin n) (and_then (closed d) (λ e. Ok (opened e part.Nonces k)))
    nonces-next d k g = next_of (closed-within d g) (λ e f. gives f)

    -- one line more
    in-part : (p : Part) (d : Draft) (k : ℕ) → DraftWithin n d → Within n (DraftWithin n) (in_part p d k l)
    in-part part.Start d k g = search line depth 20
    in-part part.Opening d k g = search line depth 20
    in-part part.Agents d k g = search line depth 20
    in-part part.Texts d k g = search line depth 20
    in-part part.Roles d k g = search line depth 20
    in-part part.Variables d k g = search (line, role-next d g, nonces-next d k g) depth 20
    in-part part.Steps d k g = search (line, role-next d g, nonces-next d k g) depth 20
    in-part part.Nonces d k g = search line depth 20
    in-part part.Known d k g = search line depth 20
    in-part part.Claim d k g = search line depth 20
    in-part part.Free d k g = search line depth 20
    in-part part.Ranks d k g = search line depth 20
    in-part part.Seals d k g = search line depth 20
    in-part part.Marks d k g = search line depth 20
    in-part part.End d k g = faults h.begins

  -- all lines from number k on
  lines-from : (d : Draft) (k : ℕ) (ls : List LineAt) → DraftWithin n d → AllByRecursion (LineWithin n) ls → Within n (DraftWithin n) (lines_from d k ls)
  lines-from d k [] g h = gives g
  lines-from d k (l ∷ ls) g h = next_of (in-part h.0 d.part d k g) (λ e f. lines-from e (k + 1) ls f h.1)

  -- the end of the text
  finished-within : (d : Draft) (claim : Option Claim) → Within n Any (finished n d claim)
  finished-within d None = faults (omega arith)
  finished-within d (Some claim) = let end : n ≤ n = omega arith in search readings

-- a fault lies in the text or at its end
pub faults_within : FaultsWithin
faults_within text f e =
    its-fault (next_of (lexed-within text) (λ ls h. next_of (lines-from (length text) _ 1 ls (tt, tt) h) (λ d _. finished-within (length text) d d.claim))) f e
