-- The sheet that a whole text is.
use Rattle.std.specs.Prelude.{ℕ, Bool, true, false, List, [], ◌∷◌, map, length, Some, None, Ok, Option, Result}
use Rattle.lexer.specs.declared.Fault.{Fault}
use Rattle.lexer.specs.declared.Rule.TheVariants as rule
use Rattle.lexer.specs.Text.{lexed}
use Rattle.model.specs.declared.node.Node.{Node}
use Rattle.model.specs.Sheet as model
use Rattle.model.specs.Trees.{Term, tree}
use Rattle.terms.specs.Terms.{and_then, fault}
use Rattle.draft.specs.declared.draft.Part.{Part}
use Rattle.draft.specs.declared.draft.Part.TheVariants as part
use Rattle.draft.specs.Drafts.{Draft}
use Rattle.draft.specs.Reading.{unless}
use Rattle.draft.specs.Sections.{blank, lines_from}

abbrev pub at_end : Part → Bool
at_end part.Start = false
at_end part.Opening = false
at_end part.Agents = false
at_end part.Texts = false
at_end part.Roles = false
at_end part.Variables = false
at_end part.Steps = false
at_end part.Nonces = false
at_end part.Known = false
at_end part.Claim = false
at_end part.Free = false
at_end part.Ranks = false
at_end part.Seals = false
at_end part.Marks = false
at_end part.End = true

-- the atom that a `rank` line gives a rank
abbrev pub atom_of : model.Ranked Node → model.Ranked Term
atom_of r = record { rank = r.rank; what = tree (r.what ∷ []) }

abbrev pub sheet_from : Draft → model.Claim → model.Sheet
sheet_from d claim = record {
  agents = d.cast.agents;
  texts = d.cast.texts;
  roles = d.cast.roles;
  nonces = d.cast.nonces;
  known = d.known;
  claim = claim;
  free = d.table.free;
  atoms = map atom_of d.table.atoms;
  seals = d.table.seals;
  marks = d.table.marks;
}

-- A text that ends too early lacks a line at its end.
abbrev pub finished : ℕ → Draft → Option model.Claim → Result model.Sheet Fault
finished end d None = fault rule.Count end
finished end d (Some claim) = unless (at_end d.part) rule.Count end (Ok (sheet_from d claim))

abbrev pub reading : List ℕ → Result model.Sheet Fault
reading text = and_then (lexed text) (λ ls. and_then (lines_from blank 1 ls) (λ d. finished (length text) d d.claim))
