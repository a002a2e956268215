-- The counts so far, line by line.
use Rattle.std.proofs.Common.{ℕ, ◌≤◌, [], ◌∷◌, ◌++◌, length, ap, inl, arith, length-append}
use lib.ListN.{length-map}
use Rattle.std.proofs.ByRecursion.{All-push}
use Rattle.std.proofs.lemmas.Bool.{ltb-true}
use Rattle.std.proofs.lemmas.Bool.Decides.{nat_tests}
use Rattle.std.specs.List.{AllByRecursion}
use Rattle.lexer.specs.Text.{LineAt}
use Rattle.draft.specs.Drafts.{Draft}
use Rattle.draft.specs.Sections.{blank, role_read}
use Rattle.sheet.specs.Sheets.{atom_of}
use Rattle.sheet_laws.specs.Counts.{CountsInRange, ScriptCounted}
use Rattle.sheet_laws.proofs.Steps as steps
use Rattle.sheet_laws.proofs.Steps.{EndsRole, ReadsOn, read-so, throughout}
use Rattle.sheet_laws.proofs.Stages.{stage, role-stage, ranks-stage}
use Rattle.sheet_laws.proofs.Lines.{agent-line, free-line, know-line, mark-line, nonce-line, rank-line, seal-line, step_line, text-line, variable-line}

-- The counts of a draft. There are agents when the texts begin, and roles when the nonces do. A role that is being read comes on top of the others.
record SoFar (d : Draft) : Type 0 where
  agents : length d.cast.agents ≤ 6
  some-agents : 1 ≤ stage d.part → 1 ≤ length d.cast.agents
  texts : length d.cast.texts ≤ 6
  roles : length d.cast.roles ≤ 4
  room : stage d.part ≤ 2 → length d.cast.roles ≤ 3
  some-roles : 3 ≤ stage d.part → 1 ≤ length d.cast.roles
  scripts : AllByRecursion ScriptCounted d.cast.roles
  nonces : length d.cast.nonces ≤ 6
  known : length d.known ≤ 8
  free : length d.table.free ≤ 5
  atoms : length d.table.atoms ≤ 12
  seals : length d.table.seals ≤ 12
  marks : length d.table.marks ≤ 6
  variables : length d.script.variables ≤ 5
  steps : length d.script.steps ≤ 8

-- the role that was read joins the others
joined : {d : Draft} → SoFar d → EndsRole d → AllByRecursion ScriptCounted (d.cast.roles ++ (role_read d.script ∷ []))
joined {d} h r = All-push ScriptCounted d.cast.roles (role_read d.script) h.scripts (h.variables, ltb-true 0 _ r.some, h.steps)

-- one line more
more : {d e : Draft} {n : ℕ} {l : LineAt} → SoFar d → ReadsOn d n l e → SoFar e
more h (steps.heading p w) = grind arith
more h (steps.section (steps.agents p w)) = grind arith
more h (steps.section (steps.texts p w s)) = grind (arith, nat_tests)
more h (steps.section (steps.roles p w)) = grind arith
more h (steps.section (steps.known p w)) = grind arith
more h (steps.section (steps.claim p w)) = grind arith
more h (steps.section (steps.ranks p w s)) = grind arith
more {d} {l = l} h (steps.agent p w e) = grind (arith, agent-line d.cast l e, length-append)
more {d} {l = l} h (steps.text p w e) = grind (arith, text-line d.cast l e, length-append)
more h (steps.first-role p w s e) = grind arith
more h (steps.next-role r w s f e) = grind (arith, nat_tests, role-stage r.within, joined h r, length-append)
more h (steps.variable p v) = grind (arith, variable-line v, length-append)
more h (steps.step p x) = grind (arith, step_line x, role-stage p, length-append)
more h (steps.nonces r w) = grind (arith, role-stage r.within, joined h r, length-append)
more {d} {l = l} h (steps.nonce p w e) = grind (arith, nonce-line d.cast l e, length-append)
more {d} {l = l} h (steps.know p w e) = grind (arith, know-line d.cast l d.known e, length-append)
more h (steps.holds p w e) = grind arith
more {d} {l = l} h (steps.free p w e) = grind (arith, free-line d.cast l d.table e, length-append)
more {d} {l = l} h (steps.rank p w e) = grind (arith, ranks-stage (inl (inl p)), rank-line d.cast l d.table e, length-append)
more {d} {l = l} h (steps.seal p w e) = grind (arith, ranks-stage (inl p), seal-line d.cast l d.table e, length-append)
more {d} {l = l} h (steps.mark p w e) = grind (arith, ranks-stage p, mark-line d.cast l d.table e, length-append)
more h (steps.back p w e) = grind (arith, ranks-stage p)

-- nothing is counted yet
none : SoFar blank
none = grind arith

-- the counts of a sheet that is read
pub in_range : CountsInRange
in_range text m e =
    let r = read-so text e in
    let h = throughout (λ _ d. SoFar d) (λ _ _ _ _ h s. more h s) none r.lines r.reads in
    rw r.whole (grind (arith, ap stage r.ended, length-map r.draft.table.atoms atom_of))
