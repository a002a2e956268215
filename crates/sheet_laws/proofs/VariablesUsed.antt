-- Where the variables so far stand, line by line.
use Rattle.std.proofs.Common.{◌≡◌, ℕ, true, ◌||◌, eqb, List, [], ◌∷◌, ◌++◌, map, length, drop, Some, Ok, sym, refl, ap, ◌∙◌, inl, inr, arith}
use Rattle.std.proofs.ByRecursion.{All-push}
use Rattle.std.proofs.lemmas.List.{map_push}
use Rattle.std.specs.List.{slice_get, AllByRecursion}
use Rattle.lexer.specs.Text.{LineAt}
use Rattle.model.specs.Sheet as model
use Rattle.model.specs.Trees.{Term}
use Rattle.model.specs.Variables.{stands_in, stands_in_step}
use Rattle.terms.specs.Usages.{check_usages}
use Rattle.draft.specs.declared.draft.Part.TheVariants as part
use Rattle.draft.specs.Drafts.{Draft, free_scope, script_scope}
use Rattle.draft.specs.Reading.{back_line, says_all}
use Rattle.draft.specs.Sections.{blank, role_read}
use Rattle.sheet_laws.specs.VariablesUsed.{RoleUsed, VariablesAreUsed, some}
use Rattle.sheet_laws.proofs.Declaring as declaring
use Rattle.sheet_laws.proofs.Declaring.{DeclaredFirst}
use Rattle.sheet_laws.proofs.Naming as naming
use Rattle.sheet_laws.proofs.Passing.{Gives, given, next, passed, value}
use Rattle.sheet_laws.proofs.Readings.{seal-read, step-read}
use Rattle.sheet_laws.proofs.Stages.{role-stage, ranks-stage}
use Rattle.sheet_laws.proofs.Steps as steps
use Rattle.sheet_laws.proofs.Steps.{EndsRole, ReadsOn, read-so, throughout}
use Rattle.sheet_laws.proofs.VariablesUsedLines.{called, receiving-step, seal-said, step-said}
use Rattle.sheet_laws.proofs.VariablesUsedNotes.{Noted, all-used, noted_step, noted-variable}

-- A `seal` line counts as a step that receives its term.
abbrev seal_steps : List (model.Ranked Term) → List model.Step
seal_steps rs = map (λ r. model.receive r.what) rs

-- The variables of the roles are used, and where those of the script and of the table stand is noted; at the end the free ones are used.
record SoFar (d : Draft) : Type 0 where
  roles : AllByRecursion RoleUsed d.cast.roles
  script : Noted d.script.variables d.script.usages d.script.steps
  table : Noted d.table.free d.table.usages (seal_steps d.table.seals)
  free : d.part ≡ part.End → (i : ℕ) (v : model.Variable) → slice_get d.table.free i ≡ Some v → some (λ r. stands_in i r.what) d.table.seals ≡ true

-- the role that was read joins the others
joined : {d : Draft} → SoFar d → EndsRole d → AllByRecursion RoleUsed (d.cast.roles ++ (role_read d.script ∷ []))
joined {d} h r = All-push RoleUsed d.cast.roles (role_read d.script) h.roles (all-used h.script r.checked)

-- a script is begun without variables
no-notes : Noted [] [] []
no-notes = record { each = refl; told = λ i u e. absurd (grind arith) }

-- a variable stands in a `seal` line as in its step
in-seals : (i : ℕ) (rs : List (model.Ranked Term)) → some (stands_in_step i) (seal_steps rs) ≡ some (λ r. stands_in i r.what) rs
in-seals i [] = refl
in-seals i (r ∷ rs) = ap (λ b. stands_in i r.what || b) (in-seals i rs)

-- the last line is read where the free variables have passed
back-line : (d : Draft) (l : LineAt) → Gives (λ _. check_usages d.table.free d.table.usages ≡ Ok tt) (back_line d l)
back-line d l =
    passed (eqb (length l.words) 8) _ _ (λ _.
    next (check_usages d.table.free d.table.usages) _ (λ _ e.
    passed (says_all l 1 d.sections) _ _ (λ _.
    value e)))

-- one line more
more : {d e : Draft} {n : ℕ} {l : LineAt} → DeclaredFirst d → naming.SoFar d → SoFar d → ReadsOn d n l e → SoFar e
more f g h (steps.heading p w) = grind arith
more f g h (steps.section (steps.agents p w)) = grind arith
more f g h (steps.section (steps.texts p w s)) = grind arith
more f g h (steps.section (steps.roles p w)) = grind arith
more f g h (steps.section (steps.known p w)) = grind arith
more f g h (steps.section (steps.claim p w)) = grind arith
more f g h (steps.section (steps.ranks p w s)) = grind arith
more f g h (steps.agent p w e) = grind arith
more f g h (steps.text p w e) = grind arith
more f g h (steps.first-role p w s e) = grind (arith, no-notes)
more f g h (steps.next-role r w s b e) = grind (arith, joined h r, no-notes)
more {d} {l = l} f g h (steps.variable {v} p x) = grind (arith, noted-variable v l.place (f.steps p) h.script)
more {d} {l = l} f g h (steps.step {x} {ws} p a) =
    let notes = noted_step x ws h.script (λ i v e. step-said (step-read a) (called (script_scope d.cast d.script) _ (g.script (role-stage p)).variables i v e)) in
    grind (arith, rw (receiving-step (step-read a)) at notes)
more f g h (steps.nonces r w) = grind (arith, joined h r, no-notes)
more f g h (steps.nonce p w e) = grind arith
more f g h (steps.know p w e) = grind arith
more f g h (steps.holds p w e) = grind arith
more {d} {l = l} f g h (steps.free {v} p w e) =
    let none : seal_steps d.table.seals ≡ [] = rw (f.seals (inr p)) refl in
    grind (arith, noted-variable v l.place none h.table)
more f g h (steps.rank p w e) = grind arith
more {d} {l = l} f g h (steps.seal {r} p w e) =
    let notes = noted_step (model.receive r.what) (drop 2 l.words) h.table (λ i v q. seal-said (given (seal-read d.cast l d.table) e) (called (free_scope d.cast d.table) _ (g.free (ranks-stage (inl p))) i v q)) in
    grind (arith, rw (← map_push (λ s. model.receive s.what) d.table.seals r) at notes)
more f g h (steps.mark p w e) = grind arith
more {d} {l = l} f g h (steps.back p w e) = record {
  roles = h.roles;
  script = h.script;
  table = h.table;
  free = λ _ i v q. sym (in-seals i d.table.seals) ∙ (all-used h.table (given (back-line d l) e) i v q).stands;
}

-- no variable is declared yet
none : SoFar blank
none = grind (arith, no-notes)

-- the variables of a sheet that is read
pub variables_used : VariablesAreUsed
variables_used text m e =
    let r = read-so text e in
    let all = throughout (λ _ d. DeclaredFirst d × naming.SoFar d × SoFar d) (λ _ _ _ _ h s. (declaring.more h.0 s, naming.more h.1 s, more h.0 h.1 h.2 s)) (declaring.none, naming.none, none) r.lines r.reads in
    rw r.whole (record { roles = all.2.roles; free = all.2.free r.ended })
