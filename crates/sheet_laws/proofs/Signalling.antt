-- The signals so far, line by line.
use Rattle.std.proofs.Common.{◌≡◌, ℕ, ◌+◌, Bool, List, [], ◌∷◌, ◌++◌, length, Some, None, Option, subst, arith, length-append}
use Rattle.std.proofs.ByRecursion.{All-push}
use Rattle.std.proofs.lemmas.Bool.Decides.{nat_tests}
use Rattle.std.specs.List.{AllByRecursion}
use Rattle.lexer.specs.Text.{LineAt, WordAt}
use Rattle.draft.specs.Drafts.{Cast, Draft, Script}
use Rattle.draft.specs.Sections.{blank, role_read}
use Rattle.model.specs.Sheet as model
use Rattle.terms.specs.Terms.{Scope, fields_from}
use Rattle.model.specs.declared.node.Field.{Field}
use Rattle.sheet_laws.specs.Signals.{Formed, FormedStep, SignalsFormed}
use Rattle.sheet_laws.proofs.Passing.{Gives, given, next, value}
use Rattle.sheet_laws.proofs.Readings.{SignalRead, StepRead, claim-read, mark-read, received, sent, signalled, step-read}
use Rattle.sheet_laws.proofs.Steps as steps
use Rattle.sheet_laws.proofs.Steps.{ReadsOn, read-so, throughout}

-- ---- one signal

-- as many atoms as words
as_many : (s : Scope) (done : List Field) (ws : List WordAt) (n : ℕ) → n ≡ length done + length ws → Gives (λ fs. length fs ≡ n) (fields_from s done ws)
as_many s done [] n e = value (omega arith)
as_many s done (w ∷ ws) n e = next _ _ (λ f _. as_many s (done ++ (f ∷ [])) ws n (omega (arith, length-append done (f ∷ []))))

-- a signal with one to four words after its own
formed : {s : Scope} {ws : List WordAt} {x : model.Signal} → SignalRead s ws x → Formed x
formed {s} {ws} r =
    let many = given (as_many s [] ws (length ws) (omega arith)) r.atoms in
    record { word = r.named; some = grind (arith, nat_tests, r.few); few = grind (arith, nat_tests, r.few) }

-- ---- every line

-- The signals of the claim, if there is one, are formed.
abbrev FormedClaim : Option model.Claim → Type 0
FormedClaim None = Unit {0}
FormedClaim (Some x) = Formed x.completion × Formed x.needed

-- The signals of a draft.
record SoFar (d : Draft) : Type 0 where
  roles : AllByRecursion (λ r. AllByRecursion FormedStep r.steps) d.cast.roles
  script : AllByRecursion FormedStep d.script.steps
  claim : FormedClaim d.claim
  marks : AllByRecursion (λ r. Formed r.what) d.table.marks

-- a step signals as it has to
step-formed : {c : Cast} {s : Script} {l : LineAt} {x : model.Step} {ws : List WordAt} {receiving : Bool} → StepRead c s l x ws receiving → FormedStep x
step-formed (sent e) = tt
step-formed (received e) = tt
step-formed (signalled r) = formed r

-- the role that was read joins the others
joined : {d : Draft} → SoFar d → AllByRecursion (λ r. AllByRecursion FormedStep r.steps) (d.cast.roles ++ (role_read d.script ∷ []))
joined {d} h = All-push _ d.cast.roles (role_read d.script) h.roles h.script

-- one line more
more : {d e : Draft} {n : ℕ} {l : LineAt} → SoFar d → ReadsOn d n l e → SoFar e
more h (steps.heading p w) = grind arith
more h (steps.section o) = grind arith
more h (steps.agent p w e) = grind arith
more h (steps.text p w e) = grind arith
more h (steps.first-role p w s e) = grind arith
more h (steps.next-role r w s f e) = grind (arith, joined h)
more h (steps.variable p x) = grind arith
more {d} h (steps.step {x} p a) = grind (arith, All-push FormedStep d.script.steps x h.script (step-formed (step-read a)))
more h (steps.nonces r w) = grind (arith, joined h)
more h (steps.nonce p w e) = grind arith
more h (steps.know p w e) = grind arith
more {d} {l = l} h (steps.holds {x} p w e) =
    let r = given (claim-read d.cast l d.claim) e in
    grind (arith, formed r.completion, formed r.needed)
more h (steps.free p w e) = grind arith
more h (steps.rank p w e) = grind arith
more h (steps.seal p w e) = grind arith
more {d} {l = l} h (steps.mark {r} p w e) = grind (arith, All-push (λ r. Formed r.what) d.table.marks r h.marks (formed (given (mark-read d.cast l d.table) e)))
more h (steps.back p w e) = grind arith

-- nothing is signalled yet
none : SoFar blank
none = grind arith

-- the signals of a sheet that is read
pub signals_formed : SignalsFormed
signals_formed text m e =
    let r = read-so text e in
    let h = throughout (λ _ d. SoFar d) (λ _ _ _ _ h s. more h s) none r.lines r.reads in
    let claim = subst FormedClaim r.claimed h.claim in
    rw r.whole (record { roles = h.roles; completion = claim.0; needed = claim.1; marks = h.marks })
