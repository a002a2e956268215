-- How long the terms so far are, line by line.
use Rattle.std.proofs.Common.{ℕ, Bool, ltb, leb, List, [], ◌∷◌, ◌++◌, length, drop, arith}
use Rattle.std.proofs.ByRecursion.{All-push}
use Rattle.std.proofs.lemmas.Bool.{and_parts, leb-true}
use Rattle.std.specs.List.{AllByRecursion}
use Rattle.lexer.specs.Text.{LineAt, WordAt}
use Rattle.model.specs.Sheet.{Step}
use Rattle.model.specs.Trees.{Term, are_terms, prefix, word_count}
use Rattle.terms.specs.Terms.{Scope, read_term}
use Rattle.terms.proofs.TermShape.{shaped}
use Rattle.draft.specs.Drafts.{Cast, Draft, Script, Table, free_scope, named_scope, script_scope}
use Rattle.draft.specs.Reading.{know_line}
use Rattle.draft.specs.Sections.{blank, role_read}
use Rattle.sheet_laws.specs.TermsShort.{Short, ShortSeal, ShortStep, TermsAreShort, content}
use Rattle.sheet_laws.proofs.Passing.{Gives, given, passed, so}
use Rattle.sheet_laws.proofs.Readings.{SealRead, StepRead, nodes-read, received, seal-read, sealed, sent, signalled, step-read}
use Rattle.sheet_laws.proofs.Steps as steps
use Rattle.sheet_laws.proofs.Steps.{ReadsOn, read-so, throughout}

-- a term that is read from words
short : (s : Scope) (at : ℕ) (ws : List WordAt) → Gives Short (read_term s at ws)
short s at ws =
    so (nodes-read s at ws) (λ t e.
    leb-true (word_count (prefix t)) 32 (and_parts (are_terms 1 (prefix t)) (leb (word_count (prefix t)) 32) (shaped s at ws (prefix t) e)).1)

-- a step, what the enemy knows, and a `seal` line
step-short : {c : Cast} {s : Script} {l : LineAt} {x : Step} {ws : List WordAt} {receiving : Bool} → StepRead c s l x ws receiving → ShortStep x
step-short {c} {s} {l} (sent e) = given (short (script_scope c s) l.place (drop 1 l.words)) e
step-short {c} {s} {l} (received e) = given (short (script_scope c s) l.place (drop 1 l.words)) e
step-short (signalled x) = tt

known-short : (c : Cast) (ts : List Term) (l : LineAt) → Gives Short (know_line c ts l)
known-short c ts l = passed (ltb (length ts) 8) _ _ (λ _. short (named_scope c) l.place (drop 1 l.words))

seal-short : {c : Cast} {t : Table} {l : LineAt} {x : Term} → SealRead c t l x → ShortSeal x
seal-short {c} {t} {l} (sealed many f g e) = content (given (short (free_scope c t) l.place (drop 4 l.words)) e)

-- The terms of a draft.
record SoFar (d : Draft) : Type 0 where
  roles : AllByRecursion (λ r. AllByRecursion ShortStep r.steps) d.cast.roles
  script : AllByRecursion ShortStep d.script.steps
  known : AllByRecursion Short d.known
  seals : AllByRecursion (λ r. ShortSeal r.what) d.table.seals

-- the role that was read joins the others
joined : {d : Draft} → SoFar d → AllByRecursion (λ r. AllByRecursion ShortStep r.steps) (d.cast.roles ++ (role_read d.script ∷ []))
joined {d} h = All-push _ d.cast.roles (role_read d.script) h.roles h.script

-- one line more
more : {d e : Draft} {n : ℕ} {l : LineAt} → SoFar d → ReadsOn d n l e → SoFar e
more h (steps.heading p w) = grind arith
more h (steps.section o) = grind arith
more h (steps.agent p w e) = grind arith
more h (steps.text p w e) = grind arith
more h (steps.first-role p w s e) = grind arith
more h (steps.next-role r w s f e) = grind (arith, joined h)
more h (steps.variable p x) = grind arith
more {d} h (steps.step {x} p a) = grind (arith, All-push ShortStep d.script.steps x h.script (step-short (step-read a)))
more h (steps.nonces r w) = grind (arith, joined h)
more h (steps.nonce p w e) = grind arith
more {d} {l = l} h (steps.know {t} p w e) = grind (arith, All-push Short d.known t h.known (given (known-short d.cast d.known l) e))
more h (steps.holds p w e) = grind arith
more h (steps.free p w e) = grind arith
more h (steps.rank p w e) = grind arith
more {d} {l = l} h (steps.seal {r} p w e) = grind (arith, All-push (λ r. ShortSeal r.what) d.table.seals r h.seals (seal-short (given (seal-read d.cast l d.table) e)))
more h (steps.mark p w e) = grind arith
more h (steps.back p w e) = grind arith

-- there is no term yet
none : SoFar blank
none = grind arith

-- the terms of a sheet that is read
pub terms_short : TermsAreShort
terms_short text m e =
    let r = read-so text e in
    let h = throughout (λ _ d. SoFar d) (λ _ _ _ _ h s. more h s) none r.lines r.reads in
    rw r.whole (record { roles = h.roles; known = h.known; seals = h.seals })
