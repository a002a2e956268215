-- What the names so far refer to, line by line.
use Rattle.std.proofs.Common.{ℕ, List, [], ◌∷◌, ◌++◌, Some, None, Option, subst, arith}
use Rattle.std.proofs.ByRecursion.{All-map, All-push}
use Rattle.std.specs.List.{AllByRecursion}
use Rattle.lexer.specs.Text.{LineAt}
use Rattle.model.specs.Sheet.{Agent, Claim, Nonce, Role, Sheet, Variable}
use Rattle.model.specs.Trees.{tree}
use Rattle.draft.specs.Drafts.{Cast, Draft, Title}
use Rattle.draft.specs.Sections.{blank, more_agent, more_nonce, more_role, more_text, more_variable, new_script, no_title, role_read}
use Rattle.sheet.specs.Sheets.{atom_of, sheet_from}
use Rattle.sheet_laws.specs.References.{AtomRefers, NamesRefer, NonceRefers, PlayerRefers, RoleRefers, SealRefers, SignalRefers, StepRefers, TermRefers, by_name, in_role}
use Rattle.sheet_laws.proofs.Declaring as declaring
use Rattle.sheet_laws.proofs.Declaring.{DeclaredFirst}
use Rattle.sheet_laws.proofs.Finding.{kept-all, kept_less}
use Rattle.sheet_laws.proofs.Passing.{given}
use Rattle.sheet_laws.proofs.Readings.{claim-read, mark-read, seal-read, step-read}
use Rattle.sheet_laws.proofs.ReferencesLines.{Within, signal-by_name, know-line, nonce-line, rank-line, seal, step, title-line}
use Rattle.sheet_laws.proofs.Steps as steps
use Rattle.sheet_laws.proofs.Steps.{ReadsOn, read-so, throughout, with_role}

-- The names in the claim, if there is one.
abbrev ClaimRefers : Sheet → Option Claim → Type 0
ClaimRefers m None = Unit {0}
ClaimRefers m (Some x) = SignalRefers (by_name m) x.completion × SignalRefers (by_name m) x.needed

-- The names in a draft refer to what the sheet has.
record SoFar (m : Sheet) (d : Draft) : Type 0 where
  roles : AllByRecursion (RoleRefers m) d.cast.roles
  script : RoleRefers m (role_read d.script)
  nonces : AllByRecursion (NonceRefers m) d.cast.nonces
  known : AllByRecursion (TermRefers (by_name m)) d.known
  claim : ClaimRefers m d.claim
  atoms : AllByRecursion (λ a. AtomRefers m (tree (a.what ∷ []))) d.table.atoms
  seals : AllByRecursion (λ s. SealRefers m s.what) d.table.seals
  marks : AllByRecursion (λ s. SignalRefers (by_name m) s.what) d.table.marks

-- the role that was read joins the others
joined : {m : Sheet} {d : Draft} → SoFar m d → AllByRecursion (RoleRefers m) (d.cast.roles ++ (role_read d.script ∷ []))
joined {m} {d} h = All-push (RoleRefers m) d.cast.roles (role_read d.script) h.roles h.script

-- What the sheet has with one more, it has without it.
module _ {m : Sheet} (c : Cast) (vs : List Variable) where
  before-agent : (a : Agent) → Within m (more_agent c a) vs → Within m c vs
  before-agent a i = record { agents = kept_less c.agents a i.agents; texts = i.texts; roles = i.roles; nonces = i.nonces; free = i.free }

  before_text : (t : List ℕ) → Within m (more_text c t) vs → Within m c vs
  before_text t i = record { agents = i.agents; texts = kept_less c.texts t i.texts; roles = i.roles; nonces = i.nonces; free = i.free }

  before-role : (r : Role) → Within m (more_role c r) vs → Within m c vs
  before-role r i = record { agents = i.agents; texts = i.texts; roles = kept_less c.roles r i.roles; nonces = i.nonces; free = i.free }

  before-nonce : (x : Nonce) → Within m (more_nonce c x) vs → Within m c vs
  before-nonce x i = record { agents = i.agents; texts = i.texts; roles = i.roles; nonces = kept_less c.nonces x i.nonces; free = i.free }

  before-free : (v : Variable) → Within m c (vs ++ (v ∷ [])) → Within m c vs
  before-free v i = record { agents = i.agents; texts = i.texts; roles = i.roles; nonces = i.nonces; free = kept_less vs v i.free }

-- The sheet has what the draft has.
abbrev PartOf : Sheet → Draft → Type 0
PartOf m d = Within m d.cast d.table.free

module _ (m : Sheet) where
  -- a role begins
  begun : (t : Title) → PlayerRefers m t.player → RoleRefers m (role_read (new_script t))
  begun t h = record { player = h; steps = tt }

  -- one line more, in a sheet that has what it declares
  more : {d e : Draft} {n : ℕ} {l : LineAt} → DeclaredFirst d → (PartOf m d → SoFar m d) → ReadsOn d n l e → PartOf m e → SoFar m e
  more f k (steps.heading p w) i = grind (arith, k i)
  more f k (steps.section o) i = grind (arith, k i)
  more {d} f k (steps.agent {a} p w e) i = grind (arith, k (before-agent d.cast d.table.free a i))
  more {d} f k (steps.text {t} p w e) i = grind (arith, k (before_text d.cast d.table.free t i))
  more {d} {l = l} f k (steps.first-role {t} p w s e) i = grind (arith, k i, begun t (given (title-line m d.cast l i.agents) e))
  more {d} {l = l} f k (steps.next-role {t} r w s b e) i =
      let h = k (before-role d.cast d.table.free (role_read d.script) i) in
      grind (arith, h, joined h, begun t (given (title-line m (with_role d).cast l i.agents) e))
  more {d} {l = l} f k (steps.variable {v} p x) i =
      let steps : AllByRecursion (StepRefers (in_role m (role_read (more_variable d.script l.place v)))) d.script.steps = rw (f.steps p) tt in
      grind (arith, k i)
  more {d} {l = l} f k (steps.step {x} p a) i = grind (arith, k i, All-push (StepRefers (in_role m (role_read d.script))) d.script.steps x (k i).script.steps (step d i (step-read a)))
  more {d} f k (steps.nonces r w) i =
      let h = k (before-role d.cast d.table.free (role_read d.script) i) in
      grind (arith, h, joined h, begun no_title tt)
  more {d} {l = l} f k (steps.nonce {x} p w e) i =
      let j = before-nonce d.cast d.table.free x i in
      grind (arith, k j, All-push (NonceRefers m) d.cast.nonces x (k j).nonces (given (nonce-line d j l) e))
  more {d} {l = l} f k (steps.know {t} p w e) i = grind (arith, k i, All-push (TermRefers (by_name m)) d.known t (k i).known (given (know-line d i l) e))
  more {d} {l = l} f k (steps.holds {x} p w e) i =
      let r = given (claim-read d.cast l d.claim) e in
      grind (arith, k i, signal-by_name d i r.completion, signal-by_name d i r.needed)
  more {d} f k (steps.free {v} p w e) i = grind (arith, k (before-free d.cast d.table.free v i))
  more {d} {l = l} f k (steps.rank {r} p w e) i = grind (arith, k i, All-push (λ a. AtomRefers m (tree (a.what ∷ []))) d.table.atoms r (k i).atoms (given (rank-line d i l) e))
  more {d} {l = l} f k (steps.seal {r} p w e) i = grind (arith, k i, All-push (λ s. SealRefers m s.what) d.table.seals r (k i).seals (seal d i (given (seal-read d.cast l d.table) e)))
  more {d} {l = l} f k (steps.mark {r} p w e) i = grind (arith, k i, All-push (λ s. SignalRefers (by_name m) s.what) d.table.marks r (k i).marks (signal-by_name d i (given (mark-read d.cast l d.table) e)))
  more f k (steps.back p w e) i = grind (arith, k i)

  -- nothing is named yet
  none : SoFar m blank
  none = grind arith

-- the names in a sheet that is read
pub names_refer : NamesRefer
names_refer text m e =
    let r = read-so text e in
    let whole = sheet_from r.draft r.claim in
    let all = throughout (λ _ d. DeclaredFirst d × (PartOf whole d → SoFar whole d)) (λ _ _ _ _ h s. (declaring.more h.0 s, more whole h.0 h.1 s)) (declaring.none, λ _. none whole) r.lines r.reads in
    let h = all.1 (record { agents = kept-all; texts = kept-all; roles = kept-all; nonces = kept-all; free = kept-all }) in
    let claim = subst (ClaimRefers whole) r.claimed h.claim in
    rw r.whole (record { roles = h.roles; nonces = h.nonces; known = h.known; completion = claim.0; needed = claim.1; atoms = All-map (λ a. AtomRefers whole a.what) atom_of r.draft.table.atoms h.atoms; seals = h.seals; marks = h.marks })
