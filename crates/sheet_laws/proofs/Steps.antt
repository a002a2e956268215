-- What one line can do to a draft, and what holds at every line of a sheet.
use Rattle.std.proofs.Common.{◌≡◌, ℕ, ◌+◌, Bool, true, false, ◌&&◌, ltb, ◌⊎◌, List, [], ◌∷◌, ◌++◌, length, drop, is_some, Some, None, Ok, Err, codes, Option, Result, refl, inl, inr, append_assoc, append-nil, arith, length-append}
use Rattle.std.proofs.lemmas.Bool.{and_parts}
use Rattle.std.specs.Str.{bytes_eq}
use Rattle.lexer.specs.declared.Fault.{Fault}
use Rattle.lexer.specs.Text.{LineAt, WordAt, is, is_only, lexed}
use Rattle.draft.specs.declared.draft.Part.{Part}
use Rattle.draft.specs.declared.draft.Part.TheVariants as part
use Rattle.draft.specs.Drafts.{Draft, Title}
use Rattle.draft.specs.Reading.{agent_line, back_line, claim_line, free_line, fresh_line, know_line, mark_line, nonce_line, rank_line, recv_line, role_shape, seal_line, send_line, sig_line, text_line, title_line, var_line}
use Rattle.draft.specs.Sections.{at, blank, cast_at, claiming, in_agents, in_claim, in_free, in_known, in_marks, in_nonces, in_opening, in_part, in_ranks, in_roles, in_seals, in_start, in_steps, in_texts, in_variables, knowing, lines_from, more_agent, more_atom, more_free, more_mark, more_nonce, more_role, more_seal, more_step, more_text, more_variable, new_script, next_role, no_title, opened, role_line, role_read, script_at, table_at}
use Rattle.sheet.specs.Sheets.{at_end, finished, reading, sheet_from}
use Rattle.model.specs.Sheet as model
use Rattle.terms.specs.Terms.{and_then}
use Rattle.terms.specs.Usages.{check_usages}
use Rattle.model.specs.declared.node.Node.{Node}
use Rattle.model.specs.Trees.{Term}
use Rattle.sheet_laws.proofs.Passing.{Gives, value, broken, given, passed, either, next}

-- ---- one line

-- A role's script is read; and the ranks have come no further than the lines of a sort.
abbrev pub InRole : Part → Type 0
InRole p = (p ≡ part.Variables) ⊎ (p ≡ part.Steps)

abbrev pub UpToRanks : Part → Type 0
UpToRanks p = (p ≡ part.Free) ⊎ (p ≡ part.Ranks)

abbrev pub UpToSeals : Part → Type 0
UpToSeals p = UpToRanks p ⊎ (p ≡ part.Seals)

abbrev pub UpToMarks : Part → Type 0
UpToMarks p = UpToSeals p ⊎ (p ≡ part.Marks)

-- the role that was read joins the others
abbrev pub with_role : Draft → Draft
with_role d = script_at d d.part (more_role d.cast (role_read d.script)) (new_script no_title)

-- The line ends the role that is read: it has steps, and its variables stand where they have to.
pub record EndsRole (d : Draft) : Type 0 where
  pub within : InRole d.part
  pub some : ltb 0 (length d.script.steps) ≡ true
  pub checked : check_usages d.script.variables d.script.usages ≡ Ok tt

-- The line is a section word, and this part begins. (`nonces` ends a role as well.)
pub data Opens (d : Draft) (l : LineAt) : Part → Type 0 where
  agents : d.part ≡ part.Opening → is_only l (codes "agents") ≡ true → Opens d l part.Agents
  texts : d.part ≡ part.Agents → is_only l (codes "texts") ≡ true → ltb 0 (length d.cast.agents) ≡ true → Opens d l part.Texts
  roles : d.part ≡ part.Texts → is_only l (codes "roles") ≡ true → Opens d l part.Roles
  known : d.part ≡ part.Nonces → is_only l (codes "known") ≡ true → Opens d l part.Known
  claim : d.part ≡ part.Known → is_only l (codes "claim") ≡ true → Opens d l part.Claim
  ranks : d.part ≡ part.Claim → is_only l (codes "ranks") ≡ true → is_some d.claim ≡ true → Opens d l part.Free

-- The line declares a variable of the role.
pub data Declares (d : Draft) (l : LineAt) (v : model.Variable) : Type 0 where
  var : is l 0 (codes "var") ≡ true → var_line d.cast d.script l ≡ Ok v → Declares d l v
  fresh : is l 0 (codes "fresh") ≡ true → fresh_line d.cast d.script l ≡ Ok v → Declares d l v

-- The line is a step of the role, with the words in which variables may stand, and whether it receives.
pub data Acts (d : Draft) (l : LineAt) (x : model.Step) : List WordAt → Bool → Type 0 where
  send : is l 0 (codes "send") ≡ true → send_line d.cast d.script l ≡ Ok x → Acts d l x (drop 1 l.words) false
  recv : is l 0 (codes "recv") ≡ true → recv_line d.cast d.script l ≡ Ok x → Acts d l x (drop 1 l.words) true
  sig : is l 0 (codes "sig") ≡ true → sig_line d.cast d.script l ≡ Ok x → Acts d l x (drop 2 l.words) false

-- Line n comes after the draft d, and is read: what the draft is then.
pub data ReadsOn (d : Draft) (n : ℕ) (l : LineAt) : Draft → Type 0 where
  heading : d.part ≡ part.Start → bytes_eq l.text (codes "link sheet 1") ≡ true → ReadsOn d n l (at d part.Opening)
  section : {p : Part} → Opens d l p → ReadsOn d n l (opened d p n)
  agent : {a : model.Agent} → d.part ≡ part.Agents → is l 0 (codes "agent") ≡ true → agent_line d.cast l ≡ Ok a → ReadsOn d n l (cast_at d d.part (more_agent d.cast a))
  text : {t : List ℕ} → d.part ≡ part.Texts → is l 0 (codes "text") ≡ true → text_line d.cast l ≡ Ok t → ReadsOn d n l (cast_at d d.part (more_text d.cast t))
  first-role : {t : Title} → d.part ≡ part.Roles → is l 0 (codes "role") ≡ true → role_shape l ≡ true → title_line d.cast l ≡ Ok t → ReadsOn d n l (script_at d part.Variables d.cast (new_script t))
  next-role : {t : Title} → EndsRole d → is l 0 (codes "role") ≡ true → role_shape l ≡ true → ltb (length d.cast.roles) 3 ≡ true → title_line (with_role d).cast l ≡ Ok t → ReadsOn d n l (script_at (with_role d) part.Variables (with_role d).cast (new_script t))
  variable : {v : model.Variable} → d.part ≡ part.Variables → Declares d l v → ReadsOn d n l (script_at d d.part d.cast (more_variable d.script l.place v))
  step : {x : model.Step} {ws : List WordAt} {received : Bool} → InRole d.part → Acts d l x ws received → ReadsOn d n l (script_at d part.Steps d.cast (more_step d.script x ws received))
  nonces : EndsRole d → is_only l (codes "nonces") ≡ true → ReadsOn d n l (opened (with_role d) part.Nonces n)
  nonce : {x : model.Nonce} → d.part ≡ part.Nonces → is l 0 (codes "nonce") ≡ true → nonce_line d.cast l ≡ Ok x → ReadsOn d n l (cast_at d d.part (more_nonce d.cast x))
  know : {t : Term} → d.part ≡ part.Known → is l 0 (codes "know") ≡ true → know_line d.cast d.known l ≡ Ok t → ReadsOn d n l (knowing d t)
  holds : {x : model.Claim} → d.part ≡ part.Claim → is l 0 (codes "holds") ≡ true → claim_line d.cast d.claim l ≡ Ok x → ReadsOn d n l (claiming d x)
  free : {v : model.Variable} → d.part ≡ part.Free → is l 0 (codes "free") ≡ true → free_line d.cast d.table l ≡ Ok v → ReadsOn d n l (table_at d d.part (more_free d.table l.place v))
  rank : {r : model.Ranked Node} → UpToRanks d.part → is l 0 (codes "rank") ≡ true → rank_line d.cast d.table l ≡ Ok r → ReadsOn d n l (table_at d part.Ranks (more_atom d.table r))
  seal : {r : model.Ranked Term} → UpToSeals d.part → is l 0 (codes "seal") ≡ true → seal_line d.cast d.table l ≡ Ok r → ReadsOn d n l (table_at d part.Seals (more_seal d.table r (drop 2 l.words)))
  mark : {r : model.Ranked model.Signal} → UpToMarks d.part → is l 0 (codes "mark") ≡ true → mark_line d.cast d.table l ≡ Ok r → ReadsOn d n l (table_at d part.Marks (more_mark d.table r))
  back : UpToMarks d.part → is l 0 (codes "back") ≡ true → back_line d l ≡ Ok tt → ReadsOn d n l (at d part.End)

module _ (d : Draft) (n : ℕ) (l : LineAt) where
  -- what the line comes to, if it is read, is one of these; and so it is in each part
  abbrev Allowed : Result Draft Fault → Type 0
  Allowed r = Gives (ReadsOn d n l) r

  start-allowed : d.part ≡ part.Start → Allowed (in_start d l)
  start-allowed p = passed _ _ _ (λ t. value (heading p t))

  opening-allowed : d.part ≡ part.Opening → Allowed (in_opening d n l)
  opening-allowed p = passed _ _ _ (λ w. value (section (agents p w)))

  in-agents : d.part ≡ part.Agents → Allowed (in_agents d n l)
  in-agents p =
      either _ _ _ (λ w. next _ _ (λ a e. value (agent p w e))) (λ _.
      either _ _ _ (λ w. passed _ _ _ (λ some. value (section (texts p w some)))) (λ _.
      broken))

  in-texts : d.part ≡ part.Texts → Allowed (in_texts d n l)
  in-texts p =
      either _ _ _ (λ w. next _ _ (λ t e. value (text p w e))) (λ _.
      either _ _ _ (λ w. value (section (roles p w))) (λ _.
      broken))

  in-roles : d.part ≡ part.Roles → Allowed (in_roles d l)
  in-roles p =
      either _ _ _ (λ w. passed _ _ _ (λ shape. next _ _ (λ t e. value (first-role p w shape e)))) (λ _.
      either _ _ _ (λ w. broken) (λ _.
      broken))

  -- the role is closed, and the line goes on
  closes : (c : Result (Unit {0}) Fault) (go : Draft → Result Draft Fault) → (c ≡ Ok tt → Allowed (go (with_role d))) → Allowed (and_then (and_then c (λ _. Ok (with_role d))) go)
  closes (Ok u) go h = h refl
  closes (Err f) go h = broken

  -- another role begins
  in-next-role : InRole d.part → is l 0 (codes "role") ≡ true → Allowed (next_role d l)
  in-next-role p w =
      passed _ _ _ (λ shape.
      passed (some && few) _ _ (λ t.
      closes _ (λ e. role_line e l) (λ c.
      next _ _ (λ x e.
      value (next-role (record { within = p; some = (and_parts some few t).0; checked = c }) w shape (and_parts some few t).1 e)))))
    where
      some : Bool
      some = ltb 0 (length d.script.steps)

      few : Bool
      few = ltb (length d.cast.roles) 3

  in-steps : InRole d.part → Allowed (in_steps d n l)
  in-steps p =
      either _ _ _ (λ w. next _ _ (λ x e. value (step p (send w e)))) (λ _.
      either _ _ _ (λ w. next _ _ (λ x e. value (step p (recv w e)))) (λ _.
      either _ _ _ (λ w. next _ _ (λ x e. value (step p (sig w e)))) (λ _.
      either _ _ _ (λ w. in-next-role p w) (λ _.
      either _ _ _ (λ w. passed _ _ _ (λ t. closes _ (λ e. Ok (opened e part.Nonces n)) (λ c. value (nonces (record { within = p; some = t; checked = c }) w)))) (λ _.
      broken)))))

  in-variables : d.part ≡ part.Variables → Allowed (in_variables d n l)
  in-variables p =
      either _ _ _ (λ w. next _ _ (λ v e. value (variable p (var w e)))) (λ _.
      either _ _ _ (λ w. next _ _ (λ v e. value (variable p (fresh w e)))) (λ _.
      in-steps (inl p)))

  in-nonces : d.part ≡ part.Nonces → Allowed (in_nonces d n l)
  in-nonces p =
      either _ _ _ (λ w. next _ _ (λ x e. value (nonce p w e))) (λ _.
      either _ _ _ (λ w. value (section (known p w))) (λ _.
      broken))

  in-known : d.part ≡ part.Known → Allowed (in_known d n l)
  in-known p =
      either _ _ _ (λ w. next _ _ (λ t e. value (know p w e))) (λ _.
      either _ _ _ (λ w. value (section (claim p w))) (λ _.
      broken))

  in-claim : d.part ≡ part.Claim → Allowed (in_claim d n l)
  in-claim p =
      either _ _ _ (λ w. next _ _ (λ x e. value (holds p w e))) (λ _.
      either _ _ _ (λ w. passed _ _ _ (λ some. value (section (ranks p w some)))) (λ _.
      broken))

  in-marks : UpToMarks d.part → Allowed (in_marks d l)
  in-marks p =
      either _ _ _ (λ w. next _ _ (λ r e. value (mark p w e))) (λ _.
      either _ _ _ (λ w. next _ _ (λ _ e. value (back p w e))) (λ _.
      broken))

  in-seals : UpToSeals d.part → Allowed (in_seals d l)
  in-seals p = either _ _ _ (λ w. next _ _ (λ r e. value (seal p w e))) (λ _. in-marks (inl p))

  in-ranks : UpToRanks d.part → Allowed (in_ranks d l)
  in-ranks p = either _ _ _ (λ w. next _ _ (λ r e. value (rank p w e))) (λ _. in-seals (inl p))

  in-free : d.part ≡ part.Free → Allowed (in_free d l)
  in-free p = either _ _ _ (λ w. next _ _ (λ v e. value (free p w e))) (λ _. in-ranks (inl p))

  -- in whichever part the draft is
  in-part : (p : Part) → d.part ≡ p → Allowed (in_part p d n l)
  in-part part.Start e = start-allowed e
  in-part part.Opening e = opening-allowed e
  in-part part.Agents e = in-agents e
  in-part part.Texts e = in-texts e
  in-part part.Roles e = in-roles e
  in-part part.Variables e = in-variables e
  in-part part.Steps e = in-steps (inr e)
  in-part part.Nonces e = in-nonces e
  in-part part.Known e = in-known e
  in-part part.Claim e = in-claim e
  in-part part.Free e = in-free e
  in-part part.Ranks e = in-ranks (inr e)
  in-part part.Seals e = in-seals (inr e)
  in-part part.Marks e = in-marks (inr e)
  in-part part.End e = broken

  -- a line that is read does one of these things to the draft
  pub reads_on : {e : Draft} → in_part d.part d n l ≡ Ok e → ReadsOn d n l e
  reads_on h = given (in-part d.part refl) h

-- ---- every line

-- one line more
counted : (ls : List LineAt) (l : LineAt) → length (ls ++ (l ∷ [])) + 1 ≡ length ls + 1 + 1
counted ls l = simp length-append

-- What holds of no lines and the blank draft, and is kept by every line, holds of the lines read so far and the draft.
module _ (P : List LineAt → Draft → Type 0) (more : (ls : List LineAt) (l : LineAt) (d e : Draft) → P ls d → ReadsOn d (length ls + 1) l e → P (ls ++ (l ∷ [])) e) where
  -- the lines after those that are read
  onward : (before after : List LineAt) {d : Draft} → P before d → Gives (λ e. P (before ++ after) e) (lines_from d (length before + 1) after)
  onward before [] {d} h = value (rw append-nil h)
  onward before (l ∷ after) {d} h = next _ _ (λ e step. rw (append_assoc before (l ∷ []) after, counted before l) at (onward (before ++ (l ∷ [])) after (more before l d e h (reads_on d (length before + 1) l step))))

  -- all lines
  pub throughout : P [] blank → (ls : List LineAt) {d : Draft} → lines_from blank 1 ls ≡ Ok d → P ls d
  throughout h ls e = given (onward [] ls h) e

-- ---- the whole text

-- How a text is read as a sheet: its lines, the draft that they come to, and its claim.
pub record Read (bytes : List ℕ) (m : model.Sheet) : Type 0 where
  pub lines : List LineAt
  pub draft : Draft
  pub claim : model.Claim
  pub lexes : lexed bytes ≡ Ok lines
  pub reads : lines_from blank 1 lines ≡ Ok draft
  pub ended : draft.part ≡ part.End
  pub claimed : draft.claim ≡ Some claim
  pub whole : m ≡ sheet_from draft claim

-- only one part is the end
at-end : (p : Part) → at_end p ≡ true → p ≡ part.End
at-end p h = grind arith

-- a text that is read is read so
pub read-so : (bytes : List ℕ) {m : model.Sheet} → reading bytes ≡ Ok m → Read bytes m
read-so bytes e = given (next _ _ (λ ls h. next _ _ (λ d k. finishes ls h d k d.claim refl))) e
  where
    finishes : (ls : List LineAt) → lexed bytes ≡ Ok ls → (d : Draft) → lines_from blank 1 ls ≡ Ok d → (o : Option model.Claim) → d.claim ≡ o → Gives (Read bytes) (finished (length bytes) d o)
    finishes ls h d k None c = broken
    finishes ls h d k (Some x) c = passed _ _ _ (λ t. value (record { lines = ls; draft = d; claim = x; lexes = h; reads = k; ended = at-end d.part t; claimed = c; whole = refl }))
