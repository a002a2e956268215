-- Which lines may follow which.
use Rattle.std.specs.Prelude.{ℕ, ◌+◌, Bool, true, false, cond, ◌&&◌, List, [], ◌∷◌, ◌++◌, length, drop, is_some, Some, None, Ok, codes, Result, nat_lt}
use Rattle.std.specs.Str.{bytes_eq}
use Rattle.lexer.specs.declared.Fault.{Fault}
use Rattle.lexer.specs.declared.Rule.TheVariants as rule
use Rattle.lexer.specs.Text.{LineAt, WordAt, is, is_only}
use Rattle.draft.specs.declared.draft.Part.{Part}
use Rattle.draft.specs.declared.draft.Part.TheVariants as part
use Rattle.model.specs.Sheet as model
use Rattle.terms.specs.Terms.{and_then, fault}
use Rattle.terms.specs.declared.usages.Usage.{Usage}
use Rattle.model.specs.declared.node.Node.{Node}
use Rattle.model.specs.Trees.{Term}
use Rattle.draft.specs.Drafts.{Cast, Draft, Script, Table, Title}
use Rattle.terms.specs.Usages.{check_usages, note_all}
use Rattle.draft.specs.Reading.{agent_line, back_line, claim_line, free_line, fresh_line, know_line, mark_line, nonce_line, rank_line, recv_line, role_shape, seal_line, send_line, sig_line, text_line, title_line, unless, var_line}

-- ---- one thing more

abbrev pub more_agent : Cast → model.Agent → Cast
more_agent c a = record { agents = c.agents ++ (a ∷ []); texts = c.texts; roles = c.roles; nonces = c.nonces }

abbrev pub more_text : Cast → List ℕ → Cast
more_text c t = record { agents = c.agents; texts = c.texts ++ (t ∷ []); roles = c.roles; nonces = c.nonces }

abbrev pub more_role : Cast → model.Role → Cast
more_role c r = record { agents = c.agents; texts = c.texts; roles = c.roles ++ (r ∷ []); nonces = c.nonces }

abbrev pub more_nonce : Cast → model.Nonce → Cast
more_nonce c n = record { agents = c.agents; texts = c.texts; roles = c.roles; nonces = c.nonces ++ (n ∷ []) }

-- a new variable, declared at this place, stands nowhere yet
abbrev pub unused : ℕ → Usage
unused at = record { declared = at; first = None }

abbrev pub more_variable : Script → ℕ → model.Variable → Script
more_variable s at v = record { title = s.title; variables = s.variables ++ (v ∷ []); usages = s.usages ++ (unused at ∷ []); steps = s.steps }

-- a step, with the words of its line in which variables may stand, and whether it receives
abbrev pub more_step : Script → model.Step → List WordAt → Bool → Script
more_step s x ws received = record { title = s.title; variables = s.variables; usages = note_all s.variables s.usages ws received; steps = s.steps ++ (x ∷ []) }

abbrev pub no_title : Title
no_title = record { name = []; player = None }

abbrev pub new_script : Title → Script
new_script t = record { title = t; variables = []; usages = []; steps = [] }

abbrev pub more_free : Table → ℕ → model.Variable → Table
more_free t at v = record { free = t.free ++ (v ∷ []); usages = t.usages ++ (unused at ∷ []); atoms = t.atoms; seals = t.seals; marks = t.marks }

abbrev pub more_atom : Table → model.Ranked Node → Table
more_atom t r = record { free = t.free; usages = t.usages; atoms = t.atoms ++ (r ∷ []); seals = t.seals; marks = t.marks }

abbrev pub more_seal : Table → model.Ranked Term → List WordAt → Table
more_seal t r ws = record { free = t.free; usages = note_all t.free t.usages ws true; atoms = t.atoms; seals = t.seals ++ (r ∷ []); marks = t.marks }

abbrev pub more_mark : Table → model.Ranked model.Signal → Table
more_mark t r = record { free = t.free; usages = t.usages; atoms = t.atoms; seals = t.seals; marks = t.marks ++ (r ∷ []) }

-- The role that was read.
abbrev pub role_read : Script → model.Role
role_read s = record { name = s.title.name; player = s.title.player; variables = s.variables; steps = s.steps }

-- ---- a line after what is read

abbrev pub at : Draft → Part → Draft
at d p = record { part = p; sections = d.sections; cast = d.cast; script = d.script; known = d.known; claim = d.claim; table = d.table }

-- a section word stands in line n
abbrev pub opened : Draft → Part → ℕ → Draft
opened d p n = record { part = p; sections = d.sections ++ (n ∷ []); cast = d.cast; script = d.script; known = d.known; claim = d.claim; table = d.table }

abbrev pub cast_at : Draft → Part → Cast → Draft
cast_at d p c = record { part = p; sections = d.sections; cast = c; script = d.script; known = d.known; claim = d.claim; table = d.table }

abbrev pub script_at : Draft → Part → Cast → Script → Draft
script_at d p c s = record { part = p; sections = d.sections; cast = c; script = s; known = d.known; claim = d.claim; table = d.table }

abbrev pub table_at : Draft → Part → Table → Draft
table_at d p t = record { part = p; sections = d.sections; cast = d.cast; script = d.script; known = d.known; claim = d.claim; table = t }

-- The role that was read is closed: its variables are checked, and it joins the others.
abbrev pub closed : Draft → Result Draft Fault
closed d =
    and_then (check_usages d.script.variables d.script.usages) (λ _.
    Ok (script_at d d.part (more_role d.cast (role_read d.script)) (new_script no_title)))

abbrev pub misplaced : LineAt → Result Draft Fault
misplaced l = fault rule.Line l.place

abbrev pub too_few : LineAt → Result Draft Fault
too_few l = fault rule.Count l.place

abbrev pub in_start : Draft → LineAt → Result Draft Fault
in_start d l = unless (bytes_eq l.text (codes "link sheet 1")) rule.Line l.place (Ok (at d part.Opening))

abbrev pub in_opening : Draft → ℕ → LineAt → Result Draft Fault
in_opening d n l = unless (is_only l (codes "agents")) rule.Line l.place (Ok (opened d part.Agents n))

abbrev pub in_agents : Draft → ℕ → LineAt → Result Draft Fault
in_agents d n l =
    cond (is l 0 (codes "agent")) (and_then (agent_line d.cast l) (λ a. Ok (cast_at d d.part (more_agent d.cast a))))
    (cond (is_only l (codes "texts")) (unless (nat_lt 0 (length d.cast.agents)) rule.Count l.place (Ok (opened d part.Texts n)))
    (misplaced l))

abbrev pub in_texts : Draft → ℕ → LineAt → Result Draft Fault
in_texts d n l =
    cond (is l 0 (codes "text")) (and_then (text_line d.cast l) (λ t. Ok (cast_at d d.part (more_text d.cast t))))
    (cond (is_only l (codes "roles")) (Ok (opened d part.Roles n))
    (misplaced l))

-- a role begins
abbrev pub role_line : Draft → LineAt → Result Draft Fault
role_line d l = and_then (title_line d.cast l) (λ t. Ok (script_at d part.Variables d.cast (new_script t)))

abbrev pub in_roles : Draft → LineAt → Result Draft Fault
in_roles d l =
    cond (is l 0 (codes "role")) (unless (role_shape l) rule.Line l.place (role_line d l))
    (cond (is_only l (codes "nonces")) (too_few l)
    (misplaced l))

-- the draft after a step
abbrev pub stepped : Draft → model.Step → List WordAt → Bool → Draft
stepped d x ws received = script_at d part.Steps d.cast (more_step d.script x ws received)

-- a step of each sort
abbrev pub send_on : Draft → LineAt → Result Draft Fault
send_on d l = and_then (send_line d.cast d.script l) (λ x. Ok (stepped d x (drop 1 l.words) false))

abbrev pub recv_on : Draft → LineAt → Result Draft Fault
recv_on d l = and_then (recv_line d.cast d.script l) (λ x. Ok (stepped d x (drop 1 l.words) true))

abbrev pub sig_on : Draft → LineAt → Result Draft Fault
sig_on d l = and_then (sig_line d.cast d.script l) (λ x. Ok (stepped d x (drop 2 l.words) false))

-- a step; otherwise what else the line may be
abbrev pub step_or : Draft → LineAt → Result Draft Fault → Result Draft Fault
step_or d l other =
    cond (is l 0 (codes "send")) (send_on d l)
    (cond (is l 0 (codes "recv")) (recv_on d l)
    (cond (is l 0 (codes "sig")) (sig_on d l)
    other))

-- A new role or `nonces` ends the role: 3 and 4 of that line come first, then the role's variables.
abbrev pub next_role : Draft → LineAt → Result Draft Fault
next_role d l =
    unless (role_shape l) rule.Line l.place
    (unless (nat_lt 0 (length d.script.steps) && nat_lt (length d.cast.roles) 3) rule.Count l.place
    (and_then (closed d) (λ e. role_line e l)))

abbrev pub role_end : Draft → ℕ → LineAt → Result Draft Fault
role_end d n l =
    cond (is l 0 (codes "role")) (next_role d l)
    (cond (is_only l (codes "nonces"))
    (unless (nat_lt 0 (length d.script.steps)) rule.Count l.place
    (and_then (closed d) (λ e. Ok (opened e part.Nonces n))))
    (misplaced l))

abbrev pub in_steps : Draft → ℕ → LineAt → Result Draft Fault
in_steps d n l = step_or d l (role_end d n l)

abbrev pub in_variables : Draft → ℕ → LineAt → Result Draft Fault
in_variables d n l =
    cond (is l 0 (codes "var")) (and_then (var_line d.cast d.script l) (λ v. Ok (script_at d d.part d.cast (more_variable d.script l.place v))))
    (cond (is l 0 (codes "fresh")) (and_then (fresh_line d.cast d.script l) (λ v. Ok (script_at d d.part d.cast (more_variable d.script l.place v))))
    (in_steps d n l))

abbrev pub in_nonces : Draft → ℕ → LineAt → Result Draft Fault
in_nonces d n l =
    cond (is l 0 (codes "nonce")) (and_then (nonce_line d.cast l) (λ x. Ok (cast_at d d.part (more_nonce d.cast x))))
    (cond (is_only l (codes "known")) (Ok (opened d part.Known n))
    (misplaced l))

abbrev pub knowing : Draft → Term → Draft
knowing d t = record { part = d.part; sections = d.sections; cast = d.cast; script = d.script; known = d.known ++ (t ∷ []); claim = d.claim; table = d.table }

abbrev pub claiming : Draft → model.Claim → Draft
claiming d x = record { part = d.part; sections = d.sections; cast = d.cast; script = d.script; known = d.known; claim = Some x; table = d.table }

abbrev pub in_known : Draft → ℕ → LineAt → Result Draft Fault
in_known d n l =
    cond (is l 0 (codes "know")) (and_then (know_line d.cast d.known l) (λ t. Ok (knowing d t)))
    (cond (is_only l (codes "claim")) (Ok (opened d part.Claim n))
    (misplaced l))

abbrev pub in_claim : Draft → ℕ → LineAt → Result Draft Fault
in_claim d n l =
    cond (is l 0 (codes "holds")) (and_then (claim_line d.cast d.claim l) (λ x. Ok (claiming d x)))
    (cond (is_only l (codes "ranks")) (unless (is_some d.claim) rule.Count l.place (Ok (opened d part.Free n)))
    (misplaced l))

-- the ranks come in the order `free`, `rank`, `seal`, `mark`, and `back` ends the sheet
abbrev pub back_or : Draft → LineAt → Result Draft Fault
back_or d l = cond (is l 0 (codes "back")) (and_then (back_line d l) (λ _. Ok (at d part.End))) (misplaced l)

abbrev pub in_marks : Draft → LineAt → Result Draft Fault
in_marks d l =
    cond (is l 0 (codes "mark")) (and_then (mark_line d.cast d.table l) (λ r. Ok (table_at d part.Marks (more_mark d.table r))))
    (back_or d l)

abbrev pub in_seals : Draft → LineAt → Result Draft Fault
in_seals d l =
    cond (is l 0 (codes "seal")) (and_then (seal_line d.cast d.table l) (λ r. Ok (table_at d part.Seals (more_seal d.table r (drop 2 l.words)))))
    (in_marks d l)

abbrev pub in_ranks : Draft → LineAt → Result Draft Fault
in_ranks d l =
    cond (is l 0 (codes "rank")) (and_then (rank_line d.cast d.table l) (λ r. Ok (table_at d part.Ranks (more_atom d.table r))))
    (in_seals d l)

abbrev pub in_free : Draft → LineAt → Result Draft Fault
in_free d l =
    cond (is l 0 (codes "free")) (and_then (free_line d.cast d.table l) (λ v. Ok (table_at d d.part (more_free d.table l.place v))))
    (in_ranks d l)

abbrev pub in_part : Part → Draft → ℕ → LineAt → Result Draft Fault
in_part part.Start d n l = in_start d l
in_part part.Opening d n l = in_opening d n l
in_part part.Agents d n l = in_agents d n l
in_part part.Texts d n l = in_texts d n l
in_part part.Roles d n l = in_roles d l
in_part part.Variables d n l = in_variables d n l
in_part part.Steps d n l = in_steps d n l
in_part part.Nonces d n l = in_nonces d n l
in_part part.Known d n l = in_known d n l
in_part part.Claim d n l = in_claim d n l
in_part part.Free d n l = in_free d l
in_part part.Ranks d n l = in_ranks d l
in_part part.Seals d n l = in_seals d l
in_part part.Marks d n l = in_marks d l
in_part part.End d n l = misplaced l

-- ---- the whole text

abbrev pub no_cast : Cast
no_cast = record { agents = []; texts = []; roles = []; nonces = [] }

abbrev pub no_table : Table
no_table = record { free = []; usages = []; atoms = []; seals = []; marks = [] }

abbrev pub blank : Draft
blank = record { part = part.Start; sections = []; cast = no_cast; script = new_script no_title; known = []; claim = None; table = no_table }

-- the lines from number n on
abbrev pub lines_from : Draft → ℕ → List LineAt → Result Draft Fault
lines_from d n [] = Ok d
lines_from d n (l ∷ ls) = and_then (in_part d.part d n l) (λ e. lines_from e (n + 1) ls)
