-- The names so far, line by line.
use Rattle.std.proofs.Common.{◌≡◌, ℕ, ◌≤◌, Bool, true, false, not, ◌&&◌, ◌||◌, List, [], ◌∷◌, ◌++◌, refl, ap, ◌∙◌, subst, inl, arith}
use Rattle.std.proofs.ByRecursion.{All-push}
use Rattle.std.proofs.lemmas.List.{map-append}
use Rattle.std.proofs.lemmas.Bool.{or_from, or_parts}
use Rattle.std.specs.List.{AllByRecursion}
use Rattle.std.specs.Str.{bytes_eq}
use Rattle.lexer.specs.Text.{LineAt}
use Rattle.draft.specs.Drafts.{Cast, Draft, Script, Table, Title, new_free, new_name, new_variable, taken, variable_above}
use Rattle.draft.specs.Sections.{blank, more_agent, more_nonce, more_role, more_text, more_variable, new_script, role_read}
use Rattle.model.specs.Names.{is_name}
use Rattle.model.specs.Sheet as model
use Rattle.terms.specs.Terms.{agent_names, has, nonce_names, role_names, variable_names}
use Rattle.sheet_laws.specs.NamesApart.{Apart, NamesAreApart}
use Rattle.sheet_laws.proofs.Adding.{Adds, adds-apart, adds-before, adds-behind, adds-has, adds-last, adds-named, has-append}
use Rattle.sheet_laws.proofs.Lines.{agent-line, free-line, nonce-line, text-line, title-line, variable-line}
use Rattle.sheet_laws.proofs.Stages.{stage, role-stage, ranks-stage}
use Rattle.sheet_laws.proofs.Steps as steps
use Rattle.sheet_laws.proofs.Steps.{ReadsOn, read-so, throughout, with_role}

-- ---- the names of the cast

-- agents, texts, roles and nonces; and the same with a role of this name
abbrev pub cast_names : Cast → List (List ℕ)
cast_names c = agent_names c.agents ++ (c.texts ++ (role_names c.roles ++ nonce_names c.nonces))

abbrev pub with_name : Cast → List ℕ → List (List ℕ)
with_name c w = agent_names c.agents ++ (c.texts ++ ((role_names c.roles ++ (w ∷ [])) ++ nonce_names c.nonces))

-- one test passes, and two others do not
new-parts : (x y z : Bool) → (x && not (y || z)) ≡ true → (x ≡ true) × (y ≡ false) × (z ≡ false)
new-parts x y z e = grind arith

module _ (c : Cast) where
  -- one more of each sort is one name more
  adds-agent : (a : model.Agent) → Adds a.name (cast_names c) (cast_names (more_agent c a))
  adds-agent a = adds-before _ (adds-named (λ x. x.name) c.agents a)

  adds-text : (t : List ℕ) → Adds t (cast_names c) (cast_names (more_text c t))
  adds-text t = adds-behind (agent_names c.agents) (adds-before _ (adds-last c.texts))

  adds-name : (w : List ℕ) → Adds w (cast_names c) (with_name c w)
  adds-name w = adds-behind (agent_names c.agents) (adds-behind c.texts (adds-before (nonce_names c.nonces) (adds-last (role_names c.roles))))

  adds-nonce : (x : model.Nonce) → Adds x.name (cast_names c) (cast_names (more_nonce c x))
  adds-nonce x = adds-behind (agent_names c.agents) (adds-behind c.texts (adds-behind (role_names c.roles) (adds-named (λ y. y.name) c.nonces x)))

  -- a role brings its name
  role-named : (r : model.Role) → with_name c r.name ≡ cast_names (more_role c r)
  role-named r = rw map-append refl

  -- a name that is taken is among the names
  taken-has : (w : List ℕ) → has (cast_names c) w ≡ taken c w
  unfolding taken
  taken-has w = simp has-append

  -- a new name is a name, is not among the names, and no role above has a variable of this name
  new-name : (w : List ℕ) → new_name c w ≡ true → (is_name w ≡ true) × (has (cast_names c) w ≡ false) × (variable_above c.roles w ≡ false)
  unfolding new_name
  new-name w e = let p = new-parts (is_name w) (taken c w) _ e in (p.0, taken-has w ∙ p.1, p.2)

  -- a new variable of the role that is being read, and a new free variable, are apart from the names and from those before
  new-variable : (s : Script) (w : List ℕ) → new_variable c s w ≡ true → (is_name w ≡ true) × (has (variable_names s.variables ++ with_name c s.title.name) w ≡ false)
  unfolding new_variable
  new-variable s w e =
      let p = new-parts (is_name w) (taken c w) _ e in
      let q = or_parts (bytes_eq s.title.name w) (has (variable_names s.variables) w) p.2 in
      (p.0, has-append (variable_names s.variables) (with_name c s.title.name) w ∙ or_from _ _ q.1 (adds-has (adds-name s.title.name) w ∙ or_from _ _ q.0 (taken-has w ∙ p.1)))

  new-free : (t : Table) (w : List ℕ) → new_free c t w ≡ true → (is_name w ≡ true) × (has (variable_names t.free ++ cast_names c) w ≡ false)
  unfolding new_free
  new-free t w e =
      let p = new-parts (is_name w) (taken c w) _ e in
      (p.0, has-append (variable_names t.free) (cast_names c) w ∙ or_from _ _ p.2 (taken-has w ∙ p.1))

-- ---- what is apart so far

-- The role's variables are apart from these names and from each other.
abbrev Beside : List (List ℕ) → model.Role → Type 0
Beside ns r = Apart (variable_names r.variables ++ ns)

-- The names of the cast are apart, and beside them the variables of each role.
record CastApart (c : Cast) : Type 0 where
  all : Apart (cast_names c)
  variables : AllByRecursion (Beside (cast_names c)) c.roles

-- The name of the role that is being read is new, and its variables are apart from the names with it.
pub record ScriptApart (c : Cast) (s : Script) : Type 0 where
  title : new_name c s.title.name ≡ true
  pub variables : Apart (variable_names s.variables ++ with_name c s.title.name)

-- the variables of the roles above are apart from one name more
beside-more : (rs : List model.Role) {w : List ℕ} {xs ys : List (List ℕ)} → Adds w xs ys → is_name w ≡ true → has xs w ≡ false → variable_above rs w ≡ false → AllByRecursion (Beside xs) rs → AllByRecursion (Beside ys) rs
beside-more [] a n h v q = tt
beside-more (r ∷ rs) {w} {xs} a n h v q =
    let p = or_parts (has (variable_names r.variables) w) (variable_above rs w) v in
    (adds-apart (adds-behind (variable_names r.variables) a) n (has-append (variable_names r.variables) xs w ∙ or_from _ _ p.0 h) q.0, beside-more rs a n h p.1 q.1)

module _ {c : Cast} (h : CastApart c) where
  -- a new name
  named : {w : List ℕ} {ns : List (List ℕ)} → new_name c w ≡ true → Adds w (cast_names c) ns → Apart ns × AllByRecursion (Beside ns) c.roles
  named {w} new a =
      let p = new-name c w new in
      (adds-apart a p.0 p.1 h.all, beside-more c.roles a p.0 p.1 p.2 h.variables)

  -- a role begins, and is closed
  begun : (t : Title) → new_name c t.name ≡ true → ScriptApart c (new_script t)
  begun t new = record { title = new; variables = (named new (adds-name c t.name)).0 }

  closed : (s : Script) → ScriptApart c s → CastApart (more_role c (role_read s))
  closed s k =
      let w = s.title.name in
      let n = named k.title (adds-name c w) in
      record {
        all = subst Apart (role-named c (role_read s)) n.0;
        variables = subst (λ ns. AllByRecursion (Beside ns) (c.roles ++ (role_read s ∷ []))) (role-named c (role_read s)) (All-push (Beside (with_name c w)) c.roles (role_read s) n.1 k.variables);
      }

-- a new variable at the end of others
adds-variable : (vs : List model.Variable) (v : model.Variable) (ns : List (List ℕ)) → Adds v.name (variable_names vs ++ ns) (variable_names (vs ++ (v ∷ [])) ++ ns)
adds-variable vs v ns = adds-before ns (adds-named (λ x. x.name) vs v)

module _ (c : Cast) (v : model.Variable) where
  -- one variable more in the script that is being read, and one free variable more
  script-more : (s : Script) (at : ℕ) → new_variable c s v.name ≡ true → ScriptApart c s → ScriptApart c (more_variable s at v)
  script-more s at new k =
      let p = new-variable c s v.name new in
      record { title = k.title; variables = adds-apart (adds-variable s.variables v (with_name c s.title.name)) p.0 p.1 k.variables }

  free_more : (t : Table) → new_free c t v.name ≡ true → Apart (variable_names t.free ++ cast_names c) → Apart (variable_names (t.free ++ (v ∷ [])) ++ cast_names c)
  free_more t new k = let p = new-free c t v.name new in adds-apart (adds-variable t.free v (cast_names c)) p.0 p.1 k

-- The names of a draft. A script is read in its stage alone, and before the ranks there are no free variables.
pub record SoFar (d : Draft) : Type 0 where
  cast : CastApart d.cast
  pub script : stage d.part ≡ 2 → ScriptApart d.cast d.script
  none_free : stage d.part ≤ 3 → d.table.free ≡ []
  pub free : stage d.part ≡ 4 → Apart (variable_names d.table.free ++ cast_names d.cast)

-- one line more
pub more : {d e : Draft} {n : ℕ} {l : LineAt} → SoFar d → ReadsOn d n l e → SoFar e
more h (steps.heading p w) = grind arith
more h (steps.section (steps.agents p w)) = grind arith
more h (steps.section (steps.texts p w s)) = grind arith
more h (steps.section (steps.roles p w)) = grind arith
more h (steps.section (steps.known p w)) = grind arith
more h (steps.section (steps.claim p w)) = grind arith
more {d} h (steps.section (steps.ranks p w s)) =
    let free : Apart (variable_names d.table.free ++ cast_names d.cast) = rw (h.none_free (omega (arith, ap stage p))) h.cast.all in
    grind arith
more {d} {l = l} h (steps.agent {a} p w e) = grind (arith, named h.cast (agent-line d.cast l e).1 (adds-agent d.cast a))
more {d} {l = l} h (steps.text {t} p w e) = grind (arith, named h.cast (text-line d.cast l e).1 (adds-text d.cast t))
more {d} {l = l} h (steps.first-role {t} p w s e) = grind (arith, begun h.cast t (title-line d.cast l e))
more {d} {l = l} h (steps.next-role {t} r w s f e) =
    let c = closed h.cast d.script (h.script (role-stage r.within)) in
    grind (arith, role-stage r.within, c, begun c t (title-line (with_role d).cast l e))
more {d} {l = l} h (steps.variable {v} p x) = record {
  cast = h.cast;
  script = λ q. script-more d.cast v d.script l.place (variable-line x).1 (h.script q);
  none_free = h.none_free;
  free = h.free;
}
more h (steps.step p x) = grind (arith, role-stage p)
more {d} h (steps.nonces r w) = grind (arith, role-stage r.within, closed h.cast d.script (h.script (role-stage r.within)))
more {d} {l = l} h (steps.nonce {x} p w e) = grind (arith, named h.cast (nonce-line d.cast l e).1 (adds-nonce d.cast x))
more h (steps.know p w e) = grind arith
more h (steps.holds p w e) = grind arith
more {d} {l = l} h (steps.free {v} p w e) = grind (arith, ap stage p, free_more d.cast v d.table (free-line d.cast l d.table e).1 (h.free (ap stage p)))
more h (steps.rank p w e) = grind (arith, ranks-stage (inl (inl p)))
more h (steps.seal p w e) = grind (arith, ranks-stage (inl p))
more h (steps.mark p w e) = grind (arith, ranks-stage p)
more h (steps.back p w e) = grind (arith, ranks-stage p)

-- nothing is named yet
pub none : SoFar blank
none = grind arith

-- the names of a sheet that is read
pub names_apart : NamesAreApart
names_apart text m e =
    let r = read-so text e in
    let h = throughout (λ _ d. SoFar d) (λ _ _ _ _ h s. more h s) none r.lines r.reads in
    rw r.whole (record { all = h.cast.all; variables = h.cast.variables; free = h.free (ap stage r.ended) })
