-- What the names in a sheet refer to: something that is declared, and of the right kind.
use Rattle.std.specs.Prelude.{◌≡◌, ℕ, ◌<◌, Bool, true, false, List, [], length, Some, None, Ok, Option}
use Rattle.std.specs.List.{slice_get, AllByRecursion}
use Rattle.message.specs.declared.Kind.{Kind}
use Rattle.message.specs.declared.Kind.TheVariants as kind
use Rattle.model.specs.declared.node.Field.{Field}
use Rattle.model.specs.declared.node.Field.TheVariants as field
use Rattle.model.specs.declared.node.Sort.TheVariants.{Fresh, Plain}
use Rattle.model.specs.Sheet.{Nonce, Role, Sheet, Signal, Step, Variable, honest, may_play, named, receive, send, signal}
use Rattle.model.specs.Trees.{Term, key, leaf, pair, seal}
use Rattle.sheet.specs.Sheets.{reading}

-- ---- where names stand

-- What may stand in a place: `self` in a script, the variables there, and how many named ones of each kind.
pub record Place : Type 0 where
  pub script : Bool
  pub variables : List Variable
  pub named : Kind → ℕ

-- named agents and texts may stand in a script, and no named nonce
abbrev pub named_in_roles : Sheet → Kind → ℕ
named_in_roles m kind.Agent = length m.agents
named_in_roles m kind.Nonce = 0
named_in_roles m kind.Text = length m.texts

-- the script of a role, what lies outside the scripts, and a `seal` line
abbrev pub in_role : Sheet → Role → Place
in_role m r = record { script = true; variables = r.variables; named = named_in_roles m }

abbrev pub by_name : Sheet → Place
by_name m = record { script = false; variables = []; named = named m }

abbrev pub in_seals : Sheet → Place
in_seals m = record { script = false; variables = m.free; named = named m }

-- ---- terms and signals

-- An atom stands for something there.
abbrev pub Refers : Place → Field → Type 0
Refers p field.Player = p.script ≡ true
Refers p (field.Variable i) = i < length p.variables
Refers p (field.Named k n) = n < p.named k

-- It stands for an agent.
abbrev pub RefersToAgent : Place → Field → Type 0
RefersToAgent p field.Player = p.script ≡ true
RefersToAgent p (field.Variable i) = (v : Variable) × (slice_get p.variables i ≡ Some v) × (v.sort ≡ Plain kind.Agent)
RefersToAgent p (field.Named kind.Agent n) = n < p.named kind.Agent
RefersToAgent p (field.Named kind.Nonce n) = ⊥
RefersToAgent p (field.Named kind.Text n) = ⊥

-- The first agent of a key or seal is `self` in a script, and a named one elsewhere.
abbrev pub RefersFirst : Place → Field → Type 0
RefersFirst p field.Player = p.script ≡ true
RefersFirst p (field.Variable i) = ⊥
RefersFirst p (field.Named k n) = (p.script ≡ false) × RefersToAgent p (field.Named k n)

-- All in a term stands for something, and the two of a key or seal are agents.
abbrev pub TermRefers : Place → Term → Type 0
TermRefers p (leaf f) = Refers p f
TermRefers p (pair l r) = TermRefers p l × TermRefers p r
TermRefers p (key f g) = RefersFirst p f × RefersToAgent p g
TermRefers p (seal f g t) = RefersFirst p f × RefersToAgent p g × TermRefers p t

abbrev pub SignalRefers : Place → Signal → Type 0
SignalRefers p s = AllByRecursion (Refers p) s.fields

abbrev pub StepRefers : Place → Step → Type 0
StepRefers p (send t) = TermRefers p t
StepRefers p (receive t) = TermRefers p t
StepRefers p (signal s) = SignalRefers p s

-- ---- lines

-- A player is an honest agent.
abbrev pub PlayerRefers : Sheet → Option ℕ → Type 0
PlayerRefers m None = Unit {0}
PlayerRefers m (Some a) = honest (slice_get m.agents a) ≡ true

pub record RoleRefers (m : Sheet) (r : Role) : Type 0 where
  pub player : PlayerRefers m r.player
  pub steps : AllByRecursion (StepRefers (in_role m r)) r.steps

-- A named nonce is for an agent, a role that the agent may play, and a fresh variable there.
pub record NonceRefers (m : Sheet) (n : Nonce) : Type 0 where
  pub role : Role
  pub variable : Variable
  pub agent : n.agent < length m.agents
  pub at-role : slice_get m.roles n.role ≡ Some role
  pub plays : may_play m.agents role.player n.agent ≡ true
  pub at-variable : slice_get role.variables n.variable ≡ Some variable
  pub fresh : variable.sort ≡ Fresh

-- A `rank` line ranks a named nonce or text, or the key of two named agents.
pub data AtomRefers (m : Sheet) : Term → Type 0 where
  nonce : {n : ℕ} → n < length m.nonces → AtomRefers m (leaf (field.Named kind.Nonce n))
  text : {n : ℕ} → n < length m.texts → AtomRefers m (leaf (field.Named kind.Text n))
  agents : {f g : Field} → RefersFirst (by_name m) f → RefersFirst (by_name m) g → AtomRefers m (key f g)

-- A `seal` line ranks a seal.
pub data SealRefers (m : Sheet) : Term → Type 0 where
  sealed : {f g : Field} {t : Term} → TermRefers (in_seals m) (seal f g t) → SealRefers m (seal f g t)

-- ---- sheets

pub record Referring (m : Sheet) : Type 0 where
  pub roles : AllByRecursion (RoleRefers m) m.roles
  pub nonces : AllByRecursion (NonceRefers m) m.nonces
  pub known : AllByRecursion (TermRefers (by_name m)) m.known
  pub completion : SignalRefers (by_name m) m.claim.completion
  pub needed : SignalRefers (by_name m) m.claim.needed
  pub atoms : AllByRecursion (λ a. AtomRefers m a.what) m.atoms
  pub seals : AllByRecursion (λ s. SealRefers m s.what) m.seals
  pub marks : AllByRecursion (λ s. SignalRefers (by_name m) s.what) m.marks

-- The names in a sheet that is read refer to something that it declares, and of the right kind.
abbrev pub NamesRefer : Type 0
NamesRefer = (text : List ℕ) (m : Sheet) → reading text ≡ Ok m → Referring m
