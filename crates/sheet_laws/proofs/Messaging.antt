-- Where every field stands for something, terms are messages.
use Rattle.std.proofs.Common.{◌≡◌, ℕ, zero, suc, ◌<◌, ◌≤◌, true, ltb, List, [], ◌∷◌, length, Some, None, Option, sym, refl, ap, ◌∙◌, subst, ⊎_elim, arith}
use Rattle.std.proofs.lemmas.Option.{slice_get-get_or, slice_get_past}
use Rattle.std.proofs.lemmas.Bool.{cases_lt, cond-true, false≢true, lt-ltb}
use Rattle.std.specs.List.{slice_get, AllByRecursion}
use Rattle.std.specs.Option.{option_map}
use Rattle.message.specs.declared.Atom.{Atom}
use Rattle.message.specs.declared.Atom.TheVariants as atoms
use Rattle.message.specs.declared.Kind.{Kind}
use Rattle.message.specs.declared.Kind.TheVariants as kind
use Rattle.message.specs.Message as messages
use Rattle.message.specs.Message.{Fits, Key, KeyFits, Msg, Reads, atom, key_of, shared, single, size, wire}
use Rattle.model.specs.declared.node.Field.{Field}
use Rattle.model.specs.declared.node.Field.TheVariants as field
use Rattle.model.specs.declared.node.Sort.{Sort}
use Rattle.model.specs.declared.node.Sort.TheVariants.{Fresh, Plain}
use Rattle.model.specs.Sheet.{Role, Sheet, Step, honest, named, receive, send, signal}
use Rattle.model.specs.Trees.{Term, key, leaf, pair, seal}
use Rattle.instances.specs.Instances.{Allowed, Instance, Of, played}
use Rattle.instances.specs.Start.{Own, Start, Told}
use Rattle.instances.specs.Substitution.{Values, agent_number, atom_at, both, key_under, message, names_alone, value}
use Rattle.instances.proofs.Sizes.{substitution_is_short}
use Rattle.sheet_laws.specs.Counts.{Counted}
use Rattle.sheet_laws.specs.Messages.{InstancesAreMessages, Means, Stands, StartIsMessages, StepMeans}
use Rattle.sheet_laws.specs.References.{Place, Refers, RefersFirst, RefersToAgent, RoleRefers, StepRefers, TermRefers, by_name, in_role}
use Rattle.sheet_laws.specs.TermsShort.{Short, ShortStep}
use Rattle.sheet_laws.proofs.Counting.{in_range}
use Rattle.sheet_laws.proofs.References.{names_refer}
use Rattle.sheet_laws.proofs.Shortening.{terms_short}

-- What may stand in a place stands for an atom in range there, and an agent for an agent.
record Valued (p : Place) (v : Values) : Type 0 where
  atoms : (f : Field) → Refers p f → (x : Atom) × (value v f ≡ Some x) × Fits (single x)
  agents : (f : Field) → RefersToAgent p f → (n : ℕ) × (agent_number (value v f) ≡ Some n) × (n < 256)

-- the first agent of a key or seal is an agent
first-agent : (p : Place) (f : Field) → RefersFirst p f → RefersToAgent p f
first-agent p field.Player h = h
first-agent p (field.Variable i) h = absurd h
first-agent p (field.Named k n) h = h.1

module _ {p : Place} {v : Values} (h : Valued p v) where
  -- the key of two fields
  key-means : (f g : Field) → RefersFirst p f → RefersToAgent p g → (k : Key) × (key_under v f g ≡ Some k) × KeyFits k
  key-means f g first second =
      let a = h.agents f (first-agent p f first) in
      let b = h.agents g second in
      (key_of a.0 b.0, ap (λ o. both key_of o (agent_number (value v g))) a.1 ∙ ap (both key_of (Some a.0)) b.1, (omega arith, omega (arith, a.2, b.2)))

  -- a term
  term-means : (t : Term) → TermRefers p t → (m : Msg) × (message v t ≡ Some m) × Fits m
  term-means (leaf f) r = let x = h.atoms f r in (single x.0, ap (option_map single) x.1, x.2)
  term-means (pair l r) h2 =
      let a = term-means l h2.0 in
      let b = term-means r h2.1 in
      (messages.pair a.0 b.0, ap (λ o. both messages.pair o (message v r)) a.1 ∙ ap (both messages.pair (Some a.0)) b.1, (a.2, b.2))
  term-means (key f g) h2 = let k = key-means f g h2.0 h2.1 in (messages.key k.0, ap (option_map messages.key) k.1, k.2)
  term-means (seal f g t) h3 =
      let k = key-means f g h3.0 h3.1 in
      let c = term-means t h3.2 in
      (messages.seal k.0 c.0, ap (λ o. both messages.seal o (message v t)) k.1 ∙ ap (both messages.seal (Some k.0)) c.1, (k.2, c.2))

  -- a short term
  means : (t : Term) → TermRefers p t → Short t → Means v t
  means t r s = let m = term-means t r in (m.0, m.1, record { fits = m.2; form = refl; short = substitution_is_short v t m.0 s m.1 })

  -- the atoms of a signal
  stand : (fs : List Field) → AllByRecursion (Refers p) fs → AllByRecursion (Stands v) fs
  stand [] r = tt
  stand (f ∷ fs) r = let x = h.atoms f r.0 in ((x.0, x.1), stand fs r.1)

  -- a step
  step-means : (s : Step) → StepRefers p s → ShortStep s → StepMeans v s
  step-means (send t) r s = means t r s
  step-means (receive t) r s = means t r s
  step-means (signal x) r s = stand x.fields r

  steps-mean : (ss : List Step) → AllByRecursion (StepRefers p) ss → AllByRecursion ShortStep ss → AllByRecursion (StepMeans v) ss
  steps-mean [] r s = tt
  steps-mean (x ∷ ss) r s = (step-means x r.0 s.0, steps-mean ss r.1 s.1)

  terms-mean : (ts : List Term) → AllByRecursion (TermRefers p) ts → AllByRecursion Short ts → AllByRecursion (Means v) ts
  terms-mean [] r s = tt
  terms-mean (t ∷ ts) r s = (means t r.0 s.0, terms-mean ts r.1 s.1)

-- ---- what names stand for

some_inj : {A : Type 0} {a b : A} → Some a ≡ Some b → a ≡ b
some_inj e = cc

none-some : {A : Type 0} {a : A} → None ≡ Some a → ⊥
none-some e = let z : ◌≡◌ {A = ℕ} 0 1 = cc in omega arith

-- an atom of a kind is in range
of-fits : (k : Kind) (x : Atom) → Of k x → Fits (single x)
of-fits kind.Agent x o = subst (λ y. Fits (single y)) (sym o.2) o.1
of-fits kind.Nonce x o = subst (λ y. Fits (single y)) (sym o.2) o.1
of-fits kind.Text x o = subst (λ y. Fits (single y)) (sym o.2) o.1

of-agent : (x : Atom) → Of kind.Agent x → (n : ℕ) × (agent_number (Some x) ≡ Some n) × (n < 256)
of-agent x o = (o.0, ap (λ y. agent_number (Some y)) o.2, o.1)

-- a named number is one of its kind
at_most : (k : Kind) (n count : ℕ) → count ≤ 6 → n < count → n < size k
at_most kind.Agent n count few h = omega arith
at_most kind.Nonce n count few h = omega arith
at_most kind.Text n count few h = omega arith

named-one : (k : Kind) (n count : ℕ) → count ≤ 6 → n < count → (x : Atom) × (atom_at k n ≡ Some x) × Of k x
named-one k n count few h =
    let lt = at_most k n count few h in
    (atom k n, cond-true (ltb n (size k)) (Some (atom k n)) None (lt-ltb n (size k) lt), (n, lt, refl))

module _ (sheet : Sheet) (counted : Counted sheet) where
  few : (k : Kind) → named sheet k ≤ 6
  few kind.Agent = counted.agents.1
  few kind.Nonce = counted.nonces
  few kind.Text = counted.texts

  named-atom : (k : Kind) (n : ℕ) → n < named sheet k → (x : Atom) × (atom_at k n ≡ Some x) × Fits (single x)
  named-atom k n h = let x = named-one k n (named sheet k) (few k) h in (x.0, x.1, of-fits k x.0 x.2)

  named-agent : (n : ℕ) → n < named sheet kind.Agent → (a : ℕ) × (agent_number (atom_at kind.Agent n) ≡ Some a) × (a < 256)
  named-agent n h =
      let x = named-one kind.Agent n (named sheet kind.Agent) (few kind.Agent) h in
      let a = of-agent x.0 x.2 in
      (a.0, ap agent_number x.1 ∙ a.1, a.2)

  -- outside the scripts
  values-by_name : Valued (by_name sheet) names_alone
  values-by_name = record { atoms = atoms-stand; agents = agents-stand }
    where
      atoms-stand : (f : Field) → Refers (by_name sheet) f → (x : Atom) × (value names_alone f ≡ Some x) × Fits (single x)
      atoms-stand field.Player h = absurd (false≢true h)
      atoms-stand (field.Variable i) h = absurd (omega arith)
      atoms-stand (field.Named k n) h = named-atom k n h

      agents-stand : (f : Field) → RefersToAgent (by_name sheet) f → (n : ℕ) × (agent_number (value names_alone f) ≡ Some n) × (n < 256)
      agents-stand field.Player h = absurd (false≢true h)
      agents-stand (field.Variable i) h = absurd (none-some h.1)
      agents-stand (field.Named kind.Agent n) h = named-agent n h
      agents-stand (field.Named kind.Nonce n) h = absurd h
      agents-stand (field.Named kind.Text n) h = absurd h

  -- an honest agent is named
  honest-below : (a : ℕ) → honest (slice_get sheet.agents a) ≡ true → a < 256
  honest-below a h =
      ⊎_elim
      (λ lt. omega (arith, few kind.Agent))
      (λ past. absurd (false≢true (sym (ap honest (slice_get_past sheet.agents a past)) ∙ h)))
      (cases_lt a (length sheet.agents))

  -- what a variable may stand for is in range
  allowed-fits : (r a i : ℕ) (s : Sort) (x : Atom) → Allowed sheet r a i s x → Fits (single x)
  allowed-fits r a i Fresh x h = of-fits kind.Nonce x (h.0, h.1, h.2)
  allowed-fits r a i (Plain k) x h = of-fits k x h

  -- in an instance of a role
  module _ (r : ℕ) (role : Role) (a : ℕ) (xs : List (Option Atom)) (inst : Instance sheet r role a xs) where
    in-role : Valued (in_role sheet role) (played a xs)
    in-role = record { atoms = atoms-stand; agents = agents-stand }
      where
        atoms-stand : (f : Field) → Refers (in_role sheet role) f → (x : Atom) × (value (played a xs) f ≡ Some x) × Fits (single x)
        atoms-stand field.Player h = (atoms.Agent a, refl, honest-below a inst.is-honest)
        atoms-stand (field.Variable i) h =
            let there = slice_get-get_or role.variables i (record { name = []; sort = Fresh }) h in
            let x = inst.whole i _ there in
            (x.0, x.1, allowed-fits r a i _ x.0 x.2)
        atoms-stand (field.Named kind.Agent n) h = named-atom kind.Agent n h
        atoms-stand (field.Named kind.Nonce n) h = absurd (omega arith)
        atoms-stand (field.Named kind.Text n) h = named-atom kind.Text n h

        agents-stand : (f : Field) → RefersToAgent (in_role sheet role) f → (n : ℕ) × (agent_number (value (played a xs) f) ≡ Some n) × (n < 256)
        agents-stand field.Player h = (a, refl, honest-below a inst.is-honest)
        agents-stand (field.Variable i) h =
            let x = inst.whole i h.0 h.1 in
            let n = of-agent x.0 (subst (λ s. Allowed sheet r a i s x.0) h.2 x.2) in
            (n.0, ap agent_number x.1 ∙ n.1, n.2)
        agents-stand (field.Named kind.Agent n) h = named-agent n h
        agents-stand (field.Named kind.Nonce n) h = absurd h
        agents-stand (field.Named kind.Text n) h = absurd h

-- ---- sheets that are read

-- what holds of each holds of the one of a number
pub each_at : {X : Type 0} (P : X → Type 0) (xs : List X) (i : ℕ) (x : X) → AllByRecursion P xs → slice_get xs i ≡ Some x → P x
each_at P [] i x h e = absurd (none-some e)
each_at P (y ∷ ys) zero x h e = let same : y ≡ x = cc in subst P same h.0
each_at P (y ∷ ys) (suc i) x h e = each_at P ys i x h.1 e

pub instances_are_messages : InstancesAreMessages
instances_are_messages text sheet e r role is a xs inst =
    steps-mean (in-role sheet (in_range text sheet e) r role a xs inst) role.steps
    (each_at (RoleRefers sheet) sheet.roles r role (names_refer text sheet e).roles is).steps
    (each_at (λ x. AllByRecursion ShortStep x.steps) sheet.roles r role (terms_short text sheet e).roles is)

pub start_is_messages : StartIsMessages
start_is_messages text sheet e = (known, start)
  where
    known : AllByRecursion (Means names_alone) sheet.known
    known = terms-mean (values-by_name sheet (in_range text sheet e)) sheet.known (names_refer text sheet e).known (terms_short text sheet e).known

    own : (m : Msg) → Own sheet m → Reads (wire m) m
    own (messages.agent n) h = record { fits = h; form = refl; short = omega arith }
    own (messages.nonce n) h = record { fits = h.1; form = refl; short = omega arith }
    own (messages.text n) h = record { fits = h.1; form = refl; short = omega arith }
    own (messages.key (shared a b)) h = record { fits = h.0; form = refl; short = omega arith }
    own (messages.pair l r) h = absurd h
    own (messages.seal k c) h = absurd h

    told : (m : Msg) → Told sheet m → Reads (wire m) m
    told m h =
        let k = each_at (Means names_alone) sheet.known h.0 h.1 known h.2 in
        let same : k.0 ≡ m = some_inj (sym k.1 ∙ h.3) in
        subst (λ x. Reads (wire x) x) same k.2

    start : (m : Msg) → Start sheet m → Reads (wire m) m
    start m = ⊎_elim (own m) (told m)
