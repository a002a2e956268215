-- A message is compared with success exactly where some values turn what is received into it, and then these are bound.
use Rattle.std.specs.Prelude.{◌≡◌, ℕ, zero, suc, ◌⊎◌, Bool, true, false, ◌||◌, List, [], ◌∷◌, length, Some, None, MatchOption, Option, slice_index_or}
use Rattle.std.specs.List.{slice_get}
use Rattle.std.specs.Option.{option_map}
use Rattle.std.proofs.Common.{sym, refl, ap, subst, ◌∙◌, inl, inr, ⊎_elim, arith, eqb-true}
use Rattle.std.proofs.lemmas.Bool.{false≢true}
use Rattle.std.proofs.lemmas.Option.{none-some, same_Some}
use Rattle.message.specs.declared.Atom.{Atom}
use Rattle.message.specs.declared.Kind.{Kind}
use Rattle.message.specs.Message as messages
use Rattle.message.specs.Message.{Fits, Key, Msg, Reads, atom, key_of, single}
use Rattle.model.specs.declared.node.Field.{Field}
use Rattle.model.specs.declared.node.Field.TheVariants as field
use Rattle.model.specs.declared.node.Sort.{Sort}
use Rattle.model.specs.declared.node.Sort.TheVariants.{Fresh, Plain}
use Rattle.model.specs.Sheet.{Role, Sheet, Step, Variable, receive, send, signal}
use Rattle.model.specs.Trees.{Term, leaf, pair, key, seal, prefix}
use Rattle.model.specs.Variables.{is_variable, stands_in}
use Rattle.instances.specs.Actions.{Event, does, done_at, event, receives, sends, signals}
use Rattle.instances.specs.Instances.{Of, played}
use Rattle.instances.specs.Substitution.{Values, agent_number, key_under, message, value}
use Rattle.instances.proofs.Parts.{of-both, of_one}
use Rattle.ranks.specs.declared.piece.Piece.{Piece}
use Rattle.ranks.specs.Matching.{is_kind}
use Rattle.ranks.specs.Pieces.{pieces}
use Rattle.ranks.proofs.Settling.{kind_is, kind_self}
use Rattle.rehearsals.specs.Boards.{Binds, Bound}
use Rattle.board.specs.declared.records.Session.{Session}
use Rattle.sheet_laws.specs.References.{NamesRefer}
use Rattle.board.specs.Deliveries.{Turns, TurnsOnce}
use Rattle.board.specs.Matching.{is_open, is_open_variable, matched, may_be_bound}
use Rattle.board.specs.Receiving.{Receives}
use Rattle.board.proofs.Binding.{Made}
use Rattle.board.proofs.Comparing.{Owned, by_tree, tree_made, tree_matched, tree_sound}
use Rattle.board.proofs.Reading.{received_owned}
use Rattle.board.proofs.Spelling.{one_message}

-- ---- a variable that may be bound

pub record Opened (o : Option Variable) (x : Atom) : Type 0 where
  pub variable : Variable
  pub is-variable : o ≡ Some variable
  pub kind : Kind
  pub not-fresh : variable.sort ≡ Plain kind
  pub of-kind : Of kind x

opened : (o : Option Variable) (x : Atom) → Fits (single x) → is_open_variable o x ≡ true → Opened o x
opened None x fits e = absurd (false≢true e)
opened (Some v) x fits e = go v.sort refl e
  where
    go : (s : Sort) → v.sort ≡ s → is_open s x ≡ true → Opened (Some v) x
    go Fresh at e = absurd (false≢true e)
    go (Plain k) at e = record { variable = v; is-variable = refl; kind = k; not-fresh = at; of-kind = kind_is k x fits e }

kind_of_kind : (k : Kind) (x : Atom) → Of k x → is_kind k x ≡ true
kind_of_kind k x h = subst (λ (z : Atom). is_kind k z ≡ true) (sym h.2) (kind_self k h.0)

may_open : (role : Role) (k i : ℕ) (x : Atom) → Bound role k i x → may_be_bound role.variables i x ≡ true
may_open role k i x b = ap (λ o. is_open_variable o x) b.is-variable ∙ ap (λ s. is_open s x) b.not-fresh ∙ kind_of_kind b.kind x b.of-kind

-- ---- whatever stands in a term that is a message stands for something

or_cases : (a b : Bool) → (a || b) ≡ true → (a ≡ true) ⊎ (b ≡ true)
or_cases true b e = inl refl
or_cases false b e = inr e

module _ (a : ℕ) (os : List (Option Atom)) (i : ℕ) where
  abbrev Has : Type 0
  Has = (y : Atom) × (slice_index_or os i None ≡ Some y)

  field_has : (f : Field) (x : Atom) → value (played a os) f ≡ Some x → is_variable i f ≡ true → Has
  field_has field.Player x e s = absurd (false≢true s)
  field_has (field.Variable j) x e s = (x, ap (λ k. slice_index_or os k None) (eqb-true i j s) ∙ e)
  field_has (field.Named k n) x e s = absurd (false≢true s)

  agent_has : (f : Field) (n : ℕ) → agent_number (value (played a os) f) ≡ Some n → is_variable i f ≡ true → Has
  agent_has f n e s = go (value (played a os) f) refl e
    where
      go : (o : Option Atom) → value (played a os) f ≡ o → agent_number o ≡ Some n → Has
      go None at e = absurd (none-some n e)
      go (Some x) at e = field_has f x at s

  key_has : (f g : Field) (k : Key) → key_under (played a os) f g ≡ Some k → (is_variable i f || is_variable i g) ≡ true → Has
  key_has f g k e s =
      let (m, n, first, second, is) = of-both {f = key_of} (agent_number (value (played a os) f)) (agent_number (value (played a os) g)) e in
      ⊎_elim (λ t. agent_has f m first t) (λ t. agent_has g n second t) (or_cases (is_variable i f) (is_variable i g) s)

  message_has : (t : Term) (m : Msg) → message (played a os) t ≡ Some m → stands_in i t ≡ true → Has
  message_has (leaf f) m e s = let (x, is, _) = of_one (value (played a os) f) e in field_has f x is s
  message_has (pair l r) m e s =
      let (x, y, left, right, is) = of-both {f = messages.pair} (message (played a os) l) (message (played a os) r) e in
      ⊎_elim (λ t. message_has l x left t) (λ t. message_has r y right t) (or_cases (stands_in i l) (stands_in i r) s)
  message_has (key f g) m e s = let (k, is, _) = of_one {f = messages.key} (key_under (played a os) f g) e in key_has f g k is s
  message_has (seal f g t) m e s =
      let (k, c, under, inner, is) = of-both {f = messages.seal} (key_under (played a os) f g) (message (played a os) t) e in
      ⊎_elim (λ h. agent_first k under h) (λ h. ⊎_elim (λ j. agent_second k under j) (λ j. message_has t c inner j) (or_cases (is_variable i g) (stands_in i t) h)) (or_cases (is_variable i f) (is_variable i g || stands_in i t) s)
    where
      agent_first : (k : Key) → key_under (played a os) f g ≡ Some k → is_variable i f ≡ true → Has
      agent_first k e s = key_has f g k e (ap (λ b. b || is_variable i g) s)

      or_true : (b : Bool) → (b || true) ≡ true
      or_true true = refl
      or_true false = refl

      agent_second : (k : Key) → key_under (played a os) f g ≡ Some k → is_variable i g ≡ true → Has
      agent_second k e s = key_has f g k e (ap (λ b. is_variable i f || b) s ∙ or_true (is_variable i f))

-- ---- the same values

same_values : (us ws : List (Option Atom)) → length us ≡ length ws → ((i : ℕ) → slice_index_or us i None ≡ slice_index_or ws i None) → us ≡ ws
same_values [] [] l h = refl
same_values [] (w ∷ ws) l h = absurd (omega (arith, l))
same_values (u ∷ us) [] l h = absurd (omega (arith, l))
same_values (u ∷ us) (w ∷ ws) l h = λ j. h zero j ∷ same_values us ws (omega (arith, l)) (λ i. h (suc i)) j

module _ (sheet : Option Sheet) (s : Session) (role : Role) (term : Term) (r : Receives sheet s role term) (m : Msg) (fits : Fits m) where
  -- compared with success
  pub turned : (ws : List (Option Atom)) → matched s.agent role.variables s.values (prefix term) (pieces m) ≡ Some ws → Turns sheet s ws m
  turned ws e =
      let (is, g) = tree_sound s.agent role.variables s.values ws term m fits (sym (by_tree s.agent role.variables s.values term m) ∙ e) in
      record {
        role = role;
        is-role = r.is-role;
        slots = g.slots;
        binds = record {
          kept = λ i x h. g.more i x h;
          bound = λ i x h. ⊎_elim (λ old. inl old) (λ new. inr (newly i x new.0 (opened (slice_get role.variables i) x new.2 new.1))) (g.bound i x h);
        };
        does-it = ap (done_at (played s.agent ws)) r.is-step ∙ ap (option_map receives) is;
      }
    where
      newly : (i : ℕ) (x : Atom) → stands_in i term ≡ true → Opened (slice_get role.variables i) x → Bound role s.next i x
      newly i x stands o = record { term = term; is-received = r.is-step; stands = stands; variable = o.variable; is-variable = o.is-variable; kind = o.kind; not-fresh = o.not-fresh; of-kind = o.of-kind }

  module _ (owned : Owned term) where
    receives_same : (k : Msg) → receives k ≡ receives m → k ≡ m
    receives_same k e = cc

    -- some values turn what is received into the message
    pub unturned : (ws : List (Option Atom)) → Turns sheet s ws m → matched s.agent role.variables s.values (prefix term) (pieces m) ≡ Some ws
    unturned ws t = by_tree s.agent role.variables s.values term m ∙ made.is ∙ ap Some (same_values made.ws ws (made.slots ∙ sym t.slots) (λ i. at i (slice_index_or ws i None) refl))
      where
        same-role : t.role ≡ role
        same-role = same_Some t.role role (sym t.is-role ∙ r.is-role)

        binds : Binds role s.next s.values ws
        binds = subst (λ (q : Role). Binds q s.next s.values ws) same-role t.binds

        is : message (played s.agent ws) term ≡ Some m
        is =
            let d = subst (λ (q : Role). does q (played s.agent ws) s.next ≡ Some (receives m)) same-role t.does-it in
            let (k, there, same) = of_one {f = receives} (message (played s.agent ws) term) (sym (ap (done_at (played s.agent ws)) r.is-step) ∙ d) in
            there ∙ ap Some (receives_same k (sym same))

        made : Made s.agent role.variables s.values ws (tree_matched s.agent role.variables s.values term m)
        made = tree_made s.agent role.variables ws s.values term m owned (λ i x h. binds.kept i x h) t.slots
            (λ i y st h. ⊎_elim (λ old. inl old) (λ b. inr (may_open role s.next i y b)) (binds.bound i y h)) is

        stood : (i : ℕ) (x : Atom) → Bound role s.next i x → stands_in i term ≡ true
        stood i x b =
            let same : receive b.term ≡ receive term = same_Some _ _ (sym b.is-received ∙ r.is-step) in
            let one : b.term ≡ term = cc in
            subst (λ (q : Term). stands_in i q ≡ true) one b.stands

        at : (i : ℕ) (o : Option Atom) → slice_index_or ws i None ≡ o → slice_index_or made.ws i None ≡ slice_index_or ws i None
        at i (Some x) e = ⊎_elim (λ old. made.above i x old ∙ sym e)
            (λ b.
            let (u, g) = tree_sound s.agent role.variables s.values made.ws term m fits made.is in
            let (y, has) = message_has s.agent made.ws i term m u (stood i x b) in
            has ∙ sym (made.below i y has))
            (binds.bound i x e)
        at i None e = none (slice_index_or made.ws i None) refl ∙ sym e
          where
            none : (o : Option Atom) → slice_index_or made.ws i None ≡ o → slice_index_or made.ws i None ≡ None
            none None h = h
            none (Some y) h = absurd (none-some y (sym e ∙ made.below i y h))

-- what a session's values are answered to be after it receives
pub values_answer : NamesRefer → (sheet : Option Sheet) (s : Session) (role : Role) (term : Term) → Receives sheet s role term
    → (bytes : List ℕ) (k : Msg) → Reads bytes k → (ps : List Piece) → ps ≡ pieces k
    → (o : Option (List (Option Atom))) → o ≡ matched s.agent role.variables s.values (prefix term) ps
    → MatchOption o ((m : Msg) (values : List (Option Atom)) → Reads bytes m → Turns sheet s values m → ⊥) (λ values. (m : Msg) → Reads bytes m → Turns sheet s values m)
values_answer law sheet s role term r bytes k reads ps are None e = λ m values also t.
    let same : m ≡ k = one_message m k also reads in
    let made = unturned sheet s role term r k reads.fits (received_owned law sheet s role term r) values (subst (Turns sheet s values) same t) in
    none-some values (e ∙ ap (matched s.agent role.variables s.values (prefix term)) are ∙ made)
values_answer law sheet s role term r bytes k reads ps are (Some values) e = λ m also.
    let same : k ≡ m = one_message k m reads also in
    subst (Turns sheet s values) same (turned sheet s role term r k reads.fits values (sym (e ∙ ap (matched s.agent role.variables s.values (prefix term)) are)))

-- ---- values that turn a step into a message are the only ones

received_at : (values : Values) (o : Option Step) (m : Msg) → done_at values o ≡ Some (receives m) → (term : Term) × (o ≡ Some (receive term))
received_at v None m e = absurd (none-some _ e)
received_at v (Some (send t)) m e = absurd (let (k, is, same) = of_one {f = sends} (message v t) e in sends-not k m (sym same))
  where
    sends-not : (k m : Msg) → sends k ≡ receives m → ⊥
    sends-not k m e = cc
received_at v (Some (receive t)) m e = (t, refl)
received_at v (Some (signal x)) m e = absurd (let (k, is, same) = of_one {f = signals} (event v x) e in signals-not k m (sym same))
  where
    signals-not : (k : Event) (m : Msg) → signals k ≡ receives m → ⊥
    signals-not k m e = cc

pub turns_once : NamesRefer → TurnsOnce
turns_once law text sheet read s m reads values others t u =
    let (term, at) = received_at (played s.agent values) (slice_get t.role.steps s.next) m t.does-it in
    let r : Receives (Some sheet) s t.role term = record { is-role = t.is-role; is-step = at; read = (text, read) } in
    let owned = received_owned law (Some sheet) s t.role term r in
    same_Some values others (sym (unturned (Some sheet) s t.role term r m reads.fits owned values t) ∙ unturned (Some sheet) s t.role term r m reads.fits owned others u)
