-- Comparing node by node is comparing a term with a message, and by it the variables come to stand for what makes the term that message.
use Rattle.std.specs.Prelude.{◌≡◌, ℕ, Bool, true, false, ◌||◌, List, [], ◌++◌, length, Some, None, Option}
use Rattle.std.specs.Option.{option_map}
use Rattle.std.proofs.Common.{sym, refl, ap, subst, ◌∙◌, inl, inr, ⊎_elim, append_assoc}
use Rattle.std.proofs.lemmas.Bool.{false≢true}
use Rattle.std.proofs.lemmas.List.{append-nil}
use Rattle.std.proofs.lemmas.Option.{none-some}
use Rattle.message.specs.declared.Atom.{Atom}
use Rattle.message.specs.declared.Atom.TheVariants as atoms
use Rattle.message.specs.Message as messages
use Rattle.message.specs.Message.{Fits, Msg, agent, nonce, text, shared, single}
use Rattle.model.specs.declared.node.Field.{Field}
use Rattle.model.specs.declared.node.Node.{Node}
use Rattle.model.specs.Sheet as model
use Rattle.model.specs.Trees.{Term, leaf, pair, key, seal, prefix}
use Rattle.model.specs.Variables.{is_variable, stands_in}
use Rattle.instances.specs.Instances.{played}
use Rattle.instances.specs.Substitution.{both, key_under, message, value}
use Rattle.instances.proofs.Parts.{of-both, of_one}
use Rattle.ranks.specs.declared.piece.Piece.{Piece}
use Rattle.ranks.specs.Pieces.{pieces}
use Rattle.rehearsals.proofs.Sessions.{More, key_less, message_less}
use Rattle.board.specs.Matching.{bound, bound_key, is_player, matched, then}
use Rattle.board.proofs.Binding.{Grows, Made, Openly, bound_made, bound_sound, grows_not, grows_on, key_made, key_sound}

-- In a script the first agent of each key is the agent that plays the role.
abbrev pub Owned : Term → Type 0
Owned (leaf f) = Unit {0}
Owned (pair l r) = Owned l × Owned r
Owned (key f g) = is_player f ≡ true
Owned (seal f g t) = (is_player f ≡ true) × Owned t

owners : (k : messages.Key) → (a : ℕ) × (b : ℕ) × (k ≡ shared a b)
owners (shared a b) = (a, b, refl)

or_left : (a b : Bool) → a ≡ true → (a || b) ≡ true
or_left true b e = refl
or_left false b e = absurd (false≢true e)

or_right : (a b : Bool) → b ≡ true → (a || b) ≡ true
or_right true b e = refl
or_right false b e = e

module _ (me : ℕ) (vs : List model.Variable) where
  -- the same as a comparison of trees
  abbrev pub tree_matched : List (Option Atom) → Term → Msg → Option (List (Option Atom))
  tree_matched os (leaf f) (agent n) = bound me vs os f (atoms.Agent n)
  tree_matched os (leaf f) (nonce n) = bound me vs os f (atoms.Nonce n)
  tree_matched os (leaf f) (text n) = bound me vs os f (atoms.Text n)
  tree_matched os (leaf f) (messages.key k) = None
  tree_matched os (leaf f) (messages.pair a b) = None
  tree_matched os (leaf f) (messages.seal k m) = None
  tree_matched os (pair l r) (agent n) = None
  tree_matched os (pair l r) (nonce n) = None
  tree_matched os (pair l r) (text n) = None
  tree_matched os (pair l r) (messages.key k) = None
  tree_matched os (pair l r) (messages.pair a b) = then me vs (tree_matched os l a) (λ more. tree_matched more r b)
  tree_matched os (pair l r) (messages.seal k m) = None
  tree_matched os (key f g) (agent n) = None
  tree_matched os (key f g) (nonce n) = None
  tree_matched os (key f g) (text n) = None
  tree_matched os (key f g) (messages.key (shared a b)) = bound_key me vs os f g a b
  tree_matched os (key f g) (messages.pair a b) = None
  tree_matched os (key f g) (messages.seal k m) = None
  tree_matched os (seal f g t) (agent n) = None
  tree_matched os (seal f g t) (nonce n) = None
  tree_matched os (seal f g t) (text n) = None
  tree_matched os (seal f g t) (messages.key k) = None
  tree_matched os (seal f g t) (messages.pair a b) = None
  tree_matched os (seal f g t) (messages.seal (shared a b) m) = then me vs (bound_key me vs os f g a b) (λ more. tree_matched more t m)

  then_same : (f g : List (Option Atom) → Option (List (Option Atom))) (o : Option (List (Option Atom))) → ((os : List (Option Atom)) → f os ≡ g os) → then me vs o f ≡ then me vs o g
  then_same f g None h = refl
  then_same f g (Some os) h = h os

  then_then : (f g : List (Option Atom) → Option (List (Option Atom))) (o : Option (List (Option Atom))) → then me vs (then me vs o f) g ≡ then me vs o (λ os. then me vs (f os) g)
  then_then f g None = refl
  then_then f g (Some os) = refl

  -- the nodes of a term against the pieces of a message
  by_trees : (os : List (Option Atom)) (t : Term) (m : Msg) (ns : List Node) (ps : List Piece)
      → matched me vs os (prefix t ++ ns) (pieces m ++ ps) ≡ then me vs (tree_matched os t m) (λ more. matched me vs more ns ps)
  by_trees os (leaf f) (agent n) ns ps = refl
  by_trees os (leaf f) (nonce n) ns ps = refl
  by_trees os (leaf f) (text n) ns ps = refl
  by_trees os (leaf f) (messages.key (shared a b)) ns ps = refl
  by_trees os (leaf f) (messages.pair a b) ns ps = refl
  by_trees os (leaf f) (messages.seal (shared a b) m) ns ps = refl
  by_trees os (pair l r) (agent n) ns ps = refl
  by_trees os (pair l r) (nonce n) ns ps = refl
  by_trees os (pair l r) (text n) ns ps = refl
  by_trees os (pair l r) (messages.key (shared a b)) ns ps = refl
  by_trees os (pair l r) (messages.pair a b) ns ps =
      (λ i. matched me vs os (append_assoc (prefix l) (prefix r) ns i) (append_assoc (pieces a) (pieces b) ps i))
      ∙ by_trees os l a (prefix r ++ ns) (pieces b ++ ps)
      ∙ then_same (λ more. matched me vs more (prefix r ++ ns) (pieces b ++ ps)) (λ more. then me vs (tree_matched more r b) (λ last. matched me vs last ns ps)) (tree_matched os l a) (λ more. by_trees more r b ns ps)
      ∙ sym (then_then (λ more. tree_matched more r b) (λ last. matched me vs last ns ps) (tree_matched os l a))
  by_trees os (pair l r) (messages.seal (shared a b) m) ns ps = refl
  by_trees os (key f g) (agent n) ns ps = refl
  by_trees os (key f g) (nonce n) ns ps = refl
  by_trees os (key f g) (text n) ns ps = refl
  by_trees os (key f g) (messages.key (shared a b)) ns ps = refl
  by_trees os (key f g) (messages.pair a b) ns ps = refl
  by_trees os (key f g) (messages.seal (shared a b) m) ns ps = refl
  by_trees os (seal f g t) (agent n) ns ps = refl
  by_trees os (seal f g t) (nonce n) ns ps = refl
  by_trees os (seal f g t) (text n) ns ps = refl
  by_trees os (seal f g t) (messages.key (shared a b)) ns ps = refl
  by_trees os (seal f g t) (messages.pair a b) ns ps = refl
  by_trees os (seal f g t) (messages.seal (shared a b) m) ns ps =
      then_same (λ more. matched me vs more (prefix t ++ ns) (pieces m ++ ps)) (λ more. then me vs (tree_matched more t m) (λ last. matched me vs last ns ps)) (bound_key me vs os f g a b) (λ more. by_trees more t m ns ps)
      ∙ sym (then_then (λ more. tree_matched more t m) (λ last. matched me vs last ns ps) (bound_key me vs os f g a b))

  then_none : (o : Option (List (Option Atom))) → then me vs o (λ more. matched me vs more [] []) ≡ o
  then_none None = refl
  then_none (Some os) = refl

  pub by_tree : (os : List (Option Atom)) (t : Term) (m : Msg) → matched me vs os (prefix t) (pieces m) ≡ tree_matched os t m
  by_tree os t m = (λ i. matched me vs os (sym (append-nil (prefix t)) i) (sym (append-nil (pieces m)) i)) ∙ by_trees os t m [] [] ∙ then_none (tree_matched os t m)

  then_is : (o : Option (List (Option Atom))) (f : List (Option Atom) → Option (List (Option Atom))) (ws : List (Option Atom)) → then me vs o f ≡ Some ws → (xs : List (Option Atom)) × (o ≡ Some xs) × (f xs ≡ Some ws)
  then_is None f ws e = absurd (none-some ws e)
  then_is (Some xs) f ws e = (xs, refl, e)

  -- what is compared with success is the message
  pub tree_sound : (os ws : List (Option Atom)) (t : Term) (m : Msg) → Fits m → tree_matched os t m ≡ Some ws
      → (message (played me ws) t ≡ Some m) × Grows vs (λ i. stands_in i t) os ws
  tree_sound os ws (leaf f) (agent n) fits e = let (is, g) = bound_sound me vs os ws f (atoms.Agent n) fits e in (ap (option_map single) is, g)
  tree_sound os ws (leaf f) (nonce n) fits e = let (is, g) = bound_sound me vs os ws f (atoms.Nonce n) fits e in (ap (option_map single) is, g)
  tree_sound os ws (leaf f) (text n) fits e = let (is, g) = bound_sound me vs os ws f (atoms.Text n) fits e in (ap (option_map single) is, g)
  tree_sound os ws (leaf f) (messages.key k) fits e = absurd (none-some ws e)
  tree_sound os ws (leaf f) (messages.pair a b) fits e = absurd (none-some ws e)
  tree_sound os ws (leaf f) (messages.seal k m) fits e = absurd (none-some ws e)
  tree_sound os ws (pair l r) (agent n) fits e = absurd (none-some ws e)
  tree_sound os ws (pair l r) (nonce n) fits e = absurd (none-some ws e)
  tree_sound os ws (pair l r) (text n) fits e = absurd (none-some ws e)
  tree_sound os ws (pair l r) (messages.key k) fits e = absurd (none-some ws e)
  tree_sound os ws (pair l r) (messages.pair a b) fits e =
      let (xs, first, second) = then_is (tree_matched os l a) (λ more. tree_matched more r b) ws e in
      let (p, g) = tree_sound os xs l a fits.0 first in
      let (q, h) = tree_sound xs ws r b fits.1 second in (
        (λ i. both messages.pair (message_less (Some me) xs ws h.more l a p i) (q i)),
        grows_on vs _ _ (λ i. stands_in i l || stands_in i r) (λ i s. or_left _ _ s) (λ i s. or_right (stands_in i l) _ s) os xs ws g h,
      )
  tree_sound os ws (pair l r) (messages.seal k m) fits e = absurd (none-some ws e)
  tree_sound os ws (key f g) (agent n) fits e = absurd (none-some ws e)
  tree_sound os ws (key f g) (nonce n) fits e = absurd (none-some ws e)
  tree_sound os ws (key f g) (text n) fits e = absurd (none-some ws e)
  tree_sound os ws (key f g) (messages.key (shared a b)) fits e =
      let (is, h) = key_sound me vs os ws f g a b fits e in
      (ap (option_map messages.key) is, grows_on vs _ _ (λ i. is_variable i f || is_variable i g) (λ i s. or_right (is_variable i f) _ s) (λ i s. or_right (is_variable i f) _ s) os ws ws h (grows_not vs _ ws ws refl))
  tree_sound os ws (key f g) (messages.pair a b) fits e = absurd (none-some ws e)
  tree_sound os ws (key f g) (messages.seal k m) fits e = absurd (none-some ws e)
  tree_sound os ws (seal f g t) (agent n) fits e = absurd (none-some ws e)
  tree_sound os ws (seal f g t) (nonce n) fits e = absurd (none-some ws e)
  tree_sound os ws (seal f g t) (text n) fits e = absurd (none-some ws e)
  tree_sound os ws (seal f g t) (messages.key k) fits e = absurd (none-some ws e)
  tree_sound os ws (seal f g t) (messages.pair a b) fits e = absurd (none-some ws e)
  tree_sound os ws (seal f g t) (messages.seal (shared a b) m) fits e =
      let (xs, first, second) = then_is (bound_key me vs os f g a b) (λ more. tree_matched more t m) ws e in
      let (p, g1) = key_sound me vs os xs f g a b fits.0 first in
      let (q, h) = tree_sound xs ws t m fits.1 second in (
        (λ i. both messages.seal (key_less (Some me) xs ws h.more f g (shared a b) p i) (q i)),
        grows_on vs _ _ (λ i. is_variable i f || (is_variable i g || stands_in i t)) (λ i s. or_right (is_variable i f) _ (or_left _ _ s)) (λ i s. or_right (is_variable i f) _ (or_right (is_variable i g) _ s)) os xs ws g1 h,
      )

  leaf_matched : (os : List (Option Atom)) (f : Field) (x : Atom) → tree_matched os (leaf f) (single x) ≡ bound me vs os f x
  leaf_matched os f (atoms.Agent n) = refl
  leaf_matched os f (atoms.Nonce n) = refl
  leaf_matched os f (atoms.Text n) = refl

  -- what is open at first is open or bound later
  later : (os ws after : List (Option Atom)) (test : ℕ → Bool) → More os ws → Openly me vs os after test → Openly me vs ws after test
  later os ws after test more free i y t e = ⊎_elim (λ old. inl (more i y old)) (λ may. inr may) (free i y t e)

  -- two after one another
  made_then : (os after : List (Option Atom)) (o : Option (List (Option Atom))) (f : List (Option Atom) → Option (List (Option Atom))) (p : Made me vs os after o) → Made me vs p.ws after (f p.ws) → Made me vs os after (then me vs o f)
  made_then os after o f p q = record {
    ws = q.ws;
    is = ap (λ w. then me vs w f) p.is ∙ q.is;
    below = q.below;
    above = λ i x e. q.above i x (p.above i x e);
    slots = q.slots ∙ p.slots;
  }

  -- what is the message under more values is compared with success
  pub tree_made : (after os : List (Option Atom)) (t : Term) (m : Msg) → Owned t → More os after → length after ≡ length os → Openly me vs os after (λ i. stands_in i t)
      → message (played me after) t ≡ Some m → Made me vs os after (tree_matched os t m)
  tree_made after os (leaf f) m owned more slots free e =
      let (x, is, m-is) = of_one (value (played me after) f) e in
      subst (λ (k : Msg). Made me vs os after (tree_matched os (leaf f) k)) (sym m-is) (subst (Made me vs os after) (sym (leaf_matched os f x)) (bound_made me vs os after f x more slots free is))
  tree_made after os (pair l r) m owned more slots free e =
      let (a, b, left, right, m-is) = of-both {f = messages.pair} (message (played me after) l) (message (played me after) r) e in
      let p = tree_made after os l a owned.0 more slots (λ i y s h. free i y (or_left _ _ s) h) left in
      let q = tree_made after p.ws r b owned.1 p.below (slots ∙ sym p.slots) (later os p.ws after (λ i. stands_in i r) p.above (λ i y s h. free i y (or_right (stands_in i l) _ s) h)) right in
      subst (λ (k : Msg). Made me vs os after (tree_matched os (pair l r) k)) (sym m-is) (made_then os after (tree_matched os l a) (λ more. tree_matched more r b) p q)
  tree_made after os (key f g) m owned more slots free e =
      let (k, is, m-is) = of_one {f = messages.key} (key_under (played me after) f g) e in
      let (a, b, k-is) = owners k in
      subst (λ (x : Msg). Made me vs os after (tree_matched os (key f g) x)) (sym (m-is ∙ ap messages.key k-is))
      (key_made me vs os after f g a b owned more slots (λ i y s h. free i y (or_right (is_variable i f) _ s) h) (is ∙ ap Some k-is))
  tree_made after os (seal f g t) m owned more slots free e =
      let (k, c, is, inner, m-is) = of-both {f = messages.seal} (key_under (played me after) f g) (message (played me after) t) e in
      let (a, b, k-is) = owners k in
      let p = key_made me vs os after f g a b owned.0 more slots (λ i y s h. free i y (or_right (is_variable i f) _ (or_left _ _ s)) h) (is ∙ ap Some k-is) in
      let q = tree_made after p.ws t c owned.1 p.below (slots ∙ sym p.slots) (later os p.ws after (λ i. stands_in i t) p.above (λ i y s h. free i y (or_right (is_variable i f) _ (or_right (is_variable i g) _ s)) h)) inner in
      subst (λ (x : Msg). Made me vs os after (tree_matched os (seal f g t) x)) (sym (m-is ∙ ap (λ x. messages.seal x c) k-is))
      (made_then os after (bound_key me vs os f g a b) (λ more. tree_matched more t c) p q)
