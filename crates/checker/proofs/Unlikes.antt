-- Whether values make a `seal` line bad, by what is told of its key and its content.
use Rattle.std.proofs.Common.{◌≡◌, ℕ, ◌<◌, Bool, true, false, not, ◌↔◌, IsTrue, List, map, length, get_or, ℤ, Some, None, Option, sym, refl, ap, subst, ◌∙◌, ◌≤◌, arith}
use Rattle.std.specs.Prelude.{Decides}
use Rattle.std.specs.List.{slice_get}
use Rattle.std.proofs.lemmas.Bool.{false≢true}
use Rattle.std.proofs.lemmas.Option.{none-some, same_Some, slice_get_within}
use Rattle.std.proofs.lemmas.List.{length-map}
use Rattle.checker.specs.Verdicts.{BadSeal}
use Rattle.message.specs.declared.Atom.{Atom}
use Rattle.message.specs.Message as messages
use Rattle.message.specs.Message.{Key, Msg, Reads}
use Rattle.model.specs.declared.node.Field.{Field}
use Rattle.model.specs.declared.stored.Ranked as stored
use Rattle.model.specs.declared.stored.Sealed.{Sealed}
use Rattle.model.specs.declared.stored.Variable.{Variable}
use Rattle.model.specs.Stored.{ranked_of, sealed_of, variable_of}
use Rattle.model.specs.Sheet.{Ranked, Sheet}
use Rattle.model.specs.Trees.{Term, key, seal}
use Rattle.instances.specs.Substitution.{Values, key_under, message}
use Rattle.instances.specs.Writing.{Substitutes}
use Rattle.instances.proofs.Parts.{of-both}
use Rattle.scale.specs.Scales.{Scale}
use Rattle.ranks.specs.Conditions.{NoneEarlier}
use Rattle.ranks.specs.Ranks.{Gives, GivesBytes, Positive, free_values}
use Rattle.ranks.proofs.Givings.{same_message}
use Rattle.checker.specs.Sealing.{GivenAt, GivenBefore, disagree}
use Rattle.checker.specs.Trying.{Tells, Unlike}
use Rattle.checker.proofs.Clear.{Clear, clear_all, item_at}

-- ---- lines before

module _ (sheet : Sheet) (bytes : List ℕ) (j : ℕ) (lines : List (stored.Ranked Sealed)) (lines-are : map (ranked_of sealed_of) lines ≡ sheet.seals) (x : stored.Ranked Sealed) (within : j < length lines) (is-x : x ≡ get_or lines j x)
    (free : List Variable) (free-is : map variable_of free ≡ sheet.free) where
  line_there : slice_get sheet.seals j ≡ Some (ranked_of sealed_of x)
  line_there = ap (λ ls. slice_get ls j) (sym lines-are) ∙ item_at (ranked_of sealed_of) lines j x within is-x

  pub given_here : GivesBytes (map variable_of free) (sealed_of x.what) bytes → GivenAt sheet bytes j
  given_here g = (ranked_of sealed_of x, line_there, subst (λ vs. GivesBytes vs (sealed_of x.what) bytes) free-is g)

  pub not_given_here : (GivesBytes (map variable_of free) (sealed_of x.what) bytes → ⊥) → GivenAt sheet bytes j → ⊥
  not_given_here none (l, is-l, g) =
      let same : l ≡ ranked_of sealed_of x = same_Some l (ranked_of sealed_of x) (sym is-l ∙ line_there) in
      none (subst (λ (y : Ranked Term). GivesBytes (map variable_of free) y.what bytes) same (subst (λ vs. GivesBytes vs l.what bytes) (sym free-is) g))

-- ---- what is told

told : {X : Type 0} (P : X → Type 0) (o : Option X) (x : X) → o ≡ Some x → (r : Option Bool) → Tells P o r → (b : Bool) × (r ≡ Some b) × (IsTrue b ↔ P x)
told P o x is None tells = absurd (none-some x (sym tells ∙ is))
told P o x is (Some b) (y, is-y, both) = (b, refl, subst (λ z. IsTrue b ↔ P z) (same_Some y x (sym is-y ∙ is)) both)

disagree_true : (b c l : Bool) (K C : Type 0) → (IsTrue b ↔ K) → (IsTrue c ↔ C) → disagree (Some b) (Some c) l ≡ true → K × ((l ≡ true) ↔ C → ⊥)
disagree_true false c l K C k t e = absurd (false≢true e)
disagree_true true true true K C k t e = absurd (false≢true e)
disagree_true true true false K C k t e = (k.0 refl, λ both. false≢true (both.1 (t.0 refl)))
disagree_true true false true K C k t e = (k.0 refl, λ both. false≢true (t.1 (both.0 refl)))
disagree_true true false false K C k t e = absurd (false≢true e)

true_disagree : (b c l : Bool) (K C : Type 0) → (IsTrue b ↔ K) → (IsTrue c ↔ C) → K → ((l ≡ true) ↔ C → ⊥) → disagree (Some b) (Some c) l ≡ true
true_disagree false c l K C k t is unlike = absurd (false≢true (k.1 is))
true_disagree true true true K C k t is unlike = absurd (unlike (λ _. t.0 refl, λ _. refl))
true_disagree true true false K C k t is unlike = refl
true_disagree true false true K C k t is unlike = refl
true_disagree true false false K C k t is unlike = absurd (unlike (λ e. absurd (false≢true e), λ c. absurd (false≢true (t.1 c))))

module _ (scale : Scale) (sheet : Sheet) (i : ℕ) (rank : ℤ) (f g : Field) (t : Term) (os : List (Option Atom)) where
  abbrev v : Values
  v = free_values os

  abbrev line : Ranked Term
  line = record { rank = rank; what = seal f g t }

  abbrev Bad : Type 0
  Bad = Unlike scale sheet i line os

  pub unlike_none : message v (seal f g t) ≡ None → Decides false Bad
  unlike_none none = (λ e. absurd (false≢true e), λ u. absurd (none-some (messages.seal u.under u.content) (sym none ∙ u.is-seal)))

  record Parts (bytes : List ℕ) : Type 0 where
    under : Key
    content : Msg
    under-is : key_under v f g ≡ Some under
    content-is : message v t ≡ Some content
    seal-is : message v (seal f g t) ≡ Some (messages.seal under content)
    reads : Reads bytes (messages.seal under content)

  parts : (bytes : List ℕ) → Substitutes v (seal f g t) (Some bytes) → Parts bytes
  parts bytes (m, is, reads) =
      let (k, x, k-is, x-is, m-is) = of-both (key_under v f g) (message v t) is in
      record { under = k; content = x; under-is = k-is; content-is = x-is; seal-is = is ∙ ap Some m-is; reads = subst (Reads bytes) m-is reads }

  -- no line before gives it
  none_earlier : (bytes : List ℕ) (m : Msg) → Reads bytes m → (GivenBefore sheet i bytes → ⊥) → NoneEarlier sheet i m
  none_earlier bytes m reads none j l lt is gives = none (j, lt, (l, is, (m, reads, gives)))

  earlier_none : (bytes : List ℕ) (m : Msg) → Reads bytes m → NoneEarlier sheet i m → GivenBefore sheet i bytes → ⊥
  earlier_none bytes m reads none (j, lt, (l, is, (n, also, gives))) = none j l lt is (subst (Gives sheet.free l.what) (same_message bytes n m also reads) gives)

  module _ (bytes : List ℕ) (written : Substitutes v (seal f g t) (Some bytes)) (kb cb : Option Bool) (key-told : Tells (Positive scale sheet) (message v (key f g)) kb) (content-told : Tells (Positive scale sheet) (message v t) cb) where
    p : Parts bytes
    p = parts bytes written

    both_told : (b : Bool) × (c : Bool) × (kb ≡ Some b) × (cb ≡ Some c) × (IsTrue b ↔ Positive scale sheet (messages.key p.under)) × (IsTrue c ↔ Positive scale sheet p.content)
    both_told =
        let (b, b-is, k) = told (Positive scale sheet) (message v (key f g)) (messages.key p.under) (rw p.under-is refl) kb key-told in
        let (c, c-is, t-is) = told (Positive scale sheet) (message v t) p.content p.content-is cb content-told in
        (b, c, b-is, c-is, k, t-is)

    tested : (b c : Bool) → kb ≡ Some b → cb ≡ Some c → disagree kb cb (scale.above rank) ≡ disagree (Some b) (Some c) (scale.above rank)
    tested b c b-is c-is = ap (λ o. disagree o cb (scale.above rank)) b-is ∙ ap (λ o. disagree (Some b) o (scale.above rank)) c-is

    -- the same of the seal that the line is
    unlike_there : Bad → NoneEarlier sheet i (messages.seal p.under p.content) × Positive scale sheet (messages.key p.under) × ((scale.above rank ≡ true) ↔ Positive scale sheet p.content → ⊥)
    unlike_there u =
        let same : messages.seal u.under u.content ≡ messages.seal p.under p.content = same_Some _ _ (sym u.is-seal ∙ p.seal-is) in
        let key-same : u.under ≡ p.under = cc in
        let content-same : u.content ≡ p.content = cc in (
          subst (NoneEarlier sheet i) same u.first,
          subst (λ (k : Key). Positive scale sheet (messages.key k)) key-same u.key-positive,
          subst (λ (m : Msg). (scale.above rank ≡ true) ↔ Positive scale sheet m → ⊥) content-same u.unlike,
        )

    pub told_else : disagree kb cb (scale.above rank) ≡ false → Decides false Bad
    told_else e =
        let (b, c, b-is, c-is, k, t-is) = both_told in (
          λ z. absurd (false≢true z),
          λ u.
              let (first, positive, unlike) = unlike_there u in
              absurd (false≢true (sym e ∙ tested b c b-is c-is ∙ true_disagree b c (scale.above rank) _ _ k t-is positive unlike)),
        )

    pub told_then : disagree kb cb (scale.above rank) ≡ true → (given : Bool) → Decides given (GivenBefore sheet i bytes) → Decides (not given) Bad
    told_then e given d =
        let (b, c, b-is, c-is, k, t-is) = both_told in
        let (positive, unlike) = disagree_true b c (scale.above rank) _ _ k t-is (sym (tested b c b-is c-is) ∙ e) in
        by given d positive unlike
      where
        by : (given : Bool) → Decides given (GivenBefore sheet i bytes) → Positive scale sheet (messages.key p.under) → ((scale.above rank ≡ true) ↔ Positive scale sheet p.content → ⊥) → Decides (not given) Bad
        by true d positive unlike = (λ z. absurd (false≢true z), λ u. let (first, positive', unlike') = unlike_there u in absurd (earlier_none bytes (messages.seal p.under p.content) p.reads first (d.0 refl)))
        by false d positive unlike = (
          λ z. record {
            under = p.under;
            content = p.content;
            is-seal = p.seal-is;
            first = none_earlier bytes (messages.seal p.under p.content) p.reads (λ g. false≢true (d.1 g));
            key-positive = positive;
            unlike = unlike;
          },
          λ u. refl,
        )

-- ---- all lines looked through

module _ (sheet : Sheet) (i : ℕ) (bytes : List ℕ) where
  pub is_given : (j : ℕ) → j < i → GivenAt sheet bytes j → Decides true (GivenBefore sheet i bytes)
  is_given j lt given = (λ e. (j, lt, given), λ g. refl)

  pub none_given : (lines : List (stored.Ranked Sealed)) → map (ranked_of sealed_of) lines ≡ sheet.seals → (k : ℕ) → length lines ≤ k → Clear (λ j. (j < i) × GivenAt sheet bytes j) k → Decides false (GivenBefore sheet i bytes)
  none_given lines are k past clear = (λ e. absurd (false≢true e), λ g. absurd (none (g.0) (g.1, g.2)))
    where
      many : length sheet.seals ≡ length lines
      many = sym (ap length are) ∙ length-map lines (ranked_of sealed_of)

      none : (j : ℕ) → (j < i) × GivenAt sheet bytes j → ⊥
      none = clear_all (λ j. (j < i) × GivenAt sheet bytes j) k (length lines) clear past (λ j p. let lt : j < length sheet.seals = slice_get_within sheet.seals j p.1.0 p.1.1 in omega (arith, many, lt))

-- the first bad line
module _ (scale : Scale) (sheet : Sheet) where
  abbrev pub Lines : ℕ → Type 0
  Lines i = (values : List (Option Atom)) × BadSeal scale sheet i values

  pub no_line : (lines : List (stored.Ranked Sealed)) → map (ranked_of sealed_of) lines ≡ sheet.seals → (k : ℕ) → length lines ≤ k → Clear Lines k → (i : ℕ) (values : List (Option Atom)) → BadSeal scale sheet i values → ⊥
  no_line lines are k past clear i values bad =
      clear_all Lines k (length lines) clear past (λ j p. let lt : j < length sheet.seals = slice_get_within sheet.seals j p.1.line p.1.is-line in omega (arith, sym (ap length are) ∙ length-map lines (ranked_of sealed_of), lt)) i (values, bad)
