-- Whether values make a `seal` line bad is decided, so there is a first bad line and least values for which it is bad, or none.
use Rattle.std.proofs.Common.{◌≡◌, ℕ, ◌<◌, true, ◌⊎◌, ◌↔◌, List, length, Some, None, Option, inl, inr, sym, refl, subst, ◌∙◌}
use Rattle.std.specs.List.{slice_get}
use Rattle.std.proofs.lemmas.Option.{none-some, same_Some, slice_get_within}
use Rattle.message.specs.declared.Atom.{Atom}
use Rattle.message.specs.Message.{Key, Msg, agent, key, nonce, pair, seal, text}
use Rattle.model.specs.Sheet.{Ranked, Sheet}
use Rattle.model.specs.Trees.{Term}
use Rattle.instances.specs.Substitution.{message}
use Rattle.scale.specs.Scales.{Scale}
use Rattle.ranks.specs.Conditions.{KnowledgePositive, NoneEarlier}
use Rattle.ranks.specs.Ranks.{Gives, Positive, free_values}
use Rattle.ranks.proofs.Finding.{dec_by, gives}
use Rattle.checker.specs.Rows.{seal_slots}
use Rattle.checker.specs.Verdicts.{BadSeal, FirstOf, LeastSeal}
use Rattle.checker.proofs.BadSeals.{bad_fills, fills_standing}
use Rattle.checker.proofs.Deciding.{below_decided, both_decided, first_or_none, iff_decided, not_decided, positive_decided, some_decided, there_decided, true_decided}
use Rattle.checker.proofs.Slots.{Fills, LeastRow, SomeRow, row_decided, some_row, the_least}

-- whether an earlier line gives a message
module _ (sheet : Sheet) (m : Msg) (i : ℕ) where
  abbrev GivenAt : ℕ → Type 0
  GivenAt j = (j < i) × ((l : Ranked Term) × (slice_get sheet.seals j ≡ Some l) × Gives sheet.free l.what m)

  earlier_decided : Dec (NoneEarlier sheet i m)
  earlier_decided =
      dec_by
      (λ (none : (j : ℕ) × GivenAt j → ⊥) j l lt is given. none (j, (lt, (l, is, given))))
      (λ none x. none x.0 x.1.1.0 x.1.0 x.1.1.1 x.1.1.2)
      (not_decided
      (some_decided GivenAt
      (λ j. both_decided (below_decided j i) (there_decided (λ (l : Ranked Term). Gives sheet.free l.what m) (λ l. gives sheet.free m l.what) (slice_get sheet.seals j)))
      i
      (λ j g. g.0)))

module _ (scale : Scale) (sheet : Sheet) (i : ℕ) where
  -- with this key and content a line is bad
  abbrev Unlike : Ranked Term → Key → Msg → Type 0
  Unlike l k m = NoneEarlier sheet i (seal k m) × Positive scale sheet (key k) × ((scale.above l.rank ≡ true) ↔ Positive scale sheet m → ⊥)

  unlike_decided : (l : Ranked Term) (k : Key) (m : Msg) → Dec (Unlike l k m)
  unlike_decided l k m =
      dec_by
      (λ (p : NoneEarlier sheet i (seal k m) × (Positive scale sheet (key k) × ((scale.above l.rank ≡ true) ↔ Positive scale sheet m → ⊥))). (p.0, p.1.0, p.1.1))
      (λ p. (p.0, (p.1, p.2)))
      (both_decided (earlier_decided sheet (seal k m) i) (both_decided (positive_decided scale sheet (key k)) (not_decided (iff_decided (true_decided (scale.above l.rank)) (positive_decided scale sheet m)))))

  -- values make this line bad
  record Breaks (l : Ranked Term) (values : List (Option Atom)) : Type 0 where
    under : Key
    content : Msg
    is-seal : message (free_values values) l.what ≡ Some (seal under content)
    unlike : Unlike l under content

  breaks_decided : (l : Ranked Term) (values : List (Option Atom)) → Dec (Breaks l values)
  breaks_decided l values = at (message (free_values values) l.what) refl
    where
      other : (m : Msg) → message (free_values values) l.what ≡ Some m → ((k : Key) (c : Msg) → m ≡ seal k c → ⊥) → Dec (Breaks l values)
      other m e none = no (λ b. none b.under b.content (same_Some m (seal b.under b.content) (sym e ∙ b.is-seal)))

      same : (k : Key) (c : Msg) → message (free_values values) l.what ≡ Some (seal k c) → Breaks l values → Unlike l k c
      same k c e b =
          let s : seal b.under b.content ≡ seal k c = same_Some (seal b.under b.content) (seal k c) (sym b.is-seal ∙ e) in
          let p : b.under ≡ k = cc in
          let q : b.content ≡ c = cc in
          subst (λ (x : Key). Unlike l x c) p (subst (λ (x : Msg). Unlike l b.under x) q b.unlike)

      at : (o : Option Msg) → message (free_values values) l.what ≡ o → Dec (Breaks l values)
      at None e = no (λ b. none-some (seal b.under b.content) (sym e ∙ b.is-seal))
      at (Some (agent n)) e = other (agent n) e (λ k c s. cc)
      at (Some (nonce n)) e = other (nonce n) e (λ k c s. cc)
      at (Some (text n)) e = other (text n) e (λ k c s. cc)
      at (Some (key x)) e = other (key x) e (λ k c s. cc)
      at (Some (pair x y)) e = other (pair x y) e (λ k c s. cc)
      at (Some (seal k c)) e = dec_by (λ u. record { under = k; content = c; is-seal = e; unlike = u }) (same k c e) (unlike_decided l k c)

  bad_breaks : (l : Ranked Term) → slice_get sheet.seals i ≡ Some l → (values : List (Option Atom)) → BadSeal scale sheet i values → Breaks l values
  bad_breaks l is values bad =
      subst (λ (x : Ranked Term). Breaks x values) (same_Some bad.line l (sym bad.is-line ∙ is))
      (record { under = bad.under; content = bad.content; is-seal = bad.is-seal; unlike = (bad.first, bad.key-positive, bad.unlike) })

  breaks_bad : (l : Ranked Term) → slice_get sheet.seals i ≡ Some l → (values : List (Option Atom)) → Fills (seal_slots l.what 0 sheet.free) values → Breaks l values → BadSeal scale sheet i values
  breaks_bad l is values fills b = record {
    line = l;
    is-line = is;
    each = fills_standing l.what 0 sheet.free values fills;
    under = b.under;
    content = b.content;
    is-seal = b.is-seal;
    first = b.unlike.0;
    key-positive = b.unlike.1;
    unlike = b.unlike.2;
  }

  seal_row : SomeRow (BadSeal scale sheet i)
  seal_row = at (slice_get sheet.seals i) refl
    where
      at : (o : Option (Ranked Term)) → slice_get sheet.seals i ≡ o → SomeRow (BadSeal scale sheet i)
      at None e = inr (λ values bad. none-some bad.line (sym e ∙ bad.is-line))
      at (Some l) e =
          some_row (BadSeal scale sheet i) (seal_slots l.what 0 sheet.free) (Breaks l) (breaks_decided l)
          (λ values bad. (bad_fills scale sheet i l e values bad, bad_breaks l e values bad))
          (breaks_bad l e)

module _ (scale : Scale) (sheet : Sheet) where
  abbrev BadLine : ℕ → Type 0
  BadLine i = (values : List (Option Atom)) × BadSeal scale sheet i values

  -- There is a first bad `seal` line, with the least values, or none.
  pub first_seal : KnowledgePositive scale sheet
      → ((i : ℕ) × (values : List (Option Atom)) × LeastSeal scale sheet i values) ⊎ ((i : ℕ) (values : List (Option Atom)) → BadSeal scale sheet i values → ⊥)
  first_seal knowledge =
      go (first_or_none BadLine (λ i. row_decided (BadSeal scale sheet i) (seal_row scale sheet i)) (length sheet.seals) (λ i b. slice_get_within sheet.seals i b.1.line b.1.is-line))
    where
      with : (i : ℕ) → FirstOf BadLine i → ((values : List (Option Atom)) × LeastRow (BadSeal scale sheet i) values)
          → (i : ℕ) × (values : List (Option Atom)) × LeastSeal scale sheet i values
      with i first l = (
        i,
        l.0,
        record { knowledge = knowledge; is = l.1.is; first = λ j others lt bad. first.none-before j lt (others, bad); least = l.1.least },
      )

      go : ((i : ℕ) × FirstOf BadLine i) ⊎ ((i : ℕ) → BadLine i → ⊥)
          → ((i : ℕ) × (values : List (Option Atom)) × LeastSeal scale sheet i values) ⊎ ((i : ℕ) (values : List (Option Atom)) → BadSeal scale sheet i values → ⊥)
      go (inl f) = inl (with f.0 f.1 (the_least (BadSeal scale sheet f.0) (seal_row scale sheet f.0) f.1.is.0 f.1.is.1))
      go (inr none) = inr (λ i values bad. none i (values, bad))
