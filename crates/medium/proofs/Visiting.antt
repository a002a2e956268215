-- What taking apart the message at one byte does.
use Rattle.std.proofs.Common.{◌≡◌, ℕ, ◌+◌, ◌-◌, ◌<◌, ◌⊎◌, ◌≢◌, Bool, true, false, List, length, get_or, take, drop, set, inl, inr, sym, refl, ap, subst, ◌∙◌, arith, length-append, length-drop, get_or-set_other, get_or-set_same}
use Rattle.std.proofs.lemmas.List.{length-set}
use Rattle.std.specs.Borrow.{Bor}
use Rattle.message.specs.Message as tree
use Rattle.message.specs.Message.{Msg, agent, key, key_bytes, nonce, pair, seal, shared, text, wire}
use Rattle.message.specs.Reading.{Shows}
use Rattle.message.specs.declared.read.Parts.{Parts}
use Rattle.message.specs.declared.read.Parts.TheVariants.{Agent, Nonce, Text, Key, Pair, Seal}
use Rattle.message.proofs.Forms.{nonempty}
use Rattle.model.specs.Sheet.{Sheet}
use Rattle.medium.specs.Spreading.{Fronted, Gives, Grows, Knows, Marked, Marks, Stands, Visits, gives_content, gives_first, gives_second, more, same, unmarked}
use Rattle.medium.proofs.Growing.{fewer, marked_more, no_more}
use Rattle.medium.proofs.Open.{one_stands, stands_content, stands_first, stands_second}
use Rattle.medium.proofs.Seeing.{from_here}

pub stands_within : (bytes : List ℕ) (k : ℕ) (m : Msg) → Stands bytes k m → k < length bytes
stands_within bytes k m s = omega (arith, nonempty m, ap length s.splits, length-append (wire m) s.rest, length-drop k bytes)

fronted_stands : (bytes : List ℕ) (i : ℕ) (p : Parts) → Fronted (take (length bytes - i) (drop i bytes)) p → (m : Msg) × Stands bytes i m × Shows p m
fronted_stands bytes i p (m, s, shown) = (m, record { whole = s.whole; rest = s.rest; splits = sym (from_here bytes i) ∙ s.splits }, shown)

pub none_stands : (bytes : List ℕ) (i : ℕ) → ((m : Msg) → Stands (take (length bytes - i) (drop i bytes)) 0 m → ⊥) → (m : Msg) → Stands bytes i m → ⊥
none_stands bytes i none m s = none m (record { whole = s.whole; rest = s.rest; splits = from_here bytes i ∙ s.splits })

-- a pair, with its first half's length
pub record Paired (bytes : List ℕ) (i n : ℕ) : Type 0 where
  pub l : Msg
  pub r : Msg
  pub stands : Stands bytes i (pair l r)
  pub len : n ≡ length (wire l)

pub paired : (bytes : List ℕ) (i : ℕ) (p : Parts) (f s : Bor (List ℕ)) → Fronted (take (length bytes - i) (drop i bytes)) p → p ≡ Pair f s → Paired bytes i (length f.now)
paired bytes i p f s h e =
    let (m, st, (l, r, is, front, back)) = fronted_stands bytes i (Pair f s) (subst (Fronted (take (length bytes - i) (drop i bytes))) e h) in
    record { l = l; r = r; stands = subst (Stands bytes i) is st; len = ap length (sym front) }

pub record Sealed (bytes : List ℕ) (i : ℕ) (k : List ℕ) : Type 0 where
  pub x : tree.Key
  pub m : Msg
  pub stands : Stands bytes i (seal x m)
  pub key-is : key_bytes x ≡ k

pub sealed : (bytes : List ℕ) (i : ℕ) (p : Parts) (k c : Bor (List ℕ)) → Fronted (take (length bytes - i) (drop i bytes)) p → p ≡ Seal k c → Sealed bytes i k.now
sealed bytes i p k c h e =
    let (m, st, (x, n, is, front, back)) = fronted_stands bytes i (Seal k c) (subst (Fronted (take (length bytes - i) (drop i bytes))) e h) in
    record { x = x; m = n; stands = subst (Stands bytes i) is st; key-is = front }

pub first_within : (bytes : List ℕ) (i n : ℕ) → Paired bytes i n → i + 1 < length bytes
first_within bytes i n p = stands_within bytes (i + 1) p.l (stands_first bytes i p.l p.r p.stands)

pub second_within : (bytes : List ℕ) (i n : ℕ) → Paired bytes i n → i + 1 + n < length bytes
second_within bytes i n p = subst (λ j. i + 1 + j < length bytes) (sym p.len) (stands_within bytes (i + 1 + length (wire p.l)) p.r (stands_second bytes i p.l p.r p.stands))

pub content_within : (bytes : List ℕ) (i : ℕ) (k : List ℕ) → Sealed bytes i k → i + 4 < length bytes
content_within bytes i k s = stands_within bytes (i + 4) s.m (stands_content bytes i s.x s.m s.stands)

module _ (sheet : Sheet) (bytes other other_marks : List ℕ) (i : ℕ) where
  keys : List ℕ → List ℕ → Type 0
  keys marks = Knows sheet bytes marks other other_marks

  pub nothing_visited : (marks : List ℕ) → ((m : Msg) → Stands bytes i m → (l r : Msg) → m ≢ pair l r) → ((m : Msg) → Stands bytes i m → (x : tree.Key) (c : Msg) → m ≡ seal x c → Knows sheet bytes marks other other_marks (key_bytes x) → ⊥) → Visits sheet bytes other other_marks i marks marks false
  nothing_visited marks pairs seals = record {
    grows = same;
    done = λ k g. none k g;
    below = λ k h. refl;
    quiet = λ e x h. h;
    new = λ e. cc;
  }
    where
      none : (k : ℕ) → Gives bytes (Knows sheet bytes marks other other_marks) i k → Marked marks k
      none k (gives_first l r s) = absurd (pairs (pair l r) s l r refl)
      none k (gives_second l r s) = absurd (pairs (pair l r) s l r refl)
      none k (gives_content x m s h) = absurd (seals (seal x m) s x m refl h)

  pub pair_visited : (before mid after : List ℕ) (n : ℕ) (f g r : Bool) → length before ≡ length bytes → Marked before i → Paired bytes i n → Marks sheet bytes other other_marks (i + 1) before mid f → Marks sheet bytes other other_marks (i + 1 + n) mid after g → (r ≡ false → (f ≡ false) × (g ≡ false)) → (r ≡ true → (f ≡ true) ⊎ (g ≡ true)) → Visits sheet bytes other other_marks i before after r
  pair_visited before mid after n f g r long on p a b quiet new = record {
    grows = subst (Grows sheet bytes other other_marks before) (sym all) (more i (i + 1 + n) (more i (i + 1) same on (gives_first p.l p.r p.stands)) (marked_more before (i + 1) i lt on) (subst (λ j. Gives bytes (Knows sheet bytes (set before (i + 1) 1) other other_marks) i (i + 1 + j)) (sym p.len) (gives_second p.l p.r p.stands)));
    done = λ k h. subst (λ l. Marked l k) (sym all) (given k h);
    below = λ k h. ap (λ l. get_or l k 0) all ∙ get_or-set_other (set before (i + 1) 1) (i + 1 + n) k 1 0 (omega arith) ∙ get_or-set_other before (i + 1) k 1 0 (omega arith);
    quiet = λ e x h. a.quiet (quiet e).0 x (b.quiet (quiet e).1 x h);
    new = λ e. elim (new e) [
      | inl h ↦ let k = fewer before (i + 1) lt (a.new h) in subst (λ l. unmarked l < unmarked before) (sym all) (omega (arith, no_more (set before (i + 1) 1) (i + 1 + n)))
      | inr h ↦ let k = fewer (set before (i + 1) 1) (i + 1 + n) lt2 (λ m. b.new h (subst (λ l. Marked l (i + 1 + n)) (sym a.is) m)) in subst (λ l. unmarked l < unmarked before) (sym all) (omega (arith, no_more before (i + 1)))
    ];
  }
    where
      all : after ≡ set (set before (i + 1) 1) (i + 1 + n) 1
      all = b.is ∙ ap (λ l. set l (i + 1 + n) 1) a.is

      lt : i + 1 < length before
      lt = omega (arith, first_within bytes i n p)

      lt2 : i + 1 + n < length (set before (i + 1) 1)
      lt2 = omega (arith, second_within bytes i n p, length-set before (i + 1) 1)

      given : (k : ℕ) → Gives bytes (Knows sheet bytes before other other_marks) i k → Marked (set (set before (i + 1) 1) (i + 1 + n) 1) k
      given k (gives_first l r s) = marked_more (set before (i + 1) 1) (i + 1 + n) (i + 1) lt2 (get_or-set_same before (i + 1) 1 0 lt)
      given k (gives_second l r s) =
          let one : pair l r ≡ pair p.l p.r = one_stands bytes i (pair l r) (pair p.l p.r) s p.stands in
          let half : l ≡ p.l = cc in
          subst (λ j. Marked (set (set before (i + 1) 1) (i + 1 + n) 1) (i + 1 + j)) (p.len ∙ ap (λ m. length (wire m)) (sym half)) (get_or-set_same (set before (i + 1) 1) (i + 1 + n) 1 0 lt2)
      given k (gives_content x m s h) =
          let one : seal x m ≡ pair p.l p.r = one_stands bytes i (seal x m) (pair p.l p.r) s p.stands in
          cc

  pub seal_visited : (before after : List ℕ) (k : List ℕ) (f : Bool) → length before ≡ length bytes → Marked before i → Sealed bytes i k → Knows sheet bytes before other other_marks k → Marks sheet bytes other other_marks (i + 4) before after f → Visits sheet bytes other other_marks i before after f
  seal_visited before after k f long on s known a = record {
    grows = subst (Grows sheet bytes other other_marks before) (sym a.is) (more i (i + 4) same on (gives_content s.x s.m s.stands (subst (Knows sheet bytes before other other_marks) (sym s.key-is) known)));
    done = λ j h. subst (λ l. Marked l j) (sym a.is) (given j h);
    below = λ j h. ap (λ l. get_or l j 0) a.is ∙ get_or-set_other before (i + 4) j 1 0 (omega arith);
    quiet = a.quiet;
    new = λ e. subst (λ l. unmarked l < unmarked before) (sym a.is) (fewer before (i + 4) lt (a.new e));
  }
    where
      lt : i + 4 < length before
      lt = omega (arith, content_within bytes i k s)

      given : (j : ℕ) → Gives bytes (Knows sheet bytes before other other_marks) i j → Marked (set before (i + 4) 1) j
      given j (gives_first l r t) =
          let one : pair l r ≡ seal s.x s.m = one_stands bytes i (pair l r) (seal s.x s.m) t s.stands in
          cc
      given j (gives_second l r t) =
          let one : pair l r ≡ seal s.x s.m = one_stands bytes i (pair l r) (seal s.x s.m) t s.stands in
          cc
      given j (gives_content x m t h) = get_or-set_same before (i + 4) 1 0 lt

  -- a seal whose key is not known
  pub shut_visited : (marks : List ℕ) (k : List ℕ) → Sealed bytes i k → (Knows sheet bytes marks other other_marks k → ⊥) → Visits sheet bytes other other_marks i marks marks false
  shut_visited marks k s shut = nothing_visited marks
      (λ m t l r e. let one : seal s.x s.m ≡ m = one_stands bytes i (seal s.x s.m) m s.stands t in let z : seal s.x s.m ≡ pair l r = one ∙ e in cc)
      (λ m t x c e h.
      let one : seal s.x s.m ≡ seal x c = one_stands bytes i (seal s.x s.m) m s.stands t ∙ e in
      let keys-same : s.x ≡ x = cc in
      shut (subst (Knows sheet bytes marks other other_marks) (ap key_bytes (sym keys-same) ∙ s.key-is) h))

  -- no message
  pub none_visited : (marks : List ℕ) → ((m : Msg) → Stands (take (length bytes - i) (drop i bytes)) 0 m → ⊥) → Visits sheet bytes other other_marks i marks marks false
  none_visited marks none = nothing_visited marks (λ m s. absurd (none_stands bytes i none m s)) (λ m s. absurd (none_stands bytes i none m s))

  -- an atom
  atom_visited : (marks : List ℕ) (m : Msg) → Stands bytes i m → ((l r : Msg) → m ≢ pair l r) → ((x : tree.Key) (c : Msg) → m ≢ seal x c) → Visits sheet bytes other other_marks i marks marks false
  atom_visited marks m s p q = nothing_visited marks (λ n t l r e. p l r (one_stands bytes i m n s t ∙ e)) (λ n t x c e h. q x c (one_stands bytes i m n s t ∙ e))

  -- the parts are an atom's
  pub leaf_visited : (marks : List ℕ) (p : Parts) → Fronted (take (length bytes - i) (drop i bytes)) p → ((n : ℕ) × (p ≡ Agent n)) ⊎ (((n : ℕ) × (p ≡ Nonce n)) ⊎ (((n : ℕ) × (p ≡ Text n)) ⊎ ((a : ℕ) × (b : ℕ) × (p ≡ Key a b)))) → Visits sheet bytes other other_marks i marks marks false
  leaf_visited marks p h (inl (n, e)) =
      let (m, s, is) = fronted_stands bytes i (Agent n) (subst (Fronted (take (length bytes - i) (drop i bytes))) e h) in
      atom_visited marks m s (λ l r f. let z : agent n ≡ pair l r = sym is ∙ f in cc) (λ x c f. let z : agent n ≡ seal x c = sym is ∙ f in cc)
  leaf_visited marks p h (inr (inl (n, e))) =
      let (m, s, is) = fronted_stands bytes i (Nonce n) (subst (Fronted (take (length bytes - i) (drop i bytes))) e h) in
      atom_visited marks m s (λ l r f. let z : nonce n ≡ pair l r = sym is ∙ f in cc) (λ x c f. let z : nonce n ≡ seal x c = sym is ∙ f in cc)
  leaf_visited marks p h (inr (inr (inl (n, e)))) =
      let (m, s, is) = fronted_stands bytes i (Text n) (subst (Fronted (take (length bytes - i) (drop i bytes))) e h) in
      atom_visited marks m s (λ l r f. let z : text n ≡ pair l r = sym is ∙ f in cc) (λ x c f. let z : text n ≡ seal x c = sym is ∙ f in cc)
  leaf_visited marks p h (inr (inr (inr (a, b, e)))) =
      let (m, s, is) = fronted_stands bytes i (Key a b) (subst (Fronted (take (length bytes - i) (drop i bytes))) e h) in
      atom_visited marks m s (λ l r f. let z : key (shared a b) ≡ pair l r = sym is ∙ f in cc) (λ x c f. let z : key (shared a b) ≡ seal x c = sym is ∙ f in cc)
