-- Under the second condition what is generated from positive messages is positive, and the other way round.
use Rattle.std.specs.Prelude.{◌≡◌, Bool, true, false, ◌&&◌, ◌⊎◌, ℤ}
use Rattle.std.proofs.Common.{sym, refl, ap, ◌∙◌, ⊎_elim}
use Rattle.message.specs.Generates.{Generates, known, paired, left, right, sealed, opened}
use Rattle.message.specs.Message.{Key, Msg, agent, nonce, text, key, pair, seal}
use Rattle.model.specs.Sheet.{Sheet}
use Rattle.instances.specs.Start.{Start}
use Rattle.scale.specs.Scales.{Laws, Scale}
use Rattle.ranks.specs.Conditions.{SealsAgree}
use Rattle.ranks.specs.Laws.{EnemyStaysPositive, GenerationKeepsPositive, SecondConditionIsExact}
use Rattle.ranks.specs.Ranks.{AtomRank, Gives, ListsMessage, Positive, Rank, Valued}
use Rattle.ranks.proofs.Lines.{first_at, first_has, found}
use Rattle.ranks.proofs.Single.{rank_one, rank_total}

and_left : (a b : Bool) → (a && b) ≡ true → a ≡ true
and_left true b e = refl
and_left false b e = e

and_right : (a b : Bool) → (a && b) ≡ true → b ≡ true
and_right true b e = e
and_right false b e = let z : false ≡ true = e in cc

module _ (scale : Scale) (laws : Laws scale) (sheet : Sheet) (valued : Valued scale sheet) where
  atom_has : (x : Msg) (v : ℤ) → AtomRank scale sheet x v → scale.has v ≡ true
  atom_has x v h = first_has (λ t. ListsMessage t x) (λ u. u ≡ scale.fixed) scale sheet.atoms valued.atoms (λ u e. ap scale.has e ∙ laws.fixed-has) v h

  -- every rank of a message is one of the scale's values
  pub rank_has : (m : Msg) (v : ℤ) → Rank scale sheet m v → scale.has v ≡ true
  rank_has (agent n) v h = atom_has (agent n) v h
  rank_has (nonce n) v h = atom_has (nonce n) v h
  rank_has (text n) v h = atom_has (text n) v h
  rank_has (key k) v h = atom_has (key k) v h
  rank_has (pair l r) v h = ap scale.has h.4 ∙ laws.joined-has h.0 h.1 (rank_has l h.0 h.2) (rank_has r h.1 h.3)
  rank_has (seal k m) v h = first_has (λ t. Gives sheet.free t (seal k m)) (λ u. Rank scale sheet m u) scale sheet.seals valued.seals (λ u r. rank_has m u r) v h

  -- joined is positive exactly when both are
  joined_above : (l r : Msg) (u w : ℤ) → Rank scale sheet l u → Rank scale sheet r w → scale.above (scale.joined u w) ≡ (scale.above u && scale.above w)
  joined_above l r u w h k = laws.joined-above u w (rank_has l u h) (rank_has r w k)

module _ (scale : Scale) (laws : Laws scale) (sheet : Sheet) (valued : Valued scale sheet) (agree : SealsAgree scale sheet) where
  pub positive_pair : (l r : Msg) → Positive scale sheet l → Positive scale sheet r → Positive scale sheet (pair l r)
  positive_pair l r p q = (
    scale.joined p.0 q.0,
    (p.0, q.0, p.1, q.1, refl),
    joined_above scale laws sheet valued l r p.0 q.0 p.1 q.1 ∙ (λ i. p.2 i && q.2 i),
  )

  pub positive_halves : (l r : Msg) → Positive scale sheet (pair l r) → Positive scale sheet l × Positive scale sheet r
  positive_halves l r p =
      let (u, w, h, k, e) = p.1 in
      let both : (scale.above u && scale.above w) ≡ true = sym (joined_above scale laws sheet valued l r u w h k) ∙ ap scale.above (sym e) ∙ p.2 in
      ((u, h, and_left _ _ both), (w, k, and_right _ _ both))

  pub positive_seal : (k : Key) (m : Msg) → Positive scale sheet (key k) → Positive scale sheet m → Positive scale sheet (seal k m)
  positive_seal k m q p =
      let (v, h) = rank_total scale sheet (seal k m) in (
        v,
        h,
        ⊎_elim
            (λ f. ap scale.above f.is_rank ∙ (agree f.at f.line f.is_line f.holds.0 f.holds.1 k m f.holds.2 f.first q).1 p)
            (λ o. ap scale.above (rank_one scale sheet m v p.0 o p.1) ∙ p.2)
            (found (λ t. Gives sheet.free t (seal k m)) (λ u. Rank scale sheet m u) sheet.seals v h),
      )

  pub positive_content : (k : Key) (m : Msg) → Positive scale sheet (seal k m) → Positive scale sheet (key k) → Positive scale sheet m
  positive_content k m s q =
      ⊎_elim
      (λ f. (agree f.at f.line f.is_line f.holds.0 f.holds.1 k m f.holds.2 f.first q).0 (ap scale.above (sym f.is_rank) ∙ s.2))
      (λ o. (s.0, o, s.2))
      (found (λ t. Gives sheet.free t (seal k m)) (λ u. Rank scale sheet m u) sheet.seals s.0 s.1)

  -- what is generated from a set of positive messages is positive
  pub generated : (S : Msg → Type 0) → ((m : Msg) → S m → Positive scale sheet m) → {m : Msg} → Generates S m → Positive scale sheet m
  generated S h {m} (known s) = h m s
  generated S h (paired {l = l} {r = r} p q) = positive_pair l r (generated S h p) (generated S h q)
  generated S h (left {l = l} {r = r} p) = (positive_halves l r (generated S h p)).0
  generated S h (right {l = l} {r = r} p) = (positive_halves l r (generated S h p)).1
  generated S h (sealed {k = k} {m = m} p q) = positive_seal k m (generated S h p) (generated S h q)
  generated S h (opened {k = k} {m = m} p q) = positive_content k m (generated S h p) (generated S h q)

pub enemy_positive : (scale : Scale) → Laws scale → EnemyStaysPositive scale
enemy_positive scale laws sheet valued knowledge agree m g =
    generated scale laws sheet valued agree (λ x. Start sheet x ⊎ Positive scale sheet x) (λ x h. ⊎_elim (knowledge x) (λ p. p) h) g

-- the second condition from what generation keeps
agrees : (scale : Scale) (sheet : Sheet) → GenerationKeepsPositive scale sheet → SealsAgree scale sheet
agrees scale sheet keeps i l is vars each k m e none q = (
  λ up. keeps m (opened (known (l.rank, rank, up)) (known q)),
  λ p.
      let s = keeps (seal k m) (sealed (known q) (known p)) in
      ap scale.above (rank_one scale sheet (seal k m) l.rank s.0 rank s.1) ∙ s.2,
)
  where
    rank : Rank scale sheet (seal k m) l.rank
    rank = first_at (λ t. Gives sheet.free t (seal k m)) (λ u. Rank scale sheet m u) sheet.seals i l is (vars, each, e) none

pub second_exact : (scale : Scale) → Laws scale → SecondConditionIsExact scale
second_exact scale laws sheet valued = (λ agree m g. generated scale laws sheet valued agree (Positive scale sheet) (λ x p. p) g, λ keeps. agrees scale sheet keeps)
