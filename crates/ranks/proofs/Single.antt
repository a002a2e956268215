-- Each message and each event has exactly one rank.
use Rattle.std.specs.Prelude.{◌≡◌, List, ℤ}
use Rattle.std.proofs.Common.{sym, refl, ◌∙◌}
use Rattle.message.specs.Message.{Msg, agent, nonce, text, key, pair, seal}
use Rattle.model.specs.Sheet.{Ranked, Sheet}
use Rattle.scale.specs.Scales.{Scale}
use Rattle.ranks.specs.Laws.{RanksAreSingle}
use Rattle.ranks.specs.Ranks.{AtomRank, Gives, Listed, ListsEvent, ListsMessage, Rank}
use Rattle.ranks.proofs.Finding.{gives, lists_event, lists_message}
use Rattle.ranks.proofs.Lines.{first_one, first_total}

module _ {A : Type 0} (scale : Scale) (P : A → Type 0) (lines : List (Ranked A)) where
  listed_total : ((a : A) → Dec (P a)) → (v : ℤ) × Listed scale P lines v
  listed_total d = first_total P (λ v. v ≡ scale.fixed) d (scale.fixed, refl) lines

  listed_one : (u v : ℤ) → Listed scale P lines u → Listed scale P lines v → u ≡ v
  listed_one = first_one P (λ v. v ≡ scale.fixed) (λ u v p q. p ∙ sym q) lines

module _ (scale : Scale) (sheet : Sheet) where
  atom_total : (m : Msg) → (v : ℤ) × AtomRank scale sheet m v
  atom_total m = listed_total scale (λ t. ListsMessage t m) sheet.atoms (lists_message m)

  atom_one : (m : Msg) (u v : ℤ) → AtomRank scale sheet m u → AtomRank scale sheet m v → u ≡ v
  atom_one m = listed_one scale (λ t. ListsMessage t m) sheet.atoms

  pub rank_total : (m : Msg) → (v : ℤ) × Rank scale sheet m v
  rank_total (agent n) = atom_total (agent n)
  rank_total (nonce n) = atom_total (nonce n)
  rank_total (text n) = atom_total (text n)
  rank_total (key k) = atom_total (key k)
  rank_total (pair l r) =
      let u = rank_total l in
      let w = rank_total r in
      (scale.joined u.0 w.0, (u.0, w.0, u.1, w.1, refl))
  rank_total (seal k m) = first_total (λ t. Gives sheet.free t (seal k m)) (λ u. Rank scale sheet m u) (gives sheet.free (seal k m)) (rank_total m) sheet.seals

  pub rank_one : (m : Msg) (u v : ℤ) → Rank scale sheet m u → Rank scale sheet m v → u ≡ v
  rank_one (agent n) u v h k = atom_one (agent n) u v h k
  rank_one (nonce n) u v h k = atom_one (nonce n) u v h k
  rank_one (text n) u v h k = atom_one (text n) u v h k
  rank_one (key x) u v h k = atom_one (key x) u v h k
  rank_one (pair l r) u v h k =
      let p = rank_one l h.0 k.0 h.2 k.2 in
      let q = rank_one r h.1 k.1 h.3 k.3 in
      h.4 ∙ (λ i. scale.joined (p i) (q i)) ∙ sym k.4
  rank_one (seal x m) u v h k = first_one (λ t. Gives sheet.free t (seal x m)) (λ u. Rank scale sheet m u) (λ x y. rank_one m x y) sheet.seals u v h k

pub ranks_single : (scale : Scale) → RanksAreSingle scale
ranks_single scale sheet = (
  λ m. let (v, h) = rank_total scale sheet m in (v, h, λ u k. rank_one scale sheet m u v k h),
  λ e.
      let (v, h) = listed_total scale (λ s. ListsEvent s e) sheet.marks (lists_event e) in
      (v, h, λ u k. listed_one scale (λ s. ListsEvent s e) sheet.marks u v k h),
)
