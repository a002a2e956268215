-- What the stack has on top is the message's rank.
use Rattle.std.specs.Prelude.{◌≡◌, ℕ, ◌<◌, Bool, true, false, cond, List, [], ◌∷◌, ◌++◌, ℤ, Some, None, Option, Decides, slice_get}
use Rattle.std.specs.List.{find}
use Rattle.std.specs.Option.{option_map, unwrap_or}
use Rattle.std.proofs.Common.{sym, refl, ap, subst, ◌∙◌, inl, inr, arith, append_assoc, append-nil}
use Rattle.message.specs.Message.{Fits, Msg, Reads, agent, nonce, text, key, pair, seal, shared}
use Rattle.model.specs.Sheet.{Ranked, Sheet}
use Rattle.model.specs.Trees.{Term, prefix}
use Rattle.scale.specs.Scales.{Scale}
use Rattle.ranks.specs.declared.piece.Piece.{Piece}
use Rattle.ranks.specs.Matching.{solves}
use Rattle.ranks.specs.Pieces.{pieces}
use Rattle.ranks.specs.Ranking.{atom_rank, first_rank, joined_top, seal_rank, sealed_top, stacked}
use Rattle.ranks.specs.Ranks.{AtomRank, First, Gives, ListsMessage, Rank, RankOf}
use Rattle.ranks.proofs.Giving.{solves_gives}
use Rattle.ranks.proofs.Turning.{AllFit}

-- the pieces of a message are in range
pub all_fit : (m : Msg) → Fits m → (ps : List Piece) → AllFit ps → AllFit (pieces m ++ ps)
all_fit (agent n) h ps all = (h, all)
all_fit (nonce n) h ps all = (h, all)
all_fit (text n) h ps all = (h, all)
all_fit (key (shared a b)) h ps all = let lt : a < 256 = omega (arith, h.0, h.1) in ((lt, h.1), all)
all_fit (pair l r) h ps all = (tt, subst AllFit (sym (append_assoc (pieces l) (pieces r) ps)) (all_fit l h.0 (pieces r ++ ps) (all_fit r h.1 ps all)))
all_fit (seal (shared a b) m) h ps all = let lt : a < 256 = omega (arith, h.0.0, h.0.1) in ((lt, h.0.1), all_fit m h.1 ps all)

-- the first line that passes gives the rank, else something else does
pub first_is : {A : Type 0} (P : A → Type 0) (Else : ℤ → Type 0) (p : A → Bool) → ((a : A) → Decides (p a) (P a)) → (ls : List (Ranked A)) (v : ℤ) → Else v → First P Else ls (unwrap_or (first_rank p ls) v)
first_is P Else p d [] v e = e
first_is P Else p d (l ∷ ls) v e = go (p l.what) (d l.what) (first_is P Else p d ls v e)
  where
    go : (b : Bool) → Decides b (P l.what) → First P Else ls (unwrap_or (first_rank p ls) v) → First P Else (l ∷ ls) (unwrap_or (option_map (λ x. x.rank) (cond b (Some l) (find (λ x. p x.what) ls))) v)
    go true h later = inl (h.0 refl, refl)
    go false h later = inr (λ x. let z : false ≡ true = h.1 x in cc, later)

-- with no free variables only names stand for something
names_give : (t : Term) (m : Msg) → Gives [] t m → ListsMessage t m
names_give t m ([], each, is) = is
names_give t m (o ∷ os, each, is) = absurd each

sealed_is : (o : Option ℤ) (v : ℤ) (s : List ℤ) → sealed_top o (v ∷ s) ≡ unwrap_or o v ∷ s
sealed_is None v s = refl
sealed_is (Some u) v s = refl

module _ (scale : Scale) (sheet : Sheet) where
  lines_list : (m : Msg) → Fits m → (ps : List Piece) → AllFit ps → (t : Term) → Decides (solves [] [] (prefix t) (pieces m ++ ps)) (ListsMessage t m)
  lines_list m h ps all t =
      let d = solves_gives [] t m ps h (all_fit m h ps all) in
      (λ e. names_give t m (d.0 e), λ is. d.1 ([], tt, is))

  atom_ranked : (m : Msg) → Fits m → (ps : List Piece) → AllFit ps → AtomRank scale sheet m (atom_rank scale sheet (pieces m ++ ps))
  atom_ranked m h ps all = first_is (λ t. ListsMessage t m) (λ u. u ≡ scale.fixed) _ (lines_list m h ps all) sheet.atoms scale.fixed refl

  -- the message's rank comes on top of what was there
  pub ranked : (m : Msg) → Fits m → (ps : List Piece) → AllFit ps → (v : ℤ) × Rank scale sheet m v × (stacked scale sheet (pieces m ++ ps) ≡ v ∷ stacked scale sheet ps)
  ranked (agent n) h ps all = (atom_rank scale sheet (pieces (agent n) ++ ps), atom_ranked (agent n) h ps all, refl)
  ranked (nonce n) h ps all = (atom_rank scale sheet (pieces (nonce n) ++ ps), atom_ranked (nonce n) h ps all, refl)
  ranked (text n) h ps all = (atom_rank scale sheet (pieces (text n) ++ ps), atom_ranked (text n) h ps all, refl)
  ranked (key (shared a b)) h ps all = (atom_rank scale sheet (pieces (key (shared a b)) ++ ps), atom_ranked (key (shared a b)) h ps all, refl)
  ranked (pair l r) h ps all =
      let (w, r-rank, r-is) = ranked r h.1 ps all in
      let (u, l-rank, l-is) = ranked l h.0 (pieces r ++ ps) (all_fit r h.1 ps all) in
      let apart : stacked scale sheet ((pieces l ++ pieces r) ++ ps) ≡ stacked scale sheet (pieces l ++ (pieces r ++ ps)) = ap (stacked scale sheet) (append_assoc (pieces l) (pieces r) ps) in
      (scale.joined u w, (u, w, l-rank, r-rank, refl), ap (joined_top scale) (apart ∙ l-is ∙ ap (λ s. u ∷ s) r-is))
  ranked (seal (shared a b) m) h ps all =
      let (v, rank, is) = ranked m h.1 ps all in
      let here = pieces (seal (shared a b) m) ++ ps in (
        unwrap_or (seal_rank sheet here) v,
        first_is (λ t. Gives sheet.free t (seal (shared a b) m)) (λ u. Rank scale sheet m u) _ (λ t. solves_gives sheet.free t (seal (shared a b) m) ps h (all_fit (seal (shared a b) m) h ps all)) sheet.seals v rank,
        ap (sealed_top (seal_rank sheet here)) is ∙ sealed_is (seal_rank sheet here) v (stacked scale sheet ps),
      )

  -- the message that all the pieces are
  pub ranked_whole : (m : Msg) → Fits m → (v : ℤ) × Rank scale sheet m v × (stacked scale sheet (pieces m) ≡ v ∷ [])
  ranked_whole m h =
      let (v, rank, is) = ranked m h [] tt in
      (v, rank, ap (stacked scale sheet) (sym (append-nil (pieces m))) ∙ is)

-- the rank of the message whose nodes were read
pub rank_read : (scale : Scale) (sheet : Sheet) (bytes : List ℕ) (ps : List Piece) (r : Option ℤ) → (m : Msg) × Reads bytes m × (ps ≡ pieces m) → r ≡ slice_get (stacked scale sheet ps) 0 → RankOf scale sheet bytes r
rank_read scale sheet bytes ps r (m, reads, is) e =
    let (v, rank, top) = ranked_whole scale sheet m reads.fits in
    let r-is : r ≡ Some v = e ∙ ap (λ x. slice_get (stacked scale sheet x) 0) is ∙ ap (λ s. slice_get s 0) top in
    subst (RankOf scale sheet bytes) (sym r-is) (m, reads, rank)
