-- Whether a line gives the message that bytes are.
use Rattle.std.specs.Prelude.{◌≡◌, ℕ, false, List, [], ◌++◌, Decides}
use Rattle.std.proofs.Common.{sym, ap, subst, ◌∙◌, append-nil}
use Rattle.std.proofs.lemmas.Bool.{false≢true}
use Rattle.message.specs.Message.{IsMessage, Msg, Reads, wire}
use Rattle.message.proofs.Shapes.{unique}
use Rattle.model.specs.Sheet as model
use Rattle.model.specs.Trees.{Term, prefix}
use Rattle.ranks.specs.declared.piece.Piece.{Piece}
use Rattle.ranks.specs.Matching.{solves}
use Rattle.ranks.specs.Pieces.{pieces}
use Rattle.ranks.specs.Ranks.{Gives, GivesBytes}
use Rattle.ranks.proofs.Giving.{solves_gives}
use Rattle.ranks.proofs.Ranking.{all_fit}

-- the same bytes are the same message
pub same_message : (bytes : List ℕ) (m k : Msg) → Reads bytes m → Reads bytes k → m ≡ k
same_message bytes m k r s = (unique m k [] [] (append-nil (wire m) ∙ r.form ∙ sym s.form ∙ sym (append-nil (wire k)))).0

module _ (free : List model.Variable) (t : Term) (bytes : List ℕ) where
  pub no_bytes : (IsMessage bytes → ⊥) → Decides false (GivesBytes free t bytes)
  no_bytes none = (λ e. absurd (false≢true e), λ g. absurd (none (g.0, g.1)))

  pub bytes_given : (m : Msg) → Reads bytes m → (ps : List Piece) → ps ≡ pieces m → Decides (solves free [] (prefix t) ps) (GivesBytes free t bytes)
  bytes_given m r ps is =
      let d = solves_gives free t m [] r.fits (all_fit m r.fits [] tt) in
      let same : ps ≡ pieces m ++ [] = is ∙ sym (append-nil (pieces m)) in (
        λ e. (m, r, d.0 (ap (solves free [] (prefix t)) (sym same) ∙ e)),
        λ g. ap (solves free [] (prefix t)) same ∙ d.1 (subst (Gives free t) (same_message bytes g.0 m g.1 r) g.2),
      )
