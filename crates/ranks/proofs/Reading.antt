-- Reading the nodes of a message from its bytes.
use Rattle.std.specs.Prelude.{◌≡◌, ℕ, ◌+◌, ◌/◌, ◌%◌, ◌<◌, ◌≤◌, List, [], ◌∷◌, ◌++◌, length, Some, None}
use Rattle.std.proofs.Common.{sym, refl, ap, subst, ◌∙◌, arith, append_assoc, append-nil, length-append}
use Rattle.std.proofs.lemmas.Option.{none-some, some_pair_parts}
use Rattle.message.specs.declared.Atom.TheVariants.{Agent, Nonce, Text}
use Rattle.message.specs.Message.{Msg, Reads, agent, nonce, text, key, key_bytes, pair, seal, shared, single, wire}
use Rattle.ranks.specs.declared.piece.Piece.{Piece}
use Rattle.ranks.specs.declared.piece.Piece.TheVariants as piece
use Rattle.ranks.specs.PieceBytes.{PiecesOf, front_piece, number_at}
use Rattle.ranks.specs.Pieces.{pieces}

abbrev pub piece_bytes : Piece → List ℕ
piece_bytes (piece.Single x) = wire (single x)
piece_bytes piece.Pair = 80 ∷ []
piece_bytes (piece.Key a b) = key_bytes (shared a b)
piece_bytes (piece.Seal a b) = 69 ∷ key_bytes (shared a b)

abbrev pub bytes_of : List Piece → List ℕ
bytes_of [] = []
bytes_of (p ∷ ps) = piece_bytes p ++ bytes_of ps

-- the bytes of a message are those of its nodes
pub wire_pieces : (m : Msg) (ps : List Piece) → bytes_of (pieces m ++ ps) ≡ wire m ++ bytes_of ps
wire_pieces (agent n) ps = refl
wire_pieces (nonce n) ps = refl
wire_pieces (text n) ps = refl
wire_pieces (key (shared a b)) ps = refl
wire_pieces (pair l r) ps =
    ap (λ z. 80 ∷ z) (ap bytes_of (append_assoc (pieces l) (pieces r) ps) ∙ wire_pieces l (pieces r ++ ps) ∙ ap (λ z. wire l ++ z) (wire_pieces r ps) ∙ sym (append_assoc (wire l) (wire r) (bytes_of ps)))
wire_pieces (seal (shared a b) m) ps = ap (λ z. 69 ∷ 75 ∷ a ∷ b ∷ z) (wire_pieces m ps)

number_is : (n : ℕ) → number_at (n / 256) (n % 256) ≡ n
number_is n = omega arith

-- a node is read back
pub front_is : (p : Piece) (rest : List ℕ) → front_piece (piece_bytes p ++ rest) ≡ Some (p, rest)
front_is (piece.Single (Agent n)) rest = refl
front_is (piece.Single (Nonce n)) rest = ap (λ k. Some (piece.Single (Nonce k), rest)) (number_is n)
front_is (piece.Single (Text n)) rest = ap (λ k. Some (piece.Single (Text k), rest)) (number_is n)
front_is piece.Pair rest = refl
front_is (piece.Key a b) rest = refl
front_is (piece.Seal a b) rest = refl

-- a node has at least one byte
some_bytes : (p : Piece) → 1 ≤ length (piece_bytes p)
some_bytes (piece.Single (Agent n)) = omega arith
some_bytes (piece.Single (Nonce n)) = omega arith
some_bytes (piece.Single (Text n)) = omega arith
some_bytes piece.Pair = omega arith
some_bytes (piece.Key a b) = omega arith
some_bytes (piece.Seal a b) = omega arith

-- ---- the loop

-- The bytes are a message, and what is left is the bytes of those of its nodes that were not read.
abbrev pub Pending : List ℕ → List Piece → List ℕ → Type 0
Pending bytes done rest = (m : Msg) × Reads bytes m × (ps : List Piece) × (bytes_of ps ≡ rest) × (done ++ ps ≡ pieces m) × (length done + length rest ≤ 96)

pub pending_first : (bytes : List ℕ) → (m : Msg) → Reads bytes m → Pending bytes [] bytes
pending_first bytes m reads =
    (m, reads, pieces m, ap bytes_of (sym (append-nil (pieces m))) ∙ wire_pieces m [] ∙ append-nil (wire m) ∙ reads.form, refl, omega (arith, reads.short))

-- one node more
pub pending_next : (bytes : List ℕ) (done : List Piece) (rest : List ℕ) → Pending bytes done rest → (p : Piece) (after : List ℕ) → front_piece rest ≡ Some (p, after)
    → Pending bytes (done ++ (p ∷ [])) after × (length after < length rest)
pending_next bytes done rest (m, reads, [], is, all, few) p after e = absurd (none-some (p, after) (subst (λ b. front_piece b ≡ Some (p, after)) (sym is) e))
pending_next bytes done rest (m, reads, q ∷ ps, is, all, few) p after e =
    let (p-is, after-is) = some_pair_parts q p (bytes_of ps) after (sym (front_is q (bytes_of ps)) ∙ ap front_piece is ∙ e) in
    let less : length after < length rest = omega (arith, ap length after-is, ap length is, length-append (piece_bytes q) (bytes_of ps), some_bytes q) in (
      (m, reads, ps, after-is, append_assoc done (p ∷ []) ps ∙ ap (λ x. done ++ (x ∷ ps)) (sym p-is) ∙ all, omega (arith, few, less, length-append done (p ∷ []))),
      less,
    )

-- no node more
pub pending_last : (bytes : List ℕ) (done : List Piece) (rest : List ℕ) → Pending bytes done rest → front_piece rest ≡ None → PiecesOf bytes (Some done)
pending_last bytes done rest (m, reads, [], is, all, few) e = (m, reads, sym (append-nil done) ∙ all)
pending_last bytes done rest (m, reads, q ∷ ps, is, all, few) e = absurd (none-some (q, bytes_of ps) (sym e ∙ sym (ap front_piece is) ∙ front_is q (bytes_of ps)))
