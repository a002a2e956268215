-- The first of the acts that are played, and the others after it.
use Rattle.std.specs.Prelude.{◌≡◌, ℕ, ◌+◌, List, [], ◌∷◌, ◌++◌, Result}
use Rattle.std.proofs.Common.{sym, refl, ap, subst, ◌∙◌, arith}
use Rattle.medium.specs.Media.{Meaning}
use Rattle.message.specs.Message.{Msg}
use Rattle.board.specs.declared.acts.Act.{Act}
use Rattle.board.specs.declared.board.Board.{Board}
use Rattle.board.specs.declared.refusal.Refusal.{Refusal}
use Rattle.board.specs.Rehearsing.{Does, Plays, declined_by, further, none}

module _ {X : Type 0} (meaning : X → Meaning) (takes : X → Msg → X → Type 0) where
  -- Nothing is played.
  pub record Rests (b : Board) (x : X) (c : Board) (y : X) (n : ℕ) : Type 0 where
    pub board : c ≡ b
    pub medium : y ≡ x
    pub none-declined : n ≡ 0

  -- An act is played, and then the others.
  pub record Begins (a : Act) (more : List Act) (b : Board) (x : X) (d : Board) (z : X) (n : ℕ) : Type 0 where
    pub board : Board
    pub medium : X
    pub result : Result (Unit {0}) Refusal
    pub later : ℕ
    pub does : Does meaning takes a b x board medium result
    pub goes-on : Plays meaning takes board medium more d z later
    pub count : n ≡ declined_by result + later

  not_none : {A B : Type 0} (xs : List A) (x : A) → xs ++ (x ∷ []) ≡ [] → B
  not_none [] x e = absurd (cc)
  not_none (y ∷ ys) x e = absurd (cc)

  pub rests : (b c : Board) (x y : X) (acts : List Act) (n : ℕ) → Plays meaning takes b x acts c y n → acts ≡ [] → Rests b x c y n
  rests b c x y acts n none e = record { board = refl; medium = refl; none-declined = refl }
  rests b c x y acts n (further {acts = before} a result p does) e = not_none before a e

  pub begins : (b : Board) (x : X) (d : Board) (z : X) (n : ℕ) (acts : List Act) (a : Act) (more : List Act) → Plays meaning takes b x acts d z n → acts ≡ a ∷ more → Begins a more b x d z n
  begins b x d z n acts a more none e = absurd (cc)
  begins b x d z n acts a more (further {acts = before} {c = c} {y = y} {declined = k} last result p does) e = go before refl (λ rest is. begins b x c y k before a rest p is)
    where
      go : (l : List Act) → before ≡ l → ((rest : List Act) → before ≡ a ∷ rest → Begins a rest b x c y k) → Begins a more b x d z (k + declined_by result)
      go [] is earlier =
          let all : last ∷ [] ≡ a ∷ more = ap (λ (t : List Act). t ++ (last ∷ [])) (sym is) ∙ e in
          let same : last ≡ a = cc in
          let no-more : [] ≡ more = cc in
          let r = rests b c x y before k p is in
          record {
            board = d;
            medium = z;
            result = result;
            later = 0;
            does =
                subst (λ (t : Act). Does meaning takes t b x d z result) same
                (subst (λ (t : Board). Does meaning takes last t x d z result) r.board (subst (λ t. Does meaning takes last c t d z result) r.medium does));
            goes-on = subst (λ (t : List Act). Plays meaning takes d z t d z 0) no-more none;
            count = omega (arith, r.none-declined);
          }
      go (first ∷ rest) is earlier =
          let all : first ∷ (rest ++ (last ∷ [])) ≡ a ∷ more = ap (λ (t : List Act). t ++ (last ∷ [])) (sym is) ∙ e in
          let same : first ≡ a = cc in
          let others : rest ++ (last ∷ []) ≡ more = cc in
          let q = earlier rest (is ∙ ap (λ (t : Act). t ∷ rest) same) in
          record {
            board = q.board;
            medium = q.medium;
            result = q.result;
            later = q.later + declined_by result;
            does = q.does;
            goes-on = subst (λ (t : List Act). Plays meaning takes q.board q.medium t d z (q.later + declined_by result)) others (further last result q.goes-on does);
            count = omega (arith, q.count);
          }
