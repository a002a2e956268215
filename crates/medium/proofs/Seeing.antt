-- What stands at a byte, as the code's slices show it.
use Rattle.std.proofs.Common.{◌≡◌, ℕ, ◌-◌, Bool, true, false, eqb, List, ◌++◌, length, take, drop, sym, ◌∙◌, arith, length-drop, take_all}
use Rattle.std.specs.List.{starts_with}
use Rattle.std.proofs.lemmas.Slice.Eq.{starts_is}
use Rattle.std.proofs.lemmas.Bool.Decides.{Decides-eqb}
use Rattle.medium.specs.Spreading.{Marked, Seen}

-- the bytes from i on
pub from_here : (bytes : List ℕ) (i : ℕ) → take (length bytes - i) (drop i bytes) ≡ drop i bytes
from_here bytes i = take_all (length bytes - i) (drop i bytes) (omega (arith, length-drop i bytes))

module _ (bytes wanted : List ℕ) (i : ℕ) (r : Bool) (e : r ≡ starts_with eqb (take (length bytes - i) (drop i bytes)) wanted) where
  pub here_seen : (marks : List ℕ) → Marked marks i → r ≡ true → Seen bytes marks wanted
  here_seen marks on holds = record { at = i; marked = on; rest = _; splits = sym (from_here bytes i) ∙ (starts_is Decides-eqb (take (length bytes - i) (drop i bytes)) wanted r e).0 holds }

  pub here_unseen : r ≡ false → (rest : List ℕ) → drop i bytes ≡ wanted ++ rest → ⊥
  here_unseen fails rest f =
      let yes : r ≡ true = (starts_is Decides-eqb (take (length bytes - i) (drop i bytes)) wanted r e).1 rest (from_here bytes i ∙ f) in
      cc
