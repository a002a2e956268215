-- An area holds one list of messages: what it holds is a fact of the area.
use Rattle.std.specs.Prelude.{◌≡◌, ℕ, List, [], ◌∷◌, ◌++◌, drop}
use Rattle.std.specs.Coded.{×_prop, le_prop}
use Rattle.std.proofs.Common.{sym, refl, ap, ◌∙◌, take, take_at}
use Rattle.std.proofs.Props.{props}
use mathlib.Core.HLevel.{is_prop→PathP}
use Rattle.message.specs.Message.{Msg, wire, agent, nonce, text, key, pair, seal, shared, Fits}
use Rattle.message.proofs.Shapes.{unique}
use Rattle.medium.specs.Store.{laid, Holds, Filled, IsWhole}

-- messages are known by their bytes one after another
pub one_list : (ms ns : List Msg) → laid ms ≡ laid ns → ms ≡ ns
one_list [] [] e = refl
one_list [] (n ∷ ns) e = cc
one_list (m ∷ ms) [] e = cc
one_list (m ∷ ms) (n ∷ ns) e =
    let tails : wire m ++ laid ms ≡ wire n ++ laid ns = cc in
    let same = unique m n (laid ms) (laid ns) tails in
    λ i. same.0 i ∷ one_list ms ns same.1 i

pub fits_prop : (m : Msg) → IsProp (Fits m)
fits_prop (agent n) = le_prop
fits_prop (nonce n) = le_prop
fits_prop (text n) = le_prop
fits_prop (key (shared a b)) = hlevel le_prop
fits_prop (pair l r) = ×_prop (fits_prop l) (fits_prop r)
fits_prop (seal (shared a b) m) = ×_prop (hlevel le_prop) (fits_prop m)

pub whole_prop : (m : Msg) → IsProp (IsWhole m)
whole_prop m = hlevel (props, fits_prop)

pub holds_prop : (used : ℕ) (area : List ℕ) (heard : List Msg) → IsProp (Holds used area heard)
holds_prop used area heard = hlevel (props, whole_prop)

pub front_is : (used : ℕ) (area : List ℕ) (heard : List Msg) → Holds used area heard → take used area ≡ laid heard
front_is used area heard h = ap (take used) h.front ∙ take_at (laid heard) (drop used area) used h.long

-- what an area holds in so many bytes
pub one_held : (used : ℕ) (area : List ℕ) (ms ns : List Msg) → Holds used area ms → Holds used area ns → ms ≡ ns
one_held used area ms ns h k = one_list ms ns (sym (front_is used area ms h) ∙ front_is used area ns k)

pub filled_prop : (used : ℕ) (area : List ℕ) → IsProp (Filled used area)
filled_prop used area x y =
    let same = one_held used area x.1 y.1 x.2 y.2 in
    λ i. (le_prop x.0 y.0 i, same i, is_prop→PathP (λ j. Holds used area (same j)) (λ j. holds_prop used area (same j)) x.2 y.2 i)
