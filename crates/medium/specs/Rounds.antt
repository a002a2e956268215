-- Which keys are known after so many rounds of taking apart.
use Rattle.std.specs.Prelude.{ℕ, zero, suc, Bool, false, not, ◌&&◌, ◌||◌, ◌==◌, List, [], ◌∷◌, nat_le, nat_lt}
use Rattle.std.specs.List.{slice_get}
use Rattle.message.specs.Message.{Key, Msg, agent, key, nonce, pair, seal, shared, text}
use Rattle.model.specs.Sheet.{Sheet, honest}

abbrev pub same_key : Key → Key → Bool
same_key (shared a b) (shared c d) = (a == c) && (b == d)

-- The key is known without a message.
abbrev pub own_key : Sheet → Key → Bool
own_key sheet (shared a b) = (nat_le a b && nat_lt b 256) && (not (honest (slice_get sheet.agents a)) || not (honest (slice_get sheet.agents b)))

-- Where these keys are known, the key x is had from m by taking apart.
abbrev pub shows : (Key → Bool) → Key → Msg → Bool
shows keys x (agent n) = false
shows keys x (nonce n) = false
shows keys x (text n) = false
shows keys x (key k) = same_key x k
shows keys x (pair l r) = shows keys x l || shows keys x r
shows keys x (seal k m) = keys k && shows keys x m

-- The key x is had from one of the messages.
abbrev pub shown : (Key → Bool) → Key → List Msg → Bool
shown keys x [] = false
shown keys x (m ∷ ms) = shows keys x m || shown keys x ms

-- The keys that are known after so many rounds over these messages.
unfoldable pub keys_at : Sheet → List Msg → ℕ → Key → Bool
keys_at sheet all zero x = own_key sheet x
keys_at sheet all (suc n) x = keys_at sheet all n x || shown (keys_at sheet all n) x all
