-- Names: their form, the words that are none, and finding one in a list.
use Rattle.std.specs.Prelude.{ℕ, ◌+◌, Bool, false, cond, not, ◌&&◌, List, [], ◌∷◌, length, Some, None, codes, Option, nat_le}
use Rattle.std.specs.List.{list_all, list_any}
use Rattle.std.specs.Option.{option_map}
use Rattle.std.specs.Char.{is_ascii_alphanumeric, is_ascii_alphabetic}
use Rattle.std.specs.Str.{bytes_eq}
use Rattle.model.specs.declared.name.Name.{Name}

-- the letters of a name
abbrev pub letters : Name → List ℕ
letters n = n.letters

-- the words of the format, which are no names
abbrev pub reserved : List (List ℕ)
reserved =
    codes "agents" ∷ codes "texts" ∷ codes "roles" ∷ codes "nonces" ∷ codes "known" ∷ codes "claim" ∷ codes "ranks"
    ∷ codes "agent" ∷ codes "enemy" ∷ codes "text" ∷ codes "role" ∷ codes "var" ∷ codes "fresh" ∷ codes "send" ∷ codes "recv" ∷ codes "sig"
    ∷ codes "nonce" ∷ codes "know" ∷ codes "holds" ∷ codes "needs" ∷ codes "free" ∷ codes "rank" ∷ codes "seal" ∷ codes "mark"
    ∷ codes "self" ∷ codes "pair" ∷ codes "key" ∷ codes "back" ∷ []

-- whether the word is among these
abbrev pub among : List (List ℕ) → List ℕ → Bool
among words w = list_any (λ x. bytes_eq x w) words

-- the number of the first that is this word, counted from 0
abbrev pub index_of : List (List ℕ) → List ℕ → Option ℕ
index_of [] w = None
index_of (x ∷ xs) w = cond (bytes_eq x w) (Some 0) (option_map (λ i. i + 1) (index_of xs w))

abbrev pub alphanumeric : List ℕ → Bool
alphanumeric w = list_all is_ascii_alphanumeric w

abbrev pub begins_with_letter : List ℕ → Bool
begins_with_letter [] = false
begins_with_letter (b ∷ bs) = is_ascii_alphabetic b

-- 1 to 8 letters or digits, a letter first
abbrev pub spelled : List ℕ → Bool
spelled w = alphanumeric w && begins_with_letter w && nat_le (length w) 8

-- a name is so spelled and is no word of the format
abbrev pub is_name : List ℕ → Bool
is_name w = spelled w && not (among reserved w)
