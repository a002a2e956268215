-- The text of examples/silence.sheet, line by line, and the same with one thing changed.
use Rattle.std.specs.Prelude.{ℕ, ◌-◌, List, [], ◌∷◌, ◌++◌, codes, slice_set, swap, insert, remove, flat_map}

-- each line ended by LF
abbrev pub text_of : List (List ℕ) → List ℕ
text_of lines = flat_map (λ l. l ++ (10 ∷ [])) lines

-- the place of line n in a list: lines are counted from 1
abbrev pub line : ℕ → ℕ
line n = n - 1

abbrev pub silence_lines : List (List ℕ)
silence_lines =
    codes "link sheet 1"
    ∷ codes "agents"
    ∷ codes "agent G"
    ∷ codes "agent B"
    ∷ codes "texts"
    ∷ codes "text date"
    ∷ codes "roles"
    ∷ codes "role bus B"
    ∷ codes "var t text"
    ∷ codes "fresh n"
    ∷ codes "send pair self n"
    ∷ codes "recv seal self G pair G pair n t"
    ∷ codes "sig set self G n t"
    ∷ codes "role ground G"
    ∷ codes "var j agent"
    ∷ codes "var c nonce"
    ∷ codes "var t text"
    ∷ codes "recv pair j c"
    ∷ codes "sig told self j c t"
    ∷ codes "send seal self j pair self pair c t"
    ∷ codes "nonces"
    ∷ codes "nonce na B bus n"
    ∷ codes "known"
    ∷ codes "claim"
    ∷ codes "holds set B G na date needs told G B na date"
    ∷ codes "ranks"
    ∷ codes "rank 0 key G B"
    ∷ codes "seal 0 G B pair G pair na date"
    ∷ codes "mark 0 set B G na date"
    ∷ codes "back 2 5 7 21 23 24 26"
    ∷ []

-- with the ground's last two steps exchanged
abbrev pub answered_early_lines : List (List ℕ)
answered_early_lines = swap silence_lines (line 19) (line 20)

-- with the rank 1 for the key
abbrev pub key_positive_lines : List (List ℕ)
key_positive_lines = slice_set silence_lines (line 27) (codes "rank 1 key G B")

-- with the rank 1 for the completion
abbrev pub completion_positive_lines : List (List ℕ)
completion_positive_lines = slice_set silence_lines (line 29) (codes "mark 1 set B G na date")

-- without the `seal` line
abbrev pub without_seal_lines : List (List ℕ)
without_seal_lines = remove silence_lines (line 28)

-- with the key known beforehand, which moves two section words down a line
abbrev pub key_known_lines : List (List ℕ)
key_known_lines = slice_set (insert silence_lines (line 24) (codes "know key G B")) (line 31) (codes "back 2 5 7 21 23 25 27")
