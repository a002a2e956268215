-- Laws of substitution, each on the contract of a call of its own.
use Rattle.std.specs.Prelude.{◌≡◌, ◌≤◌, length, Some}
use Rattle.message.specs.Message.{Msg, wire}
use Rattle.model.specs.Trees.{Term, prefix, word_count}
use Rattle.instances.specs.Substitution.{Values, message}

-- A term of at most 32 words is under any values a message of at most 96 bytes, if it is one.
abbrev pub SubstitutionIsShort : Type 0
SubstitutionIsShort = (v : Values) (t : Term) (m : Msg) → word_count (prefix t) ≤ 32 → message v t ≡ Some m → length (wire m) ≤ 96
