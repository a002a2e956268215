-- How long the terms of a sheet are.
use Rattle.std.specs.Prelude.{◌≡◌, ℕ, ◌≤◌, List, Ok}
use Rattle.std.specs.List.{AllByRecursion}
use Rattle.model.specs.declared.node.Field.{Field}
use Rattle.model.specs.Sheet.{Sheet, Step, receive, send, signal}
use Rattle.model.specs.Trees.{Term, prefix, seal, word_count}
use Rattle.sheet.specs.Sheets.{reading}

-- A term has at most 32 words.
abbrev pub Short : Term → Type 0
Short t = word_count (prefix t) ≤ 32

abbrev pub ShortStep : Step → Type 0
ShortStep (send t) = Short t
ShortStep (receive t) = Short t
ShortStep (signal s) = Unit {0}

-- In a `seal` line the bound is that of the content alone.
pub data ShortSeal : Term → Type 0 where
  content : {f g : Field} {t : Term} → Short t → ShortSeal (seal f g t)

pub record Shortened (m : Sheet) : Type 0 where
  pub roles : AllByRecursion (λ r. AllByRecursion ShortStep r.steps) m.roles
  pub known : AllByRecursion Short m.known
  pub seals : AllByRecursion (λ r. ShortSeal r.what) m.seals

-- The terms of a sheet that is read are so short.
abbrev pub TermsAreShort : Type 0
TermsAreShort = (text : List ℕ) (m : Sheet) → reading text ≡ Ok m → Shortened m
