-- What a medium means at one moment, and what its calls answer.
use Rattle.std.specs.Prelude.{◌≡◌, ℕ, zero, suc, ◌⊎◌, Contains, List, [], ◌∷◌, ◌++◌}
use Rattle.std.proofs.Common.{sym, subst, inl, inr, arith}
use Rattle.std.proofs.lemmas.List.Elements.{Contains-append_cases}
use Rattle.instances.specs.Start.{Start}
use Rattle.message.specs.Generates.{Generates}
use Rattle.message.specs.Message.{Msg, Reads}
use Rattle.model.specs.Sheet.{Sheet}

-- The sheet that a medium was made on, what it has heard, what it offers now, and what it has space for.
pub record Meaning : Type 1 where
  pub sheet : Sheet
  pub heard : List Msg
  pub offered : Msg → Type 0
  pub space : Msg → Type 0

-- What is known of a sheet's start once these messages are heard.
abbrev pub Known : Sheet → List Msg → Msg → Type 0
Known sheet heard m = Start sheet m ⊎ Contains heard m

-- Everything offered is generated from the sheet's start knowledge and the heard.
pub record Sound (s : Meaning) : Type 0 where
  pub made : (m : Msg) → s.offered m → Generates (Known s.sheet s.heard) m

-- A medium of meaning s has space for m, takes it, and means t after: on the same sheet, and everything heard was heard before or is m.
pub record Takes (s t : Meaning) (m : Msg) : Type 0 where
  pub space : s.space m
  pub sheet : t.sheet ≡ s.sheet
  pub heard : (n : Msg) → Contains t.heard n → Contains s.heard n ⊎ (n ≡ m)

-- The bytes are no message that there is space for.
abbrev pub Declines : Meaning → List ℕ → Type 0
Declines s bytes = (m : Msg) → Reads bytes m → s.space m → ⊥

-- The bytes are a message that is offered.
abbrev pub Offers : Meaning → List ℕ → Type 0
Offers s bytes = (m : Msg) × Reads bytes m × s.offered m

-- A medium of meaning s hears m, whether or not it was heard before, and means t after.
pub record Hears (s t : Meaning) (m : Msg) : Type 0 where
  pub space : s.space m
  pub sheet : t.sheet ≡ s.sheet
  pub heard : t.heard ≡ s.heard ++ m ∷ []

pub hears_takes : (s t : Meaning) (m : Msg) → Hears s t m → Takes s t m
hears_takes s t m h = record {
  space = h.space;
  sheet = h.sheet;
  heard = λ n i. elim (Contains-append_cases s.heard (m ∷ []) n (subst (λ l. Contains l n) h.heard i)) [ inl x ↦ inl x | inr x ↦ inr (alone m n x) ];
}
  where
    alone : (m n : Msg) → Contains (m ∷ []) n → n ≡ m
    alone m n (zero, h, e) = sym e
    alone m n (suc k, h, e) = absurd (omega arith)
