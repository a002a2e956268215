-- What a rank scale is, and the two that are built.
use Rattle.std.specs.Prelude.{◌≡◌, Bool, true, ◌&&◌, ℤ, pos, negsuc, int_le, int_lt}
use Rattle.std.specs.Int.{int_min}

-- A scale: its values, how two are joined, which are positive, and the fixed value, the rank of an atom or event that no line lists.
pub record Scale : Type 0 where
  pub has : ℤ → Bool
  pub joined : ℤ → ℤ → ℤ
  pub above : ℤ → Bool
  pub fixed : ℤ

-- What every scale keeps to, asked only of its own values.
pub record Laws (scale : Scale) : Type 0 where
  -- The fixed value is one of them, and positive.
  pub fixed-has : scale.has scale.fixed ≡ true
  pub fixed-above : scale.above scale.fixed ≡ true
  -- Two of them join into one of them, which is positive exactly when both are.
  pub joined-has : (a b : ℤ) → scale.has a ≡ true → scale.has b ≡ true → scale.has (scale.joined a b) ≡ true
  pub joined-above : (a b : ℤ) → scale.has a ≡ true → scale.has b ≡ true → scale.above (scale.joined a b) ≡ (scale.above a && scale.above b)

abbrev pub positive : ℤ → Bool
positive a = int_lt (pos 0) a

-- the values from one to another
abbrev pub between : ℤ → ℤ → ℤ → Bool
between low high a = int_le low a && int_le a high

-- 0 and 1; the lesser of two, and 1 is positive and fixed
abbrev pub two_valued : Scale
two_valued = record { has = between (pos 0) (pos 1); joined = int_min; above = positive; fixed = pos 1 }

-- every 16-bit signed value; the lesser of two, positive above 0, and 1 is fixed
abbrev pub whole : Scale
whole = record { has = between (negsuc 32767) (pos 32767); joined = int_min; above = positive; fixed = pos 1 }
