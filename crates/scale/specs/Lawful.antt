-- The two scales keep to the laws.
use Rattle.std.specs.Prelude.{◌≡◌, true, false, ◌&&◌, cond, ℤ, pos, negsuc, int_lt}
use Rattle.std.specs.Int.{int_min}
use Rattle.std.proofs.Common.{refl, arith}
use Rattle.std.proofs.lemmas.Bool.Decides.{nat_tests}
use Rattle.scale.specs.Scales.{Laws, between, positive, two_valued, whole}

-- the lesser of two is one of them
lesser_is : (P : ℤ → Type 0) (a b : ℤ) → P a → P b → P (int_min a b)
lesser_is P a b p q = elim (int_lt b a) as (λ t. P (cond t b a)) [ true ↦ q | false ↦ p ]

lesser_between : (low high a b : ℤ) → between low high a ≡ true → between low high b ≡ true → between low high (int_min a b) ≡ true
lesser_between low high a b p q = lesser_is (λ x. between low high x ≡ true) a b p q

lesser_positive : (a b : ℤ) → positive (int_min a b) ≡ (positive a && positive b)
lesser_positive (pos m) (pos n) = grind (arith, nat_tests)
lesser_positive (pos m) (negsuc n) = elim (positive (pos m)) as (λ t. false ≡ (t && false)) [ true ↦ refl | false ↦ refl ]
lesser_positive (negsuc m) (pos n) = refl
lesser_positive (negsuc m) (negsuc n) = lesser_is (λ x. positive x ≡ false) (negsuc m) (negsuc n) refl refl

pub two_valued_lawful : Laws two_valued
two_valued_lawful = record {
  fixed-has = refl;
  fixed-above = refl;
  joined-has = λ a b p q. lesser_between (pos 0) (pos 1) a b p q;
  joined-above = λ a b p q. lesser_positive a b;
}

pub whole_lawful : Laws whole
whole_lawful = record {
  fixed-has = refl;
  fixed-above = refl;
  joined-has = λ a b p q. lesser_between (negsuc 32767) (pos 32767) a b p q;
  joined-above = λ a b p q. lesser_positive a b;
}
