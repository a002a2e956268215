-- Numbers from their digits, as std reads them.
use Rattle.std.proofs.Common.{◌≡◌, ℕ, ◌+◌, ◌-◌, ◌*◌, ◌^◌, ◌<◌, ◌≤◌, Bool, true, false, cond, ◌&&◌, leb, List, [], ◌∷◌, length, get_or, Some, None, Ok, Err, Option, Result, Bor, MatchResult, sym, refl, ap, ◌∙◌, arith, rules}
use Rattle.std.proofs.lemmas.Bool.{and_parts, cond-false, leb-true, lt-leb}
use Rattle.std.proofs.lemmas.Grind.{common_steps}
use Rattle.std.proofs.lemmas.Str.{IsUtf8-from_ascii}
use Rattle.std.proofs.lemmas.Str.Parse.{IsNumeralModel, digit_at, numerals_by_fold, parse_digits}
use Rattle.std.specs.Bool.{then_some}
use Rattle.std.specs.Char.{is_ascii_digit}
use Rattle.std.specs.Result.{OkIff, result_ok}
use Rattle.std.specs.Str.{IsUtf8}
use Rattle.std.specs.Str.Parse.{ParsesUnsigned}
use Rattle.terms.specs.Terms.{digits, magnitude, number, unpadded}

-- the digits of std and the number that they write are these
own : IsNumeralModel (λ cs. digits cs ≡ true) (number 0)
own = numerals_by_fold _ (search rules) number (search rules)

-- a number, if it is at most the largest
abbrev pub capped : Option ℕ → Option ℕ
capped None = None
capped (Some n) = then_some (leb n 32768) n

module _ (cs : List ℕ) (d : true ≡ digits cs) where
  ascii : (i : ℕ) → get_or cs i 0 < 128
  ascii i = let h = digit_at cs i (own.to cs (sym d)) in grind (arith, common_steps, h)

  -- digits are a text
  pub no-text : {E : Type 0} (V : E → Type 0) (u : Result (Bor (List ℕ)) E) → MatchResult u (λ s. (s.now ≡ cs) × IsUtf8 cs) (λ e. (¬ IsUtf8 cs) × V e) → result_ok u ≡ None → ⊥
  no-text V (Ok s) h e = cc
  no-text V (Err x) h e = h.0 (IsUtf8-from_ascii cs ascii)

  pub text-is : {E : Type 0} (V : E → Type 0) (u : Result (Bor (List ℕ)) E) → MatchResult u (λ s. (s.now ≡ cs) × IsUtf8 cs) (λ e. (¬ IsUtf8 cs) × V e) → (s : Bor (List ℕ)) → Some s ≡ result_ok u → s.now ≡ cs
  text-is V (Ok t) h s e = let same : s ≡ t = cc in ap (λ x. x.now) same ∙ h.0
  text-is V (Err x) h s e = cc

  -- what std reads of them is their number, if that is not too large
  pub parsed : {E : Type 0} → true ≡ unpadded cs → (t : List ℕ) (r : Result ℕ E) → ParsesUnsigned 16 10 t r → t ≡ cs → capped (result_ok r) ≡ magnitude cs
  parsed u t r h is = by r (parse_digits own 16 cs r (rw is at h) (sym d)) ∙ plain (digits cs) (unpadded cs) (number 0 cs) d u
    where
      some : 1 ≤ length cs
      some = leb-true 1 (length cs) (and_parts (leb 1 (length cs)) _ (sym u)).0

      plain : (d u : Bool) (n : ℕ) → true ≡ d → true ≡ u → capped (Some n) ≡ cond (d && u && leb n 32768) (Some n) None
      plain true true n _ _ = elim (leb n 32768) as (λ b. then_some b n ≡ cond b (Some n) None) [ true ↦ refl | false ↦ refl ]
      plain true false n _ e = cc
      plain false u n e _ = cc

      by : {E : Type 0} (r : Result ℕ E) → OkIff r ((0 < length cs) × (number 0 cs < 2 ^ 16)) (number 0 cs) → capped (result_ok r) ≡ capped (Some (number 0 cs))
      by (Ok n) (q, same) = ap (λ n. capped (Some n)) same
      by (Err x) more =
          let large : 2 ^ 16 ≤ number 0 cs = grind (arith, some, more) in
          sym (ap (λ b. then_some b (number 0 cs)) (lt-leb (number 0 cs) 32768 (omega arith)))

-- more digits make no smaller number
number-least : (n : ℕ) (cs : List ℕ) → n ≤ number n cs
number-least n [] = omega arith
number-least n (c ∷ cs) = omega (arith, number-least (n * 10 + (c - 48)) cs)

-- six digits, of which the first is no 0, make more than the largest
six : (a b c d e f : ℕ) (cs : List ℕ) → digits (a ∷ b ∷ c ∷ d ∷ e ∷ f ∷ cs) ≡ true → unpadded (a ∷ b ∷ c ∷ d ∷ e ∷ f ∷ cs) ≡ true → 32768 < number 0 (a ∷ b ∷ c ∷ d ∷ e ∷ f ∷ cs)
six a b c d e f cs digit plain =
    let one : is_ascii_digit a ≡ true = (and_parts (is_ascii_digit a) _ digit).0 in
    let least : 48 ≤ a = grind (arith, common_steps, one) in
    let other : 48 < a = grind (arith, common_steps, plain, least) in
    omega (arith, other, number-least ((((((0 * 10 + (a - 48)) * 10 + (b - 48)) * 10 + (c - 48)) * 10 + (d - 48)) * 10 + (e - 48)) * 10 + (f - 48)) cs)

-- what has more than five digits writes no number, or too large a one
pub too-long : (cs : List ℕ) → 5 < length cs → None ≡ magnitude cs
too-long [] h = absurd (omega (arith, h))
too-long (a ∷ []) h = absurd (omega (arith, h))
too-long (a ∷ b ∷ []) h = absurd (omega (arith, h))
too-long (a ∷ b ∷ c ∷ []) h = absurd (omega (arith, h))
too-long (a ∷ b ∷ c ∷ d ∷ []) h = absurd (omega (arith, h))
too-long (a ∷ b ∷ c ∷ d ∷ e ∷ []) h = absurd (omega (arith, h))
too-long (a ∷ b ∷ c ∷ d ∷ e ∷ f ∷ cs) h =
    long (digits (a ∷ b ∷ c ∷ d ∷ e ∷ f ∷ cs)) (unpadded (a ∷ b ∷ c ∷ d ∷ e ∷ f ∷ cs)) (number 0 (a ∷ b ∷ c ∷ d ∷ e ∷ f ∷ cs)) (six a b c d e f cs)
  where
    long : (d u : Bool) (n : ℕ) → (d ≡ true → u ≡ true → 32768 < n) → None ≡ cond (d && u && leb n 32768) (Some n) None
    long true true n more = sym (cond-false _ _ _ (lt-leb n 32768 (more refl refl)))
    long true false n _ = refl
    long false u n _ = refl
