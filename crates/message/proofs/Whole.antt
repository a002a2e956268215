-- Bytes that are a message, and those that only begin with one.
use Rattle.std.proofs.Common.{◌≡◌, ℕ, ◌+◌, ◌-◌, ◌≤◌, List, [], ◌++◌, length, take, drop, Ok, Err, sym, refl, ap, ◌∙◌, append_assoc, append-nil, arith, length-append, take-append-drop, length-take, take_at, Some, None, Option, Bool, false, MatchOption, Decides, eqb, eqb-true, eq-eqb, Bor}
use borrow.Author.Tests.{clash}
use lib.Seq.{take-append-add}
use Rattle.std.proofs.lemmas.List.{nil_from_length}
use Rattle.message.specs.Laws.{ReadBack}
use Rattle.message.specs.Message.{wire, IsMessage}
use Rattle.message.specs.Reading.{Begins, Leaves}
use Rattle.message.proofs.Forms.{one-rest}
use Rattle.message.proofs.Shapes.{unique}

-- the whole of the bytes is a message where nothing comes after it
pub whole : (bytes rest : List ℕ) → length bytes ≤ 96 → Begins bytes rest → length rest ≡ 0 → IsMessage bytes
whole bytes rest short b none =
    let form = sym (append-nil (wire b.message)) ∙ ap (λ l. wire b.message ++ l) (sym (nil_from_length rest none)) ∙ b.splits in
    (b.message, record { fits = b.fits; form = form; short = short })

abbrev pub begins : (bytes : List ℕ) → IsMessage bytes → Begins bytes []
begins bytes (m, w) = record { message = m; fits = w.fits; splits = append-nil (wire m) ∙ w.form }

pub nothing_left : (bytes rest : List ℕ) → Begins bytes rest → IsMessage bytes → length rest ≡ 0
nothing_left bytes rest b w = ap length (one-rest bytes rest [] b (begins bytes w))

-- whether the bytes are a message, from what comes after the form at their front
pub whole_told : (o : Option (Bor (List ℕ))) (bytes : List ℕ) (answer : Bool) → length bytes ≤ 96 → Leaves bytes o → MatchOption o (answer ≡ false) (λ rest. answer ≡ eqb (length rest.now) 0) → Decides answer (IsMessage bytes)
whole_told None bytes answer short none told = (λ yes. absurd (clash (sym told ∙ yes)), λ w. absurd (none [] (begins bytes w)))
whole_told (Some rest) bytes answer short b told =
    (λ yes. whole bytes rest.now short b (eqb-true _ 0 (sym told ∙ yes)), λ w. told ∙ eq-eqb _ 0 (nothing_left bytes rest.now b w))

-- A form within the first n bytes is a message at the front of all of them, where n is at most 96.
module _ (bytes : List ℕ) (n : ℕ) where
  pub front_length : (rest : List ℕ) → (b : Begins (take n bytes) rest) → length (wire b.message) + length rest ≡ length (take n bytes)
  front_length rest b = sym (length-append (wire b.message) rest) ∙ ap length b.splits

  pub front-message : n ≤ 96 → (rest front : List ℕ) → Begins (take n bytes) rest → front ≡ take (length (take n bytes) - length rest) bytes → IsMessage front
  front-message few rest front b is =
      let m = b.message in
      let long = front_length rest b in
      let all : wire m ++ (rest ++ drop n bytes) ≡ bytes = sym (append_assoc (wire m) rest (drop n bytes)) ∙ ap (λ l. l ++ drop n bytes) b.splits ∙ take-append-drop n bytes in
      let k : length (wire m) ≡ length (take n bytes) - length rest = omega arith in
      let form : wire m ≡ front = sym (take_at (wire m) (rest ++ drop n bytes) _ k) ∙ ap (take (length (take n bytes) - length rest)) all ∙ sym is in
      (m, record { fits = b.fits; form = form; short = omega (arith, length-take n bytes, ap length form) })

  pub no_front : (front rest : List ℕ) → length front ≤ n → IsMessage front → front ++ rest ≡ bytes → ((left : List ℕ) → Begins (take n bytes) left → ⊥) → ⊥
  no_front front rest few (m, w) e none =
      let more = n - length front in
      let k : n ≡ length front + more = omega arith in
      let cut : take n bytes ≡ front ++ take more rest = ap (take n) (sym e) ∙ ap (λ i. take i (front ++ rest)) k ∙ take-append-add front rest more in
      none (take more rest) (record { message = m; fits = w.fits; splits = ap (λ l. l ++ take more rest) w.form ∙ sym cut })

-- whatever a reading of a form and more answers, it finds that form and that rest
pub read_back : ReadBack
read_back m rest fits short (Ok f) ((k, w), e) =
    let same = unique k m f.rest.now rest (ap (λ l. l ++ f.rest.now) w.form ∙ e) in
    (sym w.form ∙ ap wire same.0, same.1)
read_back m rest fits short (Err e) none = none (wire m) rest (m, record { fits = fits; form = refl; short = short }) refl
