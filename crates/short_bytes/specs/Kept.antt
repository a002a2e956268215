-- Bytes that are kept with zeros behind them give back what is kept.
use Rattle.std.proofs.Common.{◌≡◌, ℕ, ◌-◌, ◌≤◌, List, length, take, drop, replicate, ◌++◌, sym, ap, ◌∙◌, arith}
use Rattle.std.proofs.lemmas.List.{length-take-le, take-append-drop}
use Rattle.short_bytes.specs.declared.ShortBytes.TheInside.{Inside}
use Rattle.short_bytes.specs.Pads.{padded}

abbrev pub inside : (most : ℕ) → List ℕ → ℕ → Inside most
inside most bytes len = record { bytes = bytes; len = len }

pub kept_whole : (most : ℕ) (bytes : List ℕ) (len : ℕ) → (len ≤ most) × (length bytes ≡ most) × (drop len bytes ≡ replicate (most - len) 0) → inside most (padded most (take len bytes)) (length (take len bytes)) ≡ inside most bytes len
kept_whole most bytes len h =
    let long : length (take len bytes) ≡ len = length-take-le len bytes (omega (arith, h.0, h.1)) in
    ap (λ n. inside most (take len bytes ++ replicate (most - n) 0) n) long
    ∙ ap (λ zeros. inside most (take len bytes ++ zeros) len) (sym h.2)
    ∙ ap (λ b. inside most b len) (take-append-drop len bytes)
