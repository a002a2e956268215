-- A piece put behind the bytes, over the zeros.
use Rattle.std.proofs.Common.{◌≡◌, ℕ, ◌+◌, ◌-◌, ◌≤◌, List, length, take, drop, replicate, sym, ap, ◌∙◌, arith, length-drop}
use Rattle.std.proofs.lemmas.List.{drop-drop, drop-replicate, length-take-le}
use Rattle.std.proofs.lemmas.Slice.{drop-put_mid}
use borrow.Rule.Slice.PartMut.{put_mid, same_len_mid}

module _ (most n : ℕ) (bytes piece : List ℕ) (few : n ≤ most) (long : length bytes ≡ most) (zeros : drop n bytes ≡ replicate (most - n) 0) (fits : length piece ≤ most - n) where
  pub zeros_are : drop (n + length piece) (put_mid n (n + length piece - n) bytes piece) ≡ replicate (most - (n + length piece)) 0
  zeros_are =
      drop-put_mid n (n + length piece - n) bytes piece (n + length piece) (omega arith) (omega (arith, few, long)) (omega arith)
      ∙ sym (drop-drop (length piece) n bytes)
      ∙ ap (drop (length piece)) zeros
      ∙ drop-replicate (length piece) (most - n) 0
      ∙ ap (λ k. replicate k 0) (omega arith)

  pub length_is : length (put_mid n (n + length piece - n) bytes piece) ≡ most
  length_is =
      let k : length piece ≡ n + length piece - n = omega arith in
      let whole : length (take (n + length piece - n) (drop n bytes)) ≡ n + length piece - n = length-take-le (n + length piece - n) (drop n bytes) (omega (arith, length-drop n bytes, long, fits)) in
      same_len_mid n (n + length piece - n) bytes piece (k ∙ sym whole) ∙ long
