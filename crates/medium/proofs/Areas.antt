-- The areas of an enemy that hears a message.
use Rattle.std.proofs.Common.{◌≡◌, ℕ, ◌+◌, ◌-◌, ◌≤◌, List, ◌++◌, length, take, drop, replicate, sym, ap, ◌∙◌, arith, append_assoc, length-append, length-take}
use Rattle.std.proofs.Math.Path.{transport}
use Rattle.std.proofs.lemmas.List.{drop_at, length-replicate, take_at}
use Rattle.model.specs.Sheet.{Sheet}
use Rattle.medium.specs.Spreading.{Learns}
use Rattle.medium.specs.Store.{Cleared}

module _ (used len end : ℕ) (e : end ≡ used + len + 1) (marks cleared : List ℕ) (room : end ≤ length marks) (is : Cleared used end marks cleared) where
  front_zeros : take used marks ++ replicate (end - used) 0 ≡ take used marks ++ replicate (len + 1) 0
  front_zeros = let n : end - used ≡ len + 1 = omega arith in ap (λ j. take used marks ++ replicate j 0) n

  front-long : length (take used marks ++ replicate (end - used) 0) ≡ end
  front-long = omega (arith, length-append (take used marks) (replicate (end - used) 0), length-take used marks, length-replicate {A = ℕ} (end - used) 0)

  split : cleared ≡ (take used marks ++ replicate (end - used) 0) ++ drop end marks
  split = is ∙ sym (append_assoc (take used marks) (replicate (end - used) 0) (drop end marks))

  pub cleared_front : take end cleared ≡ take used marks ++ replicate (len + 1) 0
  cleared_front = ap (take end) split ∙ take_at (take used marks ++ replicate (end - used) 0) (drop end marks) end front-long ∙ front_zeros

  pub cleared_behind : drop end cleared ≡ drop end marks
  cleared_behind = ap (drop end) split ∙ drop_at (take used marks ++ replicate (end - used) 0) (drop end marks) end front-long

  -- what is behind the part that changed
  pub part_behind : (part : List ℕ) → length part ≡ length (take (end - 0) cleared) → length cleared ≡ length marks → drop end (part ++ drop (end - 0) cleared) ≡ drop end marks
  part_behind part long same =
      let n : end - 0 ≡ end = omega arith in
      let l : length part ≡ end = omega (arith, long, length-take (end - 0) cleared, same) in
      drop_at part (drop (end - 0) cleared) end l ∙ ap (λ j. drop j cleared) n ∙ cleared_behind

  pub part_learnt : (sheet : Sheet) (area t told tm told_marks part tp out told_out : List ℕ) (at : ℕ) → Learns sheet (take (end - 0) area) t (take (end - 0) cleared) tm part tp at → t ≡ told → tm ≡ told_marks → out ≡ part → told_out ≡ tp → Learns sheet (take end area) told (take used marks ++ replicate (len + 1) 0) told_marks out told_out at
  part_learnt sheet area t told tm told_marks part tp out told_out at h et em eo eto =
      let n : end - 0 ≡ end = omega arith in
      let f : take (end - 0) cleared ≡ take used marks ++ replicate (len + 1) 0 = ap (λ j. take j cleared) n ∙ cleared_front in
      transport (λ i. Learns sheet (take (n i) area) (et i) (f i) (em i) (sym eo i) (sym eto i) at) h
