-- The messages of the `know` lines, one after another.
use Rattle.std.proofs.Common.{◌≡◌, ℕ, ◌+◌, ◌-◌, ◌<◌, ◌≤◌, List, [], ◌∷◌, ◌++◌, length, get_or, take, map, filter_map, replicate, Some, None, sym, refl, ap, subst, ◌∙◌, arith, append_assoc, append-nil, length-append, take_all}
use Rattle.std.specs.List.{cons_option}
use Rattle.std.proofs.lemmas.List.{get_or-map, length-map, length-replicate, take_more}
use Rattle.std.proofs.lemmas.List.Elements.{All-append, All-cons, All-nil, filter_map-append}
use Rattle.instances.specs.Substitution.{message, names_alone}
use Rattle.message.specs.Message.{Msg, Reads, wire}
use Rattle.message.proofs.Forms.{nonempty}
use Rattle.model.specs.Stored.{term_of}
use Rattle.model.specs.declared.term.Term.{Term}
use Rattle.medium.specs.Store.{IsWhole, laid}
use Rattle.medium.specs.Told.{Tells, first_marks}
use Rattle.medium.proofs.Relaying.{whole_form}
use Rattle.medium.proofs.Storing.{laid_push}

pub length-first : (ms : List Msg) → length (first_marks ms) ≡ length (laid ms)
length-first [] = refl
length-first (m ∷ ms) = omega (arith, length-append (replicate (length (wire m) - 1) 0) (first_marks ms), length-append (wire m) (laid ms), length-replicate {A = ℕ} (length (wire m) - 1) 0, length-first ms, nonempty m)

first-append : (ms : List Msg) (m : Msg) → first_marks (ms ++ m ∷ []) ≡ first_marks ms ++ (0 ∷ 1 ∷ replicate (length (wire m) - 1) 0)
first-append [] m = ap (λ l. 0 ∷ 1 ∷ l) (append-nil (replicate (length (wire m) - 1) 0))
first-append (n ∷ ms) m = ap (λ l. 0 ∷ 1 ∷ replicate (length (wire n) - 1) 0 ++ l) (first-append ms m) ∙ ap (λ l. 0 ∷ 1 ∷ l) (sym (append_assoc (replicate (length (wire n) - 1) 0) (first_marks ms) (0 ∷ 1 ∷ replicate (length (wire m) - 1) 0)))

pub tells_push : (ms : List Msg) (m : Msg) (bytes b b1 b2 k k1 k2 k3 : List ℕ) (n : ℕ) → Reads bytes m → Tells ms b k → b1 ≡ b ++ length bytes ∷ [] → b2 ≡ b1 ++ bytes → k1 ≡ k ++ 0 ∷ [] → k2 ≡ k1 ++ 1 ∷ [] → n ≡ length b2 → k3 ≡ take n k2 ++ replicate (n - length k2) 0 → Tells (ms ++ m ∷ []) b2 k3
tells_push ms m bytes b b1 b2 k k1 k2 k3 n r t eb1 eb2 ek1 ek2 en ek3 =
    let lb : length b2 ≡ length (laid ms) + 1 + length (wire m) = omega (arith, ap length eb2, length-append b1 bytes, ap length eb1, length-append b (length bytes ∷ []), ap length t.bytes-are, ap length r.form) in
    let lk : length k2 ≡ length (laid ms) + 2 = omega (arith, ap length ek2, length-append k1 (1 ∷ []), ap length ek1, length-append k (0 ∷ []), ap length t.marks-are, length-first ms) in
    let some : length k2 ≤ n = omega (arith, nonempty m) in
    let more : n - length k2 ≡ length (wire m) - 1 = omega (arith, nonempty m) in
    record {
      whole = All-append IsWhole ms (m ∷ []) t.whole (All-cons IsWhole m [] (whole_form bytes m r) (All-nil IsWhole));
      bytes-are = eb2 ∙ ap (λ l. l ++ bytes) (eb1 ∙ ap (λ l. l ++ length bytes ∷ []) t.bytes-are) ∙ append_assoc (laid ms) (length bytes ∷ []) bytes ∙ ap (λ l. laid ms ++ (length l ∷ l)) (sym r.form) ∙ sym (laid_push ms m);
      marks-are = ek3 ∙ ap (λ l. l ++ replicate (n - length k2) 0) (take_all n k2 some ∙ ek2 ∙ ap (λ l. l ++ 1 ∷ []) (ek1 ∙ ap (λ l. l ++ 0 ∷ []) t.marks-are) ∙ append_assoc (first_marks ms) (0 ∷ []) (1 ∷ [])) ∙ append_assoc (first_marks ms) (0 ∷ 1 ∷ []) (replicate (n - length k2) 0) ∙ ap (λ j. first_marks ms ++ (0 ∷ 1 ∷ replicate j 0)) more ∙ sym (first-append ms m);
    }

module _ (items : List Term) (i : ℕ) (item : Term) (lt : i < length items) (is : item ≡ get_or items i item) where
  abbrev before : List Msg
  before = filter_map (message names_alone) (take i (map term_of items))

  next : filter_map (message names_alone) (take (i + 1) (map term_of items)) ≡ before ++ cons_option (message names_alone (term_of item)) []
  next =
      let within : i < length (map term_of items) = simp length-map lt in
      let one : get_or (map term_of items) i (term_of item) ≡ term_of item = get_or-map term_of items i item (term_of item) lt ∙ ap term_of (sym is) in
      ap (filter_map (message names_alone)) (take_more (map term_of items) i (term_of item) within)
      ∙ filter_map-append (message names_alone) (take i (map term_of items)) (get_or (map term_of items) i (term_of item) ∷ [])
      ∙ ap (λ t. before ++ cons_option (message names_alone t) []) one

  pub tells_some : (m : Msg) (b k : List ℕ) → message names_alone (term_of item) ≡ Some m → Tells (before ++ m ∷ []) b k → Tells (filter_map (message names_alone) (take (i + 1) (map term_of items))) b k
  tells_some m b k e t = subst (λ l. Tells l b k) (sym (next ∙ ap (λ o. before ++ cons_option o []) e)) t

  pub tells_none : (b k : List ℕ) → message names_alone (term_of item) ≡ None → Tells before b k → Tells (filter_map (message names_alone) (take (i + 1) (map term_of items))) b k
  tells_none b k e t = subst (λ l. Tells l b k) (sym (next ∙ ap (λ o. before ++ cons_option o []) e ∙ append-nil before)) t
