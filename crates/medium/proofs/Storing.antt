-- One message more in an area.
use Rattle.std.proofs.Common.{◌≡◌, ℕ, ◌+◌, ◌≤◌, List, [], ◌∷◌, ◌++◌, length, drop, sum_by, sym, refl, ap, ◌∙◌, arith, append_assoc, append-nil, length-append}
use Rattle.std.proofs.lemmas.List.{drop_at}
use Rattle.std.proofs.lemmas.List.Elements.{All-append, All-cons, All-nil}
use Rattle.std.proofs.lemmas.List.Sums.{sum_by-cons}
use Rattle.message.specs.Message.{Msg, wire}
use Rattle.medium.specs.Store.{Holds, IsWhole, Put, cost, laid}
use Rattle.medium.specs.Single.{front_is}

pub laid-append : (ms ns : List Msg) → laid (ms ++ ns) ≡ laid ms ++ laid ns
laid-append [] ns = refl
laid-append (m ∷ ms) ns = ap (λ l. length (wire m) ∷ wire m ++ l) (laid-append ms ns) ∙ ap (λ l. length (wire m) ∷ l) (sym (append_assoc (wire m) (laid ms) (laid ns)))

pub length-laid : (ms : List Msg) → length (laid ms) ≡ sum_by cost ms
length-laid [] = refl
length-laid (m ∷ ms) = omega (arith, length-append (wire m) (laid ms), length-laid ms, sum_by-cons cost m ms)

pub laid_push : (ms : List Msg) (m : Msg) → laid (ms ++ m ∷ []) ≡ laid ms ++ (length (wire m) ∷ wire m)
laid_push ms m = laid-append ms (m ∷ []) ∙ ap (λ l. laid ms ++ (length (wire m) ∷ l)) (append-nil (wire m))

module _ (used : ℕ) (before after : List ℕ) (heard : List Msg) (m : Msg) (h : Holds used before heard) (whole : IsWhole m) (room : used + cost m ≤ length before) (put : Put used (wire m) before after) where
  pub put_lies : after ≡ laid (heard ++ m ∷ []) ++ drop (used + cost m) before
  put_lies =
      let sum : used + length (wire m) + 1 ≡ used + cost m = omega arith in
      put
      ∙ ap (λ l. l ++ (length (wire m) ∷ wire m ++ drop (used + length (wire m) + 1) before)) (front_is used before heard h)
      ∙ sym (append_assoc (laid heard) (length (wire m) ∷ wire m) (drop (used + length (wire m) + 1) before))
      ∙ ap (λ l. l ++ drop (used + length (wire m) + 1) before) (sym (laid_push heard m))
      ∙ ap (λ k. laid (heard ++ m ∷ []) ++ drop k before) sum

  pub put_long : length (laid (heard ++ m ∷ [])) ≡ used + cost m
  put_long = ap length (laid_push heard m) ∙ omega (arith, length-append (laid heard) (length (wire m) ∷ wire m), h.long)

  pub put_holds : Holds (used + cost m) after (heard ++ m ∷ [])
  put_holds = record {
    whole = All-append IsWhole heard (m ∷ []) h.whole (All-cons IsWhole m [] whole (All-nil IsWhole));
    long = put_long;
    front = put_lies ∙ ap (λ l. laid (heard ++ m ∷ []) ++ l) (sym (ap (drop (used + cost m)) put_lies ∙ drop_at (laid (heard ++ m ∷ [])) (drop (used + cost m) before) (used + cost m) put_long));
  }
