-- What taking apart one message after another does.
use Rattle.std.proofs.Common.{◌≡◌, ℕ, zero, suc, ◌+◌, ◌<◌, ◌≤◌, ◌⊎◌, Bool, true, false, List, [], ◌∷◌, length, get_or, set, inl, inr, sym, refl, ap, subst, ◌∙◌, arith, get_or-set_other, get_or-set_same}
use Rattle.std.proofs.lemmas.List.{length-set}
use Rattle.message.specs.Message.{key_bytes}
use Rattle.std.specs.List.{slice_index}
use Rattle.model.specs.Sheet.{Sheet}
use Rattle.medium.specs.Spreading.{Gives, Grows, Knows, Marked, Quiet, Seen, Visits, gives_content, gives_first, gives_second, more, same, unmarked}
use Rattle.medium.proofs.Growing.{no_more, same_or}

pub marked_within : (marks : List ℕ) (k : ℕ) → Marked marks k → k < length marks
marked_within [] k e = absurd (omega arith)
marked_within (x ∷ xs) zero e = omega arith
marked_within (x ∷ xs) (suc k) e = omega (arith, marked_within xs k e)

pub marked_kept : (marks : List ℕ) (at k : ℕ) → Marked marks k → Marked (set marks at 1) k
marked_kept marks at k on =
    elim (same_or k at) [
      | inl e ↦
          let lt : at < length marks = omega (arith, marked_within marks k on) in
          ap (λ i. get_or (set marks at 1) i 0) e ∙ get_or-set_same marks at 1 0 lt
      | inr d ↦ get_or-set_other marks at k 1 0 d ∙ on
    ]

pub seen_more : (bytes before after wanted : List ℕ) → ((k : ℕ) → Marked before k → Marked after k) → Seen bytes before wanted → Seen bytes after wanted
seen_more bytes before after wanted h s = record { at = s.at; marked = h s.at s.marked; rest = s.rest; splits = s.splits }

pub gives_more : {bytes : List ℕ} {keys more : List ℕ → Type 0} {i k : ℕ} → ((w : List ℕ) → keys w → more w) → Gives bytes keys i k → Gives bytes more i k
gives_more h (gives_first l r s) = gives_first l r s
gives_more h (gives_second l r s) = gives_second l r s
gives_more h (gives_content x m s w) = gives_content x m s (h (key_bytes x) w)

module _ (sheet : Sheet) (bytes other other_marks : List ℕ) where
  pub grows_marked : {before after : List ℕ} → Grows sheet bytes other other_marks before after → (k : ℕ) → Marked before k → Marked after k
  grows_marked same k on = on
  grows_marked (more {marks = marks} i j g m h) k on = marked_kept marks j k (grows_marked g k on)

  pub grows_length : {before after : List ℕ} → Grows sheet bytes other other_marks before after → length after ≡ length before
  grows_length same = refl
  grows_length (more {marks = marks} i j g m h) = length-set marks j 1 ∙ grows_length g

  pub grows_fewer : {before after : List ℕ} → Grows sheet bytes other other_marks before after → unmarked after ≤ unmarked before
  grows_fewer same = omega arith
  grows_fewer (more {marks = marks} i j g m h) = omega (arith, grows_fewer g, no_more marks j)

  pub grows_on : {before mid after : List ℕ} → Grows sheet bytes other other_marks before mid → Grows sheet bytes other other_marks mid after → Grows sheet bytes other other_marks before after
  grows_on g same = g
  grows_on g (more i j h m w) = more i j (grows_on g h) m w

  pub knows_more : {before after : List ℕ} → ((k : ℕ) → Marked before k → Marked after k) → (w : List ℕ) → Knows sheet bytes before other other_marks w → Knows sheet bytes after other other_marks w
  knows_more h w (inl k) = inl k
  knows_more {before} {after} h w (inr (inl s)) = inr (inl (seen_more bytes before after w h s))
  knows_more h w (inr (inr s)) = inr (inr s)

  -- What a loop over the bytes from one on has done before byte i.
  pub record Through (from i : ℕ) (before after : List ℕ) (fresh : Bool) : Type 0 where
    pub grows : Grows sheet bytes other other_marks before after
    pub done : (j k : ℕ) → from ≤ j → j < i → Marked after j → Gives bytes (Knows sheet bytes before other other_marks) j k → Marked after k
    pub below : (k : ℕ) → k < from → slice_index after k ≡ slice_index before k
    pub quiet : fresh ≡ false → Quiet sheet bytes other other_marks before after
    pub new : fresh ≡ true → unmarked after < unmarked before

  pub through_none : (from : ℕ) (marks : List ℕ) → Through from from marks marks false
  through_none from marks = record {
    grows = same;
    done = λ j k h lt. absurd (omega arith);
    below = λ k h. refl;
    quiet = λ e x h. h;
    new = λ e. cc;
  }

  pub through_unmarked : (from i : ℕ) (before after : List ℕ) (fresh : Bool) → Through from i before after fresh → (Marked after i → ⊥) → Through from (i + 1) before after fresh
  through_unmarked from i before after fresh t off = record {
    grows = t.grows;
    done = λ j k h lt on g. elim (same_or j i) [ inl e ↦ absurd (off (subst (Marked after) e on)) | inr d ↦ t.done j k h (omega arith) on g ];
    below = t.below;
    quiet = t.quiet;
    new = t.new;
  }

  pub through_one : (from i : ℕ) (before mid after : List ℕ) (fresh now r : Bool) → from ≤ i → Through from i before mid fresh → Visits sheet bytes other other_marks i mid after now → (r ≡ false → (fresh ≡ false) × (now ≡ false)) → (r ≡ true → (fresh ≡ true) ⊎ (now ≡ true)) → Through from (i + 1) before after r
  through_one from i before mid after fresh now r past t v off on = record {
    grows = grows_on t.grows v.grows;
    done = done-more;
    below = λ k h. v.below k (omega arith) ∙ t.below k h;
    quiet = λ e x h. t.quiet (off e).0 x (v.quiet (off e).1 x h);
    new = λ e. elim (on e) [ inl h ↦ omega (arith, t.new h, grows_fewer v.grows) | inr h ↦ omega (arith, v.new h, grows_fewer t.grows) ];
  }
    where
      done-more : (j k : ℕ) → from ≤ j → j < i + 1 → Marked after j → Gives bytes (Knows sheet bytes before other other_marks) j k → Marked after k
      done-more j k h lt m g =
          elim (same_or j i) [
            | inl e ↦ v.done k (gives_more (knows_more (grows_marked t.grows)) (subst (λ n. Gives bytes (Knows sheet bytes before other other_marks) n k) e g))
            | inr d ↦ grows_marked v.grows k (t.done j k h (omega arith) (sym (v.below j (omega arith)) ∙ m) g)
          ]
