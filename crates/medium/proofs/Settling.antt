-- Taking two rows apart until no key is new.
use Rattle.std.proofs.Common.{◌≡◌, ℕ, ◌+◌, ◌<◌, ◌⊎◌, ◌||◌, Bool, true, false, cond, List, length, set, inl, inr, sym, refl, ap, subst, ◌∙◌, arith, get_or-set_other}
use Rattle.std.proofs.lemmas.Bool.{cases_lt}
use Rattle.std.specs.List.{slice_index}
use Rattle.message.specs.Message.{Key, key_bytes}
use Rattle.model.specs.Sheet.{Sheet}
use Rattle.medium.specs.Spreading.{Apart, ApartBefore, Both, Gives, Grows, Knows, Marked, Marks, Spreads, both_heard, both_same, both_told, gives_content, gives_first, gives_second, unmarked}
use Rattle.medium.proofs.Spreading.{grows_fewer, grows_marked, marked_kept}

swap : (sheet : Sheet) (bytes marks other other_marks w : List ℕ) → Knows sheet bytes marks other other_marks w → Knows sheet other other_marks bytes marks w
swap sheet bytes marks other other_marks w (inl k) = inl k
swap sheet bytes marks other other_marks w (inr (inl s)) = inr (inr s)
swap sheet bytes marks other other_marks w (inr (inr s)) = inr (inl s)

-- neither of two answers is yes
pub neither : (a b : Bool) → a || b ≡ false → (a ≡ false) × (b ≡ false)
neither true b e = cc
neither false b e = (refl, e)

gives_keys : {bytes : List ℕ} {keys more : List ℕ → Type 0} {i k : ℕ} → ((x : Key) → keys (key_bytes x) → more (key_bytes x)) → Gives bytes keys i k → Gives bytes more i k
gives_keys h (gives_first l r s) = gives_first l r s
gives_keys h (gives_second l r s) = gives_second l r s
gives_keys h (gives_content x m s w) = gives_content x m s (h x w)

pub both_on : (sheet : Sheet) (bytes told : List ℕ) {a b c d e f : List ℕ} → Both sheet bytes told a b c d → Both sheet bytes told c d e f → Both sheet bytes told a b e f
both_on sheet bytes told g both_same = g
both_on sheet bytes told g (both_heard m n t h w) = both_heard m n t (both_on sheet bytes told g h) w
both_on sheet bytes told g (both_told m t u h w) = both_told m t u (both_on sheet bytes told g h) w

module _ (sheet : Sheet) (bytes told : List ℕ) where
  -- one round over both rows
  pub round_both : (m0 t0 m t n u : List ℕ) (a b : Bool) → Both sheet bytes told m0 t0 m t → Spreads sheet told bytes m 0 t u a → Spreads sheet bytes told u 0 m n b → Both sheet bytes told m0 t0 n u
  round_both m0 t0 m t n u a b g p q = both_heard m n u (both_told m t u g p.grows) q.grows

  pub round_apart : (m t n u : List ℕ) (a b : Bool) → Spreads sheet told bytes m 0 t u a → Spreads sheet bytes told u 0 m n b → a ≡ false → b ≡ false → Apart sheet bytes n told u
  round_apart m t n u a b p q e f = record {
    heard-apart = λ i k on g. q.done i k (omega arith) on (gives_keys (q.quiet f) g);
    told-apart = λ i k on g. p.done i k (omega arith) on (gives_keys (λ x h. p.quiet e x (swap sheet bytes m told u (key_bytes x) (q.quiet f x (swap sheet told u bytes n (key_bytes x) h)))) g);
  }

  pub round_fewer : (m t n u : List ℕ) (a b r : Bool) → Spreads sheet told bytes m 0 t u a → Spreads sheet bytes told u 0 m n b → (r ≡ true → (a ≡ true) ⊎ (b ≡ true)) → unmarked n + unmarked u + cond r 1 0 < unmarked m + unmarked t + 1
  round_fewer m t n u a b r p q h = by-answer r refl
    where
      by-answer : (v : Bool) → r ≡ v → unmarked n + unmarked u + cond v 1 0 < unmarked m + unmarked t + 1
      by-answer false e = omega (arith, grows_fewer sheet told bytes m p.grows, grows_fewer sheet bytes told u q.grows)
      by-answer true e = elim (h e) [
        | inl y ↦ omega (arith, p.new y, grows_fewer sheet bytes told u q.grows)
        | inr y ↦ omega (arith, q.new y, grows_fewer sheet told bytes m p.grows)
      ]

  -- a message more, from byte `at` on
  pub learnt_both : (m m1 m2 t : List ℕ) (at : ℕ) (a b : Bool) → Marks sheet bytes told t at m m1 a → Spreads sheet bytes told t at m1 m2 b → Both sheet bytes told (set m at 1) t m2 t
  learnt_both m m1 m2 t at a b p q = both_heard (set m at 1) m2 t both_same (subst (λ l. Grows sheet bytes told t l m2) p.is q.grows)

  pub learnt_apart : (m m1 m2 t : List ℕ) (at : ℕ) (a b : Bool) → at < length m → Marks sheet bytes told t at m m1 a → Spreads sheet bytes told t at m1 m2 b → ApartBefore sheet bytes m told t at → a ≡ false → b ≡ false → Apart sheet bytes m2 told t
  learnt_apart m m1 m2 t at a b lt p q before e f = record {
    heard-apart = λ i k on g. elim (cases_lt i at) [
      | inl less ↦ grown k (before.before i k less (earlier i less on) (gives_keys (λ x h. p.quiet e x (q.quiet f x h)) g))
      | inr past ↦ q.done i k past on (gives_keys (q.quiet f) g)
    ];
    told-apart = λ i k on g. before.told-apart i k on (gives_keys (λ x h. swap sheet bytes m told t (key_bytes x) (p.quiet e x (q.quiet f x (swap sheet told t bytes m2 (key_bytes x) h)))) g);
  }
    where
      grown : (k : ℕ) → Marked m k → Marked m2 k
      grown k on = grows_marked sheet bytes told t q.grows k (subst (λ l. Marked l k) (sym p.is) (marked_kept m at k on))

      earlier : (i : ℕ) → i < at → Marked m2 i → Marked m i
      earlier i less on = sym (get_or-set_other m at i 1 0 (omega arith)) ∙ ap (λ l. slice_index l i) (sym p.is) ∙ sym (q.below i less) ∙ on
