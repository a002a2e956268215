-- What the enemy makes on the worked sheet, and what it can't.
use Rattle.std.proofs.Common.{◌≡◌, zero, suc, ◌≤◌, [], ◌∷◌, Contains, inl, inr, sym, refl, subst, ⊎_elim, arith}
use Rattle.std.proofs.lemmas.Bool.{false≢true}
use Rattle.std.proofs.lemmas.Option.{none-some}
use Rattle.message.specs.Generates.{Closed, Generates, known, opened}
use Rattle.message.specs.Message.{Key, Msg, key, nonce, pair, seal, shared}
use Rattle.message.proofs.Closure.{generated-built, made}
use Rattle.instances.specs.Start.{Start}
use Rattle.worked.specs.Silence.{silence}
use Rattle.worked.specs.Worked.{Hearing, sealed_key, sealed_nonce}

-- ---- from the start

start_closed : Closed (Start silence)
start_closed = record {
  halves = λ l r s. ⊎_elim (λ own. absurd own) (λ told. absurd (none-some told.1 told.2)) s;
  content = λ k m s q. ⊎_elim (λ own. absurd own) (λ told. absurd (none-some told.1 told.2)) s;
}

nonce-not-known : Start silence (nonce 0) → ⊥
nonce-not-known (inl own) = let h : 1 ≤ 0 = own.0 in omega arith
nonce-not-known (inr told) = none-some told.1 told.2

key-not-known : Start silence (key (shared 0 1)) → ⊥
key-not-known (inl own) = ⊎_elim (λ h. false≢true (sym h)) (λ h. false≢true (sym h)) own.1
key-not-known (inr told) = none-some told.1 told.2

pub stranger_made : Generates (Start silence) (nonce 1)
stranger_made = known (inl (omega arith, omega arith))

own_key : Start silence (key (shared 0 7))
own_key = inl ((omega arith, omega arith), inr refl)

pub own_key_made : Generates (Start silence) (key (shared 0 7))
own_key_made = known own_key

pub nonce_not_made : Generates (Start silence) (nonce 0) → ⊥
nonce_not_made g = nonce-not-known (made (Start silence) (generated-built (Start silence) start_closed g))

pub key_not_made : Generates (Start silence) (key (shared 0 1)) → ⊥
key_not_made g = key-not-known (made (Start silence) (generated-built (Start silence) start_closed g))

-- ---- with what it hears

abbrev Once : Msg → Type 0
Once = Hearing (sealed_nonce ∷ [])

-- what is among the one heard
heard_one : (m : Msg) → Contains (sealed_nonce ∷ []) m → sealed_nonce ≡ m
heard_one m (zero, lt, e) = e
heard_one m (suc k, lt, e) = absurd (omega arith)

once_key : Once (key (shared 0 1)) → ⊥
once_key (inl s) = key-not-known s
once_key (inr h) = let e : sealed_nonce ≡ key (shared 0 1) = heard_one (key (shared 0 1)) h in cc

once_nonce : Once (nonce 0) → ⊥
once_nonce (inl s) = nonce-not-known s
once_nonce (inr h) = let e : sealed_nonce ≡ nonce 0 = heard_one (nonce 0) h in cc

once_pair : (l r : Msg) → Once (pair l r) → ⊥
once_pair l r (inl s) = ⊎_elim (λ own. own) (λ told. none-some told.1 told.2) s
once_pair l r (inr h) = let e : sealed_nonce ≡ pair l r = heard_one (pair l r) h in cc

once_seal : (k : Key) (m : Msg) → Once (seal k m) → Once (key k) → ⊥
once_seal k m (inl s) q = ⊎_elim (λ own. own) (λ told. none-some told.1 told.2) s
once_seal k m (inr h) q =
    let e : sealed_nonce ≡ seal k m = heard_one (seal k m) h in
    let is-key : key k ≡ key (shared 0 1) = cc in
    once_key (subst Once is-key q)

once_closed : Closed Once
once_closed = record { halves = λ l r s. absurd (once_pair l r s); content = λ k m s q. absurd (once_seal k m s q) }

pub nonce_still_not_made : Generates (Hearing (sealed_nonce ∷ [])) (nonce 0) → ⊥
nonce_still_not_made g = once_nonce (made Once (generated-built Once once_closed g))

pub nonce_made : Generates (Hearing (sealed_nonce ∷ sealed_key ∷ [])) (nonce 0)
nonce_made = opened (known (inr (0, omega arith, refl))) (opened (known (inr (1, omega arith, refl))) (known (inl own_key)))
