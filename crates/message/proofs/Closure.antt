-- What is built from a set that taking apart does not leave is all that is generated from it.
use Rattle.std.proofs.Common.{◌⊎◌, T, inl, inr, ⊎_elim}
use Rattle.message.specs.Message.{Msg, agent, nonce, text, key, pair, seal}
use Rattle.message.specs.Generates.{Generates, known, paired, left, right, sealed, opened, Builds, member, pairing, sealing, Closed}
use Rattle.message.specs.Laws.{BuildingSuffices}

module _ (S : Msg → Type 0) where
  -- how a message can have been built, by its shape
  abbrev pub Made : Msg → Type 0
  Made (agent n) = S (agent n)
  Made (nonce n) = S (nonce n)
  Made (text n) = S (text n)
  Made (key k) = S (key k)
  Made (pair l r) = S (pair l r) ⊎ (Builds S l × Builds S r)
  Made (seal k m) = S (seal k m) ⊎ (S (key k) × Builds S m)

  member-made : (m : Msg) → S m → Made m
  member-made (agent n) h = h
  member-made (nonce n) h = h
  member-made (text n) h = h
  member-made (key k) h = h
  member-made (pair l r) h = inl h
  member-made (seal k m) h = inl h

  pub made : {m : Msg} → Builds S m → Made m
  made {m} (member h) = member-made m h
  made (pairing p q) = inr (p, q)
  made (sealing p q) = inr (made p, q)

  pub built-generated : {m : Msg} → Builds S m → Generates S m
  built-generated (member h) = known h
  built-generated (pairing p q) = paired (built-generated p) (built-generated q)
  built-generated (sealing p q) = sealed (built-generated p) (built-generated q)

  pub generated-built : Closed S → {m : Msg} → Generates S m → Builds S m
  generated-built h (known x) = member x
  generated-built h (paired p q) = pairing (generated-built h p) (generated-built h q)
  generated-built h (left {l = l} {r = r} p) = ⊎_elim (λ x. member (h.halves l r x).0) (λ x. x.0) (made (generated-built h p))
  generated-built h (right {l = l} {r = r} p) = ⊎_elim (λ x. member (h.halves l r x).1) (λ x. x.1) (made (generated-built h p))
  generated-built h (sealed p q) = sealing (generated-built h p) (generated-built h q)
  generated-built h (opened {k = k} {m = m} p q) = ⊎_elim (λ x. member (h.content k m x (made (generated-built h q)))) (λ x. x.1) (made (generated-built h p))

pub suffices : BuildingSuffices
suffices has closed m = (λ g. generated-built (λ x. T (has x)) closed g, λ b. built-generated (λ x. T (has x)) b)
