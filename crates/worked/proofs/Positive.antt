-- Which messages and events of the worked sheets are positive, whatever is changed.
use Rattle.std.proofs.Common.{◌≡◌, ℕ, zero, suc, true, List, [], ◌∷◌, Some, inl, inr, sym, refl, ap, subst, ◌∙◌, ⊎_elim}
use Rattle.std.specs.Prelude.{ℤ, pos}
use Rattle.std.proofs.lemmas.Bool.{false≢true}
use Rattle.std.proofs.lemmas.Option.{none-some, same_Some}
use Rattle.message.specs.declared.Atom.TheVariants.{Agent, Nonce, Text}
use Rattle.message.specs.Message.{Key, Msg, agent, key, key_of, nonce, pair, seal, shared, text}
use Rattle.model.specs.Sheet.{Ranked, Role, Sheet}
use Rattle.model.specs.Trees.{Term}
use Rattle.instances.specs.Actions.{Event}
use Rattle.instances.specs.Start.{Enemys}
use Rattle.instances.specs.Substitution.{message}
use Rattle.scale.specs.Scales.{positive, whole}
use Rattle.ranks.specs.Conditions.{CompletionNot, KnowledgePositive, SealsAgree}
use Rattle.ranks.specs.Ranks.{ListsEvent, Positive, PositiveEvent, Rank, free_values}
use Rattle.worked.specs.Silence.{answer, answer_lines, is_set, silence_with}

pub not_above : (v : ℤ) → v ≡ pos 0 → positive v ≡ true → ⊥
not_above v e up = false≢true (sym (ap positive e) ∙ up)

-- the message that the `seal` line lists
abbrev pub answer_message : Msg
answer_message = seal (shared 0 1) (pair (agent 0) (pair (nonce 0) (text 0)))

-- ---- whatever the sheet's ranks and second role

module _ (second : Role) (known : List Term) (key_rank : ℤ) (seals : List (Ranked Term)) (mark : ℤ) where
  abbrev S : Sheet
  S = silence_with second known key_rank seals mark

  agent_one : (n : ℕ) → Rank whole S (agent n) (pos 1)
  agent_one n = inr (λ e. let z : Some (key (shared 0 1)) ≡ Some (agent n) = e in cc, refl)

  nonce_one : (n : ℕ) → Rank whole S (nonce n) (pos 1)
  nonce_one n = inr (λ e. let z : Some (key (shared 0 1)) ≡ Some (nonce n) = e in cc, refl)

  text_one : (n : ℕ) → Rank whole S (text n) (pos 1)
  text_one n = inr (λ e. let z : Some (key (shared 0 1)) ≡ Some (text n) = e in cc, refl)

  pub asking_positive : (j c : ℕ) → Positive whole S (pair (agent j) (nonce c))
  asking_positive j c = (pos 1, (pos 1, pos 1, agent_one j, nonce_one c, refl), refl)

  content_one : (j c t : ℕ) → Rank whole S (pair (agent j) (pair (nonce c) (text t))) (pos 1)
  content_one j c t = (pos 1, pos 1, agent_one j, (pos 1, pos 1, nonce_one c, text_one t, refl), refl)

  pub content_positive : (j c t : ℕ) → Positive whole S (pair (agent j) (pair (nonce c) (text t)))
  content_positive j c t = (pos 1, content_one j c t, refl)

  other_key_positive : (a b : ℕ) → (key (shared 0 1) ≡ key (shared a b) → ⊥) → Positive whole S (key (shared a b))
  other_key_positive a b other = (pos 1, inr (λ e. other (same_Some (key (shared 0 1)) (key (shared a b)) e), refl), refl)

  G-honest : Enemys S 0 → ⊥
  G-honest e = false≢true (sym e)

  B-honest : Enemys S 1 → ⊥
  B-honest e = false≢true (sym e)

  -- an event that is not the completion
  pub other_event_positive : (e : Event) → (ListsEvent is_set e → ⊥) → PositiveEvent whole S e
  other_event_positive e other = (pos 1, inr (other, refl), refl)

  pub completion_not : mark ≡ pos 0 → CompletionNot whole S
  completion_not zero-mark e lists p = ⊎_elim (λ h. not_above p.0 (h.1 ∙ zero-mark) p.2) (λ h. h.0 lists) p.1

  pub completion_is : mark ≡ pos 1 → CompletionNot whole S → ⊥
  completion_is one none = none (record { word = is_set.word; atoms = Agent 1 ∷ Agent 0 ∷ Nonce 0 ∷ Text 0 ∷ [] }) refl (mark, inl (refl, refl), ap positive one)

  pub key_not : key_rank ≡ pos 0 → Positive whole S (key (shared 0 1)) → ⊥
  key_not none p = ⊎_elim (λ h. not_above p.0 (h.1 ∙ none) p.2) (λ h. h.0 refl) p.1

  pub key_is : key_rank ≡ pos 1 → Positive whole S (key (shared 0 1))
  key_is one = (key_rank, inl (refl, refl), ap positive one)

-- ---- where nothing is known beforehand

module _ (second : Role) (key_rank : ℤ) (seals : List (Ranked Term)) (mark : ℤ) where
  abbrev U : Sheet
  U = silence_with second [] key_rank seals mark

  pub knowledge_positive : KnowledgePositive whole U
  knowledge_positive m (inr told) = absurd (none-some told.1 told.2)
  knowledge_positive (agent n) (inl own) = (pos 1, agent_one second [] key_rank seals mark n, refl)
  knowledge_positive (nonce n) (inl own) = (pos 1, nonce_one second [] key_rank seals mark n, refl)
  knowledge_positive (text n) (inl own) = (pos 1, text_one second [] key_rank seals mark n, refl)
  knowledge_positive (key (shared a b)) (inl own) = other_key_positive second [] key_rank seals mark a b not-theirs
    where
      not-theirs : key (shared 0 1) ≡ key (shared a b) → ⊥
      not-theirs e =
          let is-a : 0 ≡ a = cc in
          let is-b : 1 ≡ b = cc in
          ⊎_elim
          (λ h. G-honest second [] key_rank seals mark (subst (Enemys U) (sym is-a) h))
          (λ h. B-honest second [] key_rank seals mark (subst (Enemys U) (sym is-b) h))
          own.1
  knowledge_positive (pair l r) (inl own) = absurd own
  knowledge_positive (seal k m) (inl own) = absurd own

-- ---- with the `seal` line, and without it

module _ (second : Role) (known : List Term) (key_rank : ℤ) (mark : ℤ) where
  abbrev W : Sheet
  W = silence_with second known key_rank answer_lines mark

  pub answer_not : Positive whole W answer_message → ⊥
  answer_not p = ⊎_elim (λ h. not_above p.0 h.1 p.2) (λ h. h.0 ([], tt, refl)) p.1

  -- another answer of the ground's
  pub other_answer_positive : (j c t : ℕ) → (answer_message ≡ seal (key_of 0 j) (pair (agent 0) (pair (nonce c) (text t))) → ⊥)
      → Positive whole W (seal (key_of 0 j) (pair (agent 0) (pair (nonce c) (text t))))
  other_answer_positive j c t other = (
    pos 1,
    inr (λ g. other (same_Some answer_message (seal (key_of 0 j) (pair (agent 0) (pair (nonce c) (text t)))) g.2), content_one second known key_rank answer_lines mark 0 c t),
    refl,
  )

  pub seals_agree : key_rank ≡ pos 0 → SealsAgree whole W
  seals_agree none zero l is vars each k m e first key-positive = absurd (key_not second known key_rank answer_lines mark none (subst (Positive whole W) same key-positive))
    where
      turned : Some answer_message ≡ Some (seal k m)
      turned = ap (λ (x : Ranked Term). message (free_values vars) x.what) (same_Some (record { rank = pos 0; what = answer }) l is) ∙ e

      same : key k ≡ key (shared 0 1)
      same = let t = turned in cc
  seals_agree none (suc i) l is vars each k m e first key-positive = absurd (none-some l is)

module _ (second : Role) (known : List Term) (key_rank : ℤ) (mark : ℤ) where
  pub no_seals_agree : SealsAgree whole (silence_with second known key_rank [] mark)
  no_seals_agree i l is vars each k m e first key-positive = absurd (none-some l is)

  -- a seal that no line lists
  pub unlisted_positive : (k : Key) (j c t : ℕ) → Positive whole (silence_with second known key_rank [] mark) (seal k (pair (agent j) (pair (nonce c) (text t))))
  unlisted_positive k j c t = (pos 1, content_one second known key_rank [] mark j c t, refl)
