-- The verdicts of the worked sheets are right.
use Rattle.std.proofs.Common.{◌≡◌, ℕ, zero, suc, ◌<◌, List, [], ◌∷◌, Some, Option, codes, inl, inr, refl, ap, subst, ◌∙◌, arith}
use Rattle.std.specs.Prelude.{pos}
use Rattle.std.proofs.lemmas.Bool.{false≢true}
use Rattle.std.proofs.lemmas.Option.{none-some}
use Rattle.message.specs.declared.Atom.{Atom}
use Rattle.message.specs.declared.Atom.TheVariants.{Agent, Nonce, Text}
use Rattle.message.specs.Message.{Msg, agent, key, nonce, pair, seal, shared, text}
use Rattle.model.specs.Sheet.{Role}
use Rattle.model.specs.Trees as Trees
use Rattle.instances.specs.Actions.{Event, does, receives, sends, signals}
use Rattle.instances.specs.Instances.{Allowed, Instance, played}
use Rattle.scale.specs.Scales.{whole}
use Rattle.search.specs.Rows.{Less}
use Rattle.ranks.specs.Ranks.{ListsEvent, Positive}
use Rattle.checker.specs.Verdicts.{BadSeal, BadStep, Judges, accepted, acted, completed, known, numbers, sealed}
use Rattle.checker.proofs.BadSteps.{Each, each_declared, each_whole, none_maintain}
use Rattle.worked.specs.Silence.{G, B, answer, answer_lines, answered_early, bus, completion_positive, ground, hasty, key_known, key_positive, silence, silence_with, without_seal}
use Rattle.worked.proofs.Positive.{answer_not, asking_positive, completion_is, completion_not, content_positive, key_is, key_not, knowledge_positive, no_seals_agree, seals_agree, unlisted_positive}
use Rattle.worked.proofs.Steps.{bus_bad, bus_steps, ground_bad, ground_steps, hasty_steps, of_bus, of_ground, setting, told}

less_not : (xs : List ℕ) → Less xs xs → ⊥
less_not [] l = l
less_not (x ∷ xs) (inl l) = omega arith
less_not (x ∷ xs) (inr l) = less_not xs l.1

-- ---- the bus, where the `seal` line stands

module _ (second : Role) where
  -- The bus does nothing bad: what it has to have received is not positive.
  pub bus_none : (k a : ℕ) (values : List (Option Atom)) → BadStep whole (silence_with second [] (pos 0) answer_lines (pos 0)) 0 k a values → ⊥
  bus_none k a values bad =
      let (t, n, is-a, is, f) = bus_bad second [] (pos 0) answer_lines (pos 0) k a values bad in
      let (is-k, is-t, is-n) = bus_steps second [] (pos 0) answer_lines (pos 0) t n k f in
      answer_not second [] (pos 0) (pos 0)
      (subst (λ (x : ℕ). Positive whole (silence_with second [] (pos 0) answer_lines (pos 0)) (seal (shared 0 1) (pair (agent 0) (pair (nonce x) (text 0))))) is-n
      (subst (λ (x : ℕ). Positive whole (silence_with second [] (pos 0) answer_lines (pos 0)) (seal (shared 0 1) (pair (agent 0) (pair (nonce n) (text x))))) is-t
      (f.all-received 1 (seal (shared 0 1) (pair (agent 0) (pair (nonce n) (text t)))) (omega arith) refl)))

-- ---- the sheet as it stands

no_bad_step : (r k a : ℕ) (values : List (Option Atom)) → BadStep whole silence r k a values → ⊥
no_bad_step zero k a values bad = bus_none ground k a values bad
no_bad_step (suc zero) k a values bad =
    let (j, c, t, is-a, is, f) = ground_bad [] (pos 0) (pos 0) ground.steps k a values bad in
    ground_steps ground [] (pos 0) (pos 0) j c t k f
no_bad_step (suc (suc r)) k a values bad = none-some bad.role bad.is-role

pub as_it_stands : Judges whole silence accepted
as_it_stands = record {
  first = knowledge_positive ground (pos 0) answer_lines (pos 0);
  second = seals_agree ground [] (pos 0) (pos 0) refl;
  third = completion_not ground [] (pos 0) answer_lines (pos 0) refl;
  fourth = none_maintain whole silence no_bad_step;
}

-- ---- the ground answers before it signals

asked_early : Instance answered_early 1 hasty 0 (of_ground 1 0 0)
asked_early = record {
  is-honest = refl;
  plays = refl;
  whole = each_whole (Allowed answered_early 1 0) hasty.variables (of_ground 1 0 0) each;
  declared = each_declared (Allowed answered_early 1 0) hasty.variables (of_ground 1 0 0) each;
}
  where
    each : Each (Allowed answered_early 1 0) hasty.variables (of_ground 1 0 0)
    each = ((Agent 1, refl, (1, omega arith, refl)), ((Nonce 0, refl, (0, omega arith, refl)), ((Text 0, refl, (0, omega arith, refl)), tt)))

early_step : BadStep whole answered_early 1 1 0 (of_ground 1 0 0)
early_step = record {
  role = hasty;
  is-role = refl;
  is-instance = asked_early;
  one-each = refl;
  action = sends (seal (shared 0 1) (pair (agent 0) (pair (nonce 0) (text 0))));
  is-action = refl;
  not-needed = unneeded;
  all-received = got;
  fails = answer_not hasty [] (pos 0) (pos 0);
}
  where
    unneeded : (j : ℕ) (e : Event) → j < 2 → does hasty (played 0 (of_ground 1 0 0)) j ≡ Some (signals e) → ListsEvent answered_early.claim.needed e → ⊥
    unneeded zero e lt is lists = let z : Some (receives (pair (agent 1) (nonce 0))) ≡ Some (signals e) = is in cc
    unneeded (suc zero) e lt is lists = let z : Some (sends (seal (shared 0 1) (pair (agent 0) (pair (nonce 0) (text 0))))) ≡ Some (signals e) = is in cc
    unneeded (suc (suc j)) e lt is lists = omega arith

    got : (j : ℕ) (m : Msg) → j < 1 → does hasty (played 0 (of_ground 1 0 0)) j ≡ Some (receives m) → Positive whole answered_early m
    got zero m lt is =
        let z : Some (receives (pair (agent 1) (nonce 0))) ≡ Some (receives m) = is in
        let e : pair (agent 1) (nonce 0) ≡ m = cc in
        subst (Positive whole answered_early) e (asking_positive hasty [] (pos 0) answer_lines (pos 0) 1 0)
    got (suc j) m lt is = absurd (omega arith)

early_bad : (k a : ℕ) (values : List (Option Atom)) → BadStep whole answered_early 1 k a values → (k ≡ 1) × (a ≡ 0) × (values ≡ of_ground 1 0 0)
early_bad k a values bad =
    let (j, c, t, is-a, is, f) = ground_bad [] (pos 0) (pos 0) hasty.steps k a values bad in
    let (is-k, is-j, is-c, is-t) = hasty_steps hasty [] (pos 0) (pos 0) j c t k f in
    (is-k, is-a, is ∙ (λ i. of_ground (is-j i) (is-c i) (is-t i)))

pub answered_early_judged : Judges whole answered_early (acted 1 1 0 (of_ground 1 0 0))
answered_early_judged = record {
  knowledge = knowledge_positive hasty (pos 0) answer_lines (pos 0);
  agree = seals_agree hasty [] (pos 0) (pos 0) refl;
  completion = completion_not hasty [] (pos 0) answer_lines (pos 0) refl;
  is = early_step;
  first-role = first-role;
  first-step = λ j b others lt bad. let (is-k, is-a, is) = early_bad j b others bad in omega arith;
  least = λ b others bad less.
      let (is-k, is-a, is) = early_bad 1 b others bad in
      less_not (0 ∷ 1 ∷ 0 ∷ 0 ∷ [])
      (subst (λ (x : ℕ). Less (x ∷ 1 ∷ 0 ∷ 0 ∷ []) (0 ∷ 1 ∷ 0 ∷ 0 ∷ [])) is-a (subst (λ (os : List (Option Atom)). Less (b ∷ numbers os) (0 ∷ 1 ∷ 0 ∷ 0 ∷ [])) is less));
}
  where
    first-role : (q j b : ℕ) (others : List (Option Atom)) → q < 1 → BadStep whole answered_early q j b others → ⊥
    first-role zero j b others lt bad = bus_none hasty j b others bad
    first-role (suc q) j b others lt bad = omega arith

-- ---- the key is positive

pub key_positive_judged : Judges whole key_positive (sealed 0 [])
key_positive_judged = record {
  knowledge = knowledge_positive ground (pos 1) answer_lines (pos 0);
  is = record {
    line = record { rank = pos 0; what = answer };
    is-line = refl;
    each = tt;
    under = shared 0 1;
    content = pair (agent 0) (pair (nonce 0) (text 0));
    is-seal = refl;
    first = λ j l lt is gives. omega arith;
    key-positive = key_is ground [] (pos 1) answer_lines (pos 0) refl;
    unlike = λ alike. false≢true (alike.1 (content_positive ground [] (pos 1) answer_lines (pos 0) 0 0 0));
  };
  first = λ j others lt bad. omega arith;
  least = least;
}
  where
    least : (others : List (Option Atom)) → BadSeal whole key_positive 0 others → Less (numbers others) [] → ⊥
    least [] bad less = less
    least (o ∷ others) bad less = bad.each

-- ---- the completion is positive

pub completion_positive_judged : Judges whole completion_positive completed
completion_positive_judged = (
  knowledge_positive ground (pos 0) answer_lines (pos 1),
  seals_agree ground [] (pos 0) (pos 1) refl,
  completion_is ground [] (pos 0) answer_lines (pos 1) refl,
)

-- ---- there is no `seal` line

set_freely : Instance without_seal 0 bus 1 (of_bus 0 0)
set_freely = record {
  is-honest = refl;
  plays = refl;
  whole = each_whole (Allowed without_seal 0 1) bus.variables (of_bus 0 0) each;
  declared = each_declared (Allowed without_seal 0 1) bus.variables (of_bus 0 0) each;
}
  where
    each : Each (Allowed without_seal 0 1) bus.variables (of_bus 0 0)
    each = (
      (Text 0, refl, (0, omega arith, refl)),
      ((Nonce 0, refl, (0, omega arith, refl, inr (record { line = record { name = codes "na"; agent = 1; role = 0; variable = 1 }; is-line = refl; agent = refl; role = refl; variable = refl }))), tt),
    )

free_step : BadStep whole without_seal 0 2 1 (of_bus 0 0)
free_step = record {
  role = bus;
  is-role = refl;
  is-instance = set_freely;
  one-each = refl;
  action = signals (setting 0 0);
  is-action = refl;
  not-needed = unneeded;
  all-received = got;
  fails = completion_not ground [] (pos 0) [] (pos 0) refl (setting 0 0) refl;
}
  where
    unneeded : (j : ℕ) (e : Event) → j < 3 → does bus (played 1 (of_bus 0 0)) j ≡ Some (signals e) → ListsEvent without_seal.claim.needed e → ⊥
    unneeded zero e lt is lists = let z : Some (sends (pair (agent 1) (nonce 0))) ≡ Some (signals e) = is in cc
    unneeded (suc zero) e lt is lists = let z : Some (receives (seal (shared 0 1) (pair (agent 0) (pair (nonce 0) (text 0))))) ≡ Some (signals e) = is in cc
    unneeded (suc (suc zero)) e lt is lists =
        let y : Some (signals (setting 0 0)) ≡ Some (signals e) = is in
        let x : Some (told 1 0 0) ≡ Some e = lists in
        let same : setting 0 0 ≡ told 1 0 0 = cc in
        let w : codes "set" ≡ codes "told" = ap (λ (d : Event). d.word) same in
        let z : ◌≡◌ {A = ℕ} 115 116 = cc in
        omega arith
    unneeded (suc (suc (suc j))) e lt is lists = omega arith

    got : (j : ℕ) (m : Msg) → j < 2 → does bus (played 1 (of_bus 0 0)) j ≡ Some (receives m) → Positive whole without_seal m
    got zero m lt is = let z : Some (sends (pair (agent 1) (nonce 0))) ≡ Some (receives m) = is in absurd cc
    got (suc zero) m lt is =
        let z : Some (receives (seal (shared 0 1) (pair (agent 0) (pair (nonce 0) (text 0))))) ≡ Some (receives m) = is in
        let e : seal (shared 0 1) (pair (agent 0) (pair (nonce 0) (text 0))) ≡ m = cc in
        subst (Positive whole without_seal) e (unlisted_positive ground [] (pos 0) (pos 0) (shared 0 1) 0 0 0)
    got (suc (suc j)) m lt is = absurd (omega arith)

free_bad : (k a : ℕ) (values : List (Option Atom)) → BadStep whole without_seal 0 k a values → (k ≡ 2) × (a ≡ 1) × (values ≡ of_bus 0 0)
free_bad k a values bad =
    let (t, n, is-a, is, f) = bus_bad ground [] (pos 0) [] (pos 0) k a values bad in
    let (is-k, is-t, is-n) = bus_steps ground [] (pos 0) [] (pos 0) t n k f in
    (is-k, is-a, is ∙ (λ i. of_bus (is-t i) (is-n i)))

pub without_seal_judged : Judges whole without_seal (acted 0 2 1 (of_bus 0 0))
without_seal_judged = record {
  knowledge = knowledge_positive ground (pos 0) [] (pos 0);
  agree = no_seals_agree ground [] (pos 0) (pos 0);
  completion = completion_not ground [] (pos 0) [] (pos 0) refl;
  is = free_step;
  first-role = λ q j b others lt bad. omega arith;
  first-step = λ j b others lt bad. let (is-k, is-a, is) = free_bad j b others bad in omega arith;
  least = λ b others bad less.
      let (is-k, is-a, is) = free_bad 2 b others bad in
      less_not (1 ∷ 0 ∷ 0 ∷ [])
      (subst (λ (x : ℕ). Less (x ∷ 0 ∷ 0 ∷ []) (1 ∷ 0 ∷ 0 ∷ [])) is-a (subst (λ (os : List (Option Atom)). Less (b ∷ numbers os) (1 ∷ 0 ∷ 0 ∷ [])) is less));
}

-- ---- the key is known

pub key_known_judged : Judges whole key_known (known 0)
key_known_judged = record {
  is = (Trees.key G B, refl, (key (shared 0 1), refl, key_not ground (Trees.key G B ∷ []) (pos 0) answer_lines (pos 0) refl));
  none-before = λ j lt bad. omega arith;
}
