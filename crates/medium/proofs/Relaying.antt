-- What a relay's taking does.
use Rattle.std.proofs.Common.{◌≡◌, ℕ, ◌+◌, ◌-◌, ◌<◌, ◌≤◌, Bool, Decides, take, List, [], ◌∷◌, ◌++◌, length, drop, sum_by, sym, ap, subst, ◌∙◌, arith}
use Rattle.std.proofs.lemmas.List.Elements.{All-contains, All-nil}
use Rattle.message.specs.Message.{Msg, Reads, wire}
use Rattle.message.proofs.Forms.{nonempty}
use Rattle.medium.specs.declared.relay.Relay.{Relay}
use Rattle.medium.specs.Media.{Declines, Offers}
use Rattle.medium.specs.Relays.{Takes, heard, relayed}
use Rattle.medium.specs.Single.{front_is, one_held}
use Rattle.medium.specs.Store.{Admits, Filled, Holds, IsWhole, Lies, Listed, Put, capacity, cost, laid}
use Rattle.medium.proofs.Storing.{length-laid, put_holds, put_lies, put_long}
use Rattle.sheet.specs.Kept.{contents_of}

pub whole_form : (bytes : List ℕ) (m : Msg) → Reads bytes m → IsWhole m
whole_form bytes m r = subst (λ b. Reads b m) (sym r.form) r

-- the bytes used are what the messages cost
pub used_cost : (used : ℕ) (area : List ℕ) (heard : List Msg) → Holds used area heard → sum_by cost heard ≡ used
used_cost used area heard h = sym (length-laid heard) ∙ h.long

-- The store after a message that was admitted is put behind it.
pub filled_more : (used : ℕ) (before after bytes : List ℕ) → Filled used before → Admits (capacity before) used bytes → Put used bytes before after → length after ≡ length before → Filled (used + (length bytes + 1)) after
filled_more used before after bytes f (m, r, room) put same =
    let whole = whole_form bytes m r in
    let long = ap length r.form in
    let more : used + (length bytes + 1) ≡ used + cost m = omega arith in
    let holds = put_holds used before after f.1 m f.2 whole (omega arith) (subst (λ b. Put used b before after) (sym r.form) put) in
    (omega (arith, same), f.1 ++ m ∷ [], subst (λ n. Holds n after (f.1 ++ m ∷ [])) (sym more) holds)

pub none_heard : (r : Relay) → r.used ≡ 0 → heard r ≡ []
unfolding heard
none_heard r none = one_held r.used r.area.now (heard r) [] r.filled.2 (record { whole = All-nil IsWhole; long = sym none; front = ap (λ n. drop n r.area.now) (sym none) })

pub no_room : (s : Relay) (bytes : List ℕ) → (Admits (capacity s.area.now) s.used bytes → ⊥) → Declines (relayed s) bytes
unfolding heard
no_room s bytes none m r room = none (m, r, omega (arith, room, used_cost s.used s.area.now s.filled.1 s.filled.2))

pub relay_takes : (s t : Relay) (bytes : List ℕ) → Admits (capacity s.area.now) s.used bytes → t.sheet.now ≡ s.sheet.now → t.used ≡ s.used + (length bytes + 1) → Put s.used bytes s.area.now t.area.now → t.area.ghost_name ≡ s.area.ghost_name → (m : Msg) × Reads bytes m × Takes s m t
unfolding heard
relay_takes s t bytes (m, r, room) sheet used put name =
    let whole = whole_form bytes m r in
    let within : s.used + cost m ≤ length s.area.now = omega arith in
    let bytes-put : Put s.used (wire m) s.area.now t.area.now = subst (λ b. Put s.used b s.area.now t.area.now) (sym r.form) put in
    let now-used : s.used + cost m ≡ t.used = omega (arith, ap length r.form) in
    let new = put_holds s.used s.area.now t.area.now s.filled.1 m s.filled.2 whole within bytes-put in
    let all : heard t ≡ heard s ++ m ∷ [] = one_held t.used t.area.now (heard t) (s.filled.1 ++ m ∷ []) t.filled.2 (subst (λ n. Holds n t.area.now (s.filled.1 ++ m ∷ [])) now-used new) in
    let lies : Lies (s.filled.1 ++ m ∷ []) s.area.now t.area.now = put_lies s.used s.area.now t.area.now s.filled.1 m s.filled.2 whole within bytes-put ∙ ap (λ k. laid (s.filled.1 ++ m ∷ []) ++ drop k s.area.now) (sym (put_long s.used s.area.now t.area.now s.filled.1 m s.filled.2 whole within bytes-put)) in (
      m,
      r,
      record {
        hears = record {
          space = omega (arith, used_cost s.used s.area.now s.filled.1 s.filled.2);
          sheet = ap contents_of sheet;
          heard = all;
        };
        area = subst (λ l. Lies l s.area.now t.area.now) (sym all) lies;
        same-area = name;
      },
    )

-- what is listed among the messages heard is what a relay offers
pub relay_offers : (s : Relay) (bytes : List ℕ) (answer : Bool) → ((heard : List Msg) → laid heard ≡ take (s.used - 0) (drop 0 s.area.now) → Decides answer (Listed heard bytes)) → Decides answer (Offers (relayed s) bytes)
unfolding heard
relay_offers s bytes answer listed =
    let whole : s.used - 0 ≡ s.used = omega arith in
    let all : take (s.used - 0) (drop 0 s.area.now) ≡ laid (heard s) = ap (λ n. take n s.area.now) whole ∙ front_is s.used s.area.now (heard s) s.filled.2 in
    let told = listed (heard s) (sym all) in (
      λ yes. let (m, has, e) = told.0 yes in (m, subst (λ b. Reads b m) e (All-contains IsWhole (heard s) m s.filled.2.whole has), has),
      λ (m, r, has). told.1 (m, has, r.form),
    )

-- a message that was admitted has some bytes
pub some_bytes : (space used : ℕ) (bytes : List ℕ) → Admits space used bytes → 0 < length bytes
some_bytes space used bytes (m, r, room) = omega (arith, ap length r.form, nonempty m)

pub admits_room : (space used : ℕ) (bytes : List ℕ) → Admits space used bytes → used + length bytes + 1 ≤ space
admits_room space used bytes (m, r, room) = omega (arith, ap length r.form, room)
