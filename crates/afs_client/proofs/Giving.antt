-- A change of sites that is given up: its lock is released, whatever is answered.
use Rattle.std.proofs.Common.{◌≡◌, ℕ, ◌⊎◌, List, [], ◌∷◌, ◌++◌, length, Result, Ok, Err, refl, sym, ap, ◌∙◌, subst, append_assoc, inl, inr}
use Rattle.std.proofs.lemmas.List.{append-nil}
use Rattle.ubik_types.specs.declared.hosts.Host.{Host}
use Rattle.io_base.specs.declared.links.Exchange.{Exchange}
use Rattle.tool_base.specs.Course.{◌>>=◌, Asker, Course, Walk, after_result, asks_in, behind, gives, stops}
use Rattle.tool_base.specs.declared.stops.Refusal.{Refusal}
use Rattle.tool_base.specs.declared.stops.Stop.{Stop}
use Rattle.tool_base.specs.declared.stops.Stop.TheVariants.{Refused, NoServer, OutcomeUnknown, WriteFault, NoMemory}
use Rattle.vos_tool.specs.Changing.{after_replace, attempted, attempts, gives_up}
use Rattle.vos_tool.specs.Locking.{releases_lock}
use Rattle.afs_client.specs.Causes.{RefusalCause, Served}
use Rattle.afs_client.specs.Questions.{Database}
use Rattle.afs_client.proofs.Sounding.{Any, EndCause, EndsWell, Front, GivenMore, Sound, Went, any_post, bits_front, both_made, front_behind, front_of, served_back, served_bits, served_front, sound_gives, went_behind}

-- a walk that goes on however it ended
abbrev pub attempted_walk : {A : Type 0} → Walk A → Walk (Result A Stop)
attempted_walk w = record { asks = w.asks; text = w.text; result = attempted w.result; asker = w.asker; rest = w.rest }

-- a refusal stays one where more was exchanged later
refused_before : {C : Type 0} (d : Database C) (made later : List Exchange) (why : Refusal) → RefusalCause d made why
    → RefusalCause d (made ++ later) why
refused_before d made later why (inl owned) = inl owned
refused_before d made later why (inr c) = inr (record {
  call = c.call;
  number = c.number;
  earlier = c.earlier;
  asked = c.asked;
  later = c.later ++ later;
  made_is = ap (λ (es : List Exchange). es ++ later) c.made_is ∙ append_assoc c.earlier (c.asked ∷ c.later) later;
  carries = c.carries;
  refused = c.refused;
})

-- How a change was given up: as refused, or memory or a sink failed before.
abbrev pub GaveUp : {C : Type 0} → Database C → Type 0 → List Host → List Exchange → Refusal → Walk (Unit {0}) → Type 0
GaveUp d given hosts made why w =
    (w.result ≡ Err (Refused why))
    ⊎ ((w.result ≡ Err NoMemory) ⊎ ((w.result ≡ Err WriteFault) × (given → w.asks ≡ asks_in made → Served d hosts made → ⊥)))

abbrev pub gave_up_walk : Walk (Unit {0}) → Refusal → Result (Unit {0}) Stop → Walk (Unit {0})
gave_up_walk w why r = after_result (attempted_walk w) (λ any. stops (Refused why)) (attempted r)

-- a walk behind which nothing is asked
front_still : {A B : Type 0} (asker : Asker) (es made : List Exchange) (w : Walk A) (r : Result B Stop) → Front asker es made w
    → Front asker es made (behind w.asks w.text (record { asks = []; text = []; result = r; asker = w.asker; rest = w.rest }))
front_still asker es made w r front =
    record { split = front.split; counts = ap length (append-nil w.asks) ∙ front.counts; stays = front.stays }

-- the same walk with another end
front_as : {A B : Type 0} (asker : Asker) (es made : List Exchange) (w : Walk A) (r : Result B Stop) → Front asker es made w
    → Front asker es made (record { asks = w.asks; text = w.text; result = r; asker = w.asker; rest = w.rest })
front_as asker es made w r front = record { split = front.split; counts = front.counts; stays = front.stays }

pub record GivenUp {C : Type 0} (d : Database C) (given : Type 0) (asker : Asker) (es made : List Exchange) (why : Refusal)
    (w : Walk (Unit {0})) : Type 0 where
  pub front : Front asker es made w
  pub gave : GaveUp d given asker.hosts made why w

gave_up : {C : Type 0} (d : Database C) (given : Type 0) (asker : Asker) (es : List Exchange) (w : Walk (Unit {0}))
    → (went : Went d given Any asker es w) → (why : Refusal) (r : Result (Unit {0}) Stop) → w.result ≡ r
    → GivenUp d given asker es went.made why (gave_up_walk w why r)
gave_up d given asker es w went why (Ok x) is =
    record { front = front_still asker es went.made w (Err (Refused why)) (front_of went); gave = inl refl }
gave_up d given asker es w went why (Err (Refused other)) is =
    record { front = front_still asker es went.made w (Err (Refused why)) (front_of went); gave = inl refl }
gave_up d given asker es w went why (Err NoServer) is =
    record { front = front_still asker es went.made w (Err (Refused why)) (front_of went); gave = inl refl }
gave_up d given asker es w went why (Err OutcomeUnknown) is =
    record { front = front_still asker es went.made w (Err (Refused why)) (front_of went); gave = inl refl }
gave_up d given asker es w went why (Err WriteFault) is = record {
  front = front_as asker es went.made w (Err WriteFault) (front_of went);
  gave = inr (inr (refl, λ g eq served. subst (λ (r : Result (Unit {0}) Stop). EndsWell d.own r) is (went.well g eq served)));
}
gave_up d given asker es w went why (Err NoMemory) is =
    record { front = front_as asker es went.made w (Err NoMemory) (front_of went); gave = inr (inl refl) }

gave_cause : {C : Type 0} (d : Database C) (given before : Type 0) (hosts all : List Host) (made whole : List Exchange) (why : Refusal)
    (w : Walk (Unit {0}))
    → GaveUp d given hosts made why w → RefusalCause d whole why → EndCause d before all whole w.result
gave_cause d given before hosts all made whole why w (inl is) cause =
    subst (λ (r : Result (Unit {0}) Stop). EndCause d before all whole r) (sym is) cause
gave_cause d given before hosts all made whole why w (inr (inl is)) cause =
    subst (λ (r : Result (Unit {0}) Stop). EndCause d before all whole r) (sym is) tt
gave_cause d given before hosts all made whole why w (inr (inr (is, never))) cause =
    subst (λ (r : Result (Unit {0}) Stop). EndCause d before all whole r) (sym is) tt

gave_well : {C : Type 0} (d : Database C) (given : Type 0) (hosts : List Host) (made : List Exchange) (why : Refusal) (w : Walk (Unit {0}))
    → GaveUp d given hosts made why w → why ≡ d.own → given → w.asks ≡ asks_in made → Served d hosts made → EndsWell d.own w.result
gave_well d given hosts made why w (inl is) owned g eq served = subst (λ (r : Result (Unit {0}) Stop). EndsWell d.own r) (sym is) owned
gave_well d given hosts made why w (inr (inl is)) owned g eq served = subst (λ (r : Result (Unit {0}) Stop). EndsWell d.own r) (sym is) tt
gave_well d given hosts made why w (inr (inr (is, never))) owned g eq served = absurd (never g eq served)

-- given up for the command's own refusal
pub sound_gives_up : {C : Type 0} (d : Database C) (given : Type 0) (id : ℕ) (why : Refusal) → why ≡ d.own
    → Sound d given Any (releases_lock id) → Sound d given Any (gives_up id why)
unfolding gives_up attempts ◌>>=◌
sound_gives_up d given id why owned release asker es =
    let went = release asker es in
    let done : GivenUp d given asker es went.made why (gives_up id why asker es)
    = gave_up d given asker es (releases_lock id asker es) went why (releases_lock id asker es).result refl in
    record {
      made = went.made;
      split = done.front.split;
      counts = done.front.counts;
      stays = done.front.stays;
      cause =
          λ eq. gave_cause d given given asker.hosts asker.hosts went.made went.made why (gives_up id why asker es) done.gave (inl owned);
      well = λ g eq served. gave_well d given asker.hosts went.made why (gives_up id why asker es) done.gave owned g eq served;
      post = λ g eq bits. any_post _;
    }

stopped : {C : Type 0} (d : Database C) (given : Type 0) (asker : Asker) (es : List Exchange) (w : Walk (Unit {0}))
    → Went d given Any asker es w → (why : Stop) → w.result ≡ Err why
    → Went d given Any asker es (behind w.asks w.text (stops {A = Unit {0}} why w.asker w.rest))
stopped d given asker es w went why is = record {
  made = went.made;
  split = went.split;
  counts = ap length (append-nil w.asks) ∙ went.counts;
  stays = went.stays;
  cause =
      λ eq. subst (λ (r : Result (Unit {0}) Stop). EndCause d given asker.hosts went.made r) is (went.cause (sym (append-nil w.asks) ∙ eq));
  well = λ g eq served. subst (λ (r : Result (Unit {0}) Stop). EndsWell d.own r) is (went.well g (sym (append-nil w.asks) ∙ eq) served);
  post = λ g eq bits. tt;
}

abbrev pub left_walk : Walk (Unit {0}) → Stop → Walk (Unit {0})
left_walk w why = record { asks = w.asks; text = w.text; result = Err why; asker = w.asker; rest = w.rest }

left_off : {C : Type 0} (d : Database C) (given : Type 0) (asker : Asker) (es : List Exchange) (w : Walk (Unit {0}))
    → Went d given Any asker es w → (why : Stop) → w.result ≡ Err why → Went d given Any asker es (left_walk w why)
left_off d given asker es w went why is = record {
  made = went.made;
  split = went.split;
  counts = went.counts;
  stays = went.stays;
  cause = λ eq. subst (λ (r : Result (Unit {0}) Stop). EndCause d given asker.hosts went.made r) is (went.cause eq);
  well = λ g eq served. subst (λ (r : Result (Unit {0}) Stop). EndsWell d.own r) is (went.well g eq served);
  post = λ g eq bits. tt;
}

-- what follows a replacement that was asked
replaced : {C : Type 0} (d : Database C) (given : Type 0) (id : ℕ) (asker : Asker) (es : List Exchange) (w : Walk (Unit {0}))
    → ((more : Type 0) → Sound d more Any (releases_lock id)) → Went d given Any asker es w → (r : Result (Unit {0}) Stop) → w.result ≡ r
    → Went d given Any asker es (after_result (attempted_walk w) (after_replace id) (attempted r))
unfolding gives_up attempts ◌>>=◌
replaced d given id asker es w release went (Ok x) is =
    went_behind d given Any asker es went.made w (gives x w.asker w.rest) (front_of went)
    (sound_gives d (GivenMore d given went.made w) Any x (λ g. tt) w.asker w.rest)
replaced d given id asker es w release went (Err (Refused why)) is =
    let more : Type 0 = GivenMore d given went.made w in
    let second = release more w.asker w.rest in
    let walk : Walk (Unit {0}) = gives_up id why w.asker w.rest in
    let done : GivenUp d more w.asker w.rest second.made why walk
    = gave_up d more w.asker w.rest (releases_lock id w.asker w.rest) second why (releases_lock id w.asker w.rest).result refl in
    let both = front_behind asker es went.made second.made w walk (front_of went) done.front in
    record {
      made = went.made ++ second.made;
      split = both.split;
      counts = both.counts;
      stays = both.stays;
      cause = λ eq. gave_cause d more given w.asker.hosts asker.hosts second.made (went.made ++ second.made) why walk done.gave
          (refused_before d went.made second.made why
          (subst (λ (r : Result (Unit {0}) Stop). EndCause d given asker.hosts went.made r) is
          (went.cause (both_made w.asks walk.asks went.made second.made went.counts eq).0)));
      well = λ g eq served.
          let parts = both_made w.asks walk.asks went.made second.made went.counts eq in
          let bits = bits_front d.has_bits went.made second.made (served_bits d asker.hosts (went.made ++ second.made) served) in
          gave_well d more w.asker.hosts second.made why walk done.gave
          (subst (λ (r : Result (Unit {0}) Stop). EndsWell d.own r) is
          (went.well g parts.0 (served_front d asker.hosts went.made second.made served)))
          (g, parts.0, bits) parts.1
          (subst (λ (hosts : List Host). Served d hosts second.made) (sym went.stays)
          (served_back d asker.hosts went.made second.made served));
      post = λ g eq bits. any_post _;
    }
replaced d given id asker es w release went (Err NoServer) is = stopped d given asker es w went NoServer is
replaced d given id asker es w release went (Err OutcomeUnknown) is = stopped d given asker es w went OutcomeUnknown is
replaced d given id asker es w release went (Err WriteFault) is = left_off d given asker es w went WriteFault is
replaced d given id asker es w release went (Err NoMemory) is = left_off d given asker es w went NoMemory is

-- a replacement that is given up where it is refused
pub sound_replacing : {C : Type 0} (d : Database C) (given : Type 0) (id : ℕ) (m : Course (Unit {0}))
    → Sound d given Any m → ((more : Type 0) → Sound d more Any (releases_lock id))
    → Sound d given Any (attempts m >>= λ end. after_replace id end)
unfolding attempts ◌>>=◌
sound_replacing d given id m sound release asker es =
    replaced d given id asker es (m asker es) release (sound asker es) (m asker es).result refl
