-- What each move keeps, each step of a server keeps: one lemma for each rule and each kind of packet.
use Rattle.std.proofs.Common.{Bool, true, false, cond, ◌==◌, ◌≡◌, inl, inr, ℕ, List, [], ◌∷◌, ◌++◌, length, refl, sym, ap}
use Rattle.std.proofs.Common.{subst, ◌∙◌, append_assoc}
use Rattle.std.proofs.lemmas.Bool.{cond_both}
use Rattle.std.specs.Prelude.{Option, Some, None, nat_le}
use Rattle.lock_table.specs.declared.tables.TheConstants.{MAX_WAITING}
use Rattle.ubik_types.specs.declared.images.Change.{Change}
use Rattle.ubik_types.specs.declared.versions.TheConstants.{MAX_COUNTER}
use Rattle.ubik_types.specs.declared.versions.Version.{Version}
use Rattle.ubik_types.specs.Lease.{is_in_lease}
use Rattle.ubik_types.specs.Logged.{too_large}
use Rattle.ubik_types.specs.Phase.{Polled, Spread, PhaseRecord, NoPhase, Poll, Fetch, Relabel, Send, Ready}
use Rattle.ubik_types.specs.Quorum.{is_majority}
use Rattle.ubik_types.specs.Version.{version_lt}
use Rattle.ubik_types.specs.Votes.{VoteState, sync_heard}
use Rattle.ubik_calls.specs.declared.replies.Reply.{Reply}
use Rattle.ubik_calls.specs.declared.replies.Reply.TheVariants as reply
use Rattle.xdr_base.specs.ChangeText.{text_of}
use Rattle.db_image.specs.declared.services.CallReply.{CallReply}
use Rattle.db_image.specs.declared.services.CallReply.TheVariants as call_reply
use Rattle.db_image.specs.Database.{Database, changes_of}
use Rattle.cell_model.specs.Asks.{read_reply, read, write_asked, served, allows_reads, not_served, asked_elsewhere, asked_as}
use Rattle.cell_model.specs.Book.{Book, BookVersion, entered, with_version}
use Rattle.cell_model.specs.Durable.{Made, Committed, version_after}
use Rattle.cell_model.specs.Evaluating.{always}
use Rattle.cell_model.specs.KeptLaws.{IsReplyOf, IsUngiven}
use Rattle.cell_model.specs.Node.{Server, Flight, Waiting}
use Rattle.cell_model.specs.Polls.{new_poll, polling}
use Rattle.cell_model.specs.World.{entries_from}
use Rattle.cell_model.specs.Step.{Member, cell_size, Basis, Announced_image, Beacon_image, Commit_on, Evaluation, replying, Shown, Stepped}
use Rattle.cell_model.specs.Step.{quiet, showing, followed}
use Rattle.cell_model.specs.Step.{leased, is_ready, told_version, with_phase, is_short, short_after, announcing, refusing}
use Rattle.cell_model.specs.Writes.{announced_image, next_version, flight_of, own_write_begun, own_commit, ended_write}
use Rattle.cell_model.specs.Writes.{flight_settled, settled_in, settled, written_in, written_changes, written_small, written_within, turned}
use Rattle.cell_model.specs.Writes.{image_before, answered_on, write_turn, is_free, next_turns, settled_with_turns}
use Rattle.cell_laws.proofs.Parts.{no}
use Rattle.cell_pages.specs.Moves.{transaction_of}
use Rattle.cell_pages.specs.Images.{IsImageOf}
use Rattle.cell_pages.specs.Parts.{AtMost, KeptLeadsOn}
use Rattle.cell_pages.specs.Passes.{is_held}
use Rattle.cell_pages.proofs.Versions.{lt_of_next, at_most_same}
use Rattle.cell_orders.specs.Histories.{Stand, stand_of, History, announced_with, with_book, after, IsBeside, IsServing, IsNumbered}
use Rattle.cell_orders.specs.Histories.{AllFit}
use Rattle.cell_orders.specs.Acknowledged.{IsAnnounced, IsLevel, IsMade, IsFlown, FlightMade, IsOkBy, AllOks}
use Rattle.cell_orders.specs.Asked.{AllWait, CallsKnown, AllCalled}
use Rattle.cell_orders.specs.OrderMoves.{OrderMoves}
use Rattle.cell_orders.specs.Orders.{IsLast}
use Rattle.cell_orders.specs.Served.{LeavesBlocks, IsNamed, EndsIn, Beyond, IsBeyond, IsServedReply, AllServed}
use Rattle.cell_orders.proofs.Orderings.{at_most_then}
use Rattle.cell_orders.proofs.Calling.{fits_called, called_append, none_called, wait_more}
use Rattle.cell_orders.proofs.Serving.{settled_pure, reads_leave, entered_newer, made_beyond}
use Rattle.cell_orders.proofs.Serving.{image_beyond, image_before_commit, image_of_commit, rising_most, last_told}
use Rattle.cell_orders.proofs.Serving.{since_with, since_with_ends, named_later, named_with, served_append, fits_served}
use Rattle.cell_orders.proofs.Telling.{oks_append, fits_oks, oks_more, entered_made, announced_more, Rising, rising_append, after_both}
use Rattle.cell_orders.proofs.Telling.{write_fits, beside_ok, each_fits, waiting_fit}
use Rattle.cell_orders.proofs.Standing.{allowed}
use Rattle.cell_orders.proofs.Standing.{free_held, free_ready, free_none}
use Rattle.cell_orders.proofs.Standing.{level_idle, level_same, level_at, none_made}

module _ (db : Database) (m : Member) (now : ℕ) (starts : List (Option ℕ)) (Called : ℕ → List ℕ → Type 0) (Asked : ℕ → ℕ → Type 0)
    (Answered : ℕ → ℕ → Version → Type 0) (Kept : ℕ → Version → Type 0) (I : History → Stand → Type 0)
    (moves : OrderMoves m now (is_in_lease (cell_size m) starts now) Asked Answered Kept I) where
  abbrev pub in_lease : Bool
  in_lease = is_in_lease (cell_size m) starts now

  abbrev pub Lease : Type 0
  Lease = is_in_lease (cell_size m) starts now ≡ true

  -- the server in the midst of a step: a phase is held in the lease alone, no start was counted since the step began, and a kept write
  -- leads on, and a write is in flight in Ready alone
  pub record Fit (h : History) (s : Server) : Type 0 where
    pub keeps : I h (stand_of s)
    pub same : s.starts ≡ starts
    pub held : is_held s.phase ≡ true → Lease
    pub leads : KeptLeadsOn s.version s.kept
    pub flight : FlightMade db h.book s.version s.phase s.flight
    pub level : IsLevel s.version s.phase s.flight
    pub beacon : IsNamed h.announced s.beacon
    pub calls : CallsKnown Called s.flight s.waiting

  -- a part of a step that leaves the votes
  pub record Goes (h : History) (v : Version) (t : Stepped) : Type 0 where
    pub fit : Fit (after h m.me v t) t.server
    pub rising : Rising v t.calls t.server.version
    pub oks : AllOks (after h m.me v t).book (after h m.me v t).announced t.shown
    pub served : (x : Beyond) (since : List Version) → IsBeyond x (after h m.me v t).book t.server.version → EndsIn since h.announced →
        AllServed db x since h.announced t.shown
    pub called : AllCalled Called t.shown

  -- the image is that of the own version
  abbrev pub Pure : History → Server → Type 0
  Pure h s = IsImageOf db h.book s.version s.image

  -- a part of a step that keeps it so
  abbrev pub GoesPure : History → Version → Stepped → Type 0
  GoesPure h v t = Goes h v t × Pure (after h m.me v t) t.server

  abbrev pub Fits : Server → List Shown → Type 0
  Fits s shown = AllFit m Asked (stand_of s) shown

  pub either : (h : History) (v : Version) (test : Bool) (x y : Stepped) → (test ≡ true → Goes h v x) → (test ≡ false → Goes h v y) →
      Goes h v (cond test x y)
  either h v test x y = cond_both test x y (Goes h v)

  either_pure : (h : History) (v : Version) (test : Bool) (x y : Stepped) → (test ≡ true → GoesPure h v x) →
      (test ≡ false → GoesPure h v y) → GoesPure h v (cond test x y)
  either_pure h v test x y = cond_both test x y (GoesPure h v)

  -- who serves, serves an announced version
  pub serving : (h : History) (u : Server) → Fit h u → (v : Version) → IsServing u.phase v → IsAnnounced h.announced v
  serving h u fit v is = by u.phase refl is
    where
      by : (phase : PhaseRecord) → u.phase ≡ phase → IsServing phase v → IsAnnounced h.announced v
      by NoPhase at is = absurd is
      by (Poll poll) at is = absurd is
      by (Fetch poll best host) at is = absurd is
      by (Relabel poll) at is = absurd is
      by (Send poll spread) at is = absurd is
      by (Ready poll spread announced) at is =
          subst (IsAnnounced h.announced) is
          (last_told h.announced announced
          (moves.serves h (stand_of u) poll spread announced (fit.held (ap is_held at)) at fit.keeps).0)

  pub turns : (h : History) (u : Server) (shown : List Shown) → Fit h u → Fits u shown → Goes h u.version (showing u shown)
  turns h u shown fit all = record {
    fit = record {
      keeps = moves.shows h (stand_of u) shown all fit.keeps;
      same = fit.same;
      held = fit.held;
      leads = fit.leads;
      flight = fit.flight;
      level = fit.level;
      beacon = named_with shown h.announced u.beacon fit.beacon;
      calls = fit.calls;
    };
    rising = refl;
    oks = fits_oks m Asked (stand_of u) h.book (announced_with shown h.announced) shown all;
    served = λ x since _ _. fits_served db m Asked (stand_of u) x since h.announced shown (serving h u fit) all;
    called = fits_called m Asked Called (stand_of u) shown all;
  }

  pub rests : (h : History) (s : Server) → Fit h s → Goes h s.version (quiet s)
  rests h s fit = turns h s [] fit tt

  -- one durable call
  pub makes : (h : History) (s u : Server) (made : Made) (shown : List Shown) → version_lt s.version (version_after made.call) ≡ true →
      version_after made.call ≡ u.version →
      Fit (with_book h (with_version h.book m.me s.version (version_after made.call) made.reason)) u → Fits u shown →
      Goes h s.version (record { server = u; calls = made ∷ []; shown = shown })
  makes h s u made shown less same fit all = record {
    fit = record {
      keeps =
          moves.shows (with_book h (with_version h.book m.me s.version (version_after made.call) made.reason)) (stand_of u) shown all
          fit.keeps;
      same = fit.same;
      held = fit.held;
      leads = fit.leads;
      flight = fit.flight;
      level = fit.level;
      beacon = named_with shown h.announced u.beacon fit.beacon;
      calls = fit.calls;
    };
    rising = (less, same);
    oks =
        fits_oks m Asked (stand_of u) (with_version h.book m.me s.version (version_after made.call) made.reason)
        (announced_with shown h.announced) shown all;
    served = λ x since _ _.
        fits_served db m Asked (stand_of u) x since h.announced shown
        (serving (with_book h (with_version h.book m.me s.version (version_after made.call) made.reason)) u fit) all;
    called = fits_called m Asked Called (stand_of u) shown all;
  }

  -- the own version is announced, and then this is shown
  announces : (h : History) (u : Server) (more : List Shown) → Fit (record h { announced = u.version ∷ h.announced }) u → Fits u more →
      Goes h u.version (showing u (announcing u.version ∷ more))
  announces h u more fit all = record {
    fit = record {
      keeps = moves.shows (record h { announced = u.version ∷ h.announced }) (stand_of u) more all fit.keeps;
      same = fit.same;
      held = fit.held;
      leads = fit.leads;
      flight = fit.flight;
      level = fit.level;
      beacon = named_with more (u.version ∷ h.announced) u.beacon fit.beacon;
      calls = fit.calls;
    };
    rising = refl;
    oks = (tt, fits_oks m Asked (stand_of u) h.book (announced_with more (u.version ∷ h.announced)) more all);
    served = λ x since _ _. (
      tt,
      fits_served db m Asked (stand_of u) x since (u.version ∷ h.announced) more
          (serving (record h { announced = u.version ∷ h.announced }) u fit) all,
    );
    called = (tt, fits_called m Asked Called (stand_of u) more all);
  }

  -- and then a commit is answered
  answers : (h : History) (u : Server) (id : ℕ) (r : Reply) (e : Evaluation) → Fit (record h { announced = u.version ∷ h.announced }) u →
      IsOkBy h.book (u.version ∷ h.announced) e e.basis →
      ((x : Beyond) (since : List Version) → IsBeyond x h.book u.version → EndsIn since h.announced →
      IsServedReply db x since (u.version ∷ h.announced) e r) → Called id e.call →
      Goes h u.version (showing u (announcing u.version ∷ replying id r e ∷ []))
  answers h u id r e fit ok told asked = record {
    fit = record {
      keeps = moves.shows (record h { announced = u.version ∷ h.announced }) (stand_of u) [] tt fit.keeps;
      same = fit.same;
      held = fit.held;
      leads = fit.leads;
      flight = fit.flight;
      level = fit.level;
      beacon = fit.beacon;
      calls = fit.calls;
    };
    rising = refl;
    oks = (tt, (ok, tt));
    served = λ x since beyond ends. (tt, (told x since beyond ends, tt));
    called = (tt, (asked, tt));
  }

  -- a reply of the database, that is for no commit
  replies : (h : History) (u : Server) (id : ℕ) (r : Reply) (e : Evaluation) → Fit h u → IsBeside e.basis →
      ((x : Beyond) (since : List Version) → IsBeyond x h.book u.version → IsServedReply db x since h.announced e r) → Called id e.call →
      Goes h u.version (showing u (replying id r e ∷ []))
  replies h u id r e fit beside told asked = record {
    fit = record {
      keeps = moves.shows h (stand_of u) [] tt fit.keeps;
      same = fit.same;
      held = fit.held;
      leads = fit.leads;
      flight = fit.flight;
      level = fit.level;
      beacon = fit.beacon;
      calls = fit.calls;
    };
    rising = refl;
    oks = (beside_ok h.book h.announced e e.basis beside, tt);
    served = λ x since beyond ends. (told x since beyond, tt);
    called = (asked, tt);
  }

  pub both_oks : (h : History) (v : Version) (t : Stepped) (middle : Version) (u : Stepped) →
      AllOks (after h m.me v t).book (after h m.me v t).announced t.shown →
      AllOks (after (after h m.me v t) m.me middle u).book (after (after h m.me v t) m.me middle u).announced u.shown →
      AllOks (after (after h m.me v t) m.me middle u).book (after (after h m.me v t) m.me middle u).announced (t.shown ++ u.shown)
  both_oks h v t middle u first second =
      oks_append (after (after h m.me v t) m.me middle u).book (after (after h m.me v t) m.me middle u).announced t.shown u.shown
      (oks_more (after h m.me v t).book (after (after h m.me v t) m.me middle u).book (after h m.me v t).announced
      (after (after h m.me v t) m.me middle u).announced t.shown
      (λ w made is. entered_made (after h m.me v t).book (entries_from m.me middle u.calls) w made is)
      (λ w is. announced_more u.shown (after h m.me v t).announced w is) first) second

  pub both_served : (h : History) (v : Version) (t u : Stepped) → Rising t.server.version u.calls u.server.version →
      ((x : Beyond) (since : List Version) → IsBeyond x (after h m.me v t).book t.server.version → EndsIn since h.announced →
      AllServed db x since h.announced t.shown) →
      (x : Beyond) (since : List Version) → IsBeyond x (after (after h m.me v t) m.me t.server.version u).book u.server.version →
      EndsIn since h.announced →
      ((since : List Version) → EndsIn since (after h m.me v t).announced → AllServed db x since (after h m.me v t).announced u.shown) →
      AllServed db x since h.announced (t.shown ++ u.shown)
  both_served h v t u rising first x since beyond ends second =
      served_append db x since h.announced t.shown u.shown (first x since earlier ends)
      (second (since_with t.shown since h.announced) (since_with_ends t.shown since h.announced ends))
    where
      more : (newer : List BookVersion)
          × (entered (after h m.me v t).book (entries_from m.me t.server.version u.calls) ≡ newer ++ (after h m.me v t).book)
      more = entered_newer (after h m.me v t).book (entries_from m.me t.server.version u.calls)

      earlier : IsBeyond x (after h m.me v t).book t.server.version
      earlier = record {
        once = beyond.once;
        newer = beyond.newer ++ more.0;
        grew =
            beyond.grew ∙ ap (λ (b : Book). beyond.newer ++ b) more.1
            ∙ sym (append_assoc beyond.newer more.0 (after h m.me v t).book);
        most =
            at_most_then t.server.version u.server.version x.top
            (rising_most t.server.version u.server.version u.calls rising) beyond.most;
      }

  pub follows : (h : History) (v : Version) (t : Stepped) (next : Server → Stepped) → Goes h v t →
      (Fit (after h m.me v t) t.server → Goes (after h m.me v t) t.server.version (next t.server)) → Goes h v (followed t next)
  follows h v t next first second =
      let then : Goes (after h m.me v t) t.server.version (next t.server) = second first.fit in
      record {
        fit =
            subst (λ (g : History). Fit g (next t.server).server)
            (after_both h m.me v t.server.version t (next t.server) first.rising) then.fit;
        rising =
            rising_append v t.server.version (next t.server).server.version t.calls (next t.server).calls first.rising then.rising;
        oks =
            subst (λ (g : History). AllOks g.book g.announced (t.shown ++ (next t.server).shown))
            (after_both h m.me v t.server.version t (next t.server) first.rising)
            (both_oks h v t t.server.version (next t.server) first.oks then.oks);
        served = λ x since beyond ends.
            both_served h v t (next t.server) then.rising first.served x since
            (subst (λ (g : History). IsBeyond x g.book (next t.server).server.version)
            (sym (after_both h m.me v t.server.version t (next t.server) first.rising)) beyond) ends
            (λ later is. then.served x later
            (subst (λ (g : History). IsBeyond x g.book (next t.server).server.version)
            (sym (after_both h m.me v t.server.version t (next t.server) first.rising)) beyond) is);
        called = called_append Called t.shown (next t.server).shown first.called then.called;
      }

  follows_pure : (h : History) (v : Version) (t : Stepped) (next : Server → Stepped) → GoesPure h v t →
      (Fit (after h m.me v t) t.server → Pure (after h m.me v t) t.server →
      GoesPure (after h m.me v t) t.server.version (next t.server)) → GoesPure h v (followed t next)
  follows_pure h v t next first second =
      let then : GoesPure (after h m.me v t) t.server.version (next t.server) = second first.0.fit first.1 in (
        follows h v t next first.0 (λ _. then.0),
        subst (λ (g : History). Pure g (next t.server).server)
            (after_both h m.me v t.server.version t (next t.server) first.0.rising) then.1,
      )

  pub lease_of : (h : History) (s : Server) → Fit h s → leased m s now ≡ true → Lease
  lease_of h s fit is = subst (λ (c : List (Option ℕ)). is_in_lease (cell_size m) c now ≡ true) fit.same is

  -- the phase is known
  pub in_phase : (h : History) (s : Server) (phase : PhaseRecord) → s.phase ≡ phase → Fit h s → Fit h (with_phase s phase)
  in_phase h s phase at fit = record {
    keeps = subst (λ (p : PhaseRecord). I h (record (stand_of s) { phase = p })) at fit.keeps;
    same = fit.same;
    held = λ is. fit.held (ap is_held at ∙ is);
    leads = fit.leads;
    flight = subst (λ (p : PhaseRecord). FlightMade db h.book s.version p s.flight) at fit.flight;
    level = subst (λ (p : PhaseRecord). IsLevel s.version p s.flight) at fit.level;
    beacon = fit.beacon;
    calls = fit.calls;
  }

  -- no write is in flight but in Ready
  pub no_flight : (h : History) (s : Server) → is_ready s.phase ≡ false → Fit h s → s.flight ≡ None
  no_flight h s idle fit = by s.flight refl
    where
      by : (o : Option Flight) → s.flight ≡ o → o ≡ None
      by None is = refl
      by (Some f) is = no (sym idle ∙ (fit.flight f is).0)

  -- another phase, in the lease
  pub to_phase : (h : History) (s : Server) (phase : PhaseRecord) → is_ready phase ≡ false → Lease → is_ready s.phase ≡ false → Fit h s →
      I h (record (stand_of s) { phase = phase }) → Fit h (with_phase s phase)
  to_phase h s phase quiet lease idle fit keeps = record {
    keeps = keeps;
    same = fit.same;
    held = λ _. lease;
    leads = fit.leads;
    flight = none_made db h.book s.version phase s.flight (no_flight h s idle fit);
    level = level_idle s.version phase s.flight quiet;
    beacon = fit.beacon;
    calls = fit.calls;
  }

  -- a poll begins
  pub begins : (h : History) (s : Server) → Lease → s.flight ≡ None → Fit h s → Fit h (polling m s now)
  begins h s lease none fit = record {
    keeps = moves.poll.begins h (stand_of s) lease fit.keeps;
    same = fit.same;
    held = λ _. lease;
    leads = fit.leads;
    flight = none_made db h.book s.version (Poll (new_poll m s now)) s.flight none;
    level = tt;
    beacon = fit.beacon;
    calls = fit.calls;
  }

  pub numbered : (phase : PhaseRecord) (p : PhaseRecord) (number : ℕ) → phase ≡ p → IsNumbered p number → IsNumbered phase number
  numbered phase p number at is = subst (λ (q : PhaseRecord). IsNumbered q number) (sym at) is

  -- ---- holders

  flight_settled_is : (h : History) (s : Server) (poll : Polled) (spread : Spread) (announced : Version) (f : Option Flight) →
      s.phase ≡ Ready poll spread announced → s.flight ≡ f → Fit h s → Goes h s.version (flight_settled m s poll spread announced f)
  flight_settled_is h s poll spread announced None at flown fit = rests h s fit
  flight_settled_is h s poll spread announced (Some f) at flown fit =
      either h s.version (is_majority (cell_size m) spread.holders) _ _ (λ is. ended is) (λ _. rests h s fit)
    where
      ended : is_majority (cell_size m) spread.holders ≡ true → Goes h s.version (ended_write s f poll spread announced)
      ended is =
          answers h (record (with_phase s (Ready poll spread s.version)) { flight = None }) f.id (reply.Ok f.answer)
          (record { call = f.call; moment = f.began; basis = Commit_on announced s.version })
          (record {
            keeps = moves.version.ends h (stand_of s) poll spread announced (fit.held (ap is_held at)) at is fit.keeps;
            same = fit.same;
            held = λ _. fit.held (ap is_held at);
            leads = fit.leads;
            flight = none_made db h.book s.version (Ready poll spread s.version) None refl;
            level = refl;
            beacon = named_later h.announced (s.version ∷ h.announced) s.beacon (λ v told. inr told) fit.beacon;
            calls = (none_called Called None refl, fit.calls.1);
          }) (inl refl, (fit.flight f flown).1) told (fit.calls.0 f flown)
        where
          of : IsFlown db h.book s.version (Ready poll spread announced) f
          of = subst (λ (p : PhaseRecord). IsFlown db h.book s.version p f) at (fit.flight f flown).2

          told : (x : Beyond) (since : List Version) → IsBeyond x h.book s.version → EndsIn since h.announced →
              IsServedReply db x since (s.version ∷ h.announced)
              (record { call = f.call; moment = f.began; basis = Commit_on announced s.version }) (reply.Ok f.answer)
          told x since beyond ends = record {
            served_on = (
              h.announced,
              refl,
              (moves.serves h (stand_of s) poll spread announced (fit.held (ap is_held at)) at fit.keeps).0,
              ends,
              of.0,
              made_beyond x h.book s.version s.version (transaction_of f.began f.call) beyond (fit.flight f flown).1,
            );
            image = f.old_image;
            of = image_beyond db x h.book s.version announced f.old_image beyond of.1;
            replied = of.2;
            reached =
                at_most_then announced s.version x.top
                (moves.serves h (stand_of s) poll spread announced (fit.held (ap is_held at)) at fit.keeps).1 beyond.most;
            leaves = tt;
          }

  settled_in_is : (h : History) (s : Server) (phase : PhaseRecord) → s.phase ≡ phase → Fit h s → Goes h s.version (settled_in m s phase)
  settled_in_is h s NoPhase at fit = rests h s fit
  settled_in_is h s (Poll poll) at fit = rests h s fit
  settled_in_is h s (Fetch poll best host) at fit = rests h s fit
  settled_in_is h s (Relabel poll) at fit = rests h s fit
  settled_in_is h s (Send poll spread) at fit =
      either h s.version (is_majority (cell_size m) spread.holders) _ _
      (λ is. announces h (with_phase s (Ready poll spread s.version)) []
      (record {
        keeps = moves.version.announces h (stand_of s) poll spread (fit.held (ap is_held at)) at is fit.keeps;
        same = fit.same;
        held = λ _. fit.held (ap is_held at);
        leads = fit.leads;
        flight = none_made db h.book s.version (Ready poll spread s.version) s.flight (no_flight h s (ap is_ready at) fit);
        level = level_same s.version poll spread s.flight;
        beacon = named_later h.announced (s.version ∷ h.announced) s.beacon (λ v told. inr told) fit.beacon;
        calls = fit.calls;
      }) tt)
      (λ _. rests h s fit)
  settled_in_is h s (Ready poll spread announced) at fit = flight_settled_is h s poll spread announced s.flight at refl fit

  pub settled_is : (h : History) (s : Server) → Fit h s → Goes h s.version (settled m s)
  settled_is h s fit = settled_in_is h s s.phase refl fit

  -- others wait
  with_waiting : (h : History) (s : Server) (waiting : List Waiting) → AllWait Called waiting → Fit h s →
      Fit h (record s { waiting = waiting })
  with_waiting h s waiting all fit = record {
    keeps = fit.keeps;
    same = fit.same;
    held = fit.held;
    leads = fit.leads;
    flight = fit.flight;
    level = fit.level;
    beacon = fit.beacon;
    calls = (fit.calls.0, all);
  }

  -- ---- writes

  -- a call is served from the announced image
  announced_of : (h : History) (s : Server) → is_ready s.phase ≡ true → Fit h s → Pure h s →
      IsImageOf db h.book (told_version s.phase s.version) (announced_image s)
  announced_of h s ready fit pure = by s.phase refl ready
    where
      by : (phase : PhaseRecord) → s.phase ≡ phase → is_ready phase ≡ true →
          IsImageOf db h.book (told_version phase s.version) (announced_image s)
      by NoPhase at is = no is
      by (Poll poll) at is = no is
      by (Fetch poll best host) at is = no is
      by (Relabel poll) at is = no is
      by (Send poll spread) at is = no is
      by (Ready poll spread announced) at is = flown s.flight refl
        where
          flown : (o : Option Flight) → s.flight ≡ o → IsImageOf db h.book announced (image_before s.image o)
          flown None none =
              subst (λ (v : Version). IsImageOf db h.book v s.image)
              (level_at s.version s.phase s.flight poll spread announced at none fit.level) pure
          flown (Some f) some =
              (subst (λ (p : PhaseRecord). IsFlown db h.book s.version p f) at (fit.flight f some).2).1

  announced_last : (h : History) (s : Server) → Lease → is_ready s.phase ≡ true → Fit h s →
      IsLast h.announced (told_version s.phase s.version) × AtMost (told_version s.phase s.version) s.version
  announced_last h s lease ready fit = by s.phase refl ready
    where
      by : (phase : PhaseRecord) → s.phase ≡ phase → is_ready phase ≡ true →
          IsLast h.announced (told_version phase s.version) × AtMost (told_version phase s.version) s.version
      by NoPhase at is = no is
      by (Poll poll) at is = no is
      by (Fetch poll best host) at is = no is
      by (Relabel poll) at is = no is
      by (Send poll spread) at is = no is
      by (Ready poll spread announced) at is = moves.serves h (stand_of s) poll spread announced lease at fit.keeps

  announced_reply : (h : History) (s : Server) (call : List ℕ) (r : Reply) → Lease → is_ready s.phase ≡ true → Fit h s → Pure h s →
      IsReplyOf (db.call (announced_image s) now call).reply r →
      LeavesBlocks db (announced_image s) (answered_on (told_version s.phase s.version) now call)
      (Announced_image (told_version s.phase s.version)) r →
      (x : Beyond) (since : List Version) → IsBeyond x h.book s.version →
      IsServedReply db x since h.announced (answered_on (told_version s.phase s.version) now call) r
  announced_reply h s call r lease ready fit pure replied leaves x since beyond = record {
    served_on = (announced_last h s lease ready fit).0;
    image = announced_image s;
    of = image_beyond db x h.book s.version (told_version s.phase s.version) (announced_image s) beyond (announced_of h s ready fit pure);
    replied = replied;
    reached =
        at_most_then (told_version s.phase s.version) s.version x.top (announced_last h s lease ready fit).1 beyond.most;
    leaves = leaves;
  }

  -- so where no write is in flight
  own_reply : (h : History) (s : Server) (call : List ℕ) (r : Reply) → Lease → is_ready s.phase ≡ true → s.flight ≡ None → Fit h s →
      Pure h s → IsReplyOf (db.call s.image now call).reply r →
      LeavesBlocks db s.image (answered_on (told_version s.phase s.version) now call)
      (Announced_image (told_version s.phase s.version)) r → (x : Beyond) (since : List Version) → IsBeyond x h.book s.version →
      IsServedReply db x since h.announced (answered_on (told_version s.phase s.version) now call) r
  own_reply h s call r lease ready free fit pure replied leaves =
      announced_reply h s call r lease ready fit pure
      (subst (λ (o : Option Flight). IsReplyOf (db.call (image_before s.image o) now call).reply r) (sym free) replied)
      (subst
      (λ (o : Option Flight).
      LeavesBlocks db (image_before s.image o) (answered_on (told_version s.phase s.version) now call)
      (Announced_image (told_version s.phase s.version)) r) (sym free) leaves)

  written_in_is : (h : History) (s : Server) (id : ℕ) (call answer image : List ℕ) (changes : List Change) (phase : PhaseRecord) →
      s.phase ≡ phase → s.flight ≡ None → image ≡ (db.call s.image now call).image →
      (db.call s.image now call).reply ≡ call_reply.Done answer → Called id call → Fit h s → Pure h s →
      GoesPure h s.version (written_in m s now id call answer image changes phase)
  written_in_is h s id call answer image changes NoPhase at free same done asked fit pure = (rests h s fit, pure)
  written_in_is h s id call answer image changes (Poll poll) at free same done asked fit pure = (rests h s fit, pure)
  written_in_is h s id call answer image changes (Fetch poll best host) at free same done asked fit pure = (rests h s fit, pure)
  written_in_is h s id call answer image changes (Relabel poll) at free same done asked fit pure = (rests h s fit, pure)
  written_in_is h s id call answer image changes (Send poll spread) at free same done asked fit pure = (rests h s fit, pure)
  written_in_is h s id call answer image changes (Ready poll spread announced) at free same done asked fit pure =
      follows_pure h s.version begun (settled m)
      (made, image_of_commit db h.book m.me now call s.version s.image pure image same)
      (λ fit pure. (
        settled_is (after h m.me s.version begun) begun.server fit,
        settled_pure db m (after h m.me s.version begun) begun.server pure,
      ))
    where
      begun : Stepped
      begun = own_write_begun m s now id call answer image changes poll spread

      lease : Lease
      lease = fit.held (ap is_held at)

      Flown : Flight → Type 0
      Flown f =
          (true ≡ true)
          × IsMade (with_version h.book m.me s.version (next_version s.version) (Committed (transaction_of now call)))
          (next_version s.version) (transaction_of f.began f.call)
          × IsFlown db (with_version h.book m.me s.version (next_version s.version) (Committed (transaction_of now call)))
          (next_version s.version) begun.server.phase f

      flown : (f : Flight) → Some (flight_of s now id call answer changes) ≡ Some f → Flown f
      flown f is =
          let same : flight_of s now id call answer changes ≡ f = cc in
          subst Flown same
          (refl, inl (refl, refl), (refl, image_before_commit db h.book m.me now call s.version s.image pure, done))

      begun_called : (f : Flight) → Some (flight_of s now id call answer changes) ≡ Some f → Called f.id f.call
      begun_called f is =
          let same : flight_of s now id call answer changes ≡ f = cc in subst (λ (g : Flight). Called g.id g.call) same asked

      made : Goes h s.version begun
      made =
          makes h s begun.server (own_commit (next_version s.version) changes image (transaction_of now call)) begun.shown
          (lt_of_next s.version s.version (at_most_same s.version)) refl
          (record {
            keeps =
                moves.version.commits h (stand_of s) poll spread announced (transaction_of now call) lease at
                (level_at s.version s.phase s.flight poll spread announced at free fit.level) fit.keeps;
            same = fit.same;
            held = λ _. lease;
            leads = tt;
            flight = flown;
            level = tt;
            beacon = fit.beacon;
            calls = (begun_called, fit.calls.1);
          })
          (each_fits m Asked (stand_of begun.server) _
          (λ host k. write_fits m Asked (stand_of begun.server) host s.version (next_version s.version) (text_of changes)))

  written_changes_is : (h : History) (s : Server) (id : ℕ) (call answer image : List ℕ) (changes : List Change) → Lease → s.flight ≡ None →
      image ≡ (db.call s.image now call).image → (db.call s.image now call).reply ≡ call_reply.Done answer → Called id call → Fit h s → Pure h s →
      GoesPure h s.version (written_changes m s now id call answer image changes)
  written_changes_is h s id call answer image changes lease free same done asked fit pure =
      either_pure h s.version (s.version.counter == MAX_COUNTER) _ _
      (λ _. (
        turns h (polling m (record s { waiting = [] }) now) _
            (begins h (record s { waiting = [] }) lease free
            (with_waiting h s [] tt fit))
            ((refl, tt), waiting_fit m Asked (stand_of (polling m (record s { waiting = [] }) now)) s.waiting _ tt),
        pure,
      ))
      (λ _. written_in_is h s id call answer image changes s.phase refl free same done asked fit pure)

  written_small_is : (h : History) (s : Server) (id : ℕ) (call answer image : List ℕ) (changes : List Change) → Lease →
      is_ready s.phase ≡ true → s.flight ≡ None → image ≡ (db.call s.image now call).image → changes ≡ changes_of db s.image image →
      (db.call s.image now call).reply ≡ call_reply.Done answer → Called id call → Fit h s → Pure h s →
      GoesPure h s.version (written_small m s now id call answer image changes)
  written_small_is h s id call answer image [] lease ready free same changes_are done asked fit pure = (
    replies h s id (reply.Ok answer) (answered_on (told_version s.phase s.version) now call) fit tt
        (own_reply h s call (reply.Ok answer) lease ready free fit pure done
        (λ writes. ap (changes_of db s.image) (sym same) ∙ sym changes_are)) asked,
    pure,
  )
  written_small_is h s id call answer image (change ∷ changes) lease ready free same changes_are done asked fit pure =
      written_changes_is h s id call answer image (change ∷ changes) lease free same done asked fit pure

  written_within_is : (h : History) (s : Server) (id : ℕ) (call answer image : List ℕ) (changes : List Change) (passed : Option ℕ) →
      Lease → is_ready s.phase ≡ true → s.flight ≡ None → image ≡ (db.call s.image now call).image → changes ≡ changes_of db s.image image →
      (db.call s.image now call).reply ≡ call_reply.Done answer → Called id call → Fit h s → Pure h s →
      GoesPure h s.version (written_within m s now id call answer image changes passed)
  written_within_is h s id call answer image changes None lease ready free same changes_are done asked fit pure =
      written_small_is h s id call answer image changes lease ready free same changes_are done asked fit pure
  written_within_is h s id call answer image changes (Some bytes) lease ready free same changes_are done asked fit pure =
      (turns h s _ fit ((refl, tt), tt), pure)

  turned_is : (h : History) (s : Server) (id : ℕ) (call image : List ℕ) (r : CallReply) → Lease → is_ready s.phase ≡ true →
      s.flight ≡ None → image ≡ (db.call s.image now call).image → (db.call s.image now call).reply ≡ r → Called id call → Fit h s → Pure h s →
      GoesPure h s.version (turned db m s now id call image r)
  turned_is h s id call image (call_reply.Done answer) lease ready free same is asked fit pure =
      written_within_is h s id call answer image (changes_of db s.image image)
      (too_large 0 (length s.image) (changes_of db s.image image)) lease ready free same refl is asked fit pure
  turned_is h s id call image (call_reply.Rule number) lease ready free same is asked fit pure = (
    replies h s id (reply.Rule number) (answered_on (told_version s.phase s.version) now call) fit tt
        (own_reply h s call (reply.Rule number) lease ready free fit pure is tt) asked,
    pure,
  )
  turned_is h s id call image call_reply.Malformed lease ready free same is asked fit pure = (turns h s _ fit ((refl, tt), tt), pure)
  turned_is h s id call image (call_reply.BadRecord at) lease ready free same is asked fit pure = (turns h s _ fit ((refl, tt), tt), pure)

  turn_is : (h : History) (s : Server) (id : ℕ) (call : List ℕ) (short : Bool) → Lease → is_ready s.phase ≡ true → s.flight ≡ None →
      Called id call → Fit h s → Pure h s → GoesPure h s.version (write_turn db m s now id call short)
  turn_is h s id call short lease ready free asked fit pure =
      either_pure h s.version short _ _ (λ _. (turns h s _ fit ((refl, tt), tt), pure))
      (λ _. turned_is h s id call (db.call s.image now call).image (db.call s.image now call).reply lease ready free refl refl asked fit pure)

  next_turns_is : (waiting : List Waiting) (h : History) (s : Server) (short : List Bool) → AllWait Called waiting → Fit h s → Pure h s →
      GoesPure h s.version (next_turns (always db) m now waiting s short)
  next_turns_is [] h s short all fit pure = (rests h s fit, pure)
  next_turns_is (w ∷ waiting) h s short all fit pure =
      either_pure h s.version (is_free s) _ _
      (λ free. follows_pure h s.version (write_turn db m (record s { waiting = waiting }) now w.id w.call (is_short short))
      (λ after. next_turns (always db) m now waiting after
      (short_after (write_turn db m (record s { waiting = waiting }) now w.id w.call (is_short short)).shown short))
      (turn_is h (record s { waiting = waiting }) w.id w.call (is_short short) (fit.held (free_held s.phase s.flight free))
      (free_ready s.phase s.flight free) (free_none s.phase s.flight free) all.0
      (with_waiting h s waiting all.1 fit) pure)
      (λ fit pure. next_turns_is waiting _ _ _ all.1 fit pure))
      (λ _. (rests h s fit, pure))

  pub settled_with_turns_is : (h : History) (s : Server) (short : List Bool) → Fit h s → Pure h s →
      Goes h s.version (settled_with_turns (always db) m s now short)
  settled_with_turns_is h s short fit pure =
      follows h s.version (settled m s) (λ after. next_turns (always db) m now after.waiting after (short_after (settled m s).shown short))
      (settled_is h s fit)
      (λ fit. (next_turns_is (settled m s).server.waiting _ (settled m s).server _ fit.calls.1 fit (settled_pure db m h s pure)).0)

  -- ---- asks

  read_is : (h : History) (s : Server) (id : ℕ) (call image : List ℕ) (basis : Basis) (short : Bool) → IsBeside basis → Fit h s →
      ((r : Reply) → IsReplyOf (db.call image now call).reply r → (x : Beyond) (since : List Version) → IsBeyond x h.book s.version →
      IsServedReply db x since h.announced (record { call = call; moment = now; basis = basis }) r) → Called id call →
      Goes h s.version (read db s now id call image basis short)
  read_is h s id call image basis short beside fit told asked =
      either h s.version short _ _ (λ _. turns h s _ fit ((refl, tt), tt)) (λ _. by (db.call image now call).reply (λ r is. told r is))
    where
      by : (given : CallReply) →
          ((r : Reply) → IsReplyOf given r → (x : Beyond) (since : List Version) → IsBeyond x h.book s.version →
          IsServedReply db x since h.announced (record { call = call; moment = now; basis = basis }) r) →
          Goes h s.version (showing s (read_reply id (record { call = call; moment = now; basis = basis }) given ∷ []))
      by (call_reply.Done answer) told =
          replies h s id (reply.Ok answer) (record { call = call; moment = now; basis = basis }) fit beside (told (reply.Ok answer) refl) asked
      by (call_reply.Rule number) told =
          replies h s id (reply.Rule number) (record { call = call; moment = now; basis = basis }) fit beside
          (told (reply.Rule number) refl) asked
      by call_reply.Malformed told = turns h s _ fit ((refl, tt), tt)
      by (call_reply.BadRecord at) told = turns h s _ fit ((refl, tt), tt)

  write_asked_is : (h : History) (s : Server) (id : ℕ) (call : List ℕ) (short : Bool) (f : Option Flight) → s.flight ≡ f → Lease →
      is_ready s.phase ≡ true → Called id call → Fit h s → Pure h s →
      Goes h s.version (write_asked db m s now id call short f)
  write_asked_is h s id call short None free lease ready asked fit pure =
      (turn_is h s id call short lease ready free asked fit pure).0
  write_asked_is h s id call short (Some f) free lease ready asked fit pure =
      either h s.version (nat_le MAX_WAITING (length s.waiting)) _ _ (λ _. turns h s _ fit ((refl, tt), tt))
      (λ _. either h s.version short _ _ (λ _. turns h s _ fit ((refl, tt), tt))
      (λ _. turns h (record s { waiting = s.waiting ++ record { id = id; call = call } ∷ [] }) []
      (with_waiting h s (s.waiting ++ record { id = id; call = call } ∷ []) (wait_more Called s.waiting id call fit.calls.1 asked) fit) tt))

  served_is : (h : History) (s : Server) (id : ℕ) (call : List ℕ) (writes short : Bool) → db.writes call ≡ Some writes → Lease →
      is_ready s.phase ≡ true → Called id call → Fit h s → Pure h s → Goes h s.version (served db m s now id call writes short)
  served_is h s id call writes short known lease ready asked fit pure =
      either h s.version writes _ _ (λ _. write_asked_is h s id call short s.flight refl lease ready asked fit pure)
      (λ reads. read_is h s id call (announced_image s) (Announced_image (told_version s.phase s.version)) short tt fit
      (λ r is. announced_reply h s call r lease ready fit pure is
      (reads_leave db (announced_image s) (answered_on (told_version s.phase s.version) now call)
      (Announced_image (told_version s.phase s.version)) r (known ∙ ap (λ (b : Bool). Some b) reads))) asked)

  -- ---- a whole step

  -- the server does not go on from the version behind the step
  pub record Ends (h : History) (v : Version) (t : Stepped) : Type 0 where
    pub keeps : I (after h m.me v t) (stand_of t.server)
    pub held : is_held t.server.phase ≡ true → Lease
    pub rising : Rising v t.calls t.server.version
    pub flight : FlightMade db (after h m.me v t).book t.server.version t.server.phase t.server.flight
    pub level : IsLevel t.server.version t.server.phase t.server.flight
    pub beacon : IsNamed (after h m.me v t).announced t.server.beacon
    pub oks : AllOks (after h m.me v t).book (after h m.me v t).announced t.shown
    pub served : (x : Beyond) (since : List Version) → IsBeyond x (after h m.me v t).book t.server.version →
        AtMost x.top t.server.version → EndsIn since h.announced → AllServed db x since h.announced t.shown
    pub calls : CallsKnown Called t.server.flight t.server.waiting
    pub called : AllCalled Called t.shown

  pub ended : (h : History) (v : Version) (t : Stepped) → Goes h v t → Ends h v t
  ended h v t goes = record {
    keeps = goes.fit.keeps;
    held = goes.fit.held;
    rising = goes.rising;
    flight = goes.fit.flight;
    level = goes.fit.level;
    beacon = goes.fit.beacon;
    calls = goes.fit.calls;
    called = goes.called;
    oks = goes.oks;
    served = λ x since beyond _ ends. goes.served x since beyond ends;
  }

  either_ends : (h : History) (v : Version) (test : Bool) (x y : Stepped) → (test ≡ true → Ends h v x) → (test ≡ false → Ends h v y) →
      Ends h v (cond test x y)
  either_ends h v test x y = cond_both test x y (Ends h v)

  -- a reply from the own image, by a kept beacon
  beacon_reply : (h : History) (s : Server) (id : ℕ) (call : List ℕ) (r : Reply) → db.writes call ≡ Some false → Called id call → Fit h s → Pure h s →
      IsAnnounced h.announced s.version →
      IsReplyOf (db.call s.image now call).reply r →
      Ends h s.version (showing s (replying id r (record { call = call; moment = now; basis = Beacon_image s.version }) ∷ []))
  beacon_reply h s id call r reads asked fit pure told is = record {
    called = (asked, tt);
    keeps = moves.shows h (stand_of s) [] tt fit.keeps;
    held = fit.held;
    rising = refl;
    flight = fit.flight;
    level = fit.level;
    beacon = fit.beacon;
    calls = fit.calls;
    oks = (tt, tt);
    served = λ x since beyond last ends. (
      record {
        served_on = (told, last);
        image = s.image;
        of = image_beyond db x h.book s.version s.version s.image beyond pure;
        replied = is;
        reached = beyond.most;
        leaves =
            reads_leave db s.image (record { call = call; moment = now; basis = Beacon_image s.version }) (Beacon_image s.version) r reads;
      },
      tt,
    );
  }

  beacon_read_is : (h : History) (s : Server) (id : ℕ) (call : List ℕ) (short : Bool) → db.writes call ≡ Some false → Called id call → Fit h s → Pure h s →
      IsAnnounced h.announced s.version → Ends h s.version (read db s now id call s.image (Beacon_image s.version) short)
  beacon_read_is h s id call short reads asked fit pure told =
      either_ends h s.version short _ _ (λ _. ended h s.version _ (turns h s _ fit ((refl, tt), tt)))
      (λ _. by (db.call s.image now call).reply refl)
    where
      by : (given : CallReply) → (db.call s.image now call).reply ≡ given →
          Ends h s.version
          (showing s (read_reply id (record { call = call; moment = now; basis = Beacon_image s.version }) given ∷ []))
      by (call_reply.Done answer) is = beacon_reply h s id call (reply.Ok answer) reads asked fit pure told is
      by (call_reply.Rule number) is = beacon_reply h s id call (reply.Rule number) reads asked fit pure told is
      by call_reply.Malformed is = ended h s.version _ (turns h s _ fit ((refl, tt), tt))
      by (call_reply.BadRecord at) is = ended h s.version _ (turns h s _ fit ((refl, tt), tt))

  elsewhere_is : (h : History) (s : Server) (id : ℕ) (call : List ℕ) (writes short may_read : Bool) →
      db.writes call ≡ Some writes → (may_read ≡ true → IsAnnounced h.announced s.version) → Called id call → Fit h s → Pure h s →
      Ends h s.version (asked_elsewhere db m s now id call writes short may_read)
  elsewhere_is h s id call writes short may_read known told asked fit pure =
      either_ends h s.version writes _ _ (λ _. ended h s.version _ (not_served_is s.votes))
      (λ reads. either_ends h s.version may_read _ _
      (λ is. beacon_read_is h s id call short (known ∙ ap (λ (b : Bool). Some b) reads) asked fit pure (told is))
      (λ _. ended h s.version _ (not_served_is s.votes)))
    where
      not_served_is : (votes : VoteState) → Goes h s.version (showing s (refusing id (not_served m s now (sync_heard now votes)) ∷ []))
      not_served_is votes = turns h s _ fit ((refl, ungiven (sync_heard now votes)), tt)
        where
          ungiven : (o : Option (ℕ × ℕ)) → IsUngiven (not_served m s now o)
          ungiven None = tt
          ungiven (Some heard) = cond_both (heard.0 == m.me) _ _ IsUngiven (λ _. tt) (λ _. tt)

  pub asked_as_is : (h : History) (s : Server) (id : ℕ) (call : List ℕ) (short : Bool) (o : Option Bool) → db.writes call ≡ o → Called id call → Fit h s →
      Pure h s → Ends h s.version (asked_as db m s now id call short o)
  asked_as_is h s id call short None known asked fit pure = ended h s.version _ (turns h s _ fit ((refl, tt), tt))
  asked_as_is h s id call short (Some writes) known asked fit pure =
      either_ends h s.version (leased m s now) _ _
      (λ is. either_ends h s.version (is_ready s.phase) _ _
      (λ ready. ended h s.version _ (served_is h s id call writes short known (lease_of h s fit is) ready asked fit pure))
      (λ _. ended h s.version _ (turns h s _ fit ((refl, tt), tt))))
      (λ _. elsewhere_is h s id call writes short (allows_reads s.version now s.beacon) known
      (λ is. allowed now h.announced s.version s.beacon is fit.beacon) asked fit pure)
