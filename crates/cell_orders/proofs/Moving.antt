-- Each move of a step keeps what holds in its midst.
use Rattle.std.proofs.Common.{Bool, true, false, cond, ◌==◌, ◌≡◌, ◌⊎◌, inl, inr, ℕ, zero, suc, ◌+◌, ◌*◌, ◌/◌, ◌<◌, ◌≤◌, List, [], ◌∷◌, ◌++◌}
use Rattle.std.proofs.Common.{map, refl, sym, ap, subst, ◌∙◌, arith}
use Rattle.std.proofs.lemmas.Bool.{cond_both}
use Rattle.std.proofs.lemmas.Bool.Decides.{nat_tests}
use Rattle.std.proofs.lemmas.List.{length-map}
use Rattle.std.specs.Prelude.{Option, Some, None, slice_get, is_some, nat_lt}
use Rattle.ubik_types.specs.declared.versions.Version.{Version}
use Rattle.ubik_types.specs.Lease.{with_start, lease_end}
use Rattle.ubik_types.specs.Phase.{Polled, Spread, PhaseRecord, NoPhase, Poll, Fetch, Relabel, Send, Ready}
use Rattle.ubik_types.specs.Quorum.{is_majority, is_vote_quorum, size, lowest_bonus, SharesServer}
use Rattle.ubik_types.specs.Version.{version_lt, zero_version}
use Rattle.lease_model.proofs.Places.{le_true}
use Rattle.cell_model.specs.Book.{Book, BookVersion, list_or_none}
use Rattle.cell_model.specs.Durable.{Transaction}
use Rattle.cell_model.specs.NodeRule.{place_of}
use Rattle.cell_model.specs.Polls.{only_holder, only_at, with_answer, with_holder, best_answer, best_version}
use Rattle.cell_model.specs.Receiver.{is_sending}
use Rattle.cell_model.specs.Recovery.{first_of_epoch, held_by}
use Rattle.cell_model.specs.Step.{Member, cell_size, host_at}
use Rattle.cell_model.specs.Writes.{next_version}
use Rattle.cell_model.proofs.BookVersions.{newest}
use Rattle.cell_laws.proofs.Parts.{no, lt_false}
use Rattle.cell_pages.specs.Parts.{AtMost}
use Rattle.cell_pages.proofs.Making.{versions_map}
use Rattle.cell_pages.proofs.Versions.{at_most_same}
use Rattle.cell_orders.specs.Histories.{Stand, History, with_book, number_of}
use Rattle.cell_orders.specs.Midst.{version_at, HeldInStep, HasGrown, MidStep}
use Rattle.cell_orders.specs.OrderMoves.{poll_of, VoteMoves, PollMoves, VersionMoves}
use Rattle.cell_orders.specs.Orders.{IsLast, last_announced, IsListed, FollowFrom, IsOrdered}
use Rattle.cell_orders.specs.Orders.{IsAsked, IsAnswered, IsTo, Premises}
use Rattle.cell_orders.specs.Orders.{NumbersUpTo, HoldersKeep, PhaseKeeps, AnswersKeep, PollKeeps, IsCounted, LeaderStands}
use Rattle.cell_orders.proofs.Openings.{past_opening, until_rises, opened_hears, opened_asks, opened_counts, until_counts}
use Rattle.cell_orders.proofs.Orderings.{at_most_then, at_most_lt, at_most_not, not_above, announced_map, announced_two, all_at_most, listed_more}
use Rattle.cell_orders.proofs.Orderings.{kept_map, majority_map, answers_map}
use Rattle.cell_orders.proofs.Orderings.{only_length, only_get, set_length, set_get}

-- ---- the best answer

best_least : (best : Version) (answers : List (Option Version)) → AtMost best (best_version best answers)
best_least best [] = at_most_same best
best_least best (None ∷ answers) = best_least best answers
best_least best (Some v ∷ answers) =
    cond_both (version_lt best v) v best (λ (b : Version). AtMost best (best_version b answers))
    (λ less. at_most_then best v (best_version v answers) (at_most_lt best v less) (best_least v answers)) (λ _. best_least best answers)

best_above : (best : Version) (answers : List (Option Version)) (j : ℕ) (v : Version) → slice_get answers j ≡ Some (Some v) →
    AtMost v (best_version best answers)
best_above best [] j v is = absurd (cc)
best_above best (None ∷ answers) zero v is = absurd (cc)
best_above best (None ∷ answers) (suc j) v is = best_above best answers j v is
best_above best (Some w ∷ answers) zero v is =
    let same : w ≡ v = cc in
    subst (λ (u : Version). AtMost u (best_version best (Some w ∷ answers))) same
    (cond_both (version_lt best w) w best (λ (b : Version). AtMost w (best_version b answers)) (λ _. best_least w answers)
    (λ least. at_most_then w best (best_version best answers) (at_most_not best w least) (best_least best answers)))
best_above best (Some w ∷ answers) (suc j) v is = best_above (cond (version_lt best w) w best) answers j v is

-- who is marked has answered
answer_at : (answers : List (Option Version)) (j : ℕ) → slice_get (map is_some answers) j ≡ Some true →
    (v : Version) × (slice_get answers j ≡ Some (Some v))
answer_at [] j is = absurd (cc)
answer_at (None ∷ answers) zero is = absurd (let same : false ≡ true = cc in no same)
answer_at (Some v ∷ answers) zero is = (v, refl)
answer_at (o ∷ answers) (suc j) is = answer_at answers j is

-- a majority is a vote quorum
most_is : (n : ℕ) (set : List Bool) → is_majority n set ≡ true → is_vote_quorum n set ≡ true
most_is n set is = by (nat_lt n (2 * size set + lowest_bonus set)) refl
  where
    most : n / 2 + 1 ≤ size set
    most = le_true (n / 2 + 1) (size set) is

    by : (t : Bool) → nat_lt n (2 * size set + lowest_bonus set) ≡ t → nat_lt n (2 * size set + lowest_bonus set) ≡ true
    by true is = is
    by false is =
        let less : 2 * size set + lowest_bonus set ≤ n = lt_false n (2 * size set + lowest_bonus set) is in
        let half : n / 2 + 1 ≤ size set = most in
        absurd (omega arith)

-- ---- polls and numbers

numbers_dropped : (Asked : ℕ → Type 0) (opened now : ℕ) (lease : Bool) (o : Option ℕ) → lease ≡ false → HeldInStep lease now o →
    NumbersUpTo Asked opened now o → NumbersUpTo Asked opened now None
numbers_dropped Asked opened now lease None over held numbers = numbers
numbers_dropped Asked opened now lease (Some poll) over held numbers = λ number asked.
    let first : number ≤ poll = numbers number asked in
    let second : poll < now = held.1 over in
    inr (omega arith)

poll_rises : (n p : ℕ) (V W : ℕ → Version) (A : ℕ → ℕ → Version → Type 0) (announced : List Version) (v w : Version) →
    AtMost v w → ((j : ℕ) → AtMost (V j) (W j)) → PollKeeps n V A announced v (Some p) → PollKeeps n W A announced w (Some p)
poll_rises n p V W A announced v w more all (inl is) = inl (at_most_then (last_announced announced) v w is more)
poll_rises n p V W A announced v w more all (inr is) =
    inr (answers_map n V W (λ j. A j p) (λ j. A j p) announced all is is.told)

pub leads_on : (n : ℕ) (V W : ℕ → Version) (A : ℕ → ℕ → Version → Type 0) (announced : List Version) (v w : Version) (o : Option ℕ) →
    AtMost v w → ((j : ℕ) → AtMost (V j) (W j)) → PollKeeps n V A announced v o → PollKeeps n W A announced w o
leads_on n V W A announced v w None more all is = tt
leads_on n V W A announced v w (Some p) more all is = poll_rises n p V W A announced v w more all is

counted_rises : (me : ℕ) (A : ℕ → Version → Type 0) (v w : Version) (j : ℕ) (x : Version) → AtMost v w → IsCounted me v A j x →
    IsCounted me w A j x
counted_rises me A v w j x more (inl is) = inl (is.0, at_most_then x v w is.1 more)
counted_rises me A v w j x more (inr is) = inr is

stands_rise : (me : ℕ) (A : ℕ → ℕ → Version → Type 0) (announced : List Version) (v w : Version) (phase : PhaseRecord) → AtMost v w →
    LeaderStands me A announced v phase → LeaderStands me A announced w phase
stands_rise me A announced v w NoPhase more is = tt
stands_rise me A announced v w (Poll poll) more is =
    λ j x get. counted_rises me (λ i. A i poll.number) v w j x more (is j x get)
stands_rise me A announced v w (Fetch poll best host) more is = is
stands_rise me A announced v w (Relabel poll) more is = at_most_then (last_announced announced) v w is more
stands_rise me A announced v w (Send poll spread) more is = at_most_then (last_announced announced) v w is more
stands_rise me A announced v w (Ready poll spread old) more is = at_most_then (last_announced announced) v w is more

idle_keeps : (n : ℕ) (V W : ℕ → Version) (v w : Version) (phase : PhaseRecord) → is_sending phase ≡ false → PhaseKeeps n V v phase →
    PhaseKeeps n W w phase
idle_keeps n V W v w NoPhase idle is = tt
idle_keeps n V W v w (Poll poll) idle is = is
idle_keeps n V W v w (Fetch poll best host) idle is = tt
idle_keeps n V W v w (Relabel poll) idle is = tt
idle_keeps n V W v w (Send poll spread) idle is = no (sym idle)
idle_keeps n V W v w (Ready poll spread announced) idle is = no (sym idle)

-- ---- moves

module _ (m : Member) (now : ℕ) (lease : Bool) (V : ℕ → Version) (C : ℕ → ℕ) (before : History) (some : 0 < now)
    (premises : Premises) (clock : C m.me ≡ now) (own_place : place_of m.hosts (host_at m.hosts m.me) ≡ Some m.me) where
  abbrev I : History → Stand → Type 0
  I h c = MidStep m now lease V C before h c

  abbrev n : ℕ
  n = cell_size m

  abbrev At : Version → ℕ → Version
  At v = version_at V m.me v

  abbrev pub Asked : ℕ → ℕ → Type 0
  Asked j number = IsAsked m.hosts before.packets j number

  abbrev pub Answered : ℕ → ℕ → Version → Type 0
  Answered k number v = IsAnswered m.hosts before.packets m.me k number v

  abbrev pub Kept : ℕ → Version → Type 0
  Kept k v = AtMost v (V k)

  over_not : {A : Type 0} → lease ≡ false → lease ≡ true → A
  over_not over is = no (sym over ∙ is)

  pub at_own : (v : Version) → version_at V m.me v m.me ≡ v
  at_own v = by (m.me == m.me) refl
    where
      by : (t : Bool) → (m.me == m.me) ≡ t → cond t v (V m.me) ≡ v
      by true is = refl
      by false is = absurd (itself is)
        where
          itself : (m.me == m.me) ≡ false → ⊥
          itself is = grind (arith, nat_tests)

  at_more : (v w : Version) → AtMost v w → (j : ℕ) → AtMost (version_at V m.me v j) (version_at V m.me w j)
  at_more v w more j = by (j == m.me)
    where
      by : (t : Bool) → AtMost (cond t v (V j)) (cond t w (V j))
      by true = more
      by false = at_most_same (V j)

  -- the phase is known
  in_phase : (h : History) (c : Stand) (phase : PhaseRecord) → c.phase ≡ phase → I h c → I h (record c { phase = phase })
  in_phase h c phase at is = subst (λ (p : PhaseRecord). I h (record c { phase = p })) at is

  -- ---- votes

  pub vote_moves : VoteMoves m now I
  vote_moves = record {
    hears = λ h c k claim is. record {
      ordered = is.ordered;
      kept = is.kept;
      asked = is.asked;
      numbers = is.numbers;
      majority = is.majority;
      opened = opened_hears n now c.opened k claim c.votes c.starts is.opened;
      own = is.own;
      held = is.held;
      until = is.until;
      holders = is.holders;
      leading = is.leading;
      ahead = is.ahead;
      grew = is.grew;
    };
    asks = λ h c claim due is. record {
      ordered = is.ordered;
      kept = is.kept;
      asked = is.asked;
      numbers = is.numbers;
      majority = is.majority;
      opened = opened_asks n now c.opened m.me claim c.votes c.starts due is.opened;
      own = is.own;
      held = is.held;
      until = λ leased. (let first : now ≤ lease_end n c.starts = is.until leased in
          let second : lease_end n c.starts ≤ lease_end n (with_start c.starts m.me now) = until_rises premises n c.starts m.me now in omega arith);
      holders = is.holders;
      leading = is.leading;
      ahead = is.ahead;
      grew = is.grew;
    };
    counts = λ h c k start granted is. record {
      ordered = is.ordered;
      kept = is.kept;
      asked = is.asked;
      numbers = is.numbers;
      majority = is.majority;
      opened = opened_counts n now c.opened m.me k start granted c.votes c.starts is.opened;
      own = is.own;
      held = is.held;
      until = λ leased. (let first : now ≤ lease_end n c.starts = is.until leased in
          omega (arith, until_counts n now c.opened m.me k start granted c.votes c.starts premises));
      holders = is.holders;
      leading = is.leading;
      ahead = is.ahead;
      grew = is.grew;
    };
  }

  -- ---- polls

  drops : (h : History) (c : Stand) → lease ≡ false → I h c → I h (record c { phase = NoPhase })
  drops h c over is = record {
    ordered = is.ordered;
    kept = is.kept;
    asked = is.asked;
    numbers = is.numbers;
    majority = is.majority;
    opened = is.opened;
    own = numbers_dropped (IsAsked m.hosts h.packets m.me) c.opened now lease (number_of c.phase) over is.held is.own;
    held = tt;
    until = is.until;
    holders = tt;
    leading = λ leased. over_not over leased;
    ahead = λ leased. over_not over leased;
    grew = is.grew;
  }

  -- a number under which nobody has asked has no answers
  no_answers : (h : History) (c : Stand) (number : ℕ) → (IsAsked m.hosts h.packets m.me number → ⊥) → I h c →
      AnswersKeep n (At c.version) (λ k. IsAnswered m.hosts h.packets m.me k number) h.announced
  no_answers h c number none is = record {
    majority = is.majority;
    told = λ j v marked answered. absurd (none
        (subst (IsTo (IsAsked m.hosts h.packets m.me)) answered.4 (is.asked answered.0 m.me answered.1 answered.3)));
  }

  begun_keeps : (h : History) (c : Stand) (o : Option ℕ) → lease ≡ true → I h c →
      NumbersUpTo (IsAsked m.hosts h.packets m.me) c.opened now o → HeldInStep lease now o →
      PollKeeps n (At c.version) (IsAnswered m.hosts h.packets m.me) h.announced c.version o →
      PollKeeps n (At c.version) (IsAnswered m.hosts h.packets m.me) h.announced c.version (Some now)
  begun_keeps h c None leased is numbers held poll = inr (no_answers h c now (λ asked. by (numbers now asked)) is)
    where
      by : (now ≤ c.opened) ⊎ (now < now) → ⊥
      by (inl early) =
          let past : c.opened < now = past_opening premises n now c.opened c.votes c.starts some (is.until leased) is.opened in
          omega arith
      by (inr less) = omega arith
  begun_keeps h c (Some p) leased is numbers held poll = by (p == now) refl
    where
      by : (t : Bool) → (p == now) ≡ t →
          PollKeeps n (At c.version) (IsAnswered m.hosts h.packets m.me) h.announced c.version (Some now)
      by true same =
          subst (λ (q : ℕ). PollKeeps n (At c.version) (IsAnswered m.hosts h.packets m.me) h.announced c.version (Some q))
          (equal same) poll
        where
          equal : (p == now) ≡ true → p ≡ now
          equal same = grind (arith, nat_tests)
      by false other =
          inr (no_answers h c now
          (λ asked. let first : now ≤ p = numbers now asked in let second : p ≤ now = held.0 in let d : p ≡ now → ⊥ = differ other in
          d (omega arith)) is)
        where
          differ : (p == now) ≡ false → p ≡ now → ⊥
          differ other same = grind (arith, nat_tests)

  only_own : (h : History) (c : Stand) (j : ℕ) (v : Version) →
      slice_get (only_at (Some c.version) None n m.me) j ≡ Some (Some v) →
      IsCounted m.me c.version (λ i. IsAnswered m.hosts h.packets m.me i now) j v
  only_own h c j v get = by (only_get (Some c.version) None (Some v) n m.me j get)
    where
      by : ((j ≡ m.me) × (Some v ≡ Some c.version)) ⊎ (Some v ≡ None) →
          IsCounted m.me c.version (λ i. IsAnswered m.hosts h.packets m.me i now) j v
      by (inl w) =
          let same : v ≡ c.version = (let e : Some v ≡ Some c.version = w.1 in cc) in
          inl (w.0, subst (λ (x : Version). AtMost x c.version) (sym same) (at_most_same c.version))
      by (inr none) = absurd (cc)

  begins : (h : History) (c : Stand) → lease ≡ true → I h c → I h (record c { phase = Poll (poll_of m c now) })
  begins h c leased is = record {
    ordered = is.ordered;
    kept = is.kept;
    asked = is.asked;
    numbers = is.numbers;
    majority = is.majority;
    opened = is.opened;
    own = λ number asked. (let h : number ≤ C m.me = is.numbers m.me number asked in omega arith);
    held = (omega arith, λ over. over_not over leased);
    until = is.until;
    holders = only_length (Some c.version) None n m.me;
    leading = λ _. record {
      poll = begun_keeps h c (number_of c.phase) leased is is.own is.held (is.leading leased).poll;
      stands = only_own h c;
      serves = tt;
    };
    ahead = λ _. record { near = (is.ahead leased).near; greatest = λ sends. no sends; listed = λ sends. no sends };
    grew = is.grew;
  }

  answered_more : (h : History) (c : Stand) (k number : ℕ) (v : Version) → I h c → Answered k number v →
      IsAnswered m.hosts h.packets m.me k number v
  answered_more h c k number v is w = (w.0, is.grew.more w.0 w.1, w.2, w.3, w.4)

  answers_in : (h : History) (c : Stand) (poll : Polled) (k : ℕ) (v : Version) → Answered k poll.number v →
      I h (record c { phase = Poll poll }) → I h (record c { phase = Poll (with_answer poll k v) })
  answers_in h c poll k v answer is = record {
    ordered = is.ordered;
    kept = is.kept;
    asked = is.asked;
    numbers = is.numbers;
    majority = is.majority;
    opened = is.opened;
    own = is.own;
    held = is.held;
    until = is.until;
    holders = set_length poll.answers k (Some v) ∙ is.holders;
    leading = λ leased. record {
      poll = (is.leading leased).poll;
      stands = λ j x get. by leased j x (set_get poll.answers k j (Some v) (Some x) get);
      serves = tt;
    };
    ahead = λ leased. record { near = (is.ahead leased).near; greatest = λ sends. no sends; listed = λ sends. no sends };
    grew = is.grew;
  }
    where
      by : lease ≡ true → (j : ℕ) (x : Version) → ((j ≡ k) × (Some x ≡ Some v)) ⊎ (slice_get poll.answers j ≡ Some (Some x)) →
          IsCounted m.me c.version (λ i. IsAnswered m.hosts h.packets m.me i poll.number) j x
      by leased j x (inl w) =
          let same : x ≡ v = (let e : Some x ≡ Some v = w.1 in cc) in
          inr (subst (λ (i : ℕ). IsAnswered m.hosts h.packets m.me i poll.number x) (sym w.0)
          (subst (λ (u : Version). IsAnswered m.hosts h.packets m.me k poll.number u) (sym same)
          (answered_more h (record c { phase = Poll poll }) k poll.number v is answer)))
      by leased j x (inr old) = (is.leading leased).stands j x old

  -- a majority of answers meets the majority that keeps the last announced version
  best_reaches : (h : History) (c : Stand) (poll : Polled) → lease ≡ true → is_majority n (map is_some poll.answers) ≡ true →
      I h (record c { phase = Poll poll }) →
      AtMost (last_announced h.announced) c.version ⊎ AtMost (last_announced h.announced) (best_answer poll)
  best_reaches h c poll leased most is = by (is.leading leased).poll
    where
      A : Version
      A = last_announced h.announced

      told : (j : ℕ) (v : Version) → slice_get poll.answers j ≡ Some (Some v) →
          AtMost (last_announced h.announced) (version_at V m.me c.version j) →
          (IsAnswered m.hosts h.packets m.me j poll.number v → AtMost (last_announced h.announced) v) →
          IsCounted m.me c.version (λ i. IsAnswered m.hosts h.packets m.me i poll.number) j v →
          AtMost (last_announced h.announced) c.version ⊎ AtMost (last_announced h.announced) (best_answer poll)
      told j v get keeps least (inl w) =
          inl (subst (AtMost (last_announced h.announced))
          (ap (version_at V m.me c.version) w.0 ∙ at_own c.version) keeps)
      told j v get keeps least (inr answered) =
          inr (at_most_then (last_announced h.announced) v (best_answer poll) (least answered) (best_above zero_version poll.answers j v get))

      by : AtMost (last_announced h.announced) c.version
          ⊎ AnswersKeep n (At c.version) (λ k. IsAnswered m.hosts h.packets m.me k poll.number) h.announced →
          AtMost (last_announced h.announced) c.version ⊎ AtMost (last_announced h.announced) (best_answer poll)
      by (inl reached) = inl reached
      by (inr keep) =
          let shared : SharesServer keep.majority.set (map is_some poll.answers) =
          premises.overlap n keep.majority.set (map is_some poll.answers) keep.majority.each (length-map poll.answers is_some ∙ is.holders)
          (most_is n keep.majority.set keep.majority.most) (most_is n (map is_some poll.answers) most) in
          let answer = answer_at poll.answers shared.0 shared.2 in
          told shared.0 answer.0 answer.1 (keep.majority.keeps shared.0 shared.1) (keep.told shared.0 answer.0 shared.1)
          ((is.leading leased).stands shared.0 answer.0 answer.1)

  fetches_in : (h : History) (c : Stand) (poll : Polled) (k : ℕ) → lease ≡ true → is_majority n (map is_some poll.answers) ≡ true →
      version_lt c.version (best_answer poll) ≡ true → I h (record c { phase = Poll poll }) →
      I h (record c { phase = Fetch poll (best_answer poll) k })
  fetches_in h c poll k leased most less is = record {
    ordered = is.ordered;
    kept = is.kept;
    asked = is.asked;
    numbers = is.numbers;
    majority = is.majority;
    opened = is.opened;
    own = is.own;
    held = is.held;
    until = is.until;
    holders = tt;
    leading = λ _. record { poll = (is.leading leased).poll; stands = by (best_reaches h c poll leased most is); serves = tt };
    ahead = λ _. record { near = (is.ahead leased).near; greatest = λ sends. no sends; listed = λ sends. no sends };
    grew = is.grew;
  }
    where
      by : AtMost (last_announced h.announced) c.version ⊎ AtMost (last_announced h.announced) (best_answer poll) →
          AtMost (last_announced h.announced) (best_answer poll)
      by (inl reached) =
          at_most_then (last_announced h.announced) c.version (best_answer poll) reached (at_most_lt c.version (best_answer poll) less)
      by (inr best) = best

  relabel_in : (h : History) (c : Stand) (phase : PhaseRecord) (poll : Polled) → lease ≡ true → number_of phase ≡ Some poll.number →
      AtMost (last_announced h.announced) c.version → I h (record c { phase = phase }) → I h (record c { phase = Relabel poll })
  relabel_in h c phase poll leased numbered reached is = record {
    ordered = is.ordered;
    kept = is.kept;
    asked = is.asked;
    numbers = is.numbers;
    majority = is.majority;
    opened = is.opened;
    own = subst (NumbersUpTo (IsAsked m.hosts h.packets m.me) c.opened now) numbered is.own;
    held = subst (HeldInStep lease now) numbered is.held;
    until = is.until;
    holders = tt;
    leading = λ _. record { poll = inl reached; stands = reached; serves = tt };
    ahead = λ _. record { near = (is.ahead leased).near; greatest = λ sends. no sends; listed = λ sends. no sends };
    grew = is.grew;
  }

  suffices_in : (h : History) (c : Stand) (poll : Polled) → lease ≡ true → is_majority n (map is_some poll.answers) ≡ true →
      version_lt c.version (best_answer poll) ≡ false → I h (record c { phase = Poll poll }) → I h (record c { phase = Relabel poll })
  suffices_in h c poll leased most least is =
      relabel_in h c (Poll poll) poll leased refl (by (best_reaches h c poll leased most is)) is
    where
      by : AtMost (last_announced h.announced) c.version ⊎ AtMost (last_announced h.announced) (best_answer poll) →
          AtMost (last_announced h.announced) c.version
      by (inl reached) = reached
      by (inr best) =
          at_most_then (last_announced h.announced) (best_answer poll) c.version best (at_most_not c.version (best_answer poll) least)

  pub poll_moves : PollMoves m now lease Answered I
  poll_moves = record {
    drops = drops;
    begins = begins;
    answers = λ h c poll k v leased at answer is. answers_in h c poll k v answer (in_phase h c (Poll poll) at is);
    fetches = λ h c poll k leased at most less is. fetches_in h c poll k leased most less (in_phase h c (Poll poll) at is);
    suffices = λ h c poll leased at most least is. suffices_in h c poll leased most least (in_phase h c (Poll poll) at is);
    fetched = λ h c poll best k leased at least is.
        let here : I h (record c { phase = Fetch poll best k }) = in_phase h c (Fetch poll best k) at is in
        relabel_in h c (Fetch poll best k) poll leased refl
        (at_most_then (last_announced h.announced) best c.version (here.leading leased).stands (at_most_not c.version best least)) here;
  }

  -- ---- versions

  grown_on : (h : History) (v w : Version) → AtMost v w → HasGrown m lease V before h.announced h.packets v →
      HasGrown m lease V before h.announced h.packets w
  grown_on h v w more is =
      record { more = is.more; asked = is.asked; told = is.told; past = at_most_then (V m.me) v w is.past more; still = is.still }

  rises : (h : History) (c : Stand) (v : Version) → is_sending c.phase ≡ false → version_lt c.version v ≡ true → I h c →
      I h (record c { version = v })
  rises h c v idle less is = record {
    ordered = is.ordered;
    kept = kept_map m.hosts h.packets (At c.version) (At v) (at_more c.version v more) is.kept;
    asked = is.asked;
    numbers = is.numbers;
    majority = majority_map n (At c.version) (At v) h.announced (at_more c.version v more) is.majority;
    opened = is.opened;
    own = is.own;
    held = is.held;
    until = is.until;
    holders = idle_keeps n (At c.version) (At v) c.version v c.phase idle is.holders;
    leading = λ leased. record {
      poll =
          leads_on n (At c.version) (At v) (IsAnswered m.hosts h.packets m.me) h.announced c.version v (number_of c.phase) more
          (at_more c.version v more) (is.leading leased).poll;
      stands = stands_rise m.me (IsAnswered m.hosts h.packets m.me) h.announced c.version v c.phase more (is.leading leased).stands;
      serves = (is.leading leased).serves;
    };
    ahead = λ leased. record {
      near =
          versions_map (λ b. AtMost b.version c.version ⊎ (b.version.epoch < now)) (λ b. AtMost b.version v ⊎ (b.version.epoch < now)) h.book
          nearer (is.ahead leased).near;
      greatest = λ sends. no (sym idle ∙ sends);
      listed = λ sends. no (sym idle ∙ sends);
    };
    grew = grown_on h c.version v more is.grew;
  }
    where
      more : AtMost c.version v
      more = at_most_lt c.version v less

      nearer : (b : BookVersion) → AtMost b.version c.version ⊎ (b.version.epoch < now) → AtMost b.version v ⊎ (b.version.epoch < now)
      nearer b (inl at) = inl (at_most_then b.version c.version v at more)
      nearer b (inr less) = inr less

  -- a new version on the own one
  made : (h : History) (c : Stand) (b : BookVersion) → b.before ≡ c.version → AtMost (last_announced h.announced) c.version →
      IsOrdered h.book h.announced → IsOrdered (b ∷ h.book) h.announced
  made h c b on reached is = record {
    listed = announced_map (IsListed h.book) (IsListed (b ∷ h.book)) h.announced (λ u. listed_more h.book b u) is.listed;
    rise = is.rise;
    follow =
        announced_two (λ u. AtMost u (last_announced h.announced)) (FollowFrom h.book) (FollowFrom (b ∷ h.book)) h.announced
        (λ u last follow.
        (λ _. subst (AtMost u) (sym on) (at_most_then u (last_announced h.announced) c.version last reached), follow))
        (all_at_most h.announced is.rise) is.follow;
  }

  alone : (v : Version) → HoldersKeep n (At v) v (only_holder m)
  alone v = record { each = only_length true false n m.me; keep = λ j get. by j (only_get true false true n m.me j get) }
    where
      by : (j : ℕ) → ((j ≡ m.me) × (true ≡ true)) ⊎ (true ≡ false) → AtMost v (version_at V m.me v j)
      by j (inl w) =
          subst (AtMost v) (sym (ap (version_at V m.me v) w.0 ∙ at_own v)) (at_most_same v)
      by j (inr is) = no (sym is)

  abbrev relabelled_book : History → Version → Book
  relabelled_book h v =
      record { version = first_of_epoch now; before = v; transaction = None; maker = m.me; transactions = list_or_none h.book v } ∷ h.book

  relabels_in : (h : History) (c : Stand) (poll : Polled) → lease ≡ true → c.version.epoch < now → I h (record c { phase = Relabel poll }) →
      I (with_book h (relabelled_book h c.version))
      (record c { version = first_of_epoch now; phase = Send poll (record { old = c.version; holders = only_holder m }) })
  relabels_in h c poll leased past is = record {
    ordered =
        made h c (record {
          version = first_of_epoch now;
          before = c.version;
          transaction = None;
          maker = m.me;
          transactions = list_or_none h.book c.version;
        }) refl (is.leading leased).stands is.ordered;
    kept = kept_map m.hosts h.packets (At c.version) (At (first_of_epoch now)) (at_more c.version (first_of_epoch now) more) is.kept;
    asked = is.asked;
    numbers = is.numbers;
    majority =
        majority_map n (At c.version) (At (first_of_epoch now)) h.announced (at_more c.version (first_of_epoch now) more) is.majority;
    opened = is.opened;
    own = is.own;
    held = is.held;
    until = is.until;
    holders = alone (first_of_epoch now);
    leading = λ _. record { poll = inl reached; stands = reached; serves = tt };
    ahead = λ _. record {
      near = (
        inl (at_most_same (first_of_epoch now)),
        versions_map Near (λ b. AtMost b.version (first_of_epoch now) ⊎ (b.version.epoch < now)) h.book (λ b at. inl (below b at))
            (is.ahead leased).near,
      );
      greatest = λ _. (
        at_most_same (first_of_epoch now),
        versions_map Near (λ b. AtMost b.version (first_of_epoch now)) h.book below (is.ahead leased).near,
      );
      listed = λ _. (
        list_or_none h.book c.version,
        newest (record {
          version = first_of_epoch now;
          before = c.version;
          transaction = None;
          maker = m.me;
          transactions = list_or_none h.book c.version;
        }) h.book,
      );
    };
    grew = grown_on h c.version (first_of_epoch now) more is.grew;
  }
    where
      Near : BookVersion → Type 0
      Near b = AtMost b.version c.version ⊎ (b.version.epoch < now)

      more : AtMost c.version (first_of_epoch now)
      more = inl past

      reached : AtMost (last_announced h.announced) (first_of_epoch now)
      reached = at_most_then (last_announced h.announced) c.version (first_of_epoch now) (is.leading leased).stands more

      below : (b : BookVersion) → AtMost b.version c.version ⊎ (b.version.epoch < now) → AtMost b.version (first_of_epoch now)
      below b (inl at) = at_most_then b.version c.version (first_of_epoch now) at more
      below b (inr less) = inl less

  abbrev committed_page : History → Version → Transaction → BookVersion
  committed_page h v t =
      record { version = next_version v; before = v; transaction = Some t; maker = m.me; transactions = list_or_none h.book v ++ t ∷ [] }

  commits_in : (h : History) (c : Stand) (poll : Polled) (spread : Spread) (announced : Version) (t : Transaction) → lease ≡ true →
      c.version ≡ announced →
      I h (record c { phase = Ready poll spread announced }) →
      I (with_book h (committed_page h c.version t ∷ h.book))
      (record c { version = next_version c.version; phase = Ready poll (record spread { holders = only_holder m }) c.version })
  commits_in h c poll spread announced t leased level is = record {
    ordered = made h c (committed_page h c.version t) refl (is.leading leased).stands is.ordered;
    kept = kept_map m.hosts h.packets (At c.version) (At (next_version c.version)) (at_more c.version (next_version c.version) more) is.kept;
    asked = is.asked;
    numbers = is.numbers;
    majority =
        majority_map n (At c.version) (At (next_version c.version)) h.announced (at_more c.version (next_version c.version) more) is.majority;
    opened = is.opened;
    own = is.own;
    held = is.held;
    until = is.until;
    holders = alone (next_version c.version);
    leading = λ _. record { poll = inl reached; stands = reached; serves = last };
    ahead = λ _. record {
      near = (
        inl (at_most_same (next_version c.version)),
        versions_map (λ b. AtMost b.version c.version)
            (λ b. AtMost b.version (next_version c.version) ⊎ (b.version.epoch < now)) h.book
            (λ b at. inl (at_most_then b.version c.version (next_version c.version) at more)) ((is.ahead leased).greatest refl),
      );
      greatest = λ _. (
        at_most_same (next_version c.version),
        versions_map (λ b. AtMost b.version c.version) (λ b. AtMost b.version (next_version c.version)) h.book
            (λ b at. at_most_then b.version c.version (next_version c.version) at more) ((is.ahead leased).greatest refl),
      );
      listed = λ _. (list_or_none h.book c.version ++ t ∷ [], newest (committed_page h c.version t) h.book);
    };
    grew = grown_on h c.version (next_version c.version) more is.grew;
  }
    where
      last : IsLast h.announced c.version
      last = subst (IsLast h.announced) (sym level) (is.leading leased).serves

      more : AtMost c.version (next_version c.version)
      more = inr (refl, omega arith)

      reached : AtMost (last_announced h.announced) (next_version c.version)
      reached = at_most_then (last_announced h.announced) c.version (next_version c.version) (is.leading leased).stands more

  -- ---- holders

  kept_at : (k : ℕ) (v : Version) → AtMost v (V k) → AtMost v (version_at V m.me v k)
  kept_at k v is = by (k == m.me)
    where
      by : (t : Bool) → AtMost v (cond t v (V k))
      by true = at_most_same v
      by false = is

  held_more : (spread : Spread) (v : Version) (k : ℕ) → AtMost v (V k) → HoldersKeep n (At v) v spread.holders →
      HoldersKeep n (At v) v (with_holder spread k).holders
  held_more spread v k is all = record {
    each = set_length spread.holders k true ∙ all.each;
    keep = λ j get. by j (set_get spread.holders k j true true get);
  }
    where
      by : (j : ℕ) → ((j ≡ k) × (true ≡ true)) ⊎ (slice_get spread.holders j ≡ Some true) → AtMost v (version_at V m.me v j)
      by j (inl w) = subst (λ (i : ℕ). AtMost v (version_at V m.me v i)) (sym w.0) (kept_at k v is)
      by j (inr old) = all.keep j old

  holds_in : (h : History) (c : Stand) (k : ℕ) (phase : PhaseRecord) → AtMost c.version (V k) → I h (record c { phase = phase }) →
      I h (record c { phase = held_by phase k })
  holds_in h c k NoPhase kept is = is
  holds_in h c k (Poll poll) kept is = is
  holds_in h c k (Fetch poll best host) kept is = is
  holds_in h c k (Relabel poll) kept is = is
  holds_in h c k (Send poll spread) kept is = record {
    ordered = is.ordered;
    kept = is.kept;
    asked = is.asked;
    numbers = is.numbers;
    majority = is.majority;
    opened = is.opened;
    own = is.own;
    held = is.held;
    until = is.until;
    holders = held_more spread c.version k kept is.holders;
    leading = λ leased. record {
      poll = (is.leading leased).poll;
      stands = (is.leading leased).stands;
      serves = (is.leading leased).serves;
    };
    ahead = λ leased. record { near = (is.ahead leased).near; greatest = (is.ahead leased).greatest; listed = (is.ahead leased).listed };
    grew = is.grew;
  }
  holds_in h c k (Ready poll spread announced) kept is = record {
    ordered = is.ordered;
    kept = is.kept;
    asked = is.asked;
    numbers = is.numbers;
    majority = is.majority;
    opened = is.opened;
    own = is.own;
    held = is.held;
    until = is.until;
    holders = held_more spread c.version k kept is.holders;
    leading = λ leased. record {
      poll = (is.leading leased).poll;
      stands = (is.leading leased).stands;
      serves = (is.leading leased).serves;
    };
    ahead = λ leased. record { near = (is.ahead leased).near; greatest = (is.ahead leased).greatest; listed = (is.ahead leased).listed };
    grew = is.grew;
  }

  -- ---- announcements

  -- a leader that sends announces its own version
  announced_in : (h : History) (c : Stand) (phase : PhaseRecord) (poll : Polled) (spread : Spread) → lease ≡ true →
      is_sending phase ≡ true → number_of phase ≡ Some poll.number → is_majority n spread.holders ≡ true →
      HoldersKeep n (At c.version) c.version spread.holders → AtMost (last_announced h.announced) c.version →
      I h (record c { phase = phase }) →
      I (record h { announced = c.version ∷ h.announced }) (record c { phase = Ready poll spread c.version })
  announced_in h c phase poll spread leased sends numbered most holders reached is = record {
    ordered = record {
      listed = ((is.ahead leased).listed sends, is.ordered.listed);
      rise = (
        announced_map (λ u. AtMost u (last_announced h.announced)) (λ u. AtMost u c.version) h.announced
            (λ u last. at_most_then u (last_announced h.announced) c.version last reached) (all_at_most h.announced is.ordered.rise),
        is.ordered.rise,
      );
      follow = (
        versions_map (λ b. AtMost b.version c.version) (λ b. version_lt c.version b.version ≡ true → AtMost c.version b.before) h.book
            (λ b at less. absurd (not_above c.version b.version at less)) ((is.ahead leased).greatest sends),
        is.ordered.follow,
      );
    };
    kept = is.kept;
    asked = is.asked;
    numbers = is.numbers;
    majority = record { set = spread.holders; each = holders.each; most = most; keeps = holders.keep };
    opened = is.opened;
    own = subst (NumbersUpTo (IsAsked m.hosts h.packets m.me) c.opened now) numbered is.own;
    held = subst (HeldInStep lease now) numbered is.held;
    until = is.until;
    holders = holders;
    leading = λ _. record { poll = inl (at_most_same c.version); stands = at_most_same c.version; serves = refl };
    ahead = λ _. record {
      near = (is.ahead leased).near;
      greatest = λ _. (is.ahead leased).greatest sends;
      listed = λ _. (is.ahead leased).listed sends;
    };
    grew = record {
      more = is.grew.more;
      asked = is.grew.asked;
      told = is.grew.told;
      past = is.grew.past;
      still = λ over. over_not over leased;
    };
  }

  pub version_moves : VersionMoves m now lease Kept I
  version_moves = record {
    rises = rises;
    relabels = λ h c poll leased at past is. relabels_in h c poll leased past (in_phase h c (Relabel poll) at is);
    commits = λ h c poll spread announced t leased at level is.
        commits_in h c poll spread announced t leased level (in_phase h c (Ready poll spread announced) at is);
    holds = λ h c k kept is. holds_in h c k c.phase kept is;
    announces = λ h c poll spread leased at most is.
        let here : I h (record c { phase = Send poll spread }) = in_phase h c (Send poll spread) at is in
        announced_in h c (Send poll spread) poll spread leased refl refl most here.holders (here.leading leased).stands here;
    ends = λ h c poll spread announced leased at most is.
        let here : I h (record c { phase = Ready poll spread announced }) = in_phase h c (Ready poll spread announced) at is in
        announced_in h c (Ready poll spread announced) poll spread leased refl refl most here.holders (here.leading leased).stands here;
  }
