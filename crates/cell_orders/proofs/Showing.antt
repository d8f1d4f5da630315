-- What is put out keeps what holds in the midst of a step; and so do all moves.
use Rattle.std.proofs.Common.{Bool, true, ◌≡◌, ◌⊎◌, inl, inr, ℕ, ◌<◌, ◌≤◌, List, [], ◌∷◌, ◌++◌}
use Rattle.std.proofs.Common.{refl, sym, ap, subst, ◌∙◌, arith}
use Rattle.std.specs.Prelude.{Option, Some, None, slice_get}
use Rattle.ubik_types.specs.declared.versions.Version.{Version}
use Rattle.ubik_types.specs.Phase.{PhaseRecord, NoPhase, Poll, Fetch, Relabel, Send, Ready}
use Rattle.ubik_calls.specs.declared.packets.Body.{Body}
use Rattle.ubik_calls.specs.declared.packets.Body.TheVariants as body
use Rattle.ubik_calls.specs.declared.packets.Packet.{Packet}
use Rattle.cell_model.specs.NodeRule.{place_of}
use Rattle.cell_model.specs.Step.{Member, cell_size, Shown, host_at}
use Rattle.cell_model.specs.World.{packets_of}
use Rattle.cell_pages.specs.Parts.{AtMost}
use Rattle.cell_pages.proofs.Versions.{at_most_same}
use Rattle.cell_orders.specs.Histories.{Stand, History, with_shown, number_of, IsNumbered, BodyFits, FitsTo, AllFit}
use Rattle.cell_orders.specs.Midst.{version_at, HeldInStep, HasGrown, MidStep}
use Rattle.cell_orders.specs.OrderMoves.{OrderMoves}
use Rattle.cell_orders.specs.Orders.{last_announced, WasSent}
use Rattle.cell_orders.specs.Orders.{AsksUnder, IsAsked, IsAnswered, NamesAtMost, KeptIsKept, IsTo, AnswersAsked, NumbersPast, Premises}
use Rattle.cell_orders.specs.Orders.{NumbersUpTo, PollKeeps, IsCounted, LeaderStands, IsLast, ServesLast}
use Rattle.cell_orders.proofs.Orderings.{sent_left, sent_cases, shown_fits, nothing_announced, answers_map}
use Rattle.cell_orders.proofs.Moving as moving

serves_last : (announced : List Version) (own v : Version) → IsLast announced v → AtMost (last_announced announced) own →
    IsLast announced v × AtMost v own
serves_last [] own v last most = absurd last
serves_last (u ∷ earlier) own v last most = (last, subst (λ (x : Version). AtMost x own) last most)

-- ---- packets that are put out

to_more : (A B : ℕ → Type 0) (b : Body) → ((number : ℕ) → A number → B number) → IsTo A b → IsTo B b
to_more A B (body.VersionIs number v) f is = f number is
to_more A B _ f is = tt

-- who asks under a number holds a poll of it
asks_numbered : (Asked : ℕ → Type 0) (c : Stand) (number : ℕ) (b : Body) → AsksUnder number b → BodyFits Asked c b →
    IsNumbered c.phase number
asks_numbered Asked c number (body.GetVersion poll) same fits = subst (IsNumbered c.phase) same fits
asks_numbered Asked c number (body.GetPiece poll version offset) same fits = subst (IsNumbered c.phase) same fits
asks_numbered Asked c number (body.SetVersion poll old new) same fits = subst (IsNumbered c.phase) same fits
asks_numbered Asked c number (body.SendPiece poll version total offset bytes) same fits = subst (IsNumbered c.phase) same fits
asks_numbered Asked c number _ same fits = absurd same

names_own : (Asked : ℕ → Type 0) (c : Stand) (b : Body) → BodyFits Asked c b → NamesAtMost c.version b
names_own Asked c (body.VersionIs number v) fits = subst (λ (x : Version). AtMost x c.version) (sym fits.0) (at_most_same c.version)
names_own Asked c (body.VersionKept v) fits = subst (λ (x : Version). AtMost x c.version) (sym fits) (at_most_same c.version)
names_own Asked c _ fits = tt

to_asked : (Asked : ℕ → Type 0) (c : Stand) (b : Body) → BodyFits Asked c b → IsTo Asked b
to_asked Asked c (body.VersionIs number v) fits = fits.1
to_asked Asked c _ fits = tt

held_now : (lease : Bool) (now number : ℕ) (o : Option ℕ) → HeldInStep lease now o → o ≡ Some number → number ≤ now
held_now lease now number None held is = absurd (cc)
held_now lease now number (Some poll) held is = let same : poll ≡ number = cc in let h : poll ≤ now = held.0 in omega arith

module _ (m : Member) (now : ℕ) (lease : Bool) (V : ℕ → Version) (C : ℕ → ℕ) (before : History) (some : 0 < now)
    (premises : Premises) (clock : C m.me ≡ now) (own_place : place_of m.hosts (host_at m.hosts m.me) ≡ Some m.me) where
  abbrev I : History → Stand → Type 0
  I h c = MidStep m now lease V C before h c

  abbrev n : ℕ
  n = cell_size m

  abbrev At : Version → ℕ → Version
  At v = version_at V m.me v

  abbrev pub Asked : ℕ → ℕ → Type 0
  Asked j number = IsAsked m.hosts before.packets j number

  abbrev pub Answered : ℕ → ℕ → Version → Type 0
  Answered k number v = IsAnswered m.hosts before.packets m.me k number v

  abbrev pub Kept : ℕ → Version → Type 0
  Kept k v = AtMost v (V k)

  at_own : (v : Version) → version_at V m.me v m.me ≡ v
  at_own = moving.at_own m now lease V C before some premises clock own_place

  -- ---- packets are put out

  asked_more : (h : History) (more : List Packet) (j number : ℕ) → IsAsked m.hosts h.packets j number →
      IsAsked m.hosts (h.packets ++ more) j number
  asked_more h more j number w = (w.0, sent_left h.packets more w.0 w.1, w.2, w.3)

  module _ (h : History) (c : Stand) (shown : List Shown) (all : AllFit m Asked c shown) (is : I h c) where
    abbrev packets : List Packet
    packets = h.packets ++ packets_of shown

    -- a packet is an old one, or fits
    old_or_new : (p : Packet) → WasSent packets p →
        WasSent h.packets p ⊎ ((p.from ≡ host_at m.hosts m.me) × FitsTo m.hosts Asked c p.to p.body)
    old_or_new p sent = by (sent_cases h.packets (packets_of shown) p sent)
      where
        by : WasSent h.packets p ⊎ WasSent (packets_of shown) p →
            WasSent h.packets p ⊎ ((p.from ≡ host_at m.hosts m.me) × FitsTo m.hosts Asked c p.to p.body)
        by (inl old) = inl old
        by (inr new) = inr (shown_fits m Asked c shown p all new)

    mine : (p : Packet) (j : ℕ) → p.from ≡ host_at m.hosts m.me → place_of m.hosts p.from ≡ Some j → j ≡ m.me
    mine p j from place =
        let other : place_of m.hosts p.from ≡ Some m.me = ap (place_of m.hosts) from ∙ own_place in
        cc

    abbrev AskedNow : ℕ → ℕ → Type 0
    AskedNow = IsAsked m.hosts (h.packets ++ packets_of shown)

    abbrev AnsweredNow : ℕ → ℕ → Version → Type 0
    AnsweredNow = IsAnswered m.hosts (h.packets ++ packets_of shown) m.me

    kept_shown : KeptIsKept m.hosts packets (At c.version)
    kept_shown p j sent place = by (old_or_new p sent)
      where
        by : WasSent h.packets p ⊎ ((p.from ≡ host_at m.hosts m.me) × FitsTo m.hosts Asked c p.to p.body) →
            NamesAtMost (version_at V m.me c.version j) p.body
        by (inl old) = is.kept p j old place
        by (inr new) =
            subst (λ (v : Version). NamesAtMost v p.body)
            (sym (ap (version_at V m.me c.version) (mine p j new.0 place) ∙ at_own c.version))
            (names_own _ c p.body new.1)

    asked_shown : AnswersAsked m.hosts packets
    asked_shown p j sent place = by (old_or_new p sent)
      where
        by : WasSent h.packets p ⊎ ((p.from ≡ host_at m.hosts m.me) × FitsTo m.hosts Asked c p.to p.body) →
            IsTo (IsAsked m.hosts (h.packets ++ packets_of shown) j) p.body
        by (inl old) =
            to_more (IsAsked m.hosts h.packets j) (AskedNow j) p.body (λ number w. asked_more h (packets_of shown) j number w)
            (is.asked p j old place)
        by (inr new) =
            to_more (λ number. (i : ℕ) → place_of m.hosts p.to ≡ Some i → Asked i number) (AskedNow j) p.body
            (λ number asked. let w : Asked j number = asked j place in
            (w.0, sent_left h.packets (packets_of shown) w.0 (is.grew.more w.0 w.1), w.2, w.3))
            (to_asked _ c p.body new.1)

    -- under which numbers it has asked: old ones, and that of the poll
    asked_or_poll : (j number : ℕ) → AskedNow j number → IsAsked m.hosts h.packets j number ⊎ ((j ≡ m.me) × IsNumbered c.phase number)
    asked_or_poll j number w = by (old_or_new w.0 w.1)
      where
        by : WasSent h.packets w.0 ⊎ ((w.0.from ≡ host_at m.hosts m.me) × FitsTo m.hosts Asked c w.0.to w.0.body) →
            IsAsked m.hosts h.packets j number ⊎ ((j ≡ m.me) × IsNumbered c.phase number)
        by (inl old) = inl (w.0, old, w.2, w.3)
        by (inr new) = inr (mine w.0 j new.0 w.2, asks_numbered _ c number w.0.body w.3 new.1)

    numbers_shown : NumbersPast m.hosts packets C
    numbers_shown j number asked = by (asked_or_poll j number asked)
      where
        by : IsAsked m.hosts h.packets j number ⊎ ((j ≡ m.me) × IsNumbered c.phase number) → number ≤ C j
        by (inl old) = is.numbers j number old
        by (inr new) =
            let first : number ≤ now = held_now lease now number (number_of c.phase) is.held new.1 in
            subst (λ (i : ℕ). number ≤ C i) (sym new.0) (omega arith)

    own_shown : (o : Option ℕ) → o ≡ number_of c.phase → NumbersUpTo (IsAsked m.hosts h.packets m.me) c.opened now o →
        NumbersUpTo (AskedNow m.me) c.opened now o
    own_shown None at numbers = λ number asked. by number (asked_or_poll m.me number asked)
      where
        by : (number : ℕ) → IsAsked m.hosts h.packets m.me number ⊎ ((m.me ≡ m.me) × IsNumbered c.phase number) →
            (number ≤ c.opened) ⊎ (number < now)
        by number (inl old) = numbers number old
        by number (inr new) = absurd (let none : None ≡ Some number = at ∙ new.1 in cc)
    own_shown (Some poll) at numbers = λ number asked. by number (asked_or_poll m.me number asked)
      where
        by : (number : ℕ) → IsAsked m.hosts h.packets m.me number ⊎ ((m.me ≡ m.me) × IsNumbered c.phase number) → number ≤ poll
        by number (inl old) = numbers number old
        by number (inr new) = let same : poll ≡ number = (let e : Some poll ≡ Some number = at ∙ new.1 in cc) in omega arith

    names : (p : Packet) {number : ℕ} {v : Version} (b : Body) → b ≡ body.VersionIs number v → FitsTo m.hosts Asked c p.to b → v ≡ c.version
    names p b same fits = (subst (FitsTo m.hosts Asked c p.to) same fits).0

    -- an answer to this server is an old one, or names its own version
    answered_or_own : (j number : ℕ) (v : Version) → AnsweredNow j number v →
        IsAnswered m.hosts h.packets m.me j number v ⊎ ((j ≡ m.me) × (v ≡ c.version))
    answered_or_own j number v w = by (old_or_new w.0 w.1)
      where
        by : WasSent h.packets w.0 ⊎ ((w.0.from ≡ host_at m.hosts m.me) × FitsTo m.hosts Asked c w.0.to w.0.body) →
            IsAnswered m.hosts h.packets m.me j number v ⊎ ((j ≡ m.me) × (v ≡ c.version))
        by (inl old) = inl (w.0, old, w.2, w.3, w.4)
        by (inr new) = inr (mine w.0 j new.0 w.2, names w.0 w.0.body w.4 new.1)

    poll_shown : (o : Option ℕ) → PollKeeps n (At c.version) (IsAnswered m.hosts h.packets m.me) h.announced c.version o →
        PollKeeps n (At c.version) AnsweredNow h.announced c.version o
    poll_shown None keeps = tt
    poll_shown (Some p) (inl reached) = inl reached
    poll_shown (Some p) (inr keep) =
        inr (answers_map n (At c.version) (At c.version) (λ k. IsAnswered m.hosts h.packets m.me k p) (λ k. AnsweredNow k p) h.announced
        (λ j. at_most_same (At c.version j)) keep (λ j v marked answered. by j v marked (answered_or_own j p v answered)))
      where
        by : (j : ℕ) (v : Version) → slice_get keep.majority.set j ≡ Some true →
            IsAnswered m.hosts h.packets m.me j p v ⊎ ((j ≡ m.me) × (v ≡ c.version)) → AtMost (last_announced h.announced) v
        by j v marked (inl old) = keep.told j v marked old
        by j v marked (inr new) =
            subst (AtMost (last_announced h.announced)) (ap (version_at V m.me c.version) new.0 ∙ at_own c.version ∙ sym new.1)
            (keep.majority.keeps j marked)

    stands_shown : (phase : PhaseRecord) → LeaderStands m.me (IsAnswered m.hosts h.packets m.me) h.announced c.version phase →
        LeaderStands m.me AnsweredNow h.announced c.version phase
    stands_shown NoPhase stands = tt
    stands_shown (Poll poll) stands = λ j v get. by j v (stands j v get)
      where
        by : (j : ℕ) (v : Version) → IsCounted m.me c.version (λ i. IsAnswered m.hosts h.packets m.me i poll.number) j v →
            IsCounted m.me c.version (λ i. IsAnswered m.hosts (h.packets ++ packets_of shown) m.me i poll.number) j v
        by j v (inl own) = inl own
        by j v (inr w) = inr (w.0, sent_left h.packets (packets_of shown) w.0 w.1, w.2, w.3, w.4)
    stands_shown (Fetch poll best host) stands = stands
    stands_shown (Relabel poll) stands = stands
    stands_shown (Send poll spread) stands = stands
    stands_shown (Ready poll spread announced) stands = stands

    grew_shown : HasGrown m lease V before h.announced (h.packets ++ packets_of shown) c.version
    grew_shown = record {
      more = λ p sent. sent_left h.packets (packets_of shown) p (is.grew.more p sent);
      asked = λ j number other asked. asks j number other (asked_or_poll j number asked);
      told = λ j k number v w. tells j k number v w (old_or_new w.0 w.1);
      past = is.grew.past;
      still = is.grew.still;
    }
      where
        asks : (j number : ℕ) → (j ≡ m.me → ⊥) → IsAsked m.hosts h.packets j number ⊎ ((j ≡ m.me) × IsNumbered c.phase number) →
            IsAsked m.hosts before.packets j number
        asks j number other (inl old) = is.grew.asked j number other old
        asks j number other (inr new) = absurd (other new.0)

        tells : (j k number : ℕ) (v : Version) (w : IsAnswered m.hosts (h.packets ++ packets_of shown) j k number v) →
            WasSent h.packets w.0 ⊎ ((w.0.from ≡ host_at m.hosts m.me) × FitsTo m.hosts Asked c w.0.to w.0.body) →
            IsAnswered m.hosts before.packets j k number v ⊎ ((k ≡ m.me) × AtMost (V m.me) v)
        tells j k number v w (inl old) = is.grew.told j k number v (w.0, old, w.2, w.3, w.4)
        tells j k number v w (inr new) =
            inr (
              mine w.0 k new.0 w.2,
              subst (AtMost (V m.me)) (sym (names w.0 w.0.body w.4 new.1)) is.grew.past,
            )

    sent_in : I (record h { packets = h.packets ++ packets_of shown }) c
    sent_in = record {
      ordered = is.ordered;
      kept = kept_shown;
      asked = asked_shown;
      numbers = numbers_shown;
      majority = is.majority;
      opened = is.opened;
      own = own_shown (number_of c.phase) refl is.own;
      held = is.held;
      until = is.until;
      holders = is.holders;
      leading = λ leased. record {
        poll = poll_shown (number_of c.phase) (is.leading leased).poll;
        stands = stands_shown c.phase (is.leading leased).stands;
        serves = (is.leading leased).serves;
      };
      ahead = is.ahead;
      grew = grew_shown;
    }

    pub shows_in : I (with_shown h shown) c
    shows_in =
        subst (λ (announced : List Version). I (record { book = h.book; announced = announced; packets = h.packets ++ packets_of shown }) c)
        (sym (nothing_announced m Asked c shown h.announced all)) sent_in

  pub order_moves : OrderMoves m now lease Asked Answered Kept I
  order_moves =
      record {
        vote = moving.vote_moves m now lease V C before some premises clock own_place;
        poll = moving.poll_moves m now lease V C before some premises clock own_place;
        version = moving.version_moves m now lease V C before some premises clock own_place;
        shows = λ h c shown all is. shows_in h c shown all is;
        serves = λ h c poll spread announced leased at is. serves_last h.announced c.version announced
            (subst (ServesLast h.announced) at (is.leading leased).serves)
            (subst (LeaderStands m.me (IsAnswered m.hosts h.packets m.me) h.announced c.version) at (is.leading leased).stands);
      }
