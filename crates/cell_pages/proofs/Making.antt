-- No version is made twice: each move of a step keeps why, and so does what other servers add to the book.
use Rattle.std.proofs.Common.{Bool, true, false, cond, ◌==◌, ◌≡◌, ◌⊎◌, inl, inr, ℕ, ◌+◌, ◌<◌, ◌≤◌, List, [], ◌∷◌, ◌++◌, length, refl, sym, ap, subst, ◌∙◌}
use Rattle.std.proofs.Common.{arith}
use Rattle.std.proofs.lemmas.Bool.{cond_both}
use Rattle.std.proofs.lemmas.Bool.Decides.{nat_tests}
use Rattle.std.specs.Prelude.{Option, Some, None, ◌&&◌, nat_lt}
use Rattle.ubik_types.specs.declared.images.Change.{Change}
use Rattle.ubik_types.specs.declared.versions.Version.{Version}
use Rattle.ubik_types.specs.Phase.{Polled, Spread, PhaseRecord, NoPhase, Poll, Fetch, Relabel, Send, Ready}
use Rattle.ubik_types.specs.Votes.{VoteState}
use Rattle.ubik_types.specs.Version.{zero_version, version_lt, version_eq}
use Rattle.xdr_base.specs.ChangeText.{text_of}
use Rattle.ubik_calls.specs.declared.packets.Body.{Body}
use Rattle.db_image.specs.Database.{Database}
use Rattle.cell_model.specs.Book.{BookVersion, Book, list_or_none}
use Rattle.cell_model.specs.Durable.{Transaction}
use Rattle.cell_model.specs.Node.{Server, ReadyBeacon, KeptWrite, ReceivedText, Waiting}
use Rattle.cell_model.specs.Receiver.{is_sending, whole_changes, kept_with, kept_but, whole_write}
use Rattle.cell_model.specs.Recovery.{first_of_epoch, relabelled_to, held_by}
use Rattle.cell_model.specs.Step.{Member, is_ready}
use Rattle.cell_model.specs.Writes.{next_version, own_write_begun, write_bodies}
use Rattle.cell_laws.specs.Invariant.{AllVersions}
use Rattle.cell_laws.specs.Laws.{AllBelow}
use Rattle.cell_laws.proofs.Parts.{eq_true, no}
use Rattle.cell_pages.specs.Growth.{HasEpoch, IsMadeBy, OwnsEpoch, IsNext, AreNext, Grew}
use Rattle.cell_pages.specs.Laws.{IsNew, MadeOnce}
use Rattle.cell_pages.specs.Moves.{AllBodies, transaction_of, Moves}
use Rattle.cell_pages.specs.Pages.{VersionsRise}
use Rattle.cell_pages.specs.Parts.{AtMost, IsGreatest, IsReached, MakerWentOn, KeptLeadsOn, MakesVersions}
use Rattle.cell_pages.specs.Passes.{is_held, InStep, Pass}
use Rattle.cell_pages.proofs.Leading.{grew_keeps}
use Rattle.cell_pages.proofs.Versions.{same_of_eq, less_of_lt, at_most_less, at_most_same, lt_of_epoch, lt_of_next}

-- ---- versions of the book

pub versions_map : (P Q : BookVersion → Type 0) (book : Book) → ((b : BookVersion) → P b → Q b) → AllVersions P book → AllVersions Q book
versions_map P Q [] f all = tt
versions_map P Q (b ∷ book) f all = (f b all.0, versions_map P Q book f all.1)

pub versions_two : (P Q R : BookVersion → Type 0) (book : Book) → ((b : BookVersion) → P b → Q b → R b) → AllVersions P book →
    AllVersions Q book → AllVersions R book
versions_two P Q R [] f first second = tt
versions_two P Q R (b ∷ book) f first second = (f b first.0 second.0, versions_two P Q R book f first.1 second.1)

new_version : (v : Version) (book : Book) → (v ≡ zero_version → ⊥) → AllVersions (λ b. v ≡ b.version → ⊥) book → IsNew v book
new_version v [] first all = first
new_version v (b ∷ book) first all = (all.0, new_version v book first all.1)

below_all : (epoch : ℕ) (book : Book) → 0 < epoch → AllVersions (λ b. b.version.epoch < epoch) book → AllBelow epoch book
below_all epoch [] some all = some
below_all epoch (b ∷ book) some all = (all.0, below_all epoch book some all.1)

-- the epoch of a version in the book is below one that is above all
has_below : (e epoch : ℕ) (book : Book) → AllBelow epoch book → HasEpoch e book → e < epoch
has_below e epoch [] below has = absurd has
has_below e epoch (b ∷ book) below (inl same) =
    let h : b.version.epoch < epoch = below.0 in
    omega arith
has_below e epoch (b ∷ book) below (inr has) = has_below e epoch book below.1 has

-- one epoch has one maker
one_maker : (j k epoch : ℕ) (book : Book) → HasEpoch epoch book → AllVersions (IsMadeBy j epoch) book →
    AllVersions (IsMadeBy k epoch) book →
    j ≡ k
one_maker j k epoch [] has first second = absurd has
one_maker j k epoch (b ∷ book) (inl is) first second = sym (first.0 is) ∙ second.0 is
one_maker j k epoch (b ∷ book) (inr has) first second = one_maker j k epoch book has first.1 second.1

-- ---- what another server adds

reached_next : (lease : Bool) (j k : ℕ) (v : Version) (book : Book) (b : BookVersion) → (j ≡ k → ⊥) → IsNext lease k book b →
    AllVersions (IsReached j v) book →
    AllVersions (IsReached j v) (b ∷ book)
reached_next lease j k v book b other next all = (λ is. absurd (other (sym is ∙ next.maker)), all)

owns_next : (lease : Bool) (j k epoch : ℕ) (book : Book) (b : BookVersion) → (j ≡ k → ⊥) → IsNext lease k book b → OwnsEpoch j book epoch →
    OwnsEpoch j (b ∷ book) epoch
owns_next lease j k epoch book b other next owns = (inr owns.0, (is_made, owns.1))
  where
    by : b.version.epoch ≡ epoch → AllBelow b.version.epoch book ⊎ OwnsEpoch k book b.version.epoch → b.maker ≡ j
    by same (inl below) =
        let less : epoch < b.version.epoch = has_below epoch b.version.epoch book below owns.0 in
        absurd (omega arith)
    by same (inr owned) =
        absurd (other (one_maker j k epoch book owns.0 owns.1 (subst (λ (e : ℕ). AllVersions (IsMadeBy k e) book) same owned.1)))

    is_made : b.version.epoch ≡ epoch → b.maker ≡ j
    is_made same = by same next.epoch

pub others_went_on : (lease : Bool) (j k : ℕ) (book later : Book) (v : Version) → (j ≡ k → ⊥) → Grew lease k book later →
    AllVersions (IsReached j v) book →
    AllVersions (IsReached j v) later
others_went_on lease j k book later v other grew all =
    grew_keeps lease k (λ g. AllVersions (IsReached j v) g) (λ g b next is. reached_next lease j k v g b other next is) book later grew all

-- a server that is in lease finds the book as it was
greatest_still : (lease own : Bool) (k : ℕ) (v : Version) (book later : Book) → (own ≡ true → lease ≡ true → ⊥) → Grew lease k book later →
    own ≡ true → IsGreatest v book → IsGreatest v later
greatest_still lease own k v book later alone grew leased greatest =
    subst (IsGreatest v) (sym grew.1) (by grew.0 grew.2)
  where
    by : (newer : List BookVersion) → AreNext lease k book newer → IsGreatest v (newer ++ book)
    by [] all = greatest
    by (b ∷ newer) all = absurd (alone leased all.0.leased)

pub others_make : (lease own : Bool) (j k : ℕ) (book later : Book) (s : Server) → (j ≡ k → ⊥) → (own ≡ true → lease ≡ true → ⊥) →
    Grew lease k book later → MakesVersions j own book s → MakesVersions j own later s
others_make lease own j k book later s other alone grew makes = record {
  went_on = others_went_on lease j k book later s.version other grew makes.went_on;
  owns = λ is.
      grew_keeps lease k (λ g. OwnsEpoch j g s.version.epoch)
      (λ g b next owns. owns_next lease j k s.version.epoch g b other next owns) book later grew (makes.owns is);
  greatest = λ leased is. greatest_still lease own k s.version book later alone grew leased (makes.greatest leased is);
  no_flight = makes.no_flight;
  kept = makes.kept;
}

-- ---- what holds of the book

pub once_grew : (lease : Bool) (k : ℕ) (book later : Book) → Grew lease k book later → MadeOnce book → MadeOnce later
once_grew lease k book later grew once = grew_keeps lease k MadeOnce (λ g b next is. (next.new, is)) book later grew once

pub rise_grew : (lease : Bool) (k : ℕ) (book later : Book) → Grew lease k book later → VersionsRise book → VersionsRise later
rise_grew lease k book later grew rise = grew_keeps lease k VersionsRise (λ g b next is. (next.above, is)) book later grew rise

-- ---- the moves

reaches : (k : ℕ) (v new : Version) (book : Book) → version_lt v new ≡ true → AllVersions (IsReached k v) book →
    AllVersions (IsReached k new) book
reaches k v new book less all =
    versions_map (IsReached k v) (IsReached k new) book (λ b is own. at_most_less b.version v new (is own) (less_of_lt v new less)) all

sending_held : (phase : PhaseRecord) (k : ℕ) → is_sending (held_by phase k) ≡ is_sending phase
sending_held NoPhase k = refl
sending_held (Poll poll) k = refl
sending_held (Fetch poll best host) k = refl
sending_held (Relabel poll) k = refl
sending_held (Send poll spread) k = refl
sending_held (Ready poll spread announced) k = refl

ready_held : (phase : PhaseRecord) (k : ℕ) → is_ready (held_by phase k) ≡ is_ready phase
ready_held NoPhase k = refl
ready_held (Poll poll) k = refl
ready_held (Fetch poll best host) k = refl
ready_held (Relabel poll) k = refl
ready_held (Send poll spread) k = refl
ready_held (Ready poll spread announced) k = refl

pub piece_leads : (v new : Version) (number : ℕ) (bytes : List ℕ) (kept : Option KeptWrite) → KeptLeadsOn v kept →
    KeptLeadsOn v (kept_with new number bytes kept)
piece_leads v new number bytes None leads = tt
piece_leads v new number bytes (Some w) leads =
    cond_both (version_eq w.new new && nat_lt number (length w.pieces)) _ _ (λ (w : KeptWrite). version_lt v w.new ≡ true) (λ _. leads)
    (λ _. leads)

pub but_leads : (v new : Version) (kept : Option KeptWrite) → KeptLeadsOn v kept → KeptLeadsOn v (kept_but new kept)
but_leads v new None leads = tt
but_leads v new (Some w) leads = cond_both (version_eq w.new new) _ _ (KeptLeadsOn v) (λ _. tt) (λ _. leads)

pub whole_leads : (v new : Version) (kept : Option KeptWrite) (one : List Change) → whole_write new kept ≡ Some one → KeptLeadsOn v kept →
    version_lt v new ≡ true
whole_leads v new None one is leads = absurd (cc)
whole_leads v new (Some w) one is leads = by (version_eq w.new new) refl is
  where
    by : (t : Bool) → version_eq w.new new ≡ t → cond t (whole_changes w) None ≡ Some one → version_lt v new ≡ true
    by true same is = subst (λ (u : Version). version_lt v u ≡ true) (same_of_eq w.new new same) leads
    by false same is = absurd (cc)

ready_not : (phase : PhaseRecord) → is_sending phase ≡ false → is_ready phase ≡ false
ready_not NoPhase is = refl
ready_not (Poll poll) is = refl
ready_not (Fetch poll best host) is = refl
ready_not (Relabel poll) is = refl
ready_not (Send poll spread) is = refl
ready_not (Ready poll spread announced) is = no (sym is)

pub not_sending : (phase : PhaseRecord) → is_held phase ≡ false → is_sending phase ≡ false
not_sending NoPhase is = refl
not_sending (Poll poll) is = refl
not_sending (Fetch poll best host) is = refl
not_sending (Relabel poll) is = refl
not_sending (Send poll spread) is = no (sym is)
not_sending (Ready poll spread announced) is = no (sym is)

pub no_content : (bodies : List Body) → AllBodies (λ b. Unit {0}) bodies
no_content [] = tt
no_content (b ∷ bodies) = (tt, no_content bodies)

-- votes, waiting calls and texts are no part of it
beside : (k : ℕ) (lease : Bool) (book : Book) (s : Server) (votes : VoteState) (starts : List (Option ℕ)) (beacon : Option ReadyBeacon)
    (waiting : List Waiting) (received : Option ReceivedText) → MakesVersions k lease book s →
    MakesVersions k lease book
    (record s { votes = votes; starts = starts; beacon = beacon; waiting = waiting; received = received })
beside k lease book s votes starts beacon waiting received makes = record {
  went_on = makes.went_on;
  owns = makes.owns;
  greatest = makes.greatest;
  no_flight = makes.no_flight;
  kept = makes.kept;
}

-- a database that was taken over
taken : (k : ℕ) (lease : Bool) (book : Book) (s : Server) (new : Version) → is_sending s.phase ≡ false → version_lt s.version new ≡ true →
    MakesVersions k lease book s → (image : List ℕ) →
    MakesVersions k lease book (record s { version = new; image = image; kept = None; received = None })
taken k lease book s new idle less makes image = record {
  went_on = reaches k s.version new book less makes.went_on;
  owns = λ is. no (sym idle ∙ is);
  greatest = λ leased is. no (sym idle ∙ is);
  no_flight = makes.no_flight;
  kept = tt;
}

module _ (db : Database) (B : Book → Type 0)
    (grows : (lease : Bool) (k : ℕ) (book later : Book) → Grew lease k book later → B book → B later) where
  module _ (m : Member) (now : ℕ) (lease : Bool) (some : 0 < now) where
    abbrev F : Book → Server → Type 0
    F = InStep MakesVersions B m.me now lease

    -- what was made, and others below, are below a moment past the own epoch
    all_below : (book : Book) (s : Server) → lease ≡ true → s.version.epoch < now → F book s →
        AllVersions (λ b. b.version.epoch < now) book
    all_below book s leased past f =
        versions_two (IsReached m.me s.version) (λ b. (b.maker ≡ m.me → ⊥) → lease ≡ true → b.version.epoch < now)
        (λ b. b.version.epoch < now) book one f.0.went_on f.1
      where
        one : (b : BookVersion) → IsReached m.me s.version b → ((b.maker ≡ m.me → ⊥) → lease ≡ true → b.version.epoch < now) →
            b.version.epoch < now
        one b own other = by (b.maker == m.me) refl
          where
            reached : AtMost b.version s.version → b.version.epoch < now
            reached (inl less) = omega arith
            reached (inr same) = let e : b.version.epoch ≡ s.version.epoch = same.0 in omega arith

            by : (t : Bool) → (b.maker == m.me) ≡ t → b.version.epoch < now
            by true is = reached (own (eq_true b.maker m.me is))
            by false is = other (λ same. grind (arith, nat_tests)) leased

    -- the version that a relabelling makes
    abbrev page_relabelled : Book → Version → BookVersion
    page_relabelled book old = record {
      version = first_of_epoch now;
      before = old;
      transaction = None;
      maker = m.me;
      transactions = list_or_none book old;
    }

    relabels_keeps : (book : Book) (s : Server) (poll : Polled) → lease ≡ true → is_sending s.phase ≡ false → s.version.epoch < now →
        F book s →
        Grew lease m.me book (page_relabelled book s.version ∷ book)
        × F (page_relabelled book s.version ∷ book) (relabelled_to m s poll (first_of_epoch now)).server
    relabels_keeps book s poll leased idle past f =
        (grew, (makes, (λ other. absurd (other refl), f.1), grows lease m.me book later grew f.2))
      where
        later : Book
        later = page_relabelled book s.version ∷ book

        below : AllVersions (λ b. b.version.epoch < now) book
        below = all_below book s leased past f

        is_new : IsNew (first_of_epoch now) book
        is_new =
            new_version (first_of_epoch now) book
            (λ same. let zero_is : now ≡ 0 = ap (λ (v : Version). v.epoch) same in omega arith)
            (versions_map (λ b. b.version.epoch < now) (λ b. first_of_epoch now ≡ b.version → ⊥) book
            (λ b less same. let e : now ≡ b.version.epoch = ap (λ (v : Version). v.epoch) same in omega arith) below)

        grew : Grew lease m.me book (page_relabelled book s.version ∷ book)
        grew = (
          page_relabelled book s.version ∷ [],
          refl,
          (
            record {
              leased = leased;
              maker = refl;
              new = is_new;
              above =
                  versions_map (λ b. b.version.epoch < now) (λ b. version_lt b.version (first_of_epoch now) ≡ true) book
                  (λ b less. lt_of_epoch b.version (first_of_epoch now) less) below;
              epoch = inl (below_all now book some below);
            },
            tt,
          ),
        )

        makes : MakesVersions m.me lease (page_relabelled book s.version ∷ book) (relabelled_to m s poll (first_of_epoch now)).server
        makes = record {
          went_on = (
            λ own. at_most_same (first_of_epoch now),
            versions_map (λ b. b.version.epoch < now) (IsReached m.me (first_of_epoch now)) book (λ b less own. inl less) below,
          );
          owns =
              λ _. (
                inl refl,
                (
                  λ same. refl,
                  versions_map (λ b. b.version.epoch < now) (IsMadeBy m.me now) book (λ b less same. absurd (omega arith)) below,
                ),
              );
          greatest =
              λ _ sends. (
                at_most_same (first_of_epoch now),
                versions_map (λ b. b.version.epoch < now) (λ b. AtMost b.version (first_of_epoch now)) book (λ b less. inl less) below,
              );
          no_flight = λ _. f.0.no_flight (ready_not s.phase idle);
          kept = tt;
        }

    -- the version that a commit makes
    abbrev page_committed : Book → Version → Transaction → BookVersion
    page_committed book old t = record {
      version = next_version old;
      before = old;
      transaction = Some t;
      maker = m.me;
      transactions = list_or_none book old ++ t ∷ [];
    }

    commits_keeps : (book : Book) (s : Server) (id : ℕ) (call answer image : List ℕ) (changes : List Change) (poll : Polled)
        (spread : Spread) (announced : Version) → lease ≡ true → s.phase ≡ Ready poll spread announced → F book s →
        Grew lease m.me book (page_committed book s.version (transaction_of now call) ∷ book)
        × F (page_committed book s.version (transaction_of now call) ∷ book)
        (own_write_begun m s now id call answer image changes poll spread).server
    commits_keeps book s id call answer image changes poll spread announced leased at f =
        (grew, (makes, (λ other. absurd (other refl), f.1), grows lease m.me book later grew f.2))
      where
        page : BookVersion
        page = page_committed book s.version (transaction_of now call)

        later : Book
        later = page ∷ book

        owned : OwnsEpoch m.me book s.version.epoch
        owned = f.0.owns (ap is_sending at)

        differs : (b : BookVersion) → IsReached m.me s.version b → IsMadeBy m.me s.version.epoch b → next_version s.version ≡ b.version → ⊥
        differs b reached made same = by (reached (made (sym epoch)))
          where
            epoch : s.version.epoch ≡ b.version.epoch
            epoch = ap (λ (v : Version). v.epoch) same

            counter : s.version.counter + 1 ≡ b.version.counter
            counter = ap (λ (v : Version). v.counter) same

            by : AtMost b.version s.version → ⊥
            by (inl less) = let e : s.version.epoch ≡ b.version.epoch = epoch in omega arith
            by (inr at_most) =
                let c : s.version.counter + 1 ≡ b.version.counter = counter in
                let less : b.version.counter ≤ s.version.counter = at_most.1 in
                omega arith

        is_new : IsNew (next_version s.version) book
        is_new =
            new_version (next_version s.version) book
            (λ same. let zero_is : s.version.counter + 1 ≡ 0 = ap (λ (v : Version). v.counter) same in omega arith)
            (versions_two (IsReached m.me s.version) (IsMadeBy m.me s.version.epoch) (λ b. next_version s.version ≡ b.version → ⊥) book
            differs f.0.went_on owned.1)

        grew : Grew lease m.me book later
        grew = (
          page ∷ [],
          refl,
          (
            record {
              leased = leased;
              maker = refl;
              new = is_new;
              above =
                  versions_map (λ b. AtMost b.version s.version) (λ b. version_lt b.version (next_version s.version) ≡ true) book
                  (λ b is. lt_of_next b.version s.version is) (f.0.greatest leased (ap is_sending at));
              epoch = inr owned;
            },
            tt,
          ),
        )

        makes : MakesVersions m.me lease later (own_write_begun m s now id call answer image changes poll spread).server
        makes = record {
          went_on = (
            λ own. at_most_same (next_version s.version),
            versions_map (IsReached m.me s.version) (IsReached m.me (next_version s.version)) book
                (λ b is own. at_most_less b.version s.version (next_version s.version) (is own) (inr (refl, omega arith))) f.0.went_on,
          );
          owns = λ _. (inl refl, (λ same. refl, owned.1));
          greatest =
              λ leased sends. (
                at_most_same (next_version s.version),
                versions_map (λ b. AtMost b.version s.version) (λ b. AtMost b.version (next_version s.version)) book
                    (λ b is. at_most_less b.version s.version (next_version s.version) is (inr (refl, omega arith)))
                    (f.0.greatest leased (ap is_sending at)),
              );
          no_flight = λ is. no (sym is);
          kept = tt;
        }

    pub makes_moves : Moves db m now lease F (λ book d. MakerWentOn m.me book d × B book) (λ book b. Unit {0})
    makes_moves = record {
      phase = record {
        votes = λ book s votes starts beacon f.
            (beside m.me lease book s votes starts beacon s.waiting s.received f.0, f.1, f.2);
        waits = λ book s waiting f. (beside m.me lease book s s.votes s.starts s.beacon waiting s.received f.0, f.1, f.2);
        no_flight = λ book s is f. f.0.no_flight is;
        lapses = λ book s phase idle f. (
          record {
            went_on = f.0.went_on;
            owns = λ is. no (sym idle ∙ is);
            greatest = λ leased is. no (sym idle ∙ is);
            no_flight = λ _. refl;
            kept = f.0.kept;
          },
          f.1,
          f.2,
        );
        leaves = λ book s phase idle none f. (
          record {
            went_on = f.0.went_on;
            owns = λ is. no (sym idle ∙ is);
            greatest = λ leased is. no (sym idle ∙ is);
            no_flight = λ _. none;
            kept = f.0.kept;
          },
          f.1,
          f.2,
        );
        holds = λ book s k f. (
          record {
            went_on = f.0.went_on;
            owns = λ is. f.0.owns (sym (sending_held s.phase k) ∙ is);
            greatest = λ leased is. f.0.greatest leased (sym (sending_held s.phase k) ∙ is);
            no_flight = λ is. f.0.no_flight (sym (ready_held s.phase k) ∙ is);
            kept = f.0.kept;
          },
          f.1,
          f.2,
        );
        announces = λ book s poll spread at f. (
          record {
            went_on = f.0.went_on;
            owns = λ _. f.0.owns (ap is_sending at);
            greatest = λ leased _. f.0.greatest leased (ap is_sending at);
            no_flight = λ is. no (sym is);
            kept = f.0.kept;
          },
          f.1,
          f.2,
        );
        ends = λ book s poll spread announced flight at is f. (
          record {
            went_on = f.0.went_on;
            owns = λ _. f.0.owns (ap is_sending at);
            greatest = λ leased _. f.0.greatest leased (ap is_sending at);
            no_flight = λ _. refl;
            kept = f.0.kept;
          },
          f.1,
          f.2,
        );
      };
      field = record {
        texts = λ book s may_begin k poll version total at bytes text says is f.
            (beside m.me lease book s s.votes s.starts s.beacon s.waiting (Some text) f.0, f.1, f.2);
        begins = λ book s old new pieces len says idle same less f. (
          record {
            went_on = f.0.went_on;
            owns = f.0.owns;
            greatest = f.0.greatest;
            no_flight = f.0.no_flight;
            kept = subst (λ (v : Version). version_lt v new ≡ true) (sym (same_of_eq s.version old same)) less;
          },
          f.1,
          f.2,
        );
        puts = λ book s new number bytes says f. (
          record {
            went_on = f.0.went_on;
            owns = f.0.owns;
            greatest = f.0.greatest;
            no_flight = f.0.no_flight;
            kept = piece_leads s.version new number bytes s.kept f.0.kept;
          },
          f.1,
          f.2,
        );
        aborts = λ book s new f. (
          record {
            went_on = f.0.went_on;
            owns = f.0.owns;
            greatest = f.0.greatest;
            no_flight = f.0.no_flight;
            kept = but_leads s.version new s.kept f.0.kept;
          },
          f.1,
          f.2,
        );
      };
      received = record {
        takes = λ book s poll old new says idle same less f. (
          taken m.me lease book s new idle (subst (λ (v : Version). version_lt v new ≡ true) (sym (same_of_eq s.version old same)) less) f.0
              s.image,
          f.1,
          f.2,
        );
        installs = λ book s may_begin k poll version total at bytes text says is idle whole less f.
            (taken m.me lease book s text.version idle less f.0 text.bytes, f.1, f.2);
        writes = λ book s old new changes says idle same whole within f.
            (taken m.me lease book s new idle (whole_leads s.version new s.kept changes whole f.0.kept) f.0 _, f.1, f.2);
      };
      own = record {
        relabels = λ book s poll leased idle past f. relabels_keeps book s poll leased idle past f;
        commits =
            λ book s id call answer image changes poll spread announced leased at free counter image_is changes_are within f.
            commits_keeps book s id call answer image changes poll spread announced leased at f;
        stands = λ book s f. (f.0.went_on, f.2);
      };
      packet = record {
        later = λ book after b grew says. tt;
        plain = λ book b is. tt;
        alike = λ book poll version total at bytes says. tt;
        piece = λ book s poll version at is f. tt;
        sent = λ book s poll at f. tt;
        set_in_send = λ book s number poll spread at first f. tt;
        set_in_ready = λ book s number poll spread announced at first f. tt;
        write = λ book s poll spread announced flight at is f. no_content (write_bodies announced s.version (text_of flight.changes));
      };
    }

  pub makes_pass : Pass db MakesVersions MakerWentOn (λ book b. Unit {0}) B
  makes_pass = record {
    moves = λ m now lease some. makes_moves m now lease some;
    durable = λ lease j k book later d other grew is. others_went_on lease j k book later d.version other grew is;
    server = others_make;
    packet = λ lease k book later b grew says. tt;
    fades = λ k book s makes. record {
      went_on = makes.went_on;
      owns = makes.owns;
      greatest = λ leased. no leased;
      no_flight = makes.no_flight;
      kept = makes.kept;
    };
    begins = λ k book s idle makes. record {
      went_on = makes.went_on;
      owns = makes.owns;
      greatest = λ leased sends. no (sym (not_sending s.phase idle) ∙ sends);
      no_flight = makes.no_flight;
      kept = makes.kept;
    };
    opened = λ k n now lease book d pages is.
        record { went_on = is; owns = λ sends. no sends; greatest = λ leased sends. no sends; no_flight = λ _. refl; kept = tt };
  }
