-- Each move of a step keeps what a server holds and what packets carry.
use Rattle.std.proofs.Common.{Bool, true, false, cond, ◌==◌, ◌≡◌, ℕ, zero, suc, ◌+◌, ◌<◌, List, [], ◌∷◌, ◌++◌, length}
use Rattle.std.proofs.Common.{refl, sym, ap, subst, ◌∙◌}
use Rattle.std.proofs.lemmas.Bool.{cond_both}
use Rattle.std.proofs.lemmas.List.{append-nil}
use Rattle.std.specs.Prelude.{Option, Some, None}
use Rattle.ubik_types.specs.declared.images.Change.{Change}
use Rattle.ubik_types.specs.declared.versions.Version.{Version}
use Rattle.ubik_types.specs.Image.{effect}
use Rattle.ubik_types.specs.Logged.{logged, too_large}
use Rattle.ubik_types.specs.Phase.{Polled, Spread, PhaseRecord, NoPhase, Poll, Fetch, Relabel, Send, Ready}
use Rattle.ubik_types.specs.Votes.{VoteState}
use Rattle.xdr_base.specs.ChangeText.{text_of}
use Rattle.ubik_calls.specs.declared.packets.Body.{Body}
use Rattle.ubik_calls.specs.declared.packets.Body.TheVariants as body
use Rattle.db_image.specs.Database.{Database, changes_of}
use Rattle.cell_model.specs.Book.{BookVersion, Book, list_of, list_or_none, with_version}
use Rattle.cell_model.specs.Durable.{Durable, Transaction, Own_relabelling, Committed}
use Rattle.cell_model.specs.Lapse.{without_writes}
use Rattle.cell_model.specs.Node.{Server, ReadyBeacon, Flight, Waiting}
use Rattle.cell_model.specs.Pieces.{piece_count}
use Rattle.cell_model.specs.Polls.{only_holder}
use Rattle.cell_model.specs.Receiver.{is_sending}
use Rattle.cell_model.specs.Recovery.{first_of_epoch, relabelled_to, held_by}
use Rattle.cell_model.specs.SingleCopy.{image_after}
use Rattle.cell_model.specs.Step.{Member, is_ready, is_fetch, with_phase, with_database}
use Rattle.cell_model.specs.Writes.{next_version, flight_of, own_write_begun, put_pieces, write_bodies}
use Rattle.cell_model.proofs.BookVersions.{newest, list_is, image_from-append}
use Rattle.cell_laws.proofs.Parts.{no, eq_true}
use Rattle.cell_pages.specs.Contents.{ReceivedIsFront, Carries}
use Rattle.cell_pages.specs.Growth.{Grew}
use Rattle.cell_pages.specs.Holdings.{WasRelabelled, HoldsContents}
use Rattle.cell_pages.specs.Images.{KeepsImages, IsImageOf, IsOfBook, HaveOneList}
use Rattle.cell_pages.specs.Laws.{KeepsLists}
use Rattle.cell_pages.specs.Moves.{AllBodies, transaction_of, Moves, IsPlain}
use Rattle.cell_pages.specs.Pages.{IsPageOn, PagesFollow}
use Rattle.cell_pages.specs.Parts.{MakerWentOn, MakesVersions}
use Rattle.cell_pages.specs.Passes.{InStep, Pass}
use Rattle.cell_pages.specs.WritesOnTheWay.{IsWriteOf, IsWriteOn}
use Rattle.cell_pages.proofs.Keeping.{one_list, carries_later, relabelled_later, image_later, holds_later, front_with, whole_image, begun_kept, piece_kept}
use Rattle.cell_pages.proofs.Keeping.{but_kept, whole_kept}
use Rattle.cell_pages.proofs.Leading.{bodies_append}
use Rattle.cell_pages.proofs.LoggedChanges.{changes_spelled}
use Rattle.cell_pages.proofs.Making.{makes_moves, makes_pass, others_went_on, others_make}
use Rattle.cell_pages.proofs.Once.{lists_kept}
use Rattle.cell_pages.proofs.Versions.{same_of_eq}

some_not_none : {A : Type 0} (o : Option A) (x : A) → o ≡ None → o ≡ Some x → ⊥
some_not_none o x none some = absurd (cc)

not_relabelled : (book : Book) (v : Version) (phase : PhaseRecord) → is_sending phase ≡ false → WasRelabelled book v phase
not_relabelled book v NoPhase idle = tt
not_relabelled book v (Poll poll) idle = tt
not_relabelled book v (Fetch poll best host) idle = tt
not_relabelled book v (Relabel poll) idle = tt
not_relabelled book v (Send poll spread) idle = no (sym idle)
not_relabelled book v (Ready poll spread announced) idle = no (sym idle)

relabelled_held : (book : Book) (v : Version) (phase : PhaseRecord) (k : ℕ) → WasRelabelled book v phase →
    WasRelabelled book v (held_by phase k)
relabelled_held book v NoPhase k is = tt
relabelled_held book v (Poll poll) k is = tt
relabelled_held book v (Fetch poll best host) k is = tt
relabelled_held book v (Relabel poll) k is = tt
relabelled_held book v (Send poll spread) k is = is
relabelled_held book v (Ready poll spread announced) k is = is

-- the announced version, where there is one
announced_of : PhaseRecord → Option Version
announced_of (Ready poll spread announced) = Some announced
announced_of _ = None

announced_held : (phase : PhaseRecord) (k : ℕ) → announced_of (held_by phase k) ≡ announced_of phase
unfolding announced_of
announced_held NoPhase k = refl
announced_held (Poll poll) k = refl
announced_held (Fetch poll best host) k = refl
announced_held (Relabel poll) k = refl
announced_held (Send poll spread) k = refl
announced_held (Ready poll spread announced) k = refl

-- a phase record with an announced version is Ready
is_announced : (phase : PhaseRecord) (v : Version) → announced_of phase ≡ Some v →
    (poll : Polled) × (spread : Spread) × (phase ≡ Ready poll spread v)
unfolding announced_of
is_announced NoPhase v is = absurd (cc)
is_announced (Poll poll) v is = absurd (cc)
is_announced (Fetch poll best host) v is = absurd (cc)
is_announced (Relabel poll) v is = absurd (cc)
is_announced (Send poll spread) v is = absurd (cc)
is_announced (Ready poll spread announced) v is =
    let same : announced ≡ v = cc in (poll, spread, ap (λ (u : Version). Ready poll spread u) same)

held_ready : (phase : PhaseRecord) (k : ℕ) (poll : Polled) (spread : Spread) (announced : Version) →
    held_by phase k ≡ Ready poll spread announced → (p : Polled) × (sp : Spread) × (phase ≡ Ready p sp announced)
unfolding announced_of
held_ready phase k poll spread announced is =
    is_announced phase announced (sym (announced_held phase k) ∙ ap announced_of is)

module _ (db : Database) where
  abbrev Holds : Book → Server → Type 0
  Holds book s = HoldsContents db book s

  -- the received text in another phase
  received_in : (book : Book) (s : Server) (phase : PhaseRecord) → ReceivedIsFront db book s.received →
      ReceivedIsFront db book (with_phase s phase).received
  received_in book s phase front =
      cond_both (is_fetch s.phase) None (cond (is_fetch phase) None s.received) (ReceivedIsFront db book) (λ _. tt)
      (λ _. cond_both (is_fetch phase) None s.received (ReceivedIsFront db book) (λ _. tt) (λ _. front))

  -- votes and waiting calls are no part of it
  beside : (book : Book) (s : Server) (votes : VoteState) (starts : List (Option ℕ)) (beacon : Option ReadyBeacon)
      (waiting : List Waiting) → Holds book s →
      Holds book (record s { votes = votes; starts = starts; beacon = beacon; waiting = waiting })
  beside book s votes starts beacon waiting holds = record {
    image = holds.image;
    relabelled = holds.relabelled;
    flight = holds.flight;
    received = holds.received;
    kept = holds.kept;
  }

  -- a phase of no sending
  in_phase : (book : Book) (s : Server) (phase : PhaseRecord) → is_sending phase ≡ false → s.flight ≡ None → Holds book s →
      Holds book (with_phase s phase)
  in_phase book s phase idle none holds = record {
    image = holds.image;
    relabelled = not_relabelled book s.version phase idle;
    flight = λ poll spread announced f at is. absurd (some_not_none s.flight f none is);
    received = received_in book s phase holds.received;
    kept = holds.kept;
  }

  -- a database that was taken over
  over : (book : Book) (s : Server) (new : Version) (image : List ℕ) → is_sending s.phase ≡ false → IsImageOf db book new image →
      Holds book (with_database s new image)
  over book s new image idle is = record {
    image = is;
    relabelled = not_relabelled book new s.phase idle;
    flight = λ poll spread announced f at some. no (sym idle ∙ ap is_sending at);
    received = tt;
    kept = tt;
  }

  -- a relabelling by another server
  taken_image : (book : Book) (s : Server) (old new : Version) → s.version ≡ old → HaveOneList book old new →
      IsImageOf db book s.version s.image → IsImageOf db book new s.image
  taken_image book s old new same have is = record {
    list = have.0;
    listed = have.2;
    image_is = λ good.
        is.image_is good
        ∙ ap (image_after db)
        (one_list book old is.list have.0 (subst (λ (v : Version). list_of book v ≡ Some is.list) same is.listed) have.1);
  }

  -- ---- the packets of a write

  pieces_carry : (book : Book) (new : Version) (text : List ℕ) (number left : ℕ) → IsWriteOf db book new text →
      AllBodies (Carries db book) (put_pieces new text number left)
  pieces_carry book new text number zero is = tt
  pieces_carry book new text number (suc left) is = ((text, is, refl), pieces_carry book new text (number + 1) left is)

  write_carries : (book : Book) (old new : Version) (text : List ℕ) → IsWriteOn db book old new text →
      AllBodies (Carries db book) (write_bodies old new text)
  write_carries book old new text is = (
    (text, is, refl, refl),
    bodies_append (Carries db book) (put_pieces new text 0 (piece_count text)) (body.Commit old new ∷ [])
        (pieces_carry book new text 0 (piece_count text) is.0) (tt, tt),
  )

  plain_carries : (book : Book) (b : Body) → IsPlain b → Carries db book b
  plain_carries book (body.Piece poll version total offset bytes) is = absurd is
  plain_carries book (body.SendPiece poll version total offset bytes) is = absurd is
  plain_carries book (body.SetVersion poll old new) is = absurd is
  plain_carries book (body.Begin old new pieces len) is = absurd is
  plain_carries book (body.PutPiece new number bytes) is = absurd is
  plain_carries book (body.Commit old new) is = tt
  plain_carries book (body.Beacon start claim ready version) is = tt
  plain_carries book (body.Vote start granted) is = tt
  plain_carries book (body.GetVersion poll) is = tt
  plain_carries book (body.VersionIs poll version) is = tt
  plain_carries book (body.GetPiece poll version offset) is = tt
  plain_carries book (body.PieceKept poll version next) is = tt
  plain_carries book (body.Abort new) is = tt
  plain_carries book (body.VersionKept version) is = tt

  -- the first version of the own epoch
  first_is : (v : Version) → (v.counter == 1) ≡ true → first_of_epoch v.epoch ≡ v
  first_is v is = ap (λ (c : ℕ). record { epoch = v.epoch; counter = c }) (sym (eq_true v.counter 1 is))

  set_carries : (book : Book) (number : ℕ) (old v : Version) → (v.counter == 1) ≡ true → HaveOneList book old (first_of_epoch v.epoch) →
      Carries db book (body.SetVersion number old v)
  set_carries book number old v first have = subst (λ (u : Version). HaveOneList book old u) (first_is v first) have

  -- ---- own durable calls

  abbrev relabelled_page : Book → ℕ → ℕ → Version → BookVersion
  relabelled_page book k now old = record {
    version = first_of_epoch now;
    before = old;
    transaction = None;
    maker = k;
    transactions = list_or_none book old;
  }

  abbrev committed_page : Book → ℕ → Version → Transaction → BookVersion
  committed_page book k old t = record {
    version = next_version old;
    before = old;
    transaction = Some t;
    maker = k;
    transactions = list_or_none book old ++ t ∷ [];
  }

  relabels_holds : (book : Book) (m : Member) (now : ℕ) (s : Server) (poll : Polled) →
      KeepsLists book (with_version book m.me s.version (first_of_epoch now) Own_relabelling) → Holds book s →
      Holds (with_version book m.me s.version (first_of_epoch now) Own_relabelling) (relabelled_to m s poll (first_of_epoch now)).server
  relabels_holds book m now s poll keeps holds = record {
    image = record { list = holds.image.list; listed = listed; image_is = holds.image.image_is };
    relabelled = (holds.image.list, keeps s.version holds.image.list holds.image.listed, listed);
    flight = λ p sp announced f at is. absurd (cc);
    received = received_in later (with_database s (first_of_epoch now) s.image)
        (Send poll (record { old = s.version; holders = only_holder m })) tt;
    kept = tt;
  }
    where
      later : Book
      later = with_version book m.me s.version (first_of_epoch now) Own_relabelling

      listed : list_of (with_version book m.me s.version (first_of_epoch now) Own_relabelling) (first_of_epoch now) ≡ Some holds.image.list
      listed =
          newest (relabelled_page book m.me now s.version) book ∙ ap (λ (l : List Transaction). Some l)
          (list_is book s.version holds.image.list holds.image.listed)

  commits_holds : (book : Book) (m : Member) (now : ℕ) (s : Server) (id : ℕ) (call answer image : List ℕ)
      (changes : List Change) (poll : Polled) (spread : Spread) (announced : Version) → s.phase ≡ Ready poll spread announced →
      image ≡ (db.call s.image now call).image → changes ≡ changes_of db s.image image → too_large 0 (length s.image) changes ≡ None →
      KeepsLists book (with_version book m.me s.version (next_version s.version) (Committed (transaction_of now call))) → Holds book s →
      Holds (with_version book m.me s.version (next_version s.version) (Committed (transaction_of now call)))
      (own_write_begun m s now id call answer image changes poll spread).server
  commits_holds book m now s id call answer image changes poll spread announced at image_is changes_are within keeps holds = record {
    image = record { list = list ++ t ∷ []; listed = listed; image_is = new_image };
    relabelled =
        relabelled_later db book later keeps s.version (Ready poll spread announced)
        (subst (WasRelabelled book s.version) at holds.relabelled);
    flight = flown;
    received = received_in later (with_database s (next_version s.version) image)
        (Ready poll (record spread { holders = only_holder m }) s.version) tt;
    kept = tt;
  }
    where
      t : Transaction
      t = transaction_of now call

      list : List Transaction
      list = holds.image.list

      later : Book
      later = with_version book m.me s.version (next_version s.version) (Committed (transaction_of now call))

      listed : list_of (with_version book m.me s.version (next_version s.version) (Committed (transaction_of now call)))
          (next_version s.version)
          ≡ Some (holds.image.list ++ transaction_of now call ∷ [])
      listed =
          newest (committed_page book m.me s.version (transaction_of now call)) book
          ∙ ap (λ (l : List Transaction). Some (l ++ transaction_of now call ∷ []))
          (list_is book s.version holds.image.list holds.image.listed)

      new_image : KeepsImages db → image ≡ image_after db (holds.image.list ++ transaction_of now call ∷ [])
      new_image good =
          image_is ∙ ap (λ (i : List ℕ). (db.call i now call).image) (holds.image.image_is good)
          ∙ sym (image_from-append db [] holds.image.list (transaction_of now call ∷ []))

      same_changes : KeepsImages db → changes
          ≡ changes_of db (image_after db holds.image.list) (image_after db (holds.image.list ++ transaction_of now call ∷ []))
      same_changes good =
          changes_are ∙ ap (λ (i : List ℕ). changes_of db i image) (holds.image.image_is good)
          ∙ ap (λ (i : List ℕ). changes_of db (image_after db holds.image.list) i) (new_image good)

      write : IsWriteOn db (with_version book m.me s.version (next_version s.version) (Committed (transaction_of now call)))
          s.version (next_version s.version) (text_of changes)
      write = (
        record {
          before = holds.image.list;
          last = transaction_of now call;
          listed = listed;
          spelled = λ good.
              changes_spelled db.head db.block (image_after db holds.image.list)
              (image_after db (holds.image.list ++ transaction_of now call ∷ []))
              (ap (λ (c : List Change). too_large 0 (length (image_after db holds.image.list)) c) (sym (same_changes good))
              ∙ ap (λ (i : List ℕ). too_large 0 (length i) changes) (sym (holds.image.image_is good)) ∙ within);
          text_is = λ good. ap text_of (same_changes good);
        },
        keeps s.version holds.image.list holds.image.listed,
      )

      flown : (p : Polled) (sp : Spread) (v : Version) (f : Flight) →
          Ready poll (record spread { holders = only_holder m }) s.version ≡ Ready p sp v →
          Some (flight_of s now id call answer changes) ≡ Some f →
          IsWriteOn db (with_version book m.me s.version (next_version s.version) (Committed (transaction_of now call))) v
          (next_version s.version) (text_of f.changes)
      flown p sp v f is_phase is_flight =
          let same : s.version ≡ v = cc in
          let flights : flight_of s now id call answer changes ≡ f = cc in
          let changes_same : changes ≡ f.changes = ap (λ (f : Flight). f.changes) flights in
          subst
          (λ (u : Version). IsWriteOn db (with_version book m.me s.version (next_version s.version) (Committed (transaction_of now call))) u
          (next_version s.version) (text_of f.changes)) same
          (subst
          (λ (c : List Change). IsWriteOn db
          (with_version book m.me s.version (next_version s.version) (Committed (transaction_of now call))) s.version
          (next_version s.version) (text_of c)) changes_same write)

  -- the versions that they make go on from the own one
  relabels_follow : (book : Book) (m : Member) (now : ℕ) (s : Server) → Holds book s → s.version.epoch < now →
      IsPageOn book (relabelled_page book m.me now s.version)
  relabels_follow book m now s holds past = record {
    list = holds.image.list;
    listed = holds.image.listed;
    list_is = list_is book s.version holds.image.list holds.image.listed ∙ sym (append-nil holds.image.list);
    goes_on = (past, refl);
  }

  commits_follow : (book : Book) (m : Member) (now : ℕ) (call : List ℕ) (s : Server) → Holds book s →
      IsPageOn book (committed_page book m.me s.version (transaction_of now call))
  commits_follow book m now call s holds = record {
    list = holds.image.list;
    listed = holds.image.listed;
    list_is =
        ap (λ (l : List Transaction). l ++ transaction_of now call ∷ [])
        (list_is book s.version holds.image.list holds.image.listed);
    goes_on = refl;
  }

-- ---- all moves

module _ (db : Database) (B : Book → Type 0)
    (grows : (lease : Bool) (k : ℕ) (book later : Book) → Grew lease k book later → B book → B later) where
  abbrev pub Both : ℕ → Bool → Book → Server → Type 0
  Both k lease book s = MakesVersions k lease book s × HoldsContents db book s

  abbrev pub BothDurable : ℕ → Book → Durable → Type 0
  BothDurable k book d = MakerWentOn k book d × IsOfBook db book d

  -- what is kept of the book: each version goes on from one before it
  abbrev pub Pages : Book → Type 0
  Pages book = B book × PagesFollow book

  module _ (m : Member) (now : ℕ) (lease : Bool) (some : 0 < now) where
    abbrev F : Book → Server → Type 0
    F = InStep Both Pages m.me now lease

    abbrev E : Book → Server → Type 0
    E = InStep MakesVersions B m.me now lease

    makes : Moves db m now lease E (λ book d. MakerWentOn m.me book d × B book) (λ book b. Unit {0})
    makes = makes_moves db B grows m now lease some

    first : (book : Book) (s : Server) → F book s → E book s
    first book s f = (f.0.0, f.1, f.2.0)

    join : (book : Book) (s : Server) → E book s → PagesFollow book → HoldsContents db book s → F book s
    join book s e follow holds = ((e.0, holds), e.1, (e.2, follow))

    contents_moves : Moves db m now lease F (λ book d. BothDurable m.me book d × Pages book) (Carries db)
    contents_moves = record {
      phase = record {
        votes = λ book s votes starts beacon f.
            join book (record s { votes = votes; starts = starts; beacon = beacon })
            (makes.phase.votes book s votes starts beacon (first book s f))
            f.2.1
            (beside db book s votes starts beacon s.waiting f.0.1);
        waits = λ book s waiting f.
            join book (record s { waiting = waiting }) (makes.phase.waits book s waiting (first book s f))
            f.2.1
            (beside db book s s.votes s.starts s.beacon waiting f.0.1);
        no_flight = λ book s is f. f.0.0.no_flight is;
        lapses = λ book s phase idle f.
            join book (with_phase (without_writes s) phase) (makes.phase.lapses book s phase idle (first book s f))
            f.2.1
            (record {
              image = f.0.1.image;
              relabelled = not_relabelled book s.version phase idle;
              flight = λ poll spread announced flight at is. absurd (some_not_none None flight refl is);
              received = received_in db book s phase f.0.1.received;
              kept = f.0.1.kept;
            });
        leaves = λ book s phase idle none f.
            join book (with_phase s phase) (makes.phase.leaves book s phase idle none (first book s f))
            f.2.1
            (in_phase db book s phase idle none f.0.1);
        holds = λ book s k f.
            join book (with_phase s (held_by s.phase k)) (makes.phase.holds book s k (first book s f))
            f.2.1
            (record {
              image = f.0.1.image;
              relabelled = relabelled_held book s.version s.phase k f.0.1.relabelled;
              flight = λ poll spread announced flight at is.
                  let w = held_ready s.phase k poll spread announced at in f.0.1.flight w.0 w.1 announced flight w.2 is;
              received = received_in db book s (held_by s.phase k) f.0.1.received;
              kept = f.0.1.kept;
            });
        announces = λ book s poll spread at f.
            join book (with_phase s (Ready poll spread s.version)) (makes.phase.announces book s poll spread at (first book s f))
            f.2.1
            (record {
              image = f.0.1.image;
              relabelled = subst (WasRelabelled book s.version) at f.0.1.relabelled;
              flight = λ p sp v flight is_phase is. absurd (some_not_none s.flight flight (f.0.0.no_flight (ap is_ready at)) is);
              received = received_in db book s (Ready poll spread s.version) f.0.1.received;
              kept = f.0.1.kept;
            });
        ends = λ book s poll spread announced flight at is f.
            join book (record (with_phase s (Ready poll spread s.version)) { flight = None })
            (makes.phase.ends book s poll spread announced flight at is (first book s f))
            f.2.1
            (record {
              image = f.0.1.image;
              relabelled = subst (WasRelabelled book s.version) at f.0.1.relabelled;
              flight = λ p sp v other is_phase is. absurd (some_not_none None other refl is);
              received = received_in db book s (Ready poll spread s.version) f.0.1.received;
              kept = f.0.1.kept;
            });
      };
      field = record {
        texts = λ book s may_begin k poll version total at bytes text says is f.
            join book (record s { received = Some text })
            (makes.field.texts book s may_begin k poll version total at bytes text tt is (first book s f))
            f.2.1
            (record {
              image = f.0.1.image;
              relabelled = f.0.1.relabelled;
              flight = f.0.1.flight;
              received = front_with db book may_begin k version total at bytes s.received text says f.0.1.received is;
              kept = f.0.1.kept;
            });
        begins = λ book s old new pieces len says idle same less f.
            join book _ (makes.field.begins book s old new pieces len tt idle same less (first book s f))
            f.2.1
            (record {
              image = f.0.1.image;
              relabelled = f.0.1.relabelled;
              flight = f.0.1.flight;
              received = f.0.1.received;
              kept = begun_kept db book s.version old new pieces len (same_of_eq s.version old same) says;
            });
        puts = λ book s new number bytes says f.
            join book _ (makes.field.puts book s new number bytes tt (first book s f))
            f.2.1
            (record {
              image = f.0.1.image;
              relabelled = f.0.1.relabelled;
              flight = f.0.1.flight;
              received = f.0.1.received;
              kept = piece_kept db book s.version new number bytes s.kept says f.0.1.kept;
            });
        aborts = λ book s new f.
            join book _ (makes.field.aborts book s new (first book s f))
            f.2.1
            (record {
              image = f.0.1.image;
              relabelled = f.0.1.relabelled;
              flight = f.0.1.flight;
              received = f.0.1.received;
              kept = but_kept db book s.version new s.kept f.0.1.kept;
            });
      };
      received = record {
        takes = λ book s poll old new says idle same less f.
            join book _ (makes.received.takes book s poll old new tt idle same less (first book s f))
            f.2.1
            (over db book s new s.image idle (taken_image db book s old new (same_of_eq s.version old same) says f.0.1.image));
        installs = λ book s may_begin k poll version total at bytes text says is idle whole less f.
            join book _
            (makes.received.installs book s may_begin k poll version total at bytes text tt is idle whole less (first book s f))
            f.2.1
            (over db book s text.version text.bytes idle
            (whole_image db book text whole
            (front_with db book may_begin k version total at bytes s.received text says f.0.1.received is)));
        writes = λ book s old new changes says idle same whole within f.
            join book _ (makes.received.writes book s old new changes tt idle same whole within (first book s f))
            f.2.1
            (over db book s new (effect s.image (logged (length s.image) changes)) idle
            (whole_kept db book s.version new s.image s.kept changes whole f.0.1.image f.0.1.kept));
      };
      own = record {
        relabels = λ book s poll leased idle past f.
            let w = makes.own.relabels book s poll leased idle past (first book s f) in (
              w.0,
              join _ _ w.1 (relabels_follow db book m now s f.0.1 past, f.2.1)
                  (relabels_holds db book m now s poll (lists_kept lease m.me book _ w.0) f.0.1),
            );
        commits =
            λ book s id call answer image changes poll spread announced leased at free counter image_is changes_are within f.
            let w = makes.own.commits book s id call answer image changes poll spread announced leased at free counter
            image_is changes_are within (first book s f) in (
              w.0,
              join _ _ w.1 (commits_follow db book m now call s f.0.1, f.2.1)
                  (commits_holds db book m now s id call answer image changes poll spread announced at image_is changes_are within
                  (lists_kept lease m.me book _ w.0) f.0.1),
            );
        stands = λ book s f. ((f.0.0.went_on, f.0.1.image), f.2);
      };
      packet = record {
        later = λ book after b grew says. carries_later db book after (lists_kept lease m.me book after grew) b says;
        plain = plain_carries db;
        alike = λ book poll version total at bytes says. says;
        piece = λ book s poll version at is f. record {
          image = s.image;
          of = subst (λ (v : Version). IsImageOf db book v s.image) (same_of_eq s.version version is) f.0.1.image;
          total_is = refl;
          bytes_are = refl;
        };
        sent = λ book s poll at f. record { image = s.image; of = f.0.1.image; total_is = refl; bytes_are = refl };
        set_in_send = λ book s number poll spread at is f.
            set_carries db book number spread.old s.version is (subst (WasRelabelled book s.version) at f.0.1.relabelled);
        set_in_ready = λ book s number poll spread announced at is f.
            set_carries db book number spread.old s.version is (subst (WasRelabelled book s.version) at f.0.1.relabelled);
        write = λ book s poll spread announced flight at is f.
            write_carries db book announced s.version (text_of flight.changes) (f.0.1.flight poll spread announced flight at is);
      };
    }

  pub contents_pass : Pass db Both BothDurable (Carries db) Pages
  contents_pass = record {
    moves = contents_moves;
    durable = λ lease j k book later d other grew is. (
      others_went_on lease j k book later d.version other grew is.0,
      image_later db book later (lists_kept lease k book later grew) d.version d.image is.1,
    );
    server = λ lease own j k book later s other alone grew is. (
      others_make lease own j k book later s other alone grew is.0,
      holds_later db book later (lists_kept lease k book later grew) s is.1,
    );
    packet = λ lease k book later b grew says. carries_later db book later (lists_kept lease k book later grew) b says;
    fades = λ k book s is. ((makes_pass db B grows).fades k book s is.0, is.1);
    begins = λ k book s idle is. ((makes_pass db B grows).begins k book s idle is.0, is.1);
    opened = λ k n now lease book d pages is. (
      (makes_pass db B grows).opened k n now lease book d pages.0 is.0,
      record {
        image = is.1;
        relabelled = tt;
        flight = λ poll spread announced f at some. absurd (some_not_none None f refl some);
        received = tt;
        kept = tt;
      },
    );
  }
