-- Parts of a step: those that answer no call, and those that answer some; and how they follow one another.
use Rattle.std.proofs.Common.{Bool, true, false, cond, ◌==◌, ◌≡◌, inl, inr, ℕ, zero, ◌+◌, ◌≤◌, ◌<◌, List, [], ◌∷◌, ◌++◌, length, map, refl, sym, ap, subst}
use Rattle.std.proofs.Common.{◌∙◌, arith}
use Rattle.std.proofs.lemmas.List.{length-append, append-nil}
use Rattle.std.proofs.lemmas.List.Elements.{All-nil, All-cons}
use Rattle.std.specs.List.{AllByRecursion}
use Rattle.std.specs.Prelude.{Option, None, All}
use Rattle.lock_table.specs.declared.tables.TheConstants.{MAX_WAITING}
use Rattle.ubik_types.specs.declared.hosts.Host.{Host}
use Rattle.ubik_calls.specs.declared.packets.Body.{Body}
use Rattle.db_image.specs.Database.{Database}
use Rattle.cell_model.specs.declared.events.Output.{Output}
use Rattle.cell_model.specs.declared.events.Output.TheVariants as output
use Rattle.cell_model.specs.Durable.{Durable, Made, durable_after, durable_after_all}
use Rattle.cell_model.specs.Node.{Server, Flight, Waiting}
use Rattle.cell_model.specs.Step.{Member, cell_size, Evaluation, Shown, Stepped, quiet, showing, followed, packet_to, sent, sends_to, sends_from, sends_to_each}
use Rattle.cell_model.specs.World.{packets_of}
use Rattle.cell_places.proofs.Hosts.{HasPlace, all_placed, host_placed}
use Rattle.recovery_laws.specs.Spreads.{FitsOver, AllFit, durable_of}
use Rattle.recovery_laws.proofs.Goes.{fits_append, after_append, sum_few}
pub use Rattle.recovery_laws.proofs.Spreading.{IsBoundedBody}
use Rattle.write_laws.specs.Keeping.{IsKeeping, IsCellPacket}
use Rattle.write_laws.specs.Lines.{call_in_flight, unanswered, answers_of, AreAnswersTo, GoOn, IsLine}
use Rattle.write_laws.proofs.Facts.{Keeps}
use Rattle.write_laws.proofs.Lining.{told_both, goes_on, rest_both, still_few}

-- ---- what is shown

-- packets of the cell alone
abbrev pub IsFine : Member → Output → Type 0
IsFine m (output.Send p) = IsCellPacket m.hosts p
IsFine m _ = Unit {0}

abbrev pub AllFine : Member → List Shown → Type 0
AllFine m [] = Unit {0}
AllFine m (one ∷ shown) = IsFine m one.output × AllFine m shown

-- and no reply
abbrev pub IsSilent : Member → Output → Type 0
IsSilent m (output.Send p) = IsCellPacket m.hosts p
IsSilent m (output.Reply id r) = ⊥
IsSilent m (output.Announce version) = Unit {0}

abbrev pub AllSilent : Member → List Shown → Type 0
AllSilent m [] = Unit {0}
AllSilent m (one ∷ shown) = IsSilent m one.output × AllSilent m shown

pub silent_fine : (m : Member) (shown : List Shown) → AllSilent m shown → AllFine m shown
silent_fine m [] all = tt
silent_fine m (one ∷ shown) all = (by one.output all.0, silent_fine m shown all.1)
  where
    by : (o : Output) → IsSilent m o → IsFine m o
    by (output.Send p) is = is
    by (output.Reply id r) is = absurd is
    by (output.Announce version) is = tt

pub silent_answers : (m : Member) (shown : List Shown) → AllSilent m shown → answers_of shown ≡ []
silent_answers m [] all = refl
silent_answers m (one ∷ shown) all = by one.output one.evaluation all.0 (silent_answers m shown all.1)
  where
    by : (o : Output) (evaluation : Option Evaluation) → IsSilent m o → answers_of shown ≡ [] →
        answers_of (record { output = o; evaluation = evaluation } ∷ shown) ≡ []
    by (output.Send p) evaluation is rest = rest
    by (output.Reply id r) evaluation is rest = absurd is
    by (output.Announce version) evaluation is rest = rest

pub fine_packets : (m : Member) (shown : List Shown) → AllFine m shown → All (IsCellPacket m.hosts) (packets_of shown)
fine_packets m [] fine = All-nil _
fine_packets m (one ∷ shown) fine = by one.output one.evaluation fine.0 (fine_packets m shown fine.1)
  where
    by : (o : Output) (evaluation : Option Evaluation) → IsFine m o → All (IsCellPacket m.hosts) (packets_of shown) →
        All (IsCellPacket m.hosts) (packets_of (record { output = o; evaluation = evaluation } ∷ shown))
    by (output.Send p) evaluation first rest = All-cons (IsCellPacket m.hosts) p (packets_of shown) first rest
    by (output.Reply id r) evaluation first rest = rest
    by (output.Announce version) evaluation first rest = rest

pub fine_append : (m : Member) (shown more : List Shown) → AllFine m shown → AllFine m more → AllFine m (shown ++ more)
fine_append m [] more first second = second
fine_append m (one ∷ shown) more first second = (first.0, fine_append m shown more first.1 second)

pub silent_append : (m : Member) (shown more : List Shown) → AllSilent m shown → AllSilent m more → AllSilent m (shown ++ more)
silent_append m [] more first second = second
silent_append m (one ∷ shown) more first second = (first.0, silent_append m shown more first.1 second)

-- ---- packets

module _ (m : Member) (inside : m.me < cell_size m) where
  packet_fine : (host : Host) (b : Body) → HasPlace m.hosts host → IsBoundedBody b → IsCellPacket m.hosts (packet_to m host b)
  packet_fine host b there is = record { bounded = is; sender = host_placed m.hosts m.me inside; receiver = there }

  -- one packet to a host of the cell
  pub one_silent : (host : Host) (b : Body) → HasPlace m.hosts host → IsBoundedBody b → AllSilent m (sends_to m host b)
  one_silent host b there is = (packet_fine host b there is, tt)

  sent_silent : (host : Host) (bodies : List Body) → HasPlace m.hosts host → AllByRecursion IsBoundedBody bodies →
      AllSilent m (map (λ (b : Body). sent (packet_to m host b)) bodies)
  sent_silent host [] there all = tt
  sent_silent host (b ∷ bodies) there all = (packet_fine host b there all.0, sent_silent host bodies there all.1)

  silent_if : (test : Bool) (shown : List Shown) → AllSilent m shown → AllSilent m (cond test [] shown)
  silent_if true shown all = tt
  silent_if false shown all = all

  from_silent : (k : ℕ) (hosts : List Host) (bodies : ℕ → List Body) → ((k : ℕ) → AllByRecursion IsBoundedBody (bodies k)) →
      AllByRecursion (HasPlace m.hosts) hosts → AllSilent m (sends_from m k hosts bodies)
  from_silent k [] bodies all there = tt
  from_silent k (host ∷ hosts) bodies all there =
      silent_append m (cond (k == m.me) [] (map (λ (b : Body). sent (packet_to m host b)) (bodies k))) (sends_from m (k + 1) hosts bodies)
      (silent_if (k == m.me) (map (λ (b : Body). sent (packet_to m host b)) (bodies k)) (sent_silent host (bodies k) there.0 (all k)))
      (from_silent (k + 1) hosts bodies all there.1)

  -- packets to each other server
  pub each_silent : (bodies : ℕ → List Body) → ((k : ℕ) → AllByRecursion IsBoundedBody (bodies k)) → AllSilent m (sends_to_each m bodies)
  each_silent bodies all = from_silent 0 m.hosts bodies all (all_placed m.hosts)

-- ---- parts that answer no call

-- what has no answer yet
pub record Line : Type 0 where
  pub flight : Option Flight
  pub waiting : List Waiting

abbrev pub line_of : Server → Line
line_of s = record { flight = s.flight; waiting = s.waiting }

abbrev pub calls_in : Line → List Waiting
calls_in l = call_in_flight l.flight ++ l.waiting

-- nothing waits where no write is in flight
abbrev pub IsIdle : Line → Type 0
IsIdle l = l.flight ≡ None → l.waiting ≡ []

zero_few : (n : ℕ) → zero ≤ n
zero_few n = omega arith

-- Packets and announcements alone are shown, the line stays, and at most so many durable calls lead to the database of the server.
pub record Goes (db : Database) (m : Member) (most : ℕ) (s : Server) (t : Stepped) : Type 0 where
  pub server : Keeps db (cell_size m) t.server
  pub shown : AllSilent m t.shown
  pub fits : AllFit (durable_of s) t.calls
  pub leads : durable_after_all (durable_of s) t.calls ≡ durable_of t.server
  pub few : length t.calls ≤ most
  pub same : line_of t.server ≡ line_of s

module _ (db : Database) (m : Member) where
  abbrev Good : Server → Type 0
  Good s = Keeps db (cell_size m) s

  -- the server is another one, with the same database and the same line
  pub turns : (most : ℕ) (s u : Server) (shown : List Shown) → durable_of s ≡ durable_of u → line_of u ≡ line_of s → Good u →
      AllSilent m shown → Goes db m most s (showing u shown)
  turns most s u shown database line good silent =
      record { server = good; shown = silent; fits = tt; leads = database; few = zero_few most; same = line }

  pub shows : (most : ℕ) (s : Server) (shown : List Shown) → Good s → AllSilent m shown → Goes db m most s (showing s shown)
  shows most s shown good silent = turns most s s shown refl refl good silent

  pub rests : (most : ℕ) (s : Server) → Good s → Goes db m most s (quiet s)
  rests most s good = shows most s [] good tt

  -- one durable call
  pub makes : (s u : Server) (made : Made) (shown : List Shown) → durable_after (durable_of s) made.call ≡ durable_of u →
      line_of u ≡ line_of s → FitsOver s.image made.call → Good u → AllSilent m shown →
      Goes db m 1 s (record { server = u; calls = made ∷ []; shown = shown })
  makes s u made shown database line fits good silent =
      record { server = good; shown = silent; fits = (fits, tt); leads = database; few = omega arith; same = line }

  pub follows : (a b : ℕ) (s : Server) (t : Stepped) (next : Server → Stepped) → Goes db m a s t →
      (Good t.server → Goes db m b t.server (next t.server)) → Goes db m (a + b) s (followed t next)
  follows a b s t next first second = by (second first.server)
    where
      by : Goes db m b t.server (next t.server) → Goes db m (a + b) s (followed t next)
      by then = record {
        server = then.server;
        shown = silent_append m t.shown (next t.server).shown first.shown then.shown;
        fits =
            fits_append (durable_of s) t.calls (next t.server).calls first.fits
            (subst (λ (d : Durable). AllFit d (next t.server).calls) (sym first.leads) then.fits);
        leads =
            after_append (durable_of s) t.calls (next t.server).calls
            ∙ ap (λ (d : Durable). durable_after_all d (next t.server).calls) first.leads ∙ then.leads;
        few =
            sum_few (length (t.calls ++ (next t.server).calls)) (length t.calls) (length (next t.server).calls) a b
            (length-append t.calls (next t.server).calls) first.few then.few;
        same = then.same ∙ first.same;
      }

  -- the same from a server that has the same database and the same line
  pub before : (most : ℕ) (s u : Server) (t : Stepped) → durable_of u ≡ durable_of s → line_of u ≡ line_of s → Goes db m most u t →
      Goes db m most s t
  before most s u t database line goes = record {
    server = goes.server;
    shown = goes.shown;
    fits = subst (λ (d : Durable). AllFit d t.calls) database goes.fits;
    leads = ap (λ (d : Durable). durable_after_all d t.calls) (sym database) ∙ goes.leads;
    few = goes.few;
    same = goes.same ∙ line;
  }

  -- at most more
  pub within : (less most : ℕ) (s : Server) (t : Stepped) → less ≤ most → Goes db m less s t → Goes db m most s t
  within less most s t is goes = record {
    server = goes.server;
    shown = goes.shown;
    fits = goes.fits;
    leads = goes.leads;
    few = at_most (length t.calls) goes.few;
    same = goes.same;
  }
    where
      at_most : (n : ℕ) → n ≤ less → n ≤ most
      at_most n few = omega arith

-- ---- parts that answer calls

-- Of these calls, which have no answer yet, the first ones are answered, each once.
pub record Serves (db : Database) (m : Member) (most : ℕ) (waiting : List Waiting) (s : Server) (t : Stepped) : Type 0 where
  pub server : Keeps db (cell_size m) t.server
  pub shown : AllFine m t.shown
  pub fits : AllFit (durable_of s) t.calls
  pub leads : durable_after_all (durable_of s) t.calls ≡ durable_of t.server
  pub few : length t.calls ≤ most
  pub answered : List Waiting
  pub told : AreAnswersTo db answered (answers_of t.shown)
  pub rest : waiting ≡ answered ++ unanswered t.server

-- A whole step, or the lapse: in it these calls are asked.
pub record Handles (db : Database) (m : Member) (most : ℕ) (asked : List Waiting) (s : Server) (t : Stepped) : Type 0 where
  pub server : IsKeeping db (cell_size m) t.server
  pub shown : AllFine m t.shown
  pub fits : AllFit (durable_of s) t.calls
  pub leads : durable_after_all (durable_of s) t.calls ≡ durable_of t.server
  pub few : length t.calls ≤ most
  pub line : IsLine db (unanswered s) asked (answers_of t.shown) (unanswered t.server)

module _ (db : Database) (m : Member) where
  abbrev pub none_told : (shown : List Shown) → AllSilent m shown → AreAnswersTo db [] (answers_of shown)
  none_told shown silent = subst (AreAnswersTo db []) (sym (silent_answers m shown silent)) tt

  pub of_silent : (most : ℕ) (s : Server) (t : Stepped) → Goes db m most s t → Serves db m most (unanswered s) s t
  of_silent most s t goes = record {
    server = goes.server;
    shown = silent_fine m t.shown goes.shown;
    fits = goes.fits;
    leads = goes.leads;
    few = goes.few;
    answered = [];
    told = none_told t.shown goes.shown;
    rest = ap calls_in (sym goes.same);
  }

  pub serves_then : (a b : ℕ) (waiting : List Waiting) (s : Server) (t : Stepped) (next : Server → Stepped) → Serves db m a waiting s t →
      Serves db m b (unanswered t.server) t.server (next t.server) → Serves db m (a + b) waiting s (followed t next)
  serves_then a b waiting s t next first then = record {
    server = then.server;
    shown = fine_append m t.shown (next t.server).shown first.shown then.shown;
    fits =
        fits_append (durable_of s) t.calls (next t.server).calls first.fits
        (subst (λ (d : Durable). AllFit d (next t.server).calls) (sym first.leads) then.fits);
    leads =
        after_append (durable_of s) t.calls (next t.server).calls
        ∙ ap (λ (d : Durable). durable_after_all d (next t.server).calls) first.leads ∙ then.leads;
    few =
        sum_few (length (t.calls ++ (next t.server).calls)) (length t.calls) (length (next t.server).calls) a b
        (length-append t.calls (next t.server).calls) first.few then.few;
    answered = first.answered ++ then.answered;
    told = told_both db first.answered then.answered t.shown (next t.server).shown first.told then.told;
    rest =
        rest_both waiting (unanswered t.server) first.answered then.answered (unanswered (next t.server).server) first.rest then.rest;
  }

  pub keeping : (s : Server) → Keeps db (cell_size m) s → length s.waiting ≤ MAX_WAITING → IsIdle (line_of s) → IsKeeping db (cell_size m) s
  keeping s good few idle = record {
    version = good.version;
    phase = good.phase;
    received = good.received;
    kept = good.kept;
    flight = good.flight;
    line = good.line;
    few = few;
    idle = idle;
  }

  -- what serves calls from the front of the line, and leaves none waiting without a write in flight
  pub handles : (most : ℕ) (s : Server) (t : Stepped) → IsKeeping db (cell_size m) s → Serves db m most (unanswered s) s t →
      IsIdle (line_of t.server) → Handles db m most [] s t
  handles most s t good serves idle = record {
    server =
        keeping t.server serves.server
        (still_few s.flight s.waiting t.server.flight t.server.waiting serves.answered good.few good.idle idle serves.rest) idle;
    shown = serves.shown;
    fits = serves.fits;
    leads = serves.leads;
    few = serves.few;
    line = record { answered = serves.answered; told = serves.told; rest = inl (append-nil (unanswered s) ∙ serves.rest) };
  }

  pub silent : (most : ℕ) (s : Server) (t : Stepped) → IsKeeping db (cell_size m) s → Goes db m most s t → Handles db m most [] s t
  silent most s t good goes = handles most s t good (of_silent most s t goes) (subst IsIdle (sym goes.same) good.idle)

  -- what is asked behind the lapse
  pub handles_then : (a b : ℕ) (asked : List Waiting) (s : Server) (t : Stepped) (next : Server → Stepped) → Handles db m a [] s t →
      Handles db m b asked t.server (next t.server) → Handles db m (a + b) asked s (followed t next)
  handles_then a b asked s t next first then = record {
    server = then.server;
    shown = fine_append m t.shown (next t.server).shown first.shown then.shown;
    fits =
        fits_append (durable_of s) t.calls (next t.server).calls first.fits
        (subst (λ (d : Durable). AllFit d (next t.server).calls) (sym first.leads) then.fits);
    leads =
        after_append (durable_of s) t.calls (next t.server).calls
        ∙ ap (λ (d : Durable). durable_after_all d (next t.server).calls) first.leads ∙ then.leads;
    few =
        sum_few (length (t.calls ++ (next t.server).calls)) (length t.calls) (length (next t.server).calls) a b
        (length-append t.calls (next t.server).calls) first.few then.few;
    line = record {
      answered = first.line.answered ++ then.line.answered;
      told = told_both db first.line.answered then.line.answered t.shown (next t.server).shown first.line.told then.line.told;
      rest =
          goes_on (unanswered s) (unanswered t.server) asked first.line.answered then.line.answered (unanswered (next t.server).server)
          (in_order (unanswered s) first.line.answered (unanswered t.server) first.line.rest) then.line.rest;
    };
  }
    where
      in_order : (before answered after : List Waiting) → GoOn before [] answered after → before ≡ answered ++ after
      in_order before answered after (inl is) = sym (append-nil before) ∙ is
      in_order before answered after (inr is) =
          is.2 ∙ ap (λ (l : List Waiting). l ++ after) (sym (append-nil is.0) ∙ sym is.1)
