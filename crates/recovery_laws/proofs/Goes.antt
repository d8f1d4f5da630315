-- What a part of a step shows and makes durable, and how parts follow one another.
use Rattle.std.proofs.Common.{Bool, true, false, cond, ◌==◌, ◌≡◌, ℕ, zero, ◌+◌, ◌<◌, ◌≤◌, List, [], ◌∷◌, ◌++◌, length, map, refl, sym, ap, subst, ◌∙◌, arith}
use Rattle.std.proofs.lemmas.List.{length-append}
use Rattle.std.proofs.lemmas.List.Elements.{All-nil, All-cons}
use Rattle.std.specs.List.{AllByRecursion}
use Rattle.std.specs.Prelude.{Option, All}
use Rattle.ubik_types.specs.declared.hosts.Host.{Host}
use Rattle.ubik_calls.specs.declared.packets.Body.{Body}
use Rattle.cell_model.specs.declared.events.NodeEvent.{NodeEvent}
use Rattle.cell_model.specs.declared.events.Output.{Output}
use Rattle.cell_model.specs.declared.events.Output.TheVariants as output
use Rattle.cell_model.specs.Durable.{Durable, Made, durable_after, durable_after_all}
use Rattle.cell_model.specs.Node.{Server}
use Rattle.cell_model.specs.Step.{Member, cell_size, Evaluation, Shown, Stepped, quiet, showing, followed, packet_to, sent, sends_to, sends_from, sends_to_each}
use Rattle.cell_model.specs.Voters.{IsOkOf, AnswersCall, AsksNoOther}
use Rattle.cell_model.specs.World.{packets_of}
use Rattle.cell_places.proofs.Hosts.{HasPlace, all_placed, host_placed}
use Rattle.recovery_laws.specs.HasNoWrite.{HasNoWrite, IsRecoveryBody, IsRecoveryPacket}
use Rattle.recovery_laws.specs.Spreads.{FitsOver, AllFit, TakesNoWrite, AllTakeNoWrite, durable_of}

-- ---- what is shown

-- packets of votes and recovery alone, and no Ok but the answer to what is asked
abbrev pub IsFine : Member → NodeEvent → Output → Option Evaluation → Type 0
IsFine m e (output.Send p) evaluation = IsRecoveryPacket m.hosts p
IsFine m e (output.Reply id r) evaluation = (call : List ℕ) → AsksNoOther e call → IsOkOf call (output.Reply id r) evaluation
IsFine m e (output.Announce version) evaluation = Unit {0}

abbrev pub AllFine : Member → NodeEvent → List Shown → Type 0
AllFine m e [] = Unit {0}
AllFine m e (one ∷ shown) = IsFine m e one.output one.evaluation × AllFine m e shown

pub fine_packets : (m : Member) (e : NodeEvent) (shown : List Shown) → AllFine m e shown → All (IsRecoveryPacket m.hosts) (packets_of shown)
fine_packets m e [] fine = All-nil _
fine_packets m e (one ∷ shown) fine = by one.output one.evaluation fine.0 (fine_packets m e shown fine.1)
  where
    by : (o : Output) (evaluation : Option Evaluation) → IsFine m e o evaluation → All (IsRecoveryPacket m.hosts) (packets_of shown) →
        All (IsRecoveryPacket m.hosts) (packets_of (record { output = o; evaluation = evaluation } ∷ shown))
    by (output.Send p) evaluation first rest = All-cons (IsRecoveryPacket m.hosts) p (packets_of shown) first rest
    by (output.Reply id r) evaluation first rest = rest
    by (output.Announce version) evaluation first rest = rest

pub fine_answers : (m : Member) (e : NodeEvent) (call : List ℕ) (shown : List Shown) → AsksNoOther e call → AllFine m e shown →
    All (AnswersCall call) shown
fine_answers m e call [] asks fine = All-nil _
fine_answers m e call (one ∷ shown) asks fine =
    All-cons (AnswersCall call) one shown (by one.output one.evaluation fine.0) (fine_answers m e call shown asks fine.1)
  where
    by : (o : Output) (evaluation : Option Evaluation) → IsFine m e o evaluation → IsOkOf call o evaluation
    by (output.Send p) evaluation first = tt
    by (output.Reply id r) evaluation first = first call asks
    by (output.Announce version) evaluation first = tt

fine_append : (m : Member) (e : NodeEvent) (shown more : List Shown) → AllFine m e shown → AllFine m e more → AllFine m e (shown ++ more)
fine_append m e [] more first second = second
fine_append m e (one ∷ shown) more first second = (first.0, fine_append m e shown more first.1 second)

-- ---- packets

module _ (m : Member) (e : NodeEvent) (inside : m.me < cell_size m) where
  packet_fine : (host : Host) (b : Body) → HasPlace m.hosts host → IsRecoveryBody b → IsRecoveryPacket m.hosts (packet_to m host b)
  packet_fine host b there is = record { body = is; sender = host_placed m.hosts m.me inside; receiver = there }

  -- one packet to a host of the cell
  pub one_fine : (host : Host) (b : Body) → HasPlace m.hosts host → IsRecoveryBody b → AllFine m e (sends_to m host b)
  one_fine host b there is = (packet_fine host b there is, tt)

  sent_fine : (host : Host) (bodies : List Body) → HasPlace m.hosts host → AllByRecursion IsRecoveryBody bodies →
      AllFine m e (map (λ (b : Body). sent (packet_to m host b)) bodies)
  sent_fine host [] there all = tt
  sent_fine host (b ∷ bodies) there all = (packet_fine host b there all.0, sent_fine host bodies there all.1)

  fine_if : (test : Bool) (shown : List Shown) → AllFine m e shown → AllFine m e (cond test [] shown)
  fine_if true shown all = tt
  fine_if false shown all = all

  from_fine : (k : ℕ) (hosts : List Host) (bodies : ℕ → List Body) → ((k : ℕ) → AllByRecursion IsRecoveryBody (bodies k)) →
      AllByRecursion (HasPlace m.hosts) hosts → AllFine m e (sends_from m k hosts bodies)
  from_fine k [] bodies all there = tt
  from_fine k (host ∷ hosts) bodies all there =
      fine_append m e (cond (k == m.me) [] (map (λ (b : Body). sent (packet_to m host b)) (bodies k))) (sends_from m (k + 1) hosts bodies)
      (fine_if (k == m.me) (map (λ (b : Body). sent (packet_to m host b)) (bodies k)) (sent_fine host (bodies k) there.0 (all k)))
      (from_fine (k + 1) hosts bodies all there.1)

  -- packets to each other server
  pub each_fine : (bodies : ℕ → List Body) → ((k : ℕ) → AllByRecursion IsRecoveryBody (bodies k)) → AllFine m e (sends_to_each m bodies)
  each_fine bodies all = from_fine 0 m.hosts bodies all (all_placed m.hosts)

-- ---- durable calls

pub fits_append : (d : Durable) (calls more : List Made) → AllFit d calls → AllFit (durable_after_all d calls) more → AllFit d (calls ++ more)
fits_append d [] more first second = second
fits_append d (made ∷ calls) more first second = (first.0, fits_append (durable_after d made.call) calls more first.1 second)

pub after_append : (d : Durable) (calls more : List Made) →
    durable_after_all d (calls ++ more) ≡ durable_after_all (durable_after_all d calls) more
after_append d [] more = refl
after_append d (made ∷ calls) more = after_append (durable_after d made.call) calls more

own_append : (calls more : List Made) → AllTakeNoWrite calls → AllTakeNoWrite more → AllTakeNoWrite (calls ++ more)
own_append [] more first second = second
own_append (made ∷ calls) more first second = (first.0, own_append calls more first.1 second)

zero_few : (n : ℕ) → zero ≤ n
zero_few n = omega arith

pub sum_few : (n x y a b : ℕ) → n ≡ x + y → x ≤ a → y ≤ b → n ≤ a + b
sum_few n x y a b is first second = omega arith

-- ---- parts of a step

-- A part of a step: the server after it has no write, what is shown is fine, and at most so many durable calls lead to its database.
pub record Goes (most : ℕ) (m : Member) (e : NodeEvent) (s : Server) (t : Stepped) : Type 0 where
  pub server : HasNoWrite (cell_size m) t.server
  pub shown : AllFine m e t.shown
  pub fits : AllFit (durable_of s) t.calls
  pub leads : durable_after_all (durable_of s) t.calls ≡ durable_of t.server
  pub few : length t.calls ≤ most
  pub own : AllTakeNoWrite t.calls

module _ (m : Member) (e : NodeEvent) where
  -- the server is another one, with the same database
  pub turns : (most : ℕ) (s u : Server) (shown : List Shown) → durable_of s ≡ durable_of u → HasNoWrite (cell_size m) u →
      AllFine m e shown → Goes most m e s (showing u shown)
  turns most s u shown same good fine = record { server = good; shown = fine; fits = tt; leads = same; few = zero_few most; own = tt }

  pub shows : (most : ℕ) (s : Server) (shown : List Shown) → HasNoWrite (cell_size m) s → AllFine m e shown →
      Goes most m e s (showing s shown)
  shows most s shown good fine = turns most s s shown refl good fine

  pub rests : (most : ℕ) (s : Server) → HasNoWrite (cell_size m) s → Goes most m e s (quiet s)
  rests most s good = shows most s [] good tt

  -- one durable call
  pub makes : (s u : Server) (made : Made) (shown : List Shown) → durable_after (durable_of s) made.call ≡ durable_of u →
      FitsOver s.image made.call → TakesNoWrite made.reason made.call → HasNoWrite (cell_size m) u → AllFine m e shown →
      Goes 1 m e s (record { server = u; calls = made ∷ []; shown = shown })
  makes s u made shown same fits own good fine =
      record { server = good; shown = fine; fits = (fits, tt); leads = same; few = omega arith; own = (own, tt) }

  pub follows : (a b : ℕ) (s : Server) (t : Stepped) (next : Server → Stepped) → Goes a m e s t →
      (HasNoWrite (cell_size m) t.server → Goes b m e t.server (next t.server)) → Goes (a + b) m e s (followed t next)
  follows a b s t next first second = by (second first.server)
    where
      by : Goes b m e t.server (next t.server) → Goes (a + b) m e s (followed t next)
      by then = record {
        server = then.server;
        shown = fine_append m e t.shown (next t.server).shown first.shown then.shown;
        fits =
            fits_append (durable_of s) t.calls (next t.server).calls first.fits
            (subst (λ (d : Durable). AllFit d (next t.server).calls) (sym first.leads) then.fits);
        leads =
            after_append (durable_of s) t.calls (next t.server).calls
            ∙ ap (λ (d : Durable). durable_after_all d (next t.server).calls) first.leads ∙ then.leads;
        few =
            sum_few (length (t.calls ++ (next t.server).calls)) (length t.calls) (length (next t.server).calls) a b
            (length-append t.calls (next t.server).calls) first.few then.few;
        own = own_append t.calls (next t.server).calls first.own then.own;
      }

  -- the same from a server that has the same database
  pub before : (most : ℕ) (s u : Server) (t : Stepped) → durable_of u ≡ durable_of s → Goes most m e u t → Goes most m e s t
  before most s u t same goes = record {
    server = goes.server;
    shown = goes.shown;
    fits = subst (λ (d : Durable). AllFit d t.calls) same goes.fits;
    leads = ap (λ (d : Durable). durable_after_all d t.calls) (sym same) ∙ goes.leads;
    few = goes.few;
    own = goes.own;
  }

  -- at most more
  pub within : (less most : ℕ) (s : Server) (t : Stepped) → less ≤ most → Goes less m e s t → Goes most m e s t
  within less most s t is goes = record {
    server = goes.server;
    shown = goes.shown;
    fits = goes.fits;
    leads = goes.leads;
    few = at_most (length t.calls) goes.few;
    own = goes.own;
  }
    where
      at_most : (n : ℕ) → n ≤ less → n ≤ most
      at_most n few = omega arith
