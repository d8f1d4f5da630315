-- A call that is asked has its answer at once, or goes behind those that have none.
use Rattle.std.proofs.Common.{Bool, true, false, ◌==◌, ◌≡◌, inl, inr, ℕ, ◌+◌, ◌<◌, ◌≤◌, List, [], ◌∷◌, ◌++◌, length, refl, sym, ap, subst, ◌∙◌}
use Rattle.std.proofs.Common.{append_assoc, arith}
use Rattle.std.proofs.lemmas.Bool.{cond_both}
use Rattle.std.proofs.lemmas.Bool.Decides.{nat_tests}
use Rattle.std.proofs.lemmas.List.{length-append}
use Rattle.std.specs.List.{AllByRecursion}
use Rattle.std.specs.Prelude.{Option, Some, None, nat_le}
use Rattle.lock_table.specs.declared.tables.TheConstants.{MAX_WAITING}
use Rattle.ubik_types.specs.Moment.{IsMoment}
use Rattle.ubik_types.specs.Votes.{sync_heard}
use Rattle.ubik_calls.specs.declared.replies.Reply.{Reply}
use Rattle.ubik_calls.specs.declared.replies.Reply.TheVariants as reply
use Rattle.db_image.specs.declared.services.CallReply.{CallReply}
use Rattle.db_image.specs.declared.services.CallReply.TheVariants as call_reply
use Rattle.db_image.specs.Database.{Database}
use Rattle.cell_model.specs.declared.events.Output.TheVariants as output
use Rattle.cell_model.specs.Asks.{read_reply, read, put_into_line, write_asked, served, allows_reads, not_served, asked_elsewhere, asked_as}
use Rattle.cell_model.specs.Node.{Server, Flight, Waiting}
use Rattle.cell_model.specs.Step.{Member, cell_size, Basis, Announced_image, Beacon_image, Evaluation, Stepped, showing, leased, is_ready}
use Rattle.cell_model.specs.Step.{told_version, refusing}
use Rattle.cell_model.specs.Voters.{IsOkOf}
use Rattle.cell_model.specs.Writes.{announced_image, is_free, write_turn}
use Rattle.write_laws.specs.Keeping.{IsWriting, IsKeeping}
use Rattle.write_laws.specs.Lines.{call_in_flight, IsGiven}
use Rattle.write_laws.proofs.Facts.{keeps}
use Rattle.write_laws.proofs.Goes.{IsIdle, line_of, Handles, keeping}
use Rattle.write_laws.proofs.Lining.{without_flight, one_few}
use Rattle.write_laws.proofs.Turning.{Turned, write_turned}

-- one more in the line
all_behind : (P : Waiting → Type 0) (waiting : List Waiting) (w : Waiting) → AllByRecursion P waiting → P w → AllByRecursion P (waiting ++ w ∷ [])
all_behind P [] w all last = (last, tt)
all_behind P (v ∷ waiting) w all last = (all.0, all_behind P waiting w all.1 last)

module _ (db : Database) (m : Member) (now : ℕ) (inside : m.me < cell_size m) (moment : IsMoment now) (s : Server) (good : IsKeeping db (cell_size m) s) (id : ℕ)
    (call : List ℕ) where
  abbrev w : Waiting
  w = record { id = id; call = call }

  abbrev Asked : Stepped → Type 0
  Asked t = Handles db m 2 (w ∷ []) s t

  -- it is answered at once
  one_reply : (r : Reply) (evaluation : Option Evaluation) → IsOkOf call (output.Reply id r) evaluation → IsGiven db r evaluation →
      Asked (showing s (record { output = output.Reply id r; evaluation = evaluation } ∷ []))
  one_reply r evaluation fits given = record {
    server = good;
    shown = (tt, tt);
    fits = tt;
    leads = refl;
    few = omega arith;
    line = record { answered = w ∷ []; told = (record { id = refl; call = fits; given = given }, tt); rest = inr ([], refl, refl) };
  }

  -- ---- reads

  answer_goes : (image : List ℕ) (basis : Basis) (r : CallReply) → (db.call image now call).reply ≡ r →
      Asked (showing s (read_reply id (record { call = call; moment = now; basis = basis }) r ∷ []))
  answer_goes image basis (call_reply.Done answer) is = one_reply (reply.Ok answer) _ refl (image, is)
  answer_goes image basis (call_reply.Rule number) is = one_reply (reply.Rule number) _ tt (image, is)
  answer_goes image basis call_reply.Malformed is = one_reply reply.Malformed None tt tt
  answer_goes image basis (call_reply.BadRecord at) is = one_reply (reply.BadRecord at) None tt tt

  read_goes : (image : List ℕ) (basis : Basis) (short : Bool) → Asked (read db s now id call image basis short)
  read_goes image basis true = one_reply reply.NoMemory None tt tt
  read_goes image basis false = answer_goes image basis (db.call image now call).reply refl

  unserved_goes : (heard : Option (ℕ × ℕ)) → Asked (showing s (refusing id (not_served m s now heard) ∷ []))
  unserved_goes None = one_reply _ None tt tt
  unserved_goes (Some heard) =
      cond_both (heard.0 == m.me) _ _ (λ r. Asked (showing s (refusing id r ∷ []))) (λ _. one_reply _ None tt tt) (λ _. one_reply _ None tt tt)

  elsewhere_goes : (writes short may_read : Bool) → Asked (asked_elsewhere db m s now id call writes short may_read)
  elsewhere_goes true short may_read = unserved_goes (sync_heard now s.votes)
  elsewhere_goes false short true = read_goes s.image (Beacon_image s.version) short
  elsewhere_goes false short false = unserved_goes (sync_heard now s.votes)

  -- ---- writes

  -- it has its turn, since none waits
  turn_goes : (t : Stepped) → s.flight ≡ None → Turned db m w s t → Asked t
  turn_goes t none turned = record {
    server =
        keeping db m t.server turned.serves.server
        (one_few w t.server.flight t.server.waiting turned.serves.answered (sym alone ∙ turned.serves.rest)) (idle (is_free t.server) refl);
    shown = turned.serves.shown;
    fits = turned.serves.fits;
    leads = turned.serves.leads;
    few = at_most (length t.calls) turned.serves.few;
    line = record {
      answered = turned.serves.answered;
      told = turned.serves.told;
      rest = inl (ap (λ (l : List Waiting). l ++ w ∷ []) (without_flight s.flight s.waiting none ∙ good.idle none) ∙ sym alone ∙ turned.serves.rest);
    };
  }
    where
      alone : w ∷ s.waiting ≡ w ∷ []
      alone = ap (λ (l : List Waiting). w ∷ l) (good.idle none)

      idle : (free : Bool) → is_free t.server ≡ free → IsIdle (line_of t.server)
      idle true is = λ _. turned.free is ∙ good.idle none
      idle false is = turned.stuck is

      at_most : (n : ℕ) → n ≤ 1 → n ≤ 2
      at_most n few = omega arith

  -- it waits behind the write in flight
  line_goes : (short : Bool) (f : Flight) → s.flight ≡ Some f → db.writes call ≡ Some true → Asked (put_into_line s id call short f)
  line_goes short f at writes =
      cond_both (nat_le MAX_WAITING (length s.waiting)) _ _ Asked (λ _. one_reply (reply.LineFull f.id) None tt tt)
      (λ some. cond_both short _ _ Asked (λ _. one_reply reply.NoMemory None tt tt) (λ _. waits some))
    where
      shorter : (n : ℕ) → nat_le MAX_WAITING n ≡ false → n + 1 ≤ MAX_WAITING
      shorter n is = grind (arith, nat_tests)

      waits : nat_le MAX_WAITING (length s.waiting) ≡ false → Asked (showing (record s { waiting = s.waiting ++ w ∷ [] }) [])
      waits some = record {
        server = record {
          version = good.version;
          phase = good.phase;
          received = good.received;
          kept = good.kept;
          flight = good.flight;
          line = all_behind (IsWriting db) s.waiting w good.line writes;
          few = subst (λ (n : ℕ). n ≤ MAX_WAITING) (sym (length-append s.waiting (w ∷ []))) (shorter (length s.waiting) some);
          idle = λ none. absurd (cc);
        };
        shown = tt;
        fits = tt;
        leads = refl;
        few = omega arith;
        line = record { answered = []; told = tt; rest = inl (append_assoc (call_in_flight s.flight) s.waiting (w ∷ [])) };
      }

  written_goes : (short : Bool) (f : Option Flight) → s.flight ≡ f → is_ready s.phase ≡ true → db.writes call ≡ Some true →
      Asked (write_asked db m s now id call short f)
  written_goes short None at ready writes =
      turn_goes (write_turn db m s now id call short) at
      (write_turned db m now inside moment s (keeps db (cell_size m) s good) at ready id call writes short)
  written_goes short (Some f) at ready writes = line_goes short f at writes

  served_goes : (writes short : Bool) → db.writes call ≡ Some writes → is_ready s.phase ≡ true → Asked (served db m s now id call writes short)
  served_goes true short is ready = written_goes short s.flight refl ready is
  served_goes false short is ready = read_goes (announced_image s) (Announced_image (told_version s.phase s.version)) short

  pub asked_goes : (short : Bool) (o : Option Bool) → db.writes call ≡ o → Asked (asked_as db m s now id call short o)
  asked_goes short None is = one_reply reply.Malformed None tt tt
  asked_goes short (Some writes) is =
      cond_both (leased m s now) _ _ Asked
      (λ _. cond_both (is_ready s.phase) _ _ Asked (served_goes writes short is) (λ _. one_reply _ None tt tt))
      (λ _. elsewhere_goes writes short (allows_reads s.version now s.beacon))
