-- What a writing call leads to at its turn.
use Rattle.std.proofs.Common.{◌≡◌, ◌<◌, ℕ, suc, Bool, true, false, cond, Option, Some, None, IfSome, IsSome, List, [], ◌∷◌, length, replicate, take, refl, sym, ap, subst, ◌∙◌, arith}
use Rattle.std.proofs.lemmas.Bool.{false≢true}
use Rattle.std.proofs.lemmas.Bool.Decides.{nat_tests}
use Rattle.std.proofs.lemmas.List.{append-nil}
use Rattle.ubik_types.specs.declared.hosts.Host.{Host}
use Rattle.ubik_types.specs.declared.images.Change.{Change}
use Rattle.ubik_types.specs.declared.phases.Phase.TheVariants as phase
use Rattle.ubik_types.specs.declared.versions.Version.{Version}
use Rattle.ubik_types.specs.Logged.{too_large}
use Rattle.ubik_types.specs.Quorum.{marked}
use Rattle.ubik_types.specs.Version.{version_lt}
use Rattle.xdr_base.specs.ChangeText.{text_of}
use Rattle.ubik_calls.specs.declared.replies.Reply.{Reply}
use Rattle.ubik_calls.specs.declared.replies.Reply.TheVariants as reply
use Rattle.db_image.specs.declared.services.CallReply.{CallReply}
use Rattle.db_image.specs.declared.services.CallReply.TheVariants.{Done, Rule, Malformed, BadRecord}
use Rattle.db_image.specs.Database.{Database, changes_of}
use Rattle.cell_model.specs.declared.events.Output.{Output}
use Rattle.cell_model.specs.declared.events.Output.TheVariants as output
use Rattle.cell_model.specs.Asks.{read_reply}
use Rattle.cell_model.specs.Node.{Server}
use Rattle.cell_model.specs.Polls.{is_marked}
use Rattle.cell_model.specs.Step.{Evaluation, Member, Shown, cell_size, outputs_of, sends_to_each, told_version, with_database}
use Rattle.cell_model.specs.Writes.{answered_on, flight_of, next_version, own_commit, turned, write_bodies}
use Rattle.cell_model.specs.Writes.{written, written_changes, written_in, written_within}
use Rattle.state_laws.proofs.Turning.{one_is_few}
use Rattle.site_writes.specs.OwnWrite.{OwnRecord, own_write}
use Rattle.ubik_recovery.specs.Record.{RecoveryRecord, held_alone, with_text}
use Rattle.ubik_recovery.specs.Rules.{recovering}
use Rattle.ubik_write.specs.Flight.{FlightRecord, IsFlightOf, Undoes}
use Rattle.disk_base.specs.Files.{Files}
use Rattle.ubik_store.specs.Store.{image_in}
use Rattle.server_state.specs.Beacons.{alone}
use Rattle.ubik_node.specs.Verdict.{Leads}
use Rattle.server_state.specs.Writing.{write_begun}
use Rattle.ubik_node.proofs.Durables.{IsThere}
use Rattle.server_rules.proofs.Turns.{sends_same}

module _ (db : Database) (m : Member) (s : Server) (now id : ℕ) (call : List ℕ) where
  -- a call that the database refuses
  pub refused : (image : List ℕ) (given : CallReply) (told : Reply) → ((answer : List ℕ) → given ≡ Done answer → ⊥) → ((id : ℕ) (e : Evaluation) → (read_reply id e given).output ≡ output.Reply id told)
      → Leads (turned db m s now id call image given) s (output.Reply id told ∷ []) []
  refused image (Done answer) told other is = absurd (other answer refl)
  refused image (Rule number) told other is =
      record { server = refl; outputs = ap (λ (o : Output). o ∷ []) (is id (answered_on (told_version s.phase s.version) now call)); calls = refl }
  refused image Malformed told other is =
      record { server = refl; outputs = ap (λ (o : Output). o ∷ []) (is id (answered_on s.version now call)); calls = refl }
  refused image (BadRecord at) told other is =
      record { server = refl; outputs = ap (λ (o : Output). o ∷ []) (is id (answered_on s.version now call)); calls = refl }

  -- a call whose changes are neither none nor too many
  pub commits : (answer image : List ℕ) (cs : List Change) → changes_of db s.image image ≡ cs → too_large 0 (length s.image) cs ≡ None
      → 0 < length cs → written db m s now id call answer image ≡ written_changes m s now id call answer image cs
  commits answer image [] changes fits some = absurd (omega arith)
  commits answer image (c ∷ cs) changes fits some =
      ap (λ (xs : List Change). written_within m s now id call answer image xs (too_large 0 (length s.image) xs)) changes
      ∙ ap (λ (o : Option ℕ). written_within m s now id call answer image (c ∷ cs) o) fits

  -- a call whose changes are too many, or none
  pub too_many : (answer image : List ℕ) (bytes : ℕ) → too_large 0 (length s.image) (changes_of db s.image image) ≡ Some bytes → Leads (written db m s now id call answer image) s (output.Reply id (reply.TooLarge bytes) ∷ []) []
  too_many answer image bytes large = rw large (record { server = refl; outputs = refl; calls = refl })

  pub changes_nothing : (answer image : List ℕ) → changes_of db s.image image ≡ [] → Leads (written db m s now id call answer image) s (output.Reply id (reply.Ok answer) ∷ []) []
  changes_nothing answer image none = rw none (record { server = refl; outputs = refl; calls = refl })

pub next_is_newer : (own : Version) → version_lt own (next_version own) ≡ true
next_is_newer own = grind (arith, nat_tests)

-- nobody is in the set without marks
none_marked : (n count k : ℕ) → is_marked (take n (replicate count false)) k ≡ false
none_marked (suc n) (suc count) (suc k) = none_marked n count k
none_marked n count k = refl

-- so the packets of a write go to each other server
pub spread_to_each : (m : Member) (n count : ℕ) (set : List Bool) (a b new : Version) (s t : List ℕ) → set ≡ replicate count false → a ≡ b → s ≡ t
    → sends_to_each m (λ k. cond (is_marked (marked n set) k) [] (write_bodies a new s)) ≡ sends_to_each m (λ k. write_bodies b new t)
spread_to_each m n count set a b new s t none old text =
    rw (none, old) (sends_same m 0 m.hosts _ _ (λ k. ap (λ (mark : Bool). cond mark [] (write_bodies b new s)) (none_marked n count k)))
    ∙ ap (λ (x : List ℕ). sends_to_each m (λ k. write_bodies b new x)) text

-- ---- a commit at a server that serves

abbrev member : List Host → ℕ → Member
member hosts me = record { hosts = hosts; me = me }

-- the only server of its cell
pub is_alone : (hosts : List Host) (me : ℕ) → length hosts ≡ 1 → me < length hosts → (h : Host) × (member hosts me ≡ alone h)
is_alone [] me one inside = absurd (omega arith)
is_alone (h ∷ []) me one inside = let first : me ≡ 0 = omega arith in (h, ap (member (h ∷ [])) first)
is_alone (h ∷ g ∷ hosts) me one inside = absurd (omega arith)

module _ (s : Server) (v : Version) (r : RecoveryRecord) (now id : ℕ) (call answer image : List ℕ) (changes : List Change) (serves : r.phase ≡ phase.Ready) where
  -- of one that is alone
  pub written_alone : (m : Member) (only : (h : Host) × (m ≡ alone h)) (next : Version) → next ≡ next_version s.version → s.flight ≡ None → r.servers ≡ 1
      → Leads (written_in m (recovering v r s) now id call answer image changes (recovering v r s).phase) (recovering next (with_text (held_alone r 0) None) (with_database (recovering v r s) next image))
      (output.Announce next ∷ output.Reply id (reply.Ok answer) ∷ []) (own_commit next changes image (record { moment = now; call = call }) ∷ [])
  written_alone m only next is free one = rw (is, only.1, serves, one, free) (record { server = refl; outputs = refl; calls = refl })

  -- of one with others
  pub written_begun : (m : Member) (write : OwnRecord) (next : Version) → next ≡ next_version s.version → cell_size m ≡ r.servers → 1 < cell_size m → write.kept.old_version ≡ s.version → write.flight ≡ flight_of s now id call answer changes
      → Leads (written_in m (recovering v r s) now id call answer image changes (recovering v r s).phase) (write_begun write (held_alone r m.me) (with_database (recovering v r s) next image))
      (outputs_of (sends_to_each m (λ k. write_bodies s.version next (text_of changes)))) (own_commit next changes image (record { moment = now; call = call }) ∷ [])
  written_begun m write next is same more old flight =
      let sends : Version → List Shown = λ w. sends_to_each m (λ k. write_bodies s.version w (text_of changes)) in
      rw (serves, one_is_few (cell_size m) m.me more) (record {
        server = rw (is, same, old, flight) refl;
        outputs = ap outputs_of (append-nil (sends (next_version s.version)) ∙ ap sends (sym is));
        calls = rw is refl;
      })

-- the write in flight as the rules have it
pub flown : (write : OwnRecord) (f : FlightRecord) (s : Server) (id now : ℕ) (a b : Version) (call answer old : List ℕ) (changes : List Change) → write ≡ own_write f answer call old changes → IsFlightOf id a b now changes f → old ≡ s.image
    → write.flight ≡ flight_of s now id call answer changes
flown write f s id now a b call answer old changes is of same = rw (is, of.call, of.began, same) refl

-- what is kept of a write leads back to the image that was known
pub undone_here : (files : Option Files) (f : FlightRecord) (image : List ℕ) (changes : List Change) → IsSome files → IsThere image (image_in files) → IfSome (image_in files) (λ bytes. Undoes f bytes changes) → Undoes f image changes
undone_here None f image changes tells there undoes = absurd (false≢true tells)
undone_here (Some fs) f image changes tells there undoes = subst (λ (bytes : List ℕ). Undoes f bytes changes) there undoes
