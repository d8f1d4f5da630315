-- What the phase of a server tells of its lease and of its write in flight.
use Rattle.std.proofs.Common.{true, false, ◌≡◌, ℕ, refl, sym}
use Rattle.std.proofs.Common.{subst, arith}
use Rattle.std.proofs.lemmas.Bool.Decides.{nat_tests}
use Rattle.std.specs.Prelude.{Option, Some, None}
use Rattle.ubik_types.specs.declared.versions.Version.{Version}
use Rattle.ubik_types.specs.Phase.{Polled, Spread, PhaseRecord, NoPhase, Poll, Fetch, Relabel, Send, Ready}
use Rattle.ubik_types.specs.Version.{version_lt}
use Rattle.db_image.specs.Database.{Database}
use Rattle.cell_model.specs.Book.{Book}
use Rattle.cell_model.specs.Node.{Flight}
use Rattle.cell_model.specs.Receiver.{is_sending}
use Rattle.cell_model.specs.Recovery.{held_by}
use Rattle.cell_model.specs.Step.{is_ready}
use Rattle.cell_model.specs.Writes.{is_free_in}
use Rattle.cell_laws.proofs.Parts.{no}
use Rattle.cell_pages.specs.Passes.{is_held}
use Rattle.cell_orders.specs.Acknowledged.{IsLevel, FlightMade}
use Rattle.std.proofs.Common.{List, ◌+◌}
use Rattle.std.specs.Prelude.{nat_le}
use Rattle.ubik_types.specs.declared.limits.TheConstants.{SMALLTIME}
use Rattle.ubik_types.specs.Version.{version_eq}
use Rattle.cell_model.specs.Asks.{allows_reads}
use Rattle.cell_model.specs.Node.{ReadyBeacon}
use Rattle.cell_laws.proofs.Parts.{and_both}
use Rattle.cell_pages.proofs.Versions.{same_of_eq}
use Rattle.cell_orders.specs.Acknowledged.{IsAnnounced}
use Rattle.cell_orders.specs.Served.{IsNamed}

pub not_itself : (v : Version) → version_lt v v ≡ false
not_itself v = grind (arith, nat_tests)

pub free_held : (phase : PhaseRecord) (f : Option Flight) → is_free_in phase f ≡ true → is_held phase ≡ true
free_held NoPhase f is = no is
free_held (Poll poll) f is = refl
free_held (Fetch poll best host) f is = refl
free_held (Relabel poll) f is = refl
free_held (Send poll spread) f is = refl
free_held (Ready poll spread announced) f is = refl

pub free_ready : (phase : PhaseRecord) (f : Option Flight) → is_free_in phase f ≡ true → is_ready phase ≡ true
free_ready NoPhase f is = no is
free_ready (Poll poll) f is = no is
free_ready (Fetch poll best host) f is = no is
free_ready (Relabel poll) f is = no is
free_ready (Send poll spread) f is = no is
free_ready (Ready poll spread announced) f is = refl

pub free_none : (phase : PhaseRecord) (f : Option Flight) → is_free_in phase f ≡ true → f ≡ None
free_none NoPhase f is = no is
free_none (Poll poll) f is = no is
free_none (Fetch poll best host) f is = no is
free_none (Relabel poll) f is = no is
free_none (Send poll spread) f is = no is
free_none (Ready poll spread announced) None is = refl
free_none (Ready poll spread announced) (Some f) is = no is

pub not_ready : (phase : PhaseRecord) → is_sending phase ≡ false → is_ready phase ≡ false
not_ready NoPhase is = refl
not_ready (Poll poll) is = refl
not_ready (Fetch poll best host) is = refl
not_ready (Relabel poll) is = refl
not_ready (Send poll spread) is = refl
not_ready (Ready poll spread announced) is = no (sym is)

pub ready_held : (phase : PhaseRecord) (k : ℕ) → is_ready (held_by phase k) ≡ is_ready phase
ready_held NoPhase k = refl
ready_held (Poll poll) k = refl
ready_held (Fetch poll best host) k = refl
ready_held (Relabel poll) k = refl
ready_held (Send poll spread) k = refl
ready_held (Ready poll spread announced) k = refl

pub level_idle : (v : Version) (phase : PhaseRecord) (f : Option Flight) → is_ready phase ≡ false → IsLevel v phase f
level_idle v NoPhase f idle = tt
level_idle v (Poll poll) f idle = tt
level_idle v (Fetch poll best host) f idle = tt
level_idle v (Relabel poll) f idle = tt
level_idle v (Send poll spread) f idle = tt
level_idle v (Ready poll spread announced) f idle = no (sym idle)

pub level_same : (v : Version) (poll : Polled) (spread : Spread) (f : Option Flight) → IsLevel v (Ready poll spread v) f
level_same v poll spread None = refl
level_same v poll spread (Some f) = tt

pub level_at : (v : Version) (phase : PhaseRecord) (f : Option Flight) (poll : Polled) (spread : Spread) (announced : Version) →
    phase ≡ Ready poll spread announced → f ≡ None → IsLevel v phase f → v ≡ announced
level_at v phase f poll spread announced at none is =
    subst (λ (o : Option Flight). IsLevel v (Ready poll spread announced) o) none (subst (λ (p : PhaseRecord). IsLevel v p f) at is)

pub level_held : (v : Version) (phase : PhaseRecord) (k : ℕ) (f : Option Flight) → IsLevel v phase f → IsLevel v (held_by phase k) f
level_held v NoPhase k f is = tt
level_held v (Poll poll) k f is = tt
level_held v (Fetch poll best host) k f is = tt
level_held v (Relabel poll) k f is = tt
level_held v (Send poll spread) k f is = tt
level_held v (Ready poll spread announced) k None is = is
level_held v (Ready poll spread announced) k (Some f) is = tt

pub not_both : (o : Option Flight) (f : Flight) → o ≡ None → o ≡ Some f → ⊥
not_both o f none some = absurd (cc)

pub none_made : (db : Database) (book : Book) (v : Version) (phase : PhaseRecord) (o : Option Flight) → o ≡ None →
    FlightMade db book v phase o
none_made db book v phase o none f is = absurd (cc)

pub held_held : (phase : PhaseRecord) (k : ℕ) → is_held (held_by phase k) ≡ is_held phase
held_held NoPhase k = refl
held_held (Poll poll) k = refl
held_held (Fetch poll best host) k = refl
held_held (Relabel poll) k = refl
held_held (Send poll spread) k = refl
held_held (Ready poll spread announced) k = refl

-- who may read by the beacon that it keeps has an announced version
pub allowed : (now : ℕ) (announced : List Version) (own : Version) (o : Option ReadyBeacon) → allows_reads own now o ≡ true →
    IsNamed announced o → IsAnnounced announced own
allowed now announced own None is named = no is
allowed now announced own (Some kept) is named =
    subst (IsAnnounced announced)
    (same_of_eq kept.version own (and_both (nat_le now (kept.at + SMALLTIME)) (version_eq kept.version own) is).1) named
