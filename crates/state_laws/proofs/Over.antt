-- The lapse, and what holders lead to, are the same over each image.
use Rattle.std.proofs.Common.{◌≡◌, ◌+◌, ℕ, Bool, true, false, cond, nat_lt, Option, Some, None, List, [], ◌∷◌, refl}
use Rattle.ubik_types.specs.declared.limits.TheConstants.{SMALLTIME}
use Rattle.ubik_types.specs.Phase.{Polled, Spread, PhaseRecord, Send, Ready}
use Rattle.ubik_types.specs.Quorum.{is_majority}
use Rattle.ubik_types.specs.declared.versions.Version.{Version}
use Rattle.cell_model.specs.Lapse.{lapsed, phase_dropped, write_given_up, write_lapsed}
use Rattle.cell_model.specs.Node.{Flight, Server}
use Rattle.cell_model.specs.Step.{Member, Stepped, announcing, cell_size, leased, quiet, showing, with_phase}
use Rattle.cell_model.specs.Writes.{ended_write, flight_settled, settled, settled_in}
use Rattle.state_laws.specs.Over.{over, stepped_over}

both : (image : List ℕ) (c : Bool) (t u : Stepped) → cond c (stepped_over image t) (stepped_over image u) ≡ stepped_over image (cond c t u)
both image true t u = refl
both image false t u = refl

pub lapsed_over : (m : Member) (s : Server) (now : ℕ) (image : List ℕ) → lapsed m (over s image) now ≡ stepped_over image (lapsed m s now)
lapsed_over m s now image = by (leased m s now)
  where
    writes : (o : Option Flight) → write_lapsed m (over s image) now o ≡ stepped_over image (write_lapsed m s now o)
    writes None = refl
    writes (Some f) = both image (nat_lt (f.began + SMALLTIME) now) (write_given_up m s now) (quiet s)

    by : (b : Bool) → cond b (write_lapsed m (over s image) now s.flight) (phase_dropped m (over s image) now)
        ≡ stepped_over image (cond b (write_lapsed m s now s.flight) (phase_dropped m s now))
    by true = writes s.flight
    by false = refl

pub settled_over : (m : Member) (s : Server) (image : List ℕ) → settled m (over s image) ≡ stepped_over image (settled m s)
settled_over m s image = by s.phase
  where
    flown : (poll : Polled) (spread : Spread) (announced : Version) (o : Option Flight)
        → flight_settled m (over s image) poll spread announced o ≡ stepped_over image (flight_settled m s poll spread announced o)
    flown poll spread announced None = refl
    flown poll spread announced (Some f) = both image (is_majority (cell_size m) spread.holders) (ended_write s f poll spread announced) (quiet s)

    by : (p : PhaseRecord) → settled_in m (over s image) p ≡ stepped_over image (settled_in m s p)
    by (Send poll spread) =
        let ready : Stepped = showing (with_phase s (Ready poll spread s.version)) (announcing s.version ∷ []) in
        both image (is_majority (cell_size m) spread.holders) ready (quiet s)
    by (Ready poll spread announced) = flown poll spread announced s.flight
    by other = refl
