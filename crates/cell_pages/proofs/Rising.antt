-- The durable version of a server never falls, whatever happens.
use Rattle.std.proofs.Common.{true, Bool, ◌≡◌, inl, inr, ℕ, ◌<◌, length, refl, sym, subst, arith}
use Rattle.std.specs.Prelude.{Option, Some, None}
use Rattle.ubik_types.specs.declared.versions.Version.{Version}
use Rattle.ubik_types.specs.Version.{zero_version, version_lt}
use Rattle.xdr_base.specs.ChangeText.{text_of}
use Rattle.db_image.specs.Database.{Database}
use Rattle.lease_model.specs.Rules.{AreSafe, cell_rules}
use Rattle.lease_model.specs.Runs as runs
use Rattle.cell_model.specs.Book.{Book, Run, first_run}
use Rattle.cell_model.specs.Durable.{Durable}
use Rattle.cell_model.specs.Node.{Node, Down, Halted, Up, Server}
use Rattle.cell_model.specs.Step.{Member}
use Rattle.cell_model.specs.Writes.{write_bodies}
use Rattle.cell_model.specs.World.{World, Site, IsRun, first_world, site_of}
use Rattle.cell_laws.proofs.Cells.{run_good, same_world}
use Rattle.cell_pages.specs.Laws.{run_of}
use Rattle.cell_pages.specs.Moves.{Moves}
use Rattle.cell_pages.specs.Pages.{VersionsNeverFall}
use Rattle.cell_pages.specs.Parts.{AtMost, MakerWentOn, MakesVersions}
use Rattle.cell_pages.specs.Passes.{InStep, Pass, NodeKeeps, WorldKeeps}
use Rattle.cell_pages.proofs.Making.{makes_moves, makes_pass, whole_leads, no_content}
use Rattle.cell_pages.proofs.Once.{Keeps, OnceAndRising, both_grew, begun}
use Rattle.cell_pages.proofs.Runs.{along}
use Rattle.cell_pages.proofs.Versions.{same_of_eq, less_of_lt, at_most_less, at_most_same}

module _ (db : Database) (base : ℕ → Version) where
  -- a server is past a version
  abbrev IsPast : ℕ → Bool → Book → Server → Type 0
  IsPast k lease book s = MakesVersions k lease book s × AtMost (base k) s.version

  abbrev WentPast : ℕ → Book → Durable → Type 0
  WentPast k book d = MakerWentOn k book d × AtMost (base k) d.version

  module _ (m : Member) (now : ℕ) (lease : Bool) (some : 0 < now) where
    abbrev F : Book → Server → Type 0
    F = InStep IsPast OnceAndRising m.me now lease

    abbrev E : Book → Server → Type 0
    E = InStep MakesVersions OnceAndRising m.me now lease

    makes : Moves db m now lease E (λ book d. MakerWentOn m.me book d × OnceAndRising book) (λ book b. Unit {0})
    makes = makes_moves db OnceAndRising both_grew m now lease some

    first : (book : Book) (s : Server) → F book s → E book s
    first book s f = (f.0.0, f.1, f.2)

    join : (book : Book) (s : Server) → E book s → AtMost (base m.me) s.version → F book s
    join book s e past = ((e.0, past), e.1, e.2)

    -- a greater version
    further : (v new : Version) → version_lt v new ≡ true → AtMost (base m.me) v → AtMost (base m.me) new
    further v new less past = at_most_less (base m.me) v new past (less_of_lt v new less)

    past_moves : Moves db m now lease F (λ book d. WentPast m.me book d × OnceAndRising book) (λ book b. Unit {0})
    past_moves = record {
      phase = record {
        votes = λ book s votes starts beacon f. join book _ (makes.phase.votes book s votes starts beacon (first book s f)) f.0.1;
        waits = λ book s waiting f. join book _ (makes.phase.waits book s waiting (first book s f)) f.0.1;
        no_flight = λ book s is f. f.0.0.no_flight is;
        lapses = λ book s phase idle f. join book _ (makes.phase.lapses book s phase idle (first book s f)) f.0.1;
        leaves = λ book s phase idle none f. join book _ (makes.phase.leaves book s phase idle none (first book s f)) f.0.1;
        holds = λ book s k f. join book _ (makes.phase.holds book s k (first book s f)) f.0.1;
        announces = λ book s poll spread at f. join book _ (makes.phase.announces book s poll spread at (first book s f)) f.0.1;
        ends = λ book s poll spread announced flight at is f.
            join book _ (makes.phase.ends book s poll spread announced flight at is (first book s f)) f.0.1;
      };
      field = record {
        texts = λ book s may_begin k poll version total at bytes text says is f.
            join book _ (makes.field.texts book s may_begin k poll version total at bytes text says is (first book s f)) f.0.1;
        begins = λ book s old new pieces len says idle same less f.
            join book _ (makes.field.begins book s old new pieces len says idle same less (first book s f)) f.0.1;
        puts = λ book s new number bytes says f. join book _ (makes.field.puts book s new number bytes says (first book s f)) f.0.1;
        aborts = λ book s new f. join book _ (makes.field.aborts book s new (first book s f)) f.0.1;
      };
      received = record {
        takes = λ book s poll old new says idle same less f.
            join book _ (makes.received.takes book s poll old new says idle same less (first book s f))
            (further s.version new (subst (λ (v : Version). version_lt v new ≡ true) (sym (same_of_eq s.version old same)) less) f.0.1);
        installs = λ book s may_begin k poll version total at bytes text says is idle whole less f.
            join book _
            (makes.received.installs book s may_begin k poll version total at bytes text says is idle whole less (first book s f))
            (further s.version text.version less f.0.1);
        writes = λ book s old new changes says idle same whole within f.
            join book _ (makes.received.writes book s old new changes says idle same whole within (first book s f))
            (further s.version new (whole_leads s.version new s.kept changes whole f.0.0.kept) f.0.1);
      };
      own = record {
        relabels = λ book s poll leased idle past f.
            let w = makes.own.relabels book s poll leased idle past (first book s f) in
            (w.0, join _ _ w.1 (at_most_less (base m.me) s.version _ f.0.1 (inl past)));
        commits =
            λ book s id call answer image changes poll spread announced leased at free counter image_is changes_are within f.
            let w = makes.own.commits book s id call answer image changes poll spread announced leased at free counter image_is
            changes_are within (first book s f) in
            (w.0, join _ _ w.1 (at_most_less (base m.me) s.version _ f.0.1 (inr (refl, omega arith))));
        stands = λ book s f. ((f.0.0.went_on, f.0.1), f.2);
      };
      packet = record {
        later = λ book after b grew says. tt;
        plain = λ book b is. tt;
        alike = λ book poll version total at bytes says. tt;
        piece = λ book s poll version at is f. tt;
        sent = λ book s poll at f. tt;
        set_in_send = λ book s number poll spread at is f. tt;
        set_in_ready = λ book s number poll spread announced at is f. tt;
        write = λ book s poll spread announced flight at is f. no_content (write_bodies announced s.version (text_of flight.changes));
      };
    }

  made : Pass db MakesVersions MakerWentOn (λ book b. Unit {0}) OnceAndRising
  made = makes_pass db OnceAndRising both_grew

  past_pass : Pass db IsPast WentPast (λ book b. Unit {0}) OnceAndRising
  past_pass = record {
    moves = past_moves;
    durable = λ lease j k book later d other grew is. (made.durable lease j k book later d other grew is.0, is.1);
    server = λ lease own j k book later s other alone grew is. (made.server lease own j k book later s other alone grew is.0, is.1);
    packet = λ lease k book later b grew says. tt;
    fades = λ k book s is. (made.fades k book s is.0, is.1);
    begins = λ k book s idle is. (made.begins k book s idle is.0, is.1);
    opened = λ k n now lease book d pages is. (made.opened k n now lease book d pages is.0, is.1);
  }

  -- where each server is past its version now
  node_past : (k n clock : ℕ) (book : Book) (d : Durable) (node : Node) → AtMost (base k) d.version →
      NodeKeeps (λ lease. MakesVersions k lease book) n clock d node → NodeKeeps (λ lease. IsPast k lease book) n clock d node
  node_past k n clock book d Down past is = tt
  node_past k n clock book d (Halted h) past is = tt
  node_past k n clock book d (Up s) past is =
      (is.0, (is.1, subst (λ (e : Durable). AtMost (base k) e.version) is.0 past))

-- the durable version of a server, where there is one
version_in : Option Site → Version
version_in None = zero_version
version_in (Some site) = site.durable.version

is_version_in : (o : Option Site) (site : Site) → o ≡ Some site → AtMost (version_in o) site.durable.version
unfolding version_in
is_version_in o site is = subst (λ (p : Option Site). AtMost (version_in p) site.durable.version) (sym is) (at_most_same site.durable.version)

was_version_in : (o : Option Site) (site : Site) (v : Version) → o ≡ Some site → AtMost (version_in o) v → AtMost site.durable.version v
unfolding version_in
was_version_in o site v is past = subst (λ (p : Option Site). AtMost (version_in p) v) is past

module _ (safe : AreSafe cell_rules) where
  -- each server of a run, by where it is then
  base_of : Run → ℕ → Version
  base_of r k = version_in (site_of r.world k)

  here : (db : Database) (r : Run) → Keeps OnceAndRising r.world r.book →
      WorldKeeps (IsPast db (base_of r)) (WentPast db (base_of r)) (λ book b. Unit {0}) OnceAndRising r.world r.book
  unfolding base_of
  here db r kept = record {
    pages = kept.pages;
    sites = λ k site get.
        let old = kept.sites k site get in
        let past : AtMost (base_of r k) site.durable.version = is_version_in (site_of r.world k) site get in
        record {
          durable = (old.durable, past);
          node = node_past db (base_of r) k (length r.world.hosts) site.clock r.book site.durable site.node past old.node;
        };
    packets = kept.packets;
  }

  pub versions_never_fall : VersionsNeverFall
  unfolding base_of
  versions_never_fall db hosts clock failed events more first run then k before after at_before at_after =
      let r = run_of db hosts clock failed events in
      let good = run_good safe db hosts clock failed events first run in
      let later =
      along db (IsPast db (base_of r)) (WentPast db (base_of r)) (λ book b. Unit {0}) OnceAndRising (past_pass db (base_of r)) safe
      r (runs.after_all cell_rules (runs.first cell_rules clock failed) good.0) more good.2
      (here db r (begun safe db hosts clock failed events first run))
      (subst (λ (w : World). IsRun db w more) (sym (same_world db (first_run (first_world hosts clock failed)) events)) then) in
      was_version_in (site_of r.world k) before after.durable.version at_before (later.sites k after at_after).durable.1
