-- A server stays one that takes writes, and each packet that it takes or sends has a spelling.
use Rattle.std.proofs.Common.{◌≡◌, ℕ, ◌≤◌, List, length, refl, sym, subst, arith}
use Rattle.std.specs.List.{AllByRecursion}
use Rattle.std.specs.Prelude.{Option, Some, None}
use Rattle.lock_table.specs.declared.tables.TheConstants.{MAX_WAITING}
use Rattle.ubik_calls.specs.Laws.{PacketsAreSoLong}
use Rattle.db_image.specs.Database.{Database}
use Rattle.cell_model.specs.Node.{Server, KeptWrite, Waiting}
use Rattle.cell_model.specs.NodeRule.{step_of}
use Rattle.recovery_laws.specs.HasNoWrite.{HasNoWrite}
use Rattle.recovery_laws.specs.Spreads.{durable_of}
use Rattle.recovery_laws.proofs.Spreading.{short_bytes, spelled_packet, versions_within}
use Rattle.write_laws.specs.Keeping.{IsKept, IsWriting, IsKeeping}
use Rattle.write_laws.specs.Spreads.{WritesSpread}
use Rattle.write_laws.proofs.Facts.{none_flies}
use Rattle.write_laws.proofs.Goes.{fine_packets}
use Rattle.write_laws.proofs.Lining.{lines_count}
use Rattle.write_laws.proofs.Steps.{step_goes}

-- ---- servers without a write

module _ (db : Database) (servers : ℕ) (s : Server) (has : HasNoWrite servers s) where
  not_kept : (kept : Option KeptWrite) → kept ≡ None → IsKept kept
  not_kept None is = tt
  not_kept (Some w) is = absurd (cc)

  of_server : IsKeeping db servers s
  of_server = record {
    version = has.version;
    phase = has.phase;
    received = has.received;
    kept = not_kept s.kept has.kept;
    flight = none_flies db servers s.phase s.version s.image s.flight has.flight;
    line = subst (AllByRecursion (IsWriting db)) (sym has.waiting) tt;
    few = subst (λ (l : List Waiting). length l ≤ MAX_WAITING) (sym has.waiting) (omega arith);
    idle = λ _. has.waiting;
  }

-- ---- steps

pub writes_spread : PacketsAreSoLong → WritesSpread
writes_spread long = record {
  first = λ db servers d now is.
      record { version = is; phase = tt; received = tt; kept = tt; flight = tt; line = tt; few = omega arith; idle = λ _. refl };
  steps = λ db m s now e short inside moment good brought.
      let goes = step_goes db m now s e short inside moment good brought in
      record {
        server = goes.server;
        packets = fine_packets m (step_of db m s now e short).shown goes.shown;
        fits = goes.fits;
        leads = goes.leads;
        versions = λ made. versions_within (durable_of s) (step_of db m s now e short).calls made good.version goes.fits;
        few = goes.few;
        line = goes.line;
      };
  lines = lines_count;
  whole = λ hosts p is. record { short = short_bytes p.body is.bounded; spelled = spelled_packet long p is.bounded };
  of_server = of_server;
  of_packet = λ hosts p is. record { bounded = is.body.bounded; sender = is.sender; receiver = is.receiver };
}
