use Rattle.std.proofs.Common.{◌≡◌, ◌+◌, length, take, drop}
use Rattle.std.specs.String.{string_bytes}
use Rattle.cell_runs.specs.ScriptDatabase.{script_database}
use Rattle.cell_sites.specs.Disks.{AreSettled}
use Rattle.cell_sites.specs.Opened.{ArePartOpened, HasRoom, counts_of}
use Rattle.cell_sites.specs.Sites.{disks_of, helds}
use Rattle.ubik_cell.specs.Lines.{AreUnwritten}
use Rattle.ubik_cell.proofs.scripts.open_servers.Given as goal

abbrev pub invariant-loop : goal.invariant-loop
invariant-loop g l = record {
  opened : ArePartOpened g.D.Disk (script_database g.V.DraftService.standing.database g.V.DraftWords.words) l.clock
      (take l.counter l.fn.spare.items)
      l.cell (string_bytes l.fn.text) (string_bytes l.text);
  count : length l.cell.sites.items ≡ l.counter;
  left : l.spare.items ≡ drop l.counter l.fn.spare.items;
  number : length l.spare.items + l.counter ≡ length l.fn.spare.items;
  settled : AreSettled g.D.Disk (disks_of l.cell);
  unwritten : AreUnwritten (counts_of g.D.Disk (take l.counter l.fn.spare.items)) (helds g.D.Disk l.cell);
  room : HasRoom l.cell;
  hosts : l.cell.hosts.items ≡ l.fn.cell.hosts.items;
}
