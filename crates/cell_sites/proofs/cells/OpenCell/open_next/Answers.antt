use Rattle.std.proofs.Common.{◌≡◌, length, arith}
use Rattle.std.specs.String.{string_bytes}
use Rattle.cell_model.specs.Durable.{no_database}
use Rattle.cell_runs.specs.ScriptDatabase.{script_database}
use Rattle.cell_sites.proofs.Opened.{fresh_sound, fresh_told, next_added, next_opened_at, one_emptied}
use Rattle.cell_sites.proofs.cells.OpenCell.open_next.Goals as goal

pub open_server-server-requires-clause-sound : goal.open_server-server-requires-clause-sound
open_server-server-requires-clause-sound g c = fresh_sound g.D.Disk c.args.disk c.requires.empty c.requires.settled

pub returns-clause-opened : goal.returns-clause-opened
returns-clause-opened g c =
    let me : c.len-me.result ≡ length c.args.self.now.sites.items = omega (arith, c.len-me.ensures, c.args.self.now.sites.ok.0) in
    next_opened_at c.tell_opened-told.result g.D.Disk
    (script_database g.V.DraftService.standing.database g.V.DraftWords.words) c.args.clock c.args.self.now
    (string_bytes c.args.text.now)
    (string_bytes c.tell_opened-told.new.text) c.args.disk c.open_server-server.result.0 c.open_server-server.result.1 c.push.new.self
    c.deref.result.now
    c.len-me.result
    c.deref.ensures.value me c.requires.moment c.in-Ok.ensures.items c.requires.empty c.requires.unarmed
    (c.open_server-server.ensures no_database (fresh_told g.D.Disk c.args.disk c.requires.empty)) c.tell_opened-told.ensures

pub returns-clause-added : goal.returns-clause-added
returns-clause-added g c =
    next_added g.D.Disk c.args.clock c.args.self.now c.args.disk c.open_server-server.result.0 c.push.new.self c.in-Ok.ensures.items
    (one_emptied g.D.Disk c.deref.result.now c.len-me.result c.args.clock c.args.disk c.open_server-server.result.0
    c.open_server-server.result.1
    c.requires.empty
    (c.open_server-server.ensures no_database (fresh_told g.D.Disk c.args.disk c.requires.empty)))
