use Rattle.std.proofs.Common.{length, sym, subst, arith}
use Rattle.std.proofs.lemmas.List.Sorted.{length_permutation}
use Rattle.cell_model.specs.Step.{Member}
use Rattle.cell_sites.specs.declared.openings.OpenEnd.{OpenEnd}
use Rattle.cell_sites.specs.declared.sites.Server.TheVariants as server
use Rattle.cell_sites.specs.OpenedServer.{ServerOpens}
use Rattle.cell_sites.proofs.Hosts.{cell_hosts}
use Rattle.cell_sites.proofs.Opens.{down_by_fault, down_by_memory, not_opened, opened_up}
use Rattle.cell_sites.proofs.openings.open_server.Goals as goal
use Rattle.cell_sites.proofs.openings.open_server.Goals.{in-NoMemory, in_default-why}

pub returns-in_default : goal.returns-in_default
returns-in_default g c = λ d stands.
    not_opened g.D.Disk (record { hosts = c.args.hosts.now; me = c.args.me }) c.args.clock c.args.disk d c.requires.sound stands

pub open-requires-clause-me : goal.open-requires-clause-me
open-requires-clause-me g c = omega (arith, c.requires.me, length_permutation _ _ c.in-Ok.ensures.same)

pub returns-in-Ok-open : goal.returns-in-Ok-open
returns-in-Ok-open g c = λ d stands.
    let e = c.in-Ok-open.ensures in
    let same = cell_hosts
    (length c.args.hosts.now) c.args.hosts.now c.in-Ok.cell c.requires.cell c.in-Ok.ensures.cell c.in-Ok.ensures.same in
    opened_up g.D.Disk c.args.hosts.now c.in-Ok.cell c.args.me c.args.clock c.args.disk c.in-Ok-open.node d e.opened.0 c.requires.sound
    stands e.opening
    same e.opened.1 e.opened.2 e.member e.told e.steps e.last c.version-version.result c.version-version.ensures

pub returns-after-why : goal.returns-after-why
returns-after-why g c = λ d stands.
    let e = c.in-Err.ensures in
    let r = c.revive.ensures in
    let m : Member = record { hosts = c.args.hosts.now; me = c.args.me } in
    let P : OpenEnd → Type 0 = λ end. ServerOpens {V = g.row.V.Denot} g.D.Disk m c.args.clock d end c.args.disk
    (server.Down c.revive.new.self) in
    elim c.match-why.branch [
      | in-NoMemory w ↦
          subst P (sym w.end-is)
          (down_by_memory g.D.Disk m c.args.clock c.args.disk c.in-Err.field-0.disk c.revive.new.self d c.in-Err.field-0.why
          c.requires.sound stands e.opening
          e.refused r.unarmed r.left r.tells_files r.steps r.faults)
      | in_default-why w ↦
          subst P (sym w.end-is)
          (down_by_fault g.D.Disk m c.args.clock c.args.disk c.in-Err.field-0.disk c.revive.new.self d c.in-Err.field-0.why
          c.requires.sound stands e.opening
          e.refused r.unarmed r.left r.tells_files r.steps r.faults
          (λ same. w.in_default-why.not-NoMemory same))
    ]
