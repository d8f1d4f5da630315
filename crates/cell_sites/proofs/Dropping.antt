-- Packets of a running cell that wait no longer.
use Rattle.std.proofs.Common.{false, ◌≡◌, ◌<◌, ◌-◌, ℕ, Bool, true, List, Option, Some, None, Ok, length, set, refl, sym, ap, ◌∙◌, arith}
use Rattle.std.specs.Prelude.{slice_get, unwrap_or}
use Rattle.std.proofs.lemmas.List.{append-nil}
use Rattle.std.proofs.lemmas.Option.{slice_get_within}
use Rattle.db_image.specs.Database.{Database}
use Rattle.disk_base.specs.declared.disks.Disk.{Ghosts}
use Rattle.ubik_calls.specs.declared.packets.Packet.{Packet}
use Rattle.ubik_types.specs.declared.hosts.Host.{Host}
use Rattle.cell_model.specs.Step.{host_at}
use Rattle.cell_runs.specs.Script.{Cell, Run_or_why, dropped_of, resting, Choices, sound_choices}
use Rattle.cell_runs.specs.ScriptDatabase.{ScriptDatabase}
use Rattle.cell_sites.specs.Places.{IsUpAt}
use Rattle.cell_sites.specs.Sites.{IsModelledBy, helds}
use Rattle.cell_sites.specs.Sound.{IsSteady}
use Rattle.cell_sites.specs.Told.{CellTold}
use Rattle.cell_sites.specs.Traffic.{Traffic, dropped_all, handed_over}
use Rattle.cell_sites.specs.declared.cells.OpenCell.{OpenCell}
use Rattle.cell_sites.proofs.AtPlace.{rises_none}
use Rattle.cell_sites.proofs.Counting.{hold_as, same_run}
use Rattle.cell_sites.proofs.Soundly.{host_count}

-- other packets wait, and nothing else changes
abbrev pub with_packets : {D V : Type 0} {g : Ghosts D} → OpenCell D V g → Traffic → OpenCell D V g
with_packets running packets = record running { packets = packets }

pub packets_told : {D V : Type 0} {given : List ℕ} (g : Ghosts D) (db : ScriptDatabase) (running : OpenCell D V g) (c : Cell)
    (packets : Traffic)
    (handed : List Bool) (run : Choices → Run_or_why) (text : List ℕ) →
    ((choices : Choices) → run choices ≡ Ok (resting (record c { handed = handed }))) → packets.sent ≡ running.packets.sent
    → packets.handed ≡ handed →
    IsModelledBy g db.database given running c → CellTold g db given run None running (with_packets running packets) text text
packets_told g db running c packets handed run text does sent same stands =
    record {
      choices = sound_choices;
      whole = record { most = refl; found = tt };
      ran = resting (record c { handed = handed });
      is = does sound_choices;
      ends = refl;
      cell = record {
        hosts = stands.hosts;
        sites = stands.sites;
        sent = stands.sent ∙ sym sent;
        handed = sym same;
        armed = stands.armed;
        disks = hold_as _ c (record c { handed = handed }) _ false _
            (same_run c (record c { handed = handed }) refl refl refl) stands.disks;
      };
      told = sym (append-nil text);
      causes = rises_none 0 (helds g running);
    }

-- one packet
pub one_handed : {D V : Type 0} {gs : Ghosts D} {database : Database} {given : List ℕ} (running : OpenCell D V gs) (c : Cell)
    (packets : Traffic) (n number : ℕ)
    → packets ≡ handed_over running.packets n → n ≡ number → IsModelledBy gs database given running c
    → packets.handed ≡ set c.handed (number - 1) true
one_handed running c packets n number is same stands =
    ap (λ (t : Traffic). t.handed) is
    ∙ ap (λ (m : ℕ). set running.packets.handed (m - 1) true) same
    ∙ ap (λ (l : List Bool). set l (number - 1) true) (sym stands.handed)

-- the packets of one host
pub host_handed : {D V : Type 0} {gs : Ghosts D} {database : Database} {given : List ℕ} (running : OpenCell D V gs) (c : Cell)
    (packets : Traffic) (k : ℕ)
    (host : Host) → packets ≡ dropped_all running.packets host → slice_get running.hosts.items k ≡ Some host
    → IsModelledBy gs database given running c →
    packets.handed ≡ dropped_of (host_at c.run.world.hosts k) c.run.world.packets c.handed
host_handed running c packets k host is there stands =
    let at : host_at c.run.world.hosts k ≡ host =
    ap (λ (l : List Host). host_at l k) stands.hosts ∙ ap (λ (o : Option Host). unwrap_or o (record { 0 = 0 })) there in
    ap (λ (t : Traffic). t.handed) is
    ∙ ap (λ (h : Host). dropped_of h running.packets.sent running.packets.handed) (sym at)
    ∙ ap (λ (l : List Packet). dropped_of (host_at c.run.world.hosts k) l running.packets.handed) (sym stands.sent)
    ∙ ap (λ (l : List Bool). dropped_of (host_at c.run.world.hosts k) c.run.world.packets l) (sym stands.handed)

-- a server that is up has a host
pub host_within : {D V : Type 0} (g : Ghosts D) (bound : ℕ) (running : OpenCell D V g) (k : ℕ) → IsSteady g bound running
    → IsUpAt running k → k < length running.hosts.items
host_within g bound running k sound up =
    let within = slice_get_within running.sites.items k _ up.there in
    let count = host_count g bound running sound in
    omega (arith, within, count)
