-- How a server's state changes, and what is told of it (own).
use Rattle.std.specs.Prelude.{ℕ, Bool, true, false, ◌==◌, ◌||◌, nat_le, nat_lt, if◌then◌else◌, List, [], ◌∷◌, ◌++◌, Option, Some, None, codes}
use Rattle.std.specs.Fmt.{decimal}
use Rattle.ubik_types.specs.declared.hosts.Host.{Host}
use Rattle.ubik_calls.specs.declared.replies.DebugIs.{DebugIs}
use Rattle.server_diary.specs.declared.changes.Seen.{Seen}
use Rattle.server_diary.specs.declared.changes.Change.{Change}
use Rattle.server_diary.specs.declared.changes.Change.TheVariants.{Site, NoSite, Heard, HeardNone, Epoch, Ahead}

-- the sync site that a server heard, if that is not itself
abbrev pub other_site : DebugIs → Option Host
other_site is = if (is.sync.0 == 0) || (is.sync.0 == is.host.0) then None else Some is.sync

-- what counts of what a server says of itself
abbrev pub seen_of : DebugIs → Seen
seen_of is = record { is_site = nat_le is.now is.until; other = other_site is; epoch = is.version.epoch }

-- it came into lease, or out of it
abbrev pub lease_change : Bool → Bool → ℕ → Option Change
lease_change false true until = Some (Site until)
lease_change true false until = Some NoSite
lease_change true true until = None
lease_change false false until = None

abbrev pub site_change : Seen → DebugIs → Option Change
site_change old is = lease_change old.is_site (nat_le is.now is.until) is.until

-- it heard another one than before, or none any more
abbrev pub other_change : Option Host → Option Host → Option Change
other_change None None = None
other_change (Some before) None = Some HeardNone
other_change None (Some host) = Some (Heard host)
other_change (Some before) (Some host) = if before.0 == host.0 then None else Some (Heard host)

abbrev pub heard_change : Seen → DebugIs → Option Change
heard_change old is = other_change old.other (other_site is)

abbrev pub epoch_change : Seen → DebugIs → Option Change
epoch_change old is = if old.epoch == is.version.epoch then None else Some (Epoch is.version.epoch is.version.counter)

-- the epoch is ahead of the clock
abbrev pub ahead_change : DebugIs → Option Change
ahead_change is = if nat_lt is.now is.version.epoch then Some (Ahead is.version.epoch) else None

-- what is told of a change, behind the moment; a host is given as a text
abbrev pub change_text : List ℕ → Change → List ℕ
change_text host (Site until) = codes "became the sync site, with a lease until " ++ decimal until
change_text host NoSite = codes "lost its lease: it is the sync site no more"
change_text host (Heard other) = codes "heard the sync site " ++ host
change_text host HeardNone = codes "hears no sync site any more"
change_text host (Epoch epoch counter) = codes "has another epoch: version " ++ decimal epoch ++ codes "." ++ decimal counter
change_text host (Ahead epoch) = codes "has an epoch ahead of this clock: no write is taken before " ++ decimal epoch
