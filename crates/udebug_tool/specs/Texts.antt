-- What is printed of a server (own).
use Rattle.std.specs.Prelude.{ℕ, ◌/◌, ◌%◌, ◌==◌, List, [], ◌∷◌, ◌++◌, codes, Option, Some, None, if◌then◌else◌}
use Rattle.std.specs.Fmt.{decimal}
use Rattle.ubik_types.specs.declared.hosts.Host.{Host}
use Rattle.ubik_types.specs.declared.phases.Phase.{Phase}
use Rattle.ubik_types.specs.declared.phases.Phase.TheVariants as phases
use Rattle.ubik_calls.specs.declared.replies.DebugIs.{DebugIs}

abbrev pub line : List ℕ → List ℕ
line text = text ++ 10 ∷ []

-- a dotted address
unfoldable pub dotted : Host → List ℕ
dotted host =
    decimal (host.0 / 16777216) ++ codes "." ++ decimal (host.0 / 65536 % 256) ++ codes "." ++ decimal (host.0 / 256 % 256) ++ codes "." ++ decimal (host.0 % 256)

-- an absent host is 0
abbrev pub host_text : Host → List ℕ
host_text host = if host.0 == 0 then codes "none" else dotted host

abbrev pub phase_word : Phase → List ℕ
phase_word phases.None = codes "none"
phase_word phases.Poll = codes "poll"
phase_word phases.Fetch = codes "fetch"
phase_word phases.Relabel = codes "relabel"
phase_word phases.Send = codes "send"
phase_word phases.Ready = codes "ready"

-- what a server says of itself: its clock; its version, phase and lease; the sync site that it heard; whom it voted for, and when
unfoldable pub clock_line : DebugIs → List ℕ
clock_line is = line (codes "host " ++ dotted is.host ++ codes " clock " ++ decimal is.now)

unfoldable pub version_line : DebugIs → List ℕ
version_line is =
    line (codes "version " ++ decimal is.version.epoch ++ codes "." ++ decimal is.version.counter
    ++ codes " phase " ++ phase_word is.phase ++ codes " until " ++ decimal is.until)

unfoldable pub sync_line : DebugIs → List ℕ
sync_line is = line (codes "sync " ++ host_text is.sync)

unfoldable pub voted_line : DebugIs → List ℕ
voted_line is = line (codes "voted " ++ host_text is.voted ++ codes " at " ++ decimal is.voted_at)

abbrev pub state_text : DebugIs → List ℕ
state_text is = clock_line is ++ version_line is ++ sync_line is ++ voted_line is

-- what is printed of a host that was asked
abbrev pub seen_text : Host → Option DebugIs → List ℕ
seen_text host (Some is) = state_text is
seen_text host None = line (codes "host " ++ dotted host ++ codes " no answer")
