-- Packets and the model of leases: each beacon on its way is one that it knows, and each yes is one that was given.
use Rattle.std.proofs.Common.{Bool, true, false, cond, ◌≡◌, ℕ, zero, suc, ◌+◌, ◌==◌, List, [], ◌∷◌, ◌++◌, length, refl, subst}
use Rattle.std.specs.Prelude.{Option, Some, slice_get}
use Rattle.std.specs.List.{cons_option}
use Rattle.ubik_types.specs.declared.hosts.Host.{Host}
use Rattle.ubik_types.specs.declared.versions.Version.{Version}
use Rattle.ubik_calls.specs.declared.packets.Packet.{Packet}
use Rattle.ubik_calls.specs.declared.packets.Body.{Body}
use Rattle.ubik_calls.specs.declared.packets.Body.TheVariants as body
use Rattle.lease_model.specs.Leases.{Beacon, Yes, Leases, IsIn}
use Rattle.cell_model.specs.declared.events.Output.{Output}
use Rattle.cell_model.specs.declared.events.Output.TheVariants as output
use Rattle.cell_model.specs.NodeRule.{place_of}
use Rattle.cell_model.specs.Step.{Member, Shown, host_at, packet_to, sent, sends_from}
use Rattle.cell_model.specs.World.{packet_in, packets_of}
use Rattle.cell_laws.proofs.Others.{IsOther, IsOtherOutput, AllOther}
use Rattle.cell_laws.specs.Invariant.{TellsBeacon, Tells, IsTold, AllTold}

abbrev OutputTold : List Host → Leases → Output → Type 0
OutputTold hosts x (output.Send packet) = IsTold hosts x packet
OutputTold hosts x _ = Unit {0}

-- so of what is shown
abbrev pub ShownTold : List Host → Leases → List Shown → Type 0
ShownTold hosts x [] = Unit {0}
ShownTold hosts x (one ∷ shown) = OutputTold hosts x one.output × ShownTold hosts x shown

-- more beacons and more yeses
pub record Grew (x y : Leases) : Type 0 where
  pub beacons : (b : Beacon) → IsIn x.beacons b → IsIn y.beacons b
  pub yeses : (one : Yes) → IsIn x.yeses one → IsIn y.yeses one
  pub same : length y.servers ≡ length x.servers

pub grew_none : (x : Leases) → Grew x x
grew_none x = record { beacons = λ b is. is; yeses = λ one is. is; same = refl }

tells_more : (x y : Leases) (b : Body) (from to : Option ℕ) → Grew x y → Tells x b from to → Tells y b from to
tells_more x y (body.Beacon start claim ready version) from to grew told = λ h is. grew.beacons _ (told h is)
tells_more x y (body.Vote start granted) from to grew told =
    λ yes v h is_v is_h. let w = told yes v h is_v is_h in (w.0, grew.yeses _ w.1)
tells_more x y _ from to grew told = tt

pub all_more : (hosts : List Host) (x y : Leases) (packets : List Packet) → Grew x y → AllTold hosts x packets → AllTold hosts y packets
all_more hosts x y [] grew all = tt
all_more hosts x y (p ∷ packets) grew all =
    (tells_more x y p.body (place_of hosts p.from) (place_of hosts p.to) grew all.0, all_more hosts x y packets grew all.1)

pub all_append : (hosts : List Host) (x : Leases) (packets more : List Packet) → AllTold hosts x packets → AllTold hosts x more →
    AllTold hosts x (packets ++ more)
all_append hosts x [] more all rest = rest
all_append hosts x (p ∷ packets) more all rest = (all.0, all_append hosts x packets more all.1 rest)

pub all_get : (hosts : List Host) (x : Leases) (packets : List Packet) (k : ℕ) (p : Packet) → AllTold hosts x packets →
    slice_get packets k ≡ Some p → IsTold hosts x p
all_get hosts x [] k p all is = absurd (cc)
all_get hosts x (q ∷ packets) zero p all is = let same : q ≡ p = cc in subst (IsTold hosts x) same all.0
all_get hosts x (q ∷ packets) (suc k) p all is = all_get hosts x packets k p all.1 is

pub told_append : (hosts : List Host) (x : Leases) (shown more : List Shown) → ShownTold hosts x shown → ShownTold hosts x more →
    ShownTold hosts x (shown ++ more)
told_append hosts x [] more all rest = rest
told_append hosts x (one ∷ shown) more all rest = (all.0, told_append hosts x shown more all.1 rest)

packets_told : (hosts : List Host) (x : Leases) (o : Output) (packets : List Packet) → OutputTold hosts x o → AllTold hosts x packets →
    AllTold hosts x (cons_option (packet_in o) packets)
packets_told hosts x (output.Send packet) packets told all = (told, all)
packets_told hosts x (output.Reply id r) packets told all = all
packets_told hosts x (output.Announce version) packets told all = all

pub shown_told : (hosts : List Host) (x : Leases) (shown : List Shown) → ShownTold hosts x shown → AllTold hosts x (packets_of shown)
shown_told hosts x [] all = tt
shown_told hosts x (one ∷ shown) all = packets_told hosts x one.output (packets_of shown) all.0 (shown_told hosts x shown all.1)

-- packets that carry no vote and ask for none say nothing
tells_other : (x : Leases) (b : Body) (from to : Option ℕ) → IsOther b → Tells x b from to
tells_other x (body.Beacon start claim ready version) from to is = absurd is
tells_other x (body.Vote start granted) from to is = absurd is
tells_other x _ from to is = tt

output_other : (hosts : List Host) (x : Leases) (o : Output) → IsOtherOutput o → OutputTold hosts x o
output_other hosts x (output.Send packet) is = tells_other x packet.body (place_of hosts packet.from) (place_of hosts packet.to) is
output_other hosts x (output.Reply id r) is = tt
output_other hosts x (output.Announce version) is = tt

pub other_told : (hosts : List Host) (x : Leases) (shown : List Shown) → AllOther shown → ShownTold hosts x shown
other_told hosts x [] all = tt
other_told hosts x (one ∷ shown) all = (output_other hosts x one.output all.0, other_told hosts x shown all.1)

-- a beacon to each other server
pub beacons_told : (m : Member) (x : Leases) (k : ℕ) (hosts : List Host) (start : ℕ) (claim ready : Bool) (version : Version) →
    TellsBeacon x start (place_of m.hosts (host_at m.hosts m.me)) →
    ShownTold m.hosts x (sends_from m k hosts (λ k. body.Beacon start claim ready version ∷ []))
beacons_told m x k [] start claim ready version told = tt
beacons_told m x k (host ∷ hosts) start claim ready version told =
    told_append m.hosts x (cond (k == m.me) [] (sent (packet_to m host (body.Beacon start claim ready version)) ∷ [])) _ (by (k == m.me))
    (beacons_told m x (k + 1) hosts start claim ready version told)
  where
    by : (b : Bool) → ShownTold m.hosts x (cond b [] (sent (packet_to m host (body.Beacon start claim ready version)) ∷ []))
    by true = tt
    by false = (told, tt)
