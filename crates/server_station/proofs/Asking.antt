-- A call that is made gets the next id; behind the last one none is made.
use Rattle.std.proofs.Common.{◌≡◌, ℕ, ◌+◌, ◌%◌, ◌<◌, ◌≤◌, inl, inr, Bool, true, false, nat_lt, List, [], ◌∷◌, refl, subst, arith}
use Rattle.std.specs.Prelude.{◌^◌}
use Rattle.std.proofs.lemmas.Bool.Decides.{nat_tests}
use Rattle.disk_base.specs.declared.disks.Disk.{Ghosts}
use Rattle.db_image.specs.Standing.{Standing}
use Rattle.cell_model.specs.declared.events.NodeEvent.TheVariants as event
use Rattle.cell_model.specs.declared.events.Output.{Output}
use Rattle.ubik_node.specs.declared.nodes.Node.{Node}
use Rattle.server_rounds.specs.declared.sendings.Sending.{Sending}
use Rattle.server_rounds.specs.declared.turns.TurnEnd.{TurnEnd}
use Rattle.server_rounds.specs.declared.turns.TurnEnd.TheVariants as end
use Rattle.server_journal.specs.declared.counts.Limits.{Limits}
use Rattle.server_journal.specs.declared.items.JournalItem.{JournalItem}
use Rattle.server_journal.specs.Counts.{asks_of, counts_of, is_past, with_event}
use Rattle.server_journal.proofs.Counting.{within_limits}
use Rattle.server_station.specs.declared.askers.Asker.{Asker}
use Rattle.server_station.specs.Recording.{IsRefused}
use Rattle.server_station.specs.Turns.{Seen, TurnsBy}

abbrev asker : ℕ → ℕ → ℕ → List Asker
asker id peer number = record { id = id; peer = peer; number = number } ∷ []

-- beside as many calls as there are ids, one more goes past the limits
none_left : (limits : Limits) (items : List JournalItem) (id : ℕ) (call : List ℕ) → 2 ^ 32 ≤ asks_of items + 1
    → is_past limits (with_event (counts_of items) (event.Ask id call)) ≡ false → ⊥
none_left limits items id call many within =
    let few = within_limits limits (with_event (counts_of items) (event.Ask id call)) within in
    let last : asks_of items + 1 ≤ 4294967295 = few.2 in absurd (omega (arith, many, last))

not_begun : {D V : Type 0} (g : Ghosts D) (d : Standing) (id other : ℕ) (call : List ℕ) (now : ℕ) (before after : Node D V g)
    (was is : List JournalItem) (out : List Output)
    → IsRefused g d (event.Ask id call) now before after was is out → IsRefused g d (event.Ask other call) now before after was is out
not_begun g d id other call now before after was is out refused =
    record {
      node = elim refused.node [ inl same ↦ inl same | inr step ↦ absurd (step.memory tt refl) ];
      items = refused.items;
      outputs_are = refused.outputs_are;
    }

past_the_last : {D V : Type 0} (g : Ghosts D) (d : Standing) (limits : Limits) (call : List ℕ) (peer number now id : ℕ)
    (before after : Seen D V g) (sent : List Sending) (e : TurnEnd)
    → 2 ^ 32 ≤ asks_of before.items + 1
    → TurnsBy g d limits (event.Ask id call) (asker id peer number) now before after sent e
    → TurnsBy g d limits (event.Ask (asks_of before.items + 1) call) (asker (asks_of before.items + 1) peer number) now before after sent e
past_the_last g d limits call peer number now id before after sent end.Done many turned =
    absurd (none_left limits before.items id call many turned.1.0)
past_the_last g d limits call peer number now id before after sent end.Halted many turned =
    absurd (none_left limits before.items id call many turned.1.0)
past_the_last g d limits call peer number now id before after sent end.Cut many turned =
    elim turned.1 [
      | inl made ↦ absurd (none_left limits before.items id call many made.0)
      | inr made ↦ absurd (none_left limits before.items id call many made.0)
    ]
past_the_last g d limits call peer number now id before after sent (end.JournalFull entries bytes) many turned = turned
past_the_last g d limits call peer number now id before after sent end.NoMemory many turned =
    (not_begun g d id (asks_of before.items + 1) call now _ _ _ _ _ turned.0, turned.1, turned.2, turned.3)

by_room : {D V : Type 0} (g : Ghosts D) (d : Standing) (limits : Limits) (call : List ℕ) (peer number now id : ℕ)
    (before after : Seen D V g) (sent : List Sending) (e : TurnEnd) (room : Bool)
    → nat_lt (asks_of before.items + 1) 4294967296 ≡ room → id ≡ (asks_of before.items + 1) % 2 ^ 32
    → TurnsBy g d limits (event.Ask id call) (asker id peer number) now before after sent e
    → TurnsBy g d limits (event.Ask (asks_of before.items + 1) call) (asker (asks_of before.items + 1) peer number) now before after sent e
by_room g d limits call peer number now id before after sent e true room is turned =
    let few : asks_of before.items + 1 < 4294967296 = grind (arith, nat_tests) in
    let same : id ≡ asks_of before.items + 1 = omega (arith, is, few) in
    let P : ℕ → Type 0 = λ i. TurnsBy g d limits (event.Ask i call) (asker i peer number) now before after sent e in subst P same turned
by_room g d limits call peer number now id before after sent e false room is turned =
    let many : 4294967296 ≤ asks_of before.items + 1 = grind (arith, nat_tests) in
    past_the_last g d limits call peer number now id before after sent e many turned

-- the id that code gives, of 32 bits, is the next one wherever a step is made under it
pub asked_next : {D V : Type 0} (g : Ghosts D) (d : Standing) (limits : Limits) (call : List ℕ) (peer number now id : ℕ)
    (before after : Seen D V g) (sent : List Sending) (e : TurnEnd)
    → id ≡ (asks_of before.items + 1) % 2 ^ 32
    → TurnsBy g d limits (event.Ask id call) (asker id peer number) now before after sent e
    → TurnsBy g d limits (event.Ask (asks_of before.items + 1) call) (asker (asks_of before.items + 1) peer number) now before after sent e
asked_next g d limits call peer number now id before after sent e is turned =
    by_room g d limits call peer number now id before after sent e (nat_lt (asks_of before.items + 1) 4294967296) refl is turned
