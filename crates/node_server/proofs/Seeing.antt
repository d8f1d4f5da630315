-- What is seen at a station of why a turn ended so, and that it stays.
use Rattle.std.proofs.Common.{◌≡◌, ◌⊎◌, inl, inr, ℕ, ◌+◌, ◌-◌, ◌<◌, ◌≤◌, Bool, true, false, List, [], ◌++◌, length, take, refl, ap, sym, ◌∙◌, subst, arith}
use Rattle.std.specs.Prelude.{nat_lt}
use Rattle.std.proofs.lemmas.List.{append-nil, length-append, take-append-le, take_all}
use Rattle.std.proofs.lemmas.Bool.Decides.{nat_tests}
use Rattle.disk_base.specs.declared.disks.Disk.{Ghosts}
use Rattle.db_image.specs.Standing.{Standing}
use Rattle.cell_model.specs.declared.events.NodeEvent.{NodeEvent}
use Rattle.cell_model.specs.declared.events.NodeEvent.TheVariants as event
use Rattle.cell_model.specs.declared.events.Output.{Output}
use Rattle.ubik_node.specs.declared.nodes.Node.{Node}
use Rattle.ubik_node.specs.declared.nodes.StepEnd.{StepEnd}
use Rattle.ubik_node.specs.declared.nodes.StepEnd.TheVariants as step
use Rattle.server_rounds.specs.declared.sendings.Sending.{Sending}
use Rattle.server_rounds.specs.declared.turns.TurnEnd.{TurnEnd}
use Rattle.server_rounds.specs.declared.turns.TurnEnd.TheVariants as end
use Rattle.server_journal.specs.declared.counts.Limits.{Limits}
use Rattle.server_journal.specs.declared.items.JournalItem.{JournalItem}
use Rattle.server_journal.specs.Counts.{asks_of, bytes_of, counts_of, is_past, with_event}
use Rattle.server_journal.specs.Weight.{asks_in, weight}
use Rattle.server_station.specs.declared.askers.Asker.{Asker}
use Rattle.server_station.specs.Recording.{IsRecorded, IsRefused, IsStep}
use Rattle.server_station.specs.Turns.{Act, IsFullByFrame, Makes, Rests, Seen, Tells, Turned, TurnsBy}
use Rattle.node_server.specs.Causes.{is_seen, was_full}
use Rattle.node_server.proofs.Filling.{IsFullAt, read, test_at}

-- how often the disk of a station has failed
abbrev failed_in : {D V : Type 0} (g : Ghosts D) → Node D V g → ℕ
failed_in g n = g.faults n.store.disk

-- How a station goes on: the journal only grows, the disk's failures too, and a node is halted where they did, or was before.
pub record GoesOn {D V : Type 0} (g : Ghosts D) (before after : Seen D V g) : Type 0 where
  pub more : List JournalItem
  pub items : after.items ≡ before.items ++ more
  pub never_falls : failed_in g before.node ≤ failed_in g after.node
  pub rose : after.node.store.failed ≡ true → (before.node.store.failed ≡ true) ⊎ (failed_in g before.node < failed_in g after.node)

rests : {D V : Type 0} (g : Ghosts D) (s : Seen D V g) → GoesOn g s s
rests g s = record { more = []; items = sym (append-nil s.items); never_falls = omega arith; rose = λ halted. inl halted }

stays : {D V : Type 0} (g : Ghosts D) (before after : Seen D V g) → after.node ≡ before.node → after.items ≡ before.items
    → GoesOn g before after
stays g before after node items =
    let count : failed_in g after.node ≡ failed_in g before.node = ap (λ n. failed_in g n) node in
    record {
      more = [];
      items = items ∙ sym (append-nil before.items);
      never_falls = omega (arith, count);
      rose = λ halted. inl (ap (λ n. n.store.failed) (sym node) ∙ halted);
    }

halted_by : {D V : Type 0} (g : Ghosts D) (d : Standing) (e : StepEnd) (event : NodeEvent) (now : ℕ) (before after : Node D V g)
    (out : List Output) (b : Bool)
    → before.store.failed ≡ b → IsStep g d e event now before after out → e ≡ step.Halted → (before.store.failed ≡ true)
    ⊎ (failed_in g before < failed_in g after)
halted_by g d e event now before after out true is made ended = inl is
halted_by g d e event now before after out false is made ended = inr (made.calls.1.cause.rose (ended, is))

steps : {D V : Type 0} (g : Ghosts D) (d : Standing) (e : StepEnd) (event : NodeEvent) (now : ℕ) (before after : Seen D V g)
    (out : List Output) (more : List JournalItem)
    → IsStep g d e event now before.node after.node out → after.items ≡ before.items ++ more → GoesOn g before after
steps g d e event now before after out more made items =
    record {
      more = more;
      items = items;
      never_falls = made.calls.1.cause.never_falls;
      rose = λ halted. halted_by g d e event now before.node after.node out before.node.store.failed refl made (made.halts.1 halted);
    }

recorded : {D V : Type 0} (g : Ghosts D) (d : Standing) (e : StepEnd) (event : NodeEvent) (now : ℕ) (before after : Seen D V g)
    (out : List Output)
    → IsRecorded g d e event now before.node after.node before.items after.items out → GoesOn g before after
recorded g d e event now before after out is = steps g d e event now before after out _ is.step is.item

refused : {D V : Type 0} (g : Ghosts D) (d : Standing) (event : NodeEvent) (now : ℕ) (before after : Seen D V g) (out : List Output)
    → IsRefused g d event now before.node after.node before.items after.items out → GoesOn g before after
refused g d event now before after out is =
    elim is.node [
      | inl same ↦ stays g before after same is.items
      | inr made ↦ steps g d step.NoMemory event now before after [] [] made (is.items ∙ sym (append-nil before.items))
    ]

makes : {D V : Type 0} (g : Ghosts D) (d : Standing) (limits : Limits) (event : NodeEvent) (asker : List Asker) (now : ℕ)
    (before after : Seen D V g) (sent : List Sending) (e : TurnEnd)
    → TurnsBy g d limits event asker now before after sent e → GoesOn g before after
makes g d limits event asker now before after sent end.Done turned = recorded g d step.Done event now before after turned.0 turned.1.1
makes g d limits event asker now before after sent end.Halted turned = recorded g d step.Halted event now before after turned.0 turned.1.1
makes g d limits event asker now before after sent end.Cut turned =
    elim turned.1 [
      | inl made ↦ recorded g d step.Done event now before after turned.0 made.1
      | inr made ↦ recorded g d step.Halted event now before after turned.0 made.1
    ]
makes g d limits event asker now before after sent (end.JournalFull entries bytes) turned = stays g before after turned.0.3 turned.0.4
makes g d limits event asker now before after sent end.NoMemory turned = refused g d event now before after [] turned.0

same : {D V : Type 0} (g : Ghosts D) (before after : Seen D V g) → after ≡ before → GoesOn g before after
same g before after is = stays g before after (ap (λ s. s.node) is) (ap (λ s. s.items) is)

-- each turn goes on
pub goes_on : {D V : Type 0} (g : Ghosts D) (d : Standing) (limits : Limits) (act : Act) (now : ℕ) (before after : Seen D V g)
    (sent : List Sending) (e : TurnEnd)
    → Turned g d limits act now before after sent e → GoesOn g before after
goes_on g d limits (Makes event asker) now before after sent e turned = makes g d limits event asker now before after sent e turned
goes_on g d limits (Tells peer number) now before after sent end.Done turned = same g before after turned.0
goes_on g d limits (Tells peer number) now before after sent end.NoMemory turned = same g before after turned.0
goes_on g d limits (Tells peer number) now before after sent end.Halted turned = absurd turned
goes_on g d limits (Tells peer number) now before after sent end.Cut turned = absurd turned
goes_on g d limits (Tells peer number) now before after sent (end.JournalFull entries bytes) turned = absurd turned
goes_on g d limits Rests now before after sent end.Done turned = same g before after turned.0
goes_on g d limits Rests now before after sent end.NoMemory turned = same g before after turned.0
goes_on g d limits Rests now before after sent end.Halted turned = absurd turned
goes_on g d limits Rests now before after sent end.Cut turned = absurd turned
goes_on g d limits Rests now before after sent (end.JournalFull entries bytes) turned = absurd turned

-- a turn that ended with Halted left the node so
halts : {D V : Type 0} (g : Ghosts D) (d : Standing) (limits : Limits) (act : Act) (now : ℕ) (before after : Seen D V g)
    (sent : List Sending)
    → Turned g d limits act now before after sent end.Halted → after.node.store.failed ≡ true
halts g d limits (Makes event asker) now before after sent turned = turned.1.1.step.halts.0 refl
halts g d limits (Tells peer number) now before after sent turned = absurd turned
halts g d limits Rests now before after sent turned = absurd turned

past_more : (limits : Limits) (entries bytes asks more : ℕ) → asks ≤ more
    → is_past limits (record { entries = entries; bytes = bytes; asks = asks }) ≡ true
    → is_past limits (record { entries = entries; bytes = bytes; asks = more }) ≡ true
past_more limits entries bytes asks more up past = grind (arith, nat_tests)

-- what was full stays so as the journal grows
full_stays : (limits : Limits) (items more : List JournalItem) (entries bytes : ℕ) → was_full limits items entries bytes ≡ true
    → was_full limits (items ++ more) entries bytes ≡ true
full_stays limits items more entries bytes was =
    let is = read limits items entries bytes was in
    let before = take (entries - 1) items in
    let front : take (entries - 1) (items ++ more) ≡ before = take-append-le (entries - 1) items more (omega (arith, is.within)) in
    let longer : entries ≤ length (items ++ more) + 1 = omega (arith, is.within, length-append items more) in
    let P : List JournalItem → Type 0 = λ xs. IsFullAt limits xs (length (items ++ more)) entries bytes in
    let there : IsFullAt limits before (length (items ++ more)) entries bytes =
    record { first = is.first; within = longer; heavy = is.heavy; framed = is.framed; past = is.past } in
    test_at limits (take (entries - 1) (items ++ more)) (length (items ++ more)) entries bytes (subst P (sym front) there)

asks_few : (e : NodeEvent) → asks_in e ≤ 1
asks_few (event.Packet p) = omega arith
asks_few event.BeaconTurn = omega arith
asks_few event.RecoverTurn = omega arith
asks_few (event.Ask id call) = omega arith

full_now : (limits : Limits) (items : List JournalItem) (e : NodeEvent) → bytes_of items + weight e ≤ bytes_of items + 2097184
    → is_past limits (with_event (counts_of items) e) ≡ true → was_full limits items (length items + 1) (bytes_of items + weight e) ≡ true
full_now limits items e framed past =
    let all : take (length items + 1 - 1) items ≡ items = take_all (length items + 1 - 1) items (omega arith) in
    let few = asks_few e in
    let P : List JournalItem → Type 0 = λ xs. IsFullAt limits xs (length items) (length items + 1) (bytes_of items + weight e) in
    let there : IsFullAt limits items (length items) (length items + 1) (bytes_of items + weight e) = record {
      first = omega arith;
      within = omega arith;
      heavy = omega arith;
      framed = framed;
      past =
          past_more limits (length items + 1) (bytes_of items + weight e) (asks_of items + asks_in e) (asks_of items + 1)
          (omega (arith, few)) past;
    } in
    test_at limits (take (length items + 1 - 1) items) (length items) (length items + 1) (bytes_of items + weight e)
    (subst P (sym all) there)

full_by : {D V : Type 0} (g : Ghosts D) (d : Standing) (limits : Limits) (act : Act) (now : ℕ) (before after : Seen D V g)
    (sent : List Sending) (entries bytes : ℕ)
    → IsFullByFrame before.items (end.JournalFull entries bytes)
    → Turned g d limits act now before after sent (end.JournalFull entries bytes)
    → was_full limits after.items entries bytes ≡ true
full_by g d limits (Makes event asker) now before after sent entries bytes framed turned =
    let heavy : bytes ≡ bytes_of before.items + weight event = turned.0.2 in
    let full = full_now limits before.items event (omega (arith, framed, heavy)) turned.0.0 in
    let Q : List JournalItem → Type 0 = λ xs. was_full limits xs (length before.items + 1) (bytes_of before.items + weight event) ≡ true in
    let R : ℕ → Type 0 = λ n. was_full limits after.items n (bytes_of before.items + weight event) ≡ true in
    let S : ℕ → Type 0 = λ m. was_full limits after.items entries m ≡ true in
    subst S (sym heavy) (subst R (sym turned.0.1) (subst Q (sym turned.0.4) full))
full_by g d limits (Tells peer number) now before after sent entries bytes framed turned = absurd turned
full_by g d limits Rests now before after sent entries bytes framed turned = absurd turned

is_more : (n m : ℕ) → n < m → nat_lt n m ≡ true
is_more n m more = grind (arith, nat_tests)

failed : {D V : Type 0} (g : Ghosts D) (before after : Seen D V g) (failed_before : ℕ) → GoesOn g before after
    → failed_before ≤ failed_in g before.node
    → (before.node.store.failed ≡ true → failed_before < failed_in g before.node) → after.node.store.failed ≡ true
    → failed_before < failed_in g after.node
failed g before after failed_before on low was halted =
    let falls = on.never_falls in
    elim (on.rose halted) [
      | inl old ↦ (let more = was old in omega (arith, more, falls))
      | inr rose ↦ omega (arith, rose, low)
    ]

-- a node that is halted after a turn is so for its disk
pub halted_for_disk : {D V : Type 0} (g : Ghosts D) (d : Standing) (limits : Limits) (act : Act) (now : ℕ) (before after : Seen D V g)
    (sent : List Sending) (e : TurnEnd)
    (failed_before : ℕ) → Turned g d limits act now before after sent e → failed_before ≤ failed_in g before.node
    → (before.node.store.failed ≡ true → failed_before < failed_in g before.node) → after.node.store.failed ≡ true
    → failed_before < failed_in g after.node
halted_for_disk g d limits act now before after sent e failed_before turned low was halted =
    failed g before after failed_before (goes_on g d limits act now before after sent e turned) low was halted

-- why a turn ended so is seen
pub seen_now : {D V : Type 0} (g : Ghosts D) (d : Standing) (limits own : Limits) (act : Act) (now : ℕ) (before after : Seen D V g)
    (sent : List Sending) (e : TurnEnd)
    (failed_before : ℕ) → limits ≡ own → IsFullByFrame before.items e → Turned g d limits act now before after sent e
    → failed_before ≤ failed_in g before.node
    → (before.node.store.failed ≡ true → failed_before < failed_in g before.node)
    → is_seen own after.items failed_before (failed_in g after.node) e ≡ true
seen_now g d limits own act now before after sent end.Done failed_before is framed turned low was = refl
seen_now g d limits own act now before after sent end.Cut failed_before is framed turned low was = refl
seen_now g d limits own act now before after sent end.NoMemory failed_before is framed turned low was = refl
seen_now g d limits own act now before after sent end.Halted failed_before is framed turned low was =
    is_more failed_before (failed_in g after.node)
    (halted_for_disk g d limits act now before after sent end.Halted failed_before turned low was
    (halts g d limits act now before after sent turned))
seen_now g d limits own act now before after sent (end.JournalFull entries bytes) failed_before is framed turned low was =
    let P : Limits → Type 0 = λ l. was_full l after.items entries bytes ≡ true in
    subst P is (full_by g d limits act now before after sent entries bytes framed turned)

more_than : (n m k : ℕ) → m ≤ k → nat_lt n m ≡ true → nat_lt n k ≡ true
more_than n m k up is = grind (arith, nat_tests)

-- and stays so
pub seen_stays : {D V : Type 0} (g : Ghosts D) (own : Limits) (before after : Seen D V g) (failed_before : ℕ) (e : TurnEnd)
    → GoesOn g before after
    → is_seen own before.items failed_before (failed_in g before.node) e ≡ true
    → is_seen own after.items failed_before (failed_in g after.node) e ≡ true
seen_stays g own before after failed_before end.Done on is = refl
seen_stays g own before after failed_before end.Cut on is = refl
seen_stays g own before after failed_before end.NoMemory on is = refl
seen_stays g own before after failed_before end.Halted on is =
    more_than failed_before (failed_in g before.node) (failed_in g after.node) on.never_falls is
seen_stays g own before after failed_before (end.JournalFull entries bytes) on is =
    let P : List JournalItem → Type 0 = λ xs. was_full own xs entries bytes ≡ true in
    subst P (sym on.items) (full_stays own before.items on.more entries bytes is)
