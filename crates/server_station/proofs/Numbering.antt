-- The calls in a journal have the ids 1, 2, .., and its packets are for its server: one item more.
use Rattle.std.proofs.Common.{◌≡◌, ℕ, ◌+◌, ◌<◌, Bool, true, false, List, [], ◌∷◌, ◌++◌, refl, ap, sym, ◌∙◌, subst, arith}
use Rattle.std.specs.Prelude.{◌==◌, ◌&&◌, ◌^◌, map}
use Rattle.std.proofs.lemmas.Bool.Decides.{nat_tests}
use Rattle.std.proofs.lemmas.List.Sums.{sum_by-cons}
use Rattle.cell_model.specs.declared.events.NodeEvent.{NodeEvent}
use Rattle.cell_model.specs.declared.events.NodeEvent.TheVariants as event
use Rattle.cell_model.specs.Step.{Member}
use Rattle.server_journal.specs.declared.counts.Limits.{Limits}
use Rattle.server_journal.specs.declared.items.JournalItem.{JournalItem}
use Rattle.server_journal.specs.Counts.{asks_of, counts_of, is_past, with_event}
use Rattle.server_journal.specs.Weight.{asks_in}
use Rattle.server_journal.proofs.Counting.{within_limits}
use Rattle.disk_base.specs.declared.disks.Disk.{Ghosts}
use Rattle.db_image.specs.Standing.{Standing}
use Rattle.journal_model.specs.Asking as asking
use Rattle.journal_model.specs.Asking.{asks_after, asks_next}
use Rattle.journal_model.specs.Items as model
use Rattle.journal_model.proofs.Asking.{numbered_ask_once}
use Rattle.server_journal.specs.Items.{untold}
use Rattle.server_station.specs.Fit.{IsNext, are_numbered, are_taken, is_taken}
use Rattle.server_station.specs.Replaying.{RecordedFits}

both : (a b : Bool) → a ≡ true → b ≡ true → (a && b) ≡ true
both true true one other = refl
both true false one other = absurd cc
both false b one other = absurd cc

first : (a b : Bool) → (a && b) ≡ true → a ≡ true
first true b is = refl
first false b is = absurd cc

second : (a b : Bool) → (a && b) ≡ true → b ≡ true
second true b is = is
second false b is = absurd cc

asks_more : (i : JournalItem) (items : List JournalItem) → asks_of (i ∷ items) ≡ asks_in i.event + asks_of items
asks_more i items = sum_by-cons (λ (j : JournalItem). asks_in j.event) i items

after_is : (asks : ℕ) (e : NodeEvent) → asks_after asks e ≡ asks + asks_in e
after_is asks (event.Packet p) = omega arith
after_is asks event.BeaconTurn = omega arith
after_is asks event.RecoverTurn = omega arith
after_is asks (event.Ask id call) = refl

numbered_and : (asks : ℕ) (items : List JournalItem) (item : JournalItem) → are_numbered asks items ≡ true
    → asks_next (asks + asks_of items) item.event ≡ true
    → are_numbered asks (items ++ item ∷ []) ≡ true
numbered_and asks [] item all next =
    let same : asks + 0 ≡ asks = omega arith in
    both (asks_next asks item.event) true (subst (λ (n : ℕ). asks_next n item.event ≡ true) same next) refl
numbered_and asks (i ∷ items) item all next =
    let same : asks + asks_of (i ∷ items) ≡ asks_after asks i.event + asks_of items = omega
    (arith, asks_more i items, after_is asks i.event) in
    both (asks_next asks i.event) (are_numbered (asks_after asks i.event) (items ++ item ∷ []))
    (first (asks_next asks i.event) (are_numbered (asks_after asks i.event) items) all)
    (numbered_and (asks_after asks i.event) items item (second (asks_next asks i.event) (are_numbered (asks_after asks i.event) items) all)
    (subst (λ (n : ℕ). asks_next n item.event ≡ true) same next))

next_by : (limits : Limits) (items : List JournalItem) (e : NodeEvent) → is_past limits (with_event (counts_of items) e) ≡ false
    → (asks_of items + 1 < 2 ^ 32 → IsNext (asks_of items) e) → asks_next (asks_of items) e ≡ true
next_by limits items (event.Packet p) within next = refl
next_by limits items event.BeaconTurn within next = refl
next_by limits items event.RecoverTurn within next = refl
next_by limits items (event.Ask id call) within next =
    let few = within_limits limits (with_event (counts_of items) (event.Ask id call)) within in
    let room : asks_of items + 1 < 4294967296 = omega (arith, few.2) in
    let same : id ≡ asks_of items + 1 = next room in grind (arith, nat_tests)

-- a step that the journal has room for
pub numbered_more : (limits : Limits) (items : List JournalItem) (item : JournalItem)
    → is_past limits (with_event (counts_of items) item.event) ≡ false
    → (asks_of items + 1 < 2 ^ 32 → IsNext (asks_of items) item.event) → are_numbered 0 items ≡ true
    → are_numbered 0 (items ++ item ∷ []) ≡ true
numbered_more limits items item within next all =
    let same : asks_of items ≡ 0 + asks_of items = omega arith in
    numbered_and 0 items item all (subst (λ (n : ℕ). asks_next n item.event ≡ true) same (next_by limits items item.event within next))

pub taken_more : (m : Member) (items : List JournalItem) (item : JournalItem) → is_taken m item.event ≡ true → are_taken m items ≡ true
    → are_taken m (items ++ item ∷ []) ≡ true
taken_more m [] item is all = both (is_taken m item.event) true is refl
taken_more m (i ∷ items) item is all =
    both (is_taken m i.event) (are_taken m (items ++ item ∷ [])) (first (is_taken m i.event) (are_taken m items) all)
    (taken_more m items item is (second (is_taken m i.event) (are_taken m items) all))

-- ---- the items of the model

numbered_told : (asks : ℕ) (whole : List model.JournalItem) → are_numbered asks (map untold whole) ≡ true
    → asking.are_numbered asks whole ≡ true
numbered_told asks [] all = refl
numbered_told asks (i ∷ whole) all =
    both (asks_next asks i.event) (asking.are_numbered (asks_after asks i.event) whole)
    (first (asks_next asks i.event) (are_numbered (asks_after asks i.event) (map untold whole)) all)
    (numbered_told (asks_after asks i.event) whole
    (second (asks_next asks i.event) (are_numbered (asks_after asks i.event) (map untold whole)) all))

pub recorded_fits : {D : Type 0} (g : Ghosts D) (d : Standing) → RecordedFits g d
recorded_fits g d m opened kept now outputs disk is numbered =
    let P : List JournalItem → Type 0 = λ items. are_numbered 0 items ≡ true in
    record { each = is.journal.each; once = numbered_ask_once is.whole (numbered_told 0 is.whole (subst P (sym is.kept_is) numbered)) }
