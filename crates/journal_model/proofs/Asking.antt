-- Items in which no id is asked twice, one more at a time.
use Rattle.std.proofs.Common.{Bool, true, false, not, ◌&&◌, ◌==◌, ◌≡◌, ◌≤◌, ◌+◌, ℕ, List, [], ◌∷◌, ◌++◌, refl, ap, ◌∙◌, arith}
use Rattle.std.proofs.lemmas.Bool.{and_parts, eqb-true}
use Rattle.std.proofs.lemmas.Bool.Decides.{nat_tests}
use Rattle.std.specs.List.{AllByRecursion, list_all}
use Rattle.cell_model.specs.declared.events.NodeEvent.{NodeEvent}
use Rattle.cell_model.specs.declared.events.NodeEvent.TheVariants as event
use Rattle.cell_model.specs.World.{asked_after, is_new_ask}
use Rattle.journal_model.specs.Items.{JournalItem}
use Rattle.journal_model.specs.Asking.{NumberedAskOnce, are_numbered, asked_in, asks_after, asks_next, asks_once}

pub asked-append : (ids : List ℕ) (items : List JournalItem) (item : JournalItem)
    → asked_in ids (items ++ item ∷ []) ≡ asked_after (asked_in ids items) item.event
asked-append ids [] item = refl
asked-append ids (first ∷ items) item = asked-append (asked_after ids first.event) items item

both : (a b : Bool) → a ≡ true → b ≡ true → (a && b) ≡ true
both true b first second = second
both false b first second = first

pub once_more : (ids : List ℕ) (items : List JournalItem) (item : JournalItem) → asks_once ids items ≡ true
    → is_new_ask (asked_in ids items) item.event ≡ true → asks_once ids (items ++ item ∷ []) ≡ true
once_more ids [] item once new = both (is_new_ask ids item.event) true new refl
once_more ids (first ∷ items) item once new =
    let parts = and_parts (is_new_ask ids first.event) (asks_once (asked_after ids first.event) items) once in
    both (is_new_ask ids first.event) _ parts.0 (once_more (asked_after ids first.event) items item parts.1 new)

-- and back
pub once_last : (ids : List ℕ) (items : List JournalItem) (item : JournalItem) → asks_once ids (items ++ item ∷ []) ≡ true
    → is_new_ask (asked_in ids items) item.event ≡ true
once_last ids [] item once = (and_parts (is_new_ask ids item.event) true once).0
once_last ids (first ∷ items) item once =
    once_last (asked_after ids first.event) items item
    (and_parts (is_new_ask ids first.event) (asks_once (asked_after ids first.event) (items ++ item ∷ [])) once).1

pub once_front : (ids : List ℕ) (items : List JournalItem) (item : JournalItem) → asks_once ids (items ++ item ∷ []) ≡ true
    → asks_once ids items ≡ true
once_front ids [] item once = refl
once_front ids (first ∷ items) item once =
    let parts = and_parts (is_new_ask ids first.event) (asks_once (asked_after ids first.event) (items ++ item ∷ [])) once in
    both (is_new_ask ids first.event) _ parts.0 (once_front (asked_after ids first.event) items item parts.1)

-- ---- numbers

-- numbers up to one are none above it
others : (ids : List ℕ) (n : ℕ) → AllByRecursion (λ (id : ℕ). id ≤ n) ids → list_all (λ (other : ℕ). not (other == n + 1)) ids ≡ true
others [] n all = refl
others (id ∷ ids) n all =
    let other : not (id == n + 1) ≡ true = let few : id ≤ n = all.0 in grind (arith, nat_tests, few) in
    both (not (id == n + 1)) _ other (others ids n all.1)

up_to : (ids : List ℕ) (n : ℕ) → AllByRecursion (λ (id : ℕ). id ≤ n) ids → AllByRecursion (λ (id : ℕ). id ≤ n + 1) ids
up_to [] n all = tt
up_to (id ∷ ids) n all = (omega (arith, all.0), up_to ids n all.1)

next_new : (ids : List ℕ) (n : ℕ) (e : NodeEvent) → AllByRecursion (λ (id : ℕ). id ≤ n) ids → asks_next n e ≡ true
    → (is_new_ask ids e ≡ true) × AllByRecursion (λ (id : ℕ). id ≤ asks_after n e) (asked_after ids e)
next_new ids n (event.Packet p) all is = (refl, all)
next_new ids n event.BeaconTurn all is = (refl, all)
next_new ids n event.RecoverTurn all is = (refl, all)
next_new ids n (event.Ask id call) all is =
    let same : id ≡ n + 1 = eqb-true id (n + 1) is in (
      ap (λ (k : ℕ). list_all (λ (other : ℕ). not (other == k)) ids) same ∙ others ids n all,
      (omega (arith, same), up_to ids n all),
    )

once_from : (ids : List ℕ) (n : ℕ) (items : List JournalItem) → AllByRecursion (λ (id : ℕ). id ≤ n) ids → are_numbered n items ≡ true
    → asks_once ids items ≡ true
once_from ids n [] all is = refl
once_from ids n (item ∷ items) all is =
    let parts = and_parts (asks_next n item.event) (are_numbered (asks_after n item.event) items) is in
    let next = next_new ids n item.event all parts.0 in
    both (is_new_ask ids item.event) _ next.0 (once_from (asked_after ids item.event) (asks_after n item.event) items next.1 parts.1)

pub numbered_ask_once : NumberedAskOnce
numbered_ask_once items is = once_from [] 0 items tt is
