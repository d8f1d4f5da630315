-- What a journal has, and what it has with one item more or one less.
use Rattle.std.proofs.Common.{◌≡◌, ℕ, ◌+◌, ◌*◌, ◌≤◌, Bool, true, false, ◌&&◌, ◌||◌, nat_le, nat_lt, List, [], ◌∷◌, ◌++◌, length, refl, ap, sym, subst, ◌∙◌, arith}
use Rattle.std.proofs.lemmas.Bool.Decides.{nat_tests}
use Rattle.std.proofs.lemmas.List.Folds.{list_all-append}
use Rattle.std.proofs.lemmas.List.Sums.{sum_by-cons}
use Rattle.ubik_calls.specs.declared.packets.Body.{Body}
use Rattle.ubik_calls.specs.declared.packets.Body.TheVariants as body
use Rattle.ubik_calls.specs.Length.{HasShortBytes, body_length}
use Rattle.cell_model.specs.declared.events.NodeEvent.{NodeEvent}
use Rattle.cell_model.specs.declared.events.NodeEvent.TheVariants as event
use Rattle.server_journal.specs.declared.counts.Counts.{Counts}
use Rattle.server_journal.specs.declared.counts.Limits.{Limits}
use Rattle.server_journal.specs.declared.items.JournalItem.{JournalItem}
use Rattle.server_journal.specs.Counts.{are_light, asks_of, bytes_of, is_past}
use Rattle.server_journal.specs.Weight.{weight, asks_in}

and_true : (a b : Bool) → (a && b) ≡ true → (a ≡ true) × (b ≡ true)
and_true true b e = (refl, e)
and_true false b e = absurd cc

or_false : (a b : Bool) → (a || b) ≡ false → (a ≡ false) × (b ≡ false)
or_false true b e = absurd cc
or_false false b e = (refl, e)

le_of : (a b : ℕ) → nat_le a b ≡ true → a ≤ b
le_of a b is = grind (arith, nat_tests)

le_test : (a b : ℕ) → a ≤ b → nat_le a b ≡ true
le_test a b is = grind (arith, nat_tests)

not_past : (a b : ℕ) → nat_lt a b ≡ false → b ≤ a
not_past a b is = grind (arith, nat_tests)

-- what is not past its limits
pub within_limits : (limits : Limits) (n : Counts) → is_past limits n ≡ false → (n.entries ≤ limits.entries) × (n.bytes ≤ limits.bytes) × (n.asks ≤ 4294967295)
within_limits limits n is =
    let last = or_false (nat_lt limits.entries n.entries || nat_lt limits.bytes n.bytes) (nat_lt 4294967295 n.asks) is in
    let two = or_false (nat_lt limits.entries n.entries) (nat_lt limits.bytes n.bytes) last.0 in
    (not_past limits.entries n.entries two.0, not_past limits.bytes n.bytes two.1, not_past 4294967295 n.asks last.1)

-- a light packet carries few bytes
light_short : (b : Body) → 52 + body_length b ≤ 2147483680 → HasShortBytes b
light_short (body.Piece poll version total offset bytes) is = omega (arith, is)
light_short (body.SendPiece poll version total offset bytes) is = omega (arith, is)
light_short (body.PutPiece new number bytes) is = omega (arith, is)
light_short (body.Beacon start claim ready version) is = tt
light_short (body.Vote start granted) is = tt
light_short (body.GetVersion poll) is = tt
light_short (body.VersionIs poll version) is = tt
light_short (body.GetPiece poll version offset) is = tt
light_short (body.PieceKept poll version next) is = tt
light_short (body.SetVersion poll old new) is = tt
light_short (body.Begin old new pieces len) is = tt
light_short (body.Commit old new) is = tt
light_short (body.Abort new) is = tt
light_short (body.VersionKept version) is = tt

pub light_packet : (e : NodeEvent) (p : _) → e ≡ event.Packet p → weight e ≤ 2147483680 → HasShortBytes p.body
light_packet e p is light =
    let P : NodeEvent → Type 0 = λ x. weight x ≤ 2147483680 in
    let heavy : 52 + body_length p.body ≤ 2147483680 = omega (arith, subst P is light) in light_short p.body heavy

asks_at_most : (e : NodeEvent) → asks_in e ≤ 1
asks_at_most (event.Packet p) = omega arith
asks_at_most event.BeaconTurn = omega arith
asks_at_most event.RecoverTurn = omega arith
asks_at_most (event.Ask id call) = omega arith

-- light items have few bytes
pub light_bytes : (items : List JournalItem) → are_light items ≡ true → bytes_of items ≤ length items * 2147483680
light_bytes [] light = omega arith
light_bytes (i ∷ items) light =
    let both = and_true (nat_le (weight i.event) 2147483680) (are_light items) light in
    omega (arith, sum_by-cons (λ (j : JournalItem). weight j.event) i items, light_bytes items both.1, le_of (weight i.event) 2147483680 both.0)

pub few_asks : (items : List JournalItem) → asks_of items ≤ length items
few_asks [] = omega arith
few_asks (i ∷ items) = omega (arith, sum_by-cons (λ (j : JournalItem). asks_in j.event) i items, few_asks items, asks_at_most i.event)

-- one light item more
pub light_more : (items : List JournalItem) (i : JournalItem) → are_light items ≡ true → weight i.event ≤ 2147483680 → are_light (items ++ i ∷ []) ≡ true
light_more items i light one =
    list_all-append (λ (j : JournalItem). nat_le (weight j.event) 2147483680) items (i ∷ [])
    ∙ ap (λ (b : Bool). b && (nat_le (weight i.event) 2147483680 && true)) light
    ∙ ap (λ (b : Bool). b && true) (le_test (weight i.event) 2147483680 one)

-- the first of light items, and the others
pub light_first : (items : List JournalItem) (i : JournalItem) (rest : List JournalItem) → items ≡ i ∷ rest → are_light items ≡ true
    → (weight i.event ≤ 2147483680) × (are_light rest ≡ true)
light_first items i rest is light =
    let both = and_true (nat_le (weight i.event) 2147483680) (are_light rest) (sym (ap are_light is) ∙ light) in
    (le_of (weight i.event) 2147483680 both.0, both.1)
