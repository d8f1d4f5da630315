-- What the words of a full journal say, part by part.
use Rattle.std.proofs.Common.{◌≡◌, inl, inr, ℕ, ◌+◌, ◌-◌, ◌<◌, ◌≤◌, Bool, true, false, List, length, take, refl, arith}
use Rattle.std.specs.Prelude.{◌&&◌, ◌||◌, nat_lt, nat_le}
use Rattle.std.proofs.lemmas.Bool.Decides.{nat_tests}
use Rattle.std.proofs.lemmas.List.{length-take}
use Rattle.server_journal.specs.declared.counts.Limits.{Limits}
use Rattle.server_journal.specs.declared.items.JournalItem.{JournalItem}
use Rattle.server_journal.specs.Counts.{asks_of, bytes_of, is_past}
use Rattle.server_journal.proofs.Counting.{few_asks}
use Rattle.node_server.specs.Causes.{IsFullIn, was_full}

and_two : (a b : Bool) → (a && b) ≡ true → (a ≡ true) × (b ≡ true)
and_two true b is = (refl, is)
and_two false b is = absurd cc

two_and : (a b : Bool) → a ≡ true → b ≡ true → (a && b) ≡ true
two_and true b first second = second
two_and false b first second = absurd cc

last_of : (a b c : Bool) → a ≡ false → b ≡ false → (a || b || c) ≡ true → c ≡ true
last_of true b c first second is = absurd cc
last_of false true c first second is = absurd cc
last_of false false c first second is = is

le_of : (a b : ℕ) → nat_le a b ≡ true → a ≤ b
le_of a b is = grind (arith, nat_tests)

le_test : (a b : ℕ) → a ≤ b → nat_le a b ≡ true
le_test a b is = grind (arith, nat_tests)

lt_of : (a b : ℕ) → nat_lt a b ≡ true → a < b
lt_of a b is = grind (arith, nat_tests)

-- the test of an item behind these, of so many
abbrev full_at : Limits → List JournalItem → (len entries bytes : ℕ) → Bool
full_at limits before len entries bytes =
    nat_le 1 entries && nat_le entries (len + 1)
    && nat_le (bytes_of before) bytes && nat_le bytes (bytes_of before + 2097184)
    && is_past limits (record { entries = entries; bytes = bytes; asks = asks_of before + 1 })

-- what it says
pub record IsFullAt (limits : Limits) (before : List JournalItem) (len entries bytes : ℕ) : Type 0 where
  pub first : 1 ≤ entries
  pub within : entries ≤ len + 1
  pub heavy : bytes_of before ≤ bytes
  pub framed : bytes ≤ bytes_of before + 2097184
  pub past : is_past limits (record { entries = entries; bytes = bytes; asks = asks_of before + 1 }) ≡ true

read_at : (limits : Limits) (before : List JournalItem) (len entries bytes : ℕ) → full_at limits before len entries bytes ≡ true
    → IsFullAt limits before len entries bytes
read_at limits before len entries bytes is =
    let a = nat_le 1 entries in
    let b = nat_le entries (len + 1) in
    let c = nat_le (bytes_of before) bytes in
    let d = nat_le bytes (bytes_of before + 2097184) in
    let e = is_past limits (record { entries = entries; bytes = bytes; asks = asks_of before + 1 }) in
    let four = and_two (a && b && c && d) e is in
    let three = and_two (a && b && c) d four.0 in
    let two = and_two (a && b) c three.0 in
    let one = and_two a b two.0 in
    record {
      first = le_of 1 entries one.0;
      within = le_of entries (len + 1) one.1;
      heavy = le_of (bytes_of before) bytes two.1;
      framed = le_of bytes (bytes_of before + 2097184) three.1;
      past = four.1;
    }

pub test_at : (limits : Limits) (before : List JournalItem) (len entries bytes : ℕ) → IsFullAt limits before len entries bytes
    → full_at limits before len entries bytes ≡ true
test_at limits before len entries bytes is =
    let a = nat_le 1 entries in
    let b = nat_le entries (len + 1) in
    let c = nat_le (bytes_of before) bytes in
    let d = nat_le bytes (bytes_of before + 2097184) in
    let e = is_past limits (record { entries = entries; bytes = bytes; asks = asks_of before + 1 }) in
    two_and (a && b && c && d) e
    (two_and (a && b && c) d
    (two_and (a && b) c
    (two_and a b (le_test 1 entries is.first) (le_test entries (len + 1) is.within))
    (le_test (bytes_of before) bytes is.heavy))
    (le_test bytes (bytes_of before + 2097184) is.framed))
    is.past

pub read : (limits : Limits) (items : List JournalItem) (entries bytes : ℕ) → was_full limits items entries bytes ≡ true
    → IsFullAt limits (take (entries - 1) items) (length items) entries bytes
read limits items entries bytes is = read_at limits (take (entries - 1) items) (length items) entries bytes is

few_before : (n : ℕ) (items : List JournalItem) → asks_of (take n items) ≤ length items
few_before n items = omega (arith, few_asks (take n items), length-take n items)

in_limits : (limits : Limits) (items : List JournalItem) (entries bytes : ℕ) (a b : Bool) → length items ≤ limits.entries
    → limits.entries < 4294967295
    → IsFullAt limits (take (entries - 1) items) (length items) entries bytes → nat_lt limits.entries entries ≡ a
    → nat_lt limits.bytes bytes ≡ b
    → IsFullIn limits items entries bytes
in_limits limits items entries bytes true b short few is more heavy =
    let past = lt_of limits.entries entries more in inl (omega (arith, past, is.within, short), omega (arith, past, is.within, short))
in_limits limits items entries bytes false true short few is more heavy = inr (lt_of limits.bytes bytes heavy, is.framed)
in_limits limits items entries bytes false false short few is more heavy =
    let asks = asks_of (take (entries - 1) items) + 1 in
    let over : nat_lt 4294967295 asks ≡ true = last_of (nat_lt limits.entries entries) (nat_lt limits.bytes bytes)
    (nat_lt 4294967295 asks) more heavy is.past in
    absurd (omega (arith, lt_of 4294967295 asks over, few_before (entries - 1) items, short, few))

-- a journal that ends before its ids do, at most so many items of it there
pub full_in : (limits : Limits) (items : List JournalItem) (entries bytes : ℕ) → length items ≤ limits.entries → limits.entries < 4294967295
    → was_full limits items entries bytes ≡ true → IsFullIn limits items entries bytes
full_in limits items entries bytes short few is =
    in_limits limits items entries bytes (nat_lt limits.entries entries) (nat_lt limits.bytes bytes) short few
    (read limits items entries bytes is) refl refl
