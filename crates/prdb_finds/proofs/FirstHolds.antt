-- The empty image holds the first registry, and no pairs.
use Rattle.std.proofs.Common.{◌≡◌, ℕ, ℤ, pos, negsuc, zero, suc, ◌+◌, ◌-◌, ◌*◌, ◌<◌, ◌≤◌, ◌⊎◌, inl, inr, ⊎_elim, Bool, true, false, ◌&&◌, eqb, cond, List, [], ◌∷◌, length, get_or, take, drop, refl, sym, ap, subst, ◌∙◌, arith}
use Rattle.std.specs.Prelude.{◌<ℤ◌}
use Rattle.std.specs.Int.{w32, from_be_bytes}
use Rattle.std.specs.List.{Contains}
use Rattle.std.proofs.lemmas.Bool.{and_parts, cases_eq, eqb-true, ne_eqb}
use Rattle.std.proofs.lemmas.Int.{ints}
use Rattle.std.proofs.lemmas.List.{drop-drop}
use Rattle.db_blocks.specs.Blocks.{block_in as any_block, IsWhole, word_at, kind_of}
use Rattle.db_chains.specs.declared.links.Links.{Links}
use Rattle.db_chains.specs.Chains.{HasChain}
use Rattle.db_chains.specs.Changes.{put_in, put_word}
use Rattle.db_chains.specs.Links.{is_right, next_place}
use Rattle.db_chains.specs.Visits.{Visits}
use Rattle.prdb_layout.specs.Blocks.{block_count, block_name}
use Rattle.db_blocks.specs.Bytes.{words, zeros}
use Rattle.db_chains.specs.Keys.{name_key}
use Rattle.prdb_layout.specs.Layout.{block_of, head_of, layout, numbers_of}
use Rattle.prdb_layout.specs.Records.{IsLaidOut, block_in, entry_in, whole as entries_whole}
use Rattle.prdb_layout.specs.Registry.{Registry, first_registry}
use Rattle.prdb_layout.specs.State.{PrEntry, fixed_entries, initial_state}
use Rattle.prdb_layout.proofs.Initial.{length-initial}
use Rattle.prdb_layout.proofs.LaidOut.{whole_same}
use Rattle.prdb_lists.specs.Layout.{AreLists, HoldsPairs}
use Rattle.prdb_lists.specs.Members.{Members, no_members}
use Rattle.prdb_lists.proofs.FirstPairs.{holds_none}
use Rattle.prdb_lists.proofs.ListFound.{whole_none}
use Rattle.prdb_finds.specs.Ends.{HoldsSome}
use Rattle.prdb_finds.specs.First.{first_image}
use Rattle.prdb_finds.specs.Keys.{id_key}
use Rattle.prdb_finds.specs.Places.{id_links, id_place, name_links, name_place, owned_links, owned_place}
use Rattle.prdb_finds.specs.Records.{AreChains, HasIdKey, HasNameKey, Holds, IsEntryAt, IsGroupOf, IsOwned, whole}
use Rattle.prdb_finds.specs.Unchained.{unchained}
use Rattle.prdb_finds.proofs.FirstChains.{first_len, first_unchained}
use Rattle.prdb_finds.proofs.Told.{empty_is, whole_same as image_same}
use Rattle.prdb_finds.proofs.Without.{unchained_entry, unchained_kind}

-- ---- its entries

kind_at : (k : ℕ) → k < 6 → kind_of (block_in (layout initial_state) k) ≡ 1
unfolding any_block layout head_of words zeros fixed_entries block_of numbers_of
kind_at zero below = refl
kind_at (suc zero) below = refl
kind_at (suc (suc zero)) below = refl
kind_at (suc (suc (suc zero))) below = refl
kind_at (suc (suc (suc (suc zero)))) below = refl
kind_at (suc (suc (suc (suc (suc zero))))) below = refl
kind_at (suc (suc (suc (suc (suc (suc k)))))) below = absurd (omega arith)

names : List ℕ
names = 230 ∷ 80 ∷ 59 ∷ 211 ∷ 85 ∷ 233 ∷ []

ids : List ℕ
ids = 155 ∷ 154 ∷ 53 ∷ 52 ∷ 51 ∷ 254 ∷ []

own : ℕ → ℤ
own k = get_or (negsuc 100 ∷ negsuc 101 ∷ negsuc 202 ∷ negsuc 203 ∷ negsuc 204 ∷ pos 32766 ∷ []) k (pos 0)

name_at : (k : ℕ) → k < 6 → name_key (entry_in (block_in (layout initial_state) k)).name ≡ get_or names k 0
unfolding names block_name any_block layout head_of words zeros fixed_entries block_of numbers_of
name_at zero below = refl
name_at (suc zero) below = refl
name_at (suc (suc zero)) below = refl
name_at (suc (suc (suc zero))) below = refl
name_at (suc (suc (suc (suc zero)))) below = refl
name_at (suc (suc (suc (suc (suc zero))))) below = refl
name_at (suc (suc (suc (suc (suc (suc k)))))) below = absurd (omega arith)

own_at : (k : ℕ) → k < 6 → (entry_in (block_in (layout initial_state) k)).id ≡ own k
unfolding own any_block layout head_of words zeros fixed_entries block_of numbers_of
own_at zero below = refl
own_at (suc zero) below = refl
own_at (suc (suc zero)) below = refl
own_at (suc (suc (suc zero))) below = refl
own_at (suc (suc (suc (suc zero)))) below = refl
own_at (suc (suc (suc (suc (suc zero))))) below = refl
own_at (suc (suc (suc (suc (suc (suc k)))))) below = absurd (omega arith)

id_at : (k : ℕ) → k < 6 → id_key (own k) ≡ get_or ids k 0
unfolding own ids
id_at zero below = refl
id_at (suc zero) below = refl
id_at (suc (suc zero)) below = refl
id_at (suc (suc (suc zero))) below = refl
id_at (suc (suc (suc (suc zero)))) below = refl
id_at (suc (suc (suc (suc (suc zero))))) below = refl
id_at (suc (suc (suc (suc (suc (suc k)))))) below = absurd (omega arith)

owner_at : (k : ℕ) → k < 6 → (entry_in (block_in (layout initial_state) k)).owner ≡ negsuc 203
unfolding any_block layout head_of words zeros fixed_entries block_of numbers_of
owner_at zero below = refl
owner_at (suc zero) below = refl
owner_at (suc (suc zero)) below = refl
owner_at (suc (suc (suc zero))) below = refl
owner_at (suc (suc (suc (suc zero)))) below = refl
owner_at (suc (suc (suc (suc (suc zero))))) below = refl
owner_at (suc (suc (suc (suc (suc (suc k)))))) below = absurd (omega arith)

-- five of them are groups
group_at : (k : ℕ) → k < 5 → own k <ℤ pos 0
unfolding own
group_at zero below = omega (arith, ints)
group_at (suc zero) below = omega (arith, ints)
group_at (suc (suc zero)) below = omega (arith, ints)
group_at (suc (suc (suc zero))) below = omega (arith, ints)
group_at (suc (suc (suc (suc zero)))) below = omega (arith, ints)
group_at (suc (suc (suc (suc (suc k))))) below = absurd (omega arith)

user_at : own 5 <ℤ pos 0 → ⊥
unfolding own
user_at is = omega (arith, ints, is)

no_owner : negsuc 203 ≡ pos 0 → ⊥
no_owner is = omega (arith, ints, is)

owner_three : own 3 ≡ negsuc 203
unfolding own
owner_three = refl

-- and one is the owner
owner_alone : (k : ℕ) → k < 6 → own k ≡ negsuc 203 → k ≡ 3
unfolding own
owner_alone zero below same = absurd (omega (arith, ints, same))
owner_alone (suc zero) below same = absurd (omega (arith, ints, same))
owner_alone (suc (suc zero)) below same = absurd (omega (arith, ints, same))
owner_alone (suc (suc (suc zero))) below same = refl
owner_alone (suc (suc (suc (suc zero)))) below same = absurd (omega (arith, ints, same))
owner_alone (suc (suc (suc (suc (suc zero))))) below same = absurd (omega (arith, ints, same))
owner_alone (suc (suc (suc (suc (suc (suc k)))))) below same = absurd (omega arith)

size : IsWhole 2112 (whole [])
size = omega (arith, first_len)

six : block_count (whole []) ≡ 6
six = omega (arith, first_len)

kind : (k : ℕ) → k < 6 → kind_of (block_in (whole []) k) ≡ 1
kind k below =
    sym (unchained_kind (whole []) k size (omega (arith, six)))
    ∙ ap (λ (i : List ℕ). kind_of (block_in i k)) first_unchained ∙ kind_at k below

entry : (k : ℕ) → k < 6 → entry_in (block_in (whole []) k) ≡ entry_in (block_in (layout initial_state) k)
entry k below =
    sym (unchained_entry (whole []) k size (omega (arith, six)) (kind k below))
    ∙ ap (λ (i : List ℕ). entry_in (block_in i k)) first_unchained

id_of : (k : ℕ) → k < 6 → (entry_in (block_in (whole []) k)).id ≡ own k
id_of k below = ap (λ (e : PrEntry). e.id) (entry k below) ∙ own_at k below

owner_of : (k : ℕ) → k < 6 → (entry_in (block_in (whole []) k)).owner ≡ negsuc 203
owner_of k below = ap (λ (e : PrEntry). e.owner) (entry k below) ∙ owner_at k below

-- ---- the first words of chains

-- the number of the entry that has a key, or 0
seat : (from : ℕ) → List ℕ → ℕ → ℕ
seat from [] key = 0
seat from (x ∷ xs) key = cond (eqb x key) (suc from) (seat (suc from) xs key)

abbrev HasSeat : (from key : ℕ) → List ℕ → (s : ℕ) → Type 0
HasSeat from key xs s = (i : ℕ) × (i < length xs) × (get_or xs i 0 ≡ key) × (s ≡ suc (from + i))

seat_step : (b : Bool) (x from key s : ℕ) (xs : List ℕ) → (b ≡ true → x ≡ key) → (s ≡ 0) ⊎ HasSeat (suc from) key xs s
    → (cond b (suc from) s ≡ 0) ⊎ HasSeat from key (x ∷ xs) (cond b (suc from) s)
seat_step true x from key s xs same later = inr (0, omega arith, same refl, omega arith)
seat_step false x from key s xs same later =
    ⊎_elim (λ (none : s ≡ 0). inl none)
    (λ (is : HasSeat (suc from) key xs s). inr (suc is.0, omega (arith, is.1), is.2, omega (arith, is.3))) later

seat_back : (from key : ℕ) (xs : List ℕ) → (seat from xs key ≡ 0) ⊎ HasSeat from key xs (seat from xs key)
unfolding seat
seat_back from key [] = inl refl
seat_back from key (x ∷ xs) =
    seat_step (eqb x key) x from key (seat (suc from) xs key) xs (eqb-true x key) (seat_back (suc from) key xs)

fits : (keys : List ℕ) (key n : ℕ) → List ℕ → Bool
fits keys key zero bytes = true
fits keys key (suc n) bytes = eqb (from_be_bytes w32 (take 4 bytes)) (seat 0 keys key) && fits keys (suc key) n (drop 4 bytes)

fits_word : (keys : List ℕ) (key n i : ℕ) (bytes : List ℕ) → fits keys key n bytes ≡ true → i < n
    → word_at bytes (4 * i) ≡ seat 0 keys (key + i)
unfolding fits
fits_word keys key zero i bytes is less = absurd (omega arith)
fits_word keys key (suc n) zero bytes is less =
    let p = and_parts (eqb (from_be_bytes w32 (take 4 bytes)) (seat 0 keys key)) (fits keys (suc key) n (drop 4 bytes)) is in
    let same : key ≡ key + 0 = omega arith in
    eqb-true (from_be_bytes w32 (take 4 bytes)) (seat 0 keys key) p.0 ∙ ap (seat 0 keys) same
fits_word keys key (suc n) (suc i) bytes is less =
    let p = and_parts (eqb (from_be_bytes w32 (take 4 bytes)) (seat 0 keys key)) (fits keys (suc key) n (drop 4 bytes)) is in
    let far : 4 * suc i ≡ 4 + 4 * i = omega arith in
    let same : suc key + i ≡ key + suc i = omega arith in
    ap (word_at bytes) far ∙ ap (λ (b : List ℕ). from_be_bytes w32 (take 4 b)) (sym (drop-drop (4 * i) 4 bytes))
    ∙ fits_word keys (suc key) n i (drop 4 bytes) p.1 (omega arith) ∙ ap (seat 0 keys) same

first_at : (keys : List ℕ) (at key : ℕ) → fits keys 0 256 (drop at (whole [])) ≡ true → key < 256
    → word_at (whole []) (at + 4 * key) ≡ seat 0 keys key
first_at keys at key is less =
    let same : 0 + key ≡ key = omega arith in
    ap (λ (b : List ℕ). from_be_bytes w32 (take 4 b)) (sym (drop-drop (4 * key) at (whole [])))
    ∙ fits_word keys 0 256 key (drop at (whole [])) is less ∙ ap (seat 0 keys) same

names_fit : fits names 0 256 (drop 64 (whole [])) ≡ true
unfolding fits seat names whole first_image put_in put_word layout head_of words zeros fixed_entries block_of numbers_of any_block
names_fit = refl

ids_fit : fits ids 0 256 (drop 1088 (whole [])) ≡ true
unfolding fits seat ids whole first_image put_in put_word layout head_of words zeros fixed_entries block_of numbers_of any_block
ids_fit = refl

name_seat : (k : ℕ) → k < 6 → seat 0 names (get_or names k 0) ≡ k + 1
unfolding seat names
name_seat zero below = refl
name_seat (suc zero) below = refl
name_seat (suc (suc zero)) below = refl
name_seat (suc (suc (suc zero))) below = refl
name_seat (suc (suc (suc (suc zero)))) below = refl
name_seat (suc (suc (suc (suc (suc zero))))) below = refl
name_seat (suc (suc (suc (suc (suc (suc k)))))) below = absurd (omega arith)

id_seat : (k : ℕ) → k < 6 → seat 0 ids (get_or ids k 0) ≡ k + 1
unfolding seat ids
id_seat zero below = refl
id_seat (suc zero) below = refl
id_seat (suc (suc zero)) below = refl
id_seat (suc (suc (suc zero))) below = refl
id_seat (suc (suc (suc (suc zero)))) below = refl
id_seat (suc (suc (suc (suc (suc zero))))) below = refl
id_seat (suc (suc (suc (suc (suc (suc k)))))) below = absurd (omega arith)

-- ---- the words of its blocks

right : (next k : ℕ) → k < 6 → is_right (record { head = 2112; mark = 1; next = next; step = 1; kinds = 1 }) (whole []) (k + 1) ≡ true
unfolding is_right whole first_image put_in put_word layout head_of words zeros fixed_entries block_of numbers_of any_block
right next zero below = refl
right next (suc zero) below = refl
right next (suc (suc zero)) below = refl
right next (suc (suc (suc zero))) below = refl
right next (suc (suc (suc (suc zero)))) below = refl
right next (suc (suc (suc (suc (suc zero))))) below = refl
right next (suc (suc (suc (suc (suc (suc k)))))) below = absurd (omega arith)

name_next : (k : ℕ) → k < 6 → word_at (whole []) (next_place name_links (k + 1)) ≡ 0
unfolding whole first_image put_in put_word layout head_of words zeros fixed_entries block_of numbers_of any_block
name_next zero below = refl
name_next (suc zero) below = refl
name_next (suc (suc zero)) below = refl
name_next (suc (suc (suc zero))) below = refl
name_next (suc (suc (suc (suc zero)))) below = refl
name_next (suc (suc (suc (suc (suc zero))))) below = refl
name_next (suc (suc (suc (suc (suc (suc k)))))) below = absurd (omega arith)

id_next : (k : ℕ) → k < 6 → word_at (whole []) (next_place id_links (k + 1)) ≡ 0
unfolding whole first_image put_in put_word layout head_of words zeros fixed_entries block_of numbers_of any_block
id_next zero below = refl
id_next (suc zero) below = refl
id_next (suc (suc zero)) below = refl
id_next (suc (suc (suc zero))) below = refl
id_next (suc (suc (suc (suc zero)))) below = refl
id_next (suc (suc (suc (suc (suc zero))))) below = refl
id_next (suc (suc (suc (suc (suc (suc k)))))) below = absurd (omega arith)

-- where the groups of an entry begin: those of one stand one behind the other, and no other one has any
owned_first : (k : ℕ) → k < 6 → word_at (whole []) (owned_place k) ≡ cond (eqb k 3) 5 0
unfolding whole first_image put_in put_word layout head_of words zeros fixed_entries block_of numbers_of any_block
owned_first zero below = refl
owned_first (suc zero) below = refl
owned_first (suc (suc zero)) below = refl
owned_first (suc (suc (suc zero))) below = refl
owned_first (suc (suc (suc (suc zero)))) below = refl
owned_first (suc (suc (suc (suc (suc zero))))) below = refl
owned_first (suc (suc (suc (suc (suc (suc k)))))) below = absurd (omega arith)

owned_next : (k : ℕ) → k < 5 → word_at (whole []) (next_place owned_links (k + 1)) ≡ k
unfolding whole first_image put_in put_word layout head_of words zeros fixed_entries block_of numbers_of any_block
owned_next zero below = refl
owned_next (suc zero) below = refl
owned_next (suc (suc zero)) below = refl
owned_next (suc (suc (suc zero))) below = refl
owned_next (suc (suc (suc (suc zero)))) below = refl
owned_next (suc (suc (suc (suc (suc k))))) below = absurd (omega arith)

user_next : word_at (block_in (whole []) 5) 104 ≡ 0
unfolding whole first_image put_in put_word layout head_of words zeros fixed_entries block_of numbers_of any_block
user_next = refl

no_free : word_at (whole []) 20 ≡ 0
unfolding whole first_image put_in put_word layout head_of words zeros fixed_entries block_of numbers_of any_block
no_free = refl

-- ---- chains of names and ids

one_at : (x w i : ℕ) → i < 1 → get_or (x ∷ []) i w ≡ w → w ≡ x
one_at x w zero less at = sym at
one_at x w (suc i) less at = absurd (omega arith)

is_entry : (holds : PrEntry → Type 0) (k : ℕ) → k < 6 → holds (entry_in (block_in (whole []) k)) → IsEntryAt (whole []) holds (k + 1)
is_entry holds k below is =
    let back : k ≡ k + 1 - 1 = omega arith in record {
      some = omega arith;
      within = omega (arith, six);
      kind = ap (λ (j : ℕ). kind_of (block_in (whole []) j)) (sym back) ∙ kind k below;
      belongs = subst (λ (j : ℕ). holds (entry_in (block_in (whole []) j))) back is;
    }

visited : (l : Links) (at key : ℕ) (keys : List ℕ) (holds : PrEntry → Type 0) → length keys ≡ 6 → word_at (whole []) at ≡ seat 0 keys key
    → ((k : ℕ) → k < 6 → is_right l (whole []) (k + 1) ≡ true) → ((k : ℕ) → k < 6 → word_at (whole []) (next_place l (k + 1)) ≡ 0)
    → ((k : ℕ) → k < 6 → get_or keys k 0 ≡ key → holds (entry_in (block_in (whole []) k)))
    → ((k : ℕ) → k < 6 → holds (entry_in (block_in (whole []) k)) → get_or keys k 0 ≡ key)
    → ((k : ℕ) → k < 6 → seat 0 keys (get_or keys k 0) ≡ k + 1) → Visits l (whole []) at (IsEntryAt (whole []) holds)
visited l at key keys holds len first rights nexts there back seats =
    let seated : (w : ℕ) → IsEntryAt (whole []) holds w → seat 0 keys key ≡ w - 1 + 1 =
    λ w is.
    let less : w - 1 < 6 = omega (arith, is.some, is.within, six) in
    ap (seat 0 keys) (sym (back (w - 1) less is.belongs)) ∙ seats (w - 1) less in
    ⊎_elim
    (λ (none : seat 0 keys key ≡ 0). record {
      words = [];
      chain = first ∙ none;
      only = λ w has. absurd (omega (arith, has.1));
      each = λ w is. absurd (omega (arith, seated w is, none));
    })
    (λ (one : HasSeat 0 key keys (seat 0 keys key)).
    let i = one.0 in
    let less : i < 6 = omega (arith, one.1, len) in
    let here : seat 0 keys key ≡ i + 1 = omega (arith, one.3) in
    record {
      words = (i + 1) ∷ [];
      chain = (first ∙ here, rights i less, nexts i less);
      only = λ w has. subst (IsEntryAt (whole []) holds) (sym (one_at (i + 1) w has.0 has.1 has.2)) (is_entry holds i less
          (there i less one.2));
      each = λ w is. let same : i + 1 ≡ w = omega (arith, seated w is, here, is.some) in (0, omega arith, same);
    })
    (seat_back 0 key keys)

name_of : (k : ℕ) → k < 6 → name_key (entry_in (block_in (whole []) k)).name ≡ get_or names k 0
name_of k below = ap (λ (e : PrEntry). name_key e.name) (entry k below) ∙ name_at k below

six_names : length names ≡ 6
unfolding names
six_names = refl

names_visited : (key : ℕ) → key < 256 → Visits name_links (whole []) (name_place key) (IsEntryAt (whole []) (HasNameKey key))
names_visited key low =
    visited name_links (name_place key) key names (HasNameKey key) six_names (first_at names 64 key names_fit low) (right 96) name_next
    (λ k below same. name_of k below ∙ same) (λ k below same. sym (name_of k below) ∙ same) name_seat

key_of : (k : ℕ) → k < 6 → id_key (entry_in (block_in (whole []) k)).id ≡ get_or ids k 0
key_of k below = ap id_key (id_of k below) ∙ id_at k below

six_ids : length ids ≡ 6
unfolding ids
six_ids = refl

ids_visited : (key : ℕ) → key < 256 → Visits id_links (whole []) (id_place key) (IsEntryAt (whole []) (HasIdKey key))
ids_visited key low =
    visited id_links (id_place key) key ids (HasIdKey key) six_ids (first_at ids 1088 key ids_fit low) (right 100) id_next
    (λ k below same. key_of k below ∙ same) (λ k below same. sym (key_of k below) ∙ same) id_seat

-- ---- chains of owners

five_at : (w i : ℕ) → i < 5 → get_or (5 ∷ 4 ∷ 3 ∷ 2 ∷ 1 ∷ []) i w ≡ w → (0 < w) × (w ≤ 5)
five_at w zero less at = (omega arith, omega arith)
five_at w (suc zero) less at = (omega arith, omega arith)
five_at w (suc (suc zero)) less at = (omega arith, omega arith)
five_at w (suc (suc (suc zero))) less at = (omega arith, omega arith)
five_at w (suc (suc (suc (suc zero)))) less at = (omega arith, omega arith)
five_at w (suc (suc (suc (suc (suc i))))) less at = absurd (omega arith)

among_five : (w : ℕ) → 0 < w → w ≤ 5 → Contains (5 ∷ 4 ∷ 3 ∷ 2 ∷ 1 ∷ []) w
among_five zero some most = absurd (omega arith)
among_five (suc zero) some most = (4, omega arith, refl)
among_five (suc (suc zero)) some most = (3, omega arith, refl)
among_five (suc (suc (suc zero))) some most = (2, omega arith, refl)
among_five (suc (suc (suc (suc zero)))) some most = (1, omega arith, refl)
among_five (suc (suc (suc (suc (suc zero))))) some most = (0, omega arith, refl)
among_five (suc (suc (suc (suc (suc (suc w)))))) some most = absurd (omega arith)

-- an entry that an id owns is one of five groups, and the id is that of their owner
owned_is : (k w : ℕ) → k < 6 → IsEntryAt (whole []) (IsGroupOf (entry_in (block_in (whole []) k)).id) w → (w ≤ 5) × (k ≡ 3)
owned_is k w below is =
    let j = w - 1 in
    let less : j < 6 = omega (arith, is.some, is.within, six) in
    let small : own j <ℤ pos 0 = subst (λ (z : ℤ). z <ℤ pos 0) (id_of j less) is.belongs.0 in
    let owner : own k ≡ negsuc 203 = sym (id_of k below) ∙ sym is.belongs.1 ∙ owner_of j less in (
      ⊎_elim (λ (last : j ≡ 5). absurd (user_at (subst (λ (n : ℕ). own n <ℤ pos 0) last small)))
          (λ (other : j ≡ 5 → ⊥). omega (arith, less, other))
          (cases_eq j 5),
      owner_alone k below owner,
    )

is_group : (k : ℕ) → k < 5 → (entry_in (block_in (whole []) k)).id <ℤ pos 0
is_group k below =
    let less : k < 6 = omega arith in subst (λ (z : ℤ). z <ℤ pos 0) (sym (id_of k less)) (group_at k below)

group_of : (w : ℕ) → 0 < w → w ≤ 5 → IsEntryAt (whole []) (IsGroupOf (entry_in (block_in (whole []) 3)).id) w
group_of w some most =
    let less : w - 1 < 5 = omega arith in
    let below : w - 1 < 6 = omega arith in
    let same : w - 1 + 1 ≡ w = omega arith in
    let in_six : 3 < 6 = omega arith in
    subst (IsEntryAt (whole []) (IsGroupOf (entry_in (block_in (whole []) 3)).id)) same
    (is_entry (IsGroupOf (entry_in (block_in (whole []) 3)).id) (w - 1) below
    (is_group (w - 1) less, owner_of (w - 1) below ∙ sym (id_of 3 in_six ∙ owner_three)))

owned_behind : HasChain owned_links (whole []) (next_place owned_links 5) (4 ∷ 3 ∷ 2 ∷ 1 ∷ [])
owned_behind =
    let last : HasChain owned_links (whole []) (next_place owned_links 2) (1 ∷ []) =
    (owned_next 1 (omega arith), right 104 0 (omega arith), owned_next 0 (omega arith)) in
    let third : HasChain owned_links (whole []) (next_place owned_links 3) (2 ∷ 1 ∷ []) =
    (owned_next 2 (omega arith), right 104 1 (omega arith), last) in
    let second : HasChain owned_links (whole []) (next_place owned_links 4) (3 ∷ 2 ∷ 1 ∷ []) =
    (owned_next 3 (omega arith), right 104 2 (omega arith), third) in
    (owned_next 4 (omega arith), right 104 3 (omega arith), second)

owned_visited : (k : ℕ) → k < 6
    → Visits owned_links (whole []) (owned_place k) (IsEntryAt (whole []) (IsGroupOf (entry_in (block_in (whole []) k)).id))
owned_visited k below =
    ⊎_elim
    (λ (same : k ≡ 3).
    subst
    (λ (j : ℕ). Visits owned_links (whole []) (owned_place j) (IsEntryAt (whole []) (IsGroupOf (entry_in (block_in (whole []) j)).id)))
    (sym same) (record {
      words = 5 ∷ 4 ∷ 3 ∷ 2 ∷ 1 ∷ [];
      chain = (owned_first 3 (omega arith), right 104 4 (omega arith), owned_behind);
      only = λ w has. let f = five_at w has.0 has.1 has.2 in group_of w f.0 f.1;
      each = λ w is. among_five w is.some (owned_is 3 w (omega arith) is).0;
    }))
    (λ (other : k ≡ 3 → ⊥). record {
      words = [];
      chain = owned_first k below ∙ ap (λ (b : Bool). cond b 5 0) (ne_eqb k 3 other);
      only = λ w has. absurd (omega (arith, has.1));
      each = λ w is. absurd (other (owned_is k w below is).1);
    })
    (cases_eq k 3)

unused_at : (k : ℕ) → k < 6 → ¬ IsOwned (entry_in (block_in (whole []) k)) → word_at (block_in (whole []) k) 104 ≡ 0
unused_at k below not =
    ⊎_elim (λ (last : k ≡ 5). ap (λ (j : ℕ). word_at (block_in (whole []) j) 104) last ∙ user_next)
    (λ (other : k ≡ 5 → ⊥).
    let less : k < 5 = omega (arith, below, other) in
    absurd (not (is_group k less, λ none. no_owner (sym (owner_of k below) ∙ none))))
    (cases_eq k 5)

-- ---- the image

chains : AreChains (whole [])
chains = record {
  names = names_visited;
  ids = ids_visited;
  owned = λ k below kind_is. owned_visited k (omega (arith, below, six));
  unused = λ k below kind_is not. unused_at k (omega (arith, below, six)) not;
  free = record {
    words = [];
    chain = no_free;
    ascending = tt;
    each = λ k below free. absurd (omega (arith, free, kind k (omega (arith, below, six))));
  };
}

pairs_laid : (r : Registry) (m : Members) → HoldsPairs [] r m → HoldsPairs (layout initial_state) r m
pairs_laid r m holds =
    let same : entries_whole [] ≡ entries_whole (layout initial_state) =
    whole_none ∙ sym (whole_same (layout initial_state) (omega (arith, length-initial))) in
    record {
      holds = record {
        valid = holds.holds.valid;
        laid = subst (λ (i : List ℕ). IsLaidOut i r) same holds.holds.laid;
      };
      valid = holds.valid;
      lists = holds.lists;
      are = subst (λ (i : List ℕ). AreLists i r holds.lists) same holds.are;
      each = holds.each;
      all = holds.all;
    }

pub empty_holds : Holds [] first_registry no_members
empty_holds = record {
  size = size;
  pairs = subst (λ (i : List ℕ). HoldsPairs i first_registry no_members) (sym first_unchained) (pairs_laid first_registry no_members
      holds_none);
  chains = chains;
}

-- ---- what the empty image holds, the first one holds

pub first_held : (image : List ℕ) (r : Registry) (m : Members) → length image ≡ 0 → Holds image r m → Holds (whole []) r m
first_held image r m none holds =
    let here : whole image ≡ whole (whole []) =
    ap whole (empty_is image none) ∙ sym (image_same (whole []) (omega (arith, first_len))) in
    record {
      size = subst (λ (i : List ℕ). IsWhole 2112 i) here holds.size;
      pairs = subst (λ (i : List ℕ). HoldsPairs (unchained i) r m) here holds.pairs;
      chains = subst AreChains here holds.chains;
    }

pub first_holds : Holds (whole []) first_registry no_members
first_holds = first_held [] first_registry no_members refl empty_holds

pub first_some : HoldsSome (whole [])
first_some = (first_registry, no_members, first_holds)
