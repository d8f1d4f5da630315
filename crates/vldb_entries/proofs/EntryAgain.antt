-- An entry is read again from the block that it was written into.
use Rattle.std.proofs.Common.{◌≡◌, ℕ, zero, suc, ◌+◌, ◌-◌, ◌^◌, ◌<◌, ◌≤◌, Bool, true, false, eqb, ◌&&◌, List, [], ◌∷◌, ◌++◌, length, get_or, take, drop, map, nat_le, min, refl, sym, ap, subst, ◌∙◌, append_assoc, add-one, inl, inr, arith}
use Rattle.std.specs.List.{All, Contains, flat_map, list_all, position_or_len, range_with_len}
use Rattle.std.proofs.Math.Dec.{eqb-suc-zero}
use Rattle.std.proofs.lemmas.Bool.{and_parts, cases_lt, eqb-true, eq-eqb, leb-true}
use Rattle.std.proofs.lemmas.List.{take_at, drop_at, length-append, length-map, length-take, get_or-map, get_or-drop, get_or_append_left, get_or-append_right}
use Rattle.std.proofs.lemmas.List.Elements.{at_from_Contains}
use Rattle.std.proofs.lemmas.List.FromFn.{fill_by_all, length-range_with_len}
use Rattle.std.proofs.lemmas.List.Sums.{position_or_len_is, passes_at_first, fails_before_first}
use Rattle.std.proofs.lemmas.Nat.{from_be_bytes-to_be_bytes_4}
use Rattle.db_blocks.specs.Blocks.{word_at, kind_of}
use Rattle.db_blocks.proofs.Maps.{test_other}
use Rattle.db_blocks.specs.Bytes.{word, words, zeros, filled}
use Rattle.db_blocks.proofs.Lengths.{length-zeros}
use Rattle.vldb_entries.specs.declared.entries.VlEntry.{VlEntry}
use Rattle.vldb_entries.specs.declared.entries.VlSite.{VlSite}
use Rattle.vldb_entries.specs.Location.{is_name_byte, is_name, IsRecord, IsSmall}
use Rattle.vldb_entries.specs.Forms.{block_of, entry_in, name_in, numbers_of, place_of, site_in}

-- ---- the fields behind the numbers

abbrev behind_numbers : (a n p q f z : List ℕ) → List ℕ
behind_numbers a n p q f z = a ++ n ++ p ++ q ++ f ++ z

record Cut (a n p q f z : List ℕ) : Type 0 where
  name : take 64 (drop 52 (behind_numbers a n p q f z)) ≡ n
  places : drop 116 (behind_numbers a n p q f z) ≡ p ++ (q ++ (f ++ z))
  partitions : drop 129 (behind_numbers a n p q f z) ≡ q ++ (f ++ z)
  flags : drop 142 (behind_numbers a n p q f z) ≡ f ++ z

cut : (a n p q f z : List ℕ) → length a ≡ 52 → length n ≡ 64 → length p ≡ 13 → length q ≡ 13 → Cut a n p q f z
cut a n p q f z la ln lp lq =
    let one : behind_numbers a n p q f z ≡ a ++ (n ++ (p ++ (q ++ (f ++ z)))) = simp append_assoc in
    let two : behind_numbers a n p q f z ≡ (a ++ n) ++ (p ++ (q ++ (f ++ z))) = simp append_assoc in
    let three : behind_numbers a n p q f z ≡ (a ++ n ++ p) ++ (q ++ (f ++ z)) = simp append_assoc in
    let four : behind_numbers a n p q f z ≡ (a ++ n ++ p ++ q) ++ (f ++ z) = simp append_assoc in
    let len2 : length (a ++ n) ≡ 116 = omega (arith, length-append a n) in
    let len3 : length (a ++ n ++ p) ≡ 129 = omega (arith, length-append (a ++ n) p) in
    let len4 : length (a ++ n ++ p ++ q) ≡ 142 = omega (arith, length-append (a ++ n ++ p) q) in
    record {
      name =
          ap (λ (b : List ℕ). take 64 (drop 52 b)) one ∙ ap (take 64) (drop_at a (n ++ (p ++ (q ++ (f ++ z)))) 52 la)
          ∙ take_at n (p ++ (q ++ (f ++ z))) 64 ln;
      places = ap (drop 116) two ∙ drop_at (a ++ n) (p ++ (q ++ (f ++ z))) 116 len2;
      partitions = ap (drop 129) three ∙ drop_at (a ++ n ++ p) (q ++ (f ++ z)) 129 len3;
      flags = ap (drop 142) four ∙ drop_at (a ++ n ++ p ++ q) (f ++ z) 142 len4;
    }

length-filled : (len : ℕ) (bytes : List ℕ) → length bytes ≤ len → length (filled len bytes) ≡ len
length-filled len bytes short = omega (arith, length-append bytes (zeros (len - length bytes)), length-zeros (len - length bytes))

-- a byte of a field
in_field : (xs rest : List ℕ) (k : ℕ) → k < length xs → get_or (filled 13 xs ++ rest) k 0 ≡ get_or xs k 0
in_field xs rest k lt =
    get_or_append_left (filled 13 xs) rest 0 k (omega (arith, length-append xs (zeros (13 - length xs))))
    ∙ get_or_append_left xs (zeros (13 - length xs)) 0 k lt

abbrev front : VlEntry → List ℕ
front e = words (numbers_of e) ++ zeros 16

length-front : (e : VlEntry) → length (front e) ≡ 52
unfolding words
length-front e =
    let numbers : length (flat_map word (numbers_of e)) ≡ 36 = refl in
    omega (arith, length-append (flat_map word (numbers_of e)) (zeros 16), length-zeros 16)

abbrev places : List ℕ → VlEntry → List ℕ
places addresses e = map (λ site. place_of addresses site.host) e.sites

cut_of : (addresses : List ℕ) (e : VlEntry) → length e.name ≤ 64 → length e.sites ≤ 13
    → Cut (front e) (filled 64 e.name) (filled 13 (places addresses e)) (filled 13 (map (λ site. site.partition) e.sites))
    (filled 13 (map (λ site. site.flags) e.sites)) (zeros 37)
cut_of addresses e name count =
    cut (front e) (filled 64 e.name) (filled 13 (map (λ site. place_of addresses site.host) e.sites))
    (filled 13 (map (λ site. site.partition) e.sites)) (filled 13 (map (λ site. site.flags) e.sites)) (zeros 37)
    (length-front e) (length-filled 64 e.name name)
    (length-filled 13 (map (λ site. place_of addresses site.host) e.sites)
    (omega (arith, length-map e.sites (λ site. place_of addresses site.host))))
    (length-filled 13 (map (λ site. site.partition) e.sites) (omega (arith, length-map e.sites (λ site. site.partition))))

-- ---- the name

zero_at : (k i : ℕ) → get_or (zeros k) i 0 ≡ 0
unfolding zeros
zero_at zero i = refl
zero_at (suc k) zero = refl
zero_at (suc k) (suc i) = zero_at k i

pub not_zero : (b : ℕ) → 0 < b → eqb b 0 ≡ false
not_zero zero more = absurd (omega arith)
not_zero (suc b) more = eqb-suc-zero b

text_end : (name : List ℕ) (k : ℕ) → ((i : ℕ) → i < length name → 0 < get_or name i 0)
    → position_or_len (λ b. eqb b 0) (name ++ zeros k) ≡ length name
text_end name k text =
    position_or_len_is (λ b. eqb b 0) (name ++ zeros k) (length name) 0 (omega (arith, length-append name (zeros k)))
    (λ i lt. rw (get_or_append_left name (zeros k) 0 i lt) (not_zero (get_or name i 0) (text i lt)))
    (λ lt. eq-eqb (get_or (name ++ zeros k) (length name) 0) 0
    (get_or-append_right name (zeros k) (length name) (length name) 0 refl (omega arith) ∙ zero_at k (length name - length name)))

all_pass : (test : ℕ → Bool) (xs : List ℕ) → list_all test xs ≡ true → (i : ℕ) → i < length xs → test (get_or xs i 0) ≡ true
all_pass test [] all i lt = absurd (omega arith)
all_pass test (x ∷ xs) all zero lt = (and_parts (test x) (list_all test xs) all).0
all_pass test (x ∷ xs) all (suc i) lt = all_pass test xs (and_parts (test x) (list_all test xs) all).1 i (omega arith)

byte_low : (b : ℕ) → is_name_byte b ≡ true → 0 < b
byte_low zero e = absurd cc
byte_low (suc b) e = omega arith

pub name_text : (name : List ℕ) → is_name name ≡ true → (i : ℕ) → i < length name → 0 < get_or name i 0
unfolding is_name
name_text name good i lt =
    let bytes = (and_parts (nat_le 1 (length name) && nat_le (length name) 64) (list_all is_name_byte name) good).1 in
    byte_low (get_or name i 0) (all_pass is_name_byte name bytes i lt)

pub name_len : (name : List ℕ) → is_name name ≡ true → length name ≤ 64
unfolding is_name
name_len name good =
    let sizes = (and_parts (nat_le 1 (length name) && nat_le (length name) 64) (list_all is_name_byte name) good).0 in
    leb-true _ _ (and_parts (nat_le 1 (length name)) (nat_le (length name) 64) sizes).1

pub name_again : (addresses : List ℕ) (e : VlEntry) → IsRecord e → name_in (block_of addresses e) ≡ e.name
unfolding name_in block_of
name_again addresses e is =
    let c = cut_of addresses e (name_len e.name is.name) is.count in
    let zs = zeros (64 - length e.name) in
    ap (λ (f : List ℕ). take (position_or_len (λ b. eqb b 0) f) f) c.name
    ∙ ap (λ (n : ℕ). take n (e.name ++ zs)) (text_end e.name (64 - length e.name) (name_text e.name is.name))
    ∙ take_at e.name zs (length e.name) refl

-- ---- the numbers

pub kind_again : (addresses : List ℕ) (e : VlEntry) → kind_of (block_of addresses e) ≡ 1
unfolding block_of words
kind_again addresses e = refl

flags_again : (addresses : List ℕ) (e : VlEntry) → e.flags < 2 ^ 32 → word_at (block_of addresses e) 4 ≡ e.flags
unfolding block_of words
flags_again addresses e fits = from_be_bytes-to_be_bytes_4 e.flags fits

pub rw_again : (addresses : List ℕ) (e : VlEntry) → e.rw < 2 ^ 32 → word_at (block_of addresses e) 8 ≡ e.rw
unfolding block_of words
rw_again addresses e fits = from_be_bytes-to_be_bytes_4 e.rw fits

pub ro_again : (addresses : List ℕ) (e : VlEntry) → e.ro < 2 ^ 32 → word_at (block_of addresses e) 12 ≡ e.ro
unfolding block_of words
ro_again addresses e fits = from_be_bytes-to_be_bytes_4 e.ro fits

pub backup_again : (addresses : List ℕ) (e : VlEntry) → e.backup < 2 ^ 32 → word_at (block_of addresses e) 16 ≡ e.backup
unfolding block_of words
backup_again addresses e fits = from_be_bytes-to_be_bytes_4 e.backup fits

clone_again : (addresses : List ℕ) (e : VlEntry) → e.clone_id < 2 ^ 32 → word_at (block_of addresses e) 20 ≡ e.clone_id
unfolding block_of words
clone_again addresses e fits = from_be_bytes-to_be_bytes_4 e.clone_id fits

op_again : (addresses : List ℕ) (e : VlEntry) → e.lock_op < 2 ^ 32 → word_at (block_of addresses e) 24 ≡ e.lock_op
unfolding block_of words
op_again addresses e fits = from_be_bytes-to_be_bytes_4 e.lock_op fits

moment_again : (addresses : List ℕ) (e : VlEntry) → e.lock_moment < 2 ^ 32 → word_at (block_of addresses e) 28 ≡ e.lock_moment
unfolding block_of words
moment_again addresses e fits = from_be_bytes-to_be_bytes_4 e.lock_moment fits

count_again : (addresses : List ℕ) (e : VlEntry) → length e.sites < 2 ^ 32 → word_at (block_of addresses e) 32 ≡ length e.sites
unfolding block_of words
count_again addresses e fits = from_be_bytes-to_be_bytes_4 (length e.sites) fits

-- ---- the sites

-- a server that has a place is found there
place_again : (addresses : List ℕ) (host : ℕ) → Contains addresses host → get_or (0 ∷ addresses) (place_of addresses host) 0 ≡ host
unfolding place_of
place_again addresses host among =
    let at = at_from_Contains addresses host among in
    let here : get_or addresses at.0 0 ≡ host = at.2 0 in
    let test : ℕ → Bool = λ a. eqb a host in
    elim (cases_lt (position_or_len test addresses) (length addresses)) [
      | inl lt ↦ rw (test_other (position_or_len test addresses) (length addresses) (λ same. omega (arith, same, lt)), add-one)
          (eqb-true (get_or addresses (position_or_len test addresses) 0) host (passes_at_first test addresses 0 lt))
      | inr le ↦ let fails : eqb (get_or addresses at.0 0) host ≡ false = fails_before_first test addresses at.0 0 (omega (arith, at.1)) in
          let passes : eqb (get_or addresses at.0 0) host ≡ true = eq-eqb (get_or addresses at.0 0) host here in absurd cc
    ]

abbrev no_site : VlSite
no_site = record { host = 0; partition = 0; flags = 0 }

site_again : (addresses : List ℕ) (e : VlEntry) (k : ℕ) → IsRecord e → All (λ site. Contains addresses site.host) e.sites
    → k < length e.sites
    → site_in addresses (block_of addresses e) k ≡ get_or e.sites k no_site
unfolding block_of
site_again addresses e k is hosts lt =
    let c = cut_of addresses e (name_len e.name is.name) is.count in
    let block = block_of addresses e in
    let site = get_or e.sites k no_site in
    let place : get_or block (116 + k) 0 ≡ place_of addresses site.host =
    sym (get_or-drop 116 block k 0) ∙ ap (λ (b : List ℕ). get_or b k 0) c.places
    ∙ in_field (places addresses e) _ k (omega (arith, length-map e.sites (λ site. place_of addresses site.host)))
    ∙ get_or-map (λ site. place_of addresses site.host) e.sites k no_site 0 lt in
    let partition : get_or block (129 + k) 0 ≡ site.partition =
    sym (get_or-drop 129 block k 0) ∙ ap (λ (b : List ℕ). get_or b k 0) c.partitions
    ∙ in_field (map (λ site. site.partition) e.sites) _ k (omega (arith, length-map e.sites (λ site. site.partition)))
    ∙ get_or-map (λ site. site.partition) e.sites k no_site 0 lt in
    let flags : get_or block (142 + k) 0 ≡ site.flags =
    sym (get_or-drop 142 block k 0) ∙ ap (λ (b : List ℕ). get_or b k 0) c.flags
    ∙ in_field (map (λ site. site.flags) e.sites) _ k (omega (arith, length-map e.sites (λ site. site.flags)))
    ∙ get_or-map (λ site. site.flags) e.sites k no_site 0 lt in
    let host : get_or (0 ∷ addresses) (get_or block (116 + k) 0) 0 ≡ site.host =
    ap (λ (n : ℕ). get_or (0 ∷ addresses) n 0) place ∙ place_again addresses site.host (hosts k no_site lt) in
    rw (host, partition, flags) refl

sites_again : (addresses : List ℕ) (e : VlEntry) → IsRecord e → All (λ site. Contains addresses site.host) e.sites
    → map (site_in addresses (block_of addresses e)) (range_with_len 0 (min 13 (word_at (block_of addresses e) 32))) ≡ e.sites
sites_again addresses e is hosts =
    let count : min 13 (length e.sites) ≡ length e.sites = omega (arith, is.count) in
    rw (count_again addresses e (omega (arith, is.count)), count)
    (sym (fill_by_all (site_in addresses (block_of addresses e)) e.sites (length e.sites) no_site refl
    (λ k lt. sym (site_again addresses e k is hosts lt))))

pub entry_again : (addresses : List ℕ) (e : VlEntry) → IsRecord e → All (λ site. Contains addresses site.host) e.sites
    → entry_in addresses (block_of addresses e) ≡ e
unfolding entry_in
entry_again addresses e is hosts =
    let name = name_again addresses e is in
    let flags = flags_again addresses e is.flags in
    let rw_id = rw_again addresses e (omega (arith, is.rw)) in
    let ro = ro_again addresses e (omega (arith, is.ro)) in
    let backup = backup_again addresses e (omega (arith, is.backup)) in
    let clone = clone_again addresses e (omega (arith, is.clone)) in
    let sites = sites_again addresses e is hosts in
    let op = op_again addresses e is.lock_op in
    let moment = moment_again addresses e is.lock_moment in
    rw (name, flags, rw_id, ro, backup, clone, sites, op, moment) refl

pub length-block : (addresses : List ℕ) (e : VlEntry) → IsRecord e → length (block_of addresses e) ≡ 192
unfolding block_of
length-block addresses e is =
    let a = front e in
    let n = filled 64 e.name in
    let p = filled 13 (map (λ site. place_of addresses site.host) e.sites) in
    let q = filled 13 (map (λ site. site.partition) e.sites) in
    let f = filled 13 (map (λ site. site.flags) e.sites) in
    omega (
      arith,
      length-append (a ++ n ++ p ++ q ++ f) (zeros 37),
      length-append (a ++ n ++ p ++ q) f,
      length-append (a ++ n ++ p) q,
      length-append (a ++ n) p,
      length-append a n,
      length-zeros 37,
      length-front e,
      length-filled 64 e.name (name_len e.name is.name),
      length-filled 13 (map (λ site. place_of addresses site.host) e.sites)
          (omega (arith, is.count, length-map e.sites (λ site. place_of addresses site.host))),
      length-filled 13 (map (λ site. site.partition) e.sites) (omega (arith, is.count, length-map e.sites (λ site. site.partition))),
      length-filled 13 (map (λ site. site.flags) e.sites) (omega (arith, is.count, length-map e.sites (λ site. site.flags))),
    )

-- ---- what is read of a block has a place in one

small_in : (addresses block : List ℕ) → IsSmall (entry_in addresses block)
unfolding entry_in name_in
small_in addresses block =
    let field = take 64 (drop 52 block) in
    let end = position_or_len (λ b. eqb b 0) field in
    let count = min 13 (word_at block 32) in (
      omega (arith, length-take end field, length-take 64 (drop 52 block)),
      omega (arith, length-map (range_with_len 0 count) (site_in addresses block), length-range_with_len 0 count),
    )

pub entry_small : (addresses block : List ℕ) (e : VlEntry) → e ≡ entry_in addresses block → IsSmall e
entry_small addresses block e is = subst IsSmall (sym is) (small_in addresses block)
