-- What a walk along a chain found is what the database has.
use Rattle.std.proofs.Common.{◌≡◌, ◌≢◌, ℕ, zero, suc, ◌+◌, ◌-◌, ◌*◌, ◌/◌, ◌%◌, ◌<◌, ◌≤◌, ⊎_elim, Bool, true, false, eqb, cond, not, List, [], ◌∷◌, Option, Some, None, IfSome, Result, Ok, Err, IfOk, length, get_or, refl, sym, ap, subst, ◌∙◌, arith}
use Rattle.std.specs.Prelude.{◌||◌}
use Rattle.std.specs.Str.{bytes_eq}
use Rattle.std.specs.List.{Contains}
use Rattle.std.proofs.lemmas.Bool.{and_parts, cases_Bool, or_cases, eq-eqb, eqb-true, not-true}
use Rattle.std.proofs.lemmas.Slice.Eq.{bytes_eq-Decides}
use Rattle.std.specs.Option.{option_map}
use Rattle.db_image.specs.Asked.{AsksAtMost}
use Rattle.db_image.specs.Draft.{Drafted}
use Rattle.db_image.specs.declared.images.ImageRead.{Ghosts}
use Rattle.db_image.proofs.ReadSteps.{asks_none, asks_then}
use Rattle.db_image.specs.declared.faults.RecordFault.{RecordFault}
use Rattle.db_image.specs.declared.faults.RecordFault.TheVariants.{DiskFault, BadRecord, NoMemory}
use Rattle.db_blocks.specs.Blocks.{block_count, block_in, block_place, word_at, kind_of}
use Rattle.db_blocks.specs.Ends.{HasCause}
use Rattle.db_chains.specs.declared.links.Links.{Links}
use Rattle.db_chains.specs.declared.walks.Link.{Link}
use Rattle.db_chains.specs.Chains.{HasChain}
use Rattle.db_chains.specs.Changes.{IsPlaced}
use Rattle.db_chains.specs.Ends.{CostsAtMost, HasSome}
use Rattle.db_chains.specs.Free.{IsNumber}
use Rattle.db_chains.specs.Links.{AreLinks, block_of}
use Rattle.db_chains.specs.Walks.{IsFound, first_met, meets, most_words, passed, place_behind, stop_place}
use Rattle.db_chains.proofs.Words.{right_names}
use Rattle.vldb_chains.specs.Keys.{id_chain, id_key, name_chain}
use Rattle.vldb_chains.specs.Places.{free_blocks, id_links, name_links}
use Rattle.vldb_entries.specs.declared.entries.VlEntry.{VlEntry}
use Rattle.vldb_entries.specs.Location.{Location, IsNamed, IsOfId, first_location, has_id}
use Rattle.vldb_entries.specs.Forms.{addresses_in, block_at, blocks_in, entry_in, has_id_in, has_name, head_of, name_in, whole, block_of as form_of}
use Rattle.vldb_entries.proofs.EntryAgain.{backup_again, entry_again, kind_again, name_again, ro_again, rw_again}
use Rattle.vldb_records.specs.Records.{Holds, IsBlockOf, IsFree, IsLaidOut, id_of, unlinked}
use Rattle.vldb_records.specs.Ends.{HoldsSome}
use Rattle.db_chains.specs.Sought.{EndsChain, IsInChain}
use Rattle.db_chains.specs.Keys.{name_key}
use Rattle.vldb_records.specs.Sought.{IsRead}
use Rattle.vldb_records.proofs.Fields.{block_len, entry_stays, free_kind, name_stays, number_stays}
use Rattle.vldb_entries.proofs.HeadRead.{whole_empty, whole_same}
use Rattle.vldb_records.proofs.Empty.{first_word}
use Rattle.vldb_records.proofs.HeadTold.{laid_addresses, no_words, none_in}

-- ---- the block of an entry

-- the entry of a block that is one's
pub block_entry : (image : List ℕ) (s : Location) (k : ℕ) → IsLaidOut image s → k < blocks_in image → kind_of (block_at image k) ≡ 1
    → (e : VlEntry) × IsBlockOf s e (block_at image k)
block_entry image s k laid below kind =
    ⊎_elim
    (λ (free : IsFree (block_at image k)). absurd (omega (
      arith,
      kind,
      free_kind (block_at image k)
          (block_len image k laid.size below) free,
    )))
    (λ (found : (e : VlEntry) × IsBlockOf s e (block_at image k)). found)
    (laid.blocks k below)

-- the entry that was read of a block is the database's
pub record IsThere (s : Location) (bytes : List ℕ) (found : VlEntry) : Type 0 where
  pub there : s.entry found.rw ≡ Some found
  pub block : unlinked bytes ≡ form_of s.addresses found
  pub size : length bytes ≡ 192

pub is_there : (image : List ℕ) (s : Location) (k : ℕ) (block : List ℕ) (found : VlEntry) → Holds image s → k < blocks_in (whole image)
    → block ≡ block_at (whole image) k → kind_of block ≡ 1 → found ≡ entry_in (addresses_in (whole image)) block → IsThere s block found
is_there image s k block found holds below at kind here =
    let e = block_entry (whole image) s k holds.laid below (ap kind_of (sym at) ∙ kind) in
    let size : length block ≡ 192 = ap length at ∙ block_len (whole image) k holds.laid.size below in
    let form : unlinked block ≡ form_of s.addresses e.0 = ap unlinked at ∙ e.1.1 in
    let same : found ≡ e.0 =
    here ∙ ap (λ (a : List ℕ). entry_in a block) (laid_addresses image s holds) ∙ entry_stays s.addresses block size
    ∙ ap (entry_in s.addresses) form
    ∙ entry_again s.addresses e.0 (holds.valid.records e.0.rw e.0 e.1.0) (holds.valid.hosts e.0.rw e.0 e.1.0) in
    subst (λ (x : VlEntry). IsThere s block x) (sym same) (record { there = e.1.0; block = form; size = size })

-- ---- what a chain has

cond_none : (b : Bool) (v : ℕ) (rest : Option ℕ) → cond b (Some v) rest ≡ None → (b ≡ false) × (rest ≡ None)
cond_none true v rest none = absurd cc
cond_none false v rest none = (refl, none)

none_met : (test : ℕ → Bool) (ws : List ℕ) (w i : ℕ) → first_met test ws ≡ None → i < length ws → get_or ws i w ≡ w → test w ≡ false
none_met test [] w i none below at = absurd (omega arith)
none_met test (v ∷ ws) w zero none below at = ap test (sym at) ∙ (cond_none (test v) v (first_met test ws) none).0
none_met test (v ∷ ws) w (suc i) none below at =
    none_met test ws w i (cond_none (test v) v (first_met test ws) none).1 (omega arith) at

pub is_false : (b : Bool) → b ≡ true → b ≡ false → ⊥
is_false b t f = cc

not_so : (b : Bool) → (b ≡ true → ⊥) → b ≡ false
not_so b never = ⊎_elim (λ (t : b ≡ true). absurd (never t)) (λ (f : b ≡ false). f) (cases_Bool b)

-- a word of a chain without what is looked for does not meet the test
pub not_met : (l : Links) (test : ℕ → List ℕ → Bool) (image : List ℕ) (at w k : ℕ) (ws : List ℕ) → IsInChain l test at image None
    → HasChain l image at ws → Contains ws w → block_of l w ≡ k → test w (block_in l.head image k) ≡ false
not_met l test image at w k ws none chain has is =
    ap (λ (j : ℕ). test w (block_in l.head image j)) (sym is) ∙ none_met (meets l test image) ws w has.0 (none ws chain) has.1 has.2

-- ---- by name

name_parts : (name block : List ℕ) → has_name name block ≡ true → (kind_of block ≡ 1) × (name_in block ≡ name)
name_parts name block e =
    let p = and_parts (eqb (kind_of block) 1) (bytes_eq (name_in block) name) e in
    (eqb-true (kind_of block) 1 p.0, (bytes_eq-Decides (name_in block) name).0 p.1)

named_of : (s : Location) (e : VlEntry) (name block : List ℕ) → length block ≡ 192 → unlinked block ≡ form_of s.addresses e
    → name_in (form_of s.addresses e) ≡ name → has_name name block ≡ true
named_of s e name block size form own =
    let named : name_in block ≡ name = name_stays block size ∙ ap name_in form ∙ own in
    let kind : kind_of block ≡ 1 = number_stays block 0 size (omega arith) ∙ ap kind_of form ∙ kind_again s.addresses e in
    rw (kind, (bytes_eq-Decides (name_in block) name).1 named) refl

name_some : (image : List ℕ) (s : Location) (name : List ℕ) (f : Link) (e : VlEntry) → Holds image s
    → IsInChain name_links (λ w block. has_name name block) (name_chain name) (whole image) (Some f)
    → e ≡ entry_in (addresses_in (whole image)) f.block → IsNamed s name (Some e)
name_some image s name f e holds is here =
    let r = right_names name_links (whole image) f.word is.0 in
    let p = name_parts name f.block is.2 in
    let t = is_there image s (block_of name_links f.word) f.block e holds (omega (arith, r.some, r.block)) is.1 p.0 here in (
      t.there,
      sym (name_again s.addresses e (holds.valid.records e.rw e t.there)) ∙ ap name_in (sym t.block)
          ∙ sym (name_stays f.block t.size) ∙ p.1,
    )

name_none : (image : List ℕ) (s : Location) (name : List ℕ) → Holds image s
    → IsInChain name_links (λ w block. has_name name block) (name_chain name) (whole image) None → IsNamed s name None
name_none image s name holds none = λ rw_id e at same.
    let old = whole image in
    let o = holds.laid.only rw_id e at in
    let v = holds.laid.names (name_key name) (omega arith) in
    let back : o.0 + 1 - 1 ≡ o.0 = omega arith in
    let has = v.each (o.0 + 1) (record {
      entry = e;
      number = record {
        some = omega arith;
        within = omega (arith, o.1);
        block = subst (λ (j : ℕ). IsBlockOf s e (block_at old j))
            (sym back) o.2;
      };
      keyed = ap name_key same;
    }) in
    let fails = not_met name_links (λ w block. has_name name block) old (name_chain name) (o.0 + 1) o.0 v.words none v.chain has
    (omega arith) in
    let size = block_len old o.0 holds.laid.size o.1 in
    let own = name_again s.addresses e (holds.valid.records rw_id e at) ∙ same in
    is_false (has_name name (block_at old o.0)) (named_of s e name (block_at old o.0) size o.2.1 own) fails

pub named : (bytes : Option (List ℕ)) (name : List ℕ) (found : Option VlEntry)
    → IfSome bytes (λ image. IsRead name_links (λ w block. has_name name block) (name_chain name) (whole image) found)
    → IfSome bytes (λ image. (s : Location) → Holds image s → IsNamed s name found)
named None name found is = tt
named (Some image) name None is = λ s holds. name_none image s name holds is
named (Some image) name (Some e) is = λ s holds. name_some image s name is.0 e holds is.1 is.2

-- ---- by id

pub id_kind : (id : ℕ) (block : List ℕ) → has_id_in id block ≡ true → kind_of block ≡ 1
id_kind id block e = eqb-true (kind_of block) 1 (and_parts (eqb (kind_of block) 1) _ e).0

pub id_again : (s : Location) (id rw_id : ℕ) (e : VlEntry) (image block : List ℕ) → Holds image s → s.entry rw_id ≡ Some e
    → length block ≡ 192
    → unlinked block ≡ form_of s.addresses e → has_id_in id block ≡ has_id id e
id_again s id rw_id e image block holds at size form =
    let valid = holds.valid.records rw_id e at in
    let kind : kind_of block ≡ 1 = number_stays block 0 size (omega arith) ∙ ap kind_of form ∙ kind_again s.addresses e in
    let own : word_at block 8 ≡ e.rw =
    number_stays block 8 size (omega arith) ∙ ap (λ (b : List ℕ). word_at b 8) form ∙ rw_again s.addresses e (omega (arith, valid.rw)) in
    let ro : word_at block 12 ≡ e.ro =
    number_stays block 12 size (omega arith) ∙ ap (λ (b : List ℕ). word_at b 12) form ∙ ro_again s.addresses e (omega (arith, valid.ro)) in
    let backup : word_at block 16 ≡ e.backup =
    number_stays block 16 size (omega arith) ∙ ap (λ (b : List ℕ). word_at b 16) form
    ∙ backup_again s.addresses e (omega (arith, valid.backup)) in
    rw (kind, own, ro, backup) refl

id_some : (image : List ℕ) (s : Location) (id : ℕ) (f : Link) (e : VlEntry) → Holds image s
    → IsInChain id_links (λ w block. has_id_in id block) (id_chain id) (whole image) (Some f)
    → e ≡ entry_in (addresses_in (whole image)) f.block → IsOfId s id (Some e)
id_some image s id f e holds is here =
    let r = right_names id_links (whole image) f.word is.0 in
    let t = is_there image s (block_of id_links f.word) f.block e holds (omega (arith, r.some, r.block)) is.1
    (id_kind id f.block is.2) here in
    (t.there, sym (id_again s id e.rw e image f.block holds t.there t.size t.block) ∙ is.2)

-- one of three kinds has the id
kind_with : (id : ℕ) (e : VlEntry) → has_id id e ≡ true → (id ≢ 0) × ((kind : ℕ) × (kind < 3) × (id_of kind e ≡ id))
kind_with id e has =
    let p = and_parts (not (eqb id 0)) (eqb e.rw id || eqb e.ro id || eqb e.backup id) has in (
      λ zero_id. is_false (eqb id 0) (eq-eqb id 0 zero_id) (not-true (eqb id 0) p.0),
      ⊎_elim
          (λ (front : (eqb e.rw id || eqb e.ro id) ≡ true). ⊎_elim
          (λ (a : eqb e.rw id ≡ true). (0, omega arith, eqb-true e.rw id a))
          (λ (b : eqb e.ro id ≡ true). (1, omega arith, eqb-true e.ro id b))
          (or_cases (eqb e.rw id) (eqb e.ro id) front))
          (λ (c : eqb e.backup id ≡ true). (2, omega arith, eqb-true e.backup id c))
          (or_cases (eqb e.rw id || eqb e.ro id) (eqb e.backup id) p.1),
    )

id_none : (image : List ℕ) (s : Location) (id : ℕ) → Holds image s
    → IsInChain id_links (λ w block. has_id_in id block) (id_chain id) (whole image) None → IsOfId s id None
id_none image s id holds none = λ rw_id e at. not_so (has_id id e) (λ has.
    let old = whole image in
    let o = holds.laid.only rw_id e at in
    let v = holds.laid.ids (id_key id) (omega arith) in
    let k = kind_with id e has in
    let kind = k.1.0 in
    let w = 4 * (o.0 + 1) + kind in
    let number : w / 4 ≡ o.0 + 1 = omega (arith, k.1.1) in
    let rest : w % 4 ≡ kind = omega (arith, k.1.1) in
    let back : w / 4 - 1 ≡ o.0 = omega (arith, number) in
    let own : id_of (w % 4) e ≡ id = ap (λ (n : ℕ). id_of n e) rest ∙ k.1.2 in
    let here = v.each w (record {
      entry = e;
      number = record {
        some = omega (arith, number);
        within = omega (arith, number, o.1);
        block = subst (λ (j : ℕ). IsBlockOf s e (block_at old j)) (sym back) o.2;
      };
      kind = omega (arith, rest, k.1.1);
      some = λ zero_id. k.0 (sym own ∙ zero_id);
      keyed = ap id_key own;
    }) in
    let fails = not_met id_links (λ w block. has_id_in id block) old (id_chain id) w o.0 v.words none v.chain here back in
    let size = block_len old o.0 holds.laid.size o.1 in
    is_false (has_id_in id (block_at old o.0)) (id_again s id rw_id e image (block_at old o.0) holds at size o.2.1 ∙ has) fails)

pub of_id : (bytes : Option (List ℕ)) (id : ℕ) (found : Option VlEntry)
    → IfSome bytes (λ image. IsRead id_links (λ w block. has_id_in id block) (id_chain id) (whole image) found)
    → IfSome bytes (λ image. (s : Location) → Holds image s → IsOfId s id found)
of_id None id found is = tt
of_id (Some image) id None is = λ s holds. id_none image s id holds is
of_id (Some image) id (Some e) is = λ s holds. id_some image s id is.0 e holds is.1 is.2

-- ---- a fault

pub name_fault : (bytes : Option (List ℕ)) (name : List ℕ) (fault : RecordFault)
    → HasCause bytes (λ image. HasSome name_links (name_chain name) (whole image)) fault → HasCause bytes HoldsSome fault
name_fault bytes name DiskFault cause = tt
name_fault bytes name NoMemory cause = tt
name_fault None name (BadRecord at) cause = tt
name_fault (Some image) name (BadRecord at) cause = λ some.
    let v = some.1.laid.names (name_key name) (omega arith) in cause (some.1.laid.size, (v.words, v.chain))

pub id_fault : (bytes : Option (List ℕ)) (id : ℕ) (fault : RecordFault)
    → HasCause bytes (λ image. HasSome id_links (id_chain id) (whole image)) fault → HasCause bytes HoldsSome fault
id_fault bytes id DiskFault cause = tt
id_fault bytes id NoMemory cause = tt
id_fault None id (BadRecord at) cause = tt
id_fault (Some image) id (BadRecord at) cause = λ some.
    let v = some.1.laid.ids (id_key id) (omega arith) in cause (some.1.laid.size, (v.words, v.chain))

-- ---- a walk

-- what was found along a chain
in_chain : (image : List ℕ) (l : Links) (test : ℕ → List ℕ → Bool) (at : ℕ) (link : Option Link)
    → IsFound l test image (stop_place l test image at) link
    → ((ws : List ℕ) → HasChain l image at ws → option_map (λ f. f.word) link ≡ first_met (meets l test image) ws)
    → IsInChain l test at image link
in_chain image l test at None found first = λ ws chain. sym (first ws chain)
in_chain image l test at (Some f) found first = (found.0.right, found.0.block, found.1)

pub ok_in_chain : (r : Result (Option Link) RecordFault) (bytes : Option (List ℕ)) (l : Links) (test : ℕ → List ℕ → Bool) (at len : ℕ)
    → IfSome bytes (λ image. length image ≡ len) → 0 < len
    → IfOk r (λ link. IfSome bytes (λ image. IsFound l test image (stop_place l test image at) link))
    → IfOk r (λ link. IfSome bytes (λ image. (ws : List ℕ) → HasChain l image at ws
    → option_map (λ f. f.word) link ≡ first_met (meets l test image) ws))
    → IfOk r (λ link. IfSome bytes (λ image. IsInChain l test at (whole image) link))
ok_in_chain (Err fault) bytes l test at len told more found first = tt
ok_in_chain (Ok link) None l test at len told more found first = tt
ok_in_chain (Ok link) (Some image) l test at len told more found first =
    subst (λ (i : List ℕ). IsInChain l test at i link) (sym (whole_same image (omega arith))) (in_chain image l test at link found first)

-- where a walk ended
pub ok_exact : (r : Result (Option Link) RecordFault) (bytes : Option (List ℕ)) (l : Links) (test : ℕ → List ℕ → Bool) (at len : ℕ)
    → IfSome bytes (λ image. length image ≡ len) → 0 < len
    → IfOk r (λ link. IfSome bytes (λ image. IsFound l test image (stop_place l test image at) link))
    → IfOk r (λ link. IfSome bytes (λ image. IfSome link (λ f. f.word ≡ word_at (whole image) (stop_place l test (whole image) at))))
ok_exact (Err fault) bytes l test at len told more found = tt
ok_exact (Ok link) None l test at len told more found = tt
ok_exact (Ok None) (Some image) l test at len told more found = tt
ok_exact (Ok (Some f)) (Some image) l test at len told more found =
    subst (λ (i : List ℕ). f.word ≡ word_at i (stop_place l test i at)) (sym (whole_same image (omega arith))) found.0.word

-- a walk that found nothing ended at a word that is 0
pub ok_ended : (r : Result (Option Link) RecordFault) (bytes : Option (List ℕ)) (l : Links) (test : ℕ → List ℕ → Bool) (at len : ℕ)
    → IfSome bytes (λ image. length image ≡ len) → 0 < len
    → IfOk r (λ link. IfSome bytes (λ image. IsFound l test image (stop_place l test image at) link))
    → IfOk r (λ link. link ≡ None → IfSome bytes (λ image. EndsChain l test at (whole image)))
ok_ended (Err fault) bytes l test at len told more found = tt
ok_ended (Ok link) None l test at len told more found = λ none. tt
ok_ended (Ok None) (Some image) l test at len told more found =
    λ none. subst (EndsChain l test at) (sym (whole_same image (omega arith))) found
ok_ended (Ok (Some f)) (Some image) l test at len told more found = λ none. absurd cc

pub none_exact : (bytes : Option (List ℕ)) → IfSome bytes (λ image. Unit {0})
none_exact None = tt
none_exact (Some image) = tt

-- the number of the block that a word names
pub ok_number : (r : Result (Option Link) RecordFault) (l : Links) (len count : ℕ) → AreLinks l → l.head ≡ 3132
    → len ≡ block_place l.head count → IfOk r (λ link. IfSome link (λ f. IsPlaced l len f.word))
    → IfOk r (λ link. IfSome link (λ f. IsNumber free_blocks len (f.word / l.step)))
ok_number (Err fault) l len count links head size placed = tt
ok_number (Ok None) l len count links head size placed = tt
ok_number (Ok (Some f)) l len count links head size placed =
    record { some = placed.some; within = omega (arith, placed.some, placed.within, links.mark, head, size) }

-- the empty image has nothing in a chain
pub empty_none : (bytes : Option (List ℕ)) (len : ℕ) (l : Links) (test : ℕ → List ℕ → Bool) (at : ℕ)
    → IfSome bytes (λ image. length image ≡ len)
    → len ≡ 0 → l.head ≡ 3132 → IfSome bytes (λ image. IsInChain l test at (whole image) None)
empty_none None len l test at told none head = tt
empty_none (Some image) len l test at told none head = λ ws chain.
    ap (first_met (meets l test (whole image))) (no_words l image at ws head (told ∙ none) chain)

pub empty_ended : (bytes : Option (List ℕ)) (len : ℕ) (l : Links) (test : ℕ → List ℕ → Bool) (at : ℕ)
    → IfSome bytes (λ image. length image ≡ len) → len ≡ 0 → l.head ≡ 3132 → 1084 ≤ at → at + 4 ≤ 3132
    → IfSome bytes (λ image. EndsChain l test at (whole image))
unfolding stop_place passed
empty_ended None len l test at told none head behind within = tt
empty_ended (Some image) len l test at told none head behind within =
    let old = whole image in
    let count : block_count l.head old ≡ 0 = ap (λ (h : ℕ). block_count h old) head ∙ none_in image (told ∙ none) in
    let most : most_words l old ≡ 0 = ap (λ (n : ℕ). n * l.kinds) count ∙ omega arith in
    let place : at ≡ 1084 + (at - 1084) = omega (arith, behind) in
    let first : word_at old at ≡ 0 =
    ap (λ (i : List ℕ). word_at i at) (whole_empty image (told ∙ none)) ∙ ap (word_at (head_of first_location 0)) place
    ∙ first_word (at - 1084) (omega (arith, behind, within)) in
    subst (λ (m : ℕ). word_at old (place_behind l at (passed l test old m at)) ≡ 0) (sym most) first

pub ok_within : (r : Result (Option Link) RecordFault) (l : Links) (len : ℕ) → l.head ≡ 3132
    → IfOk r (λ link. IfSome link (λ f. IsPlaced l len f.word))
    → IfOk r (λ link. IfSome link (λ f. 3132 ≤ len))
ok_within (Err fault) l len head placed = tt
ok_within (Ok None) l len head placed = tt
ok_within (Ok (Some f)) l len head placed = omega (arith, placed.within, head)

pub costs_free : {I : Type 0} (g : Ghosts I) (bytes : Option (List ℕ)) (l : Links) (at most : ℕ) (a b : Drafted I) → b.image ≡ a.image
    → IfSome bytes (λ image. (ws : List ℕ) → HasChain l (whole image) at ws → CostsAtMost g (most + 192 * length ws) a b)
costs_free g None l at most a b same = tt
costs_free g (Some image) l at most a b same = λ ws chain.
    subst (λ i. AsksAtMost (most + 192 * length ws) (g.asked a.image) (g.asked i)) (sym same) (asks_none (most + 192 * length ws)
    (g.asked a.image))

-- a walk, and so many bytes more
pub costs_on : {I : Type 0} (g : Ghosts I) (bytes : Option (List ℕ)) (l : Links) (at m n most : ℕ) (a b c : Drafted I) → m + n ≤ most
    → IfSome bytes (λ image. (ws : List ℕ) → HasChain l (whole image) at ws → CostsAtMost g (m + 192 * length ws) a b) → CostsAtMost g n b c
    → IfSome bytes (λ image. (ws : List ℕ) → HasChain l (whole image) at ws → CostsAtMost g (most + 192 * length ws) a c)
costs_on g None l at m n most a b c fits first second = tt
costs_on g (Some image) l at m n most a b c fits first second = λ ws chain.
    asks_then (m + 192 * length ws) n (most + 192 * length ws) (g.asked a.image) (g.asked b.image) (g.asked c.image)
    (first ws chain) second (omega arith)

pub read_some : (bytes now : Option (List ℕ)) (l : Links) (test : ℕ → List ℕ → Bool) (at : ℕ) (f : Link) (addresses : List ℕ) (e : VlEntry)
    → now ≡ bytes → IfSome bytes (λ image. IsInChain l test at (whole image) (Some f))
    → IfSome now (λ image. addresses ≡ addresses_in (whole image))
    → e ≡ entry_in addresses f.block → IfSome bytes (λ image. IsRead l test at (whole image) (Some e))
read_some None now l test at f addresses e same found places is = tt
read_some (Some image) now l test at f addresses e same found places is =
    let here : IfSome (Some image) (λ i. addresses ≡ addresses_in (whole i)) =
    subst (λ (b : Option (List ℕ)). IfSome b (λ i. addresses ≡ addresses_in (whole i))) same places in
    (f, found, is ∙ ap (λ (a : List ℕ). entry_in a f.block) here)

pub ok_named : (r : Result (Option VlEntry) RecordFault) (bytes : Option (List ℕ)) (name : List ℕ)
    → IfOk r (λ found. IfSome bytes (λ image. IsRead name_links (λ w block. has_name name block) (name_chain name) (whole image) found))
    → IfOk r (λ found. IfSome bytes (λ image. (s : Location) → Holds image s → IsNamed s name found))
ok_named (Err fault) bytes name is = tt
ok_named (Ok found) bytes name is = named bytes name found is

pub ok_of_id : (r : Result (Option VlEntry) RecordFault) (bytes : Option (List ℕ)) (id : ℕ)
    → IfOk r (λ found. IfSome bytes (λ image. IsRead id_links (λ w block. has_id_in id block) (id_chain id) (whole image) found))
    → IfOk r (λ found. IfSome bytes (λ image. (s : Location) → Holds image s → IsOfId s id found))
ok_of_id (Err fault) bytes id is = tt
ok_of_id (Ok found) bytes id is = of_id bytes id found is
