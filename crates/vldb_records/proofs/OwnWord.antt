-- The word of the entry that has a read-write id: a walk along the chain of the id stops there.
use Rattle.std.proofs.Common.{◌≡◌, ℕ, ◌+◌, ◌-◌, ◌*◌, ◌/◌, ◌%◌, ◌<◌, ◌≤◌, Bool, true, List, ◌∷◌, ◌++◌, Option, Some, length, refl, sym, ap, subst, ◌∙◌, arith}
use Rattle.db_blocks.specs.Blocks.{block_in, word_at, kind_of}
use Rattle.db_blocks.proofs.Maps.{some_same}
use Rattle.db_chains.specs.declared.links.Links.{Links}
use Rattle.db_chains.specs.declared.walks.Link.{Link}
use Rattle.db_chains.specs.Chains.{HasChain}
use Rattle.db_chains.specs.Links.{block_of}
use Rattle.db_chains.specs.Walks.{meets, place_behind, stop_place}
use Rattle.db_chains.proofs.Changed.{stands_behind}
use Rattle.db_chains.proofs.Stops.{stop_behind}
use Rattle.db_chains.proofs.Words.{right_names}
use Rattle.vldb_chains.specs.Keys.{id_chain, id_key}
use Rattle.vldb_chains.specs.Places.{id_links}
use Rattle.vldb_entries.specs.declared.entries.VlEntry.{VlEntry}
use Rattle.vldb_entries.specs.Location.{Location, has_id}
use Rattle.vldb_entries.specs.Forms.{block_at, blocks_in, has_id_in, whole}
use Rattle.vldb_records.specs.Changes.{word_of_id}
use Rattle.vldb_records.specs.Records.{Holds, IsBlockOf, IsNumberOf, id_of, unlinked}
use Rattle.db_chains.specs.Sought.{IsInChain}
use Rattle.db_chains.proofs.Split.{IsSplit, split_first}
use Rattle.vldb_records.proofs.Fields.{block_len}
use Rattle.vldb_records.proofs.HeadSet.{ids_are}
use Rattle.vldb_records.proofs.Inserted.{own_id}
use Rattle.vldb_records.proofs.Lookups.{block_entry, id_again, id_kind}

-- ---- what a walk along the chain of an id found

abbrev pub IsFoundBy : (own : ℕ) → List ℕ → Option Link → Type 0
IsFoundBy own image found = IsInChain id_links (λ w block. has_id_in own block) (id_chain own) (whole image) found

pub has_own : (image : List ℕ) (s : Location) (own : ℕ) (f : VlEntry) → Holds image s → s.entry own ≡ Some f → has_id own f ≡ true
has_own image s own f holds at =
    subst (λ (i : ℕ). has_id i f ≡ true) (holds.valid.ids own f at) (own_id f (holds.valid.records own f at))

pub entry_of : (image : List ℕ) (s : Location) (own : ℕ) (f : VlEntry) (link : Link) → Holds image s → s.entry own ≡ Some f
    → IsFoundBy own image (Some link) → IsNumberOf s (whole image) (link.word / 4) f
entry_of image s own f link holds at found =
    let old = whole image in
    let n = link.word / 4 in
    let r = right_names id_links old link.word found.0 in
    let some : 0 < n = r.some in
    let within : n ≤ blocks_in old = r.block in
    let below : n - 1 < blocks_in old = omega arith in
    let g = block_entry old s (n - 1) holds.laid below (ap kind_of (sym found.1) ∙ id_kind own link.block found.2) in
    let size : length link.block ≡ 192 = ap length found.1 ∙ block_len old (n - 1) holds.laid.size below in
    let has_g : has_id own g.0 ≡ true =
    sym (id_again s own g.0.rw g.0 image link.block holds g.1.0 size (ap unlinked found.1 ∙ g.1.1)) ∙ found.2 in
    let same : g.0.rw ≡ own = holds.valid.apart g.0.rw own own g.0 f g.1.0 at has_g (has_own image s own f holds at) in
    let is : g.0 ≡ f = some_same (sym g.1.0 ∙ ap s.entry same ∙ at) in
    record { some = some; within = within; block = subst (λ (x : VlEntry). IsBlockOf s x (block_at old (n - 1))) is g.1 }

-- ---- the first word that is what is looked for

-- a walk stops there
met_link : (l : Links) (test : ℕ → List ℕ → Bool) (image : List ℕ) (at : ℕ) (ws : List ℕ) → 0 < l.step → HasChain l image at ws
    → IsSplit l test image ws
    → (link : Link) × (link.word ≡ word_at image (stop_place l test image at)) × IsInChain l test at image (Some link)
met_link l test image at ws step chain p =
    let all : HasChain l image at (p.front ++ p.word ∷ p.back) = subst (HasChain l image at) (sym p.all) chain in
    let there = stands_behind l image at p.word p.front p.back all in
    let stop : stop_place l test image at ≡ place_behind l at p.front =
    stop_behind l test image at p.front (p.word ∷ p.back) step all p.misses p.met in
    let link : Link = record { word = p.word; block = block_in l.head image (block_of l p.word) } in
    (link, sym there.0 ∙ ap (word_at image) (sym stop), (there.1, refl, p.met))

-- ---- the word of an entry

abbrev Sought : (own : ℕ) → ℕ → List ℕ → Bool
Sought own = λ w block. has_id_in own block

-- the walk stops at a word of the chain whose block has the id
pub own_link : (image : List ℕ) (s : Location) (own : ℕ) (f : VlEntry) → Holds image s → s.entry own ≡ Some f
    → (link : Link) × (link.word ≡ word_of_id own (whole image)) × IsFoundBy own image (Some link)
own_link image s own f holds at =
    let old = whole image in
    let o = holds.laid.only own f at in
    let v = holds.laid.ids (id_key own) (omega arith) in
    let w = 4 * (o.0 + 1) in
    let number : w / 4 ≡ o.0 + 1 = omega arith in
    let rest : w % 4 ≡ 0 = omega arith in
    let back : w / 4 - 1 ≡ o.0 = omega (arith, number) in
    let own_rw : f.rw ≡ own = holds.valid.ids own f at in
    let is : id_of (w % 4) f ≡ own = ap (λ (n : ℕ). id_of n f) rest ∙ own_rw in
    let low = (holds.valid.records own f at).rw_low in
    let here = v.each w (record {
      entry = f;
      number = record {
        some = omega (arith, number);
        within = omega (arith, number, o.1);
        block = subst (λ (j : ℕ). IsBlockOf s f (block_at old j)) (sym back) o.2;
      };
      kind = omega (arith, rest);
      some = λ none. omega (arith, low, own_rw, sym is ∙ none);
      keyed = ap id_key is;
    }) in
    let size = block_len old o.0 holds.laid.size o.1 in
    let met : meets id_links (Sought own) old w ≡ true =
    ap (λ (j : ℕ). has_id_in own (block_at old j)) back ∙ id_again s own own f image (block_at old o.0) holds at size o.2.1
    ∙ has_own image s own f holds at in
    met_link id_links (Sought own) old (id_chain own) v.words ids_are.step v.chain
    (split_first id_links (Sought own) old v.words w here.0 here.1 here.2 met)

-- so it names the block of the entry
pub own_number : (image : List ℕ) (s : Location) (own : ℕ) (f : VlEntry) → Holds image s → s.entry own ≡ Some f
    → IsNumberOf s (whole image) (word_of_id own (whole image) / 4) f
own_number image s own f holds at =
    let o = own_link image s own f holds at in
    subst (λ (w : ℕ). IsNumberOf s (whole image) (w / 4) f) o.1 (entry_of image s own f o.0 holds at o.2)
