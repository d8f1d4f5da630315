-- The number of the block of the entry of an id: a walk along the chain of the id stops there.
use Rattle.std.proofs.Common.{◌≡◌, ℕ, ℤ, ◌+◌, ◌-◌, ◌/◌, Bool, true, List, ◌∷◌, ◌++◌, sym, ap, subst, ◌∙◌, arith}
use Rattle.std.specs.List.{Contains}
use Rattle.db_blocks.specs.Blocks.{block_in as any_block, word_at}
use Rattle.db_chains.specs.Chains.{HasChain}
use Rattle.db_chains.specs.Links.{block_of}
use Rattle.db_chains.specs.Walks.{meets, place_behind, stop_place}
use Rattle.db_chains.proofs.Changed.{stands_behind}
use Rattle.db_chains.proofs.Stops.{stop_behind}
use Rattle.db_chains.proofs.Split.{split_first}
use Rattle.prdb_layout.specs.Records.{block_in, entry_in, has_id}
use Rattle.prdb_layout.specs.State.{PrEntry}
use Rattle.prdb_layout.proofs.Lookups.{id_from, id_parts}
use Rattle.prdb_finds.specs.Keys.{id_chain, id_key}
use Rattle.prdb_finds.specs.Places.{id_links}
use Rattle.prdb_finds.specs.Records.{HasIdKey, IsEntryAt}
use Rattle.prdb_finds.proofs.Lists.{among_this}
use Rattle.prdb_finds.proofs.Without.{unchained_entry}
use Rattle.prdb_entries.specs.Changes.{number_of}
use Rattle.prdb_entries.specs.Ends.{HasLink}
use Rattle.prdb_entries.proofs.Linked.{ById, Chain, IsEntry, IsLinked, entry_here}

-- ---- the entry of an id

-- an entry of this id, and there is no other one
pub record IsOf (u : List ℕ) (id : ℤ) (o : ℕ) : Type 0 where
  pub entry : IsEntry u o
  pub id_is : (entry_in (block_in u o)).id ≡ id
  pub one : (j : ℕ) → IsEntry u j → (entry_in (block_in u j)).id ≡ id → j ≡ o

-- the chain of the id visits entries, and among them that one
pub record IsAmong (u : List ℕ) (M : Chain → ℕ → Type 0) (id : ℤ) (o : ℕ) : Type 0 where
  pub has : M (ById (id_key id)) (o + 1)
  pub only : (w : ℕ) → M (ById (id_key id)) w → IsEntryAt u (HasIdKey (id_key id)) w

entry_same : (image u : List ℕ) (M : Chain → ℕ → Type 0) (U : ℕ → Type 0) (fs : List ℕ) (k : ℕ) → IsLinked image u M U fs → IsEntry u k
    → entry_in (block_in image k) ≡ entry_in (block_in u k)
entry_same image u M U fs k l is =
    let here = entry_here image u M U fs k l is in
    sym (unchained_entry image k l.whole here.below here.kind) ∙ ap (λ (i : List ℕ). entry_in (block_in i k)) l.same

abbrev Sought : (id : ℤ) → ℕ → List ℕ → Bool
Sought id = λ w block. has_id id block

pub block_of_word : (w : ℕ) → block_of id_links w ≡ w - 1
block_of_word w =
    let one : w / 1 ≡ w = omega arith in
    omega (arith, one)

own_met : (image u : List ℕ) (M : Chain → ℕ → Type 0) (U : ℕ → Type 0) (fs : List ℕ) (id : ℤ) (o : ℕ) → IsLinked image u M U fs
    → IsOf u id o → meets id_links (Sought id) image (o + 1) ≡ true
own_met image u M U fs id o l of =
    let here = entry_here image u M U fs o l of.entry in
    let place : block_of id_links (o + 1) ≡ o = omega (arith, block_of_word (o + 1)) in
    ap (λ (j : ℕ). has_id id (any_block 2112 image j)) place
    ∙ id_from id (block_in image o) here.kind
    (ap (λ (e : PrEntry). e.id) (entry_same image u M U fs o l of.entry) ∙ of.id_is)

pub has_link : (image u : List ℕ) (M : Chain → ℕ → Type 0) (U : ℕ → Type 0) (fs : List ℕ) (id : ℤ) (o : ℕ) → IsLinked image u M U fs
    → IsOf u id o → IsAmong u M id o → HasLink id image
has_link image u M U fs id o l of among =
    let v = l.chains (ById (id_key id)) (omega arith) in
    (l.whole, (v.words, o + 1, v.chain, v.each (o + 1) among.has, own_met image u M U fs id o l of))

pub number_is : (image u : List ℕ) (M : Chain → ℕ → Type 0) (U : ℕ → Type 0) (fs : List ℕ) (id : ℤ) (o : ℕ) → IsLinked image u M U fs
    → IsOf u id o → IsAmong u M id o → number_of id image ≡ o + 1
number_is image u M U fs id o l of among =
    let c = ById (id_key id) in
    let at = id_chain id in
    let v = l.chains c (omega arith) in
    let has = v.each (o + 1) among.has in
    let s = split_first id_links (Sought id) image v.words (o + 1) has.0 has.1 has.2 (own_met image u M U fs id o l of) in
    let all : HasChain id_links image at (s.front ++ s.word ∷ s.back) = subst (HasChain id_links image at) (sym s.all) v.chain in
    let there = stands_behind id_links image at s.word s.front s.back all in
    let stop : stop_place id_links (Sought id) image at ≡ place_behind id_links at s.front =
    stop_behind id_links (Sought id) image at s.front (s.word ∷ s.back) (omega arith) all s.misses s.met in
    let word : Contains v.words s.word =
    subst (λ (ws : List ℕ). Contains ws s.word) s.all (among_this s.word s.front s.back) in
    let is = among.only s.word (v.only s.word word) in
    let k = s.word - 1 in
    let entry : IsEntry u k = record { below = omega (arith, is.some, is.within); kind = is.kind } in
    let met : has_id id (block_in image k) ≡ true =
    ap (λ (j : ℕ). has_id id (any_block 2112 image j)) (sym (block_of_word s.word)) ∙ s.met in
    let own : (entry_in (block_in u k)).id ≡ id =
    ap (λ (e : PrEntry). e.id) (sym (entry_same image u M U fs k l entry)) ∙ (id_parts id (block_in image k) met).1 in
    let same = of.one k entry own in
    ap (word_at image) stop ∙ there.0 ∙ omega (arith, same, is.some)
