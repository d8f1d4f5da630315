-- Lists of pairs that are written into a draft.
use Rattle.std.proofs.Common.{◌≡◌, ℕ, ℤ, ◌+◌, ◌-◌, ◌*◌, ◌^◌, ◌<◌, ◌≤◌, min, max, List, [], ◌∷◌, ◌++◌, length, get_or, take, drop, map, Option, Some, None, IfSome, Result, Ok, Err, OnOk, OnErr, refl, sym, ap, subst, ◌∙◌, ⊎_elim, arith}
use Rattle.std.specs.List.{All}
use Rattle.std.specs.Option.{option_map}
use Rattle.std.proofs.Math.Nat.{mul-le-mul_left}
use Rattle.std.proofs.lemmas.Bool.{cases_lt}
use Rattle.std.proofs.lemmas.List.{drop_all, take_all}
use Rattle.std.proofs.lemmas.List.Elements.{All-tail}
use Rattle.ubik_types.specs.Image.{changed}
use Rattle.ubik_types.specs.declared.images.Change.TheVariants.{Put}
use Rattle.db_image.specs.Asked.{AsksAtMost}
use Rattle.db_image.specs.Draft.{Drafted, StaysAsItWas, put_cost}
use Rattle.db_image.specs.declared.faults.RecordFault.{RecordFault}
use Rattle.db_image.specs.declared.faults.RecordFault.TheVariants.{DiskFault, BadRecord, NoMemory}
use Rattle.db_image.specs.declared.images.ImageRead.{Ghosts}
use Rattle.db_image.specs.declared.services.Layout.{Layout}
use Rattle.db_image.proofs.ReadSteps.{asks_none, asks_then}
use Rattle.db_blocks.specs.Blocks.{block_place}
use Rattle.db_blocks.specs.Bytes.{word, words, zeros}
use Rattle.db_blocks.specs.Ends.{HasCause, OnlyDrafts, OnlyLooks}
use Rattle.db_blocks.proofs.Scanned.{drafts_then}
use Rattle.prdb_layout.specs.Bytes.{bits}
use Rattle.prdb_layout.specs.Records.{with_block}
use Rattle.prdb_layout.proofs.Becoming.{becomes_then}
use Rattle.prdb_lists.specs.Blocks.{AreWithin}
use Rattle.prdb_lists.specs.Changes.{relisted, with_list, with_more}
use Rattle.prdb_lists.specs.Layout.{PairList, id_field, link_to, link_word, list_words, more_block}
use Rattle.prdb_lists.proofs.BlockIds.{link_small}

-- ---- frames

pub drafts_none : {I : Type 0} (g : Ghosts I) (d : Drafted I) → OnlyDrafts g d d ⊥
drafts_none g d = record {
  layout = refl;
  reads = record { held = refl; size = refl; came = g.comes_same d.image; never_falls = omega arith; cause = λ h. absurd h };
}

pub drafts_so : {I : Type 0} (g : Ghosts I) (a b : Drafted I) (first failed : Type 0) → OnlyDrafts g a b first → (failed → first)
    → OnlyDrafts g a b failed
drafts_so g a b first failed r so = record {
  layout = r.layout;
  reads = record {
    held = r.reads.held;
    size = r.reads.size;
    came = r.reads.came;
    never_falls = r.reads.never_falls;
    cause = λ h. r.reads.cause (so h);
  };
}

-- ---- words and fields

pub within_small : (len : ℕ) (more : List ℕ) → AreWithin len more → len < 2 ^ 31 + 2 ^ 10 → All (λ k. k < 2 ^ 24) more
within_small len more within short i d below = let here = within i d below in omega arith

pub within_more_len : (a b : ℕ) (more : List ℕ) → AreWithin a more → a ≤ b → AreWithin b more
within_more_len a b more within longer i d below = let here = within i d below in omega arith

-- ---- costs

-- so many puts of a block, and one more
one_cost : (p q n : ℕ) → q ≡ p → p * n + q ≤ p * (n + 1)
one_cost p q n same = omega arith

cost_step : (p q most b c : ℕ) → q ≡ p → b ≡ c + 1 → b ≤ most → p * (most - b) + q ≤ p * (most - c)
cost_step p q most b c same one few =
    let next : most - b + 1 ≡ most - c = omega arith in
    subst (λ (n : ℕ). p * (most - b) + q ≤ p * n) next (one_cost p q (most - b) same)

pub puts_most : (p n most : ℕ) (a b : Option ℕ) → n ≤ most → AsksAtMost (p * n) a b → AsksAtMost (p * most) a b
puts_most p n most a b few cost = asks_then (p * n) 0 (p * most) a b b cost (asks_none 0 b) (omega (arith, mul-le-mul_left p few))

-- ---- continuation blocks, one after the other

pub record Writing {I : Type 0} (g : Ghosts I) (first now : Drafted I) (entry : ℤ) (more blocks : List ℕ) (ids left : List ℤ) : Type 0 where
  pub frame : OnlyDrafts g first now ⊥
  pub len : now.len ≡ first.len
  pub within : AreWithin first.len blocks
  pub few : length blocks ≤ length more
  pub cost : AsksAtMost (put_cost first.layout 192 * (length more - length blocks)) (g.asked first.image) (g.asked now.image)
  pub bytes : option_map (with_more entry blocks left) now.bytes ≡ option_map (with_more entry more ids) first.bytes

pub writing_none : {I : Type 0} (g : Ghosts I) (d : Drafted I) (entry : ℤ) (more : List ℕ) (ids : List ℤ) → AreWithin d.len more
    → Writing g d d entry more more ids ids
writing_none g d entry more ids within = record {
  frame = drafts_none g d;
  len = refl;
  within = within;
  few = omega arith;
  cost = asks_none (put_cost d.layout 192 * (length more - length more)) (g.asked d.image);
  bytes = refl;
}

-- no more than there is
pub take_most : {X : Type 0} (n : ℕ) (xs : List X) → take (min (length xs) n) xs ≡ take n xs
take_most n xs =
    ⊎_elim
    (λ (short : length xs < n).
    let same : min (length xs) n ≡ length xs = omega arith in
    ap (λ (m : ℕ). take m xs) same ∙ take_all (length xs) xs (omega arith) ∙ sym (take_all n xs (omega arith)))
    (λ (long : n ≤ length xs). let same : min (length xs) n ≡ n = omega arith in ap (λ (m : ℕ). take m xs) same)
    (cases_lt (length xs) n)

pub drop_most : {X : Type 0} (n : ℕ) (xs : List X) → drop (min (length xs) n) xs ≡ drop n xs
drop_most n xs =
    ⊎_elim
    (λ (short : length xs < n).
    let same : min (length xs) n ≡ length xs = omega arith in
    ap (λ (m : ℕ). drop m xs) same ∙ drop_all (length xs) xs (omega arith) ∙ sym (drop_all n xs (omega arith)))
    (λ (long : n ≤ length xs). let same : min (length xs) n ≡ n = omega arith in ap (λ (m : ℕ). drop m xs) same)
    (cases_lt (length xs) n)

written_one : (bytes next : Option (List ℕ)) (entry : ℤ) (k : ℕ) (behind : List ℕ) (left here rest : List ℤ) → here ≡ take 44 left
    → rest ≡ drop 44 left
    → next ≡ option_map (λ image. with_block k (more_block entry (link_to behind) here) image) bytes
    → option_map (with_more entry behind rest) next ≡ option_map (with_more entry (k ∷ behind) left) bytes
unfolding with_more
written_one None next entry k behind left here rest is_here is_rest is = ap (option_map (with_more entry behind rest)) is
written_one (Some image) next entry k behind left here rest is_here is_rest is =
    ap (option_map (with_more entry behind rest)) is
    ∙ ap (λ (h : List ℤ). Some (with_more entry behind rest (with_block k (more_block entry (link_to behind) h) image))) is_here
    ∙ ap (λ (l : List ℤ). Some (with_more entry behind l (with_block k (more_block entry (link_to behind) (take 44 left)) image))) is_rest

pub writing_more : {I : Type 0} (g : Ghosts I) (first now next : Drafted I) (entry : ℤ) (more blocks : List ℕ) (ids left : List ℤ) (k : ℕ)
    (behind : List ℕ) (here rest : List ℤ) (failed : Type 0)
    → Writing g first now entry more blocks ids left → blocks ≡ k ∷ behind → here ≡ take 44 left → rest ≡ drop 44 left
    → next.bytes ≡ option_map (λ image. with_block k (more_block entry (link_to behind) here) image) now.bytes → next.len ≡ now.len
    → OnlyDrafts g now next failed → AsksAtMost (put_cost now.layout 192) (g.asked now.image) (g.asked next.image)
    → Writing g first next entry more behind ids rest
writing_more g first now next entry more blocks ids left k behind here rest failed w parts is_here is_rest is len drafts asks = record {
  frame = drafts_then g first now next ⊥ ⊥ w.frame (drafts_so g now next failed ⊥ drafts (λ h. absurd h));
  len = len ∙ w.len;
  within = All-tail (λ j. block_place 2112 j + 192 ≤ first.len) k behind (subst (AreWithin first.len) parts w.within);
  few = omega (arith, w.few, ap length parts);
  cost = asks_then (put_cost first.layout 192 * (length more - length blocks)) (put_cost now.layout 192)
      (put_cost first.layout 192 * (length more - length behind)) (g.asked first.image) (g.asked now.image) (g.asked next.image) w.cost asks
      (cost_step (put_cost first.layout 192) (put_cost now.layout 192) (length more) (length blocks) (length behind)
      (ap (λ (l : Layout). put_cost l 192) w.frame.layout) (omega (arith, ap length parts)) w.few);
  bytes = written_one now.bytes next.bytes entry k behind left here rest is_here is_rest is
      ∙ ap (λ (b : List ℕ). option_map (with_more entry b left) now.bytes) (sym parts) ∙ w.bytes;
}

none_more : (bytes : Option (List ℕ)) (entry : ℤ) (left : List ℤ) → option_map (with_more entry [] left) bytes ≡ bytes
unfolding with_more
none_more None entry left = refl
none_more (Some image) entry left = refl

no_blocks : (blocks : List ℕ) → length blocks ≡ 0 → blocks ≡ []
no_blocks [] none = refl
no_blocks (k ∷ blocks) none = absurd (omega arith)

pub writing_all : {I : Type 0} (g : Ghosts I) (first now : Drafted I) (entry : ℤ) (more blocks : List ℕ) (ids left : List ℤ)
    → Writing g first now entry more blocks ids left → length blocks ≡ 0
    → now.bytes ≡ option_map (with_more entry more ids) first.bytes
writing_all g first now entry more blocks ids left w none =
    sym (none_more now.bytes entry left) ∙ ap (λ (b : List ℕ). option_map (with_more entry b left) now.bytes) (sym (no_blocks blocks none))
    ∙ w.bytes

-- no more is written than all of them
pub writing_costs : {I : Type 0} (g : Ghosts I) (first now : Drafted I) (entry : ℤ) (more blocks : List ℕ) (ids left : List ℤ)
    → Writing g first now entry more blocks ids left
    → AsksAtMost (put_cost first.layout 192 * length more) (g.asked first.image) (g.asked now.image)
writing_costs g first now entry more blocks ids left w =
    puts_most (put_cost first.layout 192) (length more - length blocks) (length more) (g.asked first.image) (g.asked now.image)
    (omega arith) w.cost

-- nor where one of them was
pub one_costs : {I : Type 0} (g : Ghosts I) (first now next : Drafted I) (entry : ℤ) (more blocks : List ℕ) (ids left : List ℤ)
    → Writing g first now entry more blocks ids left → 1 ≤ length blocks
    → AsksAtMost (put_cost now.layout 192) (g.asked now.image) (g.asked next.image)
    → AsksAtMost (put_cost first.layout 192 * length more) (g.asked first.image) (g.asked next.image)
one_costs g first now next entry more blocks ids left w some asks =
    let few = w.few in
    let one : AsksAtMost (put_cost first.layout 192 * (length more - length blocks + 1)) (g.asked first.image) (g.asked next.image) =
    asks_then (put_cost first.layout 192 * (length more - length blocks)) (put_cost now.layout 192)
    (put_cost first.layout 192 * (length more - length blocks + 1)) (g.asked first.image) (g.asked now.image) (g.asked next.image) w.cost
    asks
    (one_cost (put_cost first.layout 192) (put_cost now.layout 192) (length more - length blocks)
    (ap (λ (l : Layout). put_cost l 192) w.frame.layout)) in
    puts_most (put_cost first.layout 192) (length more - length blocks + 1) (length more) (g.asked first.image) (g.asked next.image)
    (omega arith) one

-- a block that is put
pub put_costs : (layout : Layout) (n : ℕ) (a b : Option ℕ) → n ≡ 192 → AsksAtMost (put_cost layout n) a b
    → AsksAtMost (put_cost layout 192) a b
put_costs layout n a b same cost = subst (λ (m : ℕ). AsksAtMost (put_cost layout m) a b) same cost

-- so many blocks, and one more
pub then_costs : {I : Type 0} (g : Ghosts I) (first now next : Drafted I) (n count : ℕ) → now.layout ≡ first.layout → n ≡ 192
    → AsksAtMost (put_cost first.layout 192 * count) (g.asked first.image) (g.asked now.image)
    → AsksAtMost (put_cost now.layout n) (g.asked now.image) (g.asked next.image)
    → AsksAtMost (put_cost first.layout 192 * (count + 1)) (g.asked first.image) (g.asked next.image)
then_costs g first now next n count layout same cost asks =
    asks_then (put_cost first.layout 192 * count) (put_cost now.layout n) (put_cost first.layout 192 * (count + 1)) (g.asked first.image)
    (g.asked now.image) (g.asked next.image) cost asks
    (one_cost (put_cost first.layout 192) (put_cost now.layout n) count
    (ap (put_cost now.layout) same ∙ ap (λ (l : Layout). put_cost l 192) layout))

-- ---- a list in place of another one

pub relisted_ok : {T E : Type 0} (r : Result T E) (b c d : Option (List ℕ)) (k : ℕ) (entry : ℤ) (old : List ℕ) (ids behind : List ℤ)
    (more block : List ℕ) (at : ℕ)
    → behind ≡ drop 19 ids → block ≡ with_list old (record { ids = ids; more = more }) → at ≡ block_place 2112 k
    → c ≡ option_map (with_more entry more behind) b
    → OnOk r (d ≡ option_map (λ image. changed image (Put at block)) c)
    → OnOk r (d ≡ option_map (relisted k entry old (record { ids = ids; more = more })) b)
relisted_ok (Err e) b c d k entry old ids behind more block at is_behind is_block is_at is ok = tt
relisted_ok (Ok x) b c d k entry old ids behind more block at is_behind is_block is_at is ok =
    becomes_then (with_more entry more (drop 19 ids)) (with_block k (with_list old (record { ids = ids; more = more }))) b c d
    (is ∙ ap (λ (l : List ℤ). option_map (with_more entry more l) b) is_behind)
    (ok ∙ ap (λ (p : ℕ). option_map (λ image. changed image (Put p block)) c) is_at
    ∙ ap (λ (x : List ℕ). option_map (with_block k x) c) is_block)

-- ---- faults

-- a bad record after a change says something of the image before it
pub fault_before : (f : List ℕ → List ℕ) (b c : Option (List ℕ)) (P Q : List ℕ → Type 0) (fault : RecordFault) → c ≡ option_map f b
    → HasCause c P fault
    → IfSome b (λ image. Q image → P (f image)) → HasCause b Q fault
fault_before f b c P Q DiskFault is cause so = tt
fault_before f b c P Q NoMemory is cause so = tt
fault_before f None c P Q (BadRecord at) is cause so = tt
fault_before f (Some image) c P Q (BadRecord at) is cause so =
    let before = subst (λ (o : Option (List ℕ)). HasCause o P (BadRecord at)) is cause in λ q. before (so q)

-- ---- blocks that are put

-- what is put within a draft leaves its length
pub put_len : {I T E : Type 0} (r : Result T E) (a b : Drafted I) (end : ℕ) → OnOk r (b.len ≡ max a.len end) → OnErr r (StaysAsItWas a b)
    → end ≤ a.len → b.len ≡ a.len
put_len (Ok x) a b end made same within = omega (arith, made)
put_len (Err e) a b end made same within = same.len

-- ---- bytes of blocks

pub pushed_ids : {T E : Type 0} (r : Result T E) (before after : List ℕ) (len : ℕ) (ids : List ℤ) (numbers bytes : List ℕ)
    → numbers ≡ map bits ids → bytes ≡ words numbers
    → OnOk r (after ≡ before ++ (bytes ++ zeros (len - length bytes))) → OnOk r (after ≡ before ++ id_field len ids)
pushed_ids (Err e) before after len ids numbers bytes is_numbers is_bytes ok = tt
pushed_ids (Ok x) before after len ids numbers bytes is_numbers is_bytes ok =
    let same : bytes ≡ words (map bits ids) = is_bytes ∙ ap words is_numbers in
    ok ∙ ap (λ (l : List ℕ). before ++ (l ++ zeros (len - length l))) same

with_link : (entry next : ℕ) → words (2 ∷ entry ∷ next ∷ []) ≡ words (2 ∷ entry ∷ []) ++ word next
unfolding words
with_link entry next = refl

list_link : (count link : ℕ) → words (count ∷ link ∷ []) ≡ word count ++ word link
unfolding words
list_link count link = refl

pub block_made : (a b c : List ℕ) (entry : ℤ) (e next : ℕ) (ids : List ℤ) → a ≡ [] → e ≡ bits entry → b ≡ a ++ words (2 ∷ e ∷ next ∷ [])
    → c ≡ b ++ id_field 180 ids
    → next < 2 ^ 32 → c ≡ more_block entry next ids
block_made a b c entry e next ids none is_entry is_b is_c small =
    let front : b ≡ words (2 ∷ bits entry ∷ []) ++ link_word next =
    is_b ∙ ap (λ (l : List ℕ). l ++ words (2 ∷ e ∷ next ∷ [])) none
    ∙ ap (λ (n : ℕ). words (2 ∷ n ∷ next ∷ [])) is_entry
    ∙ with_link (bits entry) next ∙ ap (λ (l : List ℕ). words (2 ∷ bits entry ∷ []) ++ l) (link_small next small) in
    is_c ∙ ap (λ (l : List ℕ). l ++ id_field 180 ids) front

pub list_made : (a b c d f : List ℕ) (block more : List ℕ) (count link : ℕ) (first ids : List ℤ) → a ≡ [] → b ≡ a ++ take 24 block
    → link ≡ link_to more
    → c ≡ b ++ words (count ∷ link ∷ []) → d ≡ c ++ take 80 (drop 32 block) → f ≡ d ++ id_field 80 first → count ≡ length ids
    → first ≡ take 19 ids
    → link < 2 ^ 32 → f ≡ with_list block (record { ids = ids; more = more })
unfolding with_list
list_made a b c d f block more count link first ids none is_b is_link is_c is_d is_f is_count is_first small =
    let own : PairList = record { ids = ids; more = more } in
    let front : b ≡ take 24 block = is_b ∙ ap (λ (l : List ℕ). l ++ take 24 block) none in
    let numbers : words (count ∷ link ∷ []) ≡ list_words own =
    list_link count link ∙ ap (λ (n : ℕ). word n ++ word link) is_count
    ∙ ap (λ (w : List ℕ). word (length ids) ++ w) (link_small link small) ∙ ap (λ (n : ℕ). word (length ids) ++ link_word n) is_link in
    let head : c ≡ take 24 block ++ list_words own =
    is_c ∙ ap (λ (l : List ℕ). l ++ words (count ∷ link ∷ [])) front ∙ ap (λ (l : List ℕ). take 24 block ++ l) numbers in
    is_f ∙ ap (λ (l : List ℕ). l ++ id_field 80 first) is_d
    ∙ ap (λ (l : List ℕ). (l ++ take 80 (drop 32 block)) ++ id_field 80 first) head
    ∙ ap (λ (l : List ℤ). ((take 24 block ++ list_words own) ++ take 80 (drop 32 block)) ++ id_field 80 l) is_first

-- ---- a block behind the last one

pub cause_same : (b c : Option (List ℕ)) (fits : List ℕ → Type 0) (fault : RecordFault) → c ≡ b → HasCause c fits fault
    → HasCause b fits fault
cause_same b c fits fault same cause = subst (λ (o : Option (List ℕ)). HasCause o fits fault) same cause

-- the first of them, and those behind it
pub parts_of : (xs : List ℕ) → 1 ≤ length xs → xs ≡ get_or xs 0 0 ∷ take (length xs - 1) (drop 1 xs)
parts_of [] some = absurd (omega arith)
parts_of (x ∷ xs) some = ap (λ (l : List ℕ). x ∷ l) (sym (take_all (length (x ∷ xs) - 1) xs (omega arith)))

pub drafts_looks : {I : Type 0} (g : Ghosts I) (a b c : Drafted I) (first failed : Type 0) → OnlyDrafts g a b first → OnlyLooks g b c failed
    → OnlyDrafts g a c failed
drafts_looks g a b c first failed r s = record {
  layout = s.same.layout ∙ r.layout;
  reads = record {
    held = s.reads.held ∙ r.reads.held;
    size = s.reads.size ∙ r.reads.size;
    came = g.comes_on a.image b.image c.image r.reads.came s.reads.came;
    never_falls = omega (arith, r.reads.never_falls, s.reads.never_falls);
    cause = λ h. omega (arith, r.reads.never_falls, s.reads.cause h);
  };
}
