-- What the calls on free blocks say of a draft, where its bytes are told.
use Rattle.std.proofs.Common.{◌≡◌, ◌≢◌, ℕ, ◌+◌, ◌-◌, ◌*◌, ◌<◌, ◌≤◌, Bool, true, false, cond, List, Option, Some, None, IfSome, length, drop, refl, sym, ap, subst, ◌∙◌, arith}
use Rattle.std.specs.Prelude.{◌==◌, IsSomeAnd, slice_get}
use Rattle.std.specs.List.{AllByRecursion}
use Rattle.std.specs.Option.{option_map}
use Rattle.std.proofs.lemmas.Bool.{eqb-true}
use Rattle.ubik_types.specs.Image.{changed}
use Rattle.ubik_types.specs.declared.images.Change.TheVariants.{Put}
use Rattle.db_image.specs.Draft.{Drafted, put_cost}
use Rattle.db_image.specs.Images.{ReadsAtMost}
use Rattle.db_image.specs.declared.images.ImageRead.{Ghosts}
use Rattle.db_image.specs.declared.services.Layout.{Layout}
use Rattle.db_image.proofs.ReadSteps.{reads_then}
use Rattle.db_blocks.specs.Blocks.{block_count, block_place, with_block, word_at}
use Rattle.db_blocks.specs.Bytes.{number_word}
use Rattle.db_blocks.proofs.Scanned.{count_is}
use Rattle.db_chains.specs.declared.changes.Until.TheVariants.{Above}
use Rattle.db_chains.specs.declared.free_blocks.FreeBlocks.{FreeBlocks}
use Rattle.db_chains.specs.declared.links.Links.{Links}
use Rattle.db_chains.specs.declared.walks.Stop.{Stop}
use Rattle.db_chains.specs.Chains.{HasChain}
use Rattle.db_chains.specs.Changes.{IsPlaced, first_at, is_until, place_above, put_in, put_word, taken_out, without_first}
use Rattle.db_chains.specs.Ends.{DraftsAtMost, LooksAtMost}
use Rattle.db_chains.specs.Free.{AreFree, IsAscending, IsFreed, IsTaken, blank, free_links, next_number, with_freed, with_new, with_taken}
use Rattle.db_chains.specs.Walks.{IsStop}
use Rattle.db_chains.proofs.Free.{by_one, is_out, taken_first, taken_new}
use Rattle.db_chains.proofs.Freed.{freed}

-- ---- frames

more_of : (x y m : ℕ) → x ≡ y → m + x ≤ m + y
more_of x y m same = omega arith

twice_of : (x y m most : ℕ) → x ≡ y → m + (4 + 2 * y) ≤ most → m + (4 + 2 * x) ≤ most
twice_of x y m most same fits = omega arith

-- a block is put after a walk, and a word is put in then
pub freed_frame : {I : Type 0} (g : Ghosts I) (m n most : ℕ) (a b c d : Drafted I) (first second failed : Type 0)
    → LooksAtMost g m a b first → n ≡ 192 → c.layout ≡ b.layout → ReadsAtMost g (put_cost b.layout n) b.image c.image second
    → DraftsAtMost g (4 + 2 * put_cost c.layout 4) c d failed → m + put_cost a.layout 192 + (4 + 2 * put_cost a.layout 4) ≤ most
    → DraftsAtMost g most a d failed
freed_frame g m n most a b c d first second failed looks same layout puts drafts fits =
    let under : b.layout ≡ a.layout = looks.looks.same.layout in
    let one : put_cost b.layout n ≡ put_cost a.layout 192 = ap (put_cost b.layout) same ∙ ap (λ (l : Layout). put_cost l 192) under in
    let two : put_cost c.layout 4 ≡ put_cost a.layout 4 = ap (λ (l : Layout). put_cost l 4) (layout ∙ under) in
    let both : ReadsAtMost g (m + put_cost a.layout 192) a.image c.image second =
    reads_then g m (put_cost b.layout n) (m + put_cost a.layout 192) a.image b.image c.image first second
    record { reads = looks.looks.reads; asked = looks.cost } puts (more_of (put_cost b.layout n) (put_cost a.layout 192) m one) in
    let all : ReadsAtMost g most a.image d.image failed =
    reads_then g (m + put_cost a.layout 192) (4 + 2 * put_cost c.layout 4) most a.image c.image d.image second failed both
    record { reads = drafts.drafts.reads; asked = drafts.cost }
    (twice_of (put_cost c.layout 4) (put_cost a.layout 4) (m + put_cost a.layout 192) most two fits) in
    record { drafts = record { layout = drafts.drafts.layout ∙ layout ∙ under; reads = all.reads }; cost = all.asked }

-- ---- a block is taken

pub bytes_new : (a b c : Option (List ℕ)) (f : FreeBlocks) (count place : ℕ) (block one : List ℕ) → place ≡ block_place f.head count
    → one ≡ number_word (count + 1) → b ≡ option_map (λ image. changed image (Put place block)) a
    → c ≡ option_map (λ image. changed image (Put f.count one)) b → c ≡ option_map (with_new f count block) a
unfolding with_new put_word
bytes_new None b c f count place block one is same first second =
    second ∙ ap (option_map (λ image. changed image (Put f.count one))) first
bytes_new (Some image) b c f count place block one is same first second =
    second ∙ ap (option_map (λ image. changed image (Put f.count one))) first
    ∙ ap (λ (bytes : List ℕ). Some (changed (changed image (Put place block)) (Put f.count bytes))) same
    ∙ ap (λ (p : ℕ). Some (changed (changed image (Put p block)) (Put f.count (number_word (count + 1))))) is

none_first : (b : Bool) (w : ℕ) → None ≡ cond b None (Some w) → b ≡ true
none_first true w is = refl
none_first false w is = absurd cc

some_first : (b : Bool) (n w : ℕ) → Some n ≡ cond b None (Some w) → (b ≡ false) × (n ≡ w)
some_first true n w is = absurd cc
some_first false n w is = (refl, cc)

on_true : {A : Type 0} (b : Bool) (x y : A) → b ≡ true → cond b x y ≡ x
on_true true x y is = refl
on_true false x y is = absurd cc

on_false : {A : Type 0} (b : Bool) (x y : A) → b ≡ false → cond b x y ≡ y
on_false true x y is = absurd cc
on_false false x y is = refl

-- where no block is free
no_first : (f : FreeBlocks) (block image : List ℕ) (count : ℕ) → length image ≡ block_place f.head count → None ≡ first_at image f.first
    → (without_first (free_links f) f.first image ≡ image) × (with_new f count block image ≡ with_taken f block image)
    × (count + 1 ≡ next_number f image) × (word_at image f.first ≡ 0)
unfolding without_first with_taken
no_first f block image count size none =
    let b = word_at image f.first == 0 in
    let is : b ≡ true = none_first b (word_at image f.first) none in
    let m : block_count f.head image ≡ count = count_is f.head image count size in (
      on_true b image (taken_out (free_links f) f.first image) is,
      ap (λ (n : ℕ). with_new f n block image) (sym m)
          ∙ sym (on_true b (with_new f (block_count f.head image) block image)
          (with_block f.head (word_at image f.first - 1) block (taken_out (free_links f) f.first image)) is),
      ap (λ (n : ℕ). n + 1) (sym m) ∙ sym (on_true b (block_count f.head image + 1) (word_at image f.first) is),
      eqb-true (word_at image f.first) 0 is,
    )

a_first : (f : FreeBlocks) (block image : List ℕ) (n : ℕ) → Some n ≡ first_at image f.first
    → (without_first (free_links f) f.first image ≡ taken_out (free_links f) f.first image)
    × (with_block f.head (n - 1) block (taken_out (free_links f) f.first image) ≡ with_taken f block image)
    × (n ≡ next_number f image) × (n ≡ word_at image f.first)
unfolding without_first with_taken
a_first f block image n some =
    let b = word_at image f.first == 0 in
    let is = some_first b n (word_at image f.first) some in (
      on_false b image (taken_out (free_links f) f.first image) is.0,
      ap (λ (k : ℕ). with_block f.head (k - 1) block (taken_out (free_links f) f.first image)) is.1
          ∙ sym (on_false b (with_new f (block_count f.head image) block image)
          (with_block f.head (word_at image f.first - 1) block (taken_out (free_links f) f.first image)) is.0),
      is.1 ∙ sym (on_false b (block_count f.head image + 1) (word_at image f.first) is.0),
      is.1,
    )

pub bytes_taken_new : (a b c : Option (List ℕ)) (f : FreeBlocks) (block : List ℕ) (count len : ℕ) → IfSome a (λ image. length image ≡ len)
    → len ≡ block_place f.head count → IfSome a (λ image. None ≡ first_at image f.first)
    → b ≡ option_map (without_first (free_links f) f.first) a → c ≡ option_map (with_new f count block) b
    → c ≡ option_map (with_taken f block) a
bytes_taken_new None b c f block count len told size none first second = second ∙ ap (option_map (with_new f count block)) first
bytes_taken_new (Some image) b c f block count len told size none first second =
    let n = no_first f block image count (told ∙ size) none in
    second ∙ ap (option_map (with_new f count block)) first ∙ ap (λ (x : List ℕ). Some (with_new f count block x)) n.0 ∙ ap Some n.1

some_and : (c : Option (List ℕ)) (new : List ℕ) (P : List ℕ → Type 0) → c ≡ Some new → P new → IsSomeAnd c P
some_and c new P is holds = subst (λ (o : Option (List ℕ)). IsSomeAnd o P) (sym is) holds

pub is_taken_new : (a b c : Option (List ℕ)) (f : FreeBlocks) (block : List ℕ) (count len : ℕ) → AreFree f
    → IfSome a (λ image. length image ≡ len)
    → len ≡ block_place f.head count → length block ≡ 192 → IfSome a (λ image. None ≡ first_at image f.first)
    → b ≡ option_map (without_first (free_links f) f.first) a → c ≡ option_map (with_new f count block) b
    → IfSome a (λ image. IsSomeAnd c (IsTaken f block image (count + 1)))
is_taken_new None b c f block count len free told size full none first second = tt
is_taken_new (Some image) b c f block count len free told size full none first second =
    let n = no_first f block image count (told ∙ size) none in
    some_and c (with_new f count block image) (IsTaken f block image (count + 1))
    (second ∙ ap (option_map (with_new f count block)) first ∙ ap (λ (x : List ℕ). Some (with_new f count block x)) n.0)
    (taken_new f block image count free (told ∙ size) full n.3)

pub bytes_taken_first : (a b c : Option (List ℕ)) (f : FreeBlocks) (block : List ℕ) (n place : ℕ) → place ≡ block_place f.head (n - 1)
    → IfSome a (λ image. Some n ≡ first_at image f.first) → b ≡ option_map (without_first (free_links f) f.first) a
    → c ≡ option_map (λ image. changed image (Put place block)) b → c ≡ option_map (with_taken f block) a
bytes_taken_first None b c f block n place is some first second =
    second ∙ ap (option_map (λ image. changed image (Put place block))) first
bytes_taken_first (Some image) b c f block n place is some first second =
    let k = a_first f block image n some in
    second ∙ ap (option_map (λ image. changed image (Put place block))) first
    ∙ ap (λ (p : ℕ). Some (changed (without_first (free_links f) f.first image) (Put p block))) is
    ∙ ap (λ (x : List ℕ). Some (with_block f.head (n - 1) block x)) k.0 ∙ ap Some k.1

-- the number of a free block is that of a block
pub placed_number : (f : FreeBlocks) (count len n : ℕ) → AreFree f → len ≡ block_place f.head count → IsPlaced (free_links f) len n
    → (0 < n) × (n ≤ count)
placed_number f count len n free size placed =
    let one = by_one n in
    let some = placed.some in
    let within = placed.within in
    let mark = free.links.mark in
    (omega arith, omega arith)

chains_mid : (b : Option (List ℕ)) (l : Links) (image mid : List ℕ) (at n : ℕ) → b ≡ Some mid
    → ((ws : List ℕ) → HasChain l image at ws → (Some n ≡ slice_get ws 0) × IsSomeAnd b (λ new. HasChain l new at (drop 1 ws)))
    → (ws : List ℕ) → HasChain l image at ws → HasChain l mid at (drop 1 ws)
chains_mid b l image mid at n is all ws chain =
    subst (λ (o : Option (List ℕ)). IsSomeAnd o (λ new. HasChain l new at (drop 1 ws))) is (all ws chain).1

pub is_taken_first : (a b c : Option (List ℕ)) (f : FreeBlocks) (block : List ℕ) (count len n place : ℕ) → AreFree f
    → IfSome a (λ image. length image ≡ len) → len ≡ block_place f.head count → length block ≡ 192 → IsPlaced (free_links f) len n
    → place ≡ block_place f.head (n - 1)
    → IfSome a (λ image. Some n ≡ first_at image f.first) → b ≡ option_map (without_first (free_links f) f.first) a
    → IfSome a (λ image. (ws : List ℕ) → HasChain (free_links f) image f.first ws
    → (Some n ≡ slice_get ws 0) × IsSomeAnd b (λ new. HasChain (free_links f) new f.first (drop 1 ws)))
    → c ≡ option_map (λ image. changed image (Put place block)) b → IfSome a (λ image. IsSomeAnd c (IsTaken f block image n))
is_taken_first None b c f block count len n place free told size full placed is some first chains second = tt
is_taken_first (Some image) b c f block count len n place free told size full placed is some first chains second =
    let l = free_links f in
    let k = a_first f block image n some in
    let p = placed_number f count len n free size placed in
    let mid = taken_out l f.first image in
    let made : b ≡ Some mid = first ∙ ap Some k.0 in
    let there : word_at image f.first ≡ n = sym k.3 in
    some_and c (with_block f.head (n - 1) block mid) (IsTaken f block image n)
    (second ∙ ap (option_map (λ image. changed image (Put place block))) made
    ∙ ap (λ (q : ℕ). Some (changed mid (Put q block))) is)
    (taken_first f block image mid count n free (told ∙ size) full there p.0 p.1
    (is_out f image count n free (told ∙ size) there p.0 p.1) (chains_mid b l image mid f.first n made chains))

-- ---- a block is freed

stop_above : (a : Option (List ℕ)) (l : Links) (at n : ℕ) (stop : Stop) → IfSome a (λ image. IsStop l (is_until (Above n)) image at stop)
    → IfSome a (λ image. stop.place ≡ place_above l at n image)
stop_above None l at n stop is = tt
stop_above (Some image) l at n stop is = is.place

pub bytes_freed : (a b c d : Option (List ℕ)) (f : FreeBlocks) (n place : ℕ) (stop : Stop) (block : List ℕ)
    → IfSome a (λ image. IsStop (free_links f) (is_until (Above n)) image f.first stop) → b ≡ a → place ≡ block_place f.head (n - 1)
    → block ≡ blank f → c ≡ option_map (λ image. changed image (Put place block)) b → d ≡ option_map (put_in (free_links f) stop.place n) c
    → d ≡ option_map (with_freed f n) a
unfolding with_freed
bytes_freed None b c d f n place stop block stands same is full first second =
    second ∙ ap (option_map (put_in (free_links f) stop.place n)) (first ∙ ap (option_map (λ image. changed image (Put place block))) same)
bytes_freed (Some image) b c d f n place stop block stands same is full first second =
    second
    ∙ ap (option_map (put_in (free_links f) stop.place n)) (first ∙ ap (option_map (λ image. changed image (Put place block))) same)
    ∙ ap (λ (p : ℕ). Some (put_in (free_links f) stop.place n (changed image (Put p block)))) is
    ∙ ap (λ (x : List ℕ). Some (put_in (free_links f) stop.place n (with_block f.head (n - 1) x image))) full
    ∙ ap (λ (p : ℕ). Some (put_in (free_links f) p n (with_block f.head (n - 1) (blank f) image)))
    (stop_above (Some image) (free_links f) f.first n stop stands)

pub is_freed : (a b c d : Option (List ℕ)) (f : FreeBlocks) (count len n place : ℕ) (stop : Stop) (block : List ℕ) → AreFree f
    → IfSome a (λ image. length image ≡ len) → len ≡ block_place f.head count → 0 < n → n ≤ count
    → IfSome a (λ image. IsStop (free_links f) (is_until (Above n)) image f.first stop) → b ≡ a → place ≡ block_place f.head (n - 1)
    → block ≡ blank f → c ≡ option_map (λ image. changed image (Put place block)) b → d ≡ option_map (put_in (free_links f) stop.place n) c
    → IfSome a (λ image. (ws : List ℕ) → HasChain (free_links f) image f.first ws → IsAscending ws → AllByRecursion (λ v. v ≢ n) ws
    → IsSomeAnd d (IsFreed f ws n image))
is_freed None b c d f count len n place stop block free told size some below stands same is full first second = tt
is_freed (Some image) b c d f count len n place stop block free told size some below stands same is full first second =
    λ ws chain up others.
    some_and d (with_freed f n image) (IsFreed f ws n image)
    (bytes_freed (Some image) b c d f n place stop block stands same is full first second)
    (freed f image count n ws free (told ∙ size) some below chain up others)
