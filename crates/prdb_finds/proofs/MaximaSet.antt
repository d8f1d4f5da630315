-- The image after other maxima holds the registry with them, and what it makes of a draft.
use Rattle.std.proofs.Common.{◌≡◌, ℕ, ℤ, ◌+◌, ◌-◌, ◌/◌, ◌<◌, ◌≤◌, inr, ⊎_elim, Bool, true, false, ◌&&◌, cond, List, [], ◌∷◌, ◌++◌, Option, Some, None, IfSome, IsSomeAnd, Result, Ok, Err, OnOk, length, refl, sym, ap, subst, ◌∙◌, arith}
use Rattle.std.specs.Option.{option_map}
use Rattle.std.specs.Ordering.{int_eq}
use Rattle.std.proofs.lemmas.Bool.{cases_Bool}
use Rattle.ubik_types.specs.Image.{changed}
use Rattle.ubik_types.specs.declared.images.Change.TheVariants.{Put}
use Rattle.db_image.specs.Draft.{Drafted, put_cost}
use Rattle.db_image.specs.declared.images.ImageRead.{Ghosts}
use Rattle.db_image.specs.declared.services.Layout.{Layout}
use Rattle.db_blocks.specs.Blocks.{IsWhole, block_in as any_block, word_at, kind_of}
use Rattle.db_chains.specs.declared.links.Links.{Links}
use Rattle.db_chains.specs.Chains.{HasChain}
use Rattle.db_chains.specs.Ends.{DraftsAtMost, LooksAtMost}
use Rattle.db_chains.specs.Visits.{Visits}
use Rattle.db_chains.specs.Free.{free_links}
use Rattle.db_chains.specs.Links.{AreLinks, block_of, next_place}
use Rattle.db_chains.specs.Others.{NamesSame}
use Rattle.db_chains.proofs.Bytes.{put_len, put_stays, word_stays}
use Rattle.db_chains.proofs.Results.{drafts_on}
use Rattle.db_chains.proofs.Framed.{block_stays, block_word, named_stays}
use Rattle.db_chains.proofs.Words.{right_names}
use Rattle.prdb_layout.specs.Blocks.{block_count}
use Rattle.db_blocks.specs.Bytes.{word}
use Rattle.prdb_layout.specs.Bytes.{bits}
use Rattle.prdb_layout.specs.Records.{after_set_maxima as entries_after, block_in, entry_in, maxima_in, whole as entries_whole}
use Rattle.prdb_layout.specs.Registry.{AreMaxima, Registry, with_maxima}
use Rattle.prdb_layout.specs.State.{PrEntry}
use Rattle.prdb_layout.proofs.Held.{maxima_of}
use Rattle.prdb_layout.proofs.LaidOut.{whole_same as entries_same}
use Rattle.prdb_lists.specs.Layout.{HoldsPairs}
use Rattle.prdb_lists.specs.Members.{Members}
use Rattle.prdb_lists.proofs.RecordsKeep.{maxima_keep}
use Rattle.prdb_finds.specs.Changes.{after_set_maxima, maxima_cost}
use Rattle.prdb_finds.specs.Places.{entry_links, free_blocks, id_place, name_place, owned_place}
use Rattle.prdb_finds.specs.Records.{AreChains, HasIdKey, HasNameKey, Holds, IsEntryAt, IsGroupOf, IsOwned, whole}
use Rattle.prdb_finds.specs.Unchained.{unchained}
use Rattle.prdb_finds.proofs.HeadTold.{told_maxima}
use Rattle.prdb_finds.proofs.Laid.{head_laid}
use Rattle.prdb_finds.proofs.Taken.{free_all, not_free}
use Rattle.prdb_finds.proofs.Told.{laid_without, whole_same}
use Rattle.prdb_finds.proofs.Without.{unchained_len}

-- ---- an image with the same blocks, and the same first words of chains

pub record IsHeadSet (old new : List ℕ) : Type 0 where
  pub size : length new ≡ length old
  pub blocks : (k : ℕ) → k < block_count old → block_in new k ≡ block_in old k
  pub words : (p : ℕ) → 20 ≤ p → p + 4 ≤ 2112 → word_at new p ≡ word_at old p

named_same : (l : Links) (old new : List ℕ) (at : ℕ) (ws : List ℕ) → l.head ≡ 2112 → IsHeadSet old new → HasChain l old at ws
    → NamesSame l old new ws
named_same l old new at [] head set chain = tt
named_same l old new at (w ∷ ws) head set chain =
    let n = right_names l old w chain.1 in
    let k = block_of l w in
    let count = ap (λ (h : ℕ). (length old - h) / 192) head in (
      subst (λ (h : ℕ). any_block h new k ≡ any_block h old k) (sym head)
          (set.blocks k (omega (arith, n.some, n.block, count))),
      named_same l old new (next_place l w) ws head set chain.2,
    )

chain_same : (l : Links) (old new : List ℕ) (at : ℕ) (ws : List ℕ) → AreLinks l → l.head ≡ 2112 → IsHeadSet old new
    → word_at new at ≡ word_at old at → HasChain l old at ws → HasChain l new at ws
chain_same l old new at ws links head set first chain =
    named_stays l at old new ws links (omega (arith, set.size)) first (named_same l old new at ws head set chain) chain

at_same : (old new : List ℕ) (P : PrEntry → Type 0) (w : ℕ) → length new ≡ length old
    → ((k : ℕ) → k < block_count old → block_in new k ≡ block_in old k)
    → IsEntryAt old P w → IsEntryAt new P w
at_same old new P w size blocks is =
    let same = blocks (w - 1) (omega (arith, is.some, is.within)) in record {
      some = is.some;
      within = omega (arith, is.within, size);
      kind = ap kind_of same ∙ is.kind;
      belongs = subst (λ (b : List ℕ). P (entry_in b)) (sym same) is.belongs;
    }

at_back : (old new : List ℕ) (P : PrEntry → Type 0) (w : ℕ) → IsHeadSet old new → IsEntryAt new P w → IsEntryAt old P w
at_back old new P w set is =
    at_same new old P w (sym set.size) (λ k below. sym (set.blocks k (omega (arith, below, set.size)))) is

visits_same : (next : ℕ) (old new : List ℕ) (at : ℕ) (P : PrEntry → Type 0) → 4 ≤ next → next + 4 ≤ 192 → IsHeadSet old new
    → word_at new at ≡ word_at old at
    → Visits (entry_links next) old at (IsEntryAt old P) → Visits (entry_links next) new at (IsEntryAt new P)
visits_same next old new at P from fits set first v = record {
  words = v.words;
  chain = chain_same (entry_links next) old new at v.words (not_free next from fits).links refl set first v.chain;
  only = λ w has. at_same old new P w set.size set.blocks (v.only w has);
  each = λ w belongs. v.each w (at_back old new P w set belongs);
}

pub chains_same : (old new : List ℕ) → IsHeadSet old new → AreChains old → AreChains new
chains_same old new set are =
    let less : (k : ℕ) → k < block_count new → k < block_count old = λ k below. omega (arith, below, set.size) in record {
      names = λ key low. visits_same 96 old new (name_place key) (HasNameKey key) (omega arith) (omega arith) set
          (set.words (name_place key) (omega arith) (omega arith)) (are.names key low);
      ids = λ key low. visits_same 100 old new (id_place key) (HasIdKey key) (omega arith) (omega arith) set
          (set.words (id_place key) (omega arith) (omega arith)) (are.ids key low);
      owned = λ k below kind.
          let same = set.blocks k (less k below) in
          subst (λ (b : List ℕ). Visits (entry_links 104) new (owned_place k) (IsEntryAt new (IsGroupOf (entry_in b).id))) (sym same)
          (visits_same 104 old new (owned_place k) (IsGroupOf (entry_in (block_in old k)).id) (omega arith) (omega arith) set
          (block_word 2112 k 108 old new (omega arith) same)
          (are.owned k (less k below) (ap kind_of (sym same) ∙ kind)));
      unused = λ k below kind not.
          let same = set.blocks k (less k below) in
          ap (λ (b : List ℕ). word_at b 104) same
          ∙ are.unused k (less k below) (ap kind_of (sym same) ∙ kind)
          (λ owned. not (subst (λ (b : List ℕ). IsOwned (entry_in b)) (sym same) owned));
      free = record {
        words = are.free.words;
        chain = chain_same (free_links free_blocks) old new 20 are.free.words free_all.links refl set
            (set.words 20 (omega arith) (omega arith)) are.free.chain;
        ascending = are.free.ascending;
        each = λ k below free. are.free.each k (less k below) (ap kind_of (sym (set.blocks k (less k below))) ∙ free);
      };
    }

-- bytes before them
pub head_set : (image bytes : List ℕ) (p : ℕ) → IsWhole 2112 image → p + length bytes ≤ 20
    → IsHeadSet image (changed image (Put p bytes))
head_set image bytes p whole within =
    let new = changed image (Put p bytes) in
    let stays = put_stays image bytes p (omega (arith, whole)) in
    record {
      size = put_len image bytes p (omega (arith, whole));
      blocks = λ k below.
          block_stays 2112 p (length bytes) k image new stays (omega (arith, whole)) (inr (omega arith));
      words = λ q from below. word_stays p (length bytes) q image new stays (omega (arith, whole)) (inr (omega arith));
    }

-- ---- other maxima

abbrev words_of : (user group : ℤ) → List ℕ
words_of user group = word (bits user) ++ word (bits group)

abbrev is_same : ℤ × ℤ → (user group : ℤ) → Bool
is_same found user group = int_eq found.0 user && int_eq found.1 group

after_is : (image : List ℕ) (user group : ℤ) (b : Bool) → is_same (maxima_in (whole image)) user group ≡ b
    → after_set_maxima user group image ≡ cond b image (changed (whole image) (Put 8 (words_of user group)))
unfolding after_set_maxima
after_is image user group b is = ap (λ (t : Bool). cond t image (changed (whole image) (Put 8 (words_of user group)))) is

without_is : (image : List ℕ) (user group : ℤ) (b : Bool) → is_same (maxima_in (entries_whole image)) user group ≡ b
    → entries_after user group image ≡ cond b image (changed (entries_whole image) (Put 8 (words_of user group)))
unfolding entries_after
without_is image user group b is = ap (λ (t : Bool). cond t image (changed (entries_whole image) (Put 8 (words_of user group)))) is

pub maxima_held : (image : List ℕ) (r : Registry) (m : Members) (user group : ℤ) → Holds image r m → AreMaxima user group
    → Holds (after_set_maxima user group image) (with_maxima user group r) m
maxima_held image r m user group holds are =
    let old = whole image in
    let u = unchained old in
    let b = is_same (maxima_in old) user group in
    let size = unchained_len old holds.size in
    let same : entries_whole u ≡ u = entries_same u (omega (arith, size)) in
    let told : maxima_in (entries_whole u) ≡ maxima_in old =
    ap maxima_in same ∙ maxima_of u r (laid_without image r m holds) holds.pairs.holds.valid.maxima ∙ sym (told_maxima image r m holds) in
    let pairs = maxima_keep u r m user group holds.pairs are in
    let form = without_is u user group b (ap (λ (x : ℤ × ℤ). is_same x user group) told) in
    let made = after_is image user group b refl in
    ⊎_elim
    (λ (yes : b ≡ true).
    let kept : after_set_maxima user group image ≡ image =
    made ∙ ap (λ (t : Bool). cond t image (changed old (Put 8 (words_of user group)))) yes in
    let bare : entries_after user group u ≡ u =
    form ∙ ap (λ (t : Bool). cond t u (changed (entries_whole u) (Put 8 (words_of user group)))) yes in
    subst (λ (i : List ℕ). Holds i (with_maxima user group r) m) (sym kept) record {
      size = holds.size;
      pairs = subst (λ (i : List ℕ). HoldsPairs i (with_maxima user group r) m) bare pairs;
      chains = holds.chains;
    })
    (λ (no : b ≡ false).
    let new = changed old (Put 8 (words_of user group)) in
    let is : after_set_maxima user group image ≡ new =
    made ∙ ap (λ (t : Bool). cond t image (changed old (Put 8 (words_of user group)))) no in
    let bare : entries_after user group u ≡ changed u (Put 8 (words_of user group)) =
    form ∙ ap (λ (t : Bool). cond t u (changed (entries_whole u) (Put 8 (words_of user group)))) no
    ∙ ap (λ (i : List ℕ). changed i (Put 8 (words_of user group))) same in
    let set = head_set old (words_of user group) 8 holds.size (omega arith) in
    let whole_new : whole new ≡ new = whole_same new (omega (arith, set.size, holds.size)) in
    let there : IsWhole 2112 new = omega (arith, set.size, holds.size) in
    subst (λ (i : List ℕ). Holds i (with_maxima user group r) m) (sym is) record {
      size = subst (λ (i : List ℕ). IsWhole 2112 i) (sym whole_new) there;
      pairs = subst (λ (i : List ℕ). HoldsPairs i (with_maxima user group r) m)
          (bare ∙ sym (head_laid old (words_of user group) 8 holds.size (omega arith)) ∙ ap unchained (sym whole_new)) pairs;
      chains = subst AreChains (sym whole_new) (chains_same old new set holds.chains);
    })
    (cases_Bool b)

-- ---- what it makes of a draft

pub makes_from : (may : Registry → Members → Type 0) (change : Registry → Registry) (after : List ℕ → List ℕ) (old new : Option (List ℕ))
    → new ≡ option_map after old
    → IfSome old (λ image. (r : Registry) (m : Members) → Holds image r m → may r m → Holds (after image) (change r) m)
    → IfSome old (λ image. (r : Registry) (m : Members) → Holds image r m → may r m → IsSomeAnd new (λ a. Holds a (change r) m))
makes_from may change after None new is so = tt
makes_from may change after (Some image) new is so = λ r m holds can.
    subst (λ (o : Option (List ℕ)). IsSomeAnd o (λ a. Holds a (change r) m)) (sym is) (so r m holds can)

each_held : (bytes : Option (List ℕ)) (user group : ℤ) → AreMaxima user group
    → IfSome bytes (λ image. (r : Registry) (m : Members) → Holds image r m → Unit {0}
    → Holds (after_set_maxima user group image) (with_maxima user group r) m)
each_held None user group are = tt
each_held (Some image) user group are = λ r m holds may. maxima_held image r m user group holds are

pub maxima_make : (bytes after : Option (List ℕ)) (user group : ℤ) → AreMaxima user group
    → after ≡ option_map (after_set_maxima user group) bytes
    → IfSome bytes (λ image. (r : Registry) (m : Members) → Holds image r m → Unit {0}
    → IsSomeAnd after (λ a. Holds a (with_maxima user group r) m))
maxima_make bytes after user group are made =
    makes_from (λ r m. Unit {0}) (with_maxima user group) (after_set_maxima user group) bytes after made (each_held bytes user group are)

pub maxima_same : (bytes : Option (List ℕ)) (user group : ℤ) (found : ℤ × ℤ) → IfSome bytes (λ image. found ≡ maxima_in (whole image))
    → (int_eq found.0 user && int_eq found.1 group) ≡ true → bytes ≡ option_map (after_set_maxima user group) bytes
maxima_same None user group found is same = refl
maxima_same (Some image) user group found is same =
    ap Some (sym (after_is image user group true (ap (λ (x : ℤ × ℤ). is_same x user group) (sym is) ∙ same)))

pub maxima_other : (bytes after : Option (List ℕ)) (user group : ℤ) (found : ℤ × ℤ) (words : List ℕ)
    → IfSome bytes (λ image. found ≡ maxima_in (whole image))
    → (int_eq found.0 user && int_eq found.1 group) ≡ false → words ≡ words_of user group
    → after ≡ option_map (λ image. changed (whole image) (Put 8 words)) bytes → after ≡ option_map (after_set_maxima user group) bytes
maxima_other None after user group found words is other same made = made
maxima_other (Some image) after user group found words is other same made =
    made ∙ ap (λ (w : List ℕ). Some (changed (whole image) (Put 8 w))) same
    ∙ ap Some (sym (after_is image user group false (ap (λ (x : ℤ × ℤ). is_same x user group) (sym is) ∙ other)))

-- the same where the last step may fail
pub maxima_ok : {T E : Type 0} (r : Result T E) (bytes mid after : Option (List ℕ)) (user group : ℤ) (found : ℤ × ℤ) (words : List ℕ)
    → mid ≡ bytes → IfSome bytes (λ image. found ≡ maxima_in (whole image)) → (int_eq found.0 user && int_eq found.1 group) ≡ false
    → words ≡ word (bits user) ++ word (bits group)
    → OnOk r (after ≡ option_map (λ image. changed (whole image) (Put 8 words)) mid)
    → OnOk r (after ≡ option_map (after_set_maxima user group) bytes)
maxima_ok (Err x) bytes mid after user group found words kept is other same made = tt
maxima_ok (Ok x) bytes mid after user group found words kept is other same made =
    maxima_other bytes after user group found words is other same
    (made ∙ ap (option_map (λ image. changed (whole image) (Put 8 words))) kept)

pub maxima_make_ok : {T E : Type 0} (r : Result T E) (bytes after : Option (List ℕ)) (user group : ℤ) → AreMaxima user group
    → OnOk r (after ≡ option_map (after_set_maxima user group) bytes)
    → OnOk r (IfSome bytes (λ image. (q : Registry) (m : Members) → Holds image q m → Unit {0}
    → IsSomeAnd after (λ a. Holds a (with_maxima user group q) m)))
maxima_make_ok (Err x) bytes after user group are made = tt
maxima_make_ok (Ok x) bytes after user group are made = maxima_make bytes after user group are made

-- ---- what it costs

fits_three : (x y a b : ℕ) → x ≡ a → y ≡ b → 8 + (x + y) ≤ 8 + (a + b)
fits_three x y a b one two = omega arith

pub maxima_frame : {I : Type 0} (g : Ghosts I) (len : ℕ) (a b c : Drafted I) (first failed : Type 0) → LooksAtMost g 8 a b first
    → DraftsAtMost g (put_cost b.layout 3264 + put_cost b.layout len) b c failed → len ≡ 8
    → DraftsAtMost g (maxima_cost a.layout) a c failed
maxima_frame g len a b c first failed looks drafts long =
    let layout = looks.looks.same.layout in
    drafts_on g 8 (put_cost b.layout 3264 + put_cost b.layout len) (maxima_cost a.layout) a b c first failed looks drafts
    (fits_three (put_cost b.layout 3264) (put_cost b.layout len) (put_cost a.layout 3264) (put_cost a.layout 8)
    (ap (λ (l : Layout). put_cost l 3264) layout) (ap (put_cost b.layout) long ∙ ap (λ (l : Layout). put_cost l 8) layout))
