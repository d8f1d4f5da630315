-- Words that are laid into the head of an image.
use Rattle.std.proofs.Common.{◌≡◌, ℕ, ℤ, ◌+◌, ◌<◌, ◌≤◌, List, ◌++◌, length, take, drop, refl, sym, ap, subst, ◌∙◌, arith}
use Rattle.std.proofs.lemmas.List.{length-drop, length-take-le}
use Rattle.ubik_types.specs.Image.{changed}
use Rattle.ubik_types.specs.declared.images.Change.TheVariants.{Put}
use Rattle.prdb_layout.specs.Blocks.{block_count}
use Rattle.db_blocks.specs.Blocks.{block_in as any_block}
use Rattle.db_blocks.specs.Bytes.{number_word, word, words}
use Rattle.db_blocks.proofs.BlockPlaces.{laid, changed_laid, laid_behind, laid_len, part_same, take_laid}
use Rattle.prdb_layout.specs.Bytes.{bits}
use Rattle.prdb_layout.specs.Records.{block_in, block_place, head_with, with_count}

-- ---- words in the head

pub record IsHeadPut (old new made : List ℕ) : Type 0 where
  pub size : length new ≡ length old
  pub head : take 2112 new ≡ made
  pub others : (j : ℕ) → j < block_count old → block_in new j ≡ block_in old j

head_put : (image bytes old_head new_head : List ℕ) (at n : ℕ) → length image ≡ block_place n → at + length bytes ≤ 2112
    → take 2112 image ≡ old_head
    → laid old_head at bytes ≡ new_head → IsHeadPut image (changed image (Put at bytes)) new_head
unfolding any_block
head_put image bytes old_head new_head at n size fits is made =
    let whole : changed image (Put at bytes) ≡ laid image at bytes = changed_laid image bytes at (omega arith) in
    let count : block_count image ≡ n = omega arith in
    subst (λ (new : List ℕ). IsHeadPut image new new_head) (sym whole) record {
      size = laid_len image bytes at (omega arith);
      head = take_laid image bytes at 2112 fits (omega arith) ∙ ap (λ (h : List ℕ). laid h at bytes) is ∙ made;
      others =
          λ j less. part_same (laid image at bytes) image (block_place j) 192 (omega (arith, laid_len image bytes at (omega arith)))
          (omega arith)
          (λ i from below. laid_behind image bytes at i (omega arith) (omega arith));
    }

count_head : (user group : ℤ) (old new : ℕ) → laid (head_with user group old) 16 (number_word new) ≡ head_with user group new
unfolding laid words
count_head user group old new = refl

pub put_count : (image : List ℕ) (user group : ℤ) (old new n : ℕ) → length image ≡ block_place n
    → take 2112 image ≡ head_with user group old
    → IsHeadPut image (with_count new image) (head_with user group new)
put_count image user group old new n size is =
    head_put image (number_word new) (head_with user group old) (head_with user group new) 16 n size (omega arith) is
    (count_head user group old new)

maxima_head : (user group u g : ℤ) (n : ℕ) → laid (head_with user group n) 8 (word (bits u) ++ word (bits g)) ≡ head_with u g n
unfolding laid words
maxima_head user group u g n = refl

pub put_maxima : (image : List ℕ) (user group u g : ℤ) (n : ℕ) → length image ≡ block_place n → take 2112 image ≡ head_with user group n
    → IsHeadPut image (changed image (Put 8 (word (bits u) ++ word (bits g)))) (head_with u g n)
put_maxima image user group u g n size is =
    head_put image (word (bits u) ++ word (bits g)) (head_with user group n) (head_with u g n) 8 n size (omega arith) is
    (maxima_head user group u g n)

pub block_len : (image : List ℕ) (k n : ℕ) → length image ≡ block_place n → k < n → length (block_in image k) ≡ 192
unfolding any_block
block_len image k n size below = length-take-le 192 (drop (block_place k) image) (omega (arith, length-drop (block_place k) image))
