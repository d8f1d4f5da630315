-- What was read of a database file, where the disk tells its files.
use Rattle.std.proofs.Common.{◌≡◌, ◌<◌, ◌≤◌, ◌+◌, ◌*◌, ◌-◌, ◌∙◌, ℕ, min, List, ◌++◌, length, take, drop, get_or, replicate, Option, Some, None, IfSome, arith, ap, sym, subst, length-take, length-drop}
use Rattle.std.proofs.lemmas.Grind.{common_steps}
use Rattle.std.proofs.Math.Seq.{take-add}
use Rattle.std.proofs.lemmas.List.{drop-drop, get_or-replicate, length-replicate}
use Rattle.std.proofs.lemmas.Slice.{take-put_mid}
use borrow.Rule.Slice.PartMut.{put_mid}
use Rattle.disk_base.specs.Files.{Files}
use Rattle.page_file.specs.Kept.{IsPageOf}
use Rattle.page_file.specs.Label.{IsHeadOf}
use Rattle.page_file.specs.Pages.{image_of}

-- a front of a list has the length that was asked for
pub length_front : (list : List ℕ) (n : ℕ) → n ≤ length list → length (take n list) ≡ n
length_front list n within = omega (arith, length-take n list)

-- and so has a piece of it
pub length_piece : (list : List ℕ) (i n : ℕ) → i + n ≤ length list → length (take (i + n - i) (drop i list)) ≡ n
length_piece list i n within =
    omega (arith, length-take (i + n - i) (drop i list), length-drop i list)

-- the first bytes of a file, and behind them zero bytes
head_byte : (file bytes zeros : List ℕ) (n k : ℕ) → ((j : ℕ) → j < 64 → get_or zeros j 0 ≡ 0) → length zeros ≡ 64
    → n ≡ min (length file) 64 → bytes ≡ take n file → k < 64 → get_or (bytes ++ drop n zeros) k 0 ≡ get_or file k 0
head_byte file bytes zeros n k zero long is read below = grind (arith, common_steps)

head_length : (file bytes zeros : List ℕ) (n : ℕ) → length zeros ≡ 64 → n ≡ min (length file) 64 → bytes ≡ take n file
    → length (bytes ++ drop n zeros) ≡ 64
head_length file bytes zeros n long is read = grind (arith, common_steps)

-- the first bytes of a file that were read over zero bytes are its head
pub head_read : (files : Option Files) (len n m : ℕ) (bytes : List ℕ) → n ≡ min len 64 → m ≡ n
    → IfSome files (λ fs. len ≡ length fs.database) → IfSome files (λ fs. bytes ≡ take m (drop 0 fs.database))
    → IfSome files (λ fs. IsHeadOf (bytes ++ drop n (replicate 64 0)) fs.database)
head_read None len n m bytes is same told read = tt
head_read (Some fs) len n m bytes is same told read =
    let zeros : List ℕ = replicate 64 0 in
    let first : n ≡ min (length fs.database) 64 = is ∙ ap (λ (m : ℕ). min m 64) told in
    let front : bytes ≡ take n fs.database = read ∙ ap (λ (i : ℕ). take i fs.database) same in
    record {
      len = head_length fs.database bytes zeros n (omega arith) first front;
      bytes = λ k below. head_byte fs.database bytes zeros n k (λ j h. get_or-replicate 64 j 0 0 h) (omega arith) first front below;
    }

-- what lies within the image lies within the file
pub within_file : (files : Option Files) (at n : ℕ) → 0 < n → IfSome files (λ fs. at + n ≤ length (image_of fs.database))
    → IfSome files (λ fs. 64 + at + n ≤ length fs.database)
within_file None at n some within = tt
within_file (Some fs) at n some within = omega (arith, length-drop 64 fs.database)

-- bytes of the file from 64 on are bytes of the image
pub image_read : (files : Option Files) (at n : ℕ) (bytes : List ℕ) → IfSome files (λ fs. bytes ≡ take n (drop (64 + at) fs.database))
    → IfSome files (λ fs. bytes ≡ take n (drop at (image_of fs.database)))
image_read None at n bytes read = tt
image_read (Some fs) at n bytes read = rw drop-drop read

piece_read : (image buf piece : List ℕ) (at done part m k : ℕ) → done + part ≤ length buf → length piece ≡ part → m ≡ part
    → take done buf ≡ take done (drop at image) → piece ≡ take m (drop (at + done) image)
    → take (done + part) (put_mid done k buf piece) ≡ take (done + part) (drop at image)
piece_read image buf piece at done part m k within long same front read =
    take-put_mid done k buf piece (done + part) (omega arith) (omega arith)
    ∙ ap (λ (l : List ℕ). l ++ piece) front
    ∙ ap (λ (l : List ℕ). take done (drop at image) ++ l)
    (read ∙ ap (λ (n : ℕ). take n (drop (at + done) image)) same ∙ ap (take part) (sym (drop-drop done at image)))
    ∙ sym (take-add done part (drop at image))

-- one more piece of a range, behind those that were read
pub range_read : (before after : Option Files) (at done part m k : ℕ) (buf piece : List ℕ) → after ≡ before → done + part ≤ length buf
    → length piece ≡ part → m ≡ part → IfSome before (λ fs. take done buf ≡ take done (drop at (image_of fs.database)))
    → IfSome before (λ fs. piece ≡ take m (drop (at + done) (image_of fs.database)))
    → IfSome after (λ fs. take (done + part) (put_mid done k buf piece) ≡ take (done + part) (drop at (image_of fs.database)))
range_read None None at done part m k buf piece stays within long same front read = tt
range_read None (Some fs) at done part m k buf piece stays within long same front read = absurd cc
range_read (Some fs) None at done part m k buf piece stays within long same front read = tt
range_read (Some fs) (Some now) at done part m k buf piece stays within long same front read =
    let kept : now ≡ fs = cc in
    piece_read (image_of fs.database) buf piece at done part m k within long same front read
    ∙ ap (λ (f : Files). take (done + part) (drop at (image_of f.database))) (sym kept)

-- the same, by the positions that the code has
pub range_read_to : (before after : Option Files) (at done place upto part m k : ℕ) (buf piece : List ℕ) → after ≡ before
    → place ≡ at + done → upto ≡ done + part → done + part ≤ length buf → length piece ≡ part → m ≡ part
    → IfSome before (λ fs. take done buf ≡ take done (drop at (image_of fs.database)))
    → IfSome before (λ fs. piece ≡ take m (drop place (image_of fs.database)))
    → IfSome after (λ fs. take upto (put_mid done k buf piece) ≡ take upto (drop at (image_of fs.database)))
range_read_to before after at done place upto part m k buf piece stays here end within long same front read =
    let Behind : ℕ → Type 0 = λ n. IfSome after (λ fs. take n (put_mid done k buf piece) ≡ take n (drop at (image_of fs.database))) in
    let Read : ℕ → Type 0 = λ n. IfSome before (λ fs. piece ≡ take m (drop n (image_of fs.database))) in
    subst Behind (sym end) (range_read before after at done part m k buf piece stays within long same front (subst Read here read))

-- what was read over zero bytes is a page of the image
page_byte : (image bytes zeros : List ℕ) (at n k : ℕ) → ((j : ℕ) → j < 1024 → get_or zeros j 0 ≡ 0) → length zeros ≡ 1024
    → at < length image → n ≡ min (length image - at) 1024 → bytes ≡ take n (drop at image) → k < 1024
    → get_or (bytes ++ drop n zeros) k 0 ≡ get_or image (at + k) 0
page_byte image bytes zeros at n k zero long within is read below = grind (arith, common_steps)

page_length : (image bytes zeros : List ℕ) (at n : ℕ) → length zeros ≡ 1024 → at < length image → n ≡ min (length image - at) 1024
    → bytes ≡ take n (drop at image) → length (bytes ++ drop n zeros) ≡ 1024
page_length image bytes zeros at n long within is read = grind (arith, common_steps)

pub page_read : (files : Option Files) (len page n m : ℕ) (bytes : List ℕ) → page * 1024 < len → n ≡ min (len - page * 1024) 1024 → m ≡ n
    → IfSome files (λ fs. len ≡ length (image_of fs.database))
    → IfSome files (λ fs. bytes ≡ take m (drop (page * 1024) (image_of fs.database)))
    → IfSome files (λ fs. IsPageOf (image_of fs.database) page (bytes ++ drop n (replicate 1024 0)))
page_read None len page n m bytes within is same told read = tt
page_read (Some fs) len page n m bytes within is same told read =
    let zeros : List ℕ = replicate 1024 0 in
    let image : List ℕ = image_of fs.database in
    let part : n ≡ min (length image - page * 1024) 1024 = is ∙ ap (λ (l : ℕ). min (l - page * 1024) 1024) told in
    let front : bytes ≡ take n (drop (page * 1024) image) = read ∙ ap (λ (i : ℕ). take i (drop (page * 1024) image)) same in
    let inside : page * 1024 < length image = subst (λ l. page * 1024 < l) told within in
    record {
      len = page_length image bytes zeros (page * 1024) n (length-replicate {A = ℕ} 1024 0) inside part front;
      same =
          λ k below. page_byte image bytes zeros (page * 1024) n k (λ j h. get_or-replicate 1024 j 0 0 h)
          (length-replicate {A = ℕ} 1024 0) inside part front below;
    }
